use Rattle.std.proofs.Common.{refl}
use Rattle.sv_graph.proofs.MarkFacts.{one_marked}
use Rattle.sv_graph.proofs.marks.mark.Goals as goal

pub returns : goal.returns
returns c = one_marked _ _ c.args.signal.0 c.requires refl
