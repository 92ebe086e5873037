use Rattle.sv_graph.proofs.EntryFacts.{bit_lacking, lacks_bit}
use Rattle.sv_graph.proofs.bit_sets.lacks.Goals as goal

pub returns : goal.returns
returns c = (
  bit_lacking c.args.first c.args.second c.ranges.first.fits,
  lacks_bit c.args.first c.args.second c.ranges.first.fits,
)
