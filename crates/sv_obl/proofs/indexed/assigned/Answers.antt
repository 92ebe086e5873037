use Rattle.std.proofs.Common.{refl}
use Rattle.sv_flat.specs.Views.{typed_tree}
use Rattle.sv_obl.specs.declared.indexed.Indexed as indexed
use Rattle.sv_obl.specs.Views.{piece_forms}
use Rattle.sv_obl.proofs.IndexedFacts.{assign_indexed}
use Rattle.sv_obl.proofs.indexed.assigned.Goals as goal

pub returns : goal.returns
returns c =
    assign_indexed (piece_forms c.args.pieces.now) c.args.place c.args.blocking
    (typed_tree c.args.value.now)
    (indexed.Assign c.args.pieces c.args.place c.args.blocking c.args.value) refl tt
