use Rattle.std.proofs.Common.{◌≡◌, drop}
use Rattle.sv_flat.specs.ByNumber.{signal_forms}
use Rattle.sv_flat.specs.Soundness.{parts_well_formed}
use Rattle.sv_flat.specs.Views.{typed_trees, parts_of}
use Rattle.sv_flat.proofs.typing.+expression_typing.Given as goal

-- the answer is that of the parts that are left
abbrev pub invariant-parts_well_formed-loop-part : goal.invariant-parts_well_formed-loop-part
invariant-parts_well_formed-loop-part l =
    parts_well_formed (signal_forms l.signals) (parts_of (typed_trees (drop l.part-index l.parts)))
    ≡ parts_well_formed (signal_forms l.signals) (parts_of (typed_trees l.parts))
