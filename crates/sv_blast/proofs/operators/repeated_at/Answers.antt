use Rattle.std.proofs.Common.{◌∙◌, sym, subst}
use Rattle.sv_circuits.specs.Circuits.{IsWord}
use Rattle.sv_circuits.proofs.PartValues.{repeated_is}
use Rattle.sv_blast.proofs.operators.repeated_at.Goals as goal

pub filled_at-requires : goal.filled_at-requires
filled_at-requires c =
    subst (IsWord c.args.gates.now.variables)
    (sym (c.deref.ensures.value ∙ c.in_ok-copies.ensures))
    (repeated_is c.args.gates.now.variables c.args.count c.args.word.now c.requires)
