use Rattle.std.proofs.Common.{◌≤◌, ◌∙◌, arith, sym, subst}
use Rattle.sv_circuits.specs.Circuits.{IsWord}
use Rattle.sv_circuits.proofs.PartValues.{part_is}
use Rattle.sv_blast.proofs.operators.part_at.Goals as goal

pub filled_at-requires : goal.filled_at-requires
filled_at-requires c =
    let some : 1 ≤ c.args.gates.now.variables = omega (arith, c.falsity-some.ensures.within) in
    subst (IsWord c.args.gates.now.variables)
    (sym (c.deref.ensures.value ∙ c.in_ok-bits.ensures))
    (part_is c.args.gates.now.variables c.from.result c.from-2.result c.args.word.now some
    c.requires.word)
