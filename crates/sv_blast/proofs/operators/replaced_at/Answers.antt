use Rattle.std.proofs.Common.{◌≤◌, ◌∙◌, arith, sym, subst}
use Rattle.sv_circuits.specs.Circuits.{IsWord}
use Rattle.sv_circuits.proofs.PartValues.{replaced_is}
use Rattle.sv_blast.proofs.operators.replaced_at.Goals as goal

pub extended_at-requires : goal.extended_at-requires
extended_at-requires c =
    let some : 1 ≤ c.args.gates.now.variables = omega (arith, c.falsity-some.ensures.within) in
    subst (IsWord c.args.gates.now.variables)
    (sym (c.deref.ensures.value ∙ c.in_ok-whole.ensures))
    (replaced_is c.args.gates.now.variables c.from-high.result c.from-low.result c.args.word.now
    c.args.patch.now.piece.now some c.requires.word c.requires.piece)
