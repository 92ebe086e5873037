use Rattle.std.proofs.Common.{◌≤◌, arith, sym, subst}
use Rattle.std.proofs.lemmas.Result.{IfOk-weaker}
use Rattle.sv_circuits.specs.Circuits.{IsWord}
use Rattle.sv_circuits.proofs.WordValues.{extended_is}
use Rattle.sv_blast.proofs.operators.extended_at.Goals as goal

pub returns-clause-within : goal.returns-clause-within
returns-clause-within c =
    let some : 1 ≤ c.args.gates.now.variables = omega (arith, c.falsity-some.ensures.within) in
    IfOk-weaker c.extended.result _ _
    (λ word e. subst (IsWord c.args.gates.now.variables) (sym e)
    (extended_is c.args.gates.now.variables c.args.signed c.from.result c.args.word.now some
    c.requires)) c.extended.ensures
