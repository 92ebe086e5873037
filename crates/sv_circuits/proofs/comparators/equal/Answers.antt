use Rattle.std.proofs.Common.{rules}
use Rattle.std.specs.Result.{IsErrOf}
use Rattle.sv_gates.specs.declared.gates.GateFault.TheVariants.{Full}
use Rattle.sv_circuits.proofs.WordKeeps.{word_rest, word_up}
use Rattle.sv_circuits.proofs.TestSteps.{equal_full}
use Rattle.sv_circuits.proofs.comparators.equal.Goals as goal

pub returns-in_err-first-clause-full : goal.returns-in_err-first-clause-full
returns-in_err-first-clause-full c =
    let same : IsErrOf c.from_residual.result Full → IsErrOf c.same.result Full = search rules in
    λ e. equal_full _ _ _ _ _ _ _ _ c.in-Some.ensures.cases.0 c.in-Some-split_first.ensures.cases.0
    ((c.same.ensures.full).0 (same e))

pub equal_after-requires-clause-a : goal.equal_after-requires-clause-a
equal_after-requires-clause-a c =
    word_up _ _ c.in-Some.more.now c.in_ok-first.ensures.begins.grows
    (word_rest _ c.requires.a c.in-Some.ensures.cases.0)

pub equal_after-requires-clause-b : goal.equal_after-requires-clause-b
equal_after-requires-clause-b c =
    word_up _ _ c.in-Some-split_first.rest.now c.in_ok-first.ensures.begins.grows
    (word_rest _ c.requires.b c.in-Some-split_first.ensures.cases.0)
