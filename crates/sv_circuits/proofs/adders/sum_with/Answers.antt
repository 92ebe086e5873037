use Rattle.std.proofs.Common.{rules}
use Rattle.std.specs.Result.{IsErrOf}
use Rattle.sv_gates.specs.declared.gates.GateFault.TheVariants.{Full}
use Rattle.sv_circuits.specs.Operators.{sum_word}
use Rattle.sv_circuits.proofs.WordKeeps.{word_first, zip_ends}
use Rattle.sv_circuits.proofs.SumSteps.{sum_start, sum_more, sum_full, sum_end}
use Rattle.sv_circuits.proofs.adders.sum_with.Goals as goal

pub sum-init : goal.sum-init
sum-init c =
    (sum_start c.args.a.now c.args.b.now _ _ _ c.args.carry c.args.gates.now
    (search rules) (search rules) c.in_ok-word.ensures.items
    c.requires.a c.requires.b c.requires.carry)

pub full_adder-requires-clause-a : goal.full_adder-requires-clause-a
full_adder-requires-clause-a c = word_first _ c.sum.invariant.first c.in-Some.ensures.steps.0

pub full_adder-requires-clause-b : goal.full_adder-requires-clause-b
full_adder-requires-clause-b c = word_first _ c.sum.invariant.second c.in-Some.ensures.steps.1

pub full_adder-requires-clause-carry : goal.full_adder-requires-clause-carry
full_adder-requires-clause-carry c = c.sum.invariant.next

pub sum-preserved : goal.sum-preserved
sum-preserved c =
    rw c.in_ok-append.ensures
    (sum_more _ _ _ _ _ _ _ _ _ _ _ _ _ c.sum.invariant
    c.in-Some.ensures.steps.0 c.in-Some.ensures.steps.1 c.in_ok-bit.ensures.made c.in_ok-bit.ensures.begins
    c.in_ok-bit.ensures.sum c.in_ok-bit.ensures.next)

pub returns-in_err-bit-clause-full : goal.returns-in_err-bit-clause-full
returns-in_err-bit-clause-full c =
    let whole = sum_word c.args.a.now c.args.b.now c.args.carry c.args.gates.now in
    let same : IsErrOf c.from_residual-in_err-bit.result Full → IsErrOf c.full_adder.result Full =
    search rules in
    λ e. sum_full _ _ _ _ _ _ _ _ c.in-Some.x.now c.in-Some.y.now _ _ c.sum.invariant
    c.in-Some.ensures.steps.0 c.in-Some.ensures.steps.1 (c.full_adder.ensures.full (same e))

pub returns-clause-made : goal.returns-clause-made
returns-clause-made c =
    sum_end _ _ _ _ _ _ _ c.sum.invariant (zip_ends _ _ c.in-None.ensures.steps)

pub returns-clause-within : goal.returns-clause-within
returns-clause-within c = c.sum.invariant.done
