use Rattle.std.proofs.Common.{◌∙◌, rules, arith, refl}
use Rattle.std.specs.Result.{IsErrOf}
use Rattle.sv_gates.specs.declared.gates.GateFault.TheVariants.{Full}
use Rattle.sv_circuits.proofs.LoopSteps.{loop_start, pushed, left_full}
use Rattle.sv_circuits.proofs.FreshSteps.{fresh_start, fresh_step, fresh_full, fresh_end, turned}
use Rattle.sv_circuits.proofs.variables.fresh.Goals as goal

pub bits-init : goal.bits-init
bits-init c =
    loop_start _ _ _ _ _ _ _ _ _ tt tt refl refl c.in_ok-word.ensures.items tt
    (fresh_start c.args.width _ _ c.in_ok-word.ensures.items)

pub bits-preserved : goal.bits-preserved
bits-preserved c =
    rw c.in_ok-append.ensures (pushed _ _ _ _ _ _ _ _ _
    (turned _ _ _ _ _ _ _ c.bits.invariant
    (fresh_step c.args.width c.bits.counter _ _ _ _ (omega arith) c.in_ok-bit.ensures.made)
    c.in_ok-bit.ensures.begins)
    c.in_ok-bit.ensures.within)

pub returns-in_err-bit-clause-full : goal.returns-in_err-bit-clause-full
returns-in_err-bit-clause-full c =
    let same : IsErrOf c.from_residual-in_err-bit.result Full →
    IsErrOf c.fresh_literal.result Full = search rules in
    λ e. left_full c.bits.invariant
    (fresh_full c.args.width c.bits.counter c.bits.word.items _ _ (omega arith)
    ((c.fresh_literal.ensures.full).0 (same e)))

pub returns-clause-made : goal.returns-clause-made
returns-clause-made c =
    c.bits.invariant.made ∙ fresh_end c.args.width c.bits.counter _ _ (omega arith)

pub returns-clause-within : goal.returns-clause-within
returns-clause-within c = c.bits.invariant.front
