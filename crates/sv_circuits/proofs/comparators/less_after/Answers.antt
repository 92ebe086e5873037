use Rattle.std.proofs.Common.{◌≡◌, ap, ◌∙◌, rules, ℤ, arith, refl}
use Rattle.std.specs.Slice.Iter.{iter_rest}
use Rattle.std.specs.Iterator.Adapters.{zip_first, zip_second}
use Rattle.std.specs.Result.{IsErrOf}
use Rattle.sv_gates.specs.Formulas.{Formula}
use Rattle.sv_gates.specs.declared.gates.GateFault.TheVariants.{Full}
use Rattle.sv_gates.proofs.ExtendingLaws.{begins_trans}
use Rattle.sv_circuits.proofs.WordKeeps.{literal_up, word_first, zip_ends}
use Rattle.sv_circuits.proofs.LoopSteps.{loop_start, both_more, left_full, less_whole, less_step}
use Rattle.sv_circuits.proofs.LoopSteps.{less_full, less_end}
use Rattle.sv_circuits.proofs.comparators.less_after.Goals as goal

pub bits-init : goal.bits-init
bits-init c =
    let first : iter_rest (zip_first c.into_iter-x-iterator.result) ≡ c.args.a.now = search rules in
    let second : iter_rest (zip_second c.into_iter-x-iterator.result) ≡ c.args.b.now = search rules in
    (loop_start _ _ _ _ _ _ _ _ _ c.requires.a c.requires.b first second refl
    (c.requires.below, tt) (less_whole _ _ _ _ c.args.below _ first second))

pub xor_gate-requires-clause-a : goal.xor_gate-requires-clause-a
xor_gate-requires-clause-a c = word_first _ c.bits.invariant.first c.in-Some.ensures.steps.0

pub xor_gate-requires-clause-b : goal.xor_gate-requires-clause-b
xor_gate-requires-clause-b c = word_first _ c.bits.invariant.second c.in-Some.ensures.steps.1

pub mux_gate-requires-clause-c : goal.mux_gate-requires-clause-c
mux_gate-requires-clause-c c =
    c.in_ok-differ.ensures.within

pub mux_gate-requires-clause-a : goal.mux_gate-requires-clause-a
mux_gate-requires-clause-a c =
    (literal_up _ _ c.in-Some.y.now c.in_ok-differ.ensures.begins.grows
    (word_first _ c.bits.invariant.second c.in-Some.ensures.steps.1))

pub mux_gate-requires-clause-b : goal.mux_gate-requires-clause-b
mux_gate-requires-clause-b c =
    literal_up _ _ c.bits.less c.in_ok-differ.ensures.begins.grows c.bits.invariant.hand.0

pub bits-preserved : goal.bits-preserved
bits-preserved c =
    (both_more _ _ _ _ _ _ _ _ _ _ _ _ _ _ _ c.bits.invariant
    c.in-Some.ensures.steps.0 c.in-Some.ensures.steps.1
    (less_step _ _ _ _ _ _ _ _ _ _ _ _ c.in-Some.ensures.steps.0 c.in-Some.ensures.steps.1
    c.in_ok-differ.ensures.made c.in_ok-less.ensures.made)
    (begins_trans _ _ _ c.in_ok-differ.ensures.begins c.in_ok-less.ensures.begins)
    (c.in_ok-less.ensures.within, tt))

pub returns-in_err-differ-clause-full : goal.returns-in_err-differ-clause-full
returns-in_err-differ-clause-full c =
    let same : IsErrOf c.from_residual.result Full → IsErrOf c.xor_gate.result Full =
    search rules in
    λ e. left_full c.bits.invariant
    (less_full _ _ _ _ _ c.in-Some.x.now c.in-Some.y.now _ _
    c.in-Some.ensures.steps.0 c.in-Some.ensures.steps.1
    (omega (arith, (c.xor_gate.ensures.full).0 (same e))))

pub returns-in_err-less-clause-full : goal.returns-in_err-less-clause-full
returns-in_err-less-clause-full c =
    let same : IsErrOf c.from_residual-in_err-less.result Full → IsErrOf c.mux_gate.result Full =
    search rules in
    λ e. left_full c.bits.invariant
    (less_full _ _ _ _ _ c.in-Some.x.now c.in-Some.y.now _ _
    c.in-Some.ensures.steps.0 c.in-Some.ensures.steps.1
    (omega (arith, (c.mux_gate.ensures.full).0 (same e), ap (λ (z : Formula × ℤ). (z.0).variables) c.in_ok-differ.ensures.made)))

pub returns-clause-made : goal.returns-clause-made
returns-clause-made c =
    c.bits.invariant.made ∙ less_end _ _ _ _ (zip_ends _ _ c.in-None.ensures.steps)

pub returns-clause-within : goal.returns-clause-within
returns-clause-within c = c.bits.invariant.hand.0
