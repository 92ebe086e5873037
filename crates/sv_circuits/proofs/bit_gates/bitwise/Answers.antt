use Rattle.std.proofs.Common.{◌≡◌, ◌∙◌, rules}
use Rattle.std.specs.Slice.Iter.{iter_rest}
use Rattle.std.specs.Iterator.Adapters.{zip_first, zip_second}
use Rattle.std.specs.Result.{IsErrOf}
use Rattle.sv_gates.specs.declared.gates.GateFault.TheVariants.{Full}
use Rattle.sv_circuits.specs.BitGates.{gate_of}
use Rattle.sv_circuits.proofs.WordKeeps.{word_first, zip_ends}
use Rattle.sv_circuits.proofs.LoopSteps.{loop_start, bits_whole, both_more, pushed, left_full, gate_one, bits_step}
use Rattle.sv_circuits.proofs.LoopSteps.{bits_full, bits_end}
use Rattle.sv_circuits.proofs.bit_gates.bitwise.Goals as goal

pub bits-init : goal.bits-init
bits-init c =
    let first : iter_rest (zip_first c.into_iter-x-iterator.result) ≡ c.args.a.now = search rules in
    let second : iter_rest (zip_second c.into_iter-x-iterator.result) ≡ c.args.b.now = search rules in
    loop_start _ _ _ _ _ _ _ _ _ c.requires.a c.requires.b first second c.in_ok-word.ensures.items
    tt (bits_whole (gate_of c.args.gate) _ _ _ _ _ _ first second c.in_ok-word.ensures.items)

pub joined-requires-clause-a : goal.joined-requires-clause-a
joined-requires-clause-a c = word_first _ c.bits.invariant.first c.in-Some.ensures.steps.0

pub joined-requires-clause-b : goal.joined-requires-clause-b
joined-requires-clause-b c = word_first _ c.bits.invariant.second c.in-Some.ensures.steps.1

pub bits-preserved : goal.bits-preserved
bits-preserved c =
    rw c.in_ok-append.ensures (pushed _ _ _ _ _ _ _ _ _
    (both_more _ _ _ _ _ _ _ _ _ _ _ _ _ _ _ c.bits.invariant
    c.in-Some.ensures.steps.0 c.in-Some.ensures.steps.1
    (bits_step (gate_of c.args.gate) _ _ _ _ c.bits.word.items _ _ _ _ _
    c.in-Some.ensures.steps.0 c.in-Some.ensures.steps.1 c.in_ok-bit.ensures.made)
    c.in_ok-bit.ensures.begins tt) c.in_ok-bit.ensures.within)

pub returns-in_err-bit-clause-full : goal.returns-in_err-bit-clause-full
returns-in_err-bit-clause-full c =
    let same : IsErrOf c.from_residual-in_err-bit.result Full → IsErrOf c.joined.result Full =
    search rules in
    λ e. left_full c.bits.invariant
    (bits_full (gate_of c.args.gate) _ _ _ _ c.bits.word.items _ _ _ _ (gate_one c.args.gate)
    c.in-Some.ensures.steps.0 c.in-Some.ensures.steps.1 ((c.joined.ensures.full).0 (same e)))

pub returns-clause-made : goal.returns-clause-made
returns-clause-made c =
    c.bits.invariant.made
    ∙ bits_end (gate_of c.args.gate) _ _ _ _ (zip_ends _ _ c.in-None.ensures.steps)

pub returns-clause-within : goal.returns-clause-within
returns-clause-within c = c.bits.invariant.front
