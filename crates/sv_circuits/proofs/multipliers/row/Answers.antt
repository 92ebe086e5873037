use Rattle.std.proofs.Common.{◌≡◌, ap, ◌∙◌, sym, subst, rules, length, ◌∷◌, [], ◌++◌, take, ◌-◌}
use Rattle.std.specs.Prelude.{replicate}
use Rattle.std.specs.Result.{IsErrOf}
use Rattle.std.proofs.lemmas.List.{drop_all}
use Rattle.sv_gates.specs.declared.gates.GateFault.TheVariants.{Full}
use Rattle.sv_gates.proofs.ExtendingLaws.{begins_none}
use Rattle.sv_circuits.specs.Circuits.{IsWord}
use Rattle.sv_circuits.proofs.WordKeeps.{turn_of}
use Rattle.sv_circuits.proofs.WordKeeps.{onto, word_first, word_take, word_same, word_up}
use Rattle.sv_circuits.proofs.LoopSteps.{one_more, pushed, left_full}
use Rattle.sv_circuits.proofs.ProductSteps.{masked, masked_step, masked_full, masked_end}
use Rattle.sv_circuits.proofs.multipliers.row.Goals as goal

pub bits-init : goal.bits-init
bits-init c =
    let low : c.saturating_sub.result ≡ length c.args.a.now - c.args.i = search rules in
    let items = c.in_ok-append_same.ensures ∙ ap (λ z. z ++ replicate c.args.i c.falsity-none.result)
    c.in_ok-word.ensures.items in
    (record {
      made = ap (λ z. onto (replicate c.args.i z) (masked c.args.b
          (take (length c.args.a.now - c.args.i) c.args.a.now) c.args.gates.now))
          (sym c.falsity-none.ensures.value)
          ∙ ap (λ z. onto z (masked c.args.b
          (take (length c.args.a.now - c.args.i) c.args.a.now) c.args.gates.now)) (sym items)
          ∙ ap (λ z. onto c.append_same.new.word.items (masked c.args.b
          (take z c.args.a.now) c.args.gates.now)) (sym low);
      first = word_take c.args.gates.now.variables c.saturating_sub.result c.args.a.now c.requires.a;
      second = tt;
      front = subst (IsWord c.args.gates.now.variables) (sym items)
          (word_same c.args.gates.now.variables c.args.i c.falsity-none.result c.falsity-none.ensures.within);
      hand = (c.requires.b, tt);
      begins = begins_none c.args.gates.now;
    })

pub and_gate-requires-clause-a : goal.and_gate-requires-clause-a
and_gate-requires-clause-a c =
    (word_first _ c.bits.invariant.first
    (turn_of (take c.saturating_sub.result c.args.a.now) _ _ c.bits-test.true c.x-item.is))

pub and_gate-requires-clause-b : goal.and_gate-requires-clause-b
and_gate-requires-clause-b c = c.bits.invariant.hand.0

pub bits-preserved : goal.bits-preserved
bits-preserved c =
    let low = take c.saturating_sub.result c.args.a.now in
    let turn = turn_of low _ _ c.bits-test.true c.x-item.is in
    rw c.in_ok-append.ensures (pushed _ _ _ _ _ _ _ _ _
    (one_more _ _ _ _ _ _ _ _ _ _ _ _ _ c.bits.invariant turn
    (masked_step c.args.b _ _ c.bits.word.items _ _ _ _ turn c.in_ok-bit.ensures.made)
    c.in_ok-bit.ensures.begins (word_up _ _ (c.args.b ∷ []) c.in_ok-bit.ensures.begins.grows c.bits.invariant.hand))
    c.in_ok-bit.ensures.within)

pub returns-in_err-bit-clause-full : goal.returns-in_err-bit-clause-full
returns-in_err-bit-clause-full c =
    let same : IsErrOf c.from_residual-in_err-bit.result Full → IsErrOf c.and_gate.result Full =
    search rules in
    let low = take c.saturating_sub.result c.args.a.now in
    let turn = turn_of low _ _ c.bits-test.true c.x-item.is in
    λ e. left_full c.bits.invariant
    (masked_full c.args.b _ _ c.bits.word.items _ _ _ turn ((c.and_gate.ensures.full).0 (same e)))

pub returns-clause-made : goal.returns-clause-made
returns-clause-made c =
    c.bits.invariant.made ∙ masked_end c.args.b _ _ _
    (drop_all c.bits.x-index (take c.saturating_sub.result c.args.a.now) c.bits-test.false)

pub returns-clause-within : goal.returns-clause-within
returns-clause-within c = c.bits.invariant.front
