use Rattle.std.proofs.Common.{◌++◌, ap, subst, ◌∙◌, arith}
use Rattle.std.proofs.lemmas.List.{nil_from_length}
use Rattle.std.specs.Prelude.{option_to_list}
use Rattle.sv_flat.specs.ByNumber.{signal_forms}
use Rattle.sv_rules.specs.Surroundings.{in_surrounding}
use Rattle.sv_obl.specs.MarkedArms.{AreConditions}
use Rattle.sv_obl.proofs.LaterFacts.{set_inside}
use Rattle.sv_obl.proofs.MarkedArmFacts.{conditions_before, back_begin, back_more, back_end}
use Rattle.sv_obl.proofs.marked.marked_arms.Goals as goal

pub marked_expr-requires-clause-formed : goal.marked_expr-requires-clause-formed
marked_expr-requires-clause-formed c =
    let signals = signal_forms c.args.signals.now in
    let left = c.pop.new.self.items in
    let split = c.pop.ensures.items ∙ ap (λ o. left ++ option_to_list o) c.in-Some.is in
    (conditions_before signals (in_surrounding c.args.later.now) left c.in-Some.arm
    (subst (AreConditions signals) split c.loop-arm.invariant.0)).1

pub loop-arm-init : goal.loop-arm-init
loop-arm-init c = (
  c.requires.conds,
  λ rest whole are known.
      back_begin (signal_forms c.args.signals.now) (in_surrounding c.args.later.now) _ rest whole _
      _ are known,
)

pub loop-arm-preserved : goal.loop-arm-preserved
loop-arm-preserved c =
    let signals = signal_forms c.args.signals.now in
    let later = in_surrounding c.args.later.now in
    let left = c.pop.new.self.items in
    let arm = c.in-Some.arm in
    let split = c.pop.ensures.items ∙ ap (λ o. left ++ option_to_list o) c.in-Some.is in (
      (conditions_before signals later left arm
          (subst (AreConditions signals) split c.loop-arm.invariant.0)).0,
      λ rest whole are known.
          back_more signals later c.loop-arm.arms.items left arm whole _ c.loop-arm.rest
          c.in_ok-rest.rest c.loop-arm.bits c.add_all.new.self _ split c.in_ok-add_all.ensures
          (λ set same. set_inside _ _ set same) c.in_ok-cond.ensures c.in_ok-rest.ensures
          (c.loop-arm.invariant.1 rest whole are known),
    )

pub returns : goal.returns
returns c = λ rest whole are known.
    back_end (signal_forms c.args.signals.now) (in_surrounding c.args.later.now)
    c.loop-arm.arms.items whole c.loop-arm.rest c.loop-arm.bits
    (nil_from_length c.loop-arm.arms.items
    (omega (arith, c.in_default.ensures.cases.0, c.loop-arm.arms.ok.0)))
    (c.loop-arm.invariant.1 rest whole are known)
