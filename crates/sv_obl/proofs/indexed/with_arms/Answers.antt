use Rattle.std.proofs.Common.{◌++◌, ap, ◌∙◌, arith}
use Rattle.std.proofs.lemmas.List.{nil_from_length}
use Rattle.std.specs.Prelude.{option_to_list}
use Rattle.sv_obl.proofs.IndexedArmFacts.{back_begin, back_more, back_end}
use Rattle.sv_obl.proofs.indexed.with_arms.Goals as goal

pub loop-arm-init : goal.loop-arm-init
loop-arm-init c = λ rest whole are made.
    back_begin c.args.arms.items rest whole c.args.last are made

pub loop-arm-preserved : goal.loop-arm-preserved
loop-arm-preserved c = λ rest whole are made.
    let left = c.pop.new.self.items in
    back_more c.loop-arm.arms.items left c.in-Some.arm whole c.loop-arm.rest c.in_ok-rest.rest
    (c.pop.ensures.items ∙ ap (λ o. left ++ option_to_list o) c.in-Some.is) c.in_ok-rest.ensures
    (c.loop-arm.invariant rest whole are made)

pub returns : goal.returns
returns c = λ rest whole are made.
    back_end c.loop-arm.arms.items whole c.loop-arm.rest
    (nil_from_length c.loop-arm.arms.items
    (omega (arith, c.in_default.ensures.cases.0, c.loop-arm.arms.ok.0)))
    (c.loop-arm.invariant rest whole are made)
