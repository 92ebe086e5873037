use Rattle.std.proofs.Common.{◌++◌, false, map, reverse, sym, ap, ◌∙◌, arith, append-nil}
use Rattle.std.proofs.lemmas.List.{nil_from_length}
use Rattle.std.specs.Prelude.{option_to_list}
use Rattle.sv_flat.specs.ByNumber.{signal_forms}
use Rattle.sv_flat.specs.Design.{TypedTree}
use Rattle.sv_paths.specs.AlongViews.{condition_form}
use Rattle.sv_obl.specs.Paths.{StepForm, step_with}
use Rattle.sv_obl.specs.Views.{step_form}
use Rattle.sv_obl.specs.Wanted.{closed_tree}
use Rattle.sv_paths.proofs.AlongFacts.{closed_next}
use Rattle.sv_paths.proofs.trail_queries.closed.Goals as goal

pub loop-condition-preserved : goal.loop-condition-preserved
loop-condition-preserved c =
    let close = step_with (closed_tree (signal_forms c.args.signals.now) false) in
    let step = c.in-Some.condition.step in
    let form : TypedTree → StepForm = λ e.
    record { place = step.place; condition = e; truth = step.truth } in
    let left = c.pop.new.self.items in
    closed_next close c.loop-condition.closed.items c.push.new.self.items
    c.loop-condition.rest.items left
    (reverse (map close (map condition_form c.args.conditions.items))) _ c.in-Some.condition
    c.in_ok-push.ensures.items
    (c.pop.ensures.items ∙ ap (λ o. left ++ option_to_list o) c.in-Some.is)
    (ap form c.in_ok-with_put.ensures) c.loop-condition.invariant

pub returns : goal.returns
returns c =
    let close = step_with (closed_tree (signal_forms c.args.signals.now) false) in
    let done = map step_form c.loop-condition.closed.items in
    sym (append-nil done)
    ∙ ap (λ cs. done ++ reverse (map close (map condition_form cs)))
    (sym (nil_from_length c.loop-condition.rest.items
    (omega (arith, c.in_default.ensures.cases.0, c.loop-condition.rest.ok.0))))
    ∙ c.loop-condition.invariant
