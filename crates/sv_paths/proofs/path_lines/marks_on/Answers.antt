use Rattle.std.proofs.Common.{◌≡◌, ◌-◌, length, drop, map, reverse, refl, ap, ◌∙◌, arith}
use Rattle.sv_paths.specs.declared.routes.StepRef.{StepRef}
use Rattle.sv_paths.specs.ListLines.{step_word}
use Rattle.sv_paths.specs.RouteViews.{step_ref_form}
use Rattle.sv_paths.specs.Written.{mark_word}
use Rattle.sv_paths.proofs.RouteFacts.{next_reversed, made_reversed}
use Rattle.sv_paths.proofs.path_lines.marks_on.Goals as goal

pub loop-i-preserved : goal.loop-i-preserved
loop-i-preserved c =
    next_reversed (λ (r : StepRef). step_word (step_ref_form r)) mark_word c.args.refs.now c.loop-i.i
    c.index-refs-refs.result _ c.loop-i.marks.items c.push.new.self.items c.loop-i-test.true
    c.index-refs-refs.is c.in_ok-push.ensures.items refl c.loop-i.invariant

pub returns : goal.returns
returns c =
    let refs = c.args.refs.now in
    let none_left : length refs - c.loop-i.i ≡ 0 = omega (arith, c.loop-i-test.false) in
    c.loop-i.invariant
    ∙ ap (λ n. reverse (map (λ (r : StepRef). step_word (step_ref_form r)) (drop n refs))) none_left
    ∙ made_reversed step_word step_ref_form refs
