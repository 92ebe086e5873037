use Rattle.std.proofs.Common.{◌≡◌, ◌-◌, length, drop, map, map-id, reverse, ap, ◌∙◌, arith}
use Rattle.sv_paths.specs.declared.list_lines.StepMark.{StepMark}
use Rattle.sv_paths.specs.Written.{mark_word}
use Rattle.sv_paths.proofs.RouteFacts.{made_reversed}
use Rattle.sv_paths.proofs.trail_lines.marks_on.Goals as goal

pub returns : goal.returns
returns c =
    let marks = c.args.marks.now in
    let none_left : length marks - c.loop-i.i ≡ 0 = omega (arith, c.loop-i-test.false) in
    c.loop-i.invariant
    ∙ ap (λ n. reverse (map mark_word (drop n marks))) none_left
    ∙ made_reversed mark_word (λ (m : StepMark). m) marks
    ∙ ap (λ ms. map mark_word (reverse ms)) (map-id marks)
