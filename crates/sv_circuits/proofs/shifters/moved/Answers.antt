use Rattle.std.proofs.Common.{◌≡◌, ap, ◌∙◌, ◌++◌, take, drop, length, ◌-◌, min, rules, arith}
use Rattle.std.proofs.Common.{length-drop}
use Rattle.std.specs.Prelude.{replicate}
use Rattle.std.proofs.lemmas.List.{take_all}
use Rattle.sv_circuits.proofs.ShiftSteps.{take_behind, drop_least}
use Rattle.sv_circuits.proofs.shifters.moved.Goals as goal

pub returns-in_ok-append_word-in-Up : goal.returns-in_ok-append_word-in-Up
returns-in_ok-append_word-in-Up c =
    let least : c.min-by.result ≡ min c.args.by (length c.args.word.now) = search rules in
    rw c.in-Up.is (c.in_ok-append_word-in-Up.ensures
    ∙ ap (λ z. z ++ take (length c.args.word.now - c.min-by.result) c.args.word.now)
    (c.in_ok-append_same-in-Up.ensures
    ∙ ap (λ z. z ++ replicate c.min-by.result c.args.fill) c.in_ok-made-in-Up.ensures.items)
    ∙ take_behind (length c.args.word.now) c.min-by.result c.args.fill c.args.word.now
    (omega arith)
    ∙ ap (λ z. take (length c.args.word.now) (replicate z c.args.fill ++ c.args.word.now)) least)

pub returns-in_ok-append_same-in-Down : goal.returns-in_ok-append_same-in-Down
returns-in_ok-append_same-in-Down c =
    let least : c.min-by.result ≡ min c.args.by (length c.args.word.now) = search rules in
    rw c.in-Down.is (c.in_ok-append_same-in-Down.ensures
    ∙ ap (λ z. z ++ replicate c.min-by.result c.args.fill) (c.in_ok-made-in-Down.ensures
    ∙ take_all (length c.args.word.now - c.min-by.result) (drop c.min-by.result c.args.word.now)
    (omega (arith, length-drop c.min-by.result c.args.word.now)))
    ∙ ap (λ z. drop z c.args.word.now ++ replicate z c.args.fill) least
    ∙ ap (λ z. z ++ replicate (min c.args.by (length c.args.word.now)) c.args.fill)
    (drop_least c.args.by c.args.word.now))
