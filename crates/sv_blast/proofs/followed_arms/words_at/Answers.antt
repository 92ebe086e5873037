use Rattle.std.proofs.Common.{◌+◌, get_or, drop, refl, ◌∙◌}
use Rattle.sv_design.specs.Numbers.{numbers}
use Rattle.sv_blast.specs.declared.followed_arms.CopyWord.{CopyWord}
use Rattle.sv_blast.specs.WordTables.{words_of}
use Rattle.sv_blast.proofs.FollowedLoops.{found_more, found_all}
use Rattle.sv_blast.proofs.SignalTurns.{none, numbers_turn, numbers_end}
use Rattle.sv_blast.proofs.followed_arms.words_at.Goals as goal

pub loop-copy-preserved : goal.loop-copy-preserved
loop-copy-preserved c =
    let copies = c.args.copies.now in
    let i = c.loop-copy.copy-index in
    let copy = get_or copies i none in
    let found : CopyWord = record { copy = copy; word = c.in_ok-word.word } in
    found_more (words_of c.args.words.now) (numbers copies) _ (numbers (drop (i + 1) copies)) copy.0
    c.loop-copy.found.items _ found c.loop-copy.invariant
    (numbers_turn copies i c.loop-copy-test.true) c.in_ok-push.ensures.items refl
    (c.in_ok-word.ensures ∙ c.word.ensures)

pub returns : goal.returns
returns c =
    let copies = c.args.copies.now in
    found_all (words_of c.args.words.now) (numbers copies) _ c.loop-copy.found.items
    c.loop-copy.invariant (numbers_end copies c.loop-copy.copy-index c.loop-copy-test.false)
