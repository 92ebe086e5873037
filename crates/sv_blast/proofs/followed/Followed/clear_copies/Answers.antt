use Rattle.std.proofs.Common.{◌≡◌, ◌+◌, length, replicate, take, sym, ap, ap₂, subst, ◌∙◌, arith}
use Rattle.std.proofs.Common.{rules, ℤ}
use Rattle.std.proofs.lemmas.Bool.{false≢true}
use Rattle.std.proofs.lemmas.List.{length-replicate, take_all}
use Rattle.sv_flat.specs.Values.{signal_width}
use Rattle.sv_flat.proofs.LeastSets.{those_below, those_pass}
use Rattle.sv_graph.specs.Marks.{is_marked}
use Rattle.sv_gates.specs.Gates.{false_literal}
use Rattle.sv_encoding.specs.Bodies.{with_word}
use Rattle.sv_blast.specs.FollowedWords.{forms_in, follows_in}
use Rattle.sv_blast.specs.WordTables.{words_of}
use Rattle.sv_blast.proofs.FollowedLoops.{ClearAt, clear_more, clear_same}
use Rattle.sv_blast.proofs.SignalTurns.{width_here}
use Rattle.sv_blast.proofs.followed.Followed.clear_copies.Goals as goal
use Rattle.sv_blast.proofs.followed.Followed.clear_copies.Goals.{else-has_mark}
use Rattle.sv_blast.proofs.followed.Followed.clear_copies.Goals.{then-has_mark+in_ok-word+in_ok-put}

pub returns-clause-copies : goal.returns-clause-copies
returns-clause-copies c = λ s at.
    let self = c.args.self.now in
    let size = c.requires.held.size in
    let end = c.loop-number-test.false in
    let low = those_below (length self.follows.now) (is_marked self.follows.now) s at in
    c.loop-number.invariant.copies s (omega (arith, size, end, low)) at

pub loop-number-preserved : goal.loop-number-preserved
loop-number-preserved c =
    let self = c.args.self.now in
    let forms = forms_in self in
    let follows = follows_in self in
    let old = words_of c.args.words.now in
    let n = c.loop-number.number in
    let now = words_of c.loop-number.words in
    elim c.if-has_mark.branch [
      | then-has_mark+in_ok-word+in_ok-put w ↦
          let width = signal_width forms n in
          let wide : w.from-width.result ≡ width = search (rules, width_here) in
          let word_is : w.in_ok-word.word.items ≡ replicate width false_literal =
          w.in_ok-word.ensures
          ∙ ap₂ (λ (l : ℤ) k. take k (replicate k l)) w.falsity.ensures.value wide
          ∙ take_all width (replicate width false_literal)
          (omega (arith, length-replicate width false_literal)) in
          subst (λ ws. ClearAt forms follows old (n + 1) (words_of ws)) (sym w.words-is)
          (clear_more forms follows old n now _ w.in_ok-word.word.items c.loop-number.invariant
          word_is
          (w.in_ok-put.ensures
          ∙ ap (λ k. with_word k w.in_ok-word.word.items now) w.copy_of.ensures))
      | else-has_mark w ↦
          subst (λ ws. ClearAt forms follows old (n + 1) (words_of ws)) (sym w.words-is)
          (clear_same forms follows old n now c.loop-number.invariant (λ inside.
          false≢true (sym (sym c.has_mark.ensures ∙ w.if-has_mark.false)
          ∙ those_pass (length self.follows.now) (is_marked self.follows.now) n inside)))
    ]
