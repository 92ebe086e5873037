-- The words of all followed signals hang on the words of the names that are at hand alone.
use Rattle.std.proofs.Common.{◌≡◌, ℕ, ◌==◌, ℤ, Bool, true, false, cond, List, [], ◌∷◌, length}
use Rattle.std.proofs.Common.{fold, drop, filter, refl, ap, ap₂, subst}
use Rattle.std.specs.Prelude.{Contains}
use Rattle.std.proofs.lemmas.Bool.{eq-eqb}
use Rattle.sv_system.proofs.Lists.{Contains-head, Contains-later}
use Rattle.sv_flat.specs.Design.{SignalForm, TypedTree, PieceForm, FlatStatement, nothing, after}
use Rattle.sv_flat.specs.Design.{assign, branch}
use Rattle.sv_flat.specs.Assigned.{assigns}
use Rattle.sv_flat.specs.Readings.{ReadForm, reads}
use Rattle.sv_flat.specs.Sets.{holds}
use Rattle.sv_flat.proofs.LeastSets.{some_from, Contains-from_holds, Contains-from_filter}
use Rattle.sv_obl.specs.Wanted.{with_copies, copy_of}
use Rattle.sv_obl.proofs.TreeFacts.{well_held}
use Rattle.sv_gates.specs.Formulas.{Formula}
use Rattle.sv_gates.specs.Gates.{mux_gate}
use Rattle.sv_circuits.specs.Words.{Word, replaced_word, bitwise_word, not_zero_bit}
use Rattle.sv_encoding.specs.Expressions.{Words, expression_word, is_true_bit}
use Rattle.sv_encoding.specs.Bodies.{with_word, assigns_some, with_piece_word, chosen_words}
use Rattle.sv_encoding.specs.Bodies.{words_after}
use Rattle.sv_encoding_laws.proofs.NamedValues.{named_from_reads}
use Rattle.sv_blast.specs.FollowedWords.{IsFit, AreFit}
use Rattle.sv_blast.proofs.SettledWords.{named_word}

module _ (signals : List SignalForm) (followed : List ℕ) (IsAtHand : ℕ → Type 0)
    (copies : (s : ℕ) → Contains followed s → IsAtHand (copy_of signals s)) where
  abbrev both : List SignalForm
  both = with_copies signals

  -- the names that are at hand have the same words
  abbrev pub Agree : Words → Words → Type 0
  Agree ws vs = (t : ℕ) → IsAtHand t → ws t ≡ vs t

  abbrev pub IsSame : Formula × Words → Formula × Words → Type 0
  IsSame x y = (x.0 ≡ y.0) × Agree x.1 y.1

  same_expression : (e : TypedTree) → IsFit signals IsAtHand e → (ws vs : Words) → Agree ws vs →
      (f : Formula) → expression_word both ws e f ≡ expression_word both vs e f
  same_expression e fit ws vs agree f =
      named_word both both ws vs (length both) (λ k low. refl) e (well_held both e fit.0)
      (named_from_reads both (λ s. ws s ≡ vs s) e (λ r r_at. agree r.signal (fit.1 r.signal
      (some_from (λ (q : ReadForm). q.signal == r.signal) (reads both e) r r_at
      (eq-eqb r.signal r.signal refl))))) f

  same_truth : (e : TypedTree) → IsFit signals IsAtHand e → (ws vs : Words) → Agree ws vs →
      (f : Formula) → is_true_bit both ws e f ≡ is_true_bit both vs e f
  same_truth e fit ws vs agree f =
      ap (λ (z : Formula × Word). not_zero_bit z.1 z.0) (same_expression e fit ws vs agree f)

  same_put : (s : ℕ) (w v : Word) (ws vs : Words) → w ≡ v → Agree ws vs →
      Agree (with_word s w ws) (with_word s v vs)
  same_put s w v ws vs e agree t at = ap₂ (λ x y. cond (t == s) x y) e (agree t at)

  same_piece : (right : Word) (p : PieceForm) (ws vs : Words) → Agree ws vs →
      Agree (with_piece_word signals followed right ws p)
      (with_piece_word signals followed right vs p)
  same_piece right p ws vs agree = by (holds followed p.signal) refl
    where
      copy : ℕ
      copy = copy_of signals p.signal

      new : Words → Word
      new us = replaced_word p.high p.low (us copy) (drop p.from right)

      by : (c : Bool) → holds followed p.signal ≡ c →
          Agree (cond c (with_word copy (new ws) ws) ws) (cond c (with_word copy (new vs) vs) vs)
      by true held =
          same_put copy (new ws) (new vs) ws vs
          (ap (λ w. replaced_word p.high p.low w (drop p.from right))
          (agree copy (copies p.signal (Contains-from_holds followed p.signal held)))) agree
      by false none = agree

  same_pieces : (right : Word) (pieces : List PieceForm) (ws vs : Words) → Agree ws vs →
      Agree (fold (with_piece_word signals followed right) ws pieces)
      (fold (with_piece_word signals followed right) vs pieces)
  same_pieces right [] ws vs agree = agree
  same_pieces right (p ∷ pieces) ws vs agree =
      same_pieces right pieces (with_piece_word signals followed right ws p)
      (with_piece_word signals followed right vs p) (same_piece right p ws vs agree)

  same_choices : (c : ℤ) (one first two second : Words) → Agree one first → Agree two second →
      (ts : List ℕ) → ((s : ℕ) → Contains ts s → Contains followed s) → (ws vs : Words) →
      Agree ws vs → (f : Formula) →
      IsSame (chosen_words signals c one two ts ws f) (chosen_words signals c first second ts vs f)
  same_choices c one first two second agree_one agree_two [] inside ws vs agree f = (refl, agree)
  same_choices c one first two second agree_one agree_two (s ∷ ts) inside ws vs agree f =
      let copy = copy_of signals s in
      let at = copies s (inside s (Contains-head s ts)) in
      let made = bitwise_word (mux_gate c) (one copy) (two copy) f in
      subst (λ (z : Formula × Word).
      IsSame (chosen_words signals c one two ts (with_word copy made.1 ws) made.0)
      (chosen_words signals c first second ts (with_word copy z.1 vs) z.0))
      (ap₂ (λ x y. bitwise_word (mux_gate c) x y f) (agree_one copy at) (agree_two copy at))
      (same_choices c one first two second agree_one agree_two ts
      (λ u u_at. inside u (Contains-later s ts u u_at)) (with_word copy made.1 ws)
      (with_word copy made.1 vs) (same_put copy made.1 made.1 ws vs refl agree) made.0)

  pub after_same : (b : FlatStatement) → AreFit signals followed IsAtHand b → (ws vs : Words) →
      Agree ws vs → (f : Formula) →
      IsSame (words_after signals followed b ws f) (words_after signals followed b vs f)
  after_same nothing fit ws vs agree f = (refl, agree)
  after_same (after x y) fit ws vs agree f =
      let one = words_after signals followed x ws f in
      let first = words_after signals followed x vs f in
      let p = after_same x fit.0 ws vs agree f in
      subst (λ (g : Formula). IsSame (words_after signals followed y one.1 one.0)
      (words_after signals followed y first.1 g)) p.0
      (after_same y fit.1 one.1 first.1 p.1 one.0)
  after_same (assign pieces place blocking right) fit ws vs agree f =
      by (assigns_some followed (assign pieces place blocking right)) refl
    where
      made : Formula × Word → Words → Formula × Words
      made word us = (word.0, fold (with_piece_word signals followed word.1) us pieces)

      word : Formula × Word
      word = expression_word both ws right f

      by : (c : Bool) → assigns_some followed (assign pieces place blocking right) ≡ c →
          IsSame (cond c (made word ws) (f, ws))
          (cond c (made (expression_word both vs right f) vs) (f, vs))
      by true some =
          subst (λ (z : Formula × Word). IsSame (made word ws) (made z vs))
          (same_expression right (fit some).0 ws vs agree f)
          (refl, same_pieces word.1 pieces ws vs agree)
      by false none = (refl, agree)
  after_same (branch place condition x y) fit ws vs agree f =
      by (assigns_some followed (branch place condition x y)) refl
      (after_same x fit.1.0 ws vs) (after_same y fit.1.1 ws vs)
    where
      assigned : List ℕ
      assigned = filter (assigns (branch place condition x y)) followed

      made : Formula × ℤ → Words → Formula × Words
      made bit us =
          let one = words_after signals followed x us bit.0 in
          let two = words_after signals followed y us one.0 in
          chosen_words signals bit.1 one.1 two.1 assigned us two.0

      bit : Formula × ℤ
      bit = is_true_bit both ws condition f

      by : (c : Bool) → assigns_some followed (branch place condition x y) ≡ c →
          (Agree ws vs → (g : Formula) →
          IsSame (words_after signals followed x ws g) (words_after signals followed x vs g)) →
          (Agree ws vs → (g : Formula) →
          IsSame (words_after signals followed y ws g) (words_after signals followed y vs g)) →
          IsSame (cond c (made bit ws) (f, ws))
          (cond c (made (is_true_bit both vs condition f) vs) (f, vs))
      by true some same_x same_y =
          let one = words_after signals followed x ws bit.0 in
          let first = words_after signals followed x vs bit.0 in
          let two = words_after signals followed y ws one.0 in
          let second = words_after signals followed y vs first.0 in
          let p = same_x agree bit.0 in
          let q : IsSame two second =
          subst (λ (g : Formula). IsSame two (words_after signals followed y vs g)) p.0
          (same_y agree one.0) in
          subst (λ (z : Formula × ℤ). IsSame (made bit ws) (made z vs))
          (same_truth condition (fit.0 some) ws vs agree f)
          (subst (λ (g : Formula). IsSame (made bit ws)
          (chosen_words signals bit.1 first.1 second.1 assigned vs g)) q.0
          (same_choices bit.1 one.1 first.1 two.1 second.1 p.1 q.1 assigned
          (λ s at. (Contains-from_filter (assigns (branch place condition x y)) followed s at).1)
          ws vs agree two.0))
      by false none same_x same_y = (refl, agree)
