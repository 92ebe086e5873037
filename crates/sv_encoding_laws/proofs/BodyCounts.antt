-- How long the words are that a statement makes, and how many variables it takes.
use Rattle.std.proofs.Common.{◌≡◌, ℕ, ◌+◌, ◌<◌, Bool, true, false, ◌==◌, cond}
use Rattle.std.proofs.Common.{ℤ, List, [], ◌∷◌, fold, drop, filter, length, refl, sym, ap, subst}
use Rattle.std.proofs.Common.{◌∙◌, arith}
use Rattle.std.specs.Prelude.{Contains, IsTrue}
use Rattle.std.proofs.lemmas.Bool.{eqb-true}
use Rattle.sv_system.proofs.Lists.{Contains-head, Contains-later}
use Rattle.sv_flat.specs.Design.{SignalForm, PieceForm, FlatStatement, nothing, after}
use Rattle.sv_flat.specs.Design.{assign, branch}
use Rattle.sv_flat.specs.Values.{signal_width}
use Rattle.sv_flat.specs.Assigned.{assigns}
use Rattle.sv_flat.specs.Sets.{holds}
use Rattle.sv_flat.proofs.LeastSets.{holds-from_Contains, Contains-from_filter}
use Rattle.sv_obl.specs.Wanted.{with_copies, copy_of}
use Rattle.sv_obl.proofs.PutFacts.{width_copy}
use Rattle.sv_gates.specs.Formulas.{Formula}
use Rattle.sv_gates.specs.Gates.{mux_gate}
use Rattle.sv_circuits.specs.Words.{Word, replaced_word, bitwise_word}
use Rattle.sv_circuits.proofs.Lengths.{per_bit_length}
use Rattle.sv_circuits.proofs.PartValues.{replaced_length}
use Rattle.sv_encoding.specs.Expressions.{Words, expression_word, is_true_bit}
use Rattle.sv_encoding.specs.Bodies.{with_word, assigns_some, with_piece_word, chosen_words}
use Rattle.sv_encoding.specs.Bodies.{words_after}
use Rattle.sv_encoding.specs.BothWays.{HaveBits}
use Rattle.sv_encoding.specs.Sizes.{widths_of, statement_size, expression_size, truth_size}
use Rattle.sv_encoding_laws.proofs.BodyWords.{PieceFits, PiecesFit, BodyFits}
use Rattle.sv_encoding_laws.proofs.NamedValues.{named_as}
use Rattle.sv_encoding_laws.proofs.GateCounts.{bitwise_count, mux_count, mapped_more}
use Rattle.sv_encoding_laws.proofs.OperatorCounts.{IsLong, expression_count, truth_count}

module _ (signals : List SignalForm) (bits : HaveBits (with_copies signals)) (followed : List ℕ)
    (G : ℕ → Type 0) (copies : (s : ℕ) → IsTrue (holds followed s) → G (copy_of signals s)) where
  abbrev both : List SignalForm
  both = with_copies signals

  -- the words of the names that count have their lengths
  abbrev pub Long : Words → Type 0
  Long ws = (t : ℕ) → G t → length (ws t) ≡ signal_width both t

  changed_long : (s : ℕ) (word : Word) (ws : Words) → length word ≡ signal_width both s →
      Long ws → Long (with_word s word ws)
  changed_long s word ws e long t g = by (t == s) refl
    where
      by : (d : Bool) → (t == s) ≡ d → length (cond d word (ws t)) ≡ signal_width both t
      by true is = e ∙ ap (signal_width both) (sym (eqb-true t s is))
      by false is = long t g

  abbrev new_word : Word → Words → PieceForm → Word
  new_word right ws p =
      replaced_word p.high p.low (ws (copy_of signals p.signal)) (drop p.from right)

  piece_long : (right : Word) (ws : Words) (p : PieceForm) → Long ws →
      PieceFits signals bits followed G copies p →
      Long (with_piece_word signals followed right ws p)
  piece_long right ws p long fits = by (holds followed p.signal) refl
    where
      by : (c : Bool) → holds followed p.signal ≡ c →
          Long (cond c (with_word (copy_of signals p.signal) (new_word right ws p) ws) ws)
      by true held =
          let fit = fits held in
          let s = copy_of signals p.signal in
          let here = long s (copies p.signal held) in
          changed_long s (new_word right ws p) ws
          (replaced_length p.high p.low (ws s) (drop p.from right) fit.0
          (subst (λ k. p.high < k) (sym (width_copy signals p.signal) ∙ sym here) fit.1) ∙ here) long
      by false none = long

  pieces_long : (right : Word) (pieces : List PieceForm) (ws : Words) → Long ws →
      PiecesFit signals bits followed G copies pieces →
      Long (fold (with_piece_word signals followed right) ws pieces)
  pieces_long right [] ws long fits = long
  pieces_long right (p ∷ pieces) ws long fits =
      pieces_long right pieces (with_piece_word signals followed right ws p)
      (piece_long right ws p long (fits p (Contains-head p pieces)))
      (λ q at. fits q (Contains-later p pieces q at))

  -- words with their lengths, and so many variables more
  abbrev pub Grown : Formula → Formula × Words → ℕ → Type 0
  Grown old made n = Long made.1 × (made.0.variables ≡ old.variables + n)

  chosen_grow : (condition : ℤ) (one two : Words) → Long one → Long two → (ts : List ℕ) →
      ((u : ℕ) → Contains ts u → IsTrue (holds followed u)) → (ws : Words) → Long ws →
      (old : Formula) →
      Grown old (chosen_words signals condition one two ts ws old) (widths_of signals ts)
  chosen_grow condition one two long1 long2 [] held ws long old = (long, omega arith)
  chosen_grow condition one two long1 long2 (u ∷ ts) held ws long old =
      let s = copy_of signals u in
      let g = copies u (held u (Contains-head u ts)) in
      let same = long1 s g ∙ sym (long2 s g) in
      let mid = bitwise_word (mux_gate condition) (one s) (two s) old in
      let wide = per_bit_length (mux_gate condition) (one s) (two s) old same ∙ long1 s g in
      let rest = chosen_grow condition one two long1 long2 ts
      (λ k at. held k (Contains-later u ts k at)) (with_word s mid.1 ws)
      (changed_long s mid.1 ws wide long) mid.0 in (
        rest.0,
        rest.1
            ∙ omega (
              arith,
              bitwise_count (mux_gate condition) (mux_count condition) (one s) (two s) old same,
              long1 s g,
              width_copy signals u,
              mapped_more (signal_width signals) u ts,
            ),
      )

  pub body_grows : (body : FlatStatement) → BodyFits signals bits followed G copies body →
      (ws : Words) → Long ws → (old : Formula) →
      Grown old (words_after signals followed body ws old) (statement_size signals followed body)
  body_grows nothing fits ws long old = (long, omega arith)
  body_grows (after first second) fits ws long old =
      let one = words_after signals followed first ws old in
      let p = body_grows first fits.0 ws long old in
      let q = body_grows second fits.1 one.1 p.0 one.0 in
      (q.0, q.1 ∙ omega (arith, p.1))
  body_grows (assign pieces place blocking right) fits ws long old =
      by (assigns_some followed (assign pieces place blocking right)) refl
    where
      body : FlatStatement
      body = assign pieces place blocking right

      by : (c : Bool) → assigns_some followed (assign pieces place blocking right) ≡ c →
          Grown old
          (cond c (
            (expression_word both ws right old).0,
            fold (with_piece_word signals followed (expression_word both ws right old).1) ws pieces,
          )
          (old, ws))
          (cond c (expression_size both right) 0)
      by true own =
          let fit = fits own in (
            pieces_long (expression_word both ws right old).1 pieces ws long fit.1,
            expression_count both ws right fit.0.formed
                (named_as G (IsLong both ws) long right fit.0.named) old,
          )
      by false none = (long, omega arith)
  body_grows (branch place condition first second) fits ws long old =
      by (assigns_some followed (branch place condition first second)) refl
      (body_grows first fits.1.0) (body_grows second fits.1.1)
    where
      assigned : List ℕ
      assigned = filter (assigns (branch place condition first second)) followed

      bit : Formula × ℤ
      bit = is_true_bit both ws condition old

      one : Formula × Words
      one = words_after signals followed first ws bit.0

      two : Formula × Words
      two = words_after signals followed second ws one.0

      by : (c : Bool) → assigns_some followed (branch place condition first second) ≡ c →
          ((ws : Words) → Long ws → (old : Formula) →
          Grown old (words_after signals followed first ws old)
          (statement_size signals followed first)) →
          ((ws : Words) → Long ws → (old : Formula) →
          Grown old (words_after signals followed second ws old)
          (statement_size signals followed second)) →
          Grown old (cond c (chosen_words signals bit.1 one.1 two.1 assigned ws two.0) (old, ws))
          (cond c (truth_size both condition + statement_size signals followed first
          + statement_size signals followed second + widths_of signals assigned) 0)
      by true own grow_first grow_second =
          let fit = fits.0 own in
          let p = truth_count both ws condition fit.formed
          (named_as G (IsLong both ws) long condition fit.named) old in
          let q = grow_first ws long bit.0 in
          let r = grow_second ws long one.0 in
          let t = chosen_grow bit.1 one.1 two.1 q.0 r.0 assigned
          (λ u at. holds-from_Contains followed u
          (Contains-from_filter (assigns (branch place condition first second)) followed u
          at).1) ws long two.0 in
          (t.0, t.1 ∙ omega (arith, p, q.1, r.1))
      by false none grow_first grow_second = (long, omega arith)
