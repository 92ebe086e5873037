-- The words of all followed signals, statement by statement: what a statement leaves, what a branch
-- comes to, and that the words of pieces stand.
use Rattle.std.proofs.Common.{◌≡◌, ℕ, zero, suc, ◌+◌, ◌<◌, ◌≤◌, ◌==◌, ℤ, Bool, true, false, cond, List}
use Rattle.std.proofs.Common.{[], ◌∷◌, map, fold, drop, filter, refl, sym, ap, subst, ◌∙◌}
use Rattle.std.proofs.Common.{⊎_elim, arith}
use Rattle.std.specs.Prelude.{Contains, IsTrue, IsFalse}
use Rattle.std.specs.List.{list_any, list_all, range_with_len}
use Rattle.std.proofs.lemmas.Bool.{false≢true, eq-eqb, or_left, or_right}
use mathlib.Core.Path.{fun_ext}
use Rattle.sv_num.specs.declared.faults.Place.{Place}
use Rattle.sv_system.proofs.Lists.{Contains-head, Contains-later, Contains-nil, Contains-cases}
use Rattle.sv_system.proofs.Lists.{Contains-filter}
use Rattle.sv_flat.specs.Design.{SignalForm, TypedTree, PieceForm, FlatStatement, nothing, after}
use Rattle.sv_flat.specs.Design.{assign, branch}
use Rattle.sv_flat.specs.Soundness.{piece_fits}
use Rattle.sv_flat.specs.Assigned.{assigns}
use Rattle.sv_flat.specs.Sets.{holds}
use Rattle.sv_flat.proofs.Depths.{first_of, second_of}
use Rattle.sv_flat.proofs.LeastSets.{some_from, from_some}
use Rattle.sv_flat.proofs.LeastSets.{Contains-from_holds, Contains-from_filter}
use Rattle.sv_flat.proofs.SameRuns.{none_found, piece_lies_inside}
use Rattle.sv_obl.specs.Wanted.{with_copies, copy_of}
use Rattle.sv_obl.proofs.PathLists.{cond_true, cond_false}
use Rattle.sv_obl.proofs.PutFacts.{width_copy}
use Rattle.sv_gates.specs.Formulas.{Formula}
use Rattle.sv_gates.specs.Gates.{mux_gate}
use Rattle.sv_circuits.specs.Words.{Word, replaced_word, bitwise_word}
use Rattle.sv_circuits.specs.Circuits.{IsWord}
use Rattle.sv_circuits.proofs.Comparisons.{drop_is}
use Rattle.sv_circuits.proofs.PartValues.{replaced_is, replaced_length}
use Rattle.sv_encoding.specs.Expressions.{Words, expression_word, is_true_bit}
use Rattle.sv_encoding.specs.Bodies.{with_word, assigns_some, with_piece_word, assigned_words}
use Rattle.sv_encoding.specs.Bodies.{chosen_words, branch_words, words_after}
use Rattle.sv_encoding_laws.proofs.BodyWords.{folded_leaves}
use Rattle.sv_blast.specs.FollowedWords.{AllStand, words_at, choices}
use Rattle.sv_blast.proofs.CopyChoices.{put_other, stand_put}

-- ---- lists

-- where fewer pass a test, none passes it if none passes the other
pub fewer_pass : {X : Type 0} (f g : X → Bool) (xs : List X) →
    ((x : X) → IsTrue (f x) → IsTrue (g x)) → IsFalse (list_any g xs) → IsFalse (list_any f xs)
fewer_pass f g xs more none = none_found (list_any f xs) (λ some.
    let found = from_some f xs some in
    false≢true (sym none ∙ some_from g xs found.0 found.1 (more found.0 found.2)))

pub none_pass : (test : ℕ → Bool) (xs : List ℕ) → IsFalse (list_any test xs) → filter test xs ≡ []
none_pass test [] none = refl
none_pass test (x ∷ xs) none =
    cond_false (test x) (x ∷ filter test xs) (filter test xs) (none_found (test x) (λ passes.
    false≢true (sym none ∙ or_left (test x) (list_any test xs) passes)))
    ∙ none_pass test xs (none_found (list_any test xs) (λ some.
    false≢true (sym none ∙ or_right (test x) (list_any test xs) some)))

-- no number stands twice in the list
abbrev pub Apart : List ℕ → Type 0
Apart [] = Unit {0}
Apart (t ∷ ts) = ((u : ℕ) → Contains ts u → u ≡ t → ⊥) × Apart ts

apart_from : (test : ℕ → Bool) (ts : List ℕ) → Apart ts → Apart (filter test ts)
apart_from test [] apart = tt
apart_from test (t ∷ ts) apart = by (test t) (apart_from test ts apart.1)
  where
    by : (c : Bool) → Apart (filter test ts) →
        Apart (cond c (t ∷ filter test ts) (filter test ts))
    by true rest = ((λ u at e. apart.0 u (Contains-from_filter test ts u at).1 e), rest)
    by false rest = rest

pub range_above : (a n u : ℕ) → Contains (range_with_len a n) u → a ≤ u
range_above a zero u at = absurd (Contains-nil u at)
range_above a (suc n) u at = ⊎_elim
    (λ e. omega (arith, e))
    (λ later. let above = range_above (a + 1) n u later in omega (arith, above))
    (Contains-cases a (range_with_len (a + 1) n) u at)

range_apart : (a n : ℕ) → Apart (range_with_len a n)
range_apart a zero = tt
range_apart a (suc n) = (
  λ u at e. let above = range_above (a + 1) n u at in absurd (omega (arith, above, e)),
  range_apart (a + 1) n,
)

-- of the numbers that pass a test
pub those_apart : (n : ℕ) (test : ℕ → Bool) → Apart (filter test (range_with_len 0 n))
those_apart n test = apart_from test (range_with_len 0 n) (range_apart 0 n)

module _ (signals : List SignalForm) (followed : List ℕ) where
  abbrev both : List SignalForm
  both = with_copies signals

  -- ---- what a statement leaves

  -- the name is no copy of a followed signal that is assigned
  abbrev pub IsLeftBy : FlatStatement → ℕ → Type 0
  IsLeftBy b t =
      (s : ℕ) → Contains followed s → IsTrue (assigns b s) → copy_of signals s ≡ t → ⊥

  piece_leaves : (right : Word) (t : ℕ) (p : PieceForm) (ws : Words) →
      (IsTrue (holds followed p.signal) → copy_of signals p.signal ≡ t → ⊥) →
      with_piece_word signals followed right ws p t ≡ ws t
  piece_leaves right t p ws apart = by (holds followed p.signal) refl
    where
      copy : ℕ
      copy = copy_of signals p.signal

      new : Word
      new = replaced_word p.high p.low (ws copy) (drop p.from right)

      by : (c : Bool) → holds followed p.signal ≡ c → cond c (with_word copy new ws) ws t ≡ ws t
      by true held =
          put_other copy t new ws (λ e. apart held (sym e))
      by false none = refl

  chosen_leave : (c : ℤ) (one two : Words) (t : ℕ) (ts : List ℕ) (ws : Words) (f : Formula) →
      ((s : ℕ) → Contains ts s → copy_of signals s ≡ t → ⊥) →
      (chosen_words signals c one two ts ws f).1 t ≡ ws t
  chosen_leave c one two t [] ws f apart = refl
  chosen_leave c one two t (s ∷ ts) ws f apart =
      let copy = copy_of signals s in
      let made = bitwise_word (mux_gate c) (one copy) (two copy) f in
      chosen_leave c one two t ts (with_word copy made.1 ws) made.0
      (λ u at. apart u (Contains-later s ts u at))
      ∙ put_other copy t made.1 ws (λ e. apart s (Contains-head s ts) (sym e))

  -- what is made leaves the words, or none of it is
  either_leaves : (c : Bool) (made : Formula × Words) (t : ℕ) (ws : Words) (f : Formula) →
      made.1 t ≡ ws t → (cond c made (f, ws)).1 t ≡ ws t
  either_leaves true made t ws f leaves = leaves
  either_leaves false made t ws f leaves = refl

  pub after_leaves : (b : FlatStatement) (t : ℕ) → IsLeftBy b t → (ws : Words) (f : Formula) →
      (words_after signals followed b ws f).1 t ≡ ws t
  after_leaves nothing t left ws f = refl
  after_leaves (after x y) t left ws f =
      let one = words_after signals followed x ws f in
      after_leaves y t (λ s at own. left s at (or_right (assigns x s) (assigns y s) own)) one.1 one.0
      ∙ after_leaves x t (λ s at own. left s at (or_left (assigns x s) (assigns y s) own)) ws f
  after_leaves (assign pieces place blocking right) t left ws f =
      let word = expression_word both ws right f in
      either_leaves (assigns_some followed (assign pieces place blocking right))
      (word.0, fold (with_piece_word signals followed word.1) ws pieces) t ws f
      (folded_leaves (with_piece_word signals followed word.1) t pieces ws
      (λ p at before. piece_leaves word.1 t p before (λ held.
      left p.signal (Contains-from_holds followed p.signal held)
      (some_from (λ (q : PieceForm). q.signal == p.signal) pieces p at
      (eq-eqb p.signal p.signal refl)))))
  after_leaves (branch place condition x y) t left ws f =
      let assigned = filter (assigns (branch place condition x y)) followed in
      let bit = is_true_bit both ws condition f in
      let one = words_after signals followed x ws bit.0 in
      let two = words_after signals followed y ws one.0 in
      either_leaves (assigns_some followed (branch place condition x y))
      (chosen_words signals bit.1 one.1 two.1 assigned ws two.0) t ws f
      (chosen_leave bit.1 one.1 two.1 t assigned ws two.0 (λ s at.
      let found = Contains-from_filter (assigns (branch place condition x y)) followed s at in
      left s found.1 found.0))

  -- a statement that assigns no followed signal
  pub passed : (b : FlatStatement) → IsFalse (assigns_some followed b) → (ws : Words) (f : Formula) →
      words_after signals followed b ws f ≡ (f, ws)
  passed nothing none ws f = refl
  passed (after x y) none ws f =
      ap (λ (z : Formula × Words). words_after signals followed y z.1 z.0)
      (passed x (fewer_pass (assigns x) (assigns (after x y)) followed
      (λ s own. or_left (assigns x s) (assigns y s) own) none) ws f)
      ∙ passed y (fewer_pass (assigns y) (assigns (after x y)) followed
      (λ s own. or_right (assigns x s) (assigns y s) own) none) ws f
  passed (assign pieces place blocking right) none ws f =
      cond_false (assigns_some followed (assign pieces place blocking right))
      (assigned_words signals followed pieces right ws f) (f, ws) none
  passed (branch place condition x y) none ws f =
      cond_false (assigns_some followed (branch place condition x y))
      (branch_words signals condition (words_after signals followed x)
      (words_after signals followed y) (filter (assigns (branch place condition x y)) followed) ws f)
      (f, ws) none

  -- ---- a branch

  copies_differ : (s t : ℕ) → (s ≡ t → ⊥) → copy_of signals s ≡ copy_of signals t → ⊥
  copies_differ s t differ e = differ (omega (arith, e))

  -- words chosen from those before, or from those after the second arm, of which the others are as
  -- before
  chosen_is : (c : ℤ) (one two : Words) (ts : List ℕ) → Apart ts → (ws vs : Words) (f : Formula) →
      ((s : ℕ) → Contains ts s → vs (copy_of signals s) ≡ two (copy_of signals s)) →
      ((t : ℕ) → ((s : ℕ) → Contains ts s → copy_of signals s ≡ t → ⊥) → vs t ≡ ws t) →
      chosen_words signals c one two ts ws f
      ≡ choices c (words_at one (map (copy_of signals) ts)) vs f
  chosen_is c one two [] apart ws vs f here others =
      ap (λ (z : Words). (f, z))
      (fun_ext (λ t. sym (others t (λ s at. absurd (Contains-nil s at)))))
  chosen_is c one two (u ∷ ts) apart ws vs f here others =
      let copy = copy_of signals u in
      let made = bitwise_word (mux_gate c) (one copy) (two copy) f in
      chosen_is c one two ts apart.1 (with_word copy made.1 ws) (with_word copy made.1 vs) made.0
      (λ s at.
      put_other copy (copy_of signals s) made.1 vs
      (copies_differ s u (λ e. apart.0 s at e))
      ∙ here s (Contains-later u ts s at))
      (λ t none. same t made.1 none (t == copy) refl)
      ∙ ap (λ (z : Formula × Word).
      choices c (words_at one (map (copy_of signals) ts)) (with_word copy z.1 vs) z.0)
      (ap (λ z. bitwise_word (mux_gate c) (one copy) z f) (sym (here u (Contains-head u ts))))
    where
      same : (t : ℕ) (word : Word) → ((s : ℕ) → Contains ts s → copy_of signals s ≡ t → ⊥) →
          (d : Bool) → (t == copy_of signals u) ≡ d →
          cond (t == copy_of signals u) word (vs t) ≡ cond (t == copy_of signals u) word (ws t)
      same t word none true is =
          cond_true (t == copy_of signals u) word (vs t) is
          ∙ sym (cond_true (t == copy_of signals u) word (ws t) is)
      same t word none false is =
          cond_false (t == copy_of signals u) word (vs t) is
          ∙ others t (λ s at e. ⊎_elim
          (λ first. false≢true (sym is
          ∙ eq-eqb t (copy_of signals u) (sym e ∙ ap (copy_of signals) (sym first))))
          (λ later. none s later e)
          (Contains-cases u ts s at))
          ∙ sym (cond_false (t == copy_of signals u) word (ws t) is)

  -- what a branch comes to, from the words after its second arm on
  pub branch_is : Apart followed → (place : Place) (condition : TypedTree) (x y : FlatStatement)
      (ws : Words) (f : Formula) →
      IsTrue (assigns_some followed (branch place condition x y)) →
      words_after signals followed (branch place condition x y) ws f
      ≡ (let bit = is_true_bit both ws condition f in
      let one = words_after signals followed x ws bit.0 in
      let two = words_after signals followed y ws one.0 in
      choices bit.1 (words_at one.1
      (map (copy_of signals) (filter (assigns (branch place condition x y)) followed))) two.1 two.0)
  branch_is apart place condition x y ws f some =
      let whole = branch place condition x y in
      let assigned = filter (assigns whole) followed in
      let bit = is_true_bit both ws condition f in
      let one = words_after signals followed x ws bit.0 in
      let two = words_after signals followed y ws one.0 in
      cond_true (assigns_some followed whole)
      (chosen_words signals bit.1 one.1 two.1 assigned ws two.0) (f, ws) some
      ∙ chosen_is bit.1 one.1 two.1 assigned (apart_from (assigns whole) followed apart) ws two.1
      two.0 (λ s at. refl)
      (λ t none. after_leaves y t (λ s s_at own e.
      none s (Contains-filter (assigns whole) followed s s_at
      (or_right (assigns x s) (assigns y s) own)) e) ws one.0)

  module _ (IsAtHand : ℕ → Type 0)
      (copies : (s : ℕ) → Contains followed s → IsAtHand (copy_of signals s)) where
    -- ---- pieces

    module _ (e : TypedTree) (n : ℕ) (some : 1 ≤ n) (right : Word) (right_is : IsWord n right) where
      piece_stands : (p : PieceForm) → IsTrue (piece_fits signals e p) → (ws : Words) →
          AllStand signals IsAtHand n ws →
          AllStand signals IsAtHand n (with_piece_word signals followed right ws p)
      piece_stands p fits ws stand = by (holds followed p.signal) refl
        where
          copy : ℕ
          copy = copy_of signals p.signal

          new : Word
          new = replaced_word p.high p.low (ws copy) (drop p.from right)

          by : (c : Bool) → holds followed p.signal ≡ c →
              AllStand signals IsAtHand n (cond c (with_word copy new ws) ws)
          by true held =
              let there = stand copy (copies p.signal (Contains-from_holds followed p.signal held)) in
              let lies = piece_lies_inside signals e p fits in
              stand_put signals IsAtHand n copy new ws
              (replaced_is n p.high p.low (ws copy) (drop p.from right) some there.0
              (drop_is n p.from right right_is))
              (replaced_length p.high p.low (ws copy) (drop p.from right) lies.0
              (subst (λ k. p.high < k) (sym (width_copy signals p.signal) ∙ sym there.1) lies.1)
              ∙ there.1) stand
          by false none = stand

      pub pieces_stand : (pieces : List PieceForm) → IsTrue (list_all (piece_fits signals e) pieces) →
          (ws : Words) → AllStand signals IsAtHand n ws →
          AllStand signals IsAtHand n (fold (with_piece_word signals followed right) ws pieces)
      pieces_stand [] fit ws stand = stand
      pieces_stand (p ∷ pieces) fit ws stand =
          let here = piece_fits signals e p in
          let later = list_all (piece_fits signals e) pieces in
          pieces_stand pieces (second_of here later fit)
          (with_piece_word signals followed right ws p)
          (piece_stands p (first_of here later fit) ws stand)
