-- What is put in for a wanted name has the value that the run leaves in the signal.
use Rattle.std.proofs.Common.{◌≡◌, ℕ, ◌+◌, ◌-◌, ◌*◌, ◌/◌, ◌%◌, ◌^◌, ◌<◌, ◌≤◌, Bool, true, false}
use Rattle.std.proofs.Common.{cond, ◌&&◌, ◌==◌, not, ltb-true, leb-true, List, [], ◌∷◌, ◌++◌}
use Rattle.std.proofs.Common.{length, fold, refl, sym, ap, ap₂, subst, ◌∙◌, arith, mod-lt}
use Rattle.std.specs.Prelude.{Contains, IsTrue, IsFalse}
use Rattle.std.specs.Bool.{beq}
use Rattle.std.specs.List.{list_any, list_all}
use Rattle.std.proofs.lemmas.Bool.{eqb-true, leb-false, le-leb}
use Rattle.std.proofs.lemmas.Nat.{pow_pos}
use Rattle.std.proofs.lemmas.List.{get_or_append_left, get_or-append-add}
use Rattle.std.proofs.Math.Nat.{div-eq_of_lt, mod-one, mod-eq_of_lt, div-one}
use Rattle.std.proofs.Math.Pow.{mod-mod-pow}
use Rattle.sv_num.specs.declared.faults.Place.{Place}
use Rattle.sv_num.specs.Vectors.{is_true, is_negative}
use Rattle.sv_num.specs.Parts.{extended, replaced_bits, span_of}
use Rattle.sv_num.proofs.NumberLemmas.{number_at, as_shift, reduced_is}
use Rattle.sv_system.specs.System.{Environment, last_update}
use Rattle.sv_system.proofs.Lists.{Contains-head, Contains-later, Contains-nil, Contains-filter}
use Rattle.sv_flat.specs.Design.{SignalForm, TypedTree, typed, mend, slice, PieceForm}
use Rattle.sv_flat.specs.Design.{FlatStatement, nothing, after, assign, branch}
use Rattle.sv_flat.specs.ByNumber.{is_nonblocking}
use Rattle.sv_flat.specs.Values.{signal_of, signal_width, expression_width, value}
use Rattle.sv_flat.specs.Runs.{Updates, with_piece, put_piece, run}
use Rattle.sv_flat.specs.Soundness.{is_signal, is_part_of, is_whole, piece_fits, well_formed}
use Rattle.sv_flat.specs.Soundness.{statement_sound}
use Rattle.sv_flat.specs.Assigned.{assigns}
use Rattle.sv_flat.specs.Readings.{ReadForm}
use Rattle.sv_flat.proofs.LeastSets.{from_some, Contains-from_filter}
use Rattle.sv_flat.proofs.Depths.{first_of, second_of, from_all}
use Rattle.sv_flat.proofs.ReplacedBits.{replaced_below}
use Rattle.sv_flat.proofs.SameRuns.{or_none_left, or_none_right, piece_lies_inside}
use Rattle.sv_obl.specs.Exchange.{Instead, name, content}
use Rattle.sv_obl.specs.Wanted.{with_copies, copy_of, is_copy, original, wanted_name, piece_value}
use Rattle.sv_obl.specs.Wanted.{with_piece_put, put_value, pieces_put, put_in}
use Rattle.sv_obl.specs.Paths.{pieces_of}
use Rattle.sv_obl.proofs.PathLists.{same_truth, cond_true, cond_false, none_kept}
use Rattle.sv_obl.proofs.TreeFacts.{held_below, exchanged_value, Good}

abbrev pub State : Type 0
State = Environment ℕ × Updates

-- every assignment to something is of this kind, `=` or `<=`
abbrev pub all_are : Bool → FlatStatement → Bool
all_are b nothing = true
all_are b (after first second) = all_are b first && all_are b second
all_are b (assign [] place blocking right) = true
all_are b (assign (p ∷ pieces) place blocking right) = beq blocking b
all_are b (branch place condition first second) = all_are b first && all_are b second

-- all are `<=`
pub nonblocking_is : (body : FlatStatement) → is_nonblocking body ≡ all_are false body
nonblocking_is nothing = refl
nonblocking_is (after first second) = ap₂ ◌&&◌ (nonblocking_is first) (nonblocking_is second)
nonblocking_is (assign [] place blocking right) = refl
nonblocking_is (assign (p ∷ pieces) place true right) = refl
nonblocking_is (assign (p ∷ pieces) place false right) = refl
nonblocking_is (branch place condition first second) =
    ap₂ ◌&&◌ (nonblocking_is first) (nonblocking_is second)

-- the value of a signal that the statements that follow go on with
abbrev pub running : Bool → State → Environment ℕ
running true now s = now.0 s
running false now s = last_update ◌==◌ s (now.0 s) now.1

last_one : (s old : ℕ) (us : Updates) (u : ℕ × ℕ)
    → last_update ◌==◌ s old (us ++ u ∷ []) ≡ cond (u.0 == s) u.1 (last_update ◌==◌ s old us)
last_one s old [] u = refl
last_one s old (v ∷ us) u = last_one s (cond (v.0 == s) v.1 old) us u

at_target : (c : Bool) (p s y : ℕ) (g f : ℕ → ℕ) → (IsTrue c → p ≡ s) →
    cond c (g (f p)) y ≡ cond c (g (f s)) y
at_target true p s y g f is = ap (λ k. g (f k)) (is refl)
at_target false p s y g f is = refl

-- ---- numbers

-- a value at its own length is itself, cut
pub extended_same : (signed : Bool) (w x : ℕ) → extended signed w w x ≡ x % 2 ^ w
extended_same signed w x =
    let (k, _, e) = as_shift (is_negative w signed x) w x in
    reduced_is w (number_at w (is_negative w signed x) x) k x e

mod_twice : (x w : ℕ) → x % 2 ^ w % 2 ^ w ≡ x % 2 ^ w
mod_twice x w = mod-eq_of_lt (mod-lt x (pow_pos w))

-- the bits under a place are those of the value cut to more bits
mod_shorter : (x y w low : ℕ) → low ≤ w → x % 2 ^ w ≡ y % 2 ^ w → x % 2 ^ low ≡ y % 2 ^ low
mod_shorter x y w low less same =
    let at = λ (n : ℕ). subst (λ k.
    n % 2 ^ k % 2 ^ low ≡ n % 2 ^ low) (let k : w - low + low ≡ w = omega arith in
    k) (mod-mod-pow n (w - low) low) in
    sym (at x) ∙ ap (λ n. n % 2 ^ low) same ∙ at y

replaced_same : (w high low x y p q : ℕ) → low ≤ w → x % 2 ^ w ≡ y % 2 ^ w
    → p % 2 ^ span_of high low ≡ q % 2 ^ span_of high low
    → replaced_bits w high low x p ≡ replaced_bits w high low y q
replaced_same w high low x y p q less same pieces =
    ap₂ (λ a c. a / 2 ^ (high + 1) * 2 ^ (high + 1) + (c * 2 ^ low + x % 2 ^ low)) same pieces
    ∙ ap (λ a. y % 2 ^ w / 2 ^ (high + 1) * 2 ^ (high + 1)
    + (q % 2 ^ span_of high low * 2 ^ low + a)) (mod_shorter x y w low less same)

-- bits that are all of a value are put whole
replaced_whole : (w high low x p : ℕ) → low ≡ 0 → high + 1 ≡ w →
    replaced_bits w high low x p ≡ p % 2 ^ span_of high low
replaced_whole w high low x p from to = subst
    (λ k. replaced_bits k high low x p ≡ p % 2 ^ span_of high low) to
    (subst (λ k. replaced_bits (high + 1) high k x p ≡ p % 2 ^ span_of high k) (sym from) all)
  where
    top : x % 2 ^ (high + 1) / 2 ^ (high + 1) ≡ 0
    top = div-eq_of_lt (mod-lt x (pow_pos (high + 1)))

    none : x % 2 ^ 0 ≡ 0
    none = mod-one x

    all : replaced_bits (high + 1) high 0 x p ≡ p % 2 ^ span_of high 0
    all =
        ap₂ (λ a c. a * 2 ^ (high + 1) + (p % 2 ^ span_of high 0 * 2 ^ 0 + c)) top none
        ∙ omega arith

module _ (signals : List SignalForm) where
  abbrev n : ℕ
  n = length signals

  abbrev pub both : List SignalForm
  both = with_copies signals

  -- ---- copies

  pub width_settled : (s : ℕ) → s < length signals → signal_width both s ≡ signal_width signals s
  width_settled s low =
      ap (λ (x : SignalForm). x.width) (get_or_append_left signals signals _ s low)

  pub width_copy : (s : ℕ) → signal_width both (copy_of signals s) ≡ signal_width signals s
  width_copy s = ap (λ (x : SignalForm). x.width) (get_or-append-add signals signals s _)

  -- a copy is one of its original
  pub copy_is : (t : ℕ) → IsTrue (is_copy signals t) → copy_of signals (original signals t) ≡ t
  copy_is t h = let low = leb-true n t h in omega arith

  pub width_original : (t : ℕ) → IsTrue (is_copy signals t) →
      signal_width both t ≡ signal_width signals (original signals t)
  width_original t h = sym (ap (signal_width both) (copy_is t h)) ∙ width_copy (original signals t)

  pub copy_is_copy : (s : ℕ) → IsTrue (is_copy signals (copy_of signals s))
  copy_is_copy s = le-leb n (n + s) (omega arith)

  pub original_of_copy : (s : ℕ) → original signals (copy_of signals s) ≡ s
  original_of_copy s = omega arith

  pub settled_is_signal : (t : ℕ) → IsFalse (is_copy signals t) → t < length signals
  settled_is_signal t h = leb-false n t h

  pub signal_is_settled : (t : ℕ) → t < length signals → IsFalse (is_copy signals t)
  signal_is_settled t low = by_test (is_copy signals t) refl
    where
      by_test : (b : Bool) → is_copy signals t ≡ b → IsFalse b
      by_test true e = absurd (let high = leb-true n t e in omega arith)
      by_test false e = refl

  -- the settled values, and beside them those that wanted names stand for
  abbrev pub beside : Environment ℕ → Environment ℕ → Environment ℕ
  beside z r t = cond (is_copy signals t) (r (original signals t)) (z t)

  -- ---- one assignment

  piece_runs : (b : Bool) (v : ℕ) (now : State) (piece : PieceForm) (s : ℕ)
      → running b (put_piece signals b v now piece) s
      ≡ cond (piece.signal == s) (with_piece signals piece v (running b now s)) (running b now s)
  piece_runs true v now piece s =
      at_target (piece.signal == s) piece.signal s (now.0 s) (with_piece signals piece v) now.0
      (eqb-true piece.signal s)
  piece_runs false v now piece s =
      last_one s (now.0 s) now.1 (
        piece.signal,
        with_piece signals piece v
            (last_update ◌==◌ piece.signal (now.0 piece.signal) now.1),
      )
      ∙ at_target (piece.signal == s) piece.signal s (running false now s)
      (with_piece signals piece v)
      (λ k. last_update ◌==◌ k (now.0 k) now.1) (eqb-true piece.signal s)

  -- the value with these pieces of a right side put into it
  abbrev pub made_with : ℕ → List PieceForm → ℕ → ℕ
  made_with v [] old = old
  made_with v (p ∷ pieces) old = made_with v pieces (with_piece signals p v old)

  one_more : (c : Bool) (v : ℕ) (p : PieceForm) (pieces : List PieceForm) (old : ℕ)
      → made_with v pieces (cond c (with_piece signals p v old) old) ≡
      made_with v (cond c (p ∷ pieces) pieces) old
  one_more true v p pieces old = refl
  one_more false v p pieces old = refl

  pieces_run : (b : Bool) (v : ℕ) (pieces : List PieceForm) (now : State) (s : ℕ)
      → running b (fold (put_piece signals b v) now pieces) s ≡
      made_with v (pieces_of s pieces) (running b now s)
  pieces_run b v [] now s = refl
  pieces_run b v (p ∷ pieces) now s =
      pieces_run b v pieces (put_piece signals b v now p) s
      ∙ ap (made_with v (pieces_of s pieces)) (piece_runs b v now p s)
      ∙ one_more (p.signal == s) v p (pieces_of s pieces) (running b now s)

  pub assign_runs : (b : Bool) (pieces : List PieceForm) (place : Place) (blocking : Bool)
      (right : TypedTree) (now : State) (s : ℕ)
      → IsTrue (all_are b (assign pieces place blocking right))
      → running b (run signals (assign pieces place blocking right) now) s
      ≡ made_with (value signals now.0 right) (pieces_of s pieces) (running b now s)
  assign_runs b [] place blocking right now s kind = refl
  assign_runs b (p ∷ pieces) place blocking right now s kind =
      let v = value signals now.0 right in
      subst (λ k. running b (fold (put_piece signals k v) now (p ∷ pieces)) s ≡
      made_with v (pieces_of s (p ∷ pieces)) (running b now s))
      (sym (same_truth blocking b kind)) (pieces_run b v (p ∷ pieces) now s)

  either_keeps : (b c : Bool) (s k : ℕ) (x y : State) → running b x s ≡ k → running b y s ≡ k →
      running b (cond c x y) s ≡ k
  either_keeps b true s k x y first second = first
  either_keeps b false s k x y first second = second

  -- a statement that does not assign a signal leaves it
  pub running_leaves : (b : Bool) (body : FlatStatement) (s : ℕ) → IsTrue (all_are b body)
      → IsFalse (assigns body s) → (now : State)
      → running b (run signals body now) s ≡ running b now s
  running_leaves b nothing s kind none now = refl
  running_leaves b (after first second) s kind none now =
      running_leaves b second s (second_of (all_are b first) (all_are b second) kind)
      (or_none_right (assigns first s) (assigns second s) none) (run signals first now)
      ∙ running_leaves b first s (first_of (all_are b first) (all_are b second) kind)
      (or_none_left (assigns first s) (assigns second s) none) now
  running_leaves b (assign pieces place blocking right) s kind none now =
      assign_runs b pieces place blocking right now s kind
      ∙ ap (λ ps. made_with (value signals now.0 right) ps (running b now s))
      (none_kept (λ (p : PieceForm). p.signal == s) pieces none)
  running_leaves b (branch place condition first second) s kind none now =
      either_keeps b (is_true (value signals now.0 condition)) s (running b now s)
      (run signals first now) (run signals second now)
      (running_leaves b first s (first_of (all_are b first) (all_are b second) kind)
      (or_none_left (assigns first s) (assigns second s) none) now)
      (running_leaves b second s (second_of (all_are b first) (all_are b second) kind)
      (or_none_right (assigns first s) (assigns second s) none) now)

  -- ---- what is put

  -- a piece lies in its signal
  abbrev pub Lies : PieceForm → Type 0
  Lies p = (p.low ≤ p.high) × (p.high < signal_width signals p.signal)

  -- the first of some pieces of a signal, put into it, leaves a value of its width
  first_low : (v : ℕ) (s : ℕ) (p : PieceForm) (pieces : List PieceForm) (old : ℕ)
      → ((q : PieceForm) → Contains (p ∷ pieces) q → Lies q)
      → ((q : PieceForm) → Contains (p ∷ pieces) q → q.signal ≡ s)
      → with_piece signals p v old < 2 ^ signal_width signals s
  first_low v s p pieces old lie own =
      let here = lie p (Contains-head p pieces) in
      subst (λ k. with_piece signals p v old < 2 ^ signal_width signals k)
      (own p (Contains-head p pieces))
      (replaced_below (signal_width signals p.signal) p.high p.low old (v / 2 ^ p.from) here.0
      here.1)

  made_low : (v : ℕ) (s : ℕ) (pieces : List PieceForm) (old : ℕ)
      → ((p : PieceForm) → Contains pieces p → Lies p)
      → ((p : PieceForm) → Contains pieces p → p.signal ≡ s) → old < 2 ^ signal_width signals s
      → made_with v pieces old < 2 ^ signal_width signals s
  made_low v s [] old lie own low = low
  made_low v s (p ∷ pieces) old lie own low =
      made_low v s pieces (with_piece signals p v old) (λ q at.
      lie q (Contains-later p pieces q at))
      (λ q at. own q (Contains-later p pieces q at)) (first_low v s p pieces old lie own)

  some_low : (v : ℕ) (s : ℕ) (pieces : List PieceForm) (p : PieceForm) (old : ℕ)
      → ((q : PieceForm) → Contains pieces q → Lies q)
      → ((q : PieceForm) → Contains pieces q → q.signal ≡ s) → Contains pieces p
      → made_with v pieces old < 2 ^ signal_width signals s
  some_low v s [] p old lie own at = absurd (Contains-nil p at)
  some_low v s (q ∷ pieces) p old lie own at =
      made_low v s pieces (with_piece signals q v old) (λ x x_at.
      lie x (Contains-later q pieces x x_at))
      (λ x x_at. own x (Contains-later q pieces x x_at)) (first_low v s q pieces old lie own)

  module _ (E : Environment ℕ) (right : TypedTree) (v : ℕ) (gives : value both E right ≡ v) where
    -- the piece of the right side
    piece_gives : (p : PieceForm) → p.low ≤ p.high
        → value both E (piece_value right p) % 2 ^ span_of p.high p.low ≡
        v / 2 ^ p.from % 2 ^ span_of p.high p.low
    piece_gives p ordered = by_test (p.from == 0) refl
      where
        whole : p.from ≡ 0 →
            value both E right % 2 ^ span_of p.high p.low ≡
            v / 2 ^ p.from % 2 ^ span_of p.high p.low
        whole none = ap (λ k. k % 2 ^ span_of p.high p.low)
            (gives ∙ sym (div-one v) ∙ ap (λ k. v / 2 ^ k) (sym none))

        part : value both E (typed (span_of p.high p.low) false
            (slice right (p.from + p.high - p.low) p.from)) % 2 ^ span_of p.high p.low
            ≡ v / 2 ^ p.from % 2 ^ span_of p.high p.low
        part =
            ap (λ k. k / 2 ^ p.from % 2 ^ span_of (p.from + p.high - p.low) p.from % 2 ^ span_of
            p.high p.low) gives
            ∙ ap (λ k. v / 2 ^ p.from % 2 ^ k % 2 ^ span_of p.high p.low)
            (let k : p.from + p.high - p.low + 1 - p.from ≡ p.high + 1 - p.low = omega arith in
            k)
            ∙ mod_twice (v / 2 ^ p.from) (span_of p.high p.low)

        by_test : (b : Bool) → (p.from == 0) ≡ b
            → value both E (cond b right
            (typed (span_of p.high p.low) false (slice right (p.from + p.high - p.low) p.from)))
            % 2 ^ span_of p.high p.low
            ≡ v / 2 ^ p.from % 2 ^ span_of p.high p.low
        by_test true e = whole (eqb-true p.from 0 e)
        by_test false e = part

    module _ (s : ℕ) (inside : s < length signals) where
      abbrev w : ℕ
      w = signal_width signals s

      -- the content after one more piece of the signal
      own_piece : (p : PieceForm) (old_tree : TypedTree) (old : ℕ) → p.signal ≡ s → Lies p
          → value both E old_tree % 2 ^ w ≡ old % 2 ^ w
          → value both E (cond (is_whole signals p) (piece_value right p)
          (typed w (signal_of signals s).signed
          (mend s old_tree p.high p.low (piece_value right p)))) % 2 ^ w
          ≡ with_piece signals p v old % 2 ^ w
      own_piece p old_tree old is lies same = by_test (is_whole signals p) refl
        where
          whole : IsTrue (is_whole signals p) →
              value both E (piece_value right p) % 2 ^ w ≡ with_piece signals p v old % 2 ^ w
          whole h =
              let low = eqb-true p.low 0
              (first_of (p.low == 0) (p.high + 1 == signal_width signals p.signal) h) in
              let high = eqb-true (p.high + 1) (signal_width signals p.signal)
              (second_of (p.low == 0) (p.high + 1 == signal_width signals p.signal) h) in
              let width : span_of p.high p.low ≡ w =
              (let a = high in let b = low in let c = ap (signal_width signals) is in
              omega arith) in
              subst (λ k. value both E (piece_value right p) % 2 ^ k ≡
              with_piece signals p v old % 2 ^ k) width
              (piece_gives p lies.0
              ∙ sym (mod_twice (v / 2 ^ p.from) (span_of p.high p.low))
              ∙ ap (λ k. k % 2 ^ span_of p.high p.low)
              (sym (replaced_whole (signal_width signals p.signal) p.high p.low old
              (v / 2 ^ p.from) low high)))

          part : value both E (typed w (signal_of signals s).signed
              (mend s old_tree p.high p.low (piece_value right p))) % 2 ^ w
              ≡ with_piece signals p v old % 2 ^ w
          part =
              let signed = (signal_of signals s).signed in
              let x = value both E old_tree in
              let y = value both E (piece_value right p) in
              let lies_here = subst (λ k. p.high < signal_width signals k) is lies.1 in
              ap (λ k. extended signed k w (replaced_bits k p.high p.low x y) % 2 ^ w)
              (width_settled s inside)
              ∙ ap (λ k. k % 2 ^ w) (extended_same signed w (replaced_bits w p.high p.low x y))
              ∙ mod_twice (replaced_bits w p.high p.low x y) w
              ∙ ap (λ k. k % 2 ^ w) (replaced_same w p.high p.low x old y (v / 2 ^ p.from)
              (let a = lies.0 in let b = lies_here in omega arith) same (piece_gives p lies.0))
              ∙ ap (λ k. replaced_bits (signal_width signals k) p.high p.low old (v / 2 ^ p.from) %
              2 ^ w) (sym is)

          by_test : (b : Bool) → is_whole signals p ≡ b
              → value both E (cond b (piece_value right p)
              (typed w (signal_of signals s).signed
              (mend s old_tree p.high p.low (piece_value right p)))) % 2 ^ w
              ≡ with_piece signals p v old % 2 ^ w
          by_test true e = whole e
          by_test false e = part

      one_piece : (p : PieceForm) (old_tree : TypedTree) (old : ℕ) → Lies p
          → value both E old_tree % 2 ^ w ≡ old % 2 ^ w
          → value both E (with_piece_put signals right s old_tree p) % 2 ^ w
          ≡ cond (p.signal == s) (with_piece signals p v old) old % 2 ^ w
      one_piece p old_tree old lies same = by_test (p.signal == s) refl
        where
          by_test : (b : Bool) → (p.signal == s) ≡ b
              → value both E (cond (not b) old_tree (cond (is_whole signals p) (piece_value right p)
              (typed w (signal_of signals s).signed
              (mend s old_tree p.high p.low (piece_value right p))))) % 2 ^ w
              ≡ cond b (with_piece signals p v old) old % 2 ^ w
          by_test true e = own_piece p old_tree old (eqb-true p.signal s e) lies same
          by_test false e = same

      -- what is put for a signal is what its pieces make
      all_pieces : (pieces : List PieceForm) (old_tree : TypedTree) (old : ℕ)
          → ((p : PieceForm) → Contains pieces p → Lies p)
          → value both E old_tree % 2 ^ w ≡ old % 2 ^ w
          → value both E (fold (with_piece_put signals right s) old_tree pieces) % 2 ^ w ≡
          made_with v (pieces_of s pieces) old % 2 ^ w
      all_pieces [] old_tree old lie same = same
      all_pieces (p ∷ pieces) old_tree old lie same =
          all_pieces pieces (with_piece_put signals right s old_tree p)
          (cond (p.signal == s) (with_piece signals p v old) old)
          (λ q at. lie q (Contains-later p pieces q at))
          (one_piece p old_tree old (lie p (Contains-head p pieces)) same)
          ∙ ap (λ k. k % 2 ^ w) (one_more (p.signal == s) v p (pieces_of s pieces) old)

      wanted_gives : (place : Place) (old : ℕ) → E (copy_of signals s) ≡ old →
          value both E (wanted_name signals s place) % 2 ^ w ≡ old % 2 ^ w
      wanted_gives place old is =
          let signed = (signal_of signals s).signed in
          ap (λ k. extended signed k w (E (copy_of signals s)) % 2 ^ w) (width_copy s)
          ∙ ap (λ k. k % 2 ^ w) (extended_same signed w (E (copy_of signals s)))
          ∙ mod_twice (E (copy_of signals s)) w
          ∙ ap (λ k. k % 2 ^ w) is

      put_gives : (pieces : List PieceForm) (place : Place) (p : PieceForm)
          → ((q : PieceForm) → Contains pieces q → Lies q)
          → Contains pieces p → IsTrue (p.signal == s)
          → value both E (put_value signals pieces right s place) % 2 ^ w ≡
          made_with v (pieces_of s pieces) (E (copy_of signals s))
      put_gives pieces place p lie at own =
          all_pieces pieces (wanted_name signals s place) (E (copy_of signals s)) lie
          (wanted_gives place (E (copy_of signals s)) refl)
          ∙ mod-eq_of_lt (some_low v s (pieces_of s pieces) p (E (copy_of signals s))
          (λ q q_at. lie q (Contains-from_filter (λ (x : PieceForm).
          x.signal == s) pieces q q_at).1)
          (λ q q_at. eqb-true q.signal s (Contains-from_filter (λ (x : PieceForm).
          x.signal == s) pieces q q_at).0)
          (Contains-filter (λ (x : PieceForm). x.signal == s) pieces p at own))

  -- ---- an expression with an assignment put in

  module _ (b : Bool) (pieces : List PieceForm) (place : Place) (blocking : Bool)
      (right : TypedTree) (now : State) (z : Environment ℕ)
      (kind : IsTrue (all_are b (assign pieces place blocking right)))
      (sound : IsTrue (statement_sound signals (assign pieces place blocking right)))
      (way : TypedTree) (gives : value both (beside z (running b now)) way ≡
      value signals now.0 right) where
    abbrev later : State
    later = run signals (assign pieces place blocking right) now

    abbrev E : Environment ℕ
    E = beside z (running b now)

    abbrev F : Environment ℕ
    F = beside z (running b later)

    fits_all : (p : PieceForm) → Contains pieces p → IsTrue (piece_fits signals right p)
    fits_all p at = from_all (piece_fits signals right) pieces p
        (second_of (well_formed signals right) (list_all (piece_fits signals right) pieces)
        sound) at

    lie : (p : PieceForm) → Contains pieces p → Lies p
    lie p at = piece_lies_inside signals right p (fits_all p at)

    piece_is_signal : (p : PieceForm) → Contains pieces p → p.signal < length signals
    piece_is_signal p at = ltb-true p.signal (length signals) (first_of (is_signal signals p.signal)
        (is_part_of (signal_width signals p.signal) (expression_width right - p.from) p.high p.low)
        (fits_all p at))

    module _ (r : ReadForm) where
      abbrev t : ℕ
      t = r.signal

      abbrev s : ℕ
      s = original signals t

      abbrev on : PieceForm → Bool
      on piece = piece.signal == s

      abbrev GoodFor : Instead → Type 0
      GoodFor i =
          Good both both (pieces_put signals pieces way) E F (length signals) (λ k low. refl) r i

      copied : IsTrue (is_copy signals t) → IsTrue (list_any on pieces) →
          GoodFor (content s (put_value signals pieces way s r.place))
      copied copy some =
          let found = from_some on pieces some in
          let p = found.0 in
          let inside = subst (λ k.
          k < length signals) (eqb-true p.signal s found.2) (piece_is_signal p found.1) in
          let width = width_settled s inside in
          let at_copy : E (copy_of signals s) ≡ running b now s =
          cond_true (is_copy signals (copy_of signals s))
          (running b now (original signals (copy_of signals s))) (z (copy_of signals s))
          (copy_is_copy s)
          ∙ ap (running b now) (original_of_copy s) in (
            width ∙ sym (width_original t copy),
            ap (λ k. value both E (put_value signals pieces way s r.place) % 2 ^ k) width
                ∙ put_gives E way (value signals now.0 right) gives s inside pieces r.place p lie
                found.1 found.2
                ∙ ap (made_with (value signals now.0 right) (pieces_of s pieces)) at_copy
                ∙ sym (assign_runs b pieces place blocking right now s kind)
                ∙ sym (cond_true (is_copy signals t) (running b later s) (z t) copy),
          )

      untouched : IsTrue (is_copy signals t) → IsFalse (list_any on pieces) → GoodFor (name t)
      untouched copy none = (
        refl,
        cond_true (is_copy signals t) (running b now s) (z t) copy
            ∙ sym (running_leaves b (assign pieces place blocking right) s kind none now)
            ∙ sym (cond_true (is_copy signals t) (running b later s) (z t) copy),
      )

      settled : IsFalse (is_copy signals t) → GoodFor (name t)
      settled no_copy = (
        refl,
        cond_false (is_copy signals t) (running b now s) (z t) no_copy
            ∙ sym (cond_false (is_copy signals t) (running b later s) (z t) no_copy),
      )

      by_test : (c : Bool) → is_copy signals t ≡ c → (d : Bool) → list_any on pieces ≡ d
          → GoodFor (cond (c && d) (content s (put_value signals pieces way s r.place)) (name t))
      by_test true copy true some = copied copy some
      by_test true copy false none = untouched copy none
      by_test false no_copy d e = settled no_copy

      put_good : GoodFor (pieces_put signals pieces way r)
      put_good = by_test (is_copy signals t) refl (list_any on pieces) refl

    -- with the assignment put in, an expression has the value that it has after the run
    pub put_same : (t : TypedTree) → IsTrue (held_below (length signals) t)
        → value both (beside z (running b now)) (put_in signals pieces way t) ≡
        value both (beside z (running b later)) t
    put_same t held =
        exchanged_value both both (pieces_put signals pieces way) E F (length signals) (λ s low.
        refl) t held (λ r at. put_good r)
