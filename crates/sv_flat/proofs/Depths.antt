-- The depths of a design whose signals have an order of reads: counting them up comes to an end,
-- and reads go to lower depth.
use Rattle.std.proofs.Common.{◌≡◌, ℕ, zero, suc, ◌<◌, ◌≤◌, max, ltb-true, ltb-false, nat_lt}
use Rattle.std.proofs.Common.{le_trans, Bool, true, false, cond, not, ◌&&◌, ◌||◌, ◌==◌, List, []}
use Rattle.std.proofs.Common.{◌∷◌, length, map, ⊎_elim, refl, sym, ap, subst, arith, zero-add, ◌∙◌}
use Rattle.std.proofs.Common.{fold, replicate}
use Rattle.std.specs.Prelude.{Contains, filter, IsTrue, IsFalse, slice_index}
use Rattle.std.specs.List.{list_all, range_with_len}
use Rattle.std.proofs.lemmas.Bool.{false≢true, or_right}
use Rattle.std.proofs.lemmas.List.FromFn.{length-range_with_len, length-map-range_with_len}
use Rattle.std.proofs.lemmas.List.FromFn.{get_or-map-range_with_len}
use Rattle.sv_system.proofs.Lists.{Contains-head, Contains-later, Contains-nil, Contains-cases}
use Rattle.sv_system.proofs.Lists.{Contains-map, Contains-from_map}
use Rattle.sv_system.proofs.Fronts.{placed as all_placed, is_placed}
use Rattle.sv_system.proofs.Ranks.{filter_le, filter_lt}
use Rattle.sv_flat.specs.Design.{FlatDesign}
use Rattle.sv_flat.specs.Sets.{holds}
use Rattle.sv_flat.specs.Reads.{is_combinational, is_read_for, reads_for, above, depths_within}
use Rattle.sv_flat.specs.Reads.{depth}
use Rattle.sv_flat.specs.Loops.{reads_only_before, HasReadOrder}
use Rattle.sv_flat.specs.Processes.{signals_that}
use Rattle.sv_flat.proofs.LeastSets.{either_way, range_has, all_kept, holds-from_Contains}
use Rattle.sv_flat.proofs.LeastSets.{Contains-from_holds, in_those}

-- ---- tests

pub first_of : (a b : Bool) → IsTrue (a && b) → IsTrue a
first_of true b h = refl
first_of false b h = absurd (false≢true h)

pub second_of : (a b : Bool) → IsTrue (a && b) → IsTrue b
second_of true b h = h
second_of false b h = absurd (false≢true h)

right_of : (a b : Bool) → IsTrue a → IsTrue (not a || b) → IsTrue b
right_of true b h either = either
right_of false b h either = absurd (false≢true h)

-- ---- lists

fold_at_least : (xs : List ℕ) (a : ℕ) → a ≤ fold max a xs
fold_at_least [] a = omega arith
fold_at_least (x ∷ xs) a = let le = fold_at_least xs (max a x) in omega arith

-- each number of a list is at most the greatest
fold_has : (xs : List ℕ) (a x : ℕ) → Contains xs x → x ≤ fold max a xs
fold_has [] a x at = absurd (Contains-nil x at)
fold_has (y ∷ xs) a x at = ⊎_elim
    (λ e. let le = fold_at_least xs (max a y) in omega (arith, e))
    (λ inside. fold_has xs (max a y) x inside)
    (Contains-cases y xs x at)

fold_below : (xs : List ℕ) (a b : ℕ) → a ≤ b → ((x : ℕ) → Contains xs x → x ≤ b) → fold max a xs ≤ b
fold_below [] a b le all = le
fold_below (y ∷ xs) a b le all =
    let here = all y (Contains-head y xs) in
    fold_below xs (max a y) b (omega arith) (λ x at. all x (Contains-later y xs x at))

map_same : (f g : ℕ → ℕ) (xs : List ℕ) → ((x : ℕ) → Contains xs x → f x ≡ g x) → map f xs ≡ map g xs
map_same f g [] same = refl
map_same f g (x ∷ xs) same =
    subst (λ z. f x ∷ map f xs ≡ z ∷ map g xs) (same x (Contains-head x xs))
    (ap (λ zs. f x ∷ zs) (map_same f g xs (λ y at. same y (Contains-later x xs y at))))

-- each member of a list that passes as a whole passes
pub from_all : {X : Type 0} (test : X → Bool) (xs : List X) (x : X) → IsTrue (list_all test xs) →
    Contains xs x → IsTrue (test x)
from_all test [] x h at = absurd (Contains-nil x at)
from_all test (y ∷ xs) x h at = ⊎_elim
    (λ e. subst (λ z. IsTrue (test z)) e (first_of (test y) (list_all test xs) h))
    (λ inside. from_all test xs x (second_of (test y) (list_all test xs) h) inside)
    (Contains-cases y xs x at)

zeros : (n s : ℕ) → slice_index (replicate n 0) s ≡ 0
zeros zero s = refl
zeros (suc n) zero = refl
zeros (suc n) (suc s) = zeros n s

none_past : (xs : List ℕ) (s : ℕ) → length xs ≤ s → slice_index xs s ≡ 0
none_past [] s le = refl
none_past (x ∷ xs) zero le = absurd (omega arith)
none_past (x ∷ xs) (suc s) le = none_past xs s (omega arith)

-- ---- depths

module _ (design : FlatDesign) where
  abbrev n : ℕ
  n = length design.signals

  -- a signal's depth, from chains of so many reads
  abbrev pub within : ℕ → ℕ → ℕ
  within t s = slice_index (depths_within design t) s

  abbrev new_depth : ℕ → ℕ → ℕ
  new_depth t s = cond (is_combinational design s) (above (map (within t) (reads_for design s))) 0

  pub is_below : (s : ℕ) → IsTrue (is_combinational design s) → s < n
  is_below s h = ltb-true s n (first_of (nat_lt s n) _ h)

  next_at : (t s : ℕ) → s < n → within (suc t) s ≡ new_depth t s
  next_at t s below = get_or-map-range_with_len (new_depth t) 0 n s s 0 below (zero-add s)

  next_of : (t s : ℕ) → IsTrue (is_combinational design s) →
      within (suc t) s ≡ above (map (within t) (reads_for design s))
  next_of t s h =
      next_at t s (is_below s h)
      ∙ ap (λ b. cond b (above (map (within t) (reads_for design s))) 0) h

  -- a signal that is not combinational has depth 0, however far the count has come
  none_for_others : (t s : ℕ) → IsFalse (is_combinational design s) → within t s ≡ 0
  none_for_others zero s h = zeros n s
  none_for_others (suc t) s h = ⊎_elim
      (λ below. next_at t s (ltb-true s n below)
      ∙ ap (λ b. cond b (above (map (within t) (reads_for design s))) 0) h)
      (λ past. none_past (depths_within design (suc t)) s
      (subst (λ l. l ≤ s) (sym (length-map-range_with_len (new_depth t) 0 n)) (ltb-false s n past)))
      (either_way (nat_lt s n))

  -- how many signals are in a list
  abbrev count : List ℕ → ℕ
  count first = length (filter (holds first) (range_with_len 0 n))

  -- from the number of listed signals on, one more read changes the depth of none of them
  abbrev Settled : List ℕ → Type 0
  Settled first =
      (s : ℕ) → Contains first s → IsTrue (is_combinational design s) → (t : ℕ) → count first ≤ t
      → within t s ≡ within (suc t) s

  also_holds : (first : List ℕ) (s k : ℕ) → IsTrue (holds first k) → IsTrue (holds (s ∷ first) k)
  also_holds first s k h = or_right (s == k) (holds first k) h

  same_reads : (first : List ℕ) (s t : ℕ) → Settled first → count first ≤ t
      → IsTrue (list_all (λ r.
      not (is_combinational design r) || holds first r) (reads_for design s))
      → map (within t) (reads_for design s) ≡ map (within (suc t)) (reads_for design s)
  same_reads first s t settled many placed =
      map_same (within t) (within (suc t)) (reads_for design s) (λ r at. ⊎_elim
      (λ comb. settled r
      (Contains-from_holds first r (right_of (is_combinational design r) (holds first r) comb
      (from_all (λ z. not (is_combinational design z) || holds first z) (reads_for design s) r
      placed at)))
      comb t many)
      (λ other. none_for_others t r other ∙ sym (none_for_others (suc t) r other))
      (either_way (is_combinational design r)))

  next_settled : (first : List ℕ) (s t : ℕ) → Settled first → count first < t
      → IsTrue (list_all (λ r.
      not (is_combinational design r) || holds first r) (reads_for design s))
      → IsTrue (is_combinational design s) → within t s ≡ within (suc t) s
  next_settled first s zero settled many placed comb = absurd (omega arith)
  next_settled first s (suc t) settled many placed comb =
      next_of t s comb
      ∙ ap above (same_reads first s t settled (omega arith) placed)
      ∙ sym (next_of (suc t) s comb)

  -- a signal that reads only signals before it joins them
  one_more : (first : List ℕ) (s : ℕ) → Settled first
      → IsTrue (list_all (λ r.
      not (is_combinational design r) || holds first r) (reads_for design s))
      → Settled (s ∷ first)
  one_more first s settled placed z at comb t many =
      let fewer = filter_le (holds first) (holds (s ∷ first)) (also_holds first s)
      (range_with_len 0 n) in
      ⊎_elim
      (λ e. ⊎_elim
      (λ old. settled z (Contains-from_holds first z old) comb t (le_trans fewer many))
      (λ new.
      let more = filter_lt (holds first) (holds (s ∷ first)) (also_holds first s)
      (range_with_len 0 n) z
      (range_has n z (is_below z comb)) new (holds-from_Contains (s ∷ first) z at) in
      subst (λ y. within t y ≡ within (suc t) y) e
      (next_settled first s t settled (le_trans more many) placed
      (subst (λ y. IsTrue (is_combinational design y)) (sym e) comb)))
      (either_way (holds first z)))
      (λ inside. settled z inside comb t (le_trans fewer many))
      (Contains-cases s first z at)

  all_settled : (first signals : List ℕ) → Settled first →
      IsTrue (reads_only_before design first signals) → Settled (all_placed first signals)
  all_settled first [] settled h = settled
  all_settled first (s ∷ signals) settled h =
      let here = first_of (list_all (λ r.
      not (is_combinational design r) || holds first r) (reads_for design s))
      (reads_only_before design (s ∷ first) signals) h in
      let later = second_of
      (list_all (λ r. not (is_combinational design r) || holds first r) (reads_for design s))
      (reads_only_before design (s ∷ first) signals) h in
      all_settled (s ∷ first) signals (one_more first s settled here) later

  few : (first : List ℕ) → count first ≤ n
  few first =
      let le = filter_le (holds first) (λ k. true) (λ k h. refl) (range_with_len 0 n) in
      let all = all_kept (range_with_len 0 n) in
      let size = length-range_with_len 0 n in
      omega arith

  module _ (ordered : HasReadOrder design) where
    listed : (s : ℕ) → IsTrue (is_combinational design s) → Contains ordered.0 s
    listed s comb = Contains-from_holds ordered.0 s
        (from_all (holds ordered.0) (signals_that design (is_combinational design)) s
        (first_of (list_all (holds ordered.0) (signals_that design (is_combinational design)))
        (reads_only_before design [] ordered.0) ordered.1)
        (in_those n (is_combinational design) s (is_below s comb) comb))

    -- the count has come to its end
    ended : (s : ℕ) → IsTrue (is_combinational design s) → within n s ≡ within (suc n) s
    ended s comb = all_settled [] ordered.0 (λ z at. absurd (Contains-nil z at))
        (second_of (list_all (holds ordered.0) (signals_that design (is_combinational design)))
        (reads_only_before design [] ordered.0) ordered.1)
        s (is_placed [] ordered.0 s (listed s comb)) comb n (few (all_placed [] ordered.0))

    -- a combinational signal's depth is one more than the greatest depth of what is read for it
    pub depth_above_reads : (s : ℕ) → IsTrue (is_combinational design s) →
        depth design s ≡ above (map (depth design) (reads_for design s))
    depth_above_reads s comb = ended s comb ∙ next_of n s comb

    -- reads go to lower depth
    pub reads_are_lower : (s t : ℕ) → IsTrue (is_combinational design s) → t < n
        → IsTrue (is_read_for design s t)
        → depth design t < depth design s
    reads_are_lower s t comb below reads =
        let at = Contains-map (depth design) (reads_for design s) t
        (in_those n (is_read_for design s) t below reads) in
        let le = fold_has (map (depth design) (reads_for design s)) 0 (depth design t) at in
        let is = depth_above_reads s comb in
        omega arith

  -- every other signal has depth 0
  pub others_have_none : (s : ℕ) → IsFalse (is_combinational design s) → depth design s ≡ 0
  others_have_none s h = none_for_others n s h

  at_most_new : (t s : ℕ) → ((r : ℕ) → within t r ≤ t) → within (suc t) s ≤ suc t
  at_most_new t s before = ⊎_elim
      (λ comb.
      let is = next_of t s comb in
      let le = fold_below (map (within t) (reads_for design s)) 0 t (omega arith) (λ x at.
      let from = Contains-from_map (within t) (reads_for design s) x at in
      subst (λ z. z ≤ t) from.2 (before from.0)) in
      omega arith)
      (λ other. let is = none_for_others (suc t) s other in omega arith)
      (either_way (is_combinational design s))

  at_most : (t s : ℕ) → within t s ≤ t
  at_most zero s = let is = zeros n s in omega arith
  at_most (suc t) s = at_most_new t s (at_most t)

  -- no depth is greater than the number of signals
  pub depth_at_most : (s : ℕ) → depth design s ≤ n
  depth_at_most s = at_most n s
