-- The rank of a signal: how many combinational signals have a lower depth. It rises where depth
-- rises, and stays below the number of combinational signals.
use Rattle.std.proofs.Common.{◌≡◌, ℕ, ◌<◌, ◌≤◌, Bool, true, false, not, ◌||◌, ltb, cond, List, []}
use Rattle.std.proofs.Common.{◌∷◌, length, ⊎_elim, refl, sym, subst, arith, lt-ltb, le-ltb}
use Rattle.std.proofs.Common.{ltb-true, le_refl}
use Rattle.std.specs.Prelude.{filter, Contains, IsTrue}
use Rattle.std.proofs.lemmas.Bool.{false≢true, or_from, not_from_false}
use Rattle.sv_system.specs.System.{System}
use Rattle.sv_system.specs.Facts.{IsCombinational}
use Rattle.sv_system.specs.Schedules.{combinational}
use Rattle.sv_system.proofs.Lists.{Contains-nil, Contains-cases, Contains-filter}

module _ {X : Type 0} (p q : X → Bool) (weaker : (x : X) → IsTrue (p x) → IsTrue (q x)) where
  -- the length with one more element, where each test keeps it
  kept_le : (b c : Bool) (x : X) (xs ys : List X) → (IsTrue b → IsTrue c) → length xs ≤ length ys
      → length (cond b (x ∷ xs) xs) ≤ length (cond c (x ∷ ys) ys)
  kept_le true true x xs ys h le = omega arith
  kept_le true false x xs ys h le = absurd (false≢true (h refl))
  kept_le false true x xs ys h le = omega arith
  kept_le false false x xs ys h le = le

  kept_lt : (b c : Bool) (x : X) (xs ys : List X) → b ≡ false → IsTrue c → length xs ≤ length ys
      → length (cond b (x ∷ xs) xs) < length (cond c (x ∷ ys) ys)
  kept_lt true c x xs ys b_is c_is le = absurd (false≢true (sym b_is))
  kept_lt false true x xs ys b_is c_is le = omega arith
  kept_lt false false x xs ys b_is c_is le = absurd (false≢true c_is)

  kept_more : (b c : Bool) (x : X) (xs ys : List X) → (IsTrue b → IsTrue c) → length xs < length ys
      → length (cond b (x ∷ xs) xs) < length (cond c (x ∷ ys) ys)
  kept_more true true x xs ys h lt = omega arith
  kept_more true false x xs ys h lt = absurd (false≢true (h refl))
  kept_more false true x xs ys h lt = omega arith
  kept_more false false x xs ys h lt = lt

  -- a weaker test keeps at least as many
  pub filter_le : (xs : List X) → length (filter p xs) ≤ length (filter q xs)
  filter_le [] = omega arith
  filter_le (x ∷ xs) = kept_le (p x) (q x) x (filter p xs) (filter q xs) (weaker x) (filter_le xs)

  -- and more, where it keeps an element that the other drops
  pub filter_lt : (xs : List X) (x : X) → Contains xs x → p x ≡ false → IsTrue (q x) →
      length (filter p xs) < length (filter q xs)
  filter_lt [] x at drops keeps = absurd (Contains-nil x at)
  filter_lt (y ∷ xs) x at drops keeps = ⊎_elim
      (λ e. kept_lt (p y) (q y) y (filter p xs) (filter q xs)
      (subst (λ z. p z ≡ false) (sym e) drops) (subst (λ z. IsTrue (q z)) (sym e) keeps)
      (filter_le xs))
      (λ inside. kept_more (p y) (q y) y (filter p xs) (filter q xs) (weaker y)
      (filter_lt xs x inside drops keeps))
      (Contains-cases y xs x at)

all_kept : {X : Type 0} (xs : List X) → length (filter (λ x. true) xs) ≡ length xs
all_kept [] = refl
all_kept (x ∷ xs) = omega (arith, all_kept xs)

module _ {Signal Point : Type 0} (system : System Signal Point) (depth : Signal → ℕ) where
  pub rank : Signal → ℕ
  rank s = length (filter (λ t. ltb (depth t) (depth s)) (combinational system))

  listed : (s : Signal) → IsCombinational system s → Contains (combinational system) s
  listed s is =
      Contains-filter (λ t. not (system.is_input t || system.is_register t)) system.signals s
      is.among
      (not_from_false (system.is_input s || system.is_register s)
      (or_from (system.is_input s) (system.is_register s) is.no_input is.no_register))

  pub rank_rises : (t s : Signal) → IsCombinational system t → depth t < depth s → rank t < rank s
  unfolding rank
  rank_rises t s is lower = filter_lt (λ r. ltb (depth r) (depth t)) (λ r. ltb (depth r) (depth s))
      (λ r below. let lt = ltb-true (depth r) (depth t) below in
      lt-ltb (depth r) (depth s) (omega arith))
      (combinational system) t (listed t is) (le-ltb (depth t) (depth t) (le_refl (depth t)))
      (lt-ltb (depth t) (depth s) lower)

  pub rank_below : (s : Signal) → IsCombinational system s → rank s < length (combinational system)
  unfolding rank
  rank_below s is = subst (λ n. rank s < n) (all_kept (combinational system))
      (filter_lt (λ r. ltb (depth r) (depth s)) (λ r. true) (λ r below. refl)
      (combinational system) s (listed s is) (le-ltb (depth s) (depth s) (le_refl (depth s))) refl)
