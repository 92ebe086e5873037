-- Where a walk over pairs of points ends.
use Rattle.std.proofs.Common.{◌≡◌, ℕ, zero, suc, ◌+◌, ◌<◌, ◌≤◌, ◌⊎◌, inl, inr, ◌↔◌, Bool, true}
use Rattle.std.proofs.Common.{false, List, [], ◌∷◌, ◌++◌, length, map, refl, sym, ◌∙◌, subst, arith}
use Rattle.std.specs.Prelude.{Result, Ok, Err, flat_map, slice_index_or}
use Rattle.std.specs.List.{range_with_len}
use Rattle.std.proofs.lemmas.Bool.{cases_eq, false_from_ne_true}
use Rattle.sv_lattice.specs.Flows.{EachPair, IsFirstWithout}
use Rattle.sv_elab_rules.specs.Walks.{WalkStep, Steps, ask, each, then_walk}
use Rattle.sv_elab_rules.specs.CaseChains.{numbers_below}
use Rattle.sv_elab_rules.specs.Lattices.{pair_steps}
use Rattle.sv_elab_rules.proofs.WalkLemmas.{end_after, end_broken}

-- ---- what stands in turn

-- of what is walked from a number on, so many numbers: no number ends it well, the first that
-- passes leaves it to the rest, and the first that breaks a rule ends it
record InTurn (all : ℕ → ℕ → Steps) (one : ℕ → Steps) : Type 0 where
  pub none : (c : ℕ) → (all c zero).end ≡ Ok tt
  pub after : (c m : ℕ) → (one c).end ≡ Ok tt → (all c (suc m)).end ≡ (all (c + 1) m).end
  pub stops : (c m : ℕ) (s : WalkStep) → (one c).end ≡ Err s → (all c (suc m)).end ≡ Err s

module _ {all : ℕ → ℕ → Steps} {one : ℕ → Steps} (turn : InTurn all one) where
  all_done : (c m : ℕ) → ((b : ℕ) → c ≤ b → b < c + m → (one b).end ≡ Ok tt)
      → (all c m).end ≡ Ok tt
  all_done c zero h = turn.none c
  all_done c (suc m) h =
      turn.after c m (h c (omega arith) (omega arith))
      ∙ all_done (c + 1) m (λ b p q. h b (omega arith) (omega arith))

  all_broken : (c m b : ℕ) (s : WalkStep) → c ≤ b → b < c + m
      → ((j : ℕ) → c ≤ j → j < b → (one j).end ≡ Ok tt)
      → (one b).end ≡ Err s → (all c m).end ≡ Err s
  all_broken c zero b s p q before h = absurd (omega arith)
  all_broken c (suc m) b s p q before h =
      by (cases_eq c b) (λ lt.
      all_broken (c + 1) m b s lt (omega arith) (λ j u v. before j (omega arith) v) h)
    where
      by : (c ≡ b) ⊎ (c ≡ b → ⊥) → (c + 1 ≤ b → (all (c + 1) m).end ≡ Err s)
          → (all c (suc m)).end ≡ Err s
      by (inl e) rest = turn.stops c m s (subst (λ k. (one k).end ≡ Err s) (sym e) h)
      by (inr ne) rest =
          turn.after c m (before c (omega arith) (omega arith)) ∙ rest (omega arith)

-- ---- a walk over a list

module _ {X : Type 0} (f : X → Steps) where
  each_after : (x : X) (xs : List X) → (f x).end ≡ Ok tt → (each f (x ∷ xs)).end ≡ (each f xs).end
  unfolding each
  each_after x xs h = end_after (f x) (λ _. each f xs) tt h

  each_broken : (x : X) (xs : List X) (s : WalkStep) → (f x).end ≡ Err s
      → (each f (x ∷ xs)).end ≡ Err s
  unfolding each
  each_broken x xs s h = end_broken (f x) (λ _. each f xs) s h

  each_none : (each f []).end ≡ Ok tt
  unfolding each
  each_none = refl

  append_after : (xs ys : List X) → (each f xs).end ≡ Ok tt →
      (each f (xs ++ ys)).end ≡ (each f ys).end
  unfolding each
  append_after [] ys h = refl
  append_after (x ∷ xs) ys h = by (f x).end refl h (λ k. append_after xs ys k)
    where
      by : (r : Result (Unit {0}) WalkStep) → (f x).end ≡ r
          → (then_walk (f x).passed r (λ _. each f xs)).end ≡ Ok tt
          → ((each f xs).end ≡ Ok tt → (each f (xs ++ ys)).end ≡ (each f ys).end)
          → (each f (x ∷ (xs ++ ys))).end ≡ (each f ys).end
      by (Ok u) e k rest = each_after x (xs ++ ys) e ∙ rest k
      by (Err s) e k rest = absurd (cc k)

  append_broken : (xs ys : List X) (s : WalkStep) → (each f xs).end ≡ Err s →
      (each f (xs ++ ys)).end ≡ Err s
  unfolding each
  append_broken [] ys s h = absurd (cc h)
  append_broken (x ∷ xs) ys s h = by (f x).end refl h (λ k. append_broken xs ys s k)
    where
      by : (r : Result (Unit {0}) WalkStep) → (f x).end ≡ r
          → (then_walk (f x).passed r (λ _. each f xs)).end ≡ Err s
          → ((each f xs).end ≡ Err s → (each f (xs ++ ys)).end ≡ Err s)
          → (each f (x ∷ (xs ++ ys))).end ≡ Err s
      by (Ok u) e k rest = each_after x (xs ++ ys) e ∙ rest k
      by (Err t) e k rest = each_broken x (xs ++ ys) t e ∙ k

  -- ---- numbers in a row

  module _ (g : ℕ → X) where
    row_in_turn : InTurn (λ c m. each f (map g (range_with_len c m))) (λ b. f (g b))
    row_in_turn = record {
      none = λ c. each_none;
      after = λ c m h. each_after (g c) (map g (range_with_len (c + 1) m)) h;
      stops = λ c m s h. each_broken (g c) (map g (range_with_len (c + 1) m)) s h;
    }

    pub row_done : (c m : ℕ) → ((b : ℕ) → c ≤ b → b < c + m → (f (g b)).end ≡ Ok tt)
        → (each f (map g (range_with_len c m))).end ≡ Ok tt
    row_done c m h = all_done row_in_turn c m h

    pub row_broken : (c m b : ℕ) (s : WalkStep) → c ≤ b → b < c + m
        → ((j : ℕ) → c ≤ j → j < b → (f (g j)).end ≡ Ok tt)
        → (f (g b)).end ≡ Err s → (each f (map g (range_with_len c m))).end ≡ Err s
    row_broken c m b s p q before h = all_broken row_in_turn c m b s p q before h

  -- ---- rows of rows

  module _ (g : ℕ → List X) where
    rows_in_turn :
        InTurn (λ c m. each f (flat_map g (range_with_len c m))) (λ a. each f (g a))
    rows_in_turn = record {
      none = λ c. each_none;
      after = λ c m h. append_after (g c) (flat_map g (range_with_len (c + 1) m)) h;
      stops = λ c m s h. append_broken (g c) (flat_map g (range_with_len (c + 1) m)) s h;
    }

    pub rows_done : (c m : ℕ) → ((a : ℕ) → c ≤ a → a < c + m → (each f (g a)).end ≡ Ok tt)
        → (each f (flat_map g (range_with_len c m))).end ≡ Ok tt
    rows_done c m h = all_done rows_in_turn c m h

    pub rows_broken : (c m a : ℕ) (s : WalkStep) → c ≤ a → a < c + m
        → ((j : ℕ) → c ≤ j → j < a → (each f (g j)).end ≡ Ok tt)
        → (each f (g a)).end ≡ Err s → (each f (flat_map g (range_with_len c m))).end ≡ Err s
    rows_broken c m a s p q before h = all_broken rows_in_turn c m a s p q before h

-- ---- pairs of points

asked_ok : (b : Bool) (s : WalkStep) → b ≡ true → (ask b s).end ≡ Ok tt
asked_ok b s h = rw h refl

asked_err : (b : Bool) (s : WalkStep) → b ≡ false → (ask b s).end ≡ Err s
asked_err b s h = rw h refl

module _ (test : ℕ → ℕ → Bool) (broken : (a b : List ℕ) → WalkStep) (points : List (List ℕ))
    (Q : ℕ → ℕ → Type 0) (same : EachPair (length points) (λ a b. (test a b ≡ true) ↔ Q a b)) where
  step_of : ℕ × ℕ → Steps
  step_of pair =
      ask (test pair.0 pair.1)
      (broken (slice_index_or points pair.0 []) (slice_index_or points pair.1 []))

  pub pairs_done : EachPair (length points) Q → (pair_steps test broken points).end ≡ Ok tt
  unfolding pair_steps step_of
  pairs_done holds =
      rows_done step_of (λ a. map (λ b. (a, b)) (numbers_below (length points))) 0 (length points)
      (λ a p q. row_done step_of (λ b. (a, b)) 0 (length points)
      (λ b u v. asked_ok (test a b) _
      ((same a b (omega arith) (omega arith)).1 (holds a b (omega arith) (omega arith)))))

  pub pairs_broken : (a b : ℕ) → IsFirstWithout (length points) Q a b
      → (pair_steps test broken points).end ≡
      Err (broken (slice_index_or points a []) (slice_index_or points b []))
  unfolding pair_steps step_of
  pairs_broken a b first =
      rows_broken step_of (λ a. map (λ b. (a, b)) (numbers_below (length points))) 0 (length points)
      a _ (omega arith) (omega (arith, first.first_is_point))
      (λ c p q. row_done step_of (λ b. (c, b)) 0 (length points)
      (λ d u v. let c_in : c < length points = omega (arith, first.first_is_point) in
      asked_ok (test c d) _
      ((same c d c_in (omega arith)).1 (first.before c d c_in (omega arith) (inl q)))))
      (row_broken step_of (λ b.
      (a, b)) 0 (length points) b _ (omega arith) (omega (arith, first.second_is_point))
      (λ d u v. let d_in : d < length points = omega (arith, first.second_is_point) in
      asked_ok (test a d) _
      ((same a d first.first_is_point d_in).1
      (first.before a d first.first_is_point d_in (inr (refl, v)))))
      (asked_err (test a b) _ (false_from_ne_true (test a b)
      (λ h. first.fails ((same a b first.first_is_point first.second_is_point).0 h)))))
