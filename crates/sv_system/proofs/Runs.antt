-- Drivers run one after the other, in the order of a list.
use Rattle.std.proofs.Common.{◌≡◌, ℕ, Bool, true, false, List, [], ◌∷◌, ◌++◌, map, ⊎_elim, refl, ap}
use Rattle.std.proofs.Common.{subst, ◌∙◌}
use Rattle.std.specs.Prelude.{Contains, IsTrue}
use Rattle.std.specs.List.{IsDistinct}
use Rattle.std.proofs.lemmas.Bool.{cases_Bool, cond-true, cond-false, cond_both, both_ways}
use Rattle.std.proofs.lemmas.List.{map-append}
use Rattle.std.proofs.lemmas.List.Elements.{All-from_recursion, All-contains, Contains-append_right}
use Rattle.std.proofs.lemmas.Map.Keys.{IsDistinct-head, IsDistinct-tail}
use Rattle.sv_system.specs.System.{Environment, put}
use Rattle.sv_system.specs.Facts.{Driver}
use Rattle.sv_system.proofs.Lists.{Contains-head, Contains-later, Contains-cases, Contains-nil}

abbrev pub targets : {Signal : Type 0} → List (Driver Signal) → List Signal
targets {Signal} drivers = map (λ (d : Driver Signal). d.target) drivers

-- the environment after one run of each driver
abbrev pub run : {Signal : Type 0} → (Signal → Signal → Bool) → List (Driver Signal) →
    Environment Signal → Environment Signal
run same [] e = e
run same (d ∷ ds) e = run same ds (put same d.target (d.value e) e)

-- a list cut before one of its elements
pub record CutAt {X : Type 0} (xs : List X) (x : X) : Type 0 where
  pub before : List X
  pub after : List X
  pub is : xs ≡ before ++ x ∷ after

module _ {X : Type 0} where
  pub cut_at : (xs : List X) (x : X) → Contains xs x → CutAt xs x
  cut_at [] x at = absurd (Contains-nil x at)
  cut_at (y ∷ xs) x at = ⊎_elim
      (λ e. record { before = []; after = xs; is = ap (λ z. z ∷ xs) e })
      (λ inside. let cut = cut_at xs x inside in
      record { before = y ∷ cut.before; after = cut.after; is = ap (λ zs. y ∷ zs) cut.is })
      (Contains-cases y xs x at)

module _ {Signal : Type 0} (same : Signal → Signal → Bool) where
  pub run-append : (before after : List (Driver Signal)) (e : Environment Signal) →
      run same (before ++ after) e ≡ run same after (run same before e)
  run-append [] after e = refl
  run-append (d ∷ before) after e = run-append before after (put same d.target (d.value e) e)

module _ {Signal : Type 0} (same : Signal → Signal → Bool) (same_is : (s t : Signal) →
    IsTrue (same s t) → s ≡ t) (is_same : (s : Signal) → same s s ≡ true) where
  pub put_at : (s : Signal) (n : ℕ) (e : Environment Signal) → put same s n e s ≡ n
  put_at s n e = cond-true (same s s) n (e s) (is_same s)

  -- a run leaves what no driver targets
  pub run_leaves : (ds : List (Driver Signal)) (e : Environment Signal) (s : Signal) →
      (Contains (targets ds) s → ⊥) → run same ds e s ≡ e s
  run_leaves [] e s apart = refl
  run_leaves (d ∷ ds) e s apart =
      run_leaves ds (put same d.target (d.value e) e) s (λ at.
      apart (Contains-later d.target (targets ds) s at))
      ∙ ⊎_elim
      (λ hit.
      absurd (apart (subst (Contains (d.target ∷ targets ds)) (same_is d.target s hit)
      (Contains-head d.target (targets ds)))))
      (λ miss. cond-false (same d.target s) (d.value e) (e s) miss)
      (cases_Bool (same d.target s))

  -- what has the value of the driver whose target it is
  pub put_same : (s t : Signal) (n : ℕ) (e : Environment Signal) → n ≡ e s → put same s n e t ≡ e t
  put_same s t n e is =
      cond_both (same s t) n (e t) (λ v. v ≡ e t) (λ hit.
      is ∙ ap e (same_is s t hit)) (λ miss. refl)

  -- the two parts of a list of distinct signals have none in common
  pub parts_apart : (xs ys : List Signal) → IsDistinct same (xs ++ ys) → (s : Signal) →
      Contains xs s → Contains ys s → ⊥
  parts_apart [] ys distinct s left right = Contains-nil s left
  parts_apart (x ∷ xs) ys distinct s left right = ⊎_elim
      (λ e.
      let all = All-from_recursion (λ y.
      same x y ≡ false) (xs ++ ys) (IsDistinct-head same x (xs ++ ys) distinct) in
      let apart = All-contains (λ y.
      same x y ≡ false) (xs ++ ys) s all (Contains-append_right xs ys s right) in
      both_ways (same x s) apart (subst (λ z. same x z ≡ true) e (is_same x)))
      (λ inside. parts_apart xs ys (IsDistinct-tail same x (xs ++ ys) distinct) s inside right)
      (Contains-cases x xs s left)

  pub distinct_rest : (xs ys : List Signal) → IsDistinct same (xs ++ ys) → IsDistinct same ys
  distinct_rest [] ys distinct = distinct
  distinct_rest (x ∷ xs) ys distinct =
      distinct_rest xs ys (IsDistinct-tail same x (xs ++ ys) distinct)

  -- a driver's target after all have run: the value at its turn
  module _ (before after : List (Driver Signal)) (d : Driver Signal)
      (distinct : IsDistinct same (targets (before ++ d ∷ after)))
      (start : Environment Signal) where
    at_turn : Environment Signal
    at_turn = run same before start

    cut_distinct : IsDistinct same (targets before ++ targets (d ∷ after))
    cut_distinct =
        subst (IsDistinct same) (map-append (λ (b : Driver Signal). b.target) before (d ∷ after))
        distinct

    pub final_target : run same (before ++ d ∷ after) start d.target ≡
        d.value (run same before start)
    final_target =
        ap (λ (e : Environment Signal). e d.target) (run-append same before (d ∷ after) start)
        ∙ run_leaves after (put same d.target (d.value (run same before start))
        (run same before start)) d.target
        (parts_apart (d.target ∷ []) (targets after)
        (distinct_rest (targets before) (targets (d ∷ after)) cut_distinct) d.target
        (Contains-head d.target []))
        ∙ put_at d.target (d.value (run same before start)) (run same before start)

    pub final_earlier : (s : Signal) → Contains (targets before) s →
        run same (before ++ d ∷ after) start s ≡ run same before start s
    final_earlier s at =
        ap (λ (e : Environment Signal). e s) (run-append same before (d ∷ after) start)
        ∙ run_leaves (d ∷ after) (run same before start) s
        (parts_apart (targets before) (targets (d ∷ after)) cut_distinct s at)
