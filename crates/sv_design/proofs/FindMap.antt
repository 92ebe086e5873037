-- What `find_map` finds in a list.
use Rattle.std.proofs.Common.{◌≡◌, ℕ, ◌+◌, ◌<◌, List, length, get_or, Option, Some, None, ap, sym}
use Rattle.std.proofs.Common.{subst, ◌∙◌, arith, Bor}
use Rattle.std.proofs.iter.runs.Sources.{iter_runs}
use Rattle.std.proofs.lemmas.List.Elements.{Contains-get_or}
use Rattle.std.specs.Fn.{Called}
use Rattle.std.specs.Iterator.Runs.{Run, SomeRun, ItemsMapTo, AllItemsGive, IsFirstToGive}
use Rattle.std.specs.Iterator.Runs.{CallKeepsClosure}
use Rattle.std.specs.Option.{option_map}
use Rattle.std.specs.Prelude.{IsTrue, Contains, MatchOption, IfSome, IsSomeAnd}
use Rattle.std.specs.Slice.Iter.{iter_rest, iter_steps}
use Rattle.std.specs.declared.slice.Iter.{Iter}
use denote.Param.Members.{Mut}

-- the clause `runs` of `find_map`, of a slice
abbrev pub Searched : {X B F : Type 0} (g : Mut F (Bor X × Unit {0}) (Option B)) (f : F)
    → Iter X → Option B → Type 0
Searched {X} g f s r =
    SomeRun (iter_steps {A = X}) s (λ p.
    MatchOption r (IsTrue p.whole × AllItemsGive p g f None) (λ y.
    (i : ℕ) × (i < p.len) × (p.len ≡ i + 1) × IsFirstToGive p g f (Some y) None i))

module _ {X B : Type 0} (h : X → Option B) (xs : List X) where
  -- what a function has for one of the items, or it has nothing for any
  abbrev pub Finds : Option B → Type 0
  Finds None = (x : X) → Contains xs x → h x ≡ None
  Finds (Some y) = (x : X) × Contains xs x × (h x ≡ Some y)

  module _ {F : Type 0} {g : Mut F (Bor X × Unit {0}) (Option B)} (f : F)
      (keeps : CallKeepsClosure g f)
      (gives : (x : Bor X) (o : Option B) → Contains xs x.now → Called g f (x, tt) o f →
      h x.now ≡ o) where
    at_item : (o : Option (Bor X)) (x : X) (answer : Option B) → Contains xs x
        → option_map (λ y. y.now) o ≡ Some x → IfSome o (λ y. Called g f (y, tt) answer f)
        → h x ≡ answer
    at_item None x answer at e called = cc
    at_item (Some y) x answer at e called =
        let is : y.now ≡ x = cc in
        subst (λ z. h z ≡ answer) is (gives y answer (subst (Contains xs) (sym is) at) called)

    at_end : (o : Option (Bor X)) (y : B) (i : ℕ) → i < length xs
        → ((d : X) → option_map (λ z. z.now) o ≡ Some (get_or xs i d))
        → IsSomeAnd o (λ z. Called g f (z, tt) (Some y) f) → Finds (Some y)
    at_end None y i inside reads called = absurd called
    at_end (Some z) y i inside reads called =
        let e = reads z.now in
        let is : get_or xs i z.now ≡ z.now = cc in
        (z.now, (i, inside, is), gives z (Some y) (i, inside, is) called)

    module _ (p : Run (iter_steps {A = X})) (maps : ItemsMapTo p (λ y. y.now) xs) where
      found : (r : Option B) →
          MatchOption r (IsTrue p.whole × AllItemsGive p g f None) (λ y.
          (i : ℕ) × (i < p.len) × (p.len ≡ i + 1) × IsFirstToGive p g f (Some y) None i) →
          Finds r
      found None all = λ x at.
          let k = at.0 in
          subst (λ z. h z ≡ None) at.2
          (at_item (p.at k) (get_or xs k x) None (Contains-get_or xs k x at.1)
          (maps.2 k x (omega (arith, maps.1 all.0, at.1))) (all.1 keeps k))
      found (Some y) first =
          let i = first.0 in
          at_end (p.at i) y i (omega (arith, maps.0, first.1)) (λ d. maps.2 i d first.1)
          (first.3 keeps).0

    -- what `find_map` says over the list
    pub finds : {s : Iter X} → iter_rest s ≡ xs → (r : Option B) → Searched g f s r → Finds r
    finds rest r (p, starts, says) =
        found p
        (subst (ItemsMapTo p (λ y. y.now)) (ap iter_rest starts ∙ rest) (iter_runs p p.seen)) r says
