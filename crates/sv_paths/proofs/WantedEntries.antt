-- The entries of names that are wanted, as a map of numbers.
use Rattle.std.proofs.Common.{◌≡◌, ℕ, ◌+◌, ◌<◌, ◌≤◌, Bool, true, false, cond, ◌||◌, ◌==◌}
use Rattle.std.proofs.Common.{List, [], ◌∷◌, map, Option, Some, None, nat_cmp, ⊎_elim}
use Rattle.std.proofs.Common.{refl, sym, ap, ap₂, subst, ◌∙◌, arith, eq-eqb, ne_eqb}
use Rattle.std.specs.Prelude.{is_some}
use Rattle.std.specs.BTreeMap.{insert_entry, is_at}
use Rattle.std.specs.List.{list_any}
use Rattle.std.specs.Map.{lookup, remove_entry}
use Rattle.std.specs.Ordering.{is_eq, match_ordering}
use Rattle.std.proofs.lemmas.Bool.{cases_eq, cases_lt, eqb-true, false≢true}
use Rattle.sv_paths.proofs.NumberSets.{compare_less, compare_equal, compare_greater}

beyond : (k n : ℕ) → (k ≡ n → ⊥) → n ≤ k → n < k
beyond k n other more =
    ⊎_elim (λ less. less) (λ back. absurd (other (omega arith))) (cases_lt n k)

pub at_is : (s k : ℕ) → is_at (nat_cmp s) k ≡ (k == s)
at_is s k = ⊎_elim
    (λ same. ap is_eq (compare_equal s k same) ∙ sym (eq-eqb k s (sym same)))
    (λ other. ⊎_elim
    (λ less. ap is_eq (compare_less s k less)
    ∙ sym (ne_eqb k s (λ e. absurd (omega arith))))
    (λ more. ap is_eq (compare_greater s k (beyond s k other more))
    ∙ sym (ne_eqb k s (λ e. other (sym e))))
    (cases_lt s k))
    (cases_eq s k)

-- what stands at a key
abbrev pub find : (key : ℕ) → List (ℕ × ℕ) → Option ℕ
find s [] = None
find s (e ∷ es) = cond (e.0 == s) (Some e.1) (find s es)

pub find_is : (s : ℕ) (es : List (ℕ × ℕ)) → lookup (is_at (nat_cmp s)) es ≡ find s es
find_is s [] = refl
find_is s (e ∷ es) = ap₂ (λ b o. cond b (Some e.1) o) (at_is s e.0) (find_is s es)

turned : {X : Type 0} (x y z : X) (b c : Bool) → (b ≡ true → c ≡ true → ⊥) →
    cond b x (cond c y z) ≡ cond c y (cond b x z)
turned x y z true true apart = absurd (apart refl refl)
turned x y z true false apart = refl
turned x y z false true apart = refl
turned x y z false false apart = refl

either_one : (b : Bool) (o : Option ℕ) → o ≡ cond b o o
either_one true o = refl
either_one false o = refl

-- the keys ascend, from a number on
abbrev pub From : ℕ → List (ℕ × ℕ) → Type 0
From b [] = Unit {0}
From b (e ∷ es) = (b ≤ e.0) × From (e.0 + 1) es

from_below : (a b : ℕ) (es : List (ℕ × ℕ)) → a ≤ b → From b es → From a es
from_below a b [] low from = tt
from_below a b (e ∷ es) low from = let high = from.0 in (omega arith, from.1)

none_below : (b s : ℕ) (es : List (ℕ × ℕ)) → From b es → s < b → find s es ≡ None
none_below b s [] from low = refl
none_below b s (e ∷ es) from low =
    let high = from.0 in
    ap₂ (λ c o. cond c (Some e.1) o)
    (ne_eqb e.0 s (λ same. absurd (omega arith)))
    (none_below (e.0 + 1) s es from.1 (omega arith))

module _ (k v : ℕ) where
  put_less : (e : ℕ × ℕ) (es : List (ℕ × ℕ)) → k < e.0 →
      insert_entry nat_cmp (e ∷ es) k v ≡ (k, v) ∷ e ∷ es
  put_less e es h = ap (λ o. match_ordering o ((k, v) ∷ e ∷ es) ((e.0, v) ∷ es)
      (e ∷ insert_entry nat_cmp es k v)) (compare_less k e.0 h)

  put_equal : (e : ℕ × ℕ) (es : List (ℕ × ℕ)) → k ≡ e.0 →
      insert_entry nat_cmp (e ∷ es) k v ≡ (e.0, v) ∷ es
  put_equal e es h = ap (λ o. match_ordering o ((k, v) ∷ e ∷ es) ((e.0, v) ∷ es)
      (e ∷ insert_entry nat_cmp es k v)) (compare_equal k e.0 h)

  put_greater : (e : ℕ × ℕ) (es : List (ℕ × ℕ)) → e.0 < k →
      insert_entry nat_cmp (e ∷ es) k v ≡ e ∷ insert_entry nat_cmp es k v
  put_greater e es h = ap (λ o. match_ordering o ((k, v) ∷ e ∷ es) ((e.0, v) ∷ es)
      (e ∷ insert_entry nat_cmp es k v)) (compare_greater k e.0 h)

  pub from_put : (b : ℕ) (es : List (ℕ × ℕ)) → b ≤ k → From b es →
      From b (insert_entry nat_cmp es k v)
  from_put b [] low from = (low, tt)
  from_put b (e ∷ es) low from = ⊎_elim
      (λ same. subst (From b) (sym (put_equal e es same)) (from.0, from.1))
      (λ other. ⊎_elim
      (λ less. subst (From b) (sym (put_less e es less)) (low, (omega arith, from.1)))
      (λ more. let after = beyond k e.0 other more in
      subst (From b) (sym (put_greater e es after))
      (from.0, from_put (e.0 + 1) es (omega arith) from.1))
      (cases_lt k e.0))
      (cases_eq k e.0)

  pub find_put : (s : ℕ) (es : List (ℕ × ℕ)) →
      find s (insert_entry nat_cmp es k v) ≡ cond (k == s) (Some v) (find s es)
  find_put s [] = refl
  find_put s (e ∷ es) = ⊎_elim
      (λ same. ap (find s) (put_equal e es same)
      ∙ ap (λ y. cond (y == s) (Some v) (find s es)) (sym same)
      ∙ twice (k == s)
      ∙ ap (λ y. cond (k == s) (Some v) (cond (y == s) (Some e.1) (find s es))) same)
      (λ other. ⊎_elim
      (λ less. ap (find s) (put_less e es less))
      (λ more. ap (find s) (put_greater e es (beyond k e.0 other more))
      ∙ ap (λ o. cond (e.0 == s) (Some e.1) o) (find_put s es)
      ∙ turned (Some e.1) (Some v) (find s es) (e.0 == s) (k == s)
      (λ one two. other (eqb-true k s two ∙ sym (eqb-true e.0 s one))))
      (cases_lt k e.0))
      (cases_eq k e.0)
    where
      twice : (b : Bool)
          → cond b (Some v) (find s es) ≡ cond b (Some v) (cond b (Some e.1) (find s es))
      twice true = refl
      twice false = refl

module _ (k : ℕ) where
  abbrev test : ℕ → Bool
  test = is_at (nat_cmp k)

  pub from_removed : (b : ℕ) (es : List (ℕ × ℕ)) → From b es → From b (remove_entry test es)
  from_removed b [] from = tt
  from_removed b (e ∷ es) from =
      by_test (test e.0) (from_removed (e.0 + 1) es from.1)
    where
      by_test : (c : Bool) → From (e.0 + 1) (remove_entry test es)
          → From b (cond c es (e ∷ remove_entry test es))
      by_test true rest = let low = from.0 in from_below b (e.0 + 1) es (omega arith) from.1
      by_test false rest = (from.0, rest)

  pub find_removed : (s b : ℕ) (es : List (ℕ × ℕ)) → From b es →
      find s (remove_entry test es) ≡ cond (k == s) None (find s es)
  find_removed s b [] from = either_one (k == s) None
  find_removed s b (e ∷ es) from =
      ap (λ c. find s (cond c es (e ∷ remove_entry test es))) (at_is k e.0)
      ∙ by_test (e.0 == k) refl (find_removed s (e.0 + 1) es from.1)
    where
      here : (c : Bool) → (k == s) ≡ c → e.0 ≡ k
          → find s es ≡ cond c None (cond (e.0 == s) (Some e.1) (find s es))
      here true is same = none_below (e.0 + 1) s es from.1
          (let at = eqb-true k s is in omega arith)
      here false is same = ap (λ d. cond d (Some e.1) (find s es))
          (sym (ap (λ y. y == s) same ∙ is))

      by_test : (c : Bool) → (e.0 == k) ≡ c
          → find s (remove_entry test es) ≡ cond (k == s) None (find s es)
          → find s (cond c es (e ∷ remove_entry test es))
          ≡ cond (k == s) None (cond (e.0 == s) (Some e.1) (find s es))
      by_test true is rest = here (k == s) refl (eqb-true e.0 k is)
      by_test false is rest =
          ap (λ o. cond (e.0 == s) (Some e.1) o) rest
          ∙ turned (Some e.1) None (find s es) (e.0 == s) (k == s)
          (λ one two. false≢true (sym is
          ∙ eq-eqb e.0 k (eqb-true e.0 s one ∙ sym (eqb-true k s two))))

-- a key stands there
pub any_key : (s : ℕ) (es : List (ℕ × ℕ)) →
    list_any (λ t. t == s) (map (λ (e : ℕ × ℕ). e.0) es) ≡ is_some (find s es)
any_key s [] = refl
any_key s (e ∷ es) = by_test (e.0 == s) (any_key s es)
  where
    by_test : (c : Bool)
        → list_any (λ t. t == s) (map (λ (y : ℕ × ℕ). y.0) es) ≡ is_some (find s es)
        → (c || list_any (λ t. t == s) (map (λ (y : ℕ × ℕ). y.0) es))
        ≡ is_some (cond c (Some e.1) (find s es))
    by_test true rest = refl
    by_test false rest = rest
