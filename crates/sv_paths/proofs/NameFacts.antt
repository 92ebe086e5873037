-- Names looked up and put in one by one.
use Rattle.std.proofs.Common.{◌≡◌, ℕ, ◌+◌, ◌<◌, Bool, true, false, cond, ◌&&◌, ◌||◌, ◌==◌}
use Rattle.std.proofs.Common.{List, [], ◌∷◌, map, filter, fold, length, get_or, drop, nat_cmp}
use Rattle.std.proofs.Common.{Less, Equal, Greater, ⊎_elim}
use Rattle.std.proofs.Common.{refl, sym, ap, ap₂, ◌∙◌, arith, add-one, eq-eqb, ne_eqb, le-ltb}
use Rattle.std.proofs.Common.{nat_lt}
use Rattle.std.specs.Prelude.{is_some}
use Rattle.std.specs.BTreeMap.{is_at}
use Rattle.std.specs.List.{list_any}
use Rattle.std.specs.Map.{lookup}
use Rattle.std.specs.Ordering.{is_eq}
use Rattle.std.proofs.Math.Seq.{drop-cons}
use Rattle.std.proofs.lemmas.Bool.{cases_eq}
use Rattle.std.proofs.lemmas.Map.Made.{is_some-lookup}

-- ---- tests over lists

pub any_alike : {X : Type 0} (f g : X → Bool) → ((x : X) → f x ≡ g x) → (xs : List X)
    → list_any f xs ≡ list_any g xs
any_alike f g same [] = refl
any_alike f g same (x ∷ xs) = ap₂ (λ a b. a || b) (same x) (any_alike f g same xs)

pub any_none : {X : Type 0} (xs : List X) → false ≡ list_any (λ (x : X). false) xs
any_none [] = refl
any_none (x ∷ xs) = any_none xs

or_turned : (a b c d : Bool) → ((a || b) || (c || d)) ≡ ((a || c) || (b || d))
or_turned true b c d = refl
or_turned false true true d = refl
or_turned false true false d = refl
or_turned false false c d = refl

any_or : {X : Type 0} (f g : X → Bool) (xs : List X)
    → (list_any f xs || list_any g xs) ≡ list_any (λ x. f x || g x) xs
any_or f g [] = refl
any_or f g (x ∷ xs) =
    or_turned (f x) (list_any f xs) (g x) (list_any g xs)
    ∙ ap (λ b. (f x || g x) || b) (any_or f g xs)

-- some of the first passes with some of the second, and the other way round
pub any_swapped : {X Y : Type 0} (f : X → Y → Bool) (xs : List X) (ys : List Y)
    → list_any (λ x. list_any (f x) ys) xs ≡ list_any (λ y. list_any (λ x. f x y) xs) ys
any_swapped f [] ys = any_none ys
any_swapped f (x ∷ xs) ys =
    ap (λ b. list_any (f x) ys || b) (any_swapped f xs ys)
    ∙ any_or (f x) (λ y. list_any (λ z. f z y) xs) ys

-- those that pass both tests
pub filter_both : {X : Type 0} (f g : X → Bool) (xs : List X)
    → filter (λ x. f x && g x) xs ≡ filter g (filter f xs)
filter_both f g [] = refl
filter_both f g (x ∷ xs) = by (f x) (filter_both f g xs)
  where
    by : (b : Bool) → filter (λ y. f y && g y) xs ≡ filter g (filter f xs)
        → cond (b && g x) (x ∷ filter (λ y. f y && g y) xs) (filter (λ y. f y && g y) xs)
        ≡ filter g (cond b (x ∷ filter f xs) (filter f xs))
    by true rest = ap (λ ys. cond (g x) (x ∷ ys) ys) rest
    by false rest = rest

-- ---- numbers as keys

never : (less : Bool) → is_eq (cond less Less Greater) ≡ false
never true = refl
never false = refl

-- a number is found at an equal one
pub at_same : (s t : ℕ) → is_at (nat_cmp s) t ≡ (s == t)
at_same s t = ⊎_elim
    (λ same. ap₂ (λ b c. is_eq (cond b Less (cond c Equal Greater)))
    (le-ltb s t (omega arith)) (eq-eqb s t same) ∙ sym (eq-eqb s t same))
    (λ other. ap (λ c. is_eq (cond (nat_lt s t) Less (cond c Equal Greater)))
    (ne_eqb s t (λ e. absurd (omega arith)))
    ∙ never (nat_lt s t)
    ∙ sym (ne_eqb s t (λ e. absurd (omega arith))))
    (cases_eq s t)

same_turned : (s t : ℕ) → (s == t) ≡ (t == s)
same_turned s t = ⊎_elim
    (λ same. eq-eqb s t same ∙ sym (eq-eqb t s (sym same)))
    (λ other. ne_eqb s t (λ e. absurd (omega arith))
    ∙ sym (ne_eqb t s (λ e. absurd (omega arith))))
    (cases_eq s t)

at_turned : (s t : ℕ) → is_at (nat_cmp s) t ≡ is_at (nat_cmp t) s
at_turned s t = at_same s t ∙ same_turned s t ∙ sym (at_same t s)

module _ {V : Type 0} (es : List (ℕ × V)) where
  abbrev names : List ℕ
  names = map (λ (e : ℕ × V). e.0) es

  -- an entry is found where its key is among the keys
  pub found : (s : ℕ) → is_some (lookup (is_at (nat_cmp s)) es) ≡ list_any (λ t. s == t) names
  found s =
      is_some-lookup (is_at (nat_cmp s)) es
      ∙ any_alike (is_at (nat_cmp s)) (λ t. s == t) (at_same s) names

  -- some of the keys that are asked for is there where some key that is there is asked for
  pub some_found : (ks : List ℕ) → list_any (λ s. is_some (lookup (is_at (nat_cmp s)) es)) ks
      ≡ list_any (λ t. list_any (is_at (nat_cmp t)) ks) names
  some_found ks =
      any_alike (λ s. is_some (lookup (is_at (nat_cmp s)) es))
      (λ s. list_any (is_at (nat_cmp s)) names) (λ s. is_some-lookup (is_at (nat_cmp s)) es) ks
      ∙ any_swapped (λ s t. is_at (nat_cmp s) t) ks names
      ∙ any_alike (λ t. list_any (λ s. is_at (nat_cmp s) t) ks)
      (λ t. list_any (is_at (nat_cmp t)) ks)
      (λ t. any_alike (λ s. is_at (nat_cmp s) t) (is_at (nat_cmp t)) (λ s. at_turned s t) ks) names

-- ---- one after the other

-- one more number is put in
pub next_number : {Z : Type 0} (f : Z → ℕ → Z) (xs : List ℕ) (i d : ℕ) (now new whole : Z)
    → i < length xs → new ≡ f now (get_or xs i d) → fold f now (drop i xs) ≡ whole
    → fold f new (drop (i + 1) xs) ≡ whole
next_number f xs i d now new whole inside is here =
    ap (λ z. fold f z (drop (i + 1) xs)) is
    ∙ ap (λ k. fold f (f now (get_or xs i d)) (drop k xs)) (add-one i)
    ∙ ap (fold f now) (sym (drop-cons xs i d inside))
    ∙ here

-- one more element is put in, by its plain form
pub next_formed : {X Y Z : Type 0} (form : X → Y) (f : Z → Y → Z) (xs : List X) (i : ℕ) (d : X)
    (now new whole : Z) → i < length xs → new ≡ f now (form (get_or xs i d))
    → fold f now (map form (drop i xs)) ≡ whole
    → fold f new (map form (drop (i + 1) xs)) ≡ whole
next_formed form f xs i d now new whole inside is here =
    ap (λ z. fold f z (map form (drop (i + 1) xs))) is
    ∙ ap (λ k. fold f (f now (form (get_or xs i d))) (map form (drop k xs))) (add-one i)
    ∙ ap (λ ys. fold f now (map form ys)) (sym (drop-cons xs i d inside))
    ∙ here
