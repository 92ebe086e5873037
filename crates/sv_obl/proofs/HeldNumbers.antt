-- What is among numbers that are put one by one into an ascending list.
use Rattle.std.proofs.Common.{◌≡◌, ℕ, ◌+◌, ◌<◌, Bool, true, false, ◌||◌, ◌==◌}
use Rattle.std.proofs.Common.{List, [], ◌∷◌, fold, nat_cmp, Less, Equal}
use Rattle.std.proofs.Common.{Ordering, Greater, refl, sym, ap, ◌∙◌, length, get_or, drop, add-one}
use Rattle.std.proofs.Math.Seq.{drop-cons}
use Rattle.std.specs.BTreeSet.{insert_key}
use Rattle.std.proofs.lemmas.Map.Lookups.{exact_unsigned}
use Rattle.std.specs.Ordering.{match_ordering}
use Rattle.sv_flat.specs.Sets.{holds}

-- a number put into a list is among its numbers
one_held : (set : List ℕ) (k t : ℕ) → holds (insert_key nat_cmp set k) t ≡ ((k == t) || holds set t)
one_held [] k t = refl
one_held (x ∷ set) k t = by_order (one_held set k t) (nat_cmp k x) refl
  where
    by_order : holds (insert_key nat_cmp set k) t ≡ ((k == t) || holds set t)
        → (order : Ordering) → nat_cmp k x ≡ order
        → holds (match_ordering order (k ∷ x ∷ set) (x ∷ set) (x ∷ insert_key nat_cmp set k)) t
        ≡ ((k == t) || ((x == t) || holds set t))
    by_order later Less is = refl
    by_order later Equal is =
        or_twice (x == t) (holds set t)
        ∙ ap (λ y. (y == t) || ((x == t) || holds set t)) (sym (exact_unsigned k x is))
      where
        or_twice : (a b : Bool) → (a || b) ≡ (a || (a || b))
        or_twice true b = refl
        or_twice false b = refl
    by_order later Greater is =
        ap (λ b. (x == t) || b) later
        ∙ or_turned (x == t) (k == t) (holds set t)
      where
        or_turned : (a b c : Bool) → (a || (b || c)) ≡ (b || (a || c))
        or_turned true true c = refl
        or_turned true false c = refl
        or_turned false b c = refl

-- numbers put into a list are among its numbers
pub put_held : (names set : List ℕ) (t : ℕ) →
    holds (fold (insert_key nat_cmp) set names) t ≡ (holds names t || holds set t)
put_held [] set t = refl
put_held (x ∷ names) set t =
    put_held names (insert_key nat_cmp set x) t
    ∙ ap (λ b. holds names t || b) (one_held set x t)
    ∙ or_turned (holds names t) (x == t) (holds set t)
  where
    or_turned : (a b c : Bool) → (a || (b || c)) ≡ ((b || a) || c)
    or_turned true true c = refl
    or_turned true false c = refl
    or_turned false true c = refl
    or_turned false false c = refl

-- one more number
pub put_next : (names : List ℕ) (i d : ℕ) (set new whole : List ℕ) → i < length names
    → new ≡ insert_key nat_cmp set (get_or names i d)
    → fold (insert_key nat_cmp) set (drop i names) ≡ whole
    → fold (insert_key nat_cmp) new (drop (i + 1) names) ≡ whole
put_next names i d set new whole inside is here =
    ap (λ xs. fold (insert_key nat_cmp) xs (drop (i + 1) names)) is
    ∙ ap (λ k. fold (insert_key nat_cmp) (insert_key nat_cmp set (get_or names i d))
    (drop k names)) (add-one i)
    ∙ ap (fold (insert_key nat_cmp) set) (sym (drop-cons names i d inside))
    ∙ here
