-- The literals from one place of a list to another.
use Rattle.std.proofs.Common.{◌≡◌, ℕ, ◌-◌, ◌<◌, ◌≤◌, true, false, ℤ, pos, neg_ℤ, List, ap, ◌∙◌, sym}
use Rattle.std.proofs.Common.{length, take, drop, get_or, arith, length-drop, subst}
use Rattle.std.specs.List.{All, list_any}
use Rattle.std.proofs.lemmas.Bool.{false≢true, false_from_ne_true}
use Rattle.std.proofs.lemmas.List.{get_or_default, get_or-reverse, get_or-take, get_or-drop}
use Rattle.std.proofs.lemmas.List.{length-reverse, length-take-le}
use Rattle.std.proofs.lemmas.List.Elements.{All-from_get_or, All-take, All-drop}
use Rattle.std.proofs.lemmas.List.Folds.{Any-from_list_any, list_any_at}
use Rattle.sv_clause.specs.Literals.{stands}
use Rattle.sv_solve.specs.Search.{NoneSeen, SomeSeen}
use Rattle.sv_solve.proofs.Places.{stands_at}
use mathlib.Core.List.{reverse}

-- what holds of each literal of a list holds of the one at a place of its reverse
pub each_reversed : (P : ℤ → Type 0) (xs : List ℤ) (k : ℕ) (l : ℤ) → All P xs →
    k < length (reverse xs) → l ≡ get_or (reverse xs) k l → P l
each_reversed P xs k l each small is =
    let low : k < length xs = omega (arith, length-reverse xs) in
    subst P (sym (is ∙ get_or-reverse xs k l low)) (each (length xs - 1 - k) l (omega arith))

module _ (xs : List ℤ) (from to : ℕ) where
  abbrev pub between : List ℤ
  between = take (to - from) (drop from xs)

  -- what holds of each literal that stands in the list holds of those
  pub all_between : (P : ℤ → Type 0) → ((l : ℤ) → stands l xs ≡ true → P l) → All P between
  all_between P each =
      All-take P (to - from) (drop from xs) (All-drop P from xs
      (All-from_get_or P xs (pos 0) (λ i small. each (get_or xs i (pos 0)) (stands_at xs i small))))

  module _ (ordered : from ≤ to) (inside : to ≤ length xs) where
    length_reverse : length (reverse between) ≡ to - from
    length_reverse =
        length-reverse between
        ∙ length-take-le (to - from) (drop from xs) (omega (arith, length-drop from xs))

    -- the place of a literal of the reverse, and back
    at_reverse : (k i : ℕ) (d : ℤ) → k < to - from → i ≡ to - 1 - k →
        get_or (reverse between) k d ≡ get_or xs i (pos 0)
    at_reverse k i d small e =
        let size : length between ≡ to - from = sym (length-reverse between) ∙ length_reverse in
        let j = length between - 1 - k in
        get_or-reverse between k d (omega arith)
        ∙ get_or-take (to - from) (drop from xs) j d (omega arith)
        ∙ get_or-drop from xs j d
        ∙ ap (λ z. get_or xs z d) (omega arith)
        ∙ get_or_default xs i d (pos 0) (omega arith)

    module _ (seen : List ℤ) where
      pub some_seen : list_any (λ l. stands (neg_ℤ l) seen) (reverse between) ≡ true →
          SomeSeen seen xs from to
      some_seen e =
          let (k, x, small, at, is) =
          Any-from_list_any (λ l. stands (neg_ℤ l) seen) (reverse between) e in
          let low : k < to - from = omega (arith, length_reverse) in
          let same = at_reverse k (to - 1 - k) x low (omega arith) in (
            to - 1 - k,
            omega arith,
            omega arith,
            ap (λ z. stands (neg_ℤ z) seen) (sym same ∙ at) ∙ is,
          )

      pub none_seen : list_any (λ l. stands (neg_ℤ l) seen) (reverse between) ≡ false →
          NoneSeen seen xs from to
      none_seen e i low high =
          let k = to - 1 - i in
          let same = at_reverse k i (pos 0) (omega arith) (omega arith) in
          false_from_ne_true (stands (neg_ℤ (get_or xs i (pos 0))) seen) (λ t.
          false≢true (sym e ∙ list_any_at (λ l. stands (neg_ℤ l) seen) (reverse between) k (pos 0)
          (omega (arith, length_reverse)) (ap (λ z. stands (neg_ℤ z) seen) same ∙ t)))
