-- Sets of bits, by the entries of their maps.
use Rattle.std.proofs.Common.{◌≡◌, ℕ, ◌<◌, ◌^◌, Bool, true, false, not, cond, ◌&&◌, ◌||◌, ◌==◌}
use Rattle.std.proofs.Common.{List, [], ◌∷◌, Some, ⊎_elim, refl, sym, ap, ap₂, subst, ◌∙◌, Less}
use Rattle.std.proofs.Common.{Equal, Greater, nat_lt, ltb-true, arith}
use Rattle.std.specs.Prelude.{IsTrue, IsFalse, bit_and, unwrap_or}
use Rattle.std.specs.List.{list_any, range_with_len, AllByRecursion}
use Rattle.std.specs.List.Sorted.{IsStrictlySortedBy}
use Rattle.std.specs.Int.{bit_at}
use Rattle.std.specs.Ordering.{nat_cmp, is_eq}
use Rattle.std.specs.Map.{keys_of, lookup}
use Rattle.std.proofs.lemmas.Bool.{false≢true, eqb-true, eq-eqb}
use Rattle.std.proofs.lemmas.Nat.{and_le_l}
use Rattle.std.proofs.lemmas.Nat.Bits.{bit_at-lt, bit_at-zero, same_from_bits_below}
use Rattle.sv_flat.proofs.LeastSets.{either_way, some_from, from_some, range_has}
use Rattle.sv_flat.proofs.Depths.{first_of, second_of}
use Rattle.sv_flat.proofs.AdmittedFacts.{and_true, negated_true}
use Rattle.sv_graph.specs.BitSets.{is_set, LacksBit, in_entries}
use Rattle.sv_graph.proofs.BitFacts.{and_test, same_answer}
use Rattle.sv_graph.specs.declared.bit_sets.BitSet.{BitSet}
use Rattle.sv_graph.specs.BitSets.{has_some}
use Rattle.std.proofs.Common.{◌⊎◌}
use Rattle.std.proofs.lemmas.Bool.{or_left, or_right}

-- ---- a bit that is lacking

same_bit : (x y : ℕ) → x < 2 → y < 2 → (x == 1) ≡ (y == 1) → x ≡ y
same_bit x y p q h = ⊎_elim
    (λ a. eqb-true x 1 a ∙ sym (eqb-true y 1 (sym h ∙ a)))
    (λ a. let b = sym h ∙ a in grind (arith, p, q, a, b))
    (either_way (x == 1))

and_first : (a b : Bool) → (IsTrue a → IsFalse b → ⊥) → (a && b) ≡ a
and_first true true h = refl
and_first true false h = absurd (h refl refl)
and_first false b h = refl

module _ (a b : ℕ) (few : a < 2 ^ 64) where
  none_lacking : ((k : ℕ) → k < 64 → IsTrue (is_set a k) → IsFalse (is_set b k) → ⊥) →
      bit_and a b ≡ a
  none_lacking none =
      let less = and_le_l a b in
      same_from_bits_below 64 (bit_and a b) a (omega arith) few
      (λ i below. same_bit (bit_at (bit_and a b) i) (bit_at a i) (bit_at-lt (bit_and a b) i)
      (bit_at-lt a i)
      (and_test a b i ∙ and_first (is_set a i) (is_set b i) (none i below)))

  abbrev lacking : ℕ → Bool
  lacking k = is_set a k && not (is_set b k)

  pub bit_lacking : IsTrue (not (bit_and a b == a)) → LacksBit a b
  bit_lacking h = ⊎_elim
      (λ some.
      let found = from_some lacking (range_with_len 0 64) some in
      let k = found.0 in (
        k,
        first_of (is_set a k) (not (is_set b k)) found.2,
        negated_true (is_set b k)
            (second_of (is_set a k) (not (is_set b k)) found.2),
      ))
      (λ none. absurd (false≢true (sym (ap not (eq-eqb (bit_and a b) a (none_lacking
      (λ k below has lacks.
      false≢true (sym none ∙ some_from lacking (range_with_len 0 64) k (range_has 64 k below)
      (and_true (is_set a k) (not (is_set b k)) has (ap not lacks))))))) ∙ h)))
      (either_way (list_any lacking (range_with_len 0 64)))

  pub lacks_bit : LacksBit a b → IsTrue (not (bit_and a b == a))
  lacks_bit (k, has, lacks) = ⊎_elim
      (λ e. absurd (false≢true (sym lacks ∙ second_of (is_set a k) (is_set b k)
      (sym (and_test a b k) ∙ ap (λ n. is_set n k) (eqb-true (bit_and a b) a e) ∙ has))))
      (λ f. ap not f)
      (either_way (bit_and a b == a))

-- ---- entries

or_no : (a b : Bool) → IsFalse b → (a || b) ≡ a
or_no true b h = refl
or_no false b h = h

no_and : (a b : Bool) → IsFalse a → (a && b) ≡ false
no_and true b h = absurd (false≢true (sym h))
no_and false b h = refl

by_order : (less same : Bool) →
    is_eq (cond less Less (cond same Equal Greater)) ≡ (not less && same)
by_order true same = refl
by_order false true = refl
by_order false false = refl

not_less : (a b : ℕ) → a ≡ b → nat_lt a b ≡ false
not_less a b e =
    ⊎_elim (λ l. absurd (let m = ltb-true a b l in omega (arith, m, e))) (λ f.
    f) (either_way (nat_lt a b))

-- a map finds a key where it is the one that is asked for
pub key_test : (s k : ℕ) → is_eq (nat_cmp s k) ≡ (k == s)
key_test s k = by_order (nat_lt s k) (s == k) ∙ same_answer (not (nat_lt s k) && (s == k)) (k == s)
    (λ h. eq-eqb k s (sym (eqb-true s k (second_of (not (nat_lt s k)) (s == k) h))))
    (λ h. let e = sym (eqb-true k s h) in
    and_true (not (nat_lt s k)) (s == k) (ap not (not_less s k e)) (eq-eqb s k e))

none_after : (es : List (ℕ × ℕ)) (k s b : ℕ) →
    AllByRecursion (λ y. nat_cmp k y ≡ Less) (keys_of es) → IsTrue (k == s) →
    in_entries es s b ≡ false
none_after [] k s b later same = refl
none_after (e ∷ es) k s b later same =
    let other : (e.0 == s) ≡ false = ⊎_elim
    (λ t.
    absurd (false≢true (sym (ap is_eq later.0) ∙ key_test k e.0
    ∙ eq-eqb e.0 k (eqb-true e.0 s t ∙ sym (eqb-true k s same)))))
    (λ f. f)
    (either_way (e.0 == s)) in
    ap (λ t. t || in_entries es s b) (no_and (e.0 == s) (is_set e.1 b) other)
    ∙ none_after es k s b later.1 same

here_first : (e : ℕ × ℕ) (es : List (ℕ × ℕ)) (s b : ℕ) → IsTrue (e.0 == s)
    → in_entries es s b ≡ false
    → in_entries (e ∷ es) s b ≡ is_set (unwrap_or (lookup (λ k. is_eq (nat_cmp s k)) (e ∷ es)) 0) b
here_first e es s b same none =
    ap₂ (λ t u. (t && is_set e.1 b) || u) same none
    ∙ or_no (is_set e.1 b) false refl
    ∙ sym (ap (λ t. is_set (unwrap_or (cond t (Some e.1) (lookup (λ k. is_eq (nat_cmp s k)) es)) 0)
    b) (key_test s e.0 ∙ same))

pub entries_are : (es : List (ℕ × ℕ)) (s b : ℕ) → IsStrictlySortedBy nat_cmp (keys_of es)
    → in_entries es s b ≡ is_set (unwrap_or (lookup (λ k. is_eq (nat_cmp s k)) es) 0) b
unfolding IsStrictlySortedBy
entries_are [] s b sorted = sym (ap (λ n. n == 1) (bit_at-zero b))
entries_are (e ∷ es) s b sorted = ⊎_elim
    (λ same. here_first e es s b same (none_after es e.0 s b sorted.0 same))
    (λ other.
    ap (λ t. t || in_entries es s b) (no_and (e.0 == s) (is_set e.1 b) other)
    ∙ entries_are es s b sorted.1
    ∙ sym (ap (λ t. is_set (unwrap_or (cond t (Some e.1) (lookup (λ k. is_eq (nat_cmp s k)) es)) 0)
    b) (key_test s e.0 ∙ other)))
    (either_way (e.0 == s))

pub nothing_in : (mask b : ℕ) → mask ≡ 0 → is_set mask b ≡ false
nothing_in mask b none = ap (λ n. is_set n b) none ∙ ap (λ n. n == 1) (bit_at-zero b)

-- one entry more in both sets
both_more : (old same bit rest other here : Bool) → (IsTrue same → here ≡ other)
    → ((old || (same && (bit && here))) || (rest && other)) ≡
    (old || (((same && bit) || rest) && other))
both_more true same bit rest other here is = refl
both_more false true true rest other here is =
    subst (λ z. (z || (rest && other)) ≡ other) (sym (is refl)) (with_rest other rest)
  where
    with_rest : (o r : Bool) → (o || (r && o)) ≡ o
    with_rest true r = refl
    with_rest false true = refl
    with_rest false false = refl
both_more false true false rest other here is = refl
both_more false false bit rest other here is = refl

pub common_added : (e : ℕ × ℕ) (es : List (ℕ × ℕ)) (s b m : ℕ) (old new other all : Bool)
    → new ≡ (old || ((e.0 == s) && is_set (bit_and e.1 m) b))
    → (IsTrue (e.0 == s) → is_set m b ≡ other)
    → (old || (in_entries (e ∷ es) s b && other)) ≡ all
    → (new || (in_entries es s b && other)) ≡ all
common_added e es s b m old new other all gains is before =
    ap (λ t. t || (in_entries es s b && other)) gains
    ∙ ap (λ t. (old || ((e.0 == s) && t)) || (in_entries es s b && other)) (and_test e.1 m b)
    ∙ both_more old (e.0 == s) (is_set e.1 b) (in_entries es s b) other (is_set m b) is
    ∙ before

-- ---- the signals of a set

pub keys_begin : (h k : Bool) → (IsTrue h → IsTrue k) → (h && k) ≡ h
keys_begin true k f = f refl
keys_begin false k f = refl

split_same : (h r : Bool) → (h && true) ≡ ((h && true) || (h && r))
split_same true r = refl
split_same false r = refl

split_other : (h g r : Bool) → (h && r) ≡ ((g && false) || (h && r))
split_other h true r = refl
split_other h false r = refl

pub keys_more : (set : BitSet) (k b : ℕ) (rest : Bool)
    → (has_some set b && ((k == b) || rest)) ≡
    ((has_some set k && (k == b)) || (has_some set b && rest))
keys_more set k b rest = ⊎_elim
    (λ same.
    ap (λ t. has_some set b && (t || rest)) same
    ∙ split_same (has_some set b) rest
    ∙ ap₂ (λ h t. (h && t) || (has_some set b && rest))
    (sym (ap (has_some set) (eqb-true k b same))) (sym same))
    (λ other.
    ap (λ t. has_some set b && (t || rest)) other
    ∙ split_other (has_some set b) (has_some set k) rest
    ∙ ap (λ t. (has_some set k && t) || (has_some set b && rest)) (sym other))
    (either_way (k == b))

pub keys_end : (h : Bool) → (h && false) ≡ false
keys_end true = refl
keys_end false = refl

pub key_found : (es : List (ℕ × ℕ)) (s : ℕ) →
    IsTrue (not (unwrap_or (lookup (λ k. is_eq (nat_cmp s k)) es) 0 == 0)) →
    IsTrue (list_any (λ k. k == s) (keys_of es))
key_found [] s h = absurd (false≢true h)
key_found (e ∷ es) s h = ⊎_elim
    (λ same. or_left (e.0 == s) (list_any (λ k. k == s) (keys_of es)) same)
    (λ other. or_right (e.0 == s) (list_any (λ k. k == s) (keys_of es)) (key_found es s
    (sym (ap (λ t. not (unwrap_or (cond t (Some e.1) (lookup (λ k. is_eq (nat_cmp s k)) es)) 0
    == 0)) (key_test s e.0 ∙ other)) ∙ h)))
    (either_way (e.0 == s))
