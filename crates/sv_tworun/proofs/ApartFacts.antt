-- The first signal of which a level does not see the same is the first that tells its views apart.
use Rattle.std.proofs.Common.{◌≡◌, ℕ, zero, suc, ◌+◌, ◌<◌, ◌≤◌, min, Bool, true, false, cond, not}
use Rattle.std.proofs.Common.{◌&&◌, ◌||◌, ◌==◌, nat_eq, List, ◌∷◌, ◌++◌, filter}
use Rattle.std.proofs.Common.{Option, Some, None, refl, sym, ap, subst, ◌∙◌, ⊎_elim, arith}
use Rattle.std.specs.Prelude.{Contains, IsTrue, IsFalse, MatchOption, find}
use Rattle.std.specs.List.{range_with_len}
use Rattle.std.specs.Option.{option_eq}
use Rattle.std.proofs.lemmas.Bool.{false≢true, eqb-true, eq-eqb}
use Rattle.sv_system.specs.System.{System, Environment, seen}
use Rattle.sv_system.proofs.Lists.{told_same, Contains-map, Contains-from_map, Contains-filter}
use Rattle.sv_system.proofs.Pointwise.{each}
use Rattle.sv_lattice.specs.declared.points.Point.{Point}
use Rattle.sv_flat.specs.Sets.{those}
use Rattle.sv_flat.proofs.LeastSets.{either_way, in_those, those_below, Contains-from_filter}
use Rattle.sv_flat.proofs.SameRuns.{and_none_left, and_none_right, both_false}
use Rattle.sv_rules.proofs.Firsts.{or_left, or_right}
use Rattle.sv_obl.proofs.PathLists.{cond_true}
use Rattle.sv_tworun.specs.Comparisons.{SaySame, IsFirstApart}
use Rattle.sv_tworun.specs.Sights.{sight, differs, IsFirst, FindsFirst, lower_of}

-- ---- the first that passes

module _ (kind test : ℕ → Bool) where
  -- a search of the numbers from a on
  record FoundFrom (a s : ℕ) : Type 0 where
    least : a ≤ s
    of_kind : IsTrue (kind s)
    passes : IsTrue (test s)
    before : (t : ℕ) → a ≤ t → t < s → IsFalse (kind t && test t)

  abbrev IsFoundFrom : (a n : ℕ) → Option ℕ → Type 0
  IsFoundFrom a n answer = MatchOption answer
      ((t : ℕ) → a ≤ t → t < a + n → IsFalse (kind t && test t)) (λ s.
      FoundFrom a s × (s < a + n))

  -- one more number in front, which does not pass
  passed_over : (a n : ℕ) → IsFalse (kind a && test a) → (answer : Option ℕ)
      → IsFoundFrom (a + 1) n answer → IsFoundFrom a (suc n) answer
  passed_over a n fails None later =
      λ t least below. ⊎_elim
      (λ same. subst (λ z. IsFalse (kind z && test z)) (eqb-true a t same) fails)
      (λ other. later t
      (let apart = not_same a t other in omega arith) (omega arith))
      (either_way (a == t))
    where
      not_same : (x y : ℕ) → IsFalse (x == y) → x ≡ y → ⊥
      not_same x y other is = false≢true (sym other ∙ eq-eqb x y is)
  passed_over a n fails (Some s) later = (
    record {
      least = let more = later.0.least in omega arith;
      of_kind = later.0.of_kind;
      passes = later.0.passes;
      before = λ t least below. ⊎_elim
          (λ same. subst (λ z. IsFalse (kind z && test z)) (eqb-true a t same) fails)
          (λ other. later.0.before t
          (let apart = not_same a t other in omega arith) below)
          (either_way (a == t));
    },
    let more = later.1 in omega arith,
  )
    where
      not_same : (x y : ℕ) → IsFalse (x == y) → x ≡ y → ⊥
      not_same x y other is = false≢true (sym other ∙ eq-eqb x y is)

  found_step : (b c : Bool) (a n : ℕ) (ns : List ℕ) → kind a ≡ b → test a ≡ c
      → IsFoundFrom (a + 1) n (find test ns)
      → IsFoundFrom a (suc n) (find test (cond b (a ∷ ns) ns))
  found_step false c a n ns k t later =
      passed_over a n (and_none_left (kind a) (test a) k) (find test ns) later
  found_step true false a n ns k t later =
      subst (λ d. IsFoundFrom a (suc n) (cond d (Some a) (find test ns))) (sym t)
      (passed_over a n (and_none_right (kind a) (test a) t) (find test ns) later)
  found_step true true a n ns k t later =
      subst (λ d. IsFoundFrom a (suc n) (cond d (Some a) (find test ns))) (sym t) (
        record {
          least = omega arith;
          of_kind = k;
          passes = t;
          before = λ u least below. absurd (omega arith);
        },
        omega arith,
      )

  found_from : (a n : ℕ) → IsFoundFrom a n (find test (filter kind (range_with_len a n)))
  found_from a zero = λ t least below. absurd (omega arith)
  found_from a (suc n) =
      found_step (kind a) (test a) a n (filter kind (range_with_len (a + 1) n)) refl refl
      (found_from (a + 1) n)

  and_both : (b c : Bool) → IsTrue b → IsTrue c → IsTrue (b && c)
  and_both true c k t = t
  and_both false c k t = absurd (false≢true k)

  to_first : (n : ℕ) (answer : Option ℕ) → IsFoundFrom 0 n answer →
      FindsFirst n (λ s. kind s && test s) answer
  to_first n None none = λ t below. none t (omega arith) (omega arith)
  to_first n (Some s) some = record {
    below = let less = some.1 in omega arith;
    here = and_both (kind s) (test s) some.0.of_kind some.0.passes;
    before = λ t below. some.0.before t (omega arith) below;
  }

  -- a search of listed numbers finds the first that is of the kind and passes
  pub first_found : (n : ℕ) (listed : List ℕ) (answer : Option ℕ) → listed ≡ those n kind
      → answer ≡ find test listed → FindsFirst n (λ s. kind s && test s) answer
  first_found n listed answer are is =
      subst (FindsFirst n (λ s. kind s && test s)) (sym (is ∙ ap (find test) are))
      (to_first n (find test (those n kind)) (found_from 0 n))

-- numbers that pass alike are found alike
pub passes_alike : (n : ℕ) (p q : ℕ → Bool) → ((s : ℕ) → p s ≡ q s) → (answer : Option ℕ)
    → FindsFirst n p answer → FindsFirst n q answer
passes_alike n p q same None none = λ t below. sym (same t) ∙ none t below
passes_alike n p q same (Some s) some = record {
  below = some.below;
  here = sym (same s) ∙ some.here;
  before = λ t below. sym (same t) ∙ some.before t below;
}

module _ (n : ℕ) (p q : ℕ → Bool) where
  abbrev either : ℕ → Bool
  either s = p s || q s

  -- the lower of what two searches find is the first that passes either
  pub lower_found : (one other : Option ℕ) → FindsFirst n p one → FindsFirst n q other →
      FindsFirst n either (lower_of one other)
  lower_found None None one other = λ t below. both_false (p t) (q t) (one t below) (other t below)
  lower_found None (Some b) one other = record {
    below = other.below;
    here = or_right (p b) (q b) other.here;
    before = λ t below. both_false (p t) (q t)
        (one t (let top = other.below in omega arith)) (other.before t below);
  }
  lower_found (Some a) None one other = record {
    below = one.below;
    here = or_left (p a) (q a) one.here;
    before = λ t below. both_false (p t) (q t) (one.before t below)
        (other t (let top = one.below in omega arith));
  }
  lower_found (Some a) (Some b) one other = record {
    below = let x = one.below in let y = other.below in omega arith;
    here = lowest (min a b) refl;
    before = λ t below. both_false (p t) (q t) (one.before t (omega arith))
        (other.before t (omega arith));
  }
    where
      lowest : (m : ℕ) → min a b ≡ m → IsTrue (either m)
      lowest m is = ⊎_elim
          (λ same. subst (λ z. IsTrue (either z)) (eqb-true a m same)
          (or_left (p a) (q a) one.here))
          (λ above. subst (λ z. IsTrue (either z))
          (let apart = not_same a m above in omega (arith, is)) (or_right (p b) (q b) other.here))
          (either_way (a == m))
        where
          not_same : (x y : ℕ) → IsFalse (x == y) → x ≡ y → ⊥
          not_same x y other_way same = false≢true (sym other_way ∙ eq-eqb x y same)

-- ---- what is seen of one signal

eq_self : (a : Option ℕ) → IsTrue (option_eq nat_eq a a)
eq_self None = refl
eq_self (Some x) = eq-eqb x x refl

-- what differs is not equal
not_equal : (a b : Option ℕ) → IsTrue (not (option_eq nat_eq a b)) → a ≡ b → ⊥
not_equal a b h is =
    false≢true (ap not (sym (subst (λ c. IsTrue (option_eq nat_eq a c)) is (eq_self a))) ∙ h)

equal : (a b : Option ℕ) → IsFalse (not (option_eq nat_eq a b)) → a ≡ b
equal None None h = refl
equal None (Some y) h = absurd (false≢true (sym h))
equal (Some x) None h = absurd (false≢true (sym h))
equal (Some x) (Some y) h = ap Some (eqb-true x y (undone (x == y) h))
  where
    undone : (b : Bool) → IsFalse (not b) → IsTrue b
    undone true h = refl
    undone false h = absurd (false≢true (sym h))

-- sights that are equal have both or neither, and the values are equal
same_tests : (b c : Bool) (x y : ℕ) → cond b (Some x) None ≡ cond c (Some y) None → b ≡ c
same_tests true true x y h = refl
same_tests false false x y h = refl
same_tests true false x y h = absurd (clash x h)
  where
    clash : (x : ℕ) → Some x ≡ None → ⊥
    clash x h = cc
same_tests false true x y h = absurd (clash y h)
  where
    clash : (y : ℕ) → None ≡ Some y → ⊥
    clash y h = cc

same_values : (b c : Bool) (x y : ℕ) → cond b (Some x) None ≡ cond c (Some y) None → IsTrue b →
    x ≡ y
same_values true true x y h shown = inside x y h
  where
    inside : (x y : ℕ) → Some x ≡ Some y → x ≡ y
    inside x y h = cc
same_values true false x y h shown = absurd (clash x h)
  where
    clash : (x : ℕ) → Some x ≡ None → ⊥
    clash x h = cc
same_values false c x y h shown = absurd (false≢true shown)

-- ---- what a view says of a signal

module _ (system : System ℕ Point) (level : Point) (kind : ℕ → Bool) where
  abbrev flows_in : Environment ℕ → ℕ → Bool
  flows_in e s = system.flows (system.label s e) level

  abbrev shows : Environment ℕ → ℕ → Bool
  shows e s = kind s && flows_in e s

  abbrev shown : Environment ℕ → List (ℕ × ℕ)
  shown e = seen kind system level e

  first_part : (b c : Bool) → IsTrue (b && c) → IsTrue b
  first_part true c h = refl
  first_part false c h = absurd (false≢true h)

  second_part : (b c : Bool) → IsTrue (b && c) → IsTrue c
  second_part true c h = h
  second_part false c h = absurd (false≢true h)

  both_parts : (b c : Bool) → IsTrue b → IsTrue c → IsTrue (b && c)
  both_parts true c h k = k
  both_parts false c h k = absurd (false≢true h)

  -- a visible signal of the kind stands there with its value
  stands : (e : Environment ℕ) (s : ℕ) → Contains system.signals s → IsTrue (kind s)
      → IsTrue (flows_in e s) → Contains (shown e) (s, e s)
  stands e s at of_kind flows =
      Contains-map (λ x. (x, e x)) (filter (shows e) system.signals) s
      (Contains-filter (shows e) system.signals s at
      (both_parts (kind s) (flows_in e s) of_kind flows))

  abbrev Standing : Environment ℕ → (s value : ℕ) → Type 0
  Standing e s v = Contains system.signals s × IsTrue (kind s) × IsTrue (flows_in e s) × (e s ≡ v)

  -- and nothing else does
  standing : (e : Environment ℕ) (s v : ℕ) → Contains (shown e) (s, v) → Standing e s v
  standing e s v at =
      let from = Contains-from_map (λ x. (x, e x)) (filter (shows e) system.signals) (s, v) at in
      let x = from.0 in
      let kept = Contains-from_filter (shows e) system.signals x from.1 in
      subst (λ z. Standing e z v) (ap (λ (pair : ℕ × ℕ). pair.0) from.2) (
        kept.1,
        first_part (kind x) (flows_in e x) kept.0,
        second_part (kind x) (flows_in e x) kept.0,
        ap (λ (pair : ℕ × ℕ). pair.1) from.2,
      )

  one_way : (e f : Environment ℕ) (s v : ℕ)
      → (IsTrue (kind s) → sight system level e s ≡ sight system level f s)
      → Contains (shown e) (s, v) → Contains (shown f) (s, v)
  one_way e f s v same at =
      let there = standing e s v at in
      let alike = same there.1 in
      subst (λ n. Contains (shown f) (s, n))
      (sym (same_values (flows_in e s) (flows_in f s) (e s) (f s) alike there.2) ∙ there.3)
      (stands f s there.0 there.1
      (sym (same_tests (flows_in e s) (flows_in f s) (e s) (f s) alike) ∙ there.2))

  -- where the level sees the same of a signal its views say the same
  pub say_same : (e f : Environment ℕ) (s : ℕ)
      → (IsTrue (kind s) → sight system level e s ≡ sight system level f s)
      → SaySame (shown e) (shown f) s
  say_same e f s same v =
      (one_way e f s v same, one_way f e s v (λ of_kind. sym (same of_kind)))

  -- and only there
  pub sights_same : (e f : Environment ℕ) (s : ℕ) → Contains system.signals s → IsTrue (kind s)
      → SaySame (shown e) (shown f) s → sight system level e s ≡ sight system level f s
  sights_same e f s at of_kind same = by_cases (flows_in e s) (flows_in f s) refl refl
    where
      by_cases : (b c : Bool) → flows_in e s ≡ b → flows_in f s ≡ c
          → cond b (Some (e s)) None ≡ cond c (Some (f s)) None
      by_cases true true one other =
          ap Some (sym (standing f s (e s) ((same (e s)).0 (stands e s at of_kind one))).3)
      by_cases true false one other = absurd (false≢true (sym other
          ∙ (standing f s (e s) ((same (e s)).0 (stands e s at of_kind one))).2))
      by_cases false true one other = absurd (false≢true (sym one
          ∙ (standing e s (f s) ((same (f s)).1 (stands f s at of_kind other))).2))
      by_cases false false one other = refl

-- ---- the numbers before one

module _ (all : ℕ → Bool) where
  split_step : (b : Bool) (a s : ℕ) (front back rest : List ℕ) → back ≡ front ++ s ∷ rest
      → cond b (a ∷ back) back ≡ cond b (a ∷ front) front ++ s ∷ rest
  split_step true a s front back rest same = ap (λ ns. a ∷ ns) same
  split_step false a s front back rest same = same

  -- the numbers that pass, from a on, with one of them in their middle
  split_from : (k n a s : ℕ) → s ≡ a + k → k < n → IsTrue (all s) → (rest : List ℕ)
      × (filter all (range_with_len a n) ≡ filter all (range_with_len a k) ++ s ∷ rest)
  split_from k zero a s place below here = absurd (omega arith)
  split_from zero (suc n) a s place below here =
      let rest = filter all (range_with_len (a + 1) n) in
      let is : a ≡ s = omega (arith, place) in (
        rest,
        subst (λ z. cond (all a) (a ∷ rest) rest ≡ z ∷ rest) is
            (cond_true (all a) (a ∷ rest) rest (subst (λ z. IsTrue (all z)) (sym is) here)),
      )
  split_from (suc k) (suc n) a s place below here =
      let later = split_from k n (a + 1) s (omega (arith, place)) (omega arith) here in (
        later.0,
        split_step (all a) a s (filter all (range_with_len (a + 1) k))
            (filter all (range_with_len (a + 1) n)) later.0 later.1,
      )

module _ (system : System ℕ Point) (level : Point) (n : ℕ) (all : ℕ → Bool)
    (are : system.signals ≡ those n all) (kind : ℕ → Bool)
    (within : (s : ℕ) → IsTrue (kind s) → IsTrue (all s)) (e f : Environment ℕ) where
  abbrev passes : ℕ → Bool
  passes s = kind s && differs system level e f s

  of_kind_then : (b c : Bool) → IsTrue b → b && c ≡ c
  of_kind_then true c h = refl
  of_kind_then false c h = absurd (false≢true h)

  sight_same : (s : ℕ) → IsFalse (passes s) → IsTrue (kind s)
      → sight system level e s ≡ sight system level f s
  sight_same s fails of_kind =
      equal (sight system level e s) (sight system level f s)
      (sym (of_kind_then (kind s) (differs system level e f s) of_kind) ∙ fails)

  -- the first that differs tells the views apart first
  pub first_apart : (s : ℕ) → IsFirst n passes s →
      IsFirstApart system.signals (seen kind system level e) (seen kind system level f) s
  first_apart s first =
      let of_kind = first_part system level kind (kind s) (differs system level e f s)
      first.here in
      let at = subst (λ ss. Contains ss s) (sym are)
      (in_those n all s first.below (within s of_kind)) in
      let split = split_from all s n 0 s (omega arith) first.below (within s of_kind) in
      record {
        front = those s all;
        rest = split.0;
        stands = are ∙ split.1;
        apart = λ same. not_equal (sight system level e s) (sight system level f s)
            (sym (of_kind_then (kind s) (differs system level e f s) of_kind) ∙ first.here)
            (sights_same system level kind e f s at of_kind same);
        before = each (SaySame (seen kind system level e) (seen kind system level f))
            (those s all) (λ t t_at. say_same system level kind e f t
            (sight_same t (first.before t (those_below s all t t_at))));
      }

  tests_agree : (s : ℕ) → IsFalse (passes s)
      → shows system level kind e s ≡ shows system level kind f s
  tests_agree s fails = ⊎_elim
      (λ of_kind. ap (λ c. kind s && c)
      (same_tests (flows_in system level kind e s) (flows_in system level kind f s) (e s) (f s)
      (sight_same s fails of_kind)))
      (λ other. ap (λ b. b && flows_in system level kind e s) other
      ∙ sym (ap (λ b. b && flows_in system level kind f s) other))
      (either_way (kind s))

  -- where none differs the views are equal
  pub none_apart : ((s : ℕ) → s < n → IsFalse (passes s)) →
      seen kind system level e ≡ seen kind system level f
  none_apart fails = told_same (shows system level kind e) (shows system level kind f) e f
      system.signals
      (λ s at. tests_agree s (fails s (below s at)))
      (λ s at visible. same_values (flows_in system level kind e s)
      (flows_in system level kind f s) (e s) (f s)
      (sight_same s (fails s (below s at)) (first_part system level kind (kind s)
      (flows_in system level kind e s) visible))
      (second_part system level kind (kind s) (flows_in system level kind e s) visible))
    where
      below : (s : ℕ) → Contains system.signals s → s < n
      below s at = those_below n all s (subst (λ ss. Contains ss s) are at)
