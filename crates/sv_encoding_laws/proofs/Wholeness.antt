-- An encoding can be solved and decoded: its clauses are of no variable above its last one, and
-- each bit of a signal that is given to a cycle has one place.
use Rattle.std.proofs.Common.{◌≡◌, ℕ, zero, suc, ◌+◌, ◌<◌, ◌≤◌, Bool, true, false, ◌||◌, ℤ}
use Rattle.std.proofs.Common.{List, [], ◌∷◌, ◌++◌, length, refl, sym, subst, ◌∙◌, ⊎_elim, arith}
use Rattle.std.proofs.Common.{unsigned_abs, not}
use Rattle.std.specs.Prelude.{Contains, IsTrue, AllPairs}
use Rattle.std.proofs.lemmas.Bool.{false≢true, or_left, or_right}
use Rattle.std.proofs.lemmas.List.Kept.{AllPairs-cons}
use Rattle.sv_system.proofs.Lists.{Contains-head, Contains-later, Contains-nil, Contains-cases}
use Rattle.sv_flat.specs.Design.{FlatDesign}
use Rattle.sv_flat.specs.Values.{signal_width}
use Rattle.sv_flat.specs.Processes.{is_top_input, is_register}
use Rattle.sv_flat.specs.Clocks.{is_clock}
use Rattle.sv_flat.specs.FlatSystem.{flat_system}
use Rattle.sv_flat.specs.Sets.{holds}
use Rattle.sv_flat.proofs.Depths.{first_of}
use Rattle.sv_flat.proofs.LeastSets.{or_cases, Contains-from_holds, holds-from_Contains}
use Rattle.sv_flat.proofs.Members.{Contains-left, Contains-right, Contains-either, contained_all}
use Rattle.sv_gates.specs.Formulas.{Formula, IsClosed}
use Rattle.sv_gates.specs.Gates.{with_unit}
use Rattle.sv_gates.proofs.GateLaws.{unit_closed}
use Rattle.sv_circuits.specs.Words.{Word}
use Rattle.sv_circuits.specs.Circuits.{IsWord}
use Rattle.sv_obl.specs.Obligations.{Obligation}
use Rattle.sv_obl.specs.DesignQueries.{IsQueryOf}
use Rattle.sv_obl.specs.Noninterference.{IsChecked}
use Rattle.sv_encoding.specs.Expressions.{Words}
use Rattle.sv_encoding.specs.Cones.{now_cone, next_cone}
use Rattle.sv_encoding.specs.Encoding.{BitPlace, word_places, bit_places, given_in, inputs_in}
use Rattle.sv_encoding.specs.Encoding.{encoding}
use Rattle.sv_encoding.specs.BothWays.{IsWordOf, IsGiven, IsPlace, AreOfOneBit, IsWhole}
use Rattle.sv_encoding.specs.BothWays.{EncodingIsWhole}
use Rattle.sv_encoding.specs.GivenMeanings.{EachOnce}
use Rattle.sv_encoding_laws.proofs.Chain.{s1, s3, free1, p2, free3, p10, after_three}
use Rattle.sv_encoding_laws.proofs.Directions.{steps_done, units, units_inside, is_input, seen_now}
use Rattle.sv_encoding_laws.proofs.Directions.{seen_next, from_filter, to_filter}
use Rattle.sv_encoding_laws.proofs.Places.{place_at, places_from, once_rest, once_head}
use Rattle.sv_encoding_laws.proofs.Places.{given_once, inputs_once}
use Rattle.sv_encoding_laws.proofs.Units.{add_units, AreInside}

-- ---- unit clauses

units_closed : (literals : List ℤ) (old : Formula) → IsClosed old →
    AreInside old.variables literals → IsClosed (add_units literals old)
units_closed [] old closed inside = closed
units_closed (literal ∷ literals) old closed inside =
    units_closed literals (with_unit literal old) (unit_closed literal old closed inside.0) inside.1

units_keep : (literals : List ℤ) (old : Formula) →
    (add_units literals old).variables ≡ old.variables
units_keep [] old = refl
units_keep (literal ∷ literals) old = units_keep literals (with_unit literal old)

-- ---- places of a word

-- a bit of a signal's word, counted from k
record IsBitOf (next : Bool) (s k : ℕ) (word : Word) (place : BitPlace) : Type 0 where
  pub signal : place.signal ≡ s
  pub cycle : place.next ≡ next
  pub low : k ≤ place.bit
  pub high : place.bit < k + length word
  pub variable : (n : ℕ) → IsWord n word → (1 ≤ place.variable) × (place.variable ≤ n)

from_word : (next : Bool) (s k : ℕ) (word : Word) (place : BitPlace) →
    Contains (places_from k next s word) place → IsBitOf next s k word place
from_word next s k [] place at = absurd (Contains-nil place at)
from_word next s k (l ∷ word) place at = ⊎_elim
    (λ here. subst (IsBitOf next s k (l ∷ word)) here (record {
      signal = refl;
      cycle = refl;
      low = omega arith;
      high = omega arith;
      variable = λ n is. (is.0.0, is.0.1);
    }))
    (λ later.
    let rest = from_word next s (k + 1) word place later in
    record {
      signal = rest.signal;
      cycle = rest.cycle;
      low = omega (arith, rest.low);
      high = omega (arith, rest.high);
      variable = λ n is. rest.variable n is.1;
    })
    (Contains-cases (place_at next s (k, l)) (places_from (k + 1) next s word) place at)

-- the place of a signal's bit at a variable
abbrev placed : Bool → (s bit variable : ℕ) → BitPlace
placed next s bit variable =
    record { signal = s; next = next; bit = bit; variable = variable }

to_word : (next : Bool) (s k : ℕ) (word : Word) (i bit : ℕ) → bit ≡ k + i → i < length word →
    (variable : ℕ) × Contains (places_from k next s word) (placed next s bit variable)
to_word next s k [] i bit e inside = absurd (omega (arith, inside))
to_word next s k (l ∷ word) zero bit e inside =
    let same : k ≡ bit = omega (arith, e) in
    let rest = places_from (k + 1) next s word in (
      unsigned_abs l,
      subst (λ b. Contains (place_at next s (k, l) ∷ rest) (placed next s b (unsigned_abs l))) same
          (Contains-head (place_at next s (k, l)) rest),
    )
to_word next s k (l ∷ word) (suc i) bit e inside =
    let found = to_word next s (k + 1) word i bit (omega (arith, e)) (omega (arith, inside)) in (
      found.0,
      Contains-later (place_at next s (k, l)) (places_from (k + 1) next s word)
          (placed next s bit found.0) found.1,
    )

-- ---- places of a list's words

from_list : (next : Bool) (words : Words) (ss : List ℕ) (place : BitPlace) →
    Contains (bit_places next words ss) place →
    (s : ℕ) × Contains ss s × IsBitOf next s 0 (words s) place
from_list next words [] place at = absurd (Contains-nil place at)
from_list next words (s ∷ ss) place at = ⊎_elim
    (λ here. (s, Contains-head s ss, from_word next s 0 (words s) place here))
    (λ later. let found = from_list next words ss place later in
    (found.0, Contains-later s ss found.0 found.1, found.2))
    (Contains-either (word_places next s (words s)) (bit_places next words ss) place at)

to_list : (next : Bool) (words : Words) (ss : List ℕ) (s : ℕ) (place : BitPlace) →
    Contains ss s → Contains (word_places next s (words s)) place →
    Contains (bit_places next words ss) place
to_list next words [] s place at inside = absurd (Contains-nil s at)
to_list next words (t ∷ ss) s place at inside = ⊎_elim
    (λ here. Contains-left (word_places next t (words t)) (bit_places next words ss) place
    (subst (λ z. Contains (word_places next z (words z)) place) (sym here) inside))
    (λ later. Contains-right (word_places next t (words t)) (bit_places next words ss) place
    (to_list next words ss s place later inside))
    (Contains-cases t ss s at)

-- ---- no two of one bit

abbrev Apart : BitPlace → BitPlace → Type 0
Apart a b = ¬ AreOfOneBit a b

pairs_join : (xs ys : List BitPlace) → AllPairs Apart xs → AllPairs Apart ys →
    ((x y : BitPlace) → Contains xs x → Contains ys y → Apart x y) → AllPairs Apart (xs ++ ys)
pairs_join [] ys one two across = two
pairs_join (x ∷ xs) ys one two across =
    AllPairs-cons Apart x (xs ++ ys)
    (contained_all (Apart x) (xs ++ ys) (λ y at. ⊎_elim
    (λ left. head y left)
    (λ right. across x y (Contains-head x xs) right)
    (Contains-either xs ys y at)))
    (pairs_join xs ys (λ i j d less inside. one (suc i) (suc j) d (omega (arith, less))
    (omega (arith, inside))) two
    (λ a y at right. across a y (Contains-later x xs a at) right))
  where
    head : (y : BitPlace) → Contains xs y → Apart x y
    head y at =
        subst (Apart x) at.2 (one 0 (suc at.0) y (omega arith) (omega (arith, at.1)))

word_apart : (next : Bool) (s k : ℕ) (word : Word) → AllPairs Apart (places_from k next s word)
word_apart next s k [] = λ i j d less inside. absurd (omega (arith, inside))
word_apart next s k (l ∷ word) =
    let rest = places_from (k + 1) next s word in
    AllPairs-cons Apart (place_at next s (k, l)) rest
    (contained_all (Apart (place_at next s (k, l))) rest (λ y at same.
    omega (arith, (from_word next s (k + 1) word y at).low, same.2)))
    (word_apart next s (k + 1) word)

list_apart : (next : Bool) (words : Words) (ss : List ℕ) → EachOnce ss →
    AllPairs Apart (bit_places next words ss)
list_apart next words [] once = λ i j d less inside. absurd (omega (arith, inside))
list_apart next words (s ∷ ss) once =
    pairs_join (word_places next s (words s)) (bit_places next words ss)
    (word_apart next s 0 (words s)) (list_apart next words ss (once_rest s ss once))
    (λ x y left right same.
    let found = from_list next words ss y right in
    let e : s ≡ found.0 =
    sym (from_word next s 0 (words s) x left).signal ∙ same.0 ∙ found.2.signal in
    false≢true (sym (once_head s ss once)
    ∙ holds-from_Contains ss s (subst (Contains ss) (sym e) found.1)))

-- ---- of a query

module _ (design : FlatDesign) (checked : IsChecked design) (o : Obligation)
    (query : IsQueryOf design o) where
  abbrev last : ℕ
  last = (encoding design o).variables

  abbrev given : List BitPlace
  given = bit_places false (s1 design checked o query).1 (given_in design (now_cone design o))

  abbrev later : List BitPlace
  later = bit_places true (s3 design checked o query).1 (inputs_in design (next_cone design o))

  grows : ((s3 design checked o query).0).variables ≤ last
  grows =
      let kept = units_keep (units design checked o query) (steps_done design checked o query).0 in
      omega (arith, kept, (after_three design checked o query).begins.grows)

  grows_from_one : ((s1 design checked o query).0).variables ≤ last
  grows_from_one =
      omega (
        arith,
        grows,
        (p2 design checked o query).extends.begins.grows,
        (free3 design checked o query).begins.grows,
      )

  a_place : (next : Bool) (s n : ℕ) (word : Word) (place : BitPlace) → n ≤ last →
      IsWordOf design s n word → IsGiven design o next s → IsBitOf next s 0 word place →
      IsPlace design o last place
  a_place next s n word place more is is_given at =
      let variable = at.variable n is.0 in
      record {
        given = subst (λ z. IsGiven design o place.next z) (sym at.signal)
            (subst (λ z. IsGiven design o z s) (sym at.cycle) is_given);
        inside = subst (λ z. place.bit < signal_width design.signals z) (sym at.signal)
            (subst (λ z. place.bit < z) is.1 (omega (arith, at.high)));
        from_one = variable.0;
        variable = omega (arith, variable.1, more);
      }

  -- the place of a bit of the words of a list
  list_place : (next : Bool) (list : List ℕ) (n : ℕ) (words : Words) → n ≤ last →
      ((s : ℕ) → IsTrue (holds list s) → IsWordOf design s n (words s)) →
      ((s : ℕ) → IsTrue (holds list s) → IsGiven design o next s) →
      (place : BitPlace) → Contains (bit_places next words list) place → IsPlace design o last place
  list_place next list n words more are are_given place at =
      let found = from_list next words list place at in
      let s = found.0 in
      let held = holds-from_Contains list s found.1 in
      a_place next s n (words s) place more (are s held) (are_given s held) found.2

  given_is : (s : ℕ) → IsTrue (holds (given_in design (now_cone design o)) s) →
      IsGiven design o false s
  given_is s held =
      let both = from_filter design checked o query
      (λ s. is_top_input design s || is_register design s) (now_cone design o) s held in
      let input = (flat_system design).is_input s in (
        ⊎_elim
            (λ top. or_right (is_register design s) input
            (is_input design checked o query s top (seen_now design checked o query s both.1)))
            (λ register. or_left (is_register design s) input register)
            (or_cases (is_top_input design s) (is_register design s) both.0),
        both.1,
      )

  later_is : (s : ℕ) → IsTrue (holds (inputs_in design (next_cone design o)) s) →
      IsGiven design o true s
  later_is s held =
      let both = from_filter design checked o query (is_top_input design) (next_cone design o) s
      held in (
        is_input design checked o query s both.0 (seen_next design checked o query s both.1),
        both.1,
      )

  given_place : (place : BitPlace) → Contains given place → IsPlace design o last place
  given_place =
      list_place false (given_in design (now_cone design o))
      ((s1 design checked o query).0).variables (s1 design checked o query).1 grows_from_one
      (λ s held. ((free1 design checked o query).words s held).inside) given_is

  later_place : (place : BitPlace) → Contains later place → IsPlace design o last place
  later_place =
      list_place true (inputs_in design (next_cone design o))
      ((s3 design checked o query).0).variables (s3 design checked o query).1 grows
      (λ s held. ((free3 design checked o query).words s held).inside) later_is

  -- every bit has a place
  find_place : (next : Bool) (words : Words) (ss : List ℕ) (s bit : ℕ) → IsTrue (holds ss s) →
      bit < length (words s) →
      (variable : ℕ) × Contains (bit_places next words ss) (placed next s bit variable)
  find_place next words ss s bit held inside =
      let found = to_word next s 0 (words s) bit bit (omega arith) inside in (
        found.0,
        to_list next words ss s (placed next s bit found.0) (Contains-from_holds ss s held) found.1,
      )

  top_of : (s : ℕ) → IsTrue ((flat_system design).is_input s) → IsTrue (is_top_input design s)
  top_of s input = first_of (is_top_input design s) (not (is_clock design s)) input

  all_places : (next : Bool) (s bit : ℕ) → IsGiven design o next s →
      bit < signal_width design.signals s →
      (variable : ℕ) × Contains (encoding design o).bits (placed next s bit variable)
  all_places false s bit is inside =
      let list = given_in design (now_cone design o) in
      let top = is_top_input design s in
      let register = is_register design s in
      let held = to_filter design checked o query
      (λ s. is_top_input design s || is_register design s) (now_cone design o) s
      (⊎_elim
      (λ registered. or_right top register registered)
      (λ input. or_left top register (top_of s input))
      (or_cases register ((flat_system design).is_input s) is.0)) is.1 in
      let width = ((free1 design checked o query).words s held).inside.1 in
      let found = find_place false (s1 design checked o query).1 list s bit held
      (subst (λ z. bit < z) (sym width) inside) in
      (found.0, Contains-left given later (placed false s bit found.0) found.1)
  all_places true s bit is inside =
      let list = inputs_in design (next_cone design o) in
      let held = to_filter design checked o query (is_top_input design) (next_cone design o) s
      (top_of s is.0) is.1 in
      let width = ((free3 design checked o query).words s held).inside.1 in
      let found = find_place true (s3 design checked o query).1 list s bit held
      (subst (λ z. bit < z) (sym width) inside) in
      (found.0, Contains-right given later (placed true s bit found.0) found.1)

  is_whole : IsWhole design o (encoding design o)
  is_whole = record {
    within = units_closed (units design checked o query) (steps_done design checked o query).0
        (p10 design checked o query).extends.closed (units_inside design checked o query);
    places = contained_all (IsPlace design o last) (given ++ later) (λ place at. ⊎_elim
        (λ now. given_place place now)
        (λ next. later_place place next)
        (Contains-either given later place at));
    apart = pairs_join given later
        (list_apart false (s1 design checked o query).1 (given_in design (now_cone design o))
        (given_once design o))
        (list_apart true (s3 design checked o query).1 (inputs_in design (next_cone design o))
        (inputs_once design o))
        (λ x y left right same.
        let now = from_list false (s1 design checked o query).1
        (given_in design (now_cone design o)) x left in
        let next = from_list true (s3 design checked o query).1
        (inputs_in design (next_cone design o)) y right in
        false≢true (sym now.2.cycle ∙ same.1 ∙ next.2.cycle));
    all = all_places;
  }

pub encoding_is_whole : EncodingIsWhole
encoding_is_whole design o checked query = is_whole design checked o query
