-- The places of the bits of words tell what the words spell.
use Rattle.std.proofs.Common.{◌≡◌, ℕ, zero, suc, ◌+◌, ◌*◌, ◌^◌, ◌<◌, ◌==◌, Bool, true, false, cond}
use Rattle.std.proofs.Common.{◌||◌, ◌&&◌, ℤ, pos, unsigned_abs, List, [], ◌∷◌, ◌++◌, map, length}
use Rattle.std.proofs.Common.{refl, sym, ap, ap₂, ◌∙◌, subst, ⊎_elim, arith}
use Rattle.std.specs.Prelude.{◌≢◌, IsTrue, IsFalse, filter, sum, flat_map}
use Rattle.std.specs.Bool.{beq}
use Rattle.std.specs.List.{enumerate_from, list_any, range_with_len}
use Rattle.std.proofs.lemmas.Bool.{false≢true, eqb-true, eq-eqb, or_left, or_right}
use Rattle.std.proofs.lemmas.List.{map-append}
use Rattle.std.proofs.lemmas.List.Elements.{filter-append}
use Rattle.std.proofs.lemmas.List.Sums.{sum_by-append}
use Rattle.std.proofs.lemmas.List.Kept.{AllPairs-filter}
use Rattle.std.proofs.lemmas.List.FromFn.{length-range_with_len, get_or-range_with_len}
use Rattle.std.proofs.Math.Nat.{pow-suc}
use Rattle.sv_num.specs.Vectors.{truth}
use Rattle.sv_flat.specs.Design.{SignalForm, TypedTree, FlatDesign}
use Rattle.sv_flat.specs.Values.{signal_of}
use Rattle.sv_flat.specs.Readings.{names_signal}
use Rattle.sv_flat.specs.Selectors.{selectors_of}
use Rattle.sv_flat.specs.Processes.{is_top_input, is_register, signals_that}
use Rattle.sv_flat.specs.Reads.{is_read_for, reads_for}
use Rattle.sv_flat.specs.Sets.{holds, those, with_all_brought, least_set}
use Rattle.sv_flat.proofs.LeastSets.{either_way, Contains-from_holds}
use Rattle.sv_clause.specs.Literals.{literal_true}
use Rattle.sv_circuits.specs.Words.{Word, word_value}
use Rattle.sv_obl.specs.declared.frames.Frame.TheVariants.{Now, Next}
use Rattle.sv_obl.specs.Obligations.{GoalForm, flow, holds as must_hold, selector, Obligation}
use Rattle.sv_encoding.specs.Expressions.{Words}
use Rattle.sv_encoding.specs.Cones.{registers_in, now_cone, next_cone, brings_reads, named_in}
use Rattle.sv_encoding.specs.Cones.{label_selectors, asked_next, asked_now, conditions_of}
use Rattle.sv_encoding.specs.Encoding.{BitPlace, word_places, bit_places, given_in, inputs_in}
use Rattle.sv_encoding.specs.Valuations.{place_value, is_place_of, placed_value}
use Rattle.sv_encoding.specs.GivenMeanings.{EachOnce, IsOfVariables, AreOfVariables, PlacesTell}
use Rattle.sv_encoding.specs.GivenMeanings.{spelled_or_zero, DecodedTellsWords, ConesHaveEachOnce}
use Rattle.sv_encoding.specs.GivenMeanings.{PlacesSpellWords}

-- ---- sums

sum_cons : (n : ℕ) (ns : List ℕ) → sum (n ∷ ns) ≡ n + sum ns
sum_cons n ns = sum_by-append (λ k. k) (n ∷ []) ns ∙ omega arith

placed_join : (values : ℕ → Bool) (xs ys : List BitPlace) (next : Bool) (s : ℕ) →
    placed_value values (xs ++ ys) next s
    ≡ placed_value values xs next s + placed_value values ys next s
placed_join values xs ys next s =
    ap (λ z. sum (map (place_value values) z)) (filter-append (is_place_of next s) xs ys)
    ∙ ap sum (map-append (place_value values) (filter (is_place_of next s) xs)
    (filter (is_place_of next s) ys))
    ∙ sum_by-append (λ k. k) (map (place_value values) (filter (is_place_of next s) xs))
    (map (place_value values) (filter (is_place_of next s) ys))

-- ---- one word

abbrev pub place_at : Bool → ℕ → ℕ × ℤ → BitPlace
place_at next s bit =
    record { signal = s; next = next; bit = bit.0; variable = unsigned_abs bit.1 }

abbrev pub places_from : ℕ → Bool → ℕ → Word → List BitPlace
places_from k next s word = map (place_at next s) (enumerate_from k word)

beq_same : (b : Bool) → beq b b ≡ true
beq_same true = refl
beq_same false = refl

and_true : (b c : Bool) → b ≡ true → c ≡ true → (b && c) ≡ true
and_true true c e f = f
and_true false c e f = absurd (false≢true e)

literal_is : (values : ℕ → Bool) (l : ℤ) → ((n : ℕ) × (l ≡ pos (suc n))) →
    values (unsigned_abs l) ≡ literal_true values l
literal_is values l is =
    ap (λ z. values (unsigned_abs z)) is.1 ∙ sym (ap (literal_true values) is.1)

weighed : (t p q v : ℕ) → q ≡ 2 * p → t * p + q * v ≡ p * (t + 2 * v)
weighed t p q v e = ap (λ z. t * p + z * v) e ∙ omega arith

own_word : (values : ℕ → Bool) (next : Bool) (s k : ℕ) (word : Word) → IsOfVariables word →
    placed_value values (places_from k next s word) next s ≡ 2 ^ k * word_value values word
own_word values next s k [] is = omega arith
own_word values next s k (l ∷ word) is =
    let place = place_at next s (k, l) in
    let rest = filter (is_place_of next s) (places_from (k + 1) next s word) in
    ap (λ c. sum (map (place_value values) (cond c (place ∷ rest) rest)))
    (and_true (beq next next) (s == s) (beq_same next) (eq-eqb s s refl))
    ∙ sum_cons (place_value values place) (map (place_value values) rest)
    ∙ ap₂ (λ b z. truth b * 2 ^ k + z) (literal_is values l is.0)
    (own_word values next s (k + 1) word is.1)
    ∙ weighed (truth (literal_true values l)) (2 ^ k) (2 ^ (k + 1)) (word_value values word) (power k)
  where
    power : (k : ℕ) → 2 ^ (k + 1) ≡ 2 * 2 ^ k
    power k = ap (λ j. 2 ^ j) one ∙ pow-suc 2 k ∙ omega arith
      where
        one : k + 1 ≡ suc k
        one = omega arith

other_word : (values : ℕ → Bool) (next now : Bool) (t s k : ℕ) (word : Word) →
    (beq next now && (t == s)) ≡ false →
    placed_value values (places_from k next t word) now s ≡ 0
other_word values next now t s k [] out = refl
other_word values next now t s k (l ∷ word) out =
    let rest = filter (is_place_of now s) (places_from (k + 1) next t word) in
    ap (λ c. sum (map (place_value values) (cond c (place_at next t (k, l) ∷ rest) rest))) out
    ∙ other_word values next now t s (k + 1) word out

-- ---- words of a list

pub once_rest : (t : ℕ) (ss : List ℕ) → EachOnce (t ∷ ss) → EachOnce ss
once_rest t ss once i j d less inside = once (suc i) (suc j) d (omega (arith, less))
    (omega (arith, inside))

pub once_head : (t : ℕ) (ss : List ℕ) → EachOnce (t ∷ ss) → IsFalse (holds ss t)
once_head t ss once = ⊎_elim
    (λ inside.
    let at = Contains-from_holds ss t inside in
    absurd (once 0 (suc at.0) t (omega arith) (omega (arith, at.1)) (sym at.2)))
    (λ out. out)
    (either_way (holds ss t))

only_second : (b c : Bool) → b ≡ false → (b && c) ≡ false
only_second true c e = absurd (false≢true (sym e))
only_second false c e = refl

not_second : (b c : Bool) → c ≡ false → (b && c) ≡ false
not_second true c e = e
not_second false c e = refl

abbrev OfRest : (ℕ → Bool) → Bool → Words → List ℕ → ℕ → Type 0
OfRest values next words ss s =
    placed_value values (bit_places next words ss) next s ≡ spelled_or_zero values ss words s

abbrev OfBoth : (ℕ → Bool) → Bool → Words → ℕ → List ℕ → ℕ → Type 0
OfBoth values next words t ss s =
    placed_value values (word_places next t (words t)) next s
    + placed_value values (bit_places next words ss) next s
    ≡ spelled_or_zero values (t ∷ ss) words s

listed_places : (values : ℕ → Bool) (next : Bool) (words : Words) (ss : List ℕ) → EachOnce ss →
    AreOfVariables ss words → (s : ℕ) →
    placed_value values (bit_places next words ss) next s ≡ spelled_or_zero values ss words s
listed_places values next words [] once are s = refl
listed_places values next words (t ∷ ss) once are s =
    let rest = listed_places values next words ss (once_rest t ss once)
    (λ u h. are u (or_right (t == u) (holds ss u) h)) s in
    placed_join values (word_places next t (words t)) (bit_places next words ss) next s
    ∙ ⊎_elim (here rest) (there rest) (either_way (t == s))
  where
    alone : (v : ℕ) → 2 ^ 0 * v + 0 ≡ v
    alone v = omega arith

    none_before : (v : ℕ) → 0 + v ≡ v
    none_before v = omega arith

    here : OfRest values next words ss s → IsTrue (t == s) → OfBoth values next words t ss s
    here rest same =
        let e = eqb-true t s same in
        let own = own_word values next t 0 (words t)
        (are t (or_left (t == t) (holds ss t) (eq-eqb t t refl))) in
        ap₂ (λ a b. a + b)
        (subst (λ z. placed_value values (word_places next t (words t)) next z
        ≡ 2 ^ 0 * word_value values (words z)) e own)
        (rest ∙ ap (λ c. cond c (word_value values (words s)) 0)
        (subst (λ z. holds ss z ≡ false) e (once_head t ss once)))
        ∙ alone (word_value values (words s))
        ∙ sym (ap (λ c. cond (c || holds ss s) (word_value values (words s)) 0) same)

    there : OfRest values next words ss s → IsFalse (t == s) → OfBoth values next words t ss s
    there rest out =
        ap₂ (λ a b. a + b)
        (other_word values next next t s 0 (words t) (not_second (beq next next) (t == s) out)) rest
        ∙ none_before (spelled_or_zero values ss words s)
        ∙ sym (ap (λ c. cond (c || holds ss s) (word_value values (words s)) 0) out)

elsewhere : (values : ℕ → Bool) (next now : Bool) → beq next now ≡ false → (words : Words)
    (ss : List ℕ) (s : ℕ) → placed_value values (bit_places next words ss) now s ≡ 0
elsewhere values next now apart words [] s = refl
elsewhere values next now apart words (t ∷ ss) s =
    placed_join values (word_places next t (words t)) (bit_places next words ss) now s
    ∙ ap₂ (λ a b. a + b)
    (other_word values next now t s 0 (words t) (only_second (beq next now) (t == s) apart))
    (elsewhere values next now apart words ss s)

pub places_tell : (values : ℕ → Bool) (signals : List ℕ) (words : Words) → EachOnce signals →
    AreOfVariables signals words → PlacesTell values signals words
places_tell values signals words once are = record {
  now = listed_places values false words signals once are;
  next = listed_places values true words signals once are;
  not_next = elsewhere values false true refl words signals;
  not_now = elsewhere values true false refl words signals;
}

-- ---- both lists

pub holds_filter : (test : ℕ → Bool) (set : List ℕ) (s : ℕ) →
    holds (filter test set) s ≡ (test s && holds set s)
holds_filter test [] s = sym (not_second (test s) false refl)
holds_filter test (m ∷ set) s = by (holds_filter test set s) (test m) refl (m == s) refl
  where
    by : holds (filter test set) s ≡ (test s && holds set s) → (c : Bool) → test m ≡ c →
        (d : Bool) → (m == s) ≡ d →
        holds (cond c (m ∷ filter test set) (filter test set)) s
        ≡ (test s && ((m == s) || holds set s))
    by rest true passes true same =
        ap (λ z. z || holds (filter test set) s) same
        ∙ sym (ap (λ z. test s && (z || holds set s)) same
        ∙ ap (λ z. z && true) (subst (λ z. test z ≡ true) (eqb-true m s same) passes))
    by rest true passes false other =
        ap (λ z. z || holds (filter test set) s) other
        ∙ rest ∙ sym (ap (λ z. test s && (z || holds set s)) other)
    by rest false fails true same =
        let fails_at : test s ≡ false = subst (λ z. test z ≡ false) (eqb-true m s same) fails in
        rest ∙ only_second (test s) (holds set s) fails_at
        ∙ sym (only_second (test s) ((m == s) || holds set s) fails_at)
    by rest false fails false other =
        rest ∙ sym (ap (λ z. test s && (z || holds set s)) other)

-- a test that a signal passes only where it passes the one by which a list was kept
kept_value : (p q h : Bool) (v : ℕ) → (p ≡ true → q ≡ true) →
    cond p (cond (q && h) v 0 + 0) 0 ≡ cond (p && h) v 0
kept_value false q h v from = refl
kept_value true q h v from =
    ap (λ z. cond (z && h) v 0 + 0) (from refl) ∙ omega arith

pub decoded_tells : DecodedTellsWords
decoded_tells design cone later_cone given later values once later_once are later_are =
    let is_given = λ (s : ℕ). is_top_input design s || is_register design s in
    let first = places_tell values (given_in design cone) given
    (AllPairs-filter ◌≢◌ is_given cone once) are in
    let second = places_tell values (inputs_in design later_cone) later
    (AllPairs-filter ◌≢◌ (is_top_input design) later_cone later_once) later_are in
    let xs = bit_places false given (given_in design cone) in
    let ys = bit_places true later (inputs_in design later_cone) in
    let now : (s : ℕ) → placed_value values (xs ++ ys) false s
    ≡ spelled_or_zero values (given_in design cone) given s + 0 =
    (λ s. placed_join values xs ys false s
    ∙ ap₂ (λ a b. a + b) (first.now s) (second.not_now s)) in
    let next : (s : ℕ) → placed_value values (xs ++ ys) true s
    ≡ spelled_or_zero values (inputs_in design later_cone) later s + 0 =
    (λ s. placed_join values xs ys true s
    ∙ ap₂ (λ a b. a + b) (first.not_next s) (second.next s) ∙ omega arith) in
    let kept : (test : ℕ → Bool) (set : List ℕ) (words : Words) (p : Bool) (s : ℕ) (n : ℕ) →
    (p ≡ true → test s ≡ true) → n ≡ spelled_or_zero values (filter test set) words s + 0 →
    cond p n 0 ≡ cond (p && holds set s) (word_value values (words s)) 0 =
    (λ test set words p s n from e.
    ap (λ z. cond p z 0) e
    ∙ ap (λ c. cond p (cond c (word_value values (words s)) 0 + 0) 0) (holds_filter test set s)
    ∙ kept_value p (test s) (holds set s) (word_value values (words s)) from) in
    record {
      registers = λ s.
          kept is_given cone given (is_register design s) s (placed_value values (xs ++ ys) false s)
          (λ e. or_right (is_top_input design s) (is_register design s) e) (now s)
          ∙ sym (ap (λ c. cond c (word_value values (given s)) 0)
          (holds_filter (is_register design) cone s));
      inputs = λ s.
          kept is_given cone given (is_top_input design s) s (placed_value values (xs ++ ys) false s)
          (λ e. or_left (is_top_input design s) (is_register design s) e) (now s)
          ∙ sym (ap (λ c. cond c (word_value values (given s)) 0)
          (holds_filter (is_top_input design) cone s));
      next_inputs = λ s.
          kept (is_top_input design) later_cone later (is_top_input design s) s
          (placed_value values (xs ++ ys) true s) (λ e. e) (next s)
          ∙ sym (ap (λ c. cond c (word_value values (later s)) 0)
          (holds_filter (is_top_input design) later_cone s));
    }

-- ---- cones

pub range_from : (a n : ℕ) → EachOnce (range_with_len a n)
range_from a n i j d less inside same =
    let below : j < n = subst (λ k. j < k) (length-range_with_len a n) inside in
    let first = get_or-range_with_len a n i d (omega (arith, less, below)) in
    let second = get_or-range_with_len a n j d below in
    omega (arith, less, sym first ∙ same ∙ second)

those_once : (n : ℕ) (test : ℕ → Bool) → EachOnce (those n test)
those_once n test = AllPairs-filter ◌≢◌ test (range_with_len 0 n) (range_from 0 n)

none_once : EachOnce []
none_once i j d less inside same = omega (arith, inside)

least_once : (n : ℕ) (brings : ℕ → ℕ → Bool) (first : List ℕ) → (n ≡ 0 → first ≡ []) →
    EachOnce (least_set n brings first)
least_once zero brings first none = subst EachOnce (sym (none refl)) none_once
least_once (suc n) brings first none =
    let before = with_all_brought (suc n) brings first n in
    those_once (suc n) (λ k. holds before k || list_any (λ m. brings m k) before)

flat_none : (f : ℕ → List ℕ) → ((s : ℕ) → f s ≡ []) → (ss : List ℕ) → flat_map f ss ≡ []
flat_none f none [] = refl
flat_none f none (s ∷ ss) = ap₂ (λ a b. a ++ b) (none s) (flat_none f none ss)

no_signals : (signals : List SignalForm) → length signals ≡ 0 → signals ≡ []
no_signals [] e = refl
no_signals (s ∷ ss) e = absurd (omega (arith, e))

module _ (design : FlatDesign) (none : length design.signals ≡ 0) where
  no_selectors : (s : ℕ) → label_selectors design s ≡ []
  no_selectors s =
      ap (λ signals. selectors_of (signal_of signals s).label) (no_signals design.signals none)

  none_that : (test : ℕ → Bool) → signals_that design test ≡ []
  none_that test = ap (λ n. those n test) none

  no_named : (es : List TypedTree) → named_in design es ≡ []
  no_named es = none_that (λ s. list_any (λ e. names_signal design.signals e s) es)

  no_asked_next : (goal : GoalForm) → asked_next design goal ≡ []
  no_asked_next (flow target Next) = no_selectors target
  no_asked_next (flow target Now) = refl
  no_asked_next (must_hold e Next) = no_named (e ∷ [])
  no_asked_next (must_hold e Now) = refl
  no_asked_next (selector s) = refl

  no_asked_now : (goal : GoalForm) → asked_now design goal ≡ []
  no_asked_now (flow target Next) = refl
  no_asked_now (flow target Now) = no_selectors target
  no_asked_now (must_hold e Next) = refl
  no_asked_now (must_hold e Now) = no_named (e ∷ [])
  no_asked_now (selector s) = no_selectors s

pub cones_once : ConesHaveEachOnce
cones_once design o = (
  least_once (length design.signals) (brings_reads design)
      (named_in design (conditions_of o)
      ++ flat_map (label_selectors design) o.reads
      ++ asked_now design o.goal
      ++ flat_map (reads_for design) (registers_in design (next_cone design o)))
      (λ none.
      ap₂ (λ a b. a ++ b)
      (ap₂ (λ a b. a ++ b)
      (ap₂ (λ a b. a ++ b) (no_named design none (conditions_of o))
      (flat_none (label_selectors design) (no_selectors design none) o.reads))
      (no_asked_now design none o.goal))
      (flat_none (reads_for design) (λ s. none_that design none (is_read_for design s))
      (registers_in design (next_cone design o)))),
  least_once (length design.signals) (brings_reads design) (asked_next design o.goal)
      (λ none. no_asked_next design none o.goal),
)

-- the registers and inputs, and the inputs, of a cone
pub given_once : (design : FlatDesign) (o : Obligation) → EachOnce (given_in design (now_cone design o))
given_once design o =
    AllPairs-filter ◌≢◌ (λ s. is_top_input design s || is_register design s) (now_cone design o)
    (cones_once design o).0

pub inputs_once : (design : FlatDesign) (o : Obligation) →
    EachOnce (inputs_in design (next_cone design o))
inputs_once design o =
    AllPairs-filter ◌≢◌ (is_top_input design) (next_cone design o) (cones_once design o).1

pub places_spell : PlacesSpellWords
places_spell = (places_tell, decoded_tells, cones_once)
