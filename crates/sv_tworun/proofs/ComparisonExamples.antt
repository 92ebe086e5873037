-- What the comparison of two runs finds of two small designs, by computation.
use Rattle.std.proofs.Common.{◌≡◌, ℕ, zero, suc, ◌<◌, ◌^◌, Bool, true, false, cond, List, [], ◌∷◌}
use Rattle.std.proofs.Common.{Some, refl, ap, arith}
use Rattle.std.specs.Prelude.{IsTrue}
use Rattle.std.proofs.lemmas.Bool.{false≢true, ne_eqb}
use Rattle.std.proofs.lemmas.List.Elements.{All-nil, All-cons}
use Rattle.sv_system.specs.System.{Environment, Settled, seen}
use Rattle.sv_system.proofs.Lists.{Contains-head, Contains-later}
use Rattle.sv_flat.specs.ByNumber.{by_number}
use Rattle.sv_flat.specs.Design.{typed, choice, continuous, ProcessForm, FlatDesign}
use Rattle.sv_flat.specs.FlatSystem.{flat_system, run_of}
use Rattle.sv_flat.specs.SignalLists.{inputs}
use Rattle.sv_flat.proofs.Forms.{at, named, process, sets}
use Rattle.sv_obl.proofs.ExampleDesigns.{turns, point, design}
use Rattle.sv_flat.specs.Given.{given}
use Rattle.sv_tworun.specs.declared.compared.Compared.TheVariants.{Equal, InputsDiffer}
use Rattle.sv_tworun.specs.declared.compared.Compared.TheVariants.{ViewsDiffer, LengthsDiffer}
use Rattle.sv_tworun.specs.Comparisons.{SaySame, is_given, AtCycle, IsComparison}
use Rattle.sv_tworun.specs.Forms.{Run, IsTraceOf}
use Rattle.sv_tworun.proofs.ApartFacts.{say_same, sights_same}

-- module top(input turn, input a, input {H} b, output {Dom(turn)} y);
--   assign y = turn ? FIRST : SECOND;
abbrev shown : (first second : ℕ) → ProcessForm
shown first second =
    process continuous (at 3 10) (sets 3 (at 3 10) (typed 1 false (choice (at 3 19)
    (named 0 (at 3 14)) (named first (at 3 21)) (named second (at 3 25)))))

abbrev shows : (first second : ℕ) → FlatDesign
shows first second = design turns.signals (shown first second ∷ [])

abbrev bit : Bool → ℕ
bit b = cond b 1 0

bit_fits : (b : Bool) → bit b < 2
bit_fits b = elim b as (λ c. bit c < 2) [ true ↦ omega arith | false ↦ omega arith ]

abbrev bits : (turn a b y : Bool) → Environment ℕ
bits turn a b y = by_number (bit turn ∷ bit a ∷ bit b ∷ bit y ∷ [])

abbrev given_bits : (turn a b : Bool) → List ℕ
given_bits turn a b = bit turn ∷ bit a ∷ bit b ∷ []

abbrev run : List (List ℕ) → Run
run cycles = record { start = []; cycles = cycles }

module _ (first second : ℕ) where
  abbrev change : Environment ℕ → Environment ℕ
  change = run_of (shows first second) (shown first second)

  -- the values of a cycle are settled where y is what is shown
  module _ (turn a b y : Bool) where
    inputs_are : (s : ℕ) → IsTrue ((flat_system (shows first second)).is_input s)
        → bits turn a b y s ≡ given (inputs (shows first second)) (given_bits turn a b) s
    inputs_are zero is = refl
    inputs_are (suc zero) is = refl
    inputs_are (suc (suc zero)) is = refl
    inputs_are (suc (suc (suc zero))) is = absurd (false≢true is)
    inputs_are (suc (suc (suc (suc s)))) is = absurd (false≢true is)

    still : change (bits turn a b y) 3 ≡ bit y → (s : ℕ)
        → change (bits turn a b y) s ≡ bits turn a b y s
    still is zero = refl
    still is (suc zero) = refl
    still is (suc (suc zero)) = refl
    still is (suc (suc (suc zero))) = is
    still is (suc (suc (suc (suc s)))) =
        ap (λ same. cond same (change (bits turn a b y) 3) 0)
        (ne_eqb 3 (suc (suc (suc (suc s)))) (λ same. omega (arith, same)))

    settled : (state : Environment ℕ) → change (bits turn a b y) 3 ≡ bit y →
        Settled (flat_system (shows first second)) state
        (given (inputs (shows first second)) (given_bits turn a b)) (bits turn a b y)
    settled state is =
        let P : ℕ → Type 0 = λ s.
        bits turn a b y s < 2 ^ (flat_system (shows first second)).width s in
        let Q : (Environment ℕ → Environment ℕ) → Type 0 = λ run. (s : ℕ) →
        run (bits turn a b y) s ≡ bits turn a b y s in
        record {
          registers = λ s register. absurd (false≢true register);
          inputs_are = inputs_are;
          fits = All-cons P 0 (1 ∷ 2 ∷ 3 ∷ []) (bit_fits turn) (All-cons P 1 (2 ∷ 3 ∷ [])
              (bit_fits a) (All-cons P 2 (3 ∷ []) (bit_fits b) (All-cons P 3 [] (bit_fits y)
              (All-nil P))));
          still = All-cons Q change [] (still is) (All-nil Q);
        }

  traced : (t a b y u c d z : Bool) → change (bits t a b y) 3 ≡ bit y →
      change (bits u c d z) 3 ≡ bit z →
      IsTraceOf (shows first second) (run (given_bits t a b ∷ given_bits u c d ∷ []))
      (bits t a b y ∷ bits u c d z ∷ [])
  traced t a b y u c d z one other =
      (settled t a b y _ one, (settled u c d z _ other, tt))

-- y = turn ? b : a
pub equal_views : IsComparison (shows 2 1) (point 0)
    (run ((0 ∷ 1 ∷ 0 ∷ []) ∷ (1 ∷ 1 ∷ 1 ∷ []) ∷ []))
    (run ((0 ∷ 1 ∷ 1 ∷ []) ∷ (1 ∷ 1 ∷ 0 ∷ []) ∷ [])) (Equal 2)
equal_views = record {
  one = bits false true false true ∷ bits true true true true ∷ [];
  other = bits false true true true ∷ bits true true false false ∷ [];
  of_first = traced 2 1 false true false true true true true true refl refl;
  of_second = traced 2 1 false true true true true true false false refl refl;
  finds = (refl, refl, refl);
}

pub lengths_differ : IsComparison (shows 2 1) (point 0)
    (run ((0 ∷ 1 ∷ 0 ∷ []) ∷ (1 ∷ 1 ∷ 1 ∷ []) ∷ [])) (run ((0 ∷ 1 ∷ 1 ∷ []) ∷ []))
    (LengthsDiffer 1)
lengths_differ = record {
  one = bits false true false true ∷ bits true true true true ∷ [];
  other = bits false true true true ∷ [];
  of_first = traced 2 1 false true false true true true true true refl refl;
  of_second = (settled 2 1 false true true true _ refl, tt);
  finds = (λ same. omega (arith, same), refl, refl);
}

at_one : {e f g h : Environment ℕ} {P : Environment ℕ → Environment ℕ → Type 0} → P f h →
    AtCycle 1 (e ∷ f ∷ []) (g ∷ h ∷ []) P
at_one {e} {f} {g} {h} is =
    record { one = f; other = h; in_first = refl; in_second = refl; holds = is }

-- two views of the public level say the same of a signal
abbrev Alike : (first second : ℕ) → (kind : ℕ → Bool) → (e f : Environment ℕ) → ℕ → Type 0
Alike first second kind e f =
    SaySame (seen kind (flat_system (shows first second)) (point 0) e)
    (seen kind (flat_system (shows first second)) (point 0) f)

other_bit : Some (suc zero) ≡ Some zero → ⊥
other_bit h = cc

pub inputs_differ : IsComparison (shows 2 1) (point 0)
    (run ((0 ∷ 1 ∷ 0 ∷ []) ∷ (1 ∷ 1 ∷ 1 ∷ []) ∷ []))
    (run ((0 ∷ 1 ∷ 1 ∷ []) ∷ (0 ∷ 1 ∷ 0 ∷ []) ∷ [])) (InputsDiffer 1 (record { 0 = 0 }))
inputs_differ = record {
  one = bits false true false true ∷ bits true true true true ∷ [];
  other = bits false true true true ∷ bits false true false true ∷ [];
  of_first = traced 2 1 false true false true true true true true refl refl;
  of_second = traced 2 1 false true true true false true false true refl refl;
  finds = (
    refl,
    at_one (record {
      front = [];
      rest = 1 ∷ 2 ∷ 3 ∷ [];
      stands = refl;
      apart = λ same. other_bit (sights_same (flat_system (shows 2 1)) (point 0)
          (is_given (flat_system (shows 2 1)) 1) (bits true true true true)
          (bits false true false true) 0 (Contains-head 0 (1 ∷ 2 ∷ 3 ∷ [])) refl same);
      before = All-nil (Alike 2 1 (is_given (flat_system (shows 2 1)) 1)
          (bits true true true true) (bits false true false true));
    }),
  );
}

-- y = turn ? a : b
pub views_differ : IsComparison (shows 1 2) (point 0)
    (run ((1 ∷ 1 ∷ 1 ∷ []) ∷ (0 ∷ 1 ∷ 1 ∷ []) ∷ []))
    (run ((1 ∷ 1 ∷ 0 ∷ []) ∷ (0 ∷ 1 ∷ 0 ∷ []) ∷ [])) (ViewsDiffer 1 (record { 0 = 3 }))
views_differ = record {
  one = bits true true true true ∷ bits false true true true ∷ [];
  other = bits true true false true ∷ bits false true false false ∷ [];
  of_first = traced 1 2 true true true true false true true true refl refl;
  of_second = traced 1 2 true true false true false true false false refl refl;
  finds = (
    refl,
    at_one (record {
      alike = refl;
      first = record {
        front = 0 ∷ 1 ∷ 2 ∷ [];
        rest = [];
        stands = refl;
        apart = λ same. other_bit (sights_same (flat_system (shows 1 2)) (point 0) (λ s. true)
            (bits false true true true) (bits false true false false) 3
            (Contains-later 0 (1 ∷ 2 ∷ 3 ∷ []) 3 (Contains-later 1 (2 ∷ 3 ∷ []) 3
            (Contains-later 2 (3 ∷ []) 3 (Contains-head 3 [])))) refl same);
        before =
            let P = Alike 1 2 (λ s. true) (bits false true true true)
            (bits false true false false) in
            All-cons P 0 (1 ∷ 2 ∷ [])
            (say_same (flat_system (shows 1 2)) (point 0) (λ s. true)
            (bits false true true true) (bits false true false false) 0 (λ of_kind. refl))
            (All-cons P 1 (2 ∷ [])
            (say_same (flat_system (shows 1 2)) (point 0) (λ s. true)
            (bits false true true true) (bits false true false false) 1 (λ of_kind. refl))
            (All-cons P 2 []
            (say_same (flat_system (shows 1 2)) (point 0) (λ s. true)
            (bits false true true true) (bits false true false false) 2 (λ of_kind. refl))
            (All-nil P)));
      };
    }),
  );
}
