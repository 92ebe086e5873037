-- Listed values of signals as those of a valuation, and that they fit.
use Rattle.std.proofs.Common.{◌≡◌, ℕ, zero, suc, ◌+◌, ◌^◌, ◌<◌, ◌≤◌, Bool, true, false, cond}
use Rattle.std.proofs.Common.{List, [], ◌∷◌, map, length, refl, sym, ap, ap₂, ◌∙◌, subst, arith, get_or}
use Rattle.std.proofs.Common.{⊎_elim}
use Rattle.std.specs.Prelude.{IsTrue, All, Contains, filter, if◌then◌else◌}
use Rattle.std.specs.List.{range_with_len}
use Rattle.std.specs.List.Sorted.{IsStrictlyIncreasing}
use Rattle.std.proofs.lemmas.Bool.{cases_lt}
use Rattle.std.proofs.lemmas.List.{length-map, get_or-map, get_or_past}
use Rattle.std.proofs.lemmas.List.Elements.{All-nil, All-cons, All-weaker}
use Rattle.sv_system.proofs.Lists.{Contains-head, Contains-later}
use Rattle.sv_flat.specs.Design.{SignalForm, FlatDesign}
use Rattle.sv_flat.specs.Values.{signal_width}
use Rattle.sv_flat.specs.Soundness.{sound}
use Rattle.sv_flat.specs.Given.{FitListed}
use Rattle.sv_flat.specs.Sets.{those}
use Rattle.sv_flat.specs.Processes.{is_top_input, is_register}
use Rattle.sv_flat.specs.FlatSystem.{flat_system}
use Rattle.sv_flat.specs.SignalLists.{registers, inputs}
use Rattle.sv_flat.proofs.Depths.{first_of}
use Rattle.sv_flat.proofs.LeastSets.{those_pass}
use Rattle.sv_rules.proofs.Sound.{few_bits}
use Rattle.sv_obl.specs.declared.valuations.Valuation.{Valuation as Listed}
use Rattle.sv_obl.specs.Valuations.{FitsDesign}
use Rattle.sv_encoding.specs.Encoding.{BitPlace, Encoding}
use Rattle.sv_obl.specs.Obligations.{Obligation}
use Rattle.sv_encoding.specs.BothWays.{IsPlace, IsWhole}
use Rattle.sv_encoding.specs.Valuations.{decoded, placed_value}
use Rattle.sv_blast.specs.declared.coded.BitPlace.{BitPlace as Place}
use Rattle.sv_blast.specs.Coded.{place_form}
use Rattle.sv_blast.specs.Decoded.{IsBitPlace, IsDecodable, ListsValues}
use Rattle.sv_blast.proofs.DecodedBits.{placed_small}

-- ---- numbers that ascend

range_above : (test : ℕ → Bool) (a n : ℕ) → All (λ m. a ≤ m) (filter test (range_with_len a n))
range_above test a zero = All-nil (λ m. a ≤ m)
range_above test a (suc n) =
    by (test a)
    (All-weaker (λ m. a + 1 ≤ m) (λ m. a ≤ m) (λ m h. omega (arith, h))
    (filter test (range_with_len (a + 1) n)) (range_above test (a + 1) n))
  where
    rest : List ℕ
    rest = filter test (range_with_len (a + 1) n)

    by : (c : Bool) → All (λ m. a ≤ m) rest → All (λ m. a ≤ m) (cond c (a ∷ rest) rest)
    by true above = All-cons (λ m. a ≤ m) a rest (omega arith) above
    by false above = above

range_rises : (test : ℕ → Bool) (a n : ℕ) →
    IsStrictlyIncreasing (filter test (range_with_len a n))
range_rises test a zero = λ k h. absurd (omega (arith, h))
range_rises test a (suc n) = by (test a) (range_rises test (a + 1) n)
  where
    rest : List ℕ
    rest = filter test (range_with_len (a + 1) n)

    by : (c : Bool) → IsStrictlyIncreasing rest → IsStrictlyIncreasing (cond c (a ∷ rest) rest)
    by true more zero h =
        let up = range_above test (a + 1) n 0 0 (omega (arith, h)) in omega (arith, up)
    by true more (suc k) h =
        let e : suc (k + 1) ≡ suc k + 1 = omega arith in
        subst (λ m. get_or rest k 0 < get_or (a ∷ rest) m 0) e (more k (omega (arith, h)))
    by false more k h = more k h

pub those_rise : (n : ℕ) (test : ℕ → Bool) → IsStrictlyIncreasing (those n test)
those_rise n test = range_rises test 0 n

-- ---- values in lists

mapped_where : (f g : ℕ → ℕ) (xs : List ℕ) → ((x : ℕ) → Contains xs x → f x ≡ g x) →
    map f xs ≡ map g xs
mapped_where f g [] same = refl
mapped_where f g (x ∷ xs) same =
    ap₂ ◌∷◌ (same x (Contains-head x xs))
    (mapped_where f g xs (λ y at. same y (Contains-later x xs y at)))

module _ (design : FlatDesign) (bits : List BitPlace) (values : ℕ → Bool) where
  -- where a test is passed the value counts
  passed : (test : ℕ → Bool) (next : Bool) (s : ℕ) → test s ≡ true →
      placed_value values bits next s ≡ (if test s then placed_value values bits next s else 0)
  passed test next s e =
      sym (ap (λ c. cond c (placed_value values bits next s) 0) e)

  input_passes : (s : ℕ) → Contains (inputs design) s → is_top_input design s ≡ true
  input_passes s at =
      first_of (is_top_input design s) _
      (those_pass (length design.signals) (flat_system design).is_input s at)

  pub lists_values : (listed : Listed) →
      listed.regs.items ≡ map (placed_value values bits false) (registers design) →
      listed.inputs.items ≡ map (placed_value values bits false) (inputs design) →
      listed.next_inputs.items ≡ map (placed_value values bits true) (inputs design) →
      ListsValues design (decoded design bits values) listed
  lists_values listed of_registers of_inputs of_next = record {
    of_registers = of_registers
        ∙ mapped_where (placed_value values bits false) (decoded design bits values).registers
        (registers design)
        (λ s at. passed (is_register design) false s
        (those_pass (length design.signals) (flat_system design).is_register s at));
    of_inputs = of_inputs
        ∙ mapped_where (placed_value values bits false) (decoded design bits values).inputs
        (inputs design) (λ s at. passed (is_top_input design) false s (input_passes s at));
    of_next_inputs = of_next
        ∙ mapped_where (placed_value values bits true) (decoded design bits values).next_inputs
        (inputs design) (λ s at. passed (is_top_input design) true s (input_passes s at));
  }

-- ---- values that fit

module _ (design : FlatDesign) (variables : ℕ) (bits : List BitPlace)
    (is : IsDecodable design variables bits) (values : ℕ → Bool) where
  value_fits : (next : Bool) (s : ℕ) →
      placed_value values bits next s < 2 ^ signal_width design.signals s
  value_fits next s =
      placed_small values next s (signal_width design.signals s) bits is.apart
      (All-weaker (IsBitPlace design variables)
      (λ place. place.signal ≡ s → place.bit < signal_width design.signals s)
      (λ place one same. subst (λ t. place.bit < signal_width design.signals t) same one.inside)
      bits is.places)

  list_fits : (next : Bool) (ss listed : List ℕ) →
      listed ≡ map (placed_value values bits next) ss → FitListed design.signals ss listed
  list_fits next ss listed e = record {
    count = ap length e ∙ length-map ss (placed_value values bits next);
    each = λ k inside.
        subst (λ n. n < 2 ^ signal_width design.signals (get_or ss k 0))
        (sym (ap (λ z. get_or z k 0) e
        ∙ get_or-map (placed_value values bits next) ss k 0 0 inside))
        (value_fits next (get_or ss k 0));
  }

  pub lists_fit : (listed : Listed) →
      listed.regs.items ≡ map (placed_value values bits false) (registers design) →
      listed.inputs.items ≡ map (placed_value values bits false) (inputs design) →
      listed.next_inputs.items ≡ map (placed_value values bits true) (inputs design) →
      FitsDesign design listed
  lists_fit listed of_registers of_inputs of_next = record {
    of_registers = list_fits false (registers design) listed.regs.items of_registers;
    of_inputs = list_fits false (inputs design) listed.inputs.items of_inputs;
    of_next_inputs = list_fits true (inputs design) listed.next_inputs.items of_next;
  }

-- ---- places of bits

-- the places of a whole encoding
pub whole_decodes : (design : FlatDesign) (o : Obligation) (made : Encoding) →
    IsWhole design o made → IsDecodable design made.variables made.bits
whole_decodes design o made whole = record {
  places = All-weaker (IsPlace design o made.variables) (IsBitPlace design made.variables)
      (λ place is. record {
        inside = is.inside;
        from_one = is.from_one;
        variable = is.variable;
      }) made.bits whole.places;
  apart = whole.apart;
}

module _ (design : FlatDesign) (is_sound : IsTrue (sound design)) where
  -- no bit is the 64th of a signal or one above it
  pub bit_small : (s b : ℕ) → b < signal_width design.signals s → b < 64
  bit_small s b inside = ⊎_elim
      (λ known. let few = few_bits design is_sound s known in omega (arith, few, inside))
      (λ past. absurd (no_bits past))
      (cases_lt s (length design.signals))
    where
      no_bits : length design.signals ≤ s → ⊥
      no_bits past =
          let none : signal_width design.signals s ≡ 0 =
          ap (λ (z : SignalForm). z.width) (get_or_past design.signals s _ past) in
          omega (arith, none, inside)

-- what holds of each element of a list made from another
unmapped : {X Y : Type 0} (P : Y → Type 0) (f : X → Y) (xs : List X) → All P (map f xs) →
    All (λ x. P (f x)) xs
unmapped P f xs all k d inside =
    subst P (get_or-map f xs k d (f d) inside) (all k (f d) (omega (arith, length-map xs f, inside)))

module _ (design : FlatDesign) (n : ℕ) (bits : List Place)
    (is : IsDecodable design n (map place_form bits)) where
  places_there : All (λ (place : Place). IsBitPlace design n (place_form place)) bits
  places_there = unmapped (IsBitPlace design n) place_form bits is.places

  pub bits_small : IsTrue (sound design) → All (λ (place : Place). place.bit < 64) bits
  bits_small is_sound k d inside =
      bit_small design is_sound _ _ (places_there k d inside).inside

  pub variables_there : All (λ (place : Place). (1 ≤ place.variable) × (place.variable ≤ n)) bits
  variables_there k d inside =
      let here = places_there k d inside in (here.from_one, here.variable)

-- the values of listed signals, of the same signals
pub listed_values : (values : ℕ → Bool) (next : Bool) (bits : List Place)
    (listed signals new : List ℕ) → listed ≡ signals →
    new ≡ map (placed_value values (map place_form bits) next) listed →
    new ≡ map (placed_value values (map place_form bits) next) signals
listed_values values next bits listed signals new es e =
    e ∙ ap (map (placed_value values (map place_form bits) next)) es
