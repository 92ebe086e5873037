-- Values that are decoded into lists stand for the decoded valuation.
use mathlib.Core.Path.{fun_ext}
use Rattle.std.proofs.Common.{◌≡◌, ℕ, suc, Bool, true, false, cond, not, ◌&&◌, ◌==◌, List, [], ◌∷◌}
use Rattle.std.proofs.Common.{map, ⊎_elim, refl, sym, ap, subst, ◌∙◌, arith, sum}
use Rattle.std.specs.Prelude.{All, Contains, IsTrue, filter}
use Rattle.std.specs.Bool.{beq}
use Rattle.std.proofs.lemmas.Bool.{false≢true, eqb-true}
use Rattle.std.proofs.lemmas.List.Elements.{All-weaker}
use Rattle.sv_system.specs.System.{Environment}
use Rattle.sv_system.proofs.Pointwise.{either_way as contained_or_not}
use Rattle.sv_flat.specs.Clocks.{is_clock}
use Rattle.sv_flat.specs.Design.{FlatDesign}
use Rattle.sv_flat.specs.FlatSystem.{flat_system}
use Rattle.sv_flat.specs.Given.{given}
use Rattle.sv_flat.specs.Processes.{is_register, is_top_input}
use Rattle.sv_flat.specs.SignalLists.{registers, inputs}
use Rattle.sv_flat.proofs.Depths.{second_of}
use Rattle.sv_flat.proofs.LeastSets.{either_way, or_cases}
use Rattle.sv_flat.proofs.SameRuns.{none_found}
use Rattle.sv_obl.specs.Noninterference.{IsChecked}
use Rattle.sv_obl.specs.Obligations.{Obligation}
use Rattle.sv_obl.specs.Validity.{Valuation}
use Rattle.sv_obl.specs.Valuations.{valuation_of}
use Rattle.sv_obl.specs.declared.valuations.Valuation.{Valuation as Listed}
use Rattle.sv_sim.proofs.GivenValues.{mapped_value, other_value}
use Rattle.sv_sim.proofs.OneDesign.{register_no_clock}
use Rattle.sv_sim.proofs.Simulated.{input_listed}
use Rattle.sv_encoding.specs.BothWays.{IsGiven, IsPlace, IsWhole}
use Rattle.sv_encoding.specs.Encoding.{BitPlace, Encoding}
use Rattle.sv_encoding.specs.Valuations.{decoded, is_place_of, place_value, placed_value}
use Rattle.sv_blast.specs.Decoded.{ListsValues}
use Rattle.sv_decide.proofs.DesignSignals.{register_listed}

-- ---- values of a list

-- so they make the environment, where it has 0 elsewhere
mapped_is : (listed : List ℕ) (f : Environment ℕ) → ((s : ℕ) → (Contains listed s → ⊥) → f s ≡ 0) →
    given listed (map f listed) ≡ f
mapped_is listed f zeros = fun_ext (λ s.
    contained_or_not (given listed (map f listed) s) (f s) (Contains listed s)
    (λ at. mapped_value listed f (λ t. 0) s at)
    (λ none. other_value listed (map f listed) s 0 none ∙ sym (zeros s none)))

-- ---- values of bits

-- what no place is of has value 0
none_placed : (values : ℕ → Bool) (next : Bool) (s : ℕ) (bits : List BitPlace) →
    All (λ place. is_place_of next s place ≡ false) bits → placed_value values bits next s ≡ 0
none_placed values next s [] none = refl
none_placed values next s (place ∷ bits) none =
    let rest = filter (is_place_of next s) bits in
    ap (λ c. sum (map (place_value values) (cond c (place ∷ rest) rest)))
    (none 0 place (omega arith))
    ∙ none_placed values next s bits (λ k d inside. none (suc k) d (omega (arith, inside)))

zero_or : (b : Bool) (n : ℕ) → (b ≡ true → n ≡ 0) → cond b n 0 ≡ 0
zero_or true n none = none refl
zero_or false n none = refl

module _ (design : FlatDesign) (checked : IsChecked design) (o : Obligation) (made : Encoding)
    (whole : IsWhole design o made) (values : ℕ → Bool) where
  abbrev read : Valuation
  read = decoded design made.bits values

  -- a clock is given to no cycle
  no_clock_given : (next : Bool) (s : ℕ) → IsTrue (is_clock design s) → IsGiven design o next s → ⊥
  no_clock_given next s clock given_there = by next given_there
    where
      no_input : IsTrue (is_top_input design s && not (is_clock design s)) → ⊥
      no_input input =
          false≢true (ap not (sym clock)
          ∙ second_of (is_top_input design s) (not (is_clock design s)) input)

      by : (next : Bool) → IsGiven design o next s → ⊥
      by false there = ⊎_elim
          (λ register.
          false≢true (sym (register_no_clock design checked.is_sound checked.admitted s register)
          ∙ clock))
          no_input
          (or_cases (is_register design s) ((flat_system design).is_input s) there.0)
      by true there = no_input there.0

  no_clock_placed : (next : Bool) (s : ℕ) → IsTrue (is_clock design s) →
      placed_value values made.bits next s ≡ 0
  no_clock_placed next s clock =
      none_placed values next s made.bits
      (All-weaker (IsPlace design o made.variables) (λ place. is_place_of next s place ≡ false)
      (λ place is. none_found (is_place_of next s place) (λ found.
      no_clock_given place.next place.signal
      (subst (λ t. IsTrue (is_clock design t)) (sym (eqb-true place.signal s
      (second_of (beq place.next next) (place.signal == s) found))) clock) is.given))
      made.bits whole.places)

  -- what is no listed input has value 0
  input_zero : (next : Bool) (s : ℕ) → (Contains (inputs design) s → ⊥) →
      cond (is_top_input design s) (placed_value values made.bits next s) 0 ≡ 0
  input_zero next s none =
      zero_or (is_top_input design s) (placed_value values made.bits next s)
      (λ top. ⊎_elim (no_clock_placed next s)
      (λ other. absurd (none (input_listed design s
      (ap (λ b. b && not (is_clock design s)) top ∙ ap not other))))
      (either_way (is_clock design s)))

  register_zero : (s : ℕ) → (Contains (registers design) s → ⊥) → read.registers s ≡ 0
  register_zero s none =
      zero_or (is_register design s) (placed_value values made.bits false s)
      (λ register. absurd (none
      (register_listed design checked.is_sound checked.admitted s register)))

  -- the lists that have its values stand for it
  pub spelled_is : (listed : Listed) → ListsValues design read listed →
      valuation_of design listed ≡ read
  spelled_is listed lists =
      let registers_are : given (registers design) listed.regs.items ≡ read.registers =
      ap (given (registers design)) lists.of_registers
      ∙ mapped_is (registers design) read.registers register_zero in
      let inputs_are : given (inputs design) listed.inputs.items ≡ read.inputs =
      ap (given (inputs design)) lists.of_inputs
      ∙ mapped_is (inputs design) read.inputs (input_zero false) in
      let next_are : given (inputs design) listed.next_inputs.items ≡ read.next_inputs =
      ap (given (inputs design)) lists.of_next_inputs
      ∙ mapped_is (inputs design) read.next_inputs (input_zero true) in
      ap (λ e. record {
        registers = e;
        inputs = given (inputs design) listed.inputs.items;
        next_inputs = given (inputs design) listed.next_inputs.items;
      }) registers_are
      ∙ ap (λ e. record {
        registers = read.registers;
        inputs = e;
        next_inputs = given (inputs design) listed.next_inputs.items;
      }) inputs_are
      ∙ ap (λ e. record {
        registers = read.registers;
        inputs = read.inputs;
        next_inputs = e;
      }) next_are
