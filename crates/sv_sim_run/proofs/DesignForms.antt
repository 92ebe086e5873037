-- An admitted design's inputs and registers, as its system lists them, and what a stimulus gives
-- them.
use Rattle.std.proofs.Common.{◌≡◌, ℕ, ◌<◌, ◌^◌, Bool, true, false, cond, not, List, [], ◌∷◌}
use Rattle.std.proofs.Common.{◌++◌, length, map, flat_map, codes, refl, sym, ap, ◌∙◌, subst}
use Rattle.std.proofs.Common.{arith}
use Rattle.std.specs.Prelude.{All, Contains, IsTrue, filter}
use Rattle.std.specs.List.{range_with_len}
use Rattle.std.proofs.lemmas.Bool.{false≢true}
use Rattle.std.proofs.lemmas.List.Elements.{All-head, All-tail, All-cons, All-weaker}
use Rattle.sv_lattice.specs.declared.points.Point.{Point}
use Rattle.sv_system.specs.System.{System, Environment, IsTrace, KindFits}
use Rattle.sv_system.proofs.Pointwise.{each}
use Rattle.sv_flat.specs.Admission.{IsAdmitted}
use Rattle.sv_flat.specs.Clocks.{is_clock}
use Rattle.sv_flat.specs.Design.{FlatDesign}
use Rattle.sv_flat.specs.FlatSystem.{flat_system}
use Rattle.sv_flat.specs.Processes.{is_top_input, is_register}
use Rattle.sv_flat.specs.SignalLists.{inputs, registers}
use Rattle.sv_flat.specs.Soundness.{sound}
use Rattle.sv_flat.proofs.Depths.{second_of}
use Rattle.sv_flat.specs.Given.{FitListed, given}
use Rattle.sv_sim.proofs.OneDesign.{register_no_clock, register_listed}
use Rattle.sv_sim.proofs.Simulated.{input_listed}
use Rattle.sv_trace.specs.Forms.{StimForm, form_of, name_in}
use Rattle.sv_trace.specs.Stimulus.{start_of, cycles_of}
use Rattle.sv_trace.specs.Stimulus.{is_start}
use Rattle.sv_trace.specs.Reading.{FitWidths}
use Rattle.sv_trace.proofs.ReaderFacts.{start_fits, cycle_fits}
use Rattle.sv_sim_run.specs.Traces.{inputs_in, registers_in, register_in, form_in}
use Rattle.sv_sim_run.specs.Traces.{IsTraceFrom}
use Rattle.sv_sim_run.proofs.GivenFacts.{own_values, filter_apart, given_to_fits}
use Rattle.sv_sim_run.proofs.ReadFits.{FitForm}

-- ---- lists

-- a test after another one that it implies
filter_again : (p q : ℕ → Bool) → ((s : ℕ) → IsTrue (p s) → IsTrue (q s)) → (ss : List ℕ)
    → filter p (filter q ss) ≡ filter p ss
filter_again p q implies [] = refl
filter_again p q implies (s ∷ ss) =
    by_tests (q s) refl (p s) refl (filter_again p q implies ss)
  where
    by_tests : (b : Bool) → q s ≡ b → (c : Bool) → p s ≡ c → filter p (filter q ss) ≡ filter p ss
        → filter p (cond b (s ∷ filter q ss) (filter q ss)) ≡ cond (p s) (s ∷ filter p ss)
        (filter p ss)
    by_tests true is c here rest = ap (λ zs. cond (p s) (s ∷ zs) zs) rest
    by_tests false is true here rest = absurd (false≢true (sym is ∙ implies s here))
    by_tests false is false here rest =
        rest ∙ ap (λ b. cond b (s ∷ filter p ss) (filter p ss)) (sym here)

-- ---- values given to listed signals

each_given : (listed : List ℕ) (cycles : List (List ℕ))
    → ((values : List ℕ) → length values ≡ length listed
    → map (given listed values) listed ≡ values)
    → All (λ values. length values ≡ length listed) cycles
    → map (λ (e : Environment ℕ). map e listed) (map (given listed) cycles) ≡ cycles
each_given listed [] own all = refl
each_given listed (values ∷ cycles) own all =
    ap (λ vs. vs ∷ map (λ (e : Environment ℕ). map e listed) (map (given listed) cycles))
    (own values (All-head (λ vs. length vs ≡ length listed) values cycles all))
    ∙ ap (λ vss. values ∷ vss)
    (each_given listed cycles own (All-tail (λ vs. length vs ≡ length listed) values cycles all))

-- ---- the system of an admitted design

pub form_is_plain : (design : FlatDesign) → is_start (form_of design).header ≡ false
form_is_plain design = refl

module _ (design : FlatDesign) (is_sound : IsTrue (sound design))
    (admitted : IsAdmitted design) where
  abbrev system : System ℕ Point
  system = flat_system design

  abbrev name : ℕ → List ℕ
  name s = name_in design.signals s

  -- ---- its lists

  pub inputs_are : inputs_in system ≡ inputs design
  inputs_are = filter_again system.is_input (λ s. not (is_clock design s))
      (λ s input. second_of (is_top_input design s) (not (is_clock design s)) input)
      (range_with_len 0 (length design.signals))

  pub registers_are : registers_in system ≡ registers design
  registers_are = filter_again system.is_register (λ s. not (is_clock design s))
      (λ s register. ap not (register_no_clock design is_sound admitted s register))
      (range_with_len 0 (length design.signals))

  pub form_is : form_in name system ≡ form_of design
  form_is =
      ap (λ ss. let f : StimForm = record {
        header = codes "inputs" ++ flat_map (λ s. codes " " ++ name s) ss;
        inputs = map system.width ss;
        registers = map (register_in name system) (registers_in system);
      } in f) inputs_are
      ∙ ap (λ ss. let f : StimForm = record {
        header = (form_of design).header;
        inputs = (form_of design).inputs;
        registers = map (register_in name system) ss;
      } in f) registers_are

  pub inputs_listed : (s : ℕ) → IsTrue (system.is_input s) → Contains (inputs_in system) s
  inputs_listed s input =
      subst (λ ss. Contains ss s) (sym inputs_are) (input_listed design s input)

  pub registers_listed : (s : ℕ) → IsTrue (system.is_register s)
      → Contains (registers_in system) s
  registers_listed s register =
      subst (λ ss. Contains ss s) (sym registers_are)
      (register_listed design is_sound admitted s register)

  -- ---- traces from given values

  pub from_given : (start : List ℕ) (cycles : List (List ℕ)) (trace : List (Environment ℕ))
      → FitListed design.signals (registers design) start
      → All (FitListed design.signals (inputs design)) cycles
      → IsTrace system (given (registers design) start) (map (given (inputs design)) cycles) trace
      → IsTraceFrom system start cycles trace
  from_given start cycles trace start_fit cycles_fit is = record {
    state = given (registers design) start;
    inputs = map (given (inputs design)) cycles;
    started =
        ap (map (given (registers design) start)) registers_are
        ∙ own_values (registers design) start (λ s. 0)
        (filter_apart (is_register design) 0 (length design.signals)) start_fit.count;
    given =
        ap (λ ss. map (λ (e : Environment ℕ). map e ss) (map (given (inputs design)) cycles))
        inputs_are
        ∙ each_given (inputs design) cycles
        (λ values count. own_values (inputs design) values (λ s. 0)
        (filter_apart system.is_input 0 (length design.signals)) count)
        (All-weaker (FitListed design.signals (inputs design))
        (λ values. length values ≡ length (inputs design)) (λ values fit. fit.count) cycles
        cycles_fit);
    follows = is;
  }

  -- ---- values that fit

  pub start_fits_kind : (start : List ℕ) → FitListed design.signals (registers design) start
      → KindFits system.is_register system (given (registers design) start)
  start_fits_kind start fit =
      each (λ s. IsTrue (system.is_register s) →
      given (registers design) start s < 2 ^ system.width s)
      system.signals
      (λ s at register. given_to_fits design.signals (registers design) start s fit)

  pub cycles_fit_kind : (cycles : List (List ℕ))
      → All (FitListed design.signals (inputs design)) cycles
      → All (KindFits system.is_input system) (map (given (inputs design)) cycles)
  cycles_fit_kind [] all = λ k d inside. absurd (omega arith)
  cycles_fit_kind (values ∷ cycles) all =
      All-cons (KindFits system.is_input system) (given (inputs design) values)
      (map (given (inputs design)) cycles)
      (each (λ s. IsTrue (system.is_input s) → given (inputs design) values s < 2 ^ system.width s)
      system.signals
      (λ s at input. given_to_fits design.signals (inputs design) values s
      (All-head (FitListed design.signals (inputs design)) values cycles all)))
      (cycles_fit_kind cycles (All-tail (FitListed design.signals (inputs design)) values cycles
      all))

  -- what right lines say fits
  pub start_fit : (right : List (List ℕ)) → FitForm (form_of design) right
      → FitListed design.signals (registers design) (start_of (form_of design) right)
  start_fit right fit =
      start_fits (form_of design) (start_of (form_of design) right) design fit.start refl

  pub cycles_fit : (right : List (List ℕ)) → FitForm (form_of design) right
      → All (FitListed design.signals (inputs design)) (cycles_of right)
  cycles_fit right fit =
      All-weaker (FitWidths (form_of design).inputs)
      (FitListed design.signals (inputs design))
      (λ values one. cycle_fits (form_of design) values design one refl)
      (cycles_of right) fit.cycles
