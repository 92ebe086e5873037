-- Two joined systems whose signals go by the same names: a stimulus makes the same trace of both,
-- and the same lines.
use Rattle.std.proofs.Common.{◌≡◌, ℕ, ◌+◌, Bool, true, false, cond, ◌&&◌, List, [], ◌∷◌, ◌++◌}
use Rattle.std.proofs.Common.{map, Option, Some, None, inl, inr, refl, sym, ap, ap₂, subst, ◌∙◌}
use Rattle.std.specs.Prelude.{filter, flat_map, Contains, codes, decimal}
use Rattle.sv_system.specs.System.{System, Environment, Fits, IsTrace}
use Rattle.sv_system.specs.Joining.{Agree, Joined}
use Rattle.sv_system.proofs.Lists.{Contains-head, Contains-later, map_map}
use Rattle.sv_system.proofs.JoinedCycles.{renamed, renamed_same, agree_back, agree_over}
use Rattle.sv_system.proofs.JoinedTraces.{trace_back, trace_over}
use Rattle.sv_flat.proofs.LeastSets.{Contains-from_filter}
use Rattle.sv_trace.specs.declared.forms.Register.{Register}
use Rattle.sv_trace.specs.Forms.{StimForm}
use Rattle.sv_trace.specs.Traces.{hexadecimal}
use Rattle.sv_sim_run.specs.declared.endings.Ending.{Ending}
use Rattle.sv_sim_run.specs.Simulated.{IsTraceText}
use Rattle.sv_sim_run.specs.Traces.{inputs_in, registers_in, register_in, form_in, IsTraceFrom}
use Rattle.sv_sim_run.specs.Traces.{pair_in, line_in, lines_from}
use Rattle.sv_run_laws.proofs.CarriedTraces.{lines_carried, simulation_carried}

-- ---- lists under other names

module _ {X Y : Type 0} (to : X → Y) where
  one_kept : (b c : Bool) (x : X) (xs : List X) (ys : List Y) → b ≡ c → ys ≡ map to xs
      → cond c (to x ∷ ys) ys ≡ map to (cond b (x ∷ xs) xs)
  one_kept true c x xs ys tests rest =
      subst (λ d. cond d (to x ∷ ys) ys ≡ to x ∷ map to xs) tests (ap (λ zs. to x ∷ zs) rest)
  one_kept false c x xs ys tests rest =
      subst (λ d. cond d (to x ∷ ys) ys ≡ map to xs) tests rest

  -- what passes a test under the other names passes it under these
  pub filter_named : (p : X → Bool) (q : Y → Bool) (xs : List X)
      → ((x : X) → Contains xs x → p x ≡ q (to x))
      → filter q (map to xs) ≡ map to (filter p xs)
  filter_named p q [] tests = refl
  filter_named p q (x ∷ xs) tests =
      one_kept (p x) (q (to x)) x (filter p xs) (filter q (map to xs))
      (tests x (Contains-head x xs))
      (filter_named p q xs (λ y at. tests y (Contains-later x xs y at)))

  map_named : {Z : Type 0} (g : X → Z) (h : Y → Z) (xs : List X)
      → ((x : X) → Contains xs x → g x ≡ h (to x))
      → map h (map to xs) ≡ map g xs
  map_named g h [] same = refl
  map_named g h (x ∷ xs) same =
      ap₂ (λ y ys. y ∷ ys) (sym (same x (Contains-head x xs)))
      (map_named g h xs (λ y at. same y (Contains-later x xs y at)))

  flat_named : (g : X → List ℕ) (h : Y → List ℕ) (xs : List X)
      → ((x : X) → Contains xs x → g x ≡ h (to x))
      → flat_map h (map to xs) ≡ flat_map g xs
  flat_named g h [] same = refl
  flat_named g h (x ∷ xs) same =
      ap₂ (λ y ys. y ++ ys) (sym (same x (Contains-head x xs)))
      (flat_named g h xs (λ y at. same y (Contains-later x xs y at)))

  module _ (name : X → List ℕ) (other : Y → List ℕ) (e : X → ℕ) (f : Y → ℕ) where
    -- the same names with the same values make one text
    pairs_named : (xs : List X) → ((x : X) → Contains xs x → name x ≡ other (to x))
        → ((x : X) → Contains xs x → e x ≡ f (to x))
        → flat_map (pair_in other) (map (λ y. (y, f y)) (map to xs))
        ≡ flat_map (pair_in name) (map (λ x. (x, e x)) xs)
    pairs_named [] names values = refl
    pairs_named (x ∷ xs) names values =
        let first = Contains-head x xs in
        ap₂ (λ y ys. y ++ ys)
        (ap₂ (λ n v. codes " " ++ n ++ codes "=" ++ hexadecimal v) (sym (names x first))
        (sym (values x first)))
        (pairs_named xs (λ y at. names y (Contains-later x xs y at))
        (λ y at. values y (Contains-later x xs y at)))

abbrev register_with : List ℕ → ℕ → Register
register_with n w = record { name = n; width = w }

abbrev form_with : List ℕ → List ℕ → List Register → StimForm
form_with h i r = record { header = h; inputs = i; registers = r }

module _ {Signal Point Other OtherPoint : Type 0} (first : System Signal Point)
    (second : System Other OtherPoint) (joined : Joined first second) where
  -- two levels see the same signals
  abbrev pub SeeAlike : Option Point → Option OtherPoint → Type 0
  SeeAlike None None = Unit {0}
  SeeAlike (Some point) (Some other) =
      (e : Environment Signal) (f : Environment Other) → Agree first second joined.to e f
      → (s : Signal) → Contains first.signals s
      → first.flows (first.label s e) point ≡ second.flows (second.label (joined.to s) f) other
  SeeAlike None (Some other) = ⊥
  SeeAlike (Some point) None = ⊥

module _ {Signal Point Other OtherPoint : Type 0} (first : System Signal Point)
    (second : System Other OtherPoint) (joined : Joined first second)
    (name : Signal → List ℕ) (other_name : Other → List ℕ)
    (names : (s : Signal) → Contains first.signals s → name s ≡ other_name (joined.to s)) where
  -- ---- forms

  inputs_named : inputs_in second ≡ map joined.to (inputs_in first)
  inputs_named =
      ap (filter second.is_input) joined.signals
      ∙ filter_named joined.to first.is_input second.is_input first.signals joined.inputs

  registers_named : registers_in second ≡ map joined.to (registers_in first)
  registers_named =
      ap (filter second.is_register) joined.signals
      ∙ filter_named joined.to first.is_register second.is_register first.signals joined.registers

  listed : (kind : Signal → Bool) (s : Signal) → Contains (filter kind first.signals) s →
      Contains first.signals s
  listed kind s at = (Contains-from_filter kind first.signals s at).1

  pub forms_same : form_in other_name second ≡ form_in name first
  forms_same =
      let input = listed first.is_input in
      let register = listed first.is_register in
      let header_over = λ (ss : List Other).
      codes "inputs" ++ flat_map (λ (s : Other). codes " " ++ other_name s) ss in
      let headers =
      ap header_over inputs_named
      ∙ ap (λ t. codes "inputs" ++ t)
      (flat_named joined.to (λ s. codes " " ++ name s) (λ s. codes " " ++ other_name s)
      (inputs_in first) (λ s at. ap (λ n. codes " " ++ n) (names s (input s at)))) in
      let widths =
      ap (map second.width) inputs_named
      ∙ map_named joined.to first.width second.width (inputs_in first)
      (λ s at. joined.widths s (input s at)) in
      let registers =
      ap (map (register_in other_name second)) registers_named
      ∙ map_named joined.to (register_in name first) (register_in other_name second)
      (registers_in first)
      (λ s at. ap₂ register_with (names s (register s at)) (joined.widths s (register s at))) in
      ap (λ h. form_with h (map second.width (inputs_in second))
      (map (register_in other_name second) (registers_in second))) headers
      ∙ ap₂ (form_with (form_in name first).header) widths registers

  -- ---- traces

  -- the inputs matter only as far as they are named
  there_and_back : (inputs es : List (Environment Signal)) (state : Environment Signal)
      → IsTrace first state inputs es
      → IsTrace first state (map (renamed joined.to) (map (renamed joined.from) inputs)) es
  there_and_back [] [] state trace = tt
  there_and_back [] (e ∷ es) state trace = absurd trace
  there_and_back (now ∷ more) [] state trace = absurd trace
  there_and_back (now ∷ more) (e ∷ es) state trace = (
    record {
      registers = trace.0.registers;
      inputs_are = λ s input.
          trace.0.inputs_are s input
          ∙ renamed_same first second joined now s (joined.first_kinds s (inl input));
      fits = trace.0.fits;
      still = trace.0.still;
    },
    there_and_back more es (first.next e) trace.1,
  )

  state_over : (e : Environment Signal) (kind : Signal → Bool)
      → map (renamed joined.from e) (map joined.to (filter kind first.signals)) ≡
      map e (filter kind first.signals)
  state_over e kind =
      map_named joined.to e (renamed joined.from e) (filter kind first.signals)
      (λ s at. renamed_same first second joined e s (listed kind s at))

  given_over : (inputs : List (Environment Signal))
      → map (λ values. map values (inputs_in second)) (map (renamed joined.from) inputs) ≡
      map (λ values. map values (inputs_in first)) inputs
  given_over [] = refl
  given_over (now ∷ more) =
      ap₂ (λ y ys. y ∷ ys)
      (ap (map (renamed joined.from now)) inputs_named ∙ state_over now first.is_input)
      (given_over more)

  given_back : (inputs : List (Environment Other))
      → map (λ values. map values (inputs_in first)) (map (renamed joined.to) inputs) ≡
      map (λ values. map values (inputs_in second)) inputs
  given_back [] = refl
  given_back (now ∷ more) =
      ap₂ (λ y ys. y ∷ ys)
      (sym (ap (map now) inputs_named ∙ map_map now joined.to (inputs_in first)))
      (given_back more)

  module _ (start : List ℕ) (cycles : List (List ℕ)) where
    pub trace_from_over : (es : List (Environment Signal)) → IsTraceFrom first start cycles es
        → IsTraceFrom second start cycles (map (renamed joined.from) es)
    trace_from_over es is = record {
      state = renamed joined.from is.state;
      inputs = map (renamed joined.from) is.inputs;
      started =
          ap (map (renamed joined.from is.state)) registers_named
          ∙ state_over is.state first.is_register ∙ is.started;
      given = given_over is.inputs ∙ is.given;
      follows =
          trace_over first second joined (map (renamed joined.from) is.inputs) es is.state
          (renamed joined.from is.state)
          (λ s register.
          renamed_same first second joined is.state s (joined.first_kinds s (inr register)))
          (there_and_back is.inputs es is.state is.follows);
    }

    pub trace_from_back : (fs : List (Environment Other)) → IsTraceFrom second start cycles fs
        → IsTraceFrom first start cycles (map (renamed joined.to) fs)
    trace_from_back fs is = record {
      state = renamed joined.to is.state;
      inputs = map (renamed joined.to) is.inputs;
      started =
          sym (ap (map is.state) registers_named ∙ map_map is.state joined.to (registers_in first))
          ∙ is.started;
      given = given_back is.inputs ∙ is.given;
      follows =
          trace_back first second joined is.inputs fs (renamed joined.to is.state) is.state
          (λ s register. refl) is.follows;
    }

  -- ---- lines

  line_same : (level : Option Point) (other : Option OtherPoint)
      → SeeAlike first second joined level other
      → (cycle : ℕ) (e : Environment Signal) (f : Environment Other)
      → Agree first second joined.to e f
      → line_in other_name second other cycle f ≡ line_in name first level cycle e
  line_same None None alike cycle e f agree =
      ap (λ t. decimal cycle ++ t ++ codes "\n")
      (ap (λ ss. flat_map (pair_in other_name) (map (λ s. (s, f s)) ss)) joined.signals
      ∙ pairs_named joined.to name other_name e f first.signals names agree.same)
  line_same (Some point) (Some other) alike cycle e f agree =
      let sees = λ (s : Signal). true && first.flows (first.label s e) point in
      let other_sees = λ (s : Other). true && second.flows (second.label s f) other in
      let at_first = listed sees in
      ap (λ t. decimal cycle ++ t ++ codes "\n")
      (ap (λ ss. flat_map (pair_in other_name) (map (λ s. (s, f s)) ss))
      (ap (filter other_sees) joined.signals
      ∙ filter_named joined.to sees other_sees first.signals (alike e f agree))
      ∙ pairs_named joined.to name other_name e f (filter sees first.signals)
      (λ s at. names s (at_first s at)) (λ s at. agree.same s (at_first s at)))
  line_same None (Some other) alike cycle e f agree = absurd alike
  line_same (Some point) None alike cycle e f agree = absurd alike

  module _ (level : Option Point) (other : Option OtherPoint)
      (alike : SeeAlike first second joined level other) where
    -- the line of a cycle is the same
    over_alike : (cycle : ℕ) (e : Environment Signal) → Fits first e
        → line_in other_name second other cycle (renamed joined.from e) ≡
        line_in name first level cycle e
    over_alike cycle e fits =
        line_same level other alike cycle e (renamed joined.from e)
        (agree_over first second joined e fits)

    back_alike : (cycle : ℕ) (f : Environment Other) → Fits second f
        → line_in name first level cycle (renamed joined.to f) ≡
        line_in other_name second other cycle f
    back_alike cycle f fits =
        sym (line_same level other alike cycle (renamed joined.to f) f
        (agree_back first second joined f fits))

    pub lines_over : (inputs es : List (Environment Signal)) (state : Environment Signal)
        → IsTrace first state inputs es → (cycle : ℕ)
        → lines_from other_name second other cycle (map (renamed joined.from) es) ≡
        lines_from name first level cycle es
    lines_over =
        lines_carried first second name other_name (renamed joined.from) level other over_alike

    pub lines_back : (inputs fs : List (Environment Other)) (state : Environment Other)
        → IsTrace second state inputs fs → (cycle : ℕ)
        → lines_from name first level cycle (map (renamed joined.to) fs) ≡
        lines_from other_name second other cycle fs
    lines_back =
        lines_carried second first other_name name (renamed joined.to) other level back_alike

    -- ---- simulations

    module _ (rounds : Option ℕ) (bytes : List ℕ) (ends : Ending) (printed : List ℕ) where
      pub simulated_over : (is : IsTraceText name first level rounds bytes ends printed)
          → (new : IsTraceText other_name second other rounds bytes ends printed)
          × (new.read ≡ is.read)
      simulated_over =
          simulation_carried first second name other_name (renamed joined.from) level other
          over_alike (sym forms_same) trace_from_over rounds bytes ends printed

      pub simulated_back : (is : IsTraceText other_name second other rounds bytes ends printed)
          → (new : IsTraceText name first level rounds bytes ends printed)
          × (new.read ≡ is.read)
      simulated_back =
          simulation_carried second first other_name name (renamed joined.to) other level
          back_alike forms_same trace_from_back rounds bytes ends printed
