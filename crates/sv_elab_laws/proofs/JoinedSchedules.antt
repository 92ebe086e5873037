-- Two joined systems: schedules of places lead to environments that agree, and an environment of
-- the one is settled where that of the other is.
use Rattle.std.proofs.Common.{◌≡◌, ℕ, zero, suc, ◌<◌, ◌^◌, Bool, cond, List, [], ◌∷◌}
use Rattle.std.proofs.Common.{length, get_or, inl, inr, Option, sym, subst, ◌∙◌}
use Rattle.std.proofs.Common.{⊎_elim}
use Rattle.std.specs.Prelude.{Contains, IsTrue}
use Rattle.std.specs.List.{AllZip}
use Rattle.std.proofs.lemmas.Bool.{cases_Bool, cond-true, cond-false, lt-ltb, ltb-true}
use Rattle.std.proofs.lemmas.Nat.{pow_pos}
use Rattle.sv_system.specs.System.{System, Environment, Run, Fits}
use Rattle.sv_system.specs.Joining.{Agree, SameRun, Joined}
use Rattle.sv_system.proofs.Lists.{Contains-head, Contains-later, Contains-nil, Contains-from_map}
use Rattle.sv_system.proofs.JoinedCycles.{by_name, still_over, still_back, other_within}
use Rattle.sv_system.proofs.Pointwise.{fits_at, fits_from}
use Rattle.sv_ast.specs.Tree.{TextTree}
use Rattle.sv_flat.specs.Admission.{IsAdmitted}
use Rattle.sv_flat.specs.Clocks.{is_clock}
use Rattle.sv_flat.specs.Design.{FlatDesign}
use Rattle.sv_flat.specs.FlatSystem.{combinational_processes, run_of, flat_system}
use Rattle.sv_flat.specs.Soundness.{sound}
use Rattle.sv_flat.specs.Values.{signal_width as flat_width}
use Rattle.sv_flat.proofs.AdmittedFacts.{body_is_sound}
use Rattle.sv_flat.proofs.FlatScheduled.{in_processes}
use Rattle.sv_flat.proofs.RunsFit.{AllFit, run_fits}
use Rattle.sv_elab_laws.specs.InOrder.{SchedulesAgree, SettledAlike}
use Rattle.sv_elab_laws.proofs.PartsTexts.{SideBySide}
use Rattle.sv_elab_laws.proofs.JoinedNumbers.{is_flat_signal, signal_below}
use Rattle.sv_elab_laws.proofs.JoinedNumbers.{signal_no_clock}
use Rattle.sv_elab_laws.proofs.JoinedRuns.{flat_same}

-- ---- schedules

-- each run keeps values at their lengths
abbrev pub RunsKeepFits : {Signal Point : Type 0} → System Signal Point → Type 0
RunsKeepFits {Signal} system =
    (run : Run Signal) → Contains system.processes run → (e : Environment Signal) → Fits system e
    → Fits system (run e)

module _ {Signal Point Other OtherPoint : Type 0} (first : System Signal Point)
    (second : System Other OtherPoint)
    (joined : Joined first second) (keeps : RunsKeepFits first) where
  abbrev AgreeOn : Environment Signal → Environment Other → Type 0
  AgreeOn e f = Agree first second joined.to e f

  abbrev Same : Run Signal → Run Other → Type 0
  Same run other = SameRun first second joined.to run other

  run_agrees : (run : Run Signal) (other : Run Other) → Same run other
      → Contains first.processes run
      → (e : Environment Signal) (f : Environment Other) → AgreeOn e f → AgreeOn (run e) (other f)
  run_agrees run other same at e f agree =
      let fits = keeps run at e agree.first_fits in
      record {
        first_fits = fits;
        second_fits =
            fits_from second (other f)
            (by_name first second joined (λ t. other f t < 2 ^ second.width t)
            (λ s within. subst (λ w. other f (joined.to s) < 2 ^ w) (joined.widths s within)
            (subst (λ v. v < 2 ^ first.width s) (same.same e f agree s within)
            (fits_at first (run e) fits s within))));
        same = same.same e f agree;
      }

  place_agrees : (runs : List (Run Signal)) (others : List (Run Other)) → AllZip Same runs others
      → ((run : Run Signal) → Contains runs run → Contains first.processes run)
      → (k : ℕ) (e : Environment Signal) (f : Environment Other) → AgreeOn e f
      → AgreeOn (get_or runs k (λ d. d) e) (get_or others k (λ d. d) f)
  place_agrees [] [] h listed zero e f agree = agree
  place_agrees [] [] h listed (suc k) e f agree = agree
  place_agrees [] (o ∷ others) h listed k e f agree = absurd h
  place_agrees (r ∷ runs) [] h listed k e f agree = absurd h
  place_agrees (r ∷ runs) (o ∷ others) h listed zero e f agree =
      run_agrees r o h.0 (listed r (Contains-head r runs)) e f agree
  place_agrees (r ∷ runs) (o ∷ others) h listed (suc k) e f agree =
      place_agrees runs others h.1 (λ run at. listed run (Contains-later r runs run at)) k e f agree

  pub schedules_agree : SchedulesAgree first second joined.to
  schedules_agree [] e f agree = agree
  schedules_agree (k ∷ places) e f agree =
      schedules_agree places (get_or first.processes k (λ d. d) e)
      (get_or second.processes k (λ d. d) f)
      (place_agrees first.processes second.processes joined.processes (λ run at. at) k e f agree)

-- ---- settled environments

module _ {Signal Point Other OtherPoint : Type 0} (first : System Signal Point)
    (second : System Other OtherPoint) (joined : Joined first second) where
  -- what the first environment was given of some kind, the second was
  given_alike : (kind : Signal → Bool) (other_kind : Other → Bool)
      → ((s : Signal) → Contains first.signals s → kind s ≡ other_kind (joined.to s))
      → (given e : Environment Signal) (other_given f : Environment Other)
      → ((s : Signal) → Contains first.signals s → e s ≡ f (joined.to s))
      → ((s : Signal) → IsTrue (kind s) → e s ≡ given s)
      → ((s : Signal) → IsTrue (kind s) → given s ≡ other_given (joined.to s))
      → (t : Other) → Contains second.signals t → IsTrue (other_kind t) → f t ≡ other_given t
  given_alike kind other_kind kinds given e other_given f same is_given alike t within =
      by_name first second joined (λ r. IsTrue (other_kind r) → f r ≡ other_given r)
      (λ s at is.
      let here = subst IsTrue (sym (kinds s at)) is in
      sym (same s at) ∙ is_given s here ∙ alike s here)
      t within

  pub settled_alike : SettledAlike first second joined.to
  settled_alike state inputs e other_state other_inputs f states all_inputs same = (
    λ settled.
        let agree : Agree first second joined.to e f = record {
          first_fits = settled.fits;
          second_fits =
              fits_from second f
              (by_name first second joined (λ t. f t < 2 ^ second.width t)
              (λ s within. subst (λ w. f (joined.to s) < 2 ^ w) (joined.widths s within)
              (subst (λ v. v < 2 ^ first.width s) (same s within)
              (fits_at first e settled.fits s within))));
          same = same;
        } in
        record {
          registers = λ t register.
              given_alike first.is_register second.is_register joined.registers state e
              other_state f same settled.registers states t (joined.second_kinds t (inr register))
              register;
          inputs_are = λ t input.
              given_alike first.is_input second.is_input joined.inputs inputs e other_inputs f same
              settled.inputs_are all_inputs t (joined.second_kinds t (inl input)) input;
          fits = agree.second_fits;
          still = still_over first second joined e f agree settled.still;
        },
    λ settled.
        let agree : Agree first second joined.to e f = record {
          first_fits =
              fits_from first e
              (λ s within. subst (λ v. v < 2 ^ first.width s) (sym (same s within))
              (subst (λ w. f (joined.to s) < 2 ^ w) (sym (joined.widths s within))
              (fits_at second f settled.fits (joined.to s)
              (other_within first second joined s within))));
          second_fits = settled.fits;
          same = same;
        } in
        record {
          registers =
              λ s register.
              let within = joined.first_kinds s (inr register) in
              same s within
              ∙ settled.registers (joined.to s)
              (subst IsTrue (joined.registers s within) register)
              ∙ sym (states s register);
          inputs_are =
              λ s input.
              let within = joined.first_kinds s (inl input) in
              same s within
              ∙ settled.inputs_are (joined.to s) (subst IsTrue (joined.inputs s within) input)
              ∙ sym (all_inputs s input);
          fits = agree.first_fits;
          still = still_back first second joined e f agree settled.still;
        },
  )

-- ---- flat designs

module _ (text : TextTree) (top : Option (List ℕ)) (design : FlatDesign)
    (side : SideBySide text top design)
    (is_sound : IsTrue (sound design)) (admitted : IsAdmitted design) where
  -- with 0 for each clock
  abbrev pub quiet : Environment ℕ → Environment ℕ
  quiet e s = cond (is_clock design s) 0 (e s)

  pub quiet_fits : (e : Environment ℕ) → Fits (flat_system design) e → AllFit design.signals (quiet e)
  quiet_fits e fits s inside = ⊎_elim
      (λ clock. subst (λ v. v < 2 ^ flat_width design.signals s)
      (sym (cond-true (is_clock design s) 0 (e s) clock))
      (pow_pos (flat_width design.signals s)))
      (λ no_clock. subst (λ v. v < 2 ^ flat_width design.signals s)
      (sym (cond-false (is_clock design s) 0 (e s) no_clock))
      (fits_at (flat_system design) e fits s
      (is_flat_signal text top design side s (ltb-true s (length design.signals) inside)
      no_clock)))
      (cases_Bool (is_clock design s))

  pub flat_keeps_fits : RunsKeepFits (flat_system design)
  flat_keeps_fits run at e fits =
      let f = Contains-from_map (run_of design) (combinational_processes design) run at in
      let sound_body = body_is_sound design is_sound admitted f.0
      (in_processes design is_sound admitted f.0 f.1) in
      fits_from (flat_system design) (run e)
      (λ s within.
      subst (λ r. r e s < 2 ^ flat_width design.signals s) f.2
      (subst (λ v. v < 2 ^ flat_width design.signals s)
      (sym (flat_same text top design side is_sound admitted f.0 f.1 e (quiet e)
      (λ t t_in. sym (cond-false (is_clock design t) 0 (e t)
      (signal_no_clock text top design side t t_in)))
      s within))
      ((run_fits design.signals f.0.body (quiet e, []) sound_body
      (quiet_fits e fits, (λ u none. absurd (Contains-nil u none)))).0 s
      (lt-ltb s (length design.signals) (signal_below text top design side s within)))))
