-- One cycle of two joined systems: of two environments that agree both are at rest or neither, and
-- both are settled or neither.
use Rattle.std.proofs.Common.{◌≡◌, ◌<◌, ◌^◌, inl, inr, refl, sym, ap, subst, ◌∙◌}
use Rattle.std.specs.Prelude.{Contains, IsTrue}
use Rattle.sv_system.specs.System.{System, Environment, Run, Fits, IsStill, Settled}
use Rattle.sv_system.specs.Joining.{Agree, SameRun, Joined}
use Rattle.sv_system.proofs.Lists.{Contains-map, Contains-from_map, zip_over, zip_back}
use Rattle.sv_system.proofs.Pointwise.{either_way, fits_at, fits_from, still_at, still_from}

-- an environment under other names
abbrev pub renamed : {Signal Other : Type 0} → (Signal → Other) → Environment Other →
    Environment Signal
renamed name f = λ s. f (name s)

-- two states have the same registers
abbrev pub SameRegisters : {Signal Point Other : Type 0} → System Signal Point → (Signal → Other) →
    Environment Signal → Environment Other → Type 0
SameRegisters {Signal} first to state other =
    (s : Signal) → IsTrue (first.is_register s) → state s ≡ other (to s)

module _ {Signal Point Other OtherPoint : Type 0} (first : System Signal Point)
    (second : System Other OtherPoint)
    (joined : Joined first second) where
  -- the other name of a signal is a signal of the second system
  pub other_within : (s : Signal) → Contains first.signals s → Contains second.signals (joined.to s)
  other_within s within =
      subst (λ ts. Contains ts (joined.to s)) (sym joined.signals)
      (Contains-map joined.to first.signals s within)

  -- what holds of each other name holds of each signal of the second system
  pub by_name : (P : Other → Type 0) → ((s : Signal) → Contains first.signals s → P (joined.to s))
      → (t : Other) → Contains second.signals t → P t
  by_name P holds t within =
      let found = Contains-from_map joined.to first.signals t
      (subst (λ ts. Contains ts t) joined.signals within) in
      subst P found.2 (holds found.0 found.1)

  -- each process has one of the other system that does the same
  pub over : (run : Run Signal) → Contains first.processes run
      → (other : Run Other) × Contains second.processes other
      × SameRun first second joined.to run other
  over = zip_over (SameRun first second joined.to) first.processes second.processes joined.processes

  pub back : (other : Run Other) → Contains second.processes other
      → (run : Run Signal) × Contains first.processes run
      × SameRun first second joined.to run other
  back = zip_back (SameRun first second joined.to) first.processes second.processes joined.processes

  -- an environment of either system agrees with itself under the names of the other
  pub agree_back : (f : Environment Other) → Fits second f →
      Agree first second joined.to (renamed joined.to f) f
  agree_back f fits = record {
    first_fits = fits_from first (renamed joined.to f) (λ s within.
        subst (λ w. f (joined.to s) < 2 ^ w) (sym (joined.widths s within))
        (fits_at second f fits (joined.to s) (other_within s within)));
    second_fits = fits;
    same = λ s within. refl;
  }

  pub renamed_same : (e : Environment Signal) (s : Signal) → Contains first.signals s →
      e s ≡ renamed joined.from e (joined.to s)
  renamed_same e s within = ap e (sym (joined.from_to s within))

  pub agree_over : (e : Environment Signal) → Fits first e →
      Agree first second joined.to e (renamed joined.from e)
  agree_over e fits = record {
    first_fits = fits;
    second_fits =
        fits_from second (renamed joined.from e)
        (by_name (λ t. renamed joined.from e t < 2 ^ second.width t) (λ s within.
        subst (λ w. e (joined.from (joined.to s)) < 2 ^ w) (joined.widths s within)
        (subst (λ n. n < 2 ^ first.width s) (renamed_same e s within)
        (fits_at first e fits s within))));
    same = renamed_same e;
  }

  module _ (e : Environment Signal) (f : Environment Other)
      (agree : Agree first second joined.to e f) where
    pub still_over : IsStill first e → IsStill second f
    still_over still = still_from second f (λ other listed t.
        let found = back other listed in
        either_way (other f t) (f t) (Contains second.signals t)
        (by_name (λ r. other f r ≡ f r)
        (λ s within. sym (found.2.same e f agree s within)
        ∙ still_at first e still found.0 found.1 s ∙ agree.same s within) t)
        (found.2.second_within f t))

    pub still_back : IsStill second f → IsStill first e
    still_back still = still_from first e (λ run listed s.
        let found = over run listed in
        either_way (run e s) (e s) (Contains first.signals s)
        (λ within. found.2.same e f agree s within
        ∙ still_at second f still found.0 found.1 (joined.to s) ∙ sym (agree.same s within))
        (found.2.first_within e s))

  pub settled_back : (state : Environment Signal) (other inputs f : Environment Other)
      → SameRegisters first joined.to state other
      → Settled second other inputs f
      → Settled first state (renamed joined.to inputs) (renamed joined.to f)
  settled_back state other inputs f states settled =
      let agree = agree_back f settled.fits in
      record {
        registers = λ s register.
            let there = subst IsTrue (joined.registers s (joined.first_kinds s (inr register)))
            register in
            settled.registers (joined.to s) there ∙ sym (states s register);
        inputs_are =
            λ s input. settled.inputs_are (joined.to s)
            (subst IsTrue (joined.inputs s (joined.first_kinds s (inl input))) input);
        fits = agree.first_fits;
        still = still_back (renamed joined.to f) f agree settled.still;
      }

  pub settled_over : (state e : Environment Signal) (other inputs : Environment Other)
      → SameRegisters first joined.to state other
      → Settled first state (renamed joined.to inputs) e
      → Settled second other inputs (renamed joined.from e)
  settled_over state e other inputs states settled =
      let agree = agree_over e settled.fits in
      record {
        registers =
            λ t register. by_name (λ r.
            IsTrue (second.is_register r) → renamed joined.from e r ≡ other r)
            (λ s within is.
            let here = subst IsTrue (sym (joined.registers s within)) is in
            sym (agree.same s within) ∙ settled.registers s here ∙ states s here)
            t (joined.second_kinds t (inr register)) register;
        inputs_are =
            λ t input. by_name (λ r.
            IsTrue (second.is_input r) → renamed joined.from e r ≡ inputs r)
            (λ s within is. sym (agree.same s within)
            ∙ settled.inputs_are s (subst IsTrue (sym (joined.inputs s within)) is))
            t (joined.second_kinds t (inl input)) input;
        fits = agree.second_fits;
        still = still_over e (renamed joined.from e) agree settled.still;
      }
