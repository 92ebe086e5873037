-- One run of each driver, in their order, settles a cycle.
use Rattle.std.proofs.Common.{◌≡◌, ℕ, ◌<◌, ◌^◌, Bool, true, false, cond, List, [], ◌∷◌, ◌++◌, ◌⊎◌}
use Rattle.std.proofs.Common.{inl, inr, refl, sym, ap, subst, ◌∙◌, pow_pos, get_or}
use Rattle.std.specs.Prelude.{Contains, IsTrue}
use Rattle.std.specs.List.{IsDistinct}
use Rattle.std.proofs.lemmas.Bool.{cond-true, cond-false, cond_both}
use Rattle.std.proofs.lemmas.List.{map-append}
use Rattle.std.proofs.lemmas.List.Elements.{All-weaker, Contains-append_left}
use Rattle.sv_system.specs.System.{System, Environment, Fits, Settled, KindFits, put}
use Rattle.sv_system.specs.Facts.{IsCombinational, Driver, Ordered}
use Rattle.sv_system.proofs.Lists.{Contains-head, Contains-later, Contains-from_map}
use Rattle.sv_system.proofs.Runs.{targets, run, cut_at, run_leaves, final_target, final_earlier}
use Rattle.sv_system.proofs.OneCycle.{one_kind}

-- the registers of the state, the inputs, and zero elsewhere
abbrev base : {Signal Point : Type 0} → System Signal Point → Environment Signal →
    Environment Signal → Environment Signal
base system state inputs =
    λ s. cond (system.is_register s) (state s) (cond (system.is_input s) (inputs s) 0)

base_fits_at : (register input : Bool) (width m n : ℕ) → (IsTrue register → m < 2 ^ width) →
    (IsTrue input → n < 2 ^ width) → cond register m (cond input n 0) < 2 ^ width
base_fits_at true input width m n state inputs = state refl
base_fits_at false true width m n state inputs = inputs refl
base_fits_at false false width m n state inputs = pow_pos width

module _ {Signal Point : Type 0} (system : System Signal Point) (facts : Ordered system) where
  -- the environment that the drivers make of a state and inputs
  pub settle : Environment Signal → Environment Signal → Environment Signal
  settle state inputs = run facts.same facts.drivers (base system state inputs)

  base_fits : (state inputs : Environment Signal) → KindFits system.is_register system state →
      KindFits system.is_input system inputs → Fits system (base system state inputs)
  base_fits state inputs state_fits inputs_fit k d lt =
      let s = get_or system.signals k d in
      base_fits_at (system.is_register s) (system.is_input s) (system.width s) (state s) (inputs s)
      (state_fits k d lt) (inputs_fit k d lt)

  put_fits : (d : Driver Signal) → Contains facts.drivers d → (e : Environment Signal) →
      Fits system e → Fits system (put facts.same d.target (d.value e) e)
  put_fits d among e fits =
      All-weaker (λ s. e s < 2 ^ system.width s) (λ s.
      put facts.same d.target (d.value e) e s < 2 ^ system.width s)
      (λ s fit. cond_both (facts.same d.target s) (d.value e) (e s) (λ n.
      n < 2 ^ system.width s) (λ hit.
      subst (λ t. d.value e < 2 ^ system.width t) (facts.same_is d.target s hit)
      (facts.values_fit d among e fits)) (λ miss. fit))
      system.signals fits

  run_fits : (ds : List (Driver Signal)) →
      ((d : Driver Signal) → Contains ds d → Contains facts.drivers d) → (e : Environment Signal) →
      Fits system e → Fits system (run facts.same ds e)
  run_fits [] among e fits = fits
  run_fits (d ∷ ds) among e fits =
      run_fits ds (λ b at.
      among b (Contains-later d ds b at)) (put facts.same d.target (d.value e) e)
      (put_fits d (among d (Contains-head d ds)) e fits)

  -- inputs and registers are no targets
  no_target : (s : Signal) → IsTrue (system.is_input s) ⊎ IsTrue (system.is_register s) →
      Contains (targets facts.drivers) s → ⊥
  no_target s given at =
      let found = Contains-from_map (λ (d : Driver Signal). d.target) facts.drivers s at in
      one_kind system s given
      (subst (IsCombinational system) found.2 (facts.targets_combinational found.0 found.1))

  -- so the drivers leave them
  settle_leaves : (state inputs : Environment Signal) (s : Signal) →
      IsTrue (system.is_input s) ⊎ IsTrue (system.is_register s) →
      settle state inputs s ≡ base system state inputs s
  unfolding settle
  settle_leaves state inputs s given =
      run_leaves facts.same facts.same_is facts.is_same facts.drivers (base system state inputs) s
      (no_target s given)

  module _ (state inputs : Environment Signal) (d : Driver Signal)
      (before after : List (Driver Signal)) (is : facts.drivers ≡ before ++ d ∷ after) where
    -- the environment when the driver's turn comes
    turn : Environment Signal
    turn = run facts.same before (base system state inputs)

    cut_distinct : IsDistinct facts.same (targets (before ++ d ∷ after))
    cut_distinct = subst (λ ds. IsDistinct facts.same (targets ds)) is facts.targets_differ

    turn_target : settle state inputs d.target ≡ d.value turn
    unfolding settle turn
    turn_target = ap (λ ds. run facts.same ds (base system state inputs) d.target) is
        ∙ final_target facts.same facts.same_is facts.is_same before after d cut_distinct
        (base system state inputs)

    turn_earlier : (s : Signal) → Contains (targets before) s → turn s ≡ settle state inputs s
    unfolding settle turn
    turn_earlier s at = sym (ap (λ ds. run facts.same ds (base system state inputs) s) is
        ∙ final_earlier facts.same facts.same_is facts.is_same before after d cut_distinct
        (base system state inputs) s at)

    turn_given : (s : Signal) → IsTrue (system.is_input s) ⊎ IsTrue (system.is_register s) →
        turn s ≡ settle state inputs s
    unfolding turn
    turn_given s given =
        run_leaves facts.same facts.same_is facts.is_same before (base system state inputs) s
        (λ at. no_target s given
        (subst (λ ts. Contains ts s)
        (sym (ap targets is ∙ map-append (λ (b : Driver Signal). b.target) before (d ∷ after)))
        (Contains-append_left (targets before) (targets (d ∷ after)) s at)))
        ∙ sym (settle_leaves state inputs s given)

    turn_value : d.value turn ≡ d.value (settle state inputs)
    turn_value = facts.earlier before after d is turn (settle state inputs)
        (λ s input. turn_given s (inl input)) (λ s register.
        turn_given s (inr register)) turn_earlier

  settle_fits : (state inputs : Environment Signal) → KindFits system.is_register system state →
      KindFits system.is_input system inputs → Fits system (settle state inputs)
  unfolding settle
  settle_fits state inputs state_fits inputs_fit =
      run_fits facts.drivers (λ d among.
      among) (base system state inputs) (base_fits state inputs state_fits inputs_fit)

  -- each target has the value that its driver gives it
  settle_target : (state inputs : Environment Signal) (d : Driver Signal) →
      Contains facts.drivers d → settle state inputs d.target ≡ d.value (settle state inputs)
  settle_target state inputs d among =
      let cut = cut_at facts.drivers d among in
      turn_target state inputs d cut.before cut.after cut.is
      ∙ turn_value state inputs d cut.before cut.after cut.is

  pub settle_settles : (state inputs : Environment Signal) →
      KindFits system.is_register system state → KindFits system.is_input system inputs →
      Settled system state inputs (settle state inputs)
  settle_settles state inputs state_fits inputs_fit =
      let fits = settle_fits state inputs state_fits inputs_fit in
      record {
        registers =
            λ s register. settle_leaves state inputs s (inr register)
            ∙ cond-true (system.is_register s) (state s) _ register;
        inputs_are =
            λ s input. settle_leaves state inputs s (inl input)
            ∙ cond-false (system.is_register s) (state s) _ (facts.not_both s input)
            ∙ cond-true (system.is_input s) (inputs s) 0 input;
        fits = fits;
        still = facts.targets_still (settle state inputs) fits (settle_target state inputs);
      }
