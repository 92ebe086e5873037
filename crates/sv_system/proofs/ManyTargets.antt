-- The facts on order for a system whose processes are blocks, each with targets of its own: the
-- value of a target is what a run of its block gives it.
use Rattle.std.proofs.Common.{◌≡◌, ◌<◌, ◌^◌, List, ◌∷◌, ◌++◌, sym, ap, subst, ◌∙◌}
use Rattle.std.specs.Prelude.{Bool, true, false, Contains, IsTrue}
use Rattle.std.specs.List.{IsDistinct}
use Rattle.std.proofs.lemmas.List.Elements.{Contains-append_right}
use Rattle.sv_system.specs.System.{System, Environment, Run, Fits, IsStill, KindFits}
use Rattle.sv_system.specs.Facts.{IsCombinational, Driver, Ordered}
use Rattle.sv_system.specs.Schedules.{Block, Scheduled}
use Rattle.sv_system.proofs.Lists.{Contains-head, Contains-map}
use Rattle.sv_system.proofs.Orders.{block_of, run_of}
use Rattle.sv_system.proofs.Pointwise.{either_way, still_at, still_from}
use Rattle.sv_system.proofs.Runs.{targets}

-- each target of a block has one driver, and lower targets come first
pub record ManyTargets {Signal Point : Type 0} (system : System Signal Point)
    (scheduled : Scheduled system)
    (same : Signal → Signal → Bool) : Type 0 where
  pub drivers : List (Driver Signal)
  pub targets_differ : IsDistinct same (targets drivers)
  pub driver_of : (b : Block Signal) → Contains scheduled.blocks b → (s : Signal)
      → Contains b.targets s
      → (d : Driver Signal) × Contains drivers d × (d.target ≡ s)
      × ((e : Environment Signal) → d.value e ≡ b.run e s)
  pub driven_by : (d : Driver Signal) → Contains drivers d
      → (b : Block Signal) × Contains scheduled.blocks b × Contains b.targets d.target
      × ((e : Environment Signal) → d.value e ≡ b.run e d.target)
  pub lower_first : (before after : List (Driver Signal)) (d : Driver Signal)
      → drivers ≡ before ++ d ∷ after
      → (t : Signal) → IsCombinational system t → scheduled.depth t < scheduled.depth d.target
      → Contains (targets before) t
  pub values_fit : (d : Driver Signal) → Contains drivers d → (e : Environment Signal) →
      Fits system e → d.value e < 2 ^ system.width d.target

module _ {Signal Point : Type 0} (system : System Signal Point) (scheduled : Scheduled system)
    (same : Signal → Signal → Bool) (facts : ManyTargets system scheduled same) where
  many_still_targets : (e : Environment Signal) → IsStill system e → (d : Driver Signal) →
      Contains facts.drivers d → e d.target ≡ d.value e
  many_still_targets e still d among =
      let found = facts.driven_by d among in
      sym (still_at system e still found.0.run (run_of system scheduled found.0 found.1) d.target)
      ∙ sym (found.3 e)

  many_targets_still : (e : Environment Signal) →
      ((d : Driver Signal) → Contains facts.drivers d → e d.target ≡ d.value e) → IsStill system e
  many_targets_still e at_rest = still_from system e (λ run listed s.
      let found = block_of system scheduled run listed in
      subst (λ (step : Run Signal).
      step e s ≡ e s) found.2 (either_way (found.0.run e s) (e s) (Contains found.0.targets s)
      (λ target.
      let driver = facts.driver_of found.0 found.1 s target in
      sym (driver.3 e) ∙ sym (at_rest driver.0 driver.1) ∙ ap e driver.2)
      (scheduled.leaves found.0 found.1 e s)))

  -- blocks in order by depth are drivers in order
  pub many_ordered : ((s t : Signal) → IsTrue (same s t) → s ≡ t) → ((s : Signal) → same s s ≡ true)
      → ((s : Signal) → IsTrue (system.is_input s) → system.is_register s ≡ false)
      → ((e : Environment Signal) → Fits system e
      → KindFits system.is_register system (system.next e))
      → ((e f : Environment Signal) (s : Signal) → IsTrue (system.is_register s)
      → ((t : Signal) → IsTrue (system.is_register t) → e t ≡ f t)
      → ((t : Signal) → Contains system.signals t → e t ≡ f t) → system.next e s ≡ system.next f s)
      → Ordered system
  many_ordered same_is is_same not_both next_fits next_within = record {
    same = same;
    same_is = same_is;
    is_same = is_same;
    drivers = facts.drivers;
    still_targets = λ e _. many_still_targets e;
    targets_still = λ e _. many_targets_still e;
    targets_differ = facts.targets_differ;
    targets_combinational =
        λ d among. let found = facts.driven_by d among in
        scheduled.targets_combinational found.0 found.1 d.target found.2;
    driven = λ s is.
        let found = scheduled.assigned s is in
        let driver = facts.driver_of found.0 found.1 s found.2 in
        subst (Contains (targets facts.drivers)) driver.2
        (Contains-map (λ (d : Driver Signal). d.target) facts.drivers driver.0 driver.1);
    not_both = not_both;
    values_fit = facts.values_fit;
    next_fits = next_fits;
    earlier = λ before after d is e f inputs registers agree.
        let found = facts.driven_by d
        (subst (λ ds. Contains ds d) (sym is)
        (Contains-append_right before (d ∷ after) d (Contains-head d after))) in
        found.3 e
        ∙ scheduled.made_from_lower found.0 found.1 d.target found.2 e f inputs registers
        (λ t t_is lower. agree t (facts.lower_first before after d is t t_is lower))
        ∙ sym (found.3 f);
    next_within = next_within;
  }
