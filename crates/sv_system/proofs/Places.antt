-- Schedules and rounds of processes that are named by their places.
use Rattle.std.proofs.Common.{◌≡◌, ℕ, ◌<◌, List, length, get_or, subst, ◌∙◌}
use Rattle.std.specs.Prelude.{All, Contains}
use Rattle.std.proofs.lemmas.List.{get_or_default}
use Rattle.std.proofs.lemmas.List.Elements.{All-map, All-weaker, Contains-get_or}
use Rattle.sv_system.specs.System.{System, Run}
use Rattle.sv_system.specs.Schedules.{IsSchedule, IsRound, runs_at}
use Rattle.sv_system.proofs.Lists.{Contains-map}
use Rattle.sv_system.proofs.Pointwise.{each}

module _ {Signal Point : Type 0} (system : System Signal Point) (places : List ℕ)
    (within : All (λ k. k < length system.processes) places) where
  abbrev at_place : ℕ → Run Signal
  at_place k = get_or system.processes k (λ e. e)

  -- places of processes give a schedule
  pub places_schedule : IsSchedule system (runs_at system places)
  places_schedule = All-map (Contains system.processes) at_place places
      (All-weaker (λ k. k < length system.processes) (λ k. Contains system.processes (at_place k))
      (λ k low. Contains-get_or system.processes k (λ e. e) low) places within)

  -- and a round where each place stands among them
  pub places_round : ((k : ℕ) → k < length system.processes → Contains places k) →
      IsRound system (runs_at system places)
  places_round all = record {
    schedule = places_schedule;
    whole = each (Contains (runs_at system places)) system.processes (λ run listed.
        let is : at_place listed.0 ≡ run =
        get_or_default system.processes listed.0 (λ e. e) run listed.1 ∙ listed.2 in
        subst (Contains (runs_at system places)) is
        (Contains-map at_place places listed.0 (all listed.0 listed.1)));
  }
