-- A target by its number in the design, and its paths through the process that drives it, whose
-- body is given indexed.
use Rattle.std.proofs.Common.{◌≡◌, ℕ, ◌<◌, ◌≤◌, List, [], length, map, get_or, All, ◌∙◌}
use Rattle.std.proofs.Common.{Option, Some, None, Result, Ok, Err, IsErrAnd, sym, ap, ap₂, subst}
use Rattle.std.specs.Prelude.{Contains}
use Rattle.sv_flat.specs.ByNumber.{signal_forms}
use Rattle.sv_flat.specs.Clocks.{processes_of}
use Rattle.sv_flat.specs.Design.{ProcessForm, FlatDesign}
use Rattle.sv_flat.specs.Processes.{is_block, is_clocked}
use Rattle.sv_flat.specs.Readings.{no_bits}
use Rattle.sv_flat.specs.SignalLists.{driver_of}
use Rattle.sv_flat.specs.Views.{design_of, process_form}
use Rattle.sv_flat.specs.declared.designs.Flat.{Flat}
use Rattle.sv_flat.specs.declared.designs.Process.{Process}
use Rattle.sv_flat.specs.declared.signals.Signal.{Signal}
use Rattle.sv_design.specs.Designs.{IsDesign}
use Rattle.sv_obl.specs.declared.indexed.Indexed.{Indexed}
use Rattle.sv_paths.specs.declared.routes.Route.{Route}
use Rattle.sv_paths.specs.declared.faults.OblFault.{OblFault}
use Rattle.sv_paths.specs.Answers.{excess_at, Told, Answers}
use Rattle.sv_paths.specs.Limits.{Excess}
use Rattle.sv_paths.specs.Driven.{AreRoutes}
use Rattle.sv_obl.specs.Obligations.{target_obligations}
use Rattle.sv_obl.specs.Routes.{RouteForm, open_route, routes_before}
use Rattle.sv_paths.specs.RouteObligations.{route_obligation, names_on, is_large, excess_by}
use Rattle.sv_obl.specs.IndexedBodies.{looked_up, IsIndexed, AreIndexed}
use Rattle.sv_paths.specs.RouteViews.{route_forms}
use Rattle.sv_obl.specs.Wanted.{marked}
use Rattle.sv_obl.proofs.IndexedFacts.{indexed_of_driver, same_routes}
use Rattle.sv_obl.proofs.FormLists.{signal_inside, signal_known}
use Rattle.sv_paths.proofs.TargetFacts.{none_listed, none_passed}
use Rattle.sv_paths.proofs.TargetFacts.{excess_same, listed_same, names_within}

-- a fault that is handed on tells what it told
pub answers_error : {T : Type 0} (passed : Option Excess) (fault : OblFault)
    (result : Result T OblFault) → IsErrAnd result (λ y. y ≡ fault) → Told passed fault
    → Answers passed result
answers_error passed fault (Ok x) same told = elim same [ ]
answers_error passed fault (Err y) same told = subst (Told passed) (sym same) told

module _ (flat : Flat) (is : IsDesign (design_of flat)) (s : ℕ)
    (known : s < length flat.signals.items) where
  abbrev design : FlatDesign
  design = design_of flat

  pub undriven_passed : driver_of design s ≡ None → (total : ℕ) → total ≤ 65536
      → excess_at design total s ≡ None
  undriven_passed none total few =
      none_passed design is.is_sound is.is_admitted s (signal_inside flat s known)
      (signal_known flat s known) none total few

  pub undriven_listed : driver_of design s ≡ None → target_obligations [] design s ≡ []
  undriven_listed none =
      none_listed design is.is_sound is.is_admitted s (signal_inside flat s known)
      (signal_known flat s known) none

  module _ (bodies : List Indexed) (all : AreIndexed (processes_of design) bodies) (k : ℕ)
      (driven : driver_of design s ≡ Some k) (p : ProcessForm)
      (there : get_or (processes_of design) k p ≡ p)
      (unmarked : marked design.signals (is_block p.kind) p.body no_bits ≡ p.body)
      (x : Indexed) (at : x ≡ get_or bodies k x) (signals : List Signal)
      (are : signals ≡ flat.signals.items) where
    abbrev routes : List RouteForm
    routes = routes_before (signal_forms signals) s (looked_up s x) open_route

    indexed : IsIndexed p.body x
    indexed = indexed_of_driver design s k p bodies all driven x there at

    same : routes ≡ routes_before design.signals s p.body open_route
    same = same_routes p.body x indexed (signal_forms signals) s open_route
        ∙ ap (λ sigs. routes_before (signal_forms sigs) s p.body open_route) are

    pub driven_excess : (total : ℕ)
        → excess_by is_large s total routes ≡ excess_at design total s
    driven_excess total = ap (excess_by is_large s total) same
        ∙ excess_same design is.is_sound is.is_admitted s (signal_inside flat s known)
        (signal_known flat s known) k p driven there unmarked total

    driven_listed : map (route_obligation (length design.signals) p s) routes
        ≡ target_obligations [] design s
    driven_listed = ap (map (route_obligation (length design.signals) p s)) same
        ∙ listed_same design is.is_sound is.is_admitted s (signal_inside flat s known)
        (signal_known flat s known) k p driven there unmarked

    driven_names : (route : RouteForm) → Contains routes route
        → All (λ t. t < length design.signals) (names_on (is_clocked p.kind) s route)
    driven_names route among =
        names_within design is.is_sound is.is_admitted s (signal_inside flat s known)
        (signal_known flat s known) k p driven there unmarked route
        (subst (λ rs. Contains rs route) same among)

    pub are_routes : (process : Process) (found : List Route) → process_form process ≡ p
        → route_forms found ≡ routes → AreRoutes design s process found
    are_routes process found through made =
        record {
          listed =
              ap₂ (λ q rs. map (route_obligation (length design.signals) q s) rs) through made
              ∙ driven_listed;
          names = λ route among.
              subst (λ (q : ProcessForm). All (λ t. t < length design.signals)
              (names_on (is_clocked q.kind) s route)) (sym through)
              (driven_names route (subst (λ rs. Contains rs route) made among));
        }
