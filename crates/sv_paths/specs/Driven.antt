-- Private: how the code goes. The paths of a target as the calls hand them on, with the process
-- that drives it; which obligations a target has stands in `Obligations` of `sv_obl`.
use Rattle.std.specs.Prelude.{◌≡◌, ℕ, ◌+◌, ◌<◌, ◌≤◌, List, [], length, map, reverse, All, Contains}
use Rattle.std.specs.Prelude.{Option, Some, None}
use Rattle.sv_flat.specs.Design.{FlatDesign}
use Rattle.sv_flat.specs.Processes.{is_clocked}
use Rattle.sv_flat.specs.Views.{process_form}
use Rattle.sv_flat.specs.declared.designs.Process.{Process}
use Rattle.sv_obl.specs.declared.marked.Marked.{Marked}
use Rattle.sv_paths.specs.declared.routes.Route.{Route}
use Rattle.sv_paths.specs.declared.targets.DrivenPaths.{DrivenPaths}
use Rattle.sv_paths.specs.declared.targets.Paths.{Paths}
use Rattle.sv_paths.specs.declared.targets.Paths.TheVariants.{Routes, Trails}
use Rattle.sv_paths.specs.declared.trails.Trail.{Trail}
use Rattle.sv_paths.specs.Alongs.{conditions_along, trail_obligation}
use Rattle.sv_paths.specs.ListLines.{step_word}
use Rattle.sv_obl.specs.MarkedBodies.{marked_statement, TellsTargets}
use Rattle.sv_obl.specs.Obligations.{target_obligations}
use Rattle.sv_paths.specs.PutIn.{HasWords}
use Rattle.sv_obl.specs.Routes.{RouteForm}
use Rattle.sv_paths.specs.RouteObligations.{route_obligation, names_on}
use Rattle.sv_paths.specs.RouteViews.{route_forms}
use Rattle.sv_paths.specs.Trails.{TrailForm}
use Rattle.sv_paths.specs.TrailViews.{trail_forms}
use Rattle.sv_paths.specs.Written.{mark_word}

-- the obligations of the target are those of its routes, and they name signals of the design
pub record AreRoutes (design : FlatDesign) (target : ℕ) (process : Process) (routes : List Route) :
    Type 0 where
  pub listed :
      map (route_obligation (length design.signals) (process_form process) target)
      (route_forms routes) ≡ target_obligations [] design target
  pub names : (route : RouteForm) → Contains (route_forms routes) route →
      All (λ t. t < length design.signals)
      (names_on (is_clocked (process_form process).kind) target route)

-- trails through the body can be walked along once more
pub record CanWalk (body : Marked) : Type 0 where
  pub tells : TellsTargets body
  pub words : HasWords (marked_statement body)

-- the obligations of the target are those of its trails through a body in which earlier reads are
-- wanted, and they name signals of the design
pub record AreTrails (design : FlatDesign) (target : ℕ) (process : Process) (body : Marked)
    (trails : List Trail) : Type 0 where
  pub listed :
      map (trail_obligation design.signals (process_form process) target (marked_statement body))
      (trail_forms trails) ≡ target_obligations [] design target
  pub names : (trail : TrailForm) → Contains (trail_forms trails) trail →
      All (λ t. t < length design.signals) trail.names.settled
  -- the marks that a line shows are those of the conditions
  pub marks : (trail : TrailForm) → Contains (trail_forms trails) trail
      → map step_word (conditions_along design.signals target (marked_statement body) trail)
      ≡ map mark_word (reverse trail.marks)
  pub walks : CanWalk body

abbrev pub ArePaths : FlatDesign → (target : ℕ) → Process → Paths → Type 0
ArePaths design s process (Routes routes) = AreRoutes design s process routes.items
ArePaths design s process (Trails body trails) = AreTrails design s process body.now trails.items

abbrev pub how_many : Paths → ℕ
how_many (Routes routes) = length routes.items
how_many (Trails body trails) = length trails.items

-- the obligations of the target are those of its paths, which are few enough after so many
pub record HasPaths (design : FlatDesign) (target total : ℕ) (driven : DrivenPaths) : Type 0 where
  pub are : ArePaths design target driven.process.now driven.paths
  pub few : total + how_many driven.paths ≤ 65536

-- no process drives the target, or one does and these are its paths
abbrev pub IsDriven : FlatDesign → (target total : ℕ) → Option DrivenPaths → Type 0
IsDriven design s total None = target_obligations [] design s ≡ []
IsDriven design s total (Some driven) = HasPaths design s total driven

-- trails that were found can be walked along
abbrev pub ArePathsWalked : Paths → Type 0
ArePathsWalked (Routes routes) = Unit {0}
ArePathsWalked (Trails body trails) = CanWalk body.now
