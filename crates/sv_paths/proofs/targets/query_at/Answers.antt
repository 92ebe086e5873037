use Rattle.std.proofs.Common.{◌≡◌, ◌<◌, List, [], length, Some, sym, ap, subst, ◌∙◌}
use Rattle.std.specs.Prelude.{slice_get}
use Rattle.std.proofs.lemmas.Result.{IfOk-weaker}
use Rattle.sv_flat.specs.ByNumber.{signal_forms}
use Rattle.sv_flat.specs.Design.{SignalForm}
use Rattle.sv_flat.specs.Views.{process_form}
use Rattle.sv_paths.specs.Alongs.{trail_obligation}
use Rattle.sv_paths.specs.Driven.{AreRoutes, AreTrails, ArePaths, how_many}
use Rattle.sv_obl.specs.MarkedBodies.{marked_statement}
use Rattle.sv_obl.specs.Obligations.{target_obligations}
use Rattle.sv_paths.specs.RouteObligations.{route_obligation}
use Rattle.sv_paths.specs.RouteViews.{route_form}
use Rattle.sv_paths.specs.TrailViews.{trail_form}
use Rattle.sv_obl.specs.Views.{obligation_of}
use Rattle.sv_paths.proofs.TargetFacts.{obligation_at}
use Rattle.sv_obl.proofs.FormLists.{form_there}
use Rattle.sv_paths.proofs.targets.query_at.Goals as goal

pub returns-in-Routes : goal.returns-in-Routes
returns-in-Routes c = λ design total same has.
    let s = c.args.target.0 in
    let process = c.args.driven.now.process.now in
    let routes = c.in-Routes.routes.items in
    let os = target_obligations [] design s in
    let become = route_obligation (length design.signals) (process_form process) s in
    let are : AreRoutes design s process routes =
    subst (ArePaths design s process) c.in-Routes.is has.are in
    let inside : c.args.place < length routes =
    subst (λ paths. c.args.place < how_many paths) c.in-Routes.is c.requires.there in
    let x = c.index.result.now in
    IfOk-weaker c.query_of.result (λ query. obligation_of query ≡ become (route_form x))
    (λ query. slice_get os c.args.place ≡ Some (obligation_of query))
    (λ query made.
    obligation_at route_form become routes os c.args.place x are.listed inside c.index.ensures
    ∙ ap Some (sym made))
    (c.query_of.ensures (length design.signals)
    (are.names (route_form x) (form_there route_form routes c.args.place x inside c.index.ensures)))

pub returns-in-Trails : goal.returns-in-Trails
returns-in-Trails c = λ design total same has.
    let s = c.args.target.0 in
    let process = c.args.driven.now.process.now in
    let body = c.in-Trails.body.now in
    let trails = c.in-Trails.trails.items in
    let os = target_obligations [] design s in
    let are : AreTrails design s process body trails =
    subst (ArePaths design s process) c.in-Trails.is has.are in
    let inside : c.args.place < length trails =
    subst (λ paths. c.args.place < how_many paths) c.in-Trails.is c.requires.there in
    let become = λ (signals : List SignalForm).
    trail_obligation signals (process_form process) s (marked_statement body) in
    let x = c.index-trail.result.now in
    IfOk-weaker c.trail_query.result
    (λ query. obligation_of query
    ≡ become (signal_forms c.args.signals.now) (trail_form x))
    (λ query. slice_get os c.args.place ≡ Some (obligation_of query))
    (λ query made.
    obligation_at trail_form (become design.signals) trails os c.args.place x are.listed inside
    c.index-trail.ensures
    ∙ ap Some (sym (made ∙ ap (λ signals. become signals (trail_form x)) same)))
    c.trail_query.ensures
