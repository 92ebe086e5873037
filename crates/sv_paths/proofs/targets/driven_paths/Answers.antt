use Rattle.std.proofs.Common.{◌≡◌, ◌<◌, get_or, refl, sym, subst, ◌∙◌}
use Rattle.sv_flat.specs.ByNumber.{signal_forms}
use Rattle.sv_flat.specs.Clocks.{processes_of}
use Rattle.sv_flat.specs.Views.{design_of, process_form}
use Rattle.sv_paths.specs.Answers.{Told}
use Rattle.sv_obl.specs.IndexedBodies.{looked_up}
use Rattle.sv_obl.specs.MarkedBodies.{marked_statement}
use Rattle.sv_obl.specs.Routes.{open_route, routes_before}
use Rattle.sv_paths.specs.Trails.{open_trail, trails_before}
use Rattle.sv_paths.proofs.DrivenTargets.{undriven_passed, undriven_listed, driven_excess}
use Rattle.sv_paths.proofs.DrivenTargets.{are_routes}
use Rattle.sv_paths.proofs.DrivenTargets.{answers_error}
use Rattle.sv_obl.proofs.DrivenBodies.{inside_marked}
use Rattle.sv_paths.proofs.DrivenTrails.{unmarked, can_walk, driven_trails, are_trails}
use Rattle.sv_obl.proofs.IndexedFacts.{inside_bodies}
use Rattle.sv_obl.proofs.FormLists.{form_at}
use Rattle.sv_paths.proofs.WrittenFacts.{few_routes, few_trails}
use Rattle.sv_paths.proofs.targets.driven_paths.Goals as goal

pub index-requires : goal.index-requires
index-requires c =
    let design = design_of c.args.design.now in
    let x = c.index-processes-place.result in
    let there : get_or (processes_of design) c.in-Some.place (process_form x) ≡ process_form x =
    form_at process_form c.processes.result.now (processes_of design) c.in-Some.place x
    c.index-processes-place.is c.processes.ensures.processes in
    subst (λ n. c.in-Some.place < n) (sym c.args.bodies.now.marked.ok.0)
    (inside_marked c.args.design.now c.driver.ensures.design c.args.target.0 c.requires.known
    c.args.bodies.now.marked.items c.requires.bodies.marked c.in-Some.place
    (sym c.driver.ensures.driver ∙ c.in-Some.is) (process_form x) there)

pub index-indexed-requires : goal.index-indexed-requires
index-indexed-requires c =
    subst (λ n. c.in-Some.place < n) (sym c.args.bodies.now.indexed.ok.0)
    (inside_bodies (design_of c.args.design.now) c.args.target.0 c.in-Some.place
    (process_form c.index-processes-place.result) c.args.bodies.now.indexed.items
    c.requires.bodies.indexed (sym c.driver.ensures.driver ∙ c.in-Some.is))

pub trails_within-requires-clause-tells : goal.trails_within-requires-clause-tells
trails_within-requires-clause-tells c =
    let design = design_of c.args.design.now in
    let x = c.index-processes-place.result in
    let there : get_or (processes_of design) c.in-Some.place (process_form x) ≡ process_form x =
    form_at process_form c.processes.result.now (processes_of design) c.in-Some.place x
    c.index-processes-place.is c.processes.ensures.processes in
    (can_walk c.args.design.now c.driver.ensures.design c.args.target.0 c.requires.known
    c.args.bodies.now.marked.items c.requires.bodies.marked c.in-Some.place
    (sym c.driver.ensures.driver ∙ c.in-Some.is) (process_form x) there
    c.index.result.now c.index.ensures c.in-Some-index.body
    c.in-Some-index.is).tells

pub returns-in_err-trails-in-Some-index-clause-excess : goal.returns-in_err-trails-in-Some-index-clause-excess
returns-in_err-trails-in-Some-index-clause-excess c =
    let design = design_of c.args.design.now in
    let x = c.index-processes-place.result in
    let there : get_or (processes_of design) c.in-Some.place (process_form x) ≡ process_form x =
    form_at process_form c.processes.result.now (processes_of design) c.in-Some.place x
    c.index-processes-place.is c.processes.ensures.processes in
    answers_error _ c.in_err-trails-in-Some-index.field-0.0 c.from_residual.result c.from_residual.ensures.1
    (subst (λ e. Told e c.in_err-trails-in-Some-index.field-0.0)
    (driven_trails c.args.design.now c.driver.ensures.design c.args.target.0 c.requires.known
    c.args.bodies.now.marked.items c.requires.bodies.marked c.in-Some.place
    (sym c.driver.ensures.driver ∙ c.in-Some.is) (process_form x) there
    c.index.result.now c.index.ensures c.in-Some-index.body c.in-Some-index.is
    c.signals.result.now c.signals.ensures.signals c.args.total)
    c.in_err-trails-in-Some-index.ensures.excess)

pub returns-in_ok-trails-in-Some-index-clause-excess : goal.returns-in_ok-trails-in-Some-index-clause-excess
returns-in_ok-trails-in-Some-index-clause-excess c =
    let design = design_of c.args.design.now in
    let x = c.index-processes-place.result in
    let there : get_or (processes_of design) c.in-Some.place (process_form x) ≡ process_form x =
    form_at process_form c.processes.result.now (processes_of design) c.in-Some.place x
    c.index-processes-place.is c.processes.ensures.processes in
    sym (driven_trails c.args.design.now c.driver.ensures.design c.args.target.0 c.requires.known
    c.args.bodies.now.marked.items c.requires.bodies.marked c.in-Some.place
    (sym c.driver.ensures.driver ∙ c.in-Some.is) (process_form x) there
    c.index.result.now c.index.ensures c.in-Some-index.body c.in-Some-index.is
    c.signals.result.now c.signals.ensures.signals c.args.total)
    ∙ c.in_ok-trails-in-Some-index.ensures.excess

pub returns-in_ok-trails-in-Some-index-clause-driven : goal.returns-in_ok-trails-in-Some-index-clause-driven
returns-in_ok-trails-in-Some-index-clause-driven c =
    let design = design_of c.args.design.now in
    let x = c.index-processes-place.result in
    let there : get_or (processes_of design) c.in-Some.place (process_form x) ≡ process_form x =
    form_at process_form c.processes.result.now (processes_of design) c.in-Some.place x
    c.index-processes-place.is c.processes.ensures.processes in
    let trails = trails_before (signal_forms c.signals.result.now) c.args.target.0
    (marked_statement c.in-Some-index.body) (open_trail c.args.target.0) in
    record {
      are =
          are_trails c.args.design.now c.driver.ensures.design c.args.target.0 c.requires.known
          c.args.bodies.now.marked.items c.requires.bodies.marked c.in-Some.place
          (sym c.driver.ensures.driver ∙ c.in-Some.is) (process_form x) there
          c.index.result.now c.index.ensures c.in-Some-index.body
          c.in-Some-index.is c.signals.result.now c.signals.ensures.signals x
          c.in_ok-trails-in-Some-index.trails.items refl c.in_ok-trails-in-Some-index.ensures.trails;
      few =
          few_trails c.args.target.0 c.args.total trails c.in_ok-trails-in-Some-index.trails.items
          c.in_ok-trails-in-Some-index.ensures.excess c.in_ok-trails-in-Some-index.ensures.trails;
    }

pub returns-in_err-routes-in-None-index-clause-excess : goal.returns-in_err-routes-in-None-index-clause-excess
returns-in_err-routes-in-None-index-clause-excess c =
    let design = design_of c.args.design.now in
    let x = c.index-processes-place.result in
    let there : get_or (processes_of design) c.in-Some.place (process_form x) ≡ process_form x =
    form_at process_form c.processes.result.now (processes_of design) c.in-Some.place x
    c.index-processes-place.is c.processes.ensures.processes in
    let drives = sym c.driver.ensures.driver ∙ c.in-Some.is in
    answers_error _ c.in_err-routes-in-None-index.field-0.0 c.from_residual-in_err-routes-in-None-index.result c.from_residual-in_err-routes-in-None-index.ensures.1
    (subst (λ e. Told e c.in_err-routes-in-None-index.field-0.0)
    (driven_excess c.args.design.now c.driver.ensures.design c.args.target.0 c.requires.known
    c.args.bodies.now.indexed.items c.requires.bodies.indexed c.in-Some.place drives
    (process_form x) there
    (unmarked c.args.design.now c.driver.ensures.design c.args.target.0 c.requires.known
    c.args.bodies.now.marked.items c.requires.bodies.marked c.in-Some.place drives
    (process_form x) there c.index.result.now c.index.ensures c.in-None-index.is)
    c.index-indexed.result.now c.index-indexed.ensures c.signals-in-None-index.result.now
    c.signals-in-None-index.ensures.signals c.args.total)
    c.in_err-routes-in-None-index.ensures.excess)

pub returns-in_ok-routes-in-None-index-clause-excess : goal.returns-in_ok-routes-in-None-index-clause-excess
returns-in_ok-routes-in-None-index-clause-excess c =
    let design = design_of c.args.design.now in
    let x = c.index-processes-place.result in
    let there : get_or (processes_of design) c.in-Some.place (process_form x) ≡ process_form x =
    form_at process_form c.processes.result.now (processes_of design) c.in-Some.place x
    c.index-processes-place.is c.processes.ensures.processes in
    let drives = sym c.driver.ensures.driver ∙ c.in-Some.is in
    sym (driven_excess c.args.design.now c.driver.ensures.design c.args.target.0 c.requires.known
    c.args.bodies.now.indexed.items c.requires.bodies.indexed c.in-Some.place drives
    (process_form x) there
    (unmarked c.args.design.now c.driver.ensures.design c.args.target.0 c.requires.known
    c.args.bodies.now.marked.items c.requires.bodies.marked c.in-Some.place drives
    (process_form x) there c.index.result.now c.index.ensures c.in-None-index.is)
    c.index-indexed.result.now c.index-indexed.ensures c.signals-in-None-index.result.now
    c.signals-in-None-index.ensures.signals c.args.total)
    ∙ c.in_ok-routes-in-None-index.ensures.excess

pub returns-in_ok-routes-in-None-index-clause-driven : goal.returns-in_ok-routes-in-None-index-clause-driven
returns-in_ok-routes-in-None-index-clause-driven c =
    let design = design_of c.args.design.now in
    let x = c.index-processes-place.result in
    let there : get_or (processes_of design) c.in-Some.place (process_form x) ≡ process_form x =
    form_at process_form c.processes.result.now (processes_of design) c.in-Some.place x
    c.index-processes-place.is c.processes.ensures.processes in
    let drives = sym c.driver.ensures.driver ∙ c.in-Some.is in
    let routes = routes_before (signal_forms c.signals-in-None-index.result.now) c.args.target.0
    (looked_up c.args.target.0 c.index-indexed.result.now) open_route in
    record {
      are =
          are_routes c.args.design.now c.driver.ensures.design c.args.target.0 c.requires.known
          c.args.bodies.now.indexed.items c.requires.bodies.indexed c.in-Some.place drives
          (process_form x) there
          (unmarked c.args.design.now c.driver.ensures.design c.args.target.0 c.requires.known
          c.args.bodies.now.marked.items c.requires.bodies.marked c.in-Some.place drives
          (process_form x) there c.index.result.now c.index.ensures
          c.in-None-index.is)
          c.index-indexed.result.now c.index-indexed.ensures c.signals-in-None-index.result.now
          c.signals-in-None-index.ensures.signals x c.in_ok-routes-in-None-index.routes.items refl
          c.in_ok-routes-in-None-index.ensures.routes;
      few =
          few_routes c.args.target.0 c.args.total routes c.in_ok-routes-in-None-index.routes.items
          c.in_ok-routes-in-None-index.ensures.excess c.in_ok-routes-in-None-index.ensures.routes;
    }

pub returns-in-None-clause-excess : goal.returns-in-None-clause-excess
returns-in-None-clause-excess c =
    undriven_passed c.args.design.now c.driver.ensures.design c.args.target.0 c.requires.known
    (sym c.driver.ensures.driver ∙ c.in-None.is) c.args.total c.requires.few

pub returns-in-None-clause-driven : goal.returns-in-None-clause-driven
returns-in-None-clause-driven c =
    undriven_listed c.args.design.now c.driver.ensures.design c.args.target.0 c.requires.known
    (sym c.driver.ensures.driver ∙ c.in-None.is)
