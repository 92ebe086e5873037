use Rattle.std.proofs.Common.{map, sym, ap, ◌∙◌}
use Rattle.std.specs.Prelude.{Ok}
use Rattle.std.proofs.lemmas.Result.{err_from_is_err_and}
use Rattle.sv_ast.specs.Views.{module_tree}
use Rattle.sv_elab.specs.Instances.{built_form}
use Rattle.sv_elab.specs.Modules.{asked_name}
use Rattle.sv_elab.proofs.TextCode.{maps_shaped, maps_few, lattice_breach, maps_breach}
use Rattle.sv_elab.proofs.TextCode.{built_breach, whole_end}
use Rattle.sv_elab.proofs.texts.elaborate_under.Goals as goal

pub returns-in_err-points-clause-broken : goal.returns-in_err-points-clause-broken
returns-in_err-points-clause-broken c =
    let p = err_from_is_err_and c.from_residual.result
    c.from_residual.ensures.1 in
    rw (p.1, p.2) (lattice_breach c.args.text.now (asked_name c.args.top) c.in_err-points.field-0.0
    c.in_err-points.ensures.broken)

pub label_maps-requires : goal.label_maps-requires
label_maps-requires c =
    maps_shaped c.args.text.now c.deref.result.now c.deref.ensures.value c.requires.shaped

pub returns-in_err-maps-clause-broken : goal.returns-in_err-maps-clause-broken
returns-in_err-maps-clause-broken c =
    let p = err_from_is_err_and c.from_residual-in_err-maps.result
    c.from_residual-in_err-maps.ensures.1 in
    rw (p.1, p.2) (maps_breach c.args.text.now (asked_name c.args.top) c.in_ok-points.points
    c.in_ok-points.ensures.found c.deref.result.now c.deref.ensures.value c.in_err-maps.field-0.0
    c.in_err-maps.ensures.broken)

pub built_under-requires-clause-maps : goal.built_under-requires-clause-maps
built_under-requires-clause-maps c =
    maps_few c.args.text.now c.in_ok-points.points.points c.deref.result.now
    c.deref.ensures.value c.in_ok-maps.maps.entries c.in_ok-maps.ensures.found c.requires.maps

pub returns-in_err-built-clause-broken : goal.returns-in_err-built-clause-broken
returns-in_err-built-clause-broken c =
    let p = err_from_is_err_and c.from_residual-in_err-built.result
    c.from_residual-in_err-built.ensures.1 in
    rw (p.1, p.2) (built_breach c.args.text.now (asked_name c.args.top) c.in_ok-points.points
    c.in_ok-points.ensures.found c.deref.result.now c.deref.ensures.value c.in_ok-maps.maps.entries
    c.in_ok-maps.ensures.found c.in_err-built.field-0.0 c.in_err-built.ensures.broken)

pub returns-clause-found : goal.returns-clause-found
returns-clause-found c =
    whole_end c.args.text.now (asked_name c.args.top) c.in_ok-points.points
    c.in_ok-points.ensures.found c.deref.result.now c.deref.ensures.value c.in_ok-maps.maps.entries
    c.in_ok-maps.ensures.found (built_form c.in_ok-built.built) c.in_ok-built.ensures.found
    ∙ ap Ok (sym (c.in_ok-design.ensures (map module_tree c.args.text.now.modules.items)))
