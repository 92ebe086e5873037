use Rattle.std.proofs.Common.{List, Option, ap, sym, ◌∙◌}
use Rattle.sv_lattice.specs.declared.points.Point.{Point}
use Rattle.sv_lattice.specs.Maps.{MapRows}
use Rattle.std.specs.Prelude.{Ok}
use Rattle.sv_ast.specs.Views.{map_tree}
use Rattle.sv_elab_rules.specs.Rules.{map_hole}
use Rattle.sv_width.proofs.Breaches.{breach_by}
use Rattle.sv_elab.specs.MapParts.{own_walk, points_in, is_whole}
use Rattle.sv_elab.proofs.MapEnds.{few_bits, new_is_map, map_stop, map_length, map_made}
use Rattle.sv_elab.proofs.maps.map_of.Goals as goal

pub filled-requires : goal.filled-requires
filled-requires c = record { bits = few_bits (map_tree c.args.text.now) c.args.ranges c.requires }

pub new_map-requires : goal.new_map-requires
new_map-requires c =
    let t = map_tree c.args.text.now in
    let all = rw c.in-Some.is at c.in_ok-rows.ensures in
    new_is_map t c.args.ranges c.requires c.in-Some.rows.items
    (map_length c.args.points.now.points t c.args.ranges c.requires c.in_ok-table.table.items
    c.in_ok-table.ensures.found c.in_ok-other.other c.in_ok-other.ensures.found
    c.in-Some.rows.items (all.1 ∙ ap (λ (ts : List (Option Point)).
    points_in ts c.in_ok-other.other) c.deref.ensures.value))

pub returns-in-Some-clause-found : goal.returns-in-Some-clause-found
returns-in-Some-clause-found c =
    let t = map_tree c.args.text.now in
    let all = rw c.in-Some.is at c.in_ok-rows.ensures in
    map_made c.args.points.now.points t c.args.ranges c.requires c.in_ok-table.table.items
    c.in_ok-table.ensures.found c.in_ok-other.other c.in_ok-other.ensures.found
    c.in-Some.rows.items (ap (λ (ts : List (Option Point)).
    is_whole ts c.in_ok-other.other) (sym c.deref.ensures.value) ∙ all.0)
    (all.1 ∙ ap (λ (ts : List (Option Point)).
    points_in ts c.in_ok-other.other) c.deref.ensures.value)
    ∙ ap (λ (m : MapRows). Ok m) (sym c.new_map.ensures)

pub returns-clause-broken : goal.returns-clause-broken
returns-clause-broken c =
    let t = map_tree c.args.text.now in
    let none = rw c.in-None.is at c.in_ok-rows.ensures in
    breach_by c.refusal_naming.result (map_hole t.place t.name) c.refusal_naming.ensures
    (own_walk c.args.points.now.points t).end
    (map_stop c.args.points.now.points t c.args.ranges c.requires c.in_ok-table.table.items
    c.in_ok-table.ensures.found c.in_ok-other.other c.in_ok-other.ensures.found
    (ap (λ (ts : List (Option Point)). is_whole ts c.in_ok-other.other) (sym c.deref.ensures.value)
    ∙ none))
