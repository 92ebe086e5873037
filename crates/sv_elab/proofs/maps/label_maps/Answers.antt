use Rattle.std.proofs.Common.{◌≡◌, ℕ, ◌+◌, ◌<◌, List, [], ◌∷◌, length, get_or, drop, map, sym, ap}
use Rattle.std.proofs.Common.{◌∙◌}
use Rattle.std.specs.List.{list_all}
use Rattle.std.specs.Str.{bytes_eq}
use Rattle.std.proofs.lemmas.Bool.{and_parts}
use Rattle.std.proofs.lemmas.Result.{err_from_is_err_and}
use Rattle.indexmap.specs.IndexMap.{insert_entry}
use Rattle.indexmap.proofs.CallerLemmas.{insert_entry-new}
use Rattle.sv_ast.specs.Shape.{is_shaped_map}
use Rattle.sv_ast.specs.Views.{map_tree}
use Rattle.sv_ast.specs.declared.modules.MapText.{MapText}
use Rattle.sv_lattice.specs.Maps.{MapRows}
use Rattle.sv_elab_rules.specs.Rules.{map_name}
use Rattle.sv_elab_rules.specs.LabelMaps.{maps_walk}
use Rattle.sv_width.proofs.EntryLemmas.{none_there}
use Rattle.sv_width.proofs.Breaches.{breach_by}
use Rattle.sv_elab.specs.MapParts.{own_walk}
use Rattle.sv_elab.proofs.NameLemmas.{left_more, left_none}
use Rattle.sv_elab.proofs.DeclaredLattices.{breach_on}
use Rattle.sv_elab.proofs.MapEnds.{map_there, again_broken, own_broken, own_passed, maps_none}
use Rattle.sv_elab.proofs.maps.label_maps.Goals as goal

-- the walk has come to the map at hand
here : (points : List (List ℕ)) (texts : List MapText) (maps : List (List ℕ × MapRows)) (i : ℕ)
    (text : MapText)
    → (maps_walk points maps (map map_tree (drop i texts))).end
    ≡ (maps_walk points [] (map map_tree texts)).end
    → i < length texts → text ≡ get_or texts i text
    → (maps_walk points [] (map map_tree texts)).end
    ≡ (maps_walk points maps (map_tree text ∷ map map_tree (drop (i + 1) texts))).end
here points texts maps i text walked within is =
    sym walked
    ∙ ap (λ rest. (maps_walk points maps (map map_tree rest)).end)
    (left_more texts i text within is)

pub returns-then-contains_key-clause-broken : goal.returns-then-contains_key-clause-broken
returns-then-contains_key-clause-broken c =
    let text = c.text-item.result in
    let maps = c.loop-text.maps.entries in
    breach_by c.refusal_naming.result (map_name text.place text.name) c.refusal_naming.ensures
    (maps_walk c.args.points.now.points [] (map map_tree c.args.texts.now)).end
    (here c.args.points.now.points c.args.texts.now maps c.loop-text.text-index text
    c.loop-text.invariant.walk c.loop-text-test.true c.text-item.is
    ∙ again_broken c.args.points.now.points maps (map_tree text)
    (map map_tree (drop (c.loop-text.text-index + 1) c.args.texts.now))
    (map_there maps text.name ∙ sym c.if-contains_key.ensures))

pub returns-in_err-map-clause-broken : goal.returns-in_err-map-clause-broken
returns-in_err-map-clause-broken c =
    let points = c.args.points.now.points in
    let texts = c.args.texts.now in
    let i = c.loop-text.text-index in
    let text = c.text-item.result in
    let maps = c.loop-text.maps.entries in
    let p = err_from_is_err_and c.from_residual.result c.from_residual.ensures.1 in
    rw (p.1, p.2)
    (breach_on c.in_err-map.field-0.0 (own_walk points (map_tree text)).end
    (maps_walk points [] (map map_tree texts)).end
    (λ s e. here points texts maps i text c.loop-text.invariant.walk c.loop-text-test.true
    c.text-item.is
    ∙ own_broken points maps (map_tree text) (map map_tree (drop (i + 1) texts))
    (map_there maps text.name ∙ sym c.if-contains_key.ensures) s e)
    c.in_err-map.ensures.broken)

pub loop-text-preserved : goal.loop-text-preserved
loop-text-preserved c =
    let points = c.args.points.now.points in
    let texts = c.args.texts.now in
    let i = c.loop-text.text-index in
    let text = c.text-item.result in
    let maps = c.loop-text.maps.entries in
    let split = left_more texts i text c.loop-text-test.true c.text-item.is in
    let absent = map_there maps text.name ∙ sym c.if-contains_key.ensures in
    let none = none_there _ (sym c.if-contains_key.ensures) in
    let entries = c.in_ok-insert.ensures.entries
    ∙ ap (λ n. insert_entry bytes_eq maps n c.in_ok-map.map) c.in_ok-copy.ensures
    ∙ insert_entry-new bytes_eq c.loop-text.maps text.name c.in_ok-map.map none in
    record {
      walk = ap (λ ms. (maps_walk points ms (map map_tree (drop (i + 1) texts))).end) entries
          ∙ sym (own_passed points maps (map_tree text) (map map_tree (drop (i + 1) texts)) absent
          c.in_ok-map.map c.in_ok-map.ensures.found)
          ∙ sym (here points texts maps i text c.loop-text.invariant.walk c.loop-text-test.true
          c.text-item.is);
      shaped =
          (and_parts (is_shaped_map (map_tree text))
          (list_all is_shaped_map (map map_tree (drop (i + 1) texts)))
          (ap (λ rest. list_all is_shaped_map (map map_tree rest)) (sym split)
          ∙ c.loop-text.invariant.shaped)).1;
    }

pub returns-clause-found : goal.returns-clause-found
returns-clause-found c =
    sym c.loop-text.invariant.walk
    ∙ ap (λ rest.
    (maps_walk c.args.points.now.points c.loop-text.maps.entries (map map_tree rest)).end)
    (left_none c.args.texts.now c.loop-text.text-index c.loop-text-test.false)
    ∙ maps_none c.args.points.now.points c.loop-text.maps.entries
