-- What the walk asks of the label maps of a text makes them maps.
use Rattle.std.proofs.Common.{◌≡◌, ℕ, ◌+◌, ◌^◌, ◌≤◌, List, [], ◌∷◌, ◌++◌, length, Option}
use Rattle.std.proofs.Common.{Some, None, subst, arith}
use Rattle.std.specs.Prelude.{not, ◌&&◌, ◌||◌, nat_le, unwrap_or, option_map, is_some, All, Ok}
use Rattle.std.proofs.lemmas.Bool.{and_parts, leb-true}
use Rattle.std.proofs.lemmas.List.Elements.{All-push}
use Rattle.std.proofs.lemmas.List.FromFn.{length-map-range_with_len}
use Rattle.sv_lattice.specs.declared.points.Point.{Point}
use Rattle.sv_lattice.specs.Maps.{MapRows, IsMap}
use Rattle.sv_ast.specs.Instances.{span_width}
use Rattle.sv_ast.specs.Tree.{SpanTree, MapTree}
use Rattle.sv_elab_rules.specs.Walks.{ask}
use Rattle.sv_elab_rules.specs.Rules.{map_name, map_row, map_hole}
use Rattle.sv_elab_rules.specs.LabelMaps.{no_names, is_map_range, is_second_range, point_at, rows_walk}
use Rattle.sv_elab_rules.specs.LabelMaps.{default_walk, all_rows, has_all_rows, is_map, map_walk}
use Rattle.sv_elab_rules.specs.LabelMaps.{maps_walk}
use Rattle.sv_elab_rules.proofs.WalkLemmas.{parts_done, asked_true}
use Rattle.sv_elab_laws.proofs.PartsDeclared.{same_ok}

abbrev pub AreRows : MapRows → Type 0
AreRows m = IsMap m.first m.second m.rows

abbrev pub width : SpanTree → ℕ
width span = span_width no_names (Some span)

-- a range has at least 1 bit
in_range : (first : SpanTree) (second : Option SpanTree) (rows : List Point)
    → width first + unwrap_or (option_map width second) 0 ≤ 8
    → length rows ≡ 2 ^ (width first + unwrap_or (option_map width second) 0)
    → IsMap (width first) (option_map width second) rows
in_range first None rows few size =
    let none : width first + 0 ≡ width first = omega arith in
    (omega arith, omega arith, subst (λ n. length rows ≡ 2 ^ n) none size)
in_range first (Some second) rows few size = (omega arith, omega arith, few, size)

walked_map : (points : List (List ℕ)) (earlier : List (List ℕ × MapRows)) (t : MapTree)
    (m : MapRows)
    → (map_walk points earlier t).end ≡ Ok m
    → AreRows m
unfolding map_walk
walked_map points earlier t m h =
    let second = option_map width t.second in
    let bits = width t.span + unwrap_or second 0 in
    let ranges = is_map_range t.span && is_second_range t.second in
    let fresh = parts_done (ask (not (is_map earlier t.name)) (map_name t.place t.name)) _ m h in
    let range = parts_done (ask (ranges && nat_le bits 8) (map_row t.place t.name)) _ m fresh.2 in
    let rows = parts_done (rows_walk points t (width t.span) second [] t.rows) _ m range.2 in
    let other = parts_done (default_walk points t t.other) _ m rows.2 in
    let whole = parts_done
    (ask (is_some other.0 || has_all_rows bits rows.0) (map_hole t.place t.name)) _ m other.2 in
    let few = (and_parts ranges (nat_le bits 8)
    (asked_true (ranges && nat_le bits 8) (map_row t.place t.name) range.1)).1 in
    let all = all_rows bits rows.0 other.0 in
    subst AreRows (same_ok (record { first = width t.span; second = second; rows = all }) m whole.2)
    (in_range t.span t.second all (leb-true bits 8 few)
    (length-map-range_with_len (λ value.
    record { 0 = unwrap_or (point_at rows.0 value) (unwrap_or other.0 0) }) 0 (2 ^ bits)))

pub walked_maps : (points : List (List ℕ)) (ts : List MapTree) (earlier all : List (List ℕ
    × MapRows))
    → (maps_walk points earlier ts).end ≡ Ok all
    → All (λ (m : List ℕ × MapRows). AreRows m.1) earlier
    → All (λ (m : List ℕ × MapRows). AreRows m.1) all
unfolding maps_walk
walked_maps points [] earlier all h so_far =
    subst (All (λ (m : List ℕ × MapRows). AreRows m.1)) (same_ok earlier all h) so_far
walked_maps points (t ∷ ts) earlier all h so_far =
    let first = parts_done (map_walk points earlier t) (λ rows.
    maps_walk points (earlier ++ (t.name, rows) ∷ []) ts) all h in
    walked_maps points ts (earlier ++ (t.name, first.0) ∷ []) all first.2
    (All-push (λ (m : List ℕ × MapRows). AreRows m.1) earlier (t.name, first.0) so_far
    (walked_map points earlier t first.0 first.1))
