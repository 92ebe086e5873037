use Rattle.std.proofs.Common.{◌≡◌, ◌+◌, ◌<◌, ◌≤◌, length, get_or, List, [], ◌∷◌, ◌++◌, drop, map}
use Rattle.std.proofs.Common.{refl, sym, ap, ◌∙◌, subst}
use Rattle.std.specs.Prelude.{Option}
use Rattle.sv_lattice.specs.declared.points.Point.{Point}
use Rattle.sv_ast.specs.Views.{map_tree, row_tree}
use Rattle.sv_elab_rules.specs.Rules.{map_row}
use Rattle.sv_elab_rules.specs.LabelMaps.{rows_walk}
use Rattle.sv_width.proofs.Breaches.{breach_by}
use Rattle.sv_elab.specs.MapParts.{bits_in, IsRow, IsWrongRow}
use Rattle.sv_elab.proofs.NameLemmas.{left_more, left_none}
use Rattle.sv_elab.proofs.MapLemmas.{row_wrong, row_right, row_free, table_more, rows_none}
use Rattle.sv_elab.proofs.maps.filled.Goals as goal

pub returns-in-None-clause-broken : goal.returns-in-None-clause-broken
returns-in-None-clause-broken c =
    let t = map_tree c.args.text.now in
    let points = c.args.points.now.points in
    let first = c.args.ranges.first in
    let second = c.args.ranges.second in
    let items = c.args.text.now.rows.items in
    let i = c.loop-row.row-index in
    let row = c.row-item.result in
    let rows = c.loop-row.invariant.0 in
    let listed = c.deref-row-items.ensures.value in
    let split = left_more items i row (subst (λ xs. i < length xs) listed c.loop-row-test.true)
    (subst (λ xs. row ≡ get_or xs i row) listed c.row-item.is) in
    breach_by c.refusal_naming.result (map_row t.place t.name) c.refusal_naming.ensures
    (rows_walk points t first second [] t.rows).end
    (sym c.loop-row.invariant.2
    ∙ ap (λ rest. (rows_walk points t first second rows (map row_tree rest)).end) split
    ∙ row_wrong points t first second (bits_in first second) rows c.loop-row.table.items
    c.loop-row.invariant.1 (row_tree row) (map row_tree (drop (i + 1) items))
    (subst (λ (table : List (Option Point)).
    IsWrongRow points first second table (row_tree row)) c.deref.ensures.value
    c.in-None.ensures))

pub loop-row-preserved : goal.loop-row-preserved
loop-row-preserved c =
    let t = map_tree c.args.text.now in
    let points = c.args.points.now.points in
    let first = c.args.ranges.first in
    let second = c.args.ranges.second in
    let items = c.args.text.now.rows.items in
    let i = c.loop-row.row-index in
    let row = c.row-item.result in
    let rows = c.loop-row.invariant.0 in
    let table = c.loop-row.table.items in
    let listed = c.deref-row-items.ensures.value in
    let split = left_more items i row (subst (λ xs. i < length xs) listed c.loop-row-test.true)
    (subst (λ xs. row ≡ get_or xs i row) listed c.row-item.is) in
    let right = subst (λ (table : List (Option Point)).
    IsRow points first second table (row_tree row) c.in-Some.value c.in-Some.point)
    c.deref.ensures.value
    (rw (c.in-Some.value-is, c.in-Some.point-is) c.in-Some.ensures) in
    let free = row_free points t first second (bits_in first second) rows table
    c.loop-row.invariant.1 (row_tree row) (map row_tree (drop (i + 1) items))
    c.in-Some.value c.in-Some.point refl right in (
      rows ++ (c.in-Some.value, c.in-Some.point.0) ∷ [],
      table_more (bits_in first second) rows table c.in-Some.value c.in-Some.point
          c.loop-row.invariant.1 free.0 free.1,
      sym (row_right points t first second (bits_in first second) rows table c.loop-row.invariant.1
          (row_tree row) (map row_tree (drop (i + 1) items))
          c.in-Some.value c.in-Some.point refl right)
          ∙ ap (λ rest. (rows_walk points t first second rows (map row_tree rest)).end) (sym split)
          ∙ c.loop-row.invariant.2,
    )

pub returns-clause-found : goal.returns-clause-found
returns-clause-found c =
    let t = map_tree c.args.text.now in
    let points = c.args.points.now.points in
    let first = c.args.ranges.first in
    let second = c.args.ranges.second in
    let items = c.args.text.now.rows.items in
    let rows = c.loop-row.invariant.0 in (
      rows,
      sym c.loop-row.invariant.2
          ∙ ap (λ rest. (rows_walk points t first second rows (map row_tree rest)).end)
          (left_none items c.loop-row.row-index
          (subst (λ xs. length xs ≤ c.loop-row.row-index) c.deref-row-items.ensures.value
          c.loop-row-test.false))
          ∙ rows_none points t first second rows,
      c.loop-row.invariant.1,
    )
