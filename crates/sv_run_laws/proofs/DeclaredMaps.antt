-- Each table of a flat design is that of a label map of the text.
use Rattle.std.proofs.Common.{◌≡◌, ℕ, ◌+◌, ◌^◌, ◌<◌, List, [], ◌∷◌, map, Option, Some, None}
use Rattle.std.proofs.Common.{sym, ap, subst, ◌∙◌, arith}
use Rattle.std.specs.Prelude.{unwrap_or, option_map}
use Rattle.std.specs.Prelude.{IsTrue}
use Rattle.std.specs.List.{slice_get, AllZip}
use Rattle.sv_num.proofs.BitsLemmas.{joined_low}
use Rattle.sv_lattice.specs.Maps.{MapRows, row_of, pair_value}
use Rattle.sv_ast.specs.Tree.{SpanTree, MapTree, TextTree}
use Rattle.sv_ast.specs.Processes.{Process}
use Rattle.sv_ast.specs.Shape.{is_shaped}
use Rattle.sv_ast.specs.SourceLabels.{points, row_at}
use Rattle.sv_flat.specs.Design.{FlatDesign}
use Rattle.sv_elab_rules.specs.LabelSteps.{SharedTables}
use Rattle.sv_elab_rules.specs.Texts.{flat_of}
use Rattle.sv_elab_laws.specs.FlattenedTexts.{ItemNumbersFit, EachItem}
use Rattle.sv_elab_laws.proofs.PartsShapes.{all_flattened}
use Rattle.sv_elab_laws.proofs.PartsTexts.{Beside, made_beside}
use Rattle.sv_elab_laws.proofs.JoinedLattice.{IsPointNumber, order_of, number_at, one_point}
use Rattle.sv_elab_laws.proofs.JoinedMaps.{IsMapOf, maps_done, SecondFits, selected_value, same_row}
use Rattle.sv_run_laws.specs.LabelRows.{selector_width, IsTableOf}

-- ---- rows

-- what has a point's number whatever else is given is a point
is_point_at : (ps : List (List ℕ)) (o : Option (List ℕ)) (k : ℕ)
    → ((other : List ℕ) → IsPointNumber ps (unwrap_or o other) k) → o ≡ slice_get ps k
is_point_at ps (Some n) k h = sym (number_at ps n k (h []))
is_point_at ps None k h =
    absurd (let same : [] ≡ 0 ∷ [] = one_point ps [] (0 ∷ []) k (h []) (h (0 ∷ [])) in cc same)

module _ (text : TextTree) (t : MapTree) (m : List ℕ × MapRows)
    (is : IsMapOf (points text) t m) where
  second_is : m.1.second ≡ option_map selector_width t.second
  second_is = is.second_is

  one_row : (v : ℕ) → t.second ≡ None → v < 2 ^ m.1.first
      → row_at t v None ≡ slice_get (points text) (row_of m.1 v).0
  one_row v alone below =
      let none : m.1.second ≡ None = second_is ∙ ap (option_map selector_width) alone in
      is_point_at (points text) (row_at t v None) (row_of m.1 v).0
      (same_row (points text) t m is v None (subst (λ o. SecondFits o None) (sym none) tt)
      (subst (λ o. v < 2 ^ (m.1.first + unwrap_or o 0)) (sym none)
      (let e : m.1.first ≡ m.1.first + 0 = omega arith in subst (λ b. v < 2 ^ b) e below)))

  two_rows : (v w : ℕ) (span : SpanTree) → t.second ≡ Some span → v < 2 ^ m.1.first
      → w < 2 ^ selector_width span
      → row_at t v (Some w) ≡ slice_get (points text) (row_of m.1 (pair_value m.1 v w)).0
  two_rows v w span has low other_low =
      let some : m.1.second ≡ Some (selector_width span) =
      second_is ∙ ap (option_map selector_width) has in
      is_point_at (points text) (row_at t v (Some w)) (row_of m.1 (pair_value m.1 v w)).0
      (same_row (points text) t m is v (Some w)
      (subst (λ o. SecondFits o (Some w)) (sym some) other_low)
      (subst (λ o. selected_value o v (Some w) < 2 ^ (m.1.first + unwrap_or o 0)) (sym some)
      (joined_low v w m.1.first (selector_width span) low other_low)))

  is_table : IsTableOf text t m.1
  is_table = record {
    first = is.first_is;
    second = second_is;
    row = one_row;
    row_of_two = two_rows;
  }

zip_tables : (text : TextTree) (ts : List MapTree) (ms : List (List ℕ × MapRows))
    → AllZip (IsMapOf (points text)) ts ms
    → AllZip (IsTableOf text) ts (map (λ (m : List ℕ × MapRows). m.1) ms)
zip_tables text [] [] h = tt
zip_tables text [] (m ∷ ms) h = absurd h
zip_tables text (t ∷ ts) [] h = absurd h
zip_tables text (t ∷ ts) (m ∷ ms) h = (is_table text t m h.0, zip_tables text ts ms h.1)

module _ (text : TextTree) (top : Option (List ℕ)) (design : FlatDesign)
    {qs : List Process} (side : Beside text top qs design) where
  tables_beside : AllZip (IsTableOf text) text.maps design.maps
  tables_beside =
      let order_is = order_of text side.order side.lattice in
      let maps = maps_done side.order.points text.maps [] side.maps side.maps_walked in
      let maps_are : design.maps ≡ map (λ (m : List ℕ × MapRows). m.1) side.maps =
      side.design_maps ∙ ap (λ (t : SharedTables). t.maps) side.tables_are in
      subst (AllZip (IsTableOf text) text.maps) (sym maps_are)
      (zip_tables text text.maps side.maps
      (subst (λ ps. AllZip (IsMapOf ps) text.maps side.maps) (sym order_is.points_are)
      (subst (AllZip (IsMapOf side.order.points) text.maps) (sym maps.1) maps.2)))

pub all_tables : (text : TextTree) (top : Option (List ℕ)) (design : FlatDesign)
    → IsTrue (is_shaped text) → EachItem ItemNumbersFit text → flat_of text top ≡ Some design
    → AllZip (IsTableOf text) text.maps design.maps
all_tables text top design shaped numbers flat =
    tables_beside text top design
    (made_beside text top (all_flattened text shaped numbers) design flat)
