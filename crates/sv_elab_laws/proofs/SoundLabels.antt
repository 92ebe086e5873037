-- The points, maps, signals and labels of the flat design of a text are sound.
use Rattle.std.proofs.Common.{◌≡◌, ℕ, ◌+◌, ◌^◌, ◌<◌, Bool, true, List, [], ◌∷◌, ◌++◌, map, length}
use Rattle.std.proofs.Common.{Option, Some, None, refl, sym, ap, subst, ◌∙◌, arith, ◌⊎◌, inl, inr}
use Rattle.std.proofs.Common.{⊎_elim}
use Rattle.std.specs.Prelude.{◌==◌, ◌&&◌, nat_lt, nat_le, find, position, unwrap_or, option_map}
use Rattle.std.specs.Prelude.{is_some, Contains, Ok}
use Rattle.std.specs.List.{list_all, AllZip}
use Rattle.std.specs.Str.{bytes_eq}
use Rattle.std.proofs.lemmas.Bool.{and_from, false≢true, eqb-true, eq-eqb, lt-ltb, le-leb, or_cases}
use Rattle.std.proofs.lemmas.List.{length-map}
use Rattle.sv_num.specs.declared.faults.Place.{Place}
use Rattle.sv_system.proofs.Lists.{Contains-head, Contains-later, Contains-from_map}
use Rattle.sv_lattice.specs.declared.labels.Label.{Label}
use Rattle.sv_lattice.specs.Labels.{map_of}
use Rattle.sv_lattice.specs.Maps.{MapRows}
use Rattle.sv_ast.specs.Scopes.{width_of}
use Rattle.sv_ast.specs.Tree.{LabelTree, point_label, table_label, MapTree, TextTree}
use Rattle.sv_ast.specs.Instances.{is_signal}
use Rattle.sv_ast.specs.SourceLabels.{least, points, pairs}
use Rattle.sv_ast.specs.Parts.{Part, parts, PartSignal, declarations}
use Rattle.sv_flat.specs.Design.{SignalForm, FlatDesign}
use Rattle.sv_flat.specs.Soundness.{is_point, is_one_to, selector_fits}
use Rattle.sv_flat.specs.Soundness.{second_fits as flat_second_fits, label_sound, signal_sound}
use Rattle.sv_flat.specs.Soundness.{map_sound}
use Rattle.sv_flat.proofs.Depths.{from_all}
use Rattle.sv_elab_rules.specs.Walks.{ask, found}
use Rattle.sv_elab_rules.specs.Rules.{bad_label, map_row}
use Rattle.sv_elab_rules.specs.Names.{Names}
use Rattle.sv_elab_rules.specs.Lattices.{point_number}
use Rattle.sv_elab_rules.specs.CaseChains.{numbers_below}
use Rattle.sv_elab_rules.specs.LabelMaps.{point_at, default_walk, has_all_rows}
use Rattle.sv_elab_rules.specs.LabelSteps.{SharedTables, second_selector, same_number, second_fits}
use Rattle.sv_elab_rules.specs.LabelSteps.{second_number, label_walk}
use Rattle.sv_elab_rules.proofs.WalkLemmas.{parts_done, asked_true, found_some}
use Rattle.sv_elab_laws.proofs.PartsLists.{zip_right, contains_get, get_below}
use Rattle.sv_elab_laws.proofs.PartsDeclared.{same_ok}
use Rattle.sv_elab_laws.proofs.PartsNamed.{IsNamed, found_place}
use Rattle.sv_elab_laws.proofs.PartsGrown.{LabelFound, IsForm, signal_is}
use Rattle.sv_elab_laws.proofs.PartsTexts.{MadeBeside, sources_of}
use Rattle.sv_elab_laws.proofs.FormsBeside.{names_listed}
use Rattle.sv_elab_laws.proofs.JoinedLattice.{IsPointNumber, IsOrderFrom, order_of, exact_table}
use Rattle.sv_elab_laws.proofs.JoinedLattice.{number_in, position_found}
use Rattle.sv_elab_laws.proofs.JoinedLeast.{least_number}
use Rattle.sv_elab_laws.proofs.JoinedMaps.{IsRowOf, IsMapOf, maps_done}

pub all_from : {X : Type 0} (test : X → Bool) (xs : List X)
    → ((x : X) → Contains xs x → test x ≡ true)
    → list_all test xs ≡ true
all_from test [] each = refl
all_from test (x ∷ xs) each =
    and_from (test x) (list_all test xs) (each x (Contains-head x xs))
    (all_from test xs (λ y at. each y (Contains-later x xs y at)))

default_point : (points : List (List ℕ)) (t : MapTree) (o : Option (List ℕ)) (other : Option ℕ)
    → (default_walk points t o).end ≡ Ok other
    → (other ≡ None) ⊎ ((n : List ℕ) × (k : ℕ) × (other ≡ Some k) × IsPointNumber points n k)
unfolding default_walk
default_point points t None other h = inl (sym (same_ok None other h))
default_point points t (Some n) other h =
    let point = parts_done (found (point_number points n) (map_row t.place t.name)) _ other h in
    inr (
      n,
      point.0,
      sym (same_ok (Some point.0) other point.2),
      found_some (point_number points n)
          (map_row t.place t.name) point.0 point.1,
    )

-- each row of a map is a point
module _ (points : List (List ℕ)) (t : MapTree) (m : List ℕ
    × MapRows) (is : IsMapOf points t m) where
  abbrev bits : ℕ
  bits = m.1.first + unwrap_or m.1.second 0

  abbrev pub row_number : ℕ → ℕ
  row_number key = unwrap_or (point_at is.rows key) (unwrap_or is.other 0)

  abbrev IsSomePoint : ℕ → Type 0
  IsSomePoint k = (n : List ℕ) × IsPointNumber points n k

  pub row_known : (key : ℕ) → Contains (numbers_below (2 ^ bits)) key →
      (n : List ℕ) × IsPointNumber points n (row_number key)
  row_known key at = by_find (find (λ (row : ℕ × ℕ). row.0 == key) is.rows) refl
    where
      by_find : (o : Option (ℕ × ℕ)) → find (λ (row : ℕ × ℕ). row.0 == key) is.rows ≡ o
          → IsSomePoint (unwrap_or (option_map (λ (row : ℕ × ℕ). row.1) o) (unwrap_or is.other 0))
      by_find (Some row) e =
          let place = found_place (λ (x : ℕ × ℕ). x.0 == key) is.rows row e in
          let r = zip_right (IsRowOf points m.1.first m.1.second) t.rows is.rows is.each_row place.0
          row place.2 in
          (r.0.to, r.2.point)
      by_find None e = ⊎_elim
          (λ none.
          let all = ⊎_elim (λ some.
          absurd (false≢true (sym (ap is_some none) ∙ some))) (λ rows. rows)
          (or_cases (is_some is.other) (has_all_rows bits is.rows) is.whole) in
          let has = from_all (λ value. is_some (point_at is.rows value)) (numbers_below (2 ^ bits))
          key all at in
          absurd (false≢true (ap (λ o. is_some (option_map (λ (x : ℕ × ℕ). x.1) o)) (sym e) ∙ has)))
          (λ some. subst (λ o. IsSomePoint (unwrap_or o 0)) (sym some.2) (some.0, some.3))
          (default_point points t t.other is.other is.other_walked)

module _ (text : TextTree) (top : Option (List ℕ)) (design : FlatDesign)
    (side : MadeBeside text top design) where
  abbrev sources : List PartSignal
  sources = sources_of text top

  abbrev ordered : List (List ℕ)
  ordered = side.order.points

  ordered_from : IsOrderFrom (points text) (pairs text) side.order
  ordered_from = order_of text side.order side.lattice

  size : length design.lattice ≡ length ordered
  size = ap length side.table ∙ (exact_table text side.order ordered_from).size

  -- each point has a name
  pub points_sound : (length design.points == length design.lattice) ≡ true
  points_sound =
      eq-eqb (length design.points) (length design.lattice) (ap length side.points ∙ sym size)

  point_there : (n : List ℕ) (k : ℕ) → IsPointNumber ordered n k →
      is_point design (record { 0 = k }) ≡ true
  point_there n k h =
      lt-ltb k (length design.lattice) (subst (λ s. k < s) (sym size) (number_in ordered n k h))

  -- ---- maps

  all_maps : (new : List (List ℕ × MapRows)) × (side.maps ≡ [] ++ new)
      × AllZip (IsMapOf ordered) text.maps new
  all_maps = maps_done ordered text.maps [] side.maps side.maps_walked

  maps_beside : AllZip (IsMapOf ordered) text.maps side.maps
  maps_beside = subst (AllZip (IsMapOf ordered) text.maps) (sym all_maps.1) all_maps.2

  maps_are : design.maps ≡ map (λ (m : List ℕ × MapRows). m.1) side.maps
  maps_are = side.design_maps ∙ ap (λ (t : SharedTables). t.maps) side.tables_are

  rows_sound : (t : MapTree) (m : List ℕ × MapRows) → IsMapOf ordered t m →
      map_sound design m.1 ≡ true
  rows_sound t m is =
      all_from (is_point design) m.1.rows (λ p at.
      let from = Contains-from_map (λ value. record { 0 = row_number ordered t m is value })
      (numbers_below (2 ^ (m.1.first + unwrap_or m.1.second 0))) p
      (subst (λ ps. Contains ps p) is.all at) in
      let known = row_known ordered t m is from.0 from.1 in
      subst (λ q. is_point design q ≡ true) from.2
      (point_there known.0 (row_number ordered t m is from.0) known.1))

  pub maps_sound : list_all (map_sound design) design.maps ≡ true
  maps_sound = all_from (map_sound design) design.maps (λ m at.
      let from = Contains-from_map (λ (x : List ℕ × MapRows).
      x.1) side.maps m (subst (λ ms. Contains ms m) maps_are at) in
      let place = contains_get side.maps from.0 from.1 in
      let t = zip_right (IsMapOf ordered) text.maps side.maps maps_beside place.0 from.0 place.1 in
      subst (λ z. map_sound design z ≡ true) from.2 (rows_sound t.0 from.0 t.2))

  map_there : (n : List ℕ) (k : ℕ) → position (bytes_eq n) side.tables.map_names ≡ Some k →
      nat_lt k (length design.maps) ≡ true
  map_there n k h =
      let x = position_found (bytes_eq n) side.tables.map_names k h in
      let below = get_below side.tables.map_names k x.0 x.1 in
      let named : length side.tables.map_names ≡ length side.maps =
      ap (λ (t : SharedTables). length t.map_names) side.tables_are
      ∙ length-map side.maps (λ (m : List ℕ × MapRows). m.0) in
      let all : length design.maps ≡ length side.maps =
      ap length maps_are ∙ length-map side.maps (λ (m : List ℕ × MapRows). m.1) in
      lt-ltb k (length design.maps) (omega arith)

  -- ---- labels

  module _ (p : Part) (names : Names) (named : IsNamed sources (parts text top) p names) where
    selector_sound : (n : List ℕ) (width : ℕ) → is_signal (names.scope n) ≡ true
        → (width_of (names.scope n) == width) ≡ true
        → selector_fits design.signals (names.number n) width ≡ true
    selector_sound n width is same =
        let b = signal_is side.tables sources (parts text top) (names.scope n) is in
        let there = names_listed side.tables sources (parts text top) design.signals side.forms p
        names named n b.0 b.1 b.2 in
        and_from _ _ there.0
        (eq-eqb _ width (there.1 ∙ sym (ap width_of b.2)
        ∙ eqb-true (width_of (names.scope n)) width same))

    second_sound : (q : Place) (second : Option (List ℕ)) (width : Option ℕ)
        → (second_selector names q second).end ≡ Ok tt
        → same_number width second ≡ true → (second_fits names q second width).end ≡ Ok tt
        → flat_second_fits design.signals (second_number names second) width ≡ true
    unfolding second_selector second_fits
    second_sound q None None is ranges fits = refl
    second_sound q None (Some w) is ranges fits = absurd (false≢true ranges)
    second_sound q (Some n) None is ranges fits = absurd (false≢true ranges)
    second_sound q (Some n) (Some w) is ranges fits =
        selector_sound n w (asked_true (is_signal (names.scope n)) (bad_label q n) is)
        (asked_true (width_of (names.scope n) == w) (bad_label q n) fits)

    -- a label that the walk finds is sound
    pub found_sound : (t : LabelTree) (l : Label) → (label_walk side.tables names t).end ≡ Ok l →
        label_sound design l ≡ true
    unfolding label_walk
    found_sound (point_label n q) l h =
        let point = parts_done (found (point_number side.tables.points n) (bad_label q n)) _ l h in
        let is = found_some (point_number side.tables.points n) (bad_label q n) point.0 point.1 in
        subst (λ z. label_sound design z ≡ true) (same_ok _ l point.2)
        (point_there n point.0
        (subst (λ ps. point_number ps n ≡ Some point.0)
        (ap (λ (t : SharedTables). t.points) side.tables_are) is))
    found_sound (table_label n first second q) l h =
        let named_map = parts_done
        (found (position (bytes_eq n) side.tables.map_names) (bad_label q n)) _ l h in
        let k = named_map.0 in
        let rows = map_of side.tables.maps k in
        let one = parts_done (ask (is_signal (names.scope first)) (bad_label q first)) _ l
        named_map.2 in
        let two = parts_done (second_selector names q second) _ l one.2 in
        let number = parts_done (ask (same_number rows.second second) (bad_label q n)) _ l two.2 in
        let width = parts_done
        (ask (width_of (names.scope first) == rows.first) (bad_label q first)) _ l number.2 in
        let other = parts_done (second_fits names q second rows.second) _ l width.2 in
        subst (λ z. label_sound design z ≡ true) (same_ok _ l other.2)
        (subst (λ ms. (nat_lt k (length design.maps)
        && selector_fits design.signals (names.number first) (map_of ms k).first
        && flat_second_fits design.signals (second_number names second) (map_of ms k).second) ≡
        true) (sym side.design_maps)
        (and_from _ _ (and_from _ _
        (map_there n k (found_some (position (bytes_eq n) side.tables.map_names) (bad_label q n) k
        named_map.1))
        (selector_sound first rows.first
        (asked_true (is_signal (names.scope first)) (bad_label q first) one.1)
        (asked_true (width_of (names.scope first) == rows.first) (bad_label q first) width.1)))
        (second_sound q second rows.second two.1
        (asked_true (same_number rows.second second) (bad_label q n) number.1) other.1)))

    pub given_sound : (o : Option LabelTree) (l : Label)
        → LabelFound side.tables sources (parts text top) names o l
        → label_sound design l ≡ true
    given_sound None l is =
        subst (λ z. label_sound design z ≡ true) (sym is)
        (point_there (least text) side.tables.least
        (subst (IsPointNumber ordered (least text))
        (sym (ap (λ (t : SharedTables). t.least) side.tables_are))
        (least_number text side.order ordered_from side.lattice)))
    given_sound (Some t) l h = found_sound t l h

  -- ---- signals

  form_sound : (s : PartSignal) (t : SignalForm) → IsForm side.tables sources (parts text top) s t →
      signal_sound design t ≡ true
  form_sound s t form =
      let d = s.declaration in
      let place = contains_get (declarations s.part.definition) d form.listed in
      let b = signal_is side.tables sources (parts text top) (form.names.scope d.name)
      (form.named.known place.0 d place.1).0 in
      let long = form.named.widths d.name b.0 b.1 b.2 in
      let width : t.width ≡ b.0 =
      form.width ∙ ap (λ s. width_of (s d.name)) (sym form.named.scope) ∙ ap width_of b.2 in
      and_from (is_one_to 64 t.width) (label_sound design t.label)
      (subst (λ w. is_one_to 64 w ≡ true) (sym width)
      (and_from (nat_le 1 b.0) (nat_le b.0 64) (le-leb 1 b.0 long.0) (le-leb b.0 64 long.1)))
      (given_sound s.part form.names form.named d.label t.label form.found)

  -- each signal has 1 to 64 bits and a label that is there
  pub signals_sound : list_all (signal_sound design) design.signals ≡ true
  signals_sound = all_from (signal_sound design) design.signals (λ t at.
      let place = contains_get design.signals t at in
      let s = zip_right (IsForm side.tables sources (parts text top)) sources design.signals
      side.forms place.0 t place.1 in
      form_sound s.0 t s.2)
