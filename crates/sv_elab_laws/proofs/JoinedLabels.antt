-- Each signal has the same label by number as by path, where the least points are the same.
use Rattle.std.proofs.Common.{◌≡◌, ℕ, ◌+◌, ◌^◌, ◌<◌, Bool, true, false, cond}
use Rattle.std.proofs.Common.{List, [], ◌∷◌, ◌++◌, map, length, Option, Some, None, refl, sym, ap}
use Rattle.std.proofs.Common.{subst, ◌∙◌, arith}
use Rattle.std.specs.Prelude.{not, ◌==◌, nat_lt, position, unwrap_or}
use Rattle.std.specs.Prelude.{option_and_then, Contains, Ok, IsTrue}
use Rattle.std.specs.List.{slice_get, list_any, AllZip, position_or_len}
use Rattle.std.specs.Str.{bytes_eq}
use Rattle.std.proofs.lemmas.Bool.{false≢true, both_ways, or_left, or_right, eqb-true}
use Rattle.std.proofs.lemmas.Bool.{eq-eqb, false_from_ne_true}
use Rattle.std.proofs.lemmas.List.Folds.{find_at}
use Rattle.sv_num.specs.declared.faults.Place.{Place}
use Rattle.sv_num.proofs.BitsLemmas.{joined_low}
use Rattle.sv_system.specs.System.{Environment}
use Rattle.sv_system.specs.Joining.{Agree}
use Rattle.sv_lattice.specs.declared.labels.Label.{Label}
use Rattle.sv_lattice.specs.declared.labels.Label.TheVariants.{Point as Declared_point, Table}
use Rattle.sv_lattice.specs.Labels.{map_of}
use Rattle.sv_lattice.specs.Maps.{MapRows, row_of, pair_value}
use Rattle.sv_ast.specs.Scopes.{width_of}
use Rattle.sv_ast.specs.Tree.{LabelTree, point_label, table_label, MapTree, TextTree}
use Rattle.sv_ast.specs.Instances.{is_signal}
use Rattle.sv_ast.specs.SourceLabels.{least, map_named, row_at, label_point}
use Rattle.sv_ast.specs.Reach.{holds}
use Rattle.sv_ast.specs.Parts.{Path, same_path, Part, within, parts, PartSignal}
use Rattle.sv_ast.specs.Processes.{values_in}
use Rattle.sv_flat.specs.Design.{SignalForm, FlatDesign}
use Rattle.sv_flat.specs.Admission.{IsAdmitted}
use Rattle.sv_flat.specs.Soundness.{sound}
use Rattle.sv_flat.specs.Values.{signal_of}
use Rattle.sv_flat.specs.Clocks.{is_clock}
use Rattle.sv_flat.specs.Clocks.{selects_by}
use Rattle.sv_flat.specs.FlatSystem.{label_in, flat_system}
use Rattle.sv_flat.proofs.LeastSets.{some_from}
use Rattle.sv_flat.proofs.SelectorFacts.{no_selector}
use Rattle.sv_elab_rules.specs.Walks.{ask, found}
use Rattle.sv_elab_rules.specs.Rules.{bad_label}
use Rattle.sv_elab_rules.specs.Names.{Names}
use Rattle.sv_elab_rules.specs.Lattices.{point_number}
use Rattle.sv_elab_rules.specs.LabelSteps.{SharedTables, second_selector, same_number, second_fits}
use Rattle.sv_elab_rules.specs.LabelSteps.{label_walk}
use Rattle.sv_elab_rules.proofs.WalkLemmas.{parts_done, asked_true, found_some}
use Rattle.sv_elab_laws.proofs.PartsLists.{zip_right, get_contains, index_is, get_map}
use Rattle.sv_elab_laws.proofs.PartsDeclared.{same_ok}
use Rattle.sv_elab_laws.proofs.PartsMaps.{from_get_map}
use Rattle.sv_elab_laws.proofs.PartsNamed.{IsNamed}
use Rattle.sv_elab_laws.proofs.PartsGrown.{LabelFound, number_of_name, signal_is}
use Rattle.sv_elab_laws.proofs.PartsTexts.{SideBySide, sources_of}
use Rattle.sv_elab_laws.proofs.JoinedClocks.{number_below, same_clock}
use Rattle.sv_elab_laws.proofs.JoinedNumbers.{At, signal_at, is_flat_signal}
use Rattle.sv_elab_laws.proofs.JoinedRuns.{source_system, path_to, unclocked_values, agree_off}
use Rattle.sv_elab_laws.proofs.JoinedRuns.{to_name, values_fit}
use Rattle.sv_elab_laws.proofs.JoinedLattice.{IsPointNumber, position_found}
use Rattle.sv_elab_laws.proofs.JoinedMaps.{IsMapOf, maps_done, same_places, SecondFits}
use Rattle.sv_elab_laws.proofs.JoinedMaps.{selected_value, same_row}
use Rattle.sv_ast.specs.TextSystem.{text_clocks}

mapped_place : {X : Type 0} (name : X → List ℕ) (test : List ℕ → Bool) (xs : List X)
    → position_or_len (λ x. test (name x)) xs ≡ position_or_len test (map name xs)
mapped_place name test [] = refl
mapped_place name test (x ∷ xs) =
    ap (λ k. cond (not (test (name x))) (1 + k) 0) (mapped_place name test xs)

place_is : (test : List ℕ → Bool) (xs : List (List ℕ)) (k : ℕ) → position test xs ≡ Some k →
    position_or_len test xs ≡ k
place_is test xs k = by_test (nat_lt (position_or_len test xs) (length xs))
  where
    by_test : (b : Bool) → cond b (Some (position_or_len test xs)) None ≡ Some k →
        position_or_len test xs ≡ k
    by_test true h = cc h
    by_test false h = absurd (cc h)

abbrev no_second : Option (List ℕ)
no_second = None

no_range : (o : Option ℕ) → same_number o no_second ≡ true → o ≡ None
no_range None h = refl
no_range (Some w) h = absurd (false≢true h)

a_range : (o : Option ℕ) (n : List ℕ) → same_number o (Some n) ≡ true → (w : ℕ) × (o ≡ Some w)
a_range (Some w) n h = (w, refl)
a_range None n h = absurd (false≢true h)

module _ (text : TextTree) (top : Option (List ℕ)) (design : FlatDesign)
    (side : SideBySide text top design)
    (is_sound : IsTrue (sound design)) (admitted : IsAdmitted design)
    (least_is : IsPointNumber side.order.points (least text) side.tables.least) where
  abbrev sources : List PartSignal
  sources = sources_of text top

  abbrev ordered : List (List ℕ)
  ordered = side.order.points

  -- ---- no clock selects a label

  selector_is_no_clock : (s : SignalForm) → Contains design.signals s → (t : ℕ) →
      selects_by t s.label ≡ true → is_clock design t ≡ false
  selector_is_no_clock s at t h = false_from_ne_true (is_clock design t) (λ clock.
      both_ways (list_any (λ (signal : SignalForm). selects_by t signal.label) design.signals)
      (no_selector design is_sound admitted t clock)
      (some_from (λ (signal : SignalForm). selects_by t signal.label) design.signals s at h))

  -- ---- maps

  all_maps : (new : List (List ℕ × MapRows)) × (side.maps ≡ [] ++ new)
      × AllZip (IsMapOf ordered) text.maps new
  all_maps = maps_done ordered text.maps [] side.maps side.maps_walked

  maps_beside : AllZip (IsMapOf ordered) text.maps side.maps
  maps_beside = subst (AllZip (IsMapOf ordered) text.maps) (sym all_maps.1) all_maps.2

  map_at : (n : List ℕ) (k : ℕ) → position (bytes_eq n) side.tables.map_names ≡ Some k
      → (t : MapTree) × (m : List ℕ × MapRows) × IsMapOf ordered t m × (map_named text n ≡ Some t)
      × (map_of design.maps k ≡ m.1)
      × (map_of side.tables.maps k ≡ m.1)
  map_at n k h =
      let names_are : side.tables.map_names ≡ map (λ (m : List ℕ × MapRows). m.0) side.maps =
      ap (λ (t : SharedTables). t.map_names) side.tables_are in
      let maps_are : side.tables.maps ≡ map (λ (m : List ℕ × MapRows). m.1) side.maps =
      ap (λ (t : SharedTables). t.maps) side.tables_are in
      let there : position (bytes_eq n) (map (λ (m : List ℕ × MapRows). m.0) side.maps) ≡ Some k =
      ap (position (bytes_eq n)) (sym names_are) ∙ h in
      let x = position_found (bytes_eq n) (map (λ (m : List ℕ × MapRows). m.0) side.maps) k there in
      let m = from_get_map (λ (z : List ℕ × MapRows). z.0) side.maps k x.0 x.1 in
      let t = zip_right (IsMapOf ordered) text.maps side.maps maps_beside k m.0 m.1 in
      let place : position_or_len (λ (z : MapTree). bytes_eq n z.name) text.maps ≡ k =
      same_places (IsMapOf ordered) (λ (z : MapTree).
      bytes_eq n z.name) (λ (z : List ℕ × MapRows).
      bytes_eq n z.0) text.maps side.maps maps_beside
      (λ a b r. ap (bytes_eq n) (sym r.name))
      ∙ mapped_place (λ (z : List ℕ × MapRows). z.0) (bytes_eq n) side.maps
      ∙ place_is (bytes_eq n) (map (λ (z : List ℕ × MapRows). z.0) side.maps) k there in
      let row_map : slice_get side.tables.maps k ≡ Some m.0.1 =
      ap (λ ms. slice_get ms k) maps_are ∙ get_map (λ (z : List ℕ × MapRows).
      z.1) side.maps k m.0 m.1 in (
        t.0,
        m.0,
        t.2,
        find_at (λ (z : MapTree). bytes_eq n z.name) text.maps
            ∙ ap (slice_get text.maps) place ∙ t.1,
        index_is design.maps k m.0.1 _ (ap (λ ms. slice_get ms k) side.design_maps ∙ row_map),
        index_is side.tables.maps k m.0.1 _ row_map,
      )

  -- ---- labels

  module _ (p : Part) (names : Names) (named : IsNamed sources (parts text top) p names)
      (e : Environment ℕ) (f : Environment Path)
      (agree : Agree (flat_system design) (source_system text top design side)
      (path_to text top design side) e f) where
    abbrev values : Environment (List ℕ)
    values = values_in p f

    -- a signal that is no clock has its value on both sides
    value_same : (n : List ℕ) → IsTrue (is_signal (names.scope n))
        → is_clock design (names.number n) ≡ false
        → (e (names.number n) ≡ values n) × (values n < 2 ^ width_of (names.scope n))
    value_same n is no_clock =
        let k = names.number n in
        let number = number_of_name side.tables sources (parts text top) p names named n is in
        let at = is_flat_signal text top design side k
        (number_below text top design side (within p n) k number) no_clock in
        let path = to_name text top design side p names named n is in
        let b = signal_is side.tables sources (parts text top) (names.scope n) is in
        let free : holds same_path (text_clocks text top) (within p n) ≡ false =
        sym (same_clock text top design side (within p n) k number) ∙ no_clock in
        let fit = values_fit text top design side p names named e f agree n b.0 b.1 b.2 in (
          agree.same k at ∙ ap f path,
          subst (λ v. v < 2 ^ width_of (names.scope n))
              (sym (agree_off text top design side f (within p n) free))
              (subst (λ o. unclocked_values text top design side f (within p n) < 2 ^ width_of o)
              (sym b.2) fit),
        )

    abbrev Numbered : Option LabelTree → Label → Type 0
    Numbered t l = IsPointNumber ordered (label_point text values t) (label_in design.maps l e).0

    points_are : side.tables.points ≡ ordered
    points_are = ap (λ (t : SharedTables). t.points) side.tables_are

    one_selector : (n first : List ℕ) (q : Place) (k : ℕ)
        → position (bytes_eq n) side.tables.map_names ≡ Some k
        → IsTrue (is_signal (names.scope first))
        → same_number (map_of side.tables.maps k).second no_second ≡ true
        → (width_of (names.scope first) == (map_of side.tables.maps k).first) ≡ true
        → is_clock design (names.number first) ≡ false
        → Numbered (Some (table_label n first None q)) (Table k (names.number first) None)
    one_selector n first q k at is ranges width no_clock =
        let m = map_at n k at in
        let v = value_same first is no_clock in
        let none : m.1.1.second ≡ None =
        ap (λ (z : MapRows). z.second) (sym m.5)
        ∙ no_range (map_of side.tables.maps k).second ranges in
        let bits : width_of (names.scope first) ≡ m.1.1.first + unwrap_or m.1.1.second 0 =
        eqb-true (width_of (names.scope first)) (map_of side.tables.maps k).first width
        ∙ ap (λ (z : MapRows). z.first) m.5
        ∙ (let x : m.1.1.first ≡ m.1.1.first + 0 = omega arith in x)
        ∙ ap (λ o. m.1.1.first + unwrap_or o 0) (sym none) in
        let row = same_row ordered m.0 m.1 m.2 (values first) None
        (subst (λ o. SecondFits o None) (sym none) tt)
        (subst (λ b. values first < 2 ^ b) bits v.1) (least text) in
        subst (λ x. IsPointNumber ordered
        (unwrap_or (option_and_then (λ t. row_at t (values first) None) x) (least text))
        (row_of (map_of design.maps k) (e (names.number first))).0) (sym m.3)
        (subst (λ z. IsPointNumber ordered (unwrap_or (row_at m.0 (values first) None) (least text))
        (row_of z (e (names.number first))).0) (sym m.4)
        (subst (λ z. IsPointNumber ordered (unwrap_or (row_at m.0 (values first) None) (least text))
        (row_of m.1.1 z).0) (sym v.0) row))

    two_selectors : (n first second : List ℕ) (q : Place) (k : ℕ)
        → position (bytes_eq n) side.tables.map_names ≡ Some k
        → IsTrue (is_signal (names.scope first)) → IsTrue (is_signal (names.scope second))
        → same_number (map_of side.tables.maps k).second (Some second) ≡ true
        → (width_of (names.scope first) == (map_of side.tables.maps k).first) ≡ true
        → ((w : ℕ) → (map_of side.tables.maps k).second ≡ Some w
        → width_of (names.scope second) ≡ w)
        → is_clock design (names.number first) ≡ false
        → is_clock design (names.number second) ≡ false
        → Numbered (Some (table_label n first (Some second) q))
        (Table k (names.number first) (Some (names.number second)))
    two_selectors n first second q k at is is_too ranges width second_width no_clock no_other =
        let m = map_at n k at in
        let v = value_same first is no_clock in
        let u = value_same second is_too no_other in
        let range = a_range (map_of side.tables.maps k).second second ranges in
        let w = range.0 in
        let some : m.1.1.second ≡ Some w = ap (λ (z : MapRows). z.second) (sym m.5) ∙ range.1 in
        let bits : width_of (names.scope first) ≡ m.1.1.first =
        eqb-true (width_of (names.scope first)) (map_of side.tables.maps k).first width
        ∙ ap (λ (z : MapRows). z.first) m.5 in
        let low : values first < 2 ^ m.1.1.first = subst (λ b. values first < 2 ^ b) bits v.1 in
        let other_low : values second < 2 ^ w =
        subst (λ b. values second < 2 ^ b) (second_width w range.1) u.1 in
        let below : selected_value m.1.1.second (values first) (Some (values second))
        < 2 ^ (m.1.1.first + unwrap_or m.1.1.second 0) =
        subst (λ o. selected_value o (values first) (Some (values second))
        < 2 ^ (m.1.1.first + unwrap_or o 0)) (sym some)
        (joined_low (values first) (values second) m.1.1.first w low other_low) in
        let row = same_row ordered m.0 m.1 m.2 (values first) (Some (values second))
        (subst (λ o. SecondFits o (Some (values second))) (sym some) other_low)
        below (least text) in
        subst (λ x. IsPointNumber ordered
        (unwrap_or (option_and_then (λ t. row_at t (values first) (Some (values second))) x)
        (least text))
        (row_of (map_of design.maps k)
        (pair_value (map_of design.maps k) (e (names.number first))
        (e (names.number second)))).0) (sym m.3)
        (subst (λ z. IsPointNumber ordered
        (unwrap_or (row_at m.0 (values first) (Some (values second))) (least text))
        (row_of z (pair_value z (e (names.number first)) (e (names.number second)))).0) (sym m.4)
        (subst (λ z. IsPointNumber ordered
        (unwrap_or (row_at m.0 (values first) (Some (values second))) (least text))
        (row_of m.1.1 (pair_value m.1.1 z (e (names.number second)))).0) (sym v.0)
        (subst (λ z. IsPointNumber ordered
        (unwrap_or (row_at m.0 (values first) (Some (values second))) (least text))
        (row_of m.1.1 (pair_value m.1.1 (values first) z)).0) (sym u.0) row)))

    second_width_is : (q : Place) (second : List ℕ) (o : Option ℕ)
        → (second_fits names q (Some second) o).end ≡ Ok tt → (w : ℕ) → o ≡ Some w
        → width_of (names.scope second) ≡ w
    unfolding second_fits
    second_width_is q second None h w e = absurd (cc e)
    second_width_is q second (Some v) h w e =
        eqb-true (width_of (names.scope second)) v
        (asked_true (width_of (names.scope second) == v) (bad_label q second) h)
        ∙ (let s : v ≡ w = cc e in s)

    label_numbered : (t : Option LabelTree) (l : Label)
        → LabelFound side.tables sources (parts text top) names t l
        → ((s : ℕ) → selects_by s l ≡ true → is_clock design s ≡ false) → Numbered t l
    unfolding label_walk second_selector
    label_numbered None l h free = subst (Numbered None) (sym h) least_is
    label_numbered (Some (point_label n q)) l h free =
        let point = parts_done (found (point_number side.tables.points n) (bad_label q n)) _ l h in
        subst (Numbered (Some (point_label n q)))
        (same_ok (Declared_point (record { 0 = point.0 })) l point.2)
        (ap (λ ps. point_number ps n) (sym points_are)
        ∙ found_some (point_number side.tables.points n) (bad_label q n) point.0 point.1)
    label_numbered (Some (table_label n first None q)) l h free =
        let place = parts_done (found (position (bytes_eq n) side.tables.map_names) (bad_label q n))
        _ l h in
        let k = place.0 in
        let is = parts_done (ask (is_signal (names.scope first)) (bad_label q first)) _ l place.2 in
        let ranges = parts_done
        (ask (same_number (map_of side.tables.maps k).second no_second) (bad_label q n)) _
        l is.2 in
        let width = parts_done
        (ask (width_of (names.scope first) == (map_of side.tables.maps k).first)
        (bad_label q first)) _ l ranges.2 in
        let fits = parts_done (second_fits names q None (map_of side.tables.maps k).second) _ l
        width.2 in
        let made = same_ok (Table k (names.number first) None) l fits.2 in
        subst (Numbered (Some (table_label n first None q))) made
        (one_selector n first q k
        (found_some (position (bytes_eq n) side.tables.map_names) (bad_label q n) k place.1)
        (asked_true (is_signal (names.scope first)) (bad_label q first) is.1)
        (asked_true (same_number (map_of side.tables.maps k).second no_second) (bad_label q n)
        ranges.1)
        (asked_true (width_of (names.scope first) == (map_of side.tables.maps k).first)
        (bad_label q first) width.1)
        (free (names.number first)
        (subst (λ z. selects_by (names.number first) z ≡ true) made
        (eq-eqb (names.number first) (names.number first) refl))))
    label_numbered (Some (table_label n first (Some second) q)) l h free =
        let place = parts_done (found (position (bytes_eq n) side.tables.map_names) (bad_label q n))
        _ l h in
        let k = place.0 in
        let is = parts_done (ask (is_signal (names.scope first)) (bad_label q first)) _ l place.2 in
        let other = parts_done (ask (is_signal (names.scope second)) (bad_label q second)) _
        l is.2 in
        let ranges = parts_done
        (ask (same_number (map_of side.tables.maps k).second (Some second)) (bad_label q n)) _ l
        other.2 in
        let width = parts_done
        (ask (width_of (names.scope first) == (map_of side.tables.maps k).first)
        (bad_label q first)) _ l ranges.2 in
        let fits = parts_done (second_fits names q (Some second) (map_of side.tables.maps k).second)
        _ l width.2 in
        let i = names.number first in
        let j = names.number second in
        let made = same_ok (Table k i (Some j)) l fits.2 in
        subst (Numbered (Some (table_label n first (Some second) q))) made
        (two_selectors n first second q k
        (found_some (position (bytes_eq n) side.tables.map_names) (bad_label q n) k place.1)
        (asked_true (is_signal (names.scope first)) (bad_label q first) is.1)
        (asked_true (is_signal (names.scope second)) (bad_label q second) other.1)
        (asked_true (same_number (map_of side.tables.maps k).second (Some second)) (bad_label q n)
        ranges.1)
        (asked_true (width_of (names.scope first) == (map_of side.tables.maps k).first)
        (bad_label q first) width.1)
        (second_width_is q second (map_of side.tables.maps k).second fits.1)
        (free i (subst (λ z.
        selects_by i z ≡ true) made (or_left (i == i) (j == i) (eq-eqb i i refl))))
        (free j (subst (λ z.
        selects_by j z ≡ true) made (or_right (i == j) (j == j) (eq-eqb j j refl)))))

  pub same_label : (e : Environment ℕ) (f : Environment Path)
      → Agree (flat_system design) (source_system text top design side)
      (path_to text top design side) e f
      → (k : ℕ) (a : At text top design side k)
      → IsPointNumber ordered
      (label_point text (values_in a.source.part f) a.source.declaration.label)
      (label_in design.maps (signal_of design.signals k).label e).0
  same_label e f agree k a =
      subst (λ (s : SignalForm).
      IsPointNumber ordered
      (label_point text (values_in a.source.part f) a.source.declaration.label)
      (label_in design.maps s.label e).0)
      (sym (signal_at text top design side k a))
      (label_numbered a.source.part a.is.names a.is.named e f agree a.source.declaration.label
      a.form.label a.is.found
      (λ t h. selector_is_no_clock a.form (get_contains design.signals k a.form a.form_at) t h))
