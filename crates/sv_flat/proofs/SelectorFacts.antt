-- Labels, the signals that select them, and the flows of a lattice.
use Rattle.std.proofs.Common.{◌≡◌, ℕ, ◌+◌, ◌*◌, ◌<◌, ◌^◌, not, ◌&&◌, ◌==◌, ltb-true, List}
use Rattle.std.proofs.Common.{[], ◌∷◌, ◌++◌, length, ◌⊎◌, inl, inr, ⊎_elim, refl, sym, ap, ap₂}
use Rattle.std.proofs.Common.{subst, ◌∙◌, arith, Option, Some, None}
use Rattle.std.specs.Prelude.{Contains, All, IsTrue, IsFalse, unwrap_or}
use Rattle.std.specs.List.{list_any, list_all}
use Rattle.std.proofs.lemmas.Bool.{false≢true, or_left, or_right, eqb-true, eq-eqb}
use Rattle.std.proofs.lemmas.List.Elements.{Contains-get_or}
use Rattle.sv_lattice.specs.declared.points.Point.{Point}
use Rattle.sv_lattice.specs.declared.labels.Label.{Label}
use Rattle.sv_lattice.specs.declared.labels.Label.TheVariants.{Point as Declared, Table}
use Rattle.sv_lattice.specs.Maps.{MapRows, IsMap, row_of, pair_value}
use Rattle.sv_lattice.specs.Labels.{map_of}
use Rattle.sv_lattice.specs.Tables.{flow_test}
use Rattle.sv_system.specs.System.{Environment}
use Rattle.sv_system.proofs.Lists.{Contains-nil, Contains-head, Contains-later, Contains-cases}
use Rattle.sv_flat.specs.Design.{SignalForm, InvariantForm, FlatDesign}
use Rattle.sv_flat.specs.Values.{signal_of, signal_width}
use Rattle.sv_flat.specs.Soundness.{is_signal, is_one_to, selector_fits, second_fits, label_sound}
use Rattle.sv_flat.specs.Soundness.{sound}
use Rattle.sv_flat.specs.Clocks.{clocks, is_clock, uses_as_signal, selects_by, is_clock_alone}
use Rattle.sv_flat.specs.Clocks.{is_one_bit_input, is_linked, agrees_with_earlier, is_least_label}
use Rattle.sv_flat.specs.Clocks.{is_proper_clock}
use Rattle.sv_flat.specs.Readings.{names_signal}
use Rattle.sv_flat.specs.Processes.{declared_at}
use Rattle.sv_flat.specs.Breaches.{breach}
use Rattle.sv_flat.specs.Assignments.{wrong_assigns}
use Rattle.sv_flat.specs.Drivers.{clock_faults, driver_faults, undriven}
use Rattle.sv_flat.specs.Blocks.{latches, phase_faults}
use Rattle.sv_flat.specs.FlatSystem.{flat_system, label_in}
use Rattle.sv_flat.specs.Admission.{IsAdmitted}
use Rattle.sv_flat.proofs.LeastSets.{Contains-from_holds, some_from, in_those}
use Rattle.sv_flat.proofs.Depths.{first_of, second_of, from_all}
use Rattle.sv_flat.proofs.ReplacedBits.{beside_below}
use Rattle.sv_flat.proofs.SameRuns.{none_found}
use Rattle.sv_flat.proofs.AdmittedFacts.{empty_left, empty_right, none_pass, negated_false}
use Rattle.sv_flat.proofs.AdmittedFacts.{negated_true, signal_is_sound}
use Rattle.sv_flat.specs.Selectors.{selectors_of, flows_to_rows, rows_of, always_flows}
use Rattle.sv_flat.proofs.Members.{only}
use Rattle.sv_flat.proofs.SelectorBounds.{label_parts}

-- the label is made from its selectors
pub label_selected : (maps : List MapRows) (label : Label) (e f : Environment ℕ)
    → ((t : ℕ) → Contains (selectors_of label) t → e t ≡ f t)
    → label_in maps label e ≡ label_in maps label f
label_selected maps (Declared point) e f same = refl
label_selected maps (Table map first None) e f same =
    ap (row_of (map_of maps map)) (same first (Contains-head first []))
label_selected maps (Table map first (Some second)) e f same =
    ap₂ (λ x y. row_of (map_of maps map) (pair_value (map_of maps map) x y))
    (same first (Contains-head first (second ∷ [])))
    (same second (Contains-later first (second ∷ []) second (Contains-head second [])))

two_cases : (a b t : ℕ) → Contains (a ∷ b ∷ []) t → (a ≡ t) ⊎ (b ≡ t)
two_cases a b t at =
    ⊎_elim (λ is. inl is) (λ later. inr (only b t later)) (Contains-cases a (b ∷ []) t at)

-- a selector selects
selector_selects : (label : Label) (t : ℕ) → Contains (selectors_of label) t →
    IsTrue (selects_by t label)
selector_selects (Declared point) t at = absurd (Contains-nil t at)
selector_selects (Table map first None) t at = eq-eqb first t (only first t at)
selector_selects (Table map first (Some second)) t at = ⊎_elim
    (λ is. or_left (first == t) (second == t) (eq-eqb first t is))
    (λ is. or_right (first == t) (second == t) (eq-eqb second t is))
    (two_cases first second t at)

-- a point that flows to all rows
rows_point : (lattice : List ℕ) (rows : MapRows) (label : Label)
    → IsTrue (flows_to_rows lattice rows label)
    → (p : Point) × (label ≡ Declared p)
    × IsTrue (list_all (λ (row : Point). flow_test lattice p.0 row.0) rows.rows)
rows_point lattice rows (Declared p) h = (p, refl, h)
rows_point lattice rows (Table map first second) h = absurd (false≢true h)

module _ (design : FlatDesign) (is_sound : IsTrue (sound design))
    (admitted : IsAdmitted design) where
  -- ---- selectors are signals

  fitting : (t width : ℕ) → IsTrue (selector_fits design.signals t width)
      → IsTrue (is_signal design.signals t) × (signal_width design.signals t ≡ width)
  fitting t width h = (
    first_of (is_signal design.signals t) (signal_width design.signals t == width) h,
    eqb-true (signal_width design.signals t) width
        (second_of (is_signal design.signals t) (signal_width design.signals t == width) h),
  )

  second_is : (t : ℕ) (range : Option ℕ) → IsTrue (second_fits design.signals (Some t) range)
      → (width : ℕ) × (range ≡ Some width) × IsTrue (selector_fits design.signals t width)
  second_is t None h = absurd (false≢true h)
  second_is t (Some width) h = (width, refl, h)

  no_second : (range : Option ℕ) → IsTrue (second_fits design.signals None range) → range ≡ None
  no_second None h = refl
  no_second (Some width) h = absurd (false≢true h)

  -- the parts of a sound label
  first_fits : (map first : ℕ) (second : Option ℕ)
      → IsTrue (label_sound design (Table map first second))
      → IsTrue (is_signal design.signals first)
      × (signal_width design.signals first ≡ (map_of design.maps map).first)
  first_fits map first second h =
      fitting first (map_of design.maps map).first (label_parts design map first second h).1

  seconds : (map first : ℕ) (second : Option ℕ)
      → IsTrue (label_sound design (Table map first second))
      → IsTrue (second_fits design.signals second (map_of design.maps map).second)
  seconds map first second h = (label_parts design map first second h).2

  selector_is_signal : (label : Label) → IsTrue (label_sound design label) → (t : ℕ)
      → Contains (selectors_of label) t
      → IsTrue (is_signal design.signals t)
  selector_is_signal (Declared point) sound t at = absurd (Contains-nil t at)
  selector_is_signal (Table map first None) sound t at =
      subst (λ z. IsTrue (is_signal design.signals z)) (only first t at)
      (first_fits map first None sound).0
  selector_is_signal (Table map first (Some second)) sound t at = ⊎_elim
      (λ is. subst (λ z. IsTrue (is_signal design.signals z)) is
      (first_fits map first (Some second) sound).0)
      (λ is. subst (λ z. IsTrue (is_signal design.signals z)) is
      (let found = second_is second (map_of design.maps map).second
      (seconds map first (Some second) sound) in
      (fitting second found.0 found.2).0))
      (two_cases first second t at)

  -- ---- and no clocks

  no_clock_faults : clock_faults design ≡ []
  no_clock_faults = empty_right (wrong_assigns design) (clock_faults design)
      (empty_left (wrong_assigns design ++ clock_faults design) (driver_faults design)
      (empty_left (wrong_assigns design ++ clock_faults design ++ driver_faults design)
      (undriven design)
      (empty_left (wrong_assigns design ++ clock_faults design ++ driver_faults design
      ++ undriven design) (latches design)
      (empty_left (wrong_assigns design ++ clock_faults design ++ driver_faults design
      ++ undriven design ++ latches design)
      (phase_faults design) admitted.unbroken))))

  proper : (t : ℕ) → IsTrue (is_clock design t) → IsTrue (is_proper_clock design t)
  proper t clock = negated_false (is_proper_clock design t)
      (none_pass (λ z. breach 602 (declared_at design z) z) (λ z.
      not (is_proper_clock design z)) (clocks design) no_clock_faults t
      (Contains-from_holds (clocks design) t clock))

  pub no_selector : (t : ℕ) → IsTrue (is_clock design t)
      → IsFalse (list_any (λ (signal : SignalForm). selects_by t signal.label) design.signals)
  no_selector t clock =
      let shape = is_one_bit_input design t && is_linked design t && agrees_with_earlier design t in
      let alone = second_of shape (is_clock_alone design t)
      (first_of (shape && is_clock_alone design t)
      (is_least_label design.lattice (signal_of design.signals t).label) (proper t clock)) in
      let used = not (list_any (uses_as_signal design t) design.processes) in
      let selects = not (list_any (λ (signal : SignalForm).
      selects_by t signal.label) design.signals) in
      let invariants = not (list_any (λ (i : InvariantForm).
      names_signal design.signals i.expression t) design.invariants) in
      negated_true (list_any (λ (signal : SignalForm). selects_by t signal.label) design.signals)
      (second_of used selects (first_of (used && selects) invariants alone))

  -- a selector of a signal's label is a signal of the system
  pub selector_is_seen : (s : ℕ) → IsTrue (is_signal design.signals s) → (t : ℕ)
      → Contains (selectors_of (signal_of design.signals s).label) t
      → Contains (flat_system design).signals t
  selector_is_seen s inside t at =
      let label = (signal_of design.signals s).label in
      let sound = second_of (is_one_to 64 (signal_of design.signals s).width)
      (label_sound design label)
      (signal_is_sound design is_sound admitted s inside) in
      let listed = Contains-get_or design.signals s _ (ltb-true s (length design.signals) inside) in
      in_those (length design.signals) (λ z. not (is_clock design z)) t
      (ltb-true t (length design.signals) (selector_is_signal label sound t at))
      (ap not (none_found (is_clock design t) (λ clock. false≢true (sym (no_selector t clock)
      ∙ some_from (λ (signal : SignalForm).
      selects_by t signal.label) design.signals (signal_of design.signals s) listed
      (selector_selects label t at)))))

  -- a clock has no selectors
  least_has_none : (label : Label) → IsTrue (is_least_label design.lattice label) → (t : ℕ) →
      Contains (selectors_of label) t → ⊥
  least_has_none (Declared point) least t at = Contains-nil t at
  least_has_none (Table map first second) least t at = false≢true least

  -- and a signal whose label is selected is one of the system
  pub selected_is_seen : (s : ℕ) → s < length design.signals → (t : ℕ)
      → Contains (selectors_of (signal_of design.signals s).label) t
      → Contains (flat_system design).signals s
  selected_is_seen s inside t at =
      let label = (signal_of design.signals s).label in
      let front = is_one_bit_input design s && is_linked design s && agrees_with_earlier design s
      && is_clock_alone design s in
      in_those (length design.signals) (λ z. not (is_clock design z)) s inside
      (ap not (none_found (is_clock design s) (λ clock.
      least_has_none label
      (second_of front (is_least_label design.lattice label) (proper s clock)) t at)))

module _ (design : FlatDesign) (is_sound : IsTrue (sound design)) (admitted : IsAdmitted design)
    (maps : All (λ (m : MapRows). IsMap m.first m.second m.rows) design.maps) where
  -- ---- rows

  row_count : (first : ℕ) (second : Option ℕ) (rows : List Point) → IsMap first second rows →
      length rows ≡ 2 ^ (first + unwrap_or second 0)
  row_count first None rows is = is.2 ∙ ap (λ n. 2 ^ n) (omega arith)
  row_count first (Some second) rows is = is.3

  -- a row of a map
  in_rows : (map : ℕ) → map < length design.maps → (v : ℕ)
      → v < 2 ^ ((map_of design.maps map).first + unwrap_or (map_of design.maps map).second 0)
      → Contains (map_of design.maps map).rows (row_of (map_of design.maps map) v)
  in_rows map known v below =
      let m = map_of design.maps map in
      Contains-get_or m.rows v _
      (subst (λ n. v < n) (sym (row_count m.first m.second m.rows (maps map _ known))) below)

  -- the label of a signal is a row of its map, where its selectors fit
  label_is_row : (label : Label) → IsTrue (label_sound design label) → (e : Environment ℕ)
      → ((t : ℕ) → Contains (selectors_of label) t → e t < 2 ^ signal_width design.signals t)
      → (t : ℕ) → Contains (selectors_of label) t
      → Contains (rows_of design label).rows (label_in design.maps label e)
  label_is_row (Declared point) sound e fits t at = absurd (Contains-nil t at)
  label_is_row (Table map first None) sound e fits t at =
      let m = map_of design.maps map in
      let none = no_second design is_sound admitted m.second
      (seconds design is_sound admitted map first None sound) in
      in_rows map (label_parts design map first None sound).0 (e first)
      (subst (λ (o : Option ℕ). e first < 2 ^ (m.first + unwrap_or o 0)) (sym none)
      (subst (λ n. e first < 2 ^ n)
      ((first_fits design is_sound admitted map first None sound).1 ∙ omega arith)
      (fits first (Contains-head first []))))
  label_is_row (Table map first (Some second)) sound e fits t at =
      let m = map_of design.maps map in
      let found = second_is design is_sound admitted second m.second
      (seconds design is_sound admitted map first (Some second) sound) in
      let width = found.0 in
      let low = fits second (Contains-later first (second ∷ []) second (Contains-head second [])) in
      let high = fits first (Contains-head first (second ∷ [])) in
      in_rows map (label_parts design map first (Some second) sound).0
      (pair_value m (e first) (e second))
      (subst (λ (o : Option ℕ).
      e first * 2 ^ unwrap_or o 0 + e second < 2 ^ (m.first + unwrap_or o 0)) (sym found.1)
      (beside_below (e first) (e second) m.first width
      (subst (λ n. e first < 2 ^ n)
      (first_fits design is_sound admitted map first (Some second) sound).1 high)
      (subst (λ n. e second < 2 ^ n)
      (fitting design is_sound admitted second width found.2).1 low)))

  -- a selector whose label always flows does
  pub always_is_right : (s : ℕ) → IsTrue (is_signal design.signals s) → (e : Environment ℕ)
      → ((t : ℕ) → Contains (selectors_of (signal_of design.signals s).label) t
      → e t < 2 ^ signal_width design.signals t)
      → (t : ℕ) → Contains (selectors_of (signal_of design.signals s).label) t
      → IsTrue (always_flows design s t)
      → IsTrue (flow_test design.lattice
      (label_in design.maps (signal_of design.signals t).label e).0
      (label_in design.maps (signal_of design.signals s).label e).0)
  always_is_right s inside e fits t at always =
      let label = (signal_of design.signals s).label in
      let sound = second_of (is_one_to 64 (signal_of design.signals s).width)
      (label_sound design label)
      (signal_is_sound design is_sound admitted s inside) in
      let rows = rows_of design label in
      let point = rows_point design.lattice rows (signal_of design.signals t).label always in
      let row = label_in design.maps label e in
      subst (λ (l : Label). IsTrue (flow_test design.lattice (label_in design.maps l e).0 row.0))
      (sym point.1)
      (from_all (λ (x : Point). flow_test design.lattice (point.0).0 x.0) rows.rows row point.2
      (label_is_row label sound e fits t at))
