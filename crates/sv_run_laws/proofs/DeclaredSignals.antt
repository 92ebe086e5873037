-- Each signal of a flat design is that of a declaration of the text.
use Rattle.std.proofs.Common.{◌≡◌, ℕ, Bool, true, false, List, [], ◌∷◌, map, Option, Some}
use Rattle.std.proofs.Common.{None, refl, sym, ap, subst, ◌∙◌}
use Rattle.std.specs.Prelude.{◌&&◌, ◌==◌, flat_map, position, if◌then◌else◌, Ok, IsTrue}
use Rattle.std.specs.List.{slice_get, AllZip}
use Rattle.std.specs.Option.{option_map_or}
use Rattle.std.specs.Str.{bytes_eq}
use Rattle.sv_num.specs.declared.faults.Place.{Place}
use Rattle.sv_lattice.specs.declared.labels.Label.{Label}
use Rattle.sv_lattice.specs.declared.labels.Label.TheVariants.{Point as By_point, Table}
use Rattle.sv_lattice.specs.Labels.{map_of}
use Rattle.sv_lattice.specs.Maps.{MapRows}
use Rattle.sv_ast.specs.declared.declarations.DeclKind.{DeclKind}
use Rattle.sv_ast.specs.declared.declarations.DeclKind.TheVariants as decl
use Rattle.sv_ast.specs.Scopes.{width_of}
use Rattle.sv_ast.specs.Tree.{LabelTree, point_label, table_label, MapTree, ModuleTree, TextTree}
use Rattle.sv_ast.specs.Instances.{is_empty, is_signal, top_module}
use Rattle.sv_ast.specs.Parts.{Part, part_with, parts_from, most_levels, parts, PartSignal}
use Rattle.sv_ast.specs.Parts.{signals_of}
use Rattle.sv_ast.specs.ClockPaths.{is_input_kind}
use Rattle.sv_ast.specs.Processes.{Process}
use Rattle.sv_ast.specs.Shape.{is_shaped}
use Rattle.sv_ast.specs.SourceLabels.{points, pairs, least}
use Rattle.sv_flat.specs.declared.signals.SigKind.TheVariants as kinds
use Rattle.sv_flat.specs.Design.{SignalForm, FlatDesign}
use Rattle.sv_elab_rules.specs.Walks.{ask, found}
use Rattle.sv_elab_rules.specs.Rules.{bad_label}
use Rattle.sv_elab_rules.specs.Names.{Names}
use Rattle.sv_elab_rules.specs.Lattices.{point_number, least_point}
use Rattle.sv_elab_rules.specs.LabelSteps.{SharedTables, second_selector, same_number, second_fits}
use Rattle.sv_elab_rules.specs.LabelSteps.{second_number, label_walk}
use Rattle.sv_elab_rules.specs.Declarations.{Site, kind_of}
use Rattle.sv_elab_rules.specs.InstanceSteps.{Built}
use Rattle.sv_elab_rules.specs.Texts.{top_walk, tables_of, flat_of}
use Rattle.sv_elab_rules.proofs.WalkLemmas.{parts_done, asked_true, found_some}
use Rattle.sv_elab_laws.specs.FlattenedTexts.{ItemNumbersFit, EachItem}
use Rattle.sv_elab_laws.proofs.PartsDeclared.{same_ok}
use Rattle.sv_elab_laws.proofs.PartsNamed.{IsNamed}
use Rattle.sv_elab_laws.proofs.PartsGrown.{LabelFound, IsForm, number_of_name}
use Rattle.sv_elab_laws.proofs.PartsShapes.{all_flattened}
use Rattle.sv_elab_laws.proofs.PartsTexts.{Beside, made_beside}
use Rattle.sv_elab_laws.proofs.PartsWalked.{walked_text}
use Rattle.sv_elab_laws.proofs.JoinedLattice.{IsOrderFrom, order_of, number_at}
use Rattle.sv_elab_laws.proofs.JoinedLeast.{least_number}
use Rattle.sv_elab_laws.proofs.JoinedMaps.{IsMapOf, maps_done}
use Rattle.sv_run_laws.specs.Signals.{text_signals, declared_kind, IsSecond, IsLabel, IsDeclared}
use Rattle.sv_run_laws.proofs.PlainSignals.{Plain, plain_form, plain_source, plain_from}
use Rattle.sv_run_laws.proofs.PlainSignals.{parts_plain, sites_add}

-- ---- names, signs and places

module _ (text : TextTree) (top : Option (List ℕ)) where
  top_plain : (tables : SharedTables) (m : ModuleTree) (built : Built)
      → tables.modules ≡ text.modules
      → top_module text.modules top ≡ Some m → (top_walk tables m).end ≡ Ok built
      → map plain_form built.signals ≡ map plain_source (text_signals text top)
  unfolding top_walk
  top_plain tables m built same is_top h =
      let site : Site = record { path = []; around = m.name ∷ []; master = m; set = [] } in
      let start : Built = record { signals = []; processes = []; instances = 1 } in
      sites_add tables most_levels site start built h
      ∙ ap (λ ms. plain_from most_levels ms [] m) same
      ∙ sym (parts_plain text.modules most_levels (part_with [] [] m))
      ∙ ap (λ o. map plain_source (flat_map signals_of (option_map_or (λ (x : ModuleTree).
      parts_from most_levels text.modules (part_with [] [] x)) o []))) (sym is_top)

  pub design_plain : (design : FlatDesign) → flat_of text top ≡ Some design
      → map plain_form design.signals ≡ map plain_source (text_signals text top)
  design_plain design h =
      let w = walked_text text top design h in
      ap (λ (d : FlatDesign). map plain_form d.signals) (sym w.is)
      ∙ top_plain (tables_of text.modules w.order w.maps) w.master w.built refl w.is_top
      w.top_walked

-- ---- kinds

kind_same : (inner : Bool) (k : DeclKind)
    → kind_of inner k ≡ (if inner && is_input_kind k then kinds.TopInput else declared_kind k)
kind_same true decl.Input = refl
kind_same false decl.Input = refl
kind_same true decl.OutputWire = refl
kind_same false decl.OutputWire = refl
kind_same true decl.OutputReg = refl
kind_same false decl.OutputReg = refl
kind_same true decl.Wire = refl
kind_same false decl.Wire = refl
kind_same true decl.Reg = refl
kind_same false decl.Reg = refl

-- ---- labels

module _ (points : List (List ℕ)) where
  names_same : (ts : List MapTree) (ms : List (List ℕ × MapRows)) → AllZip (IsMapOf points) ts ms
      → map (λ (m : List ℕ × MapRows). m.0) ms ≡ map (λ (t : MapTree). t.name) ts
  names_same [] [] h = refl
  names_same [] (m ∷ ms) h = absurd h
  names_same (t ∷ ts) [] h = absurd h
  names_same (t ∷ ts) (m ∷ ms) h =
      ap (λ n. n ∷ map (λ (x : List ℕ × MapRows). x.0) ms) h.0.name
      ∙ ap (λ ns. t.name ∷ ns) (names_same ts ms h.1)

module _ (text : TextTree) (top : Option (List ℕ)) (design : FlatDesign)
    {qs : List Process} (side : Beside text top qs design) where
  abbrev sources : List PartSignal
  sources = text_signals text top

  abbrev Labelled : Part → Option LabelTree → Label → Type 0
  Labelled p o l = IsLabel text sources p o l

  order_is : IsOrderFrom (points text) (pairs text) side.order
  order_is = order_of text side.order side.lattice

  pub design_points : design.points ≡ points text
  design_points = side.points ∙ sym order_is.points_are

  points_are : side.tables.points ≡ points text
  points_are = ap (λ (t : SharedTables). t.points) side.tables_are ∙ sym order_is.points_are

  least_at : slice_get (points text) side.tables.least ≡ Some (least text)
  least_at =
      ap (slice_get (points text)) (ap (λ (t : SharedTables). t.least) side.tables_are)
      ∙ ap (λ ps. slice_get ps (least_point side.order.table)) order_is.points_are
      ∙ number_at side.order.points (least text) (least_point side.order.table)
      (least_number text side.order order_is side.lattice)

  maps_are : side.tables.map_names ≡ map (λ (t : MapTree). t.name) text.maps
  maps_are =
      let all = maps_done side.order.points text.maps [] side.maps side.maps_walked in
      ap (λ (t : SharedTables). t.map_names) side.tables_are
      ∙ names_same side.order.points text.maps side.maps
      (subst (AllZip (IsMapOf side.order.points) text.maps) (sym all.1) all.2)

  module _ (p : Part) (names : Names) (named : IsNamed sources (parts text top) p names) where
    second_found : (place : Place) (second : Option (List ℕ))
        → (second_selector names place second).end ≡ Ok tt
        → IsSecond sources p second (second_number names second)
    unfolding second_selector
    second_found place None h = tt
    second_found place (Some n) h =
        number_of_name side.tables sources (parts text top) p names named n
        (asked_true (is_signal (names.scope n)) (bad_label place n) h)

    label_found : (o : Option LabelTree) (l : Label)
        → LabelFound side.tables sources (parts text top) names o l → Labelled p o l
    unfolding label_walk
    label_found None l h = subst (Labelled p None) (sym h) least_at
    label_found (Some (point_label n q)) l h =
        let point = parts_done (found (point_number side.tables.points n) (bad_label q n)) _ l h in
        subst (Labelled p (Some (point_label n q)))
        (same_ok (By_point (record { 0 = point.0 })) l point.2)
        (ap (λ ps. slice_get ps point.0) (sym points_are)
        ∙ number_at side.tables.points n point.0
        (found_some (point_number side.tables.points n) (bad_label q n) point.0 point.1))
    label_found (Some (table_label n first second q)) l h =
        let place = parts_done (found (position (bytes_eq n) side.tables.map_names) (bad_label q n))
        _ l h in
        let k = place.0 in
        let is = parts_done (ask (is_signal (names.scope first)) (bad_label q first)) _ l place.2 in
        let other = parts_done (second_selector names q second) _ l is.2 in
        let ranges = parts_done
        (ask (same_number (map_of side.tables.maps k).second second) (bad_label q n)) _ l
        other.2 in
        let width = parts_done
        (ask (width_of (names.scope first) == (map_of side.tables.maps k).first)
        (bad_label q first)) _ l ranges.2 in
        let fits = parts_done (second_fits names q second (map_of side.tables.maps k).second)
        _ l width.2 in
        subst (Labelled p (Some (table_label n first second q)))
        (same_ok (Table k (names.number first) (second_number names second)) l fits.2) (
          ap (λ ns. slice_get ns k) (sym maps_are)
              ∙ number_at side.tables.map_names n k
              (found_some (position (bytes_eq n) side.tables.map_names) (bad_label q n) k place.1),
          number_of_name side.tables sources (parts text top) p names named first
              (asked_true (is_signal (names.scope first)) (bad_label q first) is.1),
          second_found q second other.1,
        )

  declared_from : (s : PartSignal) (f : SignalForm)
      → IsForm side.tables sources (parts text top) s f → plain_form f ≡ plain_source s
      → IsDeclared text sources s f
  declared_from s f is plain = record {
    name = ap (λ (x : Plain). x.0) plain;
    width = is.width;
    signed = ap (λ (x : Plain). x.1) plain;
    kind = is.kind ∙ kind_same (is_empty s.part.path) s.declaration.kind;
    label = label_found s.part is.names is.named s.declaration.label f.label is.found;
    place = ap (λ (x : Plain). x.2) plain;
  }

  zip_declared : (ss : List PartSignal) (fs : List SignalForm)
      → AllZip (IsForm side.tables sources (parts text top)) ss fs
      → map plain_form fs ≡ map plain_source ss
      → AllZip (IsDeclared text sources) ss fs
  zip_declared [] [] h e = tt
  zip_declared [] (f ∷ fs) h e = absurd h
  zip_declared (s ∷ ss) [] h e = absurd h
  zip_declared (s ∷ ss) (f ∷ fs) h e = (
    declared_from s f h.0 (let first : plain_form f ≡ plain_source s = cc e in first),
    zip_declared ss fs h.1
        (let rest : map plain_form fs ≡ map plain_source ss = cc e in rest),
  )

pub all_declared : (text : TextTree) (top : Option (List ℕ)) (design : FlatDesign)
    → IsTrue (is_shaped text) → EachItem ItemNumbersFit text → flat_of text top ≡ Some design
    → AllZip (IsDeclared text (text_signals text top)) (text_signals text top) design.signals
all_declared text top design shaped numbers flat =
    let side = made_beside text top (all_flattened text shaped numbers) design flat in
    zip_declared text top design side (text_signals text top) design.signals side.forms
    (design_plain text top design flat)

pub same_points : (text : TextTree) (top : Option (List ℕ)) (design : FlatDesign)
    → IsTrue (is_shaped text) → EachItem ItemNumbersFit text → flat_of text top ≡ Some design
    → design.points ≡ points text
same_points text top design shaped numbers flat =
    design_points text top design
    (made_beside text top (all_flattened text shaped numbers) design flat)
