-- A text and the flat design that it stands for, side by side: signals, processes and clocks, in
-- order.
use Rattle.std.proofs.Common.{◌≡◌, ℕ, List, [], ◌∷◌, map}
use Rattle.std.proofs.Common.{Option, Some, None, refl, sym, ap, subst, ◌∙◌, arith}
use Rattle.std.specs.Prelude.{flat_map, Contains, Ok}
use Rattle.std.specs.List.{filter_map, AllZip}
use Rattle.std.specs.Option.{option_map_or}
use Rattle.std.specs.Str.{bytes_eq}
use Rattle.sv_system.proofs.Lists.{Contains-head}
use Rattle.sv_lattice.specs.Maps.{MapRows}
use Rattle.sv_ast.specs.Tree.{DeclarationTree, ModuleTree, TextTree}
use Rattle.sv_ast.specs.Instances.{uninstanced, only, top_module}
use Rattle.sv_ast.specs.Parts.{Part, part_with, child, parts_from, most_levels, parts}
use Rattle.sv_ast.specs.Parts.{PartSignal}
use Rattle.sv_ast.specs.Parts.{signal_path, declarations, signals_of}
use Rattle.sv_ast.specs.Processes.{Process, processes_from, processes}
use Rattle.sv_flat.specs.Design.{FlatDesign}
use Rattle.sv_elab_rules.specs.Lattices.{PointOrder, lattice_walk}
use Rattle.sv_elab_rules.specs.LabelMaps.{maps_walk}
use Rattle.sv_elab_rules.specs.LabelSteps.{SharedTables}
use Rattle.sv_elab_rules.specs.Declarations.{Site}
use Rattle.sv_elab_rules.specs.InstanceSteps.{Built}
use Rattle.sv_elab_rules.specs.Texts.{top_walk, tables_of}
use Rattle.sv_elab_rules.specs.Texts.{flat_of}
use Rattle.sv_elab_laws.specs.FlattenedTexts.{ReleasesNothing, EachItem, CanBeFlattened}
use Rattle.sv_elab_laws.proofs.PartsShapes.{IsFlattened, IsFlattenedModule, flattened}
use Rattle.sv_elab_laws.proofs.PartsLists.{stands_whole, get_contains, contains_get, zip_left}
use Rattle.sv_elab_laws.proofs.PartsLists.{AllDiffer}
use Rattle.sv_elab_laws.proofs.PartsWalked.{walked_text}
use Rattle.sv_elab_laws.proofs.PartsNamed.{IsNamed, IsSound, found_place}
use Rattle.sv_elab_laws.specs.Children.{HasEachChild}
use Rattle.sv_elab_laws.specs.SideBySide.{made_from, made_of, edges_from, edges_of, clock_of}
use Rattle.sv_elab_laws.proofs.PartsGrown.{IsForm, IsFlat, IsNumberOf, Grown, ChildrenIn}
use Rattle.sv_elab_laws.proofs.PartsMade.{all_made}
use Rattle.sv_elab_laws.proofs.PartsSites.{sites_grown}
use Rattle.sv_elab_laws.proofs.PartsPaths.{path_of, InstancesDiffer, DeclaredDiffer, parts_differ}
use Rattle.sv_elab_laws.proofs.PartsPaths.{places_differ, signals_differ}
use Rattle.sv_flat.proofs.Members.{to_flat_map}

-- all signals of a text, in order
abbrev pub sources_of : TextTree → Option (List ℕ) → List PartSignal
sources_of text top = flat_map signals_of (parts text top)

-- a text, some of its processes and a design side by side
pub record Beside (text : TextTree) (top : Option (List ℕ)) (qs : List Process)
    (design : FlatDesign) : Type 0 where
  pub order : PointOrder
  pub lattice : (lattice_walk text.lattice).end ≡ Ok order
  pub maps : List (List ℕ × MapRows)
  pub maps_walked : (maps_walk order.points [] text.maps).end ≡ Ok maps
  pub tables : SharedTables
  pub tables_are : tables ≡ tables_of text.modules order maps
  pub table : design.lattice ≡ order.table
  pub points : design.points ≡ order.points
  pub design_maps : design.maps ≡ tables.maps
  pub forms : AllZip (IsForm tables (sources_of text top) (parts text top)) (sources_of text top)
      design.signals
  pub bodies : AllZip (IsFlat tables (sources_of text top) (parts text top)) qs design.processes
  pub clocks : AllZip (IsNumberOf tables (sources_of text top) (parts text top)) (edges_of text top)
      (filter_map clock_of design.processes)
  pub differ : (q : Part) → Contains (parts text top) q → InstancesDiffer q
  pub inner : (q : Part) → Contains (parts text top) q
      → ChildrenIn tables (sources_of text top) (parts text top) q

-- a text and a design
abbrev pub SideBySide : TextTree → Option (List ℕ) → FlatDesign → Type 0
SideBySide text top design = Beside text top (processes text top) design

-- what the walk makes of a text, and a design
abbrev pub MadeBeside : TextTree → Option (List ℕ) → FlatDesign → Type 0
MadeBeside text top design = Beside text top (made_of text top) design

only_member : {X : Type 0} (xs : List X) (x : X) → only xs ≡ Some x → Contains xs x
only_member [] x e = absurd (cc e)
only_member (y ∷ []) x e =
    subst (Contains (y ∷ [])) (let s : y ≡ x = cc e in s) (Contains-head y [])
only_member (y ∷ z ∷ ys) x e = absurd (cc e)

-- the top is a module of the text
pub top_listed : (modules : List ModuleTree) (top : Option (List ℕ)) (m : ModuleTree) →
    top_module modules top ≡ Some m → Contains modules m
top_listed modules (Some n) m e =
    let place = found_place (λ (x : ModuleTree). bytes_eq n x.name) modules m e in
    get_contains modules place.0 m place.2
top_listed modules None m e =
    (Rattle.sv_flat.proofs.LeastSets.Contains-from_filter _ modules m
    (only_member (uninstanced modules) m e)).1

module _ (text : TextTree) (top : Option (List ℕ)) (fine : IsFlattened text) where
  top_grown : (tables : SharedTables) (m : ModuleTree) (built : Built)
      → tables.modules ≡ text.modules
      → top_module text.modules top ≡ Some m
      → (top_walk tables m).end ≡ Ok built
      → Grown tables (sources_of text top) (parts text top) (record {
        signals = [];
        processes = [];
        instances = 1;
      }) built
      (parts text top) (made_of text top) (edges_of text top)
  unfolding top_walk
  top_grown tables m built same is_top h =
      let modules = tables.modules in
      let site : Site = record { path = []; around = m.name ∷ []; master = m; set = [] } in
      let start : Built = record { signals = []; processes = []; instances = 1 } in
      let top_part = part_with [] [] m in
      let flattened : IsFlattenedModule m = fine m (top_listed text.modules top m is_top) in
      let parts_are : parts text top ≡ parts_from most_levels modules top_part =
      ap (λ o. option_map_or (λ (x : ModuleTree).
      parts_from most_levels text.modules (part_with [] [] x)) o []) is_top
      ∙ ap (λ ms. parts_from most_levels ms top_part) (sym same) in
      let processes_are : made_of text top ≡ made_from most_levels modules top_part =
      ap (λ o. option_map_or (λ (x : ModuleTree).
      made_from most_levels text.modules (part_with [] [] x)) o []) is_top
      ∙ ap (λ ms. made_from most_levels ms top_part) (sym same) in
      let edges_are : edges_of text top ≡ edges_from most_levels modules top_part =
      ap (λ o. option_map_or (λ (x : ModuleTree).
      edges_from most_levels text.modules (part_with [] [] x)) o []) is_top
      ∙ ap (λ ms. edges_from most_levels ms top_part) (sym same) in
      let sound : IsSound site = record {
        header = flattened.header;
        open_set = λ n v e. absurd (cc e);
        fits = λ n v e. absurd (cc e);
      } in
      let ins = sites_grown tables (sources_of text top) (parts text top)
      (λ x at. fine x (subst (λ ms. Contains ms x) same at)) most_levels site start built h sound
      flattened (omega arith) (omega arith)
      (subst (λ ps. Rattle.sv_elab_laws.proofs.PartsLists.StandsAt (sources_of text top) 0
      (flat_map signals_of ps)) parts_are
      (stands_whole (sources_of text top)))
      (λ q at. subst (λ ps. Contains ps q) (sym parts_are) at) in
      subst (λ es. Grown tables (sources_of text top) (parts text top) start built (parts text top)
      (made_of text top) es) (sym edges_are)
      (subst (λ qs. Grown tables (sources_of text top) (parts text top) start built (parts text top)
      qs (edges_from most_levels modules top_part)) (sym processes_are)
      (subst (λ ps. Grown tables (sources_of text top) (parts text top) start built ps
      (made_from most_levels modules top_part)
      (edges_from most_levels modules top_part)) (sym parts_are) ins.grown))

  pub made_beside : (design : FlatDesign) → flat_of text top ≡ Some design →
      MadeBeside text top design
  made_beside design h =
      let w = walked_text text top design h in
      let tables = tables_of text.modules w.order w.maps in
      let grown = top_grown tables w.master w.built refl w.is_top w.top_walked in
      subst (MadeBeside text top) w.is (record {
        order = w.order;
        lattice = w.lattice;
        maps = w.maps;
        maps_walked = w.maps_walked;
        tables = tables;
        tables_are = refl;
        table = refl;
        points = refl;
        design_maps = refl;
        forms =
            subst (AllZip (IsForm tables (sources_of text top) (parts text top))
            (sources_of text top)) (sym grown.signals) grown.each_form;
        bodies =
            subst (AllZip (IsFlat tables (sources_of text top) (parts text top))
            (made_of text top)) (sym grown.processes) grown.each_body;
        clocks =
            subst (λ bs. AllZip (IsNumberOf tables (sources_of text top) (parts text top))
            (edges_of text top) (filter_map clock_of bs))
            (sym grown.processes) grown.each_edge;
        differ = grown.differ;
        inner = grown.inner;
      })

-- of a text that releases nothing the walk makes all processes
pub nothing_left : (text : TextTree) (top : Option (List ℕ)) → EachItem ReleasesNothing text →
    made_of text top ≡ processes text top
nothing_left text top releases =
    by_top (top_module text.modules top) (λ m is. top_listed text.modules top m is)
  where
    by_top : (o : Option ModuleTree)
        → ((m : ModuleTree) → o ≡ Some m → Contains text.modules m)
        → option_map_or (λ (m : ModuleTree).
        made_from most_levels text.modules (part_with [] [] m)) o []
        ≡ option_map_or (λ (m : ModuleTree).
        processes_from most_levels text.modules (part_with [] [] m)) o []
    by_top None listed = refl
    by_top (Some m) listed =
        all_made text.modules releases most_levels (part_with [] [] m) (listed m refl)

pub side_by_side : (text : TextTree) (top : Option (List ℕ)) → CanBeFlattened text
    → (design : FlatDesign) → flat_of text top ≡ Some design → SideBySide text top design
side_by_side text top can design h =
    subst (λ qs. Beside text top qs design) (nothing_left text top can.releases)
    (made_beside text top (flattened text can) design h)

-- ---- paths

module _ (text : TextTree) (top : Option (List ℕ)) (design : FlatDesign)
    {qs : List Process} (side : Beside text top qs design) where
  all_parts : List Part
  all_parts = parts text top

  -- an instance with a signal has names
  pub part_named : (p : Part) → Contains (parts text top) p → (d : DeclarationTree)
      → Contains (declarations p.definition) d
      → (names : Rattle.sv_elab_rules.specs.Names.Names)
      × IsNamed (sources_of text top) (parts text top) p names
  part_named p at d listed =
      let s : PartSignal = record { part = p; declaration = d } in
      let in_part = Rattle.sv_system.proofs.Lists.Contains-map (λ (x : DeclarationTree).
      record { part = p; declaration = x }) (declarations p.definition) d listed in
      let place = contains_get (sources_of text top) s
      (to_flat_map signals_of (parts text top) p s at in_part) in
      let form = zip_left (IsForm side.tables (sources_of text top) (parts text top))
      (sources_of text top) design.signals side.forms place.0 s place.1 in
      (form.2.names, form.2.named)

  names_differ : (p : Part) (names : Rattle.sv_elab_rules.specs.Names.Names) →
      IsNamed (sources_of text top) (parts text top) p names → DeclaredDiffer p
  names_differ p names named =
      places_differ (map (λ (d : DeclarationTree). d.name) (declarations p.definition))
      (λ j k n a b.
      let first = Rattle.sv_elab_laws.proofs.PartsMaps.from_get_map (λ (d : DeclarationTree).
      d.name) (declarations p.definition) j n a in
      let second = Rattle.sv_elab_laws.proofs.PartsMaps.from_get_map (λ (d : DeclarationTree).
      d.name) (declarations p.definition) k n b in
      let one = (named.known j first.0 first.1).1 in
      let two = (named.known k second.0 second.1).1 in
      let same : names.number first.0.name ≡ names.number second.0.name =
      ap names.number (first.2 ∙ sym second.2) in
      omega arith)

  pub declared_differ : (p : Part) → Contains (parts text top) p → DeclaredDiffer p
  declared_differ p at = by_list (declarations p.definition) refl
    where
      by_list : (ds : List DeclarationTree) → declarations p.definition ≡ ds →
          AllDiffer (map (λ (d : DeclarationTree). d.name) (declarations p.definition))
      by_list [] e = subst (λ ds. AllDiffer (map (λ (d : DeclarationTree). d.name) ds)) (sym e) tt
      by_list (d ∷ ds) e =
          let named = part_named p at d
          (subst (λ xs. Contains xs d) (sym e) (Contains-head d ds)) in
          names_differ p named.0 named.1

  pub all_parts_differ : AllDiffer (map path_of (parts text top))
  all_parts_differ = by_top (top_module text.modules top) side.differ
    where
      by_top : (o : Option ModuleTree)
          → ((q : Part) → Contains (option_map_or (λ (m : ModuleTree).
          parts_from most_levels text.modules (part_with [] [] m)) o []) q → InstancesDiffer q)
          → AllDiffer (map path_of (option_map_or (λ (m : ModuleTree).
          parts_from most_levels text.modules (part_with [] [] m)) o []))
      by_top None each = tt
      by_top (Some m) each = parts_differ text.modules most_levels (part_with [] [] m) each

  -- no two signals of the text have one path
  pub paths_differ : AllDiffer (map signal_path (sources_of text top))
  paths_differ = signals_differ (parts text top) all_parts_differ declared_differ

  -- each instance in a part is a part
  pub each_child : HasEachChild text top
  each_child p c i at listed is =
      side.inner p at i c listed
      (ap (λ (t : SharedTables). child t.modules p i) side.tables_are ∙ is)
