-- The steps of the walk of a text, as the code takes them: of the lists that it goes over, each is
-- that of the text.
use Rattle.std.proofs.Common.{◌≡◌, ℕ, ◌+◌, ◌<◌, ◌^◌, List, [], length, map, Option, refl, sym, ap}
use Rattle.std.proofs.Common.{◌∙◌, subst, arith}
use Rattle.std.specs.Prelude.{Ok, IsTrue}
use Rattle.std.specs.List.{list_all}
use Rattle.std.proofs.lemmas.Bool.{and_parts}
use Rattle.std.proofs.lemmas.List.{length-map}
use Rattle.sv_num.specs.declared.faults.Place.{Place}
use Rattle.sv_num.specs.declared.faults.Fault.{Fault}
use Rattle.sv_lattice.specs.Maps.{MapRows}
use Rattle.sv_ast.specs.Instances.{top_module as top_of}
use Rattle.sv_ast.specs.Shape.{is_shaped, is_shaped_map, is_shaped_module}
use Rattle.sv_ast.specs.Tree.{ModuleTree}
use Rattle.sv_ast.specs.Views.{map_tree, module_tree, text_tree}
use Rattle.sv_ast.specs.declared.modules.MapText.{MapText}
use Rattle.sv_ast.specs.declared.modules.Module.{Module}
use Rattle.sv_ast.specs.declared.modules.Text.{Text}
use Rattle.sv_flat.specs.Views.{invariant_form}
use Rattle.sv_flat.specs.declared.expressions.FExpr.{FExpr}
use Rattle.sv_elab_rules.specs.InstanceSteps.{Built}
use Rattle.sv_elab_rules.specs.LabelMaps.{maps_walk}
use Rattle.sv_elab_rules.specs.LabelSteps.{SharedTables}
use Rattle.sv_elab_rules.specs.Lattices.{PointOrder, lattice_walk, least_point}
use Rattle.sv_elab_rules.specs.Rules.{no_top}
use Rattle.sv_elab_rules.specs.Texts.{module_names, top_walk, tables_of, design_of, walk_of}
use Rattle.sv_elab_rules.specs.Walks.{found}
use Rattle.sv_elab_rules.proofs.WalkLemmas.{found_some}
use Rattle.sv_width.specs.Answers.{IsBreach}
use Rattle.sv_elab.specs.Texts.{modules_walk}
use Rattle.sv_elab.proofs.DeclaredLattices.{breach_on}
use Rattle.sv_elab.proofs.TextEnds.{lattice_broken, maps_broken, names_broken, top_broken}
use Rattle.sv_elab.proofs.TextEnds.{modules_end, built_broken, text_end}
use Rattle.sv_elab.proofs.TextLemmas.{top_passes, maps_length}

-- ---- shapes

-- the maps of a shaped text are shaped, and its modules
shaped_parts : (text : Text) → IsTrue (is_shaped (text_tree text))
    → IsTrue (list_all is_shaped_map (text_tree text).maps)
    × IsTrue (list_all is_shaped_module (text_tree text).modules)
shaped_parts text shaped =
    and_parts (list_all is_shaped_map (text_tree text).maps)
    (list_all is_shaped_module (text_tree text).modules) shaped

pub maps_shaped : (text : Text) (ts : List MapText) → ts ≡ text.maps.items
    → IsTrue (is_shaped (text_tree text)) → IsTrue (list_all is_shaped_map (map map_tree ts))
maps_shaped text ts all shaped =
    ap (λ ts. list_all is_shaped_map (map map_tree ts)) all
    ∙ (shaped_parts text shaped).0

pub modules_shaped : (text : Text) (ms : List Module) → ms ≡ text.modules.items
    → IsTrue (is_shaped (text_tree text)) → IsTrue (list_all is_shaped_module (map module_tree ms))
modules_shaped text ms all shaped =
    ap (λ ms. list_all is_shaped_module (map module_tree ms)) all
    ∙ (shaped_parts text shaped).1

pub maps_few : (text : Text) (points : List (List ℕ)) (ts : List MapText) → ts ≡ text.maps.items
    → (maps : List (List ℕ × MapRows)) → (maps_walk points [] (map map_tree ts)).end ≡ Ok maps
    → length text.maps.items < 2 ^ 32 → length maps < 2 ^ 32
maps_few text points ts all maps h few =
    let listed : length maps ≡ 0 + length (map map_tree ts) =
    maps_length points [] (map map_tree ts) maps h in
    let mapped : length (map map_tree ts) ≡ length ts = length-map ts map_tree in
    let same : length ts ≡ length text.maps.items = ap length all in
    let n : length maps ≡ length text.maps.items = omega arith in
    subst (λ k. k < 2 ^ 32) (sym n) few

-- ---- tables

pub tables_same : (order : PointOrder) (maps : List (List ℕ × MapRows)) (all ms : List Module)
    (points : List (List ℕ)) (least : ℕ)
    → ms ≡ all → points ≡ order.points → least ≡ least_point order.table
    → ◌≡◌ {A = SharedTables} (record {
      modules = map module_tree ms;
      points = points;
      least = least;
      map_names = map (λ (m : List ℕ × MapRows). m.0) maps;
      maps = map (λ (m : List ℕ × MapRows). m.1) maps;
    }) (tables_of (map module_tree all) order maps)
tables_same order maps all ms points least modules_are points_are least_is =
    λ j. record {
      modules = map module_tree (modules_are j);
      points = points_are j;
      least = least_is j;
      map_names = map (λ (m : List ℕ × MapRows). m.0) maps;
      maps = map (λ (m : List ℕ × MapRows). m.1) maps;
    }

pub design_same : (order : PointOrder) (maps : List (List ℕ × MapRows)) (modules : List ModuleTree)
    (built : Built) (table : List ℕ) (points : List (List ℕ)) (all : List MapRows)
    (facts : List (Place × FExpr))
    → table ≡ order.table → points ≡ order.points
    → all ≡ map (λ (m : List ℕ × MapRows). m.1) maps → facts ≡ []
    → design_of order (tables_of modules order maps) built ≡ record {
      signals = built.signals;
      processes = built.processes;
      lattice = table;
      points = points;
      maps = all;
      invariants = map invariant_form facts;
    }
design_same order maps modules built table points all facts table_is points_are all_are none =
    sym (λ j. record {
      signals = built.signals;
      processes = built.processes;
      lattice = table_is j;
      points = points_are j;
      maps = all_are j;
      invariants = map invariant_form (none j);
    })

-- ---- ends

module _ (text : Text) (top : Option (List ℕ)) where
  abbrev whole : Fault → Type 0
  whole f = IsBreach (walk_of (text_tree text) top).end f

  pub lattice_breach : (f : Fault) → IsBreach (lattice_walk (text_tree text).lattice).end f
      → whole f
  lattice_breach f = breach_on f _ _ (lattice_broken (text_tree text) top)

  module _ (order : PointOrder)
      (ordered : (lattice_walk (text_tree text).lattice).end ≡ Ok order) where
    pub maps_breach : (ts : List MapText) → ts ≡ text.maps.items → (f : Fault)
        → IsBreach (maps_walk order.points [] (map map_tree ts)).end f → whole f
    maps_breach ts all f =
        breach_on f _ _ (λ s h. maps_broken (text_tree text) top order ordered s
        (ap (λ ts. (maps_walk order.points [] (map map_tree ts)).end) (sym all) ∙ h))

    module _ (ts : List MapText) (all : ts ≡ text.maps.items) (maps : List (List ℕ × MapRows))
        (mapped : (maps_walk order.points [] (map map_tree ts)).end ≡ Ok maps) where
      abbrev at_maps : (maps_walk order.points [] (text_tree text).maps).end ≡ Ok maps
      at_maps = ap (λ ts. (maps_walk order.points [] (map map_tree ts)).end) (sym all) ∙ mapped

      pub built_breach : (f : Fault)
          → IsBreach (modules_walk (text_tree text) top order maps).end f → whole f
      built_breach f =
          breach_on f _ _ (built_broken (text_tree text) top order ordered maps at_maps)

      pub whole_end : (built : Built)
          → (modules_walk (text_tree text) top order maps).end ≡ Ok built
          → (walk_of (text_tree text) top).end ≡
          Ok (design_of order (tables_of (text_tree text).modules order maps) built)
      whole_end = text_end (text_tree text) top order ordered maps at_maps

-- ---- behind the lattice and the maps

module _ (text : Text) (top : Option (List ℕ)) (order : PointOrder) (maps : List (List ℕ × MapRows))
  where
    pub names_breach : (ms : List Module) → ms ≡ text.modules.items → (f : Fault)
        → IsBreach (module_names [] (map module_tree ms)).end f
        → IsBreach (modules_walk (text_tree text) top order maps).end f
    names_breach ms same f =
        breach_on f _ _ (λ s h. names_broken (text_tree text) top order maps s
        (ap (λ ms. (module_names [] (map module_tree ms)).end) (sym same) ∙ h))

    module _ (ns : List Module) (all_names : ns ≡ text.modules.items)
        (named : (module_names [] (map module_tree ns)).end ≡ Ok tt) where
      abbrev at_names : (module_names [] (text_tree text).modules).end ≡ Ok tt
      at_names = ap (λ ms. (module_names [] (map module_tree ms)).end) (sym all_names) ∙ named

      pub top_breach : (ms : List Module) → ms ≡ text.modules.items → (f : Fault)
          → IsBreach (found (top_of (map module_tree ms) top) no_top).end f
          → IsBreach (modules_walk (text_tree text) top order maps).end f
      top_breach ms same f =
          breach_on f _ _ (λ s h. top_broken (text_tree text) top order maps at_names s
          (ap (λ ms. (found (top_of (map module_tree ms) top) no_top).end) (sym same) ∙ h))

      module _ (ms : List Module) (all_modules : ms ≡ text.modules.items) (m : ModuleTree)
          (topped : (found (top_of (map module_tree ms) top) no_top).end ≡ Ok m) where
        abbrev at_top : (found (top_of (text_tree text).modules top) no_top).end ≡ Ok m
        at_top =
            ap (λ ms. (found (top_of (map module_tree ms) top) no_top).end) (sym all_modules)
            ∙ topped

        pub top_shaped : IsTrue (is_shaped (text_tree text)) → IsTrue (is_shaped_module m)
        top_shaped shaped =
            top_passes (text_tree text).modules top m
            (modules_shaped text text.modules.items refl shaped)
            (found_some (top_of (text_tree text).modules top) no_top m at_top)

        pub built_at : (tables : SharedTables)
            → tables ≡ tables_of (text_tree text).modules order maps
            → (modules_walk (text_tree text) top order maps).end ≡ (top_walk tables m).end
        built_at tables same =
            modules_end (text_tree text) top order maps at_names m at_top
            ∙ ap (λ t. (top_walk t m).end) (sym same)
