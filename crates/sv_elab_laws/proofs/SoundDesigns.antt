-- The flat design that a text stands for is sound.
use Rattle.std.proofs.Common.{◌≡◌, ℕ, ◌≤◌, true, List, [], ◌∷◌, length, Option, Some, refl, sym, ap}
use Rattle.std.proofs.Common.{subst, ◌∙◌, arith}
use Rattle.std.specs.Prelude.{◌==◌, ◌&&◌, nat_lt, Contains, Ok, IsTrue}
use Rattle.std.specs.List.{list_all}
use Rattle.std.specs.Option.{option_map_or}
use Rattle.std.proofs.lemmas.Bool.{and_parts, and_from, lt-ltb}
use Rattle.sv_ast.specs.Tree.{ModuleTree, TextTree}
use Rattle.sv_ast.specs.Shape.{is_shaped, is_shaped_map, is_shaped_module}
use Rattle.sv_ast.specs.Instances.{top_module}
use Rattle.sv_ast.specs.Parts.{Part, part_with, parts_from, most_levels, parts}
use Rattle.sv_ast.specs.Processes.{Process}
use Rattle.sv_flat.specs.Design.{FlatDesign}
use Rattle.sv_flat.specs.Soundness.{map_sound, signal_sound, process_sound, invariant_sound, sound}
use Rattle.sv_flat.proofs.Depths.{from_all}
use Rattle.sv_elab_rules.specs.LabelSteps.{SharedTables}
use Rattle.sv_elab_rules.specs.Declarations.{Site}
use Rattle.sv_elab_rules.specs.InstanceSteps.{Built}
use Rattle.sv_elab_rules.specs.Texts.{top_walk, tables_of, flat_of}
use Rattle.sv_width.specs.Agreement.{HaveLengths}
use Rattle.sv_elab_laws.proofs.PartsShapes.{IsFlattened}
use Rattle.sv_width.specs.WrittenLengths.{TextHasLengths}
use Rattle.sv_elab_laws.specs.SideBySide.{made_from, made_of}
use Rattle.sv_elab_laws.proofs.PartsNamed.{IsSound}
use Rattle.sv_elab_laws.proofs.PartsTexts.{made_beside, top_listed}
use Rattle.sv_elab_laws.proofs.PartsWalked.{walked_text}
use Rattle.sv_elab_laws.proofs.JoinedSources.{from_option}
use Rattle.sv_elab_laws.proofs.SoundLabels.{points_sound, maps_sound, signals_sound}
use Rattle.sv_elab_laws.proofs.SoundProcesses.{ProcessHasLengths, processes_sound}
use Rattle.sv_elab_laws.proofs.SoundSources.{processes_long}
use Rattle.sv_elab_laws.proofs.SoundParts.{sites_long}
use Rattle.sv_elab_laws.proofs.SoundCounts.{sites_few}

module _ (text : TextTree) (top : Option (List ℕ)) (design : FlatDesign) where
  -- the walk of the top of a text
  record WalkedTop : Type 0 where
    pub tables : SharedTables
    pub modules : tables.modules ≡ text.modules
    pub master : ModuleTree
    pub is_top : top_module text.modules top ≡ Some master
    pub built : Built
    pub walked : (top_walk tables master).end ≡ Ok built
    pub signals : design.signals ≡ built.signals
    pub invariants : design.invariants ≡ []

  walked_top : flat_of text top ≡ Some design → WalkedTop
  walked_top h =
      let w = walked_text text top design h in
      record {
        tables = tables_of text.modules w.order w.maps;
        modules = refl;
        master = w.master;
        is_top = w.is_top;
        built = w.built;
        walked = w.top_walked;
        signals = ap (λ (d : FlatDesign). d.signals) (sym w.is);
        invariants = ap (λ (d : FlatDesign). d.invariants) (sym w.is);
      }

module _ (text : TextTree) (top : Option (List ℕ)) (design : FlatDesign)
    (shaped : IsTrue (is_shaped text))
    (fine : IsFlattened text) (long : TextHasLengths text)
    (flat : flat_of text top ≡ Some design) where
  abbrev walked : WalkedTop text top design
  walked = walked_top text top design flat

  modules_shaped : (m : ModuleTree) → Contains text.modules m → IsTrue (is_shaped_module m)
  modules_shaped m at =
      from_all is_shaped_module text.modules m
      (and_parts (list_all is_shaped_map text.maps) (list_all is_shaped_module text.modules)
      shaped).1 at

  -- there are fewer than 2^32 signals
  signals_few : (w : WalkedTop text top design) → nat_lt (length design.signals) 4294967295 ≡ true
  unfolding top_walk
  signals_few w =
      let few : length w.built.signals ≤ 4096 =
      sites_few w.tables most_levels (record {
        path = [];
        around = w.master.name ∷ [];
        master = w.master;
        set = [];
      })
      (record { signals = []; processes = []; instances = 1 }) w.built w.walked (omega arith) in
      let same : length design.signals ≡ length w.built.signals = ap length w.signals in
      lt-ltb (length design.signals) 4294967295 (omega arith)

  part_lengths : (w : WalkedTop text top design) → (p : Part) → Contains (parts text top) p →
      HaveLengths p.scope
  unfolding top_walk
  part_lengths w p at =
      let site : Site = record {
        path = [];
        around = w.master.name ∷ [];
        master = w.master;
        set = [];
      } in
      let start : Built = record { signals = []; processes = []; instances = 1 } in
      let within : (m : ModuleTree) → Contains w.tables.modules m → Contains text.modules m =
      λ m there. subst (λ ms. Contains ms m) w.modules there in
      let listed : Contains text.modules w.master = top_listed text.modules top w.master w.is_top in
      let parts_are : parts text top ≡
      parts_from most_levels w.tables.modules (part_with [] [] w.master) =
      ap (λ o. option_map_or (λ (m : ModuleTree).
      parts_from most_levels text.modules (part_with [] [] m)) o []) w.is_top
      ∙ ap (λ ms. parts_from most_levels ms (part_with [] [] w.master)) (sym w.modules) in
      let sound : IsSound site = record {
        header = (fine w.master listed).header;
        open_set = λ n v e. absurd (cc e);
        fits = λ n v e. absurd (cc e);
      } in
      sites_long w.tables (λ m there. fine m (within m there)) (λ m there.
      modules_shaped m (within m there))
      (λ m there. long m (within m there)) most_levels site start w.built w.walked sound (λ n v e.
      absurd (cc e))
      (subst (λ ms. Contains ms w.master) (sym w.modules) listed) p
      (subst (λ ps. Contains ps p) parts_are at)

  process_lengths : (q : Process) → Contains (made_of text top) q → ProcessHasLengths q
  process_lengths q at =
      let m = from_option (λ (m : ModuleTree).
      made_from most_levels text.modules (part_with [] [] m))
      (top_module text.modules top) q at in
      processes_long text.modules modules_shaped long most_levels (part_with [] [] m.0)
      (top_listed text.modules top m.0 m.1) q m.2

  pub design_sound : IsTrue (sound design)
  design_sound =
      let side = made_beside text top fine design flat in
      let count = nat_lt (length design.signals) 4294967295 in
      let named = length design.points == length design.lattice in
      let maps = list_all (map_sound design) design.maps in
      let signals = list_all (signal_sound design) design.signals in
      let bodies = list_all (process_sound design) design.processes in
      let invariants = list_all (invariant_sound design) design.invariants in
      and_from (count && named && maps && signals && bodies) invariants
      (and_from (count && named && maps && signals) bodies
      (and_from (count && named && maps) signals
      (and_from (count && named) maps
      (and_from count named (signals_few walked) (points_sound text top design side))
      (maps_sound text top design side))
      (signals_sound text top design side))
      (processes_sound text top design side (part_lengths walked) process_lengths))
      (subst (λ is. list_all (invariant_sound design) is ≡ true) (sym walked.invariants) refl)
