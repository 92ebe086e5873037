-- The flat design of a text has a top clock where it has a clock.
use Rattle.std.proofs.Common.{◌≡◌, ℕ, zero, suc, List, [], ◌++◌, map, Option, Some, None}
use Rattle.std.proofs.Common.{⊎_elim}
use Rattle.std.specs.Prelude.{◌↔◌, flat_map, Contains, IsTrue}
use Rattle.std.specs.Option.{option_map_or}
use Rattle.sv_system.proofs.Lists.{Contains-nil}
use Rattle.sv_ast.specs.Shape.{is_shaped}
use Rattle.sv_ast.specs.Tree.{ItemTree, instance_item, released, ModuleTree, TextTree}
use Rattle.sv_ast.specs.Instances.{top_module}
use Rattle.sv_ast.specs.Parts.{Part, part_with, child, most_levels, parts, PortLink, links_to}
use Rattle.sv_ast.specs.Parts.{links_of, parts_from}
use Rattle.sv_ast.specs.Processes.{Process, linking, item_processes, processes_from}
use Rattle.sv_flat.specs.Admission.{IsAdmitted}
use Rattle.sv_flat.specs.Clocks.{clocks}
use Rattle.sv_flat.specs.Design.{FlatDesign}
use Rattle.sv_flat.specs.SignalLists.{top_clock}
use Rattle.sv_flat.proofs.TopClocks.{no_top_no_clock, no_clock_no_top}
use Rattle.sv_elab_rules.specs.Texts.{flat_of}
use Rattle.sv_width.specs.WrittenLengths.{TextHasLengths}
use Rattle.sv_elab_laws.specs.FlattenedTexts.{ItemNumbersFit, EachItem}
use Rattle.sv_elab_laws.specs.SideBySide.{item_made, made_from, made_of}
use Rattle.sv_elab_laws.proofs.JoinedSources.{from_option, to_option, links_forth}
use Rattle.sv_flat.proofs.Members.{Contains-either as contains_either}
use Rattle.sv_flat.proofs.Members.{Contains-left as contains_left, Contains-right as contains_right}
use Rattle.sv_flat.proofs.Members.{from_flat_map, to_flat_map}
use Rattle.sv_elab_laws.proofs.PartsShapes.{all_flattened}
use Rattle.sv_elab_laws.proofs.PartsTexts.{made_beside}
use Rattle.sv_elab_laws.proofs.SoundDesigns.{design_sound}
use Rattle.sv_run_laws.proofs.LinkedNumbers.{links_lead_up}

-- ---- what the walk makes is of the text

module _ (modules : List ModuleTree) where
  made_is_process : (n : ℕ) (p : Part) (q : Process) → Contains (made_from n modules p) q →
      Contains (processes_from n modules p) q
  unfolding made_from processes_from
  made_is_process zero p q at = at
  made_is_process (suc n) p q at =
      let item = from_flat_map (item_made (made_from n modules) modules p) p.definition.items q
      at in
      to_flat_map (item_processes (processes_from n modules) modules p) p.definition.items item.0
      q item.1 (by_item item.0 item.2 (made_is_process n))
    where
      by_item : (item : ItemTree) → Contains (item_made (made_from n modules) modules p item) q
          → ((c : Part) (r : Process) → Contains (made_from n modules c) r
          → Contains (processes_from n modules c) r)
          → Contains (item_processes (processes_from n modules) modules p item) q
      by_item (instance_item i) inside deeper =
          let made : Part → List Process =
          λ c. map linking (links_to p c i) ++ made_from n modules c in
          let whole : Part → List Process =
          λ c. map linking (links_to p c i) ++ processes_from n modules c in
          let c = from_option made (child modules p i) q inside in
          to_option whole (child modules p i) c.0 q c.1 (⊎_elim
          (λ link. contains_left (map linking (links_to p c.0 i)) (processes_from n modules c.0) q
          link)
          (λ later. contains_right (map linking (links_to p c.0 i)) (processes_from n modules c.0)
          q (deeper c.0 q later))
          (contains_either (map linking (links_to p c.0 i)) (made_from n modules c.0) q c.2))
      by_item (released target e to) inside deeper = absurd (Contains-nil q inside)
      by_item item inside deeper = inside

made_links : (text : TextTree) (asked : Option (List ℕ)) (l : PortLink)
    → Contains (made_of text asked) (linking l)
    → Contains (flat_map (links_of text.modules) (parts text asked)) l
made_links text asked l = by_top (top_module text.modules asked)
  where
    by_top : (o : Option ModuleTree)
        → Contains (option_map_or (λ (m : ModuleTree).
        made_from most_levels text.modules (part_with [] [] m)) o []) (linking l)
        → Contains (flat_map (links_of text.modules) (option_map_or (λ (m : ModuleTree).
        parts_from most_levels text.modules (part_with [] [] m)) o [])) l
    by_top (Some m) at =
        links_forth text.modules most_levels (part_with [] [] m) l
        (made_is_process text.modules most_levels (part_with [] [] m) (linking l) at)
    by_top None at = absurd (Contains-nil (linking l) at)

-- ---- the top clock

pub text_top_clock : (text : TextTree) (asked : Option (List ℕ)) (design : FlatDesign)
    → IsTrue (is_shaped text) → EachItem ItemNumbersFit text → TextHasLengths text
    → flat_of text asked ≡ Some design → IsAdmitted design
    → top_clock design ≡ None ↔ (clocks design ≡ [])
text_top_clock text asked design shaped numbers lengths flat admitted =
    let fine = all_flattened text shaped numbers in
    let is_sound = design_sound text asked design shaped fine lengths flat in
    let up = links_lead_up text asked design (made_of text asked)
    (made_beside text asked fine design flat) (made_links text asked) in
    (no_top_no_clock design is_sound admitted up, no_clock_no_top design is_sound admitted up)
