-- The labels of a text's cycle system are those that its signals have by their declarations.
use Rattle.std.proofs.Common.{◌≡◌, ℕ, List, map, Option, Some, sym, subst, ◌∙◌}
use Rattle.std.specs.Prelude.{◌↔◌, IsTrue, Contains}
use Rattle.sv_system.specs.System.{Environment}
use Rattle.sv_system.proofs.Lists.{Contains-from_map}
use Rattle.sv_ast.specs.Meaning.{label_in, at_path, system}
use Rattle.sv_ast.specs.Parts.{Path, PartSignal, signal_path}
use Rattle.sv_ast.specs.SourceLabels.{least, Flows}
use Rattle.sv_ast.specs.TextSystem.{text_system}
use Rattle.sv_ast.specs.Tree.{TextTree}
use Rattle.sv_flat.specs.Design.{FlatDesign}
use Rattle.sv_elab_rules.specs.Texts.{flat_of}
use Rattle.sv_elab_laws.specs.FlattenedTexts.{CanBeFlattened}
use Rattle.sv_elab_laws.specs.SideBySide.{text_signals, path_at}
use Rattle.sv_elab_laws.proofs.JoinedNumbers.{at_number, to_is, source_signals, flat_signals}
use Rattle.sv_elab_laws.proofs.JoinedNumbers.{same_signals, signal_below, signal_no_clock, said_at}
use Rattle.sv_elab_laws.proofs.PartsLists.{get_contains}
use Rattle.sv_elab_laws.proofs.PartsPaths.{same_member}
use Rattle.sv_elab_laws.proofs.PartsTexts.{SideBySide, side_by_side, paths_differ}
use Rattle.sv_run_laws.proofs.SourceLattices.{source_lattice, design_passes}

module _ (text : TextTree) (asked : Option (List ℕ)) (design : FlatDesign)
    (can : CanBeFlattened text) (flat : flat_of text asked ≡ Some design) where
  abbrev side : SideBySide text asked design
  side = side_by_side text asked can design flat

  abbrev all : List PartSignal
  all = text_signals text asked

  abbrev kept : List PartSignal
  kept = source_signals text asked design side

  abbrev to : ℕ → Path
  to = path_at all

  pub label_is_declared : (s : PartSignal) → Contains all s
      → Contains (text_system text asked).signals (signal_path s) → (e : Environment Path)
      → (text_system text asked).label (signal_path s) e ≡ label_in text e s
  unfolding system
  label_is_declared s among inside e =
      let listed : Contains (map to (flat_signals text asked design side)) (signal_path s) =
      subst (λ xs. Contains xs (signal_path s)) (same_signals text asked design side) inside in
      let k = Contains-from_map to (flat_signals text asked design side) (signal_path s) listed in
      let a = at_number text asked design side k.0 (signal_below text asked design side k.0 k.1) in
      let path : signal_path a.source ≡ signal_path s =
      sym (to_is text asked design side (signal_path a.source) k.0 a.number) ∙ k.2 in
      let same : a.source ≡ s =
      same_member signal_path all (paths_differ text asked design side) a.source s
      (get_contains all k.0 a.source a.source_at) among path in
      subst (λ x. at_path kept (label_in text e) (least text) x ≡ label_in text e s) k.2
      (subst (λ t. at_path kept (label_in text e) (least text) (to k.0) ≡ label_in text e t) same
      (said_at text asked design side (label_in text e) (least text) k.0 a
      (signal_no_clock text asked design side k.0 k.1)))

pub flows_are_declared : (text : TextTree) (asked : Option (List ℕ)) (design : FlatDesign)
    → flat_of text asked ≡ Some design → (a b : List ℕ)
    → IsTrue ((text_system text asked).flows a b) ↔ Flows text a b
unfolding system
flows_are_declared text asked design flat a b =
    let passes = (design_passes text asked design flat).0 in
    (source_lattice text passes.0 passes.1).by_pairs a b
