-- From a flat design to its text, and from a text to its bytes.
use Rattle.std.specs.Prelude.{◌≡◌, ℕ, List, [], Option, Some}
use Rattle.sv_system.specs.System.{Noninterferent, HasOneTrace}
use Rattle.sv_system.proofs.JoinedTraces.{joined_one_trace}
use Rattle.sv_system.proofs.JoinedViews.{joined_noninterferent}
use Rattle.sv_ast.specs.GrammarMeaning.{Means}
use Rattle.sv_ast.specs.TextSystem.{text_system}
use Rattle.sv_ast.specs.Tree.{TextTree}
use Rattle.sv_flat.specs.Admission.{IsAdmitted}
use Rattle.sv_flat.specs.Design.{FlatDesign}
use Rattle.sv_flat.specs.FlatSystem.{flat_system}
use Rattle.sv_parse_machine.proofs.ShapedTexts.{tree_is_shaped}
use Rattle.sv_elab_rules.specs.Texts.{flat_of}
use Rattle.sv_elab_laws.specs.FlattenedTexts.{CanBeFlattened, EachItem, ReleasesNothing}
use Rattle.sv_elab_laws.proofs.JoinedWhole.{flattened_joined}
use Rattle.sv_obl.specs.Validity.{AllValid}
use Rattle.sv_obl.proofs.GuardedDesigns.{noninterferent_plain}
use Rattle.sv_sim.proofs.OneDesign.{design_has_one_trace}
use Rattle.sv_run_laws.proofs.CheckedDesigns.{admitted_checked}
use Rattle.sv_run_laws.proofs.FineTexts.{written_fine}

pub read_flattened : (bytes : List ℕ) (text : TextTree) → Means bytes text
    → EachItem ReleasesNothing text
    → CanBeFlattened text
read_flattened bytes text means releases =
    let written = written_fine bytes text means in
    record {
      shaped = tree_is_shaped means.0 text means.2;
      releases = releases;
      numbers = written.1;
      lengths = written.0;
    }

module _ (text : TextTree) (asked : Option (List ℕ)) (design : FlatDesign)
    (can : CanBeFlattened text) (flat : flat_of text asked ≡ Some design)
    (admitted : IsAdmitted design) where
  pub valid_noninterferent : AllValid [] design → Noninterferent (text_system text asked)
  valid_noninterferent valid =
      joined_noninterferent (flat_system design) (text_system text asked)
      (flattened_joined text asked design can flat admitted)
      (noninterferent_plain design (admitted_checked text asked design can flat admitted) valid)

  pub admitted_one_trace : HasOneTrace (text_system text asked)
  admitted_one_trace =
      let checked = admitted_checked text asked design can flat admitted in
      joined_one_trace (flat_system design) (text_system text asked)
      (flattened_joined text asked design can flat admitted)
      (design_has_one_trace design checked.is_sound admitted)
