-- The design of a text that was read is sound.
use Rattle.std.proofs.Common.{◌≡◌, ℕ, List, Option, ap}
use Rattle.std.specs.Prelude.{Result, Ok, IfOk, IsTrue}
use Rattle.std.proofs.lemmas.Result.{IfOk-weaker}
use Rattle.sv_num.specs.declared.faults.Fault.{Fault}
use Rattle.sv_ast.specs.declared.modules.Text.{Text}
use Rattle.sv_ast.specs.Shape.{is_shaped}
use Rattle.sv_ast.specs.Views.{text_tree}
use Rattle.sv_flat.specs.Soundness.{sound}
use Rattle.sv_flat.specs.Views.{design_of}
use Rattle.sv_flat.specs.declared.designs.Flat.{Flat}
use Rattle.sv_elab_rules.specs.Texts.{walk_of, value_in}
use Rattle.sv_elab_laws.proofs.PartsShapes.{all_flattened}
use Rattle.sv_elab_laws.proofs.SoundDesigns.{design_sound}
use Rattle.sv_elab_laws.proofs.SoundWritten.{text_lengths, text_fits}

pub found_sound : (text : Text) (top : Option (List ℕ)) (result : Result Flat Fault)
    → IsTrue (is_shaped (text_tree text))
    → IfOk result (λ f. (walk_of (text_tree text) top).end ≡ Ok (design_of f))
    → IfOk result (λ f. IsTrue (sound (design_of f)))
found_sound text top result shaped found =
    IfOk-weaker result (λ f. (walk_of (text_tree text) top).end ≡ Ok (design_of f))
    (λ f. IsTrue (sound (design_of f)))
    (λ f h. design_sound (text_tree text) top (design_of f) shaped
    (all_flattened (text_tree text) shaped (text_fits text)) (text_lengths text)
    (ap value_in h)) found
