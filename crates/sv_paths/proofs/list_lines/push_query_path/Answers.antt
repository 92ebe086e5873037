use Rattle.std.proofs.Common.{◌≡◌, ◌∷◌, ◌++◌, List, ℕ, map, OnOk, ap, ap₂, subst, ◌∙◌}
use Rattle.std.specs.Prelude.{codes}
use Rattle.sv_flat.specs.ByNumber.{signal_forms}
use Rattle.sv_flat.specs.declared.signals.SigId.{SigId}
use Rattle.sv_obl.specs.declared.queries.PathStep.{PathStep}
use Rattle.sv_paths.specs.ListLines.{blanked, frame_word, step_word, right_word}
use Rattle.sv_obl.specs.SignalNames.{name_of}
use Rattle.sv_obl.specs.Views.{step_form, number_of}
use Rattle.sv_paths.specs.Written.{mark_word}
use Rattle.sv_paths.proofs.list_lines.push_query_path.Goals as goal

pub returns : goal.returns
returns c =
    let name = name_of (signal_forms c.args.signals.now) in
    let line = c.args.line.now.items in
    let words : List (List ℕ) → List SigId → List ℕ =
    λ conditions reads. line ++ blanked (name c.args.target.0 ∷ frame_word c.args.frame
    ∷ conditions ++ right_word c.args.query.now.right
    ∷ codes "reads" ∷ map name (map number_of reads)) in
    subst (λ z. OnOk c.push_flow.result (c.push_flow.new.line.items ≡ z))
    (ap₂ words
    (ap (map mark_word) c.deref.ensures.value ∙ c.in_ok-marks.ensures
    ∙ ap (λ (steps : List PathStep). map step_word (map step_form steps)) c.as_slice.ensures.value)
    c.as_slice-2.ensures.value)
    c.push_flow.ensures
