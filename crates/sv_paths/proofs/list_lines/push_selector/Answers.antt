use Rattle.std.proofs.Common.{◌≡◌, ◌∷◌, ◌++◌, map, OnOk, ap, subst, ◌∙◌}
use Rattle.std.specs.Prelude.{codes}
use Rattle.sv_flat.specs.ByNumber.{signal_forms}
use Rattle.sv_paths.specs.ListLines.{blanked}
use Rattle.sv_obl.specs.SignalNames.{name_of}
use Rattle.sv_obl.specs.Views.{number_of}
use Rattle.sv_paths.proofs.ListLineFacts.{selector_words}
use Rattle.sv_paths.proofs.list_lines.push_selector.Goals as goal

pub returns : goal.returns
returns c =
    let forms = signal_forms c.args.signals.now in
    let line = c.args.line.now.items in
    let name = name_of forms c.args.signal.0 in
    subst (λ z. OnOk c.push_reads.result (c.push_reads.new.line.items ≡ z))
    (ap (λ x. x ++ blanked
    (codes "reads" ∷ map (name_of forms) (map number_of c.as_slice.result.now)))
    (c.in_ok-push_word-2.ensures
    ∙ ap (λ x. x ++ codes " " ++ codes "selector") (c.in_ok-push_word.ensures
    ∙ ap (λ x. x ++ codes " " ++ codes "now") c.in_ok-push_name.ensures))
    ∙ selector_words line name (codes "now") (codes "selector")
    (codes "reads" ∷ map (name_of forms) (map number_of c.as_slice.result.now))
    ∙ ap (λ xs. line ++ blanked
    (name ∷ codes "now" ∷ codes "selector" ∷ codes "reads" ∷
    map (name_of forms) (map number_of xs)))
    c.as_slice.ensures.value)
    c.push_reads.ensures
