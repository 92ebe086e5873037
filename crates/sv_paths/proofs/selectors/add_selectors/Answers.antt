use Rattle.std.proofs.Common.{◌<◌, length, map, sym, ap, subst, ◌∙◌}
use Rattle.std.specs.Prelude.{IsTrue}
use Rattle.sv_flat.specs.Soundness.{label_sound}
use Rattle.sv_flat.specs.Values.{signal_of}
use Rattle.sv_flat.specs.Views.{design_of, signal_form}
use Rattle.sv_flat.proofs.SelectorBounds.{label_here, label_is_sound}
use Rattle.sv_obl.proofs.FormLists.{length_mapped}
use Rattle.sv_paths.proofs.selectors.add_selectors.Goals as goal

pub add_of_label-requires : goal.add_of_label-requires
add_of_label-requires c =
    let design = design_of c.args.design.now in
    let s = c.args.signal.0 in
    let items = c.signals.result.now in
    let inside : s < length items =
    subst (λ xs. s < length xs) (sym c.signals.ensures.signals) c.requires in
    let below : s < length design.signals =
    subst (λ n. s < n) (sym (length_mapped signal_form c.args.design.now.signals.items))
    c.requires in
    subst (λ l. IsTrue (label_sound design l))
    (ap (λ xs. (signal_of (map signal_form xs) s).label) (sym c.signals.ensures.signals)
    ∙ label_here items s c.index-signals-signal.result inside)
    (label_is_sound design c.signals.ensures.design.is_sound s below)
