use Rattle.std.proofs.Common.{◌<◌, length, map, sym, ap, subst, ◌∙◌}
use Rattle.std.specs.Prelude.{IsTrue}
use Rattle.sv_flat.specs.Soundness.{label_sound}
use Rattle.sv_flat.specs.Values.{signal_of}
use Rattle.sv_flat.specs.Views.{design_of, signal_form}
use Rattle.sv_flat.proofs.SelectorBounds.{label_here, label_is_sound}
use Rattle.sv_obl.proofs.FormLists.{length_mapped}
use Rattle.sv_paths.proofs.selectors.add_selector.Goals as goal

pub flows_to_map-requires-clause-label : goal.flows_to_map-requires-clause-label
flows_to_map-requires-clause-label c =
    let design = design_of c.args.design.now in
    let s = c.args.selector in
    let items = c.signals.result.now in
    let inside : s < length items =
    subst (λ xs. s < length xs) (sym c.signals.ensures.signals) c.requires.selector in
    let below : s < length design.signals =
    subst (λ n. s < n) (sym (length_mapped signal_form c.args.design.now.signals.items))
    c.requires.selector in
    subst (λ l. IsTrue (label_sound design l))
    (ap (λ xs. (signal_of (map signal_form xs) s).label) (sym c.signals.ensures.signals)
    ∙ label_here items s c.index-signals-selector.result inside)
    (label_is_sound design c.signals.ensures.design.is_sound s below)
