use Rattle.std.proofs.Common.{◌≡◌, None, length, min, sym, ap, ap₂, subst, ◌∙◌, lt-ltb, rules}
use Rattle.sv_obl.specs.MarkedBodies.{IsMarkedFor}
use Rattle.sv_flat.specs.ByNumber.{signal_forms}
use Rattle.sv_flat.specs.Values.{signal_width}
use Rattle.sv_flat.specs.Views.{design_of}
use Rattle.sv_obl.specs.BodySlices.{slice_statement}
use Rattle.sv_obl.proofs.OneDriver.{no_driver}
use Rattle.sv_encoding.specs.Sizes.{size_of_first}
use Rattle.sv_blast.specs.SliceSizes.{slice_size}
use Rattle.sv_blast.proofs.KnownSignals.{known_signal}
use Rattle.sv_blast.proofs.TargetSizes.{slice_takes}
use Rattle.sv_blast.proofs.sizes_of_signals.signal_size.Goals as goal

pub returns : goal.returns
returns c =
    let design = design_of c.args.design.now in
    let s = c.args.signal.0 in
    let slice = slice_statement c.in_ok-slice.slice in
    let signals = c.signals-signals.ensures.signals in
    let is = c.signals-signals.ensures.design in
    c.slice_size.ensures
    ∙ ap (λ n. min n 4194305)
    (ap₂ (λ forms width. slice_size forms width slice) (ap signal_forms signals)
    (c.width_of.ensures ∙ ap (λ ss. signal_width (signal_forms ss) s) signals)
    ∙ slice_takes design is.is_sound is.is_admitted s
    (known_signal c.args.design.now s c.requires.known)
    (subst (IsMarkedFor design s) c.in_default.is c.marked.ensures.body) slice c.in_ok-slice.ensures)

pub returns-then-is_none : goal.returns-then-is_none
returns-then-is_none c =
    let flat = c.args.design.now in
    let design = design_of flat in
    let s = c.args.signal.0 in
    let is = c.driver.ensures.design in
    let none : c.driver.result ≡ None = search rules in
    let alone = no_driver design is.is_sound is.is_admitted s
    (lt-ltb s (length design.signals) (known_signal flat s c.requires.known))
    (sym c.driver.ensures.driver ∙ none) in
    ap (λ ps. min (size_of_first design s ps) 4194305) (sym alone)
