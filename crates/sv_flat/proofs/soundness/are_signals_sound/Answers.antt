use Rattle.std.proofs.Common.{rules, tests, sym, ◌∙◌}
use Rattle.std.proofs.lemmas.Iterator.{YieldsList-from_slice}
use Rattle.std.proofs.lemmas.Iterator.Search.{all_from_yields_List}
use Rattle.std.proofs.lemmas.List.Folds.{list_all-map}
use Rattle.sv_flat.specs.declared.signals.Signal.{Signal}
use Rattle.sv_flat.specs.Soundness.{signal_sound}
use Rattle.sv_flat.specs.Views.{design_of, signal_form}
use Rattle.sv_flat.proofs.soundness.are_signals_sound.Goals as goal

pub returns : goal.returns
returns c =
    let test = signal_sound (design_of c.args.flat.now) in
    let signals = c.args.flat.now.signals.items in
    all_from_yields_List (λ (s : Signal). test (signal_form s)) _ _ c.all.result c.all.ensures.ran
    (YieldsList-from_slice signals cc) (λ x b q k. search (rules, tests))
    ∙ sym (list_all-map test signal_form signals)
