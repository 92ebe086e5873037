use Rattle.std.proofs.Common.{rules, tests, sym, ◌∙◌}
use Rattle.std.proofs.lemmas.Iterator.{YieldsList-from_slice}
use Rattle.std.proofs.lemmas.Iterator.Search.{all_from_yields_List}
use Rattle.std.proofs.lemmas.List.Folds.{list_all-map}
use Rattle.sv_flat.specs.declared.designs.Process.{Process}
use Rattle.sv_flat.specs.Soundness.{process_sound}
use Rattle.sv_flat.specs.Views.{design_of, process_form}
use Rattle.sv_flat.proofs.soundness.are_processes_sound.Goals as goal

pub returns : goal.returns
returns c =
    let test = process_sound (design_of c.args.flat.now) in
    let processes = c.args.flat.now.processes.items in
    all_from_yields_List (λ (p : Process). test (process_form p)) _ _ c.all.result
    c.all.ensures.ran (YieldsList-from_slice processes cc) (λ x b q k. search (rules, tests))
    ∙ sym (list_all-map test process_form processes)
