use Rattle.std.proofs.Common.{◌≡◌, ℕ, not, length, ap, ◌∙◌, rules}
use Rattle.std.specs.Prelude.{find}
use Rattle.std.proofs.iter.Serving.{serving}
use Rattle.std.proofs.lemmas.Iterator.{YieldsList-from_slice}
use Rattle.std.proofs.lemmas.Iterator.Search.{find_from_yields_List}
use Rattle.sv_flat.specs.ByNumber.{by_number}
use Rattle.sv_flat.specs.FlatSystem.{flat_system}
use Rattle.sv_flat.specs.declared.signals.SigId.{SigId}
use Rattle.sv_flat.specs.Views.{design_of}
use Rattle.sv_design.specs.Numbers.{number_if_any}
use Rattle.sv_sim.proofs.ListedSignals.{all_inside, find_numbers}
use Rattle.sv_report.proofs.reads.first_staying.Goals as goal
use borrow.Author.Tests.{tests}

pub find-requires-clause-callable : goal.find-requires-clause-callable
find-requires-clause-callable c =
    let each = all_inside (length c.args.design.now.signals.items) c.args.reads.now
    c.requires.known in
    grind (serving, each)

pub returns : goal.returns
returns c =
    let system = flat_system (design_of c.args.design.now) in
    let e = by_number c.args.values.now in
    let test = λ (s : ℕ). not (system.flows (system.label s e) c.args.point) in
    let found = find_from_yields_List (λ (s : SigId). test s.0) _ _ c.find.result
    c.find.ensures.ran (YieldsList-from_slice c.args.reads.now cc)
    (λ x b q k. search (rules, tests)) in
    let copied : c.copied.result ≡ find (λ (s : SigId). test s.0) c.args.reads.now =
    search (rules, found) in
    ap number_if_any copied ∙ find_numbers test c.args.reads.now
