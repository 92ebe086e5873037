use Rattle.std.proofs.Common.{◌≡◌, length, ap, ◌∙◌, rules}
use Rattle.std.specs.Prelude.{find}
use Rattle.std.proofs.iter.Serving.{serving}
use Rattle.std.proofs.lemmas.Iterator.{YieldsList-from_slice}
use Rattle.std.proofs.lemmas.Iterator.Search.{find_from_yields_List}
use Rattle.sv_flat.specs.ByNumber.{by_number}
use Rattle.sv_flat.specs.FlatSystem.{flat_system}
use Rattle.sv_flat.specs.declared.signals.SigId.{SigId}
use Rattle.sv_flat.specs.Views.{design_of}
use Rattle.sv_design.specs.Numbers.{number_if_any}
use Rattle.sv_sim.proofs.ListedSignals.{all_inside, find_numbers}
use Rattle.sv_tworun.specs.Sights.{differs}
use Rattle.sv_tworun.proofs.sights.first_apart.Goals as goal
use borrow.Author.Tests.{tests}

pub find-requires-clause-callable : goal.find-requires-clause-callable
find-requires-clause-callable c =
    let each = all_inside (length c.args.design.now.signals.items) c.args.listed.now
    c.requires.listed in
    grind (serving, each)

pub returns : goal.returns
returns c =
    let test = differs (flat_system (design_of c.args.design.now)) c.args.level
    (by_number c.args.first.now) (by_number c.args.second.now) in
    let found = find_from_yields_List (λ (s : SigId). test s.0) _ _ c.find.result
    c.find.ensures.ran (YieldsList-from_slice c.args.listed.now cc)
    (λ x b q k. search (rules, tests)) in
    let copied : c.copied.result ≡ find (λ (s : SigId). test s.0) c.args.listed.now =
    search (rules, found) in
    ap number_if_any copied ∙ find_numbers test c.args.listed.now
