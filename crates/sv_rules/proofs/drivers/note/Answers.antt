use Rattle.std.proofs.Common.{length, ap₂, refl, ◌∙◌, None}
use Rattle.std.proofs.lemmas.List.{get_or_default}
use Rattle.sv_rules.specs.DriverTables.{noted}
use Rattle.sv_rules.proofs.NoteFacts.{one_noted}
use Rattle.sv_rules.proofs.drivers.note.Goals as goal

pub returns-clause-notes : goal.returns-clause-notes
returns-clause-notes c =
    one_noted (length c.args.drivers.now.first.items) c.args.drivers.now _ c.args.signal.0
    c.args.driver _ _
    c.requires.first c.requires.second refl refl
    (c.with_driver-first.ensures
    ∙ ap₂ (λ f g. noted f g c.args.driver)
    (c.index.ensures ∙ get_or_default c.args.drivers.now.first.items c.args.signal.0
    c.index.result.now None c.requires.first)
    (c.index-2.ensures ∙ get_or_default c.args.drivers.now.second.items c.args.signal.0
    c.index-2.result.now None c.requires.second))
