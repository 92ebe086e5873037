use Rattle.std.proofs.Common.{◌≡◌, ◌++◌, [], subst, refl}
use Rattle.std.specs.Prelude.{OnOk}
use Rattle.sv_rules.proofs.NameFacts.{row_reads}
use Rattle.sv_obl.specs.Routes.{signals_of_reads}
use Rattle.sv_obl.proofs.names.+push_names.Goals as goal

pub push_names-returns-in-Join : goal.push_names-returns-in-Join
push_names-returns-in-Join t c =
    subst (λ rs. OnOk c.push_all_names.result (c.push_all_names.new.names.items
    ≡ c.args.names.now.items ++ signals_of_reads rs))
    (row_reads [] c.in-Join.parts c.deref-in-Join.ensures.value c.in-Join.is refl)
    c.push_all_names.ensures

pub push_names-returns-in-Repeat : goal.push_names-returns-in-Repeat
push_names-returns-in-Repeat t c =
    subst (λ rs. OnOk c.push_all_names-in-Repeat.result (c.push_all_names-in-Repeat.new.names.items
    ≡ c.args.names.now.items ++ signals_of_reads rs))
    (row_reads [] c.in-Repeat.parts c.deref-in-Repeat.ensures.value c.in-Repeat.is refl)
    c.push_all_names-in-Repeat.ensures
