use Rattle.std.proofs.Common.{[], ap, ◌∙◌, refl}
use Rattle.std.specs.List.{list_any}
use Rattle.sv_rules.proofs.NameFacts.{row_reads}
use Rattle.sv_paths.specs.PutIn.{is_put_at}
use Rattle.sv_obl.specs.Routes.{signals_of_reads}
use Rattle.sv_paths.proofs.exchange.+names_put.Goals as goal

pub names_put-returns-in-Join : goal.names_put-returns-in-Join
names_put-returns-in-Join t c =
    c.some_names_put.ensures
    ∙ ap (λ rs. list_any (is_put_at c.args.count c.args.put) (signals_of_reads rs))
    (row_reads [] c.in-Join.parts c.deref-in-Join.ensures.value c.in-Join.is refl)

pub names_put-returns-in-Repeat : goal.names_put-returns-in-Repeat
names_put-returns-in-Repeat t c =
    c.some_names_put-in-Repeat.ensures
    ∙ ap (λ rs. list_any (is_put_at c.args.count c.args.put) (signals_of_reads rs))
    (row_reads [] c.in-Repeat.parts c.deref-in-Repeat.ensures.value c.in-Repeat.is refl)
