use Rattle.std.proofs.Common.{◌≡◌, [], fold, nat_cmp, subst, refl}
use Rattle.std.specs.Prelude.{OnOk}
use Rattle.std.specs.BTreeSet.{insert_key}
use Rattle.sv_rules.proofs.NameFacts.{row_reads}
use Rattle.sv_obl.specs.Routes.{signals_of_reads}
use Rattle.sv_paths.proofs.reads.+add_names.Goals as goal

pub add_names-returns-in-Join : goal.add_names-returns-in-Join
add_names-returns-in-Join t c =
    subst (λ rs. OnOk c.add_all_names.result (c.add_all_names.new.names.keys
    ≡ fold (insert_key nat_cmp) c.args.names.now.keys (signals_of_reads rs)))
    (row_reads [] c.in-Join.parts c.deref-in-Join.ensures.value c.in-Join.is refl)
    c.add_all_names.ensures

pub add_names-returns-in-Repeat : goal.add_names-returns-in-Repeat
add_names-returns-in-Repeat t c =
    subst (λ rs. OnOk c.add_all_names-in-Repeat.result (c.add_all_names-in-Repeat.new.names.keys
    ≡ fold (insert_key nat_cmp) c.args.names.now.keys (signals_of_reads rs)))
    (row_reads [] c.in-Repeat.parts c.deref-in-Repeat.ensures.value c.in-Repeat.is refl)
    c.add_all_names-in-Repeat.ensures
