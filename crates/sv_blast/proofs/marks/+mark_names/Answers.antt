use Rattle.std.proofs.Common.{◌==◌, [], ap, ◌∙◌, refl}
use Rattle.std.specs.List.{list_any}
use Rattle.sv_flat.specs.Readings.{ReadForm, names_signal}
use Rattle.sv_flat.specs.Views.{typed_tree, typed_trees}
use Rattle.sv_rules.proofs.NameFacts.{row_reads}
use Rattle.sv_graph.proofs.MarkFacts.{same_marked}
use Rattle.sv_blast.specs.NamedMarks.{is_named_in}
use Rattle.sv_blast.proofs.NameMarks.{all_named}
use Rattle.sv_blast.proofs.marks.+mark_names.Goals as goal

pub mark_names-returns-in-Join : goal.mark_names-returns-in-Join
mark_names-returns-in-Join t c =
    let parts = typed_trees c.deref-in-Join.result.now in
    same_marked c.args.table.now c.mark_all_names.new.table (is_named_in parts)
    (names_signal [] (typed_tree c.args.expr.now))
    (λ s. all_named parts s
    ∙ ap (list_any (λ (r : ReadForm). r.signal == s))
    (row_reads [] c.in-Join.parts c.deref-in-Join.ensures.value c.in-Join.is refl))
    c.mark_all_names.ensures

pub mark_names-returns-in-Repeat : goal.mark_names-returns-in-Repeat
mark_names-returns-in-Repeat t c =
    let parts = typed_trees c.deref-in-Repeat.result.now in
    same_marked c.args.table.now c.mark_all_names-in-Repeat.new.table (is_named_in parts)
    (names_signal [] (typed_tree c.args.expr.now))
    (λ s. all_named parts s
    ∙ ap (list_any (λ (r : ReadForm). r.signal == s))
    (row_reads [] c.in-Repeat.parts c.deref-in-Repeat.ensures.value c.in-Repeat.is refl))
    c.mark_all_names-in-Repeat.ensures
