use Rattle.std.proofs.Common.{drop}
use Rattle.sv_flat.specs.Views.{typed_trees}
use Rattle.sv_graph.proofs.MarkFacts.{MarksSoFar}
use Rattle.sv_blast.specs.NamedMarks.{is_named_in}
use Rattle.sv_blast.proofs.marks.+mark_names.Given as goal

abbrev pub invariant-mark_all_names-loop-expr : goal.invariant-mark_all_names-loop-expr
invariant-mark_all_names-loop-expr l =
    MarksSoFar l.initial.table l.table (is_named_in (typed_trees l.exprs))
    (is_named_in (typed_trees (drop l.expr-index l.exprs)))
