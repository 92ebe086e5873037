use Rattle.std.proofs.Common.{◌≡◌, ◌++◌, [], drop}
use Rattle.sv_flat.specs.Readings.{parts_reads}
use Rattle.sv_flat.proofs.Parts.{trees}
use Rattle.sv_obl.specs.Routes.{signals_of_reads}
use Rattle.sv_obl.proofs.names.+push_names.Given as goal

-- the names so far, and those that are left
abbrev pub invariant-push_all_names-loop-expr : goal.invariant-push_all_names-loop-expr
invariant-push_all_names-loop-expr l =
    l.names.items ++ signals_of_reads (parts_reads [] (trees (drop l.expr-index l.exprs)))
    ≡ l.initial.names.items ++ signals_of_reads (parts_reads [] (trees l.exprs))
