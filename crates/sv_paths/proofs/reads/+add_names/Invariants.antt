use Rattle.std.proofs.Common.{◌≡◌, [], drop, fold, nat_cmp}
use Rattle.std.specs.BTreeSet.{insert_key}
use Rattle.sv_flat.specs.Readings.{parts_reads}
use Rattle.sv_flat.proofs.Parts.{trees}
use Rattle.sv_obl.specs.Routes.{signals_of_reads}
use Rattle.sv_paths.proofs.reads.+add_names.Given as goal

-- the names that are left, put into the set, give what all give
abbrev pub invariant-add_all_names-loop-expr : goal.invariant-add_all_names-loop-expr
invariant-add_all_names-loop-expr l =
    fold (insert_key nat_cmp) l.names.keys
    (signals_of_reads (parts_reads [] (trees (drop l.expr-index l.exprs))))
    ≡ fold (insert_key nat_cmp) l.initial.names.keys
    (signals_of_reads (parts_reads [] (trees l.exprs)))
