use Rattle.std.proofs.Common.{◌≡◌, [], drop}
use Rattle.std.specs.List.{list_any}
use Rattle.sv_flat.specs.Readings.{parts_reads}
use Rattle.sv_flat.proofs.Parts.{trees}
use Rattle.sv_paths.specs.PutIn.{is_put_at}
use Rattle.sv_obl.specs.Routes.{signals_of_reads}
use Rattle.sv_paths.proofs.exchange.+names_put.Given as goal

-- those that are left tell as all do
abbrev pub invariant-some_names_put-loop-expr : goal.invariant-some_names_put-loop-expr
invariant-some_names_put-loop-expr l =
    list_any (is_put_at l.count l.put)
    (signals_of_reads (parts_reads [] (trees (drop l.expr-index l.exprs))))
    ≡ list_any (is_put_at l.count l.put) (signals_of_reads (parts_reads [] (trees l.exprs)))
