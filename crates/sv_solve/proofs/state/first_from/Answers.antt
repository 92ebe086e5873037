use Rattle.std.proofs.Common.{rules, arith}
use Rattle.std.proofs.lemmas.Grind.{common_steps}
use Rattle.std.proofs.lemmas.Bool.{ltb-true, ltb-false}
use Rattle.std.proofs.lemmas.List.Sorted.{IsPartitionPoint-from_clause}
use Rattle.sv_solve.proofs.Ascending.{below_first}
use Rattle.sv_solve.proofs.state.first_from.Goals as goal
use lib.Dec.{ltb}

pub returns-clause-below : goal.returns-clause-below
returns-clause-below c k d small =
    let point = IsPartitionPoint-from_clause (λ x. ltb x c.args.keep) _ _
    c.partition_point.ensures.partitioned (below_first _ c.args.keep c.requires)
    (λ a r q k. search rules) in
    grind (arith, common_steps, point.0 k d, ltb-true)

pub returns-clause-from : goal.returns-clause-from
returns-clause-from c some =
    let point = IsPartitionPoint-from_clause (λ x. ltb x c.args.keep) _ _
    c.partition_point.ensures.partitioned (below_first _ c.args.keep c.requires)
    (λ a r q k. search rules) in
    ltb-false _ _ (point.1 c.partition_point.result 0 (omega arith) some)
