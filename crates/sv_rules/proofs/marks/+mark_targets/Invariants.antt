use Rattle.std.proofs.Common.{length, drop}
use Rattle.sv_flat.specs.Assigned.{assigns}
use Rattle.sv_flat.specs.Views.{flat_statements, chain_of}
use Rattle.sv_rules.specs.DriverTables.{IsSoundOver}
use Rattle.sv_graph.proofs.MarkFacts.{MarksSoFar}
use Rattle.sv_rules.proofs.marks.+mark_targets.Given as goal

abbrev pub invariant-mark_all_targets-loop-stmt : goal.invariant-mark_all_targets-loop-stmt
invariant-mark_all_targets-loop-stmt l =
    let left = chain_of (flat_statements (drop l.stmt-index l.stmts)) in
    IsSoundOver (length l.initial.table) left
    × MarksSoFar l.initial.table l.table (assigns (chain_of (flat_statements l.stmts)))
    (assigns left)
