use Rattle.std.proofs.Common.{◌+◌, ◌*◌, ◌≤◌, drop}
use Rattle.std.specs.Prelude.{IsTrue}
use Rattle.sv_flat.specs.Soundness.{statement_sound}
use Rattle.sv_flat.specs.Views.{design_of, flat_statement, flat_statements, chain_of}
use Rattle.sv_flat.specs.declared.statements.FStmt.{size-FStmt}
use Rattle.sv_rules.proofs.Passes.{AssignedSoFar}
use Rattle.sv_rules.proofs.blocks.+add_assigned.Given as goal

abbrev pub decreases-add_assigned : goal.decreases-add_assigned
decreases-add_assigned l = 3 * size-FStmt l.stmt.now + 1

abbrev pub decreases-add_assigned_plain : goal.decreases-add_assigned_plain
decreases-add_assigned_plain l = 3 * size-FStmt l.stmt.now

abbrev pub decreases-add_assigned_all : goal.decreases-add_assigned_all
decreases-add_assigned_all l = 3 * goal.size-add_assigned_all l + 2

-- the bits of the arms so far, and what is left of the statement, which is no deeper
abbrev pub invariant-add_assigned-loop-rest : goal.invariant-add_assigned-loop-rest
invariant-add_assigned-loop-rest l =
    AssignedSoFar l.initial.bits l.bits (flat_statement l.fn.stmt) (flat_statement l.rest)
    × IsTrue (statement_sound (design_of l.flat).signals (flat_statement l.rest))
    × (size-FStmt l.rest ≤ size-FStmt l.fn.stmt)

abbrev pub invariant-add_assigned_all-loop-stmt : goal.invariant-add_assigned_all-loop-stmt
invariant-add_assigned_all-loop-stmt l =
    AssignedSoFar l.initial.bits l.bits (chain_of (flat_statements l.stmts))
    (chain_of (flat_statements (drop l.stmt-index l.stmts)))
