use Rattle.std.proofs.Common.{◌+◌, ◌*◌, ◌≤◌, drop}
use Rattle.sv_flat.specs.declared.statements.FStmt.{size-FStmt}
use Rattle.sv_flat.specs.Views.{flat_statement, flat_statements, chain_of}
use Rattle.sv_obl.specs.IndexedArms.{AreArms}
use Rattle.sv_obl.specs.IndexedStatements.{SoFar}
use Rattle.sv_obl.proofs.indexed.+indexed.Given as goal

abbrev pub decreases-indexed_of : goal.decreases-indexed_of
decreases-indexed_of l = 3 * size-FStmt l.stmt.now + 1

abbrev pub decreases-indexed_plain : goal.decreases-indexed_plain
decreases-indexed_plain l = 3 * size-FStmt l.stmt.now

abbrev pub decreases-indexed_parts : goal.decreases-indexed_parts
decreases-indexed_parts l = 3 * goal.size-indexed_parts l + 2

-- what is left of the statement, which is no deeper, and the arms so far come to the whole
abbrev pub invariant-indexed_of-loop-rest : goal.invariant-indexed_of-loop-rest
invariant-indexed_of-loop-rest l =
    AreArms l.arms.items (flat_statement l.rest) (flat_statement l.fn.stmt)
    × (size-FStmt l.rest ≤ size-FStmt l.fn.stmt)

-- those so far, and the statements that are left
abbrev pub invariant-indexed_parts-loop-stmt : goal.invariant-indexed_parts-loop-stmt
invariant-indexed_parts-loop-stmt l =
    SoFar (chain_of (flat_statements l.stmts))
    (chain_of (flat_statements (drop l.stmt-index l.stmts))) l.parts.items
