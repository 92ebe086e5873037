use Rattle.std.proofs.Common.{◌≡◌, ◌++◌, ◌+◌, ◌*◌, ◌≤◌, drop}
use Rattle.sv_flat.specs.declared.statements.FStmt.{size-FStmt}
use Rattle.sv_flat.specs.Branches.{branches_around}
use Rattle.sv_flat.specs.Views.{flat_statement, flat_statements}
use Rattle.sv_flat.proofs.statements.+statement_copy.Given as goal

abbrev pub decreases-FStmt::copy : goal.decreases-FStmt::copy
decreases-FStmt::copy l = 4 * size-FStmt l.self.now + 1

abbrev pub decreases-boxed : goal.decreases-boxed
decreases-boxed l = 4 * size-FStmt l.stmt.now + 2

abbrev pub decreases-plain_copy : goal.decreases-plain_copy
decreases-plain_copy l = 4 * size-FStmt l.stmt.now

abbrev pub decreases-copies : goal.decreases-copies
decreases-copies l = 4 * goal.size-copies l + 3

-- what is left of the statement, which is no deeper, and the arms so far come to the whole
abbrev pub invariant-FStmt::copy-loop-rest : goal.invariant-FStmt::copy-loop-rest
invariant-FStmt::copy-loop-rest l =
    branches_around l.arms.items (flat_statement l.rest) ≡ flat_statement l.fn.self
    × (size-FStmt l.rest ≤ size-FStmt l.fn.self)

-- the copies so far and the statements that are left have the plain forms of all
abbrev pub invariant-copies-loop-stmt : goal.invariant-copies-loop-stmt
invariant-copies-loop-stmt l =
    flat_statements l.copies.items ++ flat_statements (drop l.stmt-index l.stmts) ≡
    flat_statements l.stmts
