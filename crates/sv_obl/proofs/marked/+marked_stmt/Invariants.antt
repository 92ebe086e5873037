use Rattle.std.proofs.Common.{◌+◌, ◌*◌, ◌-◌, ◌≤◌, length, drop}
use Rattle.sv_flat.specs.ByNumber.{signal_forms}
use Rattle.sv_flat.specs.Views.{flat_statement, flat_statements, chain_of}
use Rattle.sv_flat.specs.declared.statements.FStmt.{size-FStmt}
use Rattle.sv_rules.specs.Surroundings.{in_surrounding}
use Rattle.sv_obl.proofs.MarkedArmFacts.{OpenArms}
use Rattle.sv_obl.proofs.MarkedFacts.{BlockAt}
use Rattle.sv_obl.proofs.marked.+marked_stmt.Given as goal

abbrev pub decreases-marked_stmt : goal.decreases-marked_stmt
decreases-marked_stmt l = 3 * size-FStmt l.stmt.now + 1

abbrev pub decreases-marked_plain : goal.decreases-marked_plain
decreases-marked_plain l = 3 * size-FStmt l.stmt.now

abbrev pub decreases-marked_block : goal.decreases-marked_block
decreases-marked_block l = 3 * goal.size-marked_block l + 2

-- what is left of the statement, which is no deeper, and the arms so far come to the whole
abbrev pub invariant-marked_stmt-loop-rest : goal.invariant-marked_stmt-loop-rest
invariant-marked_stmt-loop-rest l =
    OpenArms (signal_forms l.signals) (in_surrounding l.later) (flat_statement l.fn.stmt)
    (flat_statement l.rest) l.arms.items
    × (size-FStmt l.rest ≤ size-FStmt l.fn.stmt)

-- the last statements, with the bits that they can assign
abbrev pub invariant-marked_block-loop-i : goal.invariant-marked_block-loop-i
invariant-marked_block-loop-i l =
    BlockAt (signal_forms l.signals) (in_surrounding l.later) l.parts.items
    (chain_of (flat_statements (drop (length l.stmts - l.i) l.stmts))) l.here
