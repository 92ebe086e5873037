use Rattle.std.proofs.Common.{◌+◌, ◌*◌, ◌≤◌, drop}
use Rattle.sv_flat.specs.Views.{design_of, flat_statement, flat_statements, chain_of}
use Rattle.sv_flat.specs.declared.statements.FStmt.{size-FStmt}
use Rattle.sv_rules.specs.Surroundings.{in_surrounding}
use Rattle.sv_rules.proofs.ArmFacts.{ForwardArms}
use Rattle.sv_rules.proofs.Passes.{ForwardSoFar}
use Rattle.sv_rules.proofs.blocks.+forward.Given as goal

abbrev pub decreases-forward : goal.decreases-forward
decreases-forward l = 3 * size-FStmt l.stmt.now + 1

abbrev pub decreases-forward_plain : goal.decreases-forward_plain
decreases-forward_plain l = 3 * size-FStmt l.stmt.now

abbrev pub decreases-forward_all : goal.decreases-forward_all
decreases-forward_all l = 3 * goal.size-forward_all l + 2

-- what is left of the statement, which is no deeper, and the arms so far come to the whole
abbrev pub invariant-forward-loop-rest : goal.invariant-forward-loop-rest
invariant-forward-loop-rest l =
    ForwardArms (design_of l.flat).signals l.targets (in_surrounding l.assigned)
    (flat_statement l.fn.stmt) (flat_statement l.rest) l.common l.found
    × (size-FStmt l.rest ≤ size-FStmt l.fn.stmt)

abbrev pub invariant-forward_all-loop-stmt : goal.invariant-forward_all-loop-stmt
invariant-forward_all-loop-stmt l =
    ForwardSoFar (design_of l.flat).signals l.targets (in_surrounding l.assigned)
    (chain_of (flat_statements l.stmts))
    (chain_of (flat_statements (drop l.stmt-index l.stmts))) l.here l.found
