use Rattle.std.proofs.Common.{[], ◌∷◌}
use Rattle.sv_token.specs.declared.signs.SignKind.TheVariants as signs
use Rattle.sv_parse_machine.specs.Symbols.{outer, punctuation, expression}
use Rattle.sv_parse_expr.proofs.Halting.{passed}
use Rattle.sv_parse_expr.proofs.ReadingRuns.{then_stop}
use Rattle.sv_parse_stmt.proofs.ReadingAssignments.{continuous_is}
use Rattle.sv_parse_stmt.proofs.assignments.read_assignment.Goals as goal

pub returns-clause-is : goal.returns-clause-is
returns-clause-is c =
    continuous_is _ _ _ _ _ _ c.in_ok-targets.ensures.is
    (c.in_ok-rest.ensures.is c.args.input.bytes.now) c.in_ok-item.ensures.is

pub returns-in_err-rest-clause-halts : goal.returns-in_err-rest-clause-halts
returns-in_err-rest-clause-halts c =
    passed _ _ _ c.from_residual-in_err-rest.ensures.1
    (then_stop _ (outer (punctuation signs.Equals) ∷ []) (outer (expression 0) ∷ []) _ _ _
    c.in_ok-targets.ensures.reads (c.in_err-rest.ensures.halts c.args.input.bytes.now))
