use Rattle.std.proofs.Common.{[], ◌∷◌, arith}
use Rattle.sv_parse_machine.specs.Symbols.{outer, expression}
use Rattle.sv_parse_expr.proofs.Halting.{passed}
use Rattle.sv_parse_expr.proofs.ReadingRuns.{then_read, then_stop}
use Rattle.sv_parse_stmt.specs.ReadingArms.{behind_items}
use Rattle.sv_parse_stmt.proofs.ArmRuns.{arm_begins, arm_stops}
use Rattle.sv_parse_stmt.proofs.arms.read_first_item.Goals as goal

pub returns-in_err-item-clause-halts : goal.returns-in_err-item-clause-halts
returns-in_err-item-clause-halts c = λ default comes none.
    passed _ _ _ c.from_residual.ensures.1
    (then_stop _ (outer (expression c.args.levels) ∷ [])
    (behind_items c.args.levels c.args.before default) _ _ _
    (arm_begins c.args.levels c.args.before default _ (omega (arith, c.if-before-lt-MOST_ARMS.true))
    comes none) c.in_err-item.ensures.halts)

pub returns-then-before-lt-MOST_ARMS-clause-reads :
    goal.returns-then-before-lt-MOST_ARMS-clause-reads
returns-then-before-lt-MOST_ARMS-clause-reads c = λ default comes none.
    then_read _ (outer (expression c.args.levels) ∷ [])
    (behind_items c.args.levels c.args.before default) _ _ _
    (arm_begins c.args.levels c.args.before default _ (omega (arith, c.if-before-lt-MOST_ARMS.true))
    comes none) c.in_ok-item.ensures.reads

pub returns-in_err-item-2-clause-halts : goal.returns-in_err-item-2-clause-halts
returns-in_err-item-2-clause-halts c = λ default comes none.
    passed _ _ _ c.from_residual-in_err-item-2.ensures.1
    (arm_stops c.args.input.bytes.now c.args.input.rest.now c.args.levels c.args.before default _
    c.if-before-lt-MOST_ARMS.false comes none c.in_err-item-2.ensures.halts)
