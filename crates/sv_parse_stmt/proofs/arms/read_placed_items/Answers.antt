use Rattle.sv_parse_expr.proofs.Halting.{passed}
use Rattle.sv_parse_stmt.proofs.ArmRuns.{not_default}
use Rattle.sv_parse_stmt.proofs.arms.read_placed_items.Goals as goal

pub returns-clause-items : goal.returns-clause-items
returns-clause-items c = not_default c.args.levels _ _ _ c.in_ok-items.ensures.is

-- ---- the machine of the grammar

pub returns-in_err-items-clause-halts : goal.returns-in_err-items-clause-halts
returns-in_err-items-clause-halts c = λ default comes none.
    passed _ _ _ c.from_residual.ensures.1 (c.in_err-items.ensures.halts default comes none)

pub returns-clause-reads : goal.returns-clause-reads
returns-clause-reads c = λ default comes none. c.in_ok-items.ensures.reads default comes none
