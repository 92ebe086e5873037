use Rattle.sv_parse_machine.proofs.ReadSteps.{reads_then}
use Rattle.sv_parse_expr.proofs.Halting.{passed, stops_then, stops_before}
use Rattle.sv_parse_expr.proofs.ReadingLists.{list_is}
use Rattle.sv_parse_expr.proofs.ReadingRuns.{list_begun}
use Rattle.sv_parse_expr.proofs.lists.read_list.Goals as goal

pub returns-clause-is : goal.returns-clause-is
returns-clause-is g c = list_is _ _ _ _ _ _ _ _ c.in_ok-first.ensures.is c.in_ok-items.ensures.is

pub returns-clause-reads : goal.returns-clause-reads
returns-clause-reads g c = λ more others on all begins.
    reads_then _ more more _ _ _
    (list_begun _ _ others more _ _ all (c.in_ok-first.ensures.reads begins))
    (c.in_ok-items.ensures.reads more on)

pub returns-in_err-first-clause-halts : goal.returns-in_err-first-clause-halts
returns-in_err-first-clause-halts g c = λ more others on all begins.
    passed _ _ _ c.from_residual.ensures.1
    (stops_before _ others _ _ (c.in_err-first.ensures.halts begins))

pub returns-in_err-items-clause-halts : goal.returns-in_err-items-clause-halts
returns-in_err-items-clause-halts g c = λ more others on all begins.
    passed _ _ _ c.from_residual-in_err-items.ensures.1
    (stops_then _ more _ _ _
    (list_begun _ _ others more _ _ all (c.in_ok-first.ensures.reads begins))
    (c.in_err-items.ensures.halts more on))
