use Rattle.sv_cli.proofs.Complete.{never_falsified, never_limit, large_never_undecided}
use Rattle.sv_cli.proofs.Complete.{units_never_undecided, is_done, never_done}
use Rattle.sv_cli.proofs.Secrets.{is_checked, refuted_valid}
use Rattle.sv_cli.proofs.laws.check_decides_what_it_can.Goals as goal

pub returns-clause-valid : goal.returns-clause-valid
returns-clause-valid c top text passes style proof budget exchanges answer printed decides =
    never_falsified style passes.design proof budget exchanges answer printed decides

pub returns-clause-falsified : goal.returns-clause-falsified
returns-clause-falsified c top text passes style proof budget exchanges answer printed decides =
    never_done (refuted_valid c.unmet_clauses_mean_valid.ensures c.refuted_has_no_solution.ensures)
    top text passes style proof budget exchanges answer printed decides

pub returns-clause-fits : goal.returns-clause-fits
returns-clause-fits c top text passes style proof budget exchanges answer printed decides =
    never_limit style passes.design proof budget exchanges answer printed decides

pub returns-clause-large : goal.returns-clause-large
returns-clause-large c top text passes style proof budget exchanges answer printed decides =
    large_never_undecided style passes.design proof budget exchanges answer printed
    (is_checked top text passes) decides

pub returns-clause-units : goal.returns-clause-units
returns-clause-units c top text passes style proof budget exchanges answer printed decides =
    units_never_undecided style passes.design proof budget exchanges answer printed decides

pub returns-clause-accepts : goal.returns-clause-accepts
returns-clause-accepts c top text passes style proof budget exchanges answer printed decides =
    is_done style passes.design proof budget exchanges answer printed (is_checked top text passes)
    decides
