use Rattle.sv_cli.proofs.Apart.{accepted_valid, not_falsified}
use Rattle.sv_cli.proofs.Secrets.{refuted_valid}
use Rattle.sv_cli.proofs.laws.no_text_is_accepted_and_falsified.Goals as goal

pub returns-clause-accepted : goal.returns-clause-accepted
returns-clause-accepted c top text passes budget count accepted =
    accepted_valid
    (refuted_valid c.unmet_clauses_mean_valid.ensures c.refuted_has_no_solution.ensures)
    top text passes budget count accepted

pub returns-clause-apart : goal.returns-clause-apart
returns-clause-apart c top text passes most count budget number v accepted falsified =
    not_falsified
    (refuted_valid c.unmet_clauses_mean_valid.ensures c.refuted_has_no_solution.ensures)
    top text passes most count budget number v accepted falsified
