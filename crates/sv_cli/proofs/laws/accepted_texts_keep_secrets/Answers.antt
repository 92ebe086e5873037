use Rattle.sv_cli.proofs.Secrets.{accepted_keeps, accepted_valid, refuted_valid}
use Rattle.sv_cli.proofs.laws.accepted_texts_keep_secrets.Goals as goal

pub returns-clause-secrets : goal.returns-clause-secrets
returns-clause-secrets c request exchanges stimulus printed claims is =
    accepted_keeps
    (refuted_valid c.unmet_clauses_mean_valid.ensures c.refuted_has_no_solution.ensures)
    stimulus printed exchanges request claims is

pub returns-clause-valid : goal.returns-clause-valid
returns-clause-valid c request exchanges stimulus printed claims is =
    accepted_valid
    (refuted_valid c.unmet_clauses_mean_valid.ensures c.refuted_has_no_solution.ensures)
    stimulus printed exchanges request claims is
