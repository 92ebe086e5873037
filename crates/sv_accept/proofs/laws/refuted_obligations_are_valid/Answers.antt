use Rattle.sv_encoding.specs.Encoding.{encoding}
use Rattle.sv_accept.proofs.laws.refuted_obligations_are_valid.Goals as goal

pub returns : goal.returns
returns c design o steps checked asked refutes =
    c.unmet_clauses_mean_valid.ensures design o checked asked
    (c.refuted_has_no_solution.ensures (encoding design o).clauses steps refutes)
