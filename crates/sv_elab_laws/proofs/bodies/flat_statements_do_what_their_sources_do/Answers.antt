use Rattle.sv_elab_laws.proofs.StatementsSame.{statement_same}
use Rattle.sv_elab_laws.proofs.bodies.flat_statements_do_what_their_sources_do.Goals as goal

pub returns : goal.returns
returns c names signals numbering s f walked fit flat source before =
    statement_same names signals numbering s f walked fit flat source before
