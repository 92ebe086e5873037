use Rattle.sv_elab_rules.proofs.LatticeLemmas.{table_is_exact}
use Rattle.sv_elab_rules.proofs.laws.tables_of_lattices_are_exact.Goals as goal

pub returns : goal.returns
returns c count pairs known = table_is_exact count pairs known
