use Rattle.sv_lattice.proofs.TableLemmas.{ColumnBelow}
use Rattle.sv_lattice.proofs.flow_table.column.Given as goal

abbrev pub invariant-loop-a : goal.invariant-loop-a
invariant-loop-a l = ColumnBelow l.table l.point l.row l.a
