use Rattle.std.proofs.Common.{take}
use Rattle.sv_lattice.specs.Tables.{IsTableOf}
use Rattle.sv_lattice.proofs.flow_table.closed.Given as goal

abbrev pub invariant-loop-pair : goal.invariant-loop-pair
invariant-loop-pair l = IsTableOf l.points (take l.pair-index l.pairs) l.table.items
