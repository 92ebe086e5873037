use Rattle.std.proofs.Common.{sym, ◌∙◌, arith}
use Rattle.sv_lattice.proofs.TableLemmas.{column_more, column_same}
use Rattle.sv_lattice.proofs.flow_table.column.Goals.{then-has, else-has}
use Rattle.sv_lattice.proofs.flow_table.column.Goals as goal

pub loop-a-preserved : goal.loop-a-preserved
loop-a-preserved c = elim c.if-has.branch [
  | then-has w ↦
      column_more c.args.table.now c.args.point c.loop-a.row c.loop-a.a c.loop-a.invariant
      c.if-has.row w.row-is (omega arith) (sym c.has.ensures ∙ w.if-has.true)
  | else-has w ↦
      column_same c.args.table.now c.args.point c.loop-a.row c.loop-a.a c.loop-a.invariant
      c.if-has.row w.row-is (sym c.has.ensures ∙ w.if-has.false)
]
