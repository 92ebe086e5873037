use Rattle.std.proofs.Common.{arith}
use Rattle.sv_width.proofs.OperandEnds.{some_own}
use Rattle.sv_width.proofs.operands.Operand.at.Goals as goal

pub invariant_of-result : goal.invariant_of-result
invariant_of-result c = record {
  in_range = (omega (arith, some_own c.args.self.now, c.requires.enough), c.requires.few);
}
