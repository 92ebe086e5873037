use Rattle.sv_num.proofs.BinaryRows.{each_binary}
use Rattle.sv_num.proofs.UnaryRows.{each_unary}
use Rattle.sv_num.proofs.operator_tables.tables_are_whole.Goals as goal

pub returns-clause-each_binary : goal.returns-clause-each_binary
returns-clause-each_binary c = each_binary

pub returns-clause-each_unary : goal.returns-clause-each_unary
returns-clause-each_unary c = each_unary
