use Rattle.sv_ast.proofs.Rows.{case_is}
use Rattle.sv_ast.proofs.statements.case_of.Goals as goal

pub returns : goal.returns
returns c = case_is c.args.place c.args.arms _ _ c.in_ok-copy.ensures
