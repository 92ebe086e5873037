use Rattle.sv_ast.proofs.SyntaxLaws.{means_no_break}
use Rattle.sv_ast.proofs.laws.meanings_break_no_rule.Goals as goal

pub returns : goal.returns
returns c = means_no_break
