use Rattle.sv_ast.proofs.SyntaxLaws.{broken_once}
use Rattle.sv_ast.proofs.laws.syntax_is_broken_once.Goals as goal

pub returns : goal.returns
returns c = broken_once
