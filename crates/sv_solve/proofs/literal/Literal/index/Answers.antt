use Rattle.std.proofs.Common.{sym, ap, ◌∙◌}
use Rattle.sv_solve.specs.Codes.{code_of, code-literal}
use Rattle.sv_solve.proofs.literal.Literal.index.Goals as goal

pub returns : goal.returns
returns c = sym (code-literal c.self.inside.code c.self.invariant) ∙ ap code_of c.self.view_is
