use Rattle.std.proofs.Common.{decimal, refl, ap, ◌∙◌}
use Rattle.sv_proof.proofs.Digits.{negated_none, negated_zero}
use Rattle.sv_proof.proofs.fields.read_negated.Goals as goal

pub returns-in_err-variable-clause-none : goal.returns-in_err-variable-clause-none
returns-in_err-variable-clause-none c =
    λ none l small e. negated_none c.args.digits.now (c.in_err-variable.ensures.none refl) l small e

pub returns-then-variable-eq0-clause-none : goal.returns-then-variable-eq0-clause-none
returns-then-variable-eq0-clause-none c =
    λ none l small e. negated_zero c.args.digits.now (c.in_ok-variable.ensures.some.0
    ∙ ap decimal c.if-variable-eq0.true) l small e
