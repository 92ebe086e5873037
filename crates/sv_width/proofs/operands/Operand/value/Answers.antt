use Rattle.std.proofs.Common.{subst}
use Rattle.sv_width.specs.declared.measured.Measured.{Measured}
use Rattle.sv_width.specs.Answers.{IsBreach}
use Rattle.sv_width.specs.Outcomes.{IsFolded}
use Rattle.sv_width.specs.Pushed.{divisors_of}
use Rattle.sv_width.specs.Views.{measured_tree}
use Rattle.sv_width.proofs.Breaches.{ok_weaker, err_weaker}
use Rattle.sv_width.proofs.OperandEnds.{operand_valued, operand_divided}
use Rattle.sv_width.proofs.operands.Operand.value.Goals as goal

pub returns-clause-found : goal.returns-clause-found
returns-clause-found c =
    ok_weaker c.folded.result _ _ (λ bits h names k e is.
    operand_valued names k e c.args.self.now is
    c.at.result.width c.args.width c.at.result.signed c.args.signed c.requires.enough c.requires.few
    c.at.ensures.width c.at.ensures.signed bits
    (subst (λ (m : Measured). IsFolded (measured_tree m) c.at.result.width c.at.result.signed bits)
    c.self.view_is h)) c.folded.ensures.found

pub returns-clause-broken : goal.returns-clause-broken
returns-clause-broken c =
    err_weaker c.folded.result _ _ (λ f h names k e is. operand_divided names k e c.args.self.now is
    c.at.result.width c.args.width c.at.result.signed c.args.signed c.requires.enough c.requires.few
    c.at.ensures.width c.at.ensures.signed f
    (subst (λ (m : Measured). IsBreach
    (divisors_of (measured_tree m) c.at.result.width c.at.result.signed).end f) c.self.view_is h))
    c.folded.ensures.broken
