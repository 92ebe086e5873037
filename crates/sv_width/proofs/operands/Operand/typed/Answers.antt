use Rattle.std.proofs.Common.{subst}
use Rattle.sv_width.specs.declared.measured.Measured.{Measured}
use Rattle.sv_width.specs.Answers.{IsBreach}
use Rattle.sv_width.specs.Outcomes.{IsPushed}
use Rattle.sv_width.specs.Pushed.{divisors_of}
use Rattle.sv_width.specs.Views.{measured_tree}
use Rattle.sv_width.proofs.Breaches.{ok_weaker, err_weaker}
use Rattle.sv_width.proofs.OperandEnds.{operand_typed, operand_formed, operand_divided}
use Rattle.sv_width.proofs.operands.Operand.typed.Goals as goal

pub returns-clause-found : goal.returns-clause-found
returns-clause-found c =
    ok_weaker c.pushed.result _ _ (λ f h names k e is. operand_typed names k e c.args.self.now is
    c.at.result.width c.args.width c.at.result.signed c.args.signed c.requires.enough c.requires.few
    c.at.ensures.width c.at.ensures.signed f
    (subst (λ (m : Measured). IsPushed (measured_tree m) c.at.result.width c.at.result.signed f)
    c.self.view_is h)) c.pushed.ensures.found

pub returns-clause-formed : goal.returns-clause-formed
returns-clause-formed c =
    ok_weaker c.pushed.result _ _ (λ f h names k e is. operand_formed names k e c.args.self.now is
    c.at.result.width c.args.width c.at.result.signed c.args.signed c.requires.enough c.requires.few
    c.at.ensures.width c.at.ensures.signed f
    (subst (λ (m : Measured). IsPushed (measured_tree m) c.at.result.width c.at.result.signed f)
    c.self.view_is h)) c.pushed.ensures.found

pub returns-clause-broken : goal.returns-clause-broken
returns-clause-broken c =
    err_weaker c.pushed.result _ _ (λ f h names k e is. operand_divided names k e c.args.self.now is
    c.at.result.width c.args.width c.at.result.signed c.args.signed c.requires.enough c.requires.few
    c.at.ensures.width c.at.ensures.signed f
    (subst (λ (m : Measured). IsBreach
    (divisors_of (measured_tree m) c.at.result.width c.at.result.signed).end f) c.self.view_is h))
    c.pushed.ensures.broken
