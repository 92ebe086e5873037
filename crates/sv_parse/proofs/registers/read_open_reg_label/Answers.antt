use Rattle.std.proofs.Common.{refl, [], ◌∷◌}
use Rattle.sv_token.specs.declared.signs.SignKind.TheVariants as signs
use Rattle.sv_parse.proofs.ReadingDeclarations.{open_reg_label_is}
use Rattle.sv_parse_expr.proofs.Halting.{passed, stops_then, stops_by}
use Rattle.sv_parse.proofs.DeclarationRuns.{and_stop, and_read, reg_name_first}
use Rattle.sv_parse_machine.proofs.ReadRows.{sign_taken, halts_reg_label_end}
use Rattle.sv_parse_machine.specs.Symbols.{reg_label_end, label_selector, reg_name}
use Rattle.sv_parse_machine.proofs.ReadSteps.{reads_then}
use Rattle.sv_parse.proofs.registers.read_open_reg_label.Goals as goal

pub returns-clause-is : goal.returns-clause-is
returns-clause-is c = (_, c.in_ok-name.ensures.is, c.in_ok-rest.ensures.is c.args.input.bytes.now)

pub returns-in-Some-clause-is : goal.returns-in-Some-clause-is
returns-in-Some-clause-is c =
    open_reg_label_is _ _ _ _ _ _ _ c.in_ok-name.ensures.is
    (c.in-Some.ensures.is c.args.input.bytes.now) c.in_ok-label.ensures.is

pub returns-in_err-label-clause-halts : goal.returns-in_err-label-clause-halts
returns-in_err-label-clause-halts c =
    passed _ _ _ c.from_residual-in_err-label.ensures.1
    (and_stop _ _ _ _ _ c.in_ok-name.ensures.reads
    (stops_then _ _ _ _ _
    (sign_taken reg_label_end signs.OpenParenthesis (label_selector ∷ []) _ _ refl
    (c.in-Some.ensures.is c.args.input.bytes.now))
    (c.in_err-label.ensures.halts)))

pub returns-in-Some-clause-reads : goal.returns-in-Some-clause-reads
returns-in-Some-clause-reads c =
    and_read _ _ _ _ _ _ c.in_ok-name.ensures.reads
    (reads_then _ _ _ _ _ _
    (sign_taken reg_label_end signs.OpenParenthesis (label_selector ∷ []) _ _ refl
    (c.in-Some.ensures.is c.args.input.bytes.now))
    (c.in_ok-label.ensures.reads))

pub returns-in_err-rest-clause-halts : goal.returns-in_err-rest-clause-halts
returns-in_err-rest-clause-halts c =
    passed _ _ _ c.from_residual-in_err-rest.ensures.1
    (and_stop _ _ _ _ _ c.in_ok-name.ensures.reads
    (stops_by c.args.input.bytes.now c.in_ok-name.rest.now _ _ _ (λ no_close.
    halts_reg_label_end _ no_close (c.in_default.ensures.none c.args.input.bytes.now))
    (c.in_err-rest.ensures.stops c.args.input.bytes.now)))

pub returns-clause-reads : goal.returns-clause-reads
returns-clause-reads c =
    and_read _ _ _ _ _ _ c.in_ok-name.ensures.reads
    (reads_then _ _ _ _ _ _
    (sign_taken reg_label_end signs.CloseBrace (reg_name ∷ []) _ _ refl
    (c.in_ok-rest.ensures.is c.args.input.bytes.now))
    (reg_name_first _))
