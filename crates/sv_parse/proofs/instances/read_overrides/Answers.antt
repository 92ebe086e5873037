use Rattle.sv_ast.specs.Views.{override_trees}
use Rattle.sv_parse.proofs.ReadingInstances.{overrides_are}
use Rattle.sv_token.specs.Lexemes.{placed_tokens}
use Rattle.sv_parse_expr.specs.Parses.{placed}
use Rattle.std.proofs.Common.{[], ◌∷◌, refl}
use Rattle.sv_parse_machine.specs.Symbols.{punctuation, overrides, perhaps_overrides}
use Rattle.sv_parse_machine.proofs.ReadSteps.{reads_then}
use Rattle.sv_parse_machine.proofs.ReadRows.{sign_taken}
use Rattle.sv_parse_machine.proofs.SkippedRows.{skips_symbol}
use Rattle.sv_parse_expr.proofs.Halting.{passed, stops_then}
use Rattle.sv_token.specs.declared.signs.SignKind.TheVariants as signs
use Rattle.sv_parse.proofs.DeclarationRuns.{and_read, and_stop, front_stop}
use Rattle.sv_parse.proofs.instances.read_overrides.Goals as goal

pub returns-in-Some-clause-is : goal.returns-in-Some-clause-is
returns-in-Some-clause-is c =
    overrides_are (override_trees c.in_ok-overrides.overrides)
    (placed c.args.input)
    (placed_tokens c.args.input.bytes.now c.in-Some.rest.now)
    (placed_tokens c.args.input.bytes.now c.in_ok-rest.rest.now)
    (placed_tokens c.args.input.bytes.now c.in_ok-overrides.rest.now)
    (placed_tokens c.args.input.bytes.now c.in_ok-rest-2.rest.now)
    (c.in-Some.ensures.is c.args.input.bytes.now) (c.in_ok-rest.ensures.is c.args.input.bytes.now)
    c.in_ok-overrides.ensures.is (c.in_ok-rest-2.ensures.is c.args.input.bytes.now)

pub returns-in_err-rest-clause-halts : goal.returns-in_err-rest-clause-halts
returns-in_err-rest-clause-halts c =
    passed _ _ _ c.from_residual.ensures.1
    (stops_then _ _ _ _ _
    (sign_taken perhaps_overrides signs.Hash ((punctuation signs.OpenParenthesis) ∷ overrides ∷ [])
    _ _ refl (c.in-Some.ensures.is c.args.input.bytes.now))
    (front_stop _ _ _ _ (c.in_err-rest.ensures.halts c.args.input.bytes.now)))

pub returns-in_err-overrides-clause-halts : goal.returns-in_err-overrides-clause-halts
returns-in_err-overrides-clause-halts c =
    passed _ _ _ c.from_residual-in_err-overrides.ensures.1
    (stops_then _ _ _ _ _
    (sign_taken perhaps_overrides signs.Hash ((punctuation signs.OpenParenthesis) ∷ overrides ∷ [])
    _ _ refl (c.in-Some.ensures.is c.args.input.bytes.now))
    (and_stop _ _ _ _ _ (c.in_ok-rest.ensures.reads c.args.input.bytes.now refl)
    c.in_err-overrides.ensures.halts))

pub returns-in_err-rest-2-clause-halts : goal.returns-in_err-rest-2-clause-halts
returns-in_err-rest-2-clause-halts c =
    passed _ _ _ c.from_residual-in_err-rest-2.ensures.1
    (stops_then _ _ _ _ _
    (sign_taken perhaps_overrides signs.Hash ((punctuation signs.OpenParenthesis) ∷ overrides ∷ [])
    _ _ refl (c.in-Some.ensures.is c.args.input.bytes.now))
    (and_stop _ _ _ _ _ (c.in_ok-rest.ensures.reads c.args.input.bytes.now refl)
    (stops_then _ _ _ _ _ c.in_ok-overrides.ensures.reads
    (c.in_err-rest-2.ensures.halts c.args.input.bytes.now))))

pub returns-in-Some-clause-reads : goal.returns-in-Some-clause-reads
returns-in-Some-clause-reads c =
    reads_then _ _ _ _ _ _
    (sign_taken perhaps_overrides signs.Hash ((punctuation signs.OpenParenthesis) ∷ overrides ∷ [])
    _ _ refl (c.in-Some.ensures.is c.args.input.bytes.now))
    (and_read _ _ _ _ _ _ (c.in_ok-rest.ensures.reads c.args.input.bytes.now refl)
    (reads_then _ _ _ _ _ _ c.in_ok-overrides.ensures.reads
    (c.in_ok-rest-2.ensures.reads c.args.input.bytes.now refl)))

pub returns-clause-reads : goal.returns-clause-reads
returns-clause-reads c =
    (skips_symbol perhaps_overrides tt _ (c.in_default.ensures.none c.args.input.bytes.now))
