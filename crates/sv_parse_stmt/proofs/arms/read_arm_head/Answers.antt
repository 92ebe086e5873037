use Rattle.std.proofs.Common.{Bool, [], ◌∷◌, sym, subst}
use Rattle.sv_token.specs.declared.keywords.WordKind.TheVariants as words
use Rattle.sv_token.specs.Lexemes.{placed_tokens}
use Rattle.sv_parse_expr.specs.Parses.{placed}
use Rattle.sv_parse_machine.specs.Symbols.{outer, arms}
use Rattle.sv_parse_machine.specs.Reads.{Reads}
use Rattle.sv_parse_expr.proofs.Halting.{passed}
use Rattle.sv_parse_stmt.specs.ReadingArms.{behind_arm}
use Rattle.sv_parse_stmt.proofs.ArmRuns.{or_none, word_comes}
use Rattle.sv_parse_stmt.proofs.arms.read_arm_head.Goals as goal

pub returns-in_err-allow_default-in-Some-clause-halts :
    goal.returns-in_err-allow_default-in-Some-clause-halts
returns-in_err-allow_default-in-Some-clause-halts c = λ comes.
    passed _ _ _ c.from_residual.ensures.1
    (c.in_err-allow_default-in-Some.ensures.halts c.args.input.bytes.now c.args.levels
    (word_comes words.Default _ _ _ (c.in-Some.ensures.is c.args.input.bytes.now)))

pub returns-in_err-place-in-None-clause-halts : goal.returns-in_err-place-in-None-clause-halts
returns-in_err-place-in-None-clause-halts c = λ comes.
    passed _ _ _ c.from_residual-in_err-place-in-None.ensures.1
    (c.in_err-place-in-None.ensures.halts c.args.has_default comes
    (c.in-None.ensures.none c.args.input.bytes.now))

pub returns-in_ok-place-in-None-clause-reads : goal.returns-in_ok-place-in-None-clause-reads
returns-in_ok-place-in-None-clause-reads c = λ comes.
    subst
    (λ (default : Bool).
    Reads (outer (arms c.args.levels c.args.before c.args.has_default) ∷ [])
    (behind_arm c.args.levels c.args.before default)
    (placed c.args.input)
    (placed_tokens c.args.input.bytes.now c.in_ok-place-in-None.rest.now))
    (sym (or_none c.args.has_default _ c.in_ok-place-in-None.ensures.items))
    (c.in_ok-place-in-None.ensures.reads c.args.has_default comes
    (c.in-None.ensures.none c.args.input.bytes.now))
