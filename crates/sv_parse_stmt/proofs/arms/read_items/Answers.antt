use Rattle.std.proofs.Common.{[], ◌∷◌, refl}
use Rattle.sv_token.specs.declared.signs.SignKind.TheVariants as signs
use Rattle.sv_ast.specs.GrammarExpressions.{IsExpression}
use Rattle.sv_ast.specs.GrammarRules.{all_limits}
use Rattle.sv_parse_machine.specs.Symbols.{outer, punctuation, more_choices}
use Rattle.sv_parse_expr.proofs.Halting.{passed}
use Rattle.sv_parse_expr.proofs.ReadingLists.{list_is}
use Rattle.sv_parse_expr.proofs.ReadingRuns.{then_read, then_stop}
use Rattle.sv_parse_stmt.specs.ReadingArms.{behind_arm}
use Rattle.sv_parse_stmt.proofs.SymbolsAlike.{choices_go_on}
use Rattle.sv_parse_stmt.proofs.ArmRuns.{items_closing}
use Rattle.sv_parse_stmt.proofs.arms.read_items.Goals as goal

pub returns-clause-is : goal.returns-clause-is
returns-clause-is c = (
  _,
  list_is _
      (IsExpression all_limits c.args.levels) (λ before.
      IsExpression all_limits c.args.levels) _ _ _ _ _ c.in_ok-first.ensures.is
      c.in_ok-items.ensures.is,
  c.in_ok-rest.ensures.is c.args.input.bytes.now,
)

-- ---- the machine of the grammar

pub returns-in_err-first-clause-halts : goal.returns-in_err-first-clause-halts
returns-in_err-first-clause-halts c = λ default comes none.
    passed _ _ _ c.from_residual.ensures.1 (c.in_err-first.ensures.halts default comes none)

pub returns-in_err-items-clause-halts : goal.returns-in_err-items-clause-halts
returns-in_err-items-clause-halts c = λ default comes none.
    let n = c.args.levels in
    passed _ _ _ c.from_residual-in_err-items.ensures.1
    (then_stop _ (outer (more_choices n) ∷ []) (behind_arm n c.args.before default) _ _ _
    (c.in_ok-first.ensures.reads default comes none)
    (c.in_err-items.ensures.halts (outer (more_choices n) ∷ []) (choices_go_on n)))

pub returns-in_err-rest-clause-halts : goal.returns-in_err-rest-clause-halts
returns-in_err-rest-clause-halts c = λ default comes none.
    let n = c.args.levels in
    passed _ _ _ c.from_residual-in_err-rest.ensures.1
    (then_stop _ (outer (punctuation signs.Colon) ∷ []) (behind_arm n c.args.before default) _ _ _
    (items_closing n c.args.before default _ _ _ (c.in_ok-first.ensures.reads default comes none)
    (c.in_ok-items.ensures.reads (outer (more_choices n) ∷ []) (choices_go_on n))
    c.in_ok-items.ensures.ends)
    (c.in_err-rest.ensures.halts c.args.input.bytes.now))

pub returns-clause-reads : goal.returns-clause-reads
returns-clause-reads c = λ default comes none.
    let n = c.args.levels in
    then_read _ (outer (punctuation signs.Colon) ∷ []) (behind_arm n c.args.before default) _ _ _
    (items_closing n c.args.before default _ _ _ (c.in_ok-first.ensures.reads default comes none)
    (c.in_ok-items.ensures.reads (outer (more_choices n) ∷ []) (choices_go_on n))
    c.in_ok-items.ensures.ends)
    (c.in_ok-rest.ensures.reads c.args.input.bytes.now refl)
