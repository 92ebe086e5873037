use Rattle.std.proofs.Common.{[], ◌∷◌, refl, inl, inr}
use Rattle.sv_token.specs.declared.signs.SignKind.TheVariants as signs
use Rattle.sv_ast.specs.GrammarModules.{IsContinuous}
use Rattle.sv_ast.specs.GrammarRules.{all_limits}
use Rattle.sv_parse_machine.specs.Symbols.{outer, punctuation, plain_name, expression, value_or_release}
use Rattle.sv_parse_machine.specs.Symbols.{more_assigned}
use Rattle.sv_parse_expr.proofs.Halting.{passed, stops_then}
use Rattle.sv_parse_expr.proofs.ReadingLists.{list_is, one_is}
use Rattle.sv_parse_expr.proofs.ReadingRuns.{then_read, then_stop}
use Rattle.sv_parse_stmt.specs.ReadingAssignments.{behind_release}
use Rattle.sv_parse_stmt.proofs.ReadingAssignments.{continuous_is, release_is}
use Rattle.sv_parse_stmt.proofs.SymbolsAlike.{first_is_named, assigned_go_on}
use Rattle.sv_parse_stmt.proofs.AssignmentRuns.{first_target, released_first, valued_first}
use Rattle.sv_parse_stmt.proofs.AssignmentRuns.{assigned_closing}
use Rattle.sv_parse_stmt.proofs.assignments.read_named_first.Goals as goal

pub returns-in-Some-clause-is : goal.returns-in-Some-clause-is
returns-in-Some-clause-is c =
    inr (one_is _ _ _ _ _ _ _ _ c.in_ok-one.ensures
    (release_is _ _ _ _ _ _ _ c.in_ok-name.ensures.is
    (c.in_ok-rest.ensures.is c.args.input.bytes.now)
    (c.in-Some.ensures.is c.args.input.bytes.now) c.in_ok-item.ensures.is))

pub returns-clause-is : goal.returns-clause-is
returns-clause-is c =
    inl (list_is _ (IsContinuous all_limits) (λ before. IsContinuous all_limits) _ _ _ _ _
    (continuous_is _ _ _ _ _ _
    (inl (one_is _ _ _ _ _ _ _ _ c.in_ok-one-2.ensures (refl, c.in_ok-name.ensures.is)))
    (c.in_ok-rest.ensures.is c.args.input.bytes.now) c.in_ok-first.ensures.is)
    c.in_ok-items.ensures.is)

-- ---- the machine of the grammar

pub returns-in_err-name-clause-halts : goal.returns-in_err-name-clause-halts
returns-in_err-name-clause-halts c = λ none.
    passed _ _ _ c.from_residual.ensures.1
    (then_stop _ (outer plain_name ∷ [])
    (outer (punctuation signs.Equals) ∷ outer value_or_release ∷ []) _ _ _
    (first_is_named _ none) c.in_err-name.ensures.halts)

pub returns-in_err-rest-clause-halts : goal.returns-in_err-rest-clause-halts
returns-in_err-rest-clause-halts c = λ none.
    passed _ _ _ c.from_residual-in_err-rest.ensures.1
    (then_stop _ (outer (punctuation signs.Equals) ∷ []) (outer value_or_release ∷ []) _ _ _
    (first_target _ _ none c.in_ok-name.ensures.reads)
    (c.in_err-rest.ensures.halts c.args.input.bytes.now))

pub returns-in_err-item-clause-halts : goal.returns-in_err-item-clause-halts
returns-in_err-item-clause-halts c = λ none.
    passed _ _ _ c.from_residual-in_err-item.ensures.1
    (then_stop _ behind_release (outer (punctuation signs.Semicolon) ∷ []) _ _ _
    (released_first _ _ _ _ none c.in_ok-name.ensures.reads
    (c.in_ok-rest.ensures.reads c.args.input.bytes.now refl)
    (c.in-Some.ensures.is c.args.input.bytes.now)) c.in_err-item.ensures.halts)

pub returns-in-Some-clause-reads : goal.returns-in-Some-clause-reads
returns-in-Some-clause-reads c = λ none.
    then_read _ behind_release (outer (punctuation signs.Semicolon) ∷ []) _ _ _
    (released_first _ _ _ _ none c.in_ok-name.ensures.reads
    (c.in_ok-rest.ensures.reads c.args.input.bytes.now refl)
    (c.in-Some.ensures.is c.args.input.bytes.now)) c.in_ok-item.ensures.reads

pub returns-in_err-first-clause-halts : goal.returns-in_err-first-clause-halts
returns-in_err-first-clause-halts c = λ none.
    passed _ _ _ c.from_residual-in_err-first.ensures.1
    (then_stop _ (outer (expression 0) ∷ []) (outer more_assigned ∷ []) _ _ _
    (valued_first _ _ _ none c.in_ok-name.ensures.reads
    (c.in_ok-rest.ensures.reads c.args.input.bytes.now refl)
    (c.in_default.ensures.none c.args.input.bytes.now))
    c.in_err-first.ensures.halts)

pub returns-in_err-items-clause-halts : goal.returns-in_err-items-clause-halts
returns-in_err-items-clause-halts c = λ none.
    passed _ _ _ c.from_residual-in_err-items.ensures.1
    (stops_then _ (outer more_assigned ∷ []) _ _ _
    (then_read _ (outer (expression 0) ∷ []) (outer more_assigned ∷ []) _ _ _
    (valued_first _ _ _ none c.in_ok-name.ensures.reads
    (c.in_ok-rest.ensures.reads c.args.input.bytes.now refl)
    (c.in_default.ensures.none c.args.input.bytes.now))
    c.in_ok-first.ensures.reads)
    (c.in_err-items.ensures.halts (outer more_assigned ∷ []) assigned_go_on))

pub returns-clause-reads : goal.returns-clause-reads
returns-clause-reads c = λ none.
    assigned_closing _ _ _
    (then_read _ (outer (expression 0) ∷ []) (outer more_assigned ∷ []) _ _ _
    (valued_first _ _ _ none c.in_ok-name.ensures.reads
    (c.in_ok-rest.ensures.reads c.args.input.bytes.now refl)
    (c.in_default.ensures.none c.args.input.bytes.now))
    c.in_ok-first.ensures.reads)
    (c.in_ok-items.ensures.reads (outer more_assigned ∷ []) assigned_go_on)
    c.in_ok-items.ensures.ends
