use Rattle.std.proofs.Common.{[], ◌∷◌, refl, inl, inr}
use Rattle.sv_token.specs.declared.signs.SignKind.TheVariants as signs
use Rattle.sv_parse_machine.specs.Symbols.{outer, punctuation, plain_name, more_names}
use Rattle.sv_parse_expr.proofs.Halting.{passed}
use Rattle.sv_parse_expr.proofs.ReadingLists.{one_is}
use Rattle.sv_parse_expr.proofs.ReadingRuns.{then_read, then_stop}
use Rattle.sv_parse_stmt.specs.ReadingAssignments.{behind_targets}
use Rattle.sv_parse_stmt.proofs.SymbolsAlike.{joined_go_on, later_is_named}
use Rattle.sv_parse_stmt.proofs.AssignmentRuns.{joined_names, joined_begun, joined_closing}
use Rattle.sv_parse_stmt.proofs.assignments.read_whole_targets.Goals as goal

pub returns-in-Some-clause-is : goal.returns-in-Some-clause-is
returns-in-Some-clause-is c =
    inr (
      _,
      c.in-Some.ensures.is c.args.input.bytes.now,
      (_, c.in_ok-targets.ensures.is, c.in_ok-rest.ensures.is c.args.input.bytes.now),
    )

pub returns-clause-is : goal.returns-clause-is
returns-clause-is c = inl (one_is _ _ _ _ _ _ _ _ c.in_ok-one.ensures c.in_ok-only.ensures.is)

-- ---- the machine of the grammar

pub returns-in_err-targets-clause-halts : goal.returns-in_err-targets-clause-halts
returns-in_err-targets-clause-halts c =
    passed _ _ _ c.from_residual.ensures.1
    (then_stop _ joined_names behind_targets _ _ _
    (joined_begun _ _ (c.in-Some.ensures.is c.args.input.bytes.now))
    (c.in_err-targets.ensures.halts (outer (more_names signs.CloseBrace) ∷ [])
    (outer (more_names signs.CloseBrace) ∷ []) joined_go_on refl tt))

pub returns-in_err-rest-clause-halts : goal.returns-in_err-rest-clause-halts
returns-in_err-rest-clause-halts c =
    passed _ _ _ c.from_residual-in_err-rest.ensures.1
    (then_stop _ (outer (punctuation signs.CloseBrace) ∷ []) behind_targets _ _ _
    (joined_closing _ _ _ (c.in-Some.ensures.is c.args.input.bytes.now)
    (c.in_ok-targets.ensures.reads (outer (more_names signs.CloseBrace) ∷ [])
    (outer (more_names signs.CloseBrace) ∷ []) joined_go_on refl tt)
    c.in_ok-targets.ensures.ends)
    (c.in_err-rest.ensures.halts c.args.input.bytes.now))

pub returns-in-Some-clause-reads : goal.returns-in-Some-clause-reads
returns-in-Some-clause-reads c =
    then_read _ (outer (punctuation signs.CloseBrace) ∷ []) behind_targets _ _ _
    (joined_closing _ _ _ (c.in-Some.ensures.is c.args.input.bytes.now)
    (c.in_ok-targets.ensures.reads (outer (more_names signs.CloseBrace) ∷ [])
    (outer (more_names signs.CloseBrace) ∷ []) joined_go_on refl tt)
    c.in_ok-targets.ensures.ends)
    (c.in_ok-rest.ensures.reads c.args.input.bytes.now refl)

pub returns-in_err-only-clause-halts : goal.returns-in_err-only-clause-halts
returns-in_err-only-clause-halts c =
    passed _ _ _ c.from_residual-in_err-only.ensures.1
    (then_stop _ (outer plain_name ∷ []) behind_targets _ _ _
    (later_is_named _ (c.in_default.ensures.none c.args.input.bytes.now))
    c.in_err-only.ensures.halts)

pub returns-clause-reads : goal.returns-clause-reads
returns-clause-reads c =
    then_read _ (outer plain_name ∷ []) behind_targets _ _ _
    (later_is_named _ (c.in_default.ensures.none c.args.input.bytes.now)) c.in_ok-only.ensures.reads
