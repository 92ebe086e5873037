use Rattle.std.proofs.Common.{[], ◌∷◌, refl, inl, inr}
use Rattle.sv_token.specs.declared.signs.SignKind.TheVariants as signs
use Rattle.sv_parse_machine.specs.Symbols.{outer, punctuation, plain_name, perhaps_bits, more_targets}
use Rattle.sv_parse_machine.specs.StatementTable.{assignment_behind}
use Rattle.sv_parse_machine.specs.Machine.{outside_on}
use Rattle.sv_parse_expr.proofs.Halting.{passed}
use Rattle.sv_parse_expr.proofs.ReadingLists.{one_is}
use Rattle.sv_parse_expr.proofs.ReadingRuns.{then_read, then_stop}
use Rattle.sv_parse_stmt.proofs.SymbolsAlike.{targets_go_on, targets_begun, targets_closing}
use Rattle.sv_parse_stmt.proofs.SymbolsAlike.{target_is_named}
use Rattle.sv_parse_stmt.proofs.targets.read_targets.Goals as goal

pub returns-in-Some-clause-is : goal.returns-in-Some-clause-is
returns-in-Some-clause-is c =
    inr (
      _,
      c.in-Some.ensures.is c.args.input.bytes.now,
      (_, c.in_ok-targets.ensures.is, c.in_ok-rest.ensures.is c.args.input.bytes.now),
    )

pub returns-clause-is : goal.returns-clause-is
returns-clause-is c = inl (one_is _ _ _ _ _ _ _ _ c.in_ok-one.ensures c.in_ok-only.ensures.is)

-- ---- the machine of the grammar

pub returns-in_err-targets-clause-halts : goal.returns-in_err-targets-clause-halts
returns-in_err-targets-clause-halts c = λ comes.
    let n = c.args.levels in
    passed _ _ _ c.from_residual.ensures.1
    (then_stop _ (outer plain_name ∷ outer (perhaps_bits n) ∷ outer (more_targets n) ∷ [])
    (outside_on (assignment_behind n)) _ _ _
    (targets_begun n _ _ (c.in-Some.ensures.is c.args.input.bytes.now))
    (c.in_err-targets.ensures.halts (outer (more_targets n) ∷ []) (outer (more_targets n) ∷ [])
    (targets_go_on n) refl tt))

pub returns-in_err-rest-clause-halts : goal.returns-in_err-rest-clause-halts
returns-in_err-rest-clause-halts c = λ comes.
    let n = c.args.levels in
    passed _ _ _ c.from_residual-in_err-rest.ensures.1
    (then_stop _ (outer (punctuation signs.CloseBrace) ∷ [])
    (outside_on (assignment_behind n)) _ _ _
    (targets_closing n _ _ _ (c.in-Some.ensures.is c.args.input.bytes.now)
    (c.in_ok-targets.ensures.reads (outer (more_targets n) ∷ []) (outer (more_targets n) ∷ [])
    (targets_go_on n) refl tt) c.in_ok-targets.ensures.ends)
    (c.in_err-rest.ensures.halts c.args.input.bytes.now))

pub returns-in-Some-clause-reads : goal.returns-in-Some-clause-reads
returns-in-Some-clause-reads c = λ comes.
    let n = c.args.levels in
    then_read _ (outer (punctuation signs.CloseBrace) ∷ []) (outside_on (assignment_behind n)) _ _ _
    (targets_closing n _ _ _ (c.in-Some.ensures.is c.args.input.bytes.now)
    (c.in_ok-targets.ensures.reads (outer (more_targets n) ∷ []) (outer (more_targets n) ∷ [])
    (targets_go_on n) refl tt) c.in_ok-targets.ensures.ends)
    (c.in_ok-rest.ensures.reads c.args.input.bytes.now refl)

pub returns-in_err-only-clause-halts : goal.returns-in_err-only-clause-halts
returns-in_err-only-clause-halts c = λ comes.
    let n = c.args.levels in
    passed _ _ _ c.from_residual-in_err-only.ensures.1
    (then_stop _ (outer plain_name ∷ outer (perhaps_bits n) ∷ [])
    (outside_on (assignment_behind n)) _ _ _
    (target_is_named n _ comes (c.in_default.ensures.none c.args.input.bytes.now))
    c.in_err-only.ensures.halts)

pub returns-clause-reads : goal.returns-clause-reads
returns-clause-reads c = λ comes.
    let n = c.args.levels in
    then_read _ (outer plain_name ∷ outer (perhaps_bits n) ∷ [])
    (outside_on (assignment_behind n)) _ _ _
    (target_is_named n _ comes (c.in_default.ensures.none c.args.input.bytes.now))
    c.in_ok-only.ensures.reads
