use Rattle.std.proofs.Common.{[], ◌∷◌, refl, inl}
use Rattle.sv_token.specs.declared.signs.SignKind.TheVariants as signs
use Rattle.sv_token.specs.declared.keywords.WordKind.TheVariants as words
use Rattle.sv_parse_machine.specs.Symbols.{outer, punctuation, items, assigned, later_assigned}
use Rattle.sv_parse_machine.specs.Symbols.{more_assigned}
use Rattle.sv_parse_expr.proofs.Halting.{passed}
use Rattle.sv_parse_expr.proofs.ReadingRuns.{then_stop}
use Rattle.sv_parse_stmt.proofs.ReadingAssignments.{assigned_is}
use Rattle.sv_parse_stmt.proofs.SymbolsAlike.{then_on, assigned_go_on, word_is_there}
use Rattle.sv_parse_stmt.proofs.AssignmentRuns.{assign_taken, assign_joined, joined_assignments}
use Rattle.sv_parse_stmt.proofs.assignments.read_assigned.Goals as goal

pub returns-in_ok-items-in-Some-clause-is : goal.returns-in_ok-items-in-Some-clause-is
returns-in_ok-items-in-Some-clause-is c =
    inl (
      _,
      (c.in_ok-_place._place, c.in_ok-_place.ensures.is c.args.input.bytes.now),
      c.in_ok-items-in-Some.ensures.is,
    )

pub returns-in_ok-items-in-None-clause-is : goal.returns-in_ok-items-in-None-clause-is
returns-in_ok-items-in-None-clause-is c =
    assigned_is _ _ _ _ (c.in_ok-_place._place, c.in_ok-_place.ensures.is c.args.input.bytes.now)
    c.in_ok-items-in-None.ensures.is

-- ---- the machine of the grammar

pub returns-in_err-_place-clause-halts : goal.returns-in_err-_place-clause-halts
returns-in_err-_place-clause-halts c = λ comes.
    passed _ _ _ c.from_residual.ensures.1
    (word_is_there _ words.Assign _ _ _ _ comes
    (c.in_err-_place.ensures.stops c.args.input.bytes.now))

pub returns-in_err-items-in-Some-clause-halts : goal.returns-in_err-items-in-Some-clause-halts
returns-in_err-items-in-Some-clause-halts c = λ comes.
    passed _ _ _ c.from_residual-in_err-items-in-Some.ensures.1
    (then_stop _ (outer later_assigned ∷ outer more_assigned ∷ []) (outer items ∷ []) _ _ _
    (assign_joined _ _ _ (c.in_ok-_place._place, c.in_ok-_place.ensures.is c.args.input.bytes.now)
    (c.in-Some.ensures.is c.args.input.bytes.now))
    (c.in_err-items-in-Some.ensures.halts (outer more_assigned ∷ []) (outer more_assigned ∷ [])
    assigned_go_on refl tt))

pub returns-in_ok-items-in-Some-clause-reads : goal.returns-in_ok-items-in-Some-clause-reads
returns-in_ok-items-in-Some-clause-reads c = λ comes.
    joined_assignments _ _ _ _
    (c.in_ok-_place._place, c.in_ok-_place.ensures.is c.args.input.bytes.now)
    (c.in-Some.ensures.is c.args.input.bytes.now)
    (c.in_ok-items-in-Some.ensures.reads (outer more_assigned ∷ []) (outer more_assigned ∷ [])
    assigned_go_on refl tt) c.in_ok-items-in-Some.ensures.ends

pub returns-in_err-items-in-None-clause-halts : goal.returns-in_err-items-in-None-clause-halts
returns-in_err-items-in-None-clause-halts c = λ comes.
    passed _ _ _ c.from_residual-in_err-items-in-None.ensures.1
    (then_stop _ (outer assigned ∷ []) (outer items ∷ []) _ _ _
    (assign_taken _ _ (c.in_ok-_place._place, c.in_ok-_place.ensures.is c.args.input.bytes.now))
    (c.in_err-items-in-None.ensures.halts (c.in-None.ensures.none c.args.input.bytes.now)))

pub returns-in_ok-items-in-None-clause-reads : goal.returns-in_ok-items-in-None-clause-reads
returns-in_ok-items-in-None-clause-reads c = λ comes.
    then_on _ (outer assigned ∷ []) (outer (punctuation signs.Semicolon) ∷ []) (outer items ∷ []) _
    _ _ (assign_taken _ _ (c.in_ok-_place._place, c.in_ok-_place.ensures.is c.args.input.bytes.now))
    (c.in_ok-items-in-None.ensures.reads (c.in-None.ensures.none c.args.input.bytes.now))
