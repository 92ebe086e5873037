use Rattle.std.proofs.Common.{◌<◌, length, arith, subst, sym, ap, ◌∙◌, ⊎_elim, pos, neg_ℤ}
use Rattle.std.proofs.lemmas.List.{get_or_read}
use Rattle.sv_clause.specs.Literals.{stands}
use Rattle.sv_solve.specs.Codes.{IsOf}
use Rattle.sv_solve.proofs.Clauses.{of_at}
use Rattle.sv_solve.proofs.Places.{stands_more_cases}
use Rattle.sv_solve.proofs.Trails.{stands_before}
use Rattle.sv_solve.proofs.minimization.adds_none.Goals as goal
use Rattle.sv_solve.proofs.minimization.adds_none.Goals.{After-index-clause-index}

of_it : (c : After-index-clause-index) → IsOf c.args.trail.now.variables c.index-clause-index.result
of_it c =
    let e = get_or_read c.args.clause.now c.literals.index c.index-clause-index.result (omega arith)
    c.index-clause-index.is (pos 0) in
    subst (IsOf c.args.trail.now.variables) (sym e)
    (of_at c.args.trail.now.variables c.args.clause.now c.literals.index c.requires.clause
    (omega arith))

pub place_below-requires-clause-of : goal.place_below-requires-clause-of
place_below-requires-clause-of c =
    of_it (goal.at.place_below-requires-clause-of c).After-index-clause-index

pub contains-requires : goal.contains-requires
contains-requires c =
    subst (λ z. IsOf z c.index-clause-index.result) (sym c.requires.variables)
    (of_it (goal.at.contains-requires c).After-index-clause-index)

pub literals-preserved : goal.literals-preserved
literals-preserved c =
    let clause = c.args.clause.now in
    let trail = c.args.trail.now.literals in
    let small : c.literals.index < length clause = omega arith in
    let place = c.args.place in
    let within : place < length trail = c.requires.place in
    let is = get_or_read clause c.literals.index c.index-clause-index.result small
    c.index-clause-index.is (pos 0) in (
      omega arith,
      c.literals.invariant.1,
      λ l e ne. ⊎_elim (λ older. c.literals.invariant.2 l older ne)
          (λ same. stands_before trail c.in-Some._before place (neg_ℤ l) c.in-Some.ensures.some.0
          (omega arith) (c.in-Some.ensures.some.1 ∙ ap neg_ℤ (is ∙ sym same)))
          (stands_more_cases l clause c.literals.index small e),
      λ l e ne. ⊎_elim (λ older. c.literals.invariant.3 l older ne)
          (λ same. ap (λ z. stands z c.args.seen.now.literals) (same ∙ sym is)
          ∙ sym c.if-not-contains.ensures)
          (stands_more_cases l clause c.literals.index small e),
    )
