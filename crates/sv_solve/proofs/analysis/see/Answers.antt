use Rattle.std.proofs.Common.{◌≡◌, ◌<◌, ◌++◌, ◌∷◌, [], length, arith, subst, sym, ap, ◌∙◌, pos}
use Rattle.std.proofs.Common.{neg_ℤ, get_or, true, false}
use Rattle.std.proofs.lemmas.List.{get_or_read}
use Rattle.sv_clause.specs.Literals.{stands}
use Rattle.sv_solve.specs.Codes.{IsOf}
use Rattle.sv_solve.proofs.Clauses.{of_at, of_neg}
use Rattle.sv_solve.proofs.Seeing.{see_none, see_new}
use Rattle.sv_solve.proofs.analysis.see.Goals as goal
use Rattle.sv_solve.proofs.analysis.see.Goals.{After-index-clause-place}

is_at : (c : After-index-clause-place) →
    c.index-clause-place.result ≡ get_or c.args.clause.now c.literals.place (pos 0)
is_at c =
    get_or_read c.args.clause.now c.literals.place c.index-clause-place.result (omega arith)
    c.index-clause-place.is (pos 0)

of_it : (c : After-index-clause-place) → IsOf c.args.trail.now.variables c.index-clause-place.result
of_it c =
    subst (IsOf c.args.trail.now.variables) (sym (is_at c))
    (of_at c.args.trail.now.variables c.args.clause.now c.literals.place c.requires.clause
    (omega arith))

of_seen : (c : After-index-clause-place) →
    IsOf c.literals.seen.variables c.index-clause-place.result
of_seen c =
    subst (λ z. IsOf z c.index-clause-place.result)
    (sym (c.literals.invariant.1 ∙ c.requires.variables)) (of_it c)

pub contains-requires : goal.contains-requires
contains-requires c = of_seen (goal.at.contains-requires c).After-index-clause-place

pub contains-requires-in-literals : goal.contains-requires-in-literals
contains-requires-in-literals c =
    subst (IsOf c.args.trail.now.variables) (sym c.negated.ensures)
    (of_neg c.args.trail.now.variables c.index-clause-place.result
    (of_it (goal.at.contains-requires-in-literals c).After-index-clause-place))

pub push-requires-clause-of : goal.push-requires-clause-of
push-requires-clause-of c = of_seen (goal.at.push-requires-clause-of c).After-index-clause-place

pub literals-preserved-then-not-contains : goal.literals-preserved-then-not-contains
literals-preserved-then-not-contains c =
    let trail = c.args.trail.now.literals in
    let small : c.literals.place < length c.args.clause.now = omega arith in
    let e = is_at (goal.at.literals-preserved-then-not-contains c).After-index-clause-place in
    let free : stands (neg_ℤ (get_or c.args.clause.now c.literals.place (pos 0))) trail ≡ false =
    ap (λ z. stands (neg_ℤ z) trail) (sym e) ∙ ap (λ z. stands z trail) (sym c.negated.ensures)
    ∙ sym c.if-not-contains.ensures in (
      omega arith,
      c.literals.invariant.1,
      see_none c.args.seen.now.literals c.args.clause.now trail
          c.literals.seen.literals c.literals.place small free c.literals.invariant.2,
    )

pub literals-preserved : goal.literals-preserved
literals-preserved c =
    let trail = c.args.trail.now.literals in
    let small : c.literals.place < length c.args.clause.now = omega arith in
    let e = is_at (goal.at.literals-preserved c).After-index-clause-place in
    let wrong : stands (neg_ℤ (get_or c.args.clause.now c.literals.place (pos 0))) trail ≡ true =
    ap (λ z. stands (neg_ℤ z) trail) (sym e) ∙ ap (λ z. stands z trail) (sym c.negated.ensures)
    ∙ sym c.if-not-contains.ensures in
    let longer : c.push.new.self.literals ≡ c.literals.seen.literals
    ++ get_or c.args.clause.now c.literals.place (pos 0) ∷ [] = c.in_ok-push.ensures.literals
    ∙ ap (λ z. c.literals.seen.literals ++ z ∷ []) e in (
      omega arith,
      c.in_ok-push.ensures.variables
          ∙ c.literals.invariant.1,
      see_new c.args.seen.now.literals c.args.clause.now trail
          c.literals.seen.literals c.push.new.self.literals c.literals.place small wrong longer
          c.literals.invariant.2,
    )
