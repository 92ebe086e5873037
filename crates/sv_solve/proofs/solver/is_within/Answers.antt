use Rattle.std.proofs.Common.{◌≡◌, ◌≤◌, ◌∙◌, get_or, pos, unsigned_abs, subst, sym, ap}
use Rattle.std.proofs.lemmas.List.{get_or_default}
use Rattle.sv_clause.specs.Literals.{stands}
use Rattle.sv_solve.proofs.Places.{place_of, stands_at}
use Rattle.sv_solve.proofs.solver.is_within.Goals as goal

pub returns : goal.returns
returns c =
    let literals = c.literals.result.now in
    let same : literals ≡ c.args.clause.now = c.literals.ensures.value in (
      λ yes l e.
          let p = place_of l literals (ap (stands l) same ∙ e) in
          subst (λ z. unsigned_abs z ≤ c.args.variables) p.2
          (c.are_within.ensures.0 yes p.0 (pos 0) p.1),
      λ within. c.are_within.ensures.1
          (λ k d h. subst (λ z.
          unsigned_abs z ≤ c.args.variables) (get_or_default literals k (pos 0) d h)
          (within (get_or literals k (pos 0))
          (ap (stands (get_or literals k (pos 0))) (sym same) ∙ stands_at literals k h))),
    )
