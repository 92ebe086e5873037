use Rattle.std.proofs.Common.{◌≡◌, ◌<◌, ◌∙◌, sym, subst, length, take, get_or, [], ◌∷◌, ◌++◌, arith}
use Rattle.std.proofs.lemmas.List.{get_or_read, take_more}
use Rattle.sv_solve.specs.Watching.{IsPairOf, IsFitting}
use Rattle.sv_solve.proofs.TakenUp.{fitting_push}
use Rattle.sv_solve.proofs.state.watch_all.Goals as goal

pub clauses-preserved : goal.clauses-preserved
clauses-preserved c =
    let clauses = c.args.clauses.now in
    let i = c.clauses.clause-index in
    let pair = c.first_pair.result in
    let here : i < length clauses = omega arith in
    let is : c.literals.result.now ≡ get_or clauses i [] =
    c.literals.ensures ∙ get_or_read clauses i c.clause-item.result here c.clause-item.is [] in
    let fits : IsFitting (take i clauses ++ get_or clauses i [] ∷ [])
    (c.clauses.watches.pairs ++ pair ∷ []) =
    fitting_push (take i clauses) c.clauses.watches.pairs (get_or clauses i []) pair
    c.clauses.invariant.0 (subst (λ z. IsPairOf z pair) is c.first_pair.ensures) in (
      subst (λ z. IsFitting z c.attach.new.self.pairs) (sym (take_more clauses i [] here))
          (subst (IsFitting (take i clauses ++ get_or clauses i [] ∷ []))
          (sym c.in_ok-attach.ensures.pairs) fits),
      c.in_ok-attach.ensures.listed,
      c.in_ok-attach.ensures.variables ∙ c.clauses.invariant.2,
    )
