use Rattle.std.proofs.Common.{◌≡◌, ◌<◌, ◌∙◌, sym, subst, length, get_or, arith, [], pos, true}
use Rattle.std.proofs.lemmas.List.{get_or_read}
use Rattle.sv_clause.specs.Literals.{stands}
use Rattle.sv_solve.proofs.Places.{stands_at}
use Rattle.sv_solve.proofs.Assumed.{units_of, units_push}
use Rattle.sv_solve.proofs.state.assume_units.Goals as goal

pub returns-clause-units : goal.returns-clause-units
returns-clause-units c =
    units_of c.args.clauses.now c.clauses.trail.literals c.clauses.place (omega arith)
    c.clauses.invariant.3

pub clauses-preserved : goal.clauses-preserved
clauses-preserved c =
    let clauses = c.args.clauses.now in
    let place = c.clauses.place in
    let clause = c.literals-clause.result.now in
    let l = c.index-clause-0-in-clauses-2.result in
    let here : place < length clauses = omega arith in
    let at : clause ≡ get_or clauses place [] =
    c.literals-clause.ensures
    ∙ get_or_read clauses place c.index-clauses-place.result here c.index-clauses-place.is [] in
    let some : 0 < length clause = omega arith in
    let first : l ≡ get_or clause 0 (pos 0) =
    get_or_read clause 0 l some c.index-clause-0-in-clauses-2.is (pos 0) in
    let more = units_push clauses c.clauses.trail c.push.new.self clause l place here at
    (omega arith) (subst (λ z. stands z clause ≡ true) (sym first) (stands_at clause 0 some))
    c.in_ok-push.ensures.literals c.in_ok-push.ensures.reasons c.in_ok-push.ensures.room
    c.clauses.invariant.2 c.clauses.invariant.3 in
    (omega arith, c.in_ok-push.ensures.variables ∙ c.clauses.invariant.1, more.0, more.1)
