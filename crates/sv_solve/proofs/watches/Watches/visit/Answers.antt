use Rattle.std.proofs.Common.{◌≡◌, true, ◌<◌, ◌+◌, ℕ, List, neg_ℤ, rules, [], ◌∷◌, get_or, length}
use Rattle.std.proofs.Common.{Some, None, ap, ◌∙◌, sym, subst, arith}
use Rattle.std.specs.Prelude.{IfSome}
use Rattle.std.proofs.lemmas.List.{get_or_read}
use Rattle.sv_clause.specs.Literals.{stands}
use Rattle.sv_solve.specs.Codes.{IsOf}
use Rattle.sv_solve.specs.Search.{IsClauseOf, AllFalse, OthersFalse, Implies}
use Rattle.sv_solve.specs.Watching.{watching_list, pair_at, IsHeld, ArePair}
use Rattle.sv_solve.specs.declared.watches.Pair.{Pair}
use Rattle.sv_solve.proofs.Clauses.{of_member, implies_at}
use Rattle.sv_solve.proofs.Places.{stands_push_new}
use Rattle.sv_solve.proofs.Watched.{place_below, place_has, code_small, list_read}
use Rattle.sv_solve.proofs.Visits.{extends_same, extends_push, held_beside, beside_stands}
use Rattle.sv_solve.proofs.Visits.{not_false_apart, length-swap_remove, visiting_more}
use Rattle.sv_solve.proofs.Visits.{visiting_rewatched, visiting_end}
use Rattle.sv_solve.proofs.watches.Watches.visit.Goals as goal
use Rattle.sv_solve.proofs.watches.Watches.visit.Goals.{In-visited, After-at-place}
use Rattle.sv_solve.proofs.watches.Watches.visit.Goals.{After-index-in-visited-2, In-Some}
use Rattle.sv_solve.proofs.watches.Watches.visit.Goals.{After-literals}

pub index-requires : goal.index-requires
index-requires c =
    let of : IsOf c.visited.self.variables c.args.falsified.now =
    subst (λ z. IsOf z c.args.falsified.now) (sym c.visited.invariant.proceeds.variables)
    c.requires.of in
    let small = code_small c.self.inside.lists.items c.visited.self c.args.falsified.now
    c.index-code.result (ap (λ z. z.lists) c.self.view_is) c.visited.invariant.proceeds.listed of
    c.index-code.ensures in
    omega (arith, small, c.self.inside.lists.ok.0)

of_now : (c : In-visited) → IsOf c.visited.self.variables c.args.falsified.now
of_now c =
    subst (λ z. IsOf z c.args.falsified.now) (sym c.visited.invariant.proceeds.variables)
    c.requires.of

-- what the code reads as the list is the literal's list
list_is : (c : In-visited) (xs : List ℕ) →
    xs ≡ get_or c.self.inside.lists.items c.index-code.result xs →
    xs ≡ watching_list c.visited.self c.args.falsified.now
list_is c =
    list_read c.self.inside.lists.items c.visited.self c.args.falsified.now c.index-code.result
    (ap (λ z. z.lists) c.self.view_is) c.visited.invariant.proceeds.listed (of_now c)
    c.index-code.ensures

index_small : (c : In-visited) →
    c.visited.index < length (watching_list c.visited.self c.args.falsified.now)
index_small c =
    omega (
      arith,
      c.visited-test.true,
      c.len.ensures,
      ap length
          (list_is c c.index.result.now c.index.ensures),
    )

pub index-requires-in-visited : goal.index-requires-in-visited
index-requires-in-visited c =
    let of = of_now (goal.at.index-requires-in-visited c).In-visited in
    let small = code_small c.self.inside.lists.items c.visited.self c.args.falsified.now
    c.index-code.result (ap (λ z. z.lists) c.self.view_is) c.visited.invariant.proceeds.listed of
    c.index-code.ensures in
    omega (arith, small, c.self.inside.lists.ok.0)

pub at-place-requires : goal.at-place-requires
at-place-requires c =
    let s = (goal.at.at-place-requires c).In-visited in
    omega (
      arith,
      index_small s,
      ap length
          (list_is s c.index-in-visited.result.now c.index-in-visited.ensures),
    )

place_is : (c : After-at-place) →
    c.at-place.result ≡ get_or (watching_list c.visited.self c.args.falsified.now) c.visited.index 0
place_is c =
    c.at-place.ensures ∙ ap (λ z.
    get_or z c.visited.index 0)
    (list_is (goal.at.After-at-place c).In-visited c.index-in-visited.result.now
    c.index-in-visited.ensures)

place_small : (c : After-at-place) → c.at-place.result < length c.visited.self.pairs
place_small c =
    let s = (goal.at.After-at-place c).In-visited in
    subst (λ z. z < length c.visited.self.pairs) (sym (place_is c))
    (place_below c.visited.self c.args.falsified.now c.visited.index
    c.visited.invariant.proceeds.listed (of_now s) (index_small s))

pub index-requires-in-visited-2 : goal.index-requires-in-visited-2
index-requires-in-visited-2 c =
    omega (
      arith,
      place_small (goal.at.index-requires-in-visited-2 c).After-at-place,
      ap (λ z.
          length z.pairs) c.self.view_is,
      c.self.inside.pairs.ok.0,
    )

pub visited-smaller-in_default : goal.visited-smaller-in_default
visited-smaller-in_default c =
    omega (arith, index_small (goal.at.visited-smaller-in_default c).In-visited)

pair_is : (c : After-index-in-visited-2) →
    c.index-in-visited-2.result.now ≡
    pair_at c.visited.self.pairs
    (get_or (watching_list c.visited.self c.args.falsified.now) c.visited.index 0)
pair_is c =
    let pairs : c.self.inside.pairs.items ≡ c.visited.self.pairs =
    ap (λ z. z.pairs) c.self.view_is in
    let small : c.at-place.result < length c.self.inside.pairs.items =
    omega (
      arith,
      place_small (goal.at.After-index-in-visited-2 c).After-at-place,
      ap length
          pairs,
    ) in
    get_or_read c.self.inside.pairs.items c.at-place.result c.index-in-visited-2.result.now small
    c.index-in-visited-2.ensures None ∙ ap (λ z. pair_at z c.at-place.result) pairs
    ∙ ap (pair_at c.visited.self.pairs)
    (place_is (goal.at.After-index-in-visited-2 c).After-at-place)

pub visited-preserved-in_default : goal.visited-preserved-in_default
visited-preserved-in_default c =
    visiting_more c.args.clauses.now c.args.falsified.now c.args.self.now c.args.trail.now
    c.visited.self c.visited.trail c.visited.trail c.visited.index c.visited.invariant
    (extends_same c.args.clauses.now c.visited.trail)
    (subst (IsHeld (neg_ℤ c.args.falsified.now ∷ []) c.visited.trail.literals) (sym c.in_default.is
    ∙ pair_is (goal.at.visited-preserved-in_default c).After-index-in-visited-2) tt)

pub beside-kept-requires : goal.beside-kept-requires
beside-kept-requires c =
    let p = (goal.at.beside-kept-requires c).In-visited in
    place_has c.visited.self c.args.falsified.now c.visited.index
    c.visited.invariant.proceeds.listed (of_now p) (index_small p) c.in-Some.pair
    (sym (pair_is (goal.at.beside-kept-requires c).After-index-in-visited-2) ∙ c.in-Some.is)

clause_small : (c : After-at-place) → c.at-place.result < length c.args.clauses.now
clause_small c = omega (arith, place_small c, c.visited.invariant.proceeds.fitting.count)

pub bounds-clauses-place : goal.bounds-clauses-place
bounds-clauses-place c = clause_small (goal.at.bounds-clauses-place c).After-at-place

pub offset_bounds-clauses-place : goal.offset_bounds-clauses-place
offset_bounds-clauses-place c =
    let small : c.at-place.result
    < length c.args.clauses.now = clause_small
    (goal.at.offset_bounds-clauses-place c).After-at-place in search (rules, small)

clause_is : (c : After-literals) →
    c.literals.result.now ≡ get_or c.args.clauses.now c.at-place.result []
clause_is c =
    c.literals.ensures
    ∙ get_or_read c.args.clauses.now c.at-place.result c.index-clauses-place.result
    (clause_small (goal.at.After-literals c).After-at-place) c.index-clauses-place.is []

clause_of : (c : After-literals) → IsClauseOf c.args.trail.now.variables c.literals.result.now
clause_of c =
    subst (IsClauseOf c.args.trail.now.variables) (sym (clause_is c))
    (c.requires.clauses c.at-place.result []
    (clause_small (goal.at.After-literals c).After-at-place))

pub demand_of-requires-clause-of : goal.demand_of-requires-clause-of
demand_of-requires-clause-of c =
    subst (λ z. IsClauseOf z c.literals.result.now)
    (sym c.visited.invariant.proceeds.extends.variables)
    (clause_of (goal.at.demand_of-requires-clause-of c).After-literals)

some_is : (c : In-Some) → pair_at c.visited.self.pairs c.at-place.result ≡ Some c.in-Some.pair
some_is c =
    ap (pair_at c.visited.self.pairs) (place_is (goal.at.In-Some c).After-at-place)
    ∙ sym (pair_is (goal.at.In-Some c).After-index-in-visited-2) ∙ c.in-Some.is

member_is : (c : After-literals) → stands c.beside-kept.result c.literals.result.now ≡ true
member_is c =
    let s = goal.at.After-literals c in
    ap (stands c.beside-kept.result) (clause_is c)
    ∙ beside_stands c.args.clauses.now c.visited.self.pairs c.at-place.result c.in-Some.pair
    c.args.falsified.now c.beside-kept.result c.visited.invariant.proceeds.fitting
    (place_small s.After-at-place) (some_is s.In-Some) c.beside-kept.ensures

pub demand_of-requires-clause-member : goal.demand_of-requires-clause-member
demand_of-requires-clause-member c =
    member_is (goal.at.demand_of-requires-clause-member c).After-literals

-- the pair in the terms of the list
listed_some : (c : In-Some) →
    pair_at c.visited.self.pairs
    (get_or (watching_list c.visited.self c.args.falsified.now) c.visited.index 0) ≡
    Some c.in-Some.pair
listed_some c = sym (pair_is (goal.at.In-Some c).After-index-in-visited-2) ∙ c.in-Some.is

pub visited-smaller-in-Held : goal.visited-smaller-in-Held
visited-smaller-in-Held c =
    omega (arith, index_small (goal.at.visited-smaller-in-Held c).In-visited)

pub visited-preserved-in-Held : goal.visited-preserved-in-Held
visited-preserved-in-Held c =
    let s = goal.at.visited-preserved-in-Held c in
    let a = c.args.falsified.now in
    visiting_more c.args.clauses.now a c.args.self.now c.args.trail.now c.visited.self
    c.visited.trail c.visited.trail c.visited.index c.visited.invariant
    (extends_same c.args.clauses.now c.visited.trail)
    (subst (IsHeld (neg_ℤ a ∷ []) c.visited.trail.literals) (sym (listed_some s.In-Some))
    (held_beside a c.beside-kept.result c.visited.trail.literals c.in-Some.pair
    c.beside-kept.ensures c.in-Held.ensures))

pub rewatch-requires-clause-index : goal.rewatch-requires-clause-index
rewatch-requires-clause-index c = index_small (goal.at.rewatch-requires-clause-index c).In-visited

pub rewatch-requires-clause-one : goal.rewatch-requires-clause-one
rewatch-requires-clause-one c =
    let s = goal.at.rewatch-requires-clause-one c in
    let v = c.visited.invariant in
    let same : c.args.trail.now.variables ≡ c.visited.self.variables =
    sym c.requires.variables ∙ sym v.proceeds.variables in (
      not_false_apart c.args.falsified.now c.in-Next.next c.args.trail.now.literals
          c.visited.trail.literals v.proceeds.extends.older c.requires.falsified
          c.in-Next.ensures.2,
      subst (λ z. IsOf z c.in-Next.next) same
          (of_member c.args.trail.now.variables c.literals.result.now c.in-Next.next
          (clause_of s.After-literals) c.in-Next.ensures.1),
    )

pub rewatch-requires-clause-other : goal.rewatch-requires-clause-other
rewatch-requires-clause-other c =
    subst (λ z. IfSome z (λ old. ArePair old c.args.falsified.now c.beside-kept.result))
    (sym (listed_some (goal.at.rewatch-requires-clause-other c).In-Some)) c.beside-kept.ensures

pub visited-smaller-in-Next : goal.visited-smaller-in-Next
visited-smaller-in-Next c =
    let small = index_small (goal.at.visited-smaller-in-Next c).In-visited in
    omega (
      arith,
      small,
      length-swap_remove (watching_list c.visited.self c.args.falsified.now)
          c.visited.index small,
      ap length c.in_ok-rewatch-in-Next.ensures.list,
    )

pub visited-preserved-in-Next : goal.visited-preserved-in-Next
visited-preserved-in-Next c =
    let s = goal.at.visited-preserved-in-Next c in
    let v = c.visited.invariant in
    let p = s.After-at-place in
    let next : Pair = record { one = c.in-Next.next; other = c.beside-kept.result } in
    let e = c.in_ok-rewatch-in-Next.ensures in
    visiting_rewatched c.args.clauses.now c.args.falsified.now c.args.self.now c.args.trail.now
    c.visited.self c.rewatch.new.self c.visited.trail c.visited.index c.in-Some.pair next
    v c.requires.consistent c.requires.falsified (index_small s.In-visited)
    (subst (λ z. z < length c.visited.self.pairs) (place_is p) (place_small p))
    (listed_some s.In-Some) c.beside-kept.ensures c.in-Next.ensures.0
    (ap (λ z. stands c.in-Next.next (get_or c.args.clauses.now z [])) (sym (place_is p))
    ∙ ap (stands c.in-Next.next) (sym (clause_is s.After-literals)) ∙ c.in-Next.ensures.1)
    c.in-Next.ensures.2 e.pairs e.listed e.variables e.list

pub overflow_add-place : goal.overflow_add-place
overflow_add-place c =
    let small : c.at-place.result
    < length c.args.clauses.now = clause_small (goal.at.overflow_add-place c).After-at-place in
    search (rules, small)

pub push-requires-clause-of : goal.push-requires-clause-of
push-requires-clause-of c =
    let s = (goal.at.push-requires-clause-of c).After-literals in
    subst (λ z. IsOf z c.beside-kept.result) (sym c.visited.invariant.proceeds.extends.variables)
    (of_member c.args.trail.now.variables c.literals.result.now c.beside-kept.result
    (clause_of s) (member_is s))

pub visited-smaller : goal.visited-smaller
visited-smaller c = omega (arith, index_small (goal.at.visited-smaller c).In-visited)

pub visited-preserved : goal.visited-preserved
visited-preserved c =
    let s = goal.at.visited-preserved c in
    let a = c.args.falsified.now in
    let kept = c.beside-kept.result in
    let old = c.visited.trail in
    let new = c.push.new.self in
    let clauses = c.args.clauses.now in
    let is = clause_is s.After-literals in
    let e = c.in_ok-push-in-Forced.ensures in
    let implies : Implies clauses (c.at-place.result + 1) old.literals kept =
    implies_at clauses c.at-place.result old.literals kept (clause_small s.After-at-place)
    (ap (stands kept) (sym is) ∙ member_is s.After-literals)
    (subst (λ z. OthersFalse old.literals z kept) is c.in-Forced.ensures.0) in
    visiting_more clauses a c.args.self.now c.args.trail.now c.visited.self old new c.visited.index
    c.visited.invariant
    (extends_push clauses old new kept (c.at-place.result + 1) e.literals e.reasons e.room
    e.variables implies)
    (subst (IsHeld (neg_ℤ a ∷ []) new.literals) (sym (listed_some s.In-Some))
    (held_beside a kept new.literals c.in-Some.pair c.beside-kept.ensures
    (ap (stands kept) e.literals ∙ stands_push_new kept old.literals)))

pub returns-in-Conflict-clause-conflict : goal.returns-in-Conflict-clause-conflict
returns-in-Conflict-clause-conflict c =
    let s = goal.at.returns-in-Conflict-clause-conflict c in (
      clause_small s.After-at-place,
      subst (AllFalse c.visited.trail.literals)
          (clause_is s.After-literals) c.in-Conflict.ensures,
    )

pub returns-clause-visited : goal.returns-clause-visited
returns-clause-visited c =
    let v = c.visited.invariant in
    let of : IsOf c.visited.self.variables c.args.falsified.now =
    subst (λ z. IsOf z c.args.falsified.now) (sym v.proceeds.variables) c.requires.of in
    let first = list_read c.self.inside.lists.items c.visited.self c.args.falsified.now
    c.index-code.result (ap (λ z. z.lists) c.self.view_is) v.proceeds.listed of
    c.index-code.ensures c.index.result.now c.index.ensures in
    visiting_end c.args.clauses.now c.args.falsified.now c.args.self.now c.args.trail.now
    c.visited.self c.visited.trail c.visited.index v of
    (omega (arith, c.visited-test.false, c.len.ensures, ap length first))
