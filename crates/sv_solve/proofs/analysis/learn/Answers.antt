use Rattle.std.proofs.Common.{◌≡◌, ◌≤◌, length, sym, ap, ◌∙◌, subst, [], ◌∷◌, ◌+◌, get_or, pos}
use Rattle.std.proofs.Common.{neg_ℤ, take, true, arith}
use Rattle.sv_clause.specs.Literals.{stands, SameLiterals, MakeNoClause}
use Rattle.sv_clause.specs.Logs.{ChainGives}
use Rattle.sv_clause.specs.Units.{IsOpen}
use Rattle.sv_clause.proofs.Merging.{neg-neg}
use Rattle.sv_solve.specs.Codes.{IsOf}
use Rattle.sv_solve.specs.ConflictClauses.{IsMinimized}
use Rattle.sv_solve.specs.Search.{AllFalse, Derives}
use Rattle.sv_solve.proofs.Asserting.{asserting}
use Rattle.sv_solve.proofs.Clauses.{numbered_at, of_neg}
use Rattle.sv_solve.proofs.Deriving.{derive_start, derive_first, later_start, learned_new}
use Rattle.sv_solve.proofs.Deriving.{chain_like}
use Rattle.sv_solve.proofs.MinimizedClauses.{minimized_like, minimized_late, minimized_others}
use Rattle.sv_solve.proofs.Learned.{learned_makes, learned_clause_of}
use Rattle.sv_solve.proofs.Places.{stands_is, not_stands_take_le}
use Rattle.sv_solve.proofs.analysis.learn.Goals as goal
use Rattle.sv_solve.proofs.analysis.learn.Goals.{After-negated-first, In_ok-minimized, In_ok-clause}

pub resolve_to_first_uip-requires-clause-derives : goal.resolve_to_first_uip-requires-clause-derives
resolve_to_first_uip-requires-clause-derives c =
    derive_start c.args.clauses.now c.args.trail.now.literals c.begin.new.chain.items
    (c.args.conflict + 1) (get_or c.args.clauses.now c.args.conflict [])
    c.begin.new.seen.literals
    c.in_ok-begin.ensures.chain (numbered_at c.args.clauses.now c.args.conflict c.requires.conflict)
    c.requires.all_false c.in_ok-begin.ensures.seen

pub resolve_to_first_uip-requires-clause-later : goal.resolve_to_first_uip-requires-clause-later
resolve_to_first_uip-requires-clause-later c =
    later_start c.args.clauses.now c.args.trail.now.literals c.begin.new.seen.literals
    (get_or c.args.clauses.now c.args.conflict []) c.args.mark (c.args.conflict + 1)
    c.len-len.ensures.consistent c.requires.rest
    (numbered_at c.args.clauses.now c.args.conflict c.requires.conflict) c.requires.all_false
    c.in_ok-begin.ensures.seen

-- the first literal is the one at the place, negated
first_is : (c : After-negated-first) →
    c.negated-first.result ≡ neg_ℤ (get_or c.args.trail.now.literals c.in_ok-place.place (pos 0))
first_is c = c.negated-first.ensures ∙ ap neg_ℤ c.at.ensures.value

back : (c : After-negated-first) →
    neg_ℤ c.negated-first.result ≡ get_or c.args.trail.now.literals c.in_ok-place.place (pos 0)
back c =
    ap neg_ℤ (c.negated-first.ensures ∙ ap neg_ℤ c.at.ensures.value)
    ∙ neg-neg (get_or c.args.trail.now.literals c.in_ok-place.place (pos 0))

first_false : (c : After-negated-first) →
    stands (neg_ℤ c.negated-first.result) c.args.trail.now.literals ≡ true
first_false c =
    stands_is (neg_ℤ c.negated-first.result) c.args.trail.now.literals c.in_ok-place.place
    c.in_ok-place.ensures.to (sym (back c))

open_first : (c : After-negated-first) →
    IsOpen (take c.args.mark c.args.trail.now.literals) c.negated-first.result
open_first c =
    let trail = c.args.trail.now.literals in
    let place = c.in_ok-place.place in
    let o = c.len-len.ensures.each_open place c.in_ok-place.ensures.to in (
      not_stands_take_le c.negated-first.result trail c.args.mark place c.in_ok-place.ensures.from
          (ap (λ z. stands z (take place trail)) (first_is c) ∙ o.1),
      not_stands_take_le (neg_ℤ c.negated-first.result) trail c.args.mark place
          c.in_ok-place.ensures.from (ap (λ z. stands z (take place trail)) (back c) ∙ o.0),
    )

pub minimize-requires-clause-mark : goal.minimize-requires-clause-mark
minimize-requires-clause-mark c =
    omega (arith, c.in_ok-place.ensures.from, c.in_ok-place.ensures.to)

pub minimize-requires-clause-first : goal.minimize-requires-clause-first
minimize-requires-clause-first c =
    first_false (goal.at.minimize-requires-clause-first c).After-negated-first

pub minimize-requires-clause-open_first : goal.minimize-requires-clause-open_first
minimize-requires-clause-open_first c =
    open_first (goal.at.minimize-requires-clause-open_first c).After-negated-first

pub minimize-requires-clause-derives : goal.minimize-requires-clause-derives
minimize-requires-clause-derives c =
    let trail = c.args.trail.now.literals in
    let seen = c.resolve_to_first_uip.new.seen.literals in
    subst (λ z. Derives c.args.clauses.now c.resolve_to_first_uip.new.chain.items (z ∷ []) seen
    trail c.args.mark) (sym
    (first_is (goal.at.minimize-requires-clause-derives c).After-negated-first))
    (derive_first c.args.clauses.now trail c.resolve_to_first_uip.new.chain.items seen c.args.mark
    c.in_ok-place.place c.in_ok-place.ensures.from c.in_ok-place.ensures.to
    c.in_ok-place.ensures.here c.in_ok-place.ensures.none c.in_ok-place.ensures.derives)

all_false : (c : In_ok-minimized)
    → stands (neg_ℤ c.negated-first.result) c.args.trail.now.literals ≡ true
    → IsOpen (take c.args.mark c.args.trail.now.literals) c.negated-first.result
    → AllFalse c.args.trail.now.literals c.in_ok-minimized.minimized.literals.items
all_false c wrong free l e =
    (minimized_late c.args.trail.now.literals c.negated-first.result c.args.mark
    c.in_ok-minimized.minimized.literals.items 0 c.in_ok-minimized.minimized.keep
    c.len-len.ensures.each_open
    (omega (arith, c.in_ok-place.ensures.from, c.in_ok-place.ensures.to)) (omega arith) wrong free
    c.in_ok-minimized.ensures.minimized l e).1

pub clause_of-requires : goal.clause_of-requires
clause_of-requires c =
    let a = (goal.at.clause_of-requires c).After-negated-first in
    λ none. learned_makes c.args.trail.now.variables c.in_ok-minimized.minimized.literals.items
    c.args.trail.now.literals c.requires.small c.len-len.ensures.consistent c.len-len.ensures.of
    (all_false (goal.at.clause_of-requires c).In_ok-minimized (first_false a) (open_first a))
    (subst MakeNoClause c.deref.ensures.value none)

same : (c : In_ok-clause) →
    SameLiterals c.in_ok-clause.clause c.in_ok-minimized.minimized.literals.items
same c =
    subst (SameLiterals c.in_ok-clause.clause) c.deref.ensures.value c.in_ok-clause.ensures.same

-- the clause as it was minimized
minimized : (c : In_ok-clause) →
    IsMinimized c.args.trail.now.literals c.negated-first.result c.in_ok-clause.clause 0
    c.in_ok-minimized.minimized.keep c.args.mark
minimized c =
    minimized_like c.args.trail.now.literals c.negated-first.result c.args.mark
    c.in_ok-minimized.minimized.literals.items c.in_ok-clause.clause 0
    c.in_ok-minimized.minimized.keep (same c) c.in_ok-minimized.ensures.minimized

pub returns-clause-derived : goal.returns-clause-derived
returns-clause-derived c =
    let s = same (goal.at.returns-clause-derived c).In_ok-clause in
    subst (λ chain. ChainGives c.args.clauses.now chain c.in_ok-clause.clause)
    (sym c.shrink_to_fit.ensures.items)
    (chain_like c.args.clauses.now c.minimize.new.chain.items
    c.in_ok-minimized.minimized.literals.items c.in_ok-clause.clause
    (λ l. sym (s l)) c.in_ok-minimized.ensures.derives)

pub returns-clause-new : goal.returns-clause-new
returns-clause-new c =
    let trail = c.args.trail.now.literals in
    let d = minimized (goal.at.returns-clause-new c).In_ok-clause in
    let size : c.args.mark ≤ length trail =
    omega (arith, c.in_ok-place.ensures.from, c.in_ok-place.ensures.to) in
    learned_new c.args.clauses.now trail c.in_ok-clause.clause c.negated-first.result c.args.mark
    c.requires.rest d.member (open_first (goal.at.returns-clause-new c).After-negated-first)
    (minimized_others trail c.negated-first.result c.args.mark c.in_ok-clause.clause 0
    c.in_ok-minimized.minimized.keep c.args.mark size d.early (omega arith) d)

pub returns-clause-of : goal.returns-clause-of
returns-clause-of c =
    let s = same (goal.at.returns-clause-of c).In_ok-clause in
    let a = (goal.at.returns-clause-of c).After-negated-first in
    learned_clause_of c.args.trail.now.variables c.in_ok-clause.clause
    c.in_ok-minimized.minimized.literals.items c.args.trail.now.literals
    c.in_ok-clause.ensures.normal s c.len-len.ensures.of
    (all_false (goal.at.returns-clause-of c).In_ok-minimized (first_false a) (open_first a))

pub returns-clause-first : goal.returns-clause-first
returns-clause-first c =
    subst (IsOf c.args.trail.now.variables) (sym c.negated-first.ensures)
    (of_neg c.args.trail.now.variables c.at.result c.at.ensures.of)

pub returns-clause-asserting : goal.returns-clause-asserting
returns-clause-asserting c =
    let trail = c.args.trail.now.literals in
    let size : c.args.mark ≤ length trail =
    omega (arith, c.in_ok-place.ensures.from, c.in_ok-place.ensures.to) in
    asserting trail c.in_ok-clause.clause c.negated-first.result c.args.mark
    c.in_ok-minimized.minimized.keep c.len-len.ensures.each_open size
    (open_first (goal.at.returns-clause-asserting c).After-negated-first)
    c.in_ok-clause.ensures.normal (minimized (goal.at.returns-clause-asserting c).In_ok-clause)
    c.last_of-other.result c.last_of-other.ensures
