use Rattle.std.proofs.Common.{◌<◌, ◌≡◌, ◌+◌, ◌++◌, ◌∷◌, [], length, arith, subst, ap, ◌∙◌, pos}
use Rattle.std.proofs.Common.{ℕ, ℤ, List, neg_ℤ, get_or, true, refl, rules, w32, FitsSigned}
use Rattle.std.specs.Prelude.{AllPairs}
use Rattle.std.proofs.lemmas.Int.{to_z-of_z}
use Rattle.sv_clause.specs.Literals.{stands}
use Rattle.sv_solve.specs.ConflictClauses.{IsMinimized, OthersSeen, ArePlaces}
use Rattle.sv_solve.specs.Search.{Derives}
use Rattle.sv_solve.proofs.Clauses.{numbered_place}
use Rattle.sv_solve.proofs.Places.{stands_at}
use Rattle.sv_solve.proofs.Deriving.{derive_unseen, derive_keep, derive_step, derive_end}
use Rattle.sv_solve.proofs.MinimizedClauses.{minimized_down, minimized_more, minimized_other}
use Rattle.sv_solve.proofs.MinimizedClauses.{minimized_late}
use Rattle.sv_solve.proofs.Minimizing.{none_left, last_below, last_seen, none_later, rest_places}
use Rattle.sv_solve.proofs.Minimizing.{rest_ascending, brings_none, GoesBack}
use Rattle.sv_solve.proofs.minimization.minimize.Goals as goal
use Rattle.sv_solve.proofs.minimization.minimize.Goals.{In-Some, In_ok-push-3}

places : (c : In-Some) →
    ArePlaces c.args.seen.now.literals c.args.trail.now.literals
    (c.pop.new.self.items ++ c.in-Some.place ∷ []) c.back.invariant.1.0
places c =
    subst (λ z. ArePlaces c.args.seen.now.literals c.args.trail.now.literals z c.back.invariant.1.0)
    c.in-Some.ensures.items c.back.invariant.1.2

up : (c : In-Some) → AllPairs ◌<◌ (c.pop.new.self.items ++ c.in-Some.place ∷ [])
up c = subst (AllPairs ◌<◌) c.in-Some.ensures.items c.back.invariant.0

below : (c : In-Some) → c.in-Some.place < c.back.invariant.1.0
below c =
    last_below c.args.seen.now.literals c.args.trail.now.literals c.back.invariant.1.0
    c.pop.new.self.items c.in-Some.place (places c) (up c)

early : (c : In-Some) → c.in-Some.place < c.args.point.now.mark
early c = omega (arith, below c, c.back.invariant.1.1)

small : (c : In-Some) → c.in-Some.place < length c.args.trail.now.literals
small c = omega (arith, early c, c.requires.mark)

here : (c : In-Some) →
    stands (neg_ℤ (get_or c.args.trail.now.literals c.in-Some.place (pos 0)))
    c.args.seen.now.literals ≡ true
here c =
    last_seen c.args.seen.now.literals c.args.trail.now.literals c.back.invariant.1.0
    c.pop.new.self.items c.in-Some.place (places c) (up c)

rest : (c : In-Some) →
    ArePlaces c.args.seen.now.literals c.args.trail.now.literals c.pop.new.self.items
    c.in-Some.place
rest c =
    rest_places c.args.seen.now.literals c.args.trail.now.literals c.back.invariant.1.0
    c.pop.new.self.items c.in-Some.place (places c) (up c)

still_up : (c : In-Some) → AllPairs ◌<◌ c.pop.new.self.items
still_up c =
    rest_ascending c.args.seen.now.literals c.args.trail.now.literals c.back.invariant.1.0
    c.pop.new.self.items c.in-Some.place (places c) (up c)

-- between this place and the one before it no literal is seen
derived : (c : In-Some) →
    Derives c.args.clauses.now c.back.chain.items c.back.literals.items c.args.seen.now.literals
    c.args.trail.now.literals (c.in-Some.place + 1)
derived c =
    derive_unseen c.args.clauses.now c.args.trail.now.literals c.back.chain.items
    c.back.literals.items c.args.seen.now.literals (c.in-Some.place + 1) c.back.invariant.1.0
    (omega (arith, below c)) (omega (arith, c.back.invariant.1.1, c.requires.mark))
    (none_later c.args.seen.now.literals c.args.trail.now.literals c.back.invariant.1.0
    c.pop.new.self.items c.in-Some.place (places c) (up c)) c.back.invariant.1.3

minimized : (c : In-Some) →
    let point = c.args.point.now in
    IsMinimized c.args.trail.now.literals point.asserting c.back.literals.items
    (c.in-Some.place + 1) c.back.keep point.mark
minimized c =
    let point = c.args.point.now in
    minimized_down c.args.trail.now.literals point.asserting point.mark c.back.literals.items
    c.back.invariant.1.0 (c.in-Some.place + 1) c.back.keep (omega (arith, below c))
    c.back.invariant.1.4

-- the literals with that of the place, negated
longer : (c : In_ok-push-3) →
    c.push-in-Some.new.self.items ≡
    c.back.literals.items ++ neg_ℤ (get_or c.args.trail.now.literals c.in-Some.place (pos 0)) ∷ []
longer c =
    let fits : FitsSigned w32 c.signed-in-Some.result = search rules in
    let is = to_z-of_z w32 c.signed-in-Some.result fits ∙ c.signed-in-Some.ensures
    ∙ c.negated.ensures ∙ ap neg_ℤ c.at.ensures.value in
    c.in_ok-push-3.ensures.items ∙ ap (λ z. c.back.literals.items ++ z ∷ []) is

-- the literal of the place is kept
kept : (c : In-Some) (literals : List ℤ) (keep : ℕ) →
    literals ≡ c.back.literals.items
    ++ neg_ℤ (get_or c.args.trail.now.literals c.in-Some.place (pos 0)) ∷ [] →
    IsMinimized c.args.trail.now.literals c.args.point.now.asserting literals c.in-Some.place keep
    c.args.point.now.mark →
    GoesBack c.args.clauses.now c.args.trail.now.literals c.args.seen.now.literals
    c.args.point.now.asserting c.args.point.now.mark c.back.chain.items literals keep
    c.pop.new.self.items
kept c literals keep longer is_minimized =
    let p = c.in-Some.place in (
      still_up c,
      (
        p,
        omega (arith, early c),
        rest c,
        derive_keep c.args.clauses.now c.args.trail.now.literals c.back.chain.items
            c.back.literals.items literals c.args.seen.now.literals (p + 1) p refl (small c)
            (here c) longer (derived c),
        is_minimized,
      ),
    )

pub back-preserved-then-is_redundant : goal.back-preserved-then-is_redundant
back-preserved-then-is_redundant c =
    let s = (goal.at.back-preserved-then-is_redundant c).In-Some in
    let clauses = c.args.clauses.now in
    let trail = c.args.trail.now.literals in
    let seen = c.args.seen.now.literals in
    let literals = c.back.literals.items in
    let p = c.in-Some.place in
    let n = get_or c.args.trail.now.reasons p 0 in
    let h = c.if-is_redundant.ensures.implied refl in
    let others : OthersSeen seen h.clause (get_or trail p (pos 0)) =
    subst (λ z. OthersSeen seen z (get_or trail p (pos 0)))
    (numbered_place clauses n h.clause h.is).2 (c.if-is_redundant.ensures.seen refl) in
    let tests = brings_none seen h.clause trail (get_or trail p (pos 0))
    c.len-len.ensures.consistent (stands_at trail p (small s)) others in
    let point = c.args.point.now in
    let late = minimized_late trail point.asserting point.mark literals (p + 1) c.back.keep
    c.len-len.ensures.each_open c.requires.mark (omega (arith, early s)) c.requires.first
    c.requires.open_first (minimized s) in
    let longer : c.push-then-is_redundant.new.self.items ≡ c.back.chain.items ++ n ∷ [] =
    c.in_ok-push-2.ensures.items ∙ ap (λ z. c.back.chain.items ++ z ∷ []) c.reason.ensures in (
      still_up s,
      (
        p,
        omega (arith, early s),
        rest s,
        derive_step clauses trail c.back.chain.items c.push-then-is_redundant.new.self.items
            literals seen seen (p + 1) p n refl (small s) c.len-len.ensures.consistent
            (c.len-len.ensures.each_open p (small s))
            (here s) h longer tests late (derived s),
        minimized_down trail point.asserting point.mark literals (p + 1) p c.back.keep (omega arith)
            (minimized s),
      ),
    )

pub at-requires : goal.at-requires
at-requires c = small (goal.at.at-requires c).In-Some

pub back-preserved-then-keep-gt0 : goal.back-preserved-then-keep-gt0
back-preserved-then-keep-gt0 c =
    let s = (goal.at.back-preserved-then-keep-gt0 c).In-Some in
    let more = longer (goal.at.back-preserved-then-keep-gt0 c).In_ok-push-3 in
    let literals = c.push-in-Some.new.self.items in
    let p = c.in-Some.place in
    kept s literals c.back.keep more
    (minimized_more c.args.trail.now.literals c.args.point.now.asserting c.args.point.now.mark
    c.back.literals.items literals (p + 1) p c.back.keep refl c.if-keep-gt0.true more (minimized s))

pub back-preserved : goal.back-preserved
back-preserved c =
    let s = (goal.at.back-preserved c).In-Some in
    let more = longer (goal.at.back-preserved c).In_ok-push-3 in
    let literals = c.push-in-Some.new.self.items in
    let p = c.in-Some.place in
    kept s literals (p + 1) more
    (minimized_other c.args.trail.now.literals c.args.point.now.asserting c.args.point.now.mark
    c.back.literals.items literals (p + 1) p c.back.keep refl (early s) (omega arith) more
    (minimized s))

pub returns-clause-derives : goal.returns-clause-derives
returns-clause-derives c =
    let clauses = c.args.clauses.now in
    let trail = c.args.trail.now.literals in
    let seen = c.args.seen.now.literals in
    let bound = c.back.invariant.1.0 in
    let none : length c.back.places.items ≡ 0 =
    omega (arith, c.in_default.ensures.cases, c.back.places.ok.0) in
    derive_end clauses trail c.back.chain.items c.back.literals.items seen
    (derive_unseen clauses trail c.back.chain.items c.back.literals.items seen 0 bound (omega arith)
    (omega (arith, c.back.invariant.1.1, c.requires.mark))
    (none_left seen trail bound c.back.places.items none c.back.invariant.1.2) c.back.invariant.1.3)
