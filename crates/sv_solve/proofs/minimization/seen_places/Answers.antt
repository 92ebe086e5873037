use Rattle.std.proofs.Common.{◌≡◌, ◌<◌, length, take, get_or, arith, subst, sym, ap, ◌∙◌, pos}
use Rattle.std.proofs.Common.{neg_ℤ, false}
use Rattle.sv_clause.specs.Literals.{stands}
use Rattle.sv_solve.specs.ConflictClauses.{ArePlaces}
use Rattle.std.proofs.lemmas.List.{take_all}
use Rattle.sv_solve.proofs.Minimizing.{places_skip, places_more, different_more, places_sorted}
use Rattle.sv_solve.proofs.Minimizing.{ascending_sorted}
use Rattle.sv_solve.proofs.minimization.seen_places.Goals as goal

pub literals-preserved-in_default : goal.literals-preserved-in_default
literals-preserved-in_default c =
    let seen = c.args.seen.now.literals in
    let trail = c.args.trail.now.literals in
    let i = c.literals.index in
    let small : i < length seen = omega arith in
    let free : stands (neg_ℤ (get_or seen i (pos 0))) (take c.args.mark trail) ≡ false =
    ap (λ z. stands (neg_ℤ z) (take c.args.mark trail)) (sym c.at-literal.ensures.value)
    ∙ c.in_default.ensures.none in (
      omega arith,
      places_skip seen trail c.args.mark c.literals.places.items i small c.requires.mark
          free c.literals.invariant.1,
      c.literals.invariant.2,
    )

pub literals-preserved : goal.literals-preserved
literals-preserved c =
    let seen = c.args.seen.now.literals in
    let trail = c.args.trail.now.literals in
    let i = c.literals.index in
    let p = c.in-Some.place in
    let places = c.literals.places.items in
    let now = c.push.new.self.items in
    let small : i < length seen = omega arith in
    let is = c.at-literal.ensures.value in
    let at : get_or trail p (pos 0) ≡ neg_ℤ (get_or seen i (pos 0)) =
    c.in-Some.ensures.some.1 ∙ ap neg_ℤ is in
    let first : stands (get_or seen i (pos 0)) (take i seen) ≡ false =
    ap (λ z. stands z (take i seen)) (sym is) ∙ c.at-literal.ensures.first in (
      omega arith,
      places_more seen trail c.args.mark places now i p small c.requires.mark
          c.len-len.ensures.each_open c.in-Some.ensures.some.0 at c.in_ok-push.ensures.items
          c.literals.invariant.1,
      different_more seen trail c.args.mark places now i p at c.in_ok-push.ensures.items first
          c.literals.invariant.1 c.literals.invariant.2,
    )

pub returns-clause-places : goal.returns-clause-places
returns-clause-places c =
    let seen = c.args.seen.now.literals in
    let trail = c.args.trail.now.literals in
    places_sorted seen trail c.args.mark c.literals.places.items c.sort_unstable.new.self.items
    c.sort_unstable.ensures.permutation
    (subst (λ z. ArePlaces z trail c.literals.places.items c.args.mark)
    (take_all c.literals.index seen (omega arith)) c.literals.invariant.1)

pub returns-clause-ascending : goal.returns-clause-ascending
returns-clause-ascending c =
    ascending_sorted c.literals.places.items c.sort_unstable.new.self.items
    c.sort_unstable.ensures.permutation c.sort_unstable.ensures.sorted c.literals.invariant.2
