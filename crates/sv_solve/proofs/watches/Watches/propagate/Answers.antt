use Rattle.std.proofs.Common.{◌≡◌, ◌<◌, pos, neg_ℤ, length, get_or, [], ◌∷◌, ap, ◌∙◌, sym, subst}
use Rattle.std.proofs.Common.{arith}
use Rattle.std.specs.Prelude.{IfNone}
use Rattle.sv_clause.proofs.Merging.{neg-neg}
use Rattle.sv_solve.specs.Watching.{AllHeld}
use Rattle.sv_solve.proofs.Places.{stands_is}
use Rattle.sv_solve.proofs.Visits.{proceeds_on, proceeds_held, proceeds_settled, held_more}
use Rattle.sv_solve.proofs.watches.Watches.propagate.Goals as goal
use Rattle.sv_solve.proofs.watches.Watches.propagate.Goals.{After-negated-falsified}

negated_is : (c : After-negated-falsified) →
    neg_ℤ c.negated-falsified.result ≡ get_or c.literals.trail.literals c.literals.head (pos 0)
negated_is c = ap neg_ℤ c.negated-falsified.ensures ∙ neg-neg c.at.result ∙ c.at.ensures.value

pub visit-requires-clause-falsified : goal.visit-requires-clause-falsified
visit-requires-clause-falsified c =
    stands_is (neg_ℤ c.negated-falsified.result) c.literals.trail.literals c.literals.head
    (omega (arith, c.literals-test.true, c.len.ensures.value))
    (sym (negated_is (goal.at.visit-requires-clause-falsified c).After-negated-falsified))

pub returns-in-Some-clause-held : goal.returns-in-Some-clause-held
returns-in-Some-clause-held c =
    proceeds_held c.args.clauses.now c.args.self.now c.visit.new.self c.args.trail.now
    c.visit.new.trail
    (proceeds_on c.args.clauses.now c.args.self.now c.literals.self c.visit.new.self
    c.args.trail.now c.literals.trail c.visit.new.trail c.literals.invariant.proceeds
    c.in_ok-place.ensures.proceeds)
    c.args.from c.requires.from c.requires.held

pub returns-in-Some-clause-settled : goal.returns-in-Some-clause-settled
returns-in-Some-clause-settled c place small =
    proceeds_settled c.args.clauses.now c.args.self.now c.visit.new.self c.args.trail.now
    c.visit.new.trail
    (proceeds_on c.args.clauses.now c.args.self.now c.literals.self c.visit.new.self
    c.args.trail.now c.literals.trail c.visit.new.trail c.literals.invariant.proceeds
    c.in_ok-place.ensures.proceeds)
    place (omega (arith, c.requires.from))

pub literals-preserved : goal.literals-preserved
literals-preserved c =
    let v = c.literals.invariant in
    let e = c.in_ok-place.ensures in
    let small : c.literals.head < length c.literals.trail.literals =
    omega (arith, c.literals-test.true, c.len.ensures.value) in
    let visited : AllHeld c.visit.new.self.pairs (neg_ℤ c.negated-falsified.result ∷ [])
    c.visit.new.trail.literals =
    subst (λ z. IfNone z
    (AllHeld c.visit.new.self.pairs (neg_ℤ c.negated-falsified.result ∷ [])
    c.visit.new.trail.literals)) c.in_default.is e.visited in
    record {
      proceeds =
          proceeds_on c.args.clauses.now c.args.self.now c.literals.self c.visit.new.self
          c.args.trail.now c.literals.trail c.visit.new.trail v.proceeds e.proceeds;
      low = omega (arith, v.low);
      high = omega (arith, small, e.proceeds.extends.longer);
      held =
          held_more c.args.clauses.now c.literals.self c.visit.new.self c.literals.trail
          c.visit.new.trail c.literals.head c.negated-falsified.result e.proceeds small
          (negated_is (goal.at.literals-preserved c).After-negated-falsified) v.held visited;
    }

pub returns-clause-held : goal.returns-clause-held
returns-clause-held c =
    proceeds_held c.args.clauses.now c.args.self.now c.literals.self c.args.trail.now
    c.literals.trail c.literals.invariant.proceeds c.args.from c.requires.from c.requires.held

pub returns-clause-settled : goal.returns-clause-settled
returns-clause-settled c place small =
    proceeds_settled c.args.clauses.now c.args.self.now c.literals.self c.args.trail.now
    c.literals.trail c.literals.invariant.proceeds place (omega (arith, c.requires.from))
