use Rattle.std.proofs.Common.{ap, ◌∙◌, sym, subst, length, ◌≡◌, ◌+◌, ◌-◌, ◌<◌, ◌≤◌, get_or, take}
use Rattle.std.proofs.Common.{arith}
use Rattle.std.specs.Prelude.{All}
use Rattle.std.proofs.lemmas.List.{get_or_read}
use Rattle.sv_clause.specs.Units.{IsAtRest}
use Rattle.sv_solve.specs.Search.{ImpliedFrom}
use Rattle.sv_solve.proofs.Levels.{implied_above, rest_below, state_of}
use Rattle.sv_solve.proofs.TakenUp.{asserting_back}
use Rattle.sv_solve.proofs.state.SolverState.learn.Goals as goal
use Rattle.sv_solve.proofs.state.SolverState.learn.Goals.{After-index-mark}

some : (c : After-index-mark) → 0 < length c.self.inside.decisions.items
some c =
    let size : length c.self.inside.decisions.items ≡ length c.args.self.decisions = ap (λ z.
    length z.decisions) c.self.view_is in
    let h : 0 < length c.args.self.decisions = c.requires.decided in omega arith

newest : (c : After-index-mark) →
    c.index-mark.result.now ≡
    get_or c.self.inside.decisions.items (length c.self.inside.decisions.items - 1) 0
newest c =
    let items = c.self.inside.decisions.items in
    let size : c.len.result ≡ length items = c.len.ensures ∙ c.self.inside.decisions.ok.0 in
    let h = some c in
    get_or_read items (c.len.result - 1) c.index-mark.result.now (omega arith) c.index-mark.ensures
    0 ∙ ap (λ z. get_or items (z - 1) 0) size

pub learn-requires-clause-implied : goal.learn-requires-clause-implied
learn-requires-clause-implied c =
    let here = (goal.at.learn-requires-clause-implied c).After-index-mark in
    let s = c.self.inside in
    subst (λ z. ImpliedFrom z s.trail (c.index-mark.result.now + 1)) (sym c.clauses.ensures.value)
    (implied_above (state_of s) c.index-mark.result.now c.self.invariant (some here) (newest here))

pub learn-requires-clause-rest : goal.learn-requires-clause-rest
learn-requires-clause-rest c =
    let here = (goal.at.learn-requires-clause-rest c).After-index-mark in
    let s = c.self.inside in
    subst (λ z. IsAtRest z (take c.index-mark.result.now s.trail.literals))
    (sym c.clauses.ensures.value)
    (rest_below (state_of s) c.index-mark.result.now c.self.invariant (some here) (newest here))

pub take_up-requires-clause-asserting : goal.take_up-requires-clause-asserting
take_up-requires-clause-asserting c =
    let here = (goal.at.take_up-requires-clause-asserting c).After-index-mark in
    let s = c.self.inside in
    let learned = c.in_ok-learned.learned in
    let items = s.decisions.items in
    let h = some here in
    let now = c.backjump.result.trail.literals in
    let a = c.in_ok-learned.ensures.asserting in
    let last : c.index-mark.result.now ≡ get_or items (length items - 1) 0 = newest here in
    let early : learned.keep ≤ c.index-mark.result.now = a.early in
    let goes = subst (All (λ d. learned.keep ≤ d → length now ≤ d))
    (sym (ap (λ z. z.decisions) c.self.view_is)) c.backjump.ensures.goes (length items - 1) 0
    (omega arith) in
    asserting_back s.trail.literals now learned.step.clause c.index-mark.result.now
    learned.asserting learned.other learned.keep
    (c.backjump.ensures.older ∙ sym (ap (λ z. take (length now) z.trail.literals) c.self.view_is))
    c.backjump.ensures.keeps
    (subst (λ z. length now ≤ z) (sym last) (goes (subst (λ z. learned.keep ≤ z) last early))) a
