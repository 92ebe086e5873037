use Rattle.std.proofs.Common.{◌≤◌, ◌≡◌, sym, subst, length, take, arith, ℕ}
use Rattle.std.proofs.lemmas.List.{take_all}
use Rattle.sv_solve.specs.Watching.{AllHeld}
use Rattle.sv_solve.specs.States.{IsSearching}
use Rattle.sv_solve.proofs.Levels.{after_propagate, when_none, state_of}
use Rattle.sv_solve.proofs.state.SolverState.propagate.Goals as goal
use Rattle.sv_solve.proofs.state.SolverState.propagate.Goals.{After-is_none}

after : (c : After-is_none) (upto : ℕ) → c.self.inside.propagated ≤ upto
    → upto ≤ length c.propagate.new.trail.literals
    → AllHeld c.propagate.new.self.pairs (take upto c.propagate.new.trail.literals)
    c.propagate.new.trail.literals
    → IsSearching (record (state_of c.self.inside) {
      trail = c.propagate.new.trail;
      watching = c.propagate.new.self;
      propagated = upto;
    })
after c upto low high held =
    let s = c.self.inside in
    let e = c.in_ok-conflict.ensures in
    after_propagate (state_of s) c.propagate.new.trail c.propagate.new.self upto
    c.clauses.result.now c.self.invariant c.clauses.ensures.value
    e.fitting e.listed e.variables low high held e.settled e.older e.longer e.reasons e.implied
    e.trail_variables

pub invariant_of-self : goal.invariant_of-self
invariant_of-self c =
    let s = c.self.inside in
    let now = c.propagate.new.trail in
    let pairs = c.propagate.new.self.pairs in
    let all = c.len.result in
    let progress : s.propagated ≤ length s.trail.literals = c.self.invariant.progress in
    let longer : length s.trail.literals ≤ length now.literals = c.in_ok-conflict.ensures.longer in
    let here : all ≡ length now.literals = c.len.ensures.value in
    let rest : AllHeld pairs now.literals now.literals =
    when_none c.in_ok-conflict.conflict (AllHeld pairs now.literals now.literals)
    c.if-is_none.ensures c.in_ok-conflict.ensures.rest in
    after (goal.at.invariant_of-self c).After-is_none all (omega arith) (omega arith)
    (subst (λ z. AllHeld pairs z now.literals) (sym (take_all all now.literals (omega arith))) rest)

pub invariant_of-self-else-is_none : goal.invariant_of-self-else-is_none
invariant_of-self-else-is_none c =
    let s = c.self.inside in
    let now = c.propagate.new.trail in
    let progress : s.propagated ≤ length s.trail.literals = c.self.invariant.progress in
    let longer : length s.trail.literals ≤ length now.literals = c.in_ok-conflict.ensures.longer in
    after (goal.at.invariant_of-self-else-is_none c).After-is_none s.propagated (omega arith)
    (omega arith) c.in_ok-conflict.ensures.held
