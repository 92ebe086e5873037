use Rattle.std.proofs.Common.{ap, ◌∙◌, sym, subst, length, take, get_or, arith, ◌≡◌, ◌<◌, ◌≤◌}
use Rattle.std.proofs.Common.{⊎_elim, min}
use Rattle.std.proofs.lemmas.Bool.{cases_order}
use Rattle.std.specs.Prelude.{All}
use Rattle.std.proofs.lemmas.List.{take_all, length-take, get_or_read}
use Rattle.sv_solve.specs.States.{IsSearching}
use Rattle.sv_solve.proofs.Ascending.{from_place}
use Rattle.sv_solve.proofs.Levels.{keep_below, state_of}
use Rattle.sv_solve.proofs.state.SolverState.backjump.Goals as goal
use Rattle.sv_solve.proofs.state.SolverState.backjump.Goals.{After-len}

below : (c : After-len) →
    All (λ d. d < c.args.keep) (take c.first_from-first.result c.self.inside.decisions.items)
below c =
    subst (λ z. All (λ d. d < c.args.keep) (take c.first_from-first.result z)) c.deref.ensures.value
    c.first_from-first.ensures.below

-- where no decision stands from the place on, all stand below it
all_below : (c : After-len) → c.first_from-first.result ≡ c.len.result →
    All (λ d. d < c.args.keep) c.args.self.decisions
all_below c same =
    let items = c.self.inside.decisions.items in
    let all : c.len.result ≡ length items = c.len.ensures ∙ c.self.inside.decisions.ok.0 in
    subst (All (λ d. d < c.args.keep)) (ap (λ z. z.decisions) c.self.view_is)
    (subst (All (λ d. d < c.args.keep))
    (take_all c.first_from-first.result items (omega arith)) (below c))

pub returns-then-first-len-clause-decisions : goal.returns-then-first-len-clause-decisions
returns-then-first-len-clause-decisions c =
    all_below (goal.at.returns-then-first-len-clause-decisions c).After-len (omega arith)

pub returns-then-first-len-clause-goes : goal.returns-then-first-len-clause-goes
returns-then-first-len-clause-goes c =
    let all = all_below (goal.at.returns-then-first-len-clause-goes c).After-len (omega arith) in
    λ k d h high. let low : get_or c.args.self.decisions k d < c.args.keep = all k d h in
    absurd (omega arith)

some_taken : (c : After-len) → (c.first_from-first.result ≡ c.len.result → ⊥) →
    c.first_from-first.result < length c.self.inside.decisions.items
some_taken c ne =
    let size : length c.deref.result.now ≡ length c.self.inside.decisions.items =
    ap length c.deref.ensures.value in
    let within : c.first_from-first.result ≤ length c.deref.result.now =
    c.first_from-first.ensures.within in
    let all : c.len.result ≡ length c.self.inside.decisions.items =
    c.len.ensures ∙ c.self.inside.decisions.ok.0 in
    ⊎_elim (λ same. absurd (ne same)) (λ other.
    ⊎_elim (λ less. omega arith) (λ more.
    absurd (omega arith)) other) (cases_order c.first_from-first.result c.len.result)

pub invariant_of-self : goal.invariant_of-self
invariant_of-self c =
    let s = c.self.inside in
    let items = s.decisions.items in
    let n = c.first_from-first.result in
    let some = some_taken (goal.at.invariant_of-self c).After-len c.if-first-len.false in
    subst (λ z. IsSearching (record (state_of s) {
      trail = c.truncate-2.new.self;
      decisions = z;
      propagated = c.min.result;
    })) (sym c.truncate.ensures.items)
    (keep_below (state_of s) c.truncate-2.new.self c.min.result c.index-back.result.now n
    c.self.invariant
    c.truncate-2.ensures.literals c.truncate-2.ensures.reasons c.truncate-2.ensures.variables some
    (get_or_read items n c.index-back.result.now some c.index-back.ensures 0) c.min.ensures)

pub returns-clause-goes : goal.returns-clause-goes
returns-clause-goes c =
    let s = c.self.inside in
    let items = s.decisions.items in
    let n = c.first_from-first.result in
    let back = c.index-back.result.now in
    let some = some_taken (goal.at.returns-clause-goes c).After-len c.if-first-len.false in
    let at : back ≡ get_or items n 0 = get_or_read items n back some c.index-back.ensures 0 in
    let size : length c.truncate-2.new.self.literals ≡ min back (length s.trail.literals) =
    ap length c.truncate-2.ensures.literals ∙ length-take back s.trail.literals in
    let from = from_place items n c.args.keep c.self.invariant.ascend some
    (below (goal.at.returns-clause-goes c).After-len) in
    subst (All (λ d. c.args.keep ≤ d → length c.truncate-2.new.self.literals ≤ d))
    (ap (λ z. z.decisions) c.self.view_is)
    (λ k d h high. let low : get_or items n 0 ≤ get_or items k d = from k d h high in omega arith)
