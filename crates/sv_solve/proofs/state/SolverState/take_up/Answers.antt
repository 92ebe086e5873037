use Rattle.std.proofs.Common.{ap, ◌∙◌, sym, subst, length, ◌≡◌, ◌+◌, ◌++◌, ◌∷◌, [], ◌<◌, set}
use Rattle.std.specs.Prelude.{All}
use Rattle.std.proofs.lemmas.List.{length_push}
use Rattle.sv_clause.specs.Logs.{plain_step}
use Rattle.sv_solve.specs.Codes.{IsOf}
use Rattle.sv_solve.specs.Search.{IsClauseOf}
use Rattle.sv_solve.specs.ConflictClauses.{IsAsserting}
use Rattle.sv_solve.specs.Known.{clauses_known}
use Rattle.sv_solve.specs.Watching.{IsPairWithin}
use Rattle.sv_solve.proofs.Clauses.{of_member}
use Rattle.sv_solve.proofs.Levels.{state_of}
use Rattle.sv_solve.proofs.TakenUp.{after_take_up, pair_within, new_pair_of, pair_with, pair_is}
use Rattle.sv_solve.proofs.Ends.{known_more}
use Rattle.sv_solve.proofs.state.SolverState.take_up.Goals as goal
use Rattle.sv_solve.proofs.state.SolverState.take_up.Goals.{After-pair_of}

of_it : (c : After-pair_of) → IsClauseOf c.self.inside.known.variables c.args.learned.step.clause
of_it c =
    subst (λ z. IsClauseOf z.known.variables c.args.learned.step.clause) (sym c.self.view_is)
    c.requires.of

asserts : (c : After-pair_of) →
    IsAsserting c.self.inside.trail.literals (length c.self.inside.trail.literals)
    c.args.learned.step.clause c.args.learned.asserting c.args.learned.other c.args.learned.keep
asserts c =
    subst (λ z. IsAsserting z.trail.literals (length z.trail.literals) c.args.learned.step.clause
    c.args.learned.asserting c.args.learned.other c.args.learned.keep) (sym c.self.view_is)
    c.requires.asserting

pair : (c : After-pair_of) →
    c.pair_of.result ≡ pair_with c.args.learned.asserting c.args.learned.other
pair c = pair_is c.args.learned.asserting c.args.learned.other c.pair_of.result c.pair_of.ensures

pub attach-requires-clause-of : goal.attach-requires-clause-of
attach-requires-clause-of c =
    let here = (goal.at.attach-requires-clause-of c).After-pair_of in
    let learned = c.args.learned in
    let a = asserts here in
    subst (λ z. IsPairWithin z c.pair_of.result) (sym c.self.invariant.watch_variables)
    (subst (IsPairWithin c.self.inside.known.variables) (sym (pair here))
    (pair_within c.self.inside.known.variables learned.step.clause
    (pair_with learned.asserting learned.other) (of_it here)
    (new_pair_of c.self.inside.trail.literals learned.step.clause learned.asserting learned.other
    learned.keep a.member a.latest)))

pub push-requires-clause-of : goal.push-requires-clause-of
push-requires-clause-of c =
    subst (λ z. IsOf z c.args.learned.asserting) (sym c.self.invariant.trail_variables)
    (of_member c.self.inside.known.variables c.args.learned.step.clause c.args.learned.asserting
    (of_it (goal.at.push-requires-clause-of c).After-pair_of) c.requires.asserting.member)

pub invariant_of-self : goal.invariant_of-self
invariant_of-self c =
    let here = (goal.at.invariant_of-self c).After-pair_of in
    let s = c.self.inside in
    let learned = c.args.learned in
    let next = c.in_ok-self-inside.field-0 in
    let more : clauses_known next ≡ clauses_known s.known ++ learned.step.clause ∷ [] =
    known_more s.known next (plain_step learned.step) c.in_ok-self-inside.ensures.given
    c.in_ok-self-inside.ensures.steps in
    let count : length c.clauses.result.now ≡ length (clauses_known s.known) + 1 =
    ap length (c.clauses.ensures.value ∙ more)
    ∙ length_push (clauses_known s.known) learned.step.clause in
    after_take_up (state_of s) next c.push.new.self c.attach.new.self learned.step.clause
    learned.asserting learned.other learned.keep c.self.invariant (asserts here)
    (subst (λ z. All (λ d. d < learned.keep) z.decisions) (sym c.self.view_is) c.requires.decisions)
    more c.in_ok-self-inside.ensures.variables
    (c.in_ok-attach.ensures.pairs ∙ ap (λ z. s.watches.pairs ++ z ∷ []) (pair here))
    c.in_ok-attach.ensures.listed c.in_ok-attach.ensures.variables c.in_ok-push.ensures.literals
    (c.in_ok-push.ensures.reasons ∙ ap (λ z. set s.trail.reasons (length s.trail.literals) z) count)
    c.in_ok-push.ensures.room c.in_ok-push.ensures.variables
