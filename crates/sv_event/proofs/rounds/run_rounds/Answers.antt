use Rattle.std.proofs.Common.{◌≡◌, ℕ, ◌+◌, ◌<◌, length, get_or, sym, ap, subst, ◌∙◌, arith}
use Rattle.std.specs.Prelude.{IsTrue, IsFalse}
use Rattle.std.proofs.lemmas.Bool.{false≢true}
use Rattle.std.proofs.lemmas.List.{length-map}
use Rattle.sv_system.specs.System.{Environment}
use Rattle.sv_system.specs.Schedules.{IsTheSettled}
use Rattle.sv_flat.specs.ByNumber.{by_number}
use Rattle.sv_flat.specs.FlatSystem.{flat_system}
use Rattle.sv_flat.specs.Schedules.{after_rounds, is_quiet}
use Rattle.sv_flat.specs.Views.{design_of, signal_form}
use Rattle.sv_sim.proofs.Fitting.{numbers_fit}
use Rattle.sv_event.proofs.PlaceFacts.{comb_count}
use Rattle.sv_event.proofs.RoundFacts.{one_more_state, one_more_round, drawn_numbers, one_more_of}
use Rattle.sv_event.proofs.RoundFacts.{rounds_quiet, rounds_settled, most_rounds}
use Rattle.sv_event.proofs.RoundFacts.{fewer_combinational}
use Rattle.sv_event.proofs.rounds.run_rounds.Goals as goal
use Rattle.sv_event.proofs.rounds.run_rounds.Goals.{After-run_all}

-- after a round the values are those after one more round
one_round : (c : After-run_all) → by_number c.run_all.new.values
    ≡ after_rounds (design_of c.args.design.now) c.args.number (c.loop-before.before + 1)
    (by_number c.args.values.now)
one_round c =
    let design = design_of c.args.design.now in
    let before = c.loop-before.invariant in
    one_more_round design c.args.number c.loop-before.before c.loop-before.order
    c.loop-before.state
    (before.order ∙ comb_count design c.args.combs.now c.requires.combs) before.state
    c.draw_round-state.new.order (by_number c.loop-before.values)
    (by_number c.run_all.new.values) (by_number c.args.values.now)
    c.draw_round-state.ensures.order before.run c.run_all.ensures.runs

pub run_all-requires-clause-schedule : goal.run_all-requires-clause-schedule
run_all-requires-clause-schedule c = λ k d inside.
    let design = design_of c.args.design.now in
    let count = comb_count design c.args.combs.now c.requires.combs in
    let before = c.loop-before.invariant in
    subst (λ n. get_or c.draw_round-state.new.order k d < n) (sym count)
    (drawn_numbers design c.args.number c.loop-before.before c.loop-before.order
    c.loop-before.state (before.order ∙ count) before.state c.draw_round-state.new.order
    c.draw_round-state.ensures.order k d inside)

pub returns-then-is_quiet-clause-values : goal.returns-then-is_quiet-clause-values
returns-then-is_quiet-clause-values c =
    one_round (goal.at.returns-then-is_quiet-clause-values c).After-run_all

pub returns-then-is_quiet-clause-count : goal.returns-then-is_quiet-clause-count
returns-then-is_quiet-clause-count c =
    let design = design_of c.args.design.now in
    let before = c.loop-before.invariant in
    let after' = one_round (goal.at.returns-then-is_quiet-clause-count c).After-run_all in
    record {
      some = omega arith;
      quiet = subst (λ (e : Environment ℕ). IsTrue (is_quiet design e)) after'
          (sym c.is_quiet.ensures.quiet ∙ c.if-is_quiet.true);
      before = λ k low high. before.none k low (omega (arith, high));
    }

pub returns-then-is_quiet-clause-most : goal.returns-then-is_quiet-clause-most
returns-then-is_quiet-clause-most c =
    let design = design_of c.args.design.now in
    let fine = c.signals.ensures.design in
    let most = most_rounds design fine.is_sound fine.is_admitted c.args.number
    (by_number c.args.values.now) (numbers_fit design c.args.values.now c.requires.fit)
    c.loop-before.before c.loop-before.invariant.none in
    omega (arith, most)

pub returns-then-is_quiet-clause-settled : goal.returns-then-is_quiet-clause-settled
returns-then-is_quiet-clause-settled c =
    let design = design_of c.args.design.now in
    let fine = c.signals.ensures.design in
    let start = by_number c.args.values.now in
    let after' = one_round (goal.at.returns-then-is_quiet-clause-settled c).After-run_all in
    subst (λ (e : Environment ℕ). IsTheSettled (flat_system design) start start e) (sym after')
    (rounds_settled design fine.is_sound fine.is_admitted c.args.number start
    (numbers_fit design c.args.values.now c.requires.fit) (c.loop-before.before + 1)
    (subst (λ (e : Environment ℕ). IsTrue (is_quiet design e)) after'
    (sym c.is_quiet.ensures.quiet ∙ c.if-is_quiet.true)))

pub loop-before-preserved : goal.loop-before-preserved
loop-before-preserved c =
    let design = design_of c.args.design.now in
    let start = by_number c.args.values.now in
    let before = c.loop-before.invariant in
    let size = before.order ∙ comb_count design c.args.combs.now c.requires.combs in
    let after' = one_round (goal.at.loop-before-preserved c).After-run_all in
    record {
      order = omega (arith, c.draw_round-state.auto.order, before.order);
      fit = c.run_all.ensures.fit;
      room = omega (arith, c.is_quiet.auto.other, c.run_all.auto.values, before.room);
      state = c.draw_round-state.ensures.state
          ∙ one_more_state design c.args.number c.loop-before.before c.loop-before.order
          c.loop-before.state size before.state;
      run = after';
      none = one_more_of
          (λ k. IsFalse (is_quiet design (after_rounds design c.args.number k start)))
          c.loop-before.before before.none
          (subst (λ (e : Environment ℕ). IsFalse (is_quiet design e)) after'
          (sym c.is_quiet.ensures.quiet ∙ c.if-is_quiet.false));
    }

pub unreachable-requires : goal.unreachable-requires
unreachable-requires c =
    let design = design_of c.args.design.now in
    let fine = c.signals.ensures.design in
    let k = c.loop-before.before in
    let few = fewer_combinational design in
    let size = length-map c.args.design.now.signals.items signal_form
    ∙ ap length (sym c.signals.ensures.signals) in
    absurd (false≢true
    (sym (c.loop-before.invariant.none k (omega (arith, c.loop-before-test.false)) (omega arith))
    ∙ rounds_quiet design fine.is_sound fine.is_admitted c.args.number
    (by_number c.args.values.now) (numbers_fit design c.args.values.now c.requires.fit) k
    (omega (arith, few, size, c.loop-before-test.false))))
