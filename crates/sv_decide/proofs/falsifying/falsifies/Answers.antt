use Rattle.std.proofs.Common.{◌≡◌, ℕ, Bool, List, ap, subst, sym, ◌∙◌}
use Rattle.std.specs.Prelude.{IsTrue, ◌↔◌}
use Rattle.sv_flat.specs.declared.designs.Flat.{Flat}
use Rattle.sv_flat.specs.ByNumber.{by_number, FitSignals}
use Rattle.sv_flat.specs.Views.{design_of}
use Rattle.sv_obl.specs.declared.frames.Frame.{Frame}
use Rattle.sv_obl.specs.declared.queries.Query.{Query}
use Rattle.sv_obl.specs.declared.valuations.Valuation.{Valuation as Listed}
use Rattle.sv_obl.specs.DesignQueries.{IsQueryOf}
use Rattle.sv_obl.specs.Noninterference.{IsChecked}
use Rattle.sv_obl.specs.Validity.{Falsifies, goal_frame}
use Rattle.sv_obl.specs.Valuations.{valuation_of}
use Rattle.sv_obl.specs.Views.{obligation_of, goal_form}
use Rattle.sv_decide.specs.declared.failing.EvaluatedGoal.{EvaluatedGoal}
use Rattle.sv_decide.specs.Simulating.{IsOfFrame, asked_in, shows_failing}
use Rattle.sv_decide.proofs.FalsifiedCycles.{told_is}
use Rattle.sv_decide.proofs.SettledCycles.{IsSettledNow}
use Rattle.sv_decide.proofs.falsifying.falsifies.Goals as goal

-- what is told of the values of both cycles, as the code holds them
module _ (flat d : Flat) (d_is : d ≡ flat) (checked : IsChecked (design_of flat)) (query : Query)
    (is_query : IsQueryOf (design_of flat) (obligation_of query)) (v : Listed) (frame : Frame)
    (frame_is : frame ≡ goal_frame (goal_form query.goal))
    (there now there_seen now_seen : List ℕ) (there_is : there_seen ≡ there)
    (now_is : now_seen ≡ now)
    (of_frame : IsOfFrame (design_of flat) (valuation_of (design_of flat) v) frame
    (by_number there))
    (settled : IsSettledNow flat v now) (asked : EvaluatedGoal)
    (asked_is : asked ≡ asked_in (design_of d) (by_number there_seen) (goal_form query.goal))
    (told : Bool)
    (told_there : told ≡ shows_failing (design_of d) (obligation_of query) (by_number now_seen)
    asked) where
  told_same : told ≡ shows_failing (design_of flat) (obligation_of query) (by_number now)
      (asked_in (design_of flat) (by_number there) (goal_form query.goal))
  told_same =
      told_there
      ∙ ap (λ (x : EvaluatedGoal).
      shows_failing (design_of d) (obligation_of query) (by_number now_seen) x)
      asked_is
      ∙ ap (λ (e : Flat). shows_failing (design_of e) (obligation_of query) (by_number now_seen)
      (asked_in (design_of e) (by_number there_seen) (goal_form query.goal))) d_is
      ∙ ap (λ (z : List ℕ). shows_failing (design_of flat) (obligation_of query) (by_number z)
      (asked_in (design_of flat) (by_number there_seen) (goal_form query.goal))) now_is
      ∙ ap (λ (z : List ℕ). shows_failing (design_of flat) (obligation_of query) (by_number now)
      (asked_in (design_of flat) (by_number z) (goal_form query.goal))) there_is

  told_of_both : IsTrue told ↔ Falsifies (design_of flat) (valuation_of (design_of flat) v)
      (obligation_of query)
  told_of_both =
      told_is (design_of flat) checked (obligation_of query) is_query
      (valuation_of (design_of flat) v) (by_number now) (by_number there) settled
      (subst (λ (f : Frame). IsOfFrame (design_of flat) (valuation_of (design_of flat) v) f
      (by_number there)) frame_is of_frame) told told_same

-- the values of a simulation of the design fit it
values_fit : (flat d e : Flat) (values : List ℕ) → d ≡ flat → e ≡ flat →
    FitSignals (design_of e).signals values → FitSignals (design_of d).signals values
values_fit flat d e values d_is e_is fit =
    subst (λ (x : Flat). FitSignals (design_of x).signals values) (e_is ∙ sym d_is) fit

query_there : (flat d : Flat) (query : Query) → d ≡ flat →
    IsQueryOf (design_of flat) (obligation_of query) →
    IsQueryOf (design_of d) (obligation_of query)
query_there flat d query is there =
    subst (λ (x : Flat). IsQueryOf (design_of x) (obligation_of query)) (sym is) there

pub asked_by-asked-requires-clause-query : goal.asked_by-asked-requires-clause-query
asked_by-asked-requires-clause-query c =
    query_there c.args.sim.now.design c.design-design.result.now c.args.query.now
    c.design-design.ensures c.requires.query

pub asked_by-asked-requires-clause-fit : goal.asked_by-asked-requires-clause-fit
asked_by-asked-requires-clause-fit c =
    values_fit c.args.sim.now.design c.design-design.result.now c.settle_frame.new.sim.design
    c.values.result.now c.design-design.ensures c.settle_frame.ensures.design c.values.ensures.fit

pub shows_failing-requires-clause-query : goal.shows_failing-requires-clause-query
shows_failing-requires-clause-query c =
    query_there c.args.sim.now.design c.design-design.result.now c.args.query.now
    c.design-design.ensures c.requires.query

pub shows_failing-requires-clause-fit : goal.shows_failing-requires-clause-fit
shows_failing-requires-clause-fit c =
    values_fit c.args.sim.now.design c.design-design.result.now c.settle_now.new.sim.design
    c.values-2.result.now c.design-design.ensures
    (c.settle_now.ensures.design ∙ c.settle_frame.ensures.design) c.values-2.ensures.fit

pub returns-clause-falsifies : goal.returns-clause-falsifies
returns-clause-falsifies c =
    let flat = c.args.sim.now.design in
    told_of_both flat c.design-design.result.now c.design-design.ensures
    (subst (λ (d : Flat). IsChecked (design_of d)) c.design-design.ensures
    c.know_design.ensures.checked)
    c.args.query.now c.requires.query c.args.v.now c.frame_of.result c.frame_of.ensures
    c.settle_frame.new.sim.values c.settle_now.new.sim.values c.values.result.now
    c.values-2.result.now c.values.ensures.values c.values-2.ensures.values
    c.settle_frame.ensures.values
    (subst (λ (d : Flat). IsSettledNow d c.args.v.now c.settle_now.new.sim.values)
    c.settle_frame.ensures.design c.settle_now.ensures.values)
    c.asked_by-asked.result c.asked_by-asked.ensures.asked c.shows_failing.result
    c.shows_failing.ensures
