-- What an obligation names is known to its design: expressions are well formed, and signals are the
-- design's; and what is told of its parts as the code holds them is told of the obligation.
use Rattle.std.proofs.Common.{◌≡◌, ℕ, ◌<◌, ◌&&◌, List, length, map, sym, ap, ap₂, subst, ◌∙◌, arith}
use Rattle.std.specs.Prelude.{All, IsTrue}
use Rattle.std.specs.Bool.{beq}
use Rattle.std.specs.List.{list_all}
use Rattle.std.proofs.lemmas.List.{get_or-map, length-map}
use Rattle.std.proofs.lemmas.List.Folds.{list_all-map}
use Rattle.sv_system.specs.System.{Environment}
use Rattle.sv_flat.specs.declared.designs.Flat.{Flat}
use Rattle.sv_flat.specs.declared.expressions.FExpr.{FExpr}
use Rattle.sv_flat.specs.declared.signals.SigId.{SigId}
use Rattle.sv_flat.specs.Soundness.{well_formed}
use Rattle.sv_flat.specs.Views.{design_of, signal_form, typed_tree}
use Rattle.sv_obl.specs.declared.queries.Query.{Query}
use Rattle.sv_obl.specs.declared.queries.PathStep.{PathStep}
use Rattle.sv_obl.specs.DesignQueries.{IsExpressionOf, IsStepOf, IsQueryOf}
use Rattle.sv_obl.specs.Obligations.{GoalForm}
use Rattle.sv_obl.specs.Paths.{StepForm}
use Rattle.sv_obl.specs.PathValues.{is_true_in}
use Rattle.sv_obl.specs.Views.{obligation_of, goal_form, step_form, number_of, IsGoalAmong}
use Rattle.sv_obl.proofs.AmongFacts.{query_among}
use Rattle.sv_decide.specs.declared.failing.EvaluatedGoal.{EvaluatedGoal}
use Rattle.sv_decide.specs.Simulating.{fails_by, shows_failing}

-- what holds of each element of a list made from another
unmapped : {X Y : Type 0} (P : Y → Type 0) (f : X → Y) (xs : List X) → All P (map f xs) →
    All (λ x. P (f x)) xs
unmapped P f xs all k d inside =
    subst P (get_or-map f xs k d (f d) inside)
    (all k (f d) (omega (arith, inside, length-map xs f)))

-- also where the list is in hand by another name
kept_forms : {X Y : Type 0} (P : Y → Type 0) (form : X → Y) (xs ys : List X) → xs ≡ ys →
    All P (map form ys) → All (λ x. P (form x)) xs
kept_forms P form xs ys same all =
    subst (λ zs. All (λ x. P (form x)) zs) (sym same) (unmapped P form ys all)

module _ (flat : Flat) (query : Query)
    (is : IsQueryOf (design_of flat) (obligation_of query)) where
  -- the expressions of facts and conditions
  pub facts_formed : (facts : List FExpr) → facts ≡ query.facts.items →
      All (λ (fact : FExpr). IsTrue (well_formed (design_of flat).signals (typed_tree fact))) facts
  facts_formed facts same k d inside =
      (kept_forms (IsExpressionOf (design_of flat)) typed_tree facts query.facts.items same is.facts
      k d inside).formed

  pub path_formed : (path : List PathStep) → path ≡ query.path.items →
      All (λ (step : PathStep).
      IsTrue (well_formed (design_of flat).signals (typed_tree step.cond))) path
  path_formed path same k d inside =
      (kept_forms (IsStepOf (design_of flat)) step_form path query.path.items same is.path k d
      inside).formed

  -- the signals that are read, and that of the goal
  pub reads_known : (reads : List SigId) → reads ≡ query.reads.items →
      All (λ (s : SigId). s.0 < length flat.signals.items) reads
  reads_known reads same =
      subst (λ (ss : List SigId). All (λ (s : SigId). s.0 < length flat.signals.items) ss)
      (sym same)
      (subst (λ n. All (λ (s : SigId). s.0 < n) query.reads.items)
      (length-map flat.signals.items signal_form)
      (unmapped (λ s. s < length (design_of flat).signals) number_of query.reads.items
      (query_among (design_of flat) (obligation_of query) is).reads))

  pub goal_known : (goal : GoalForm) → goal_form query.goal ≡ goal →
      IsGoalAmong (length flat.signals.items) goal
  goal_known goal same =
      subst (λ n. IsGoalAmong n goal) (length-map flat.signals.items signal_form)
      (subst (IsGoalAmong (length (design_of flat).signals)) same
      (query_among (design_of flat) (obligation_of query) is).goal)

  -- the tests of the parts are those of the obligation
  pub shown_is : (now : Environment ℕ) (asked : EvaluatedGoal) (facts : List FExpr)
      (path : List PathStep) (reads : List SigId) → facts ≡ query.facts.items →
      path ≡ query.path.items → reads ≡ query.reads.items →
      (list_all (λ (fact : FExpr). is_true_in (design_of flat).signals now (typed_tree fact)) facts
      && list_all (λ (step : PathStep).
      beq (is_true_in (design_of flat).signals now (typed_tree step.cond)) step.truth) path
      && fails_by (design_of flat) (map (λ (s : SigId). s.0) reads) now asked)
      ≡ shows_failing (design_of flat) (obligation_of query) now asked
  shown_is now asked facts path reads facts_are path_are reads_are =
      let met = ap (list_all (λ (fact : FExpr).
      is_true_in (design_of flat).signals now (typed_tree fact))) facts_are
      ∙ sym (list_all-map (is_true_in (design_of flat).signals now) typed_tree query.facts.items) in
      let taken = ap (list_all (λ (step : PathStep).
      beq (is_true_in (design_of flat).signals now (typed_tree step.cond)) step.truth)) path_are
      ∙ sym (list_all-map (λ (step : StepForm).
      beq (is_true_in (design_of flat).signals now step.condition) step.truth) step_form
      query.path.items) in
      let fails = ap (λ (ss : List SigId).
      fails_by (design_of flat) (map (λ (s : SigId). s.0) ss) now asked) reads_are in
      ap₂ ◌&&◌ (ap₂ ◌&&◌ met taken) fails
