-- What holds of each obligation of a list.
use Rattle.std.proofs.Common.{ℕ, ◌<◌, ◌≤◌, ◌≡◌, zero, suc, List, [], ◌∷◌, map, length, arith}
use Rattle.std.proofs.Common.{get_or, subst, sym, ap, ◌∙◌, ◌++◌}
use Rattle.std.specs.Prelude.{All}
use Rattle.std.proofs.lemmas.List.Elements.{All-head, All-tail, All-nil, All-cons}
use Rattle.sv_flat.specs.Design.{FlatDesign}
use Rattle.sv_flat.specs.declared.expressions.FExpr.{FExpr}
use Rattle.sv_flat.specs.Views.{typed_tree}
use Rattle.sv_obl.specs.declared.queries.PathStep.{PathStep}
use Rattle.sv_obl.specs.declared.queries.Query.{Query}
use Rattle.sv_obl.specs.DesignQueries.{IsQueryOf, IsPlaced, IsExpressionOf, IsStepOf}
use Rattle.sv_obl.specs.Obligations.{Obligation}
use Rattle.sv_obl.specs.Views.{obligation_of, step_form}

held_at : (P : Obligation → Type 0) (queries : List Query) (k : ℕ) (d : Query)
    → All P (map obligation_of queries) → k < length queries
    → P (obligation_of (get_or queries k d))
held_at P [] k d all inside = absurd (omega arith)
held_at P (q ∷ queries) zero d all inside =
    All-head P (obligation_of q) (map obligation_of queries) all
held_at P (q ∷ queries) (suc k) d all inside =
    held_at P queries k d (All-tail P (obligation_of q) (map obligation_of queries) all)
    (omega arith)

pub asked_at : (design : FlatDesign) (queries : List Query) (k : ℕ) (d : Query)
    → All (IsQueryOf design) (map obligation_of queries) → k < length queries
    → IsQueryOf design (obligation_of (get_or queries k d))
asked_at design queries k d all inside = held_at (IsQueryOf design) queries k d all inside

-- what stands at a place of the obligations of a design, listed, is one of them
pub asked_item : (design : FlatDesign) (listed queries : List Query) (k : ℕ) (q : Query)
    → listed ≡ queries → All (IsQueryOf design) (map obligation_of queries)
    → q ≡ get_or listed k q → k < length listed → IsQueryOf design (obligation_of q)
asked_item design listed queries k q same all is inside =
    let kept = subst (λ qs. All (IsQueryOf design) (map obligation_of qs)) (sym same) all in
    subst (λ x. IsQueryOf design (obligation_of x)) (sym is)
    (asked_at design listed k q kept inside)

pub placed_at : (queries : List Query) (k : ℕ) (d : Query)
    → All IsPlaced (map obligation_of queries) → k < length queries
    → IsPlaced (obligation_of (get_or queries k d))
placed_at queries k d all inside = held_at IsPlaced queries k d all inside

condition_at : (design : FlatDesign) (steps : List PathStep) (k : ℕ) (step : PathStep)
    → All (IsStepOf design) (map step_form steps) → k < length steps → step ≡ get_or steps k step
    → IsExpressionOf design (typed_tree step.cond)
condition_at design [] k step all inside is = absurd (omega arith)
condition_at design (s ∷ steps) zero step all inside is =
    subst (λ (x : PathStep). IsExpressionOf design (typed_tree x.cond)) (sym is)
    (All-head (IsStepOf design) (step_form s) (map step_form steps) all)
condition_at design (s ∷ steps) (suc k) step all inside is =
    condition_at design steps k step
    (All-tail (IsStepOf design) (step_form s) (map step_form steps) all) (omega arith) is

-- the conditions of three steps are expressions of the design
pub three_conditions : (design : FlatDesign) (steps : List PathStep) (a b c : PathStep)
    → All (IsStepOf design) (map step_form steps) → 3 ≤ length steps
    → a ≡ get_or steps 0 a → b ≡ get_or steps 1 b → c ≡ get_or steps 2 c
    → IsExpressionOf design (typed_tree a.cond) × IsExpressionOf design (typed_tree b.cond)
    × IsExpressionOf design (typed_tree c.cond)
three_conditions design steps a b c all long first second third = (
  condition_at design steps 0 a all (omega arith) first,
  condition_at design steps 1 b all (omega arith) second,
  condition_at design steps 2 c all (omega arith) third,
)

-- two expressions that are put into an empty list one after the other
pub two_facts : (design : FlatDesign) (none one two : List FExpr) (a b : FExpr) → none ≡ []
    → one ≡ none ++ a ∷ [] → two ≡ one ++ b ∷ []
    → IsExpressionOf design (typed_tree a) → IsExpressionOf design (typed_tree b)
    → All (IsExpressionOf design) (map typed_tree two)
two_facts design none one two a b empty first second is_a is_b =
    let P = IsExpressionOf design in
    let both = second ∙ ap (λ z. z ++ b ∷ []) (first ∙ ap (λ z. z ++ a ∷ []) empty) in
    subst (λ es. All P (map typed_tree es)) (sym both)
    (All-cons P (typed_tree a) (typed_tree b ∷ []) is_a
    (All-cons P (typed_tree b) [] is_b (All-nil P)))
