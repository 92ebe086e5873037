use Rattle.std.proofs.Common.{◌≡◌, ◌∷◌, ◌∙◌, map, ap, ap₂, sym, subst, ◌⊎◌, inl, inr, ⊎_elim}
use Rattle.std.specs.Prelude.{All}
use Rattle.std.specs.Slice.Iter.{iter_rest}
use Rattle.std.specs.Iterator.Adapters.{zip_first, zip_second}
use Rattle.std.proofs.lemmas.List.Elements.{All-head, All-tail}
use Rattle.sv_gates.specs.Formulas.{IsLiteral}
use Rattle.sv_encoding.specs.Encoding.{path_units}
use Rattle.sv_obl.specs.Views.{step_form}
use Rattle.sv_blast.proofs.UnitClauses.{units_more, units_end, no_units, unit_within, steps_end}
use Rattle.sv_blast.proofs.units.add_conditions.Goals as goal

pub unit_clause-requires : goal.unit_clause-requires
unit_clause-requires c =
    let n = c.args.gates.now.variables in
    unit_within n c.loop-step.gates.variables c.in-Some.step.now.truth c.unit_of-unit.result
    c.in-Some.literal.now c.loop-step.invariant.0.begins.grows
    (All-head (IsLiteral n) c.in-Some.literal.now
    (iter_rest (zip_second c.next.new.self))
    (subst (All (IsLiteral n)) c.in-Some.ensures.steps.1 c.loop-step.invariant.1))
    c.unit_of-unit.ensures

pub loop-step-preserved : goal.loop-step-preserved
loop-step-preserved c =
    let n = c.args.gates.now.variables in
    let rest = iter_rest (zip_second c.next.new.self) in
    let left = path_units (map step_form (iter_rest (zip_first c.next.new.self))) rest in (
      units_more _ _ left _ c.loop-step.gates _ c.unit_of-unit.result c.loop-step.invariant.0
          (ap₂ (λ path literals. path_units (map step_form path) literals)
          c.in-Some.ensures.steps.0 c.in-Some.ensures.steps.1
          ∙ ap (λ u. u ∷ left) (sym c.unit_of-unit.ensures))
          c.in_ok-unit_clause.ensures.ok c.in_ok-unit_clause.ensures.begins,
      All-tail (IsLiteral n) c.in-Some.literal.now rest
          (subst (All (IsLiteral n)) c.in-Some.ensures.steps.1 c.loop-step.invariant.1),
    )

pub returns-clause-made : goal.returns-clause-made
returns-clause-made c =
    units_end _ _ _ c.loop-step.gates c.loop-step.invariant.0
    (no_units _ _ (steps_end _ _ c.in-None.ensures.steps))
