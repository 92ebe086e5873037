-- What an instance sets fits its length.
use Rattle.std.proofs.Common.{◌≡◌, ℕ, List, [], ◌∷◌, ◌++◌, subst}
use Rattle.std.specs.Prelude.{Ok}
use Rattle.sv_ast.specs.Scopes.{Number}
use Rattle.sv_ast.specs.Tree.{ExpressionTree, ParameterTree, NamedOverride, OverrideTrees}
use Rattle.sv_ast.specs.Tree.{named_overrides, ordered_overrides, ModuleTree}
use Rattle.sv_ast.specs.Instances.{open_parameters}
use Rattle.sv_elab_rules.specs.Names.{Names}
use Rattle.sv_elab_rules.specs.ExpressionSteps.{constant_walk}
use Rattle.sv_elab_rules.specs.Overrides.{named_walk, ordered_walk, overrides_walk}
use Rattle.sv_elab_rules.proofs.WalkLemmas.{parts_done}
use Rattle.sv_elab_laws.proofs.PartsBindings.{one_more_holds}
use Rattle.sv_elab_laws.proofs.PartsDeclared.{same_ok, constant_done}
use Rattle.sv_elab_laws.proofs.PartsNamed.{NumberFits, SetFits}
use Rattle.sv_elab_laws.proofs.PartsOverrides.{named_step}
use Rattle.sv_elab_laws.proofs.ValuesLow.{constant_fits}

module _ (outer : Names) where
  found_fits : (e : ExpressionTree) (n : Number) → (constant_walk outer e).end ≡ Ok n → NumberFits n
  found_fits e n h = subst NumberFits (constant_done outer e n h) (constant_fits outer.scope e)

  named_fits : (m : ModuleTree) (os : List NamedOverride) (set found : List (List ℕ × Number))
      → (named_walk outer m set os).end ≡ Ok found
      → SetFits set → SetFits found
  unfolding named_walk
  named_fits m [] set found h fits = subst SetFits (same_ok set found h) fits
  named_fits m (o ∷ os) set found h fits =
      let step = named_step outer m o os set found h in
      named_fits m os (set ++ (o.name, step.0) ∷ []) found step.2
      (one_more_holds NumberFits set o.name step.0 fits (found_fits o.value step.0 step.1))

  ordered_fits : (es : List ExpressionTree) (free : List ParameterTree)
      (set found : List (List ℕ × Number))
      → (ordered_walk outer free set es).end ≡ Ok found → SetFits set → SetFits found
  unfolding ordered_walk
  ordered_fits [] [] set found h fits = subst SetFits (same_ok set found h) fits
  ordered_fits [] (p ∷ free) set found h fits = subst SetFits (same_ok set found h) fits
  ordered_fits (e ∷ es) [] set found h fits = absurd (cc h)
  ordered_fits (e ∷ es) (p ∷ free) set found h fits =
      let first = parts_done (constant_walk outer e) (λ n.
      ordered_walk outer free (set ++ (p.name, n) ∷ []) es) found h in
      ordered_fits es free (set ++ (p.name, first.0) ∷ []) found first.2
      (one_more_holds NumberFits set p.name first.0 fits (found_fits e first.0 first.1))

  nothing_fits : SetFits []
  nothing_fits n v e = absurd (cc e)

  pub settings_fit : (m : ModuleTree) (os : OverrideTrees) (found : List (List ℕ × Number))
      → (overrides_walk outer m os).end ≡ Ok found
      → SetFits found
  unfolding overrides_walk
  settings_fit m (named_overrides os) found h = named_fits m os [] found h nothing_fits
  settings_fit m (ordered_overrides es) found h =
      ordered_fits es (open_parameters m) [] found h nothing_fits
