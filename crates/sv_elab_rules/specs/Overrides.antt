-- The walk of what an instance sets parameters to: constants of the module that it stands in (IEEE
-- 1364-2005, clause 12.2).
use Rattle.std.specs.Prelude.{ℕ, Bool, not, ◌&&◌, List, [], ◌∷◌, ◌++◌, is_some}
use Rattle.std.specs.List.{list_any}
use Rattle.std.specs.Str.{bytes_eq}
use Rattle.sv_ast.specs.Scopes.{Number}
use Rattle.sv_ast.specs.Tree.{ExpressionTree, ParameterTree, NamedOverride, OverrideTrees}
use Rattle.sv_ast.specs.Tree.{named_overrides, ordered_overrides, ModuleTree}
use Rattle.sv_ast.specs.Instances.{entry, open_parameters}
use Rattle.sv_ast.specs.GrammarModules.{place_of}
use Rattle.sv_elab_rules.specs.Walks.{Walk, done, ask, broken, ◌>>=◌}
use Rattle.sv_elab_rules.specs.Rules.{wrong_override, overrides_over}
use Rattle.sv_elab_rules.specs.Names.{Names}
use Rattle.sv_elab_rules.specs.ExpressionSteps.{constant_walk}

-- whether an instance may set a parameter of that name
abbrev pub is_open : ModuleTree → List ℕ → Bool
is_open m n = list_any (λ (p : ParameterTree). bytes_eq n p.name) (open_parameters m)

-- by name: each is a parameter that may be set, and was not set before
unfoldable pub named_walk : (outer : Names) → ModuleTree → (set : List (List ℕ × Number))
    → List NamedOverride → Walk (List (List ℕ × Number))
named_walk outer m set [] = done set
named_walk outer m set (o ∷ os) = do
  _ ← ask (is_open m o.name && not (is_some (entry set o.name))) (wrong_override o.place o.name)
  n ← constant_walk outer o.value
  named_walk outer m (set ++ (o.name, n) ∷ []) os

-- by place: there is a parameter for each value
unfoldable pub ordered_walk : (outer : Names) → (free : List ParameterTree)
    → (set : List (List ℕ × Number)) → List ExpressionTree → Walk (List (List ℕ × Number))
ordered_walk outer free set [] = done set
ordered_walk outer [] set (e ∷ es) = broken (overrides_over (place_of e))
ordered_walk outer (p ∷ free) set (e ∷ es) = do
  n ← constant_walk outer e
  ordered_walk outer free (set ++ (p.name, n) ∷ []) es

unfoldable pub overrides_walk : (outer : Names) → ModuleTree → OverrideTrees
    → Walk (List (List ℕ × Number))
overrides_walk outer m (named_overrides os) = named_walk outer m [] os
overrides_walk outer m (ordered_overrides es) = ordered_walk outer (open_parameters m) [] es
