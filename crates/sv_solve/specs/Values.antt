-- Private: how the code goes. The values of variables under a trail.
use Rattle.std.specs.Prelude.{◌≡◌, ℕ, ◌+◌, ◌<◌, Bool, false, pos, List, length, slice_index_or}
use Rattle.sv_clause.specs.Literals.{stands}
use Rattle.sv_solve.specs.Lists.{Assigned}

-- one value a variable: whether it is true under the trail
pub record AreValues (variables : ℕ) (trail : Assigned) (values : List Bool) : Type 0 where
  pub size : length values ≡ variables
  pub each : (before : ℕ) → before < length values → before < trail.variables →
      slice_index_or values before false ≡ stands (pos (before + 1)) trail.literals
