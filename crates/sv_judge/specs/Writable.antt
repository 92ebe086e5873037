-- Private: how the code goes; the meaning stands in `Certificate.antt` of `sv_proof`. What the
-- types of a step say.
use Rattle.std.specs.Prelude.{◌<◌, ◌^◌, All}
use Rattle.sv_clause.specs.Literals.{IsClause}
use Rattle.sv_clause.specs.Logs.{Step}

-- its clause is in normal form, and the numbers of its chain have 64 bits
pub record IsTyped (step : Step) : Type 0 where
  pub clause : IsClause step.clause
  pub numbers : All (λ number. number < 2 ^ 64) step.chain
