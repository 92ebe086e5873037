-- What clauses decide of an obligation: whether they are few enough, whether a log of resolution
-- refutes them, and whether one spends a budget on them. `check` and `verify` answer by these.
use Rattle.std.specs.Prelude.{ℕ, ◌<◌, ◌≤◌, ◌⊎◌, ℤ, List}
use Rattle.sv_clause.specs.Logs.{Step, Refutes}
use Rattle.sv_clause.specs.Units.{IsSpentLog}
use Rattle.sv_flat.specs.Design.{FlatDesign}
use Rattle.sv_gates.specs.Formulas.{most_variables}
use Rattle.sv_obl.specs.Obligations.{Obligation}
use Rattle.sv_encoding.specs.Encoding.{encoding}

-- the obligation's encoding has no more variables than may be
abbrev pub Fits : FlatDesign → Obligation → Type 0
Fits design o = (encoding design o).variables ≤ most_variables

-- it has more
abbrev pub IsTooLarge : FlatDesign → Obligation → Type 0
IsTooLarge design o = most_variables < (encoding design o).variables

-- the steps refute the clauses of the obligation's encoding
abbrev pub IsRefutedBy : FlatDesign → Obligation → List Step → Type 0
IsRefutedBy design o steps = Refutes (encoding design o).clauses steps

-- the steps spend the budget on them: as many as it allows, each new, and nothing is decided
abbrev pub IsSpentBy : FlatDesign → (budget : ℕ) → Obligation → List Step → Type 0
IsSpentBy design budget o steps = IsSpentLog (encoding design o).clauses steps budget

abbrev pub HasRefutation : FlatDesign → Obligation → Type 0
HasRefutation design o = (steps : List Step) × IsRefutedBy design o steps

abbrev pub HasSpentLog : FlatDesign → (budget : ℕ) → Obligation → Type 0
HasSpentLog design budget o = (steps : List Step) × IsSpentBy design budget o steps

-- the encoding fits and has a refutation, so that no valuation falsifies the obligation
abbrev pub IsProved : FlatDesign → Obligation → Type 0
IsProved design o = Fits design o × HasRefutation design o

-- the encoding fits, and has a refutation or a log that spends the budget: it ends no check
abbrev pub IsPassed : FlatDesign → (budget : ℕ) → Obligation → Type 0
IsPassed design budget o =
    Fits design o × (HasRefutation design o ⊎ HasSpentLog design budget o)
