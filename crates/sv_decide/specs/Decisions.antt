-- What is decided of an obligation, by the answer.
use Rattle.std.specs.Prelude.{ℕ, ◌≤◌, List, length}
use Rattle.sv_clause.specs.Logs.{Step, plain_log}
use Rattle.sv_flat.specs.Design.{FlatDesign}
use Rattle.sv_obl.specs.Obligations.{Obligation}
use Rattle.sv_obl.specs.declared.valuations.Valuation.{Valuation}
use Rattle.sv_encoding.specs.Deciding.{Fits, IsRefutedBy}
use Rattle.sv_decide.specs.declared.deciding.Decided.{Decided}
use Rattle.sv_decide.specs.declared.deciding.Decided.TheVariants.{Valid, Fails, Spent}

-- the obligation's encoding fits, and a log of at most so many steps refutes its clauses
abbrev pub IsProvedWithin : FlatDesign → (most : ℕ) → Obligation → Type 0
IsProvedWithin design most o =
    Fits design o × (steps : List Step) × IsRefutedBy design o steps × (length steps ≤ most)

-- a fact for the steps that show an obligation valid
abbrev pub WhereValid : (List Step → Type 0) → Decided → Type 0
WhereValid fact (Valid log) = fact (plain_log log)
WhereValid fact answer = Unit {0}

-- a fact for the valuation that falsifies one
abbrev pub WhereFails : (Valuation → Type 0) → Decided → Type 0
WhereFails fact (Fails v) = fact v
WhereFails fact answer = Unit {0}

-- a fact for the steps of a spent log
abbrev pub WhereSpent : (List Step → Type 0) → Decided → Type 0
WhereSpent fact (Spent log) = fact (plain_log log)
WhereSpent fact answer = Unit {0}

-- the answer is no spent log
abbrev pub IsNotSpent : Decided → Type 0
IsNotSpent answer = WhereSpent (λ _. ⊥) answer
