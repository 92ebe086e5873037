-- What is said of each answer of `check` and `verify`, and what spares a budget.
use Rattle.std.specs.Prelude.{ℕ, ◌≤◌, ℤ, List}
use Rattle.sv_clause.specs.Logs.{Step}
use Rattle.sv_clause.specs.Units.{IsUnitConflict}
use Rattle.sv_flat.specs.Design.{FlatDesign}
use Rattle.sv_obl.specs.Obligations.{Obligation}
use Rattle.sv_proof.specs.Certificate.{plain_logs}
use Rattle.sv_encoding.specs.Encoding.{encoding}
use Rattle.sv_judge.specs.declared.verdicts.Checked.{Checked}
use Rattle.sv_judge.specs.declared.verdicts.Checked.TheVariants.{Accepted, Fails, TooLarge, Unknown}
use Rattle.sv_judge.specs.declared.verdicts.Failure.{Failure}
use Rattle.sv_judge.specs.declared.verdicts.Spent.{Spent}
use Rattle.sv_judge.specs.declared.verdicts.Verified.{Verified}
use Rattle.sv_judge.specs.declared.verdicts.Verified.TheVariants as verified

-- ---- check

-- a fact for the number of obligations that are accepted, and for the logs that are kept
abbrev pub WhereAccepted : (ℕ → List (List Step) → Type 0) → Checked → Type 0
WhereAccepted fact (Accepted count logs) = fact count (plain_logs logs.items)
WhereAccepted fact (Fails failure) = Unit {0}
WhereAccepted fact (TooLarge number) = Unit {0}
WhereAccepted fact (Unknown spent) = Unit {0}

-- a fact for the obligation that is falsified
abbrev pub WhereFails : (Failure → Type 0) → Checked → Type 0
WhereFails fact (Accepted count logs) = Unit {0}
WhereFails fact (Fails failure) = fact failure
WhereFails fact (TooLarge number) = Unit {0}
WhereFails fact (Unknown spent) = Unit {0}

-- a fact for the number of the obligation that is too large
abbrev pub WhereTooLarge : (ℕ → Type 0) → Checked → Type 0
WhereTooLarge fact (Accepted count logs) = Unit {0}
WhereTooLarge fact (Fails failure) = Unit {0}
WhereTooLarge fact (TooLarge number) = fact number
WhereTooLarge fact (Unknown spent) = Unit {0}

-- a fact for the obligation on which the budget is spent
abbrev pub WhereUnknown : (Spent → Type 0) → Checked → Type 0
WhereUnknown fact (Accepted count logs) = Unit {0}
WhereUnknown fact (Fails failure) = Unit {0}
WhereUnknown fact (TooLarge number) = Unit {0}
WhereUnknown fact (Unknown spent) = fact spent

-- the answer is not that a budget is spent
abbrev pub IsNotUnknown : Checked → Type 0
IsNotUnknown answer = WhereUnknown (λ _. ⊥) answer

-- the obligation's encoding has at most so many variables
abbrev pub HasAtMost : FlatDesign → (most : ℕ) → Obligation → Type 0
HasAtMost design most o = (encoding design o).variables ≤ most

-- unit resolution alone refutes the clauses of the obligation's encoding
abbrev pub HasUnitConflict : FlatDesign → Obligation → Type 0
HasUnitConflict design o =
    (literals : List ℤ) × IsUnitConflict (encoding design o).clauses literals

-- ---- verify

-- a fact for the number of obligations whose logs are accepted
abbrev pub WhereVerified : (ℕ → Type 0) → Verified → Type 0
WhereVerified fact (verified.Accepted count) = fact count
WhereVerified fact (verified.Fault line) = Unit {0}
WhereVerified fact (verified.TooLarge number) = Unit {0}

-- a fact for the line at fault
abbrev pub WhereFault : (ℕ → Type 0) → Verified → Type 0
WhereFault fact (verified.Accepted count) = Unit {0}
WhereFault fact (verified.Fault line) = fact line
WhereFault fact (verified.TooLarge number) = Unit {0}

-- a fact for the number of the obligation that is too large
abbrev pub WhereLarge : (ℕ → Type 0) → Verified → Type 0
WhereLarge fact (verified.Accepted count) = Unit {0}
WhereLarge fact (verified.Fault line) = Unit {0}
WhereLarge fact (verified.TooLarge number) = fact number
