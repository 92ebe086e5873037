-- What `check` comes to for an admitted design that exceeds no limit on obligations: its
-- obligations in order, each decided by the clauses of its encoding. Which valuation falsifies one,
-- and whether a budget is spent, is free; so a design may have several of these verdicts.
use Rattle.std.specs.Prelude.{◌≡◌, ◌≤◌, ℕ, ◌+◌, List, length, take, drop, slice_get}
use Rattle.std.specs.Prelude.{Some, All}
use Rattle.std.specs.List.{AllZip}
use Rattle.sv_clause.specs.Logs.{Step}
use Rattle.sv_flat.specs.Design.{FlatDesign}
use Rattle.sv_obl.specs.Asked.{asked}
use Rattle.sv_obl.specs.Obligations.{Obligation, obligations}
use Rattle.sv_obl.specs.Validity.{Falsifies}
use Rattle.sv_obl.specs.Valuations.{FitsDesign, valuation_of}
use Rattle.sv_obl.specs.declared.valuations.Valuation.{Valuation as Listed}
use Rattle.sv_encoding.specs.BothWays.{IsZeroOutside}
use Rattle.sv_encoding.specs.Deciding.{Fits, IsTooLarge, IsRefutedBy, IsSpentBy, IsPassed}
use Rattle.sv_decide.specs.Decisions.{IsProvedWithin}

-- this obligation of a design has this number, counted from 1, and so many stand before it
pub record IsNumbered (design : FlatDesign) (number before : ℕ) (o : Obligation) : Type 0 where
  pub counted : number ≡ before + 1
  pub among : slice_get (asked design) before ≡ Some o

-- the encoding fits and has a refutation of no more clauses than the budget allows, and the empty
-- one
abbrev pub IsProvedFor : FlatDesign → (budget : ℕ) → Obligation → Type 0
IsProvedFor design budget o = IsProvedWithin design (budget + 1) o

-- the design has so many obligations, and each is proved
pub record IsAccepted (design : FlatDesign) (budget count : ℕ) : Type 0 where
  pub counted : count ≡ length (asked design)
  pub each : All (IsProvedFor design budget) (asked design)

-- one log for each obligation, in order, refutes its encoding
abbrev pub AreRefutations : FlatDesign → List (List Step) → Type 0
AreRefutations design logs = AllZip (IsRefutedBy design) (asked design) logs

-- none of the logs has more clauses than the budget allows, and the empty one
abbrev pub AreWithin : (budget : ℕ) → List (List Step) → Type 0
AreWithin budget logs = All (λ steps. length steps ≤ budget + 1) logs

-- The valuation falsifies the obligation of this number, which fits, and is 0 outside of its cones;
-- each before it fits and has a refutation or a log that spends the budget.
pub record IsFalsified (design : FlatDesign) (budget number : ℕ) (v : Listed) : Type 0 where
  pub before : ℕ
  pub obligation : Obligation
  pub numbered : IsNumbered design number before obligation
  pub earlier : All (IsPassed design budget) (take before (asked design))
  pub small : Fits design obligation
  pub fits : FitsDesign design v
  pub falsifies : Falsifies design (valuation_of design v) obligation
  pub zero : IsZeroOutside design obligation (valuation_of design v)

-- The encoding of the obligation of this number takes more variables than may be; each before it
-- fits and has a refutation or a log that spends the budget.
pub record EndsTooLarge (design : FlatDesign) (budget number : ℕ) : Type 0 where
  pub before : ℕ
  pub obligation : Obligation
  pub numbered : IsNumbered design number before obligation
  pub earlier : All (IsPassed design budget) (take before (asked design))
  pub large : IsTooLarge design obligation

-- The steps spend the budget on the obligation of this number, which fits. Each before it is proved;
-- each behind it fits and has a refutation or a log that spends the budget.
pub record IsSpent (design : FlatDesign) (budget number : ℕ) (steps : List Step) : Type 0 where
  pub before : ℕ
  pub obligation : Obligation
  pub numbered : IsNumbered design number before obligation
  pub fits : Fits design obligation
  pub spends : IsSpentBy design budget obligation steps
  pub earlier : All (IsProvedFor design budget) (take before (asked design))
  pub later : All (IsPassed design budget) (drop number (asked design))
