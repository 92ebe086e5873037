-- What `check` is sure to decide of a text that passes: of which answers it gives none.
use Rattle.std.specs.Prelude.{◌≢◌, ◌⊎◌, ℕ, ◌≤◌, ◌^◌, List, Option, All, Any}
use Rattle.sv_clause.specs.Logs.{Step}
use Rattle.sv_flat.specs.Design.{FlatDesign}
use Rattle.sv_io.specs.Exchange.{Exchange}
use Rattle.sv_obl.specs.Asked.{asked}
use Rattle.sv_obl.specs.Obligations.{obligations}
use Rattle.sv_obl.specs.Validity.{Valuation, Falsifies}
use Rattle.sv_obl.specs.declared.valuations.Valuation.{Valuation as Listed}
use Rattle.sv_encoding.specs.Deciding.{Fits}
use Rattle.sv_judge.specs.Answers.{HasAtMost, HasUnitConflict}
use Rattle.sv_report.specs.declared.styles.Style.{Style}
use Rattle.sv_cli.specs.Answer.{Answer, falsified, limit_exceeded, undecided}
use Rattle.sv_cli.specs.Checks.{Decides}
use Rattle.sv_cli.specs.Texts.{Passes}

-- ---- answers

-- the answer is no valuation that falsifies an obligation
abbrev pub IsNotFalsified : Answer → Type 0
IsNotFalsified answer = (number : ℕ) (v : Listed) → answer ≢ falsified number v

-- the answer is no limit
abbrev pub IsNotLimit : Answer → Type 0
IsNotLimit answer = (number : ℕ) (names : List (List ℕ)) → answer ≢ limit_exceeded number names

-- the answer is not that a budget is spent
abbrev pub IsNotUndecided : Answer → Type 0
IsNotUndecided answer = (number : ℕ) (steps : List Step) → answer ≢ undecided number steps

-- ---- designs

-- some valuation falsifies an obligation of the design
abbrev pub SomeFails : FlatDesign → Type 0
SomeFails design = Any (λ o. (v : Valuation) × Falsifies design v o) (asked design)

-- the encoding of each obligation has no more variables than may be
abbrev pub AllFit : FlatDesign → Type 0
AllFit design = All (Fits design) (asked design)

-- no encoding has more than n variables, and the budget is at least 3 ^ n
abbrev pub IsLarge : FlatDesign → (budget : ℕ) → Type 0
IsLarge design budget =
    (most : ℕ) × All (HasAtMost design most) (asked design) × (3 ^ most ≤ budget)

-- unit resolution alone refutes each encoding
abbrev pub AllHaveUnitConflicts : FlatDesign → Type 0
AllHaveUnitConflicts design = All (HasUnitConflict design) (asked design)

-- no log spends the budget: it is large, or unit resolution decides
abbrev pub Suffices : FlatDesign → (budget : ℕ) → Type 0
Suffices design budget = IsLarge design budget ⊎ AllHaveUnitConflicts design

-- ---- decisions

-- what is said of each answer that `check` may give for the design of a text that passes, once the
-- design exceeds no limit on obligations
abbrev pub OfEachDecision : (FlatDesign → (budget : ℕ) → Answer → Type 0) → Type 0
OfEachDecision Says =
    (top : Option (List ℕ)) (text : List ℕ) (passes : Passes top text)
    (style : Style) (proof : Option (List ℕ)) (budget : ℕ) (exchanges : List Exchange)
    (answer : Answer) (printed : List ℕ)
    → Decides style proof budget passes.design exchanges answer printed
    → Says passes.design budget answer
