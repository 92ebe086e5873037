-- Private: how the code goes; the meaning stands in `Verdicts` and `Certified`. What is known while
-- the obligations of a design are decided in order.
use Rattle.std.specs.Prelude.{◌≡◌, ◌≤◌, ℕ, ◌-◌, ◌^◌, ◌⊎◌, IsTrue, IsFalse, List, [], take}
use Rattle.std.specs.Prelude.{slice_get, Option, Some, None, All}
use Rattle.std.specs.List.{AllZip}
use Rattle.std.specs.Global.{Vec}
use Rattle.sv_clause.specs.Logs.{Step, plain_log}
use Rattle.sv_clause.specs.declared.logs.Log.{Log}
use Rattle.sv_flat.specs.Design.{FlatDesign}
use Rattle.sv_obl.specs.Asked.{asked}
use Rattle.sv_obl.specs.DesignQueries.{IsQueryOf, IsPlaced}
use Rattle.sv_obl.specs.Obligations.{Obligation, obligations}
use Rattle.sv_obl.specs.Views.{obligation_of}
use Rattle.sv_proof.specs.Certificate.{IsWritableLog, plain_logs}
use Rattle.sv_encoding.specs.Deciding.{Fits, IsRefutedBy, IsSpentBy, IsPassed}
use Rattle.sv_encoding.specs.Encoding.{encoding}
use Rattle.sv_judge.specs.Answers.{HasUnitConflict}
use Rattle.sv_judge.specs.Verdicts.{IsNumbered, IsProvedFor, AreWithin, IsFalsified}
use Rattle.sv_judge.specs.Verdicts.{EndsTooLarge}
use Rattle.sv_judge.specs.declared.progress.Progress.{Progress}
use Rattle.sv_judge.specs.declared.progress.EarlyStop.{EarlyStop}
use Rattle.sv_judge.specs.declared.progress.EarlyStop.TheVariants.{Fails, TooLarge, OutOfMemory}
use Rattle.sv_judge.specs.declared.verdicts.Checked.{Checked}
use Rattle.sv_judge.specs.declared.verdicts.Checked.TheVariants.{Accepted, Unknown}
use Rattle.sv_judge.specs.declared.verdicts.Failure.{Failure}
use Rattle.sv_judge.specs.declared.verdicts.Spent.{Spent}

-- the first so many obligations
abbrev pub first_obligations : FlatDesign → (count : ℕ) → List Obligation
first_obligations design count = take count (asked design)

-- the budget cannot be spent on the obligation: it is large, or unit resolution refutes it
abbrev pub IsSpared : FlatDesign → (budget : ℕ) → Obligation → Type 0
IsSpared design budget o =
    (3 ^ (encoding design o).variables ≤ budget) ⊎ HasUnitConflict design o

-- the first obligation on which the budget is spent
pub record IsFirstSpent (design : FlatDesign) (budget : ℕ) (spent : Spent) : Type 0 where
  pub before : ℕ
  pub obligation : Obligation
  pub numbered : IsNumbered design spent.obligation before obligation
  pub fits : Fits design obligation
  pub spends : IsSpentBy design budget obligation (plain_log spent.log)
  pub earlier : All (IsProvedFor design budget) (first_obligations design before)
  pub not_spared : IsSpared design budget obligation → ⊥

-- each of the first so many is proved, or the first that is not is told
abbrev pub IsStanding : FlatDesign → (budget count : ℕ) → Option Spent → Type 0
IsStanding design budget count None =
    All (IsProvedFor design budget) (first_obligations design count)
IsStanding design budget count (Some spent) = IsFirstSpent design budget spent

-- a log within the budget refutes each of the first so many, and a certificate can hold it
pub record AreKept (design : FlatDesign) (budget count : ℕ) (logs : List (List Step)) : Type 0
  where
    pub refute : AllZip (IsRefutedBy design) (first_obligations design count) logs
    pub within : AreWithin budget logs
    pub writable : All IsWritableLog logs

-- so many obligations are decided, and none of them ends the check; and where all of them are
-- proved and logs are kept, there is one for each; else none is kept
pub record HasDone (design : FlatDesign) (budget : ℕ) (progress : Progress) : Type 0 where
  pub passed : All (IsPassed design budget) (first_obligations design progress.count)
  pub stands : IsStanding design budget progress.count progress.spent
  pub logs : IsTrue progress.keeps → progress.spent ≡ None →
      AreKept design budget progress.count (plain_logs progress.logs.items)
  pub none_kept : IsFalse progress.keeps → progress.logs.items ≡ []

-- the valuation falsifies the obligation of the failure's number, which is its query
pub record IsFailing (design : FlatDesign) (budget : ℕ) (failure : Failure) : Type 0 where
  pub falsified : IsFalsified design budget failure.number failure.valuation
  pub among :
      slice_get (asked design) (failure.number - 1) ≡ Some (obligation_of failure.query)
  pub query : IsQueryOf design (obligation_of failure.query)
  pub placed : IsPlaced (obligation_of failure.query)

-- what ends the check before the last obligation; want of memory says nothing
abbrev pub IsEarlyStop : FlatDesign → (budget : ℕ) → EarlyStop → Type 0
IsEarlyStop design budget (Fails failure) = IsFailing design budget failure
IsEarlyStop design budget (TooLarge number) = EndsTooLarge design budget number
IsEarlyStop design budget OutOfMemory = Unit {0}

-- what a check comes to that reached the last obligation
abbrev pub verdict_of : (count : ℕ) → (logs : Vec Log) → Option Spent → Checked
verdict_of count logs (Some spent) = Unknown spent
verdict_of count logs None = Accepted count logs
