-- When logs are accepted, one for each obligation, and why they are not.
use Rattle.std.specs.Prelude.{◌≡◌, ◌≢◌, ℕ, ◌+◌, List, ◌++◌, length, take, Some, slice_get}
use Rattle.std.specs.List.{AllZip}
use Rattle.sv_clause.specs.Logs.{Step}
use Rattle.sv_proof.specs.Checking.{HasFault}
use Rattle.sv_proof.specs.declared.check.LogFault.TheVariants.{OutOfMemory as WantOfMemory}
use Rattle.sv_flat.specs.Design.{TypedTree, FlatDesign}
use Rattle.sv_obl.specs.Obligations.{Obligation, obligations}
use Rattle.sv_encoding.specs.Encoding.{encoding}
use Rattle.sv_encoding.specs.Deciding.{Fits, IsTooLarge, IsRefutedBy}
use Rattle.sv_accept.specs.declared.faults.QueryFault.{QueryFault}
use Rattle.sv_accept.specs.declared.faults.QueryFault.TheVariants as query
use Rattle.sv_accept.specs.declared.faults.AcceptFault.{AcceptFault}
use Rattle.sv_accept.specs.declared.faults.AcceptFault.TheVariants.{Count, Log, TooLarge}
use Rattle.sv_accept.specs.declared.faults.AcceptFault.TheVariants.{OutOfMemory}

-- the log shows that the obligation is valid: its encoding fits, and the log refutes it
abbrev pub IsAccepted : FlatDesign → Obligation → List Step → Type 0
IsAccepted design o steps = Fits design o × IsRefutedBy design o steps

-- why a log does not show it: the encoding has more variables than may be, or it fits and the log
-- has a fault; want of memory says nothing
abbrev pub HasQueryFault : FlatDesign → Obligation → List Step → QueryFault → Type 0
HasQueryFault design o steps query.TooLarge = IsTooLarge design o
HasQueryFault design o steps (query.Log fault) =
    Fits design o × (fault ≢ WantOfMemory) × HasFault (encoding design o).clauses steps fault
HasQueryFault design o steps query.OutOfMemory = Unit {0}

-- the obligation with this number, counted from 1, is the first whose log does not show that it is
-- valid, and why: the logs of those before it do
pub record IsFirstFault (design : FlatDesign) (list : List Obligation) (logs : List (List Step))
    (number : ℕ) (fault : QueryFault) : Type 0 where
  pub same_count : length list ≡ length logs
  pub before : ℕ
  pub number_is : number ≡ before + 1
  pub accepted : AllZip (IsAccepted design) (take before list) (take before logs)
  pub obligation : Obligation
  pub steps : List Step
  pub obligation_is : slice_get list before ≡ Some obligation
  pub steps_are : slice_get logs before ≡ Some steps
  pub has : HasQueryFault design obligation steps fault

-- a fault of the obligation with this number
abbrev pub numbered_fault : (number : ℕ) → QueryFault → AcceptFault
numbered_fault number query.TooLarge = TooLarge number
numbered_fault number (query.Log fault) = Log number fault
numbered_fault number query.OutOfMemory = OutOfMemory

-- why logs are not accepted: there are not as many as obligations, or one is the first at fault;
-- want of memory says nothing
abbrev pub HasAcceptFault : FlatDesign → List Obligation → List (List Step) → AcceptFault → Type 0
HasAcceptFault design list logs Count = length list ≢ length logs
HasAcceptFault design list logs (Log number fault) =
    IsFirstFault design list logs number (query.Log fault)
HasAcceptFault design list logs (TooLarge number) =
    IsFirstFault design list logs number query.TooLarge
HasAcceptFault design list logs OutOfMemory = Unit {0}

-- the list begins with the obligations that the design has with these facts in them
abbrev pub BeginsWithObligations : (facts : List TypedTree) → FlatDesign → List Obligation → Type 0
BeginsWithObligations facts design list =
    (more : List Obligation) × (list ≡ obligations facts design ++ more)
