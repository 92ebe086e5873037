-- What `verify` comes to for the bytes of a certificate, of an admitted design that exceeds no
-- limit on obligations: the text is read, its number of obligations is the design's, and then the
-- logs are checked in order, each behind the size of its obligation's encoding.
use Rattle.std.specs.Prelude.{◌≡◌, ◌≢◌, ℕ, List, length, take, slice_get, Some}
use Rattle.std.specs.List.{AllZip}
use Rattle.sv_clause.specs.Logs.{Step}
use Rattle.sv_flat.specs.Design.{FlatDesign}
use Rattle.sv_obl.specs.Asked.{asked}
use Rattle.sv_obl.specs.Obligations.{Obligation, obligations}
use Rattle.sv_proof.specs.Certificate.{AreLogs, proof_text}
use Rattle.sv_proof.specs.Checking.{HasFault}
use Rattle.sv_proof.specs.FaultLines.{fault_line}
use Rattle.sv_proof.specs.Lines.{IsFirstBroken}
use Rattle.sv_proof.specs.declared.check.LogFault.{LogFault}
use Rattle.sv_proof.specs.declared.check.LogFault.TheVariants.{OutOfMemory}
use Rattle.sv_encoding.specs.Deciding.{Fits, IsTooLarge, IsRefutedBy}
use Rattle.sv_encoding.specs.Encoding.{encoding}
use Rattle.sv_judge.specs.Verdicts.{IsNumbered}

-- the encoding fits, and the steps refute it
abbrev pub IsShown : FlatDesign → Obligation → List Step → Type 0
IsShown design o steps = Fits design o × IsRefutedBy design o steps

-- the bytes are the certificate of these logs, one for each obligation of the design
pub record AreCertified (design : FlatDesign) (bytes : List ℕ) (logs : List (List Step)) : Type 0
  where
    pub are_logs : AreLogs logs
    pub text : bytes ≡ proof_text logs
    pub count : length logs ≡ length (asked design)

-- the log of each obligation, in order, refutes its encoding, which fits
pub record IsVerified (design : FlatDesign) (bytes : List ℕ) : Type 0 where
  pub logs : List (List Step)
  pub certified : AreCertified design bytes logs
  pub each : AllZip (IsShown design) (asked design) logs

-- the bytes are the certificate of logs, but not of as many as the design has obligations
pub record HasWrongCount (design : FlatDesign) (bytes : List ℕ) : Type 0 where
  pub logs : List (List Step)
  pub are_logs : AreLogs logs
  pub text : bytes ≡ proof_text logs
  pub other : length logs ≢ length (asked design)

-- the logs before this place refute the encodings of their obligations, which fit
abbrev pub EarlierAreShown : FlatDesign → (before : ℕ) → List (List Step) → Type 0
EarlierAreShown design before logs =
    AllZip (IsShown design) (take before (asked design)) (take before logs)

-- the first log that does not refute its obligation's encoding, which fits, and why; none before it
-- is of an encoding that is too large
pub record FailsFirst (design : FlatDesign) (bytes : List ℕ) (line : ℕ) : Type 0 where
  pub logs : List (List Step)
  pub certified : AreCertified design bytes logs
  pub before : ℕ
  pub obligation : Obligation
  pub steps : List Step
  pub among : slice_get (asked design) before ≡ Some obligation
  pub log : slice_get logs before ≡ Some steps
  pub earlier : EarlierAreShown design before logs
  pub fits : Fits design obligation
  pub fault : LogFault
  pub told : fault ≢ OutOfMemory
  pub fails : HasFault (encoding design obligation).clauses steps fault
  pub lined : line ≡ fault_line logs before fault

-- the line at fault: the first that breaks the text of certificates; line 2, where it tells another
-- number of obligations; or the line of the first log that refutes nothing
pub data IsFaultLine (design : FlatDesign) (bytes : List ℕ) : (line : ℕ) → Type 0 where
  text : (line : ℕ) → IsFirstBroken bytes line → IsFaultLine design bytes line
  count : HasWrongCount design bytes → IsFaultLine design bytes 2
  log : (line : ℕ) → FailsFirst design bytes line → IsFaultLine design bytes line

-- the first obligation whose encoding takes more variables than may be, where no log before fails
pub record IsTooLargeToVerify (design : FlatDesign) (bytes : List ℕ) (number : ℕ) : Type 0 where
  pub logs : List (List Step)
  pub certified : AreCertified design bytes logs
  pub before : ℕ
  pub obligation : Obligation
  pub numbered : IsNumbered design number before obligation
  pub earlier : EarlierAreShown design before logs
  pub large : IsTooLarge design obligation
