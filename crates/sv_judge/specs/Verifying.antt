-- Private: how the code goes; the meaning stands in `Certified`. What is known while the logs of a
-- certificate are checked in order.
use Rattle.std.specs.Prelude.{◌≡◌, ◌<◌, ◌^◌, ℕ, List, length, Result, Ok, Err, alloc_error}
use Rattle.std.specs.declared.alloc.AllocError.{AllocError}
use Rattle.sv_clause.specs.Logs.{Step}
use Rattle.sv_flat.specs.Design.{FlatDesign}
use Rattle.sv_obl.specs.Asked.{asked}
use Rattle.sv_obl.specs.Obligations.{obligations}
use Rattle.sv_proof.specs.Certificate.{AreLogs, proof_lines, proof_text}
use Rattle.sv_proof.specs.declared.read.ProofFault.{ProofFault}
use Rattle.sv_proof.specs.declared.read.ProofFault.TheVariants as broken
use Rattle.sv_judge.specs.Certified.{FailsFirst, IsVerified, IsFaultLine, IsTooLargeToVerify}
use Rattle.sv_judge.specs.declared.verdicts.Verified.{Verified}
use Rattle.sv_judge.specs.declared.verdicts.Verified.TheVariants as verified
use Rattle.sv_judge.specs.declared.verifying.Flaw.{Flaw}
use Rattle.sv_judge.specs.declared.verifying.Flaw.TheVariants.{Fault, TooLarge, OutOfMemory}

-- a certificate holds these logs, one for each obligation, and 64 bits number its lines
pub record AreMatched (design : FlatDesign) (logs : List (List Step)) : Type 0 where
  pub are_logs : AreLogs logs
  pub count : length logs ≡ length (asked design)
  pub lines : length (proof_lines logs) < 2 ^ 63

-- what ends the check of these logs before the last one; want of memory says nothing
abbrev pub IsFlaw : FlatDesign → List (List Step) → Flaw → Type 0
IsFlaw design logs (Fault line) = FailsFirst design (proof_text logs) line
IsFlaw design logs (TooLarge number) = IsTooLargeToVerify design (proof_text logs) number
IsFlaw design logs OutOfMemory = Unit {0}

-- what the bytes come to, of a design that has so many obligations
abbrev pub IsVerdict : FlatDesign → (bytes : List ℕ) → (count : ℕ) → Verified → Type 0
IsVerdict design bytes count (verified.Accepted accepted) =
    IsVerified design bytes × (accepted ≡ count)
IsVerdict design bytes count (verified.Fault line) = IsFaultLine design bytes line
IsVerdict design bytes count (verified.TooLarge number) = IsTooLargeToVerify design bytes number

-- what bytes come to that are no certificate
abbrev pub broken_verdict : ProofFault → Result Verified AllocError
broken_verdict (broken.Text line) = Ok (verified.Fault line)
broken_verdict broken.OutOfMemory = Err alloc_error

-- what logs come to that have a flaw
abbrev pub flawed_verdict : Flaw → Result Verified AllocError
flawed_verdict (Fault line) = Ok (verified.Fault line)
flawed_verdict (TooLarge number) = Ok (verified.TooLarge number)
flawed_verdict OutOfMemory = Err alloc_error
