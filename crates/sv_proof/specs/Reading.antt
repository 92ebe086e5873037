-- Private: how the code goes. What is read of a certificate on the way, and where it stops.
use Rattle.std.specs.Prelude.{◌≡◌, ◌⊎◌, ℕ, ◌+◌, ◌<◌, ◌^◌, List, ◌∷◌, ◌++◌, map, length, All}
use Rattle.sv_clause.specs.Logs.{Step}
use Rattle.sv_proof.specs.Certificate.{step_line, log_line, log_lines, text_of, IsWritable}
use Rattle.sv_proof.specs.Certificate.{IsWritableLog}
use Rattle.sv_proof.specs.Lines.{Lacks}
use Rattle.sv_proof.specs.declared.read.ProofFault.{ProofFault}
use Rattle.sv_proof.specs.declared.read.ProofFault.TheVariants.{Text, OutOfMemory}

-- no line of a kind comes next
abbrev pub NextIsNo : (List ℕ → Type 0) → List ℕ → Type 0
NextIsNo kind bytes =
    (line more : List ℕ) → Lacks 10 line → bytes ≡ line ++ 10 ∷ more → kind line → ⊥

-- the line of a step
abbrev pub IsStepLine : List ℕ → Type 0
IsStepLine line = (step : Step) × IsWritable step × (line ≡ step_line step)

-- the line before the steps of the log with a number
abbrev pub IsLogLine : ℕ → List ℕ → Type 0
IsLogLine number line = (steps : ℕ) × (steps < 2 ^ 32) × (line ≡ log_line number steps)

-- the bytes begin with the lines of steps
pub record BeginWithSteps (bytes : List ℕ) (steps : List Step) (rest : List ℕ) : Type 0 where
  pub text : bytes ≡ text_of (map step_line steps) ++ rest
  pub each : All IsWritable steps

-- the bytes begin with the lines of logs
pub record BeginWithLogs (bytes : List ℕ) (logs : List (List Step)) (rest : List ℕ) : Type 0 where
  pub text : bytes ≡ text_of (log_lines 1 logs) ++ rest
  pub each : All IsWritableLog logs

-- fewer steps than wanted, and then a line that is none
pub record StopsInSteps (bytes : List ℕ) (count place : ℕ) : Type 0 where
  pub steps : List Step
  pub rest : List ℕ
  pub begins : BeginWithSteps bytes steps rest
  pub fewer : length steps < count
  pub place_is : place ≡ length steps
  pub next : NextIsNo IsStepLine rest

-- fewer logs than wanted, and then a line that begins no log
pub record StopsAtLog (bytes : List ℕ) (count place : ℕ) : Type 0 where
  pub logs : List (List Step)
  pub rest : List ℕ
  pub begins : BeginWithLogs bytes logs rest
  pub fewer : length logs < count
  pub place_is : place ≡ length (log_lines 1 logs)
  pub next : NextIsNo (IsLogLine (length logs + 1)) rest

-- fewer logs than wanted, the line of one more, and a stop in its steps
pub record StopsInLog (bytes : List ℕ) (count place : ℕ) : Type 0 where
  pub logs : List (List Step)
  pub steps : ℕ
  pub first : List ℕ
  pub rest : List ℕ
  pub begins : BeginWithLogs bytes logs first
  pub fewer : length logs < count
  pub few_steps : steps < 2 ^ 32
  pub line : first ≡ log_line (length logs + 1) steps ++ 10 ∷ rest
  pub inside : ℕ
  pub place_is : place ≡ length (log_lines 1 logs) + 1 + inside
  pub stops : StopsInSteps rest steps inside

-- a fault in the steps, the first of them on this line
abbrev pub StepsFault : List ℕ → ℕ → ℕ → ProofFault → Type 0
StepsFault bytes count first (Text line) =
    (place : ℕ) × (line ≡ first + place) × StopsInSteps bytes count place
StepsFault bytes count first OutOfMemory = Unit {0}

-- a fault in the logs, the first of them on line 3
abbrev pub LogsFault : List ℕ → ℕ → ProofFault → Type 0
LogsFault bytes count (Text line) =
    (place : ℕ) × (line ≡ 3 + place) × (StopsAtLog bytes count place ⊎ StopsInLog bytes count place)
LogsFault bytes count OutOfMemory = Unit {0}
