-- Which line first breaks the text of a certificate.
use Rattle.std.specs.Prelude.{◌≡◌, ◌≢◌, ℕ, ◌+◌, List, [], ◌∷◌, ◌++◌, length}
use Rattle.std.specs.List.{AllByRecursion}
use Rattle.sv_clause.specs.Logs.{Step}
use Rattle.sv_proof.specs.Certificate.{text_of, proof_lines, proof_text, AreLogs}
use Rattle.sv_proof.specs.declared.read.ProofFault.{ProofFault}
use Rattle.sv_proof.specs.declared.read.ProofFault.TheVariants.{Text, OutOfMemory}

-- a byte does not stand in bytes
abbrev pub Lacks : ℕ → List ℕ → Type 0
Lacks byte bytes = AllByRecursion (λ other. other ≢ byte) bytes

-- some certificate begins with these lines
abbrev pub BeginCertificate : List (List ℕ) → Type 0
BeginCertificate lines =
    (logs : List (List Step)) × (more : List (List ℕ)) × AreLogs logs
    × (proof_lines logs ≡ lines ++ more)

-- line n, counted from 1, is the first that breaks the text: the lines before it begin a
-- certificate, and with it they begin none; or it is missing or has no line feed, and the bytes are
-- no certificate
pub record IsFirstBroken (bytes : List ℕ) (n : ℕ) : Type 0 where
  pub lines : List (List ℕ)
  pub rest : List ℕ
  pub parts : bytes ≡ text_of lines ++ rest
  pub each : AllByRecursion (Lacks 10) lines
  pub number : n ≡ length lines + 1
  pub begins : BeginCertificate lines
  pub breaks : (line more : List ℕ) → Lacks 10 line → rest ≡ line ++ 10 ∷ more →
      BeginCertificate (lines ++ line ∷ []) → ⊥
  pub incomplete : (logs : List (List Step)) → AreLogs logs → bytes ≡ proof_text logs → ⊥

-- the fault of bytes that are no certificate; want of memory says nothing
abbrev pub IsFault : List ℕ → ProofFault → Type 0
IsFault bytes (Text n) = IsFirstBroken bytes n
IsFault bytes OutOfMemory = Unit {0}
