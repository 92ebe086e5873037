-- What `verify` answers for an admitted design and the bytes of a certificate, and what it prints.
use Rattle.std.specs.Prelude.{◌≡◌, ℕ, ◌+◌, ◌≤◌, List, [], ◌∷◌, None, length, decimal}
use Rattle.sv_flat.specs.Design.{FlatDesign}
use Rattle.sv_io.specs.Exchange.{Exchange, fetched, whole, too_long}
use Rattle.sv_obl.specs.Asked.{asked}
use Rattle.sv_paths.specs.Limits.{excess}
use Rattle.sv_judge.specs.Certified.{IsVerified, IsFaultLine, IsTooLargeToVerify}
use Rattle.sv_report.specs.Text.{accepted_text, fault_text}
use Rattle.sv_report.specs.declared.styles.Style.TheVariants.{Lines}
use Rattle.sv_cli.specs.Answer.{Answer, done, wrong_proof}
use Rattle.sv_cli.specs.Limits.{TellsLimit, ExceedsLimit}

-- the bytes of the largest certificate
abbrev pub largest_proof : ℕ
largest_proof = 268435456

-- every log refutes the encoding of its obligation
pub record Accepts (design : FlatDesign) (bytes : List ℕ) (answer : Answer) (printed : List ℕ)
    : Type 0 where
  pub verified : IsVerified design bytes
  pub answers : answer ≡ done
  pub prints : printed ≡ accepted_text (length (asked design))

-- this line of the certificate is the first at fault
pub record Refuses (design : FlatDesign) (bytes : List ℕ) (answer : Answer) (printed : List ℕ)
    : Type 0 where
  pub line : ℕ
  pub faulty : IsFaultLine design bytes line
  pub answers : answer ≡ wrong_proof line
  pub prints : printed ≡ fault_text line

-- the encoding of an obligation is too large, and no log before fails
pub record IsTooLarge (design : FlatDesign) (bytes : List ℕ) (answer : Answer) (printed : List ℕ)
    : Type 0 where
  pub number : ℕ
  pub large : IsTooLargeToVerify design bytes number
  pub tells : TellsLimit Lines 709 (decimal number ∷ []) answer printed

-- what is answered for the bytes of a certificate within the limit
pub data Judges (design : FlatDesign) (bytes : List ℕ) (answer : Answer) (printed : List ℕ) : Type 0
  where
    accepts : Accepts design bytes answer printed → Judges design bytes answer printed
    refuses : Refuses design bytes answer printed → Judges design bytes answer printed
    too_large : IsTooLarge design bytes answer printed → Judges design bytes answer printed

-- a fetch of PROOF handed out more bytes than a certificate may have
pub record IsOversized (proof : List ℕ) (exchanges : List Exchange) (answer : Answer)
    (printed : List ℕ) : Type 0 where
  pub bytes : List ℕ
  pub long : length bytes ≡ largest_proof + 1
  pub fetches : exchanges ≡ fetched proof (too_long bytes) ∷ []
  pub tells : TellsLimit Lines 710 [] answer printed

-- it handed out a certificate within the limit
pub record JudgesProof (proof : List ℕ) (design : FlatDesign) (exchanges : List Exchange)
    (answer : Answer) (printed : List ℕ) : Type 0 where
  pub bytes : List ℕ
  pub within : length bytes ≤ largest_proof
  pub fetches : exchanges ≡ fetched proof (whole bytes) ∷ []
  pub judges : Judges design bytes answer printed

-- what is answered of any design
pub data Verifies (proof : List ℕ) (design : FlatDesign) (exchanges : List Exchange)
    (answer : Answer) (printed : List ℕ) : Type 0 where
  exceeds : exchanges ≡ [] → ExceedsLimit Lines design answer printed
      → Verifies proof design exchanges answer printed
  oversized : excess design ≡ None → IsOversized proof exchanges answer printed
      → Verifies proof design exchanges answer printed
  judges : excess design ≡ None → JudgesProof proof design exchanges answer printed
      → Verifies proof design exchanges answer printed
