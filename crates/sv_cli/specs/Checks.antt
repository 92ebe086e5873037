-- What `check` answers for an admitted design, what it prints, and what it stores. Which valuation
-- falsifies an obligation, and whether a budget is spent, is free.
use Rattle.std.specs.Prelude.{◌≡◌, ℕ, Bool, true, List, [], ◌∷◌, All, Option, Some, None}
use Rattle.std.specs.Prelude.{decimal}
use Rattle.sv_clause.specs.Logs.{Step}
use Rattle.sv_flat.specs.Design.{FlatDesign}
use Rattle.sv_io.specs.Exchange.{Exchange, stored}
use Rattle.sv_obl.specs.Asked.{asked}
use Rattle.sv_paths.specs.Limits.{excess}
use Rattle.sv_obl.specs.Obligations.{obligations}
use Rattle.sv_obl.specs.declared.valuations.Valuation.{Valuation}
use Rattle.sv_proof.specs.Certificate.{AreLogs, proof_text}
use Rattle.sv_encoding.specs.Deciding.{Fits}
use Rattle.sv_judge.specs.Verdicts.{IsAccepted, AreRefutations, AreWithin, IsFalsified}
use Rattle.sv_judge.specs.Verdicts.{EndsTooLarge, IsSpent}
use Rattle.sv_report.specs.Styles.{accepted_in, unknown_in, IsFlowTextIn}
use Rattle.sv_report.specs.declared.styles.Style.{Style}
use Rattle.sv_cli.specs.Answer.{Answer, done, falsified, undecided}
use Rattle.sv_cli.specs.Limits.{TellsLimit, ExceedsLimit}

-- the bytes are the certificate of logs, one for each obligation in order, which refute within the
-- budget; no encoding is too large
pub record IsCertificate (design : FlatDesign) (budget : ℕ) (bytes : List ℕ) : Type 0 where
  pub logs : List (List Step)
  pub fit : All (Fits design) (asked design)
  pub refute : AreRefutations design logs
  pub within : AreWithin budget logs
  pub are_logs : AreLogs logs
  pub text : bytes ≡ proof_text logs

-- the certificate is stored under the name, where one is asked for
abbrev pub StoresProof : (name : Option (List ℕ)) → FlatDesign → (budget : ℕ) → List Exchange →
    Type 0
StoresProof None design budget exchanges = exchanges ≡ []
StoresProof (Some name) design budget exchanges =
    (bytes : List ℕ) × IsCertificate design budget bytes
    × (exchanges ≡ stored name bytes true ∷ [])

-- the certificate may be stored under the name, if one is asked for, or the store may fail
abbrev pub MayStore : (name : Option (List ℕ)) → FlatDesign → (budget : ℕ) → List Exchange →
    Type 0
MayStore None design budget exchanges = ⊥
MayStore (Some name) design budget exchanges =
    (bytes : List ℕ) × (is_done : Bool) × IsCertificate design budget bytes
    × (exchanges ≡ stored name bytes is_done ∷ [])

-- every obligation is refuted within the budget
pub record Accepts (style : Style) (design : FlatDesign) (budget : ℕ) (answer : Answer)
    (printed : List ℕ) : Type 0 where
  pub count : ℕ
  pub accepted : IsAccepted design budget count
  pub answers : answer ≡ done
  pub prints : printed ≡ accepted_in style count

-- one is falsified
pub record Falsifies (style : Style) (design : FlatDesign) (budget : ℕ) (answer : Answer)
    (printed : List ℕ) : Type 0 where
  pub number : ℕ
  pub valuation : Valuation
  pub falsifies : IsFalsified design budget number valuation
  pub answers : answer ≡ falsified number valuation
  pub prints : IsFlowTextIn style design number falsifies.obligation valuation printed

-- one is too large to encode
pub record IsTooLarge (style : Style) (design : FlatDesign) (budget : ℕ) (answer : Answer)
    (printed : List ℕ) : Type 0 where
  pub number : ℕ
  pub large : EndsTooLarge design budget number
  pub tells : TellsLimit style 709 (decimal number ∷ []) answer printed

-- none is, and the budget is spent on some
pub record Spends (style : Style) (design : FlatDesign) (budget : ℕ) (answer : Answer)
    (printed : List ℕ) : Type 0 where
  pub number : ℕ
  pub steps : List Step
  pub spent : IsSpent design budget number steps
  pub answers : answer ≡ undecided number steps
  pub prints : printed ≡ unknown_in style number budget

-- what is answered of a design that exceeds no limit on obligations
pub data Decides (style : Style) (proof : Option (List ℕ)) (budget : ℕ) (design : FlatDesign)
    (exchanges : List Exchange) (answer : Answer) (printed : List ℕ) : Type 0 where
  accepts : StoresProof proof design budget exchanges
      → Accepts style design budget answer printed
      → Decides style proof budget design exchanges answer printed
  falsifies : exchanges ≡ [] → Falsifies style design budget answer printed
      → Decides style proof budget design exchanges answer printed
  too_large : exchanges ≡ [] → IsTooLarge style design budget answer printed
      → Decides style proof budget design exchanges answer printed
  spends : exchanges ≡ [] → Spends style design budget answer printed
      → Decides style proof budget design exchanges answer printed

-- what is answered of any
pub data Checks (style : Style) (proof : Option (List ℕ)) (budget : ℕ) (design : FlatDesign)
    (exchanges : List Exchange) (answer : Answer) (printed : List ℕ) : Type 0 where
  exceeds : exchanges ≡ [] → ExceedsLimit style design answer printed
      → Checks style proof budget design exchanges answer printed
  decides : excess design ≡ None → Decides style proof budget design exchanges answer printed
      → Checks style proof budget design exchanges answer printed
