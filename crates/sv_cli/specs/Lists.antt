-- What `list` and `cnf` answer for an admitted design, and what they print.
use Rattle.std.specs.Prelude.{◌≡◌, ℕ, zero, suc, List, [], ◌∷◌, Option, Some, None}
use Rattle.std.specs.Prelude.{slice_get, decimal}
use Rattle.sv_flat.specs.Design.{FlatDesign}
use Rattle.sv_obl.specs.Asked.{asked}
use Rattle.sv_paths.specs.Limits.{excess}
use Rattle.sv_paths.specs.ListLines.{list_text}
use Rattle.sv_obl.specs.Obligations.{Obligation, obligations}
use Rattle.sv_encoding.specs.CnfText.{cnf_text}
use Rattle.sv_encoding.specs.Deciding.{Fits, IsTooLarge}
use Rattle.sv_encoding.specs.Encoding.{encoding}
use Rattle.sv_report.specs.declared.styles.Style.TheVariants.{Lines}
use Rattle.sv_cli.specs.Answer.{Answer, done}
use Rattle.sv_cli.specs.Limits.{TellsLimit, ExceedsLimit}

-- ---- lists of obligations

-- each obligation has its line, in order
pub record IsListed (design : FlatDesign) (answer : Answer) (printed : List ℕ) : Type 0 where
  pub few : excess design ≡ None
  pub answers : answer ≡ done
  pub prints : printed ≡ list_text design

pub data Lists (design : FlatDesign) (answer : Answer) (printed : List ℕ) : Type 0 where
  exceeds : ExceedsLimit Lines design answer printed → Lists design answer printed
  listed : IsListed design answer printed → Lists design answer printed

-- ---- the clauses of one obligation

-- the obligation of a design that has this number; they are numbered from 1
abbrev pub obligation_at : FlatDesign → (number : ℕ) → Option Obligation
obligation_at design zero = None
obligation_at design (suc before) = slice_get (asked design) before

-- the obligation of the number that is asked for is encoded with no more variables than may be:
-- what is printed is its clauses
pub record IsEncoded (asked : ℕ) (design : FlatDesign) (answer : Answer) (printed : List ℕ)
    : Type 0 where
  pub few : excess design ≡ None
  pub obligation : Obligation
  pub found : obligation_at design asked ≡ Some obligation
  pub fits : Fits design obligation
  pub answers : answer ≡ done
  pub prints : printed ≡ cnf_text (encoding design obligation)

-- no obligation has the number
pub record LacksObligation (asked : ℕ) (design : FlatDesign) (answer : Answer) (printed : List ℕ)
    : Type 0 where
  pub few : excess design ≡ None
  pub none : obligation_at design asked ≡ None
  pub tells : TellsLimit Lines 706 [] answer printed

-- one has, but its encoding takes more variables than may be; it is named by its number
pub record ExceedsVariables (asked : ℕ) (design : FlatDesign) (answer : Answer) (printed : List ℕ)
    : Type 0 where
  pub few : excess design ≡ None
  pub obligation : Obligation
  pub found : obligation_at design asked ≡ Some obligation
  pub large : IsTooLarge design obligation
  pub tells : TellsLimit Lines 709 (decimal asked ∷ []) answer printed

pub data Encodes (asked : ℕ) (design : FlatDesign) (answer : Answer) (printed : List ℕ) : Type 0
  where
    exceeds : ExceedsLimit Lines design answer printed → Encodes asked design answer printed
    lacks : LacksObligation asked design answer printed → Encodes asked design answer printed
    too_large : ExceedsVariables asked design answer printed → Encodes asked design answer printed
    encoded : IsEncoded asked design answer printed → Encodes asked design answer printed
