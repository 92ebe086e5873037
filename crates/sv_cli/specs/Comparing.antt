-- Private: how the code goes; the meaning stands in `Compares`. What `compare` comes to for a flat
-- design, as the code holds it.
use Rattle.std.specs.Prelude.{◌≡◌, ℕ, ◌<◌, ◌⊎◌, ◌∷◌, IsTrue, List, [], Bool, Some, IfSome, position}
use Rattle.std.specs.Option.{is_some}
use Rattle.std.specs.Str.{bytes_eq}
use Rattle.sv_lattice.specs.declared.points.Point.{Point}
use Rattle.sv_flat.specs.Design.{FlatDesign}
use Rattle.sv_io.specs.Exchange.{Exchange, Fetched, fetched, whole}
use Rattle.sv_trace.specs.Forms.{form_of, name_in}
use Rattle.sv_tworun.specs.Forms.{Finding}
use Rattle.sv_compare.specs.ComparedTexts.{IsDesignCompared, signal_told}
use Rattle.sv_cli.specs.Answer.{Answer}
use Rattle.sv_cli.specs.Compares.{TellsOfBoth, TellsFinding, IsFirstOversized, IsSecondOversized}
use Rattle.sv_cli.specs.Compares.{ComparesFetched, ComparesFiles}
use Rattle.sv_cli.specs.Dialogues.{MayFetchBoth}

-- the signal that is told is one of so many
abbrev pub HasSignal : (count : ℕ) → Finding ℕ → Type 0
HasSignal count found = IfSome (signal_told found) (λ s. s < count)

-- the runs of the design are compared at a point, and what is found is told
abbrev pub FindsAt : FlatDesign → Point → TellsOfBoth
FindsAt design level first second answer printed =
    TellsFinding (λ (s : ℕ). s) (name_in design.signals)
    (IsDesignCompared design level first second) answer printed

-- what is answered at a point, by the fetches of A and B
abbrev pub ComparesAt : (a b : List ℕ) → FlatDesign → Point → List Exchange → Answer →
    (printed : List ℕ) → Type 0
ComparesAt a b design level exchanges answer printed =
    IsFirstOversized a exchanges answer printed
    ⊎ (IsSecondOversized a b exchanges answer printed
    ⊎ ComparesFetched a b (form_of design) (FindsAt design level) exchanges answer printed)

-- the same once the first stimulus is fetched, by the fetch of B
abbrev pub ComparesSecond : (first a b : List ℕ) → FlatDesign → Point → List Exchange → Answer →
    (printed : List ℕ) → Type 0
ComparesSecond first a b design level exchanges answer printed =
    ComparesAt a b design level (fetched a (whole first) ∷ exchanges) answer printed

-- B may be fetched
abbrev pub MayFetchSecond : (b : List ℕ) → List Exchange → Type 0
MayFetchSecond b exchanges = (exchanges ≡ []) ⊎ ((got : Fetched) × (exchanges ≡ fetched b got ∷ []))

-- whether a point of the design has this name
abbrev pub has_point : FlatDesign → (level : List ℕ) → Bool
has_point design level = is_some (position (λ point. bytes_eq point level) design.points)

-- at the point of this name
pub record FindsFlat (design : FlatDesign) (level first second : List ℕ) (answer : Answer)
    (printed : List ℕ) : Type 0 where
  pub point : Point
  pub named : position (λ name. bytes_eq name level) design.points ≡ Some point.0
  pub finds : FindsAt design point first second answer printed

-- what `compare` comes to for a design
abbrev pub ComparesDesign : (a b level : List ℕ) → FlatDesign → List Exchange → Answer →
    (printed : List ℕ) → Type 0
ComparesDesign a b level design exchanges answer printed =
    ComparesFiles a b (has_point design level) (form_of design) (FindsFlat design level) exchanges
    answer printed

-- nothing is fetched, or A, and B
abbrev pub MayFetchStimuli : (a b level : List ℕ) → FlatDesign → List Exchange → Type 0
MayFetchStimuli a b level design exchanges =
    (exchanges ≡ []) ⊎ (IsTrue (has_point design level) × MayFetchBoth a b exchanges)
