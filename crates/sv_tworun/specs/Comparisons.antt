-- What the comparison of two runs finds, said of their traces: of any system, whatever its signals
-- are named by.
use Rattle.std.specs.Prelude.{◌≡◌, ◌↔◌, ℕ, ◌==◌, min, Bool, ◌&&◌, ◌||◌, List, ◌∷◌, ◌++◌, map}
use Rattle.std.specs.Prelude.{take, length, slice_get, Some, All, Contains}
use Rattle.sv_system.specs.System.{System, Environment, seen, view}
use Rattle.sv_lattice.specs.declared.points.Point.{Point}
use Rattle.sv_flat.specs.Design.{FlatDesign}
use Rattle.sv_flat.specs.FlatSystem.{flat_system}
use Rattle.sv_tworun.specs.declared.compared.Compared.{Compared}
use Rattle.sv_tworun.specs.Forms.{Run, IsTraceOf, Finding, equal, inputs_differ, views_differ}
use Rattle.sv_tworun.specs.Forms.{lengths_differ, finding}

-- the signal stands in neither view, or in both with one value
abbrev pub SaySame : {Signal : Type 0} → (one other : List (Signal × ℕ)) → Signal → Type 0
SaySame one other s = (value : ℕ) → Contains one (s, value) ↔ Contains other (s, value)

-- the first of the listed signals that stands in one view only or has two values in them
pub record IsFirstApart {Signal : Type 0} (listed : List Signal) (one other : List (Signal × ℕ))
    (s : Signal) : Type 0 where
  -- the listed signals before it and behind it
  pub front : List Signal
  pub rest : List Signal
  pub stands : listed ≡ front ++ s ∷ rest
  pub apart : ¬ SaySame one other s
  pub before : All (SaySame one other) front

-- the signals whose values are given in a cycle: the inputs, and in the first cycle the registers
abbrev pub is_given : {Signal Point : Type 0} → System Signal Point → (cycle : ℕ) →
    (signal : Signal) → Bool
is_given system cycle s = system.is_input s || (cycle == 0) && system.is_register s

-- of what is given, the level sees two things in the environments of the cycle, and this signal
-- tells them apart first, in the order of the system
abbrev pub InputsApart : {Signal Point : Type 0} → System Signal Point → (level : Point) →
    (cycle : ℕ) → (signal : Signal) → Environment Signal → Environment Signal → Type 0
InputsApart system level cycle s e f =
    IsFirstApart system.signals (seen (is_given system cycle) system level e)
    (seen (is_given system cycle) system level f) s

-- what is given looks alike, the whole views do not, and this signal tells them apart first
pub record ViewsApart {Signal Point : Type 0} (system : System Signal Point) (level : Point)
    (cycle : ℕ) (signal : Signal) (e f : Environment Signal) : Type 0 where
  pub alike : seen (is_given system cycle) system level e ≡
      seen (is_given system cycle) system level f
  pub first : IsFirstApart system.signals (view system level e) (view system level f) signal

-- the level's views of so many first cycles are equal
abbrev pub SameViews : {Signal Point : Type 0} → System Signal Point → (level : Point) →
    (cycles : ℕ) → (first second : List (Environment Signal)) → Type 0
SameViews system level cycles first second =
    map (view system level) (take cycles first) ≡ map (view system level) (take cycles second)

-- both traces have the cycle, and P holds of its environments
pub record AtCycle {Signal : Type 0} (cycle : ℕ) (first second : List (Environment Signal))
    (P : Environment Signal → Environment Signal → Type 0) : Type 0 where
  pub one : Environment Signal
  pub other : Environment Signal
  pub in_first : slice_get first cycle ≡ Some one
  pub in_second : slice_get second cycle ≡ Some other
  pub holds : P one other

-- what the comparison of two traces finds at a level
abbrev pub IsFound : {Signal Point : Type 0} → System Signal Point → (level : Point) →
    (first second : List (Environment Signal)) → Finding Signal → Type 0
IsFound system level first second (equal cycles) =
    (length first ≡ cycles) × (length second ≡ cycles)
    × SameViews system level cycles first second
IsFound system level first second (inputs_differ cycle signal) =
    SameViews system level cycle first second
    × AtCycle cycle first second (InputsApart system level cycle signal)
IsFound system level first second (views_differ cycle signal) =
    SameViews system level cycle first second
    × AtCycle cycle first second (ViewsApart system level cycle signal)
IsFound system level first second (lengths_differ cycles) =
    ¬ (length first ≡ length second) × (cycles ≡ min (length first) (length second))
    × SameViews system level cycles first second

-- both runs of the design have traces, and it is what the comparison of these finds
pub record IsComparison (design : FlatDesign) (level : Point) (first second : Run)
    (found : Compared) : Type 0 where
  pub one : List (Environment ℕ)
  pub other : List (Environment ℕ)
  pub of_first : IsTraceOf design first one
  pub of_second : IsTraceOf design second other
  pub finds : IsFound (flat_system design) level one other (finding found)

-- it does not find that what is given looks alike and the views do not
abbrev pub FindsNoLeak : {Signal : Type 0} → Finding Signal → Type 0
FindsNoLeak (views_differ cycle signal) = ⊥
FindsNoLeak _ = Unit {0}
