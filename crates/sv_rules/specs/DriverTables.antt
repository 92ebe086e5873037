-- Private: how the code goes. The first two processes that assign each signal.
use Rattle.std.specs.Prelude.{◌≡◌, ℕ, ◌+◌, ◌<◌, Bool, List, [], ◌∷◌, ◌++◌, length, map, slice_get}
use Rattle.std.specs.Prelude.{slice_index_or, Option, Some, None, ◌==◌, ◌||◌, All, IsTrue, not}
use Rattle.std.specs.Prelude.{filter, if◌then◌else◌}
use Rattle.sv_flat.specs.Design.{SignalForm, PieceForm, FlatStatement, ProcessForm, FlatDesign}
use Rattle.sv_flat.specs.Soundness.{statement_sound}
use Rattle.std.specs.List.{list_any}
use Rattle.sv_flat.specs.Assigned.{assigns}
use Rattle.sv_flat.specs.Processes.{signal_numbers}
use Rattle.sv_flat.specs.Clocks.{is_clock, is_clock_link, processes_of}
use Rattle.sv_rules.specs.declared.drivers.Driver.{Driver}
use Rattle.sv_rules.specs.declared.drivers.Drivers.{Drivers}

-- the number and the place of a process
abbrev pub driver_at : ℕ → ProcessForm → Driver
driver_at k p = record { process = k; place = p.place }

-- those of the processes that assign a signal, where the first has the number k
abbrev pub entries : (k : ℕ) → List ProcessForm → (signal : ℕ) → List Driver
entries k [] s = []
entries k (p ∷ ps) s =
    if assigns p.body s then driver_at k p ∷ entries (k + 1) ps s else entries (k + 1) ps s

-- some drivers of a signal, and one more where it is assigned
abbrev pub and_one : Driver → Bool → List Driver → List Driver
and_one driver assigned drivers = drivers ++ (if assigned then driver ∷ [] else [])

-- what the tables have at a signal
abbrev pub first_at : Drivers → ℕ → Option Driver
first_at drivers s = slice_index_or drivers.first.items s None

abbrev pub second_at : Drivers → ℕ → Option Driver
second_at drivers s = slice_index_or drivers.second.items s None

-- the tables have the first two drivers of each of n signals
pub record AreDrivers (n : ℕ) (drivers : Drivers) (of : ℕ → List Driver) : Type 0 where
  pub first_size : length drivers.first.items ≡ n
  pub second_size : length drivers.second.items ≡ n
  pub first_is : (s : ℕ) → s < n → first_at drivers s ≡ slice_get (of s) 0
  pub second_is : (s : ℕ) → s < n → second_at drivers s ≡ slice_get (of s) 1

-- all have numbers below k
abbrev pub AreBelow : ℕ → List Driver → Type 0
AreBelow k [] = Unit {0}
AreBelow k (d ∷ ds) = (d.process < k) × AreBelow k ds

-- the table says which signals are clocks
abbrev pub AreClocks : FlatDesign → List Bool → Type 0
AreClocks design clocks = clocks ≡ map (is_clock design) (signal_numbers design)

-- the tables are those of a design's processes
abbrev pub AreDriversOf : FlatDesign → Drivers → Type 0
AreDriversOf design drivers =
    AreDrivers (length design.signals) drivers (entries 0 (processes_of design))

-- the first two drivers of a signal once it has this one too
abbrev pub noted : Option Driver → Option Driver → Driver → Option Driver × Option Driver
noted None second driver = (Some driver, second)
noted (Some first) None driver =
    (Some first, if first.process == driver.process then None else Some driver)
noted (Some first) (Some second) driver = (Some first, Some second)

-- each piece is one of n signals
abbrev pub AreTargets : ℕ → List PieceForm → Type 0
AreTargets n pieces = All (λ (p : PieceForm). p.signal < n) pieces

-- some piece is one of the signal
abbrev pub assigned_in : List PieceForm → ℕ → Bool
assigned_in pieces s = list_any (λ (p : PieceForm). p.signal == s) pieces

-- a statement is sound over n signals
abbrev pub IsSoundOver : ℕ → FlatStatement → Type 0
IsSoundOver n body =
    (signals : List SignalForm) × (length signals ≡ n) × IsTrue (statement_sound signals body)

-- Where the tables have some drivers of each signal, all of lower numbers, and one more of the
-- signals in a set, they then have that one of the signals in a greater set.
abbrev pub Notes : ℕ → Driver → (old new : Drivers) → (more : ℕ → Bool) → Type 0
Notes n driver old new more =
    (of : ℕ → List Driver) (a : ℕ → Bool) → ((s : ℕ) → AreBelow driver.process (of s))
    → AreDrivers n old (λ s. and_one driver (a s) (of s))
    → AreDrivers n new (λ s. and_one driver (a s || more s) (of s))

-- of some processes those that are no links to clocks
abbrev pub kept_of : FlatDesign → List ProcessForm → List ProcessForm
kept_of design ps = filter (λ p. not (is_clock_link design p)) ps
