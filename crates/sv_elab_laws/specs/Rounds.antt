-- Ordered runs of a text's own processes: the draws are those of ordered runs of a flat design,
-- each process of the text at its place (this project's profile; IEEE 1364-2005, clause 11 leaves
-- the order of events at one time open).
use Rattle.std.specs.Prelude.{◌≡◌, ℕ, zero, suc, ◌+◌, ◌%◌, ◌^◌, ◌<◌, ◌≤◌, Bool, ◌==◌, IsTrue}
use Rattle.std.specs.Prelude.{IsFalse, if◌then◌else◌, List, [], ◌∷◌, length, filter, flat_map}
use Rattle.std.specs.Prelude.{reverse, sum, slice_get, Option, ◌↔◌}
use Rattle.std.specs.List.{list_all, filter_map, range_with_len, AllZip}
use Rattle.sv_system.specs.System.{System, Environment, last_update, KindFits}
use Rattle.sv_system.specs.Schedules.{after_runs, runs_at}
use Rattle.sv_ast.specs.Parts.{Path, same_path}
use Rattle.sv_ast.specs.Processes.{Process, processes, updates_of}
use Rattle.sv_ast.specs.TextSystem.{text_clocks, without_clocks, text_system}
use Rattle.sv_ast.specs.Tree.{TextTree}
use Rattle.sv_flat.specs.Design.{FlatDesign}
use Rattle.sv_flat.specs.FlatSystem.{flat_system}
use Rattle.sv_flat.specs.Schedules.{round, OrderedRun}
use Rattle.sv_elab_laws.specs.SideBySide.{runs_at_edge, text_signals, path_at}

-- ---- rounds

-- no run of a process would change a signal
abbrev pub is_quiet_in : {Signal Point : Type 0} → System Signal Point → Environment Signal → Bool
is_quiet_in system environment =
    list_all (λ run. list_all (λ s. run environment s == environment s) system.signals)
    system.processes

-- the state of the draws after so many rounds of n processes
abbrev pub drawn_after : (n number rounds : ℕ) → ℕ
drawn_after n number zero = number
drawn_after n number (suc k) = (round n (drawn_after n number k)).state

-- the environment after so many rounds
abbrev pub after_rounds_in : {Signal Point : Type 0} → System Signal Point → (number rounds : ℕ)
    → Environment Signal → Environment Signal
after_rounds_in system number zero environment = environment
after_rounds_in system number (suc k) environment =
    let n = length system.processes in
    after_runs (runs_at system (round n (drawn_after n number k)).order)
    (after_rounds_in system number k environment)

-- the rounds go on until the first after which the environment is quiet; at least one is run
pub record IsRoundCountIn {Signal Point : Type 0} (system : System Signal Point) (number : ℕ)
    (environment : Environment Signal) (count : ℕ) : Type 0 where
  pub some : 1 ≤ count
  pub quiet : IsTrue (is_quiet_in system (after_rounds_in system number count environment))
  pub before : (k : ℕ) → 1 ≤ k → k < count →
      IsFalse (is_quiet_in system (after_rounds_in system number k environment))

-- ---- ticks

-- the clocked processes of a text, in order
abbrev pub clocked_in : TextTree → (asked : Option (List ℕ)) → List Process
clocked_in text asked = filter runs_at_edge (processes text asked)

-- the environment after a tick in which the clocked processes run in the order of these numbers
abbrev pub after_text_tick : TextTree → (asked : Option (List ℕ)) → List ℕ → Environment Path
    → Environment Path
after_text_tick text asked order environment x = last_update same_path x (environment x)
    (flat_map (updates_of (without_clocks (text_clocks text asked) environment))
    (filter_map (slice_get (clocked_in text asked)) order))

-- a cycle's order of n clocked processes: ascending in even cycles, descending in odd ones
abbrev pub tick_numbers : (n cycle : ℕ) → List ℕ
tick_numbers n cycle =
    if cycle % 2 == 0 then range_with_len 0 n else reverse (range_with_len 0 n)

-- ---- ordered runs

-- the environment with new inputs
abbrev pub inputs_put : {Signal Point : Type 0} → System Signal Point
    → (inputs environment : Environment Signal) → Environment Signal
inputs_put system inputs environment s =
    if system.is_input s then inputs s else environment s

-- the registers as given, and 0 for every other signal
abbrev pub registers_put : {Signal Point : Type 0} → System Signal Point
    → (registers : Environment Signal) → Environment Signal
registers_put system registers s = if system.is_register s then registers s else 0

-- In each cycle the inputs are set, the rounds run under the order number plus the cycle's, and the
-- clocked processes run by the cycle's order; all other values stay.
abbrev pub IsTextOrderedRun : TextTree → (asked : Option (List ℕ)) → (number cycle : ℕ)
    → (before : Environment Path) → (inputs : List (Environment Path)) → (counts : List ℕ)
    → Type 0
IsTextOrderedRun text asked number cycle before [] [] = Unit {0}
IsTextOrderedRun text asked number cycle before (i ∷ inputs) (k ∷ counts) =
    let system = text_system text asked in
    let drawn_by = (number + cycle) % 2 ^ 64 in
    let start = inputs_put system i before in
    IsRoundCountIn system drawn_by start k
    × IsTextOrderedRun text asked number (cycle + 1)
    (after_text_tick text asked (tick_numbers (length (clocked_in text asked)) cycle)
    (after_rounds_in system drawn_by k start)) inputs counts
IsTextOrderedRun text asked number cycle before _ _ = ⊥

-- the ordered run of a text from its starting registers, over these inputs: the counts of its
-- rounds, one for each cycle, and their sum
pub record TextRounds (text : TextTree) (asked : Option (List ℕ)) (number : ℕ)
    (registers : Environment Path) (inputs : List (Environment Path)) (rounds : ℕ) : Type 0 where
  pub counts : List ℕ
  pub runs : IsTextOrderedRun text asked number 0
      (registers_put (text_system text asked) registers) inputs counts
  pub summed : rounds ≡ sum counts

-- ---- values given to both

-- values given to the signals of one kind are the same under both names, and fit
pub record SameGiven {Signal Point Other : Type 0} (first : System Signal Point)
    (to : Signal → Other) (kind : Signal → Bool) (values : Environment Signal)
    (others : Environment Other) : Type 0 where
  pub same : (s : Signal) → IsTrue (kind s) → values s ≡ others (to s)
  pub fits : KindFits kind first values

-- the ordered runs of a flat design take the rounds that those of the text take, whose signals go
-- by these other names
abbrev pub RoundsBy : TextTree → (asked : Option (List ℕ)) → FlatDesign → (to : ℕ → Path) → Type 0
RoundsBy text asked design to =
    (number rounds : ℕ) (registers : Environment ℕ) (others : Environment Path)
    (inputs : List (Environment ℕ)) (other_inputs : List (Environment Path))
    → SameGiven (flat_system design) to (flat_system design).is_register registers others
    → AllZip (SameGiven (flat_system design) to (flat_system design).is_input) inputs other_inputs
    → ((environments : List (Environment ℕ))
    × OrderedRun design number registers inputs environments rounds)
    ↔ TextRounds text asked number others other_inputs rounds

-- by their paths
abbrev pub RoundsAreOfText : TextTree → (asked : Option (List ℕ)) → FlatDesign → Type 0
RoundsAreOfText text asked design = RoundsBy text asked design (path_at (text_signals text asked))
