-- Runs in a drawn order: which processes run when, under an order number (this project's profile;
-- IEEE 1364-2005, clause 11 leaves the order of events at one time open).
use Rattle.std.specs.Prelude.{◌≡◌, ℕ, zero, suc, ◌+◌, ◌-◌, ◌*◌, ◌/◌, ◌%◌, ◌^◌, ◌<◌, ◌≤◌, Bool, ◌==◌}
use Rattle.std.specs.Prelude.{◌&&◌, nat_lt, if◌then◌else◌, IsTrue, IsFalse, List, [], ◌∷◌, length}
use Rattle.std.specs.Prelude.{map, reverse, swap, slice_get, slice_index_or, count_by, sum}
use Rattle.std.specs.List.{list_all, filter_map, range_with_len}
use Rattle.sv_system.specs.System.{Environment}
use Rattle.sv_system.specs.Schedules.{after_runs}
use Rattle.sv_flat.specs.Design.{ProcessForm, FlatDesign}
use Rattle.sv_flat.specs.FlatSystem.{flat_system, combinational_processes, clocked_processes}
use Rattle.sv_flat.specs.FlatSystem.{after_edge}

-- ---- schedules

-- a run of the combinational process with this number
abbrev pub numbered_run : FlatDesign → ℕ → Environment ℕ → Environment ℕ
numbered_run design k = slice_index_or (flat_system design).processes k (λ e. e)

-- the environment after the combinational processes with these numbers have run, one after the
-- other
abbrev pub after_schedule : FlatDesign → List ℕ → Environment ℕ → Environment ℕ
after_schedule design schedule environment =
    after_runs (map (numbered_run design) schedule) environment

-- no run of a combinational process would change a signal
abbrev pub is_quiet : FlatDesign → Environment ℕ → Bool
is_quiet design environment =
    let system = flat_system design in
    list_all (λ run. list_all (λ s. run environment s == environment s) system.signals)
    system.processes

-- ---- draws

-- the state that a draw makes of a state
abbrev pub next_state : ℕ → ℕ
next_state x = (x * 6364136223846793005 + 1442695040888963407) % 2 ^ 64

-- the number that a draw gives, from the state that it made
abbrev pub drawn : ℕ → ℕ
drawn x = x / 2 ^ 33

-- numbers of processes in the order in which they run, and the state that the draws have made
pub record Drawing : Type 0 where
  pub order : List ℕ
  pub state : ℕ

-- from entry i down to entry 1 each is exchanged with a drawn entry, which may be itself but is
-- none after it
abbrev pub shuffled : (i : ℕ) → Drawing → Drawing
shuffled zero drawing = drawing
shuffled (suc i) drawing =
    let x = next_state drawing.state in
    shuffled i (record { order = swap drawing.order (suc i) (drawn x % (suc i + 1)); state = x })

-- a round of n processes
abbrev pub round : (n : ℕ) → (state : ℕ) → Drawing
round n x = shuffled (n - 1) (record { order = range_with_len 0 n; state = x })

-- ---- rounds

abbrev pub process_count : FlatDesign → ℕ
process_count design = length (combinational_processes design)

-- the state after so many rounds
abbrev pub state_after : FlatDesign → (number : ℕ) → (rounds : ℕ) → ℕ
state_after design number zero = number
state_after design number (suc k) =
    (round (process_count design) (state_after design number k)).state

-- the environment after so many rounds
abbrev pub after_rounds : FlatDesign → (number : ℕ) → (rounds : ℕ) → Environment ℕ → Environment ℕ
after_rounds design number zero environment = environment
after_rounds design number (suc k) environment =
    after_schedule design (round (process_count design) (state_after design number k)).order
    (after_rounds design number k environment)

-- the rounds go on until the first after which the environment is quiet; at least one is run
pub record IsRoundCount (design : FlatDesign) (number : ℕ) (environment : Environment ℕ)
    (count : ℕ) : Type 0 where
  pub some : 1 ≤ count
  pub quiet : IsTrue (is_quiet design (after_rounds design number count environment))
  pub before : (k : ℕ) → 1 ≤ k → k < count →
      IsFalse (is_quiet design (after_rounds design number k environment))

-- ---- ticks

abbrev pub clocked_count : FlatDesign → ℕ
clocked_count design = length (clocked_processes design)

-- whether the list has the number of each clocked process once, and no other number
abbrev pub is_order : FlatDesign → List ℕ → Bool
is_order design order =
    list_all (λ k. nat_lt k (clocked_count design)) order
    && list_all (λ k. count_by (λ m. m == k) order == 1) (range_with_len 0 (clocked_count design))

-- the clocked processes with these numbers, in the order of the list
abbrev pub in_order : FlatDesign → List ℕ → List ProcessForm
in_order design order = filter_map (slice_get (clocked_processes design)) order

-- The environment after a tick by an order: the processes run on the environment as it stands, and
-- then all pending updates are made (IEEE 1364-2005, clause 11).
abbrev pub after_tick : FlatDesign → List ℕ → Environment ℕ → Environment ℕ
after_tick design order environment = after_edge design (in_order design order) environment

-- a cycle's order: ascending in even cycles, descending in odd ones
abbrev pub tick_order : FlatDesign → (cycle : ℕ) → List ℕ
tick_order design cycle =
    let ascending = range_with_len 0 (clocked_count design) in
    if cycle % 2 == 0 then ascending else reverse ascending

-- ---- ordered runs

-- the registers as given, and 0 for every other signal
abbrev pub starting : FlatDesign → (registers : Environment ℕ) → Environment ℕ
starting design registers s = if (flat_system design).is_register s then registers s else 0

-- the environment with new inputs
abbrev pub with_inputs : FlatDesign → (inputs environment : Environment ℕ) → Environment ℕ
with_inputs design inputs environment s =
    if (flat_system design).is_input s then inputs s else environment s

-- In each cycle the inputs are set, the rounds run under the order number plus the cycle's, and the
-- clocked processes run by the cycle's order; all other values stay. The environments are those
-- after the rounds.
abbrev pub IsOrderedRun : FlatDesign → (number cycle : ℕ) → (before : Environment ℕ)
    → (inputs environments : List (Environment ℕ)) → (counts : List ℕ) → Type 0
IsOrderedRun design number cycle before [] [] [] = Unit {0}
IsOrderedRun design number cycle before (i ∷ inputs) (e ∷ environments) (k ∷ counts) =
    let drawn_by = (number + cycle) % 2 ^ 64 in
    IsRoundCount design drawn_by (with_inputs design i before) k
    × ((s : ℕ) → e s ≡ after_rounds design drawn_by k (with_inputs design i before) s)
    × IsOrderedRun design number (cycle + 1) (after_tick design (tick_order design cycle) e) inputs
    environments counts
IsOrderedRun design number cycle before _ _ _ = ⊥

-- The ordered run of a design from its starting registers, with every other signal 0 and the cycles
-- numbered from 0: the counts of its rounds, one for each cycle, and their sum, which is 0 without
-- cycles.
pub record OrderedRun (design : FlatDesign) (number : ℕ) (registers : Environment ℕ)
    (inputs environments : List (Environment ℕ)) (rounds : ℕ) : Type 0 where
  pub counts : List ℕ
  pub runs : IsOrderedRun design number 0 (starting design registers) inputs environments counts
  pub summed : rounds ≡ sum counts
