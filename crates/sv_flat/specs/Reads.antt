-- The signals read for a signal, and the depth at which it stands (this project's profile).
use Rattle.std.specs.Prelude.{ℕ, ◌+◌, zero, suc, max, Bool, ◌==◌, ◌&&◌, ◌||◌, not, if◌then◌else◌}
use Rattle.std.specs.Prelude.{List, [], ◌∷◌, length, map, flat_map, fold, replicate, slice_index}
use Rattle.std.specs.List.{list_any, range_with_len}
use Rattle.sv_flat.specs.Design.{ProcessForm, FlatDesign}
use Rattle.sv_flat.specs.Soundness.{is_signal}
use Rattle.sv_flat.specs.Readings.{Reading, readings, no_bits, is_followed}
use Rattle.sv_flat.specs.Processes.{is_block, is_top_input, is_register, signal_numbers}
use Rattle.sv_flat.specs.Processes.{signals_that, drivers}
use Rattle.sv_flat.specs.Clocks.{is_clock, processes_of}
use Rattle.sv_flat.specs.Sets.{least_set}

-- a signal that is neither an input of the top module, a register nor a clock
abbrev pub is_combinational : FlatDesign → ℕ → Bool
is_combinational design s =
    is_signal design.signals s
    && not (is_top_input design s || is_register design s || is_clock design s)

-- ---- reads

-- the names in a process
abbrev pub process_readings : FlatDesign → ProcessForm → List Reading
process_readings design process = readings design.signals process.body no_bits no_bits

-- in an `always @*`, a read that an assignment to a bit that it reads can follow; every other read
-- is settled
abbrev pub is_earlier : FlatDesign → ProcessForm → Reading → Bool
is_earlier design process reading = is_block process.kind && is_followed design.signals reading

-- an earlier read for the target is one of the signal
abbrev pub wants : FlatDesign → ProcessForm → (target s : ℕ) → Bool
wants design process target s =
    list_any (λ (r : Reading).
    is_earlier design process r && r.serves target && (r.name.signal == s))
    (process_readings design process)

-- the target, each signal of which an earlier value is read for it, each of which one is read for
-- those, and so on
abbrev pub followed : FlatDesign → ProcessForm → (target : ℕ) → List ℕ
followed design process target =
    least_set (length design.signals) (wants design process) (target ∷ [])

-- a settled read for one of the targets is one of the signal
abbrev pub reads_settled : FlatDesign → ProcessForm → (targets : List ℕ) → (s : ℕ) → Bool
reads_settled design process targets s =
    list_any (λ (r : Reading).
    not (is_earlier design process r) && list_any r.serves targets && (r.name.signal == s))
    (process_readings design process)

-- The signal is read for the target: its name stands in a right side of an assignment to the
-- target, or in a condition of a branch with an arm that assigns it; an earlier read stands for
-- what is read for that signal. A register is read for itself.
abbrev pub is_read_for : FlatDesign → (target s : ℕ) → Bool
is_read_for design target s =
    is_register design target && (target == s)
    || list_any (λ p. reads_settled design p (followed design p target) s)
    (drivers (processes_of design) target)

-- in signal order
abbrev pub reads_for : FlatDesign → (target : ℕ) → List ℕ
reads_for design target = signals_that design (is_read_for design target)

-- ---- depth

-- one more than the greatest of the depths
abbrev pub above : List ℕ → ℕ
above depths = 1 + fold max 0 depths

-- each signal's depth, from depths that hold of chains of reads that are one shorter
abbrev pub next_depths : FlatDesign → List ℕ → List ℕ
next_depths design depths =
    map (λ s. if is_combinational design s
    then above (map (slice_index depths) (reads_for design s)) else 0)
    (signal_numbers design)

abbrev pub depths_within : FlatDesign → (reads : ℕ) → List ℕ
depths_within design zero = replicate (length design.signals) 0
depths_within design (suc reads) = next_depths design (depths_within design reads)

-- Inputs and registers have depth 0, a combinational signal one more than the greatest depth of
-- what is read for it: 1 where nothing is. Where no signals read each other in a circle, no chain
-- of reads is longer than there are signals.
abbrev pub depth : FlatDesign → ℕ → ℕ
depth design s = slice_index (depths_within design (length design.signals)) s

-- the combinational signals by depth, then by number
abbrev pub order : FlatDesign → List ℕ
order design =
    flat_map (λ d. signals_that design (λ s. is_combinational design s && (depth design s == d)))
    (range_with_len 1 (length design.signals))
