-- An `always @*` keeps nothing from one run to the next (this project's profile: no latches).
use Rattle.std.specs.Prelude.{ℕ, Bool, ◌&&◌, not, List, map, filter, flat_map}
use Rattle.std.specs.List.{list_any, range_with_len}
use Rattle.sv_flat.specs.Design.{SignalForm, FlatStatement, ProcessForm, FlatDesign}
use Rattle.sv_flat.specs.Values.{signal_width}
use Rattle.sv_flat.specs.Assigned.{assigns, always_assigns}
use Rattle.sv_flat.specs.Readings.{Reading, readings, no_bits, some_bit_read}
use Rattle.sv_flat.specs.Processes.{is_block, signals_that}
use Rattle.sv_flat.specs.Breaches.{Breach, breach}

abbrev pub blocks : FlatDesign → List ProcessForm
blocks design = filter (λ (p : ProcessForm). is_block p.kind) design.processes

-- the statement assigns a bit of the signal, and some bit of it not on every path
abbrev pub is_latched : List SignalForm → FlatStatement → ℕ → Bool
is_latched signals body s =
    assigns body s && list_any (λ b.
    not (always_assigns body s b)) (range_with_len 0 (signal_width signals s))

-- rule 605, at the block of each such signal
abbrev pub latches : FlatDesign → List Breach
latches design =
    flat_map (λ (p : ProcessForm).
    map (breach 605 p.place) (signals_that design (is_latched design.signals p.body)))
    (blocks design)

-- a bit that is read has not been assigned on every path to the read
abbrev pub is_unassigned : List SignalForm → Reading → Bool
is_unassigned signals reading =
    some_bit_read signals reading.name (λ b. not (reading.assigned reading.name.signal b))

-- The block reads a signal that it assigns where it is not assigned yet. One that can be assigned
-- again may be read: what is read is the value so far.
abbrev pub is_out_of_phase : List SignalForm → FlatStatement → Reading → Bool
is_out_of_phase signals body reading =
    assigns body reading.name.signal && is_unassigned signals reading

abbrev pub phase_breach : Reading → Breach
phase_breach reading = breach 606 reading.name.place reading.name.signal

-- rule 606, at each such read
abbrev pub phase_faults : FlatDesign → List Breach
phase_faults design =
    flat_map (λ (p : ProcessForm). map phase_breach
    (filter (is_out_of_phase design.signals p.body)
    (readings design.signals p.body no_bits no_bits)))
    (blocks design)
