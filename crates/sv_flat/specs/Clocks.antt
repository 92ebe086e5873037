-- Clocks: the signals after `posedge`, and what instances link to them by whole names (IEEE
-- 1364-2005, clauses 9.7.2 and 12.3; that there is one clock, and that it is used as nothing else,
-- is this project's profile).
use Rattle.std.specs.Prelude.{ℕ, Bool, true, false, ◌==◌, ◌&&◌, ◌||◌, not, nat_lt, List, [], ◌∷◌}
use Rattle.std.specs.Prelude.{length, map, filter, Option, Some, None, is_none, option_map}
use Rattle.std.specs.Prelude.{if◌then◌else◌}
use Rattle.std.specs.List.{list_any, list_all, filter_map, range_with_len}
use Rattle.sv_lattice.specs.declared.points.Point.{Point}
use Rattle.sv_lattice.specs.declared.labels.Label.{Label}
use Rattle.sv_lattice.specs.declared.labels.Label.TheVariants.{Point as Declared, Table}
use Rattle.sv_lattice.specs.Tables.{flow_test}
use Rattle.sv_flat.specs.Design.{SignalForm, TypedTree, typed, read, FlatStatement, assign}
use Rattle.sv_flat.specs.Design.{ProcessKind, port_in, port_out, clocked, ProcessForm}
use Rattle.sv_flat.specs.Design.{InvariantForm, FlatDesign}
use Rattle.sv_flat.specs.Values.{signal_of, signal_width}
use Rattle.sv_flat.specs.Assigned.{assigns}
use Rattle.sv_flat.specs.Readings.{Reading, readings, no_bits, names_signal}
use Rattle.sv_flat.specs.Processes.{kind_of, is_input_kind, is_top_input, signals_that}
use Rattle.sv_flat.specs.Sets.{holds, least_set}

-- ---- links

-- the signal, where the expression is a whole name
abbrev pub whole_name : TypedTree → Option ℕ
whole_name (typed width signed (read s place)) = Some s
whole_name _ = None

-- a link by a whole name: the signal that is assigned and the signal that is read
abbrev pub whole_link : FlatStatement → Option (ℕ × ℕ)
whole_link (assign (piece ∷ []) place blocking right) =
    option_map (λ s. (piece.signal, s)) (whole_name right)
whole_link _ = None

abbrev pub is_port_in : ProcessKind → Bool
is_port_in port_in = true
is_port_in _ = false

abbrev pub is_port_out : ProcessKind → Bool
is_port_out port_out = true
is_port_out _ = false

-- links by whole names to input ports: each port, with the name that is linked to it
abbrev pub link_in : ProcessForm → Option (ℕ × ℕ)
link_in process = if is_port_in process.kind then whole_link process.body else None

-- the same of output ports: each net, with the port that it is linked to
abbrev pub link_out : ProcessForm → Option (ℕ × ℕ)
link_out process = if is_port_out process.kind then whole_link process.body else None

abbrev pub links_in : FlatDesign → List (ℕ × ℕ)
links_in design = filter_map link_in design.processes

abbrev pub links_out : FlatDesign → List (ℕ × ℕ)
links_out design = filter_map link_out design.processes

abbrev pub lists_pair : List (ℕ × ℕ) → ℕ → ℕ → Bool
lists_pair pairs a b = list_any (λ pair. (pair.0 == a) && (pair.1 == b)) pairs

-- ---- clocks

abbrev pub has_edge : ℕ → ProcessKind → Bool
has_edge s (clocked clock) = clock == s
has_edge s _ = false

-- some `always` has the signal after `posedge`
abbrev pub is_edge : FlatDesign → ℕ → Bool
is_edge design s = list_any (λ (p : ProcessForm). has_edge s p.kind) design.processes

-- a clock makes a clock of the whole name that is linked to it, and of each input port that it is
-- linked to
abbrev pub makes_clock : FlatDesign → (clock s : ℕ) → Bool
makes_clock design clock s =
    lists_pair (links_in design) clock s || lists_pair (links_out design) s clock
    || lists_pair (links_in design) s clock

abbrev pub clocks : FlatDesign → List ℕ
clocks design =
    least_set (length design.signals) (makes_clock design) (signals_that design (is_edge design))

abbrev pub is_clock : FlatDesign → ℕ → Bool
is_clock design s = holds (clocks design) s

-- a link to a clock is no process
abbrev pub is_clock_link : FlatDesign → ProcessForm → Bool
is_clock_link design process =
    is_port_in process.kind && list_any (assigns process.body) (clocks design)

-- the processes, links to clocks left out
abbrev pub processes_of : FlatDesign → List ProcessForm
processes_of design = filter (λ p. not (is_clock_link design p)) design.processes

-- ---- what a clock has to be

-- the clock, the whole name that is linked to it, the whole name that is linked to that, and so on
abbrev pub origins : FlatDesign → ℕ → List ℕ
origins design clock = least_set (length design.signals) (lists_pair (links_in design)) (clock ∷ [])

-- the top inputs that a clock leads up to
abbrev pub tops_of : FlatDesign → ℕ → List ℕ
tops_of design clock = filter (is_top_input design) (origins design clock)

-- it is a 1-bit input port
abbrev pub is_one_bit_input : FlatDesign → ℕ → Bool
is_one_bit_input design s = is_input_kind (kind_of design s) && (signal_width design.signals s == 1)

-- it is a top input, or it is linked by a whole name
abbrev pub is_linked : FlatDesign → ℕ → Bool
is_linked design s = is_top_input design s || list_any (λ pair. pair.0 == s) (links_in design)

-- where it leads up to a top input, no clock before it in signal order leads up to another one
abbrev pub agrees_with_earlier : FlatDesign → ℕ → Bool
agrees_with_earlier design s =
    list_all (λ top. list_all (λ earlier. list_all (λ other. other == top) (tops_of design earlier))
    (filter (λ clock. nat_lt clock s) (clocks design))) (tops_of design s)

-- the process reads the signal
abbrev pub reads_signal : List SignalForm → FlatStatement → ℕ → Bool
reads_signal signals body s =
    list_any (λ (r : Reading). r.name.signal == s) (readings signals body no_bits no_bits)

-- the process reads or drives the signal, and is no link by a whole name to an input port
abbrev pub uses_as_signal : FlatDesign → ℕ → ProcessForm → Bool
uses_as_signal design s process =
    is_none (link_in process)
    && (assigns process.body s || reads_signal design.signals process.body s)

abbrev pub selects_by : ℕ → Label → Bool
selects_by s (Declared point) = false
selects_by s (Table map first None) = first == s
selects_by s (Table map first (Some second)) = (first == s) || (second == s)

-- it is read, driven or used as a selector nowhere else than after `posedge` and in links by a
-- whole name to input ports
abbrev pub is_clock_alone : FlatDesign → ℕ → Bool
is_clock_alone design s =
    not (list_any (uses_as_signal design s) design.processes)
    && not (list_any (λ (signal : SignalForm). selects_by s signal.label) design.signals)
    && not (list_any (λ (i : InvariantForm).
    names_signal design.signals i.expression s) design.invariants)

-- the point flows to every point
abbrev pub is_least : List ℕ → Point → Bool
is_least lattice point =
    list_all (λ other. flow_test lattice point.0 other) (range_with_len 0 (length lattice))

-- its label is the least point
abbrev pub is_least_label : List ℕ → Label → Bool
is_least_label lattice (Declared point) = is_least lattice point
is_least_label lattice (Table map first second) = false

abbrev pub is_proper_clock : FlatDesign → ℕ → Bool
is_proper_clock design s =
    is_one_bit_input design s
    && is_linked design s
    && agrees_with_earlier design s
    && is_clock_alone design s
    && is_least_label design.lattice (signal_of design.signals s).label
