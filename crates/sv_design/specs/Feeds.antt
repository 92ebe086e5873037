-- Private: how the code goes. What is read for what in a statement.
use Rattle.std.specs.Prelude.{◌≡◌, List, length, ℕ, Bool, false, true, ◌==◌, ◌&&◌, ◌||◌, not}
use Rattle.std.specs.Prelude.{if◌then◌else◌}
use Rattle.std.specs.List.{list_any}
use Rattle.sv_flat.specs.Assigned.{assigns, can_assign}
use Rattle.sv_flat.specs.Design.{SignalForm, TypedTree, FlatStatement, nothing, after, assign}
use Rattle.sv_flat.specs.Design.{branch, ProcessForm, FlatDesign}
use Rattle.sv_flat.specs.Clocks.{processes_of}
use Rattle.sv_flat.specs.Processes.{is_block}
use Rattle.sv_flat.specs.Readings.{ReadForm, reads, BitSet, no_bits, either, some_bit_read}
use Rattle.sv_graph.specs.declared.graphs.Graph.{Graph}
use Rattle.sv_design.specs.declared.reads.Sought.{Sought}
use Rattle.sv_graph.specs.Graphs.{size, has_edge, IsWhole}

-- A name is sought: among the earlier reads of an `always @*` it is one that an assignment to a bit
-- that it reads can follow, and else any other.
abbrev pub is_sought : List SignalForm → Sought → (later : BitSet) → ReadForm → Bool
is_sought signals sought later r =
    if sought.earlier then sought.in_block && some_bit_read signals r (later r.signal)
    else not (sought.in_block && some_bit_read signals r (later r.signal))

-- the expression has a name of the signal that is sought
abbrev pub names_sought : List SignalForm → Sought → (later : BitSet) → TypedTree → (s : ℕ) → Bool
names_sought signals sought later e s =
    list_any (λ (r : ReadForm). (r.signal == s) && is_sought signals sought later r)
    (reads signals e)

-- a name of the signal that is sought serves the target, where some bits can be assigned after the
-- statement
abbrev pub feeds : List SignalForm → Sought → FlatStatement → (later : BitSet) →
    (read target : ℕ) → Bool
feeds signals sought nothing later s t = false
feeds signals sought (after first second) later s t =
    feeds signals sought first (either (can_assign second) later) s t
    || feeds signals sought second later s t
feeds signals sought (assign pieces place blocking right) later s t =
    let whole = assign pieces place blocking right in
    names_sought signals sought (either (can_assign whole) later) right s && assigns whole t
feeds signals sought (branch place condition first second) later s t =
    let whole = branch place condition first second in
    feeds signals sought first later s t || feeds signals sought second later s t
    || names_sought signals sought (either (can_assign whole) later) condition s && assigns whole t

-- what is sought in a process
abbrev pub sought_in : (earlier : Bool) → ProcessForm → Sought
sought_in earlier p = record { in_block = is_block p.kind; earlier = earlier }

-- an earlier read of the signal in some process serves the target, or another read
abbrev pub feeds_in : List SignalForm → (earlier : Bool) → List ProcessForm →
    (read target : ℕ) → Bool
feeds_in signals earlier ps s t =
    list_any (λ (p : ProcessForm). feeds signals (sought_in earlier p) p.body no_bits s t) ps

-- an edge leads from each signal to those of which an earlier read in some process serves it
abbrev pub AreWants : FlatDesign → Graph → Type 0
AreWants design wants =
    (size wants ≡ length design.signals) × IsWhole wants
    × ((a b : ℕ) → has_edge wants a b ≡
    feeds_in design.signals true (processes_of design) b a)
