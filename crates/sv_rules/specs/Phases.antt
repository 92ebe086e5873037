-- Private: how the code goes. Rules 605 and 606 in parts.
use Rattle.std.specs.Prelude.{◌≡◌, ℕ, ◌||◌, List, map, filter, flat_map, Option}
use Rattle.sv_flat.specs.Assigned.{assigns, can_assign}
use Rattle.sv_flat.specs.Blocks.{is_latched, is_out_of_phase, phase_breach}
use Rattle.sv_flat.specs.Breaches.{Breach, breach}
use Rattle.sv_flat.specs.Design.{SignalForm, FlatStatement, ProcessForm, FlatDesign}
use Rattle.sv_flat.specs.Processes.{is_block, signals_that}
use Rattle.sv_flat.specs.Readings.{BitSet, Reading, readings, no_bits}
use Rattle.sv_num.specs.declared.faults.Place.{Place}
use Rattle.sv_graph.specs.declared.bit_sets.BitSet.{BitSet as Bits}
use Rattle.sv_rules.specs.declared.found.Found.{Found}
use Rattle.sv_graph.specs.BitSets.{in_bits, has_some}
use Rattle.sv_rules.specs.First.{FindsFirst}

-- the breaches among some reads
abbrev pub wrong_reads : List SignalForm → FlatStatement → List Reading → List Breach
wrong_reads signals body readings =
    map phase_breach (filter (is_out_of_phase signals body) readings)

-- two sets have the same bits
abbrev pub SameBits : BitSet → BitSet → Type 0
SameBits first second = (s b : ℕ) → first s b ≡ second s b

-- the set has bits of the signals that the statement assigns
abbrev pub HasTargets : FlatStatement → Bits → Type 0
HasTargets body set = (s : ℕ) → has_some set s ≡ assigns body s

-- the bits that the statement can assign are put into the set
abbrev pub AddsAssigned : (old new : Bits) → FlatStatement → Type 0
AddsAssigned old new body =
    (s b : ℕ) → in_bits new s b ≡ (in_bits old s b || can_assign body s b)

-- What was found is the first breach among reads of a statement with these targets, where some bits
-- are assigned before them.
abbrev pub FindsReads : List SignalForm → (targets : Bits) → (before : BitSet) →
    (reads : BitSet → BitSet → List Reading) → Option Found → Type 0
FindsReads signals targets before reads found =
    (body : FlatStatement) (assigned follows : BitSet) → HasTargets body targets
    → SameBits assigned before
    → FindsFirst 606 (wrong_reads signals body (reads assigned follows)) found

-- rule 605 of one block
abbrev pub latches_of : FlatDesign → Place → FlatStatement → List Breach
latches_of design place body =
    map (breach 605 place) (signals_that design (is_latched design.signals body))

-- rule 606 of one block
abbrev pub phase_faults_of : FlatDesign → FlatStatement → List Breach
phase_faults_of design body =
    wrong_reads design.signals body (readings design.signals body no_bits no_bits)

-- those of the blocks among some processes
abbrev pub latches_in : FlatDesign → List ProcessForm → List Breach
latches_in design ps =
    flat_map (λ (p : ProcessForm).
    latches_of design p.place p.body) (filter (λ (p : ProcessForm). is_block p.kind) ps)

abbrev pub phase_faults_in : FlatDesign → List ProcessForm → List Breach
phase_faults_in design ps =
    flat_map (λ (p : ProcessForm).
    phase_faults_of design p.body) (filter (λ (p : ProcessForm). is_block p.kind) ps)
