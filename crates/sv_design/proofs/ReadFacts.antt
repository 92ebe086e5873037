-- What is read for what.
use mathlib.Core.Path.{fun_ext}
use Rattle.std.proofs.Common.{◌≡◌, ℕ, ◌<◌, Bool, true, false, not, ◌&&◌, ◌||◌, List, length}
use Rattle.std.proofs.Common.{ltb-true, refl, sym, ap, ap₂, subst, ◌∙◌, Bor}
use Rattle.std.specs.Prelude.{IsTrue, Contains}
use Rattle.sv_flat.proofs.LeastSets.{Contains-from_filter}
use Rattle.sv_graph.specs.declared.bit_sets.BitSet.{BitSet as Bits}
use Rattle.sv_flat.specs.Assigned.{assigns, can_assign}
use Rattle.sv_flat.specs.Design.{SignalForm, TypedTree, FlatStatement, nothing, after, ProcessForm}
use Rattle.sv_flat.specs.Design.{FlatDesign}
use Rattle.sv_flat.specs.Readings.{BitSet, either}
use Rattle.sv_flat.specs.Soundness.{sound, kind_sound, statement_sound}
use Rattle.sv_flat.specs.Clocks.{is_clock_link, processes_of}
use Rattle.sv_flat.proofs.Depths.{second_of}
use Rattle.sv_flat.proofs.AdmittedFacts.{assigned_is_signal}
use Rattle.sv_graph.specs.declared.bit_graphs.BitGraph.{BitGraph}
use Rattle.sv_graph.specs.BitSets.{mask_in, has_some, in_bits, HasTargetsBelow}
use Rattle.sv_design.specs.Feeds.{names_sought, feeds}
use Rattle.sv_graph.specs.BitGraphs.{has_edge, GainsEdges}
use Rattle.sv_rules.specs.Phases.{SameBits}
use Rattle.sv_rules.proofs.BlockPasses.{targets_are}
use Rattle.sv_rules.specs.Surroundings.{in_surrounding}
use Rattle.sv_design.specs.declared.reads.Sought.{Sought}
use Rattle.sv_rules.specs.declared.surroundings.Surrounding.{Surrounding, Inside}
use Rattle.sv_graph.proofs.EntryFacts.{nothing_in}
use Rattle.sv_graph.proofs.MarkFacts.{or_no, or_three}
use Rattle.sv_rules.proofs.Passes.{or_turned}
use Rattle.sv_rules.proofs.PieceFacts.{in_surrounding-inside}
use Rattle.sv_rules.proofs.Sound.{process_is_sound}

-- ---- names

pub names_more : (n m h : Bool) → ((n || m) && h) ≡ ((n && h) || (m && h))
names_more true true true = refl
names_more true true false = refl
names_more true false true = refl
names_more true false false = refl
names_more false m h = refl

-- ---- statements

pub same_edges : (old new : BitGraph) (edges others : ℕ → ℕ → Bool) →
    ((a b : ℕ) → edges a b ≡ others a b) → GainsEdges old new edges → GainsEdges old new others
same_edges old new edges others same gains a b =
    gains a b ∙ ap (λ t. has_edge old a b || t) (same a b)

pub both_edges : (old mid new : BitGraph) (first second : ℕ → ℕ → Bool) → GainsEdges old mid first
    → GainsEdges mid new second
    → GainsEdges old new (λ a b. first a b || second a b)
both_edges old mid new first second one two a b =
    two a b ∙ ap (λ t. t || second a b) (one a b)
    ∙ or_three (has_edge old a b) (first a b) (second a b)

pub targets_below : (signals : List SignalForm) (body : FlatStatement) (set : Bits) (n : ℕ)
    → length signals ≡ n → IsTrue (statement_sound signals body)
    → SameBits (in_bits set) (can_assign body) → HasTargetsBelow n set
targets_below signals body set n size sound same s h =
    subst (λ m. s < m) size
    (ltb-true s (length signals)
    (assigned_is_signal signals body sound s
    (sym (targets_are signals body set sound same s) ∙ h)))

-- the body of a process is sound
pub body_of_process : (design : FlatDesign) → IsTrue (sound design) → (p : ProcessForm)
    → Contains (processes_of design) p
    → IsTrue (statement_sound design.signals p.body)
body_of_process design is_sound p at =
    let inside = (Contains-from_filter (λ q.
    not (is_clock_link design q)) design.processes p at).1 in
    second_of (kind_sound design p.kind p.body) (statement_sound design.signals p.body)
    (process_is_sound design is_sound p inside)

-- ---- bits around a statement

-- the names that are sought in what has its own bits around it
pub gains_inside : (signals : List SignalForm) (sought : Sought) (e : TypedTree)
    (whole : FlatStatement) (set : Bits) (old new : BitGraph) (h : Bor Bits) (r : Bor Surrounding)
    → SameBits (in_bits h.now) (can_assign whole)
    → ((b : ℕ) → has_some set b ≡ assigns whole b)
    → GainsEdges old new (λ a b.
    names_sought signals sought (in_surrounding (Inside h r)) e a && has_some set b)
    → GainsEdges old new (λ a b.
    names_sought signals sought (either (can_assign whole) (in_surrounding r.now)) e a
    && assigns whole b)
gains_inside signals sought e whole set old new h r bits targets gains =
    let around : in_surrounding (Inside h r) ≡ either (can_assign whole) (in_surrounding r.now) =
    in_surrounding-inside h r
    ∙ ap (λ (z : BitSet). either z (in_surrounding r.now)) (fun_ext (λ s. fun_ext (λ b. bits s b))) in
    same_edges old new
    (λ a b. names_sought signals sought (in_surrounding (Inside h r)) e a && has_some set b)
    (λ a b. names_sought signals sought (either (can_assign whole) (in_surrounding r.now)) e a
    && assigns whole b)
    (λ a b. ap₂ (λ z t. names_sought signals sought z e a && t) around (targets b))
    gains

-- no statement is left behind
pub bits_begin : (none : Bits) (last : FlatStatement) → last ≡ nothing
    → ((s : ℕ) → mask_in none s ≡ 0) → SameBits (in_bits none) (can_assign last)
bits_begin none last is empty s b =
    nothing_in (mask_in none s) b (empty s) ∙ ap (λ z. can_assign z s b) (sym is)

pub feeds_begin : (signals : List SignalForm) (sought : Sought) (graph : BitGraph)
    (last : FlatStatement) (later : BitSet) → last ≡ nothing
    → GainsEdges graph graph (feeds signals sought last later)
feeds_begin signals sought graph last later is a b =
    sym (or_no (has_edge graph a b) (feeds signals sought last later a b)
    (ap (λ z. feeds signals sought z later a b) is))

-- a statement more, before the others
pub bits_before : (left first rest : FlatStatement) → left ≡ after first rest
    → (here bits more : Bits) → SameBits (in_bits here) (can_assign rest)
    → SameBits (in_bits bits) (can_assign first)
    → ((s b : ℕ) → in_bits more s b ≡ (in_bits here s b || in_bits bits s b))
    → SameBits (in_bits more) (can_assign left)
bits_before left first rest splits here bits more same can gains s b =
    gains s b ∙ ap₂ ◌||◌ (same s b) (can s b)
    ∙ or_turned (can_assign rest s b) (can_assign first s b)
    ∙ ap (λ z. can_assign z s b) (sym splits)

pub feeds_before : (signals : List SignalForm) (sought : Sought) (left first rest : FlatStatement)
    → left ≡ after first rest → (h : Bor Bits) (r : Bor Surrounding) (old now next : BitGraph)
    → SameBits (in_bits h.now) (can_assign rest)
    → GainsEdges old now (feeds signals sought rest (in_surrounding r.now))
    → GainsEdges now next (feeds signals sought first (in_surrounding (Inside h r)))
    → GainsEdges old next (feeds signals sought left (in_surrounding r.now))
feeds_before signals sought left first rest splits h r old now next same so_far gains =
    let around : in_surrounding (Inside h r) ≡ either (can_assign rest) (in_surrounding r.now) =
    in_surrounding-inside h r
    ∙ ap (λ (z : BitSet). either z (in_surrounding r.now)) (fun_ext (λ s. fun_ext (λ b. same s b))) in
    subst (λ z. GainsEdges old next (feeds signals sought z (in_surrounding r.now))) (sym splits)
    (same_edges old next
    (λ a b. feeds signals sought rest (in_surrounding r.now) a b
    || feeds signals sought first (either (can_assign rest) (in_surrounding r.now)) a b)
    (feeds signals sought (after first rest) (in_surrounding r.now))
    (λ a b. or_turned (feeds signals sought rest (in_surrounding r.now) a b)
    (feeds signals sought first (either (can_assign rest) (in_surrounding r.now)) a b))
    (both_edges old now next (feeds signals sought rest (in_surrounding r.now))
    (feeds signals sought first (either (can_assign rest) (in_surrounding r.now))) so_far
    (subst (λ z. GainsEdges now next (feeds signals sought first z)) around gains)))
