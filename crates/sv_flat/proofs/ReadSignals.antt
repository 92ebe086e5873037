-- A well formed expression, and a sound statement, read signals alone.
use Rattle.std.proofs.Common.{ℕ, ◌*◌, Bool, true, false, cond, ℤ, pos, negsuc, not, ◌&&◌, nat_le}
use Rattle.std.proofs.Common.{List, [], ◌∷◌, ◌++◌, ⊎_elim, subst}
use Rattle.std.specs.Prelude.{Contains, IsTrue}
use Rattle.std.specs.List.{list_all}
use Rattle.sv_num.specs.BinaryValues.{class_of, is_division}
use Rattle.sv_num.specs.declared.faults.Place.{Place}
use Rattle.sv_system.proofs.Lists.{Contains-nil, Contains-cases, Contains-from_map}
use Rattle.sv_flat.specs.Design.{SignalForm, TypedTree, typed, NodeTree, constant, read, read_bit}
use Rattle.sv_flat.specs.Design.{read_part, unary, binary, choice, join, replication, held}
use Rattle.sv_flat.specs.Design.{held_bit, held_part, mend, slice, TypedTrees, no_parts, more_parts}
use Rattle.sv_flat.specs.Design.{FlatStatement, nothing, after, assign, branch}
use Rattle.sv_flat.specs.Values.{signal_width, expression_width, parts_width, number_of}
use Rattle.sv_flat.specs.Soundness.{is_one_to, is_signal, has_type, is_part_of, unary_typed}
use Rattle.sv_flat.specs.Soundness.{binary_typed, piece_fits, well_formed}
use Rattle.sv_flat.specs.Soundness.{node_well_formed, parts_well_formed, statement_sound}
use Rattle.sv_flat.specs.Assigned.{assigns, can_assign, always_assigns}
use Rattle.sv_flat.specs.Readings.{ReadForm, whole_read, bit_read, indexed_read, is_constant, reads}
use Rattle.sv_flat.specs.Readings.{node_reads, parts_reads, BitSet, either, Reading, readings_of}
use Rattle.sv_flat.specs.Readings.{reading_of, readings}
use Rattle.sv_flat.proofs.Members.{Contains-either}
use Rattle.sv_flat.proofs.Depths.{first_of, second_of}

module _ (signals : List SignalForm) where
  abbrev OfSignal : ReadForm → Type 0
  OfSignal r = IsTrue (is_signal signals r.signal)

  one_read : (r z : ReadForm) → OfSignal z → Contains (z ∷ []) r → OfSignal r
  one_read r z is at = ⊎_elim
      (λ e. subst (λ y. IsTrue (is_signal signals y.signal)) e is)
      (λ later. absurd (Contains-nil r later))
      (Contains-cases z [] r at)

  bit_signal : (s : ℕ) (p : Place) (i : ℤ) → IsTrue (is_signal signals s) →
      OfSignal (bit_read s p i)
  bit_signal s p (pos i) is = is
  bit_signal s p (negsuc i) is = is

  indexed_signal : (c : Bool) (s : ℕ) (p : Place) (index : TypedTree) → IsTrue (is_signal signals s)
      → OfSignal (cond c (bit_read s p (number_of signals (λ t. 0) index)) (whole_read signals s p))
  indexed_signal true s p index is = bit_signal s p (number_of signals (λ t. 0) index) is
  indexed_signal false s p index is = is

  -- all that a well formed expression reads
  abbrev AllOf : TypedTree → Type 0
  AllOf t =
      IsTrue (well_formed signals t) → (r : ReadForm) → Contains (reads signals t) r → OfSignal r

  -- so of two expressions, behind what else is asked of them
  both_read : (front : Bool) (a b : TypedTree) → AllOf a → AllOf b
      → IsTrue (front && well_formed signals a && well_formed signals b) → (r : ReadForm)
      → Contains (reads signals a ++ reads signals b) r
      → OfSignal r
  both_read front a b of_a of_b h r at = ⊎_elim
      (λ l. of_a
      (second_of front (well_formed signals a)
      (first_of (front && well_formed signals a) (well_formed signals b) h)) r l)
      (λ m. of_b (second_of (front && well_formed signals a) (well_formed signals b) h) r m)
      (Contains-either (reads signals a) (reads signals b) r at)

  mutual
    pub reads_signals : (t : TypedTree) → IsTrue (well_formed signals t) → (r : ReadForm)
        → Contains (reads signals t) r
        → IsTrue (is_signal signals r.signal)
    reads_signals (typed w s node) h r at = node_reads_signals node w s
        (second_of (is_one_to 64 w) (node_well_formed signals w s node) h) r at

    node_reads_signals : (node : NodeTree) (w : ℕ) (s : Bool)
        → IsTrue (node_well_formed signals w s node) → (r : ReadForm)
        → Contains (node_reads signals node) r
        → IsTrue (is_signal signals r.signal)
    node_reads_signals (constant n) w signed h r at = absurd (Contains-nil r at)
    node_reads_signals (read s p) w signed h r at =
        one_read r (whole_read signals s p)
        (first_of (is_signal signals s) (nat_le (signal_width signals s) w) h) at
    node_reads_signals (read_bit s p i) w signed h r at = ⊎_elim
        (λ e. subst (λ y. IsTrue (is_signal signals y.signal)) e
        (indexed_signal (is_constant i) s p i
        (first_of (is_signal signals s) (well_formed signals i) h)))
        (λ later. reads_signals i (second_of (is_signal signals s) (well_formed signals i) h)
        r later)
        (Contains-cases (indexed_read signals s p i) (reads signals i) r at)
    node_reads_signals (read_part s p high low) w signed h r at =
        one_read r (record { signal = s; place = p; high = high; low = low })
        (first_of (is_signal signals s) (is_part_of (signal_width signals s) w high low) h) at
    node_reads_signals (unary op t) w signed h r at =
        reads_signals t (second_of (unary_typed op w signed t) (well_formed signals t) h) r at
    node_reads_signals (binary op a b) w signed h r at =
        both_read (not (is_division op) && binary_typed (class_of op) w signed a b) a b
        (λ g q k. reads_signals a g q k) (λ g q k. reads_signals b g q k) h r at
    node_reads_signals (choice p c a b) w signed h r at =
        let types = has_type w signed a && has_type w signed b in
        let front = first_of (types && well_formed signals c && well_formed signals a)
        (well_formed signals b) h in
        ⊎_elim
        (λ l. ⊎_elim
        (λ k. reads_signals c
        (second_of types (well_formed signals c)
        (first_of (types && well_formed signals c) (well_formed signals a) front)) r k)
        (λ k. reads_signals a
        (second_of (types && well_formed signals c) (well_formed signals a) front) r k)
        (Contains-either (reads signals c) (reads signals a) r l))
        (λ m. reads_signals b
        (second_of (types && well_formed signals c && well_formed signals a)
        (well_formed signals b) h) r m)
        (Contains-either (reads signals c ++ reads signals a) (reads signals b) r at)
    node_reads_signals (join es) w signed h r at = parts_reads_signals es
        (second_of (nat_le (parts_width es) w) (parts_well_formed signals es) h) r at
    node_reads_signals (replication count es) w signed h r at =
        parts_reads_signals es
        (second_of (is_one_to 64 count && nat_le (count * parts_width es) w)
        (parts_well_formed signals es) h) r at
    node_reads_signals (held s t) w signed h r at =
        reads_signals t (second_of (is_signal signals s && nat_le (signal_width signals s) w)
        (well_formed signals t) h) r at
    node_reads_signals (held_bit s p t i) w signed h r at =
        both_read (is_signal signals s) t i
        (λ g q k. reads_signals t g q k) (λ g q k. reads_signals i g q k) h r at
    node_reads_signals (held_part s p t high low) w signed h r at =
        reads_signals t (second_of (is_signal signals s
        && is_part_of (signal_width signals s) w high low) (well_formed signals t) h) r at
    node_reads_signals (mend s t high low piece) w signed h r at =
        both_read (is_signal signals s && nat_le (signal_width signals s) w
        && is_part_of (signal_width signals s) (expression_width piece) high low) t piece
        (λ g q k. reads_signals t g q k) (λ g q k. reads_signals piece g q k) h r at
    node_reads_signals (slice t high low) w signed h r at =
        reads_signals t (second_of (is_part_of (expression_width t) w high low)
        (well_formed signals t) h) r at

    parts_reads_signals : (es : TypedTrees) → IsTrue (parts_well_formed signals es) → (r : ReadForm)
        → Contains (parts_reads signals es) r → IsTrue (is_signal signals r.signal)
    parts_reads_signals no_parts h r at = absurd (Contains-nil r at)
    parts_reads_signals (more_parts t es) h r at = ⊎_elim
        (λ l. reads_signals t
        (first_of (well_formed signals t) (parts_well_formed signals es) h) r l)
        (λ m. parts_reads_signals es
        (second_of (well_formed signals t) (parts_well_formed signals es) h) r m)
        (Contains-either (reads signals t) (parts_reads signals es) r at)

  of_signal : (t : TypedTree) (serves : ℕ → Bool) (before later : BitSet)
      → IsTrue (well_formed signals t) → (r : Reading)
      → Contains (readings_of signals t serves before later) r
      → IsTrue (is_signal signals r.name.signal)
  of_signal t serves before later h r at =
      let from = Contains-from_map (reading_of serves before later) (reads signals t) r at in
      subst (λ (y : Reading).
      IsTrue (is_signal signals y.name.signal)) from.2 (reads_signals t h from.0 from.1)

  pub readings_signals : (body : FlatStatement) (before later : BitSet)
      → IsTrue (statement_sound signals body) → (r : Reading)
      → Contains (readings signals body before later) r → IsTrue (is_signal signals r.name.signal)
  readings_signals nothing before later h r at = absurd (Contains-nil r at)
  readings_signals (after first second) before later h r at =
      let late = either (can_assign second) later in
      let mid = either (always_assigns first) before in
      ⊎_elim
      (λ l. readings_signals first before late
      (first_of (statement_sound signals first) (statement_sound signals second) h) r l)
      (λ m. readings_signals second mid later
      (second_of (statement_sound signals first) (statement_sound signals second) h) r m)
      (Contains-either (readings signals first before late)
      (readings signals second mid later) r at)
  readings_signals (assign pieces place blocking right) before later h r at =
      let whole = assign pieces place blocking right in
      of_signal right (assigns whole) before (either (can_assign whole) later)
      (first_of (well_formed signals right) (list_all (piece_fits signals right) pieces) h) r at
  readings_signals (branch place condition first second) before later h r at =
      let whole = branch place condition first second in
      let here = readings_of signals condition (assigns whole) before
      (either (can_assign whole) later) in
      let front = first_of (well_formed signals condition && statement_sound signals first)
      (statement_sound signals second) h in
      ⊎_elim
      (λ l. ⊎_elim
      (λ k. of_signal condition (assigns whole) before (either (can_assign whole) later)
      (first_of (well_formed signals condition) (statement_sound signals first) front) r k)
      (λ k. readings_signals first before later
      (second_of (well_formed signals condition) (statement_sound signals first) front) r k)
      (Contains-either here (readings signals first before later) r l))
      (λ m. readings_signals second before later
      (second_of (well_formed signals condition && statement_sound signals first)
      (statement_sound signals second) h) r m)
      (Contains-either (here ++ readings signals first before later)
      (readings signals second before later) r at)
