-- What the rules of blocks say: a settled read for what a target follows lies below the target, a
-- read of what the block assigns is assigned before; at the end every bit is assigned.
use Rattle.std.proofs.Common.{ℕ, ◌+◌, ◌<◌, ◌≤◌, Bool, not, ◌&&◌, ◌==◌, nat_le, ltb-true, List}
use Rattle.std.proofs.Common.{[], ◌∷◌, ◌++◌, length, map, ◌⊎◌, inl, inr, ⊎_elim, refl, sym, ap}
use Rattle.std.proofs.Common.{subst, ◌∙◌, arith}
use Rattle.std.specs.Prelude.{Contains, IsTrue, IsFalse, filter}
use Rattle.std.specs.List.{list_any, list_all, range_with_len}
use Rattle.std.proofs.lemmas.Bool.{false≢true, or_left, or_right, eqb-true, eq-eqb, le-leb}
use Rattle.sv_system.proofs.Lists.{Contains-head, Contains-nil, Contains-cases, Contains-filter}
use Rattle.sv_system.proofs.Lists.{Contains-from_map}
use Rattle.sv_flat.specs.Design.{SignalForm, TypedTree, PieceForm, FlatStatement, nothing, after}
use Rattle.sv_flat.specs.Design.{assign, branch, ProcessKind, continuous, port_in, port_out}
use Rattle.sv_flat.specs.Design.{combinational, clocked, release, ProcessForm, FlatDesign}
use Rattle.sv_flat.specs.Values.{signal_width}
use Rattle.sv_flat.specs.Soundness.{sound, statement_sound, kind_sound, is_whole, is_one_assignment}
use Rattle.sv_flat.specs.Assigned.{assigns, can_assign, always_assigns, has_bit}
use Rattle.sv_flat.specs.Readings.{reads, Reading, readings, readings_of, no_bits, BitSet}
use Rattle.sv_flat.specs.Readings.{reading_of, either, is_followed}
use Rattle.sv_flat.specs.Processes.{is_clocked, is_block, is_register, drivers}
use Rattle.sv_flat.specs.Clocks.{processes_of}
use Rattle.sv_flat.specs.Reads.{is_earlier, wants, followed, reads_settled, is_read_for, depth}
use Rattle.sv_flat.specs.Reads.{process_readings}
use Rattle.sv_flat.specs.Assignments.{TargetForm, targets, targets_after, is_wrong_sign}
use Rattle.sv_flat.specs.Assignments.{is_wrong_target, target_breach}
use Rattle.sv_flat.specs.Blocks.{blocks, is_latched, is_unassigned, is_out_of_phase, phase_breach}
use Rattle.sv_flat.specs.Breaches.{breach}
use Rattle.sv_flat.specs.Admission.{IsAdmitted}
use Rattle.sv_flat.proofs.Members.{Contains-left, Contains-right, Contains-either}
use Rattle.sv_flat.proofs.LeastSets.{either_way, or_cases, range_has, some_from, from_some}
use Rattle.sv_flat.proofs.LeastSets.{least_set_has, least_set_closed, least_set_least}
use Rattle.sv_flat.proofs.Depths.{first_of, second_of, from_all, reads_are_lower}
use Rattle.sv_flat.proofs.SameRuns.{or_none_left, none_found, all_blocking, can_is_assigned}
use Rattle.sv_flat.proofs.ReadSignals.{readings_signals}
use Rattle.sv_flat.proofs.AdmittedFacts.{and_true, negated_false, none_pass, empty_part, is_process}
use Rattle.sv_flat.proofs.AdmittedFacts.{body_is_sound, process_is_sound, drives, phases}
use Rattle.sv_flat.proofs.AdmittedFacts.{no_latches, no_wrong_assigns, assigned_is_signal}
use Rattle.sv_flat.proofs.AdmittedFacts.{targets_are_combinational}

-- ---- what follows a read

module _ (signals : List SignalForm) where
  pub follows_here : (whole : FlatStatement) (t : TypedTree) (before later : BitSet) (r : Reading)
      → Contains (readings_of signals t (assigns whole) before (either (can_assign whole) later)) r
      → (s b : ℕ) → IsTrue (r.follows s b) → IsTrue (assigns whole s) ⊎ IsTrue (later s b)
  follows_here whole t before later r at s b h =
      let from = Contains-from_map
      (reading_of (assigns whole) before (either (can_assign whole) later))
      (reads signals t) r at in
      ⊎_elim
      (λ l. inl (can_is_assigned whole s b l))
      (λ m. inr m)
      (or_cases (can_assign whole s b) (later s b)
      (subst (λ (y : Reading). IsTrue (y.follows s b)) (sym from.2) h))

  -- an assignment that follows a read stands in the statement or after it
  follows_assigned : (body : FlatStatement) (before later : BitSet) (r : Reading)
      → Contains (readings signals body before later) r
      → (s b : ℕ) → IsTrue (r.follows s b) → IsTrue (assigns body s) ⊎ IsTrue (later s b)
  follows_assigned nothing before later r at s b h = absurd (Contains-nil r at)
  follows_assigned (after first second) before later r at s b h =
      let late = either (can_assign second) later in
      let mid = either (always_assigns first) before in
      ⊎_elim
      (λ l. ⊎_elim
      (λ here. inl (or_left (assigns first s) (assigns second s) here))
      (λ past. ⊎_elim
      (λ next.
      inl (or_right (assigns first s) (assigns second s) (can_is_assigned second s b next)))
      (λ far. inr far)
      (or_cases (can_assign second s b) (later s b) past))
      (follows_assigned first before late r l s b h))
      (λ m. ⊎_elim
      (λ here. inl (or_right (assigns first s) (assigns second s) here))
      (λ past. inr past)
      (follows_assigned second mid later r m s b h))
      (Contains-either (readings signals first before late)
      (readings signals second mid later) r at)
  follows_assigned (assign pieces place blocking right) before later r at s b h =
      follows_here (assign pieces place blocking right) right before later r at s b h
  follows_assigned (branch place condition first second) before later r at s b h =
      let whole = branch place condition first second in
      let here = readings_of signals condition (assigns whole) before
      (either (can_assign whole) later) in
      ⊎_elim
      (λ l. ⊎_elim
      (λ k. follows_here whole condition before later r k s b h)
      (λ k. ⊎_elim (λ x. inl (or_left (assigns first s) (assigns second s) x)) (λ y.
      inr y) (follows_assigned first before later r k s b h))
      (Contains-either here (readings signals first before later) r l))
      (λ m. ⊎_elim (λ x. inl (or_right (assigns first s) (assigns second s) x)) (λ y. inr y)
      (follows_assigned second before later r m s b h))
      (Contains-either (here ++ readings signals first before later)
      (readings signals second before later) r at)

  pub followed_is_assigned : (body : FlatStatement) (r : Reading)
      → Contains (readings signals body no_bits no_bits) r
      → IsTrue (is_followed signals r) → IsTrue (assigns body r.name.signal)
  followed_is_assigned body r at h =
      let found = from_some (λ b.
      nat_le r.name.low b && nat_le b r.name.high && r.follows r.name.signal b)
      (range_with_len 0 (signal_width signals r.name.signal)) h in
      let b = found.0 in
      ⊎_elim (λ x. x) (λ y. absurd (false≢true y))
      (follows_assigned body no_bits no_bits r at r.name.signal b
      (second_of (nat_le r.name.low b && nat_le b r.name.high) (r.follows r.name.signal b) found.2))

  -- every target's assignment is `=`
  blocking_targets : (body : FlatStatement)
      → ((t : TargetForm) → Contains (targets body) t → IsTrue t.blocking)
      → IsTrue (all_blocking body)
  blocking_targets nothing each = refl
  blocking_targets (after first second) each = and_true (all_blocking first) (all_blocking second)
      (blocking_targets first (λ t at.
      each t (Contains-left (targets first) (targets second) t at)))
      (blocking_targets second (λ t at.
      each t (Contains-right (targets first) (targets second) t at)))
  blocking_targets (assign [] place blocking right) each = refl
  blocking_targets (assign (p ∷ pieces) place blocking right) each =
      each (record { piece = p; before = []; blocking = blocking })
      (Contains-head (record { piece = p; before = []; blocking = blocking })
      (targets_after (p ∷ []) pieces blocking))
  blocking_targets (branch place condition first second) each =
      and_true (all_blocking first) (all_blocking second)
      (blocking_targets first (λ t at.
      each t (Contains-left (targets first) (targets second) t at)))
      (blocking_targets second (λ t at.
      each t (Contains-right (targets first) (targets second) t at)))

  one_is_blocking : (body : FlatStatement) → IsTrue (is_one_assignment signals body) →
      IsTrue (all_blocking body)
  one_is_blocking (assign [] place blocking right) h = refl
  one_is_blocking (assign (p ∷ pieces) place blocking right) h =
      first_of blocking (list_all (is_whole signals) (p ∷ pieces)) h
  one_is_blocking _ h = absurd (false≢true h)

  -- the right side of the one assignment serves all that is assigned
  pub one_serves : (body : FlatStatement) → IsTrue (is_one_assignment signals body) → (r : Reading)
      → Contains (readings signals body no_bits no_bits) r
      → (t : ℕ) → IsTrue (assigns body t) → IsTrue (r.serves t)
  one_serves (assign pieces place blocking right) h r at t assigned =
      let whole = assign pieces place blocking right in
      let from = Contains-from_map
      (reading_of (assigns whole) no_bits (either (can_assign whole) no_bits))
      (reads signals right) r at in
      subst (λ (y : Reading). IsTrue (y.serves t)) from.2 assigned
  one_serves _ h r at t assigned = absurd (false≢true h)

  one_assigns_all : (body : FlatStatement) → IsTrue (is_one_assignment signals body) → (s b : ℕ)
      → IsTrue (assigns body s)
      → b < signal_width signals s
      → IsTrue (always_assigns body s b)
  one_assigns_all (assign pieces place blocking right) h s b assigned below =
      let found = from_some (λ (q : PieceForm). q.signal == s) pieces assigned in
      let p = found.0 in
      let whole = from_all (is_whole signals) pieces p
      (second_of blocking (list_all (is_whole signals) pieces) h) found.1 in
      let low = eqb-true p.low 0
      (first_of (p.low == 0) (p.high + 1 == signal_width signals p.signal) whole) in
      let high = eqb-true (p.high + 1) (signal_width signals p.signal)
      (second_of (p.low == 0) (p.high + 1 == signal_width signals p.signal) whole) in
      let is = eqb-true p.signal s found.2 in
      let width = ap (signal_width signals) is in
      some_from (has_bit s b) pieces p found.1
      (and_true ((p.signal == s) && nat_le p.low b) (nat_le b p.high)
      (and_true (p.signal == s) (nat_le p.low b) found.2 (le-leb p.low b (omega arith)))
      (le-leb b p.high (omega arith)))
  one_assigns_all _ h s b assigned below = absurd (false≢true h)

module _ (design : FlatDesign) (is_sound : IsTrue (sound design))
    (admitted : IsAdmitted design) where
  pub one_kind : (k : ProcessKind) (body : FlatStatement) → IsFalse (is_block k)
      → IsFalse (is_clocked k) → IsTrue (kind_sound design k body)
      → IsTrue (is_one_assignment design.signals body)
  one_kind continuous body h k is = is
  one_kind port_in body h k is = is
  one_kind port_out body h k is = is
  one_kind combinational body h k is = absurd (false≢true (sym h))
  one_kind (clocked clock) body h k is = absurd (false≢true (sym k))
  one_kind (release point) body h k is = second_of _ (is_one_assignment design.signals body) is

  in_blocks : (p : ProcessForm) → Contains (processes_of design) p → IsTrue (is_block p.kind) →
      Contains (blocks design) p
  in_blocks p at block = Contains-filter (λ (q : ProcessForm). is_block q.kind) design.processes p
      (is_process design is_sound admitted p at) block

  in_phase : (p : ProcessForm) → Contains (processes_of design) p → IsTrue (is_block p.kind)
      → (r : Reading)
      → Contains (process_readings design p) r → IsFalse (is_out_of_phase design.signals p.body r)
  in_phase p at block r r_at =
      none_pass phase_breach (is_out_of_phase design.signals p.body) (process_readings design p)
      (empty_part (λ (q : ProcessForm). map phase_breach
      (filter (is_out_of_phase design.signals q.body) (process_readings design q))) (blocks design)
      (phases design is_sound admitted) p (in_blocks p at block)) r r_at

  -- what a block reads of what it assigns is assigned on every path to the read
  none_unassigned : (p : ProcessForm) → Contains (processes_of design) p → IsTrue (is_block p.kind)
      → (r : Reading) → Contains (process_readings design p) r
      → IsTrue (assigns p.body r.name.signal) → IsFalse (is_unassigned design.signals r)
  none_unassigned p at block r r_at own = none_found (is_unassigned design.signals r) (λ missing.
      false≢true (sym (in_phase p at block r r_at)
      ∙ and_true (assigns p.body r.name.signal) (is_unassigned design.signals r) own missing))

  -- ---- what is followed

  -- what an earlier read names is assigned
  pub earlier_is_assigned : (p : ProcessForm) (r : Reading) → Contains (process_readings design p) r
      → IsTrue (is_earlier design p r)
      → IsTrue (assigns p.body r.name.signal)
  earlier_is_assigned p r r_at earlier =
      followed_is_assigned design.signals p.body r r_at
      (second_of (is_block p.kind) (is_followed design.signals r) earlier)

  -- a target that the process assigns, with all that it follows
  module _ (p : ProcessForm) (at : Contains (processes_of design) p) (t : ℕ)
      (assigned : IsTrue (assigns p.body t)) where
    abbrev n : ℕ
    n = length design.signals

    begins : (k : ℕ) → Contains (t ∷ []) k → k < n
    begins k k_at = ⊎_elim
        (λ e. subst (λ z. z < n) e (ltb-true t n
        (assigned_is_signal design.signals p.body (body_is_sound design is_sound admitted p at) t
        assigned)))
        (λ l. absurd (Contains-nil k l)) (Contains-cases t [] k k_at)

    -- the target follows itself
    pub follows_itself : Contains (followed design p t) t
    follows_itself = least_set_has n (wants design p) (t ∷ []) begins t (Contains-head t [])

    -- and what an earlier read names for a signal that it follows
    pub follows_earlier : (w : ℕ) → Contains (followed design p t) w → (r : Reading)
        → Contains (process_readings design p) r → IsTrue (r.serves w)
        → IsTrue (is_earlier design p r) → Contains (followed design p t) r.name.signal
    follows_earlier w w_at r r_at served earlier =
        let x = r.name.signal in
        least_set_closed n (wants design p) (t ∷ []) begins w x w_at
        (some_from (λ (z : Reading). is_earlier design p z && z.serves w && (z.name.signal == x))
        (process_readings design p) r r_at
        (and_true (is_earlier design p r && r.serves w) (x == x)
        (and_true (is_earlier design p r) (r.serves w) earlier served) (eq-eqb x x refl)))
        (ltb-true x n (readings_signals design.signals p.body no_bits no_bits
        (body_is_sound design is_sound admitted p at) r r_at))

    -- all that is followed is assigned
    pub follows_targets : (w : ℕ) → Contains (followed design p t) w → IsTrue (assigns p.body w)
    follows_targets w w_at =
        least_set_least n (wants design p) (t ∷ []) begins (λ z. IsTrue (assigns p.body z))
        (λ k k_at. ⊎_elim (λ e. subst (λ z. IsTrue (assigns p.body z)) e assigned) (λ l.
        absurd (Contains-nil k l)) (Contains-cases t [] k k_at))
        (λ m k own wanted below.
        let found = from_some (λ (z : Reading).
        is_earlier design p z && z.serves m && (z.name.signal == k)) (process_readings design p)
        wanted in
        let r = found.0 in
        let front = is_earlier design p r && r.serves m in
        subst (λ z. IsTrue (assigns p.body z))
        (eqb-true r.name.signal k (second_of front (r.name.signal == k) found.2))
        (earlier_is_assigned p r found.1 (first_of (is_earlier design p r) (r.serves m)
        (first_of front (r.name.signal == k) found.2))))
        w w_at

    -- what a settled read names for a signal that the target follows is read for the target
    pub settled_is_read : (w : ℕ) → Contains (followed design p t) w → (r : Reading)
        → Contains (process_readings design p) r → IsTrue (r.serves w)
        → IsFalse (is_earlier design p r) → IsTrue (is_read_for design t r.name.signal)
    settled_is_read w w_at r r_at served late =
        let x = r.name.signal in
        let targets_of = followed design p t in
        let settled = and_true (not (is_earlier design p r) && list_any r.serves targets_of)
        (x == x)
        (and_true (not (is_earlier design p r)) (list_any r.serves targets_of) (ap not late)
        (some_from r.serves targets_of w w_at served))
        (eq-eqb x x refl) in
        or_right (is_register design t && (t == x))
        (list_any (λ q. reads_settled design q (followed design q t) x)
        (drivers (processes_of design) t))
        (some_from (λ q. reads_settled design q (followed design q t) x)
        (drivers (processes_of design) t) p
        (drives design is_sound admitted p t at assigned)
        (some_from (λ (z : Reading).
        not (is_earlier design p z) && list_any z.serves targets_of && (z.name.signal == x))
        (process_readings design p) r r_at settled))

    -- and lies below it
    pub settled_is_lower : IsFalse (is_clocked p.kind) → (w : ℕ)
        → Contains (followed design p t) w → (r : Reading)
        → Contains (process_readings design p) r → IsTrue (r.serves w)
        → IsFalse (is_earlier design p r) → depth design r.name.signal < depth design t
    settled_is_lower unclocked w w_at r r_at served late =
        reads_are_lower design admitted.ordered t r.name.signal
        (targets_are_combinational design is_sound admitted p t at unclocked assigned)
        (ltb-true r.name.signal n
        (readings_signals design.signals p.body no_bits no_bits
        (body_is_sound design is_sound admitted p at) r r_at))
        (settled_is_read w w_at r r_at served late)

  is_one : (p : ProcessForm) → Contains (processes_of design) p → IsFalse (is_clocked p.kind)
      → IsFalse (is_block p.kind)
      → IsTrue (is_one_assignment design.signals p.body)
  is_one p at unclocked no_block = one_kind p.kind p.body no_block unclocked
      (first_of (kind_sound design p.kind p.body) (statement_sound design.signals p.body)
      (process_is_sound design is_sound admitted p (is_process design is_sound admitted p at)))

  -- a read of what the process assigns comes after an assignment to each bit that is read
  pub own_is_assigned : (p : ProcessForm) (t : ℕ) → Contains (processes_of design) p
      → IsFalse (is_clocked p.kind)
      → IsTrue (assigns p.body t)
      → (r : Reading) → Contains (process_readings design p) r → IsTrue (r.serves t)
      → IsTrue (assigns p.body r.name.signal)
      → (b : ℕ) → r.name.low ≤ b → b ≤ r.name.high → b < signal_width design.signals r.name.signal
      → IsTrue (r.assigned r.name.signal b)
  own_is_assigned p t at unclocked assigned r r_at served own b from to below = ⊎_elim
      (λ block. negated_false (r.assigned r.name.signal b)
      (none_found (not (r.assigned r.name.signal b)) (λ missing.
      false≢true (sym (none_unassigned p at block r r_at own)
      ∙ some_from (λ c. nat_le r.name.low c && nat_le c r.name.high
      && not (r.assigned r.name.signal c))
      (range_with_len 0 (signal_width design.signals r.name.signal)) b
      (range_has (signal_width design.signals r.name.signal) b below)
      (and_true (nat_le r.name.low b && nat_le b r.name.high) (not (r.assigned r.name.signal b))
      (and_true (nat_le r.name.low b) (nat_le b r.name.high) (le-leb r.name.low b from)
      (le-leb b r.name.high to)) missing)))))
      (λ no_block.
      let self = settled_is_lower p at r.name.signal own unclocked r.name.signal
      (follows_itself p at r.name.signal own) r r_at
      (one_serves design.signals p.body (is_one p at unclocked no_block) r r_at
      r.name.signal own)
      (ap (λ z. z && is_followed design.signals r) no_block) in
      absurd (omega arith))
      (either_way (is_block p.kind))

  -- every path through the process assigns every bit of what it assigns
  pub assigns_all : (p : ProcessForm) (s b : ℕ) → Contains (processes_of design) p
      → IsFalse (is_clocked p.kind) → IsTrue (assigns p.body s)
      → b < signal_width design.signals s → IsTrue (always_assigns p.body s b)
  assigns_all p s b at unclocked assigned below = ⊎_elim
      (λ block.
      let inside = assigned_is_signal design.signals p.body
      (body_is_sound design is_sound admitted p at) s assigned in
      let fine = none_pass (breach 605 p.place) (is_latched design.signals p.body)
      (range_with_len 0 (length design.signals))
      (empty_part (λ (q : ProcessForm). map (breach 605 q.place)
      (filter (is_latched design.signals q.body) (range_with_len 0 (length design.signals))))
      (blocks design)
      (no_latches design is_sound admitted) p (in_blocks p at block)) s
      (range_has (length design.signals) s (ltb-true s (length design.signals) inside)) in
      negated_false (always_assigns p.body s b)
      (none_found (not (always_assigns p.body s b)) (λ missing.
      false≢true (sym fine ∙ and_true (assigns p.body s)
      (list_any (λ c. not (always_assigns p.body s c))
      (range_with_len 0 (signal_width design.signals s))) assigned
      (some_from (λ c. not (always_assigns p.body s c))
      (range_with_len 0 (signal_width design.signals s)) b
      (range_has (signal_width design.signals s) b below) missing)))))
      (λ no_block. one_assigns_all design.signals p.body (is_one p at unclocked no_block) s b
      assigned below)
      (either_way (is_block p.kind))

  block_sign : (k : ProcessKind) (b : Bool) → IsTrue (is_block k) → IsFalse (is_wrong_sign k b) →
      IsTrue b
  block_sign combinational b h fine = negated_false b fine
  block_sign continuous b h fine = absurd (false≢true h)
  block_sign port_in b h fine = absurd (false≢true h)
  block_sign port_out b h fine = absurd (false≢true h)
  block_sign (clocked clock) b h fine = absurd (false≢true h)
  block_sign (release point) b h fine = absurd (false≢true h)

  -- every assignment of a process that is not clocked is `=`
  pub is_blocking : (p : ProcessForm) → Contains (processes_of design) p →
      IsFalse (is_clocked p.kind) → IsTrue (all_blocking p.body)
  is_blocking p at unclocked = ⊎_elim
      (λ block. blocking_targets design.signals p.body (λ t t_at.
      let right = none_pass target_breach (is_wrong_target design p.kind) (targets p.body)
      (empty_part (λ (q : ProcessForm).
      map target_breach (filter (is_wrong_target design q.kind) (targets q.body)))
      design.processes
      (no_wrong_assigns design is_sound admitted) p (is_process design is_sound admitted p at))
      t t_at in
      block_sign p.kind t.blocking block
      (or_none_left (is_wrong_sign p.kind t.blocking) _ (or_none_left _ _ right))))
      (λ no_block. one_is_blocking design.signals p.body (is_one p at unclocked no_block))
      (either_way (is_block p.kind))
