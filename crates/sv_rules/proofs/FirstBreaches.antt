-- The first breach of a rule is the first of the design, where no rule before it is broken.
use Rattle.std.proofs.Common.{◌≡◌, ◌⊎◌, inl, inr, ⊎_elim, ℕ, ◌<◌, Bool, ◌==◌, ◌&&◌, not, nat_lt}
use Rattle.std.proofs.Common.{ltb-true, List, [], ◌∷◌, ◌++◌, length, map, refl, sym, ap, ap₂, subst}
use Rattle.std.proofs.Common.{arith, Some, None, Option, ◌+◌}
use Rattle.std.specs.Prelude.{IsTrue, IsFalse, IfSome, Contains, filter, option_map}
use Rattle.std.specs.Prelude.{unwrap_or}
use Rattle.std.specs.List.{list_all, filter_map, cons_option}
use Rattle.std.proofs.lemmas.Bool.{eqb-true}
use Rattle.sv_system.proofs.Lists.{Contains-head, Contains-later, Contains-nil, Contains-cases}
use Rattle.sv_system.proofs.Lists.{Contains-from_map}
use Rattle.sv_num.specs.declared.faults.Place.{Place}
use Rattle.sv_flat.specs.Admission.{breaches, Breaks, IsFirstBreach}
use Rattle.sv_flat.specs.Assigned.{assigns}
use Rattle.sv_flat.specs.Assignments.{TargetForm, targets, targets_after, is_wrong_target}
use Rattle.sv_flat.specs.Assignments.{target_breach, wrong_assigns}
use Rattle.sv_flat.specs.Blocks.{blocks, is_latched, latches, is_unassigned, is_out_of_phase}
use Rattle.sv_flat.specs.Blocks.{phase_breach, phase_faults}
use Rattle.sv_flat.specs.Breaches.{Breach, breach, then_by, comes_before}
use Rattle.sv_flat.specs.Clocks.{is_edge, makes_clock, clocks, is_proper_clock}
use Rattle.sv_flat.specs.Design.{SignalForm, PieceForm, FlatStatement, nothing, after, assign}
use Rattle.sv_flat.specs.Design.{branch, ProcessForm, FlatDesign}
use Rattle.sv_flat.specs.Drivers.{clock_faults, extra_driver, driver_fault, driver_faults}
use Rattle.sv_flat.specs.Drivers.{is_undriven, undriven}
use Rattle.sv_flat.specs.Loops.{reads_along, all_differ, IsLoop}
use Rattle.sv_flat.specs.Processes.{is_block, declared_at, signal_numbers, signals_that}
use Rattle.sv_flat.specs.Readings.{Reading, readings, no_bits}
use Rattle.sv_flat.specs.Reads.{is_combinational}
use Rattle.sv_flat.specs.Soundness.{piece_fits, well_formed, kind_sound, statement_sound}
use Rattle.sv_flat.specs.Soundness.{sound}
use Rattle.sv_flat.proofs.AdmittedFacts.{some_is_some, assigned_is_signal}
use Rattle.sv_flat.proofs.Depths.{first_of, second_of, from_all, is_below}
use Rattle.sv_flat.proofs.LeastSets.{or_cases, Contains-from_filter, those_below}
use Rattle.sv_flat.proofs.LeastSets.{least_set_below}
use Rattle.sv_flat.proofs.Members.{Contains-left, Contains-either, from_flat_map}
use Rattle.sv_flat.proofs.SameRuns.{none_found}
use Rattle.sv_rules.specs.declared.found.Found.{Found}
use Rattle.sv_rules.specs.First.{breach_of, IsFirst, FindsFirst}
use Rattle.sv_rules.specs.Refusals.{driving_breaches}
use Rattle.sv_rules.proofs.PhaseFacts.{in_range}
use Rattle.sv_rules.proofs.Sound.{process_is_sound, piece_is_signal}

-- ---- where members of lists come from

-- what a member of the rest has, a member of the whole has
further : {X : Type 0} (P : X → Type 0) (x : X) (xs : List X) → (z : X) × Contains xs z × P z →
    (z : X) × Contains (x ∷ xs) z × P z
further P x xs found = (found.0, Contains-later x xs found.0 found.1, found.2)

pub from_option : {Y : Type 0} (o : Option Y) (ys : List Y) (y : Y) → Contains (cons_option o ys) y
    → (o ≡ Some y) ⊎ Contains ys y
from_option None ys y at = inr at
from_option (Some z) ys y at = ⊎_elim (λ e. inl (ap Some e)) (λ l. inr l) (Contains-cases z ys y at)

pub from_filter_map : {X Y : Type 0} (f : X → Option Y) (xs : List X) (y : Y)
    → Contains (filter_map f xs) y → (x : X) × Contains xs x × (f x ≡ Some y)
from_filter_map f [] y at = absurd (Contains-nil y at)
from_filter_map f (x ∷ xs) y at = ⊎_elim
    (λ e. (x, Contains-head x xs, e))
    (λ r. further (λ z. f z ≡ Some y) x xs (from_filter_map f xs y r))
    (from_option (f x) (filter_map f xs) y at)

-- what is made of some element is made of one
pub made_of : {X Y : Type 0} (f : X → Y) (o : Option X) (y : Y) → option_map f o ≡ Some y →
    (x : X) × (f x ≡ y)
made_of f None y e = absurd (some_is_some y (sym e))
made_of f (Some x) y e = (x, ap (λ o. unwrap_or o (f x)) e)

only : {X : Type 0} (x y : X) → Contains (x ∷ []) y → x ≡ y
only x y at = ⊎_elim (λ e. e) (λ l. absurd (Contains-nil y l)) (Contains-cases x [] y at)

-- ---- the breaches of each rule

-- the breach is of the rule with this number, with signals of the design
record IsOf (design : FlatDesign) (number : ℕ) (b : Breach) : Type 0 where
  is_of : b.number ≡ number
  has_signals : (s : ℕ) → Contains b.signals s → s < length design.signals

one_is_of : (design : FlatDesign) (number : ℕ) (place : Place) (s : ℕ) (b : Breach)
    → s < length design.signals → breach number place s ≡ b → IsOf design number b
one_is_of design number place s b inside is = subst (IsOf design number) is (record {
  is_of = refl;
  has_signals = λ t at. subst (λ z. z < length design.signals) (only s t at) inside;
})

after_has : (before pieces : List PieceForm) (blocking : Bool) (t : TargetForm)
    → Contains (targets_after before pieces blocking) t → Contains pieces t.piece
after_has before [] blocking t at = absurd (Contains-nil t at)
after_has before (p ∷ pieces) blocking t at = ⊎_elim
    (λ e. subst (Contains (p ∷ pieces)) (ap (λ (u : TargetForm). u.piece) e)
    (Contains-head p pieces))
    (λ l. Contains-later p pieces t.piece (after_has (p ∷ before) pieces blocking t l))
    (Contains-cases (record { piece = p; before = before; blocking = blocking })
    (targets_after (p ∷ before) pieces blocking) t at)

-- the targets of a sound statement are signals
target_is_signal : (signals : List SignalForm) (body : FlatStatement)
    → IsTrue (statement_sound signals body) → (t : TargetForm) → Contains (targets body) t
    → t.piece.signal < length signals
target_is_signal signals nothing h t at = absurd (Contains-nil t at)
target_is_signal signals (after first second) h t at = ⊎_elim
    (λ l. target_is_signal signals first
    (first_of (statement_sound signals first) (statement_sound signals second) h) t l)
    (λ r. target_is_signal signals second
    (second_of (statement_sound signals first) (statement_sound signals second) h) t r)
    (Contains-either (targets first) (targets second) t at)
target_is_signal signals (assign pieces place blocking right) h t at =
    piece_is_signal signals right t.piece
    (from_all (piece_fits signals right) pieces t.piece
    (second_of (well_formed signals right) (list_all (piece_fits signals right) pieces) h)
    (after_has [] pieces blocking t at))
target_is_signal signals (branch place condition first second) h t at =
    let front = first_of (well_formed signals condition && statement_sound signals first)
    (statement_sound signals second) h in
    ⊎_elim
    (λ l. target_is_signal signals first
    (second_of (well_formed signals condition) (statement_sound signals first) front) t l)
    (λ r. target_is_signal signals second
    (second_of (well_formed signals condition && statement_sound signals first)
    (statement_sound signals second) h) t r)
    (Contains-either (targets first) (targets second) t at)

not_lower : (o a : ℕ) (next : Bool) → a < o → IsFalse (then_by o a next)
not_lower o a next less = none_found (then_by o a next) (λ h. ⊎_elim
    (λ l. let k = ltb-true o a l in omega arith)
    (λ r. let e = eqb-true o a (first_of (o == a) next r) in omega arith)
    (or_cases (nat_lt o a) ((o == a) && next) h))

-- ---- empty lists

pub both_empty : {X : Type 0} (xs ys : List X) → xs ≡ [] → ys ≡ [] → xs ++ ys ≡ []
both_empty xs ys first second = ap₂ (λ us vs. us ++ vs) first second

three_empty : {X : Type 0} (xs ys zs : List X) → xs ≡ [] → ys ≡ [] → zs ≡ [] → xs ++ ys ++ zs ≡ []
three_empty xs ys zs first second third =
    both_empty (xs ++ ys) zs (both_empty xs ys first second) third

-- what a breach of a rule on processes tells of
module _ (design : FlatDesign) where
  pub wrong_assign_at : (b : Breach) → Contains (wrong_assigns design) b
      → (p : ProcessForm) × Contains design.processes p × (t : TargetForm)
      × Contains (filter (is_wrong_target design p.kind) (targets p.body)) t
      × (target_breach t ≡ b)
  wrong_assign_at b at =
      let process = from_flat_map (λ (p : ProcessForm).
      map target_breach (filter (is_wrong_target design p.kind) (targets p.body)))
      design.processes b at in
      let p = process.0 in
      let target = Contains-from_map target_breach
      (filter (is_wrong_target design p.kind) (targets p.body)) b process.2 in
      (p, process.1, target.0, target.1, target.2)

  pub latch_at : (b : Breach) → Contains (latches design) b
      → (p : ProcessForm) × Contains (blocks design) p × (s : ℕ)
      × Contains (signals_that design (is_latched design.signals p.body)) s
      × (breach 605 p.place s ≡ b)
  latch_at b at =
      let block = from_flat_map (λ (p : ProcessForm).
      map (breach 605 p.place) (signals_that design (is_latched design.signals p.body)))
      (blocks design) b at in
      let p = block.0 in
      let signal = Contains-from_map (breach 605 p.place)
      (signals_that design (is_latched design.signals p.body)) b block.2 in
      (p, block.1, signal.0, signal.1, signal.2)

  pub phase_fault_at : (b : Breach) → Contains (phase_faults design) b
      → (p : ProcessForm) × Contains (blocks design) p × (r : Reading)
      × Contains (filter (is_out_of_phase design.signals p.body)
      (readings design.signals p.body no_bits no_bits)) r × (phase_breach r ≡ b)
  phase_fault_at b at =
      let block = from_flat_map (λ (p : ProcessForm). map phase_breach
      (filter (is_out_of_phase design.signals p.body)
      (readings design.signals p.body no_bits no_bits)))
      (blocks design) b at in
      let p = block.0 in
      let read = Contains-from_map phase_breach
      (filter (is_out_of_phase design.signals p.body)
      (readings design.signals p.body no_bits no_bits)) b block.2 in
      (p, block.1, read.0, read.1, read.2)

module _ (design : FlatDesign) (is_sound : IsTrue (sound design)) where
  body_is_sound : (p : ProcessForm) → Contains design.processes p →
      IsTrue (statement_sound design.signals p.body)
  body_is_sound p at =
      second_of (kind_sound design p.kind p.body) (statement_sound design.signals p.body)
      (process_is_sound design is_sound p at)

  wrong_assigns_are : (b : Breach) → Contains (wrong_assigns design) b → IsOf design 601 b
  wrong_assigns_are b at =
      let found = wrong_assign_at design b at in
      let p = found.0 in
      let t = found.2 in
      one_is_of design 601 t.piece.place t.piece.signal b
      (target_is_signal design.signals p.body (body_is_sound p found.1) t
      (Contains-from_filter (is_wrong_target design p.kind) (targets p.body) t found.3).1)
      found.4

  clock_is_signal : (s : ℕ) → Contains (clocks design) s → s < length design.signals
  clock_is_signal s at =
      least_set_below (length design.signals) (makes_clock design)
      (signals_that design (is_edge design)) (λ k h.
      those_below (length design.signals) (is_edge design) k h) s at

  clock_faults_are : (b : Breach) → Contains (clock_faults design) b → IsOf design 602 b
  clock_faults_are b at =
      let clock = Contains-from_map (λ s. breach 602 (declared_at design s) s)
      (filter (λ s. not (is_proper_clock design s)) (clocks design)) b at in
      one_is_of design 602 (declared_at design clock.0) clock.0 b
      (clock_is_signal clock.0
      (Contains-from_filter (λ s. not (is_proper_clock design s)) (clocks design) clock.0
      clock.1).1)
      clock.2

  driver_faults_are : (b : Breach) → Contains (driver_faults design) b → IsOf design 603 b
  driver_faults_are b at =
      let signal = from_filter_map (driver_fault design) (signal_numbers design) b at in
      let s = signal.0 in
      let process = made_of (λ (p : ProcessForm). breach 603 p.place s) (extra_driver design s) b
      signal.2 in
      one_is_of design 603 process.0.place s b
      (in_range (length design.signals) s signal.1) process.1

  undriven_are : (b : Breach) → Contains (undriven design) b → IsOf design 604 b
  undriven_are b at =
      let signal = Contains-from_map (λ s. breach 604 (declared_at design s) s)
      (signals_that design (is_undriven design)) b at in
      one_is_of design 604 (declared_at design signal.0) signal.0 b
      (those_below (length design.signals) (is_undriven design) signal.0 signal.1) signal.2

  latches_are : (b : Breach) → Contains (latches design) b → IsOf design 605 b
  latches_are b at =
      let found = latch_at design b at in
      let p = found.0 in
      one_is_of design 605 p.place found.2 b
      (those_below (length design.signals) (is_latched design.signals p.body) found.2 found.3)
      found.4

  phase_faults_are : (b : Breach) → Contains (phase_faults design) b → IsOf design 606 b
  phase_faults_are b at =
      let found = phase_fault_at design b at in
      let p = found.0 in
      let r = found.2 in
      let process =
      (Contains-from_filter (λ (q : ProcessForm). is_block q.kind) design.processes p
      found.1).1 in
      let wrong =
      (Contains-from_filter (is_out_of_phase design.signals p.body)
      (readings design.signals p.body no_bits no_bits) r found.3).0 in
      one_is_of design 606 r.name.place r.name.signal b
      (ltb-true r.name.signal (length design.signals)
      (assigned_is_signal design.signals p.body (body_is_sound p process) r.name.signal
      (first_of (assigns p.body r.name.signal)
      (is_unassigned design.signals r) wrong)))
      found.4

  loop_is : (b : Breach) → IsLoop design b → IsOf design 607 b
  loop_is b (first, signals, circle, is) = record {
    is_of = ap (λ (c : Breach). c.number) is;
    has_signals = λ s at.
        let combinational = first_of
        (reads_along design first signals first
        && list_all (is_combinational design) (first ∷ signals) && list_all (nat_lt first) signals)
        (all_differ signals) circle in
        is_below design s
        (from_all (is_combinational design) (first ∷ signals) s
        (second_of (reads_along design first signals first)
        (list_all (is_combinational design) (first ∷ signals))
        (first_of
        (reads_along design first signals first
        && list_all (is_combinational design) (first ∷ signals))
        (list_all (nat_lt first) signals) combinational))
        (subst (λ (c : Breach). Contains c.signals s) is at));
  }

  -- every breach tells of signals of the design
  pub breach_has_signals : (b : Breach) → Breaks design b → (s : ℕ) → Contains b.signals s →
      s < length design.signals
  breach_has_signals b broken = ⊎_elim
      (λ l. ⊎_elim
      (λ l. ⊎_elim
      (λ l. ⊎_elim
      (λ l. ⊎_elim
      (λ l. ⊎_elim
      (λ l. (wrong_assigns_are b l).has_signals)
      (λ r. (clock_faults_are b r).has_signals)
      (Contains-either (wrong_assigns design) (clock_faults design) b l))
      (λ r. (driver_faults_are b r).has_signals)
      (Contains-either (wrong_assigns design ++ clock_faults design) (driver_faults design) b l))
      (λ r. (undriven_are b r).has_signals)
      (Contains-either (wrong_assigns design ++ clock_faults design ++ driver_faults design)
      (undriven design) b l))
      (λ r. (latches_are b r).has_signals)
      (Contains-either (driving_breaches design) (latches design) b l))
      (λ r. (phase_faults_are b r).has_signals)
      (Contains-either (driving_breaches design ++ latches design) (phase_faults design) b l))
      (λ loop. (loop_is b loop).has_signals)
      broken

  -- ---- first ones

  -- a breach of a rule with a higher number does not come before
  higher : (o a : Breach) → a.number < o.number → IsFalse (comes_before o a)
  higher o a less = not_lower o.number a.number _ less

  -- what comes after a rule's breaches is of higher rules
  followed_by : (number : ℕ) (xs ys : List Breach) (a : Breach)
      → ((b : Breach) → Contains ys b → IsOf design number b) → a.number < number
      → IsFirst xs a → IsFirst (xs ++ ys) a
  followed_by number xs ys a are less first = record {
    among = Contains-left xs ys a first.among;
    before = λ o at. ⊎_elim
        (λ l. first.before o l)
        (λ r. higher o a (subst (λ n. a.number < n) (sym (are o r).is_of) less))
        (Contains-either xs ys o at);
  }

  after_none : (xs ys : List Breach) (a : Breach) → xs ≡ [] → IsFirst ys a → IsFirst (xs ++ ys) a
  after_none xs ys a none first = subst (λ zs. IsFirst (zs ++ ys) a) (sym none) first

  whole : (a : Breach) → a.number < 607 → IsFirst (breaches design) a → IsFirstBreach design a
  whole a less first = record {
    broken = inl first.among;
    before = λ o broken. ⊎_elim
        (λ l. first.before o l)
        (λ loop. higher o a (subst (λ n. a.number < n) (sym (loop_is o loop).is_of) less))
        broken;
  }

  -- the first of some breaches is the design's, where its number is below this one
  abbrev IsFirstBelow : ℕ → List Breach → Type 0
  IsFirstBelow number bs =
      (a : Breach) → a.number < number → IsFirst bs a → IsFirstBreach design a

  -- as much holds of the breaches before those of the rule
  front : (number : ℕ) (xs ys : List Breach)
      → ((b : Breach) → Contains ys b → IsOf design number b)
      → IsFirstBelow (number + 1) (xs ++ ys) → IsFirstBelow number xs
  front number xs ys are later a less first =
      later a (omega arith) (followed_by number xs ys a are less first)

  to_blocks : IsFirstBelow 606 (driving_breaches design ++ latches design)
  to_blocks = front 606 (driving_breaches design ++ latches design) (phase_faults design)
      phase_faults_are whole

  to_drivers : IsFirstBelow 605 (driving_breaches design)
  to_drivers = front 605 (driving_breaches design) (latches design) latches_are to_blocks

  to_extra :
      IsFirstBelow 604 (wrong_assigns design ++ clock_faults design ++ driver_faults design)
  to_extra = front 604 (wrong_assigns design ++ clock_faults design ++ driver_faults design)
      (undriven design) undriven_are to_drivers

  to_clocks : IsFirstBelow 603 (wrong_assigns design ++ clock_faults design)
  to_clocks = front 603 (wrong_assigns design ++ clock_faults design) (driver_faults design)
      driver_faults_are to_extra

  to_assigns : IsFirstBelow 602 (wrong_assigns design)
  to_assigns = front 602 (wrong_assigns design) (clock_faults design) clock_faults_are to_clocks

  -- ---- what was found first, where nothing breaks the rules before it

  -- nothing breaks a rule where nothing was found
  pub found_none : (number : ℕ) (bs : List Breach) (found : Option Found)
      → FindsFirst number bs found → found ≡ None → bs ≡ []
  found_none number bs found h none = subst (FindsFirst number bs) none h

  -- what may have been found is the design's first breach
  abbrev pub FindsFirstOf : (number : ℕ) → Option Found → Type 0
  FindsFirstOf number found = IfSome found (λ f. IsFirstBreach design (breach_of number f))

  pub first_assign : (found : Option Found) → FindsFirst 601 (wrong_assigns design) found →
      FindsFirstOf 601 found
  first_assign None h = tt
  first_assign (Some f) h = to_assigns (breach_of 601 f) (omega arith) h

  pub first_clock : (wrong : Option Found) → FindsFirst 601 (wrong_assigns design) wrong
      → wrong ≡ None → (found : Option Found) → FindsFirst 602 (clock_faults design) found
      → FindsFirstOf 602 found
  first_clock wrong wrong_is no_wrong None h = tt
  first_clock wrong wrong_is no_wrong (Some f) h = to_clocks (breach_of 602 f) (omega arith)
      (after_none (wrong_assigns design) (clock_faults design) (breach_of 602 f)
      (found_none 601 (wrong_assigns design) wrong wrong_is no_wrong) h)

  -- nothing was found that breaks the rules of assignments and clocks
  module _ (wrong clock : Option Found)
      (wrong_is : FindsFirst 601 (wrong_assigns design) wrong) (no_wrong : wrong ≡ None)
      (clock_is : FindsFirst 602 (clock_faults design) clock) (no_clock : clock ≡ None) where
    none_assigned : wrong_assigns design ≡ []
    none_assigned = found_none 601 (wrong_assigns design) wrong wrong_is no_wrong

    none_clocked : clock_faults design ≡ []
    none_clocked = found_none 602 (clock_faults design) clock clock_is no_clock

    pub first_extra : (found : Option Found) → FindsFirst 603 (driver_faults design) found →
        FindsFirstOf 603 found
    first_extra None h = tt
    first_extra (Some f) h = to_extra (breach_of 603 f) (omega arith)
        (after_none (wrong_assigns design ++ clock_faults design) (driver_faults design)
        (breach_of 603 f)
        (both_empty (wrong_assigns design) (clock_faults design) none_assigned none_clocked) h)

    pub first_lacking : (extra : Option Found) → FindsFirst 603 (driver_faults design) extra
        → extra ≡ None → (found : Option Found) → FindsFirst 604 (undriven design) found
        → FindsFirstOf 604 found
    first_lacking extra extra_is no_extra None h = tt
    first_lacking extra extra_is no_extra (Some f) h = to_drivers (breach_of 604 f) (omega arith)
        (after_none (wrong_assigns design ++ clock_faults design ++ driver_faults design)
        (undriven design) (breach_of 604 f)
        (three_empty (wrong_assigns design) (clock_faults design) (driver_faults design)
        none_assigned none_clocked
        (found_none 603 (driver_faults design) extra extra_is no_extra)) h)

  pub first_latched : (found : Option Found) → driving_breaches design ≡ []
      → FindsFirst 605 (latches design) found → FindsFirstOf 605 found
  first_latched None none h = tt
  first_latched (Some f) none h = to_blocks (breach_of 605 f) (omega arith)
      (after_none (driving_breaches design) (latches design) (breach_of 605 f) none h)

  pub first_phase : (found : Option Found) → driving_breaches design ≡ [] → latches design ≡ []
      → FindsFirst 606 (phase_faults design) found → FindsFirstOf 606 found
  first_phase None none kept h = tt
  first_phase (Some f) none kept h = whole (breach_of 606 f) (omega arith)
      (after_none (driving_breaches design ++ latches design) (phase_faults design)
      (breach_of 606 f) (both_empty (driving_breaches design) (latches design) none kept) h)
