-- What the rules say of the processes of a sound design that keeps them.
use Rattle.std.proofs.Common.{◌≡◌, ℕ, zero, suc, ◌-◌, ◌<◌, Bool, true, false, cond, not, ◌&&◌, ◌||◌}
use Rattle.std.proofs.Common.{◌==◌, nat_lt, nat_le, leb-true, ltb-true, lt-ltb, List, [], ◌∷◌, ◌++◌}
use Rattle.std.proofs.Common.{length, map, ⊎_elim, refl, sym, ap, subst, ◌∙◌, arith, Some, None}
use Rattle.std.proofs.Common.{Option}
use Rattle.std.specs.Prelude.{Contains, IsTrue, IsFalse, filter, flat_map, slice_get, is_none}
use Rattle.std.specs.Prelude.{option_map}
use Rattle.std.specs.List.{list_any, list_all, filter_map, cons_option, range_with_len}
use Rattle.std.proofs.lemmas.Bool.{false≢true, or_left, eqb-true}
use Rattle.sv_system.proofs.Lists.{Contains-head, Contains-later, Contains-nil, Contains-cases}
use Rattle.sv_system.proofs.Lists.{Contains-filter, Contains-map}
use Rattle.sv_flat.specs.Design.{SignalForm, PieceForm, FlatStatement, nothing, after, assign}
use Rattle.sv_flat.specs.Design.{branch, ProcessKind, continuous, port_in, port_out, combinational}
use Rattle.sv_flat.specs.Design.{clocked, release, ProcessForm, InvariantForm, FlatDesign}
use Rattle.sv_flat.specs.Values.{signal_of, signal_width, expression_width}
use Rattle.sv_flat.specs.Soundness.{is_one_to, is_signal, is_part_of, piece_fits, well_formed}
use Rattle.sv_flat.specs.Soundness.{statement_sound, kind_sound, process_sound, map_sound}
use Rattle.sv_flat.specs.Soundness.{label_sound, signal_sound, invariant_sound, sound}
use Rattle.sv_flat.specs.Assigned.{assigns}
use Rattle.sv_flat.specs.Processes.{is_clocked, is_top_input, is_register, declared_at}
use Rattle.sv_flat.specs.Processes.{signal_numbers, drivers}
use Rattle.sv_flat.specs.Clocks.{is_port_in, whole_link, link_in, clocks, is_clock, is_clock_link}
use Rattle.sv_flat.specs.Clocks.{processes_of, is_one_bit_input, is_linked, agrees_with_earlier}
use Rattle.sv_flat.specs.Clocks.{reads_signal, uses_as_signal, selects_by, is_clock_alone}
use Rattle.sv_flat.specs.Clocks.{is_least_label, is_proper_clock}
use Rattle.sv_flat.specs.Readings.{names_signal}
use Rattle.sv_flat.specs.Reads.{is_combinational}
use Rattle.sv_flat.specs.Breaches.{breach}
use Rattle.sv_flat.specs.Assignments.{wrong_assigns}
use Rattle.sv_flat.specs.Drivers.{clock_faults, extra_driver, driver_fault, driver_faults}
use Rattle.sv_flat.specs.Drivers.{is_undriven, undriven}
use Rattle.sv_flat.specs.Blocks.{latches, phase_faults}
use Rattle.sv_flat.specs.Admission.{IsAdmitted}
use Rattle.sv_flat.proofs.LeastSets.{either_way, range_has, Contains-from_holds}
use Rattle.sv_flat.proofs.LeastSets.{Contains-from_filter, or_cases, some_from, from_some}
use Rattle.sv_flat.proofs.Depths.{first_of, second_of, from_all}
use Rattle.sv_flat.proofs.SameRuns.{or_none_left, or_none_right, none_found}

-- ---- empty lists

cons_is_some : {X : Type 0} (x : X) (xs : List X) → x ∷ xs ≡ [] → ⊥
cons_is_some x xs e = let is : suc (length xs) ≡ zero = ap length e in omega arith

module _ {X : Type 0} where
  pub none_in : (xs : List X) → xs ≡ [] → (x : X) → Contains xs x → ⊥
  none_in [] e x at = Contains-nil x at
  none_in (y ∷ xs) e x at = cons_is_some y xs e

  pub empty_left : (xs ys : List X) → xs ++ ys ≡ [] → xs ≡ []
  empty_left [] ys e = refl
  empty_left (x ∷ xs) ys e = absurd (cons_is_some x (xs ++ ys) e)

  pub empty_right : (xs ys : List X) → xs ++ ys ≡ [] → ys ≡ []
  empty_right [] ys e = e
  empty_right (x ∷ xs) ys e = absurd (cons_is_some x (xs ++ ys) e)

-- nothing passes a test where what is made of those that pass is empty
pub none_pass : {X Y : Type 0} (f : X → Y) (test : X → Bool) (xs : List X)
    → map f (filter test xs) ≡ [] → (x : X) → Contains xs x
    → IsFalse (test x)
none_pass f test xs e x at = ⊎_elim
    (λ passes.
    absurd (none_in (map f (filter test xs)) e (f x)
    (Contains-map f (filter test xs) x (Contains-filter test xs x at passes))))
    (λ fails. fails)
    (either_way (test x))

pub empty_part : {X Y : Type 0} (f : X → List Y) (xs : List X) → flat_map f xs ≡ [] → (x : X) →
    Contains xs x → f x ≡ []
empty_part f [] e x at = absurd (Contains-nil x at)
empty_part f (y ∷ xs) e x at = ⊎_elim
    (λ is. subst (λ z. f z ≡ []) is (empty_left (f y) (flat_map f xs) e))
    (λ inside. empty_part f xs (empty_right (f y) (flat_map f xs) e) x inside)
    (Contains-cases y xs x at)

made_first : {Y : Type 0} (o : Option Y) (ys : List Y) → cons_option o ys ≡ [] → o ≡ None
made_first None ys e = refl
made_first (Some y) ys e = absurd (cons_is_some y ys e)

made_rest : {Y : Type 0} (o : Option Y) (ys : List Y) → cons_option o ys ≡ [] → ys ≡ []
made_rest None ys e = e
made_rest (Some y) ys e = absurd (cons_is_some y ys e)

-- nothing is made of any
pub none_made : {X Y : Type 0} (f : X → Option Y) (xs : List X) → filter_map f xs ≡ [] → (x : X) →
    Contains xs x → f x ≡ None
none_made f [] e x at = absurd (Contains-nil x at)
none_made f (y ∷ xs) e x at = ⊎_elim
    (λ is. subst (λ z. f z ≡ None) is (made_first (f y) (filter_map f xs) e))
    (λ inside. none_made f xs (made_rest (f y) (filter_map f xs) e) x inside)
    (Contains-cases y xs x at)

-- ---- sound designs

module _ (signals : List SignalForm) where
  -- a sound statement assigns signals alone
  pub assigned_is_signal : (body : FlatStatement) → IsTrue (statement_sound signals body) → (t : ℕ)
      → IsTrue (assigns body t)
      → IsTrue (is_signal signals t)
  assigned_is_signal nothing sound t h = absurd (false≢true h)
  assigned_is_signal (after first second) sound t h = ⊎_elim
      (λ l. assigned_is_signal first
      (first_of (statement_sound signals first) (statement_sound signals second) sound) t l)
      (λ r. assigned_is_signal second
      (second_of (statement_sound signals first) (statement_sound signals second) sound) t r)
      (or_cases (assigns first t) (assigns second t) h)
  assigned_is_signal (assign pieces place blocking right) sound t h =
      let found = from_some (λ (p : PieceForm). p.signal == t) pieces h in
      let p = found.0 in
      let fit = from_all (piece_fits signals right) pieces p
      (second_of (well_formed signals right) (list_all (piece_fits signals right) pieces) sound)
      found.1 in
      subst (λ z. IsTrue (is_signal signals z)) (eqb-true p.signal t found.2)
      (first_of (is_signal signals p.signal)
      (is_part_of (signal_width signals p.signal) (expression_width right - p.from) p.high
      p.low) fit)
  assigned_is_signal (branch place condition first second) sound t h =
      let front = first_of (well_formed signals condition && statement_sound signals first)
      (statement_sound signals second) sound in
      ⊎_elim
      (λ l. assigned_is_signal first
      (second_of (well_formed signals condition) (statement_sound signals first) front) t l)
      (λ r. assigned_is_signal second
      (second_of (well_formed signals condition && statement_sound signals first)
      (statement_sound signals second) sound) t r)
      (or_cases (assigns first t) (assigns second t) h)

pub listed : (signals : List SignalForm) (s : ℕ) → IsTrue (is_signal signals s) →
    Contains signals (signal_of signals s)
listed [] s inside = absurd (let below = ltb-true s zero inside in omega arith)
listed (z ∷ signals) zero inside = Contains-head z signals
listed (z ∷ signals) (suc s) inside =
    Contains-later z signals (signal_of signals s)
    (listed signals s (lt-ltb s (length signals)
    (let below = ltb-true (suc s) (length (z ∷ signals)) inside in omega arith)))

-- ---- admitted designs

pub some_is_some : {X : Type 0} (x : X) → Some x ≡ None → ⊥
some_is_some x e = false≢true (ap is_none e)

first_is_some : {X : Type 0} (xs : List X) (x : X) → Contains xs x → slice_get xs 0 ≡ None → ⊥
first_is_some [] x at e = Contains-nil x at
first_is_some (y ∷ xs) x at e = some_is_some y e

-- a list has a second element where two of its elements differ by a test
second_is_some : {X : Type 0} (test : X → Bool) (xs : List X) (x y : X) → Contains xs x
    → Contains xs y → IsFalse (test x) → IsTrue (test y)
    → slice_get xs 1 ≡ None → ⊥
second_is_some test [] x y at_x at_y fails passes e = Contains-nil x at_x
second_is_some test (z ∷ []) x y at_x at_y fails passes e =
    let is_x = ⊎_elim (λ i. i) (λ l. absurd (Contains-nil x l)) (Contains-cases z [] x at_x) in
    let is_y = ⊎_elim (λ i. i) (λ l. absurd (Contains-nil y l)) (Contains-cases z [] y at_y) in
    false≢true (sym (subst (λ w. IsFalse (test w)) (sym is_x) fails)
    ∙ subst (λ w. IsTrue (test w)) (sym is_y) passes)
second_is_some test (z ∷ w ∷ xs) x y at_x at_y fails passes e = some_is_some w e

made_none : {X Y : Type 0} (f : X → Y) (o : Option X) → option_map f o ≡ None → o ≡ None
made_none f None e = refl
made_none f (Some x) e = absurd (some_is_some (f x) e)

pub negated_false : (b : Bool) → IsFalse (not b) → IsTrue b
negated_false true h = refl
negated_false false h = absurd (false≢true (sym h))

pub negated_true : (b : Bool) → IsTrue (not b) → IsFalse b
negated_true true h = absurd (false≢true h)
negated_true false h = refl

pub and_true : (a b : Bool) → IsTrue a → IsTrue b → IsTrue (a && b)
and_true true b h k = k
and_true false b h k = h

no_port : (a b : Bool) → IsFalse a → IsTrue (not (a && b))
no_port true b h = absurd (false≢true (sym h))
no_port false b h = refl

pub clocked_is_no_port : (k : ProcessKind) → IsTrue (is_clocked k) → IsFalse (is_port_in k)
clocked_is_no_port (clocked clock) h = refl
clocked_is_no_port continuous h = refl
clocked_is_no_port port_in h = absurd (false≢true h)
clocked_is_no_port port_out h = refl
clocked_is_no_port combinational h = refl
clocked_is_no_port (release point) h = refl

pub none_of_three : (a b c : Bool) → IsFalse a → IsFalse b → IsFalse c → IsTrue (not (a || b || c))
none_of_three true b c h k l = absurd (false≢true (sym h))
none_of_three false true c h k l = absurd (false≢true (sym k))
none_of_three false false true h k l = absurd (false≢true (sym l))
none_of_three false false false h k l = refl

first_element : {X : Type 0} (xs : List X) → IsFalse (is_none (slice_get xs 0)) →
    (x : X) × Contains xs x
first_element [] h = absurd (false≢true (sym h))
first_element (x ∷ xs) h = (x, Contains-head x xs)

module _ (design : FlatDesign) (is_sound : IsTrue (sound design))
    (admitted : IsAdmitted design) where
  pub phases : phase_faults design ≡ []
  phases =
      empty_right (wrong_assigns design ++ clock_faults design ++ driver_faults design
      ++ undriven design ++ latches design)
      (phase_faults design) admitted.unbroken

  to_latches : wrong_assigns design ++ clock_faults design ++ driver_faults design
      ++ undriven design ++ latches design ≡ []
  to_latches = empty_left
      (wrong_assigns design ++ clock_faults design ++ driver_faults design ++ undriven design
      ++ latches design)
      (phase_faults design) admitted.unbroken

  pub no_latches : latches design ≡ []
  no_latches =
      empty_right (wrong_assigns design ++ clock_faults design ++ driver_faults design
      ++ undriven design)
      (latches design) to_latches

  to_undriven : wrong_assigns design ++ clock_faults design ++ driver_faults design
      ++ undriven design ≡ []
  to_undriven =
      empty_left (wrong_assigns design ++ clock_faults design ++ driver_faults design
      ++ undriven design)
      (latches design) to_latches

  none_undriven : undriven design ≡ []
  none_undriven =
      empty_right (wrong_assigns design ++ clock_faults design ++ driver_faults design)
      (undriven design) to_undriven

  to_drivers : wrong_assigns design ++ clock_faults design ++ driver_faults design ≡ []
  to_drivers =
      empty_left (wrong_assigns design ++ clock_faults design ++ driver_faults design)
      (undriven design) to_undriven

  no_driver_faults : driver_faults design ≡ []
  no_driver_faults =
      empty_right (wrong_assigns design ++ clock_faults design) (driver_faults design) to_drivers

  to_clocks : wrong_assigns design ++ clock_faults design ≡ []
  to_clocks =
      empty_left (wrong_assigns design ++ clock_faults design) (driver_faults design) to_drivers

  pub no_clock_faults : clock_faults design ≡ []
  no_clock_faults = empty_right (wrong_assigns design) (clock_faults design) to_clocks

  pub no_wrong_assigns : wrong_assigns design ≡ []
  no_wrong_assigns = empty_left (wrong_assigns design) (clock_faults design) to_clocks

  -- the parts of what is sound
  all_but_invariants :
      IsTrue (nat_lt (length design.signals) 4294967295
      && (length design.points == length design.lattice)
      && list_all (map_sound design) design.maps && list_all (signal_sound design) design.signals
      && list_all (process_sound design) design.processes)
  all_but_invariants =
      first_of (nat_lt (length design.signals) 4294967295
      && (length design.points == length design.lattice)
      && list_all (map_sound design) design.maps && list_all (signal_sound design) design.signals
      && list_all (process_sound design) design.processes)
      (list_all (invariant_sound design) design.invariants) is_sound

  pub process_is_sound : (p : ProcessForm) → Contains design.processes p →
      IsTrue (process_sound design p)
  process_is_sound p at = from_all (process_sound design) design.processes p
      (second_of (nat_lt (length design.signals) 4294967295
      && (length design.points == length design.lattice)
      && list_all (map_sound design) design.maps && list_all (signal_sound design) design.signals)
      (list_all (process_sound design) design.processes) all_but_invariants) at

  pub signal_is_sound : (s : ℕ) → IsTrue (is_signal design.signals s) →
      IsTrue (signal_sound design (signal_of design.signals s))
  signal_is_sound s inside =
      from_all (signal_sound design) design.signals (signal_of design.signals s)
      (second_of (nat_lt (length design.signals) 4294967295
      && (length design.points == length design.lattice)
      && list_all (map_sound design) design.maps)
      (list_all (signal_sound design) design.signals)
      (first_of (nat_lt (length design.signals) 4294967295
      && (length design.points == length design.lattice)
      && list_all (map_sound design) design.maps && list_all (signal_sound design) design.signals)
      (list_all (process_sound design) design.processes) all_but_invariants))
      (listed design.signals s inside)

  -- every signal has a bit
  pub some_width : (s : ℕ) → IsTrue (is_signal design.signals s) → 0 < signal_width design.signals s
  some_width s inside =
      let signal = signal_of design.signals s in
      let width = first_of (is_one_to 64 signal.width) (label_sound design signal.label)
      (signal_is_sound s inside) in
      leb-true 1 signal.width (first_of (nat_le 1 signal.width) (nat_le signal.width 64) width)

  -- ---- processes

  pub is_process : (p : ProcessForm) → Contains (processes_of design) p →
      Contains design.processes p
  is_process p at =
      (Contains-from_filter (λ q. not (is_clock_link design q)) design.processes p at).1

  pub no_clock_link : (p : ProcessForm) → Contains (processes_of design) p →
      IsFalse (is_clock_link design p)
  no_clock_link p at = negated_true (is_clock_link design p)
      (Contains-from_filter (λ q. not (is_clock_link design q)) design.processes p at).0

  pub body_is_sound : (p : ProcessForm) → Contains (processes_of design) p →
      IsTrue (statement_sound design.signals p.body)
  body_is_sound p at =
      second_of (kind_sound design p.kind p.body) (statement_sound design.signals p.body)
      (process_is_sound p (is_process p at))

  pub drives : (p : ProcessForm) (s : ℕ) → Contains (processes_of design) p
      → IsTrue (assigns p.body s)
      → Contains (drivers (processes_of design) s) p
  drives p s at h =
      Contains-filter (λ (q : ProcessForm). assigns q.body s) (processes_of design) p at h

  no_extra : (s : ℕ) → IsTrue (is_signal design.signals s) → extra_driver design s ≡ None
  no_extra s inside = made_none (λ (p : ProcessForm). breach 603 p.place s) (extra_driver design s)
      (none_made (driver_fault design) (signal_numbers design) no_driver_faults s
      (range_has (length design.signals) s (ltb-true s (length design.signals) inside)))

  pub extra_at : (b : Bool) (s : ℕ) → is_top_input design s ≡ b
      → IsTrue (is_signal design.signals s)
      → slice_get (drivers (processes_of design) s) (cond b 0 1) ≡ None
  extra_at b s is inside =
      subst (λ c. slice_get (drivers (processes_of design) s) (cond c 0 1) ≡ None) is
      (no_extra s inside)

  -- ---- clocks

  pub proper : (s : ℕ) → IsTrue (is_clock design s) → IsTrue (is_proper_clock design s)
  proper s clock = negated_false (is_proper_clock design s)
      (none_pass (λ z. breach 602 (declared_at design z) z) (λ z.
      not (is_proper_clock design z)) (clocks design) no_clock_faults s
      (Contains-from_holds (clocks design) s clock))

  pub unused : (s : ℕ) → IsTrue (is_clock design s) →
      IsFalse (list_any (uses_as_signal design s) design.processes)
  unused s clock =
      let shape = is_one_bit_input design s && is_linked design s && agrees_with_earlier design s in
      let front = first_of (shape && is_clock_alone design s)
      (is_least_label design.lattice (signal_of design.signals s).label)
      (proper s clock) in
      let alone = second_of shape (is_clock_alone design s) front in
      let two = first_of (not (list_any (uses_as_signal design s) design.processes)
      && not (list_any (λ (signal : SignalForm). selects_by s signal.label) design.signals))
      (not (list_any (λ (i : InvariantForm).
      names_signal design.signals i.expression s) design.invariants)) alone in
      negated_true (list_any (uses_as_signal design s) design.processes)
      (first_of (not (list_any (uses_as_signal design s) design.processes))
      (not (list_any (λ (signal : SignalForm). selects_by s signal.label) design.signals)) two)

  pub port_in_of : (b : Bool) (o : Option (ℕ × ℕ)) → IsFalse (is_none (cond b o None)) → IsTrue b
  port_in_of true o h = refl
  port_in_of false o h = absurd (false≢true (sym h))

  no_link : (p : ProcessForm) (s : ℕ) → Contains (processes_of design) p → IsTrue (assigns p.body s)
      → IsTrue (is_clock design s)
      → IsTrue (is_none (link_in p))
  no_link p s at h clock = ⊎_elim
      (λ none. none)
      (λ some. absurd (false≢true (sym (no_clock_link p at)
      ∙ and_true (is_port_in p.kind) (list_any (assigns p.body) (clocks design))
      (port_in_of (is_port_in p.kind) (whole_link p.body) some)
      (some_from (assigns p.body) (clocks design) s
      (Contains-from_holds (clocks design) s clock) h))))
      (either_way (is_none (link_in p)))

  -- a process assigns no clock
  pub assigns_no_clock : (p : ProcessForm) (s : ℕ) → Contains (processes_of design) p
      → IsTrue (assigns p.body s)
      → IsFalse (is_clock design s)
  assigns_no_clock p s at h = ⊎_elim
      (λ clock. absurd (false≢true (sym (unused s clock)
      ∙ some_from (uses_as_signal design s) design.processes p (is_process p at)
      (and_true (is_none (link_in p)) (assigns p.body s || reads_signal design.signals p.body s)
      (no_link p s at h clock)
      (or_left (assigns p.body s) (reads_signal design.signals p.body s) h)))))
      (λ no_clock. no_clock)
      (either_way (is_clock design s))

  -- ---- targets

  pub clocked_is_process : (q : ProcessForm) → Contains design.processes q →
      IsTrue (is_clocked q.kind) → Contains (processes_of design) q
  clocked_is_process q at h =
      Contains-filter (λ z. not (is_clock_link design z)) design.processes q at
      (no_port (is_port_in q.kind) (list_any (assigns q.body) (clocks design))
      (clocked_is_no_port q.kind h))

  -- a process that is not clocked assigns combinational signals
  pub targets_are_combinational : (p : ProcessForm) (s : ℕ) → Contains (processes_of design) p
      → IsFalse (is_clocked p.kind)
      → IsTrue (assigns p.body s) → IsTrue (is_combinational design s)
  targets_are_combinational p s at unclocked h =
      let inside = assigned_is_signal design.signals p.body (body_is_sound p at) s h in
      let driver = drives p s at h in
      let no_top = none_found (is_top_input design s)
      (λ top. first_is_some (drivers (processes_of design) s) p driver
      (extra_at true s top inside)) in
      let no_register = none_found (is_register design s) (λ register.
      let found = from_some (λ (q : ProcessForm).
      is_clocked q.kind && assigns q.body s) design.processes register in
      let q = found.0 in
      let q_clocked = first_of (is_clocked q.kind) (assigns q.body s) found.2 in
      let q_assigns = second_of (is_clocked q.kind) (assigns q.body s) found.2 in
      second_is_some (λ (z : ProcessForm). is_clocked z.kind) (drivers (processes_of design) s) p
      q driver
      (drives q s (clocked_is_process q found.1 q_clocked) q_assigns) unclocked q_clocked
      (extra_at false s no_top inside)) in
      and_true (is_signal design.signals s)
      (not (is_top_input design s || is_register design s || is_clock design s)) inside
      (none_of_three (is_top_input design s) (is_register design s) (is_clock design s) no_top
      no_register (assigns_no_clock p s at h))

  -- every combinational signal is assigned by a process that is not clocked
  pub combinational_is_driven : (s : ℕ) → IsTrue (is_combinational design s)
      → (p : ProcessForm) × Contains (processes_of design) p × IsFalse (is_clocked p.kind)
      × IsTrue (assigns p.body s)
  combinational_is_driven s comb =
      let inside = first_of (is_signal design.signals s)
      (not (is_top_input design s || is_register design s || is_clock design s)) comb in
      let none = negated_true (is_top_input design s || is_register design s || is_clock design s)
      (second_of (is_signal design.signals s)
      (not (is_top_input design s || is_register design s || is_clock design s)) comb) in
      let no_two = or_none_left (is_top_input design s || is_register design s)
      (is_clock design s) none in
      let no_clock = or_none_right (is_top_input design s || is_register design s)
      (is_clock design s) none in
      let no_top = or_none_left (is_top_input design s) (is_register design s) no_two in
      let no_register = or_none_right (is_top_input design s) (is_register design s) no_two in
      let driven = none_pass (λ z. breach 604 (declared_at design z) z) (is_undriven design)
      (range_with_len 0 (length design.signals)) none_undriven s
      (range_has (length design.signals) s (ltb-true s (length design.signals) inside)) in
      let has_one = none_found (is_none (slice_get (drivers (processes_of design) s) 0)) (λ empty.
      false≢true (sym driven
      ∙ and_true (not (is_top_input design s) && not (is_clock design s))
      (is_none (slice_get (drivers (processes_of design) s) 0))
      (and_true (not (is_top_input design s)) (not (is_clock design s)) (ap not no_top)
      (ap not no_clock)) empty)) in
      let first = first_element (drivers (processes_of design) s) has_one in
      let p = first.0 in
      let from = Contains-from_filter (λ (q : ProcessForm).
      assigns q.body s) (processes_of design) p first.1 in (
        p,
        from.1,
        none_found (is_clocked p.kind) (λ c. false≢true (sym no_register
            ∙ some_from (λ (q : ProcessForm).
            is_clocked q.kind && assigns q.body s) design.processes p (is_process p from.1)
            (and_true (is_clocked p.kind) (assigns p.body s) c from.0))),
        from.0,
      )
