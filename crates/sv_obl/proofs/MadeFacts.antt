-- What a body makes of a signal: its settled value, or a register's next value; and what it is made
-- from.
use Rattle.std.proofs.Common.{◌≡◌, ℕ, ◌<◌, Bool, true, false, cond, ◌&&◌, ◌==◌, not, List}
use Rattle.std.proofs.Common.{[], ◌∷◌, ◌++◌, fold, length, ⊎_elim, refl, sym, ap, ap₂, subst}
use Rattle.std.proofs.Common.{◌∙◌, ltb-true, slice_get, None, is_none}
use Rattle.std.specs.Prelude.{Contains, IsTrue, IsFalse}
use Rattle.std.specs.List.{list_all, list_any}
use Rattle.std.proofs.lemmas.Bool.{false≢true, or_left, eq-eqb}
use Rattle.sv_num.specs.Vectors.{is_true}
use Rattle.sv_system.specs.System.{Environment, Fits, IsStill, last_update}
use Rattle.sv_system.proofs.Lists.{Contains-nil, Contains-map, Contains-filter}
use Rattle.sv_system.proofs.Lists.{Contains-cases}
use Rattle.sv_flat.specs.Design.{SignalForm, TypedTree, FlatStatement, nothing, after}
use Rattle.sv_flat.specs.Design.{assign, branch, ProcessForm, FlatDesign}
use Rattle.sv_flat.specs.Values.{signal_width, value}
use Rattle.sv_flat.specs.Runs.{updates_of}
use Rattle.sv_flat.specs.Sets.{holds}
use Rattle.sv_flat.specs.Soundness.{piece_fits, well_formed, statement_sound, sound}
use Rattle.sv_flat.specs.Assigned.{assigns, always_assigns, can_assign}
use Rattle.sv_flat.specs.Readings.{ReadForm, reads, BitSet, either, no_bits, Reading, readings_of}
use Rattle.sv_flat.specs.Readings.{readings, some_bit_read, is_followed}
use Rattle.sv_flat.specs.Processes.{is_clocked, is_block, is_top_input, is_register, drivers}
use Rattle.sv_flat.specs.Clocks.{processes_of}
use Rattle.sv_flat.specs.Reads.{is_combinational, is_earlier, followed, reads_settled}
use Rattle.sv_flat.specs.Reads.{is_read_for, process_readings}
use Rattle.sv_flat.specs.FlatSystem.{flat_system}
use Rattle.sv_flat.specs.Admission.{IsAdmitted}
use Rattle.sv_flat.proofs.Members.{Contains-left, Contains-right}
use Rattle.sv_flat.proofs.LeastSets.{some_from, from_some, holds-from_Contains}
use Rattle.sv_flat.proofs.Depths.{first_of, second_of}
use Rattle.sv_flat.proofs.ReadSignals.{reads_signals}
use Rattle.sv_flat.proofs.SameRuns.{none_found}
use Rattle.sv_flat.proofs.AdmittedFacts.{and_true, is_process, body_is_sound, assigned_is_signal}
use Rattle.sv_flat.proofs.AdmittedFacts.{drives, extra_at, combinational_is_driven}
use Rattle.sv_flat.proofs.AdmittedFacts.{clocked_is_process}
use Rattle.sv_obl.specs.MadeValues.{after_piece, made, made_on_the_way, starting_values, made_in}
use Rattle.sv_obl.specs.Wanted.{with_copies, copy_of, is_copy, original, mark, marked_tree, marked}
use Rattle.sv_obl.proofs.BlockFollows.{keeps_now}
use Rattle.sv_obl.proofs.OneDriver.{no_second}
use Rattle.sv_obl.proofs.OnTheWay.{stays_settled, pieces_here, way_runs, way_alike}
use Rattle.sv_obl.proofs.PathLists.{cond_true, cond_false}
use Rattle.sv_obl.proofs.PutFacts.{width_settled, signal_is_settled, copy_is_copy}
use Rattle.sv_obl.proofs.PutFacts.{original_of_copy}
use Rattle.sv_obl.proofs.TargetReads.{clocked_is_no_block, Served, clocked_alone, serves_target}
use Rattle.sv_obl.proofs.TargetReads.{itself}
use Rattle.sv_obl.proofs.TargetValues.{one_gives, comes_to_rest, follows, start_is, blocking}
use Rattle.sv_obl.proofs.TargetValues.{clocked_waits, waits_follow, begins}
use Rattle.sv_obl.proofs.TreeFacts.{well_held, exchanged_value}

none_is_first : (ps : List ProcessForm) (p : ProcessForm) → Contains ps p →
    slice_get ps 0 ≡ None → ⊥
none_is_first [] p at e = Contains-nil p at
none_is_first (q ∷ ps) p at e = false≢true (ap is_none e)

module _ (signals : List SignalForm) (in_block : Bool) (followed : List ℕ) (z : Environment ℕ) where
  -- ---- wanted names

  -- no read is an earlier one
  abbrev Quiet : List Reading → Type 0
  Quiet rs = (r : Reading) → Contains rs r → IsFalse (in_block && is_followed signals r)

  -- settled names have their values of the environment
  abbrev IsSettled : Environment ℕ → Type 0
  IsSettled now = (t : ℕ) → t < length signals → now t ≡ z t

  -- an expression whose reads are settled has its settled value
  marked_value : (t : TypedTree) (serves : ℕ → Bool) (early follows : BitSet) (now : Environment ℕ)
      → IsTrue (well_formed signals t)
      → Quiet (readings_of signals t serves early follows) → IsSettled now
      → value (with_copies signals) now (marked_tree signals in_block follows t)
      ≡ value signals z t
  marked_value t serves early follows now well quiet same =
      exchanged_value signals (with_copies signals) (mark signals in_block follows)
      now z (length signals) (λ k low. width_settled signals k low) t
      (well_held signals t well) (λ r at.
      let none = quiet (record { name = r; serves = serves; assigned = early; follows = follows })
      (Contains-map (λ (x : ReadForm).
      record { name = x; serves = serves; assigned = early; follows = follows })
      (reads signals t) r at) in
      let low = ltb-true r.signal (length signals) (reads_signals signals t well r at) in
      subst (λ k. (signal_width (with_copies signals) k ≡ signal_width signals r.signal)
      × (now k ≡ z r.signal))
      (sym (cond_false (in_block && some_bit_read signals r (follows r.signal))
      (copy_of signals r.signal) r.signal none))
      (width_settled signals r.signal low, same r.signal low))

  at_arms : (c : Bool) (first second : Environment ℕ) (s x y : ℕ) → first s ≡ x → second s ≡ y
      → cond c first second s ≡ cond c x y
  at_arms true first second s x y one other = one
  at_arms false first second s x y one other = other

  -- ---- one followed signal

  module _ (s : ℕ) (is_member : IsTrue (holds followed s)) where
    abbrev copy : ℕ
    copy = copy_of signals s

    -- where no read is an earlier one, it is made by itself
    pub alone_on_the_way : (body : FlatStatement) (early later : BitSet) (now : Environment ℕ)
        → IsTrue (statement_sound signals body) → Quiet (readings signals body early later)
        → IsSettled now
        → made_on_the_way signals followed (marked signals in_block body later) now copy ≡
        made signals z s body (now copy)
    alone_on_the_way nothing early later now sound quiet same = refl
    alone_on_the_way (after first second) early later now sound quiet same =
        let late = either (can_assign second) later in
        let mid = either (always_assigns first) early in
        let half = marked signals in_block first late in
        alone_on_the_way second mid later (made_on_the_way signals followed half now)
        (second_of (statement_sound signals first) (statement_sound signals second) sound)
        (λ r at. quiet r (Contains-right (readings signals first early late)
        (readings signals second mid later) r at))
        (λ t low. stays_settled signals followed half now t low ∙ same t low)
        ∙ ap (made signals z s second) (alone_on_the_way first early late now
        (first_of (statement_sound signals first) (statement_sound signals second) sound)
        (λ r at. quiet r (Contains-left (readings signals first early late)
        (readings signals second mid later) r at)) same)
    alone_on_the_way (assign pieces place blocked right) early later now sound quiet same =
        let whole = assign pieces place blocked right in
        let follows = either (can_assign whole) later in
        pieces_here signals followed s is_member
        (value (with_copies signals) now (marked_tree signals in_block follows right)) pieces now
        ∙ ap (λ v. fold (after_piece signals s v) (now copy) pieces)
        (marked_value right (assigns whole) early follows now
        (first_of (well_formed signals right) (list_all (piece_fits signals right) pieces) sound)
        quiet same)
    alone_on_the_way (branch place condition first second) early later now sound quiet same =
        let whole = branch place condition first second in
        let follows = either (can_assign whole) later in
        let here = readings_of signals condition (assigns whole) early follows in
        let in_first = readings signals first early later in
        let in_second = readings signals second early later in
        let front = first_of (well_formed signals condition && statement_sound signals first)
        (statement_sound signals second) sound in
        let v = value (with_copies signals) now (marked_tree signals in_block follows condition) in
        at_arms (is_true v)
        (made_on_the_way signals followed (marked signals in_block first later) now)
        (made_on_the_way signals followed (marked signals in_block second later) now) copy
        (made signals z s first (now copy)) (made signals z s second (now copy))
        (alone_on_the_way first early later now
        (second_of (well_formed signals condition) (statement_sound signals first) front)
        (λ r at. quiet r (Contains-left (here ++ in_first) in_second r
        (Contains-right here in_first r at))) same)
        (alone_on_the_way second early later now
        (second_of (well_formed signals condition && statement_sound signals first)
        (statement_sound signals second) sound)
        (λ r at. quiet r (Contains-right (here ++ in_first) in_second r at)) same)
        ∙ ap (λ k. cond (is_true k) (made signals z s first (now copy))
        (made signals z s second (now copy)))
        (marked_value condition (assigns whole) early follows now
        (first_of (well_formed signals condition) (statement_sound signals first) front)
        (λ r at. quiet r (Contains-left (here ++ in_first) in_second r
        (Contains-left here in_first r at))) same)

module _ (design : FlatDesign) (is_sound : IsTrue (sound design)) (admitted : IsAdmitted design)
    (p : ProcessForm) (s : ℕ) (at : Contains (processes_of design) p)
    (own : IsTrue (assigns p.body s)) where
  sound_body : IsTrue (statement_sound design.signals p.body)
  sound_body = body_is_sound design is_sound admitted p at

  -- no second process drives it
  one : slice_get (drivers (processes_of design) s) 1 ≡ None
  one =
      let inside = assigned_is_signal design.signals p.body sound_body s own in
      extra_at design is_sound admitted false s
      (none_found (is_top_input design s) (λ top.
      none_is_first (drivers (processes_of design) s) p
      (drives design is_sound admitted p s at own)
      (extra_at design is_sound admitted true s top inside))) inside

  member : Contains (followed design p s) s
  member = itself design is_sound admitted p s at own

  -- the signal is one of those followed for it
  pub follows_itself : IsTrue (holds (followed design p s) s)
  follows_itself = holds-from_Contains (followed design p s) s member

  -- ---- where the process begins

  starts_settled : (e : Environment ℕ) (t : ℕ) → t < length design.signals
      → starting_values design.signals (is_clocked p.kind) e t ≡ e t
  starts_settled e t low =
      cond_true (not (is_copy design.signals t)) (e t)
      (cond (is_clocked p.kind) (e (original design.signals t)) 0)
      (ap not (signal_is_settled design.signals t low))

  starts_at_copy : (e : Environment ℕ) (u : ℕ)
      → starting_values design.signals (is_clocked p.kind) e (copy_of design.signals u)
      ≡ cond (is_clocked p.kind) (e u) 0
  starts_at_copy e u =
      cond_false (not (is_copy design.signals (copy_of design.signals u)))
      (e (copy_of design.signals u))
      (cond (is_clocked p.kind) (e (original design.signals (copy_of design.signals u))) 0)
      (ap not (copy_is_copy design.signals u))
      ∙ ap (λ t. cond (is_clocked p.kind) (e t) 0) (original_of_copy design.signals u)

  -- ---- what the process makes on its way

  -- from where it begins
  abbrev pub made_by : Environment ℕ → ℕ
  made_by e = made_in design p s e

  -- the settled value of a signal
  pub way_makes_settled : IsFalse (is_clocked p.kind) → (e : Environment ℕ)
      → Fits (flat_system design) e → IsStill (flat_system design) e → made_by e ≡ e s
  way_makes_settled unclocked e fits still =
      let among = Contains-filter (λ (q : ProcessForm). not (is_clocked q.kind))
      (processes_of design) p at (ap not unclocked) in
      let emptied = λ (t : ℕ). cond (assigns p.body t) 0 (e t) in
      way_runs design.signals (is_block p.kind) s
      (Served design is_sound admitted p s at own) (followed design p s) true e p.body no_bits
      no_bits (starting_values design.signals (is_clocked p.kind) e) (emptied, [])
      (blocking design is_sound admitted p among e fits still) sound_body
      (follows design is_sound admitted p among e fits still s)
      (serves_target design is_sound admitted p s at own) (
        starts_settled e,
        (λ u u_at. starts_at_copy e u
            ∙ sym (start_is design is_sound admitted p among e fits still s own u u_at)),
      )
      s member
      ∙ comes_to_rest design is_sound admitted p among e fits still s own

  -- and of a register the next value
  pub way_makes_next : IsTrue (is_clocked p.kind) → (e : Environment ℕ)
      → made_by e ≡ (flat_system design).next e s
  way_makes_next clock e =
      let waits = clocked_waits design is_sound admitted p at clock in
      way_runs design.signals (is_block p.kind) s
      (Served design is_sound admitted p s at own) (followed design p s) false e p.body no_bits
      no_bits (starting_values design.signals (is_clocked p.kind) e) (e, []) waits sound_body
      (waits_follow design is_sound admitted p s at clock own e)
      (serves_target design is_sound admitted p s at own) (
        starts_settled e,
        (λ u u_at. starts_at_copy e u
            ∙ sym (begins design is_sound admitted p s at clock own e u u_at)),
      )
      s member
      ∙ ap (λ (f : Environment ℕ). last_update ◌==◌ s (f s) (updates_of design.signals p.body e))
      (keeps_now design.signals p.body (e, []) waits)
      ∙ sym (one_gives design.signals e s (e s) p (processes_of design) one at own clock)

  -- a register is read for itself
  register_is_read : IsTrue (is_clocked p.kind) → IsTrue (is_read_for design s s)
  register_is_read clock =
      or_left (is_register design s && (s == s))
      (list_any (λ q. reads_settled design q (followed design q s) s)
      (drivers (processes_of design) s))
      (and_true (is_register design s) (s == s)
      (some_from (λ (q : ProcessForm). is_clocked q.kind && assigns q.body s) design.processes p
      (is_process design is_sound admitted p at)
      (and_true (is_clocked p.kind) (assigns p.body s) clock own))
      (eq-eqb s s refl))

  -- from what is read for the signal alone
  pub way_makes_from_reads : (e f : Environment ℕ)
      → ((t : ℕ) → IsTrue (is_read_for design s t) → e t ≡ f t) → made_by e ≡ made_by f
  way_makes_from_reads e f same =
      way_alike design.signals (is_block p.kind) s (Served design is_sound admitted p s at own)
      (followed design p s) p.body no_bits no_bits
      (starting_values design.signals (is_clocked p.kind) e)
      (starting_values design.signals (is_clocked p.kind) f) sound_body
      (serves_target design is_sound admitted p s at own) (
        (λ t low served. starts_settled e t low
            ∙ same t (subst (λ z. IsTrue (is_read_for design s z)) served.3 served.2)
            ∙ sym (starts_settled f t low)),
        (λ u u_at. starts_at_copy e u ∙ copies_same (is_clocked p.kind) refl u u_at
            ∙ sym (starts_at_copy f u)),
      )
      s member
    where
      copies_same : (c : Bool) → is_clocked p.kind ≡ c → (u : ℕ) → Contains (followed design p s) u
          → cond c (e u) 0 ≡ cond c (f u) 0
      copies_same true clock u u_at =
          subst (λ z. e z ≡ f z) (clocked_alone design is_sound admitted p s at own u u_at clock)
          (same s (register_is_read clock))
      copies_same false none u u_at = refl

  -- ---- where no read is an earlier one

  module _ (quiet : (r : Reading) → Contains (process_readings design p) r
      → IsFalse (is_earlier design p r)) where
    -- the process makes the same as where every name is settled
    pub way_is_made : (e : Environment ℕ)
        → made_by e ≡ made design.signals e s p.body (cond (is_clocked p.kind) (e s) 0)
    way_is_made e =
        alone_on_the_way design.signals (is_block p.kind) (followed design p s) e s follows_itself
        p.body no_bits no_bits (starting_values design.signals (is_clocked p.kind) e) sound_body
        quiet (starts_settled e)
        ∙ ap (made design.signals e s p.body) (starts_at_copy e s)

  -- so a clocked block makes of a register, from its own value, the next
  pub makes_next : IsTrue (is_clocked p.kind) → (e : Environment ℕ)
      → made design.signals e s p.body (e s) ≡ (flat_system design).next e s
  makes_next clock e =
      ap (made design.signals e s p.body) (sym (cond_true (is_clocked p.kind) (e s) 0 clock))
      ∙ sym (way_is_made (λ r r_at. ap (λ c. c && is_followed design.signals r)
      (clocked_is_no_block p.kind clock)) e)
      ∙ way_makes_next clock e

-- ---- drivers

one_of_one : (ps : List ProcessForm) (p : ProcessForm) → Contains ps p → slice_get ps 1 ≡ None →
    ps ≡ p ∷ []
one_of_one [] p at alone = absurd (Contains-nil p at)
one_of_one (q ∷ ps) p at alone =
    let none = no_second q ps alone in
    ⊎_elim
    (λ same. ap₂ (λ x xs. x ∷ xs) same none)
    (λ later. absurd (Contains-nil p (subst (λ xs. Contains xs p) none later)))
    (Contains-cases q ps p at)

module _ (design : FlatDesign) (is_sound : IsTrue (sound design)) (admitted : IsAdmitted design)
    (s : ℕ) where
  alone : (p : ProcessForm) → Contains (processes_of design) p → IsTrue (assigns p.body s) →
      drivers (processes_of design) s ≡ p ∷ []
  alone p at own =
      one_of_one (drivers (processes_of design) s) p (drives design is_sound admitted p s at own)
      (one design is_sound admitted p s at own)

  -- one process drives a signal, clocked where it is a register
  pub combinational_driver : IsTrue (is_combinational design s) →
      (p : ProcessForm) × Contains (processes_of design) p × IsFalse (is_clocked p.kind)
      × IsTrue (assigns p.body s) × (drivers (processes_of design) s ≡ p ∷ [])
  combinational_driver comb =
      let driver = combinational_is_driven design is_sound admitted s comb in
      (driver.0, driver.1, driver.2, driver.3, alone driver.0 driver.1 driver.3)

  pub register_driver : IsTrue (is_register design s) →
      (p : ProcessForm) × Contains (processes_of design) p × IsTrue (is_clocked p.kind)
      × IsTrue (assigns p.body s) × (drivers (processes_of design) s ≡ p ∷ [])
  register_driver register =
      let found = from_some (λ (q : ProcessForm). is_clocked q.kind && assigns q.body s)
      design.processes register in
      let p = found.0 in
      let clock = first_of (is_clocked p.kind) (assigns p.body s) found.2 in
      let own = second_of (is_clocked p.kind) (assigns p.body s) found.2 in
      let at = clocked_is_process design is_sound admitted p found.1 clock in
      (p, at, clock, own, alone p at own)
