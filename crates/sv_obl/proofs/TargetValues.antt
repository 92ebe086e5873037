-- What the paths of a target tell in a settled environment: the value of a combinational signal,
-- and the next value of a register.
use Rattle.std.proofs.Common.{◌≡◌, ℕ, ◌<◌, ◌≤◌, ◌^◌, Bool, true, false, cond, not, ◌&&◌, ◌==◌}
use Rattle.std.proofs.Common.{nat_le, is_none, List, [], ◌∷◌, ◌++◌, fold, ◌⊎◌, inl, inr}
use Rattle.std.proofs.Common.{⊎_elim, refl, sym, ap, subst, ◌∙◌, arith, Some, None, ◌/◌, ◌%◌}
use Rattle.std.specs.Prelude.{Contains, IsTrue, IsFalse, filter, flat_map, slice_get}
use Rattle.std.specs.Int.{bit_at}
use Rattle.std.specs.List.{list_any, range_with_len, list_all}
use Rattle.std.proofs.lemmas.Bool.{false≢true, le-leb}
use Rattle.std.proofs.lemmas.Nat.{pow_pos}
use Rattle.std.proofs.Math.Nat.{mod-eq_of_lt}
use Rattle.sv_num.specs.Parts.{extended}
use Rattle.sv_num.specs.Vectors.{is_true}
use Rattle.sv_system.specs.System.{Environment, Fits, IsStill, last_update}
use Rattle.sv_system.proofs.Lists.{Contains-nil, Contains-cases, Contains-filter}
use Rattle.sv_system.proofs.Lists.{Contains-map}
use Rattle.sv_flat.specs.Design.{SignalForm, TypedTree, PieceForm, FlatStatement, nothing, after}
use Rattle.sv_flat.specs.Design.{assign, branch}
use Rattle.sv_flat.specs.Design.{ProcessForm, FlatDesign}
use Rattle.sv_flat.specs.Values.{signal_of, signal_width, value}
use Rattle.sv_flat.specs.Runs.{Updates, with_piece, put_piece, run, updates_of}
use Rattle.sv_flat.specs.Soundness.{is_signal, kind_sound, piece_fits}
use Rattle.sv_flat.specs.Soundness.{well_formed, statement_sound, sound}
use Rattle.sv_flat.specs.Assigned.{assigns}
use Rattle.sv_flat.specs.Readings.{Reading, no_bits, is_followed}
use Rattle.sv_flat.specs.Processes.{is_clocked, is_block, is_top_input, is_register, drivers}
use Rattle.sv_flat.specs.Clocks.{is_clock, processes_of}
use Rattle.sv_flat.specs.Reads.{is_earlier, followed, process_readings}
use Rattle.sv_flat.specs.FlatSystem.{flat_system, combinational_processes, run_of}
use Rattle.sv_flat.specs.Admission.{IsAdmitted}
use Rattle.sv_flat.proofs.Members.{Contains-either}
use Rattle.sv_flat.proofs.ReplacedBits.{replaced_below}
use Rattle.sv_flat.proofs.RunsFit.{UpdatesFit, last_update_fits}
use Rattle.sv_flat.proofs.LeastSets.{either_way, range_has, some_from, from_some}
use Rattle.sv_flat.proofs.Depths.{first_of, second_of}
use Rattle.sv_flat.proofs.SameRuns.{or_none_left, or_none_right, none_found, all_blocking}
use Rattle.sv_flat.proofs.SameRuns.{piece_lies_inside}
use Rattle.sv_flat.proofs.AdmittedFacts.{and_true, is_process}
use Rattle.sv_flat.proofs.AdmittedFacts.{process_is_sound, some_width, body_is_sound}
use Rattle.sv_flat.proofs.AdmittedFacts.{targets_are_combinational}
use Rattle.sv_flat.proofs.BlockFacts.{one_kind, one_serves, follows_itself, follows_targets}
use Rattle.sv_flat.proofs.BlockFacts.{settled_is_lower, is_blocking}
use Rattle.sv_flat.proofs.FlatScheduled.{in_processes, unclocked, to_system, parts_of, same_target}
use Rattle.sv_design.proofs.ClockedTargets.{nonblocking_targets, is_by_edge}
use Rattle.sv_obl.specs.Wanted.{with_copies, copy_of, is_copy, original, marked}
use Rattle.sv_obl.specs.Wanted.{wanted_name}
use Rattle.sv_obl.specs.Paths.{Path, open_path, before, closed, paths}
use Rattle.sv_obl.proofs.BlockFollows.{keeps_now, waiting_follows, block_follows}
use Rattle.sv_obl.proofs.Closing.{closed_value, closed_steps}
use Rattle.sv_flat.proofs.Members.{all_contained, only}
use Rattle.sv_obl.proofs.PathLists.{both_true, cond_true, cond_false}
use Rattle.sv_obl.proofs.PathNames.{PathFine}
use Rattle.sv_obl.proofs.PathRuns.{steps_hold, Tidy}
use Rattle.sv_obl.proofs.PathTells.{here, Follows, path_tells, some_path, one_path, stays_tidy}
use Rattle.sv_obl.proofs.PutFacts.{State, all_are, nonblocking_is, running, width_copy}
use Rattle.sv_obl.proofs.PutFacts.{copy_is_copy, original_of_copy, extended_same}
use Rattle.sv_obl.proofs.TargetReads.{clocked_is_no_block, Served, Member, member_inside}
use Rattle.sv_obl.proofs.TargetReads.{clocked_alone, target_fine, Origin, origin, open_tidy}

-- ---- kinds of assignments

blocking_are : (body : FlatStatement) → IsTrue (all_blocking body) → IsTrue (all_are true body)
blocking_are nothing h = refl
blocking_are (after first second) h = both_true (all_are true first) (all_are true second)
    (blocking_are first (first_of (all_blocking first) (all_blocking second) h))
    (blocking_are second (second_of (all_blocking first) (all_blocking second) h))
blocking_are (assign [] place blocking right) h = refl
blocking_are (assign (p ∷ pieces) place true right) h = refl
blocking_are (assign (p ∷ pieces) place false right) h = absurd (false≢true h)
blocking_are (branch place condition first second) h =
    both_true (all_are true first) (all_are true second)
    (blocking_are first (first_of (all_blocking first) (all_blocking second) h))
    (blocking_are second (second_of (all_blocking first) (all_blocking second) h))

module _ (signals : List SignalForm) where
  -- ---- updates

  last_of_both : (s old : ℕ) (us vs : Updates) →
      last_update ◌==◌ s old (us ++ vs) ≡ last_update ◌==◌ s (last_update ◌==◌ s old us) vs
  last_of_both s old [] vs = refl
  last_of_both s old (u ∷ us) vs = last_of_both s (cond (u.0 == s) u.1 old) us vs

  piece_leaves_last : (b : Bool) (v s old : ℕ) (now : State) (p : PieceForm)
      → IsFalse (p.signal == s)
      → last_update ◌==◌ s old (put_piece signals b v now p).1 ≡ last_update ◌==◌ s old now.1
  piece_leaves_last true v s old now p other = refl
  piece_leaves_last false v s old now p other =
      last_of_both s old now.1 _ ∙ cond_false (p.signal == s) _ (last_update ◌==◌ s old now.1) other

  pieces_leave_last : (b : Bool) (v s old : ℕ) (pieces : List PieceForm) (now : State)
      → IsFalse (list_any (λ (p : PieceForm). p.signal == s) pieces)
      → last_update ◌==◌ s old (fold (put_piece signals b v) now pieces).1 ≡
      last_update ◌==◌ s old now.1
  pieces_leave_last b v s old [] now none = refl
  pieces_leave_last b v s old (p ∷ pieces) now none =
      pieces_leave_last b v s old pieces (put_piece signals b v now p)
      (or_none_right (p.signal == s) (list_any (λ (q : PieceForm). q.signal == s) pieces) none)
      ∙ piece_leaves_last b v s old now p
      (or_none_left (p.signal == s) (list_any (λ (q : PieceForm). q.signal == s) pieces) none)

  either_last : (c : Bool) (x y : State) (s old n : ℕ) → last_update ◌==◌ s old x.1 ≡ n
      → last_update ◌==◌ s old y.1 ≡ n
      → last_update ◌==◌ s old (cond c x y).1 ≡ n
  either_last true x y s old n first second = first
  either_last false x y s old n first second = second

  -- a statement that does not assign a signal adds no update of it
  leaves_last : (body : FlatStatement) (s old : ℕ) (now : State) → IsFalse (assigns body s)
      → last_update ◌==◌ s old (run signals body now).1 ≡ last_update ◌==◌ s old now.1
  leaves_last nothing s old now none = refl
  leaves_last (after first second) s old now none =
      leaves_last second s old (run signals first now)
      (or_none_right (assigns first s) (assigns second s) none)
      ∙ leaves_last first s old now (or_none_left (assigns first s) (assigns second s) none)
  leaves_last (assign pieces place blocking right) s old now none =
      pieces_leave_last blocking (value signals now.0 right) s old pieces now none
  leaves_last (branch place condition first second) s old now none =
      either_last (is_true (value signals now.0 condition)) (run signals first now)
      (run signals second now) s old
      (last_update ◌==◌ s old now.1)
      (leaves_last first s old now (or_none_left (assigns first s) (assigns second s) none))
      (leaves_last second s old now (or_none_right (assigns first s) (assigns second s) none))

  abbrev updates_in : Environment ℕ → ProcessForm → Updates
  updates_in e p = updates_of signals p.body e

  abbrev edge_updates : Environment ℕ → List ProcessForm → Updates
  edge_updates e ps = flat_map (updates_in e) (filter (λ (p : ProcessForm). is_clocked p.kind) ps)

  skipped : (c : Bool) (e : Environment ℕ) (s old : ℕ) (p : ProcessForm) (ps : List ProcessForm)
      → IsFalse (assigns p.body s)
      → last_update ◌==◌ s old (flat_map (updates_in e) (cond c (p ∷ ps) ps)) ≡
      last_update ◌==◌ s old (flat_map (updates_in e) ps)
  skipped true e s old p ps none =
      last_of_both s old (updates_in e p) (flat_map (updates_in e) ps)
      ∙ ap (λ n. last_update ◌==◌ s n (flat_map (updates_in e) ps))
      (leaves_last p.body s old (e, []) none)
  skipped false e s old p ps none = refl

  -- processes that do not assign a signal give no update of it
  others_leave : (e : Environment ℕ) (s old : ℕ) (ps : List ProcessForm)
      → IsFalse (list_any (λ (p : ProcessForm). assigns p.body s) ps)
      → last_update ◌==◌ s old (edge_updates e ps) ≡ old
  others_leave e s old [] none = refl
  others_leave e s old (p ∷ ps) none =
      skipped (is_clocked p.kind) e s old p (filter (λ (q : ProcessForm). is_clocked q.kind) ps)
      (or_none_left (assigns p.body s) (list_any (λ (q : ProcessForm). assigns q.body s) ps) none)
      ∙ others_leave e s old ps
      (or_none_right (assigns p.body s) (list_any (λ (q : ProcessForm).
      assigns q.body s) ps) none)

  some_is_no_none : (p : ProcessForm) → Some p ≡ None → ⊥
  some_is_no_none p e = false≢true (ap is_none e)

  one_alone : (p : ProcessForm) (ps : List ProcessForm) → slice_get (p ∷ ps) 1 ≡ None → ps ≡ []
  one_alone p [] e = refl
  one_alone p (q ∷ ps) e = absurd (some_is_no_none q e)

  none_of_empty : (s : ℕ) (ps : List ProcessForm) → drivers ps s ≡ [] →
      IsFalse (list_any (λ (p : ProcessForm). assigns p.body s) ps)
  none_of_empty s ps e = none_found (list_any (λ (p : ProcessForm). assigns p.body s) ps) (λ some.
      let found = from_some (λ (p : ProcessForm). assigns p.body s) ps some in
      Contains-nil found.0 (subst (λ (qs : List ProcessForm). Contains qs found.0) e
      (Contains-filter (λ (p : ProcessForm). assigns p.body s) ps found.0 found.1 found.2)))

  -- the one clocked process that drives a signal gives it its last update
  pub one_gives : (e : Environment ℕ) (s old : ℕ) (p : ProcessForm) (ps : List ProcessForm)
      → slice_get (drivers ps s) 1 ≡ None
      → Contains ps p → IsTrue (assigns p.body s) → IsTrue (is_clocked p.kind)
      → last_update ◌==◌ s old (edge_updates e ps) ≡ last_update ◌==◌ s old (updates_in e p)
  one_gives e s old p [] one at assigned clock = absurd (Contains-nil p at)
  one_gives e s old p (q ∷ ps) one at assigned clock = ⊎_elim
      (λ drives.
      let alone = one_alone q (drivers ps s)
      (subst (λ (qs : List ProcessForm).
      slice_get qs 1 ≡ None)
      (cond_true (assigns q.body s) (q ∷ drivers ps s) (drivers ps s) drives) one) in
      let none = none_of_empty s ps alone in
      let is : q ≡ p = ⊎_elim (λ i. i)
      (λ later.
      absurd (false≢true (sym none ∙ some_from (λ (x : ProcessForm).
      assigns x.body s) ps p later assigned)))
      (Contains-cases q ps p at) in
      subst (λ (x : ProcessForm).
      last_update ◌==◌ s old (edge_updates e (x ∷ ps)) ≡
      last_update ◌==◌ s old (updates_in e p)) (sym is)
      (ap (λ qs. last_update ◌==◌ s old (flat_map (updates_in e) qs))
      (cond_true (is_clocked p.kind) (p ∷ filter (λ (x : ProcessForm). is_clocked x.kind) ps)
      (filter (λ (x : ProcessForm). is_clocked x.kind) ps) clock)
      ∙ last_of_both s old (updates_in e p) (edge_updates e ps)
      ∙ others_leave e s (last_update ◌==◌ s old (updates_in e p)) ps none))
      (λ other.
      let later = ⊎_elim
      (λ (is : q ≡ p). absurd
      (false≢true (sym other ∙ subst (λ (x : ProcessForm).
      IsTrue (assigns x.body s)) (sym is) assigned)))
      (λ (l : Contains ps p). l)
      (Contains-cases q ps p at) in
      skipped (is_clocked q.kind) e s old q (filter (λ (x : ProcessForm).
      is_clocked x.kind) ps) other
      ∙ one_gives e s old p ps
      (subst (λ (qs : List ProcessForm).
      slice_get qs 1 ≡ None)
      (cond_false (assigns q.body s) (q ∷ drivers ps s) (drivers ps s) other) one)
      later assigned clock)
      (either_way (assigns q.body s))

  -- ---- widths of updates

  piece_updates_fit : (b : Bool) (right : TypedTree) (v : ℕ) (now : State) (p : PieceForm)
      → IsTrue (piece_fits signals right p)
      → UpdatesFit signals now.1 → UpdatesFit signals (put_piece signals b v now p).1
  piece_updates_fit true right v now p fine fit u at = fit u at
  piece_updates_fit false right v now p fine fit u at =
      let inside = piece_lies_inside signals right p fine in
      let old = last_update ◌==◌ p.signal (now.0 p.signal) now.1 in
      let new : ℕ × ℕ = (p.signal, with_piece signals p v old) in
      ⊎_elim
      (λ before. fit u before)
      (λ last. subst (λ (x : ℕ × ℕ). x.1 < 2 ^ signal_width signals x.0) (only new u last)
      (replaced_below (signal_width signals p.signal) p.high p.low old (v / 2 ^ p.from) inside.0
      inside.1))
      (Contains-either now.1 (new ∷ []) u at)

  pieces_updates_fit :
      (b : Bool) (right : TypedTree) (v : ℕ) (pieces : List PieceForm) (now : State)
      → IsTrue (list_all (piece_fits signals right) pieces) → UpdatesFit signals now.1
      → UpdatesFit signals (fold (put_piece signals b v) now pieces).1
  pieces_updates_fit b right v [] now fine fit = fit
  pieces_updates_fit b right v (p ∷ pieces) now fine fit =
      pieces_updates_fit b right v pieces (put_piece signals b v now p)
      (second_of (piece_fits signals right p) (list_all (piece_fits signals right) pieces) fine)
      (piece_updates_fit b right v now p
      (first_of (piece_fits signals right p) (list_all (piece_fits signals right) pieces)
      fine) fit)

  either_fit : (c : Bool) (x y : State) → UpdatesFit signals x.1 → UpdatesFit signals y.1 →
      UpdatesFit signals (cond c x y).1
  either_fit true x y first second = first
  either_fit false x y first second = second

  -- each update has its signal's width
  updates_fit : (body : FlatStatement) (now : State) → IsTrue (statement_sound signals body)
      → UpdatesFit signals now.1
      → UpdatesFit signals (run signals body now).1
  updates_fit nothing now sound fit = fit
  updates_fit (after first second) now sound fit =
      updates_fit second (run signals first now)
      (second_of (statement_sound signals first) (statement_sound signals second) sound)
      (updates_fit first now
      (first_of (statement_sound signals first) (statement_sound signals second) sound) fit)
  updates_fit (assign pieces place blocking right) now sound fit =
      pieces_updates_fit blocking right (value signals now.0 right) pieces now
      (second_of (well_formed signals right) (list_all (piece_fits signals right) pieces) sound) fit
  updates_fit (branch place condition first second) now sound fit =
      let front = first_of (well_formed signals condition && statement_sound signals first)
      (statement_sound signals second) sound in
      either_fit (is_true (value signals now.0 condition)) (run signals first now)
      (run signals second now)
      (updates_fit first now
      (second_of (well_formed signals condition) (statement_sound signals first) front) fit)
      (updates_fit second now
      (second_of (well_formed signals condition && statement_sound signals first)
      (statement_sound signals second) sound) fit)

module _ (design : FlatDesign) (is_sound : IsTrue (sound design))
    (admitted : IsAdmitted design) where
  -- ---- paths and runs

  module _ (p : ProcessForm) (s : ℕ) (at : Contains (processes_of design) p)
      (assigned : IsTrue (assigns p.body s)) (b : Bool)
      (e : Environment ℕ) (now : State) (kind : IsTrue (all_are b p.body))
      (follows : Follows design.signals (is_block p.kind) b s e p.body no_bits now)
      (start : (u : ℕ) → Contains (followed design p s) u
      → running b now u ≡ cond (is_clocked p.kind) (e u) 0) where
    abbrev body : FlatStatement
    body = p.body

    abbrev both : List SignalForm
    both = with_copies design.signals

    abbrev last : State
    last = run design.signals body now

    sound_body : IsTrue (statement_sound design.signals body)
    sound_body = body_is_sound design is_sound admitted p at

    abbrev ServedHere : ℕ → Type 0
    ServedHere t = Served design is_sound admitted p s at assigned t

    abbrev MemberHere : ℕ → Type 0
    MemberHere u = Member design is_sound admitted p s at assigned u

    abbrev OriginHere : Path → Type 0
    OriginHere q = Origin design is_sound admitted p s at assigned q

    open_steps : (m : Path) → PathFine design.signals (is_block p.kind) s ServedHere MemberHere m
        → Tidy design.signals m
        → steps_hold design.signals e (closed design.signals (is_clocked p.kind) m).steps
        ≡ steps_hold both (here design.signals (is_block p.kind) b s e now) m.steps
    open_steps m fine tidy = closed_steps design.signals (is_block p.kind) (is_clocked p.kind) s
        ServedHere MemberHere (member_inside design is_sound admitted p s at assigned)
        (clocked_alone design is_sound admitted p s at assigned) e (running b now) start m
        tidy fine

    open_holds : (q : Path) (o : OriginHere q) → IsTrue (steps_hold design.signals e q.steps)
        → IsTrue (steps_hold both (here design.signals (is_block p.kind) b s e now)
        o.unclosed.steps)
    open_holds q o holds = sym (open_steps o.unclosed o.fine o.tidy)
        ∙ subst (λ (x : Path). IsTrue (steps_hold design.signals e x.steps)) (sym o.is) holds

    -- the target's value where the run ends, at its width
    target_after : value both (here design.signals (is_block p.kind) b s e last)
        (wanted_name design.signals s (signal_of design.signals s).place)
        ≡ running b last s % 2 ^ signal_width design.signals s
    target_after =
        let w = signal_width design.signals s in
        let signed = (signal_of design.signals s).signed in
        let copy = copy_of design.signals s in
        let env = here design.signals (is_block p.kind) b s e last in
        ap (λ k. extended signed k w (env copy)) (width_copy design.signals s)
        ∙ extended_same signed w (env copy)
        ∙ ap (λ k. k % 2 ^ w)
        (cond_true (is_copy design.signals copy) (running b last (original design.signals copy))
        (e copy) (copy_is_copy design.signals s)
        ∙ ap (running b last) (original_of_copy design.signals s))

    -- the path that holds gives the value that the run leaves
    pub path_gives : (q : Path) → Contains (paths design.signals s p.kind p.body) q
        → IsTrue (steps_hold design.signals e q.steps)
        → value design.signals e q.result ≡
        running b (run design.signals p.body now) s % 2 ^ signal_width design.signals s
    path_gives q q_at holds =
        let o = origin design is_sound admitted p s at assigned q q_at in
        let told = path_tells design.signals (is_block p.kind) b s e body no_bits
        (open_path design.signals s) o.unclosed now kind sound_body
        follows (open_tidy design is_sound admitted p s at assigned) o.among
        (open_holds q o holds) in
        ap (λ (x : Path). value design.signals e x.result) (sym o.is)
        ∙ closed_value design.signals (is_block p.kind) (is_clocked p.kind) s
        ServedHere MemberHere (member_inside design is_sound admitted p s at assigned)
        (clocked_alone design is_sound admitted p s at assigned) e
        (running b now) start o.unclosed.result o.tidy.1 o.fine.1
        ∙ told.1
        ∙ target_after

    -- some path holds
    pub some_holds : (q : Path) × Contains (paths design.signals s p.kind p.body) q
        × IsTrue (steps_hold design.signals e q.steps)
    some_holds =
        let found = some_path design.signals (is_block p.kind) b s e body no_bits
        (open_path design.signals s) now kind sound_body follows
        (open_tidy design is_sound admitted p s at assigned) refl in
        let m = found.0 in
        let q = closed design.signals (is_clocked p.kind) m in
        let q_at = Contains-map (closed design.signals (is_clocked p.kind))
        (before design.signals s (marked design.signals (is_block p.kind) body no_bits)
        (open_path design.signals s)) m found.1 in
        let fine = target_fine design is_sound admitted p s at assigned m found.1 in
        let tidy = stays_tidy design.signals (is_block p.kind) b s e body no_bits
        (open_path design.signals s) m sound_body
        (open_tidy design is_sound admitted p s at assigned) found.1 in
        (q, q_at, open_steps m fine tidy ∙ found.2)

    -- and no other does
    pub one_holds : (q r : Path) → Contains (paths design.signals s p.kind p.body) q
        → IsTrue (steps_hold design.signals e q.steps)
        → Contains (paths design.signals s p.kind p.body) r
        → IsTrue (steps_hold design.signals e r.steps) → q ≡ r
    one_holds q r q_at q_holds r_at r_holds =
        let o = origin design is_sound admitted p s at assigned q q_at in
        let u = origin design is_sound admitted p s at assigned r r_at in
        sym o.is
        ∙ ap (closed design.signals (is_clocked p.kind))
        (one_path design.signals (is_block p.kind) b s e body no_bits (open_path design.signals s)
        o.unclosed u.unclosed now kind sound_body follows
        (open_tidy design is_sound admitted p s at assigned) o.among (open_holds q o q_holds)
        u.among (open_holds r u r_holds))
        ∙ u.is

  -- ---- combinational targets

  module _ (p : ProcessForm) (at : Contains (combinational_processes design) p) (e : Environment ℕ)
      (fits : Fits (flat_system design) e) (still : IsStill (flat_system design) e) where
    process : Contains (processes_of design) p
    process = in_processes design is_sound admitted p at

    is_unclocked : IsFalse (is_clocked p.kind)
    is_unclocked = unclocked design is_sound admitted p at

    -- the environment in which what the process assigns is 0
    abbrev emptied : Environment ℕ
    emptied t = cond (assigns p.body t) 0 (e t)

    own_parts : (t : ℕ) → IsTrue (assigns p.body t)
        → IsTrue (is_signal design.signals t) × IsFalse (is_top_input design t)
        × IsFalse (is_register design t) × IsFalse (is_clock design t)
    own_parts t own =
        parts_of design is_sound admitted t
        (targets_are_combinational design is_sound admitted p t process is_unclocked own)

    outside : (t : ℕ) → IsFalse (assigns p.body t) → emptied t ≡ e t
    outside t foreign = cond_false (assigns p.body t) 0 (e t) foreign

    foreign_input : (t : ℕ) → IsTrue (is_top_input design t && not (is_clock design t)) →
        IsFalse (assigns p.body t)
    foreign_input t input = none_found (assigns p.body t) (λ own.
        false≢true (sym (own_parts t own).1
        ∙ first_of (is_top_input design t) (not (is_clock design t)) input))

    foreign_register : (t : ℕ) → IsTrue (is_register design t) → IsFalse (assigns p.body t)
    foreign_register t register =
        none_found (assigns p.body t) (λ own. false≢true (sym (own_parts t own).2 ∙ register))

    -- run from there, the process comes to the values at rest
    pub comes_to_rest : (t : ℕ) → IsTrue (assigns p.body t) → run_of design p emptied t ≡ e t
    comes_to_rest t own =
        sym (same_target design is_sound admitted p at t own e emptied
        (λ u input. sym (outside u (foreign_input u input)))
        (λ u register. sym (outside u (foreign_register u register)))
        (λ u foreign comb lower. sym (outside u foreign)))
        ∙ all_contained (λ (run : Environment ℕ → Environment ℕ).
        (s : ℕ) → run e s ≡ e s) (flat_system design).processes still
        (run_of design p) (Contains-map (run_of design) (combinational_processes design) p at) t

    own_fits : (t : ℕ) → IsTrue (assigns p.body t) → e t < 2 ^ signal_width design.signals t
    own_fits t own =
        all_contained (λ s. e s < 2 ^ signal_width design.signals s)
        (flat_system design).signals fits t
        (to_system design is_sound admitted t
        (targets_are_combinational design is_sound admitted p t process is_unclocked own)).among

    emptied_fits : (t : ℕ) → IsTrue (assigns p.body t) →
        emptied t < 2 ^ signal_width design.signals t
    emptied_fits t own =
        subst (λ n. n < 2 ^ signal_width design.signals t)
        (sym (cond_true (assigns p.body t) 0 (e t) own))
        (pow_pos (signal_width design.signals t))

    quiet_bits : (r : Reading) → IsFalse (is_followed design.signals r) → (b : ℕ) → r.name.low ≤ b
        → b ≤ r.name.high
        → b < signal_width design.signals r.name.signal → IsFalse (r.follows r.name.signal b)
    quiet_bits r none b from to below =
        none_found (r.follows r.name.signal b) (λ follows. false≢true (sym none
        ∙ some_from (λ c. nat_le r.name.low c && nat_le c r.name.high && r.follows r.name.signal c)
        (range_with_len 0 (signal_width design.signals r.name.signal)) b
        (range_has (signal_width design.signals r.name.signal) b below)
        (and_true (nat_le r.name.low b && nat_le b r.name.high) (r.follows r.name.signal b)
        (and_true (nat_le r.name.low b) (nat_le b r.name.high) (le-leb r.name.low b from)
        (le-leb b r.name.high to)) follows)))

    -- a settled read is of a foreign signal, or nothing follows that assigns a bit of it
    all_quiet : (r : Reading) → Contains (process_readings design p) r
        → IsFalse (is_earlier design p r)
        → IsFalse (assigns p.body r.name.signal)
        ⊎ ((b : ℕ) → r.name.low ≤ b → b ≤ r.name.high →
        b < signal_width design.signals r.name.signal → IsFalse (r.follows r.name.signal b))
    all_quiet r r_at late = ⊎_elim
        (λ block. inr (quiet_bits r (none_found (is_followed design.signals r) (λ follows.
        false≢true (sym late
        ∙ and_true (is_block p.kind) (is_followed design.signals r) block follows)))))
        (λ no_block. inl (none_found (assigns p.body r.name.signal) (λ own.
        let self = settled_is_lower design is_sound admitted p process r.name.signal own
        is_unclocked r.name.signal
        (follows_itself design is_sound admitted p process r.name.signal own) r r_at
        (one_serves design.signals p.body
        (one_kind design is_sound admitted p.kind p.body no_block is_unclocked
        (first_of (kind_sound design p.kind p.body) (statement_sound design.signals p.body)
        (process_is_sound design is_sound admitted p
        (is_process design is_sound admitted p process)))) r r_at r.name.signal own) late in
        omega arith)))
        (either_way (is_block p.kind))

    pub follows : (s : ℕ) →
        Follows design.signals (is_block p.kind) true s e p.body no_bits (emptied, [])
    follows s =
        block_follows design.signals (some_width design is_sound admitted) (is_block p.kind) s e
        (assigns p.body) own_fits p.body no_bits no_bits
        (emptied, []) (body_is_sound design is_sound admitted p process)
        (is_blocking design is_sound admitted p process is_unclocked)
        (λ t h. h) all_quiet emptied_fits outside (λ t b own below free.
        ap (λ n. bit_at n b) (comes_to_rest t own))

    -- what a target follows is 0 there
    pub start_is : (s : ℕ) → IsTrue (assigns p.body s) → (u : ℕ)
        → Contains (followed design p s) u
        → running true (emptied, []) u ≡ cond (is_clocked p.kind) (e u) 0
    start_is s own u u_at =
        cond_true (assigns p.body u) 0 (e u)
        (follows_targets design is_sound admitted p process s own u u_at)
        ∙ sym (cond_false (is_clocked p.kind) (e u) 0 is_unclocked)

    pub blocking : IsTrue (all_are true p.body)
    blocking = blocking_are p.body (is_blocking design is_sound admitted p process is_unclocked)

    -- the path that holds gives the value of the target
    pub path_gives_value : (s : ℕ) → IsTrue (assigns p.body s) → (q : Path)
        → Contains (paths design.signals s p.kind p.body) q
        → IsTrue (steps_hold design.signals e q.steps) → e s ≡ value design.signals e q.result
    path_gives_value s own q q_at holds =
        sym (mod-eq_of_lt (own_fits s own))
        ∙ ap (λ k. k % 2 ^ signal_width design.signals s) (sym (comes_to_rest s own))
        ∙ sym (path_gives p s process own true e (emptied, []) blocking (follows s)
        (start_is s own) q q_at holds)

    pub some_value_path : (s : ℕ) → IsTrue (assigns p.body s)
        → (q : Path) × Contains (paths design.signals s p.kind p.body) q
        × IsTrue (steps_hold design.signals e q.steps)
    some_value_path s own =
        some_holds p s process own true e (emptied, []) blocking (follows s) (start_is s own)

    pub one_value_path : (s : ℕ) → IsTrue (assigns p.body s) → (q r : Path)
        → Contains (paths design.signals s p.kind p.body) q
        → IsTrue (steps_hold design.signals e q.steps)
        → Contains (paths design.signals s p.kind p.body) r
        → IsTrue (steps_hold design.signals e r.steps) → q ≡ r
    one_value_path s own q r =
        one_holds p s process own true e (emptied, []) blocking (follows s) (start_is s own) q r

  -- ---- registers

  pub clocked_waits : (p : ProcessForm) → Contains (processes_of design) p →
      IsTrue (is_clocked p.kind) → IsTrue (all_are false p.body)
  clocked_waits p at clock =
      sym (nonblocking_is p.body)
      ∙ nonblocking_targets p.body (is_by_edge design is_sound admitted p at clock)

  module _ (p : ProcessForm) (s : ℕ) (at : Contains (processes_of design) p)
      (clock : IsTrue (is_clocked p.kind))
      (assigned : IsTrue (assigns p.body s)) (e : Environment ℕ) where
    waits : IsTrue (all_are false p.body)
    waits = clocked_waits p at clock

    pub waits_follow : Follows design.signals (is_block p.kind) false s e p.body no_bits (e, [])
    waits_follow =
        waiting_follows design.signals (some_width design is_sound admitted) (is_block p.kind) s e
        (clocked_is_no_block p.kind clock) p.body no_bits (e, [])
        (body_is_sound design is_sound admitted p at) waits refl

    pub begins : (u : ℕ) → Contains (followed design p s) u
        → running false (e, []) u ≡ cond (is_clocked p.kind) (e u) 0
    begins u u_at = sym (cond_true (is_clocked p.kind) (e u) 0 clock)

    -- the path that holds gives the register's next value
    pub path_gives_next : slice_get (drivers (processes_of design) s) 1 ≡ None
        → e s < 2 ^ signal_width design.signals s → (q : Path)
        → Contains (paths design.signals s p.kind p.body) q
        → IsTrue (steps_hold design.signals e q.steps)
        → (flat_system design).next e s ≡ value design.signals e q.result
    path_gives_next one fits q q_at holds =
        one_gives design.signals e s (e s) p (processes_of design) one at assigned clock
        ∙ sym (mod-eq_of_lt (last_update_fits design.signals s (e s)
        (updates_of design.signals p.body e) fits
        (updates_fit design.signals p.body (e, []) (body_is_sound design is_sound admitted p at)
        (λ u none. absurd (Contains-nil u none)))))
        ∙ ap (λ (f : Environment ℕ).
        last_update ◌==◌ s (f s) (updates_of design.signals p.body e) % 2 ^ signal_width
        design.signals s)
        (sym (keeps_now design.signals p.body (e, []) waits))
        ∙ sym (path_gives p s at assigned false e (e, []) waits waits_follow begins q q_at holds)

    pub some_next_path : (q : Path) × Contains (paths design.signals s p.kind p.body) q
        × IsTrue (steps_hold design.signals e q.steps)
    some_next_path = some_holds p s at assigned false e (e, []) waits waits_follow begins

    pub one_next_path : (q r : Path) → Contains (paths design.signals s p.kind p.body) q
        → IsTrue (steps_hold design.signals e q.steps)
        → Contains (paths design.signals s p.kind p.body) r
        → IsTrue (steps_hold design.signals e r.steps) → q ≡ r
    one_next_path q r = one_holds p s at assigned false e (e, []) waits waits_follow begins q r
