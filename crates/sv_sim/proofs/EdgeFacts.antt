-- The clock edge: clocked processes that run one after the other update what each of them updates
-- by itself, since no signal has two processes.
use Rattle.std.proofs.Common.{◌≡◌, ℕ, ◌+◌, ◌<◌, Bool, true, false, cond, ◌||◌}
use Rattle.std.proofs.Common.{◌==◌, List, [], ◌∷◌, ◌++◌, length, take, drop, fold, refl, sym, ap}
use Rattle.std.proofs.Common.{subst, ◌∙◌, ⊎_elim, append-nil, append_assoc}
use Rattle.std.specs.Prelude.{Contains, IsTrue, IsFalse, flat_map, filter, None, slice_get}
use Rattle.std.specs.List.{list_any}
use Rattle.std.proofs.lemmas.List.{take_more}
use Rattle.std.proofs.lemmas.Bool.{false≢true, eq-eqb, or_left, or_right}
use Rattle.sv_num.specs.Vectors.{is_true}
use Rattle.sv_system.specs.System.{Environment, last_update}
use Rattle.sv_system.proofs.Lists.{Contains-head, Contains-later, Contains-nil, Contains-cases}
use Rattle.sv_system.proofs.Lists.{Contains-filter}
use Rattle.sv_flat.specs.Admission.{IsAdmitted}
use Rattle.sv_flat.specs.Assigned.{assigns}
use Rattle.sv_flat.specs.ByNumber.{is_nonblocking, by_number, FitSignals}
use Rattle.sv_flat.specs.Clocks.{is_clock, processes_of}
use Rattle.sv_flat.specs.Design.{SignalForm, PieceForm, FlatStatement, nothing, after}
use Rattle.sv_flat.specs.Design.{assign, branch}
use Rattle.sv_flat.specs.Design.{ProcessForm, FlatDesign}
use Rattle.sv_flat.specs.FlatSystem.{flat_system, all_updates, clocked_processes}
use Rattle.sv_flat.specs.Processes.{is_clocked, is_top_input, drivers}
use Rattle.sv_flat.specs.Runs.{Updates, with_piece, put_piece, run, updates_of}
use Rattle.sv_flat.specs.Soundness.{sound}
use Rattle.sv_flat.specs.Values.{value}
use Rattle.sv_flat.proofs.AdmittedFacts.{assigns_no_clock}
use Rattle.sv_flat.proofs.AdmittedFacts.{some_is_some}
use Rattle.sv_flat.proofs.AdmittedFacts.{extra_at}
use Rattle.sv_flat.proofs.AdmittedFacts.{body_is_sound, assigned_is_signal}
use Rattle.sv_flat.proofs.Depths.{first_of, second_of}
use Rattle.sv_flat.proofs.LeastSets.{either_way, Contains-from_filter}
use Rattle.sv_flat.proofs.Members.{Contains-right}
use Rattle.sv_flat.proofs.NumberedRuns.{run_is}
use Rattle.sv_flat.proofs.SameRuns.{or_none_left, or_none_right, none_found}
use Rattle.sv_design.proofs.ClockedTargets.{nonblocking_targets, is_by_edge}
use Rattle.sv_sim.specs.Settling.{clocked_before}
use Rattle.sv_sim.specs.Simulations.{process_at}
use Rattle.sv_sim.specs.Simulations.{IsSimulation}
use Rattle.sv_sim.proofs.AtPlace.{idle, cut_there}

-- ---- updates

-- some update is of the signal
abbrev pub touches : Updates → ℕ → Bool
touches us s = list_any (λ (u : ℕ × ℕ). u.0 == s) us

pub last_untouched : (s old : ℕ) (us : Updates) → IsFalse (touches us s)
    → last_update ◌==◌ s old us ≡ old
last_untouched s old [] none = refl
last_untouched s old (u ∷ us) none =
    ap (λ b. last_update ◌==◌ s (cond b u.1 old) us) (or_none_left (u.0 == s) (touches us s) none)
    ∙ last_untouched s old us (or_none_right (u.0 == s) (touches us s) none)

pub last_split : (s old : ℕ) (us ws : Updates)
    → last_update ◌==◌ s old (us ++ ws) ≡ last_update ◌==◌ s (last_update ◌==◌ s old us) ws
last_split s old [] ws = refl
last_split s old (u ∷ us) ws = last_split s (cond (u.0 == s) u.1 old) us ws

neither : (a b : Bool) → IsFalse a → IsFalse b → IsFalse (a || b)
neither true b h k = h
neither false b h k = k

touches_both : (us ws : Updates) (s : ℕ) → IsFalse (touches us s) → IsFalse (touches ws s)
    → IsFalse (touches (us ++ ws) s)
touches_both [] ws s none more = more
touches_both (u ∷ us) ws s none more =
    neither (u.0 == s) (touches (us ++ ws) s) (or_none_left (u.0 == s) (touches us s) none)
    (touches_both us ws s (or_none_right (u.0 == s) (touches us s) none) more)

module _ (signals : List SignalForm) where
  -- a run appends its own updates to those of other signals
  pieces_from : (v : ℕ) (ps : List PieceForm) (e : Environment ℕ) (us ws : Updates)
      → ((t : ℕ) → IsTrue (list_any (λ (p : PieceForm). p.signal == t) ps) → IsFalse (touches us t))
      → fold (put_piece signals false v) (e, us ++ ws) ps ≡
      (e, us ++ (fold (put_piece signals false v) (e, ws) ps).1)
  pieces_from v [] e us ws none = refl
  pieces_from v (p ∷ ps) e us ws none =
      let old = last_split p.signal (e p.signal) us ws
      ∙ ap (λ x. last_update ◌==◌ p.signal x ws) (last_untouched p.signal (e p.signal) us
      (none p.signal
      (or_left (p.signal == p.signal) (list_any (λ (q : PieceForm). q.signal == p.signal) ps)
      (eq-eqb p.signal p.signal refl)))) in
      let new = λ (x : ℕ). (p.signal, with_piece signals p v x) ∷ [] in
      ap (λ z. fold (put_piece signals false v) (e, z) ps)
      (ap (λ x. (us ++ ws) ++ new x) old
      ∙ append_assoc us ws (new (last_update ◌==◌ p.signal (e p.signal) ws)))
      ∙ pieces_from v ps e us (ws ++ new (last_update ◌==◌ p.signal (e p.signal) ws))
      (λ t h. none t (or_right (p.signal == t) (list_any (λ (q : PieceForm). q.signal == t) ps) h))

  either_from : (b : Bool) (x y z w : Environment ℕ × Updates) (e : Environment ℕ) (us : Updates)
      → x ≡ (e, us ++ z.1) → y ≡ (e, us ++ w.1) → cond b x y ≡ (e, us ++ (cond b z w).1)
  either_from true x y z w e us first second = first
  either_from false x y z w e us first second = second

  pub run_from : (body : FlatStatement) → IsTrue (is_nonblocking body)
      → (e : Environment ℕ) (us ws : Updates)
      → ((t : ℕ) → IsTrue (assigns body t) → IsFalse (touches us t))
      → run signals body (e, us ++ ws) ≡ (e, us ++ (run signals body (e, ws)).1)
  run_from nothing h e us ws none = refl
  run_from (after first second) h e us ws none =
      let first_is = first_of (is_nonblocking first) (is_nonblocking second) h in
      let second_is = second_of (is_nonblocking first) (is_nonblocking second) h in
      ap (run signals second)
      (run_from first first_is e us ws
      (λ t a. none t (or_left (assigns first t) (assigns second t) a)))
      ∙ run_from second second_is e us (run signals first (e, ws)).1
      (λ t a. none t (or_right (assigns first t) (assigns second t) a))
      ∙ ap (λ now. (e, us ++ (run signals second now).1))
      (sym (run_is signals first first_is (e, ws)))
  run_from (assign [] place blocking right) h e us ws none = refl
  run_from (assign (p ∷ ps) place true right) h e us ws none = absurd (false≢true h)
  run_from (assign (p ∷ ps) place false right) h e us ws none = pieces_from (value signals e right)
      (p ∷ ps) e us ws none
  run_from (branch place condition first second) h e us ws none =
      either_from (is_true (value signals e condition)) (run signals first (e, us ++ ws))
      (run signals second (e, us ++ ws))
      (run signals first (e, ws)) (run signals second (e, ws)) e us
      (run_from first (first_of (is_nonblocking first) (is_nonblocking second) h) e us ws
      (λ t a. none t (or_left (assigns first t) (assigns second t) a)))
      (run_from second (second_of (is_nonblocking first) (is_nonblocking second) h) e us ws
      (λ t a. none t (or_right (assigns first t) (assigns second t) a)))

  -- a run updates what its statement assigns
  pieces_touch : (blocking : Bool) (v : ℕ) (ps : List PieceForm) (now : Environment ℕ × Updates)
      (t : ℕ)
      → IsFalse (list_any (λ (p : PieceForm). p.signal == t) ps) → IsFalse (touches now.1 t)
      → IsFalse (touches (fold (put_piece signals blocking v) now ps).1 t)
  pieces_touch blocking v [] now t none had = had
  pieces_touch true v (p ∷ ps) now t none had =
      pieces_touch true v ps (put_piece signals true v now p) t
      (or_none_right (p.signal == t) (list_any (λ (q : PieceForm). q.signal == t) ps) none) had
  pieces_touch false v (p ∷ ps) now t none had =
      let new : ℕ
      × ℕ = (
        p.signal,
        with_piece signals p v
            (last_update ◌==◌ p.signal (now.0 p.signal) now.1),
      ) in
      pieces_touch false v ps (put_piece signals false v now p) t
      (or_none_right (p.signal == t) (list_any (λ (q : PieceForm). q.signal == t) ps) none)
      (touches_both now.1 (new ∷ []) t had
      (neither (p.signal == t) false
      (or_none_left (p.signal == t) (list_any (λ (q : PieceForm). q.signal == t) ps) none) refl))

  either_touch : (b : Bool) (x y : Environment ℕ × Updates) (t : ℕ) → IsFalse (touches x.1 t)
      → IsFalse (touches y.1 t)
      → IsFalse (touches (cond b x y).1 t)
  either_touch true x y t first second = first
  either_touch false x y t first second = second

  pub run_touch : (body : FlatStatement) (now : Environment ℕ × Updates) (t : ℕ)
      → IsFalse (assigns body t) → IsFalse (touches now.1 t)
      → IsFalse (touches (run signals body now).1 t)
  run_touch nothing now t none had = had
  run_touch (after first second) now t none had =
      run_touch second (run signals first now) t
      (or_none_right (assigns first t) (assigns second t) none)
      (run_touch first now t (or_none_left (assigns first t) (assigns second t) none) had)
  run_touch (assign pieces place blocking right) now t none had = pieces_touch blocking
      (value signals now.0 right) pieces now t none had
  run_touch (branch place condition first second) now t none had =
      either_touch (is_true (value signals now.0 condition)) (run signals first now)
      (run signals second now) t
      (run_touch first now t (or_none_left (assigns first t) (assigns second t) none) had)
      (run_touch second now t (or_none_right (assigns first t) (assigns second t) none) had)

-- ---- lists of processes

pub all_touch : (each : ProcessForm → Updates) (qs : List ProcessForm) (t : ℕ)
    → ((q : ProcessForm) → Contains qs q → IsFalse (touches (each q) t))
    → IsFalse (touches (flat_map each qs) t)
all_touch each [] t none = refl
all_touch each (q ∷ qs) t none = touches_both (each q) (flat_map each qs) t
    (none q (Contains-head q qs))
    (all_touch each qs t (λ r at. none r (Contains-later q qs r at)))

module _ {X Y : Type 0} (test : X → Bool) (f : X → List Y) (p : X) where
  made_more : (b : Bool) (x : X) (zs ws : List X) → flat_map f zs ≡ flat_map f ws ++ f p
      → flat_map f (cond b (x ∷ zs) zs) ≡ flat_map f (cond b (x ∷ ws) ws) ++ f p
  made_more true x zs ws e = ap (λ ys. f x ++ ys) e ∙ sym (append_assoc (f x) (flat_map f ws) (f p))
  made_more false x zs ws e = e

  -- what is made of one more element that passes
  pub one_more_passes : (xs : List X) → test p ≡ true
      → flat_map f (filter test (xs ++ p ∷ [])) ≡ flat_map f (filter test xs) ++ f p
  one_more_passes [] yes' = ap (λ b. flat_map f (cond b (p ∷ []) [])) yes' ∙ append-nil (f p)
  one_more_passes (x ∷ xs) yes' = made_more (test x) x (filter test (xs ++ p ∷ [])) (filter test xs)
      (one_more_passes xs yes')

module _ {X : Type 0} (test : X → Bool) (p : X) where
  left_more : (b : Bool) (x : X) (zs ws : List X) → zs ≡ ws
      → cond b (x ∷ zs) zs ≡ cond b (x ∷ ws) ws
  left_more b x zs ws e = ap (λ ys. cond b (x ∷ ys) ys) e

  pub one_more_fails : (xs : List X) → test p ≡ false → filter test (xs ++ p ∷ []) ≡ filter test xs
  one_more_fails [] no' = ap (λ b. cond b (p ∷ []) []) no'
  one_more_fails (x ∷ xs) no' = left_more (test x) x (filter test (xs ++ p ∷ [])) (filter test xs)
      (one_more_fails xs no')

pub some_first : {X : Type 0} (xs : List X) (x : X) → Contains xs x → slice_get xs 0 ≡ None → ⊥
some_first [] x at e = Contains-nil x at
some_first (y ∷ xs) x at e = some_is_some y e

-- a list has a second element that passes where one passes before another
module _ {X : Type 0} (test : X → Bool) (p : X) (passes : IsTrue (test p)) (ys : List X) where
  has_p : (xs : List X) → Contains (filter test (xs ++ p ∷ ys)) p
  has_p xs = Contains-filter test (xs ++ p ∷ ys) p
      (Contains-right xs (p ∷ ys) p (Contains-head p ys)) passes

  second_by : (b : Bool) (x : X) (xs : List X) → b ≡ true
      → slice_get (cond b (x ∷ filter test (xs ++ p ∷ ys)) (filter test (xs ++ p ∷ ys))) 1 ≡ None
      → ⊥
  second_by true x xs e none = some_first (filter test (xs ++ p ∷ ys)) p (has_p xs) none
  second_by false x xs e none = false≢true e

  skip_by : (b : Bool) (x : X) (zs : List X) → b ≡ false → slice_get (cond b (x ∷ zs) zs) 1 ≡ None
      → slice_get zs 1 ≡ None
  skip_by true x zs e none = absurd (false≢true (sym e))
  skip_by false x zs e none = none

  pub two_pass : (xs : List X) (q : X) → Contains xs q → IsTrue (test q)
      → slice_get (filter test (xs ++ p ∷ ys)) 1 ≡ None → ⊥
  two_pass [] q at h none = Contains-nil q at
  two_pass (x ∷ xs) q at h none = ⊎_elim
      (λ is. second_by (test x) x xs (subst (λ z. IsTrue (test z)) (sym is) h) none)
      (λ later. ⊎_elim
      (λ x_passes. second_by (test x) x xs x_passes none)
      (λ x_fails. two_pass xs q later h
      (skip_by (test x) x (filter test (xs ++ p ∷ ys)) x_fails none))
      (either_way (test x)))
      (Contains-cases x xs q at)

module _ (design : FlatDesign) (is_sound : IsTrue (sound design))
    (admitted : IsAdmitted design) where
  -- every assignment of a clocked process is `<=`
  pub clocked_is_nonblocking : (p : ProcessForm) → Contains (processes_of design) p
      → IsTrue (is_clocked p.kind) → IsTrue (is_nonblocking p.body)
  clocked_is_nonblocking p at h =
      nonblocking_targets p.body (is_by_edge design is_sound admitted p at h)

  module _ (before after' : List ProcessForm) (p : ProcessForm)
      (all : before ++ p ∷ after' ≡ processes_of design)
      (clocked_p : IsTrue (is_clocked p.kind)) (e : Environment ℕ) where
    at_p : Contains (processes_of design) p
    at_p = subst (λ ps. Contains ps p) all
        (Contains-right before (p ∷ after') p (Contains-head p after'))

    abbrev us : Updates
    us = all_updates design (filter (λ (q : ProcessForm). is_clocked q.kind) before) e

    no_other : (t : ℕ) → IsTrue (assigns p.body t) → (q : ProcessForm) → Contains before q
        → IsFalse (assigns q.body t)
    no_other t h q q_at = none_found (assigns q.body t) (λ q_h.
        let inside = assigned_is_signal design.signals p.body
        (body_is_sound design is_sound admitted p at_p) t h in
        let test = λ (r : ProcessForm). assigns r.body t in
        ⊎_elim
        (λ top. some_first (drivers (processes_of design) t) p
        (Contains-filter test (processes_of design) p at_p h)
        (extra_at design is_sound admitted true t top inside))
        (λ no_top. two_pass test p h after' before q q_at q_h
        (subst (λ ps. slice_get (filter test ps) 1 ≡ None) (sym all)
        (extra_at design is_sound admitted false t no_top inside)))
        (either_way (is_top_input design t)))

    untouched : (t : ℕ) → IsTrue (assigns p.body t) → IsFalse (touches us t)
    untouched t h = all_touch (λ (q : ProcessForm). updates_of design.signals q.body e)
        (filter (λ (q : ProcessForm). is_clocked q.kind) before) t
        (λ q q_at. run_touch design.signals q.body (e, []) t
        (no_other t h q
        (Contains-from_filter (λ (r : ProcessForm). is_clocked r.kind) before q q_at).1) refl)

    -- one more clocked process
    pub edge_more : (run design.signals p.body (e, us)).1 ≡ all_updates design
        (filter (λ (q : ProcessForm). is_clocked q.kind) (before ++ p ∷ [])) e
    edge_more =
        ap (λ z. (run design.signals p.body (e, z)).1) (sym (append-nil us))
        ∙ ap (λ now. now.1)
        (run_from design.signals p.body (clocked_is_nonblocking p at_p clocked_p) e us [] untouched)
        ∙ sym (one_more_passes (λ (q : ProcessForm). is_clocked q.kind)
        (λ (q : ProcessForm). updates_of design.signals q.body e) p before clocked_p)

  -- ---- one more place

  module _ (place : ℕ) (inside : place < length (processes_of design)) where
    abbrev ps : List ProcessForm
    ps = processes_of design

    abbrev clocks : ProcessForm → Bool
    clocks q = is_clocked q.kind

    pub clocked_more : IsTrue (is_clocked (process_at design place).kind) → (e : Environment ℕ)
        → (run design.signals (process_at design place).body
        (e, all_updates design (clocked_before design place) e)).1
        ≡ all_updates design (clocked_before design (place + 1)) e
    clocked_more h e =
        edge_more (take place ps) (drop (place + 1) ps) (process_at design place)
        (cut_there design is_sound admitted place inside) h e
        ∙ ap (λ qs. all_updates design (filter clocks qs) e) (sym (take_more ps place idle inside))

    pub clocked_same : IsFalse (is_clocked (process_at design place).kind) →
        clocked_before design (place + 1) ≡ clocked_before design place
    clocked_same h =
        ap (filter clocks) (take_more ps place idle inside)
        ∙ one_more_fails clocks (process_at design place) (take place ps) h

  -- ---- a whole edge

  -- a clock keeps its value
  clock_stays : (e : Environment ℕ) (s : ℕ) → IsTrue (is_clock design s) →
      (flat_system design).next e s ≡ e s
  clock_stays e s clock =
      last_untouched s (e s) (all_updates design (clocked_processes design) e)
      (all_touch (λ (q : ProcessForm). updates_of design.signals q.body e)
      (clocked_processes design) s
      (λ q q_at. run_touch design.signals q.body (e, []) s
      (none_found (assigns q.body s) (λ h.
      false≢true (sym (assigns_no_clock design is_sound admitted q s
      (Contains-from_filter (λ (r : ProcessForm). is_clocked r.kind) (processes_of design) q q_at).1
      h) ∙ clock)))
      refl))

  pub ticked_simulation : (old new : List ℕ) (is_settled : Bool)
      → IsSimulation design old is_settled
      → FitSignals design.signals new
      → by_number new ≡ (flat_system design).next (by_number old) → IsSimulation design new false
  ticked_simulation old new is_settled before fit is = record {
    fit = fit;
    clocks = λ s clock. ap (λ e. e s) is ∙ clock_stays (by_number old) s clock
        ∙ before.clocks s clock;
    still = λ settled. absurd (false≢true settled);
  }
