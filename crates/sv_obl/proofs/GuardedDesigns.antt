-- Where all obligations of a design are valid, its labels guard every use: so no level learns more
-- than it may.
use Rattle.std.proofs.Common.{◌≡◌, ℕ, ◌<◌, ◌^◌, Bool, true, false, not, ◌&&◌, ltb-true, lt-ltb}
use Rattle.std.proofs.Common.{List, [], ◌∷◌, length, map, ⊎_elim, refl, sym, ap, subst, ◌∙◌, None}
use Rattle.std.specs.Prelude.{Contains, All, IsTrue, IsFalse, filter, flat_map, slice_get}
use Rattle.std.proofs.lemmas.Bool.{false≢true}
use Rattle.sv_system.specs.System.{Environment, Fits, IsStill, Settled, Noninterferent}
use Rattle.sv_system.specs.Facts.{IsCombinational, Guarded}
use Rattle.sv_system.proofs.Lists.{Contains-nil, Contains-head, Contains-map, Contains-filter}
use Rattle.sv_system.proofs.Noninterference.{noninterference}
use Rattle.sv_flat.specs.Design.{TypedTree}
use Rattle.sv_flat.specs.Design.{ProcessForm, FlatDesign}
use Rattle.sv_flat.specs.Values.{signal_of, signal_width, value}
use Rattle.sv_flat.specs.Soundness.{is_signal, sound}
use Rattle.sv_flat.specs.Assigned.{assigns}
use Rattle.sv_flat.specs.Processes.{is_clocked, is_top_input, is_register, signal_numbers, drivers}
use Rattle.sv_flat.specs.Clocks.{is_clock, is_port_in, is_clock_link, processes_of}
use Rattle.sv_flat.specs.Reads.{depth}
use Rattle.sv_flat.specs.FlatSystem.{flat_system, combinational_processes}
use Rattle.sv_flat.specs.Admission.{IsAdmitted}
use Rattle.sv_flat.proofs.Members.{Contains-left, Contains-right}
use Rattle.sv_flat.proofs.LeastSets.{either_way, range_has, from_some, some_from, those_below}
use Rattle.sv_flat.proofs.LeastSets.{Contains-from_filter}
use Rattle.sv_flat.proofs.Depths.{first_of, second_of, from_all}
use Rattle.sv_flat.proofs.SameRuns.{none_found}
use Rattle.sv_flat.proofs.AdmittedFacts.{and_true, some_is_some, is_process, body_is_sound}
use Rattle.sv_flat.proofs.AdmittedFacts.{assigned_is_signal, drives, extra_at}
use Rattle.sv_flat.proofs.AdmittedFacts.{targets_are_combinational, combinational_is_driven}
use Rattle.sv_flat.proofs.AdmittedFacts.{clocked_is_no_port}
use Rattle.sv_flat.proofs.FlatScheduled.{parts_of, of_system}
use Rattle.sv_obl.specs.declared.frames.Frame.{Frame}
use Rattle.sv_obl.specs.declared.frames.Frame.TheVariants.{Now, Next}
use Rattle.sv_obl.specs.Paths.{StepForm, Path, paths}
use Rattle.sv_flat.specs.Selectors.{selectors_of, always_flows}
use Rattle.sv_obl.specs.Obligations.{Obligation, frame_of}
use Rattle.sv_obl.specs.Obligations.{path_obligation, target_obligations, selector_obligation}
use Rattle.sv_obl.specs.Obligations.{selector_obligations, obligations}
use Rattle.sv_obl.specs.PathValues.{is_true_in, Holds}
use Rattle.sv_obl.specs.Validity.{Valuation, MeetsFacts, IsInFrame, IsValid, AllValid}
use Rattle.sv_obl.specs.Validity.{Falsifies, GoalFails, goal_frame}
use Rattle.sv_obl.specs.Noninterference.{IsChecked, NoninterferentUnder}
use Rattle.sv_flat.proofs.Members.{all_contained, contained_all}
use Rattle.sv_obl.proofs.PathLists.{same_truth, cond_true, cond_false}
use Rattle.sv_obl.proofs.PathLists.{in_flat_map, from_flat_map}
use Rattle.sv_obl.proofs.PathRuns.{step_holds, steps_hold}
use Rattle.sv_obl.proofs.TargetReads.{reads_of, Origin, origin, read_is_lower, read_is_seen}
use Rattle.sv_obl.proofs.TargetReads.{steps_same, result_same}
use Rattle.sv_obl.proofs.TargetValues.{path_gives_value, some_value_path, path_gives_next}
use Rattle.sv_obl.proofs.TargetValues.{some_next_path}
use Rattle.sv_flat.proofs.SelectorFacts.{label_selected, selector_is_seen, always_is_right}
use Rattle.sv_obl.proofs.LatticeFacts.{flows_on}
use Rattle.sv_obl.proofs.Watched.{watched, rests, meets_facts, trace_there}

-- an environment that fits and is still is what its own values settle to
pub settles_itself : (design : FlatDesign) (e : Environment ℕ) → Fits (flat_system design) e →
    IsStill (flat_system design) e → Settled (flat_system design) e e e
settles_itself design e fits still =
    record { registers = λ s h. refl; inputs_are = λ s h. refl; fits = fits; still = still }

-- what is not false is true
otherwise : (b : Bool) → (IsFalse b → ⊥) → IsTrue b
otherwise true no_case = refl
otherwise false no_case = absurd (no_case refl)

none_is_first : (ps : List ProcessForm) (p : ProcessForm) → Contains ps p →
    slice_get ps 0 ≡ None → ⊥
none_is_first [] p at e = Contains-nil p at
none_is_first (q ∷ ps) p at e = some_is_some q e

module _ (facts : List TypedTree) (design : FlatDesign) (checked : IsChecked design) where
  is_sound : IsTrue (sound design)
  is_sound = checked.is_sound

  admitted : IsAdmitted design
  admitted = checked.admitted

  -- ---- uses

  -- the paths of a process whose conditions hold
  abbrev held_paths : Environment ℕ → ℕ → ProcessForm → List Path
  held_paths e s p =
      filter (λ (q : Path).
      steps_hold design.signals e q.steps) (paths design.signals s p.kind p.body)

  -- what a signal's value is made from: the reads of its paths that hold
  abbrev uses : Environment ℕ → ℕ → List ℕ
  uses e s =
      flat_map (λ p. flat_map (reads_of design) (held_paths e s p))
      (drivers (processes_of design) s)

  -- a path that holds, of a process that drives a signal
  record Taken (e : Environment ℕ) (s : ℕ) : Type 0 where
    process : ProcessForm
    is_process : Contains (processes_of design) process
    assigned : IsTrue (assigns process.body s)
    path : Path
    is_path : Contains (paths design.signals s process.kind process.body) path
    holds : IsTrue (steps_hold design.signals e path.steps)

  taken : (e : Environment ℕ) (s : ℕ) (p : ProcessForm) → Contains (processes_of design) p →
      IsTrue (assigns p.body s) → (q : Path) → Contains (paths design.signals s p.kind p.body) q →
      IsTrue (steps_hold design.signals e q.steps) → Taken e s
  taken e s p is_process assigned q is_path holds = record {
    process = p;
    is_process = is_process;
    assigned = assigned;
    path = q;
    is_path = is_path;
    holds = holds;
  }

  -- its reads are used
  used : (e : Environment ℕ) (s : ℕ) (k : Taken e s) (t : ℕ) → Contains (reads_of design k.path) t →
      Contains (uses e s) t
  used e s k t at =
      in_flat_map (λ p. flat_map (reads_of design) (held_paths e s p))
      (drivers (processes_of design) s) k.process t
      (drives design is_sound admitted k.process s k.is_process k.assigned)
      (in_flat_map (reads_of design) (held_paths e s k.process) k.path t
      (Contains-filter (λ (q : Path).
      steps_hold design.signals e q.steps)
      (paths design.signals s k.process.kind k.process.body) k.path k.is_path k.holds) at)

  -- and nothing else is
  use_cases : (e : Environment ℕ) (s t : ℕ) → Contains (uses e s) t →
      (k : Taken e s) × Contains (reads_of design k.path) t
  unfolding taken
  use_cases e s t at =
      let one = from_flat_map (λ p.
      flat_map (reads_of design) (held_paths e s p)) (drivers (processes_of design) s) t at in
      let p = one.0 in
      let driver = Contains-from_filter (λ (x : ProcessForm).
      assigns x.body s) (processes_of design) p one.1 in
      let two = from_flat_map (reads_of design) (held_paths e s p) t one.2 in
      let held = Contains-from_filter (λ (q : Path).
      steps_hold design.signals e q.steps) (paths design.signals s p.kind p.body) two.0 two.1 in (
        taken e s p driver.1 driver.0 two.0 held.1 held.0,
        two.2,
      )

  -- what a path of a driver that holds comes from
  origin_of : (e : Environment ℕ) (s : ℕ) (k : Taken e s) →
      Origin design is_sound admitted k.process s k.is_process k.assigned k.path
  origin_of e s k =
      origin design is_sound admitted k.process s k.is_process k.assigned k.path k.is_path

  signal_assigned : (e : Environment ℕ) (s : ℕ) → Taken e s → IsTrue (is_signal design.signals s)
  signal_assigned e s k =
      assigned_is_signal design.signals k.process.body
      (body_is_sound design is_sound admitted k.process k.is_process) s k.assigned

  use_is_seen : (e : Environment ℕ) (s t : ℕ) → Contains (uses e s) t →
      Contains (flat_system design).signals t
  use_is_seen e s t at =
      let found = use_cases e s t at in
      let k = found.0 in
      read_is_seen design is_sound admitted k.process s k.is_process k.assigned k.path
      (origin_of e s k) t found.1

  -- ---- drivers

  -- a combinational signal is driven by a process that is not clocked
  comb_unclocked : (p : ProcessForm) (s : ℕ) → IsCombinational (flat_system design) s
      → Contains (processes_of design) p
      → IsTrue (assigns p.body s) → IsFalse (is_clocked p.kind)
  comb_unclocked p s comb at assigned =
      none_found (is_clocked p.kind) (λ clock. false≢true (sym comb.no_register
      ∙ some_from (λ (q : ProcessForm). is_clocked q.kind && assigns q.body s) design.processes p
      (is_process design is_sound admitted p at)
      (and_true (is_clocked p.kind) (assigns p.body s) clock assigned)))

  -- a register by a clocked one
  register_clocked : (p : ProcessForm) (s : ℕ) → IsTrue (is_register design s)
      → Contains (processes_of design) p
      → IsTrue (assigns p.body s) → IsTrue (is_clocked p.kind)
  register_clocked p s register at assigned = otherwise (is_clocked p.kind) (λ unclocked.
      let comb = targets_are_combinational design is_sound admitted p s at unclocked assigned in
      false≢true (sym (parts_of design is_sound admitted s comb).2 ∙ register))

  no_link : (a b : Bool) → IsFalse a → IsTrue (not (a && b))
  no_link true b h = absurd (false≢true (sym h))
  no_link false b h = refl

  register_driven : (s : ℕ) → IsTrue (is_register design s)
      → (p : ProcessForm) × Contains (processes_of design) p × IsTrue (assigns p.body s)
  register_driven s register =
      let found = from_some (λ (q : ProcessForm).
      is_clocked q.kind && assigns q.body s) design.processes register in
      let p = found.0 in
      let clock = first_of (is_clocked p.kind) (assigns p.body s) found.2 in (
        p,
        Contains-filter (λ z. not (is_clock_link design z)) design.processes p found.1
            (no_link (is_port_in p.kind) _ (clocked_is_no_port p.kind clock)),
        second_of (is_clocked p.kind) (assigns p.body s) found.2,
      )

  no_top : (p : ProcessForm) (s : ℕ) → Contains (processes_of design) p →
      IsTrue (assigns p.body s) → IsFalse (is_top_input design s)
  no_top p s at assigned = none_found (is_top_input design s) (λ top.
      none_is_first (drivers (processes_of design) s) p
      (drives design is_sound admitted p s at assigned)
      (extra_at design is_sound admitted true s top
      (assigned_is_signal design.signals p.body (body_is_sound design is_sound admitted p at) s
      assigned)))

  -- no second process drives it
  pub one_driver : (p : ProcessForm) (s : ℕ) → Contains (processes_of design) p
      → IsTrue (assigns p.body s)
      → slice_get (drivers (processes_of design) s) 1 ≡ None
  one_driver p s at assigned = extra_at design is_sound admitted false s (no_top p s at assigned)
      (assigned_is_signal design.signals p.body (body_is_sound design is_sound admitted p at) s
      assigned)

  -- ---- values

  abbrev AgreesOnUses : Environment ℕ → Environment ℕ → ℕ → Type 0
  AgreesOnUses e f s = (t : ℕ) → Contains (uses e s) t → e t ≡ f t

  also_holds : (e f : Environment ℕ) (s : ℕ) (k : Taken e s) → AgreesOnUses e f s →
      IsTrue (steps_hold design.signals f k.path.steps)
  also_holds e f s k same =
      sym (steps_same design is_sound admitted k.process s k.is_process k.assigned k.path
      (origin_of e s k) e f
      (λ t at. same t (used e s k t at))) ∙ k.holds

  values_same : (e f : Environment ℕ) (s : ℕ) (k : Taken e s) → AgreesOnUses e f s
      → value design.signals e k.path.result ≡ value design.signals f k.path.result
  values_same e f s k same =
      result_same design is_sound admitted k.process s k.is_process k.assigned k.path
      (origin_of e s k) e f
      (λ t at. same t (used e s k t at))

  -- a combinational process among those that are not clocked
  unclocked_process : (p : ProcessForm) → Contains (processes_of design) p
      → IsFalse (is_clocked p.kind)
      → Contains (combinational_processes design) p
  unclocked_process p at unclocked =
      Contains-filter (λ (q : ProcessForm).
      not (is_clocked q.kind)) (processes_of design) p at (ap not unclocked)

  comb_taken : (e : Environment ℕ) (s : ℕ) → IsCombinational (flat_system design) s
      → Fits (flat_system design) e
      → IsStill (flat_system design) e → Taken e s
  comb_taken e s comb fits still =
      let driver = combinational_is_driven design is_sound admitted s
      (of_system design is_sound admitted s comb) in
      let p = driver.0 in
      let found = some_value_path design is_sound admitted p (unclocked_process p driver.1 driver.2)
      e fits still s driver.3 in
      taken e s p driver.1 driver.3 found.0 found.1 found.2

  combinational_value : (e f : Environment ℕ) (s : ℕ) → IsCombinational (flat_system design) s
      → Fits (flat_system design) e
      → Fits (flat_system design) f → IsStill (flat_system design) e
      → IsStill (flat_system design) f → AgreesOnUses e f s → e s ≡ f s
  combinational_value e f s comb e_fits f_fits e_still f_still same =
      let k = comb_taken e s comb e_fits e_still in
      let p = k.process in
      let among = unclocked_process p k.is_process
      (comb_unclocked p s comb k.is_process k.assigned) in
      path_gives_value design is_sound admitted p among e e_fits e_still s k.assigned k.path
      k.is_path k.holds
      ∙ values_same e f s k same
      ∙ sym (path_gives_value design is_sound admitted p among f f_fits f_still s k.assigned k.path
      k.is_path (also_holds e f s k same))

  next_taken : (e : Environment ℕ) (s : ℕ) → IsTrue (is_register design s) → Taken e s
  next_taken e s register =
      let driver = register_driven s register in
      let p = driver.0 in
      let clock = register_clocked p s register driver.1 driver.2 in
      let found = some_next_path design is_sound admitted p s driver.1 clock driver.2 e in
      taken e s p driver.1 driver.2 found.0 found.1 found.2

  register_value : (e f : Environment ℕ) (s : ℕ) → IsTrue (is_register design s)
      → e s < 2 ^ signal_width design.signals s
      → f s < 2 ^ signal_width design.signals s → AgreesOnUses e f s
      → (flat_system design).next e s ≡ (flat_system design).next f s
  register_value e f s register e_low f_low same =
      let k = next_taken e s register in
      let p = k.process in
      let clock = register_clocked p s register k.is_process k.assigned in
      let one = one_driver p s k.is_process k.assigned in
      path_gives_next design is_sound admitted p s k.is_process clock k.assigned e one e_low k.path
      k.is_path k.holds
      ∙ values_same e f s k same
      ∙ sym (path_gives_next design is_sound admitted p s k.is_process clock k.assigned f one f_low
      k.path k.is_path (also_holds e f s k same))

  -- reads lie lower
  use_is_lower : (e : Environment ℕ) (s t : ℕ) → IsCombinational (flat_system design) s →
      Contains (uses e s) t → depth design t < depth design s
  use_is_lower e s t comb at =
      let found = use_cases e s t at in
      let k = found.0 in
      let unclocked = comb_unclocked k.process s comb k.is_process k.assigned in
      read_is_lower design is_sound admitted k.process s k.is_process k.assigned unclocked k.path
      (origin_of e s k) t found.1

  -- ---- labels

  abbrev flows_between : (t : ℕ) → Environment ℕ → (s : ℕ) → Environment ℕ → Bool
  flows_between t e s f =
      (flat_system design).flows ((flat_system design).label t e) ((flat_system design).label s f)

  abbrev this_cycle : Environment ℕ → Environment ℕ → Valuation
  this_cycle e f = record { registers = e; inputs = e; next_inputs = f }

  falsified : (o : Obligation) (e f : Environment ℕ) → Fits (flat_system design) e →
      IsStill (flat_system design) e → IsInFrame design (this_cycle e f) e (goal_frame o.goal) f →
      MeetsFacts design o.facts e → Holds design.signals e o.path →
      GoalFails design o.reads e f o.goal → Falsifies design (this_cycle e f) o
  falsified o e f fits still frame met path fails = record {
    now = e;
    there = f;
    settled = settles_itself design e fits still;
    in_frame = frame;
    facts = met;
    path = path;
    fails = fails;
  }

  path_true : (e : Environment ℕ) (s : ℕ) (k : Taken e s)
      → Holds design.signals e k.path.steps
  path_true e s k =
      contained_all (λ (step : StepForm). is_true_in design.signals e step.condition ≡ step.truth)
      k.path.steps (λ step at.
      same_truth (is_true_in design.signals e step.condition) step.truth
      (from_all (step_holds design.signals e) k.path.steps step k.holds at))

  among_obligations : (e : Environment ℕ) (s : ℕ) (k : Taken e s)
      → Contains (obligations facts design) (path_obligation facts design k.process s k.path)
  among_obligations e s k =
      let o = path_obligation facts design k.process s k.path in
      Contains-left (flat_map (target_obligations facts design) (signal_numbers design))
      (flat_map (selector_obligations facts design) (signal_numbers design)) o
      (in_flat_map (target_obligations facts design) (signal_numbers design) s o
      (range_has (length design.signals) s
      (ltb-true s (length design.signals) (signal_assigned e s k)))
      (in_flat_map (λ (p : ProcessForm).
      map (path_obligation facts design p s) (paths design.signals s p.kind p.body))
      (drivers (processes_of design) s) k.process o
      (drives design is_sound admitted k.process s k.is_process k.assigned)
      (Contains-map (path_obligation facts design k.process s)
      (paths design.signals s k.process.kind k.process.body) k.path k.is_path)))

  module _ (valid : AllValid facts design) where
    is_valid : (o : Obligation) → Contains (obligations facts design) o → IsValid design o
    is_valid o at = all_contained (IsValid design) (obligations facts design) valid o at

    -- what is read on a path that holds flows to the target's label in the frame of its process
    read_flows : (e f : Environment ℕ) (s t : ℕ) (k : Taken e s) → Fits (flat_system design) e
        → IsStill (flat_system design) e
        → MeetsFacts design facts e
        → IsInFrame design (this_cycle e f) e (frame_of k.process.kind) f
        → Contains (reads_of design k.path) t → IsTrue (flows_between t e s f)
    read_flows e f s t k fits still met frame at = otherwise (flows_between t e s f) (λ stays.
        is_valid (path_obligation facts design k.process s k.path) (among_obligations e s k)
        (this_cycle e f) (falsified (path_obligation facts design k.process s k.path) e f fits still
        frame met (path_true e s k) (t, at, stays)))

    use_flows : (e : Environment ℕ) (s t : ℕ) → IsCombinational (flat_system design) s
        → Fits (flat_system design) e
        → IsStill (flat_system design) e → MeetsFacts design facts e → Contains (uses e s) t
        → IsTrue (flows_between t e s e)
    use_flows e s t comb fits still met at =
        let found = use_cases e s t at in
        let k = found.0 in
        read_flows e e s t k fits still met
        (subst (λ (frame : Frame). IsInFrame design (this_cycle e e) e frame e)
        (sym (cond_false (is_clocked k.process.kind) Next Now
        (comb_unclocked k.process s comb k.is_process k.assigned))) refl) found.1

    next_flows : (e f : Environment ℕ) (s t : ℕ) → IsTrue (is_register design s)
        → Fits (flat_system design) e → Fits (flat_system design) f
        → IsStill (flat_system design) e → IsStill (flat_system design) f
        → MeetsFacts design facts e
        → ((r : ℕ) → IsTrue (is_register design r) → f r ≡ (flat_system design).next e r)
        → Contains (uses e s) t
        → IsTrue (flows_between t e s f)
    next_flows e f s t register e_fits f_fits e_still f_still met registers at =
        let found = use_cases e s t at in
        let k = found.0 in
        read_flows e f s t k e_fits e_still met
        (subst (λ (frame : Frame). IsInFrame design (this_cycle e f) e frame f)
        (sym (cond_true (is_clocked k.process.kind) Next Now
        (register_clocked k.process s register k.is_process k.assigned)))
        (record {
          registers = registers;
          inputs_are = λ z h.
              refl;
          fits = f_fits;
          still = f_still;
        })) found.1

    -- a selector's label flows to the label that it selects
    selector_flows : (e : Environment ℕ) (s t : ℕ) → Contains (flat_system design).signals s
        → Fits (flat_system design) e
        → IsStill (flat_system design) e → MeetsFacts design facts e
        → Contains (selectors_of (signal_of design.signals s).label) t
        → IsTrue (flows_between t e s e)
    selector_flows e s t seen fits still met at =
        let below = those_below (length design.signals) (λ z. not (is_clock design z)) s seen in
        let inside = lt-ltb s (length design.signals) below in
        let selectors = selectors_of (signal_of design.signals s).label in
        let o = selector_obligation facts s t in
        ⊎_elim
        (λ always. always_is_right design is_sound admitted checked.maps s inside e
        (λ u u_at. all_contained (λ z.
        e z < 2 ^ signal_width design.signals z) (flat_system design).signals fits u
        (selector_is_seen design is_sound admitted s inside u u_at)) t at always)
        (λ sometimes. otherwise (flows_between t e s e) (λ stays.
        is_valid o
        (Contains-right (flat_map (target_obligations facts design) (signal_numbers design))
        (flat_map (selector_obligations facts design) (signal_numbers design)) o
        (in_flat_map (selector_obligations facts design) (signal_numbers design) s o
        (range_has (length design.signals) s below)
        (Contains-map (selector_obligation facts s)
        (filter (λ u. not (always_flows design s u)) selectors) t
        (Contains-filter (λ u. not (always_flows design s u)) selectors t at (ap not sometimes)))))
        (this_cycle e e) (falsified o e e fits still refl met
        (contained_all (λ (step : StepForm).
        is_true_in design.signals e step.condition ≡ step.truth) [] (λ step none.
        absurd (Contains-nil step none))) (t, Contains-head t [], stays))))
        (either_way (always_flows design s t))

    -- ---- the facts of the law

    pub guarded : Guarded (watched facts design)
    guarded = record {
      uses = uses;
      selectors = λ s. selectors_of (signal_of design.signals s).label;
      depth = depth design;
      uses_within = λ e s t seen at. use_is_seen e s t at;
      selectors_within = λ s t seen at. selector_is_seen design is_sound admitted s
          (lt-ltb s (length design.signals) (those_below (length design.signals) (λ z.
          not (is_clock design z)) s seen)) t at;
      lower = λ e s t comb at other. use_is_lower e s t (as_combinational s comb) at;
      determined =
          λ e f s comb e_fits f_fits e_still f_still same.
          combinational_value e f s (as_combinational s comb) e_fits f_fits
          (rests facts design e e_still) (rests facts design f f_still) same;
      determined_next =
          λ e f s seen register e_fits f_fits e_still f_still same. register_value e f s register
          (all_contained (λ z. e z < 2 ^ signal_width design.signals z) (flat_system design).signals
          e_fits s seen)
          (all_contained (λ z. f z < 2 ^ signal_width design.signals z) (flat_system design).signals
          f_fits s seen) same;
      guarded =
          λ e s t comb fits still at.
          use_flows e s t (as_combinational s comb) fits (rests facts design e still)
          (meets_facts facts design e still) at;
      guarded_next =
          λ e f s t seen register e_fits f_fits e_still f_still registers at.
          next_flows e f s t register e_fits f_fits
          (rests facts design e e_still) (rests facts design f f_still)
          (meets_facts facts design e e_still) registers at;
      selected =
          λ e f s seen same. label_selected design.maps (signal_of design.signals s).label e f same;
      selecting =
          λ e s t seen fits still at. selector_flows e s t seen fits (rests facts design e still)
          (meets_facts facts design e still) at;
      transitive =
          λ a b c first second. flows_on design.lattice checked.lattice a.0 b.0 c.0 first second;
    }
      where
        as_combinational : (s : ℕ) → IsCombinational (watched facts design) s →
            IsCombinational (flat_system design) s
        as_combinational s comb =
            record { among = comb.among; no_input = comb.no_input; no_register = comb.no_register }

    -- any two traces that look alike to a level, and meet the facts, have equal views for it
    pub noninterferent : NoninterferentUnder facts design
    noninterferent level start1 start2 inputs1 inputs2 first second trace1 trace2 met1 met2 alike =
        noninterference (watched facts design) guarded level start1 start2 inputs1 inputs2
        first second
        (trace_there facts design start1 inputs1 first met1 trace1)
        (trace_there facts design start2 inputs2 second met2 trace2)
        (record { lengths = alike.lengths; registers = alike.registers; inputs = alike.inputs })

-- without facts every environment meets them
pub noninterferent_plain : (design : FlatDesign) → IsChecked design → AllValid [] design →
    Noninterferent (flat_system design)
noninterferent_plain design checked valid level start1 start2 inputs1 inputs2 first second trace1
    trace2 alike =
    noninterferent [] design checked valid level start1 start2 inputs1 inputs2 first second
    trace1 trace2
    (all_meet first) (all_meet second) alike
  where
    none_to_meet : (e : Environment ℕ) → MeetsFacts design [] e
    none_to_meet e =
        contained_all (λ fact. IsTrue (is_true_in design.signals e fact)) [] (λ fact none.
        absurd (Contains-nil fact none))

    all_meet : (trace : List (Environment ℕ)) → All (MeetsFacts design []) trace
    all_meet trace = contained_all (MeetsFacts design []) trace (λ e at. none_to_meet e)
