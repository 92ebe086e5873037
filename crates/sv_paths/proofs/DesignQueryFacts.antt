-- Every obligation of an admitted design is one of the design's.
use Rattle.std.proofs.Common.{◌≡◌, ℕ, zero, suc, ◌+◌, ◌<◌, ◌≤◌, Bool, true, false, cond, ◌&&◌, ◌==◌}
use Rattle.std.proofs.Common.{not, ltb-true, List, [], ◌∷◌, length, map, filter, flat_map}
use Rattle.std.proofs.Common.{⊎_elim, refl, subst, arith, Option, Some, None, lt-ltb, ◌++◌, ◌∙◌}
use Rattle.std.proofs.Common.{sym, ap, ap₂}
use Rattle.std.specs.Prelude.{Contains, All, IsTrue}
use Rattle.std.specs.List.{range_with_len, list_any}
use Rattle.std.proofs.lemmas.Bool.{or_left, eqb-true}
use Rattle.std.proofs.lemmas.List.{map-append}
use Rattle.std.proofs.lemmas.List.Elements.{All-nil, All-cons}
use Rattle.sv_num.specs.declared.faults.Place.{Place}
use Rattle.sv_system.proofs.Lists.{Contains-nil, Contains-cases, Contains-from_map, Contains-filter}
use Rattle.sv_flat.specs.Design.{SignalForm, ProcessForm, FlatDesign}
use Rattle.sv_flat.specs.Values.{signal_of}
use Rattle.sv_flat.specs.Soundness.{well_formed, is_signal, sound}
use Rattle.sv_flat.specs.Assigned.{assigns}
use Rattle.sv_flat.specs.Readings.{ReadForm, reads, names_signal, no_bits}
use Rattle.sv_flat.specs.Processes.{is_block, is_clocked, is_register, signal_numbers, drivers}
use Rattle.sv_flat.specs.SignalLists.{system_signals}
use Rattle.sv_flat.specs.Clocks.{processes_of}
use Rattle.sv_flat.specs.Admission.{IsAdmitted}
use Rattle.sv_flat.proofs.Members.{Contains-either, contained_all, all_contained}
use Rattle.sv_flat.proofs.LeastSets.{from_some, some_from, in_those, those_below}
use Rattle.sv_flat.proofs.LeastSets.{Contains-from_filter}
use Rattle.sv_flat.proofs.ReadSignals.{reads_signals}
use Rattle.sv_flat.proofs.AdmittedFacts.{and_true, is_process, body_is_sound, assigns_no_clock}
use Rattle.sv_flat.proofs.AdmittedFacts.{targets_are_combinational}
use Rattle.sv_flat.specs.Views.{design_of, signal_form}
use Rattle.sv_flat.specs.declared.designs.Flat.{Flat}
use Rattle.sv_rules.proofs.Sound.{width_is_sound}
use Rattle.sv_obl.specs.declared.frames.Frame.{Frame}
use Rattle.sv_obl.specs.declared.frames.Frame.TheVariants.{Now, Next}
use Rattle.sv_obl.specs.Paths.{StepForm, Path, path_names, paths}
use Rattle.sv_obl.specs.Obligations.{flow, Obligation, frame_of, obligations}
use Rattle.sv_flat.specs.Selectors.{selectors_of, always_flows}
use Rattle.sv_obl.specs.Obligations.{place_of, path_obligation, target_obligations}
use Rattle.sv_obl.specs.Obligations.{selector_obligation, selector_obligations}
use Rattle.sv_obl.specs.DesignQueries.{Ascends, IsExpressionOf, IsStepOf, IsTargetIn}
use Rattle.sv_obl.specs.DesignQueries.{IsQueryOf, HasPlace, IsPlaced}
use Rattle.sv_obl.specs.Views.{obligation_of}
use Rattle.sv_obl.specs.declared.queries.Query.{Query}
use Rattle.sv_obl.proofs.FormLists.{length_mapped}
use Rattle.sv_paths.specs.ListParts.{obligations_before}
use Rattle.sv_paths.proofs.FormedPaths.{closed_steps_formed}
use Rattle.sv_obl.proofs.PathLists.{from_flat_map}
use Rattle.sv_flat.proofs.SelectorFacts.{selector_is_seen, selected_is_seen}
use Rattle.sv_obl.proofs.TargetReads.{reads_of, Origin, origin, inside, in_system, read_is_seen}

-- ---- lists

range_from : (a n m : ℕ) → Contains (range_with_len a n) m → a ≤ m
range_from a zero m at = absurd (Contains-nil m at)
range_from a (suc n) m at = ⊎_elim
    (λ is. subst (λ k. a ≤ k) is (omega arith))
    (λ later. let more = range_from (a + 1) n m later in omega arith)
    (Contains-cases a (range_with_len (a + 1) n) m at)

range_ascends : (test : ℕ → Bool) (a n : ℕ) → Ascends (filter test (range_with_len a n))
range_ascends test a zero = tt
range_ascends test a (suc n) = by_test (test a) (range_ascends test (a + 1) n)
  where
    rest : List ℕ
    rest = filter test (range_with_len (a + 1) n)

    above : All (λ m. a < m) rest
    above = contained_all (λ m. a < m) rest (λ m at.
        let more = range_from (a + 1) n m
        (Contains-from_filter test (range_with_len (a + 1) n) m at).1 in
        omega arith)

    by_test : (c : Bool) → Ascends rest → Ascends (cond c (a ∷ rest) rest)
    by_test true ascends = (above, ascends)
    by_test false ascends = ascends

-- ---- designs

module _ (design : FlatDesign) (is_sound : IsTrue (sound design))
    (admitted : IsAdmitted design) where
  abbrev signals : List SignalForm
  signals = design.signals

  abbrev count : ℕ
  count = length design.signals

  -- ---- one path of a target

  module _ (p : ProcessForm) (s : ℕ) (at : Contains (processes_of design) p)
      (assigned : IsTrue (assigns p.body s)) (q : Path)
      (q_at : Contains (paths design.signals s p.kind p.body) q) where
    below : s < count
    below = inside design is_sound admitted p s at assigned

    from : Origin design is_sound admitted p s at assigned q
    from = origin design is_sound admitted p s at assigned q q_at

    steps_formed : (step : StepForm) → Contains q.steps step →
        IsTrue (well_formed signals step.condition)
    steps_formed =
        closed_steps_formed signals (width_is_sound design is_sound) s (is_block p.kind)
        (is_clocked p.kind) p.body no_bits q (body_is_sound design is_sound admitted p at) q_at

    read_seen : (t : ℕ) → Contains (reads_of design q) t → Contains (system_signals design) t
    read_seen t t_at = read_is_seen design is_sound admitted p s at assigned q from t t_at

    step_of_design : (step : StepForm) → Contains q.steps step → IsStepOf design step
    step_of_design step step_at = record {
      formed = steps_formed step step_at;
      names = λ t named.
          let found = from_some (λ (r : ReadForm). r.signal == t) (reads signals step.condition)
          named in
          let known = ltb-true t count (subst (λ k. IsTrue (is_signal signals k))
          (eqb-true (found.0).signal t found.2)
          (reads_signals signals step.condition (steps_formed step step_at) found.0 found.1)) in
          read_seen t (in_those count (path_names signals q) t known
          (or_left (list_any (λ (y : StepForm). names_signal signals y.condition t) q.steps)
          (names_signal signals q.result t)
          (some_from (λ (y : StepForm). names_signal signals y.condition t) q.steps step step_at
          named)));
    }

    target_in : (c : Bool) → is_clocked p.kind ≡ c → IsTargetIn design s (cond c Next Now)
    target_in true clock = in_those count (is_register design) s below
        (some_from (λ (y : ProcessForm). is_clocked y.kind && assigns y.body s) design.processes p
        (is_process design is_sound admitted p at)
        (and_true (is_clocked p.kind) (assigns p.body s) clock assigned))
    target_in false clock =
        targets_are_combinational design is_sound admitted p s at clock assigned

    path_is_one : IsQueryOf design (path_obligation [] design p s q)
    path_is_one = record {
      facts = All-nil (IsExpressionOf design);
      path = contained_all (IsStepOf design) q.steps step_of_design;
      reads = contained_all (Contains (system_signals design)) (reads_of design q) read_seen;
      ascending = range_ascends (path_names signals q) 0 count;
      goal = (
        in_system design is_sound admitted p s at assigned s below
            (assigns_no_clock design is_sound admitted p s at assigned),
        target_in (is_clocked p.kind) refl,
      );
    }

  target_is_one : (s : ℕ) (o : Obligation) → Contains (target_obligations [] design s) o →
      IsQueryOf design o
  target_is_one s o o_at =
      let one = from_flat_map (λ (p : ProcessForm).
      map (path_obligation [] design p s) (paths signals s p.kind p.body))
      (drivers (processes_of design) s) o o_at in
      let p = one.0 in
      let driver = Contains-from_filter (λ (x : ProcessForm). assigns x.body s)
      (processes_of design) p one.1 in
      let path = Contains-from_map (path_obligation [] design p s) (paths signals s p.kind p.body)
      o one.2 in
      subst (IsQueryOf design) path.2 (path_is_one p s driver.1 driver.0 path.0 path.1)

  -- ---- selectors

  selector_is_one : (s : ℕ) → s < count → (o : Obligation)
      → Contains (selector_obligations [] design s) o → IsQueryOf design o
  selector_is_one s inside_of o o_at =
      let label = (signal_of signals s).label in
      let test = λ (t : ℕ). not (always_flows design s t) in
      let made = Contains-from_map (selector_obligation [] s) (filter test (selectors_of label)) o
      o_at in
      let t = made.0 in
      let selects = (Contains-from_filter test (selectors_of label) t made.1).1 in
      subst (IsQueryOf design) made.2 (record {
        facts = All-nil (IsExpressionOf design);
        path = All-nil (IsStepOf design);
        reads = All-cons (Contains (system_signals design)) t []
            (selector_is_seen design is_sound admitted s
            (lt-ltb s count inside_of) t selects) (All-nil (Contains (system_signals design)));
        ascending = (All-nil (λ m. t < m), tt);
        goal = (
          selected_is_seen design is_sound admitted s inside_of t selects,
          record {
            read = t;
            selects = selects;
            reads = refl;
            path = refl;
            right = refl;
          },
        );
      })

  -- ---- all of them

  pub target_are : (s : ℕ) → All (IsQueryOf design) (target_obligations [] design s)
  target_are s = contained_all (IsQueryOf design) (target_obligations [] design s) (target_is_one s)

  pub selectors_are : All (IsQueryOf design)
      (flat_map (selector_obligations [] design) (signal_numbers design))
  selectors_are =
      contained_all (IsQueryOf design)
      (flat_map (selector_obligations [] design) (signal_numbers design)) (λ o o_at.
      let made = from_flat_map (selector_obligations [] design) (signal_numbers design) o o_at in
      selector_is_one made.0 (number_below made.0 made.1) o made.2)
    where
      number_below : (s : ℕ) → Contains (signal_numbers design) s → s < count
      number_below s at = those_below count (λ k. true) s
          (Contains-filter (λ k. true) (signal_numbers design) s at refl)

  pub all_are : All (IsQueryOf design) (obligations [] design)
  all_are = contained_all (IsQueryOf design) (obligations [] design) (λ o o_at. ⊎_elim
      (λ l.
      let made = from_flat_map (target_obligations [] design) (signal_numbers design) o l in
      target_is_one made.0 o made.2)
      (λ r. all_contained (IsQueryOf design)
      (flat_map (selector_obligations [] design) (signal_numbers design)) selectors_are o r)
      (Contains-either (flat_map (target_obligations [] design) (signal_numbers design))
      (flat_map (selector_obligations [] design) (signal_numbers design)) o o_at))

-- the obligations of all targets and those of selectors, joined, are the design's
pub both_listed : (flat : Flat) (targets selectors all : List Query)
    → all ≡ targets ++ selectors
    → map obligation_of targets ≡ obligations_before (design_of flat) (length flat.signals.items)
    → map obligation_of selectors
    ≡ flat_map (selector_obligations [] (design_of flat)) (signal_numbers (design_of flat))
    → map obligation_of all ≡ obligations [] (design_of flat)
both_listed flat targets selectors all joined first second =
    ap (map obligation_of) joined
    ∙ map-append obligation_of targets selectors
    ∙ ap₂ (λ one other. one ++ other)
    (first
    ∙ ap (obligations_before (design_of flat)) (sym (length_mapped signal_form flat.signals.items)))
    second

-- none of them asks an invariant, so none lacks its place
module _ (design : FlatDesign) where
  target_placed : (s : ℕ) (o : Obligation) → Contains (target_obligations [] design s) o →
      IsPlaced o
  target_placed s o o_at =
      let one = from_flat_map (λ (p : ProcessForm).
      map (path_obligation [] design p s) (paths design.signals s p.kind p.body))
      (drivers (processes_of design) s) o o_at in
      let p = one.0 in
      let path = Contains-from_map (path_obligation [] design p s)
      (paths design.signals s p.kind p.body) o one.2 in
      subst IsPlaced path.2 (flow_placed (place_of p path.0) s (frame_of p.kind))
    where
      flow_placed : (place : Option Place) (target : ℕ) (frame : Frame) →
          HasPlace place (flow target frame)
      flow_placed (Some place) target frame = tt
      flow_placed None target frame = tt

  selector_placed : (o : Obligation)
      → Contains (flat_map (selector_obligations [] design) (signal_numbers design)) o → IsPlaced o
  selector_placed o o_at =
      let signal = from_flat_map (selector_obligations [] design) (signal_numbers design) o o_at in
      let made = Contains-from_map (selector_obligation [] signal.0)
      (filter (λ (t : ℕ). not (always_flows design signal.0 t))
      (selectors_of (signal_of design.signals signal.0).label)) o signal.2 in
      subst IsPlaced made.2 tt

  pub target_are_placed : (s : ℕ) → All IsPlaced (target_obligations [] design s)
  target_are_placed s =
      contained_all IsPlaced (target_obligations [] design s) (target_placed s)

  pub selectors_are_placed : All IsPlaced
      (flat_map (selector_obligations [] design) (signal_numbers design))
  selectors_are_placed =
      contained_all IsPlaced (flat_map (selector_obligations [] design) (signal_numbers design))
      selector_placed

  pub all_placed : All IsPlaced (obligations [] design)
  all_placed = contained_all IsPlaced (obligations [] design) (λ o o_at. ⊎_elim
      (λ l.
      let target = from_flat_map (target_obligations [] design) (signal_numbers design) o l in
      target_placed target.0 o target.2)
      (selector_placed o)
      (Contains-either (flat_map (target_obligations [] design) (signal_numbers design))
      (flat_map (selector_obligations [] design) (signal_numbers design)) o o_at))
