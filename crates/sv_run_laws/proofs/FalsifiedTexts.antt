-- A valuation falsifies an obligation for a flat design exactly where it does for the text.
use Rattle.std.proofs.Common.{◌≡◌, ℕ, ◌<◌, true, List, [], map, length, Option, Some}
use Rattle.std.proofs.Common.{inl, inr, refl, sym, ap, subst, ◌∙◌, arith, ⊎_elim}
use Rattle.std.specs.Prelude.{◌↔◌, IsTrue, not, Contains, filter, flat_map}
use Rattle.std.specs.List.{slice_get}
use Rattle.std.proofs.lemmas.Bool.{both_ways, false_from_ne_true, lt-ltb}
use Rattle.sv_system.specs.System.{System, Environment, Settled}
use Rattle.sv_system.specs.Joining.{Agree}
use Rattle.sv_system.proofs.Lists.{Contains-cases, Contains-filter, Contains-from_map, Contains-nil}
use Rattle.sv_lattice.specs.Tables.{flow_test}
use Rattle.sv_ast.specs.Meaning.{label_in, system}
use Rattle.sv_ast.specs.Parts.{Path, PartSignal, signal_path}
use Rattle.sv_ast.specs.SourceLabels.{points, pairs, least, Flows, flows}
use Rattle.sv_ast.specs.TextSystem.{text_system}
use Rattle.sv_ast.specs.Tree.{TextTree}
use Rattle.sv_ast.proofs.Reaching.{flows_by_pairs}
use Rattle.sv_flat.specs.Admission.{IsAdmitted}
use Rattle.sv_flat.specs.Clocks.{is_clock, processes_of}
use Rattle.sv_flat.specs.Design.{TypedTree, ProcessForm, FlatDesign}
use Rattle.sv_flat.specs.FlatSystem.{flat_system}
use Rattle.sv_flat.specs.Processes.{signal_numbers, drivers}
use Rattle.sv_flat.specs.Selectors.{selectors_of, always_flows}
use Rattle.sv_flat.specs.Values.{signal_of}
use Rattle.sv_flat.proofs.LeastSets.{those_below, Contains-from_filter}
use Rattle.sv_flat.proofs.SelectorFacts.{selector_is_seen}
use Rattle.sv_elab_rules.specs.Texts.{flat_of}
use Rattle.sv_elab_laws.specs.FlattenedTexts.{CanBeFlattened}
use Rattle.sv_elab_laws.specs.InOrder.{SettledAlike}
use Rattle.sv_elab_laws.specs.SideBySide.{text_signals, path_at}
use Rattle.sv_elab_laws.proofs.JoinedClocks.{sizes}
use Rattle.sv_elab_laws.proofs.JoinedLabels.{same_label}
use Rattle.sv_elab_laws.proofs.JoinedLattice.{IsPointNumber, IsOrderFrom, order_of, flows_same}
use Rattle.sv_elab_laws.proofs.JoinedLattice.{known_points}
use Rattle.sv_elab_laws.proofs.JoinedLeast.{least_beside}
use Rattle.sv_elab_laws.proofs.JoinedNumbers.{at_number, to_is, from_is}
use Rattle.sv_elab_laws.proofs.JoinedRuns.{source_system, path_to}
use Rattle.sv_elab_laws.proofs.JoinedSchedules.{settled_alike}
use Rattle.sv_elab_laws.proofs.JoinedWhole.{flattened_named}
use Rattle.sv_flat.proofs.Members.{Contains-either as contains_either, from_flat_map}
use Rattle.sv_elab_laws.proofs.PartsMaps.{same_some}
use Rattle.sv_elab_laws.proofs.PartsShapes.{flattened}
use Rattle.sv_elab_laws.proofs.PartsTexts.{SideBySide, side_by_side}
use Rattle.sv_elab_laws.proofs.SoundDesigns.{design_sound}
use Rattle.sv_obl.specs.declared.frames.Frame.{Frame}
use Rattle.sv_obl.specs.declared.frames.Frame.TheVariants.{Now, Next}
use Rattle.sv_obl.specs.Obligations.{GoalForm, flow, holds, selector, Obligation}
use Rattle.sv_obl.specs.Obligations.{path_obligation, target_obligations, selector_obligation}
use Rattle.sv_obl.specs.Obligations.{selector_obligations, obligations}
use Rattle.sv_obl.specs.Paths.{paths, path_names}
use Rattle.sv_obl.specs.Validity.{Valuation, goal_frame, IsInFrame, SomeStays, GoalFails}
use Rattle.sv_obl.specs.Validity.{Falsifies}
use Rattle.sv_run_laws.specs.FalsifiedTexts.{by_path, SameValues, Both, IsInTextFrame}
use Rattle.sv_run_laws.specs.FalsifiedTexts.{SomeStaysInText, GoalFailsInText, FalsifiesText}

-- ---- what obligations name

abbrev GoalNames : FlatDesign → GoalForm → Type 0
GoalNames design (flow target frame) = target < length design.signals
GoalNames design (holds e frame) = Unit {0}
GoalNames design (selector s) = s < length design.signals

-- the reads of an obligation and the signal of its goal are signals of the design
abbrev Names : FlatDesign → Obligation → Type 0
Names design o =
    ((t : ℕ) → Contains o.reads t → t < length design.signals) × GoalNames design o.goal

module _ (facts : List TypedTree) (text : TextTree) (asked : Option (List ℕ)) (design : FlatDesign)
    (can : CanBeFlattened text) (flat : flat_of text asked ≡ Some design)
    (admitted : IsAdmitted design) where
  target_names : (s : ℕ) → s < length design.signals → (o : Obligation)
      → Contains (target_obligations facts design s) o → Names design o
  target_names s below o at =
      let p = from_flat_map (λ (p : ProcessForm).
      map (path_obligation facts design p s) (paths design.signals s p.kind p.body))
      (drivers (processes_of design) s) o at in
      let q = Contains-from_map (path_obligation facts design p.0 s)
      (paths design.signals s (p.0).kind (p.0).body) o p.2 in
      subst (Names design) q.2
      (those_below (length design.signals) (path_names design.signals q.0), below)

  selector_names : (s : ℕ) → s < length design.signals → (o : Obligation)
      → Contains (selector_obligations facts design s) o → Names design o
  selector_names s below o at =
      let all = selectors_of (signal_of design.signals s).label in
      let t = Contains-from_map (selector_obligation facts s)
      (filter (λ t. not (always_flows design s t)) all) o at in
      let listed = (Contains-from_filter (λ t. not (always_flows design s t)) all t.0 t.1).1 in
      let is_sound = design_sound text asked design can.shaped (flattened text can) can.lengths
      flat in
      let seen = selector_is_seen design is_sound admitted s
      (lt-ltb s (length design.signals) below) t.0 listed in
      let t_below = those_below (length design.signals) (λ z. not (is_clock design z)) t.0 seen in
      subst (Names design) t.2 (
        λ r r_at. ⊎_elim
            (λ is. subst (λ k. k < length design.signals) is t_below)
            (λ none. absurd (Contains-nil r none))
            (Contains-cases t.0 [] r r_at),
        below,
      )

  numbered_below : (s : ℕ) → Contains (signal_numbers design) s → s < length design.signals
  numbered_below s at =
      those_below (length design.signals) (λ z. true) s
      (Contains-filter (λ z. true) (signal_numbers design) s at refl)

  pub obligation_names : (o : Obligation) → Contains (obligations facts design) o → Names design o
  obligation_names o at = ⊎_elim
      (λ target.
      let s = from_flat_map (target_obligations facts design) (signal_numbers design) o target in
      target_names s.0 (numbered_below s.0 s.1) o s.2)
      (λ select.
      let s = from_flat_map (selector_obligations facts design) (signal_numbers design) o select in
      selector_names s.0 (numbered_below s.0 s.1) o s.2)
      (contains_either (flat_map (target_obligations facts design) (signal_numbers design))
      (flat_map (selector_obligations facts design) (signal_numbers design)) o at)

module _ (text : TextTree) (asked : Option (List ℕ)) (design : FlatDesign)
    (can : CanBeFlattened text) (flat : flat_of text asked ≡ Some design)
    (admitted : IsAdmitted design) where
  abbrev first : System ℕ Rattle.sv_lattice.specs.declared.points.Point.Point
  first = flat_system design

  abbrev second : System Path (List ℕ)
  second = text_system text asked

  abbrev side : SideBySide text asked design
  side = side_by_side text asked can design flat

  abbrev signals : List PartSignal
  signals = text_signals text asked

  abbrev to : ℕ → Path
  to = path_at signals

  -- ---- names

  pub number_below : (s : ℕ) → Contains first.signals s → s < length design.signals
  number_below s at = those_below (length design.signals) (λ z. not (is_clock design z)) s at

  pub in_text : (k : ℕ) → k < length design.signals → k < length signals
  in_text k below = let size = sizes text asked design side in omega arith

  in_design : (k : ℕ) → k < length signals → k < length design.signals
  in_design k below = let size = sizes text asked design side in omega arith

  pub same_by_path : (e : Environment ℕ) → SameValues signals e (by_path signals e)
  same_by_path e k below =
      let a = at_number text asked design side k (in_design k below) in
      ap e (sym (from_is text asked design side (to k) k
      (subst (λ x. slice_get (map signal_path signals) k ≡ Some x)
      (sym (to_is text asked design side (signal_path a.source) k a.number)) a.number)))

  same_seen : (e : Environment ℕ) (g : Environment Path) → SameValues signals e g
      → (s : ℕ) → Contains first.signals s → e s ≡ g (to s)
  same_seen e g same s at = same s (in_text s (number_below s at))

  -- ---- the join by explicit names

  abbrev Kinds : (ℕ → Path) → Type 0
  Kinds name =
      ((s : ℕ) → IsTrue (first.is_register s) → Contains first.signals s)
      × ((s : ℕ) → IsTrue (first.is_input s) → Contains first.signals s)
      × ((e : Environment ℕ) (g : Environment Path) → Agree first second name e g
      → (s : ℕ) → IsTrue (first.is_register s) → first.next e s ≡ second.next g (name s))
      × SettledAlike first second name

  join : Kinds to
  join =
      let j = flattened_named text asked design can flat admitted in
      subst Kinds j.1 (
        λ s register. (j.0).first_kinds s (inr register),
        λ s input. (j.0).first_kinds s (inl input),
        (j.0).next,
        settled_alike first second j.0,
      )

  -- environments with the same values are settled for the same states and inputs in both systems
  settled_same : (state inputs e : Environment ℕ) (other_state other_inputs g : Environment Path)
      → ((s : ℕ) → IsTrue (first.is_register s) → state s ≡ other_state (to s))
      → ((s : ℕ) → IsTrue (first.is_input s) → inputs s ≡ other_inputs (to s))
      → SameValues signals e g
      → Settled first state inputs e ↔ Settled second other_state other_inputs g
  settled_same state inputs e other_state other_inputs g states all_inputs same =
      join.3 state inputs e other_state other_inputs g states all_inputs (same_seen e g same)

  pub registers_same : (e : Environment ℕ) (s : ℕ) → IsTrue (first.is_register s)
      → e s ≡ by_path signals e (to s)
  registers_same e s register =
      same_seen e (by_path signals e) (same_by_path e) s (join.0 s register)

  pub inputs_same : (e : Environment ℕ) (s : ℕ) → IsTrue (first.is_input s)
      → e s ≡ by_path signals e (to s)
  inputs_same e s input = same_seen e (by_path signals e) (same_by_path e) s (join.1 s input)

  -- ---- labels

  abbrev AgreeAt : Environment ℕ → Environment Path → Type 0
  AgreeAt e g = Agree first second to e g

  order_is : IsOrderFrom (points text) (pairs text) side.order
  order_is = order_of text side.order side.lattice

  least_in : IsPointNumber side.order.points (least text) side.tables.least
  least_in = least_beside text asked design side

  label_is : (e : Environment ℕ) (g : Environment Path) → AgreeAt e g → (k : ℕ) (a : PartSignal)
      → slice_get signals k ≡ Some a → k < length design.signals
      → IsPointNumber side.order.points (label_in text g a) (first.label k e).0
  unfolding system
  label_is e g agree k a a_at below =
      let here = at_number text asked design side k below in
      let seen : Agree (flat_system design) (source_system text asked design side)
      (path_to text asked design side) e g =
      record {
        first_fits = agree.first_fits;
        second_fits = agree.second_fits;
        same = agree.same;
      } in
      let is_sound = design_sound text asked design can.shaped (flattened text can) can.lengths
      flat in
      subst (λ (s : PartSignal).
      IsPointNumber side.order.points (label_in text g s) (first.label k e).0)
      (same_some (slice_get signals k) here.source a here.source_at a_at)
      (same_label text asked design side is_sound admitted least_in e g seen k here)

  module _ (e : Environment ℕ) (g : Environment Path) (now : AgreeAt e g)
      (f : Environment ℕ) (h : Environment Path) (there : AgreeAt f h) where
    flow_is : (t s : ℕ) (a b : PartSignal) → slice_get signals t ≡ Some a
        → slice_get signals s ≡ Some b → t < length design.signals → s < length design.signals
        → first.flows (first.label t e) (first.label s f)
        ≡ flows text (label_in text g a) (label_in text h b)
    flow_is t s a b a_at b_at t_in s_in =
        ap (λ table. flow_test table (first.label t e).0 (first.label s f).0) side.table
        ∙ flows_same text side.order order_is (label_in text g a) (label_in text h b)
        (first.label t e).0 (first.label s f).0 (label_is e g now t a a_at t_in)
        (label_is f h there s b b_at s_in)

    by_pairs : (a b : List ℕ) → IsTrue (flows text a b) ↔ Flows text a b
    by_pairs a b = flows_by_pairs text (known_points text side.order order_is) a b

    stays_over : (reads : List ℕ) (s : ℕ)
        → ((t : ℕ) → Contains reads t → t < length design.signals)
        → s < length design.signals
        → SomeStays design reads e s f → SomeStaysInText text signals reads g s h
    stays_over reads s reads_in s_in stays =
        let t_in = reads_in stays.0 stays.1 in
        let a = at_number text asked design side stays.0 t_in in
        let b = at_number text asked design side s s_in in
        record {
          read = stays.0;
          among = stays.1;
          from = a.source;
          from_at = a.source_at;
          to = b.source;
          to_at = b.source_at;
          stays = λ way. both_ways (first.flows (first.label stays.0 e) (first.label s f)) stays.2
              (flow_is stays.0 s a.source b.source a.source_at b.source_at t_in s_in
              ∙ (by_pairs (label_in text g a.source) (label_in text h b.source)).1 way);
        }

    stays_back : (reads : List ℕ) (s : ℕ)
        → ((t : ℕ) → Contains reads t → t < length design.signals)
        → s < length design.signals
        → SomeStaysInText text signals reads g s h → SomeStays design reads e s f
    stays_back reads s reads_in s_in stays = (
      stays.read,
      stays.among,
      false_from_ne_true (first.flows (first.label stays.read e) (first.label s f)) (λ flow.
          stays.stays ((by_pairs (label_in text g stays.from) (label_in text h stays.to)).0
          (sym (flow_is stays.read s stays.from stays.to stays.from_at stays.to_at
          (reads_in stays.read stays.among) s_in) ∙ flow))),
    )

  -- ---- obligations

  module _ (v : Valuation) (o : Obligation) (names : Names design o) where
    agree_now : (e : Environment ℕ) (g : Environment Path) → SameValues signals e g
        → (state inputs : Environment ℕ) (other_state other_inputs : Environment Path)
        → Settled first state inputs e → Settled second other_state other_inputs g
        → AgreeAt e g
    agree_now e g same state inputs other_state other_inputs one other = record {
      first_fits = one.fits;
      second_fits = other.fits;
      same = same_seen e g same;
    }

    -- the next state is the same
    next_same : (e : Environment ℕ) (g : Environment Path) → AgreeAt e g → (s : ℕ)
        → IsTrue (first.is_register s) → first.next e s ≡ second.next g (to s)
    next_same = join.2

    settled_now : (e : Environment ℕ) (g : Environment Path) → SameValues signals e g
        → Settled first v.registers v.inputs e
        ↔ Settled second (by_path signals v.registers) (by_path signals v.inputs) g
    settled_now e g same =
        settled_same v.registers v.inputs e (by_path signals v.registers)
        (by_path signals v.inputs) g (registers_same v.registers) (inputs_same v.inputs) same

    settled_next : (e : Environment ℕ) (g : Environment Path) → AgreeAt e g
        → (f : Environment ℕ) (h : Environment Path) → SameValues signals f h
        → Settled first (first.next e) v.next_inputs f
        ↔ Settled second (second.next g) (by_path signals v.next_inputs) h
    settled_next e g agree f h same =
        settled_same (first.next e) v.next_inputs f (second.next g)
        (by_path signals v.next_inputs) h (next_same e g agree) (inputs_same v.next_inputs) same

    both_of : Environment ℕ → Both
    both_of e = record { paths = by_path signals e; numbers = e }

    -- what stands there agrees, and is in the frame on the other side
    frame_over : (e f : Environment ℕ) → AgreeAt e (by_path signals e) → (frame : Frame)
        → IsInFrame design v e frame f
        → IsInTextFrame text asked v (both_of e) frame (both_of f)
        × AgreeAt f (by_path signals f)
    unfolding both_of
    frame_over e f agree Now is =
        (ap both_of is, subst (λ z. AgreeAt z (by_path signals z)) (sym is) agree)
    frame_over e f agree Next settled =
        let other = (settled_next e (by_path signals e) agree f (by_path signals f)
        (same_by_path f)).0 settled in (
          other,
          agree_now f (by_path signals f) (same_by_path f) (first.next e) v.next_inputs
              (second.next (by_path signals e)) (by_path signals v.next_inputs) settled other,
        )

    frame_back : (now there : Both) → AgreeAt now.numbers now.paths
        → SameValues signals there.numbers there.paths → (frame : Frame)
        → IsInTextFrame text asked v now frame there
        → IsInFrame design v now.numbers frame there.numbers
        × AgreeAt there.numbers there.paths
    frame_back now there agree same Now is = (
      ap (λ (b : Both). b.numbers) is,
      subst (λ (b : Both). AgreeAt b.numbers b.paths) (sym is)
          agree,
    )
    frame_back now there agree same Next other =
        let settled = (settled_next now.numbers now.paths agree there.numbers there.paths same).1
        other in (
          settled,
          agree_now there.numbers there.paths same (first.next now.numbers) v.next_inputs
              (second.next now.paths) (by_path signals v.next_inputs) settled other,
        )

    goal_over : (e f : Environment ℕ) (g h : Environment Path) → AgreeAt e g → AgreeAt f h
        → (goal : GoalForm) → GoalNames design goal → GoalFails design o.reads e f goal
        → GoalFailsInText text signals design o.reads
        (record { paths = g; numbers = e }) (record { paths = h; numbers = f }) goal
    goal_over e f g h now there (flow s frame) below fails =
        stays_over e g now f h there o.reads s names.0 below fails
    goal_over e f g h now there (holds x frame) below fails = fails
    goal_over e f g h now there (selector s) below fails =
        stays_over e g now f h there o.reads s names.0 below fails

    goal_back : (now there : Both) → AgreeAt now.numbers now.paths
        → AgreeAt there.numbers there.paths
        → (goal : GoalForm) → GoalNames design goal
        → GoalFailsInText text signals design o.reads now there goal
        → GoalFails design o.reads now.numbers there.numbers goal
    goal_back now there agree other (flow s frame) below fails =
        stays_back now.numbers now.paths agree there.numbers there.paths other o.reads s names.0
        below fails
    goal_back now there agree other (holds x frame) below fails = fails
    goal_back now there agree other (selector s) below fails =
        stays_back now.numbers now.paths agree there.numbers there.paths other o.reads s names.0
        below fails

    falsified_over : Falsifies design v o → FalsifiesText text asked design v o
    unfolding both_of
    falsified_over is =
        let g = by_path signals is.now in
        let settled = (settled_now is.now g (same_by_path is.now)).0 is.settled in
        let agree = agree_now is.now g (same_by_path is.now) v.registers v.inputs
        (by_path signals v.registers) (by_path signals v.inputs) is.settled settled in
        let frame = frame_over is.now is.there agree (goal_frame o.goal) is.in_frame in
        record {
          now = both_of is.now;
          there = both_of is.there;
          same_now = same_by_path is.now;
          same_there = same_by_path is.there;
          settled = settled;
          in_frame = frame.0;
          facts = is.facts;
          path = is.path;
          fails = goal_over is.now is.there g (by_path signals is.there) agree frame.1 o.goal
              names.1 is.fails;
        }

    falsified_back : FalsifiesText text asked design v o → Falsifies design v o
    falsified_back is =
        let now = is.now in
        let settled = (settled_now now.numbers now.paths is.same_now).1 is.settled in
        let agree = agree_now now.numbers now.paths is.same_now v.registers v.inputs
        (by_path signals v.registers) (by_path signals v.inputs) settled is.settled in
        let frame = frame_back now is.there agree is.same_there (goal_frame o.goal) is.in_frame in
        record {
          now = now.numbers;
          there = is.there.numbers;
          settled = settled;
          in_frame = frame.0;
          facts = is.facts;
          path = is.path;
          fails = goal_back now is.there agree frame.1 o.goal names.1 is.fails;
        }

  pub falsified_alike : (facts : List TypedTree) (v : Valuation) (o : Obligation)
      → Contains (obligations facts design) o
      → Falsifies design v o ↔ FalsifiesText text asked design v o
  falsified_alike facts v o at =
      let names = obligation_names facts text asked design can flat admitted o at in
      (falsified_over v o names, falsified_back v o names)
