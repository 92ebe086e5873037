-- Values of a cycle show that an obligation fails exactly where the valuation falsifies it: all
-- that is asked hangs on the signals of the system alone, which have one settled value each.
use Rattle.std.proofs.Common.{◌≡◌, ℕ, Bool, true, false, ◌&&◌, ◌==◌, not, List, [], ◌∷◌, length}
use Rattle.std.proofs.Common.{refl, sym, ap, ap₂, subst, ◌∙◌, lt-ltb}
use Rattle.std.specs.Prelude.{All, Contains, IsTrue, ◌↔◌}
use Rattle.std.specs.Bool.{beq}
use Rattle.std.specs.List.{list_all, list_any}
use Rattle.std.proofs.lemmas.Bool.{false≢true, eq-eqb}
use Rattle.sv_num.specs.Vectors.{is_true}
use Rattle.sv_system.specs.System.{Environment, Settled, SameSignals}
use Rattle.sv_system.specs.Schedules.{IsTheSettled}
use Rattle.sv_system.proofs.Lists.{Contains-head, Contains-later}
use Rattle.sv_system.proofs.OneTrace.{settled_agree}
use Rattle.sv_flat.specs.Clocks.{is_clock}
use Rattle.sv_flat.specs.Design.{TypedTree, FlatDesign}
use Rattle.sv_flat.specs.FlatSystem.{flat_system}
use Rattle.sv_flat.specs.Processes.{is_register}
use Rattle.sv_flat.specs.Readings.{ReadForm, reads}
use Rattle.sv_flat.specs.SignalLists.{system_signals}
use Rattle.sv_flat.specs.Values.{signal_of}
use Rattle.sv_flat.proofs.AdmittedFacts.{and_true, negated_true}
use Rattle.sv_flat.proofs.Depths.{first_of, second_of, from_all}
use Rattle.sv_flat.proofs.LeastSets.{from_some, some_from, in_those, those_below}
use Rattle.sv_flat.proofs.Members.{all_contained, contained_all}
use Rattle.sv_flat.proofs.SelectorFacts.{label_selected, selector_is_seen}
use Rattle.sv_obl.specs.declared.frames.Frame.{Frame}
use Rattle.sv_obl.specs.declared.frames.Frame.TheVariants.{Now, Next}
use Rattle.sv_obl.specs.DesignQueries.{IsExpressionOf, IsStepOf, IsGoalOf, IsQueryOf}
use Rattle.sv_obl.specs.Noninterference.{IsChecked}
use Rattle.sv_obl.specs.Obligations.{GoalForm, flow, holds, selector, Obligation}
use Rattle.sv_obl.specs.Paths.{StepForm}
use Rattle.sv_obl.specs.PathValues.{is_true_in, Holds}
use Rattle.sv_obl.specs.Validity.{Valuation, MeetsFacts, goal_frame, IsInFrame, SomeStays}
use Rattle.sv_obl.specs.Validity.{GoalFails, Falsifies}
use Rattle.sv_sim.proofs.OneDesign.{design_ordered, register_no_clock}
use Rattle.sv_encoding_laws.proofs.NamedValues.{named_value, named_from_reads}
use Rattle.sv_decide.specs.Simulating.{IsOfFrame, asked_in, fails_by, shows_failing}
use Rattle.sv_decide.proofs.DesignSignals.{register_listed}

-- ---- tests

all_of : {X : Type 0} (test : X → Bool) (xs : List X) →
    ((x : X) → Contains xs x → IsTrue (test x)) → IsTrue (list_all test xs)
all_of test [] each = refl
all_of test (x ∷ xs) each =
    and_true (test x) (list_all test xs) (each x (Contains-head x xs))
    (all_of test xs (λ y at. each y (Contains-later x xs y at)))

same_from_beq : (a b : Bool) → IsTrue (beq a b) → a ≡ b
same_from_beq true true h = refl
same_from_beq true false h = absurd (false≢true h)
same_from_beq false true h = absurd (false≢true h)
same_from_beq false false h = refl

beq_from_same : (a b : Bool) → a ≡ b → IsTrue (beq a b)
beq_from_same a b same = subst (λ c. IsTrue (beq a c)) same (itself a)
  where
    itself : (c : Bool) → IsTrue (beq c c)
    itself true = refl
    itself false = refl

module _ (design : FlatDesign) (checked : IsChecked design) where
  -- the environments agree on the signals of the system
  abbrev pub Agree : Environment ℕ → Environment ℕ → Type 0
  Agree e f = (s : ℕ) → Contains (system_signals design) s → e s ≡ f s

  from_same : (e f : Environment ℕ) → SameSignals (flat_system design) e f → Agree e f
  from_same e f same s at = all_contained (λ t. e t ≡ f t) (system_signals design) same s at

  -- ---- what hangs on these signals alone

  same_truth : (x : TypedTree) → IsExpressionOf design x → (e f : Environment ℕ) → Agree e f →
      is_true_in design.signals e x ≡ is_true_in design.signals f x
  same_truth x is e f agree =
      ap is_true (named_value design.signals e f x
      (named_from_reads design.signals (λ s. e s ≡ f s) x (λ r at.
      agree r.signal (is.names r.signal
      (some_from (λ (z : ReadForm). z.signal == r.signal) (reads design.signals x) r at
      (eq-eqb r.signal r.signal refl))))))

  same_label : (s : ℕ) → Contains (system_signals design) s → (e f : Environment ℕ) → Agree e f →
      (flat_system design).label s e ≡ (flat_system design).label s f
  same_label s at e f agree =
      let inside = lt-ltb s (length design.signals)
      (those_below (length design.signals) (λ z. not (is_clock design z)) s at) in
      label_selected design.maps (signal_of design.signals s).label e f (λ t selects.
      agree t (selector_is_seen design checked.is_sound checked.admitted s inside t selects))

  facts_there : (facts : List TypedTree) → All (IsExpressionOf design) facts →
      (e f : Environment ℕ) → Agree e f → MeetsFacts design facts e → MeetsFacts design facts f
  facts_there facts are e f agree met =
      contained_all (λ fact. IsTrue (is_true_in design.signals f fact)) facts (λ x at.
      sym (same_truth x (all_contained (IsExpressionOf design) facts are x at) e f agree)
      ∙ all_contained (λ fact. IsTrue (is_true_in design.signals e fact)) facts met x at)

  path_there : (path : List StepForm) → All (IsStepOf design) path → (e f : Environment ℕ) →
      Agree e f → Holds design.signals e path → Holds design.signals f path
  path_there path are e f agree taken =
      contained_all (λ (step : StepForm). is_true_in design.signals f step.condition ≡ step.truth)
      path (λ step at.
      sym (same_truth step.condition (all_contained (IsStepOf design) path are step at) e f agree)
      ∙ all_contained (λ (s : StepForm). is_true_in design.signals e s.condition ≡ s.truth) path
      taken step at)

  stays_there : (reads : List ℕ) → All (Contains (system_signals design)) reads → (s : ℕ) →
      Contains (system_signals design) s → (e f e_there f_there : Environment ℕ) → Agree e f →
      Agree e_there f_there → SomeStays design reads e s e_there →
      SomeStays design reads f s f_there
  stays_there reads are s seen e f e_there f_there agree agree_there found = (
    found.0,
    found.1,
    sym (ap₂ (flat_system design).flows
        (same_label found.0 (all_contained (Contains (system_signals design)) reads are found.0
        found.1) e f agree)
        (same_label s seen e_there f_there agree_there))
        ∙ found.2,
  )

  module _ (o : Obligation) (query : IsQueryOf design o) where
    goal_there : (goal : GoalForm) → IsGoalOf design o goal →
        (e f e_there f_there : Environment ℕ) → Agree e f → Agree e_there f_there →
        GoalFails design o.reads e e_there goal → GoalFails design o.reads f f_there goal
    goal_there (flow target frame) is e f e_there f_there agree agree_there fails =
        stays_there o.reads query.reads target is.0 e f e_there f_there agree agree_there fails
    goal_there (holds x frame) is e f e_there f_there agree agree_there fails =
        sym (same_truth x is e_there f_there agree_there) ∙ fails
    goal_there (selector s) is e f e_there f_there agree agree_there fails =
        stays_there o.reads query.reads s is.0 e f e_there f_there agree agree_there fails

    -- ---- what the values show

    some_shown : (s : ℕ) (e there : Environment ℕ) →
        IsTrue (list_any (λ t. not ((flat_system design).flows ((flat_system design).label t e)
        ((flat_system design).label s there))) o.reads) → SomeStays design o.reads e s there
    some_shown s e there shown =
        let system = flat_system design in
        let found = from_some (λ t. not (system.flows (system.label t e) (system.label s there)))
        o.reads shown in (
          found.0,
          found.1,
          negated_true (system.flows (system.label found.0 e) (system.label s there)) found.2,
        )

    show_some : (s : ℕ) (e there : Environment ℕ) → SomeStays design o.reads e s there →
        IsTrue (list_any (λ t. not ((flat_system design).flows ((flat_system design).label t e)
        ((flat_system design).label s there))) o.reads)
    show_some s e there found =
        let system = flat_system design in
        some_from (λ t. not (system.flows (system.label t e) (system.label s there))) o.reads
        found.0 found.1 (ap not found.2)

    goal_shown : (goal : GoalForm) (e there : Environment ℕ) →
        IsTrue (fails_by design o.reads e (asked_in design there goal)) →
        GoalFails design o.reads e there goal
    goal_shown (flow target frame) e there shown = some_shown target e there shown
    goal_shown (holds x frame) e there shown =
        negated_true (is_true_in design.signals there x) shown
    goal_shown (selector s) e there shown = some_shown s e there shown

    show_goal : (goal : GoalForm) (e there : Environment ℕ) →
        GoalFails design o.reads e there goal →
        IsTrue (fails_by design o.reads e (asked_in design there goal))
    show_goal (flow target frame) e there fails = show_some target e there fails
    show_goal (holds x frame) e there fails = ap not fails
    show_goal (selector s) e there fails = show_some s e there fails

    -- the environments meet the facts, take the path, and fail the goal
    record Fails (e there : Environment ℕ) : Type 0 where
      pub facts : MeetsFacts design o.facts e
      pub path : Holds design.signals e o.path
      pub goal : GoalFails design o.reads e there o.goal

    abbrev step_test : Environment ℕ → StepForm → Bool
    step_test e step = beq (is_true_in design.signals e step.condition) step.truth

    fails_shown : (e there : Environment ℕ) →
        IsTrue (shows_failing design o e (asked_in design there o.goal)) → Fails e there
    fails_shown e there shown =
        let facts = list_all (is_true_in design.signals e) o.facts in
        let path = list_all (step_test e) o.path in
        let fails = fails_by design o.reads e (asked_in design there o.goal) in
        let both = first_of (facts && path) fails shown in
        record {
          facts = contained_all (λ fact. IsTrue (is_true_in design.signals e fact)) o.facts
              (λ x at. from_all (is_true_in design.signals e) o.facts x
              (first_of facts path both) at);
          path = contained_all
              (λ (step : StepForm). is_true_in design.signals e step.condition ≡ step.truth) o.path
              (λ step at. same_from_beq (is_true_in design.signals e step.condition) step.truth
              (from_all (step_test e) o.path step (second_of facts path both) at));
          goal = goal_shown o.goal e there (second_of (facts && path) fails shown);
        }

    show_fails : (e there : Environment ℕ) → Fails e there →
        IsTrue (shows_failing design o e (asked_in design there o.goal))
    show_fails e there is =
        let facts = list_all (is_true_in design.signals e) o.facts in
        let path = list_all (step_test e) o.path in
        let fails = fails_by design o.reads e (asked_in design there o.goal) in
        and_true (facts && path) fails
        (and_true facts path
        (all_of (is_true_in design.signals e) o.facts (λ x at.
        all_contained (λ fact. IsTrue (is_true_in design.signals e fact)) o.facts is.facts x at))
        (all_of (step_test e) o.path (λ step at.
        beq_from_same (is_true_in design.signals e step.condition) step.truth
        (all_contained
        (λ (s : StepForm). is_true_in design.signals e s.condition ≡ s.truth) o.path is.path step
        at))))
        (show_goal o.goal e there is.goal)

    fails_there : (e f e_there f_there : Environment ℕ) → Agree e f → Agree e_there f_there →
        Fails e e_there → Fails f f_there
    fails_there e f e_there f_there agree agree_there is = record {
      facts = facts_there o.facts query.facts e f agree is.facts;
      path = path_there o.path query.path e f agree is.path;
      goal = goal_there o.goal query.goal e f e_there f_there agree agree_there is.goal;
    }

    -- ---- what falsifies

    module _ (v : Valuation) where
      next_agrees : (e f : Environment ℕ) → Agree e f → (s : ℕ) → IsTrue (is_register design s) →
          (flat_system design).next e s ≡ (flat_system design).next f s
      next_agrees e f agree s register =
          (design_ordered design checked.is_sound checked.admitted).next_within e f s register
          (λ t at. agree t (register_seen t at)) agree
        where
          register_seen : (t : ℕ) → IsTrue (is_register design t) →
              Contains (system_signals design) t
          register_seen t at =
              in_those (length design.signals) (λ z. not (is_clock design z)) t
              (those_below (length design.signals) (is_register design) t
              (register_listed design checked.is_sound checked.admitted t at))
              (ap not (register_no_clock design checked.is_sound checked.admitted t at))

      -- every environment of the frame is this one
      there_agrees : (frame : Frame) (there : Environment ℕ) → IsOfFrame design v frame there →
          (other_now other : Environment ℕ) →
          Settled (flat_system design) v.registers v.inputs other_now →
          IsInFrame design v other_now frame other → Agree other there
      there_agrees Now there is other_now other settled in_frame s at =
          ap (λ (e : Environment ℕ). e s) in_frame
          ∙ sym (from_same is.now other_now (is.settled.alone other_now settled) s at)
          ∙ sym (ap (λ (e : Environment ℕ). e s) is.in_frame)
      there_agrees Next there is other_now other settled in_frame s at =
          settled_agree (flat_system design)
          (design_ordered design checked.is_sound checked.admitted)
          ((flat_system design).next other_now) ((flat_system design).next is.now) v.next_inputs
          other there
          (next_agrees other_now is.now (λ t seen.
          sym (from_same is.now other_now (is.settled.alone other_now settled) t seen)))
          in_frame is.in_frame s at

      module _ (now there : Environment ℕ)
          (is_now : IsTheSettled (flat_system design) v.registers v.inputs now)
          (is_there : IsOfFrame design v (goal_frame o.goal) there) where
        shown_falsifies : IsTrue (shows_failing design o now (asked_in design there o.goal)) →
            Falsifies design v o
        shown_falsifies shown =
            let fails = fails_there now is_there.now there there
            (from_same now is_there.now (is_now.alone is_there.now is_there.settled.settled))
            (λ s at. refl) (fails_shown now there shown) in
            record {
              now = is_there.now;
              there = there;
              settled = is_there.settled.settled;
              in_frame = is_there.in_frame;
              facts = fails.facts;
              path = fails.path;
              fails = fails.goal;
            }

        falsifies_shown : Falsifies design v o →
            IsTrue (shows_failing design o now (asked_in design there o.goal))
        falsifies_shown is =
            show_fails now there
            (fails_there is.now now is.there there
            (λ s at. sym (from_same now is.now (is_now.alone is.now is.settled) s at))
            (there_agrees (goal_frame o.goal) there is_there is.now is.there is.settled is.in_frame)
            (record { facts = is.facts; path = is.path; goal = is.fails }))

        -- so what is told of the values is told of the valuation
        pub told_is : (told : Bool) →
            told ≡ shows_failing design o now (asked_in design there o.goal) →
            IsTrue told ↔ Falsifies design v o
        told_is told is = (
          λ shown. shown_falsifies (sym is ∙ shown),
          λ falsifies. is ∙ falsifies_shown falsifies,
        )
