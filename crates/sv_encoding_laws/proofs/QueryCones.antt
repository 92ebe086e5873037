-- The cones of a query begin with signals of the system.
use Rattle.std.proofs.Common.{ℕ, List, [], ◌∷◌, ◌++◌, length, map, subst}
use Rattle.std.proofs.Common.{⊎_elim, lt-ltb}
use Rattle.std.specs.Prelude.{Contains, IsTrue, flat_map}
use Rattle.std.specs.List.{list_any}
use Rattle.sv_system.proofs.Lists.{Contains-nil, Contains-cases, Contains-from_map}
use Rattle.sv_flat.specs.Design.{TypedTree, FlatDesign}
use Rattle.sv_flat.specs.Soundness.{sound, is_signal}
use Rattle.sv_flat.specs.Readings.{names_signal}
use Rattle.sv_flat.specs.Processes.{is_register}
use Rattle.sv_flat.specs.Reads.{is_read_for, reads_for}
use Rattle.sv_flat.specs.SignalLists.{system_signals}
use Rattle.sv_flat.specs.Sets.{holds}
use Rattle.sv_flat.specs.Admission.{IsAdmitted}
use Rattle.sv_flat.proofs.Members.{Contains-either, all_contained}
use Rattle.sv_flat.proofs.LeastSets.{those_pass, those_below, from_some}
use Rattle.sv_flat.proofs.LeastSets.{Contains-from_filter, holds-from_Contains}
use Rattle.sv_flat.proofs.SelectorFacts.{selector_is_seen}
use Rattle.sv_obl.specs.declared.frames.Frame.TheVariants.{Now, Next}
use Rattle.sv_obl.specs.Paths.{StepForm}
use Rattle.sv_obl.specs.Obligations.{GoalForm, flow, holds as must_hold, selector, Obligation}
use Rattle.sv_obl.specs.DesignQueries.{IsExpressionOf, IsStepOf, IsGoalOf, IsQueryOf}
use Rattle.sv_obl.proofs.PathLists.{from_flat_map}
use Rattle.sv_encoding.specs.Cones.{label_selectors, named_in, asked_next, next_cone, asked_now}
use Rattle.sv_encoding.specs.Cones.{conditions_of, registers_in, now_cone}
use Rattle.sv_encoding.specs.BothWays.{IsCone}
use Rattle.sv_encoding_laws.proofs.ConeFacts.{read_seen, is_cone, cone_seen, cone_starts}
use Rattle.sv_encoding_laws.proofs.ConeFacts.{seen_below}

module _ (design : FlatDesign) (is_sound : IsTrue (sound design)) (admitted : IsAdmitted design)
    (o : Obligation) (query : IsQueryOf design o) where
  abbrev Known : ℕ → Type 0
  Known t = Contains (system_signals design) t

  is_known : (t : ℕ) → Known t → IsTrue (is_signal design.signals t)
  is_known t known = lt-ltb t (length design.signals) (seen_below design is_sound admitted t known)

  -- names in expressions
  named_known : (es : List TypedTree) →
      ((e : TypedTree) → Contains es e → IsExpressionOf design e) → (t : ℕ) →
      Contains (named_in design es) t → Known t
  named_known es all t at =
      let found = from_some (λ (e : TypedTree). names_signal design.signals e t) es
      (those_pass (length design.signals)
      (λ s. list_any (λ e. names_signal design.signals e s) es) t at) in
      (all found.0 found.1).names t found.2

  pub condition_is : (e : TypedTree) → Contains (conditions_of o) e → IsExpressionOf design e
  condition_is e at = ⊎_elim
      (λ fact. all_contained (IsExpressionOf design) o.facts query.facts e fact)
      (λ step.
      let found = Contains-from_map (λ (s : StepForm). s.condition) o.path e step in
      subst (IsExpressionOf design) found.2
      (all_contained (IsStepOf design) o.path query.path found.0 found.1))
      (Contains-either o.facts (map (λ (s : StepForm). s.condition) o.path) e at)

  selectors_known : (s : ℕ) → Known s → (t : ℕ) → Contains (label_selectors design s) t → Known t
  selectors_known s known t at =
      selector_is_seen design is_sound admitted s (is_known s known) t at

  pub one_is : (e : TypedTree) → IsExpressionOf design e → (x : TypedTree) →
      Contains (e ∷ []) x → IsExpressionOf design x
  one_is e is x at = ⊎_elim
      (λ same. subst (IsExpressionOf design) same is)
      (λ later. absurd (Contains-nil x later))
      (Contains-cases e [] x at)

  asked_next_known : (goal : GoalForm) → IsGoalOf design o goal → (t : ℕ) →
      Contains (asked_next design goal) t → Known t
  asked_next_known (flow target Next) is t at = selectors_known target is.0 t at
  asked_next_known (flow target Now) is t at = absurd (Contains-nil t at)
  asked_next_known (must_hold e Next) is t at = named_known (e ∷ []) (one_is e is) t at
  asked_next_known (must_hold e Now) is t at = absurd (Contains-nil t at)
  asked_next_known (selector s) is t at = absurd (Contains-nil t at)

  asked_now_known : (goal : GoalForm) → IsGoalOf design o goal → (t : ℕ) →
      Contains (asked_now design goal) t → Known t
  asked_now_known (flow target Next) is t at = absurd (Contains-nil t at)
  asked_now_known (flow target Now) is t at = selectors_known target is.0 t at
  asked_now_known (must_hold e Next) is t at = absurd (Contains-nil t at)
  asked_now_known (must_hold e Now) is t at = named_known (e ∷ []) (one_is e is) t at
  asked_now_known (selector s) is t at = selectors_known s is.0 t at

  -- ---- where the cones begin

  abbrev pub starts_next : List ℕ
  starts_next = asked_next design o.goal

  pub next_known : (t : ℕ) → Contains (asked_next design o.goal) t → Known t
  next_known t at = asked_next_known o.goal query.goal t at

  pub read_known : (s : ℕ) → Known s
      → (t : ℕ) → Contains (reads_for design s) t → Known t
  read_known s known t at =
      read_seen design is_sound admitted s t
      (those_pass (length design.signals) (is_read_for design s) t at)
      (those_below (length design.signals) (is_read_for design s) t at)

  abbrev pub starts_now : List ℕ
  starts_now =
      named_in design (conditions_of o)
      ++ flat_map (label_selectors design) o.reads
      ++ asked_now design o.goal
      ++ flat_map (reads_for design) (registers_in design (next_cone design o))

  pub read_signal_known : (s : ℕ) → Contains o.reads s → Known s
  read_signal_known s at = all_contained (λ s. Contains (system_signals design) s) o.reads query.reads s at

  pub next_seen : (t : ℕ) → IsTrue (holds (next_cone design o) t) → Known t
  next_seen t held =
      cone_seen design is_sound admitted (asked_next design o.goal) next_known t held

  pub now_known : (t : ℕ) → Contains starts_now t → Known t
  now_known t at =
      let names = named_in design (conditions_of o) in
      let labels = flat_map (label_selectors design) o.reads in
      let asked = asked_now design o.goal in
      let registers = flat_map (reads_for design) (registers_in design (next_cone design o)) in
      ⊎_elim
      (λ first. ⊎_elim
      (λ early. ⊎_elim
      (λ named. named_known (conditions_of o) condition_is t named)
      (λ label. let found = from_flat_map (label_selectors design) o.reads t label in
      selectors_known found.0 (read_signal_known found.0 found.1) t found.2)
      (Contains-either names labels t early))
      (λ goal. asked_now_known o.goal query.goal t goal)
      (Contains-either (names ++ labels) asked t first))
      (λ register. let found = from_flat_map (reads_for design)
      (registers_in design (next_cone design o)) t register in
      let from = Contains-from_filter (is_register design) (next_cone design o) found.0 found.1 in
      read_known found.0 (next_seen found.0 (holds-from_Contains (next_cone design o) found.0 from.1))
      t found.2)
      (Contains-either (names ++ labels ++ asked) registers t at)

  pub now_seen : (t : ℕ) → IsTrue (holds (now_cone design o) t) → Known t
  now_seen t held = cone_seen design is_sound admitted starts_now now_known t held

  pub now_is_cone : IsCone design (now_cone design o)
  now_is_cone = is_cone design is_sound admitted starts_now now_known

  pub next_is_cone : IsCone design (next_cone design o)
  next_is_cone = is_cone design is_sound admitted (asked_next design o.goal) next_known

  pub now_starts : (t : ℕ) → Contains starts_now t → IsTrue (holds (now_cone design o) t)
  now_starts t at = cone_starts design is_sound admitted starts_now now_known t at

  pub next_starts : (t : ℕ) → Contains (asked_next design o.goal) t →
      IsTrue (holds (next_cone design o) t)
  next_starts t at =
      cone_starts design is_sound admitted (asked_next design o.goal) next_known t at
