-- What the signals of a cone are, and where the cones of an obligation begin, by tables of marks.
use Rattle.std.proofs.Common.{◌≡◌, ℕ, zero, suc, ◌<◌, ◌≤◌, Bool, false, ◌||◌, ◌&&◌, List}
use Rattle.std.proofs.Common.{[], ◌∷◌, ◌++◌, length, map, replicate, filter, refl, sym, ap, ap₂}
use Rattle.std.proofs.Common.{subst, ◌∙◌, ⊎_elim, ltb-true}
use Rattle.std.specs.Prelude.{Contains, IsTrue, flat_map}
use Rattle.std.specs.List.{list_any}
use Rattle.std.proofs.lemmas.Bool.{false≢true}
use Rattle.std.proofs.Math.ListN.{length-map}
use Rattle.sv_flat.specs.declared.designs.Flat.{Flat}
use Rattle.sv_flat.specs.declared.signals.Signal.{Signal}
use Rattle.sv_flat.specs.Design.{TypedTree, ProcessForm, FlatDesign}
use Rattle.sv_flat.specs.Values.{signal_of}
use Rattle.sv_flat.specs.ByNumber.{signal_forms}
use Rattle.sv_flat.specs.Soundness.{sound, kind_sound, statement_sound}
use Rattle.sv_flat.specs.Assigned.{assigns}
use Rattle.sv_flat.specs.Processes.{is_top_kind, is_top_input, is_clocked, is_register}
use Rattle.sv_flat.specs.Readings.{names_signal}
use Rattle.sv_flat.specs.Reads.{reads_for, order}
use Rattle.sv_flat.specs.Sets.{holds}
use Rattle.sv_flat.specs.SignalLists.{system_signals, registers}
use Rattle.sv_flat.specs.Views.{design_of, signal_form}
use Rattle.sv_flat.specs.Admission.{IsAdmitted}
use Rattle.sv_flat.proofs.AdmittedFacts.{process_is_sound, assigned_is_signal}
use Rattle.sv_flat.proofs.Depths.{second_of, is_below}
use Rattle.sv_flat.proofs.LeastSets.{from_some, or_cases, holds-from_Contains}
use Rattle.sv_flat.proofs.LeastSets.{Contains-from_filter}
use Rattle.sv_flat.proofs.Orders.{order_only}
use Rattle.sv_design.specs.Designs.{IsDesign}
use Rattle.sv_graph.specs.Marks.{is_marked, Marks}
use Rattle.sv_graph.proofs.MarkFacts.{any_append, or_no, both_marked}
use Rattle.sv_obl.specs.Paths.{StepForm}
use Rattle.sv_obl.specs.Obligations.{GoalForm, flow, holds as must_hold, selector, Obligation}
use Rattle.sv_obl.specs.DesignQueries.{IsGoalOf, IsQueryOf}
use Rattle.sv_obl.specs.Views.{IsGoalAmong}
use Rattle.sv_encoding.specs.Cones.{label_selectors, named_in, asked_next, asked_now, next_cone}
use Rattle.sv_encoding.specs.Cones.{registers_in}
use Rattle.sv_encoding_laws.proofs.ConeFacts.{seen_below}
use Rattle.sv_encoding_laws.proofs.QueryCones.{read_signal_known, next_seen, now_known, next_known}
use Rattle.sv_blast.specs.NamedMarks.{is_named_in, starts_now, AreBelow}
use Rattle.sv_graph.proofs.Differing.{filter_same}
use Rattle.sv_blast.proofs.MarkTables.{holds_those, holds_join, first_marks, tabled}
use Rattle.sv_blast.proofs.MarkTables.{none_behind, named_in_alike, lt_or_le}

-- a table of the kinds of signals says which are inputs of the top module
pub kinds_marked : (items : List Signal) (s : ℕ) →
    is_marked (map (λ (x : Signal). is_top_kind x.kind) items) s
    ≡ is_top_kind (signal_of (signal_forms items) s).kind
kinds_marked [] s = refl
kinds_marked (x ∷ items) zero = refl
kinds_marked (x ∷ items) (suc s) = kinds_marked items s

-- a flat design has as many signals as its plain form
pub count_is : (flat : Flat) → length (design_of flat).signals ≡ length flat.signals.items
count_is flat = length-map flat.signals.items signal_form

pub empty_is : (flat : Flat) (table : List Bool) →
    table ≡ replicate (length flat.signals.items) false →
    table ≡ replicate (length (design_of flat).signals) false
empty_is flat table is = is ∙ ap (λ n. replicate n false) (sym (count_is flat))

module _ (design : FlatDesign) (is_sound : IsTrue (sound design)) (admitted : IsAdmitted design) where
  register_low : (s : ℕ) → IsTrue (is_register design s) → s < length design.signals
  register_low s h =
      let found = from_some (λ (p : ProcessForm). is_clocked p.kind && assigns p.body s)
      design.processes h in
      let p = found.0 in
      ltb-true s (length design.signals)
      (assigned_is_signal design.signals p.body
      (second_of (kind_sound design p.kind p.body) (statement_sound design.signals p.body)
      (process_is_sound design is_sound admitted p found.1)) s
      (second_of (is_clocked p.kind) (assigns p.body s) found.2))

  -- the registers, where they alone are marked
  pub registers_marked : (old new : List Bool) (ss : List ℕ) →
      old ≡ replicate (length design.signals) false → length new ≡ length old →
      ss ≡ registers design → Marks old new (holds ss) → (s : ℕ) →
      is_marked new s ≡ is_register design s
  registers_marked old new ss empty kept are marks =
      let n = length design.signals in
      let table = first_marks n old new (holds ss) empty kept marks in
      tabled n new (is_register design) (
        table.0,
        λ s below.
            table.1 s below
            ∙ ap (λ xs. holds xs s) are ∙ holds_those n (is_register design) s below,
      )
      register_low

  -- the inputs and registers, where the registers are marked beside the inputs
  pub given_marked : (old new : List Bool) (ss : List ℕ) →
      length old ≡ length design.signals → length new ≡ length old →
      ((s : ℕ) → is_marked old s ≡ is_top_input design s) →
      ss ≡ registers design → Marks old new (holds ss) → (s : ℕ) →
      is_marked new s ≡ (is_top_input design s || is_register design s)
  given_marked old new ss size kept inputs are marks =
      let n = length design.signals in
      tabled n new (λ s. is_top_input design s || is_register design s) (
        kept ∙ size,
        λ s below.
            marks s (subst (λ l. s < l) (sym size) below)
            ∙ ap₂ (λ a b. a || b) (inputs s)
            (ap (λ xs. holds xs s) are ∙ holds_those n (is_register design) s below),
      )
      (λ s given. ⊎_elim
      (λ input. ⊎_elim
      (λ below. below)
      (λ behind. absurd (false≢true
      (sym (none_behind old s (subst (λ l. l ≤ s) (sym size) behind)) ∙ inputs s ∙ input)))
      (lt_or_le s n))
      (λ register. register_low s register)
      (or_cases (is_top_input design s) (is_register design s) given))

  -- the signals of the order that are in a cone, where its signals are marked
  pub settled_marked : (old new : List Bool) (cone ss : List ℕ) →
      old ≡ replicate (length design.signals) false → length new ≡ length old →
      Marks old new (holds cone) → ss ≡ order design →
      filter (is_marked new) ss ≡ filter (holds cone) (order design)
  settled_marked old new cone ss empty kept marks are =
      let n = length design.signals in
      ap (filter (is_marked new)) are
      ∙ filter_same (is_marked new) (holds cone) (order design)
      (λ s at.
      (first_marks n old new (holds cone) empty kept marks).1 s
      (is_below design s (order_only design admitted.ordered s at)))

-- ---- where cones begin

-- names of expressions, below the number of signals
pub named_marked : (design : FlatDesign) (es : List TypedTree) (s : ℕ) → s < length design.signals →
    is_named_in es s ≡ holds (named_in design es) s
named_marked design es s below =
    named_in_alike design.signals es s
    ∙ sym (holds_those (length design.signals)
    (λ t. list_any (λ e. names_signal design.signals e t) es) s below)

-- and those of one expression
pub one_named : (design : FlatDesign) (e : TypedTree) (s : ℕ) → s < length design.signals →
    names_signal [] e s ≡ holds (named_in design (e ∷ [])) s
one_named design e s below =
    sym (or_no (names_signal [] e s) false refl) ∙ named_marked design (e ∷ []) s below

-- the marks of facts, conditions, labels, what is asked, and reads are those of all these together
pub starts_marked : (design : FlatDesign) (facts conditions : List TypedTree)
    (labels asked reads : List ℕ) (s : ℕ) → s < length design.signals →
    ((((is_named_in facts s || is_named_in conditions s) || holds labels s) || holds asked s)
    || holds reads s)
    ≡ holds (named_in design (facts ++ conditions) ++ labels ++ asked ++ reads) s
starts_marked design facts conditions labels asked reads s below =
    let names = named_in design (facts ++ conditions) in
    sym (holds_join (names ++ labels ++ asked) reads s
    ∙ ap (λ b. b || holds reads s) (holds_join (names ++ labels) asked s
    ∙ ap (λ b. b || holds asked s) (holds_join names labels s
    ∙ ap (λ b. b || holds labels s)
    (sym (named_marked design (facts ++ conditions) s below)
    ∙ any_append (λ e. names_signal [] e s) facts conditions))))

-- ---- the signals of an obligation

module _ (flat : Flat) (known : IsDesign (design_of flat)) (o : Obligation)
    (query : IsQueryOf (design_of flat) o) where
  abbrev design : FlatDesign
  design = design_of flat

  abbrev count : ℕ
  count = length flat.signals.items

  low : (t : ℕ) → Contains (system_signals design) t → t < count
  low t seen =
      subst (λ n. t < n) (count_is flat) (seen_below design known.is_sound known.is_admitted t seen)

  pub reads_below : AreBelow count o.reads
  reads_below s at =
      low s (read_signal_known design known.is_sound known.is_admitted o query s at)

  pub registers_below : AreBelow count (registers_in design (next_cone design o))
  registers_below s at =
      low s (next_seen design known.is_sound known.is_admitted o query s
      (holds-from_Contains (next_cone design o) s
      (Contains-from_filter (is_register design) (next_cone design o) s at).1))

  pub now_below : AreBelow count (starts_now design o)
  now_below t at = low t (now_known design known.is_sound known.is_admitted o query t at)

  pub next_below : AreBelow count (asked_next design o.goal)
  next_below t at = low t (next_known design known.is_sound known.is_admitted o query t at)

  pub goal_below : IsGoalAmong count o.goal
  goal_below = by o.goal query.goal
    where
      by : (goal : GoalForm) → IsGoalOf design o goal → IsGoalAmong count goal
      by (flow target frame) is = low target is.0
      by (must_hold e frame) is = tt
      by (selector s) is = low s is.0

  -- the marks of each part of what the cone of this cycle begins with, one after the other
  pub now_marked : (a b c d e f : List Bool) → length a ≡ count → length b ≡ length a →
      length c ≡ length b → length d ≡ length c → length e ≡ length d →
      Marks a b (is_named_in o.facts) →
      Marks b c (is_named_in (map (λ (step : StepForm). step.condition) o.path)) →
      Marks c d (holds (flat_map (label_selectors design) o.reads)) →
      Marks d e (holds (asked_now design o.goal)) →
      Marks e f (holds (flat_map (reads_for design) (registers_in design (next_cone design o)))) →
      Marks a f (holds (starts_now design o))
  now_marked a b c d e f size b_size c_size d_size e_size facts path labels asked reads s below =
      let conditions = map (λ (step : StepForm). step.condition) o.path in
      let selectors = flat_map (label_selectors design) o.reads in
      let goal = asked_now design o.goal in
      let brought = flat_map (reads_for design) (registers_in design (next_cone design o)) in
      let two = both_marked a b c (is_named_in o.facts) (is_named_in conditions) b_size facts path in
      let three = both_marked a c d (λ t. is_named_in o.facts t || is_named_in conditions t)
      (holds selectors) (c_size ∙ b_size) two labels in
      let four = both_marked a d e
      (λ t. (is_named_in o.facts t || is_named_in conditions t) || holds selectors t) (holds goal)
      (d_size ∙ c_size ∙ b_size) three asked in
      let five = both_marked a e f
      (λ t. ((is_named_in o.facts t || is_named_in conditions t) || holds selectors t)
      || holds goal t) (holds brought) (e_size ∙ d_size ∙ c_size ∙ b_size) four reads in
      five s below
      ∙ ap (λ x. is_marked a s || x)
      (starts_marked design o.facts conditions selectors goal brought s
      (subst (λ n. s < n) (size ∙ sym (count_is flat)) below))
