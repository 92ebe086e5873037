-- The steps of an encoding one after the other, and what values that meet them say.
use Rattle.std.proofs.Common.{◌≡◌, ℕ, ◌≤◌, Bool, true, ◌||◌, not, List, [], ◌∷◌, ◌++◌, map, length}
use Rattle.std.proofs.Common.{refl, sym, ap, subst, ◌∙◌, ◌⊎◌, inl, inr, ⊎_elim, arith, ℤ, ◌==◌, lt-ltb}
use Rattle.std.specs.Prelude.{Contains, IsTrue, IsFalse, flat_map}
use Rattle.std.specs.List.{list_any}
use Rattle.std.proofs.lemmas.Bool.{eq-eqb}
use Rattle.sv_num.specs.Vectors.{is_true}
use Rattle.sv_system.specs.System.{Environment, Fits, IsStill}
use Rattle.sv_system.proofs.Lists.{Contains-nil, Contains-head, Contains-later}
use Rattle.sv_system.proofs.Lists.{Contains-filter}
use Rattle.sv_lattice.specs.Tables.{flow_test}
use Rattle.sv_flat.specs.Design.{TypedTree, FlatDesign}
use Rattle.sv_flat.specs.Values.{signal_width, value}
use Rattle.sv_flat.specs.Soundness.{sound, is_signal}
use Rattle.sv_flat.specs.Readings.{ReadForm, reads, names_signal}
use Rattle.sv_flat.specs.Processes.{is_top_input, is_register}
use Rattle.sv_flat.specs.Reads.{is_read_for, reads_for}
use Rattle.sv_flat.specs.FlatSystem.{flat_system}
use Rattle.sv_flat.specs.Sets.{holds}
use Rattle.sv_flat.proofs.AdmittedFacts.{some_width}
use Rattle.sv_flat.proofs.LeastSets.{either_way, or_cases, in_those, some_from, Contains-from_holds}
use Rattle.sv_flat.proofs.LeastSets.{holds-from_Contains, Contains-from_filter}
use Rattle.sv_flat.proofs.Members.{Contains-left, Contains-right}
use Rattle.sv_obl.specs.declared.frames.Frame.{Frame}
use Rattle.sv_obl.specs.declared.frames.Frame.TheVariants.{Now, Next}
use Rattle.sv_obl.specs.Paths.{StepForm}
use Rattle.sv_obl.specs.Obligations.{GoalForm, flow, holds as must_hold, selector, Obligation}
use Rattle.sv_obl.specs.DesignQueries.{IsExpressionOf, IsGoalOf, IsQueryOf}
use Rattle.sv_obl.specs.Noninterference.{IsChecked}
use Rattle.sv_clause.specs.Literals.{literal_true}
use Rattle.sv_gates.specs.Formulas.{Formula, meets, IsLiteral}
use Rattle.sv_gates.specs.Gates.{start}
use Rattle.sv_gates.specs.Extending.{Makes, Extends}
use Rattle.sv_gates.proofs.ExtendingLaws.{makes_at_once, meets-begins, extends_trans}
use Rattle.sv_gates.proofs.Valuations.{negation_true}
use Rattle.sv_gates.proofs.GateLaws.{literal_negated}
use Rattle.sv_circuits.specs.Words.{Word, word_value, negation}
use Rattle.sv_circuits.specs.Circuits.{IsBase}
use Rattle.sv_circuits.proofs.Pieces.{base_more, makes_meaning, word_more}
use Rattle.sv_encoding.specs.Expressions.{Words, is_true_bit}
use Rattle.sv_encoding.specs.Cones.{label_selectors, named_in, asked_next, next_cone, asked_now}
use Rattle.sv_encoding.specs.Cones.{conditions_of, registers_in, now_cone}
use Rattle.sv_encoding.specs.Labels.{LabelForm, some_stays_bit}
use Rattle.sv_encoding.specs.Encoding.{given_in, inputs_in, given_now, settled_words, inputs_next}
use Rattle.sv_encoding.specs.Encoding.{registers_next, fact_literals, condition_literals}
use Rattle.sv_encoding.specs.Encoding.{target_label, read_labels, violation}
use Rattle.sv_encoding.specs.BothWays.{HaveBits, IsWordOf, SpellThere, IsReadThere, SpellsSettled}
use Rattle.sv_encoding.specs.BothWays.{SpellsNext, LeaveOthers}
use Rattle.sv_encoding.specs.LabelMeanings.{HasLiterals, SaysPoint, SayPoints}
use Rattle.sv_encoding.specs.LabelMeanings.{label_point, selectors_for, SaysLabels}
use Rattle.sv_encoding.specs.GivenMeanings.{AreFree}
use Rattle.sv_encoding_laws.proofs.ConeFacts.{read_below, seen_below}
use Rattle.sv_encoding_laws.proofs.FlowWords.{flows_say}
use Rattle.sv_encoding_laws.proofs.GivenWords.{words_are_free}
use Rattle.sv_encoding_laws.proofs.LabelWords.{literals_more, label_says_point, labels_say_points}
use Rattle.sv_encoding_laws.proofs.NamedValues.{named_from_reads}
use Rattle.sv_encoding_laws.proofs.QueryCones.{now_is_cone, next_is_cone, now_starts, next_starts}
use Rattle.sv_obl.proofs.PathLists.{in_flat_map}
use Rattle.sv_encoding_laws.proofs.QueryCones.{condition_is, read_signal_known}
use Rattle.sv_encoding_laws.proofs.Settling.{words_spell_settled_values, words_spell_next_values}
use Rattle.sv_encoding_laws.proofs.Steps.{HasWidth}
use Rattle.sv_encoding_laws.proofs.TruthWords.{Counts, AllCount, AreLiterals, AreTruths, truths_say}
use Rattle.sv_encoding_laws.proofs.TruthWords.{truth_says}
use Rattle.sv_encoding_laws.proofs.Units.{base_start}

module _ (design : FlatDesign) (checked : IsChecked design) (o : Obligation)
    (query : IsQueryOf design o) where
  abbrev is_sound : IsTrue (sound design)
  is_sound = checked.is_sound

  -- ---- the steps

  abbrev pub cone : List ℕ
  cone = now_cone design o

  abbrev pub later : List ℕ
  later = next_cone design o

  abbrev pub s1 : Formula × Words
  s1 = given_now design (now_cone design o) start

  abbrev pub s2 : Formula × Words
  s2 = settled_words design (now_cone design o) s1.1 s1.0

  abbrev pub s3 : Formula × Words
  s3 = inputs_next design (next_cone design o) s2.0

  abbrev pub s4 : Formula × Words
  s4 = registers_next design (next_cone design o) s2.1 s3.1 s3.0

  abbrev pub s5 : Formula × Words
  s5 = settled_words design (next_cone design o) s4.1 s4.0

  abbrev pub s6 : Formula × List ℤ
  s6 = fact_literals design s2.1 o.facts s5.0

  abbrev pub s7 : Formula × List ℤ
  s7 = condition_literals design s2.1 o.path s6.0

  abbrev pub s8 : Formula × LabelForm
  s8 = target_label design s2.1 s5.1 o.goal s7.0

  abbrev pub s9 : Formula × List LabelForm
  s9 = read_labels design s2.1 o.reads s8.0

  abbrev pub s10 : Formula × ℤ
  s10 = violation design s2.1 s5.1 s8.1 s9.1 o.goal s9.0

  -- ---- words of signals

  word_more_of : (t m n : ℕ) (word : Word) → m ≤ n → IsWordOf design t m word →
      IsWordOf design t n word
  word_more_of t m n word h is = (word_more m n word h is.0, is.1)

  pub free1 : AreFree design (given_in design cone) start s1
  free1 = words_are_free design (given_in design cone) start base_start

  pub p2 : SpellsSettled design cone s1.1 s1.0 s2
  p2 =
      words_spell_settled_values design cone s1.1 s1.0 is_sound checked.admitted
      (now_is_cone design is_sound checked.admitted o query) free1.base
      (λ t held. (free1.words t held).inside)

  pub base2 : IsBase s2.0
  base2 = base_more s1.0 s2.0 free1.base p2.extends

  pub free3 : AreFree design (inputs_in design later) s2.0 s3
  free3 = words_are_free design (inputs_in design later) s2.0 base2

  -- what is read for the next registers stands in this cycle's cone
  pub read_inside : (t : ℕ) → IsReadThere design (registers_in design later) t →
      IsTrue (holds cone t)
  read_inside t read =
      let s = read.0 in
      let early = named_in design (conditions_of o) ++ flat_map (label_selectors design) o.reads
      ++ asked_now design o.goal in
      now_starts design is_sound checked.admitted o query t
      (Contains-right early (flat_map (reads_for design) (registers_in design later)) t
      (in_flat_map (reads_for design) (registers_in design later) s t
      (Contains-from_holds (registers_in design later) s read.1)
      (in_those (length design.signals) (is_read_for design s) t
      (read_below design is_sound checked.admitted s t read.2) read.2)))

  pub read_word : (t : ℕ) → IsReadThere design (registers_in design later) t →
      IsWordOf design t (s3.0).variables (s2.1 t)
  read_word t read =
      word_more_of t (s2.0).variables (s3.0).variables (s2.1 t) free3.begins.grows
      (p2.within t (read_inside t read))

  pub p4 : SpellsNext design later s2.1 s3.0 s4
      × LeaveOthers (registers_in design later) s3.1 s4.1
  p4 =
      words_spell_next_values design later s2.1 s3.1 s3.0 is_sound checked.admitted free3.base
      read_word

  pub base4 : IsBase s4.0
  base4 = base_more s3.0 s4.0 free3.base p4.0.extends

  -- an input or register of the next cycle's cone
  pub later_given : (t : ℕ) → IsTrue (holds (given_in design later) t) →
      IsTrue (holds (registers_in design later) t)
      ⊎ (IsFalse (holds (registers_in design later) t)
      × IsTrue (holds (inputs_in design later) t))
  later_given t held =
      let from = Contains-from_filter (λ s. is_top_input design s || is_register design s) later t
      (Contains-from_holds (given_in design later) t held) in
      ⊎_elim
      (λ register. inl register)
      (λ none. ⊎_elim
      (λ input. inr (
        none,
        holds-from_Contains (inputs_in design later) t
            (Contains-filter (is_top_input design) later t from.1 input),
      ))
      (λ register. inl (holds-from_Contains (registers_in design later) t
      (Contains-filter (is_register design) later t from.1 register)))
      (or_cases (is_top_input design t) (is_register design t) from.0))
      (either_way (holds (registers_in design later) t))

  pub later_word : (t : ℕ) → IsTrue (holds (given_in design later) t) →
      IsWordOf design t (s4.0).variables (s4.1 t)
  later_word t held =
      ⊎_elim
      (λ register. p4.0.within t register)
      (λ input. subst (IsWordOf design t (s4.0).variables) (sym (p4.1 t input.0))
      (word_more_of t (s3.0).variables (s4.0).variables (s3.1 t) p4.0.extends.begins.grows
      (free3.words t input.1).inside))
      (later_given t held)

  pub p5 : SpellsSettled design later s4.1 s4.0 s5
  p5 =
      words_spell_settled_values design later s4.1 s4.0 is_sound checked.admitted
      (next_is_cone design is_sound checked.admitted o query) base4 later_word

  pub base5 : IsBase s5.0
  base5 = base_more s4.0 s5.0 base4 p5.extends

  -- ---- facts and conditions

  pub bits : HaveBits design.signals
  bits t is = some_width design is_sound checked.admitted t is

  abbrev pub InCone : ℕ → Type 0
  InCone t = IsTrue (holds cone t)

  abbrev pub InLater : ℕ → Type 0
  InLater t = IsTrue (holds later t)

  -- an expression that names signals of a cone
  pub counts : (G : ℕ → Type 0) (es : List TypedTree) (e : TypedTree) → Contains es e →
      IsExpressionOf design e → ((t : ℕ) → Contains (named_in design es) t → G t) →
      Counts design bits G e
  counts G es e at is all = record {
    formed = is.formed;
    named = named_from_reads design.signals G e (λ r r_at.
        let t = r.signal in
        let named = some_from (λ (x : ReadForm). x.signal == t) (reads design.signals e) r r_at
        (eq-eqb t t refl) in
        all t (in_those (length design.signals)
        (λ s. list_any (λ e. names_signal design.signals e s) es) t
        (seen_below design is_sound checked.admitted t (is.names t named))
        (some_from (λ (x : TypedTree). names_signal design.signals x t) es e at named)));
  }

  all_count : (G : ℕ → Type 0) (all es : List TypedTree) →
      ((e : TypedTree) → Contains es e → Contains all e × IsExpressionOf design e) →
      ((t : ℕ) → Contains (named_in design all) t → G t) → AllCount design bits G es
  all_count G all [] each inside = tt
  all_count G all (e ∷ es) each inside =
      let here = each e (Contains-head e es) in (
        counts G all e here.0 here.1 inside,
        all_count G all es (λ x at. each x (Contains-later e es x at)) inside,
      )

  -- what the conditions name, the labels of reads select by and the goal asks starts the cone
  at_start : (t : ℕ) → Contains (named_in design (conditions_of o)
      ++ flat_map (label_selectors design) o.reads ++ asked_now design o.goal) t → InCone t
  at_start t at =
      let names = named_in design (conditions_of o) in
      let labels = flat_map (label_selectors design) o.reads in
      now_starts design is_sound checked.admitted o query t
      (Contains-left (names ++ labels ++ asked_now design o.goal)
      (flat_map (reads_for design) (registers_in design later)) t at)

  starts_inside : (t : ℕ) → Contains (named_in design (conditions_of o)
      ++ flat_map (label_selectors design) o.reads) t → InCone t
  starts_inside t at =
      at_start t (Contains-left (named_in design (conditions_of o)
      ++ flat_map (label_selectors design) o.reads) (asked_now design o.goal) t at)

  pub named_inside : (t : ℕ) → Contains (named_in design (conditions_of o)) t → InCone t
  named_inside t at =
      starts_inside t (Contains-left (named_in design (conditions_of o))
      (flat_map (label_selectors design) o.reads) t at)

  abbrev pub conditions : List TypedTree
  conditions = map (λ (step : StepForm). step.condition) o.path

  pub facts_count : AllCount design bits InCone o.facts
  facts_count =
      all_count InCone (conditions_of o) o.facts
      (λ e at. let in_all = Contains-left o.facts conditions e at in
      (in_all, condition_is design is_sound checked.admitted o query e in_all)) named_inside

  pub conditions_count : AllCount design bits InCone conditions
  conditions_count =
      all_count InCone (conditions_of o) conditions
      (λ e at. let in_all = Contains-right o.facts conditions e at in
      (in_all, condition_is design is_sound checked.admitted o query e in_all)) named_inside

  pub wide_now : (n : ℕ) → (s2.0).variables ≤ n → (t : ℕ) → InCone t →
      HasWidth (signal_width design.signals t) n (s2.1 t)
  wide_now n h t held =
      let is = word_more_of t (s2.0).variables n (s2.1 t) h (p2.within t held) in
      record { is = is.0; width = is.1 }

  pub wide_next : (n : ℕ) → (s5.0).variables ≤ n → (t : ℕ) → InLater t →
      HasWidth (signal_width design.signals t) n (s5.1 t)
  wide_next n h t held =
      let is = word_more_of t (s5.0).variables n (s5.1 t) h (p5.within t held) in
      record { is = is.0; width = is.1 }

  pub grows5 : (s2.0).variables ≤ (s5.0).variables
  grows5 =
      omega (arith, free3.begins.grows, p4.0.extends.begins.grows, p5.extends.begins.grows)

  abbrev pub TruthsSay : List TypedTree → (ℕ → Bool) → List ℤ → Type 0
  TruthsSay es values literals =
      (e : Environment ℕ) → ((t : ℕ) → InCone t → word_value values (s2.1 t) ≡ e t) →
      AreTruths design bits InCone values e es literals

  pub p6 : Makes s5.0 s6 (AreLiterals design bits InCone o.facts) (TruthsSay o.facts)
  p6 =
      truths_say design bits InCone o.facts facts_count s2.1 s5.0 base5
      (wide_now (s5.0).variables grows5)

  base6 : IsBase s6.0
  base6 = base_more s5.0 s6.0 base5 p6.extends

  pub p7 : Makes s6.0 s7 (AreLiterals design bits InCone conditions) (TruthsSay conditions)
  p7 =
      truths_say design bits InCone conditions conditions_count s2.1 s6.0 base6
      (wide_now (s6.0).variables (omega (arith, grows5, p6.extends.begins.grows)))

  base7 : IsBase s7.0
  base7 = base_more s6.0 s7.0 base6 p7.extends

  pub grows7 : (s5.0).variables ≤ (s7.0).variables
  grows7 = omega (arith, p6.extends.begins.grows, p7.extends.begins.grows)

  -- ---- labels

  abbrev pub in_frame : Frame → (e f : Environment ℕ) → Environment ℕ
  in_frame Now e f = e
  in_frame Next e f = f

  abbrev pub Spelled : (ℕ → Bool) → (e f : Environment ℕ) → Type 0
  Spelled values e f = SpellThere cone values s2.1 e × SpellThere later values s5.1 f

  abbrev pub TargetSays : GoalForm → (ℕ → Bool) → LabelForm → (e f : Environment ℕ) → Type 0
  TargetSays (flow s frame) values label e f =
      SaysPoint values label (label_point design (in_frame frame e f) s)
  TargetSays (must_hold x frame) values label e f = Unit {0}
  TargetSays (selector s) values label e f = SaysPoint values label (label_point design e s)

  abbrev pub TargetMeans : GoalForm → (ℕ → Bool) → LabelForm → Type 0
  TargetMeans goal values label =
      (e f : Environment ℕ) → Spelled values e f → TargetSays goal values label e f

  pub known_signal : (s : ℕ) → Contains (flat_system design).signals s →
      IsTrue (is_signal design.signals s)
  known_signal s seen = lt-ltb s (length design.signals)
      (seen_below design is_sound checked.admitted s seen)

  pub asked_inside : (t : ℕ) → Contains (asked_now design o.goal) t → InCone t
  asked_inside t at =
      at_start t (Contains-right (named_in design (conditions_of o)
      ++ flat_map (label_selectors design) o.reads) (asked_now design o.goal) t at)

  pub labels_inside : (t : ℕ) → Contains (selectors_for design o.reads) t → InCone t
  labels_inside t at =
      starts_inside t (Contains-right (named_in design (conditions_of o))
      (flat_map (label_selectors design) o.reads) t at)

  pub now_word : (n : ℕ) → (s2.0).variables ≤ n → (t : ℕ) → InCone t → IsWordOf design t n (s2.1 t)
  now_word n h t held = word_more_of t (s2.0).variables n (s2.1 t) h (p2.within t held)

  pub next_word : (n : ℕ) → (s5.0).variables ≤ n → (t : ℕ) → InLater t → IsWordOf design t n (s5.1 t)
  next_word n h t held = word_more_of t (s5.0).variables n (s5.1 t) h (p5.within t held)

  -- a label in this cycle
  now_label_makes : (s : ℕ) → Contains (flat_system design).signals s →
      ((t : ℕ) → Contains (label_selectors design s) t → InCone t) →
      Makes s7.0 (target_label design s2.1 s5.1 (selector s) s7.0) HasLiterals
      (TargetMeans (selector s))
  now_label_makes s known now =
      let p = label_says_point design s2.1 s s7.0 is_sound checked.maps
      (known_signal s known) base7
      (λ t held. now_word (s7.0).variables (omega (arith, grows5, grows7)) t
      (now t (Contains-from_holds (label_selectors design s) t held))) in
      makes_meaning p (TargetMeans (selector s)) (λ values met says e f spelled. says e (λ t held.
      spelled.0 t (now t (Contains-from_holds (label_selectors design s) t held))))

  target_makes : (goal : GoalForm) → IsGoalOf design o goal →
      ((t : ℕ) → Contains (asked_now design goal) t → InCone t) →
      ((t : ℕ) → Contains (asked_next design goal) t → InLater t) →
      Makes s7.0 (target_label design s2.1 s5.1 goal s7.0) HasLiterals (TargetMeans goal)
  target_makes (flow s Now) is now next = now_label_makes s is.0 now
  target_makes (flow s Next) is now next =
      let p = label_says_point design s5.1 s s7.0 is_sound checked.maps
      (known_signal s is.0) base7
      (λ t held. next_word (s7.0).variables grows7 t
      (next t (Contains-from_holds (label_selectors design s) t held))) in
      makes_meaning p (TargetMeans (flow s Next)) (λ values met says e f spelled. says f (λ t held.
      spelled.1 t (next t (Contains-from_holds (label_selectors design s) t held))))
  target_makes (must_hold x frame) is now next =
      makes_at_once s7.0 [] HasLiterals (TargetMeans (must_hold x frame)) base7.closed
      (λ l at. absurd (Contains-nil l at)) (λ values met e f spelled. tt)
  target_makes (selector s) is now next = now_label_makes s is.0 now

  pub p8 : Makes s7.0 s8 HasLiterals (TargetMeans o.goal)
  p8 =
      target_makes o.goal query.goal asked_inside
      (λ t at. next_starts design is_sound checked.admitted o query t at)

  base8 : IsBase s8.0
  base8 = base_more s7.0 s8.0 base7 p8.extends

  pub p9 : SaysLabels design s2.1 o.reads s8.0 s9
  p9 =
      labels_say_points design s2.1 o.reads s8.0 is_sound checked.maps
      (λ s at. known_signal s (read_signal_known design is_sound checked.admitted o query s at))
      base8
      (λ t held. now_word (s8.0).variables
      (omega (arith, grows5, grows7, p8.extends.begins.grows)) t
      (labels_inside t (Contains-from_holds (selectors_for design o.reads) t held)))

  base9 : IsBase s9.0
  base9 = base_more s8.0 s9.0 base8 p9.extends

  pub grows9 : (s7.0).variables ≤ (s9.0).variables
  grows9 = omega (arith, p8.extends.begins.grows, p9.extends.begins.grows)

  -- ---- the goal fails

  abbrev pub stays_test : (e there : Environment ℕ) → (s : ℕ) → Bool
  stays_test e there s =
      list_any (λ p. not (flow_test design.lattice p (label_point design there s)))
      (map (label_point design e) o.reads)

  abbrev pub fails_test : GoalForm → (e f : Environment ℕ) → Bool
  fails_test (flow s frame) e f = stays_test e (in_frame frame e f) s
  fails_test (must_hold x frame) e f =
      not (is_true (value design.signals (in_frame frame e f) x))
  fails_test (selector s) e f = stays_test e e s

  abbrev pub FailsMean : GoalForm → (ℕ → Bool) → ℤ → Type 0
  FailsMean goal values literal =
      (e f : Environment ℕ) → Spelled values e f → literal_true values literal ≡ fails_test goal e f

  abbrev pub Labelled : GoalForm → (ℕ → Bool) → Type 0
  Labelled goal values =
      (e f : Environment ℕ) → Spelled values e f →
      SayPoints values s9.1 (map (label_point design e) o.reads)
      × TargetSays goal values s8.1 e f

  stays_makes : (goal : GoalForm) (s : ℕ) (there : (e f : Environment ℕ) → Environment ℕ) →
      ((values : ℕ → Bool) → meets values (s9.0).clauses ≡ true → (e f : Environment ℕ) →
      Spelled values e f → SayPoints values s9.1 (map (label_point design e) o.reads)
      × SaysPoint values s8.1 (label_point design (there e f) s)) →
      Makes s9.0 (some_stays_bit design s9.1 s8.1 s9.0) IsLiteral (λ values literal.
      (e f : Environment ℕ) → Spelled values e f →
      literal_true values literal ≡ stays_test e (there e f) s)
  stays_makes goal s there labelled =
      let made = some_stays_bit design s9.1 s8.1 s9.0 in
      let p = flows_say design s9.1 s8.1 s9.0 base9 p9.within
      (literals_more (s8.0).variables (s9.0).variables s8.1 p9.extends.begins.grows p8.within) in
      record {
        extends = p.extends;
        within = p.within;
        says = λ values met e f spelled.
            let labels = labelled values (meets-begins s9.0 made.0 values p.extends.begins met) e f
            spelled in
            p.says values met (map (label_point design e) o.reads)
            (label_point design (there e f) s) labels.0 labels.1;
      }

  holds_makes : (x : TypedTree) → (words : Words) → (G : ℕ → Type 0) →
      Counts design bits G x → ((t : ℕ) → G t →
      HasWidth (signal_width design.signals t) (s9.0).variables (words t)) →
      Makes s9.0 (negation (is_true_bit design.signals words x) s9.0) IsLiteral (λ values literal.
      (there : Environment ℕ) → ((t : ℕ) → G t → word_value values (words t) ≡ there t) →
      literal_true values literal ≡ not (is_true (value design.signals there x)))
  holds_makes x words G count wide =
      let made = is_true_bit design.signals words x s9.0 in
      let p = truth_says design bits G x count words s9.0 base9 wide in
      record {
        extends = p.extends;
        within = literal_negated (made.0).variables made.1 p.within;
        says = λ values met there spelled.
            negation_true values made.1 p.within.0 ∙ ap not (p.says values met there spelled);
      }

  fails_make : (goal : GoalForm) → IsGoalOf design o goal →
      ((t : ℕ) → Contains (asked_now design goal) t → InCone t) →
      ((t : ℕ) → Contains (asked_next design goal) t → InLater t) →
      ((values : ℕ → Bool) → meets values (s9.0).clauses ≡ true → Labelled goal values) →
      Makes s9.0 (violation design s2.1 s5.1 s8.1 s9.1 goal s9.0) IsLiteral (FailsMean goal)
  fails_make (flow s frame) is now next labelled =
      stays_makes (flow s frame) s (in_frame frame) labelled
  fails_make (must_hold x Now) is now next labelled =
      let p = holds_makes x s2.1 InCone
      (counts InCone (x ∷ []) x (Contains-head x []) is now)
      (wide_now (s9.0).variables (omega (arith, grows5, grows7, grows9))) in
      makes_meaning p (FailsMean (must_hold x Now)) (λ values met says e f spelled.
      says e spelled.0)
  fails_make (must_hold x Next) is now next labelled =
      let p = holds_makes x s5.1 InLater
      (counts InLater (x ∷ []) x (Contains-head x []) is next)
      (wide_next (s9.0).variables (omega (arith, grows7, grows9))) in
      makes_meaning p (FailsMean (must_hold x Next)) (λ values met says e f spelled.
      says f spelled.1)
  fails_make (selector s) is now next labelled =
      stays_makes (selector s) s (λ e f. e) labelled

  pub p10 : Makes s9.0 s10 IsLiteral (FailsMean o.goal)
  p10 =
      fails_make o.goal query.goal asked_inside
      (λ t at. next_starts design is_sound checked.admitted o query t at)
      (λ values met e f spelled. (
        p9.says values met e (λ t held.
            spelled.0 t (labels_inside t (Contains-from_holds (selectors_for design o.reads) t held))),
        p8.says values (meets-begins s8.0 s9.0 values p9.extends.begins met) e f spelled,
      ))

  -- ---- what values that meet all gates say

  -- settled environments of this cycle and of the next that the words of inputs and registers spell
  pub record Fit (values : ℕ → Bool) (e f : Environment ℕ) : Type 0 where
    pub e_fits : Fits (flat_system design) e
    pub e_still : IsStill (flat_system design) e
    pub f_fits : Fits (flat_system design) f
    pub f_still : IsStill (flat_system design) f
    pub given : SpellThere (given_in design cone) values s1.1 e
    pub inputs : SpellThere (inputs_in design later) values s3.1 f
    pub next : (t : ℕ) → IsTrue (holds (registers_in design later) t) →
        f t ≡ (flat_system design).next e t

  pub record Said (values : ℕ → Bool) (e f : Environment ℕ) : Type 0 where
    pub facts : AreTruths design bits InCone values e o.facts s6.1
    pub path : AreTruths design bits InCone values e conditions s7.1
    pub fails : literal_true values s10.1 ≡ fails_test o.goal e f

  pub after_seven : Extends s7.0 s10.0
  after_seven =
      extends_trans s7.0 s8.0 s10.0 p8.extends
      (extends_trans s8.0 s9.0 s10.0 p9.extends p10.extends)

  pub after_six : Extends s6.0 s10.0
  after_six = extends_trans s6.0 s7.0 s10.0 p7.extends after_seven

  pub after_three : Extends s3.0 s10.0
  after_three =
      extends_trans s3.0 s4.0 s10.0 p4.0.extends
      (extends_trans s4.0 s5.0 s10.0 p5.extends
      (extends_trans s5.0 s6.0 s10.0 p6.extends after_six))

  pub all_said : (values : ℕ → Bool) → meets values (s10.0).clauses ≡ true →
      (e f : Environment ℕ) → Fit values e f → Said values e f
  all_said values met10 e f fit =
      let met9 = meets-begins s9.0 s10.0 values p10.extends.begins met10 in
      let met8 = meets-begins s8.0 s9.0 values p9.extends.begins met9 in
      let met7 = meets-begins s7.0 s8.0 values p8.extends.begins met8 in
      let met6 = meets-begins s6.0 s7.0 values p7.extends.begins met7 in
      let met5 = meets-begins s5.0 s6.0 values p6.extends.begins met6 in
      let met4 = meets-begins s4.0 s5.0 values p5.extends.begins met5 in
      let met3 = meets-begins s3.0 s4.0 values p4.0.extends.begins met4 in
      let met2 = meets-begins s2.0 s3.0 values free3.begins met3 in
      let now : SpellThere cone values s2.1 e =
      p2.says values met2 e fit.e_fits fit.e_still fit.given in
      let registers : SpellThere (registers_in design later) values s4.1
      ((flat_system design).next e) =
      p4.0.says values met4 e (λ t read. now t (read_inside t read)) in
      let given : SpellThere (given_in design later) values s4.1 f =
      (λ t held. ⊎_elim
      (λ register. registers t register ∙ sym (fit.next t register))
      (λ input. ap (word_value values) (p4.1 t input.0) ∙ fit.inputs t input.1)
      (later_given t held)) in
      let next : SpellThere later values s5.1 f =
      p5.says values met5 f fit.f_fits fit.f_still given in
      record {
        facts = p6.says values met6 e now;
        path = p7.says values met7 e now;
        fails = p10.says values met10 e f (now, next);
      }
