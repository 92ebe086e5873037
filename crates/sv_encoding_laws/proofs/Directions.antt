-- Both ways: values that meet the clauses of an obligation spell a valuation that falsifies it, and
-- every valuation that falsifies it is carried by such values.
use Rattle.std.proofs.Common.{◌≡◌, ℕ, ◌<◌, ◌≤◌, ◌^◌, Bool, true, false, ◌||◌, not, cond, List, []}
use Rattle.std.proofs.Common.{◌∷◌}
use Rattle.std.proofs.Common.{◌++◌, map, length, refl, sym, ap, subst, ◌∙◌, ◌⊎◌, inl, inr, ⊎_elim}
use Rattle.std.proofs.Common.{arith, ℤ}
use Rattle.std.specs.Prelude.{Contains, IsTrue, IsFalse, All, neg_ℤ}
use Rattle.std.specs.List.{list_any}
use Rattle.std.proofs.lemmas.Bool.{false≢true, or_left, or_right}
use Rattle.std.proofs.lemmas.List.Elements.{All-cons, All-nil}
use Rattle.std.proofs.Math.Pow.{pow_pos}
use Rattle.sv_num.specs.Vectors.{is_true}
use Rattle.sv_system.specs.System.{Environment, Fits, IsStill, Settled, KindFits}
use Rattle.sv_system.specs.Facts.{Ordered}
use Rattle.std.proofs.Common.{filter}
use Rattle.sv_system.proofs.Lists.{Contains-map, Contains-from_map, Contains-filter, Contains-nil}
use Rattle.sv_system.proofs.Lists.{Contains-head, Contains-later}
use Rattle.sv_system.proofs.Settling.{settle, settle_settles}
use Rattle.sv_lattice.specs.Tables.{flow_test}
use Rattle.sv_flat.specs.Design.{TypedTree, FlatDesign}
use Rattle.sv_flat.specs.Values.{signal_width, value}
use Rattle.sv_flat.specs.Processes.{is_top_input, is_register}
use Rattle.sv_flat.specs.Clocks.{is_clock}
use Rattle.sv_flat.specs.FlatSystem.{flat_system}
use Rattle.sv_flat.specs.Sets.{holds}
use Rattle.sv_flat.proofs.AdmittedFacts.{and_true, negated_true}
use Rattle.sv_flat.proofs.LeastSets.{or_cases, those_pass, from_some, some_from, Contains-from_holds}
use Rattle.sv_flat.proofs.LeastSets.{holds-from_Contains, Contains-from_filter, least_set_least}
use Rattle.sv_flat.proofs.Members.{all_contained, contained_all}
use Rattle.sv_obl.specs.declared.frames.Frame.{Frame}
use Rattle.sv_obl.specs.declared.frames.Frame.TheVariants.{Now, Next}
use Rattle.sv_obl.specs.Paths.{StepForm}
use Rattle.sv_obl.specs.PathValues.{is_true_in, Holds}
use Rattle.sv_obl.specs.Obligations.{GoalForm, flow, holds as must_hold, selector, Obligation}
use Rattle.sv_obl.specs.DesignQueries.{IsQueryOf}
use Rattle.sv_obl.specs.Validity.{Valuation, goal_frame, IsInFrame, GoalFails, Falsifies}
use Rattle.sv_obl.specs.Noninterference.{IsChecked}
use Rattle.sv_sim.proofs.OneDesign.{design_ordered}
use Rattle.sv_clause.specs.Literals.{literal_true}
use Rattle.sv_gates.specs.Formulas.{Formula, meets, IsLiteral}
use Rattle.sv_gates.proofs.GateLaws.{literal_more, literal_negated}
use Rattle.sv_gates.proofs.Valuations.{negation_true}
use Rattle.sv_circuits.specs.Words.{word_value}
use Rattle.sv_circuits.proofs.WordValues.{word_low}
use Rattle.sv_encoding.specs.Expressions.{Words}
use Rattle.sv_encoding.specs.Cones.{brings_reads, asked_next, next_cone, now_cone, registers_in}
use Rattle.sv_encoding.specs.Encoding.{given_in, inputs_in, path_units, encoding}
use Rattle.sv_encoding.specs.BothWays.{decoded_of, SpellThere, IsZeroOutside, MetIsFalsified}
use Rattle.sv_encoding.specs.BothWays.{FalsifiedIsMet, AgreeOnCones, UnmetClausesMeanValid}
use Rattle.sv_encoding.specs.BothWays.{EncodingSaysWhatFalsifies}
use Rattle.sv_flat.specs.Sets.{least_set}
use Rattle.sv_encoding.specs.GivenMeanings.{HaveRoom, TellsWords, spelled_or_zero}
use Rattle.sv_encoding.specs.LabelMeanings.{label_point}
use Rattle.sv_encoding_laws.proofs.Chain.{s1, s2, s3, s6, s7, s10, free1, p2, base2, free3}
use Rattle.sv_encoding_laws.proofs.Chain.{p6, p7, p10, bits, InCone, in_frame, fails_test}
use Rattle.sv_encoding_laws.proofs.Chain.{Fit, Said, after_three, after_six, after_seven, all_said}
use Rattle.sv_encoding_laws.proofs.Decoding.{tells, zero_outside, agree_on_cones}
use Rattle.sv_encoding_laws.proofs.GivenWords.{word_agrees}
use Rattle.sv_encoding_laws.proofs.QueryCones.{now_seen, next_seen}
use Rattle.sv_encoding_laws.proofs.TruthWords.{AreLiterals, AreTruths}
use Rattle.sv_encoding_laws.proofs.Units.{start_met, AreInside, AreTrue, units_met}
use Rattle.sv_encoding_laws.proofs.Units.{units_say, inside_join, true_join, true_parts, meets_from}
use Rattle.sv_encoding_laws.proofs.Units.{satisfies_from}

module _ (design : FlatDesign) (checked : IsChecked design) (o : Obligation)
    (query : IsQueryOf design o) where
  -- ---- the literals of facts and conditions

  abbrev Literals : List TypedTree → ℕ → List ℤ → Type 0
  Literals = AreLiterals design (bits design checked o query) (InCone design checked o query)

  abbrev Truths : (ℕ → Bool) → Environment ℕ → List TypedTree → List ℤ → Type 0
  Truths = AreTruths design (bits design checked o query) (InCone design checked o query)

  literals_inside : (es : List TypedTree) (m n : ℕ) (ls : List ℤ) → m ≤ n → Literals es m ls →
      AreInside n ls
  literals_inside [] m n [] h is = tt
  literals_inside [] m n (l ∷ ls) h is = absurd is
  literals_inside (e ∷ es) m n [] h is = absurd is
  literals_inside (e ∷ es) m n (l ∷ ls) h is =
      (literal_more m n l h is.0, literals_inside es m n ls h is.1)

  path_inside : (steps : List StepForm) (m n : ℕ) (ls : List ℤ) → m ≤ n →
      Literals (map (λ (step : StepForm). step.condition) steps) m ls →
      AreInside n (path_units steps ls)
  path_inside [] m n [] h is = tt
  path_inside [] m n (l ∷ ls) h is = absurd is
  path_inside (step ∷ steps) m n [] h is = absurd is
  path_inside (step ∷ steps) m n (l ∷ ls) h is =
      let one = literal_more m n l h is.0 in
      (by step.truth one, path_inside steps m n ls h is.1)
    where
      by : (b : Bool) → IsLiteral n l → IsLiteral n (cond b l (neg_ℤ l))
      by true one = one
      by false one = literal_negated n l one

  facts_hold : (es : List TypedTree) (values : ℕ → Bool) (e : Environment ℕ) (ls : List ℤ) →
      Truths values e es ls → AreTrue values ls →
      All (λ fact. IsTrue (is_true_in design.signals e fact)) es
  facts_hold [] values e [] truths ones =
      All-nil (λ fact. IsTrue (is_true_in design.signals e fact))
  facts_hold [] values e (l ∷ ls) truths ones = absurd truths
  facts_hold (x ∷ es) values e [] truths ones = absurd truths
  facts_hold (x ∷ es) values e (l ∷ ls) truths ones =
      All-cons (λ fact. IsTrue (is_true_in design.signals e fact)) x es
      (sym truths.0 ∙ ones.0) (facts_hold es values e ls truths.1 ones.1)

  facts_true : (es : List TypedTree) (values : ℕ → Bool) (e : Environment ℕ) (ls : List ℤ) →
      Truths values e es ls → ((x : TypedTree) → Contains es x →
      IsTrue (is_true_in design.signals e x)) → AreTrue values ls
  facts_true [] values e [] truths all = tt
  facts_true [] values e (l ∷ ls) truths all = absurd truths
  facts_true (x ∷ es) values e [] truths all = absurd truths
  facts_true (x ∷ es) values e (l ∷ ls) truths all = (
    truths.0 ∙ all x (Contains-head x es),
    facts_true es values e ls truths.1 (λ y at. all y (Contains-later x es y at)),
  )

  path_holds : (steps : List StepForm) (values : ℕ → Bool) (e : Environment ℕ) (n : ℕ)
      (ls : List ℤ) → Literals (map (λ (step : StepForm). step.condition) steps) n ls →
      Truths values e (map (λ (step : StepForm). step.condition) steps) ls →
      AreTrue values (path_units steps ls) → Holds design.signals e steps
  path_holds [] values e n ls is truths ones =
      All-nil (λ (s : StepForm). is_true_in design.signals e s.condition ≡ s.truth)
  path_holds (step ∷ steps) values e n [] is truths ones = absurd truths
  path_holds (step ∷ steps) values e n (l ∷ ls) is truths ones =
      All-cons (λ (s : StepForm). is_true_in design.signals e s.condition ≡ s.truth) step steps
      (sym truths.0 ∙ by step.truth ones.0) (path_holds steps values e n ls is.1 truths.1 ones.1)
    where
      turned : (b : Bool) → not b ≡ true → b ≡ false
      turned true h = sym h
      turned false h = refl

      by : (b : Bool) → literal_true values (cond b l (neg_ℤ l)) ≡ true → literal_true values l ≡ b
      by true h = h
      by false h =
          turned (literal_true values l) (sym (negation_true values l is.0.0) ∙ h)

  path_true : (steps : List StepForm) (values : ℕ → Bool) (e : Environment ℕ) (n : ℕ)
      (ls : List ℤ) → Literals (map (λ (step : StepForm). step.condition) steps) n ls →
      Truths values e (map (λ (step : StepForm). step.condition) steps) ls →
      ((s : StepForm) → Contains steps s →
      is_true_in design.signals e s.condition ≡ s.truth) → AreTrue values (path_units steps ls)
  path_true [] values e n ls is truths all = tt
  path_true (step ∷ steps) values e n [] is truths all = absurd truths
  path_true (step ∷ steps) values e n (l ∷ ls) is truths all = (
    by step.truth (truths.0 ∙ all step (Contains-head step steps)),
    path_true steps values e n ls is.1 truths.1
        (λ s at. all s (Contains-later step steps s at)),
  )
    where
      by : (b : Bool) → literal_true values l ≡ b → literal_true values (cond b l (neg_ℤ l)) ≡ true
      by true h = h
      by false h = negation_true values l is.0.0 ∙ ap not h

  -- ---- all unit clauses

  abbrev pub steps_done : Formula × ℤ
  steps_done = s10 design checked o query

  abbrev pub units : List ℤ
  units =
      (s6 design checked o query).1 ++ path_units o.path (s7 design checked o query).1
      ++ (s10 design checked o query).1 ∷ []

  pub units_inside : AreInside (steps_done.0).variables units
  units_inside =
      let n = (steps_done.0).variables in
      let facts = (s6 design checked o query).1 in
      let path = path_units o.path (s7 design checked o query).1 in
      let fails = (s10 design checked o query).1 ∷ [] in
      inside_join n (facts ++ path) fails
      (inside_join n facts path
      (literals_inside o.facts ((s6 design checked o query).0).variables n facts
      (after_six design checked o query).begins.grows (p6 design checked o query).within)
      (path_inside o.path ((s7 design checked o query).0).variables n
      (s7 design checked o query).1 (after_seven design checked o query).begins.grows
      (p7 design checked o query).within))
      ((p10 design checked o query).within, tt)

  -- ---- the goal

  stays_from : (e there : Environment ℕ) (s : ℕ) →
      IsTrue (list_any (λ p. not (flow_test design.lattice p (label_point design there s)))
      (map (label_point design e) o.reads)) →
      (t : ℕ) × Contains o.reads t
      × IsFalse ((flat_system design).flows ((flat_system design).label t e)
      ((flat_system design).label s there))
  stays_from e there s h =
      let found = from_some (λ p. not (flow_test design.lattice p (label_point design there s)))
      (map (label_point design e) o.reads) h in
      let from = Contains-from_map (label_point design e) o.reads found.0 found.1 in (
        from.0,
        from.1,
        subst (λ p. IsFalse (flow_test design.lattice p (label_point design there s)))
            (sym from.2)
            (negated_true (flow_test design.lattice found.0 (label_point design there s)) found.2),
      )

  stays_to : (e there : Environment ℕ) (s t : ℕ) → Contains o.reads t →
      IsFalse ((flat_system design).flows ((flat_system design).label t e)
      ((flat_system design).label s there)) →
      IsTrue (list_any (λ p. not (flow_test design.lattice p (label_point design there s)))
      (map (label_point design e) o.reads))
  stays_to e there s t at stays =
      some_from (λ p. not (flow_test design.lattice p (label_point design there s)))
      (map (label_point design e) o.reads) (label_point design e t)
      (Contains-map (label_point design e) o.reads t at) (ap not stays)

  goal_fails : (goal : GoalForm) (e f : Environment ℕ) →
      fails_test design checked o query goal e f ≡ true →
      GoalFails design o.reads e (in_frame design checked o query (goal_frame goal) e f) goal
  goal_fails (flow s frame) e f h =
      stays_from e (in_frame design checked o query frame e f) s h
  goal_fails (must_hold x frame) e f h =
      negated_true (is_true (value design.signals (in_frame design checked o query frame e f) x)) h
  goal_fails (selector s) e f h = stays_from e e s h

  goal_tested : (goal : GoalForm) (e f : Environment ℕ) →
      GoalFails design o.reads e (in_frame design checked o query (goal_frame goal) e f) goal →
      fails_test design checked o query goal e f ≡ true
  goal_tested (flow s frame) e f fails =
      stays_to e (in_frame design checked o query frame e f) s fails.0 fails.1 fails.2
  goal_tested (must_hold x frame) e f fails = ap not fails
  goal_tested (selector s) e f fails = stays_to e e s fails.0 fails.1 fails.2

  -- ---- signals of the cones

  no_clock : (t : ℕ) → Contains (flat_system design).signals t → IsTrue (not (is_clock design t))
  no_clock t seen = those_pass (length design.signals) (λ s. not (is_clock design s)) t seen

  pub is_input : (t : ℕ) → IsTrue (is_top_input design t) → Contains (flat_system design).signals t →
      IsTrue ((flat_system design).is_input t)
  is_input t top seen =
      and_true (is_top_input design t) (not (is_clock design t)) top (no_clock t seen)

  pub seen_now : (t : ℕ) → IsTrue (holds (now_cone design o) t) → Contains (flat_system design).signals t
  seen_now t held = now_seen design checked.is_sound checked.admitted o query t held

  pub seen_next : (t : ℕ) → IsTrue (holds (next_cone design o) t) →
      Contains (flat_system design).signals t
  seen_next t held = next_seen design checked.is_sound checked.admitted o query t held

  pub from_filter : (test : ℕ → Bool) (set : List ℕ) (t : ℕ) →
      IsTrue (holds (filter test set) t) → IsTrue (test t) × IsTrue (holds set t)
  from_filter test set t held =
      let both = Contains-from_filter test set t (Contains-from_holds (filter test set) t held) in
      (both.0, holds-from_Contains set t both.1)

  pub to_filter : (test : ℕ → Bool) (set : List ℕ) (t : ℕ) → IsTrue (test t) → IsTrue (holds set t) →
      IsTrue (holds (filter test set) t)
  to_filter test set t passes held =
      holds-from_Contains (filter test set) t
      (Contains-filter test set t (Contains-from_holds set t held) passes)

  -- a signal of a cone is a register or an input of the system
  given_kind : (t : ℕ) → IsTrue (holds (given_in design (now_cone design o)) t) →
      IsTrue (is_register design t)
      ⊎ (IsTrue ((flat_system design).is_input t) × IsTrue (is_top_input design t))
  given_kind t held =
      let both = from_filter (λ s. is_top_input design s || is_register design s)
      (now_cone design o) t held in
      ⊎_elim
      (λ top. inr (is_input t top (seen_now t both.1), top))
      (λ register. inl register)
      (or_cases (is_top_input design t) (is_register design t) both.0)

  in_now : (t : ℕ) → IsTrue (holds (given_in design (now_cone design o)) t) →
      IsTrue (holds (now_cone design o) t)
  in_now t held =
      (from_filter (λ s. is_top_input design s || is_register design s) (now_cone design o) t held).1

  -- ---- values that meet the clauses

  module _ (values : ℕ → Bool) (met : meets values (encoding design o).clauses ≡ true) where
    abbrev v : Valuation
    v = decoded_of design o values

    all_units : (meets values (steps_done.0).clauses ≡ true) × AreTrue values units
    all_units = units_say units steps_done.0 values units_inside met

    told : TellsWords design (now_cone design o) (next_cone design o)
        (s1 design checked o query).1 (s3 design checked o query).1 values v
    told = tells design o values (base2 design checked o query)

    low : (list : List ℕ) (words : Words) (s : ℕ) → (IsTrue (holds list s) →
        length (words s) ≡ signal_width design.signals s) →
        spelled_or_zero values list words s < 2 ^ signal_width design.signals s
    low list words s width = by (holds list s) refl
      where
        by : (c : Bool) → holds list s ≡ c →
            cond c (word_value values (words s)) 0 < 2 ^ signal_width design.signals s
        by true is =
            subst (λ k. word_value values (words s) < 2 ^ k) (width is) (word_low values (words s))
        by false is = pow_pos (signal_width design.signals s)

    given_width : (test : ℕ → Bool) → ((s : ℕ) → IsTrue (test s) →
        IsTrue (is_top_input design s || is_register design s)) → (s : ℕ) →
        IsTrue (holds (filter test (now_cone design o)) s) →
        length ((s1 design checked o query).1 s) ≡ signal_width design.signals s
    given_width test from s held =
        let both = from_filter test (now_cone design o) s held in
        ((free1 design checked o query).words s
        (to_filter (λ s. is_top_input design s || is_register design s) (now_cone design o) s
        (from s both.0) both.1)).inside.1

    kind_fits : (test : ℕ → Bool) (from : ℕ → ℕ) (list : List ℕ) (words : Words) →
        ((s : ℕ) → from s ≡ spelled_or_zero values list words s) →
        ((s : ℕ) → IsTrue (holds list s) → length (words s) ≡ signal_width design.signals s) →
        KindFits test (flat_system design) from
    kind_fits test from list words are width =
        contained_all (λ s. IsTrue (test s) → from s < 2 ^ signal_width design.signals s)
        (flat_system design).signals
        (λ s seen kind. subst (λ k. k < 2 ^ signal_width design.signals s) (sym (are s))
        (low list words s (width s)))

    registers_fit : KindFits (is_register design) (flat_system design) v.registers
    registers_fit =
        kind_fits (is_register design) v.registers (registers_in design (now_cone design o))
        (s1 design checked o query).1 told.registers (given_width (is_register design)
        (λ t is. or_right (is_top_input design t) (is_register design t) is))

    inputs_fit : KindFits (flat_system design).is_input (flat_system design) v.inputs
    inputs_fit =
        kind_fits (flat_system design).is_input v.inputs (inputs_in design (now_cone design o))
        (s1 design checked o query).1 told.inputs (given_width (is_top_input design)
        (λ t is. or_left (is_top_input design t) (is_register design t) is))

    next_inputs_fit : KindFits (flat_system design).is_input (flat_system design) v.next_inputs
    next_inputs_fit =
        kind_fits (flat_system design).is_input v.next_inputs
        (inputs_in design (next_cone design o)) (s3 design checked o query).1 told.next_inputs
        (λ s held. ((free3 design checked o query).words s held).inside.1)

    abbrev ordered : Ordered (flat_system design)
    ordered = design_ordered design checked.is_sound checked.admitted

    e : Environment ℕ
    e = settle (flat_system design) ordered v.registers v.inputs

    settled_e : Settled (flat_system design) v.registers v.inputs e
    unfolding e
    settled_e =
        settle_settles (flat_system design) ordered v.registers v.inputs registers_fit inputs_fit

    f : Environment ℕ
    f = settle (flat_system design) ordered ((flat_system design).next e) v.next_inputs

    settled_f : Settled (flat_system design) ((flat_system design).next e) v.next_inputs f
    unfolding f
    settled_f =
        settle_settles (flat_system design) ordered ((flat_system design).next e) v.next_inputs
        (ordered.next_fits e settled_e.fits) next_inputs_fit

    spelled_there : (list : List ℕ) (words : Words) (s : ℕ) → IsTrue (holds list s) →
        spelled_or_zero values list words s ≡ word_value values (words s)
    spelled_there list words s held =
        ap (λ c. cond c (word_value values (words s)) 0) held

    fit : Fit design checked o query values e f
    fit = record {
      e_fits = settled_e.fits;
      e_still = settled_e.still;
      f_fits = settled_f.fits;
      f_still = settled_f.still;
      given = λ t held. ⊎_elim
          (λ register.
          sym (settled_e.registers t register ∙ told.registers t
          ∙ spelled_there (registers_in design (now_cone design o)) (s1 design checked o query).1 t
          (to_filter (is_register design) (now_cone design o) t register (in_now t held))))
          (λ input.
          sym (settled_e.inputs_are t input.0 ∙ told.inputs t
          ∙ spelled_there (inputs_in design (now_cone design o)) (s1 design checked o query).1 t
          (to_filter (is_top_input design) (now_cone design o) t input.1 (in_now t held))))
          (given_kind t held);
      inputs = λ t held.
          let both = from_filter (is_top_input design) (next_cone design o) t held in
          sym (settled_f.inputs_are t (is_input t both.0 (seen_next t both.1)) ∙ told.next_inputs t
          ∙ spelled_there (inputs_in design (next_cone design o)) (s3 design checked o query).1 t
          held);
      next = λ t held.
          settled_f.registers t (from_filter (is_register design) (next_cone design o) t held).0;
    }

    said : Said design checked o query values e f
    said = all_said design checked o query values all_units.0 e f fit

    framed : (frame : Frame) → IsInFrame design v e frame (in_frame design checked o query frame e f)
    framed Now = refl
    framed Next = settled_f

    falsifies : Falsifies design v o
    falsifies =
        let facts = (s6 design checked o query).1 in
        let path = path_units o.path (s7 design checked o query).1 in
        let last = true_parts values (facts ++ path) ((s10 design checked o query).1 ∷ [])
        all_units.1 in
        let first = true_parts values facts path last.0 in
        record {
          now = e;
          there = in_frame design checked o query (goal_frame o.goal) e f;
          settled = settled_e;
          in_frame = framed (goal_frame o.goal);
          facts = facts_hold o.facts values e facts said.facts first.0;
          path = path_holds o.path values e ((s7 design checked o query).0).variables
              (s7 design checked o query).1 (p7 design checked o query).within said.path first.1;
          fails = goal_fails o.goal e f (sym said.fails ∙ last.1.0);
        }

    zero : IsZeroOutside design o v
    zero =
        zero_outside design o (s1 design checked o query).1 (s3 design checked o query).1 values v
        told

  pub met_is_falsified : MetIsFalsified design o
  met_is_falsified values all =
      let met = meets_from values (encoding design o).clauses all in
      (falsifies values met, zero values met)

  -- ---- valuations that falsify

  abbrev is_now : Frame → Bool
  is_now Now = true
  is_now Next = false

  asks_nothing : (goal : GoalForm) → IsTrue (is_now (goal_frame goal)) →
      asked_next design goal ≡ []
  asks_nothing (flow s Now) h = refl
  asks_nothing (flow s Next) h = absurd (false≢true h)
  asks_nothing (must_hold x Now) h = refl
  asks_nothing (must_hold x Next) h = absurd (false≢true h)
  asks_nothing (selector s) h = refl

  none_from : (starts : List ℕ) → starts ≡ [] → (t : ℕ) →
      Contains (least_set (length design.signals) (brings_reads design) starts) t → ⊥
  none_from starts is t at =
      let none : (k : ℕ) → Contains starts k → ⊥ =
      (λ k k_at. Contains-nil k (subst (λ xs. Contains xs k) is k_at)) in
      least_set_least (length design.signals) (brings_reads design) starts
      (λ k k_at. absurd (none k k_at)) (λ k. ⊥) none (λ m k bottom brings below. bottom) t at

  none_later : IsTrue (is_now (goal_frame o.goal)) → (t : ℕ) →
      IsTrue (holds (next_cone design o) t) → ⊥
  none_later is t held =
      none_from (asked_next design o.goal) (asks_nothing o.goal is) t
      (Contains-from_holds (next_cone design o) t held)

  module _ (v : Valuation) (falsified : Falsifies design v o) where
    abbrev now : Environment ℕ
    now = falsified.now

    abbrev there : Environment ℕ
    there = falsified.there

    -- in the frame of the goal
    record InFrame (frame : Frame) : Type 0 where
      pub fits : Fits (flat_system design) there
      pub still : IsStill (flat_system design) there
      pub same : in_frame design checked o query frame now there ≡ there
      pub registers : (t : ℕ) → IsTrue (holds (registers_in design (next_cone design o)) t) →
          there t ≡ (flat_system design).next now t
      pub inputs : (t : ℕ) → IsTrue (holds (inputs_in design (next_cone design o)) t) →
          there t ≡ v.next_inputs t

    framed_there : (frame : Frame) → goal_frame o.goal ≡ frame → IsInFrame design v now frame there →
        InFrame frame
    framed_there Now is same = record {
      fits = subst (Fits (flat_system design)) (sym same) falsified.settled.fits;
      still = subst (IsStill (flat_system design)) (sym same) falsified.settled.still;
      same = sym same;
      registers = λ t held. absurd (none_later (ap is_now is) t
          (from_filter (is_register design) (next_cone design o) t held).1);
      inputs = λ t held. absurd (none_later (ap is_now is) t
          (from_filter (is_top_input design) (next_cone design o) t held).1);
    }
    framed_there Next is settled = record {
      fits = settled.fits;
      still = settled.still;
      same = refl;
      registers = λ t held.
          settled.registers t (from_filter (is_register design) (next_cone design o) t held).0;
      inputs = λ t held.
          let both = from_filter (is_top_input design) (next_cone design o) t held in
          settled.inputs_are t (is_input t both.0 (seen_next t both.1));
    }

    frame_is : InFrame (goal_frame o.goal)
    frame_is = framed_there (goal_frame o.goal) refl falsified.in_frame

    room_now : HaveRoom design (given_in design (now_cone design o)) now
    room_now t held =
        all_contained (λ s. now s < 2 ^ signal_width design.signals s)
        (flat_system design).signals falsified.settled.fits t (seen_now t (in_now t held))

    room_next : HaveRoom design (inputs_in design (next_cone design o)) there
    room_next t held =
        all_contained (λ s. there s < 2 ^ signal_width design.signals s)
        (flat_system design).signals frame_is.fits t
        (seen_next t (from_filter (is_top_input design) (next_cone design o) t held).1)

    -- values of all gates
    record Values : Type 0 where
      pub values : ℕ → Bool
      pub met : meets values (steps_done.0).clauses ≡ true
      pub given : SpellThere (given_in design (now_cone design o)) values
          (s1 design checked o query).1 now
      pub inputs : SpellThere (inputs_in design (next_cone design o)) values
          (s3 design checked o query).1 there

    carried : Values
    carried =
        let free_now = free1 design checked o query in
        let free_next = free3 design checked o query in
        let settled = p2 design checked o query in
        let gates = after_three design checked o query in
        let n1 = ((s1 design checked o query).0).variables in
        let n2 = ((s2 design checked o query).0).variables in
        let n3 = ((s3 design checked o query).0).variables in
        let one = free_now.onward (λ n. true) now start_met room_now in
        let two = settled.extends.onward one.0 one.2 in
        let three = free_next.onward two.0 there two.2 room_next in
        let four = gates.onward three.0 three.2 in
        record {
          values = four.0;
          met = four.2;
          given = λ t held.
              let inside = (free_now.words t held).inside in
              let word = (s1 design checked o query).1 t in
              sym (word_agrees n1 one.0 four.0 word
              (λ k small. two.1 k small
              ∙ three.1 k (omega (arith, small, settled.extends.begins.grows))
              ∙ four.1 k (omega (
                arith,
                small,
                settled.extends.begins.grows,
                free_next.begins.grows,
              ))) inside.0)
              ∙ one.3 t held;
          inputs = λ t held.
              let inside = (free_next.words t held).inside in
              let word = (s3 design checked o query).1 t in
              sym (word_agrees n3 three.0 four.0 word (λ k small. four.1 k small) inside.0)
              ∙ three.3 t held;
        }

    fits_there : Fit design checked o query carried.values now there
    fits_there = record {
      e_fits = falsified.settled.fits;
      e_still = falsified.settled.still;
      f_fits = frame_is.fits;
      f_still = frame_is.still;
      given = carried.given;
      inputs = carried.inputs;
      next = frame_is.registers;
    }

    said_there : Said design checked o query carried.values now there
    said_there =
        all_said design checked o query carried.values carried.met now there fits_there

    tested : fails_test design checked o query o.goal now there ≡ true
    tested =
        goal_tested o.goal now there
        (subst (λ w. GoalFails design o.reads now w o.goal) (sym frame_is.same) falsified.fails)

    all_true : AreTrue carried.values units
    all_true =
        let facts = (s6 design checked o query).1 in
        let path = path_units o.path (s7 design checked o query).1 in
        true_join carried.values (facts ++ path) ((s10 design checked o query).1 ∷ [])
        (true_join carried.values facts path
        (facts_true o.facts carried.values now facts said_there.facts
        (λ x at. all_contained (λ fact. IsTrue (is_true_in design.signals now fact)) o.facts
        falsified.facts x at))
        (path_true o.path carried.values now ((s7 design checked o query).0).variables
        (s7 design checked o query).1 (p7 design checked o query).within said_there.path
        (λ s at. all_contained (λ (step : StepForm).
        is_true_in design.signals now step.condition ≡ step.truth) o.path falsified.path s at)))
        (said_there.fails ∙ tested, tt)

    all_met : meets carried.values (encoding design o).clauses ≡ true
    all_met = units_met units steps_done.0 carried.values units_inside carried.met all_true

    agreed : AgreeOnCones design o (decoded_of design o carried.values) v
    agreed =
        agree_on_cones design o (s1 design checked o query).1 (s3 design checked o query).1
        carried.values (decoded_of design o carried.values)
        (tells design o carried.values (base2 design checked o query)) v
        (λ t held.
        let both = from_filter (is_register design) (now_cone design o) t held in
        carried.given t (to_filter (λ s. is_top_input design s || is_register design s)
        (now_cone design o) t (or_right (is_top_input design t) (is_register design t) both.0) both.1)
        ∙ falsified.settled.registers t both.0)
        (λ t held.
        let both = from_filter (is_top_input design) (now_cone design o) t held in
        carried.given t (to_filter (λ s. is_top_input design s || is_register design s)
        (now_cone design o) t (or_left (is_top_input design t) (is_register design t) both.0) both.1)
        ∙ falsified.settled.inputs_are t (is_input t both.0 (seen_now t both.1)))
        (λ t held. carried.inputs t held ∙ frame_is.inputs t held)

  pub falsified_is_met : FalsifiedIsMet design o
  falsified_is_met v falsified = (
    (carried v falsified).values,
    record {
      meets = satisfies_from (carried v falsified).values (encoding design o).clauses
          (all_met v falsified);
      agrees = agreed v falsified;
    },
  )

-- ---- of every query

pub both_ways : EncodingSaysWhatFalsifies
both_ways = (
  λ design o checked query. met_is_falsified design checked o query,
  λ design o checked query. falsified_is_met design checked o query,
)

pub unmet_is_valid : UnmetClausesMeanValid
unmet_is_valid design o checked query unmet v falsified =
    let carried = falsified_is_met design checked o query v falsified in
    unmet carried.0 carried.1.meets
