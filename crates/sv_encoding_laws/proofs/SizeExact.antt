-- The size of an encoding that is told is the number of its variables.
use Rattle.std.proofs.Common.{◌≡◌, ℕ, ◌+◌, List, [], ◌∷◌, ◌++◌, map, length, fold, refl}
use Rattle.std.proofs.Common.{◌∙◌, arith, ℤ}
use Rattle.std.specs.Prelude.{Contains, sum}
use Rattle.sv_system.proofs.Lists.{Contains-head}
use Rattle.sv_flat.specs.Design.{TypedTree, FlatDesign}
use Rattle.sv_flat.specs.Values.{signal_width}
use Rattle.sv_obl.specs.declared.frames.Frame.TheVariants.{Now, Next}
use Rattle.sv_obl.specs.Obligations.{GoalForm, flow, holds as must_hold, selector, Obligation}
use Rattle.sv_obl.specs.DesignQueries.{IsGoalOf, IsQueryOf}
use Rattle.sv_obl.specs.Noninterference.{IsChecked}
use Rattle.sv_gates.specs.Formulas.{Formula}
use Rattle.sv_gates.specs.Gates.{start, with_unit}
use Rattle.sv_circuits.specs.Words.{fresh_word}
use Rattle.sv_encoding.specs.Expressions.{Words, is_true_bit}
use Rattle.sv_encoding.specs.Bodies.{with_word}
use Rattle.sv_encoding.specs.Cones.{asked_next, asked_now, registers_in}
use Rattle.sv_encoding.specs.Encoding.{fresh_words, given_in, inputs_in, settled_in, words_in}
use Rattle.sv_encoding.specs.Encoding.{truth_literals, target_label, violation, encoding, path_units}
use Rattle.sv_encoding.specs.BothWays.{HaveBits, SizeIsExact}
use Rattle.sv_encoding.specs.Sizes.{widths_of, signals_size, truth_size, target_size}
use Rattle.sv_encoding.specs.Sizes.{violation_size, label_size, label_of_signal, encoding_size}
use Rattle.sv_encoding_laws.proofs.Chain.{cone, later, s1, s2, s3, s4, s5, s6, s7, s8, s9, s10}
use Rattle.sv_encoding_laws.proofs.Chain.{free1, free3, base4, read_word, later_word}
use Rattle.sv_encoding_laws.proofs.Chain.{bits, InCone, InLater, counts, facts_count}
use Rattle.sv_encoding_laws.proofs.Chain.{conditions_count, conditions, wide_now, wide_next}
use Rattle.sv_encoding_laws.proofs.Chain.{asked_inside, labels_inside}
use Rattle.sv_encoding_laws.proofs.GateCounts.{mapped_more, mapped_join, fresh_word_count}
use Rattle.sv_encoding_laws.proofs.OperatorCounts.{IsLong, truth_count}
use Rattle.sv_encoding_laws.proofs.LabelCounts.{signal_label_count, signal_label_points, labels_count}
use Rattle.sv_encoding_laws.proofs.LabelCounts.{labels_points, some_stays_count}
use Rattle.sv_encoding_laws.proofs.NamedValues.{named_as}
use Rattle.sv_encoding_laws.proofs.QueryCones.{now_is_cone, next_is_cone, next_starts}
use Rattle.sv_encoding_laws.proofs.Settling.{settled_words_count, next_words_count}
use Rattle.sv_encoding_laws.proofs.TruthWords.{Counts, AllCount}

-- a variable for each bit
fresh_words_count : (design : FlatDesign) (ss : List ℕ) (words : Words) (old : Formula) →
    (fresh_words design ss words old).0.variables ≡ old.variables + widths_of design.signals ss
fresh_words_count design [] words old = omega arith
fresh_words_count design (s ∷ ss) words old =
    let made = fresh_word (signal_width design.signals s) old in
    fresh_words_count design ss (with_word s made.1 words) made.0
    ∙ omega (
      arith,
      fresh_word_count (signal_width design.signals s) old,
      mapped_more (signal_width design.signals) s ss,
    )

-- a unit clause takes none
units_count : (literals : List ℤ) (old : Formula) →
    (fold (λ (formula : Formula) literal. with_unit literal formula) old literals).variables
    ≡ old.variables
units_count [] old = refl
units_count (l ∷ literals) old = units_count literals (with_unit l old)

module _ (design : FlatDesign) (bits_there : HaveBits design.signals) (G : ℕ → Type 0)
    (words : Words) (long : (t : ℕ) → G t → length (words t) ≡ signal_width design.signals t) where
  one_truth : (e : TypedTree) → Counts design bits_there G e → (old : Formula) →
      (is_true_bit design.signals words e old).0.variables
      ≡ old.variables + truth_size design.signals e
  one_truth e count old =
      truth_count design.signals words e count.formed
      (named_as G (IsLong design.signals words) long e count.named) old

  truths_count : (es : List TypedTree) → AllCount design bits_there G es → (old : Formula) →
      (truth_literals design words es old).0.variables
      ≡ old.variables + sum (map (truth_size design.signals) es)
  truths_count [] count old = omega arith
  truths_count (e ∷ es) count old =
      truths_count es count.1 (is_true_bit design.signals words e old).0
      ∙ omega (arith, one_truth e count.0 old, mapped_more (truth_size design.signals) e es)

module _ (design : FlatDesign) (checked : IsChecked design) (o : Obligation)
    (query : IsQueryOf design o) where
  abbrev now_words : Words
  now_words = (s2 design checked o query).1

  abbrev next_words : Words
  next_words = (s5 design checked o query).1

  now_long : (t : ℕ) → InCone design checked o query t →
      length (now_words t) ≡ signal_width design.signals t
  now_long t held =
      let has = wide_now design checked o query (s2 design checked o query).0.variables (omega arith)
      t held in
      has.width

  next_long : (t : ℕ) → InLater design checked o query t →
      length (next_words t) ≡ signal_width design.signals t
  next_long t held =
      let has = wide_next design checked o query (s5 design checked o query).0.variables
      (omega arith) t held in
      has.width

  abbrev NowAsked : GoalForm → Type 0
  NowAsked goal = (t : ℕ) → Contains (asked_now design goal) t → InCone design checked o query t

  abbrev NextAsked : GoalForm → Type 0
  NextAsked goal = (t : ℕ) → Contains (asked_next design goal) t → InLater design checked o query t

  target_count : (goal : GoalForm) → NowAsked goal → NextAsked goal → (old : Formula) →
      (target_label design now_words next_words goal old).0.variables
      ≡ old.variables + target_size design goal
  target_count (flow s Now) now next old =
      signal_label_count design now_words s (λ t at. now_long t (now t at)) old
  target_count (flow s Next) now next old =
      signal_label_count design next_words s (λ t at. next_long t (next t at)) old
  target_count (must_hold x frame) now next old = omega arith
  target_count (selector s) now next old =
      signal_label_count design now_words s (λ t at. now_long t (now t at)) old

  violation_count : (goal : GoalForm) → IsGoalOf design o goal → NowAsked goal → NextAsked goal →
      (before old : Formula) →
      (violation design now_words next_words
      (target_label design now_words next_words goal before).1
      (s9 design checked o query).1 goal old).0.variables
      ≡ old.variables + violation_size design o.reads goal
  violation_count (flow s frame) is now next before old =
      some_stays_count design (s9 design checked o query).1 o.reads
      (target_label design now_words next_words (flow s frame) before).1 s old
      (labels_points design now_words o.reads (s8 design checked o query).0)
      (signal_label_points design (words_in frame now_words next_words) s before)
  violation_count (must_hold x Now) is now next before old =
      one_truth design (bits design checked o query) (InCone design checked o query) now_words
      now_long x
      (counts design checked o query (InCone design checked o query) (x ∷ []) x (Contains-head x [])
      is now) old
  violation_count (must_hold x Next) is now next before old =
      one_truth design (bits design checked o query) (InLater design checked o query) next_words
      next_long x
      (counts design checked o query (InLater design checked o query) (x ∷ []) x
      (Contains-head x []) is next) old
  violation_count (selector s) is now next before old =
      some_stays_count design (s9 design checked o query).1 o.reads
      (target_label design now_words next_words (selector s) before).1 s old
      (labels_points design now_words o.reads (s8 design checked o query).0)
      (signal_label_points design now_words s before)

  abbrev vars : Formula → ℕ
  vars formula = formula.variables

  now_asked : NowAsked o.goal
  now_asked t at = asked_inside design checked o query t at

  next_asked : NextAsked o.goal
  next_asked t at = next_starts design checked.is_sound checked.admitted o query t at

  c1 : vars (s1 design checked o query).0
      ≡ 1 + widths_of design.signals (given_in design (cone design checked o query))
  c1 = fresh_words_count design (given_in design (cone design checked o query)) _ start

  c2 : vars (s2 design checked o query).0
      ≡ vars (s1 design checked o query).0
      + signals_size design (settled_in design (cone design checked o query))
  c2 =
      let free = free1 design checked o query in
      settled_words_count design (cone design checked o query) (s1 design checked o query).1
      (s1 design checked o query).0 checked.is_sound checked.admitted
      (now_is_cone design checked.is_sound checked.admitted o query) free.base
      (λ t held. (free.words t held).inside)

  c3 : vars (s3 design checked o query).0
      ≡ vars (s2 design checked o query).0
      + widths_of design.signals (inputs_in design (later design checked o query))
  c3 =
      fresh_words_count design (inputs_in design (later design checked o query)) _
      (s2 design checked o query).0

  c4 : vars (s4 design checked o query).0
      ≡ vars (s3 design checked o query).0
      + signals_size design (registers_in design (later design checked o query))
  c4 =
      next_words_count design (later design checked o query) (s2 design checked o query).1
      (s3 design checked o query).1 (s3 design checked o query).0 checked.is_sound checked.admitted
      (free3 design checked o query).base (read_word design checked o query)

  c5 : vars (s5 design checked o query).0
      ≡ vars (s4 design checked o query).0
      + signals_size design (settled_in design (later design checked o query))
  c5 =
      settled_words_count design (later design checked o query) (s4 design checked o query).1
      (s4 design checked o query).0 checked.is_sound checked.admitted
      (next_is_cone design checked.is_sound checked.admitted o query)
      (base4 design checked o query) (later_word design checked o query)

  c6 : vars (s6 design checked o query).0
      ≡ vars (s5 design checked o query).0 + sum (map (truth_size design.signals) o.facts)
  c6 =
      truths_count design (bits design checked o query) (InCone design checked o query) now_words
      now_long o.facts (facts_count design checked o query) (s5 design checked o query).0

  c7 : vars (s7 design checked o query).0
      ≡ vars (s6 design checked o query).0
      + sum (map (truth_size design.signals) (conditions design checked o query))
  c7 =
      truths_count design (bits design checked o query) (InCone design checked o query) now_words
      now_long (conditions design checked o query) (conditions_count design checked o query)
      (s6 design checked o query).0

  c8 : vars (s8 design checked o query).0
      ≡ vars (s7 design checked o query).0 + target_size design o.goal
  c8 = target_count o.goal now_asked next_asked (s7 design checked o query).0

  c9 : vars (s9 design checked o query).0
      ≡ vars (s8 design checked o query).0
      + sum (map (λ t. label_size design (label_of_signal design t)) o.reads)
  c9 =
      labels_count design now_words o.reads
      (λ t at. now_long t (labels_inside design checked o query t at)) (s8 design checked o query).0

  c10 : vars (s10 design checked o query).0
      ≡ vars (s9 design checked o query).0 + violation_size design o.reads o.goal
  c10 =
      violation_count o.goal query.goal now_asked next_asked (s7 design checked o query).0
      (s9 design checked o query).0

  exact : (encoding design o).variables ≡ encoding_size design o
  exact =
      units_count
      ((s6 design checked o query).1
      ++ path_units o.path (s7 design checked o query).1
      ++ (s10 design checked o query).1 ∷ []) (s10 design checked o query).0
      ∙ omega (
        arith,
        c1,
        c2,
        c3,
        c4,
        c5,
        c6,
        c7,
        c8,
        c9,
        c10,
        mapped_join (truth_size design.signals) o.facts (conditions design checked o query),
      )

pub size_is_exact : SizeIsExact
size_is_exact design o checked query = exact design checked o query
