-- The encoding of an obligation: the clauses that stand for it, which can be met exactly where it
-- can be falsified (gates by Tseitin's clauses; this project's profile). It is made in eleven
-- steps, each a definition: the inputs and registers of this cycle's cone; its combinational
-- signals; the inputs, the registers and the combinational signals of the next cycle's cone; the
-- facts; the conditions; the target's label; the reads' labels; the violation; and the unit
-- clauses.
use Rattle.std.specs.Prelude.{ℕ, Bool, true, false, ◌||◌, if◌then◌else◌, ℤ, neg_ℤ, unsigned_abs}
use Rattle.std.specs.Prelude.{List, [], ◌∷◌, ◌++◌, map, filter, flat_map, fold}
use Rattle.std.specs.List.{enumerate_from}
use Rattle.sv_flat.specs.Design.{TypedTree, FlatDesign}
use Rattle.sv_flat.specs.Values.{signal_width}
use Rattle.sv_flat.specs.Processes.{is_top_input, is_register}
use Rattle.sv_flat.specs.Reads.{order}
use Rattle.sv_flat.specs.Sets.{holds}
use Rattle.sv_obl.specs.declared.frames.Frame.{Frame}
use Rattle.sv_obl.specs.declared.frames.Frame.TheVariants.{Now, Next}
use Rattle.sv_obl.specs.Paths.{StepForm}
use Rattle.sv_obl.specs.Obligations.{GoalForm, flow, holds as must_hold, selector, Obligation}
use Rattle.sv_gates.specs.Formulas.{Formula}
use Rattle.sv_gates.specs.Gates.{start, with_unit}
use Rattle.sv_circuits.specs.Words.{Word, BitMaker, WordMaker, negation, made_in_turn, fresh_word}
use Rattle.sv_encoding.specs.Expressions.{Words, is_true_bit}
use Rattle.sv_encoding.specs.Bodies.{with_word, settled_word}
use Rattle.sv_encoding.specs.Cones.{registers_in, now_cone, next_cone}
use Rattle.sv_encoding.specs.Labels.{LabelForm, signal_label, signal_labels, some_stays_bit}

-- where a bit of an input or register stands: in this cycle or in the next one, at this variable
pub record BitPlace : Type 0 where
  pub signal : ℕ
  pub next : Bool
  pub bit : ℕ
  pub variable : ℕ

-- how many variables there are, where the bits of registers and inputs stand among them, and the
-- clauses in the order in which they are made
pub record Encoding : Type 0 where
  pub variables : ℕ
  pub bits : List BitPlace
  pub clauses : List (List ℤ)

-- ---- frames

-- no signal has a word yet
abbrev pub no_words : Words
no_words s = []

-- for each of these signals in turn its word is made, from the words before
abbrev pub words_made : (make : ℕ → Words → WordMaker) → List ℕ → Words → Formula → Formula × Words
words_made make [] words formula = (formula, words)
words_made make (s ∷ ss) words formula =
    let (formula, word) = make s words formula in
    words_made make ss (with_word s word words) formula

-- one new variable for each bit
abbrev pub fresh_words : FlatDesign → List ℕ → Words → Formula → Formula × Words
fresh_words design signals words formula =
    words_made (λ s words. fresh_word (signal_width design.signals s)) signals words formula

-- the inputs, and the inputs and registers, of a cone, in signal order
abbrev pub inputs_in : FlatDesign → (cone : List ℕ) → List ℕ
inputs_in design cone = filter (is_top_input design) cone

abbrev pub given_in : FlatDesign → (cone : List ℕ) → List ℕ
given_in design cone = filter (λ s. is_top_input design s || is_register design s) cone

-- the combinational signals of a cone, by depth and then by number
abbrev pub settled_in : FlatDesign → (cone : List ℕ) → List ℕ
settled_in design cone = filter (holds cone) (order design)

-- step 1: the inputs and registers of this cycle's cone
abbrev pub given_now : FlatDesign → (cone : List ℕ) → Formula → Formula × Words
given_now design cone formula = fresh_words design (given_in design cone) no_words formula

-- steps 2 and 5: the combinational signals of a cone, from the words of their own cycle
abbrev pub settled_words : FlatDesign → (cone : List ℕ) → Words → Formula → Formula × Words
settled_words design cone words formula =
    words_made (λ s words. settled_word design words s) (settled_in design cone) words formula

-- step 3: the inputs of the next cycle's cone
abbrev pub inputs_next : FlatDesign → (cone : List ℕ) → Formula → Formula × Words
inputs_next design cone formula = fresh_words design (inputs_in design cone) no_words formula

-- step 4: the registers of the next cycle's cone, from this cycle's words
abbrev pub registers_next : FlatDesign → (cone : List ℕ) → (now next : Words) → Formula →
    Formula × Words
registers_next design cone now next formula =
    words_made (λ s words. settled_word design now s) (registers_in design cone) next formula

-- ---- facts, conditions and the goal

-- of each expression in turn, whether it is not 0 in this cycle
abbrev pub truth_literals : FlatDesign → (now : Words) → List TypedTree → Formula →
    Formula × List ℤ
truth_literals design now es formula =
    made_in_turn (map (is_true_bit design.signals now) es) formula

-- step 6: the facts
abbrev pub fact_literals : FlatDesign → (now : Words) → (facts : List TypedTree) → Formula →
    Formula × List ℤ
fact_literals design now facts formula = truth_literals design now facts formula

-- step 7: the conditions, in path order
abbrev pub condition_literals : FlatDesign → (now : Words) → (path : List StepForm) → Formula →
    Formula × List ℤ
condition_literals design now path formula =
    truth_literals design now (map (λ (step : StepForm). step.condition) path) formula

-- the words of a frame
abbrev pub words_in : Frame → (now next : Words) → Words
words_in Now now next = now
words_in Next now next = next

-- step 8: the target's label in its frame; in its place the label that a selector selects
abbrev pub target_label : FlatDesign → (now next : Words) → GoalForm → Formula → Formula × LabelForm
target_label design now next (flow target frame) formula =
    signal_label design (words_in frame now next) target formula
target_label design now next (must_hold e frame) formula = (formula, [])
target_label design now next (selector s) formula = signal_label design now s formula

-- step 9: the reads' labels in this cycle
abbrev pub read_labels : FlatDesign → (now : Words) → (reads : List ℕ) → Formula →
    Formula × List LabelForm
read_labels design now reads formula = signal_labels design now reads formula

-- step 10: the goal fails: some read's label does not flow to the target's, or the expression that
-- has to hold is 0
abbrev pub violation : FlatDesign → (now next : Words) → (target : LabelForm) →
    (reads : List LabelForm) → GoalForm → BitMaker
violation design now next target reads (flow s frame) formula =
    some_stays_bit design reads target formula
violation design now next target reads (must_hold e frame) formula =
    negation (is_true_bit design.signals (words_in frame now next) e) formula
violation design now next target reads (selector s) formula =
    some_stays_bit design reads target formula

-- ---- all steps

-- a literal of each condition, negated where the path has the condition as false
abbrev pub path_units : List StepForm → List ℤ → List ℤ
path_units [] literals = []
path_units (step ∷ steps) [] = []
path_units (step ∷ steps) (literal ∷ literals) =
    (if step.truth then literal else neg_ℤ literal) ∷ path_units steps literals

-- step 11: a unit clause for each fact, for each condition, and for the violation
abbrev pub with_units : (facts : List ℤ) → List StepForm → (conditions : List ℤ) →
    (fails : ℤ) → Formula → Formula
with_units facts path conditions fails formula =
    fold (λ formula literal. with_unit literal formula) formula
    (facts ++ path_units path conditions ++ fails ∷ [])

-- the places of a word's bits, each of which is a variable
abbrev pub word_places : (next : Bool) → (signal : ℕ) → Word → List BitPlace
word_places next s word =
    map (λ bit. record {
      signal = s;
      next = next;
      bit = bit.0;
      variable = unsigned_abs bit.1;
    }) (enumerate_from 0 word)

abbrev pub bit_places : (next : Bool) → Words → List ℕ → List BitPlace
bit_places next words signals = flat_map (λ s. word_places next s (words s)) signals

abbrev pub encoding : FlatDesign → Obligation → Encoding
encoding design o =
    let cone = now_cone design o in
    let later_cone = next_cone design o in
    let (formula, given) = given_now design cone start in
    let (formula, now) = settled_words design cone given formula in
    let (formula, inputs) = inputs_next design later_cone formula in
    let (formula, started) = registers_next design later_cone now inputs formula in
    let (formula, next) = settled_words design later_cone started formula in
    let (formula, facts) = fact_literals design now o.facts formula in
    let (formula, conditions) = condition_literals design now o.path formula in
    let (formula, target) = target_label design now next o.goal formula in
    let (formula, reads) = read_labels design now o.reads formula in
    let (formula, fails) = violation design now next target reads o.goal formula in
    let formula = with_units facts o.path conditions fails formula in
    record {
      variables = formula.variables;
      bits =
          bit_places false given (given_in design cone)
          ++ bit_places true inputs (inputs_in design later_cone);
      clauses = formula.clauses;
    }
