-- What clauses say: those of an expression fix its value, and those of an encoding can be met
-- exactly where the obligation can be falsified. The laws of `sv_encoding_laws` cite
-- these.
use Rattle.std.specs.Prelude.{◌≡◌, ℕ, ◌-◌, ◌<◌, ◌≤◌, Bool, true, false, ◌==◌, ◌||◌, IsTrue}
use Rattle.std.specs.Prelude.{IsFalse, ℤ, List, [], ◌∷◌, length, slice_get, Some, All, AllPairs}
use Rattle.std.specs.Prelude.{Contains}
use Rattle.sv_system.specs.System.{Environment, Fits, IsStill}
use Rattle.sv_flat.specs.Design.{SignalForm, TypedTree, FlatDesign}
use Rattle.sv_flat.specs.Values.{signal_width, expression_width, value}
use Rattle.sv_flat.specs.Soundness.{is_signal, well_formed, sound}
use Rattle.sv_flat.specs.Readings.{names_signal}
use Rattle.sv_flat.specs.Processes.{is_top_input, is_register}
use Rattle.sv_flat.specs.Reads.{is_combinational, is_read_for}
use Rattle.sv_flat.specs.FlatSystem.{flat_system}
use Rattle.sv_flat.specs.Admission.{IsAdmitted}
use Rattle.sv_flat.specs.Sets.{holds}
use Rattle.sv_clause.specs.Literals.{Satisfies, HaveNoSolution}
use Rattle.sv_gates.specs.Formulas.{Formula, IsWithin}
use Rattle.sv_gates.specs.Gates.{true_literal, false_literal}
use Rattle.sv_gates.specs.Extending.{Makes}
use Rattle.sv_circuits.specs.Circuits.{IsWord, IsBase}
use Rattle.sv_obl.specs.Obligations.{GoalForm, flow, holds as must_hold, selector, Obligation}
use Rattle.sv_obl.specs.DesignQueries.{IsQueryOf}
use Rattle.sv_obl.specs.Validity.{Valuation, Falsifies, IsValid}
use Rattle.sv_obl.specs.Noninterference.{IsChecked}
use Rattle.sv_circuits.specs.Words.{Word, word_value}
use Rattle.sv_encoding.specs.Expressions.{Words, expression_word}
use Rattle.sv_encoding.specs.Cones.{registers_in, now_cone, next_cone}
use Rattle.sv_encoding.specs.Encoding.{BitPlace, Encoding, given_in, settled_words}
use Rattle.sv_encoding.specs.Encoding.{registers_next, encoding}
use Rattle.sv_encoding.specs.Sizes.{stays_size, encoding_size}
use Rattle.sv_encoding.specs.Valuations.{spelled_environment, decoded}

-- ---- expressions

-- every signal has bits, as in a sound design
abbrev pub HaveBits : List SignalForm → Type 0
HaveBits signals = (s : ℕ) → IsTrue (is_signal signals s) → 0 < signal_width signals s

-- the words of the signals that an expression names stand in a formula: a literal for each bit,
-- each of one of the formula's variables, of which the first is true
pub record StandIn (signals : List SignalForm) (e : TypedTree) (words : Words) (formula : Formula)
    : Type 0 where
  pub base : IsBase formula
  pub widths : (s : ℕ) → IsTrue (names_signal signals e s) →
      length (words s) ≡ signal_width signals s
  pub inside : (s : ℕ) → IsTrue (names_signal signals e s) → IsWord formula.variables (words s)

-- a word of the expression's length is made, whose new variables have one value each for values of
-- the old ones; and values that meet what was made spell in it the expression's value in the
-- environment that the words spell
abbrev pub SpellsValue : List SignalForm → Words → TypedTree → (old : Formula) →
    (made : Formula × Word) → Type 0
SpellsValue signals words e old made =
    Makes old made (λ n word. IsWord n word × (length word ≡ expression_width e))
    (λ values word. word_value values word ≡ value signals (spelled_environment values words) e)

abbrev pub WordsSpellValues : Type 0
WordsSpellValues =
    (signals : List SignalForm) (words : Words) (e : TypedTree) (formula : Formula)
    → HaveBits signals → IsTrue (well_formed signals e) → StandIn signals e words formula
    → SpellsValue signals words e formula (expression_word signals words e formula)

-- ---- signals

-- a word of a signal: a literal for each of its bits, each of one of these variables
abbrev pub IsWordOf : FlatDesign → (signal variables : ℕ) → Word → Type 0
IsWordOf design s n word = IsWord n word × (length word ≡ signal_width design.signals s)

-- the words of these signals spell their values in an environment
abbrev pub SpellThere : List ℕ → (values : ℕ → Bool) → Words → Environment ℕ → Type 0
SpellThere signals values words e =
    (s : ℕ) → IsTrue (holds signals s) → word_value values (words s) ≡ e s

-- a cone of inputs, registers and combinational signals, with all that is read for the last
pub record IsCone (design : FlatDesign) (cone : List ℕ) : Type 0 where
  pub kinds : (s : ℕ) → IsTrue (holds cone s) →
      IsTrue (is_top_input design s || is_register design s || is_combinational design s)
  pub closed : (s t : ℕ) → IsTrue (holds cone s) → IsTrue (is_combinational design s) →
      IsTrue (is_read_for design s t) → IsTrue (holds cone t)

-- words of all signals of the cone are made, whose new variables have one value each for values of
-- the old ones; and values that meet what was made spell in them every settled environment of which
-- they spell the inputs and registers
abbrev pub SpellsSettled : FlatDesign → (cone : List ℕ) → Words → (old : Formula) →
    (made : Formula × Words) → Type 0
SpellsSettled design cone words old made =
    Makes old made
    (λ n made_words. (s : ℕ) → IsTrue (holds cone s) → IsWordOf design s n (made_words s))
    (λ values made_words. (e : Environment ℕ) → Fits (flat_system design) e →
    IsStill (flat_system design) e → SpellThere (given_in design cone) values words e →
    SpellThere cone values made_words e)

abbrev pub WordsSpellSettledValues : Type 0
WordsSpellSettledValues =
    (design : FlatDesign) (cone : List ℕ) (words : Words) (formula : Formula)
    → IsTrue (sound design) → IsAdmitted design → IsCone design cone → IsBase formula
    → ((s : ℕ) → IsTrue (holds (given_in design cone) s) →
    IsWordOf design s formula.variables (words s))
    → SpellsSettled design cone words formula (settled_words design cone words formula)

-- the signals that are read for some of these
abbrev pub IsReadThere : FlatDesign → List ℕ → ℕ → Type 0
IsReadThere design signals t =
    (s : ℕ) × IsTrue (holds signals s) × IsTrue (is_read_for design s t)

-- words of the cone's registers are made, whose new variables have one value each; and values that
-- meet what was made spell in them the next values of every environment of which they spell what is
-- read for the registers
abbrev pub SpellsNext : FlatDesign → (cone : List ℕ) → (now : Words) → (old : Formula) →
    (made : Formula × Words) → Type 0
SpellsNext design cone now old made =
    Makes old made
    (λ n made_words. (s : ℕ) → IsTrue (holds (registers_in design cone) s) →
    IsWordOf design s n (made_words s))
    (λ values made_words. (e : Environment ℕ) →
    ((t : ℕ) → IsReadThere design (registers_in design cone) t → word_value values (now t) ≡ e t) →
    SpellThere (registers_in design cone) values made_words ((flat_system design).next e))

-- every other word is the one that was there
abbrev pub LeaveOthers : List ℕ → (old made : Words) → Type 0
LeaveOthers signals old made = (t : ℕ) → IsFalse (holds signals t) → made t ≡ old t

abbrev pub WordsSpellNextValues : Type 0
WordsSpellNextValues =
    (design : FlatDesign) (cone : List ℕ) (now next : Words) (formula : Formula)
    → IsTrue (sound design) → IsAdmitted design → IsBase formula
    → ((t : ℕ) → IsReadThere design (registers_in design cone) t →
    IsWordOf design t formula.variables (now t))
    → SpellsNext design cone now formula (registers_next design cone now next formula)
    × LeaveOthers (registers_in design cone) next
    (registers_next design cone now next formula).1

-- ---- obligations

-- the valuation that values of an obligation's variables spell
abbrev pub decoded_of : FlatDesign → Obligation → (values : ℕ → Bool) → Valuation
decoded_of design o values = decoded design (encoding design o).bits values

-- what is outside of the cones is 0
pub record IsZeroOutside (design : FlatDesign) (o : Obligation) (v : Valuation) : Type 0 where
  pub registers : (s : ℕ) → IsFalse (holds (now_cone design o) s) → v.registers s ≡ 0
  pub inputs : (s : ℕ) → IsFalse (holds (now_cone design o) s) → v.inputs s ≡ 0
  pub next_inputs : (s : ℕ) → IsFalse (holds (next_cone design o) s) → v.next_inputs s ≡ 0

-- two valuations agree on the registers and inputs of the cones
pub record AgreeOnCones (design : FlatDesign) (o : Obligation) (first second : Valuation) : Type 0
  where
    pub registers : (s : ℕ) → IsTrue (is_register design s) → IsTrue (holds (now_cone design o) s) →
        first.registers s ≡ second.registers s
    pub inputs : (s : ℕ) → IsTrue (is_top_input design s) → IsTrue (holds (now_cone design o) s) →
        first.inputs s ≡ second.inputs s
    pub next_inputs : (s : ℕ) → IsTrue (is_top_input design s) →
        IsTrue (holds (next_cone design o) s) → first.next_inputs s ≡ second.next_inputs s

-- values that make every clause true spell a valuation that falsifies the obligation
abbrev pub MetIsFalsified : FlatDesign → Obligation → Type 0
MetIsFalsified design o =
    (values : ℕ → Bool) → Satisfies values (encoding design o).clauses →
    Falsifies design (decoded_of design o values) o
    × IsZeroOutside design o (decoded_of design o values)

-- values that make every clause true, and that spell this valuation on the cones
pub record Carries (design : FlatDesign) (o : Obligation) (v : Valuation) (values : ℕ → Bool)
    : Type 0 where
  pub meets : Satisfies values (encoding design o).clauses
  pub agrees : AgreeOnCones design o (decoded_of design o values) v

-- every valuation that falsifies the obligation is carried by such values
abbrev pub FalsifiedIsMet : FlatDesign → Obligation → Type 0
FalsifiedIsMet design o =
    (v : Valuation) → Falsifies design v o → (values : ℕ → Bool) × Carries design o v values

-- so clauses without a solution mean a valid obligation
abbrev pub UnmetIsValid : FlatDesign → Obligation → Type 0
UnmetIsValid design o = HaveNoSolution (encoding design o).clauses → IsValid design o

-- ---- what an encoding keeps to

-- the first clause says that variable 1 is true, and the last one that it is false: together they
-- refute
pub record BeginsAndEndsFalse (clauses : List (List ℤ)) : Type 0 where
  pub begins : slice_get clauses 0 ≡ Some (true_literal ∷ [])
  pub ends : slice_get clauses (length clauses - 1) ≡ Some (false_literal ∷ [])

-- no point of a read's label fails to flow to a point of the label that the goal is about
abbrev pub always_goes : FlatDesign → (reads : List ℕ) → GoalForm → Bool
always_goes design reads (flow target frame) = stays_size design reads target == 0
always_goes design reads (must_hold e frame) = false
always_goes design reads (selector s) = stays_size design reads s == 0

-- where labels alone show that an obligation is valid, its first and its last clause refute it
abbrev pub LabelsDecide : FlatDesign → Obligation → Type 0
LabelsDecide design o =
    IsTrue (always_goes design o.reads o.goal) → BeginsAndEndsFalse (encoding design o).clauses

-- a signal whose values are given to a cycle: to this one a register or an input of its cone, to
-- the next one an input of its cone
abbrev pub IsGiven : FlatDesign → Obligation → (next : Bool) → (signal : ℕ) → Type 0
IsGiven design o false s =
    IsTrue (is_register design s || (flat_system design).is_input s)
    × IsTrue (holds (now_cone design o) s)
IsGiven design o true s =
    IsTrue ((flat_system design).is_input s) × IsTrue (holds (next_cone design o) s)

-- a place is one of a bit of a given signal, and of one of the variables
pub record IsPlace (design : FlatDesign) (o : Obligation) (variables : ℕ) (place : BitPlace)
    : Type 0 where
  pub given : IsGiven design o place.next place.signal
  pub inside : place.bit < signal_width design.signals place.signal
  pub from_one : 1 ≤ place.variable
  pub variable : place.variable ≤ variables

-- two places are those of one bit
abbrev pub AreOfOneBit : BitPlace → BitPlace → Type 0
AreOfOneBit a b = (a.signal ≡ b.signal) × (a.next ≡ b.next) × (a.bit ≡ b.bit)

-- a solver can be given the clauses, since their literals are of no variable above the last; and
-- what it finds can be decoded, since each bit of each given signal has one place
pub record IsWhole (design : FlatDesign) (o : Obligation) (made : Encoding) : Type 0 where
  pub within : All (IsWithin made.variables) made.clauses
  pub places : All (IsPlace design o made.variables) made.bits
  pub apart : AllPairs (λ a b. ¬ AreOfOneBit a b) made.bits
  pub all : (next : Bool) (s bit : ℕ) → IsGiven design o next s →
      bit < signal_width design.signals s →
      (variable : ℕ)
      × Contains made.bits (record { signal = s; next = next; bit = bit; variable = variable })

-- ---- of every query

-- of every obligation that is one of a checked design's
abbrev pub OfEachQuery : (FlatDesign → Obligation → Type 0) → Type 0
OfEachQuery Says =
    (design : FlatDesign) (o : Obligation) → IsChecked design → IsQueryOf design o → Says design o

-- both ways: values that meet the clauses falsify the obligation, and what falsifies it meets them
abbrev pub EncodingSaysWhatFalsifies : Type 0
EncodingSaysWhatFalsifies = OfEachQuery MetIsFalsified × OfEachQuery FalsifiedIsMet

abbrev pub UnmetClausesMeanValid : Type 0
UnmetClausesMeanValid = OfEachQuery UnmetIsValid

abbrev pub LabelsAloneDecide : Type 0
LabelsAloneDecide = OfEachQuery LabelsDecide

abbrev pub EncodingIsWhole : Type 0
EncodingIsWhole = OfEachQuery (λ design o. IsWhole design o (encoding design o))

-- the number of variables is the size that is told
abbrev pub SizeIsExact : Type 0
SizeIsExact =
    OfEachQuery (λ design o. (encoding design o).variables ≡ encoding_size design o)
