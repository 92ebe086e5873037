-- What the words of registers and inputs say. Their variables are new and have no clause, so that
-- they may have any values; and the places of their bits tell what the words spell.
use Rattle.std.specs.Prelude.{◌≡◌, ◌≢◌, ℕ, zero, suc, ◌^◌, ◌<◌, ◌≤◌, Bool, true, false}
use Rattle.std.specs.Prelude.{if◌then◌else◌, IsTrue, IsFalse, pos, List, [], ◌∷◌, ◌++◌, AllPairs}
use Rattle.sv_system.specs.System.{Environment}
use Rattle.sv_flat.specs.Design.{FlatDesign}
use Rattle.sv_flat.specs.Values.{signal_width}
use Rattle.sv_flat.specs.Sets.{holds}
use Rattle.sv_gates.specs.Formulas.{Formula, meets}
use Rattle.sv_gates.specs.Extending.{AgreeUpTo, Begins}
use Rattle.sv_circuits.specs.Words.{Word, word_value}
use Rattle.sv_circuits.specs.Circuits.{IsBase}
use Rattle.sv_obl.specs.Obligations.{Obligation}
use Rattle.sv_obl.specs.Validity.{Valuation}
use Rattle.sv_encoding.specs.Expressions.{Words}
use Rattle.sv_encoding.specs.Cones.{registers_in, now_cone, next_cone}
use Rattle.sv_encoding.specs.Encoding.{no_words, fresh_words, inputs_in, given_in, bit_places}
use Rattle.sv_encoding.specs.Valuations.{placed_value, decoded}
use Rattle.sv_encoding.specs.BothWays.{IsWordOf, SpellThere}

-- ---- words of new variables

-- so many variables in a row, from the one after this
abbrev pub row_after : (before width : ℕ) → Word
row_after before zero = []
row_after before (suc width) = pos (suc before) ∷ row_after (suc before) width

-- a word of a signal is a row of new variables: they stand above the old ones
pub record IsNewWord (design : FlatDesign) (signal old new : ℕ) (word : Word) : Type 0 where
  pub before : ℕ
  pub above : old ≤ before
  pub row : word ≡ row_after before (signal_width design.signals signal)
  pub inside : IsWordOf design signal new word

-- the values of these signals have room in the signals' bits
abbrev pub HaveRoom : FlatDesign → List ℕ → Environment ℕ → Type 0
HaveRoom design signals e =
    (s : ℕ) → IsTrue (holds signals s) → e s < 2 ^ signal_width design.signals s

-- the new formula has more variables and no more clauses; each of these signals has a word of new
-- variables, and no other has a word; and values that meet the old formula can be carried on so
-- that the words spell any values that have room
pub record AreFree (design : FlatDesign) (signals : List ℕ) (old : Formula)
    (made : Formula × Words) : Type 0 where
  pub begins : Begins old made.0
  pub base : IsBase made.0
  pub clauses : (made.0).clauses ≡ old.clauses
  pub words : (s : ℕ) → IsTrue (holds signals s) →
      IsNewWord design s old.variables (made.0).variables (made.1 s)
  pub others : (s : ℕ) → IsFalse (holds signals s) → made.1 s ≡ []
  pub onward : (values : ℕ → Bool) (e : Environment ℕ) → meets values old.clauses ≡ true →
      HaveRoom design signals e →
      (more : ℕ → Bool) × AgreeUpTo old.variables values more
      × (meets more (made.0).clauses ≡ true) × SpellThere signals more made.1 e

abbrev pub GivenWordsAreFree : Type 0
GivenWordsAreFree =
    (design : FlatDesign) (signals : List ℕ) (formula : Formula) → IsBase formula →
    AreFree design signals formula (fresh_words design signals no_words formula)

-- ---- places

-- no number stands in the list twice
abbrev pub EachOnce : List ℕ → Type 0
EachOnce signals = AllPairs ◌≢◌ signals

-- the literals of a word are variables, none of them negated
abbrev pub IsOfVariables : Word → Type 0
IsOfVariables [] = Unit {0}
IsOfVariables (literal ∷ word) = ((n : ℕ) × (literal ≡ pos (suc n))) × IsOfVariables word

-- so are the words of these signals
abbrev pub AreOfVariables : List ℕ → Words → Type 0
AreOfVariables signals words = (s : ℕ) → IsTrue (holds signals s) → IsOfVariables (words s)

-- what the word of one of these signals spells, and 0 for every other signal
abbrev pub spelled_or_zero : (values : ℕ → Bool) → List ℕ → Words → (signal : ℕ) → ℕ
spelled_or_zero values signals words s =
    if holds signals s then word_value values (words s) else 0

-- the places of words tell in their own cycle what the words spell, and in the other cycle nothing
pub record PlacesTell (values : ℕ → Bool) (signals : List ℕ) (words : Words) : Type 0 where
  pub now : (s : ℕ) → placed_value values (bit_places false words signals) false s
      ≡ spelled_or_zero values signals words s
  pub next : (s : ℕ) → placed_value values (bit_places true words signals) true s
      ≡ spelled_or_zero values signals words s
  pub not_next : (s : ℕ) → placed_value values (bit_places false words signals) true s ≡ 0
  pub not_now : (s : ℕ) → placed_value values (bit_places true words signals) false s ≡ 0

-- the valuation has of the cones' registers and inputs what their words spell, and 0 elsewhere
pub record TellsWords (design : FlatDesign) (cone later_cone : List ℕ) (given later : Words)
    (values : ℕ → Bool) (v : Valuation) : Type 0 where
  pub registers : (s : ℕ) →
      v.registers s ≡ spelled_or_zero values (registers_in design cone) given s
  pub inputs : (s : ℕ) → v.inputs s ≡ spelled_or_zero values (inputs_in design cone) given s
  pub next_inputs : (s : ℕ) →
      v.next_inputs s ≡ spelled_or_zero values (inputs_in design later_cone) later s

-- so does what is decoded by the places of a cone's registers and inputs and of a later cone's
-- inputs, as an encoding joins them
abbrev pub DecodedTellsWords : Type 0
DecodedTellsWords =
    (design : FlatDesign) (cone later_cone : List ℕ) (given later : Words) (values : ℕ → Bool)
    → EachOnce cone → EachOnce later_cone
    → AreOfVariables (given_in design cone) given
    → AreOfVariables (inputs_in design later_cone) later
    → TellsWords design cone later_cone given later values
    (decoded design
    (bit_places false given (given_in design cone)
    ++ bit_places true later (inputs_in design later_cone)) values)

-- no signal stands in a cone of an obligation twice
abbrev pub ConesHaveEachOnce : Type 0
ConesHaveEachOnce =
    (design : FlatDesign) (o : Obligation) →
    EachOnce (now_cone design o) × EachOnce (next_cone design o)

abbrev pub PlacesSpellWords : Type 0
PlacesSpellWords =
    ((values : ℕ → Bool) (signals : List ℕ) (words : Words) → EachOnce signals →
    AreOfVariables signals words → PlacesTell values signals words)
    × DecodedTellsWords × ConesHaveEachOnce
