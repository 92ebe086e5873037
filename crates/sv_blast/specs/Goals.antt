-- Private: how the code goes. When the words and labels that an obligation's goal asks for are
-- there.
use Rattle.std.specs.Prelude.{ℕ, ◌<◌, IsTrue, List, length, map, All, Contains}
use Rattle.sv_flat.specs.Design.{FlatDesign}
use Rattle.sv_flat.specs.Soundness.{well_formed}
use Rattle.sv_encoding.specs.Cones.{label_selectors}
use Rattle.sv_encoding.specs.Encoding.{words_in}
use Rattle.sv_encoding.specs.Expressions.{Words}
use Rattle.sv_obl.specs.Obligations.{GoalForm, flow, holds as must_hold, selector}
use Rattle.sv_blast.specs.WordTables.{StandsOf, StandFor}

-- the signal is there, and the words of its label's selectors
abbrev pub IsLabelReady : FlatDesign → (variables : ℕ) → Words → (signal : ℕ) → Type 0
IsLabelReady design n words s =
    (s < length design.signals)
    × ((t : ℕ) → Contains (label_selectors design s) t → StandsOf design.signals n words t)

-- the words for the label that a goal is about
abbrev pub IsTargetReady : FlatDesign → (variables : ℕ) → (now next : Words) → GoalForm → Type 0
IsTargetReady design n now next (flow s frame) = IsLabelReady design n (words_in frame now next) s
IsTargetReady design n now next (must_hold e frame) = Unit {0}
IsTargetReady design n now next (selector s) = IsLabelReady design n now s

-- the words of an expression that is to hold
abbrev pub IsHeldReady : FlatDesign → (variables : ℕ) → (now next : Words) → GoalForm → Type 0
IsHeldReady design n now next (flow s frame) = Unit {0}
IsHeldReady design n now next (must_hold e frame) =
    IsTrue (well_formed design.signals e)
    × StandFor design.signals n (words_in frame now next) e
IsHeldReady design n now next (selector s) = Unit {0}
