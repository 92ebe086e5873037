-- What `secv list` prints: a line for each obligation (this project's profile).
use Rattle.std.specs.Prelude.{ℕ, ◌+◌, if◌then◌else◌, List, [], ◌∷◌, ◌++◌, map, flat_map, codes}
use Rattle.std.specs.Prelude.{decimal, Option, Some, None}
use Rattle.sv_num.specs.declared.faults.Place.{Place}
use Rattle.sv_flat.specs.Design.{SignalForm, FlatDesign}
use Rattle.sv_obl.specs.Asked.{asked}
use Rattle.sv_obl.specs.declared.frames.Frame.{Frame}
use Rattle.sv_obl.specs.declared.frames.Frame.TheVariants.{Now, Next}
use Rattle.sv_obl.specs.Paths.{StepForm}
use Rattle.sv_obl.specs.Obligations.{GoalForm, flow, holds, selector, Obligation}
use Rattle.sv_texts.specs.Texts.{place_text}
use Rattle.sv_obl.specs.SignalNames.{name_of}

-- each word with a blank before it
abbrev pub blanked : List (List ℕ) → List ℕ
blanked words = flat_map (λ word. codes " " ++ word) words

abbrev pub frame_word : Frame → List ℕ
frame_word Now = codes "now"
frame_word Next = codes "next"

-- as in +3:19 where the condition holds, and -3:19 where it does not
abbrev pub step_word : StepForm → List ℕ
step_word step = (if step.truth then codes "+" else codes "-") ++ place_text step.place

abbrev pub right_word : Option Place → List ℕ
right_word (Some place) = codes "=" ++ place_text place
right_word None = codes "hold"

-- what stands after the number
abbrev pub goal_words : List SignalForm → Obligation → GoalForm → List (List ℕ)
goal_words signals o (flow target frame) =
    name_of signals target ∷ frame_word frame ∷ map step_word o.path
    ++ right_word o.right ∷ codes "reads" ∷ map (name_of signals) o.reads
goal_words signals o (holds e frame) =
    codes "invariant" ∷ frame_word frame ∷ right_word o.right ∷ []
goal_words signals o (selector s) =
    name_of signals s ∷ codes "now" ∷ codes "selector" ∷ codes "reads" ∷
    map (name_of signals) o.reads

abbrev pub list_line : List SignalForm → (number : ℕ) → Obligation → List ℕ
list_line signals number o = decimal number ++ blanked (goal_words signals o o.goal) ++ codes "\n"

-- numbered from this one on
abbrev pub lines_from : List SignalForm → (number : ℕ) → List Obligation → List ℕ
lines_from signals number [] = []
lines_from signals number (o ∷ os) =
    list_line signals number o ++ lines_from signals (number + 1) os

-- the obligations of a design, numbered from 1; it declares no facts
abbrev pub list_text : FlatDesign → List ℕ
list_text design = lines_from design.signals 1 (asked design)
