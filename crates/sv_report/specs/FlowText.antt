-- The text of an obligation that fails: which one, the first read whose label does not flow, and
-- the values that show it (this project's profile).
use Rattle.std.specs.Prelude.{◌≡◌, ℕ, Bool, false, not, List, [], ◌∷◌, ◌++◌, Some, find}
use Rattle.std.specs.Prelude.{codes, decimal}
use Rattle.std.specs.Fmt.{digits}
use Rattle.sv_system.specs.System.{Environment, Settled}
use Rattle.sv_flat.specs.Design.{SignalForm, FlatDesign}
use Rattle.sv_flat.specs.FlatSystem.{flat_system}
use Rattle.sv_flat.specs.SignalLists.{registers, inputs}
use Rattle.sv_obl.specs.declared.frames.Frame.{Frame}
use Rattle.sv_obl.specs.declared.frames.Frame.TheVariants.{Now, Next}
use Rattle.sv_obl.specs.declared.valuations.Valuation.{Valuation as Listed}
use Rattle.sv_obl.specs.SignalNames.{name_of}
use Rattle.sv_obl.specs.Obligations.{GoalForm, flow, holds, selector, Obligation}
use Rattle.sv_obl.specs.Validity.{Valuation, goal_frame, IsInFrame}
use Rattle.sv_obl.specs.Valuations.{valuation_of}

-- ---- the read

-- the goal asks of labels, and of no expression
abbrev pub AsksFlow : GoalForm → Type 0
AsksFlow (holds e frame) = ⊥
AsksFlow goal = Unit {0}

-- the signal to whose label those of the reads are to flow; an expression has none, and 0 stands
-- for it
abbrev pub asked_signal : GoalForm → ℕ
asked_signal (flow target frame) = target
asked_signal (holds e frame) = 0
asked_signal (selector s) = s

-- the label of the read does not flow to that of the signal there
abbrev pub stays : FlatDesign → (now there : Environment ℕ) → (signal read : ℕ) → Bool
stays design now there s t =
    let system = flat_system design in
    not (system.flows (system.label t now) (system.label s there))

-- The first of the reads, in their order, whose label does not flow: it is taken in the cycle of
-- the valuation, and that of the goal's signal in the goal's frame.
pub record IsFirstToStay (design : FlatDesign) (o : Obligation) (v : Valuation) (read : ℕ) :
    Type 0 where
  pub now : Environment ℕ
  pub there : Environment ℕ
  pub settled : Settled (flat_system design) v.registers v.inputs now
  pub in_frame : IsInFrame design v now (goal_frame o.goal) there
  pub first : find (stays design now there (asked_signal o.goal)) o.reads ≡ Some read

-- ---- the lines

-- a word, the name of a signal, and its value in lower-case hexadecimal
abbrev pub value_line : List SignalForm → (word : List ℕ) → (signal value : ℕ) → List ℕ
value_line signals word s value =
    word ++ name_of signals s ++ (codes " " ++ digits 16 false value ++ codes "\n")

-- a line for each of the listed signals
abbrev pub value_lines : List SignalForm → (word : List ℕ) → (listed values : List ℕ) → List ℕ
value_lines signals word [] values = []
value_lines signals word (s ∷ listed) [] = []
value_lines signals word (s ∷ listed) (value ∷ values) =
    value_line signals word s value ++ value_lines signals word listed values

-- the number of the obligation, its signal and the read
abbrev pub flow_line : List SignalForm → (number signal read : ℕ) → List ℕ
flow_line signals number s read =
    codes "refused flow " ++ decimal number ++ codes " " ++ name_of signals s ++ codes " from "
    ++ name_of signals read ++ codes "\n"

-- where the label is the next cycle's, the inputs of that cycle
abbrev pub next_lines : FlatDesign → Frame → Listed → List ℕ
next_lines design Now v = []
next_lines design Next v =
    value_lines design.signals (codes "next ") (inputs design) v.next_inputs.items

-- then the values of the registers and the inputs
abbrev pub flow_text : FlatDesign → (number : ℕ) → GoalForm → (read : ℕ) → Listed → List ℕ
flow_text design number goal read v =
    flow_line design.signals number (asked_signal goal) read
    ++ value_lines design.signals (codes "reg ") (registers design) v.regs.items
    ++ value_lines design.signals (codes "in ") (inputs design) v.inputs.items
    ++ next_lines design (goal_frame goal) v

-- the text is that of the obligation with this number, which fails at these values
pub record IsFlowText (design : FlatDesign) (number : ℕ) (o : Obligation) (v : Listed)
    (text : List ℕ) : Type 0 where
  pub read : ℕ
  pub first : IsFirstToStay design o (valuation_of design v) read
  pub prints : text ≡ flow_text design number o.goal read v
