-- The texts of verdicts for machines: each is a JSON object on a line of its own (this project's
-- profile). The keys of each object stand in byte order.
use Rattle.std.specs.Prelude.{◌≡◌, ℕ, false, List, [], ◌∷◌, ◌++◌, map, codes}
use Rattle.std.specs.Fmt.{digits}
use Rattle.std.specs.Str.Lossy.{utf8_lossy}
use Rattle.serde_json.specs.Data as json
use Rattle.serde_json.specs.Data.{Data, Members, no_members, put}
use Rattle.serde_json.specs.View.{items_of}
use Rattle.serde_json.specs.Written.{compact_text}
use Rattle.sv_num.specs.declared.faults.Place.{Place}
use Rattle.sv_flat.specs.Design.{SignalForm, FlatDesign}
use Rattle.sv_flat.specs.SignalLists.{registers, inputs}
use Rattle.sv_obl.specs.declared.frames.Frame.{Frame}
use Rattle.sv_obl.specs.declared.frames.Frame.TheVariants.{Now, Next}
use Rattle.sv_obl.specs.declared.valuations.Valuation.{Valuation as Listed}
use Rattle.sv_obl.specs.SignalNames.{name_of}
use Rattle.sv_obl.specs.Obligations.{GoalForm, Obligation}
use Rattle.sv_obl.specs.Validity.{goal_frame}
use Rattle.sv_obl.specs.Valuations.{valuation_of}
use Rattle.sv_report.specs.FlowText.{asked_signal, IsFirstToStay}

-- ---- values

-- the pairs of a key and a value, put among the members one after the other
abbrev pub put_all : List (List ℕ × Data) → Members → Members
put_all [] members = members
put_all (pair ∷ pairs) members = put_all pairs (put pair.0 pair.1 members)

-- the object with these pairs
abbrev pub object_of : List (List ℕ × Data) → Data
object_of pairs = json.object (put_all pairs no_members)

abbrev pub number_data : ℕ → Data
number_data n = json.number (json.unsigned n)

-- The name as text: what is no UTF-8 in it is replaced. Names of source texts are ASCII, of which
-- this changes nothing.
abbrev pub name_data : (name : List ℕ) → Data
name_data name = json.string (utf8_lossy name)

abbrev pub names_data : (names : List (List ℕ)) → Data
names_data names = json.array (items_of (map name_data names))

-- the name of each listed signal with its value in lower-case hexadecimal
abbrev pub value_pairs : List SignalForm → (listed values : List ℕ) → List (List ℕ × Data)
value_pairs signals [] values = []
value_pairs signals (s ∷ listed) [] = []
value_pairs signals (s ∷ listed) (value ∷ values) =
    (utf8_lossy (name_of signals s), json.string (digits 16 false value))
    ∷ value_pairs signals listed values

abbrev pub values_data : List SignalForm → (listed values : List ℕ) → Data
values_data signals listed values = object_of (value_pairs signals listed values)

-- ---- objects

-- so many obligations hold
abbrev pub accepted_data : (count : ℕ) → Data
accepted_data count = object_of (
    (codes "obligations", number_data count) ∷
    (codes "verdict", json.string (codes "accepted")) ∷ [])

-- a broken rule, where it is broken, and the names that go with it
abbrev pub refusal_data : (number : ℕ) → Place → (names : List (List ℕ)) → Data
refusal_data number place names = object_of (
    (codes "column", number_data place.column) ∷
    (codes "line", number_data place.line) ∷
    (codes "names", names_data names) ∷
    (codes "rule", number_data number) ∷
    (codes "verdict", json.string (codes "refused")) ∷ [])

-- a limit that is exceeded
abbrev pub limit_data : (number : ℕ) → (names : List (List ℕ)) → Data
limit_data number names = object_of (
    (codes "names", names_data names) ∷
    (codes "rule", number_data number) ∷
    (codes "verdict", json.string (codes "refused")) ∷ [])

-- an obligation on which the budget was spent
abbrev pub unknown_data : (obligation budget : ℕ) → Data
unknown_data obligation budget = object_of (
    (codes "budget", number_data budget) ∷
    (codes "obligation", number_data obligation) ∷
    (codes "verdict", json.string (codes "unknown")) ∷ [])

-- where the label is the next cycle's, the inputs of that cycle
abbrev pub next_data : FlatDesign → Frame → Listed → Data
next_data design Now v = object_of []
next_data design Next v = values_data design.signals (inputs design) v.next_inputs.items

-- the read whose label does not flow, the signal, and the values that show it
abbrev pub flow_data : FlatDesign → (number : ℕ) → GoalForm → (read : ℕ) → Listed → Data
flow_data design number goal read v = object_of (
    (codes "from", name_data (name_of design.signals read)) ∷
    (codes "in", values_data design.signals (inputs design) v.inputs.items) ∷
    (codes "next", next_data design (goal_frame goal) v) ∷
    (codes "obligation", number_data number) ∷
    (codes "reg", values_data design.signals (registers design) v.regs.items) ∷
    (codes "target", name_data (name_of design.signals (asked_signal goal))) ∷
    (codes "verdict", json.string (codes "refused")) ∷ [])

-- ---- texts

-- the value with no blank in it, on a line of its own
abbrev pub json_line : Data → List ℕ
json_line value = compact_text value ++ codes "\n"

abbrev pub accepted_json : (count : ℕ) → List ℕ
accepted_json count = json_line (accepted_data count)

abbrev pub refusal_json : (number : ℕ) → Place → (names : List (List ℕ)) → List ℕ
refusal_json number place names = json_line (refusal_data number place names)

abbrev pub limit_json : (number : ℕ) → (names : List (List ℕ)) → List ℕ
limit_json number names = json_line (limit_data number names)

abbrev pub unknown_json : (obligation budget : ℕ) → List ℕ
unknown_json obligation budget = json_line (unknown_data obligation budget)

-- the text is that of the obligation with this number, which fails at these values
pub record IsFlowJson (design : FlatDesign) (number : ℕ) (o : Obligation) (v : Listed)
    (text : List ℕ) : Type 0 where
  pub read : ℕ
  pub first : IsFirstToStay design o (valuation_of design v) read
  pub prints : text ≡ json_line (flow_data design number o.goal read v)
