-- What the literals of labels say: which point each label is, and whether some label does not flow
-- to another (SecVerilog, ASPLOS 2015).
use Rattle.std.specs.Prelude.{◌≡◌, ℕ, Bool, ◌==◌, not, IsTrue, List, [], ◌∷◌, map, flat_map, All}
use Rattle.std.specs.Prelude.{Contains, ℤ}
use Rattle.std.specs.List.{list_any}
use Rattle.sv_system.specs.System.{Environment}
use Rattle.sv_lattice.specs.Maps.{MapRows, IsMap}
use Rattle.sv_lattice.specs.Tables.{flow_test}
use Rattle.sv_flat.specs.Design.{FlatDesign}
use Rattle.sv_flat.specs.Soundness.{is_signal, sound}
use Rattle.sv_flat.specs.FlatSystem.{flat_system}
use Rattle.sv_flat.specs.Sets.{holds}
use Rattle.sv_clause.specs.Literals.{literal_true}
use Rattle.sv_gates.specs.Formulas.{Formula, IsLiteral}
use Rattle.sv_gates.specs.Extending.{Makes}
use Rattle.sv_circuits.specs.Circuits.{IsBase}
use Rattle.sv_encoding.specs.Expressions.{Words}
use Rattle.sv_encoding.specs.Cones.{label_selectors}
use Rattle.sv_encoding.specs.Labels.{PointLiteral, LabelForm, signal_label, signal_labels}
use Rattle.sv_encoding.specs.Labels.{some_stays_bit}
use Rattle.sv_encoding.specs.BothWays.{IsWordOf, SpellThere}

-- ---- labels

-- every literal of the label is of one of these variables
abbrev pub HasLiterals : (variables : ℕ) → LabelForm → Type 0
HasLiterals n label = (l : PointLiteral) → Contains label l → IsLiteral n l.literal

-- the label has the point, and each of its literals is true exactly where its own point is that one
pub record SaysPoint (values : ℕ → Bool) (label : LabelForm) (point : ℕ) : Type 0 where
  pub exact : (l : PointLiteral) → Contains label l →
      literal_true values l.literal ≡ (l.point == point)
  pub found : (l : PointLiteral) × Contains label l × (l.point ≡ point)

-- each map of the design has a row for each value of its ranges
abbrev pub HaveRows : FlatDesign → Type 0
HaveRows design = All (λ (m : MapRows). IsMap m.first m.second m.rows) design.maps

-- words of these signals stand
abbrev pub AreWordsOf : FlatDesign → (signals : List ℕ) → (variables : ℕ) → Words → Type 0
AreWordsOf design signals n words =
    (t : ℕ) → IsTrue (holds signals t) → IsWordOf design t n (words t)

-- the point of a signal's label in an environment
abbrev pub label_point : FlatDesign → Environment ℕ → (signal : ℕ) → ℕ
label_point design e s = ((flat_system design).label s e).0

-- the literals of a signal's label are made from words of its selectors, and give their new
-- variables one value each; and values that meet what was made say the point of the label in every
-- environment of which they spell the selectors
abbrev pub SaysLabel : FlatDesign → Words → (signal : ℕ) → (old : Formula) →
    (made : Formula × LabelForm) → Type 0
SaysLabel design words s old made =
    Makes old made HasLiterals (λ values label. (e : Environment ℕ) →
    SpellThere (label_selectors design s) values words e →
    SaysPoint values label (label_point design e s))

abbrev pub LabelSaysPoint : Type 0
LabelSaysPoint =
    (design : FlatDesign) (words : Words) (s : ℕ) (formula : Formula)
    → IsTrue (sound design) → HaveRows design → IsTrue (is_signal design.signals s)
    → IsBase formula → AreWordsOf design (label_selectors design s) formula.variables words
    → SaysLabel design words s formula (signal_label design words s formula)

-- ---- labels of several signals

abbrev pub HaveLiterals : (variables : ℕ) → List LabelForm → Type 0
HaveLiterals n labels = (label : LabelForm) → Contains labels label → HasLiterals n label

-- the labels say these points, one each
abbrev pub SayPoints : (values : ℕ → Bool) → List LabelForm → (points : List ℕ) → Type 0
SayPoints values [] [] = Unit {0}
SayPoints values [] (p ∷ points) = ⊥
SayPoints values (label ∷ labels) [] = ⊥
SayPoints values (label ∷ labels) (p ∷ points) =
    SaysPoint values label p × SayPoints values labels points

-- the selectors of the labels of these signals
abbrev pub selectors_for : FlatDesign → (signals : List ℕ) → List ℕ
selectors_for design signals = flat_map (label_selectors design) signals

-- likewise of the labels of several signals, one after the other
abbrev pub SaysLabels : FlatDesign → Words → (signals : List ℕ) → (old : Formula) →
    (made : Formula × List LabelForm) → Type 0
SaysLabels design words signals old made =
    Makes old made HaveLiterals (λ values labels. (e : Environment ℕ) →
    SpellThere (selectors_for design signals) values words e →
    SayPoints values labels (map (label_point design e) signals))

abbrev pub LabelsSayPoints : Type 0
LabelsSayPoints =
    (design : FlatDesign) (words : Words) (signals : List ℕ) (formula : Formula)
    → IsTrue (sound design) → HaveRows design
    → ((s : ℕ) → Contains signals s → IsTrue (is_signal design.signals s))
    → IsBase formula → AreWordsOf design (selectors_for design signals) formula.variables words
    → SaysLabels design words signals formula (signal_labels design words signals formula)

-- ---- flows

-- the literal is true exactly where some of the labels is a point that does not flow to the
-- target's
abbrev pub SaysStay : FlatDesign → List LabelForm → (target : LabelForm) → (old : Formula) →
    (made : Formula × ℤ) → Type 0
SaysStay design labels target old made =
    Makes old made IsLiteral (λ values literal. (points : List ℕ) (q : ℕ) →
    SayPoints values labels points → SaysPoint values target q →
    literal_true values literal ≡ list_any (λ p. not (flow_test design.lattice p q)) points)

abbrev pub FlowsSay : Type 0
FlowsSay =
    (design : FlatDesign) (labels : List LabelForm) (target : LabelForm) (formula : Formula)
    → IsBase formula → HaveLiterals formula.variables labels
    → HasLiterals formula.variables target
    → SaysStay design labels target formula (some_stays_bit design labels target formula)
