-- Private: how the code goes. The labels of signals as literals, in plain form.
use Rattle.std.specs.Prelude.{ℕ, ◌<◌, List, map, All}
use Rattle.sv_gates.specs.Formulas.{IsLiteral}
use Rattle.sv_encoding.specs.Labels.{PointLiteral, LabelForm}
use Rattle.sv_blast.specs.declared.labels.PointLiteral.{PointLiteral as Literal_of}

-- the plain form of a point with its literal
abbrev pub point_form : Literal_of → PointLiteral
point_form entry = record { point = entry.point.0; literal = entry.literal }

abbrev pub label_form : List Literal_of → LabelForm
label_form entries = map point_form entries

-- the literals of a label are of these variables
abbrev pub AreWithin : (variables : ℕ) → LabelForm → Type 0
AreWithin n label = All (λ (p : PointLiteral). IsLiteral n p.literal) label

-- the points of a label are below this number
abbrev pub AreBelow : ℕ → LabelForm → Type 0
AreBelow n label = All (λ (p : PointLiteral). p.point < n) label
