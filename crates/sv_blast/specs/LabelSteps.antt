-- Private: how the code goes. Points of a label one after the other, and OR chains that go on.
use Rattle.std.specs.Prelude.{ℕ, ◌==◌, not, ℤ, List, [], ◌∷◌, map, filter, flat_map}
use Rattle.std.specs.Prelude.{Option, Some, unwrap_or}
use Rattle.std.specs.List.{list_any}
use Rattle.sv_lattice.specs.declared.points.Point.{Point}
use Rattle.sv_lattice.specs.Maps.{MapRows}
use Rattle.sv_lattice.specs.Tables.{flow_test}
use Rattle.sv_flat.specs.Sets.{those}
use Rattle.sv_gates.specs.Formulas.{Formula}
use Rattle.sv_gates.specs.Gates.{false_literal, and_gate}
use Rattle.sv_circuits.specs.declared.bit_gates.BitGate.TheVariants.{Or}
use Rattle.sv_circuits.specs.BitGates.{joined_to}
use Rattle.sv_circuits.specs.Words.{BitMaker}
use Rattle.sv_encoding.specs.Labels.{PointLiteral, LabelForm}

-- the points below a number that are among the rows, in point order
abbrev pub points_below : ℕ → MapRows → List ℕ
points_below n map = those n (λ p. list_any (λ (row : Point). row.0 == p) map.rows)

-- ---- chains

-- an OR chain that is not done, with one more member
abbrev pub joined_member : Option ℤ → BitMaker → BitMaker
joined_member chain make formula =
    let (formula, literal) = make formula in joined_to chain Or literal formula

-- and with more of them, each made right before it is joined
abbrev pub chain_with : Option ℤ → List BitMaker → Formula → Formula × Option ℤ
chain_with chain [] formula = (formula, chain)
chain_with chain (make ∷ makes) formula =
    let (formula, literal) = joined_member chain make formula in
    chain_with (Some literal) makes formula

-- the literal of a chain that is done: false where it has no member
abbrev pub chain_end : Option ℤ → ℤ
chain_end chain = unwrap_or chain false_literal

-- ---- flows

-- each point of the target that a point does not flow to: the labels are both points
abbrev pub point_stays : (lattice : List ℕ) → PointLiteral → (target : LabelForm) → List BitMaker
point_stays lattice p target =
    map (λ (q : PointLiteral). and_gate p.literal q.literal)
    (filter (λ (q : PointLiteral). not (flow_test lattice p.point q.point)) target)

-- each point of a label and each of the target that it does not flow to
abbrev pub label_stays : (lattice : List ℕ) → (label target : LabelForm) → List BitMaker
label_stays lattice label target =
    flat_map (λ (p : PointLiteral). point_stays lattice p target) label
