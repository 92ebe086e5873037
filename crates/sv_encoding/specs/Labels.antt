-- The labels of signals as literals, and when one does not flow (SecVerilog, ASPLOS 2015).
use Rattle.std.specs.Prelude.{ℕ, ◌==◌, not, List, [], ◌∷◌, ◌++◌, length, map, filter, flat_map, ℤ}
use Rattle.std.specs.Prelude.{Option, Some, None}
use Rattle.std.specs.List.{list_any}
use Rattle.sv_lattice.specs.declared.points.Point.{Point}
use Rattle.sv_lattice.specs.declared.labels.Label.{Label}
use Rattle.sv_lattice.specs.declared.labels.Label.TheVariants.{Point as Declared, Table}
use Rattle.sv_lattice.specs.Maps.{MapRows, row_of}
use Rattle.sv_lattice.specs.Labels.{map_of}
use Rattle.sv_lattice.specs.Tables.{flow_test}
use Rattle.sv_flat.specs.Design.{FlatDesign}
use Rattle.sv_flat.specs.Values.{signal_of}
use Rattle.sv_flat.specs.Sets.{those}
use Rattle.sv_gates.specs.Formulas.{Formula}
use Rattle.sv_gates.specs.Gates.{true_literal, and_gate}
use Rattle.sv_circuits.specs.Words.{Word, BitMaker, or_chain, equals_number_bit}
use Rattle.sv_encoding.specs.Expressions.{Words}

-- a point that a label may be, with the literal that says that it is
pub record PointLiteral : Type 0 where
  pub point : ℕ
  pub literal : ℤ

abbrev pub LabelForm : Type 0
LabelForm = List PointLiteral

-- ---- one label

-- the word of the pair of values that select by two ranges: the bits of the second first
abbrev pub selector_word : Words → (first : ℕ) → (second : Option ℕ) → Word
selector_word words first None = words first
selector_word words first (Some second) = words second ++ words first

-- the points among the rows, in point order
abbrev pub row_points : FlatDesign → MapRows → List ℕ
row_points design map =
    those (length design.lattice) (λ p. list_any (λ (row : Point). row.0 == p) map.rows)

-- the keys of a point: the values that select it, ascending
abbrev pub keys_of : MapRows → (point : ℕ) → List ℕ
keys_of map p = those (length map.rows) (λ key. (row_of map key).0 == p)

-- the selector selects the point: the OR chain, over the point's keys, of the selector equal to the
-- key
abbrev pub point_bit : MapRows → (selector : Word) → (point : ℕ) → BitMaker
point_bit rows selector p formula =
    or_chain (map (equals_number_bit selector) (keys_of rows p)) formula

-- for each of these points whether the selector selects it
abbrev pub point_literals : MapRows → (selector : Word) → List ℕ → Formula → Formula × LabelForm
point_literals rows selector [] formula = (formula, [])
point_literals rows selector (p ∷ ps) formula =
    let (formula, literal) = point_bit rows selector p formula in
    let (formula, rest) = point_literals rows selector ps formula in
    (formula, record { point = p; literal = literal } ∷ rest)

-- a label where signals have these words: a declared point is always that point
abbrev pub label_literals : FlatDesign → Words → Label → Formula → Formula × LabelForm
label_literals design words (Declared point) formula =
    (formula, record { point = point.0; literal = true_literal } ∷ [])
label_literals design words (Table map first second) formula =
    let rows = map_of design.maps map in
    point_literals rows (selector_word words first second) (row_points design rows) formula

-- the label of a signal
abbrev pub signal_label : FlatDesign → Words → (signal : ℕ) → Formula → Formula × LabelForm
signal_label design words s formula =
    label_literals design words (signal_of design.signals s).label formula

-- the labels of signals, one after the other
abbrev pub signal_labels : FlatDesign → Words → List ℕ → Formula → Formula × List LabelForm
signal_labels design words [] formula = (formula, [])
signal_labels design words (s ∷ ss) formula =
    let (formula, label) = signal_label design words s formula in
    let (formula, labels) = signal_labels design words ss formula in
    (formula, label ∷ labels)

-- ---- flows

-- each point p of one label and each point q of the other where p does not flow to q: for each p
-- all q, the labels are p and q
abbrev pub stay_bits : FlatDesign → (label target : LabelForm) → List BitMaker
stay_bits design label target =
    flat_map (λ (p : PointLiteral).
    map (λ (q : PointLiteral). and_gate p.literal q.literal)
    (filter (λ (q : PointLiteral). not (flow_test design.lattice p.point q.point)) target)) label

-- some label does not flow to the target's: the OR chain of all these, each made before it is
-- joined
abbrev pub some_stays_bit : FlatDesign → (labels : List LabelForm) → (target : LabelForm) → BitMaker
some_stays_bit design labels target formula =
    or_chain (flat_map (λ label. stay_bits design label target) labels) formula
