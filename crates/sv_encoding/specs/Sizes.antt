-- How many variables an encoding has, told without a literal and without a clause: each operator
-- takes as many gates as its lengths say, and each gate one variable.
use Rattle.std.specs.Prelude.{ℕ, ◌+◌, ◌-◌, ◌*◌, ◌/◌, min, sum, Bool, not, if◌then◌else◌, List, []}
use Rattle.std.specs.Prelude.{◌∷◌, length, map, filter, flat_map, Option, Some, None}
use Rattle.sv_num.specs.declared.operators.UnOp.{UnOp}
use Rattle.sv_num.specs.declared.operators.UnOp.TheVariants.{Plus, Minus, LogicNot, Invert}
use Rattle.sv_num.specs.declared.operators.UnOp.TheVariants.{And as AllOf, Nand, Or as SomeOf, Nor}
use Rattle.sv_num.specs.declared.operators.UnOp.TheVariants.{Xor as OddOf, Xnor as EvenOf}
use Rattle.sv_num.specs.declared.operators.BinOp.{BinOp}
use Rattle.sv_num.specs.declared.operators.BinOp.TheVariants.{Mul, Div, Rem, Add, Sub, Shl, Shr}
use Rattle.sv_num.specs.declared.operators.BinOp.TheVariants.{SignShl, SignShr, Lt, Le, Gt, Ge, Eq}
use Rattle.sv_num.specs.declared.operators.BinOp.TheVariants.{Ne, And, Xor, Xnor, Or, LogicAnd}
use Rattle.sv_num.specs.declared.operators.BinOp.TheVariants.{LogicOr}
use Rattle.sv_num.specs.declared.operators.OpClass.{OpClass}
use Rattle.sv_num.specs.declared.operators.OpClass.TheVariants.{Context, Compare, Logical, Shift}
use Rattle.sv_num.specs.BinaryValues.{class_of}
use Rattle.sv_lattice.specs.declared.labels.Label.{Label}
use Rattle.sv_lattice.specs.declared.labels.Label.TheVariants.{Point as Declared, Table}
use Rattle.sv_lattice.specs.Labels.{map_of}
use Rattle.sv_lattice.specs.Tables.{flow_test}
use Rattle.sv_flat.specs.Design.{SignalForm, TypedTree, typed, NodeTree, constant, read, read_bit}
use Rattle.sv_flat.specs.Design.{read_part, unary, binary, choice, join, replication, held}
use Rattle.sv_flat.specs.Design.{held_bit, held_part, mend, slice, TypedTrees, no_parts, more_parts}
use Rattle.sv_flat.specs.Design.{FlatStatement, nothing, after, assign, branch, ProcessForm}
use Rattle.sv_flat.specs.Design.{FlatDesign}
use Rattle.sv_flat.specs.Values.{signal_of, signal_width, expression_width, expression_signed}
use Rattle.sv_flat.specs.Assigned.{assigns}
use Rattle.sv_flat.specs.Readings.{is_constant, no_bits}
use Rattle.sv_flat.specs.Processes.{is_block, drivers}
use Rattle.sv_flat.specs.Clocks.{processes_of}
use Rattle.sv_flat.specs.Reads.{followed}
use Rattle.sv_obl.specs.Wanted.{with_copies, marked}
use Rattle.sv_obl.specs.Obligations.{GoalForm, flow, holds as must_hold, selector, Obligation}
use Rattle.sv_circuits.specs.Operators.{number_count}
use Rattle.sv_encoding.specs.Bodies.{assigns_some}
use Rattle.sv_encoding.specs.Cones.{conditions_of, registers_in, now_cone, next_cone}
use Rattle.sv_encoding.specs.Labels.{row_points, keys_of}
use Rattle.sv_encoding.specs.Encoding.{given_in, inputs_in, settled_in}

-- ---- operators

-- a chain takes a gate for each member but the first
abbrev pub chain_size : (members : ℕ) → ℕ
chain_size members = members - 1

-- a chain whose members are a gate each
abbrev pub gate_chain_size : (members : ℕ) → ℕ
gate_chain_size members = members + chain_size members

-- five gates for each bit
abbrev pub sum_size : (width : ℕ) → ℕ
sum_size width = 5 * width

-- row i has width - i gates, and all rows but the first are added
abbrev pub product_size : (width : ℕ) → ℕ
product_size width = width * (width + 1) / 2 + (width - 1) * sum_size width

-- an XOR and a MUX for each bit
abbrev pub less_size : (width : ℕ) → ℕ
less_size width = 2 * width

-- for each bit of the word that the index can reach, the test of the index and a MUX
abbrev pub picked_size : (width : ℕ) → (index_width : ℕ) → (index_signed : Bool) → ℕ
picked_size width index_width index_signed =
    min width (number_count index_width index_signed) * (chain_size index_width + 1)

abbrev pub unary_size : UnOp → (width : ℕ) → ℕ
unary_size Plus width = 0
unary_size Minus width = sum_size width
unary_size LogicNot width = chain_size width
unary_size Invert width = 0
unary_size AllOf width = chain_size width
unary_size Nand width = chain_size width
unary_size SomeOf width = chain_size width
unary_size Nor width = chain_size width
unary_size OddOf width = chain_size width
unary_size EvenOf width = chain_size width

-- by the lengths of the left and the right operand
abbrev pub binary_size : BinOp → (left right : ℕ) → ℕ
binary_size Mul left right = product_size left
binary_size Div left right = 0
binary_size Rem left right = 0
binary_size Add left right = sum_size left
binary_size Sub left right = sum_size left
binary_size Shl left right = left * right
binary_size Shr left right = left * right
binary_size SignShl left right = left * right
binary_size SignShr left right = left * right
binary_size Lt left right = less_size left
binary_size Le left right = less_size left
binary_size Gt left right = less_size left
binary_size Ge left right = less_size left
binary_size Eq left right = gate_chain_size left
binary_size Ne left right = gate_chain_size left
binary_size And left right = left
binary_size Xor left right = left
binary_size Xnor left right = left
binary_size Or left right = left
binary_size LogicAnd left right = 1
binary_size LogicOr left right = 1

-- whether an operand of `&&` or `||` is not 0
abbrev pub operand_size : OpClass → (width : ℕ) → ℕ
operand_size Context width = 0
operand_size Compare width = 0
operand_size Logical width = chain_size width
operand_size Shift width = 0

-- ---- expressions

-- a bit of a word of some length by an index, whose own word takes so many gates
abbrev pub index_size : (width : ℕ) → (index : TypedTree) → (own : ℕ) → ℕ
index_size width index own =
    if is_constant index
    then 0
    else own + picked_size width (expression_width index) (expression_signed index)

abbrev mutual
  pub expression_size : List SignalForm → TypedTree → ℕ
  expression_size signals (typed width signed node) = node_size signals node

  pub node_size : List SignalForm → NodeTree → ℕ
  node_size signals (constant n) = 0
  node_size signals (read s place) = 0
  node_size signals (read_bit s place index) =
      index_size (signal_width signals s) index (expression_size signals index)
  node_size signals (read_part s place high low) = 0
  node_size signals (unary op e) = expression_size signals e + unary_size op (expression_width e)
  node_size signals (binary op a b) =
      expression_size signals a + operand_size (class_of op) (expression_width a)
      + expression_size signals b + operand_size (class_of op) (expression_width b)
      + binary_size op (expression_width a) (expression_width b)
  node_size signals (choice place c a b) =
      expression_size signals c + chain_size (expression_width c) + expression_size signals a
      + expression_size signals b + expression_width a
  node_size signals (join es) = parts_size signals es
  node_size signals (replication count es) = parts_size signals es
  node_size signals (held s e) = expression_size signals e
  node_size signals (held_bit s place e index) =
      expression_size signals e
      + index_size (signal_width signals s) index (expression_size signals index)
  node_size signals (held_part s place e high low) = expression_size signals e
  node_size signals (mend s e high low piece) =
      expression_size signals e + expression_size signals piece
  node_size signals (slice e high low) = expression_size signals e

  pub parts_size : List SignalForm → TypedTrees → ℕ
  parts_size signals no_parts = 0
  parts_size signals (more_parts e es) = expression_size signals e + parts_size signals es

-- an expression and whether it is not 0
abbrev pub truth_size : List SignalForm → TypedTree → ℕ
truth_size signals e = expression_size signals e + chain_size (expression_width e)

-- ---- signals

-- the widths of some signals, summed up
abbrev pub widths_of : List SignalForm → List ℕ → ℕ
widths_of signals ss = sum (map (signal_width signals) ss)

abbrev pub statement_size : List SignalForm → (followed : List ℕ) → FlatStatement → ℕ
statement_size signals followed nothing = 0
statement_size signals followed (after first second) =
    statement_size signals followed first + statement_size signals followed second
statement_size signals followed (assign pieces place blocking right) =
    if assigns_some followed (assign pieces place blocking right)
    then expression_size (with_copies signals) right
    else 0
statement_size signals followed (branch place condition first second) =
    if assigns_some followed (branch place condition first second)
    then
    truth_size (with_copies signals) condition + statement_size signals followed first
    + statement_size signals followed second
    + widths_of signals (filter (assigns (branch place condition first second)) followed)
    else 0

abbrev pub process_size : FlatDesign → (target : ℕ) → ProcessForm → ℕ
process_size design s process =
    statement_size design.signals (followed design process s)
    (marked design.signals (is_block process.kind) process.body no_bits)

abbrev pub size_of_first : FlatDesign → (target : ℕ) → List ProcessForm → ℕ
size_of_first design s [] = 0
size_of_first design s (process ∷ processes) = process_size design s process

-- the word that its process gives a signal
abbrev pub signal_size : FlatDesign → ℕ → ℕ
signal_size design s = size_of_first design s (drivers (processes_of design) s)

abbrev pub signals_size : FlatDesign → List ℕ → ℕ
signals_size design ss = sum (map (signal_size design) ss)

-- ---- labels

-- the points that a label may be
abbrev pub label_points : FlatDesign → Label → List ℕ
label_points design (Declared point) = point.0 ∷ []
label_points design (Table table first second) = row_points design (map_of design.maps table)

-- the bits that select
abbrev pub selector_width : List SignalForm → (first : ℕ) → (second : Option ℕ) → ℕ
selector_width signals first None = signal_width signals first
selector_width signals first (Some second) =
    signal_width signals second + signal_width signals first

-- for each key the test of the selector, and a gate for each key of the point but the first
abbrev pub point_size : (selector_width : ℕ) → (keys : ℕ) → ℕ
point_size width keys = keys * chain_size width + chain_size keys

abbrev pub label_size : FlatDesign → Label → ℕ
label_size design (Declared point) = 0
label_size design (Table table first second) =
    let rows = map_of design.maps table in
    sum (map (λ p. point_size (selector_width design.signals first second)
    (length (keys_of rows p))) (row_points design rows))

abbrev pub label_of_signal : FlatDesign → ℕ → Label
label_of_signal design s = (signal_of design.signals s).label

-- how many pairs there are of a point of one label that does not flow to a point of the other
abbrev pub stay_count : FlatDesign → (label target : Label) → ℕ
stay_count design label target =
    length (flat_map (λ p. filter (λ q. not (flow_test design.lattice p q))
    (label_points design target)) (label_points design label))

-- whether some label does not flow to the target's
abbrev pub stays_size : FlatDesign → (reads : List ℕ) → (target : ℕ) → ℕ
stays_size design reads s =
    gate_chain_size (sum (map (λ t.
    stay_count design (label_of_signal design t) (label_of_signal design s)) reads))

abbrev pub target_size : FlatDesign → GoalForm → ℕ
target_size design (flow target frame) = label_size design (label_of_signal design target)
target_size design (must_hold e frame) = 0
target_size design (selector s) = label_size design (label_of_signal design s)

abbrev pub violation_size : FlatDesign → (reads : List ℕ) → GoalForm → ℕ
violation_size design reads (flow target frame) = stays_size design reads target
violation_size design reads (must_hold e frame) = truth_size design.signals e
violation_size design reads (selector s) = stays_size design reads s

-- ---- obligations

-- a variable for true, one for each bit that is given, and those of all gates
abbrev pub encoding_size : FlatDesign → Obligation → ℕ
encoding_size design o =
    let cone = now_cone design o in
    let later_cone = next_cone design o in
    1 + widths_of design.signals (given_in design cone)
    + signals_size design (settled_in design cone)
    + widths_of design.signals (inputs_in design later_cone)
    + signals_size design (registers_in design later_cone)
    + signals_size design (settled_in design later_cone)
    + sum (map (truth_size design.signals) (conditions_of o))
    + target_size design o.goal
    + sum (map (λ t. label_size design (label_of_signal design t)) o.reads)
    + violation_size design o.reads o.goal
