-- What a well formed node says of the bits that it takes, and of what it gives.
use Rattle.std.proofs.Common.{◌≡◌, ℕ, zero, suc, ◌+◌, ◌-◌, ◌*◌, ◌/◌, ◌^◌, ◌<◌, ◌≤◌, Bool, true}
use Rattle.std.proofs.Common.{false, cond, ◌&&◌, ◌||◌, not, nat_lt, nat_le, leb-true}
use Rattle.std.proofs.Common.{subst, arith}
use Rattle.std.specs.Prelude.{IsTrue, List, ◌==◌}
use Rattle.std.specs.Bool.{beq}
use Rattle.std.proofs.lemmas.Bool.{eqb-true}
use Rattle.std.proofs.Math.Pow.{pow_mono}
use Rattle.std.specs.declared.alloc.Global.{Global}
use Rattle.std.specs.declared.vec.Vec.{Vec}
use Rattle.sv_num.specs.declared.faults.Place.{Place}
use Rattle.sv_num.specs.declared.operators.UnOp.{UnOp}
use Rattle.sv_num.specs.declared.operators.BinOp.{BinOp}
use Rattle.sv_num.specs.declared.operators.OpClass.{OpClass}
use Rattle.sv_num.specs.declared.operators.OpClass.TheVariants.{Context, Compare, Logical, Shift}
use Rattle.sv_num.specs.UnaryValues.{gives_one_bit}
use Rattle.sv_num.specs.BinaryValues.{class_of, result_width, is_division}
use Rattle.sv_flat.specs.declared.expressions.FExpr.{FExpr}
use Rattle.sv_flat.specs.declared.expressions.FNode.TheBlock.{hidden-the_row-FExpr-0}
use Rattle.sv_flat.specs.Design.{SignalForm, TypedTree, NodeTree, read_part, unary}
use Rattle.sv_flat.specs.Design.{binary, join, replication, held_part, slice}
use Rattle.sv_flat.specs.Soundness.{is_one_to, is_signal, has_type, is_part_of, unary_typed}
use Rattle.sv_flat.specs.Soundness.{binary_typed, well_formed, node_well_formed}
use Rattle.sv_flat.specs.Soundness.{parts_well_formed}
use Rattle.sv_num.specs.Parts.{bits_between}
use Rattle.sv_flat.specs.Values.{signal_width, expression_width, expression_signed, parts_width}
use Rattle.sv_flat.specs.Views.{row_parts}
use Rattle.sv_flat.proofs.Depths.{first_of, second_of}
use Rattle.sv_flat.proofs.Parts.{trees}
use Rattle.sv_flat.proofs.Rows.{row_parts-hidden}
use Rattle.sv_flat.proofs.ReplacedBits.{low_below}

-- ---- ranges

-- a value of some width fits a greater one
pub wider : (n w x : ℕ) → n ≤ w → x < 2 ^ n → x < 2 ^ w
wider n w x le low =
    let more : 2 ^ n ≤ 2 ^ w = pow_mono le in
    omega arith

pub between_below : (high low value w : ℕ) → high + 1 - low ≤ w →
    bits_between high low value < 2 ^ w
between_below high low value w few =
    wider (high + 1 - low) w (bits_between high low value) few
    (low_below (value / 2 ^ low) (high + 1 - low))

few_of : (n w high low : ℕ) → IsTrue (is_part_of n w high low) → high + 1 - low ≤ w
few_of n w high low h =
    leb-true (high + 1 - low) w
    (second_of (nat_le low high && nat_lt high n) (nat_le (high + 1 - low) w) h)

width_of : (w : ℕ) (signed : Bool) (e : TypedTree) → IsTrue (has_type w signed e) →
    expression_width e ≡ w
width_of w signed e h =
    eqb-true (expression_width e) w
    (first_of (expression_width e == w) (beq (expression_signed e) signed) h)

-- the length of what an operator gives
unary_few : (op : UnOp) (w : ℕ) (signed : Bool) (e : TypedTree) → 1 ≤ w
    → IsTrue (unary_typed op w signed e)
    → cond (gives_one_bit op) 1 (expression_width e) ≤ w
unary_few op w signed e some h = by_length (gives_one_bit op) h
  where
    by_length : (b : Bool) → IsTrue (b || has_type w signed e) → cond b 1 (expression_width e) ≤ w
    by_length true h = some
    by_length false h = let is = width_of w signed e h in omega (arith, is)

binary_few : (class : OpClass) (w : ℕ) (signed : Bool) (a b : TypedTree) → 1 ≤ w
    → IsTrue (binary_typed class w signed a b)
    → result_width class (expression_width a) ≤ w
binary_few Context w signed a b some h =
    let is = width_of w signed a (first_of (has_type w signed a) (has_type w signed b) h) in
    omega (arith, is)
binary_few Compare w signed a b some h = some
binary_few Logical w signed a b some h = some
binary_few Shift w signed a b some h = let is = width_of w signed a h in omega (arith, is)

-- ---- nodes

module _ (signals : List SignalForm) (w : ℕ) (signed : Bool) where
  abbrev pub Formed : NodeTree → Type 0
  Formed node = IsTrue (node_well_formed signals w signed node)

  pub part_few : (node : NodeTree) (s : ℕ) (p : Place) (high low : ℕ) →
      node ≡ read_part s p high low → Formed node → high + 1 - low ≤ w
  part_few node s p high low is h = few_of (signal_width signals s) w high low
      (second_of (is_signal signals s) (is_part_of (signal_width signals s) w high low)
      (subst Formed is h))

  pub held_part_few : (node : NodeTree) (s : ℕ) (p : Place) (e : TypedTree) (high low : ℕ)
      → node ≡ held_part s p e high low → Formed node
      → high + 1 - low ≤ w
  held_part_few node s p e high low is h = few_of (signal_width signals s) w high low
      (second_of (is_signal signals s) (is_part_of (signal_width signals s) w high low)
      (first_of (is_signal signals s && is_part_of (signal_width signals s) w high low)
      (well_formed signals e) (subst Formed is h)))

  pub slice_few : (node : NodeTree) (e : TypedTree) (high low : ℕ) → node ≡ slice e high low →
      Formed node → high + 1 - low ≤ w
  slice_few node e high low is h = few_of (expression_width e) w high low
      (first_of (is_part_of (expression_width e) w high low) (well_formed signals e)
      (subst Formed is h))

  pub unary_gives : (node : NodeTree) (op : UnOp) (e : TypedTree) → 1 ≤ w → node ≡ unary op e
      → Formed node
      → cond (gives_one_bit op) 1 (expression_width e) ≤ w
  unary_gives node op e some is h = unary_few op w signed e some
      (first_of (unary_typed op w signed e) (well_formed signals e) (subst Formed is h))

  pub binary_gives : (node : NodeTree) (op : BinOp) (a b : TypedTree) → 1 ≤ w → node ≡ binary op a b
      → Formed node
      → result_width (class_of op) (expression_width a) ≤ w
  binary_gives node op a b some is h =
      let typed = binary_typed (class_of op) w signed a b in
      binary_few (class_of op) w signed a b some (second_of (not (is_division op)) typed
      (first_of (not (is_division op) && typed) (well_formed signals a)
      (first_of (not (is_division op) && typed && well_formed signals a) (well_formed signals b)
      (subst Formed is h))))

  -- a join, by its vector
  pub join_few : (node : NodeTree) (v : Vec FExpr Global)
      → node ≡ join (row_parts (hidden-the_row-FExpr-0 v)) → Formed node
      → (parts_width (trees v.items) ≤ w) × IsTrue (parts_well_formed signals (trees v.items))
  join_few node v is h =
      let formed = subst (λ es. Formed (join es)) (row_parts-hidden v) (subst Formed is h) in
      let few = nat_le (parts_width (trees v.items)) w in
      let all = parts_well_formed signals (trees v.items) in
      (leb-true (parts_width (trees v.items)) w (first_of few all formed), second_of few all formed)

  pub repeat_few : (node : NodeTree) (count : ℕ) (v : Vec FExpr Global)
      → node ≡ replication count (row_parts (hidden-the_row-FExpr-0 v))
      → Formed node
      → (1 ≤ count) × (count * parts_width (trees v.items) ≤ w)
      × IsTrue (parts_well_formed signals (trees v.items))
  repeat_few node count v is h =
      let formed = subst (λ es.
      Formed (replication count es)) (row_parts-hidden v) (subst Formed is h) in
      let some = is_one_to 64 count in
      let few = nat_le (count * parts_width (trees v.items)) w in
      let all = parts_well_formed signals (trees v.items) in
      let front = first_of (some && few) all formed in (
        leb-true 1 count (first_of (nat_le 1 count) (nat_le count 64) (first_of some few front)),
        leb-true (count * parts_width (trees v.items)) w (second_of some few front),
        second_of (some && few) all formed,
      )

-- one copy is no wider than all
pub one_of : (count n w : ℕ) → 1 ≤ count → count * n ≤ w → n ≤ w
one_of (suc k) n w some few = let e : suc k * n ≡ n + k * n = grind arith in omega arith
one_of zero n w some few = absurd (omega arith)
