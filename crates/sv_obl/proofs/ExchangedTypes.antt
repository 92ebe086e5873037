-- An expression in which something stands for names keeps its type.
use Rattle.std.proofs.Common.{◌≡◌, ℕ, ◌+◌, Bool, List, refl, ap}
use Rattle.std.specs.Prelude.{IsTrue}
use Rattle.sv_num.specs.declared.operators.UnOp.{UnOp}
use Rattle.sv_num.specs.declared.operators.OpClass.{OpClass}
use Rattle.sv_num.specs.declared.operators.OpClass.TheVariants.{Context, Compare, Logical, Shift}
use Rattle.sv_flat.specs.Design.{SignalForm, TypedTree, typed, TypedTrees, no_parts, more_parts}
use Rattle.sv_flat.specs.Values.{expression_width, parts_width}
use Rattle.sv_flat.specs.Soundness.{has_type, is_part_of, unary_typed, binary_typed}
use Rattle.sv_flat.specs.Readings.{ReadForm}
use Rattle.sv_obl.specs.Exchange.{Instead, exchanged, exchanged_parts}

module _ (A : List SignalForm) (instead : ReadForm → Instead) where
  pub parts_same : (es : TypedTrees) → parts_width (exchanged_parts A instead es) ≡ parts_width es
  parts_same no_parts = refl
  parts_same (more_parts (typed w signed node) es) = ap (λ k. w + k) (parts_same es)

  pub unary_same : (op : UnOp) (w : ℕ) (signed : Bool) (a : TypedTree) →
      IsTrue (unary_typed op w signed a) → IsTrue (unary_typed op w signed (exchanged A instead a))
  unary_same op w signed (typed w1 s1 node) h = h

  pub binary_same : (c : OpClass) (w : ℕ) (signed : Bool) (a b : TypedTree) →
      IsTrue (binary_typed c w signed a b) →
      IsTrue (binary_typed c w signed (exchanged A instead a) (exchanged A instead b))
  binary_same Context w signed (typed w1 s1 n1) (typed w2 s2 n2) h = h
  binary_same Compare w signed (typed w1 s1 n1) (typed w2 s2 n2) h = h
  binary_same Logical w signed a b h = h
  binary_same Shift w signed (typed w1 s1 n1) b h = h

  pub type_same : (w : ℕ) (signed : Bool) (a : TypedTree) → IsTrue (has_type w signed a) →
      IsTrue (has_type w signed (exchanged A instead a))
  type_same w signed (typed w1 s1 node) h = h

  pub part_same : (w high low : ℕ) (e : TypedTree)
      → IsTrue (is_part_of (expression_width e) w high low)
      → IsTrue (is_part_of (expression_width (exchanged A instead e)) w high low)
  part_same w high low (typed w1 s1 node) h = h

  pub piece_same : (n high low : ℕ) (piece : TypedTree) →
      IsTrue (is_part_of n (expression_width piece) high low) →
      IsTrue (is_part_of n (expression_width (exchanged A instead piece)) high low)
  piece_same n high low (typed w1 s1 node) h = h
