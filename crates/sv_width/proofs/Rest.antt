-- The parts of a join or replication, one after another.
use Rattle.std.proofs.Common.{◌≡◌, ℕ, ◌+◌, ◌<◌, ◌≤◌, List, length, get_or, drop, sym, ap, ◌∙◌}
use Rattle.std.proofs.lemmas.List.{at_drop_all}
use Rattle.std.specs.declared.alloc.Global.{Global}
use Rattle.std.specs.declared.vec.Vec.{Vec}
use Rattle.sv_system.proofs.Fronts.{left_more}
use Rattle.sv_ast.specs.declared.expressions.Expr.{Expr}
use Rattle.sv_ast.specs.declared.expressions.Expr.TheBlock.{hidden-the_row-Expr-0}
use Rattle.sv_ast.specs.Tree.{more_expressions, no_expressions}
use Rattle.sv_ast.specs.Views.{expression_tree, expression_trees, row_parts, parts_of}
use Rattle.sv_ast.proofs.Rows.{row_parts-hidden}

-- the parts that stand in it are those of the list that a reference to them leads to
pub row_at : (v : Vec Expr Global) (es : List Expr) → es ≡ v.items
    → parts_of (expression_trees es) ≡ row_parts (hidden-the_row-Expr-0 v)
row_at v es listed =
    ap (λ xs. parts_of (expression_trees xs)) listed ∙ sym (row_parts-hidden v)

-- what is left is the next one and the rest
pub parts_split : (xs : List Expr) (i : ℕ) (x : Expr) → i < length xs → x ≡ get_or xs i x
    → parts_of (expression_trees (drop i xs)) ≡
    more_expressions (expression_tree x) (parts_of (expression_trees (drop (i + 1) xs)))
parts_split xs i x within is =
    ap (λ (es : List Expr). parts_of (expression_trees es)) (left_more xs i x within is)

pub parts_done : (xs : List Expr) (i : ℕ) → length xs ≤ i →
    parts_of (expression_trees (drop i xs)) ≡ no_expressions
parts_done xs i past =
    at_drop_all (λ (es : List Expr). parts_of (expression_trees es)) xs i past
