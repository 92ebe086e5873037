-- Names in expressions.
use Rattle.std.proofs.Common.{◌≡◌, ℕ, ◌+◌, ◌<◌, List, ◌++◌, length, get_or}
use Rattle.std.proofs.Common.{drop, sym, ap, ◌∙◌, append_assoc}
use Rattle.std.specs.declared.alloc.Global.{Global}
use Rattle.std.specs.declared.vec.Vec.{Vec}
use Rattle.sv_flat.specs.declared.expressions.FExpr.{FExpr}
use Rattle.sv_flat.specs.declared.expressions.FNode.{FNode}
use Rattle.sv_flat.specs.declared.expressions.FNode.TheBlock.{hidden-the_row-FExpr-0}
use Rattle.sv_flat.specs.Design.{SignalForm, NodeTree, TypedTrees}
use Rattle.sv_flat.specs.Readings.{ReadForm, reads, node_reads, parts_reads}
use Rattle.sv_flat.specs.Views.{typed_tree, node_tree, row_parts}
use Rattle.sv_flat.proofs.Parts.{trees, parts_at}
use Rattle.sv_flat.proofs.Rows.{row_parts-hidden}

-- what holds of the parts of a join or replication as they are seen holds of the node
pub row_of_parts : {X : Type 0} (of_parts : TypedTrees → X) (of_node : NodeTree → X)
    {found : List FExpr} (parts : Vec FExpr Global) {node whole : FNode} → found ≡ parts.items
    → node ≡ whole
    → of_node (node_tree whole) ≡ of_parts (row_parts (hidden-the_row-FExpr-0 parts))
    → of_parts (trees found) ≡ of_node (node_tree node)
row_of_parts of_parts of_node parts value is shown =
    ap (λ es. of_parts (trees es)) value
    ∙ ap of_parts (sym (row_parts-hidden parts))
    ∙ sym shown
    ∙ ap of_node (sym (ap node_tree is))

pub row_reads : (signals : List SignalForm) {found : List FExpr} (parts : Vec FExpr Global)
    {node whole : FNode} → found ≡ parts.items → node ≡ whole
    → node_reads signals (node_tree whole)
    ≡ parts_reads signals (row_parts (hidden-the_row-FExpr-0 parts))
    → parts_reads signals (trees found) ≡ node_reads signals (node_tree node)
row_reads signals parts value is shown =
    row_of_parts (parts_reads signals) (node_reads signals) parts value is shown

module _ (es : List FExpr) (i : ℕ) (e : FExpr) (inside : i < length es)
    (is : e ≡ get_or es i e) where
  -- the names so far, one expression more, and those that are left
  pub names_more : (signals : List SignalForm) (all old new : List ReadForm)
      → new ≡ old ++ reads signals (typed_tree e)
      → old ++ parts_reads signals (trees (drop i es)) ≡ all
      → new ++ parts_reads signals (trees (drop (i + 1) es)) ≡ all
  names_more signals all old new gains before =
      ap (λ z. z ++ parts_reads signals (trees (drop (i + 1) es))) gains
      ∙ append_assoc old (reads signals (typed_tree e))
      (parts_reads signals (trees (drop (i + 1) es)))
      ∙ ap (λ z. old ++ z) (sym (ap (parts_reads signals) (parts_at es i e inside is)))
      ∙ before
