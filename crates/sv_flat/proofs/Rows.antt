-- A vector of a tree's own kind, which stands in the tree as a row, has the plain forms of its
-- items.
use Rattle.std.proofs.Common.{◌≡◌, false, List, refl, sym, ap, ◌∙◌}
use Rattle.std.specs.declared.alloc.Global.{Global}
use Rattle.std.specs.declared.vec.Vec.{Vec}
use Rattle.sv_flat.specs.declared.expressions.FExpr.{FExpr}
use Rattle.sv_flat.specs.declared.expressions.FNode.{Row_of-FExpr, end_of-FExpr, more_of-FExpr}
use Rattle.sv_flat.specs.declared.expressions.FNode.{items-the_row-FExpr}
use Rattle.sv_flat.specs.declared.expressions.FNode.{items_hidden-the_row-FExpr-0}
use Rattle.sv_flat.specs.declared.expressions.FNode.TheBlock.{hidden-the_row-FExpr-0}
use Rattle.sv_flat.specs.declared.statements.FStmt.{FStmt, Row_of-FStmt, end_of-FStmt}
use Rattle.sv_flat.specs.declared.statements.FStmt.{more_of-FStmt, items-the_row-FStmt}
use Rattle.sv_flat.specs.declared.statements.FStmt.{items_hidden-the_row-FStmt-0}
use Rattle.sv_flat.specs.declared.statements.FStmt.TheBlock.{hidden-the_row-FStmt-0}
use Rattle.sv_flat.specs.Design.{SignalForm, typed, more_parts, after}
use Rattle.sv_flat.specs.Soundness.{is_one_assignment}
use Rattle.sv_flat.specs.Views.{node_tree, typed_trees, row_parts, parts_of, flat_statement}
use Rattle.sv_flat.specs.Views.{flat_statements, row_chain, chain_of}

row_parts-items : (n : _) (row : Row_of-FExpr n) →
    row_parts row ≡ parts_of (typed_trees (items-the_row-FExpr n row))
row_parts-items _ end_of-FExpr = refl
row_parts-items _ (more_of-FExpr w s e row) =
    ap (more_parts (typed w s (node_tree e))) (row_parts-items _ row)

-- the parts of a join or replication are those of its vector, in order
pub row_parts-hidden : (v : Vec FExpr Global) →
    row_parts (hidden-the_row-FExpr-0 v) ≡ parts_of (typed_trees v.items)
row_parts-hidden v =
    row_parts-items _ (hidden-the_row-FExpr-0 v)
    ∙ ap (λ es. parts_of (typed_trees es)) (items_hidden-the_row-FExpr-0 v)

-- so vectors with equal plain forms give equal parts
pub same_parts :
    (v w : Vec FExpr Global) →
    typed_trees v.items ≡ typed_trees w.items →
    row_parts (hidden-the_row-FExpr-0 v) ≡ row_parts (hidden-the_row-FExpr-0 w)
same_parts v w same = row_parts-hidden v ∙ ap parts_of same ∙ sym (row_parts-hidden w)

row_chain-items : (n : _) (row : Row_of-FStmt n) →
    row_chain row ≡ chain_of (flat_statements (items-the_row-FStmt n row))
row_chain-items _ end_of-FStmt = refl
row_chain-items _ (more_of-FStmt s row) = ap (after (flat_statement s)) (row_chain-items _ row)

-- a block is the chain of the statements of its vector, in order
pub row_chain-hidden : (v : Vec FStmt Global) →
    row_chain (hidden-the_row-FStmt-0 v) ≡ chain_of (flat_statements v.items)
row_chain-hidden v =
    row_chain-items _ (hidden-the_row-FStmt-0 v)
    ∙ ap (λ ss. chain_of (flat_statements ss)) (items_hidden-the_row-FStmt-0 v)

-- a block is no assignment
pub no_assignment : (signals : List SignalForm) (n : _) (row : Row_of-FStmt n) →
    is_one_assignment signals (row_chain row) ≡ false
no_assignment signals _ end_of-FStmt = refl
no_assignment signals _ (more_of-FStmt s row) = refl
