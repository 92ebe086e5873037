use Rattle.std.proofs.Common.{◌≡◌, ℕ, List, sym, ap, ◌∙◌}
use Rattle.sv_num.specs.declared.faults.Place.{Place}
use Rattle.sv_ast.specs.declared.expressions.Expr.{Expr}
use Rattle.sv_ast.specs.Tree.{ExpressionTree, NamedOverride, named_overrides}
use Rattle.sv_ast.specs.Views.{expression_tree, override_trees}
use Rattle.sv_ast.proofs.MadeAlike.{made_alike}
use Rattle.sv_ast.proofs.modules.Overrides.copy.Goals as goal

abbrev parts : List ℕ × Place × Expr → List ℕ × Place × ExpressionTree
parts o = (o.0, o.1, expression_tree o.2)

abbrev made : List ℕ × Place × ExpressionTree → NamedOverride
made o = record { name = o.0; place = o.1; value = o.2 }

pub returns-in_ok-copy-in-Named : goal.returns-in_ok-copy-in-Named
returns-in_ok-copy-in-Named c =
    ap named_overrides (made_alike made parts _ _ c.in_ok-copy-in-Named.ensures)
    ∙ ap override_trees (sym c.in-Named.is)
