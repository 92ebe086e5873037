use Rattle.std.proofs.Common.{◌≡◌, ℕ, List, sym, ap, ◌∙◌}
use Rattle.std.specs.Prelude.{Option}
use Rattle.std.specs.Option.{option_map}
use Rattle.sv_num.specs.declared.faults.Place.{Place}
use Rattle.sv_ast.specs.declared.expressions.Expr.{Expr}
use Rattle.sv_ast.specs.Tree.{ExpressionTree, NamedLink, named_links}
use Rattle.sv_ast.specs.Views.{expression_tree, link_trees}
use Rattle.sv_ast.proofs.MadeAlike.{made_alike}
use Rattle.sv_ast.proofs.modules.LinksCopied.copy.Goals as goal

abbrev parts : List ℕ × Place × Option Expr → List ℕ × Place × Option ExpressionTree
parts l = (l.0, l.1, option_map expression_tree l.2)

abbrev made : List ℕ × Place × Option ExpressionTree → NamedLink
made l = record { name = l.0; place = l.1; value = l.2 }

pub returns-in_ok-copy-in-Named : goal.returns-in_ok-copy-in-Named
returns-in_ok-copy-in-Named c =
    ap named_links (made_alike made parts _ _ c.in_ok-copy-in-Named.ensures)
    ∙ ap link_trees (sym c.in-Named.is)
