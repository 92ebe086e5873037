use Rattle.std.proofs.Common.{rules, refl}
use Rattle.sv_ast.specs.declared.modules.Item.TheVariants as item
use Rattle.sv_ast.specs.Tree as tree
use Rattle.sv_ast.specs.Views.{item_tree, declaration_tree}
use Rattle.sv_parse.proofs.ReadingMaps.{wrapped}
use Rattle.sv_parse.proofs.declarations.declared.Goals as goal

pub returns : goal.returns
returns c =
    wrapped c.collect.result (λ v. v.items) item.Decl item_tree declaration_tree tree.declared
    c.args.decls.items (λ x. refl) (search rules)
