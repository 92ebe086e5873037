use Rattle.std.proofs.Common.{rules, refl}
use Rattle.sv_ast.specs.declared.modules.Item.TheVariants as item
use Rattle.sv_ast.specs.Tree as tree
use Rattle.sv_ast.specs.Views.{item_tree, parameter_tree}
use Rattle.sv_parse.proofs.ReadingMaps.{wrapped}
use Rattle.sv_parse.proofs.parameters.declared.Goals as goal

pub returns : goal.returns
returns c =
    wrapped c.collect.result (λ v. v.items) item.Param item_tree parameter_tree tree.parameter_item
    c.args.params.items (λ x. refl) (search rules)
