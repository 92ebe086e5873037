use Rattle.std.proofs.Common.{rules, refl}
use Rattle.sv_ast.specs.declared.modules.Item.TheVariants as item
use Rattle.sv_ast.specs.Tree as tree
use Rattle.sv_ast.specs.Views.{item_tree, instance_tree}
use Rattle.sv_parse.proofs.ReadingMaps.{wrapped}
use Rattle.sv_parse.proofs.instances.as_items.Goals as goal

pub returns : goal.returns
returns c =
    wrapped c.collect.result (λ v. v.items) item.Instance item_tree instance_tree tree.instance_item
    c.args.instances.items (λ x. refl) (search rules)
