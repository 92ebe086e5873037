use Rattle.sv_ast.specs.Views.{override_trees, instance_tree}
use Rattle.sv_parse.proofs.ReadingInstances.{later_instance}
use Rattle.sv_token.specs.Lexemes.{placed_tokens}
use Rattle.sv_parse_expr.specs.Parses.{placed}
use Rattle.sv_parse.proofs.instances.InstancesListed.later.Goals as goal

pub returns-clause-is : goal.returns-clause-is
returns-clause-is c =
    later_instance (instance_tree c.args.before.now) (instance_tree c.in_ok-instance.instance)
    c.in_ok-module.module (override_trees c.in_ok-overrides.overrides)
    (placed c.args.input)
    (placed_tokens c.args.input.bytes.now c.in_ok-instance.rest.now) c.in_ok-module.ensures
    c.in_ok-overrides.ensures c.in_ok-instance.ensures.is
