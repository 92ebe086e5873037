use Rattle.sv_parse.proofs.ReadingDeclarations.{later_parameter}
use Rattle.sv_ast.specs.Views.{parameter_tree}
use Rattle.sv_parse.proofs.parameters.read_param_alike.Goals as goal

pub returns-clause-is : goal.returns-clause-is
returns-clause-is c =
    later_parameter (parameter_tree c.args.before.now) _ _ _ _ c.in_ok-span.ensures
    c.in_ok-param.ensures.is
