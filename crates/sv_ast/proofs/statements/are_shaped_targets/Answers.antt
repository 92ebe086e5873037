use Rattle.std.proofs.Common.{◌∙◌}
use Rattle.sv_ast.specs.Shape.{is_shaped_target}
use Rattle.sv_ast.proofs.Members.{some_targets}
use Rattle.sv_ast.proofs.statements.are_shaped_targets.Goals as goal

pub returns-then-not-is_empty : goal.returns-then-not-is_empty
returns-then-not-is_empty c =
    let targets = c.args.targets.now in
    c.is_shaped.ensures ∙ some_targets is_shaped_target targets.items targets.len targets.ok.0
    c.if-not-is_empty.ensures
