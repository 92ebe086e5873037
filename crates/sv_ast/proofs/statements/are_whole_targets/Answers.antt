use Rattle.std.proofs.Common.{length, refl, ◌∙◌}
use Rattle.sv_ast.specs.Shape.{is_whole_target}
use Rattle.sv_ast.proofs.Members.{some_targets}
use Rattle.sv_ast.proofs.statements.are_whole_targets.Goals as goal

pub returns-then-not-is_empty : goal.returns-then-not-is_empty
returns-then-not-is_empty c =
    let targets = c.args.targets.now in
    c.are_whole.ensures ∙ some_targets is_whole_target targets (length targets) refl
    c.if-not-is_empty.ensures
