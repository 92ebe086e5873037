use Rattle.std.proofs.Common.{rules, tests, sym, ◌∙◌}
use Rattle.std.proofs.lemmas.Iterator.{YieldsList-from_slice}
use Rattle.std.proofs.lemmas.Iterator.Search.{all_from_yields_List}
use Rattle.std.proofs.lemmas.List.Folds.{list_all-map}
use Rattle.sv_ast.specs.Shape.{is_whole_target}
use Rattle.sv_ast.specs.Views.{target_tree}
use Rattle.sv_ast.specs.declared.statements.Target.{Target}
use Rattle.sv_ast.proofs.statements.are_whole.Goals as goal

pub returns : goal.returns
returns c =
    all_from_yields_List (λ (t : Target). is_whole_target (target_tree t)) _ _ c.all.result
    c.all.ensures.ran (YieldsList-from_slice c.args.targets.now cc)
    (λ x b q k. search (rules, tests))
    ∙ sym (list_all-map is_whole_target target_tree c.args.targets.now)
