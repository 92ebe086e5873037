use Rattle.std.proofs.Common.{not, rules, tests, sym, ◌∙◌}
use Rattle.std.proofs.lemmas.Iterator.{YieldsList-from_slice}
use Rattle.std.proofs.lemmas.Iterator.Search.{all_from_yields_List}
use Rattle.std.proofs.lemmas.List.Folds.{list_all-map}
use Rattle.sv_ast.specs.Views.{parameter_tree}
use Rattle.sv_ast.specs.declared.declarations.Param.{Param}
use Rattle.sv_ast.proofs.declarations.are_header_params.Goals as goal

pub returns : goal.returns
returns c =
    all_from_yields_List (λ (p : Param). not (parameter_tree p).local) _ _ c.all.result
    c.all.ensures.ran (YieldsList-from_slice c.args.params.now cc)
    (λ x b q k. search (rules, tests))
    ∙ sym (list_all-map (λ p. not p.local) parameter_tree c.args.params.now)
