use Rattle.std.proofs.Common.{rules, tests, sym, ◌∙◌}
use Rattle.std.proofs.lemmas.Iterator.{YieldsList-from_slice}
use Rattle.std.proofs.lemmas.Iterator.Search.{all_from_yields_List}
use Rattle.std.proofs.lemmas.List.Folds.{list_all-map}
use Rattle.sv_ast.specs.Shape.{is_port}
use Rattle.sv_ast.specs.Views.{declaration_tree}
use Rattle.sv_ast.specs.declared.declarations.Decl.{Decl}
use Rattle.sv_ast.proofs.declarations.are_ports.Goals as goal

pub returns : goal.returns
returns c =
    all_from_yields_List (λ (d : Decl). is_port (declaration_tree d)) _ _ c.all.result
    c.all.ensures.ran (YieldsList-from_slice c.args.decls.now cc) (λ x b q k. search (rules, tests))
    ∙ sym (list_all-map is_port declaration_tree c.args.decls.now)
