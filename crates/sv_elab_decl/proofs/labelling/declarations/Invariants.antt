use Rattle.std.proofs.Common.{◌≡◌, ◌++◌, drop, map}
use Rattle.std.specs.List.{filter_map}
use Rattle.sv_ast.specs.Parts.{declaration_of, declarations}
use Rattle.sv_ast.specs.Views.{declaration_tree, item_tree, module_tree}
use Rattle.sv_elab_decl.specs.Overridden.{declaration_trees}
use Rattle.sv_elab_decl.proofs.labelling.declarations.Given as goal

-- the declarations so far, with those that are left, are all
abbrev pub invariant-loop-port : goal.invariant-loop-port
invariant-loop-port l =
    declaration_trees l.decls.items ++ map declaration_tree (drop l.port-index l.port-items)
    ≡ map declaration_tree l.port-items

abbrev pub invariant-loop-item : goal.invariant-loop-item
invariant-loop-item l =
    declaration_trees l.decls.items ++ filter_map declaration_of
    (map item_tree (drop l.item-index l.item-items))
    ≡ declarations (module_tree l.master)
