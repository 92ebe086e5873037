use Rattle.std.proofs.Common.{◌≡◌, ℕ, List, [], ◌++◌, ◌||◌, drop, map}
use Rattle.std.specs.List.{list_any}
use Rattle.std.specs.Str.{bytes_eq}
use Rattle.sv_ast.specs.Tree.{declared}
use Rattle.sv_ast.specs.Views.{declaration_tree, item_tree, module_tree}
use Rattle.sv_ast.specs.Instances.{all_items}
use Rattle.sv_elab_rules.specs.Names.{item_declares}
use Rattle.sv_elab_decl.proofs.declarations.announced.Given as goal

-- the names so far, with those of the ports and items that are left, are those of all
abbrev pub invariant-loop-port : goal.invariant-loop-port
invariant-loop-port l = record {
  empty : l.scope.meanings ≡ [];
  later : (n : List ℕ)
      → (list_any (bytes_eq n) l.scope.announced
      || list_any (item_declares n)
      (map declared (map declaration_tree (drop l.port-index l.fn.master.ports.items))
      ++ map item_tree l.fn.master.items.items))
      ≡ list_any (item_declares n) (all_items (module_tree l.fn.master));
}

abbrev pub invariant-loop-item : goal.invariant-loop-item
invariant-loop-item l = record {
  empty : l.scope.meanings ≡ [];
  later : (n : List ℕ)
      → (list_any (bytes_eq n) l.scope.announced
      || list_any (item_declares n) (map item_tree (drop l.item-index l.fn.master.items.items)))
      ≡ list_any (item_declares n) (all_items (module_tree l.fn.master));
}
