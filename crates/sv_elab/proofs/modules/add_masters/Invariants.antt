use Rattle.std.proofs.Common.{◌≡◌, ℕ, List, ◌||◌, drop, map}
use Rattle.std.specs.List.{list_any}
use Rattle.std.specs.Str.{bytes_eq}
use Rattle.sv_ast.specs.Views.{item_tree}
use Rattle.sv_elab.proofs.ModuleLemmas.{masters_in}
use Rattle.sv_elab.proofs.modules.add_masters.Given as goal

-- the names so far, with those of the items that are left, are all
abbrev pub invariant-loop-item : goal.invariant-loop-item
invariant-loop-item l = (n : List ℕ)
    → (list_any (bytes_eq n) l.found.keys
    || list_any (bytes_eq n)
    (masters_in (map item_tree (drop l.item-index l.fn.«module».items.items))))
    ≡ (list_any (bytes_eq n) l.fn.found.keys
    || list_any (bytes_eq n) (masters_in (map item_tree l.fn.«module».items.items)))
