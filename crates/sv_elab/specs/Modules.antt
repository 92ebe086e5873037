-- Modules as the code holds them: by reference, and their names in a list.
use Rattle.std.specs.Prelude.{ℕ, Bool, not, List, map, Option, option_map}
use Rattle.std.specs.Borrow.{Bor}
use Rattle.std.specs.List.{list_any}
use Rattle.std.specs.Str.{bytes_eq}
use Rattle.sv_ast.specs.declared.modules.Module.{Module}
use Rattle.sv_ast.specs.Tree.{ModuleTree}
use Rattle.sv_ast.specs.Views.{module_tree}

-- the names of modules
abbrev pub names_of : List Module → List (List ℕ)
names_of modules = map (λ (m : Module). m.name) modules

-- the module that a reference leads to
abbrev pub plain : Option (Bor Module) → Option ModuleTree
plain found = option_map (λ (m : Bor Module). module_tree m.now) found

-- the name that is asked for
abbrev pub asked_name : Option (Bor (List ℕ)) → Option (List ℕ)
asked_name asked = option_map (λ (n : Bor (List ℕ)). n.now) asked

-- whether the module's name is none of the given ones
abbrev pub is_apart_from : List (List ℕ) → ModuleTree → Bool
is_apart_from names m = not (list_any (bytes_eq m.name) names)
