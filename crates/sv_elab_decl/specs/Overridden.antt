-- What an instance sets, in a table that has each name once.
use Rattle.std.specs.Prelude.{◌≡◌, ℕ, Bool, not, List, Result, Ok, Err, map}
use Rattle.std.specs.Borrow.{Bor}
use Rattle.sv_num.specs.declared.vectors.Bits.{Bits}
use Rattle.sv_ast.specs.declared.declarations.Decl.{Decl}
use Rattle.sv_ast.specs.declared.declarations.Param.{Param}
use Rattle.sv_ast.specs.Scopes.{Number}
use Rattle.sv_ast.specs.Tree.{DeclarationTree, ParameterTree}
use Rattle.sv_ast.specs.Instances.{entry}
use Rattle.sv_ast.specs.Views.{declaration_tree, parameter_tree}
use Rattle.sv_elab_rules.specs.Walks.{WalkStep}
use Rattle.sv_elab_decl.specs.Sites.{settings_of}

-- the walk ends with values that say the same of each name; of two values of one name the first
-- counts
abbrev pub IsOverridden : (end : Result (List (List ℕ × Number)) WalkStep) →
    List (List ℕ × Bits) → Type 0
IsOverridden end values = (set : List (List ℕ × Number)) × (end ≡ Ok set)
    × ((n : List ℕ) → entry set n ≡ entry (settings_of values) n)

-- declarations that are held by reference
abbrev pub declaration_trees : List (Bor Decl) → List DeclarationTree
declaration_trees decls = map (λ (d : Bor Decl). declaration_tree d.now) decls

-- likewise parameters
abbrev pub parameter_trees : List (Bor Param) → List ParameterTree
parameter_trees params = map (λ (p : Bor Param). parameter_tree p.now) params

-- whether an instance may set the parameter
abbrev pub is_free : ParameterTree → Bool
is_free p = not p.local
