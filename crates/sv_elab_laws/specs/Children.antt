-- When the list of a text's instances has all of them: its bound on levels drops none (IEEE
-- 1364-2005, clause 12.1).
use Rattle.std.specs.Prelude.{◌≡◌, ℕ, List, Contains, Option, Some}
use Rattle.sv_ast.specs.Tree.{InstanceTree, TextTree}
use Rattle.sv_ast.specs.Instances.{instances}
use Rattle.sv_ast.specs.Parts.{Part, child, parts}

-- an instance that stands in an instance of the text is one of the text
abbrev pub HasEachChild : TextTree → (asked : Option (List ℕ)) → Type 0
HasEachChild text asked = (p c : Part) (i : InstanceTree) → Contains (parts text asked) p
    → Contains (instances p.definition) i → child text.modules p i ≡ Some c
    → Contains (parts text asked) c
