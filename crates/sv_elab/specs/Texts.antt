-- Private: how the code goes. The walk of a text behind its lattice and its maps.
use Rattle.std.specs.Prelude.{ℕ, List, [], Option}
use Rattle.sv_lattice.specs.Maps.{MapRows}
use Rattle.sv_ast.specs.Instances.{top_module}
use Rattle.sv_ast.specs.Tree.{TextTree}
use Rattle.sv_elab_rules.specs.InstanceSteps.{Built}
use Rattle.sv_elab_rules.specs.Lattices.{PointOrder}
use Rattle.sv_elab_rules.specs.Rules.{no_top}
use Rattle.sv_elab_rules.specs.Texts.{module_names, top_walk, tables_of}
use Rattle.sv_elab_rules.specs.Walks.{Walk, found, ◌>>=◌}

-- the names of its modules, its top, and what is built of that
abbrev pub modules_walk : TextTree → (top : Option (List ℕ)) → PointOrder
    → (maps : List (List ℕ × MapRows)) → Walk Built
modules_walk text top order maps = do
  _ ← module_names [] text.modules
  m ← found (top_module text.modules top) no_top
  top_walk (tables_of text.modules order maps) m
