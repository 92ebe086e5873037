-- Private: how the code goes. Selectors of labels, and the maps that they select rows of.
use Rattle.std.specs.Prelude.{◌≡◌, ℕ, List, Option, Some, None, position}
use Rattle.std.specs.Str.{bytes_eq}
use Rattle.sv_lattice.specs.Labels.{map_of}
use Rattle.sv_ast.specs.Tree.{LabelTree, table_label}
use Rattle.sv_elab_rules.specs.LabelSteps.{SharedTables}
use Rattle.sv_width.specs.declared.meanings.KnownSignal.{KnownSignal}
use Rattle.sv_width.specs.declared.meanings.Meaning.TheVariants as meaning
use Rattle.sv_width.specs.Scopes.{Known, meaning_of}
use Rattle.sv_elab_decl.specs.declared.labelling.FoundMap.{FoundMap}
use Rattle.sv_elab_decl.specs.declared.labelling.MapLabel.{MapLabel}

-- the name stands for that signal
abbrev pub IsSelector : Known → List ℕ → KnownSignal → Type 0
IsSelector known n s = meaning_of known n ≡ Some (meaning.Signal s)

-- likewise of a second one, which may be absent
abbrev pub IsSecond : Known → Option (List ℕ) → Option KnownSignal → Type 0
IsSecond known None None = Unit {0}
IsSecond known None (Some s) = ⊥
IsSecond known (Some n) None = ⊥
IsSecond known (Some n) (Some s) = IsSelector known n s

-- the first map of a name, with the widths of its ranges
abbrev pub IsMapNamed : SharedTables → List ℕ → FoundMap → Type 0
IsMapNamed tables n m = (position (bytes_eq n) tables.map_names ≡ Some m.number)
    × (m.first ≡ (map_of tables.maps m.number).first)
    × (m.second ≡ (map_of tables.maps m.number).second)

-- a label by a map, as the grammar has it
abbrev pub map_label : MapLabel → LabelTree
map_label t = table_label t.name.now t.first.now t.second.now t.place
