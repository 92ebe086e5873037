-- The walk of the labels of an instance's signals, in textual order (SecVerilog, ASPLOS 2015): a
-- point, or a map with the signals that select its row.
use Rattle.std.specs.Prelude.{ℕ, Bool, true, false, ◌==◌, List, [], ◌∷◌, Option, Some, None}
use Rattle.std.specs.Prelude.{position}
use Rattle.std.specs.Str.{bytes_eq}
use Rattle.sv_num.specs.declared.faults.Place.{Place}
use Rattle.sv_lattice.specs.declared.labels.Label.{Label}
use Rattle.sv_lattice.specs.declared.labels.Label.TheVariants.{Point as Declared_point, Table}
use Rattle.sv_lattice.specs.Labels.{map_of}
use Rattle.sv_lattice.specs.Maps.{MapRows}
use Rattle.sv_ast.specs.Scopes.{width_of}
use Rattle.sv_ast.specs.Tree.{LabelTree, point_label, table_label, DeclarationTree, ModuleTree}
use Rattle.sv_flat.specs.Design.{SignalForm}
use Rattle.sv_ast.specs.Instances.{is_signal}
use Rattle.sv_elab_rules.specs.Walks.{Walk, Steps, done, ask, found, ◌>>=◌}
use Rattle.sv_elab_rules.specs.Rules.{bad_label}
use Rattle.sv_elab_rules.specs.Names.{Names}
use Rattle.sv_elab_rules.specs.Lattices.{point_number}

-- what all instances of a text share: its modules, the names of its points, the number of the least
-- one, and its maps with their names
pub record SharedTables : Type 0 where
  pub modules : List ModuleTree
  pub points : List (List ℕ)
  pub least : ℕ
  pub map_names : List (List ℕ)
  pub maps : List MapRows

-- a second selector is a signal
unfoldable pub second_selector : Names → Place → Option (List ℕ) → Steps
second_selector names p None = done tt
second_selector names p (Some n) = ask (is_signal (names.scope n)) (bad_label p n)

-- a map has as many ranges as a label has selectors
abbrev pub same_number : {X Y : Type 0} → Option X → Option Y → Bool
same_number None None = true
same_number None (Some y) = false
same_number (Some x) None = false
same_number (Some x) (Some y) = true

-- a second selector has the width of the second range
unfoldable pub second_fits : Names → Place → Option (List ℕ) → Option ℕ → Steps
second_fits names p (Some n) (Some width) = ask (width_of (names.scope n) == width) (bad_label p n)
second_fits names p _ _ = done tt

abbrev pub second_number : Names → Option (List ℕ) → Option ℕ
second_number names None = None
second_number names (Some n) = Some (names.number n)

-- a label; the selectors are known, their number is that of the ranges, and their widths are those
-- of the ranges
unfoldable pub label_walk : SharedTables → Names → LabelTree → Walk Label
label_walk tables names (point_label n p) = do
  point ← found (point_number tables.points n) (bad_label p n)
  done (Declared_point (record { 0 = point }))
label_walk tables names (table_label n first second p) = do
  map ← found (position (bytes_eq n) tables.map_names) (bad_label p n)
  _ ← ask (is_signal (names.scope first)) (bad_label p first)
  _ ← second_selector names p second
  _ ← ask (same_number (map_of tables.maps map).second second) (bad_label p n)
  _ ← ask (width_of (names.scope first) == (map_of tables.maps map).first) (bad_label p first)
  _ ← second_fits names p second (map_of tables.maps map).second
  done (Table map (names.number first) (second_number names second))

-- without a label a signal keeps the least point
unfoldable pub given_label : SharedTables → Names → Option LabelTree → SignalForm → Walk SignalForm
given_label tables names None s = done s
given_label tables names (Some t) s = do
  label ← label_walk tables names t
  done (record s { label = label })

-- the signals of some declarations, in this order, with their labels
unfoldable pub labels_walk : SharedTables → Names → List DeclarationTree → List SignalForm
    → Walk (List SignalForm)
labels_walk tables names (d ∷ ds) (s ∷ signals) = do
  first ← given_label tables names d.label s
  rest ← labels_walk tables names ds signals
  done (first ∷ rest)
labels_walk tables names [] signals = done signals
labels_walk tables names (d ∷ ds) [] = done []
