-- The plain form of each tree.
use Rattle.std.specs.Prelude.{ℕ, List, [], ◌∷◌, map, Option}
use Rattle.std.specs.Option.{option_map}
use Rattle.sv_num.specs.declared.faults.Place.{Place}
use Rattle.sv_token.specs.Lexemes.{literal_of}
use Rattle.sv_token.specs.declared.tokens.Lit.{Lit}
use Rattle.sv_ast.specs.declared.declarations.Decl.{Decl}
use Rattle.sv_ast.specs.declared.declarations.LabelText.{LabelText}
use Rattle.sv_ast.specs.declared.declarations.LabelText.TheVariants as label
use Rattle.sv_ast.specs.declared.declarations.MemLabel.{MemLabel}
use Rattle.sv_ast.specs.declared.declarations.MemLabel.TheVariants as mem_label
use Rattle.sv_ast.specs.declared.declarations.Memory.{Memory}
use Rattle.sv_ast.specs.declared.declarations.Param.{Param}
use Rattle.sv_ast.specs.declared.declarations.Span.{Span}
use Rattle.sv_ast.specs.declared.expressions.Expr as expr
use Rattle.sv_ast.specs.declared.expressions.Expr.{Expr, Row_of-Expr, end_of-Expr, more_of-Expr}
use Rattle.sv_ast.specs.declared.modules.Instance.{Instance}
use Rattle.sv_ast.specs.declared.modules.Item.{Item}
use Rattle.sv_ast.specs.declared.modules.Item.TheVariants as item
use Rattle.sv_ast.specs.declared.modules.LatticeText.{LatticeText}
use Rattle.sv_ast.specs.declared.modules.Links.{Links}
use Rattle.sv_ast.specs.declared.modules.Links.TheVariants as links
use Rattle.sv_ast.specs.declared.modules.MapText.{MapText}
use Rattle.sv_ast.specs.declared.modules.Module.{Module}
use Rattle.sv_ast.specs.declared.modules.Overrides.{Overrides}
use Rattle.sv_ast.specs.declared.modules.Overrides.TheVariants as overrides
use Rattle.sv_ast.specs.declared.modules.Text.{Text}
use Rattle.sv_ast.specs.declared.statements.Arm.{Arm}
use Rattle.sv_ast.specs.declared.statements.Select.{Select}
use Rattle.sv_ast.specs.declared.statements.Select.TheVariants as select
use Rattle.sv_ast.specs.declared.statements.Stmt as stmt
use Rattle.sv_ast.specs.declared.statements.Stmt.{Stmt, Row_of-Stmt, end_of-Stmt, more_of-Stmt}
use Rattle.sv_ast.specs.declared.statements.Stmt.{Row_of-Arm, end_of-Arm, more_of-Arm}
use Rattle.sv_ast.specs.declared.statements.Target.{Target}
use Rattle.sv_ast.specs.Tree.{ExpressionTree, literal, named, bit_of, part_of, unary, binary}
use Rattle.sv_ast.specs.Tree.{choice, join, replication}
use Rattle.sv_ast.specs.Tree.{ExpressionTrees, no_expressions, more_expressions}
use Rattle.sv_ast.specs.Tree.{Selection, whole, bit_at, part_from, TargetTree}
use Rattle.sv_ast.specs.Tree.{StatementTree, null, assignment, block, if_only, if_else, case_of}
use Rattle.sv_ast.specs.Tree.{StatementTrees, no_statements, more_statements, ArmTrees, no_arms}
use Rattle.sv_ast.specs.Tree.{more_arms}
use Rattle.sv_ast.specs.Tree.{SpanTree, LabelTree, point_label, table_label, DeclarationTree}
use Rattle.sv_ast.specs.Tree.{ParameterTree}
use Rattle.sv_ast.specs.Tree.{MemoryLabelTree, memory_point, by_index, MemoryTree, PlacedName}
use Rattle.sv_ast.specs.Tree.{NamedOverride, OverrideTrees, named_overrides, ordered_overrides}
use Rattle.sv_ast.specs.Tree.{NamedLink, LinkTrees, named_links, ordered_links, InstanceTree}
use Rattle.sv_ast.specs.Tree.{ItemTree, parameter_item, declared, memory_item, continuous, released}
use Rattle.sv_ast.specs.Tree.{always_item, invariant_item, instance_item}
use Rattle.sv_ast.specs.Tree.{ModuleTree, PairTree, LatticeTree, KeyTree, RowTree, MapTree}
use Rattle.sv_ast.specs.Tree.{TextTree}

-- Expressions

abbrev mutual
  pub expression_tree : Expr → ExpressionTree
  expression_tree (expr.Number number place) = literal (literal_of number) place
  expression_tree (expr.Name name place) = named name place
  expression_tree (expr.Bit' name place p index) = bit_of name place (expression_tree index)
  expression_tree (expr.Part' name place p high q low) =
      part_of name place (expression_tree high) (expression_tree low)
  expression_tree (expr.Unary' op place p operand) = unary op place (expression_tree operand)
  expression_tree (expr.Binary' op place p left q right) =
      binary op place (expression_tree left) (expression_tree right)
  expression_tree (expr.Choice' place p condition q first r second) =
      choice place (expression_tree condition) (expression_tree first) (expression_tree second)
  expression_tree (expr.Join' place shape row) = join place (row_parts row)
  expression_tree (expr.Repeat' place p count shape row) =
      replication place (expression_tree count) (row_parts row)

  -- the parts of a join or replication, which stand in it as a row
  pub row_parts : {n : _} → Row_of-Expr n → ExpressionTrees
  row_parts end_of-Expr = no_expressions
  row_parts (more_of-Expr e row) = more_expressions (expression_tree e) (row_parts row)

abbrev pub expression_trees : List Expr → List ExpressionTree
expression_trees es = map expression_tree es

-- the parts of a join or replication, from a list
abbrev pub parts_of : List ExpressionTree → ExpressionTrees
parts_of [] = no_expressions
parts_of (e ∷ es) = more_expressions e (parts_of es)

-- Statements

abbrev pub selection_of : Select → Selection
selection_of select.Whole = whole
selection_of (select.Bit index) = bit_at (expression_tree index)
selection_of (select.Part high low) = part_from (expression_tree high) (expression_tree low)

abbrev pub target_tree : Target → TargetTree
target_tree t = record { name = t.name; place = t.place; selection = selection_of t.select }

abbrev mutual
  pub statement_tree : Stmt → StatementTree
  statement_tree stmt.Null = null
  statement_tree (stmt.Assign targets place blocking value) =
      assignment (map target_tree targets.items) place blocking (expression_tree value)
  statement_tree (stmt.Block' shape row) = block (row_statements row)
  statement_tree (stmt.If' place condition p first stmt.None') =
      if_only place (expression_tree condition) (statement_tree first)
  statement_tree (stmt.If' place condition p first (stmt.Some' q second)) =
      if_else place (expression_tree condition) (statement_tree first) (statement_tree second)
  statement_tree (stmt.Case' place selector shape row) =
      case_of place (expression_tree selector) (row_arms row)

  -- the statements of a block, which stand in it as a row
  pub row_statements : {n : _} → Row_of-Stmt n → StatementTrees
  row_statements end_of-Stmt = no_statements
  row_statements (more_of-Stmt s row) = more_statements (statement_tree s) (row_statements row)

  -- the arms of a case
  pub row_arms : {n : _} → Row_of-Arm n → ArmTrees
  row_arms end_of-Arm = no_arms
  row_arms (more_of-Arm place items body row) =
      more_arms place (expression_trees items.items) (statement_tree body) (row_arms row)

abbrev pub statement_trees : List Stmt → List StatementTree
statement_trees ss = map statement_tree ss

-- the statements of a block, from a list
abbrev pub statements_of : List StatementTree → StatementTrees
statements_of [] = no_statements
statements_of (s ∷ ss) = more_statements s (statements_of ss)

-- an arm by itself
pub record ArmTree : Type 0 where
  pub place : Place
  pub items : List ExpressionTree
  pub body : StatementTree

abbrev pub arm_tree : Arm → ArmTree
arm_tree a =
    record { place = a.place; items = expression_trees a.items.items; body = statement_tree a.body }

abbrev pub arm_trees : List Arm → List ArmTree
arm_trees arms = map arm_tree arms

-- the arms of a case, from a list
abbrev pub arms_of : List ArmTree → ArmTrees
arms_of [] = no_arms
arms_of (a ∷ arms) = more_arms a.place a.items a.body (arms_of arms)

-- Declarations

abbrev pub span_tree : Span → SpanTree
span_tree s = record { high = expression_tree s.high; low = expression_tree s.low }

abbrev pub label_tree : LabelText → LabelTree
label_tree (label.Point name place) = point_label name place
label_tree (label.Table name first second place) = table_label name first second place

abbrev pub declaration_tree : Decl → DeclarationTree
declaration_tree d = record {
  kind = d.kind;
  signed = d.signed;
  span = option_map span_tree d.span;
  label = option_map label_tree d.label;
  name = d.name;
  place = d.place;
  value = option_map expression_tree d.value;
}

abbrev pub parameter_tree : Param → ParameterTree
parameter_tree p = record {
  local = p.local;
  signed = p.signed;
  span = option_map span_tree p.span;
  name = p.name;
  place = p.place;
  value = expression_tree p.value;
}

abbrev pub memory_label_tree : MemLabel → MemoryLabelTree
memory_label_tree (mem_label.Point name place) = memory_point name place
memory_label_tree (mem_label.ByIndex name place) = by_index name place

abbrev pub memory_tree : Memory → MemoryTree
memory_tree m = record {
  signed = m.signed;
  span = option_map span_tree m.span;
  label = option_map memory_label_tree m.label;
  name = m.name;
  place = m.place;
  first = literal_of m.first;
  last = literal_of m.last;
}

-- Modules

abbrev pub placed_name : List ℕ × Place → PlacedName
placed_name n = record { name = n.0; place = n.1 }

abbrev pub named_override : List ℕ × Place × Expr → NamedOverride
named_override o = record { name = o.0; place = o.1; value = expression_tree o.2 }

abbrev pub override_trees : Overrides → OverrideTrees
override_trees (overrides.Named os) = named_overrides (map named_override os.items)
override_trees (overrides.Ordered es) = ordered_overrides (expression_trees es.items)

abbrev pub named_link : List ℕ × Place × Option Expr → NamedLink
named_link l = record { name = l.0; place = l.1; value = option_map expression_tree l.2 }

abbrev pub link_trees : Links → LinkTrees
link_trees (links.Named ls) = named_links (map named_link ls.items)
link_trees (links.Ordered es) = ordered_links (expression_trees es.items)

abbrev pub instance_tree : Instance → InstanceTree
instance_tree i = record {
  master = i.«module»;
  place = i.place;
  overrides = override_trees i.overrides;
  name = i.name;
  name_place = i.name_place;
  links = link_trees i.links;
}

abbrev pub item_tree : Item → ItemTree
item_tree (item.Param p) = parameter_item (parameter_tree p)
item_tree (item.Decl d) = declared (declaration_tree d)
item_tree (item.Memory m) = memory_item (memory_tree m)
item_tree (item.Assign targets place value) =
    continuous (map target_tree targets.items) place (expression_tree value)
item_tree (item.Release target place value point point_place) =
    released (placed_name (target, place)) (expression_tree value)
    (placed_name (point, point_place))
item_tree (item.Always place clock body) =
    always_item place (option_map placed_name clock) (statement_tree body)
item_tree (item.Invariant place e) = invariant_item place (expression_tree e)
item_tree (item.Instance i) = instance_item (instance_tree i)

abbrev pub module_tree : Module → ModuleTree
module_tree m = record {
  name = m.name;
  place = m.place;
  parameters = map parameter_tree m.params.items;
  ports = map declaration_tree m.ports.items;
  items = map item_tree m.items.items;
}

-- Texts

abbrev pub pair_tree : List ℕ × Place × List ℕ × Place → PairTree
pair_tree p = record { lower = placed_name (p.0, p.1); upper = placed_name (p.2, p.3) }

abbrev pub lattice_tree : LatticeText → LatticeTree
lattice_tree l = record {
  place = l.place;
  points = map placed_name l.points.items;
  pairs = map pair_tree l.pairs.items;
}

abbrev pub key_tree : Lit × Place → KeyTree
key_tree k = record { value = literal_of k.0; place = k.1 }

abbrev pub row_tree : Lit × Place × Option (Lit × Place) × List ℕ → RowTree
row_tree r = record { first = key_tree (r.0, r.1); second = option_map key_tree r.2; to = r.3 }

abbrev pub map_tree : MapText → MapTree
map_tree m = record {
  name = m.name;
  place = m.place;
  span = span_tree m.span;
  second = option_map span_tree m.second;
  rows = map row_tree m.rows.items;
  other = m.other;
}

abbrev pub text_tree : Text → TextTree
text_tree t = record {
  lattice = option_map lattice_tree t.lattice;
  maps = map map_tree t.maps.items;
  modules = map module_tree t.modules.items;
}
