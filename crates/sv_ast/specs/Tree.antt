-- The plain forms of trees: lists of bytes stand for names, and lists for vectors.
use Rattle.std.specs.Prelude.{ℕ, Bool, List, [], ◌∷◌, Option}
use Rattle.sv_num.specs.declared.operators.UnOp.{UnOp}
use Rattle.sv_num.specs.declared.operators.BinOp.{BinOp}
use Rattle.sv_num.specs.declared.faults.Place.{Place}
use Rattle.sv_token.specs.Lexemes.{Literal}
use Rattle.sv_ast.specs.declared.declarations.DeclKind.{DeclKind}

mutual
  -- expressions, each with the place of its operator, its `?`, its first brace, or else its first
  -- token
  pub data ExpressionTree : Type 0 where
    literal : Literal → Place → ExpressionTree
    named : List ℕ → Place → ExpressionTree
    bit_of : List ℕ → Place → (index : ExpressionTree) → ExpressionTree
    part_of : List ℕ → Place → (high low : ExpressionTree) → ExpressionTree
    unary : UnOp → Place → ExpressionTree → ExpressionTree
    binary : BinOp → Place → (left right : ExpressionTree) → ExpressionTree
    choice : Place → (condition first second : ExpressionTree) → ExpressionTree
    join : Place → ExpressionTrees → ExpressionTree
    replication : Place → (count : ExpressionTree) → ExpressionTrees → ExpressionTree

  pub data ExpressionTrees : Type 0 where
    no_expressions : ExpressionTrees
    more_expressions : ExpressionTree → ExpressionTrees → ExpressionTrees

-- the parts of a join or replication, as a list
abbrev pub expressions : ExpressionTrees → List ExpressionTree
expressions no_expressions = []
expressions (more_expressions e es) = e ∷ expressions es

-- which bits of a signal an assignment changes
pub data Selection : Type 0 where
  whole : Selection
  bit_at : ExpressionTree → Selection
  part_from : (high low : ExpressionTree) → Selection

pub record TargetTree : Type 0 where
  pub name : List ℕ
  pub place : Place
  pub selection : Selection

mutual
  pub data StatementTree : Type 0 where
    null : StatementTree
    assignment : List TargetTree → Place → (blocking : Bool) → ExpressionTree → StatementTree
    block : StatementTrees → StatementTree
    if_only : Place → (condition : ExpressionTree) → StatementTree → StatementTree
    if_else : Place → (condition : ExpressionTree) → StatementTree → StatementTree → StatementTree
    case_of : Place → (selector : ExpressionTree) → ArmTrees → StatementTree

  pub data StatementTrees : Type 0 where
    no_statements : StatementTrees
    more_statements : StatementTree → StatementTrees → StatementTrees

  -- the arms of a case: each with the place of its first token, its items (none in the default) and
  -- its statement
  pub data ArmTrees : Type 0 where
    no_arms : ArmTrees
    more_arms : Place → List ExpressionTree → StatementTree → ArmTrees → ArmTrees

pub record SpanTree : Type 0 where
  pub high : ExpressionTree
  pub low : ExpressionTree

-- a label: a point, or a map with one or two selecting signals; the place is that of the first name
pub data LabelTree : Type 0 where
  point_label : List ℕ → Place → LabelTree
  table_label : (map first : List ℕ) → (second : Option (List ℕ)) → Place → LabelTree

pub record DeclarationTree : Type 0 where
  pub kind : DeclKind
  pub signed : Bool
  pub span : Option SpanTree
  pub label : Option LabelTree
  pub name : List ℕ
  pub place : Place
  pub value : Option ExpressionTree

pub record ParameterTree : Type 0 where
  pub local : Bool
  pub signed : Bool
  pub span : Option SpanTree
  pub name : List ℕ
  pub place : Place
  pub value : ExpressionTree

pub data MemoryLabelTree : Type 0 where
  memory_point : List ℕ → Place → MemoryLabelTree
  by_index : List ℕ → Place → MemoryLabelTree

pub record MemoryTree : Type 0 where
  pub signed : Bool
  pub span : Option SpanTree
  pub label : Option MemoryLabelTree
  pub name : List ℕ
  pub place : Place
  pub first : Literal
  pub last : Literal

-- a parameter that an instance sets by name
pub record NamedOverride : Type 0 where
  pub name : List ℕ
  pub place : Place
  pub value : ExpressionTree

pub data OverrideTrees : Type 0 where
  named_overrides : List NamedOverride → OverrideTrees
  ordered_overrides : List ExpressionTree → OverrideTrees

-- a port that an instance links by name, perhaps to nothing
pub record NamedLink : Type 0 where
  pub name : List ℕ
  pub place : Place
  pub value : Option ExpressionTree

pub data LinkTrees : Type 0 where
  named_links : List NamedLink → LinkTrees
  ordered_links : List ExpressionTree → LinkTrees

pub record InstanceTree : Type 0 where
  pub master : List ℕ
  pub place : Place
  pub overrides : OverrideTrees
  pub name : List ℕ
  pub name_place : Place
  pub links : LinkTrees

-- a name with its place
pub record PlacedName : Type 0 where
  pub name : List ℕ
  pub place : Place

pub data ItemTree : Type 0 where
  parameter_item : ParameterTree → ItemTree
  declared : DeclarationTree → ItemTree
  memory_item : MemoryTree → ItemTree
  continuous : List TargetTree → Place → ExpressionTree → ItemTree
  released : (target : PlacedName) → ExpressionTree → (to : PlacedName) → ItemTree
  always_item : Place → (clock : Option PlacedName) → StatementTree → ItemTree
  invariant_item : Place → ExpressionTree → ItemTree
  instance_item : InstanceTree → ItemTree

pub record ModuleTree : Type 0 where
  pub name : List ℕ
  pub place : Place
  pub parameters : List ParameterTree
  pub ports : List DeclarationTree
  pub items : List ItemTree

-- a declared pair: the first point flows to the second
pub record PairTree : Type 0 where
  pub lower : PlacedName
  pub upper : PlacedName

pub record LatticeTree : Type 0 where
  pub place : Place
  pub points : List PlacedName
  pub pairs : List PairTree

-- a key of a row, with its place
pub record KeyTree : Type 0 where
  pub value : Literal
  pub place : Place

pub record RowTree : Type 0 where
  pub first : KeyTree
  pub second : Option KeyTree
  pub to : List ℕ

pub record MapTree : Type 0 where
  pub name : List ℕ
  pub place : Place
  pub span : SpanTree
  pub second : Option SpanTree
  pub rows : List RowTree
  -- the point of the other keys
  pub other : Option (List ℕ)

pub record TextTree : Type 0 where
  pub lattice : Option LatticeTree
  pub maps : List MapTree
  pub modules : List ModuleTree
