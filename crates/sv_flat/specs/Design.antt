-- The plain forms of flat designs: numbers stand for signals, lists of bytes for names, and lists
-- for vectors.
use Rattle.std.specs.Prelude.{ℕ, Bool, List, [], ◌∷◌}
use Rattle.sv_num.specs.declared.operators.UnOp.{UnOp}
use Rattle.sv_num.specs.declared.operators.BinOp.{BinOp}
use Rattle.sv_num.specs.declared.faults.Place.{Place}
use Rattle.sv_lattice.specs.declared.points.Point.{Point}
use Rattle.sv_lattice.specs.declared.labels.Label.{Label}
use Rattle.sv_lattice.specs.Maps.{MapRows}
use Rattle.sv_flat.specs.declared.signals.SigKind.{SigKind}

pub record SignalForm : Type 0 where
  pub name : List ℕ
  pub width : ℕ
  pub signed : Bool
  pub kind : SigKind
  pub label : Label
  pub place : Place

mutual
  -- an expression with the length and signedness that its context gives it
  pub data TypedTree : Type 0 where
    typed : (width : ℕ) → (signed : Bool) → NodeTree → TypedTree

  pub data NodeTree : Type 0 where
    constant : ℕ → NodeTree
    read : ℕ → Place → NodeTree
    read_bit : ℕ → Place → (index : TypedTree) → NodeTree
    read_part : ℕ → Place → (high low : ℕ) → NodeTree
    unary : UnOp → TypedTree → NodeTree
    binary : BinOp → (left right : TypedTree) → NodeTree
    choice : Place → (condition first second : TypedTree) → NodeTree
    join : TypedTrees → NodeTree
    replication : (count : ℕ) → TypedTrees → NodeTree
    held : ℕ → TypedTree → NodeTree
    held_bit : ℕ → Place → TypedTree → (index : TypedTree) → NodeTree
    held_part : ℕ → Place → TypedTree → (high low : ℕ) → NodeTree
    mend : ℕ → TypedTree → (high low : ℕ) → (piece : TypedTree) → NodeTree
    slice : TypedTree → (high low : ℕ) → NodeTree

  pub data TypedTrees : Type 0 where
    no_parts : TypedTrees
    more_parts : TypedTree → TypedTrees → TypedTrees

-- the parts of a join or replication, as a list
abbrev pub parts : TypedTrees → List TypedTree
parts no_parts = []
parts (more_parts e es) = e ∷ parts es

-- bits `low` to `high` of the signal get the value's bits from `from` up
pub record PieceForm : Type 0 where
  pub signal : ℕ
  pub place : Place
  pub high : ℕ
  pub low : ℕ
  pub from : ℕ

-- a block is its statements one after the other, each with what follows it
pub data FlatStatement : Type 0 where
  nothing : FlatStatement
  after : (first second : FlatStatement) → FlatStatement
  assign : List PieceForm → Place → (blocking : Bool) → TypedTree → FlatStatement
  branch : Place → (condition : TypedTree) → (first second : FlatStatement) → FlatStatement

pub data ProcessKind : Type 0 where
  continuous : ProcessKind
  port_in : ProcessKind
  port_out : ProcessKind
  combinational : ProcessKind
  clocked : ℕ → ProcessKind
  release : Point → ProcessKind

pub record ProcessForm : Type 0 where
  pub place : Place
  pub kind : ProcessKind
  pub body : FlatStatement

-- an expression that a design declares to be true in every cycle
pub record InvariantForm : Type 0 where
  pub place : Place
  pub expression : TypedTree

pub record FlatDesign : Type 0 where
  pub signals : List SignalForm
  pub processes : List ProcessForm
  -- for each point, the set of the points that it flows to, as a number
  pub lattice : List ℕ
  pub points : List (List ℕ)
  pub maps : List MapRows
  pub invariants : List InvariantForm
