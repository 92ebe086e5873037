-- The plain form of each part of a flat design.
use Rattle.std.specs.Prelude.{List, [], ◌∷◌, map}
use Rattle.sv_num.specs.declared.faults.Place.{Place}
use Rattle.sv_flat.specs.declared.designs.Flat.{Flat}
use Rattle.sv_flat.specs.declared.designs.ProcKind.{ProcKind}
use Rattle.sv_flat.specs.declared.designs.ProcKind.TheVariants as kind
use Rattle.sv_flat.specs.declared.designs.Process.{Process}
use Rattle.sv_flat.specs.declared.expressions.FExpr.{FExpr}
use Rattle.sv_flat.specs.declared.expressions.FNode as node
use Rattle.sv_flat.specs.declared.expressions.FNode.{FNode, Row_of-FExpr, end_of-FExpr}
use Rattle.sv_flat.specs.declared.expressions.FNode.{more_of-FExpr}
use Rattle.sv_flat.specs.declared.signals.Signal.{Signal}
use Rattle.sv_flat.specs.declared.statements.FStmt as stmt
use Rattle.sv_flat.specs.declared.statements.FStmt.{FStmt, Row_of-FStmt, end_of-FStmt}
use Rattle.sv_flat.specs.declared.statements.FStmt.{more_of-FStmt}
use Rattle.sv_flat.specs.declared.statements.Piece.{Piece}
use Rattle.sv_flat.specs.Design.{TypedTree, typed, NodeTree, constant, read, read_bit, read_part}
use Rattle.sv_flat.specs.Design.{unary, binary, choice, join, replication}
use Rattle.sv_flat.specs.Design.{held, held_bit, held_part, mend, slice, TypedTrees, no_parts}
use Rattle.sv_flat.specs.Design.{more_parts}
use Rattle.sv_flat.specs.Design.{PieceForm, FlatStatement, nothing, after, assign, branch}
use Rattle.sv_flat.specs.Design.{ProcessKind, continuous, port_in, port_out, combinational, clocked}
use Rattle.sv_flat.specs.Design.{release}
use Rattle.sv_flat.specs.Design.{SignalForm, ProcessForm, InvariantForm, FlatDesign}

-- Expressions

abbrev mutual
  pub node_tree : FNode → NodeTree
  node_tree (node.Number n) = constant n
  node_tree (node.Signal signal place) = read signal.0 place
  node_tree (node.Bit' signal place p w s index) =
      read_bit signal.0 place (typed w s (node_tree index))
  node_tree (node.Part signal place high low) = read_part signal.0 place high low
  node_tree (node.Unary' op p w s operand) = unary op (typed w s (node_tree operand))
  node_tree (node.Binary' op p v r left q w s right) =
      binary op (typed v r (node_tree left)) (typed w s (node_tree right))
  node_tree (node.Choice' place o u t condition p v r first q w s second) =
      choice place (typed u t (node_tree condition)) (typed v r (node_tree first))
      (typed w s (node_tree second))
  node_tree (node.Join' shape row) = join (row_parts row)
  node_tree (node.Repeat' count shape row) = replication count (row_parts row)
  node_tree (node.Held' signal p w s value) = held signal.0 (typed w s (node_tree value))
  node_tree (node.HeldBit' signal place p v r value q w s index) =
      held_bit signal.0 place (typed v r (node_tree value)) (typed w s (node_tree index))
  node_tree (node.HeldPart' signal place p w s value high low) =
      held_part signal.0 place (typed w s (node_tree value)) high low
  node_tree (node.Mend' signal p v r old high low q w s piece) =
      mend signal.0 (typed v r (node_tree old)) high low (typed w s (node_tree piece))
  node_tree (node.Slice' p w s value high low) = slice (typed w s (node_tree value)) high low

  -- the parts of a join or replication, which stand in it as a row
  pub row_parts : {n : _} → Row_of-FExpr n → TypedTrees
  row_parts end_of-FExpr = no_parts
  row_parts (more_of-FExpr w s e row) = more_parts (typed w s (node_tree e)) (row_parts row)

abbrev pub typed_tree : FExpr → TypedTree
typed_tree e = typed e.width e.signed (node_tree e.node)

abbrev pub typed_trees : List FExpr → List TypedTree
typed_trees es = map typed_tree es

-- the parts of a join or replication, from a list
abbrev pub parts_of : List TypedTree → TypedTrees
parts_of [] = no_parts
parts_of (e ∷ es) = more_parts e (parts_of es)

-- Statements

abbrev pub piece_form : Piece → PieceForm
piece_form p =
    record { signal = p.signal.0; place = p.place; high = p.high; low = p.low; from = p.from }

abbrev mutual
  pub flat_statement : FStmt → FlatStatement
  flat_statement (stmt.Assign pieces place blocking value) =
      assign (map piece_form pieces.items) place blocking (typed_tree value)
  flat_statement (stmt.Block' shape row) = row_chain row
  flat_statement (stmt.If' place condition p first q second) =
      branch place (typed_tree condition) (flat_statement first) (flat_statement second)

  -- the statements of a block one after the other, which stand in it as a row
  pub row_chain : {n : _} → Row_of-FStmt n → FlatStatement
  row_chain end_of-FStmt = nothing
  row_chain (more_of-FStmt s row) = after (flat_statement s) (row_chain row)

abbrev pub flat_statements : List FStmt → List FlatStatement
flat_statements ss = map flat_statement ss

-- statements one after the other, from a list
abbrev pub chain_of : List FlatStatement → FlatStatement
chain_of [] = nothing
chain_of (s ∷ ss) = after s (chain_of ss)

-- Designs

abbrev pub signal_form : Signal → SignalForm
signal_form s = record {
  name = s.name;
  width = s.width;
  signed = s.signed;
  kind = s.kind;
  label = s.label;
  place = s.place;
}

abbrev pub process_kind : ProcKind → ProcessKind
process_kind kind.Assign = continuous
process_kind kind.PortIn = port_in
process_kind kind.PortOut = port_out
process_kind kind.Comb = combinational
process_kind (kind.Clocked clock) = clocked clock.0
process_kind (kind.Release point) = release point

abbrev pub process_form : Process → ProcessForm
process_form p =
    record { place = p.place; kind = process_kind p.kind; body = flat_statement p.body }

abbrev pub invariant_form : Place × FExpr → InvariantForm
invariant_form i = record { place = i.0; expression = typed_tree i.1 }

abbrev pub design_of : Flat → FlatDesign
design_of f = record {
  signals = map signal_form f.signals.items;
  processes = map process_form f.processes.items;
  lattice = f.lattice;
  points = f.points.items;
  maps = f.maps.items;
  invariants = map invariant_form f.invariants.items;
}
