-- The size of an expression.
use Rattle.std.specs.Prelude.{ℕ, ◌+◌}
use Rattle.sv_flat.specs.Design.{TypedTree, typed, NodeTree, constant, read, read_bit, read_part}
use Rattle.sv_flat.specs.Design.{unary, binary, choice, join, replication, held, held_bit}
use Rattle.sv_flat.specs.Design.{held_part, mend, slice, TypedTrees, no_parts, more_parts}

abbrev mutual
  -- how many nodes an expression has, indices included
  pub nodes_in : TypedTree → ℕ
  nodes_in (typed width signed node) = 1 + nodes_under node

  pub nodes_under : NodeTree → ℕ
  nodes_under (constant n) = 0
  nodes_under (read s place) = 0
  nodes_under (read_bit s place index) = nodes_in index
  nodes_under (read_part s place high low) = 0
  nodes_under (unary op e) = nodes_in e
  nodes_under (binary op a b) = nodes_in a + nodes_in b
  nodes_under (choice place c a b) = nodes_in c + nodes_in a + nodes_in b
  nodes_under (join es) = nodes_in_parts es
  nodes_under (replication count es) = nodes_in_parts es
  nodes_under (held s e) = nodes_in e
  nodes_under (held_bit s place e index) = nodes_in e + nodes_in index
  nodes_under (held_part s place e high low) = nodes_in e
  nodes_under (mend s e high low piece) = nodes_in e + nodes_in piece
  nodes_under (slice e high low) = nodes_in e

  pub nodes_in_parts : TypedTrees → ℕ
  nodes_in_parts no_parts = 0
  nodes_in_parts (more_parts e es) = nodes_in e + nodes_in_parts es
