-- Private: how the code goes. How deep expressions nest.
use Rattle.std.specs.Prelude.{ℕ, ◌+◌, max}
use Rattle.sv_flat.specs.Design.{TypedTree, typed, NodeTree, constant, read, read_bit, read_part}
use Rattle.sv_flat.specs.Design.{unary, binary, choice, join, replication, held, held_bit}
use Rattle.sv_flat.specs.Design.{held_part, mend, slice, TypedTrees, no_parts, more_parts}

abbrev mutual
  -- how many levels an expression nests, indices included
  pub levels : TypedTree → ℕ
  levels (typed width signed node) = 1 + levels_under node

  pub levels_under : NodeTree → ℕ
  levels_under (constant n) = 0
  levels_under (read s place) = 0
  levels_under (read_bit s place index) = levels index
  levels_under (read_part s place high low) = 0
  levels_under (unary op e) = levels e
  levels_under (binary op a b) = max (levels a) (levels b)
  levels_under (choice place c a b) = max (max (levels c) (levels a)) (levels b)
  levels_under (join es) = levels_of_parts es
  levels_under (replication count es) = levels_of_parts es
  levels_under (held s e) = levels e
  levels_under (held_bit s place e index) = max (levels e) (levels index)
  levels_under (held_part s place e high low) = levels e
  levels_under (mend s e high low piece) = max (levels e) (levels piece)
  levels_under (slice e high low) = levels e

  pub levels_of_parts : TypedTrees → ℕ
  levels_of_parts no_parts = 0
  levels_of_parts (more_parts e es) = max (levels e) (levels_of_parts es)
