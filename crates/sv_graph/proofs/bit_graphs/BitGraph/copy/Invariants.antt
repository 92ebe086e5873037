use Rattle.std.proofs.Common.{map}
use Rattle.sv_graph.specs.BitGraphs.{row}
use Rattle.sv_graph.proofs.BitRows.{words_of}
use Rattle.sv_graph.proofs.FollowFacts.{RowsSoFar}
use Rattle.sv_graph.proofs.bit_graphs.BitGraph.copy.Given as goal

-- the rows so far are copied
abbrev pub invariant-loop-row : goal.invariant-loop-row
invariant-loop-row l = RowsSoFar (map words_of l.rows.items) l.row-index (row l.self)
