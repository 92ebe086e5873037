use Rattle.std.proofs.Common.{map}
use Rattle.std.specs.Prelude.{replicate}
use Rattle.sv_graph.specs.BitGraphs.{words}
use Rattle.sv_graph.proofs.BitRows.{words_of}
use Rattle.sv_graph.proofs.FollowFacts.{RowsSoFar}
use Rattle.sv_graph.proofs.bit_graphs.BitGraph.new.Given as goal

-- the rows so far have no bits
abbrev pub invariant-rows : goal.invariant-rows
invariant-rows l =
    RowsSoFar (map words_of l.rows.items) l.counter (λ k. replicate (words l.count) 0)
