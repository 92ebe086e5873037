use Rattle.std.proofs.Common.{◌-◌, length, drop}
use Rattle.sv_flat.specs.Assigned.{can_assign}
use Rattle.sv_flat.specs.Views.{design_of, flat_statements, chain_of}
use Rattle.sv_graph.specs.BitSets.{in_bits}
use Rattle.sv_design.specs.Feeds.{feeds}
use Rattle.sv_graph.specs.BitGraphs.{IsOver, GainsEdges}
use Rattle.sv_rules.specs.Phases.{SameBits}
use Rattle.sv_rules.specs.Surroundings.{in_surrounding}
use Rattle.sv_design.proofs.reads.+follow.Given as goal

-- the last statements, with the bits that they can assign
abbrev pub invariant-follow_all-loop-i : goal.invariant-follow_all-loop-i
invariant-follow_all-loop-i l =
    let signals = (design_of l.flat).signals in
    let last = chain_of (flat_statements (drop (length l.stmts - l.i) l.stmts)) in
    IsOver (length l.flat.signals.items) l.graph
    × SameBits (in_bits l.here) (can_assign last)
    × GainsEdges l.initial.graph l.graph (feeds signals l.sought last (in_surrounding l.later))
