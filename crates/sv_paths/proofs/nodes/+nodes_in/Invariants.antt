use Rattle.std.proofs.Common.{◌≡◌, ◌+◌, ◌≤◌, min, drop}
use Rattle.sv_flat.proofs.Parts.{trees}
use Rattle.sv_obl.specs.Nodes.{nodes_in_parts}
use Rattle.sv_paths.proofs.nodes.+nodes_in.Given as goal

-- the nodes so far, and those that are left
abbrev pub invariant-nodes_in_parts-loop-part : goal.invariant-nodes_in_parts-loop-part
invariant-nodes_in_parts-loop-part l =
    (min (l.total + nodes_in_parts (trees (drop l.part-index l.parts))) 65537
    ≡ min (nodes_in_parts (trees l.parts)) 65537)
    × (l.total ≤ 65537)
