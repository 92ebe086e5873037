use Rattle.std.proofs.Common.{◌≡◌, ◌≤◌, length, take}
use Rattle.sv_flat.specs.Design.{FlatDesign}
use Rattle.sv_graph.specs.Graphs.{size}
use Rattle.sv_design.specs.Orders.{AreReads}
use Rattle.sv_graph.specs.Queues.{ordered, open_at}
use Rattle.sv_design.proofs.QueueFacts.{unseen}
use Rattle.sv_design.proofs.ReadOrders.{Queued}
use Rattle.sv_design.proofs.orders.read_order.Given as goal

abbrev pub invariant-loop-next : goal.invariant-loop-next
invariant-loop-next l = (l.next ≤ length (ordered l.queue))
    × (length l.queue.counts.items ≡ size l.reads.reads)
    × ((design : FlatDesign) → AreReads design l.reads
    → Queued design (take l.next (ordered l.queue)) (ordered l.queue) (open_at l.queue))

abbrev pub decreases-loop-next : goal.decreases-loop-next
decreases-loop-next l = unseen (size l.reads.reads) (take l.next (ordered l.queue))
