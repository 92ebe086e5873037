use Rattle.std.proofs.Common.{◌<◌, ◌≤◌, length, get_or, sym, subst, ◌∙◌, arith}
use Rattle.std.specs.Prelude.{Contains, IsTrue}
use Rattle.std.proofs.lemmas.List.{take_all}
use Rattle.std.proofs.Math.ListN.{length-map}
use Rattle.sv_flat.specs.Loops.{all_differ}
use Rattle.sv_flat.specs.declared.signals.SigId.{SigId}
use Rattle.sv_flat.proofs.LeastSets.{holds-from_Contains}
use Rattle.sv_graph.specs.Graphs.{size, row}
use Rattle.sv_graph.specs.Queues.{ordered, open_at, Settles}
use Rattle.sv_design.proofs.QueueFacts.{first_queued, in_order, signal_inside, readers_are}
use Rattle.sv_design.proofs.QueueFacts.{readers_inside, readers_open, reads_size, fewer_left}
use Rattle.sv_design.proofs.QueueFacts.{next_queued, still_inside}
use Rattle.sv_design.proofs.ReadOrders.{Queued, queue_ends}
use Rattle.sv_design.proofs.orders.read_order.Goals as goal

pub loop-next-init : goal.loop-next-init
loop-next-init c = (
  omega arith,
  (c.in_ok-queue.ensures).count,
  λ design are. first_queued design c.args.reads.now are c.in_ok-queue.queue c.in_ok-queue.ensures,
)

pub index-requires : goal.index-requires
index-requires c =
    let queue = c.loop-next.queue in
    let inside : c.loop-next.next < length queue.order.items = omega arith in
    let below = signal_inside c.args.reads.now queue c.loop-next.next c.index-signal.result.now
    inside c.index-signal.ensures c.requires.0 c.requires.1
    (c.loop-next.invariant.2 c.requires.0 c.requires.1) in
    omega arith

pub settle_all-requires-clause-within : goal.settle_all-requires-clause-within
settle_all-requires-clause-within c = λ t at.
    let reads = c.args.reads.now in
    let queue = c.loop-next.queue in
    let next = c.loop-next.next in
    let s = c.index-signal.result.now in
    let inside : next < length queue.order.items = omega arith in
    let is = readers_are reads queue next s inside c.index-signal.ensures c.requires.0 c.requires.1
    (c.loop-next.invariant.2 c.requires.0 c.requires.1) c.index.result.now
    c.as_slice-readers.result.now c.as_slice-readers.ensures.value c.index.ensures in
    let readers = row reads.readers (get_or (ordered queue) next 0) in
    subst (λ n. t < n)
    (sym (reads_size c.requires.0 reads c.requires.1) ∙ sym c.loop-next.invariant.1)
    (readers_inside c.requires.0 reads c.requires.1 (get_or (ordered queue) next 0) t
    (holds-from_Contains readers t (subst (λ ks. Contains ks t) is at)))

pub settle_all-requires-clause-some : goal.settle_all-requires-clause-some
settle_all-requires-clause-some c = λ t at.
    let reads = c.args.reads.now in
    let queue = c.loop-next.queue in
    let next = c.loop-next.next in
    let s = c.index-signal.result.now in
    let queued = c.loop-next.invariant.2 c.requires.0 c.requires.1 in
    let inside : next < length queue.order.items = omega arith in
    let is = readers_are reads queue next s inside c.index-signal.ensures c.requires.0 c.requires.1
    queued c.index.result.now c.as_slice-readers.result.now c.as_slice-readers.ensures.value
    c.index.ensures in
    readers_open c.requires.0 reads c.requires.1 queue next queued
    (in_order reads queue next s inside c.index-signal.ensures) t
    (subst (λ ks. Contains ks t) is at)

pub settle_all-requires-clause-differ : goal.settle_all-requires-clause-differ
settle_all-requires-clause-differ c =
    let reads = c.args.reads.now in
    let queue = c.loop-next.queue in
    let next = c.loop-next.next in
    let s = c.index-signal.result.now in
    let inside : next < length queue.order.items = omega arith in
    let is = readers_are reads queue next s inside c.index-signal.ensures c.requires.0 c.requires.1
    (c.loop-next.invariant.2 c.requires.0 c.requires.1) c.index.result.now
    c.as_slice-readers.result.now c.as_slice-readers.ensures.value c.index.ensures in
    subst (λ ks. IsTrue (all_differ ks)) (sym is)
    ((c.requires.1).once (get_or (ordered queue) next 0))

pub loop-next-smaller : goal.loop-next-smaller
loop-next-smaller c =
    let reads = c.args.reads.now in
    let queue = c.loop-next.queue in
    let next = c.loop-next.next in
    let s = c.index-signal.result.now in
    let queued = c.loop-next.invariant.2 c.requires.0 c.requires.1 in
    let inside : next < length queue.order.items = omega arith in
    let is = readers_are reads queue next s inside c.index-signal.ensures c.requires.0 c.requires.1
    queued c.index.result.now c.as_slice-readers.result.now c.as_slice-readers.ensures.value
    c.index.ensures in
    fewer_left c.requires.0 reads c.requires.1 queue next queued
    (in_order reads queue next s inside c.index-signal.ensures) c.settle_all.new.self
    (subst (Settles queue c.settle_all.new.self) is c.in_ok-settle_all.ensures)
    (size reads.reads) (sym (reads_size c.requires.0 reads c.requires.1))

pub loop-next-preserved : goal.loop-next-preserved
loop-next-preserved c =
    let reads = c.args.reads.now in
    let queue = c.loop-next.queue in
    let new = c.settle_all.new.self in
    let next = c.loop-next.next in
    let s = c.index-signal.result.now in
    let queued = c.loop-next.invariant.2 c.requires.0 c.requires.1 in
    let inside : next < length queue.order.items = omega arith in
    let within = in_order reads queue next s inside c.index-signal.ensures in
    let is = readers_are reads queue next s inside c.index-signal.ensures c.requires.0 c.requires.1
    queued c.index.result.now c.as_slice-readers.result.now c.as_slice-readers.ensures.value
    c.index.ensures in
    let settles = subst (Settles queue new) is c.in_ok-settle_all.ensures in (
      still_inside c.requires.0 reads c.requires.1 queue next queued within new settles,
      settles.count ∙ c.loop-next.invariant.1,
      λ design are.
          next_queued design reads are queue next (c.loop-next.invariant.2 design are) within new
          settles,
    )

pub returns : goal.returns
returns c = λ design are.
    let queue = c.loop-next.queue in
    let next = c.loop-next.next in
    let count = length-map queue.order.items (λ (s : SigId). s.0) in
    let past : length (ordered queue) ≤ next = omega arith in
    queue_ends design (ordered queue) (open_at queue)
    (subst (λ done. Queued design done (ordered queue) (open_at queue))
    (take_all next (ordered queue) past)
    (c.loop-next.invariant.2 design are))
