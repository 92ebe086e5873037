use Rattle.std.proofs.Common.{◌≡◌, ℕ, ◌<◌, ◌&&◌, ◌==◌, length, get_or}
use Rattle.std.specs.Prelude.{filter}
use Rattle.std.specs.List.{range_with_len}
use Rattle.sv_graph.specs.Marks.{is_marked}
use Rattle.sv_design.specs.Numbers.{numbers}
use Rattle.sv_design.specs.Orders.{comb_count}
use Rattle.sv_design.proofs.orders.first_queue.Given as goal

abbrev pub invariant-loop-s : goal.invariant-loop-s
invariant-loop-s l = (length l.counts.items ≡ l.s)
    × ((k : ℕ) → k < l.s → get_or l.counts.items k 0 ≡ comb_count l.reads k)
    × (numbers l.order.items ≡ filter (λ k.
    is_marked l.reads.combs.items k && (comb_count l.reads k == 0)) (range_with_len 0 l.s))
