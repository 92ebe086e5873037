-- Private: how the code goes. Signals in an order, and how many of the edges to each are still
-- open.
use Rattle.std.specs.Prelude.{◌≡◌, ◌-◌, ◌==◌, ℕ, List, [], ◌∷◌, ◌++◌, length, filter}
use Rattle.std.specs.Prelude.{slice_index, slice_set, if◌then◌else◌}
use Rattle.sv_flat.specs.Sets.{holds}
use Rattle.sv_graph.specs.declared.queues.Queue.{Queue}
use Rattle.sv_graph.specs.Numbers.{numbers}

abbrev pub ordered : Queue → List ℕ
ordered queue = numbers queue.order.items

abbrev pub open_at : Queue → ℕ → ℕ
open_at queue s = slice_index queue.counts.items s

-- one edge less to one signal is open, and with its last one it goes into the order
pub record SettlesOne (old new : Queue) (reader : ℕ) : Type 0 where
  pub open_is : new.counts.items ≡ slice_set old.counts.items reader (open_at old reader - 1)
  pub order_is : ordered new ≡ ordered old ++ (if open_at old reader == 1 then reader ∷ [] else [])

-- the same for some signals
pub record Settles (old new : Queue) (readers : List ℕ) : Type 0 where
  pub count : length new.counts.items ≡ length old.counts.items
  pub open_is : (s : ℕ) → open_at new s ≡ open_at old s - (if holds readers s then 1 else 0)
  pub order_is : ordered new ≡ ordered old ++ filter (λ s. open_at old s == 1) readers
