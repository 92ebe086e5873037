-- Private: how the code goes. Orders of combinational signals, and the tables that they are found
-- with.
use Rattle.std.specs.Prelude.{◌≡◌, ◌<◌, ◌^◌, ◌&&◌, ◌==◌, ℕ, Bool, List, [], ◌∷◌, Contains, IsTrue}
use Rattle.std.specs.Prelude.{length, map, filter}
use Rattle.std.specs.List.{range_with_len}
use Rattle.sv_flat.specs.Design.{FlatDesign}
use Rattle.sv_flat.specs.Processes.{signal_numbers}
use Rattle.sv_flat.specs.Reads.{is_combinational, is_read_for, reads_for}
use Rattle.sv_flat.specs.Loops.{reads_only_before, is_read_order, HasReadOrder, all_differ}
use Rattle.sv_flat.specs.Loops.{is_circle}
use Rattle.sv_graph.specs.declared.queues.Queue.{Queue}
use Rattle.sv_graph.specs.Graphs.{size, row, rows_of, has_edge}
use Rattle.sv_graph.specs.Marks.{is_marked, IsTable}
use Rattle.sv_graph.specs.Queues.{ordered, open_at}
use Rattle.sv_design.specs.declared.orders.SignalReads.{SignalReads}

-- the tables say which signals of the design are combinational, what is read for each signal, and
-- which combinational signals a combinational one is read for, each of them once
pub record AreReads (design : FlatDesign) (reads : SignalReads) : Type 0 where
  pub combs_are : IsTable (length design.signals) reads.combs.items (is_combinational design)
  pub few : length design.signals < 2 ^ 32
  pub reads_are : rows_of reads.reads ≡ map (reads_for design) (signal_numbers design)
  pub readers_size : size reads.readers ≡ length design.signals
  pub readers_are : (a b : ℕ) → has_edge reads.readers a b ≡
      (is_combinational design a && is_combinational design b && is_read_for design b a)
  pub once : (a : ℕ) → IsTrue (all_differ (row reads.readers a))

-- they are those of some design
abbrev pub HasDesign : SignalReads → Type 0
HasDesign reads = (design : FlatDesign) × AreReads design reads

-- combinational signals, none twice, each of which reads only earlier ones; and all of them, where
-- there is an order of all
pub record IsLongestOrder (design : FlatDesign) (order : List ℕ) : Type 0 where
  pub before : IsTrue (reads_only_before design [] order)
  pub combinational : (s : ℕ) → Contains order s → IsTrue (is_combinational design s)
  pub differ : IsTrue (all_differ order)
  pub longest : HasReadOrder design → IsTrue (is_read_order design order)

-- all combinational signals in such an order
pub record IsWholeOrder (design : FlatDesign) (order : List ℕ) : Type 0 where
  pub is_order : IsTrue (is_read_order design order)
  pub combinational : (s : ℕ) → Contains order s → IsTrue (is_combinational design s)
  pub differ : IsTrue (all_differ order)

-- the order is such a one of some design with these tables
abbrev pub HasWholeOrder : SignalReads → List ℕ → Type 0
HasWholeOrder reads order =
    (design : FlatDesign) × AreReads design reads × IsWholeOrder design order

-- ---- signals that go into an order

-- how many combinational signals are read for one
abbrev pub comb_count : SignalReads → ℕ → ℕ
comb_count reads s = length (filter (is_marked reads.combs.items) (row reads.reads s))

-- all reads are open, and combinational signals with none are in the order
pub record Begins (reads : SignalReads) (queue : Queue) : Type 0 where
  pub count : length queue.counts.items ≡ size reads.reads
  pub open_is : (s : ℕ) → s < size reads.reads → open_at queue s ≡ comb_count reads s
  pub order_is : ordered queue ≡ filter (λ s.
      is_marked reads.combs.items s && (comb_count reads s == 0))
      (range_with_len 0 (size reads.reads))

-- ---- circles

-- the table has every signal that a circle begins at
abbrev pub HasBegins : FlatDesign → List Bool → Type 0
HasBegins design table =
    (first : ℕ) (signals : List ℕ) → IsTrue (is_circle design (first ∷ signals))
    → IsTrue (is_marked table first)
