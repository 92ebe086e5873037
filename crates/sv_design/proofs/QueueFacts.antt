-- The tables that orders are found with, and the signals that go into an order.
use Rattle.std.proofs.Common.{◌≡◌, ℕ, suc, ◌+◌, ◌-◌, ◌<◌, ◌≤◌, Bool, true, false, cond}
use Rattle.std.proofs.Common.{not, ◌&&◌, ◌||◌, ◌==◌, List, [], ◌∷◌, ◌++◌, length, take, drop}
use Rattle.std.proofs.Common.{get_or, ⊎_elim, refl, sym, ap, ap₂, subst, ◌∙◌, arith}
use Rattle.std.proofs.Common.{Vec, Global}
use Rattle.std.specs.Prelude.{IsTrue, IsFalse, Contains, filter}
use Rattle.std.specs.List.{range_with_len}
use Rattle.std.proofs.lemmas.Bool.{or_left}
use Rattle.std.proofs.lemmas.List.{length_push, get_or_push, get_or_append_left}
use Rattle.std.proofs.lemmas.List.{length-append}
use Rattle.std.proofs.lemmas.List.{take_more, take-append-le}
use Rattle.std.proofs.lemmas.List.{take-append-drop}
use Rattle.std.proofs.lemmas.List.Elements.{Contains-get_or}
use Rattle.std.proofs.Math.ListN.{length-map}
use Rattle.sv_system.proofs.Ranks.{filter_lt}
use Rattle.sv_flat.specs.Design.{FlatDesign}
use Rattle.sv_flat.specs.Reads.{is_combinational, is_read_for, reads_for}
use Rattle.sv_flat.specs.Sets.{holds}
use Rattle.sv_flat.specs.declared.signals.SigId.{SigId}
use Rattle.sv_flat.proofs.Depths.{first_of, second_of, is_below}
use Rattle.sv_flat.proofs.LeastSets.{holds-from_Contains}
use Rattle.sv_flat.proofs.LeastSets.{range_has, those_below}
use Rattle.sv_graph.specs.declared.queues.Queue.{Queue}
use Rattle.sv_design.specs.declared.orders.SignalReads.{SignalReads}
use Rattle.sv_graph.specs.Graphs.{size, row, has_edge}
use Rattle.sv_graph.specs.Marks.{is_marked}
use Rattle.sv_design.specs.Numbers.{numbers}
use Rattle.sv_design.specs.Orders.{AreReads}
use Rattle.sv_graph.specs.Queues.{ordered, open_at, Settles}
use Rattle.sv_design.specs.Orders.{comb_count, Begins}
use Rattle.sv_graph.proofs.Differing.{holds-append, filter_same, fresh}
use Rattle.sv_graph.proofs.GraphFacts.{row_is}
use Rattle.sv_design.proofs.ReaderFacts.{row_from, rows_size, rows_below}
use Rattle.sv_design.proofs.ReadOrders.{is_open, pending, Queued, queued_comb, queue_begins}
use Rattle.sv_design.proofs.ReadOrders.{queue_more, some_open}
use Rattle.sv_graph.proofs.SearchFacts.{below_or_at}
use Rattle.sv_graph.proofs.QueueFacts.{number_at, held_last}
use Rattle.sv_rules.proofs.TableFacts.{filter_within}

-- ---- the tables

module _ (design : FlatDesign) (reads : SignalReads) (are : AreReads design reads) where
  abbrev n : ℕ
  n = length design.signals

  pub reads_size : size reads.reads ≡ n
  reads_size = rows_size design reads.reads are.reads_are

  pub row_for : (s : ℕ) → s < n → row reads.reads s ≡ reads_for design s
  row_for = row_from design reads.reads are.reads_are

  pub marked_is : (s : ℕ) → s < n → is_marked reads.combs.items s ≡ is_combinational design s
  marked_is = are.combs_are.1

  pub edges_inside : (a b : ℕ) → IsTrue (has_edge reads.reads a b) → b < n
  edges_inside = rows_below design reads.reads are.reads_are

  pub readers_inside : (a b : ℕ) → IsTrue (has_edge reads.readers a b) → b < n
  readers_inside a b h =
      is_below design b
      (second_of (is_combinational design a) (is_combinational design b)
      (first_of (is_combinational design a && is_combinational design b) (is_read_for design b a)
      (sym (are.readers_are a b) ∙ h)))

  -- at first all combinational reads are open
  pub count_is : (s : ℕ) → s < n → comb_count reads s ≡ pending design [] s
  count_is s below =
      ap (λ r. length (filter (is_marked reads.combs.items) r)) (row_for s below)
      ∙ ap length (filter_same (is_marked reads.combs.items) (is_open design [])
      (reads_for design s) (λ r at.
      marked_is r (those_below n (is_read_for design s) r at)
      ∙ and_all (is_combinational design r)))
    where
      and_all : (b : Bool) → b ≡ (b && true)
      and_all true = refl
      and_all false = refl

  pub first_queued : (queue : Queue) → Begins reads queue → Queued design [] (ordered queue)
      (open_at queue)
  first_queued queue begins =
      queue_begins design (ordered queue) (open_at queue)
      (begins.order_is
      ∙ ap (λ k. filter (λ s.
      is_marked reads.combs.items s && (comb_count reads s == 0)) (range_with_len 0 k)) reads_size
      ∙ filter_within (λ s. is_marked reads.combs.items s && (comb_count reads s == 0)) (λ s.
      is_combinational design s && (pending design [] s == 0)) 0 n (λ s below.
      let inside : s < n = omega arith in
      ap₂ (λ b k. b && (k == 0)) (marked_is s inside) (count_is s inside)))
      (λ s comb.
      let inside = is_below design s comb in
      begins.open_is s (subst (λ k. s < k) (sym reads_size) inside) ∙ count_is s inside)

-- ---- a signal more is looked at

-- as many signals pass a test as their numbers do
pub counted : (test : ℕ → Bool) (signals : List SigId) →
    length (filter (λ (s : SigId). test s.0) signals) ≡ length (filter test (numbers signals))
counted test [] = refl
counted test (x ∷ xs) =
    kept (test x.0) (filter (λ (s : SigId). test s.0) xs) (filter test (numbers xs))
    (counted test xs)
  where
    kept : (b : Bool) (ss : List SigId) (ks : List ℕ) → length ss ≡ length ks
        → length (cond b (x ∷ ss) ss) ≡ length (cond b (x.0 ∷ ks) ks)
    kept true ss ks same = ap suc same
    kept false ss ks same = same

-- ---- the signals that are not looked at yet

abbrev pub unseen : (n : ℕ) → (done : List ℕ) → ℕ
unseen n done = length (filter (λ s. not (holds done s)) (range_with_len 0 n))

pub fewer_unseen : (n : ℕ) (done : List ℕ) (s : ℕ) → s < n → IsFalse (holds done s) →
    unseen n (done ++ s ∷ []) < unseen n done
fewer_unseen n done s below out =
    filter_lt (λ k. not (holds (done ++ s ∷ []) k)) (λ k. not (holds done k))
    (λ k h.
    weaker (holds done k) (holds (s ∷ []) k) (ap not (sym (holds-append done (s ∷ []) k)) ∙ h))
    (range_with_len 0 n) s (range_has n s below) (ap not (held_last done s)) (ap not out)
  where
    weaker : (a b : Bool) → IsTrue (not (a || b)) → IsTrue (not a)
    weaker true b h = h
    weaker false b h = refl

-- ---- the next signal of the order

module _ (design : FlatDesign) (reads : SignalReads) (are : AreReads design reads) (old : Queue)
    (next : ℕ) (queued : Queued design (take next (ordered old)) (ordered old) (open_at old))
    (inside : next < length (ordered old)) where
  abbrev pub now_done : List ℕ
  now_done = take next (ordered old)

  abbrev pub signal : ℕ
  signal = get_or (ordered old) next 0

  pub signal_comb : IsTrue (is_combinational design signal)
  signal_comb =
      queued_comb design now_done (ordered old) (open_at old) queued signal
      (Contains-get_or (ordered old) next 0 inside)

  pub signal_new : IsFalse (holds now_done signal)
  signal_new = fresh (ordered old) next inside queued.differ

  abbrev readers : List ℕ
  readers = row reads.readers signal

  held_whole : (i : ℕ) (xs : List ℕ) (t : ℕ) → IsTrue (holds (take i xs) t) → IsTrue (holds xs t)
  held_whole i xs t h =
      ap (λ ys. holds ys t) (sym (take-append-drop i xs))
      ∙ holds-append (take i xs) (drop i xs) t
      ∙ or_left (holds (take i xs) t) (holds (drop i xs) t) h

  seen_is : take (next + 1) (ordered old) ≡ now_done ++ signal ∷ []
  seen_is = take_more (ordered old) next 0 inside

  seen_ordered : (t : ℕ) → IsTrue (holds (now_done ++ signal ∷ []) t) →
      IsTrue (holds (ordered old) t)
  seen_ordered t h =
      held_whole (next + 1) (ordered old) t (ap (λ ys. holds ys t) seen_is ∙ h)

  -- each signal that it is read for has an open read
  pub readers_open : (t : ℕ) → Contains readers t → 0 < open_at old t
  readers_open t at =
      some_open design now_done (ordered old) (open_at old) (λ s.
      open_at old s - cond (holds readers s) 1 0) readers signal queued signal_comb signal_new
      (are.readers_are signal) (are.once signal) (λ s. refl) seen_ordered t
      (holds-from_Contains readers t at)

  module _ (new : Queue) (settles : Settles old new readers) where
    pub done_is : take (next + 1) (ordered new) ≡ now_done ++ signal ∷ []
    done_is =
        ap (take (next + 1)) settles.order_is
        ∙ take-append-le (next + 1) (ordered old) (filter (λ s. open_at old s == 1) readers)
        (omega arith)
        ∙ seen_is

    pub next_queued : Queued design (take (next + 1) (ordered new)) (ordered new) (open_at new)
    next_queued = subst (λ done. Queued design done (ordered new) (open_at new)) (sym done_is)
        (subst (λ order. Queued design (now_done ++ signal ∷ []) order (open_at new))
        (sym settles.order_is)
        (queue_more design now_done (ordered old) (open_at old) (open_at new) readers signal queued
        signal_comb signal_new (are.readers_are signal) (are.once signal) settles.open_is
        seen_ordered))

    pub fewer_left : (n : ℕ) → length design.signals ≡ n →
        unseen n (take (next + 1) (ordered new)) < unseen n now_done
    fewer_left n size = subst (λ done. unseen n done < unseen n now_done) (sym done_is)
        (fewer_unseen n now_done signal (subst (λ k. signal < k) size
        (is_below design signal signal_comb)) signal_new)

    pub still_inside : next + 1 ≤ length (ordered new)
    still_inside =
        let more = ap length settles.order_is
        ∙ length-append (ordered old) (filter (λ s. open_at old s == 1) readers) in
        omega arith

-- the signal at a place of the order, and those that it is read for
module _ (reads : SignalReads) (queue : Queue) (next : ℕ) (s : SigId)
    (inside : next < length queue.order.items) (is : s ≡ get_or queue.order.items next s) where
  pub in_order : next < length (ordered queue)
  in_order = subst (λ n. next < n) (sym (length-map queue.order.items (λ (z : SigId). z.0))) inside

  pub is_signal : get_or (ordered queue) next 0 ≡ s.0
  is_signal = number_at queue.order.items next s inside ∙ ap (λ (z : SigId). z.0) (sym is)

  pub signal_inside : (design : FlatDesign) → AreReads design reads
      → Queued design (take next (ordered queue)) (ordered queue) (open_at queue)
      → s.0 < size reads.readers
  signal_inside design are queued =
      subst (λ n. s.0 < n) (sym are.readers_size)
      (subst (λ k. k < length design.signals) is_signal
      (is_below design (get_or (ordered queue) next 0)
      (signal_comb design reads are queue next queued in_order)))

  pub readers_are : (design : FlatDesign) → AreReads design reads
      → Queued design (take next (ordered queue)) (ordered queue) (open_at queue)
      → (v : Vec SigId Global) (slice : List SigId) → slice ≡ v.items
      → v ≡ get_or reads.readers.rows.items s.0 v
      → numbers slice ≡ row reads.readers (get_or (ordered queue) next 0)
  readers_are design are queued v slice same is_row =
      ap numbers same
      ∙ row_is reads.readers s.0 v (signal_inside design are queued) is_row
      ∙ ap (row reads.readers) (sym is_signal)

-- ---- counts

-- one signal more
pub counts_more : (counts new : List ℕ) (n count : ℕ) (of : ℕ → ℕ) → length counts ≡ n
    → ((k : ℕ) → k < n → get_or counts k 0 ≡ of k) → count ≡ of n
    → new ≡ counts ++ count ∷ []
    → (length new ≡ n + 1) × ((k : ℕ) → k < n + 1 → get_or new k 0 ≡ of k)
counts_more counts new n count of size has is gains = (
  ap length gains ∙ length_push counts count ∙ ap (λ k. k + 1) size,
  λ k below. ap (λ cs. get_or cs k 0) gains ∙ ⊎_elim
      (λ l. get_or_append_left counts (count ∷ []) 0 k (subst (λ m. k < m) (sym size) l) ∙ has k l)
      (λ e. get_or_push counts count 0 k (size ∙ e) ∙ is ∙ ap of e)
      (below_or_at k n below),
)
