use Rattle.std.proofs.Common.{◌≡◌, ◌<◌, ◌&&◌, ◌==◌, ◌++◌, ℕ, List, [], ◌∷◌, Vec, Global, cond}
use Rattle.std.proofs.Common.{false, length, sym, ap, ap₂, subst, ◌∙◌, arith}
use Rattle.std.specs.Prelude.{filter}
use Rattle.std.specs.List.{range_with_len}
use Rattle.std.proofs.lemmas.List.{get_or_default}
use Rattle.sv_flat.specs.Design.{FlatDesign}
use Rattle.sv_flat.specs.declared.signals.SigId.{SigId}
use Rattle.sv_graph.specs.Graphs.{size}
use Rattle.sv_graph.specs.Marks.{is_marked}
use Rattle.sv_design.specs.declared.orders.SignalReads.{SignalReads}
use Rattle.sv_design.specs.Orders.{AreReads, comb_count}
use Rattle.sv_graph.proofs.ListFacts.{filter_more}
use Rattle.sv_graph.proofs.GraphFacts.{row_reached}
use Rattle.sv_design.proofs.QueueFacts.{reads_size, counts_more}
use Rattle.sv_design.proofs.orders.first_queue.Goals as goal

-- a row is that of a signal
place_below : (design : FlatDesign) (reads : SignalReads) → AreReads design reads
    → (rows : List (Vec SigId Global)) (s : ℕ) → rows ≡ reads.reads.rows.items → s < length rows
    → s < length design.signals
place_below design reads are rows s same inside =
    subst (λ n. s < n) (reads_size design reads are)
    (subst (λ (rs : List (Vec SigId Global)). s < length rs) same inside)

pub index-requires : goal.index-requires
index-requires c =
    let below = place_below c.requires.0 c.args.reads.now c.requires.1
    c.deref-row-items.result.now c.loop-s.s c.deref-row-items.ensures.value c.loop-s-test.true in
    let same = (c.requires.1).combs_are.0 in
    omega arith

pub overflow_cast-s : goal.overflow_cast-s
overflow_cast-s c =
    let below = place_below c.requires.0 c.args.reads.now c.requires.1
    c.deref-row-items.result.now c.loop-s.s c.deref-row-items.ensures.value c.loop-s-test.true in
    let few = (c.requires.1).few in
    omega arith

pub loop-s-preserved : goal.loop-s-preserved
loop-s-preserved c =
    let are = c.requires.1 in
    let reads = c.args.reads.now in
    let combs = reads.combs.items in
    let s = c.loop-s.s in
    let rows = c.deref-row-items.result.now in
    let below = place_below c.requires.0 reads are rows s c.deref-row-items.ensures.value
    c.loop-s-test.true in
    let is = row_reached reads.reads rows s c.row-item.result c.deref-in-loop-s.result.now
    c.deref-row-items.ensures.value c.loop-s-test.true c.row-item.is
    c.deref-in-loop-s.ensures.value in
    let count : c.comb_count_among-count.result ≡ comb_count reads s =
    c.comb_count_among-count.ensures
    ∙ ap₂ (λ cs r. length (filter (is_marked cs) r)) c.deref.ensures.value is in
    let within : s < length combs = subst (λ n. s < n) (sym (are.combs_are.0)) below in
    let marked : c.index.result.now ≡ is_marked combs s =
    c.index.ensures ∙ get_or_default combs s c.index.result.now false within in
    let counts = counts_more c.loop-s.counts.items c.push.new.self.items s
    c.comb_count_among-count.result (comb_count reads) c.loop-s.invariant.0
    c.loop-s.invariant.1 count c.in_ok-push.ensures.items in (
      counts.0,
      counts.1,
      c.in_ok-push_if.ensures
          ∙ ap₂ (λ xs b. xs ++ cond b (s ∷ []) []) c.loop-s.invariant.2
          (ap₂ (λ m k. m && (k == 0)) marked count)
          ∙ sym (filter_more (λ k. is_marked combs k && (comb_count reads k == 0)) s),
    )

pub returns : goal.returns
returns c =
    let reads = c.args.reads.now in
    let bound = c.loop-s.auto.s-end in
    let past = c.loop-s-test.false in
    let same : c.loop-s.s ≡ length c.deref-row-items.result.now = omega arith in
    let all : c.loop-s.s ≡ size reads.reads = same ∙ ap length c.deref-row-items.ensures.value in
    record {
      count = c.loop-s.invariant.0 ∙ all;
      open_is = λ s inside. c.loop-s.invariant.1 s (subst (λ n. s < n) (sym all) inside);
      order_is = c.loop-s.invariant.2
          ∙ ap (λ n. filter (λ s. is_marked reads.combs.items s && (comb_count reads s == 0))
          (range_with_len 0 n)) all;
    }
