use Rattle.std.proofs.Common.{◌<◌, ◌&&◌, sym, ap, subst, ◌∙◌}
use Rattle.std.specs.Prelude.{Contains, filter}
use Rattle.sv_flat.specs.Sets.{holds}
use Rattle.sv_flat.proofs.Depths.{first_of}
use Rattle.sv_flat.proofs.LeastSets.{holds-from_Contains, Contains-from_filter}
use Rattle.sv_graph.specs.Marks.{is_marked}
use Rattle.sv_design.specs.Numbers.{numbers}
use Rattle.sv_graph.proofs.GraphFacts.{row_reached}
use Rattle.sv_design.proofs.ReaderFacts.{marked_within, reader_more}
use Rattle.sv_design.proofs.orders.comb_readers.Goals as goal

pub combs_among-requires : goal.combs_among-requires
combs_among-requires c = λ k at.
    let reads = c.args.reads.now in
    let reader = c.loop-reader.reader in
    let is = row_reached reads c.deref-row-items.result.now reader c.row-item.result
    c.deref.result.now c.deref-row-items.ensures.value c.loop-reader-test.true c.row-item.is
    c.deref.ensures.value in
    subst (λ n. k < n) (sym c.requires.size)
    (c.requires.whole reader k (ap (λ r. holds r k) (sym is)
    ∙ holds-from_Contains (numbers c.deref.result.now) k at))

pub add_sources-requires : goal.add_sources-requires
add_sources-requires c = λ k at.
    let combs = c.args.combs.now in
    let is_comb = is_marked combs c.loop-reader.reader in
    let sources = ap numbers c.deref-in-loop-reader.ensures.value ∙ c.in_ok-sources.ensures in
    let passed = (Contains-from_filter (λ a. is_marked combs a && is_comb)
    (numbers c.deref.result.now) k (subst (λ ks. Contains ks k) sources at)).0 in
    subst (λ n. k < n) (c.requires.size ∙ sym c.loop-reader.invariant.0)
    (marked_within combs k (first_of (is_marked combs k) is_comb passed))

pub loop-reader-preserved : goal.loop-reader-preserved
loop-reader-preserved c =
    let combs = c.args.combs.now in
    let reads = c.args.reads.now in
    let reader = c.loop-reader.reader in
    let is = row_reached reads c.deref-row-items.result.now reader c.row-item.result
    c.deref.result.now c.deref-row-items.ensures.value c.loop-reader-test.true c.row-item.is
    c.deref.ensures.value in (
      c.in_ok-add_sources.ensures.size ∙ c.loop-reader.invariant.0,
      reader_more combs reads c.loop-reader.readers c.add_sources.new.self
          (numbers c.deref-in-loop-reader.result.now) reader c.loop-reader.invariant.1
          (ap numbers c.deref-in-loop-reader.ensures.value ∙ c.in_ok-sources.ensures
          ∙ ap (filter (λ a. is_marked combs a && is_marked combs reader)) is)
          c.in_ok-add_sources.ensures.adds,
    )
