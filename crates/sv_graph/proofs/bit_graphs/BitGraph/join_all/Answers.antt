use Rattle.std.proofs.Common.{◌≡◌, ◌<◌, ◌&&◌, ◌||◌, sym, ap, subst, ◌∙◌, arith}
use Rattle.sv_graph.specs.BitGraphs.{in_row, IsRow, size, row, has_edge, IsOver, ClosesUpTo}
use Rattle.sv_graph.proofs.BitRows.{row_at}
use Rattle.sv_graph.proofs.Ways.{ways_more}
use Rattle.sv_graph.proofs.bit_graphs.BitGraph.join_all.Goals as goal

pub loop-middle-init : goal.loop-middle-init
loop-middle-init c =
    (c.requires.over, λ first so_far. so_far)

pub lead_all_on-requires-clause-targets : goal.lead_all_on-requires-clause-targets
lead_all_on-requires-clause-targets c =
    let now = c.loop-middle.self in
    let m = c.loop-middle.middle in
    let known : m < size c.args.self.now =
    subst (λ k. m < k) (c.len-middle-end.ensures ∙ c.args.self.now.rows.ok.0)
    c.loop-middle-test.true in
    let inside : m < size now = subst (λ k. m < k) (sym c.loop-middle.invariant.0.0) known in
    let is = c.deref-in-loop-middle.ensures.value ∙ c.in_ok-targets.ensures ∙ c.deref.ensures.value
    ∙ row_at now m c.index.result.now inside c.index.ensures in
    subst (IsRow (size now)) (sym is)
    (subst (λ k. IsRow k (row now m)) (sym c.loop-middle.invariant.0.0)
    (c.loop-middle.invariant.0.1 m known))

pub loop-middle-preserved : goal.loop-middle-preserved
loop-middle-preserved c =
    let self = c.args.self.now in
    let now = c.loop-middle.self in
    let m = c.loop-middle.middle in
    let known : m < size self =
    subst (λ k. m < k) (c.len-middle-end.ensures ∙ self.rows.ok.0) c.loop-middle-test.true in
    let inside : m < size now = subst (λ k. m < k) (sym c.loop-middle.invariant.0.0) known in
    let is = c.deref-in-loop-middle.ensures.value ∙ c.in_ok-targets.ensures ∙ c.deref.ensures.value
    ∙ row_at now m c.index.result.now inside c.index.ensures in (
      subst (λ k. IsOver k c.lead_all_on.new.self) c.loop-middle.invariant.0.0
          c.lead_all_on.ensures.over,
      λ first so_far.
          ways_more (size self) first (has_edge now) (has_edge c.lead_all_on.new.self) m known
          (λ a b. c.lead_all_on.ensures.gains a b
          ∙ ap (λ xs. has_edge now a b || (has_edge now a m && in_row xs b)) is)
          (c.loop-middle.invariant.1 first so_far),
    )

pub returns-clause-ways : goal.returns-clause-ways
returns-clause-ways c = λ first so_far.
    let self = c.args.self.now in
    let count : c.len-middle-end.result ≡ size self =
    c.len-middle-end.ensures ∙ self.rows.ok.0 in
    let most = c.loop-middle.auto.middle-end in
    let end : c.loop-middle.middle ≡ size self =
    omega (arith, c.loop-middle-test.false, most, count) in
    subst (ClosesUpTo (size self) first (has_edge c.loop-middle.self)) end
    (c.loop-middle.invariant.1 first so_far)
