use Rattle.std.proofs.Common.{◌≡◌, ℕ, ◌<◌, sym, ap, subst, ◌∙◌, arith}
use Rattle.std.specs.Prelude.{IsTrue}
use Rattle.sv_flat.specs.Sets.{those}
use Rattle.sv_flat.proofs.LeastSets.{from_some, those_pass}
use Rattle.sv_graph.specs.BitGraphs.{in_row, size, has_edge}
use Rattle.sv_graph.proofs.BitRows.{row_at, edge_inside}
use Rattle.sv_graph.proofs.Ways.{ways_led}
use Rattle.sv_graph.proofs.bit_graphs.BitGraph.lead_by.Goals as goal

pub returns-clause-ways : goal.returns-clause-ways
returns-clause-ways c = λ so_far.
    let self = c.args.self.now in
    let first = c.args.first.now in
    let from = c.args.from in
    let n = size self in
    let count : c.len.result ≡ n = c.len.ensures ∙ self.rows.ok.0 in
    let known : from < n = omega (arith, c.if-from-len.false, count) in
    let inside : from < size first = subst (λ k. from < k) (sym c.requires.first.0) known in
    let is = c.deref.ensures.value ∙ row_at first from c.index.result.now inside c.index.ensures in
    let within : (a b : ℕ) → IsTrue (has_edge first a b) → a < n =
    λ a b h. subst (λ k. a < k) c.requires.first.0 (edge_inside first a b h) in
    let targets = c.deref.result.now in
    let led = c.deref-2.result.now in
    ways_led n (has_edge first) (has_edge self) (has_edge c.add_row.new.self) from (in_row led)
    within c.add_row.ensures.gains
    (λ b h.
    let found = from_some (λ m. has_edge self m b) (those n (in_row targets))
    (sym (ap (λ xs. in_row xs b) c.deref-2.ensures.value ∙ c.in_ok-led.ensures.bits b) ∙ h) in (
      found.0,
      sym (ap (λ xs. in_row xs found.0) is)
          ∙ those_pass n (in_row targets) found.0 found.1,
      found.2,
    ))
    so_far
