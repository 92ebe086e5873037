use Rattle.std.proofs.Common.{◌≡◌, ◌<◌, length, sym, ap, subst, ◌∙◌}
use Rattle.std.specs.Prelude.{Contains, replicate}
use Rattle.std.proofs.lemmas.List.{with_items_is}
use Rattle.sv_flat.proofs.LeastSets.{those_below}
use Rattle.sv_graph.specs.BitGraphs.{in_row, words, IsRow, size}
use Rattle.sv_graph.specs.Numbers.{numbers}
use Rattle.sv_graph.proofs.BitRows.{gained_row}
use Rattle.sv_graph.proofs.bit_graphs.BitGraph.led_from.Goals as goal

pub put_rows-requires-clause-signals : goal.put_rows-requires-clause-signals
put_rows-requires-clause-signals c = λ k at.
    let self = c.args.self.now in
    let signals = ap numbers c.deref.ensures.value ∙ c.in_ok-signals.ensures in
    subst (λ n. k < n) (c.len.ensures ∙ self.rows.ok.0)
    (those_below c.len.result (in_row c.args.row.now) k (subst (λ ks. Contains ks k) signals at))

pub returns-clause-row : goal.returns-clause-row
returns-clause-row c =
    let self = c.args.self.now in
    let count : c.len-2.result ≡ size self = c.len-2.ensures ∙ self.rows.ok.0 in
    let led = c.in_ok-led.led in
    let next = c.put_rows.new.row in
    let items = with_items_is led next
    (c.put_rows.ensures.size ∙ ap length c.deref_mut.ensures.value ∙ sym led.ok.0) in
    subst (IsRow (size self)) (sym items)
    (gained_row (size self) self c.requires.over c.deref_mut.result.now next
    (numbers c.deref.result.now)
    (c.deref_mut.ensures.value ∙ c.in_ok-led.ensures ∙ ap (λ k. replicate (words k) 0) count)
    c.put_rows.ensures.size c.put_rows.ensures.bits)
