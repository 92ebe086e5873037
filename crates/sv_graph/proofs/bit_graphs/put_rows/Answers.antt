use Rattle.std.proofs.Common.{List, ◌<◌, ◌+◌, ◌||◌, ℕ, length, get_or, drop, sym, ap, subst, ◌∙◌}
use Rattle.std.specs.List.{list_any}
use Rattle.std.specs.Prelude.{Contains}
use Rattle.std.proofs.lemmas.List.{get_or_default}
use Rattle.sv_flat.specs.declared.signals.SigId.{SigId}
use Rattle.sv_graph.specs.BitGraphs.{in_row, size, has_edge}
use Rattle.sv_graph.specs.Numbers.{numbers}
use Rattle.sv_graph.proofs.BitRows.{row_at}
use Rattle.sv_graph.proofs.MarkFacts.{or_three}
use Rattle.sv_graph.proofs.ListFacts.{any_more}
use Rattle.sv_graph.proofs.SignalLists.{no_signal, number_among}
use Rattle.sv_graph.proofs.bit_graphs.put_rows.Goals as goal

-- the number of the signal that is asked for at a place
abbrev asked : List SigId → ℕ → ℕ
asked signals i = (get_or signals i no_signal).0

known : (signals : List SigId) (i n : ℕ) → i < length signals
    → ((m : ℕ) → Contains (numbers signals) m → m < n) → asked signals i < n
known signals i n inside all = all (asked signals i) (number_among signals i inside)

pub index-requires : goal.index-requires
index-requires c =
    let graph = c.args.graph.now in
    let signals = c.args.signals.now in
    let i = c.loop-signal.signal-index in
    subst (λ n. asked signals i < n) (sym graph.rows.ok.0)
    (known signals i (size graph) c.loop-signal-test.true c.requires.signals)

pub put_row-requires : goal.put_row-requires
put_row-requires c =
    let graph = c.args.graph.now in
    let signals = c.args.signals.now in
    let i = c.loop-signal.signal-index in
    let inside = known signals i (size graph) c.loop-signal-test.true c.requires.signals in
    let is = c.deref.ensures.value ∙ row_at graph (asked signals i) c.index.result.now inside
    c.index.ensures in
    ap length is ∙ (c.requires.over.1 (asked signals i) inside).0
    ∙ sym (c.loop-signal.invariant.0 ∙ c.requires.size)

pub loop-signal-preserved : goal.loop-signal-preserved
loop-signal-preserved c =
    let graph = c.args.graph.now in
    let signals = c.args.signals.now in
    let i = c.loop-signal.signal-index in
    let m = asked signals i in
    let inside = known signals i (size graph) c.loop-signal-test.true c.requires.signals in
    let is = c.deref.ensures.value ∙ row_at graph m c.index.result.now inside c.index.ensures in
    let now = c.loop-signal.row in (
      c.put_row.ensures.size ∙ c.loop-signal.invariant.0,
      λ s.
          let leads = λ (k : ℕ). has_edge graph k s in
          let rest = list_any leads (numbers (drop (i + 1) signals)) in
          ap (λ t. t || rest) (c.put_row.ensures.bits s)
          ∙ or_three (in_row now s) (in_row c.deref.result.now s) rest
          ∙ ap (λ xs. in_row now s || (in_row xs s || rest)) is
          ∙ ap (λ t. in_row now s || t) (sym (any_more (λ (k : SigId). k.0) leads signals i
          (get_or signals i no_signal) c.loop-signal-test.true
          (get_or_default signals i no_signal (get_or signals i no_signal)
          c.loop-signal-test.true)))
          ∙ c.loop-signal.invariant.1 s,
    )
