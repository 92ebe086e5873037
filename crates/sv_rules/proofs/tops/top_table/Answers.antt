use Rattle.std.proofs.Common.{sym, ap, ◌∙◌}
use Rattle.sv_flat.specs.Design.{SignalForm}
use Rattle.sv_flat.specs.Processes.{is_top_kind, is_top_input}
use Rattle.sv_flat.specs.Views.{design_of}
use Rattle.sv_rules.proofs.DriverFacts.{signal_at}
use Rattle.sv_rules.proofs.TableFacts.{table_more}
use Rattle.sv_rules.proofs.tops.top_table.Goals as goal

pub loop-signal-preserved : goal.loop-signal-preserved
loop-signal-preserved c =
    let flat = c.args.flat.now in
    let i = c.loop-signal.signal-index in
    let at = signal_at flat c.deref-signal-items.result.now i c.signal-item.result
    c.deref-signal-items.ensures.value c.loop-signal-test.true c.signal-item.is in
    table_more i c.loop-signal.tops.items c.push.new.self.items (is_top_input (design_of flat))
    c.is_top.result c.loop-signal.invariant
    (c.is_top.ensures ∙ ap (λ (s : SignalForm). is_top_kind s.kind) (sym at))
    c.in_ok-push.ensures.items
