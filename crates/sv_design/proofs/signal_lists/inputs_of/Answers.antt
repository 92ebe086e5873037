use Rattle.std.proofs.Common.{◌≡◌, ◌&&◌, not, false, length, get_or, ap, ◌∙◌, arith}
use Rattle.std.proofs.Math.ListN.{length-map}
use Rattle.std.specs.List.{range_with_len}
use Rattle.std.specs.Prelude.{filter}
use Rattle.sv_flat.specs.Clocks.{is_clock}
use Rattle.sv_flat.specs.Processes.{is_top_input}
use Rattle.sv_flat.specs.Views.{design_of, signal_form}
use Rattle.sv_rules.proofs.DriverFacts.{clock_at, top_and_clock}
use Rattle.sv_rules.proofs.TableFacts.{table_more, listed_are}
use Rattle.sv_design.proofs.signal_lists.inputs_of.Goals as goal

pub bounds-clocks-s : goal.bounds-clocks-s
bounds-clocks-s c =
    clock_at c.args.flat.now c.deref-signal-items.ensures.value c.loop-s-test.true c.requires.clocks

pub loop-s-preserved : goal.loop-s-preserved
loop-s-preserved c =
    let design = design_of c.args.flat.now in
    let i = c.loop-s.s in
    table_more i c.loop-s.table.items c.push.new.self.items (λ s.
    is_top_input design s && not (is_clock design s)) c.is_input.result c.loop-s.invariant
    (c.is_input.ensures
    ∙ top_and_clock (λ t k. t && not k) c.args.flat.now c.deref-signal-items.result.now
    c.args.clocks.now i c.signal-item.result c.is_top.result c.deref-signal-items.ensures.value
    c.loop-s-test.true c.signal-item.is c.requires.clocks c.is_top.ensures)
    c.in_ok-push.ensures.items

pub returns : goal.returns
returns c =
    let design = design_of c.args.flat.now in
    let count = length-map c.args.flat.now.signals.items signal_form in
    let most = c.loop-s.auto.s-end in
    let same : length design.signals ≡ c.loop-s.s =
    omega (arith, c.loop-s-test.false, ap length c.deref-signal-items.ensures.value) in
    c.in_ok-signals.ensures
    ∙ ap (λ ts. filter (λ s. get_or ts s false) (range_with_len 0 (length ts)))
    c.deref.ensures.value
    ∙ listed_are c.loop-s.s c.loop-s.table.items (λ s.
    is_top_input design s
    && not (is_clock design s)) (length design.signals) c.loop-s.invariant same
