use Rattle.std.proofs.Common.{◌<◌, ◌||◌, not, false, length, get_or, ap, subst, ◌∙◌}
use Rattle.std.proofs.Common.{nat_lt, lt-ltb}
use Rattle.sv_flat.specs.Clocks.{is_clock}
use Rattle.sv_flat.specs.Processes.{is_top_input, is_register}
use Rattle.sv_flat.specs.Reads.{is_combinational}
use Rattle.sv_flat.specs.Views.{design_of, signal_form}
use Rattle.std.proofs.Math.ListN.{length-map}
use Rattle.sv_rules.proofs.DriverFacts.{inside_design, clock_at, top_and_clock}
use Rattle.sv_rules.proofs.TableFacts.{table_more, and_left}
use Rattle.sv_design.proofs.registers.comb_table.Goals as goal

pub bounds-clocks-s : goal.bounds-clocks-s
bounds-clocks-s c =
    clock_at c.args.flat.now c.deref-signal-items.ensures.value c.loop-s-test.true c.requires.clocks

pub loop-s-preserved : goal.loop-s-preserved
loop-s-preserved c =
    let flat = c.args.flat.now in
    let design = design_of flat in
    let i = c.loop-s.s in
    let items = c.deref-signal-items.result.now in
    let same = c.deref-signal-items.ensures.value in
    let inside = inside_design flat items i same c.loop-s-test.true in
    let below = subst (λ n. i < n) (length-map flat.signals.items signal_form) inside in
    let register = c.requires.registers.1 i below in
    table_more i c.loop-s.table.items c.push.new.self.items (is_combinational design)
    c.is_comb.result c.loop-s.invariant
    (c.is_comb.ensures
    ∙ ap (λ r. not (c.is_top.result || r || get_or c.args.clocks.now i false)) register
    ∙ top_and_clock (λ t k. not (t || is_register design i || k)) flat items c.args.clocks.now i
    c.signal-item.result c.is_top.result same c.loop-s-test.true c.signal-item.is c.requires.clocks
    c.is_top.ensures
    ∙ and_left (nat_lt i (length design.signals))
    (not (is_top_input design i || is_register design i || is_clock design i))
    (lt-ltb i (length design.signals) inside))
    c.in_ok-push.ensures.items
