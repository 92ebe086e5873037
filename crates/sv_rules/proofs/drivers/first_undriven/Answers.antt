use Rattle.std.proofs.Common.{not, ◌&&◌, get_or, None, ap, ◌∙◌}
use Rattle.std.specs.Prelude.{is_none}
use Rattle.sv_flat.specs.Clocks.{is_clock}
use Rattle.sv_flat.specs.Drivers.{is_undriven}
use Rattle.sv_flat.specs.Processes.{is_top_input}
use Rattle.sv_flat.specs.Views.{design_of, signal_form}
use Rattle.sv_rules.proofs.DriverFacts.{none_is, signal_at, inside_design, clock_at}
use Rattle.sv_rules.proofs.DriverFacts.{top_and_clock}
use Rattle.sv_rules.proofs.Firsts.{finds_more}
use Rattle.sv_rules.proofs.drivers.first_undriven.Goals as goal

pub bounds-clocks-i : goal.bounds-clocks-i
bounds-clocks-i c =
    clock_at c.args.flat.now c.deref-signal-items.ensures.value c.loop-i-test.true c.requires.clocks

pub loop-i-preserved : goal.loop-i-preserved
loop-i-preserved c =
    let flat = c.args.flat.now in
    let design = design_of flat in
    let i = c.loop-i.i in
    let items = c.deref-signal-items.result.now in
    let same = c.deref-signal-items.ensures.value in
    let at = signal_at flat items i c.signal-item.result same c.loop-i-test.true c.signal-item.is in
    let inside = inside_design flat items i same c.loop-i-test.true in
    let none = ap (λ xs. is_none (get_or xs i None)) c.as_slice-first.ensures.value
    ∙ none_is design c.args.drivers.now c.requires.drivers i inside in
    let is = c.lacks_driver-undriven.ensures
    ∙ top_and_clock (λ t u.
    not t && not u && is_none (get_or c.as_slice-first.result.now i None)) flat items
    c.args.clocks.now i c.signal-item.result c.is_top.result same c.loop-i-test.true
    c.signal-item.is c.requires.clocks c.is_top.ensures
    ∙ ap (λ u. not (is_top_input design i) && not (is_clock design i) && u) none in
    finds_more design 604 (is_undriven design) i (signal_form c.signal-item.result)
    c.lacks_driver-undriven.result c.loop-i.found c.found_if.result c.first_of-found.result at is
    c.first_of-found.ensures c.loop-i.invariant (c.found_if.ensures 604)
