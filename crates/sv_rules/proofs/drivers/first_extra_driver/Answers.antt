use Rattle.std.proofs.Common.{◌+◌, [], cond, get_or, None, sym, ap, ap₂, subst, ◌∙◌}
use Rattle.std.specs.Prelude.{option_map}
use Rattle.std.specs.List.{filter_map, cons_option, range_with_len}
use Rattle.sv_flat.specs.Breaches.{breach}
use Rattle.sv_flat.specs.Design.{SignalForm}
use Rattle.sv_flat.specs.Drivers.{driver_fault}
use Rattle.sv_flat.specs.Processes.{is_top_kind}
use Rattle.sv_flat.specs.Views.{design_of}
use Rattle.sv_rules.specs.declared.drivers.Driver.{Driver}
use Rattle.sv_rules.specs.First.{FindsFirst, first_found}
use Rattle.sv_rules.proofs.DriverFacts.{fault_is, signal_at, inside_design}
use Rattle.sv_graph.proofs.ListFacts.{made_more}
use Rattle.sv_rules.proofs.Firsts.{finds_both}
use Rattle.sv_rules.proofs.drivers.first_extra_driver.Goals as goal

pub loop-i-preserved : goal.loop-i-preserved
loop-i-preserved c =
    let flat = c.args.flat.now in
    let design = design_of flat in
    let i = c.loop-i.i in
    let fault = driver_fault design in
    let top = c.is_top.ensures ∙ ap (λ (s : SignalForm). is_top_kind s.kind)
    (sym (signal_at flat _ i _ c.deref-signal-items.ensures.value c.loop-i-test.true
    c.signal-item.is)) in
    let is = ap (option_map (λ (d : Driver). breach 603 d.place i)) c.extra_of-extra.ensures
    ∙ ap₂ (λ xs ys. option_map (λ (d : Driver).
    breach 603 d.place i) (cond c.is_top.result (get_or xs i None) (get_or ys i None)))
    c.as_slice-first.ensures.value c.as_slice-second.ensures.value
    ∙ fault_is design c.args.drivers.now c.requires.drivers i
    (inside_design flat _ i c.deref-signal-items.ensures.value c.loop-i-test.true)
    c.is_top.result top in
    subst (FindsFirst 603 (filter_map fault (range_with_len 0 (i + 1))))
    (sym c.first_of-found.ensures)
    (subst (λ bs. FindsFirst 603 bs (first_found c.loop-i.found c.extra_at.result))
    (sym (made_more fault i))
    (finds_both (filter_map fault (range_with_len 0 i)) (cons_option (fault i) []) 603
    c.loop-i.found c.extra_at.result c.loop-i.invariant
    (subst (λ o. FindsFirst 603 (cons_option o []) c.extra_at.result) is c.extra_at.ensures)))
