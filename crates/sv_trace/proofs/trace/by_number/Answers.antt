use Rattle.std.proofs.Common.{rules, ◌≡◌, not, length, sym, ap, ◌∙◌}
use Rattle.std.specs.Prelude.{replicate}
use Rattle.std.proofs.lemmas.List.{length-map}
use Rattle.sv_flat.specs.ByNumber.{by_number, signal_forms}
use Rattle.sv_flat.specs.Clocks.{is_clock}
use Rattle.sv_flat.specs.Views.{design_of, signal_form}
use Rattle.sv_flat.specs.Given.{with_given}
use Rattle.sv_sim.proofs.Simulated.{numbers_within, written}
use Rattle.sv_trace.proofs.Shown.{zeros_fit, given_zeros}
use Rattle.sv_trace.proofs.trace.by_number.Goals as goal

pub put_listed-requires-clause-known : goal.put_listed-requires-clause-known
put_listed-requires-clause-known c =
    let flat = c.args.design.now in
    numbers_within flat c.signals-signals.result.now c.signals-signals.ensures.signals
    (λ s. not (is_clock (design_of flat) s)) c.seen.result.now c.seen.ensures.seen

pub put_listed-requires-clause-fit : goal.put_listed-requires-clause-fit
put_listed-requires-clause-fit c =
    let signals = c.signals-signals.result.now in
    let zero : c.in_ok-table.table.items ≡ replicate (length signals) 0 = search rules in
    zeros_fit (signal_forms signals) c.deref_mut.result.now (length signals)
    (sym (length-map signals signal_form)) (c.deref_mut.ensures.value ∙ zero)

pub returns-clause-given : goal.returns-clause-given
returns-clause-given c =
    let signals = c.signals-signals.result.now in
    let zero : c.in_ok-table.table.items ≡ replicate (length signals) 0 = search rules in
    let values = c.args.values.now in
    let old = c.deref_mut.result.now in
    let new = c.put_listed.new.values in
    λ s.
    ap (λ vs. by_number vs s) (written c.in_ok-table.table.len new c.in_ok-table.table.items
    (c.put_listed.auto.values ∙ c.deref_mut.ensures.len))
    ∙ ap (λ e. e s) c.put_listed.ensures.given
    ∙ ap (λ ns. with_given ns values (by_number old) s) c.seen.ensures.seen
    ∙ given_zeros _ values old (length signals) (c.deref_mut.ensures.value ∙ zero) s
