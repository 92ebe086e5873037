use Rattle.std.proofs.Common.{length, sym, ap, subst, arith}
use Rattle.std.proofs.Math.ListN.{length-map}
use Rattle.sv_flat.specs.Design.{SignalForm}
use Rattle.sv_flat.specs.Views.{design_of, signal_form}
use Rattle.sv_design.specs.Orders.{HasBegins}
use Rattle.sv_rules.proofs.DriverFacts.{signal_at, inside_design}
use Rattle.sv_design.proofs.FirstCircles.{all_passed}
use Rattle.sv_design.proofs.loops.first_circle.Goals as goal

pub earlier_circle-requires-clause-tables : goal.earlier_circle-requires-clause-tables
earlier_circle-requires-clause-tables c = (design_of c.args.flat.now, c.requires.reads)

pub earlier_circle-requires-clause-inside : goal.earlier_circle-requires-clause-inside
earlier_circle-requires-clause-inside c =
    let inside = inside_design c.args.flat.now c.deref-signal-items.result.now c.loop-s.s
    c.deref-signal-items.ensures.value c.loop-s-test.true in
    let size = c.requires.reads.combs_are.0 in
    omega arith

pub loop-s-init : goal.loop-s-init
loop-s-init c = c.in_ok-circle.ensures

pub loop-s-preserved : goal.loop-s-preserved
loop-s-preserved c =
    let flat = c.args.flat.now in
    let at = signal_at flat c.deref-signal-items.result.now c.loop-s.s c.signal-item.result
    c.deref-signal-items.ensures.value c.loop-s-test.true c.signal-item.is in
    c.in_ok-next.ensures (design_of flat) c.requires.reads
    (subst (HasBegins (design_of flat)) (sym c.deref-in-loop-s.ensures.value)
    (c.in_ok-begins.ensures (design_of flat) c.requires.reads))
    (sym (ap (λ (z : SignalForm). z.place) at)) c.loop-s.invariant

pub returns : goal.returns
returns c =
    let size = length-map c.args.flat.now.signals.items signal_form in
    let same = ap length c.deref-signal-items.ensures.value in
    let past = c.loop-s-test.false in
    all_passed (design_of c.args.flat.now) c.loop-s.s c.loop-s.circle (omega arith)
    c.loop-s.invariant
