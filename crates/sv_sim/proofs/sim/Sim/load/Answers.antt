use Rattle.std.proofs.Common.{◌≡◌, ℕ, false, List, length, sym, ap, subst, ◌∙◌}
use Rattle.sv_flat.specs.declared.signals.Signal.{Signal}
use Rattle.sv_flat.specs.ByNumber.{by_number, signal_forms, FitSignals}
use Rattle.sv_flat.specs.Processes.{is_register}
use Rattle.sv_flat.specs.Views.{design_of}
use Rattle.sv_design.specs.Numbers.{numbers}
use Rattle.sv_flat.specs.Given.{with_given}
use Rattle.sv_sim.specs.Simulations.{IsSimulation}
use Rattle.sv_sim.proofs.OneDesign.{register_no_clock}
use Rattle.sv_sim.proofs.Simulated.{written, numbers_within, given_simulation}
use Rattle.sv_sim.proofs.sim.Sim.load.Goals as goal

pub put_listed-requires-clause-known : goal.put_listed-requires-clause-known
put_listed-requires-clause-known c =
    let flat = c.self.inside.design.now in
    numbers_within flat c.signals-signals.result.now c.signals-signals.ensures.signals
    (is_register (design_of flat)) c.registers.result.now c.registers.ensures.registers

pub invariant_of-self : goal.invariant_of-self
invariant_of-self c =
    let now = c.self.inside in
    let design = design_of now.design.now in
    let fine = c.registers.ensures.design in
    let new = c.put_listed.new.values in
    let whole = written now.values.len new now.values.items
    (c.put_listed.auto.values ∙ c.deref_mut.ensures.len) in
    let fit = subst (λ (ss : List Signal). FitSignals (signal_forms ss) new)
    c.signals-signals.ensures.signals c.put_listed.ensures.fit in
    let put : by_number new ≡
    with_given (numbers c.registers.result.now) c.args.regs.now (by_number now.values.items) =
    c.put_listed.ensures.given
    ∙ ap (λ vs. with_given (numbers c.registers.result.now) c.args.regs.now (by_number vs))
    c.deref_mut.ensures.value in
    let loaded = given_simulation design (is_register design)
    (register_no_clock design fine.is_sound fine.is_admitted) (numbers c.registers.result.now)
    c.args.regs.now now.values.items new now.is_settled c.registers.ensures.registers
    c.self.invariant.0 fit put in
    let size = c.self.invariant.1
    ∙ sym (c.put_listed.auto.values ∙ ap length c.deref_mut.ensures.value) in
    let both = subst (λ (vs : List ℕ).
    IsSimulation design vs false × (length now.next.items ≡ length vs)) (sym whole)
    (loaded, size) in
    (both.0, both.1, c.self.invariant.2)
