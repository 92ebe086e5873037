use Rattle.std.proofs.Common.{◌&&◌, length, subst, sym}
use Rattle.sv_flat.specs.ByNumber.{by_number}
use Rattle.sv_flat.specs.FlatSystem.{flat_system}
use Rattle.sv_flat.specs.Views.{design_of}
use Rattle.sv_design.specs.Numbers.{numbers, number_if_any}
use Rattle.sv_tworun.specs.Comparisons.{is_given}
use Rattle.sv_tworun.specs.Sights.{differs, FindsFirst}
use Rattle.sv_tworun.proofs.DifferenceFacts.{listed_inside, found_of, later_given, first_given}
use Rattle.sv_tworun.proofs.differences.given_apart.Goals as goal

pub first_apart-input-requires-clause-listed : goal.first_apart-input-requires-clause-listed
first_apart-input-requires-clause-listed c =
    let flat = c.args.design.now in
    listed_inside flat (flat_system (design_of flat)).is_input (numbers c.inputs.result.now)
    c.inputs.ensures.inputs

pub first_apart-register-requires-clause-listed : goal.first_apart-register-requires-clause-listed
first_apart-register-requires-clause-listed c =
    let flat = c.args.design.now in
    listed_inside flat (flat_system (design_of flat)).is_register (numbers c.registers.result.now)
    c.registers.ensures.registers

pub returns-then-cycle-ne0-clause-found : goal.returns-then-cycle-ne0-clause-found
returns-then-cycle-ne0-clause-found c =
    let flat = c.args.design.now in
    let system = flat_system (design_of flat) in
    let test = differs system c.args.level (by_number c.args.first.now)
    (by_number c.args.second.now) in
    let found = number_if_any c.first_apart-input.result in
    later_given system test (length flat.signals.items) c.args.cycle c.if-cycle-ne0.true found
    (found_of flat system.is_input test (numbers c.inputs.result.now) found c.inputs.ensures.inputs
    c.first_apart-input.ensures)

pub returns-clause-found : goal.returns-clause-found
returns-clause-found c =
    let flat = c.args.design.now in
    let system = flat_system (design_of flat) in
    let n = length flat.signals.items in
    let test = differs system c.args.level (by_number c.args.first.now)
    (by_number c.args.second.now) in
    let one = number_if_any c.first_apart-input.result in
    let other = number_if_any c.first_apart-register.result in
    subst (FindsFirst n (λ s. is_given system c.args.cycle s && test s)) (sym c.lower.ensures)
    (first_given system test n c.args.cycle c.if-cycle-ne0.false one other
    (found_of flat system.is_input test (numbers c.inputs.result.now) one c.inputs.ensures.inputs
    c.first_apart-input.ensures)
    (found_of flat system.is_register test (numbers c.registers.result.now) other
    c.registers.ensures.registers c.first_apart-register.ensures))
