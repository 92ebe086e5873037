use Rattle.std.proofs.Common.{sym, subst, ◌∙◌}
use Rattle.std.specs.Prelude.{IsSome}
use Rattle.sv_flat.specs.Views.{design_of}
use Rattle.sv_sim.proofs.Simulated.{has_driver, driver_is}
use Rattle.sv_sim.proofs.settling.driver.Goals as goal

pub unwrap-requires : goal.unwrap-requires
unwrap-requires c =
    let fine = c.driver.ensures.design in
    subst IsSome (sym c.driver.ensures.driver)
    (has_driver (design_of c.args.design.now) fine.is_sound fine.is_admitted c.args.signal.0
    c.requires)

pub returns-clause-driver : goal.returns-clause-driver
returns-clause-driver c =
    let fine = c.driver.ensures.design in
    driver_is (design_of c.args.design.now) fine.is_sound fine.is_admitted c.args.signal.0
    c.unwrap.result c.requires (sym c.driver.ensures.driver ∙ c.unwrap.ensures)
