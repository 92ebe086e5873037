use Rattle.std.proofs.Common.{◌∙◌}
use Rattle.sv_flat.specs.SignalLists.{driver_of}
use Rattle.sv_design.proofs.Lookups.{inside_table, found_in_table}
use Rattle.sv_design.proofs.design.Design.driver.Goals as goal

pub bounds-drivers-s : goal.bounds-drivers-s
bounds-drivers-s c =
    inside_table driver_of _ _ _ _ c.self.view_is (c.as_slice-drivers.ensures.value
    ∙ c.self.invariant.1.drivers_are) c.requires

pub returns-clause-driver : goal.returns-clause-driver
returns-clause-driver c =
    found_in_table driver_of _ _ _ _ _ c.self.view_is (c.as_slice-drivers.ensures.value
    ∙ c.self.invariant.1.drivers_are) c.requires
