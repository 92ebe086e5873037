use Rattle.std.proofs.Common.{◌∙◌}
use Rattle.sv_flat.specs.Clocks.{is_clock}
use Rattle.sv_design.proofs.Lookups.{inside_table, found_in_table}
use Rattle.sv_design.proofs.design.Design.is_clock.Goals as goal

pub bounds-clocks-s : goal.bounds-clocks-s
bounds-clocks-s c =
    inside_table is_clock _ _ _ _ c.self.view_is (c.as_slice-clocks.ensures.value
    ∙ c.self.invariant.1.clocks_are) c.requires

pub returns-clause-clock : goal.returns-clause-clock
returns-clause-clock c =
    found_in_table is_clock _ _ _ _ _ c.self.view_is (c.as_slice-clocks.ensures.value
    ∙ c.self.invariant.1.clocks_are) c.requires
