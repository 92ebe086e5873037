use Rattle.sv_flat.proofs.TopClocks.{no_top_no_clock, no_clock_no_top}
use Rattle.sv_flat.proofs.laws.clocks_lead_up_to_a_top_clock.Goals as goal

pub returns : goal.returns
returns c design sound admitted up =
    (no_top_no_clock design sound admitted up, no_clock_no_top design sound admitted up)
