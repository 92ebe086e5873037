use Rattle.std.proofs.Common.{subst}
use Rattle.std.specs.Prelude.{Contains}
use Rattle.sv_flat.specs.SignalLists.{system_signals}
use Rattle.sv_flat.specs.Views.{design_of}
use Rattle.sv_sim_run.specs.declared.runners.Runner.{Runner}
use Rattle.sv_sim_run.specs.Runners.{design_in}
use Rattle.sv_sim_run.proofs.runners.Runner.value.Goals as goal

pub value-requires-clause-seen : goal.value-requires-clause-seen
value-requires-clause-seen c =
    subst (λ (run : Runner). Contains (system_signals (design_of (design_in run))) c.args.s.0)
    c.in-Plain.is
    c.requires.seen

pub value-requires-in-Drawn : goal.value-requires-in-Drawn
value-requires-in-Drawn c =
    subst (λ (run : Runner). Contains (system_signals (design_of (design_in run))) c.args.s.0)
    c.in-Drawn.is
    c.requires.seen
