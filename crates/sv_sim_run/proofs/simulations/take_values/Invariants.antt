use Rattle.std.proofs.Common.{◌≡◌, ℕ, ◌<◌, get_or}
use Rattle.sv_flat.specs.SignalLists.{system_signals}
use Rattle.sv_flat.specs.Views.{design_of}
use Rattle.sv_sim_run.specs.Runners.{values_in}
use Rattle.sv_sim_run.proofs.simulations.take_values.Given as goal

-- the first values are those of the first signals
abbrev pub invariant-loop-k : goal.invariant-loop-k
invariant-loop-k l =
    (j : ℕ) → j < l.k →
    get_or l.values j 0 ≡ values_in l.runner (get_or (system_signals (design_of l.design)) j 0)
