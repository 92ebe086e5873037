-- Values given to the signals of a list, as a start gives them to the registers and a cycle to the
-- inputs.
use Rattle.std.specs.Prelude.{◌≡◌, ℕ, ◌^◌, ◌<◌, List, length, slice_index}
use Rattle.std.specs.List.{zip}
use Rattle.sv_system.specs.System.{Environment}
use Rattle.sv_flat.specs.Design.{SignalForm}
use Rattle.sv_flat.specs.Values.{signal_width}
use Rattle.sv_flat.specs.ByNumber.{updated}

-- one value for each listed signal, in order, each of its signal's width
pub record FitListed (signals : List SignalForm) (listed values : List ℕ) : Type 0 where
  pub count : length values ≡ length listed
  pub each : (k : ℕ) → k < length listed →
      slice_index values k < 2 ^ signal_width signals (slice_index listed k)

-- the environment with each listed signal at the value that is given for it
abbrev pub with_given : (listed values : List ℕ) → Environment ℕ → Environment ℕ
with_given listed values environment = updated environment (zip listed values)

-- the environment in which each listed signal has the value that is given for it, and every other
-- signal 0
abbrev pub given : (listed values : List ℕ) → Environment ℕ
given listed values = with_given listed values (λ s. 0)
