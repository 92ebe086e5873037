-- Values of signals by number: the first value is that of signal 0.
use Rattle.std.specs.Prelude.{◌≡◌, ℕ, ◌^◌, ◌<◌, ◌≤◌, Bool, true, false, ◌==◌, ◌&&◌, not, List, []}
use Rattle.std.specs.Prelude.{◌∷◌, length, map, slice_index}
use Rattle.sv_system.specs.System.{Environment, last_update}
use Rattle.sv_flat.specs.declared.signals.Signal.{Signal}
use Rattle.sv_flat.specs.Design.{SignalForm, FlatStatement, nothing, after, assign, branch}
use Rattle.sv_flat.specs.Runs.{Updates}
use Rattle.sv_flat.specs.Values.{signal_width}
use Rattle.sv_flat.specs.Views.{signal_form}

-- the plain forms of signals, in order
abbrev pub signal_forms : List Signal → List SignalForm
signal_forms signals = map signal_form signals

-- the environment in which each signal has the value of its number, and 0 where there is none
abbrev pub by_number : List ℕ → Environment ℕ
by_number values s = slice_index values s

-- one value for each signal, of the signal's width
pub record FitSignals (signals : List SignalForm) (values : List ℕ) : Type 0 where
  pub count : length values ≡ length signals
  pub each : (s : ℕ) → s < length signals → slice_index values s < 2 ^ signal_width signals s

-- no signal has more bits than a word
abbrev pub AreWords : List SignalForm → Type 0
AreWords signals = (s : ℕ) → s < length signals → signal_width signals s ≤ 64

-- the environment in which these updates are made
abbrev pub updated : Environment ℕ → Updates → Environment ℕ
updated environment updates s = last_update ◌==◌ s (environment s) updates

-- every assignment of something is `<=`
abbrev pub is_nonblocking : FlatStatement → Bool
is_nonblocking nothing = true
is_nonblocking (after first second) = is_nonblocking first && is_nonblocking second
is_nonblocking (assign [] place blocking right) = true
is_nonblocking (assign (piece ∷ pieces) place blocking right) = not blocking
is_nonblocking (branch place condition first second) = is_nonblocking first && is_nonblocking second

abbrev pub is_branch : FlatStatement → Bool
is_branch (branch place condition first second) = true
is_branch _ = false
