-- The names of signals, by their numbers.
use Rattle.std.specs.Prelude.{ℕ, List}
use Rattle.sv_flat.specs.Design.{SignalForm}
use Rattle.sv_flat.specs.Values.{signal_of}

abbrev pub name_of : List SignalForm → ℕ → List ℕ
name_of signals s = (signal_of signals s).name
