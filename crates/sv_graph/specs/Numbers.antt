-- Signals by their numbers.
use Rattle.std.specs.Prelude.{ℕ, List, map, Option, option_map}
use Rattle.sv_flat.specs.declared.signals.SigId.{SigId}

-- the numbers of the signals
abbrev pub numbers : List SigId → List ℕ
numbers signals = map (λ (s : SigId). s.0) signals

-- the number of the signal, if there is one
abbrev pub number_if_any : Option SigId → Option ℕ
number_if_any signal = option_map (λ (s : SigId). s.0) signal
