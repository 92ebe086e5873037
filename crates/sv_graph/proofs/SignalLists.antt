-- Signals in a list, by their places.
use Rattle.std.proofs.Common.{ℕ, ◌<◌, List, length, get_or}
use Rattle.std.specs.Prelude.{Contains}
use Rattle.std.proofs.lemmas.List.Elements.{Contains-get_or}
use Rattle.sv_system.proofs.Lists.{Contains-map}
use Rattle.sv_flat.specs.declared.signals.SigId.{SigId}
use Rattle.sv_graph.specs.Numbers.{numbers}

-- what a read past the end of signals gives
abbrev pub no_signal : SigId
no_signal = record { 0 = 0 }

-- the number of the signal at a place is one of the list's
pub number_among : (signals : List SigId) (i : ℕ) → i < length signals →
    Contains (numbers signals) (get_or signals i no_signal).0
number_among signals i inside =
    Contains-map (λ (s : SigId). s.0) signals (get_or signals i no_signal)
    (Contains-get_or signals i no_signal inside)
