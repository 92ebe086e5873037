use Rattle.std.proofs.Common.{◌≡◌, ◌++◌, drop}
use Rattle.sv_flat.specs.ByNumber.{signal_forms}
use Rattle.sv_obl.proofs.body_slices.push_copies.Given as goal

-- the copies so far, and the signals that are left
abbrev pub invariant-loop-signal : goal.invariant-loop-signal
invariant-loop-signal l =
    signal_forms l.copies.items ++ signal_forms (drop l.signal-index l.signals)
    ≡ signal_forms l.initial.copies.items ++ signal_forms l.signals
