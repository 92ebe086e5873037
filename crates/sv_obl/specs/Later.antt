-- Private: how the code goes. How names are read where some bits can be assigned later.
use Rattle.std.specs.Prelude.{ℕ, List, if◌then◌else◌}
use Rattle.sv_flat.specs.Design.{SignalForm}
use Rattle.sv_flat.specs.Readings.{ReadForm, BitSet, some_bit_read}
use Rattle.sv_obl.specs.Wanted.{copy_of}

-- the number of a name where some bits can be assigned later: its signal's, or that of the copy
abbrev pub marked_name : List SignalForm → (follows : BitSet) → ReadForm → ℕ
marked_name signals follows r =
    if some_bit_read signals r (follows r.signal) then copy_of signals r.signal else r.signal
