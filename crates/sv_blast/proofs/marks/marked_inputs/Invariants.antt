use Rattle.std.proofs.Common.{◌≡◌, map, take}
use Rattle.sv_flat.specs.declared.signals.Signal.{Signal}
use Rattle.sv_flat.specs.Processes.{is_top_kind}
use Rattle.sv_blast.proofs.marks.marked_inputs.Given as goal

abbrev pub invariant-loop-signal : goal.invariant-loop-signal
invariant-loop-signal l =
    l.table.items ≡ map (λ (x : Signal). is_top_kind x.kind) (take l.signal-index l.signal-items)
