use Rattle.std.proofs.Common.{◌≡◌, length, drop}
use Rattle.sv_flat.specs.Assigned.{assigns}
use Rattle.sv_flat.specs.Views.{flat_statements, chain_of}
use Rattle.sv_rules.specs.DriverTables.{IsSoundOver}
use Rattle.sv_rules.proofs.NoteFacts.{NotesSoFar}
use Rattle.sv_rules.proofs.drivers.+note_targets.Given as goal

abbrev pub invariant-note_all-loop-stmt : goal.invariant-note_all-loop-stmt
invariant-note_all-loop-stmt l =
    let n = length l.initial.drivers.first.items in
    let left = chain_of (flat_statements (drop l.stmt-index l.stmts)) in
    (length l.drivers.first.items ≡ n) × (length l.drivers.second.items ≡ n) × IsSoundOver n left
    × NotesSoFar n l.driver l.initial.drivers l.drivers
    (assigns (chain_of (flat_statements l.stmts))) (assigns left)
