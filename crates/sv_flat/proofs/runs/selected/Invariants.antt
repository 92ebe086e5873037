use Rattle.std.proofs.Common.{◌≡◌, ◌≤◌}
use Rattle.std.specs.Prelude.{IsTrue}
use Rattle.sv_flat.specs.declared.statements.FStmt.{size-FStmt}
use Rattle.sv_flat.specs.ByNumber.{signal_forms, by_number, is_nonblocking}
use Rattle.sv_flat.specs.Runs.{Updates, run}
use Rattle.sv_flat.specs.Soundness.{statement_sound}
use Rattle.sv_flat.specs.Views.{flat_statement}
use Rattle.sv_flat.proofs.runs.selected.Given as goal

-- the arm that is left does what the whole statement does
abbrev pub invariant-loop-body : goal.invariant-loop-body
invariant-loop-body l =
    let forms = signal_forms l.signals in
    let e = by_number l.values in
    IsTrue (statement_sound forms (flat_statement l.body))
    × (IsTrue (is_nonblocking (flat_statement l.initial.body)) →
    IsTrue (is_nonblocking (flat_statement l.body)))
    × ((updates : Updates) →
    run forms (flat_statement l.body) (e, updates) ≡
    run forms (flat_statement l.initial.body) (e, updates))
    × (size-FStmt l.body ≤ size-FStmt l.initial.body)
