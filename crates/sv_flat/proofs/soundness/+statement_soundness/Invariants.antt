use Rattle.std.proofs.Common.{◌≡◌, ◌≤◌, drop}
use Rattle.sv_flat.specs.declared.statements.FStmt.{size-FStmt}
use Rattle.sv_flat.specs.ByNumber.{signal_forms}
use Rattle.sv_flat.specs.Soundness.{statement_sound}
use Rattle.sv_flat.specs.Views.{flat_statement, flat_statements, chain_of}
use Rattle.sv_flat.proofs.soundness.+statement_soundness.Given as goal

-- the answer is that of the statements that are left
abbrev pub invariant-are_statements_sound-loop-stmt : goal.invariant-are_statements_sound-loop-stmt
invariant-are_statements_sound-loop-stmt l =
    let signals = signal_forms l.signals in
    statement_sound signals (chain_of (flat_statements (drop l.stmt-index l.stmts))) ≡
    statement_sound signals (chain_of (flat_statements l.stmts))

-- the answer is that of the arm that is left, which is no deeper
abbrev pub invariant-is_statement_sound-loop-stmt : goal.invariant-is_statement_sound-loop-stmt
invariant-is_statement_sound-loop-stmt l =
    let signals = signal_forms l.signals in
    (statement_sound signals (flat_statement l.stmt) ≡
    statement_sound signals (flat_statement l.fn.stmt))
    × (size-FStmt l.stmt ≤ size-FStmt l.fn.stmt)
