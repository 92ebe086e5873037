use Rattle.std.proofs.Common.{◌≡◌, drop}
use Rattle.sv_flat.specs.ByNumber.{signal_forms, by_number, FitSignals, updated}
use Rattle.sv_flat.specs.Runs.{Updates, run}
use Rattle.sv_flat.specs.Views.{flat_statements, chain_of}
use Rattle.sv_flat.proofs.runs.+nonblocking_runs.Given as goal

-- some updates are made, from which the statements that are left lead to what all of them lead to
abbrev pub invariant-update_all-loop-stmt : goal.invariant-update_all-loop-stmt
invariant-update_all-loop-stmt l =
    let forms = signal_forms l.signals in
    let e = by_number l.values in
    ((updates : Updates) → by_number l.initial.next ≡ updated e updates
    → (made : Updates) × (by_number l.next ≡ updated e made)
    × (run forms (chain_of (flat_statements (drop l.stmt-index l.stmts))) (e, made) ≡
    run forms (chain_of (flat_statements l.stmts)) (e, updates)))
    × FitSignals forms l.next
