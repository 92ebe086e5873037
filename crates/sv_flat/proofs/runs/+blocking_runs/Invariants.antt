use Rattle.std.proofs.Common.{◌≡◌, drop}
use Rattle.sv_flat.specs.ByNumber.{signal_forms, by_number, FitSignals}
use Rattle.sv_flat.specs.Runs.{run_alone}
use Rattle.sv_flat.specs.Views.{flat_statements, chain_of}
use Rattle.sv_flat.proofs.runs.+blocking_runs.Given as goal

-- the statements that are left lead to what all of them lead to
abbrev pub invariant-run_all-loop-stmt : goal.invariant-run_all-loop-stmt
invariant-run_all-loop-stmt l =
    let forms = signal_forms l.signals in
    (run_alone forms (chain_of (flat_statements (drop l.stmt-index l.stmts))) (by_number l.values)
    ≡ run_alone forms (chain_of (flat_statements l.stmts)) (by_number l.initial.values))
    × FitSignals forms l.values
