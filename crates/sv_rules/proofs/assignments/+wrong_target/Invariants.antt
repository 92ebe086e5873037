use Rattle.std.proofs.Common.{◌≡◌, ◌++◌, List, drop}
use Rattle.std.specs.Prelude.{IsTrue}
use Rattle.sv_flat.specs.Breaches.{Breach}
use Rattle.sv_flat.specs.Soundness.{statement_sound}
use Rattle.sv_flat.specs.Views.{design_of, process_kind, flat_statements, chain_of}
use Rattle.sv_rules.specs.First.{FindsFirst}
use Rattle.sv_rules.specs.WrongAssigns.{wrong_in}
use Rattle.sv_rules.proofs.assignments.+wrong_target.Given as goal

-- what was found in the statements so far, and what is left
abbrev pub invariant-wrong_in_all-loop-stmt : goal.invariant-wrong_in_all-loop-stmt
invariant-wrong_in_all-loop-stmt l =
    let design = design_of l.flat in
    let kind = process_kind l.kind in
    let left = chain_of (flat_statements (drop l.stmt-index l.stmts)) in
    (done : List Breach) × FindsFirst 601 done l.found
    × (wrong_in design kind (chain_of (flat_statements l.stmts)) ≡
    done ++ wrong_in design kind left)
    × IsTrue (statement_sound design.signals left)
