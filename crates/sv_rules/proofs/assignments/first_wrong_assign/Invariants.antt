use Rattle.std.proofs.Common.{◌≡◌, ◌++◌, List, drop, map}
use Rattle.std.specs.Prelude.{flat_map}
use Rattle.sv_flat.specs.Breaches.{Breach}
use Rattle.sv_flat.specs.Design.{ProcessForm}
use Rattle.sv_flat.specs.Assignments.{wrong_assigns}
use Rattle.sv_flat.specs.Views.{design_of, process_form}
use Rattle.sv_rules.specs.First.{FindsFirst}
use Rattle.sv_rules.specs.WrongAssigns.{wrong_in}
use Rattle.sv_rules.proofs.assignments.first_wrong_assign.Given as goal

-- what was found in the processes so far, and what is left
abbrev pub invariant-loop-process : goal.invariant-loop-process
invariant-loop-process l =
    let design = design_of l.flat in
    (done : List Breach) × FindsFirst 601 done l.found
    × (wrong_assigns design ≡ done ++ flat_map (λ (p : ProcessForm).
    wrong_in design p.kind p.body) (map process_form (drop l.process-index l.process-items)))
