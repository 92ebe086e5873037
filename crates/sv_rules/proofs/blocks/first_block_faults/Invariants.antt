use Rattle.std.proofs.Common.{◌≡◌, ◌++◌, List, drop, map}
use Rattle.sv_flat.specs.Blocks.{latches, phase_faults}
use Rattle.sv_flat.specs.Breaches.{Breach}
use Rattle.sv_flat.specs.Views.{design_of, process_form}
use Rattle.sv_rules.specs.First.{FindsFirst}
use Rattle.sv_rules.specs.Phases.{latches_in, phase_faults_in}
use Rattle.sv_rules.proofs.blocks.first_block_faults.Given as goal

-- what was found in the processes so far, and what is left
abbrev pub invariant-loop-process : goal.invariant-loop-process
invariant-loop-process l =
    let design = design_of l.flat in
    let left = map process_form (drop l.process-index l.process-items) in
    ((done : List Breach) × FindsFirst 605 done l.latch
    × (latches design ≡ done ++ latches_in design left))
    × ((done : List Breach) × FindsFirst 606 done l.phase
    × (phase_faults design ≡ done ++ phase_faults_in design left))
