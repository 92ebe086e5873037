use Rattle.std.proofs.Common.{◌+◌, ◌++◌, [], ◌∷◌, drop, map, sym, subst}
use Rattle.sv_flat.specs.Blocks.{latches, phase_faults}
use Rattle.sv_flat.specs.Design.{ProcessForm}
use Rattle.sv_flat.specs.Processes.{is_block}
use Rattle.sv_flat.specs.Views.{design_of, process_form}
use Rattle.sv_rules.specs.First.{FindsFirst}
use Rattle.sv_rules.specs.Phases.{latches_of, latches_in, phase_faults_of, phase_faults_in}
use Rattle.sv_rules.proofs.BlockPasses.{block_more}
use Rattle.sv_rules.proofs.Firsts.{finds_both}
use Rattle.sv_rules.proofs.Sound.{body_at, next_process}
use Rattle.sv_rules.proofs.blocks.first_block_faults.Goals as goal

pub process_faults-requires-clause-body : goal.process_faults-requires-clause-body
process_faults-requires-clause-body c =
    body_at c.args.flat.now c.deref-process-items.result.now c.loop-process.process-index
    c.process-item.result
    c.deref-process-items.ensures.value c.loop-process-test.true c.process-item.is c.requires

pub loop-process-preserved : goal.loop-process-preserved
loop-process-preserved c =
    let design = design_of c.args.flat.now in
    let items = c.deref-process-items.result.now in
    let i = c.loop-process.process-index in
    let p = process_form c.process-item.result in
    let left = map process_form (drop i items) in
    let rest = map process_form (drop (i + 1) items) in
    let next = next_process items i c.process-item.result c.loop-process-test.true
    c.process-item.is in
    let test = λ (q : ProcessForm). is_block q.kind in
    let latched = c.loop-process.invariant.0 in
    let phased = c.loop-process.invariant.1 in
    let these = latches_in design (p ∷ []) in
    let those = phase_faults_in design (p ∷ []) in (
      (
        latched.0 ++ these,
        subst (FindsFirst 605 (latched.0 ++ these)) (sym c.first_of-latch.ensures)
            (finds_both latched.0 these 605 c.loop-process.latch c.in_ok-faults.faults.latch
            latched.1 c.in_ok-faults.ensures.0),
        block_more test (λ (q : ProcessForm).
            latches_of design q.place q.body) (latches design) latched.0 left p rest next latched.2,
      ),
      (
        phased.0 ++ those,
        subst (FindsFirst 606 (phased.0 ++ those)) (sym c.first_of-phase.ensures)
            (finds_both phased.0 those 606 c.loop-process.phase c.in_ok-faults.faults.phase phased.1
            c.in_ok-faults.ensures.1),
        block_more test (λ (q : ProcessForm).
            phase_faults_of design q.body) (phase_faults design) phased.0 left p rest next phased.2,
      ),
    )
