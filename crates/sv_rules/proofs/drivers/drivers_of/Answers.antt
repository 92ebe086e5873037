use Rattle.std.proofs.Common.{◌+◌, [], ◌∷◌, ◌++◌, map, drop, sym, ap, ◌∙◌, arith}
use Rattle.std.proofs.lemmas.List.{at_drop_more}
use Rattle.sv_flat.specs.Clocks.{processes_of}
use Rattle.sv_flat.specs.Views.{design_of, process_form}
use Rattle.sv_rules.specs.DriverTables.{kept_of}
use Rattle.sv_rules.proofs.DriverFacts.{kept_more}
use Rattle.sv_rules.proofs.Sound.{process_at}
use Rattle.sv_rules.proofs.drivers.drivers_of.Goals as goal

pub note_process-kept-requires-clause-sound : goal.note_process-kept-requires-clause-sound
note_process-kept-requires-clause-sound c =
    process_at c.args.flat.now c.deref-process-items.result.now c.loop-process.process-index
    c.process-item.result
    c.deref-process-items.ensures.value c.loop-process-test.true c.process-item.is c.requires.sound

pub loop-process-preserved : goal.loop-process-preserved
loop-process-preserved c =
    let design = design_of c.args.flat.now in
    let processes = c.deref-process-items.result.now in
    let i = c.loop-process.process-index in
    let process = c.process-item.result in
    let p = process_form process in
    let rest = map process_form (drop (i + 1) processes) in
    let ps = c.loop-process.invariant.0 in
    let few = c.loop-process.invariant.1 in
    let counted = c.note_process-kept.ensures.counted in
    let next = c.note_process-kept.ensures.drivers ps c.loop-process.invariant.2
    c.loop-process.invariant.4 in (
      ps ++ kept_of design (p ∷ []),
      omega arith,
      next.0,
      kept_more design (processes_of design) ps rest p
          (c.loop-process.invariant.3
          ∙ ap (λ qs. ps ++ kept_of design qs)
          (at_drop_more (map process_form) processes i process c.loop-process-test.true
          ∙ ap (λ q. process_form q ∷ rest) (sym c.process-item.is))),
      next.1,
    )
