use Rattle.std.proofs.Common.{◌+◌, ◌∷◌, [], length, sym, ap, subst, ◌∙◌, length-append}
use Rattle.sv_flat.specs.Assigned.{assigns}
use Rattle.sv_flat.specs.Views.{design_of, process_form}
use Rattle.sv_rules.specs.DriverTables.{AreDrivers, driver_at, entries, Notes}
use Rattle.sv_rules.proofs.DriverFacts.{drivers_more, is_kept}
use Rattle.sv_rules.proofs.drivers.note_process.Goals as goal

pub returns-clause-drivers : goal.returns-clause-drivers
returns-clause-drivers c = λ ps size are.
    let design = design_of c.args.flat.now in
    let p = process_form c.args.process.now in
    let n = length c.args.flat.now.signals.items in
    let kept = is_kept design ps p (sym c.if-is_clock_link.ensures) in (
      ap length kept ∙ length-append ps (p ∷ []) ∙ ap (λ k. k + 1) size,
      subst (λ qs. AreDrivers n c.note_targets.new.drivers (entries 0 qs)) (sym kept)
          (drivers_more n c.args.drivers.now c.note_targets.new.drivers ps p
          (driver_at c.args.kept p) (ap (λ k. driver_at k p) (sym size)) are
          (subst (λ m. Notes m (driver_at c.args.kept p) c.args.drivers.now
          c.note_targets.new.drivers (assigns p.body)) c.requires.first
          c.note_targets.ensures.notes)),
    )
