use Rattle.std.proofs.Common.{ℕ, Bool, ◌&&◌, false, refl}
use Rattle.std.proofs.Common.{arith}
use Rattle.sv_flat.specs.Assigned.{assigns}
use Rattle.sv_flat.specs.Processes.{is_clocked}
use Rattle.sv_flat.specs.Design.{ProcessForm}
use Rattle.sv_flat.specs.Soundness.{kind_sound, statement_sound}
use Rattle.sv_flat.specs.Views.{design_of, process_form}
use Rattle.sv_flat.proofs.Depths.{second_of}
use Rattle.sv_rules.proofs.Sound.{process_at}
use Rattle.sv_rules.proofs.ProcessMarks.{slice_size, all_left, marks_next, all_marked}
use Rattle.sv_design.proofs.registers.register_table.Goals as goal

-- a process that waits for an edge marks what it assigns
abbrev registers : ProcessForm → ℕ → Bool
registers p s = is_clocked p.kind && assigns p.body s

pub mark_registers-requires : goal.mark_registers-requires
mark_registers-requires c =
    let process = c.process-item.result in
    let sound = process_at c.args.flat.now c.deref-process-items.result.now
    c.loop-process.process-index process
    c.deref-process-items.ensures.value c.loop-process-test.true c.process-item.is c.requires in (
      (design_of c.args.flat.now).signals,
      slice_size c.args.flat.now c.in_ok-table.table.items c.loop-process.table.items
          c.deref_mut.result.now c.in_ok-table.ensures c.loop-process.invariant.0
          c.deref_mut.ensures.value,
      second_of (kind_sound (design_of c.args.flat.now) (process_form process).kind
          (process_form process).body)
          (statement_sound (design_of c.args.flat.now).signals (process_form process).body) sound,
    )

pub loop-process-init : goal.loop-process-init
loop-process-init c = (
  refl,
  all_left c.args.flat.now registers c.in_ok-table.table.items c.deref-process-items.result.now
      c.deref-process-items.ensures.value,
)

pub loop-process-preserved : goal.loop-process-preserved
loop-process-preserved c =
    marks_next c.args.flat.now registers c.in_ok-table.table.items
    c.deref-process-items.result.now c.loop-process.table.items c.deref_mut.result.now
    c.mark_registers.new.table c.loop-process.table.len c.loop-process.process-index
    c.process-item.result c.loop-process.invariant (omega arith) c.deref_mut.ensures.value
    c.mark_registers.auto.table c.loop-process-test.true c.process-item.is
    c.mark_registers.ensures

pub returns : goal.returns
returns c =
    all_marked c.args.flat.now registers c.in_ok-table.table.items
    c.deref-process-items.result.now c.loop-process.table.items c.loop-process.process-index
    c.loop-process.invariant c.loop-process-test.false c.in_ok-table.ensures
