use Rattle.std.specs.Prelude.{IsTrue}
use Rattle.sv_flat.specs.ByNumber.{signal_forms}
use Rattle.sv_flat.specs.Design.{ProcessForm}
use Rattle.sv_flat.specs.Soundness.{statement_sound}
use Rattle.sv_flat.specs.Views.{process_form}
use Rattle.sv_obl.proofs.MarkedBodies.{next_body}
use Rattle.sv_obl.proofs.FormLists.{formed_at}
use Rattle.sv_obl.proofs.marked.marked_bodies.Goals as goal

pub marked_body-requires-clause-body : goal.marked_body-requires-clause-body
marked_body-requires-clause-body c =
    formed_at (λ (process : ProcessForm).
    IsTrue (statement_sound (signal_forms c.args.signals.now) process.body)) process_form
    c.args.processes.now c.loop-process.process-index c.process-item.result c.requires.bodies
    c.loop-process-test.true c.process-item.is

pub loop-process-preserved : goal.loop-process-preserved
loop-process-preserved c =
    next_body (signal_forms c.args.signals.now) c.args.processes.now c.loop-process.process-index
    c.process-item.result c.loop-process.bodies.items c.push.new.self.items
    c.in_ok-marked_body.field-0 c.loop-process-test.true c.process-item.is
    c.loop-process.invariant c.in_ok-marked_body.ensures c.in_ok-push.ensures.items
