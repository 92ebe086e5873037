use Rattle.std.proofs.Common.{sym, ◌∙◌}
use Rattle.std.proofs.Math.ListN.{length-map}
use Rattle.sv_flat.specs.Assigned.{assigns}
use Rattle.sv_flat.specs.Soundness.{kind_sound, statement_sound}
use Rattle.sv_flat.specs.Views.{design_of, process_form, signal_form}
use Rattle.sv_flat.proofs.Depths.{second_of}
use Rattle.sv_rules.specs.ReadMarks.{reads_in}
use Rattle.sv_graph.proofs.MarkFacts.{both_marked}
use Rattle.sv_rules.proofs.UseFacts.{process_uses}
use Rattle.sv_rules.proofs.uses.mark_uses.Goals as goal

pub mark_targets-requires : goal.mark_targets-requires
mark_targets-requires c =
    let design = design_of c.args.flat.now in
    let p = process_form c.args.process.now in (
      design.signals,
      length-map c.args.flat.now.signals.items signal_form ∙ sym c.requires.size,
      second_of (kind_sound design p.kind p.body) (statement_sound design.signals p.body)
          c.requires.process,
    )

pub mark_reads-requires-clause-stmt : goal.mark_reads-requires-clause-stmt
mark_reads-requires-clause-stmt c =
    let design = design_of c.args.flat.now in
    let p = process_form c.args.process.now in
    second_of (kind_sound design p.kind p.body) (statement_sound design.signals p.body)
    c.requires.process

pub returns-in_ok-mark_reads-in-None : goal.returns-in_ok-mark_reads-in-None
returns-in_ok-mark_reads-in-None c =
    let design = design_of c.args.flat.now in
    let p = process_form c.args.process.now in
    process_uses design p c.args.table.now c.mark_reads.new.table c.in-None.ensures
    (both_marked c.args.table.now c.mark_targets.new.table c.mark_reads.new.table (assigns p.body)
    (reads_in design.signals p.body)
    c.mark_targets.auto.table c.mark_targets.ensures c.in_ok-mark_reads-in-None.ensures)
