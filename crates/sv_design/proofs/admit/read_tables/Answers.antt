use Rattle.std.proofs.Common.{sym, subst, ◌∙◌, arith}
use Rattle.std.proofs.Math.ListN.{length-map}
use Rattle.sv_flat.specs.Reads.{is_combinational}
use Rattle.sv_flat.specs.Views.{design_of, signal_form}
use Rattle.sv_graph.specs.Marks.{IsTable}
use Rattle.sv_design.proofs.ReadTables.{reads_size, reads_whole}
use Rattle.sv_rules.proofs.TableFacts.{few_signals}
use Rattle.sv_design.proofs.admit.read_tables.Goals as goal

pub reads_table-requires-clause-size : goal.reads_table-requires-clause-size
reads_table-requires-clause-size c =
    let design = design_of c.args.flat.now in
    c.in_ok-combs.ensures.0 ∙ sym (length-map c.args.flat.now.signals.items signal_form)
    ∙ sym (reads_size design c.in_ok-reads.field-0.reads c.in_ok-reads.ensures.reads)

pub reads_table-requires-clause-whole : goal.reads_table-requires-clause-whole
reads_table-requires-clause-whole c =
    reads_whole (design_of c.args.flat.now) c.in_ok-reads.field-0.reads
    c.in_ok-reads.ensures.reads

pub reads_table-requires-clause-few : goal.reads_table-requires-clause-few
reads_table-requires-clause-few c =
    let design = design_of c.args.flat.now in
    let few = few_signals design c.requires.sound in
    let size = reads_size design c.in_ok-reads.field-0.reads c.in_ok-reads.ensures.reads in
    omega arith

pub returns-clause-reads : goal.returns-clause-reads
returns-clause-reads c =
    let design = design_of c.args.flat.now in
    c.in_ok-tables.ensures design
    (subst (λ n. IsTable n c.in_ok-combs.combs.items (is_combinational design))
    (sym (length-map c.args.flat.now.signals.items signal_form)) c.in_ok-combs.ensures)
    c.in_ok-reads.ensures.reads
