use Rattle.std.proofs.Common.{drop}
use Rattle.std.specs.Prelude.{IsTrue}
use Rattle.sv_flat.specs.Soundness.{statement_sound}
use Rattle.sv_flat.specs.Views.{design_of, flat_statements, chain_of}
use Rattle.sv_rules.specs.ReadMarks.{reads_in}
use Rattle.sv_graph.proofs.MarkFacts.{MarksSoFar}
use Rattle.sv_rules.proofs.marks.+mark_reads.Given as goal

abbrev pub invariant-mark_all_reads-loop-stmt : goal.invariant-mark_all_reads-loop-stmt
invariant-mark_all_reads-loop-stmt l =
    let signals = (design_of l.flat).signals in
    let left = chain_of (flat_statements (drop l.stmt-index l.stmts)) in
    IsTrue (statement_sound signals left)
    × MarksSoFar l.initial.table l.table (reads_in signals (chain_of (flat_statements l.stmts)))
    (reads_in signals left)
