use Rattle.std.proofs.Common.{◌+◌, drop, refl, sym, ap, subst, ◌∙◌, rules}
use Rattle.std.specs.Prelude.{OnOk}
use Rattle.std.proofs.lemmas.List.{at_drop_all}
use Rattle.sv_flat.specs.Views.{design_of, flat_statement, flat_statements, chain_of}
use Rattle.sv_flat.specs.declared.statements.FStmt.{the_lemmas}
use Rattle.sv_graph.specs.Marks.{Marks}
use Rattle.sv_rules.specs.ReadMarks.{reads_in}
use Rattle.sv_graph.proofs.MarkFacts.{marks_more, marks_end}
use Rattle.sv_rules.proofs.Sound.{next_statement, sound_here, sound_after, sound_block, block_is}
use Rattle.sv_rules.proofs.marks.+mark_reads.Goals as goal

pub mark_all_reads-loop-stmt-init : goal.mark_all_reads-loop-stmt-init
mark_all_reads-loop-stmt-init t c = (c.requires.stmts, λ s below. refl)

pub mark_all_reads-mark_reads-requires : goal.mark_all_reads-mark_reads-requires
mark_all_reads-mark_reads-requires t c =
    let signals = (design_of c.args.flat.now).signals in
    let stmts = c.args.stmts.now in (
      search (rules, the_lemmas),
      (
        sound_here signals stmts c.loop-stmt.stmt-index c.stmt-item.result c.loop-stmt-test.true
            c.stmt-item.is c.loop-stmt.invariant.0,
        c.loop-stmt.auto.table ∙ c.requires.size,
      ),
    )

pub mark_all_reads-loop-stmt-preserved : goal.mark_all_reads-loop-stmt-preserved
mark_all_reads-loop-stmt-preserved t c =
    let signals = (design_of c.args.flat.now).signals in
    let stmts = c.args.stmts.now in
    let i = c.loop-stmt.stmt-index in
    let this = flat_statement c.stmt-item.result in
    let rest = chain_of (flat_statements (drop (i + 1) stmts)) in
    let next = next_statement stmts i c.stmt-item.result c.loop-stmt-test.true c.stmt-item.is in (
      sound_after signals stmts i c.stmt-item.result c.loop-stmt-test.true c.stmt-item.is
          c.loop-stmt.invariant.0,
      marks_more c.args.table.now c.loop-stmt.table c.mark_reads.new.table
          (reads_in signals (chain_of (flat_statements stmts)))
          (reads_in signals (chain_of (flat_statements (drop i stmts)))) (reads_in signals this)
          (reads_in signals rest) c.loop-stmt.auto.table
          (λ s. ap (λ b. reads_in signals b s) next) c.in_ok-mark_reads.ensures
          c.loop-stmt.invariant.1,
    )

pub mark_all_reads-returns : goal.mark_all_reads-returns
mark_all_reads-returns t c =
    let signals = (design_of c.args.flat.now).signals in
    let stmts = c.args.stmts.now in
    marks_end c.args.table.now c.loop-stmt.table
    (reads_in signals (chain_of (flat_statements stmts)))
    (reads_in signals (chain_of (flat_statements (drop c.loop-stmt.stmt-index stmts))))
    (λ s. at_drop_all (λ ss. reads_in signals (chain_of (flat_statements ss)) s) stmts
    c.loop-stmt.stmt-index c.loop-stmt-test.false)
    c.loop-stmt.invariant.1

pub mark_reads-mark_all_reads-requires : goal.mark_reads-mark_all_reads-requires
mark_reads-mark_all_reads-requires t c =
    let signals = (design_of c.args.flat.now).signals in (
      search (rules, the_lemmas),
      (
        sound_block signals c.args.stmt.now c.in-Block.stmts c.deref.result.now c.in-Block.is
            c.deref.ensures.value c.requires.stmt,
        c.requires.size,
      ),
    )

pub mark_reads-returns-in-Block : goal.mark_reads-returns-in-Block
mark_reads-returns-in-Block t c =
    let signals = (design_of c.args.flat.now).signals in
    subst (λ b. OnOk c.mark_all_reads.result
    (Marks c.args.table.now c.mark_all_reads.new.table (reads_in signals b)))
    (sym (block_is c.args.stmt.now c.in-Block.stmts c.deref.result.now c.in-Block.is
    c.deref.ensures.value))
    c.mark_all_reads.ensures
