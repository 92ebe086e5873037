use Rattle.std.proofs.Common.{◌≡◌, ◌+◌, ◌||◌, length, drop, refl, sym, ap, subst, ◌∙◌, rules}
use Rattle.std.proofs.lemmas.List.{at_drop_all}
use Rattle.sv_flat.specs.Assigned.{assigns}
use Rattle.sv_flat.specs.Design.{assign}
use Rattle.sv_flat.specs.Views.{typed_tree, flat_statement, flat_statements, chain_of}
use Rattle.sv_flat.specs.declared.statements.FStmt.{the_lemmas}
use Rattle.sv_rules.specs.Pieces.{piece_forms}
use Rattle.sv_rules.specs.DriverTables.{assigned_in, Notes}
use Rattle.sv_rules.proofs.NoteFacts.{notes_begin, notes_more, notes_end, both_notes, same_notes}
use Rattle.sv_rules.proofs.Sound.{next_statement, sound_after, sound_block, block_is, branch_is}
use Rattle.sv_rules.proofs.drivers.+note_targets.Goals as goal

pub note_all-loop-stmt-init : goal.note_all-loop-stmt-init
note_all-loop-stmt-init t c = (
  refl,
  c.requires.second,
  c.requires.stmts,
  notes_begin (length c.args.drivers.now.first.items) c.args.driver c.args.drivers.now
      (assigns (chain_of (flat_statements c.args.stmts.now))),
)

pub note_all-loop-stmt-preserved : goal.note_all-loop-stmt-preserved
note_all-loop-stmt-preserved t c =
    let n = length c.args.drivers.now.first.items in
    let stmts = c.args.stmts.now in
    let i = c.loop-stmt.stmt-index in
    let rest = chain_of (flat_statements (drop (i + 1) stmts)) in
    let sound = c.loop-stmt.invariant.2 in (
      c.note_targets.ensures.first ∙ c.loop-stmt.invariant.0,
      c.note_targets.ensures.second ∙ c.loop-stmt.invariant.0,
      (
        sound.0,
        sound.1,
        sound_after sound.0 stmts i c.stmt-item.result c.loop-stmt-test.true c.stmt-item.is
            sound.2,
      ),
      notes_more n c.args.driver c.args.drivers.now c.loop-stmt.drivers c.note_targets.new.drivers
          (assigns (chain_of (flat_statements stmts)))
          (assigns (chain_of (flat_statements (drop i stmts))))
          (assigns (flat_statement c.stmt-item.result)) (assigns rest) c.loop-stmt.invariant.3
          (λ s. ap (λ b. assigns b s)
          (next_statement stmts i c.stmt-item.result c.loop-stmt-test.true c.stmt-item.is))
          (subst (λ m. Notes m c.args.driver c.loop-stmt.drivers c.note_targets.new.drivers
          (assigns (flat_statement c.stmt-item.result))) c.loop-stmt.invariant.0
          c.note_targets.ensures.notes),
    )

pub note_all-returns-clause-notes : goal.note_all-returns-clause-notes
note_all-returns-clause-notes t c =
    let stmts = c.args.stmts.now in
    notes_end (length c.args.drivers.now.first.items) c.args.driver c.args.drivers.now
    c.loop-stmt.drivers
    (assigns (chain_of (flat_statements stmts)))
    (assigns (chain_of (flat_statements (drop c.loop-stmt.stmt-index stmts))))
    c.loop-stmt.invariant.3
    (λ s. at_drop_all (λ ss. assigns (chain_of (flat_statements ss)) s) stmts c.loop-stmt.stmt-index
    c.loop-stmt-test.false)

pub note_targets-note_all-requires : goal.note_targets-note_all-requires
note_targets-note_all-requires t c =
    let sound = c.requires.stmt in (
      search (rules, the_lemmas),
      (
        (
          sound.0,
          sound.1,
          sound_block sound.0 c.args.stmt.now c.in-Block.stmts c.deref-in-Block.result.now
              c.in-Block.is c.deref-in-Block.ensures.value sound.2,
        ),
        c.requires.second,
      ),
    )

pub note_targets-returns-in-Assign-clause-notes : goal.note_targets-returns-in-Assign-clause-notes
note_targets-returns-in-Assign-clause-notes t c =
    let n = length c.args.drivers.now.first.items in
    let is : flat_statement c.args.stmt.now
    ≡ assign (piece_forms c.in-Assign.pieces.items) c.in-Assign.place c.in-Assign.blocking
    (typed_tree c.in-Assign.value) =
    ap flat_statement c.in-Assign.is in
    same_notes n c.args.driver c.args.drivers.now c.note_pieces.new.drivers
    (assigned_in (piece_forms c.deref.result.now)) (assigns (flat_statement c.args.stmt.now))
    (λ s. ap (λ ps. assigned_in (piece_forms ps) s) c.deref.ensures.value
    ∙ sym (ap (λ b. assigns b s) is))
    c.note_pieces.ensures.notes

pub note_targets-returns-in-Block-clause-notes : goal.note_targets-returns-in-Block-clause-notes
note_targets-returns-in-Block-clause-notes t c =
    let n = length c.args.drivers.now.first.items in
    subst (λ b. Notes n c.args.driver c.args.drivers.now c.note_all.new.drivers (assigns b))
    (sym (block_is c.args.stmt.now c.in-Block.stmts c.deref-in-Block.result.now c.in-Block.is
    c.deref-in-Block.ensures.value))
    c.note_all.ensures.notes

pub note_targets-returns-in-If-clause-notes : goal.note_targets-returns-in-If-clause-notes
note_targets-returns-in-If-clause-notes t c =
    let n = length c.args.drivers.now.first.items in
    let first = c.deref-in-If.result.now in
    let second = c.deref-in-If-2.result.now in
    same_notes n c.args.driver c.args.drivers.now c.note_targets-in-If.new.drivers
    (λ s. assigns (flat_statement first) s || assigns (flat_statement second) s)
    (assigns (flat_statement c.args.stmt.now))
    (λ s. sym (ap (λ b. assigns b s) (branch_is c.args.stmt.now first second
    (ap flat_statement c.in-If.is) c.deref-in-If.ensures c.deref-in-If-2.ensures)))
    (both_notes n c.args.driver c.args.drivers.now c.note_targets.new.drivers
    c.note_targets-in-If.new.drivers
    (assigns (flat_statement first)) (assigns (flat_statement second)) c.note_targets.ensures.notes
    (subst (λ m. Notes m c.args.driver c.note_targets.new.drivers c.note_targets-in-If.new.drivers
    (assigns (flat_statement second)))
    c.note_targets.ensures.first c.note_targets-in-If.ensures.notes))
