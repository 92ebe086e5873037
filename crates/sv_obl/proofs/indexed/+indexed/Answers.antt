use Rattle.std.proofs.Common.{◌+◌, map, drop, refl, sym, ap, ap₂, subst, ◌∙◌, All, rules}
use Rattle.sv_flat.specs.declared.statements.FStmt.{the_lemmas}
use Rattle.sv_flat.specs.Design.{assign, branch}
use Rattle.sv_flat.specs.Views.{typed_tree, flat_statement, flat_statements, chain_of}
use Rattle.sv_flat.proofs.NumberedRuns.{no_branch}
use Rattle.sv_rules.proofs.Sound.{block_is, next_statement}
use Rattle.sv_obl.specs.declared.indexed.Indexed.TheViews as view
use Rattle.sv_obl.specs.IndexedArms.{AreArms}
use Rattle.sv_obl.specs.IndexedStatements.{statement_of, IsMarked, Tells, IsMadeOf, SoFar}
use Rattle.sv_obl.specs.Views.{piece_forms}
use Rattle.sv_obl.proofs.IndexedArmFacts.{arm_opened}
use Rattle.sv_obl.proofs.IndexedFacts.{none_so_far, one_so_far, block_indexed}
use Rattle.sv_obl.proofs.indexed.+indexed.Goals as goal

pub indexed_of-loop-rest-init : goal.indexed_of-loop-rest-init
indexed_of-loop-rest-init t c =
    let whole = flat_statement c.args.stmt.now in (
      subst (λ arms. AreArms arms whole whole) (sym c.new-arms.ensures.items) refl,
      search (rules, the_lemmas),
    )

pub indexed_of-loop-rest-preserved : goal.indexed_of-loop-rest-preserved
indexed_of-loop-rest-preserved t c =
    let first = flat_statement c.deref.result.now in
    let second = flat_statement c.deref-rest.result.now in
    let is = ap flat_statement c.in-If.is
    ∙ ap₂ (λ p q. branch c.in-If.place (typed_tree c.in-If.cond) (flat_statement p)
    (flat_statement q)) (sym c.deref.ensures) (sym c.deref-rest.ensures) in (
      arm_opened c.loop-rest.arms.items c.push.new.self.items _ (flat_statement c.args.stmt.now)
          (flat_statement c.loop-rest.rest.now) first second c.in_ok-push.ensures.items is
          c.in_ok-yes.ensures c.loop-rest.invariant.0,
      search (rules, the_lemmas),
    )

pub indexed_of-indexed_plain-requires : goal.indexed_of-indexed_plain-requires
indexed_of-indexed_plain-requires t c = (
  search (rules, the_lemmas),
  no_branch c.loop-rest.rest.now c.in_default.not-If,
)

pub indexed_of-returns : goal.indexed_of-returns
indexed_of-returns t c =
    c.with_arms.ensures (flat_statement c.loop-rest.rest.now) (flat_statement c.args.stmt.now)
    c.loop-rest.invariant.0 c.in_ok-last.ensures

pub indexed_plain-returns-in-Assign : goal.indexed_plain-returns-in-Assign
indexed_plain-returns-in-Assign t c =
    subst (λ st. IsMadeOf st c.assigned.result) (sym (ap flat_statement c.in-Assign.is))
    (subst (λ ps. IsMadeOf (assign (piece_forms ps) c.in-Assign.place c.in-Assign.blocking
    (typed_tree c.in-Assign.value)) c.assigned.result) c.deref.ensures.value
    c.assigned.ensures)

pub indexed_plain-returns-in_ok-numbers-in-Block : goal.indexed_plain-returns-in_ok-numbers-in-Block
indexed_plain-returns-in_ok-numbers-in-Block t c =
    let chain = chain_of (flat_statements c.deref-in-Block.result.now) in
    let parts = c.in_ok-parts-in-Block.parts in
    let numbers = c.in_ok-numbers-in-Block.numbers in
    let so = c.in_ok-parts-in-Block.ensures in
    let same = c.deref-in-Block-2.ensures.value in
    subst (λ st. IsMadeOf st (view.Block parts numbers))
    (sym (block_is c.args.stmt.now c.in-Block.stmts c.deref-in-Block.result.now c.in-Block.is
    c.deref-in-Block.ensures.value))
    (block_indexed chain parts numbers so
    (subst (λ xs. Tells (map statement_of xs) numbers) same
    (c.in_ok-numbers-in-Block.ensures (subst (All IsMarked) (sym same) so.marked))))

pub indexed_parts-loop-stmt-init : goal.indexed_parts-loop-stmt-init
indexed_parts-loop-stmt-init t c =
    let whole = chain_of (flat_statements c.args.stmts.now) in
    subst (SoFar whole whole) (sym c.new-parts.ensures.items) (none_so_far whole)

pub indexed_parts-loop-stmt-preserved : goal.indexed_parts-loop-stmt-preserved
indexed_parts-loop-stmt-preserved t c =
    let stmts = c.args.stmts.now in
    let i = c.loop-stmt.stmt-index in
    let stmt = c.stmt-item.result in
    let whole = chain_of (flat_statements stmts) in
    let rest = chain_of (flat_statements (drop (i + 1) stmts)) in
    one_so_far whole (flat_statement stmt) rest c.loop-stmt.parts.items c.push.new.self.items
    c.in_ok-indexed.indexed
    (subst (λ st. SoFar whole st c.loop-stmt.parts.items)
    (next_statement stmts i stmt c.loop-stmt-test.true c.stmt-item.is) c.loop-stmt.invariant)
    c.in_ok-indexed.ensures c.in_ok-push.ensures.items
