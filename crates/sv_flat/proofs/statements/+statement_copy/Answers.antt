use Rattle.std.proofs.Common.{sym, ap, ◌∙◌, rules}
use Rattle.sv_flat.specs.Branches.{branches_around}
use Rattle.sv_flat.specs.Views.{flat_statement, flat_statements, chain_of}
use Rattle.sv_flat.specs.declared.statements.FStmt.{the_lemmas}
use Rattle.sv_flat.proofs.BranchFacts.{branches_more, same_branch}
use Rattle.sv_flat.proofs.NumberedRuns.{no_branch}
use Rattle.sv_flat.proofs.Rows.{row_chain-hidden}
use Rattle.sv_flat.proofs.statements.+statement_copy.Goals as goal

pub FStmt::copy-plain_copy-requires : goal.FStmt::copy-plain_copy-requires
FStmt::copy-plain_copy-requires t c = (
  search (rules, the_lemmas),
  no_branch c.loop-rest.rest.now c.in_default.not-If,
)

pub FStmt::copy-loop-rest-preserved : goal.FStmt::copy-loop-rest-preserved
FStmt::copy-loop-rest-preserved t c =
    let arms = c.loop-rest.arms.items in
    let last = flat_statement c.deref-rest.result.now in
    let same = same_branch c.in-If.place c.in_ok-cond.ensures
    (c.in_ok-yes.ensures ∙ ap flat_statement c.deref.ensures)
    (ap flat_statement c.deref-rest.ensures) in (
      ap (λ more. branches_around more last) c.in_ok-push.ensures.items
          ∙ branches_more arms _ last
          ∙ ap (branches_around arms) (same ∙ ap flat_statement (sym c.in-If.is))
          ∙ c.loop-rest.invariant.0,
      search (rules, the_lemmas),
    )

pub plain_copy-returns-in_ok-copies-in-Block : goal.plain_copy-returns-in_ok-copies-in-Block
plain_copy-returns-in_ok-copies-in-Block t c =
    let stmts = c.in_ok-copies-in-Block.ensures ∙ ap flat_statements c.deref.ensures.value in
    row_chain-hidden c.in_ok-copies-in-Block.field-0
    ∙ ap chain_of stmts
    ∙ sym (row_chain-hidden c.in-Block.stmts)
    ∙ ap flat_statement (sym c.in-Block.is)
