use Rattle.std.proofs.Common.{◌++◌, sym, ap, ◌∙◌}
use Rattle.std.specs.Prelude.{option_to_list}
use Rattle.sv_flat.specs.Branches.{branches_around}
use Rattle.sv_flat.specs.Design.{branch}
use Rattle.sv_flat.specs.Views.{typed_tree, flat_statement}
use Rattle.sv_flat.proofs.BranchFacts.{branches_more}
use Rattle.sv_flat.proofs.statements.branches.Goals as goal

pub loop-place-preserved : goal.loop-place-preserved
loop-place-preserved c =
    let left = c.pop.new.self.items in
    let arm = c.in-Some.field-0 in
    let chain = flat_statement c.loop-place.chain in
    let split = c.pop.ensures.items ∙ ap (λ o. left ++ option_to_list o) c.in-Some.is in
    ap (λ no. branches_around left (branch arm.place (typed_tree arm.cond)
    (flat_statement arm.yes.value) (flat_statement no))) c.in_ok-no.ensures.ok
    ∙ sym (branches_more left arm chain)
    ∙ ap (λ arms. branches_around arms chain) (sym split)
    ∙ c.loop-place.invariant
