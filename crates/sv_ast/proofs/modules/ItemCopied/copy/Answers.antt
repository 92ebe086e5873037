use Rattle.std.proofs.Common.{◌≡◌, sym, ap, subst, ◌∙◌}
use Rattle.std.specs.Prelude.{IfOk}
use Rattle.sv_ast.specs.declared.modules.Item.{Item}
use Rattle.sv_ast.specs.Tree.{parameter_item, declared, memory_item, invariant_item, instance_item}
use Rattle.sv_ast.specs.Views.{item_tree}
use Rattle.sv_ast.proofs.modules.ItemCopied.copy.Goals as goal

pub returns-in_ok-copy-in-Param : goal.returns-in_ok-copy-in-Param
returns-in_ok-copy-in-Param c =
    ap parameter_item c.in_ok-copy-in-Param.ensures ∙ ap item_tree (sym c.in-Param.is)

pub returns-in_ok-copy-in-Decl : goal.returns-in_ok-copy-in-Decl
returns-in_ok-copy-in-Decl c =
    ap declared c.in_ok-copy-in-Decl.ensures ∙ ap item_tree (sym c.in-Decl.is)

pub returns-in_ok-copy-in-Memory : goal.returns-in_ok-copy-in-Memory
returns-in_ok-copy-in-Memory c =
    ap memory_item c.in_ok-copy-in-Memory.ensures ∙ ap item_tree (sym c.in-Memory.is)

pub returns-in_ok-copy-in-Invariant : goal.returns-in_ok-copy-in-Invariant
returns-in_ok-copy-in-Invariant c =
    ap (invariant_item c.in-Invariant.place) c.in_ok-copy-in-Invariant.ensures
    ∙ ap item_tree (sym c.in-Invariant.is)

pub returns-in_ok-copy-in-Instance : goal.returns-in_ok-copy-in-Instance
returns-in_ok-copy-in-Instance c =
    ap instance_item c.in_ok-copy-in-Instance.ensures ∙ ap item_tree (sym c.in-Instance.is)

pub returns-in-Assign : goal.returns-in-Assign
returns-in-Assign c =
    subst (λ (i : Item). IfOk c.assign_copy.result (λ copy. item_tree copy ≡ item_tree i))
    (sym c.in-Assign.is) c.assign_copy.ensures

pub returns-in-Release : goal.returns-in-Release
returns-in-Release c =
    subst (λ (i : Item). IfOk c.release_copy.result (λ copy. item_tree copy ≡ item_tree i))
    (sym c.in-Release.is) c.release_copy.ensures

pub returns-in-Always : goal.returns-in-Always
returns-in-Always c =
    subst (λ (i : Item). IfOk c.always_copy.result (λ copy. item_tree copy ≡ item_tree i))
    (sym c.in-Always.is) c.always_copy.ensures
