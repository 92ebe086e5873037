-- The type that selector and items of a case have in common.
use Rattle.std.proofs.Common.{◌≡◌, ℕ, max, Bool, true, false, List, [], ◌∷◌, ◌++◌, refl, sym, ap}
use Rattle.std.proofs.Common.{◌∙◌, arith}
use Rattle.std.specs.Prelude.{◌&&◌, Ok, Err}
use Rattle.sv_ast.specs.Tree.{ExpressionTree, ArmTrees, no_arms, more_arms}
use Rattle.sv_ast.specs.Values.{signed_of}
use Rattle.sv_elab_rules.specs.Walks.{WalkStep, done, value_or}
use Rattle.sv_elab_rules.specs.Names.{Names}
use Rattle.sv_elab_rules.specs.ExpressionSteps.{asked}
use Rattle.sv_elab_rules.specs.CaseChains.{item_length, item_signed, items_length, items_signed}
use Rattle.sv_elab_rules.specs.CaseChains.{arms_length}
use Rattle.sv_elab_rules.specs.CaseChains.{arms_signed, arm_items}
use Rattle.sv_elab_rules.proofs.WalkLemmas.{end_after, end_broken}

-- ---- one item

pub passed_sign : (names : Names) (e : ExpressionTree) → (asked names true e).end ≡ Ok tt
    → item_signed names e ≡ signed_of names.scope e
unfolding item_signed
passed_sign names e h =
    ap (λ r. value_or r true) (end_after (asked names true e) (λ _.
    done (signed_of names.scope e)) tt h)

pub broken_sign : (names : Names) (e : ExpressionTree) (s : WalkStep)
    → (asked names true e).end ≡ Err s
    → item_signed names e ≡ true
unfolding item_signed
broken_sign names e s h =
    ap (λ r. value_or r true) (end_broken (asked names true e) (λ _.
    done (signed_of names.scope e)) s h)

-- ---- the items of all arms

max_assoc : (a b c : ℕ) → max (max a b) c ≡ max a (max b c)
max_assoc a b c = omega arith

pub items_length_both : (names : Names) (es fs : List ExpressionTree)
    → items_length names (es ++ fs) ≡ max (items_length names es) (items_length names fs)
items_length_both names [] fs = omega arith
items_length_both names (e ∷ es) fs =
    ap (λ k. max (item_length names e) k) (items_length_both names es fs)
    ∙ sym (max_assoc (item_length names e) (items_length names es) (items_length names fs))

and_assoc : (a b c : Bool) → ((a && b) && c) ≡ (a && (b && c))
and_assoc true b c = refl
and_assoc false b c = refl

pub items_sign_both : (names : Names) (es fs : List ExpressionTree)
    → items_signed names (es ++ fs) ≡ (items_signed names es && items_signed names fs)
items_sign_both names [] fs = refl
items_sign_both names (e ∷ es) fs =
    ap (λ b. item_signed names e && b) (items_sign_both names es fs)
    ∙ sym (and_assoc (item_signed names e) (items_signed names es) (items_signed names fs))

pub arms_length_items : (names : Names) (arms : ArmTrees) →
    arms_length names arms ≡ items_length names (arm_items arms)
arms_length_items names no_arms = refl
arms_length_items names (more_arms p items body arms) =
    ap (λ k. max (items_length names items) k) (arms_length_items names arms)
    ∙ sym (items_length_both names items (arm_items arms))

pub arms_sign_items : (names : Names) (arms : ArmTrees) →
    arms_signed names arms ≡ items_signed names (arm_items arms)
arms_sign_items names no_arms = refl
arms_sign_items names (more_arms p items body arms) =
    ap (λ b. items_signed names items && b) (arms_sign_items names arms)
    ∙ sym (items_sign_both names items (arm_items arms))
