-- The items of a case before their turn comes.
use Rattle.std.proofs.Common.{◌≡◌, ℕ, ◌≤◌, max, true, List, [], ◌∷◌, ◌++◌, length, Option, Some}
use Rattle.std.proofs.Common.{None, refl, sym, ap, ◌∙◌, arith}
use Rattle.std.specs.Prelude.{◌&&◌, MatchOption, Ok}
use Rattle.std.specs.Option.{option_map_or}
use Rattle.sv_ast.specs.Tree.{ExpressionTree}
use Rattle.sv_elab_rules.specs.Names.{Names}
use Rattle.sv_elab_rules.specs.ExpressionSteps.{asked}
use Rattle.sv_elab_rules.specs.CaseChains.{item_length, item_signed, items_length, items_signed}
use Rattle.sv_width.specs.declared.measured.Measured.{Measured}
use Rattle.sv_width.specs.Operands.{IsOperandOf, own_width, own_signed}
use Rattle.sv_elab_stmt.specs.declared.cases.CaseItem.{CaseItem}
use Rattle.sv_elab_stmt.specs.Cases.{item_tree, item_trees, IsBroken, IsItem, AreItems, greatest}
use Rattle.sv_elab_stmt.specs.Cases.{all_signed}
use Rattle.sv_width.proofs.SoundStatements.{passed_length, broken_length}
use Rattle.sv_elab_stmt.proofs.CaseFacts.{passed_sign, broken_sign}

-- ---- lengths and signs

operand_length : (names : Names) (e : ExpressionTree) (o : Option Measured)
    → MatchOption o (IsBroken (asked names true e).end) (IsOperandOf names true e)
    → option_map_or own_width o 0 ≡ item_length names e
operand_length names e None h = sym (broken_length names e h.0 h.1)
operand_length names e (Some o) h = h.1 ∙ sym (passed_length names e h.0)

operand_sign : (names : Names) (e : ExpressionTree) (o : Option Measured)
    → MatchOption o (IsBroken (asked names true e).end) (IsOperandOf names true e)
    → option_map_or own_signed o true ≡ item_signed names e
operand_sign names e None h = sym (broken_sign names e h.0 h.1)
operand_sign names e (Some o) h = h.2 ∙ sym (passed_sign names e h.0)

pub greatest_is : (names : Names) (items : List CaseItem) → AreItems names items
    → greatest items ≡ items_length names (item_trees items)
greatest_is names [] h = refl
greatest_is names (i ∷ items) h =
    ap (λ k. max k (greatest items)) (operand_length names (item_tree i) i.operand h.0)
    ∙ ap (λ k. max (item_length names (item_tree i)) k) (greatest_is names items h.1)

pub all_signed_is : (names : Names) (items : List CaseItem) → AreItems names items
    → all_signed items ≡ items_signed names (item_trees items)
all_signed_is names [] h = refl
all_signed_is names (i ∷ items) h =
    ap (λ b. b && all_signed items) (operand_sign names (item_tree i) i.operand h.0)
    ∙ ap (λ b. item_signed names (item_tree i) && b) (all_signed_is names items h.1)

-- ---- lists of items

pub items_push : (names : Names) (xs : List CaseItem) (x : CaseItem) → AreItems names xs
    → IsItem names x
    → AreItems names (xs ++ x ∷ [])
items_push names [] x h here = (here, tt)
items_push names (i ∷ xs) x h here = (h.0, items_push names xs x h.1 here)

pub trees_push : (xs : List CaseItem) (x : CaseItem) →
    item_trees (xs ++ x ∷ []) ≡ item_trees xs ++ item_tree x ∷ []
trees_push [] x = refl
trees_push (i ∷ xs) x = ap (λ es. item_tree i ∷ es) (trees_push xs x)

pub items_both : (names : Names) (xs ys : List CaseItem) → AreItems names (xs ++ ys) →
    AreItems names xs × AreItems names ys
items_both names [] ys h = (tt, h)
items_both names (i ∷ xs) ys h = let rest = items_both names xs ys h.1 in ((h.0, rest.0), rest.1)

pub greatest_both : (xs ys : List CaseItem) (w : ℕ) → greatest (xs ++ ys) ≤ w →
    (greatest xs ≤ w) × (greatest ys ≤ w)
greatest_both [] ys w h = (omega arith, h)
greatest_both (i ∷ xs) ys w h =
    let rest = greatest_both xs ys w (omega (arith, h)) in
    (omega (arith, h, rest.0), rest.1)

pub trees_both : (xs ys : List CaseItem) (es fs : List ExpressionTree) → length xs ≡ length es
    → item_trees (xs ++ ys) ≡ es ++ fs → (item_trees xs ≡ es) × (item_trees ys ≡ fs)
trees_both [] ys [] fs size h = (refl, h)
trees_both [] ys (e ∷ es) fs size h = absurd (omega (arith, size))
trees_both (i ∷ xs) ys [] fs size h = absurd (omega (arith, size))
trees_both (i ∷ xs) ys (e ∷ es) fs size h =
    let head : item_tree i ≡ e = cc h in
    let tail : item_trees (xs ++ ys) ≡ es ++ fs = cc h in
    let rest = trees_both xs ys es fs (omega (arith, size)) tail in
    (ap (λ x. x ∷ item_trees xs) head ∙ ap (λ zs. e ∷ zs) rest.0, rest.1)

-- a list that holds others in front of some is as long as they are at least
pub trees_long : (xs : List CaseItem) (es fs : List ExpressionTree) → item_trees xs ≡ es ++ fs →
    length es ≤ length xs
trees_long xs [] fs h = omega arith
trees_long [] (e ∷ es) fs h = absurd (cc h)
trees_long (i ∷ xs) (e ∷ es) fs h =
    let tail : item_trees xs ≡ es ++ fs = cc h in
    omega (arith, trees_long xs es fs tail)

-- an item that passes has an operand
pub none_passes : (names : Names) (e : ExpressionTree) → IsBroken (asked names true e).end
    → (asked names true e).end ≡ Ok tt → ⊥
none_passes names e h passes = cc (sym h.1 ∙ passes)
