-- An expression before a sign, and one in parentheses, are determined by their tokens.
use Rattle.std.proofs.Common.{◌≡◌, ℕ, true, List, refl, sym, subst}
use Rattle.sv_token.specs.declared.signs.SignKind.{SignKind}
use Rattle.sv_token.specs.declared.signs.SignKind.TheVariants as signs
use Rattle.sv_token.specs.Lexemes.{sign, Placed}
use Rattle.sv_ast.specs.Tree.{ExpressionTree}
use Rattle.sv_ast.specs.GrammarForms.{◌⨾◌, a_sign, in_parentheses}
use Rattle.sv_ast.specs.GrammarExpressions.{Limits, IsExpression}
use Rattle.sv_ast.proofs.GrammarOneToken.{one_lexeme, one_sign, ends_expression, next_at}
use Rattle.sv_ast.proofs.GrammarOneExpression.{one_expression}

-- an expression before one of these signs
pub one_before_signs : (c d : SignKind) → ends_expression (sign c) ≡ true
    → ends_expression (sign d) ≡ true
    → (l k : Limits) (n m : ℕ) (e f : ExpressionTree) (ts r s x y : List Placed)
    → IsExpression l n e ts r → IsExpression k m f ts s → a_sign c r x → a_sign d s y
    → (e ≡ f) × (r ≡ s) × (sign c ≡ sign d)
one_before_signs c d ends ends_too l k n m e f ts r s x y is is_too at at_too =
    let same = one_expression l k n m e f ts r s is is_too
    (next_at ends_expression (sign c) at.0 r x at.1 ends)
    (next_at ends_expression (sign d) at_too.0 s y at_too.1 ends_too) in
    let moved : a_sign d r y = subst (λ us. a_sign d us y) (sym same.1) at_too in
    (same.0, same.1, (one_lexeme (sign c) (sign d) at.0 moved.0 r x y at.1 moved.1).0)

-- an expression and the sign behind it
pub one_and_sign : (c : SignKind) → ends_expression (sign c) ≡ true
    → (l k : Limits) (n m : ℕ) (e f : ExpressionTree) (ts r s : List Placed)
    → (IsExpression l n e ⨾ a_sign c) ts r → (IsExpression k m f ⨾ a_sign c) ts s
    → (e ≡ f) × (r ≡ s)
one_and_sign c ends l k n m e f ts r s is is_too =
    let same = one_before_signs c c ends ends l k n m e f ts is.0 is_too.0 r s is.1 is_too.1 is.2
    is_too.2 in
    (same.0, one_sign c is.0 r s is.2 (subst (λ us. a_sign c us s) (sym same.1) is_too.2))

-- the condition of an `if`, or the selector of a `case`
pub one_condition : (l k : Limits) (n m : ℕ) (e f : ExpressionTree) (ts r s : List Placed)
    → in_parentheses (IsExpression l n e) ts r → in_parentheses (IsExpression k m f) ts s
    → (e ≡ f) × (r ≡ s)
one_condition l k n m e f ts r s is is_too =
    let opened : is.0 ≡ is_too.0 = one_sign signs.OpenParenthesis ts is.0 is_too.0 is.1 is_too.1 in
    one_and_sign signs.CloseParenthesis refl l k n m e f is.0 r s is.2
    (subst (λ us. (IsExpression k m f ⨾ a_sign signs.CloseParenthesis) us s) (sym opened) is_too.2)
