-- What a step says of a symbol of an expression is what its form says; and which of the symbols may
-- have no token.
use Rattle.std.proofs.Common.{◌≡◌, ℕ, ◌+◌, Bool, true, false, not, List, [], ◌∷◌, Option, Some}
use Rattle.std.proofs.Common.{None, inl, inr, refl, sym, ap, subst, ◌∙◌, arith}
use Rattle.std.specs.Prelude.{IsTrue, nat_eq}
use Rattle.sv_num.specs.declared.operators.UnOp.{UnOp}
use Rattle.sv_num.specs.declared.operators.BinOp.{BinOp}
use Rattle.sv_num.specs.declared.faults.Place.{Place}
use Rattle.sv_token.specs.declared.signs.SignKind.{SignKind}
use Rattle.sv_token.specs.declared.signs.SignKind.TheVariants as signs
use Rattle.sv_token.specs.declared.signs.Operator.{Operator}
use Rattle.sv_token.specs.Lexemes.{Lexeme, identifier, numeral, sign, Placed}
use Rattle.sv_token.specs.Words.{is_refused_word}
use Rattle.sv_ast.specs.GrammarForms.{lexeme_at, a_sign, binary_operator, unary_operator}
use Rattle.sv_ast.specs.GrammarGroups.{Written, literal, named, bit_of, part_of, group, unary}
use Rattle.sv_ast.specs.GrammarGroups.{binary, choice, join, replication, no_more, more, binding}
use Rattle.sv_ast.specs.GrammarExpressions.{Limits, is_within, IsWritten, AreWritten}
use Rattle.sv_ast.proofs.GrammarOneOperand.{IsOperand}
use Rattle.sv_parse_machine.specs.Symbols.{Inner, operand, tail, selection, selection_end}
use Rattle.sv_parse_machine.specs.Symbols.{members_or_count, members, inner_colon, inner_parenthesis}
use Rattle.sv_parse_machine.specs.Symbols.{inner_bracket, inner_brace, inner, InnerReaction}
use Rattle.sv_parse_machine.specs.ExpressionTable.{name_operand, prefix_operand, operand_on, infix_tail}
use Rattle.sv_parse_machine.specs.ExpressionTable.{tail_on, selection_on, selection_end_on}
use Rattle.sv_parse_machine.specs.ExpressionTable.{members_or_count_on, members_on, inner_colon_on}
use Rattle.sv_parse_machine.specs.ExpressionTable.{inner_parenthesis_on, inner_bracket_on, inner_brace_on}
use Rattle.sv_parse_machine.specs.ExpressionTable.{inner_on}
use Rattle.sv_parse_machine.specs.Machine.{may_be_empty}
use Rattle.sv_parse_machine.proofs.ExpressionForms.{Next, ends_name, operand_form, tail_form}
use Rattle.sv_parse_machine.proofs.ExpressionForms.{selection_form, selection_end_form, members_form}
use Rattle.sv_parse_machine.proofs.ExpressionForms.{members_or_count_form, inner_form, inner_forms}
use Rattle.sv_parse_machine.proofs.ExpressionForms.{AcceptsInner, IsOverInner}
use Rattle.sv_parse_machine.proofs.ExpressionParts.{from_parts}
use Rattle.sv_parse_machine.proofs.InnerSteps.{placed, no_token, alone}

-- ---- from steps to forms

-- a token with nothing behind it
pub last_token : (x : Lexeme) (p : Place) (ts rest : List Placed) → ts ≡ rest →
    lexeme_at x p (placed x p ∷ ts) rest
last_token x p ts rest same = ap (λ us. placed x p ∷ us) same

taken_name : (l : Limits) (n : ℕ) (t : Placed) (ts rest : List Placed) (b : Bool)
    → AcceptsInner l t ts rest (name_operand n b)
    → IsTrue (not b) × selection_form l n ts rest
taken_name l n t ts rest true is = absurd is
taken_name l n t ts rest false is = (refl, alone (selection_form l n) ts rest is.1)

b_named : (l : Limits) (n : ℕ) (y : List ℕ) (p : Place) (ts rest : List Placed)
    → IsTrue (not (is_refused_word y)) → selection_form l n ts rest
    → operand_form l n (placed (identifier y) p ∷ ts) rest
b_named l n y p ts rest free (inl (next, same)) = (
  named y p,
  (
    tt,
    (free, last_token (identifier y) p ts rest same),
    subst (Next ends_name)
        same next,
  ),
)
b_named l n y p ts rest free (inr (inl (i, deep))) =
    (bit_of y p i, (tt, (ts, (free, refl), deep), tt))
b_named l n y p ts rest free (inr (inr (h, i, deep))) =
    (part_of y p h i, (tt, (ts, (free, refl), deep), tt))

operand_binds : (w : Written) → IsOperand w → IsTrue (nat_eq (binding w) 0)
operand_binds (binary op p a b) kind = absurd kind
operand_binds (choice p c a b) kind = absurd kind
operand_binds _ kind = refl

b_prefix : (l : Limits) (n : ℕ) (o : Operator) (p : Place) (ts rest : List Placed) (u : Option UnOp)
    → unary_operator o ≡ u
    → AcceptsInner l (placed (sign (signs.Operator o)) p) ts rest (prefix_operand n u)
    → operand_form l n (placed (sign (signs.Operator o)) p ∷ ts) rest
b_prefix l n o p ts rest None found is = absurd is
b_prefix l n o p ts rest (Some op) found is =
    let (w, (kind, written, ends)) = alone (operand_form l (n + 1)) ts rest is.1 in
    (unary op p w, (tt, (operand_binds w kind, (is.0, (ts, (o, found, refl), written))), ends))

two_more : (n : ℕ) → (n + 1) + 1 ≡ n + 2
two_more n = omega arith

b_braces : (l : Limits) (n : ℕ) (p : Place) (ts mid rest : List Placed) (w : Written)
    → IsTrue (is_within l.levels (n + 1)) → IsWritten l (n + 1) w ts mid
    → members_or_count_form l (n + 1) mid rest
    → operand_form l n (placed (sign signs.OpenBrace) p ∷ ts) rest
b_braces l n p ts mid rest w opens is (inl (es, (m, others, close))) =
    (join p (more w es), (tt, (opens, (ts, refl, (m, (mid, is, others), close))), tt))
b_braces l n p ts mid rest w opens is
    (inr (es, (m, (deep, (m1, second, (m2, are, close))), last))) =
    let are : AreWritten l (n + 2) es m1 m2 =
    subst (λ k. AreWritten l k es m1 m2) (two_more n) are in (
      replication p w es,
      (tt, (opens, (ts, refl, (mid, is, (m, (deep, (m1, second, (m2, are, close))), last)))), tt),
    )

b_operand : (l : Limits) (n : ℕ) (x : Lexeme) (p : Place) (ts rest : List Placed)
    → AcceptsInner l (placed x p) ts rest (operand_on n x)
    → operand_form l n (placed x p ∷ ts) rest
b_operand l n (numeral v) p ts rest is =
    (literal v p, (tt, last_token (numeral v) p ts rest is.1, tt))
b_operand l n (identifier y) p ts rest is =
    let name = taken_name l n (placed (identifier y) p) ts rest (is_refused_word y) is in
    b_named l n y p ts rest name.0 name.1
b_operand l n (sign signs.OpenParenthesis) p ts rest
    (opens, (m1, first, (m2, behind, (m3, close, same)))) =
    let whole = from_parts l (n + 1) ts m2 (m1, first, behind) in
    subst (operand_form l n (placed (sign signs.OpenParenthesis) p ∷ ts)) same
    (group whole.0, (tt, (opens, (ts, (p, refl), (m2, whole.1, close))), tt))
b_operand l n (sign signs.OpenBrace) p ts rest
    (opens, (m1, first, (m2, behind, (m3, others, same)))) =
    let whole = from_parts l (n + 1) ts m2 (m1, first, behind) in
    subst (operand_form l n (placed (sign signs.OpenBrace) p ∷ ts)) same
    (b_braces l n p ts m2 m3 whole.0 opens whole.1 others)
b_operand l n (sign (signs.Operator o)) p ts rest is =
    b_prefix l n o p ts rest (unary_operator o) refl is
b_operand l n x p ts rest is = absurd is

b_infix : (l : Limits) (n : ℕ) (o : Operator) (p : Place) (ts rest : List Placed) (b : Option BinOp)
    → binary_operator o ≡ b
    → AcceptsInner l (placed (sign (signs.Operator o)) p) ts rest (infix_tail n b)
    → tail_form l n (placed (sign (signs.Operator o)) p ∷ ts) rest
b_infix l n o p ts rest None found is = (
  [],
  (
    placed (sign (signs.Operator o)) p ∷ ts,
    refl,
    inl
        (subst (λ b. IsOverInner (infix_tail 0 b)) (sym found) tt, is),
  ),
)
b_infix l n o p ts rest (Some op) found
    (zero, (m, (w, right), (m2, (ks, (m3, row, final)), same))) =
    subst (tail_form l n (placed (sign (signs.Operator o)) p ∷ ts)) same (
      record {
        operator = op;
        place = p;
        right = w;
      } ∷ ks,
      (m3, (ts, (o, found, refl), (m, right, row)), final),
    )

b_tail : (l : Limits) (n : ℕ) (x : Lexeme) (p : Place) (ts rest : List Placed)
    → AcceptsInner l (placed x p) ts rest (tail_on n x)
    → tail_form l n (placed x p ∷ ts) rest
b_tail l n (sign signs.Question) p ts rest
    (opens, (m1, first, (m2, behind, (m3, colon, (m4, second, (m5, last, same)))))) =
    let a = from_parts l (n + 1) ts m2 (m1, first, behind) in
    let b = from_parts l (n + 1) m3 m5 (m4, second, last) in
    subst (tail_form l n (placed (sign signs.Question) p ∷ ts)) same (
      [],
      (
        placed (sign signs.Question) p ∷ ts,
        refl,
        inr
            (p, a.0, b.0, (opens, (ts, refl, (m2, a.1, (m3, colon, b.1)))), b.2, b.3),
      ),
    )
b_tail l n (sign (signs.Operator o)) p ts rest is =
    b_infix l n o p ts rest (binary_operator o) refl is
b_tail l n x p ts rest is = ([], (placed x p ∷ ts, refl, inl (tt, is)))

b_bracket : (l : Limits) (n : ℕ) (p : Place) (ts mid rest : List Placed) (w : Written)
    → IsTrue (is_within l.levels (n + 1)) → IsWritten l (n + 1) w ts mid
    → selection_end_form l (n + 1) mid rest
    → selection_form l n (placed (sign signs.OpenBracket) p ∷ ts) rest
b_bracket l n p ts mid rest w opens is (inl close) =
    inr (inl (w, (opens, (ts, (p, refl), (mid, is, close)))))
b_bracket l n p ts mid rest w opens is (inr (m, colon, (m2, (v, low), close))) =
    inr (inr (w, v, (opens, (ts, (p, refl), (m2, (mid, is, (m, colon, low)), close)))))

b_selection : (l : Limits) (n : ℕ) (x : Lexeme) (p : Place) (ts rest : List Placed)
    → AcceptsInner l (placed x p) ts rest (selection_on n x)
    → selection_form l n (placed x p ∷ ts) rest
b_selection l n (sign signs.OpenBracket) p ts rest
    (opens, (m1, first, (m2, behind, (m3, final, same)))) =
    let whole = from_parts l (n + 1) ts m2 (m1, first, behind) in
    subst (selection_form l n (placed (sign signs.OpenBracket) p ∷ ts)) same
    (b_bracket l n p ts m2 m3 whole.0 opens whole.1 final)
b_selection l n (sign signs.Dot) p ts rest is = absurd is
b_selection l n x p ts rest is = inl (tt, is)

b_selection_end : (l : Limits) (n : ℕ) (x : Lexeme) (p : Place) (ts rest : List Placed)
    → AcceptsInner l (placed x p) ts rest (selection_end_on n x)
    → selection_end_form l n (placed x p ∷ ts) rest
b_selection_end l n (sign signs.CloseBracket) p ts rest is =
    inl (p, last_token (sign signs.CloseBracket) p ts rest is.1)
b_selection_end l n (sign signs.Colon) p ts rest
    (zero, (m1, first, (m2, behind, (m3, close, same)))) =
    let whole = from_parts l n ts m2 (m1, first, behind) in
    subst (selection_end_form l n (placed (sign signs.Colon) p ∷ ts)) same
    (inr (ts, (p, refl), (m2, (whole.0, whole.1), close)))
b_selection_end l n x p ts rest is = absurd is

-- a comma with a member, and more of them
b_member : (l : Limits) (n : ℕ) (p : Place) (ts rest : List Placed)
    → inner_forms l (operand n ∷ tail n ∷ members n ∷ []) ts rest
    → members_form l n (placed (sign signs.Comma) p ∷ ts) rest
b_member l n p ts rest (m1, first, (m2, behind, (m3, (es, (m4, others, close)), same))) =
    let whole = from_parts l n ts m2 (m1, first, behind) in
    subst (members_form l n (placed (sign signs.Comma) p ∷ ts)) same
    (more whole.0 es, (m4, (ts, (p, refl), (m2, whole.1, others)), close))

b_last_member : (l : Limits) (n : ℕ) (p : Place) (ts rest : List Placed) → ts ≡ rest →
    members_form l n (placed (sign signs.CloseBrace) p ∷ ts) rest
b_last_member l n p ts rest same = (
  no_more,
  (
    placed (sign signs.CloseBrace) p ∷
        ts,
    refl,
    (p, last_token (sign signs.CloseBrace) p ts rest same),
  ),
)

b_members : (l : Limits) (n : ℕ) (x : Lexeme) (p : Place) (ts rest : List Placed)
    → AcceptsInner l (placed x p) ts rest (members_on n x)
    → members_form l n (placed x p ∷ ts) rest
b_members l n (sign signs.CloseBrace) p ts rest is = b_last_member l n p ts rest is.1
b_members l n (sign signs.Comma) p ts rest is = b_member l n p ts rest is.1
b_members l n x p ts rest is = absurd is

b_members_or_count : (l : Limits) (n : ℕ) (x : Lexeme) (p : Place) (ts rest : List Placed)
    → AcceptsInner l (placed x p) ts rest (members_or_count_on n x)
    → members_or_count_form l n (placed x p ∷ ts) rest
b_members_or_count l n (sign signs.CloseBrace) p ts rest is = inl (b_last_member l n p ts rest is.1)
b_members_or_count l n (sign signs.Comma) p ts rest is = inl (b_member l n p ts rest is.1)
b_members_or_count l n (sign signs.OpenBrace) p ts rest
    (opens, (m1, first, (m2, behind, (m3, (es, (m4, others, close)), (m5, last, same))))) =
    let whole = from_parts l (n + 1) ts m2 (m1, first, behind) in
    subst (members_or_count_form l n (placed (sign signs.OpenBrace) p ∷ ts)) same
    (inr (
      more whole.0 es,
      (m3, (opens, (ts, (p, refl), (m4, (m2, whole.1, others), close))), last),
    ))
b_members_or_count l n x p ts rest is = absurd is

-- a symbol that takes its sign alone
abbrev TakesSign : (Lexeme → InnerReaction) → SignKind → Type 0
TakesSign on s =
    (l : Limits) (x : Lexeme) (p : Place) (ts rest : List Placed)
    → AcceptsInner l (placed x p) ts rest (on x) → a_sign s (placed x p ∷ ts) rest

b_colon : TakesSign inner_colon_on signs.Colon
b_colon l (sign signs.Colon) p ts rest is = (p, last_token (sign signs.Colon) p ts rest is.1)
b_colon l x p ts rest is = absurd is

b_parenthesis : TakesSign inner_parenthesis_on signs.CloseParenthesis
b_parenthesis l (sign signs.CloseParenthesis) p ts rest is =
    (p, last_token (sign signs.CloseParenthesis) p ts rest is.1)
b_parenthesis l x p ts rest is = absurd is

b_close_bracket : TakesSign inner_bracket_on signs.CloseBracket
b_close_bracket l (sign signs.CloseBracket) p ts rest is =
    (p, last_token (sign signs.CloseBracket) p ts rest is.1)
b_close_bracket l x p ts rest is = absurd is

b_brace : TakesSign inner_brace_on signs.CloseBrace
b_brace l (sign signs.CloseBrace) p ts rest is =
    (p, last_token (sign signs.CloseBrace) p ts rest is.1)
b_brace l x p ts rest is = absurd is

pub b_inner : (l : Limits) (s : Inner) (x : Lexeme) (p : Place) (ts rest : List Placed)
    → AcceptsInner l (placed x p) ts rest (inner_on s x)
    → inner_form l s (placed x p ∷ ts) rest
b_inner l (operand n) x p ts rest is = b_operand l n x p ts rest is
b_inner l (tail n) x p ts rest is = b_tail l n x p ts rest is
b_inner l (selection n) x p ts rest is = b_selection l n x p ts rest is
b_inner l (selection_end n) x p ts rest is = b_selection_end l n x p ts rest is
b_inner l (members_or_count n) x p ts rest is = b_members_or_count l n x p ts rest is
b_inner l (members n) x p ts rest is = b_members l n x p ts rest is
b_inner l inner_colon x p ts rest is = b_colon l x p ts rest is
b_inner l inner_parenthesis x p ts rest is = b_parenthesis l x p ts rest is
b_inner l inner_bracket x p ts rest is = b_close_bracket l x p ts rest is
b_inner l inner_brace x p ts rest is = b_brace l x p ts rest is

-- ---- no tokens

pub no_operand : (l : Limits) (n : ℕ) (rest : List Placed) → operand_form l n [] rest → ⊥
no_operand l n rest (literal v p, (kind, is, ends)) = no_token is
no_operand l n rest (named y p, (kind, is, ends)) = no_token is.1
no_operand l n rest (bit_of y p i, (kind, is, ends)) = no_token is.1.1
no_operand l n rest (part_of y p h i, (kind, is, ends)) = no_token is.1.1
no_operand l n rest (group e, (kind, is, ends)) = no_token is.1.1.1
no_operand l n rest (unary op p e, (kind, is, ends)) = no_token is.1.1.1.2
no_operand l n rest (binary op p a b, (kind, is, ends)) = kind
no_operand l n rest (choice p c a b, (kind, is, ends)) = kind
no_operand l n rest (join p es, (kind, is, ends)) = no_token is.1.1
no_operand l n rest (replication p c es, (kind, is, ends)) = no_token is.1.1

no_tail : (l : Limits) (n : ℕ) (rest : List Placed) → tail_form l n [] rest → [] ≡ rest
no_tail l n rest ([], (m, row, inl (next, same))) = row ∙ same
no_tail l n rest ([], (m, row, inr (p, a, b, deep, ends, next))) =
    absurd (no_token (row ∙ deep.1.1))
no_tail l n rest (k ∷ ks, (m, row, final)) = absurd (no_token row.1.2)

no_members : (l : Limits) (n : ℕ) (rest : List Placed) → members_form l n [] rest → ⊥
no_members l n rest (no_more, (m, same, close)) = no_token (same ∙ close.1)
no_members l n rest (more e es, (m, others, close)) = no_token others.1.1

-- a symbol with no tokens is one that may have none
pub none_inner : (l : Limits) (start : ℕ) (s : Inner) (rest : List Placed) →
    inner_form l s [] rest → IsTrue (may_be_empty (inner start s)) × ([] ≡ rest)
none_inner l start (operand n) rest is = absurd (no_operand l n rest is)
none_inner l start (tail n) rest is = (refl, no_tail l n rest is)
none_inner l start (selection n) rest (inl (next, same)) = (refl, same)
none_inner l start (selection n) rest (inr (inl (i, deep))) = absurd (no_token deep.1.1.1)
none_inner l start (selection n) rest (inr (inr (h, i, deep))) = absurd (no_token deep.1.1.1)
none_inner l start (selection_end n) rest (inl close) = absurd (no_token close.1)
none_inner l start (selection_end n) rest (inr is) = absurd (no_token is.1.1)
none_inner l start (members_or_count n) rest (inl is) = absurd (no_members l n rest is)
none_inner l start (members_or_count n) rest (inr (es, (m, deep, last))) =
    absurd (no_token deep.1.1.1)
none_inner l start (members n) rest is = absurd (no_members l n rest is)
none_inner l start inner_colon rest is = absurd (no_token is.1)
none_inner l start inner_parenthesis rest is = absurd (no_token is.1)
none_inner l start inner_bracket rest is = absurd (no_token is.1)
none_inner l start inner_brace rest is = absurd (no_token is.1)
