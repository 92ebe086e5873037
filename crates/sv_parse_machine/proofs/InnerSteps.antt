-- What a token does to a symbol of an expression is what the symbol's form says of it.
use Rattle.std.proofs.Common.{◌≡◌, ℕ, ◌+◌, Bool, true, false, not, List, [], ◌∷◌, ◌++◌, Option, Some}
use Rattle.std.proofs.Common.{None, inl, inr, refl, sym, subst, ◌∙◌, arith}
use Rattle.std.specs.Prelude.{IsTrue}
use Rattle.std.proofs.lemmas.Bool.{false≢true}
use Rattle.sv_num.specs.declared.operators.BinOp.{BinOp}
use Rattle.sv_num.specs.declared.faults.Place.{Place}
use Rattle.sv_token.specs.declared.signs.SignKind.{SignKind}
use Rattle.sv_token.specs.declared.signs.SignKind.TheVariants as signs
use Rattle.sv_token.specs.Lexemes.{Lexeme, sign, Placed}
use Rattle.sv_token.specs.Words.{is_refused_word}
use Rattle.sv_ast.specs.GrammarForms.{Form, ◌⨾◌, nothing, each, lexeme_at, sign_at, a_sign}
use Rattle.sv_ast.specs.GrammarForms.{binary_operator}
use Rattle.sv_ast.specs.GrammarGroups.{Written, literal, named, bit_of, part_of, group, unary}
use Rattle.sv_ast.specs.GrammarGroups.{binary, choice, join, replication, WrittenList, no_more}
use Rattle.sv_ast.specs.GrammarGroups.{more}
use Rattle.sv_ast.specs.GrammarExpressions.{Limits, is_within, IsWritten, AreWritten, AreMore}
use Rattle.sv_ast.proofs.GrammarOneOperand.{tight_is_operand}
use Rattle.sv_parse_machine.specs.Symbols.{Inner, operand, tail, selection, selection_end}
use Rattle.sv_parse_machine.specs.Symbols.{members_or_count, members, inner_colon, inner_parenthesis}
use Rattle.sv_parse_machine.specs.Symbols.{inner_bracket, inner_brace, InnerReaction, takes_inner}
use Rattle.sv_parse_machine.specs.Symbols.{over_inner}
use Rattle.sv_parse_machine.specs.ExpressionTable.{name_operand, prefix_operand, operand_on, infix_tail}
use Rattle.sv_parse_machine.specs.ExpressionTable.{tail_on, selection_on, selection_end_on}
use Rattle.sv_parse_machine.specs.ExpressionTable.{members_or_count_on, members_on, inner_colon_on}
use Rattle.sv_parse_machine.specs.ExpressionTable.{inner_parenthesis_on, inner_bracket_on, inner_brace_on}
use Rattle.sv_parse_machine.specs.ExpressionTable.{inner_on}
use Rattle.sv_parse_machine.proofs.ExpressionForms.{Next, ends_tail, ends_name, operand_form, tail_form}
use Rattle.sv_parse_machine.proofs.ExpressionForms.{selection_form, selection_end_form, members_form}
use Rattle.sv_parse_machine.proofs.ExpressionForms.{members_or_count_form, inner_form, AcceptsInner}
use Rattle.sv_parse_machine.proofs.ExpressionForms.{IsOverInner}
use Rattle.sv_parse_machine.proofs.ExpressionParts.{next_at, ends_any, to_parts}

-- ---- one token

abbrev pub placed : Lexeme → Place → Placed
placed x p = record { lexeme = x; place = p }

pub by_token : {x : Lexeme} {p : Place} {t : Placed} {ts mid : List Placed} (G : Lexeme
    → List Placed → Type 0)
    → lexeme_at x p (t ∷ ts) mid → G x mid → G t.lexeme ts
by_token {x} {p} {t} {ts} {mid} G at is =
    let heads : t ≡ placed x p = cc in
    let tails : ts ≡ mid = cc in
    subst (λ (u : Placed). G u.lexeme ts) (sym heads) (subst (λ us. G x us) (sym tails) is)

pub no_token : {t : Placed} {ts : List Placed} → [] ≡ t ∷ ts → ⊥
no_token {t} {ts} e = cc

pub free_name : (b : Bool) → IsTrue (not b) → (P : Bool → Type 0) → P false → P b
free_name true free P is = absurd (false≢true free)
free_name false free P is = is

within_zero : (o : Option ℕ) → IsTrue (is_within o 0)
within_zero None = refl
within_zero (Some m) = grind arith

pub none_opens : (l : Limits) → IsTrue (is_within l.levels 0)
none_opens l = within_zero l.levels

pub no_arm : (l : Limits) → IsTrue (is_within l.arms 0)
no_arm l = within_zero l.arms

-- a form with nothing behind it
pub alone : (P : Form) (ts rest : List Placed) → (P ⨾ nothing) ts rest → P ts rest
alone P ts rest is = subst (λ us. P ts us) is.2 is.1

module _ {X : Type 0} (form : X → Form) where
  pub append_forms : (xs zs : List X) (ts mid rest : List Placed) → each form xs ts mid →
      each form zs mid rest → each form (xs ++ zs) ts rest
  append_forms [] zs ts mid rest first second =
      subst (λ us. each form zs us rest) (sym first) second
  append_forms (x ∷ xs) zs ts mid rest first second =
      (first.0, first.1, append_forms xs zs first.0 mid rest first.2 second)

  pub split_forms : (xs zs : List X) (ts rest : List Placed) → each form (xs ++ zs) ts rest →
      (each form xs ⨾ each form zs) ts rest
  split_forms [] zs ts rest is = (ts, refl, is)
  split_forms (x ∷ xs) zs ts rest is =
      let others = split_forms xs zs is.0 rest is.2 in
      (others.0, (is.0, is.1, others.1), others.2)

-- ---- from forms to steps

-- an expression in front of a sign that is part of none
before : (l : Limits) (n : ℕ) (w : Written) (s : SignKind) (ts mid rest : List Placed)
    → ends_name (sign s) → ends_tail (sign s)
    → IsWritten l n w ts mid → a_sign s mid rest → (operand_form l n ⨾ tail_form l n) ts mid
before l n w s ts mid rest name_ends tail_ends is at =
    to_parts l n w ts mid is
    (ends_any w mid (next_at ends_name (sign s) at.0 mid rest at.1 name_ends))
    (next_at ends_tail (sign s) at.0 mid rest at.1 tail_ends)

next_member : (P : Lexeme → Type 0) (l : Limits) (n : ℕ) (es : WrittenList) (ts rest : List Placed)
    → P (sign signs.Comma) → P (sign signs.CloseBrace)
    → (AreMore l n es ⨾ a_sign signs.CloseBrace) ts rest → Next P ts
next_member P l n no_more ts rest first second is =
    subst (Next P) (sym is.1) (next_at P (sign signs.CloseBrace) is.2.0 is.0 rest is.2.1 second)
next_member P l n (more e es) ts rest first second is =
    next_at P (sign signs.Comma) is.1.1.0 ts is.1.0 is.1.1.1 first

before_members : (l : Limits) (n : ℕ) (w : Written) (es : WrittenList) (ts mid rest : List Placed)
    → IsWritten l n w ts mid → (AreMore l n es ⨾ a_sign signs.CloseBrace) mid rest
    → (operand_form l n ⨾ tail_form l n) ts mid
before_members l n w es ts mid rest is at =
    to_parts l n w ts mid is (ends_any w mid (next_member ends_name l n es mid rest tt tt at))
    (next_member ends_tail l n es mid rest tt tt at)

over_tail : (n : ℕ) (x : Lexeme) → ends_tail x → (P : InnerReaction → Type 0) → P over_inner →
    P (tail_on n x)
over_tail n (sign (signs.Operator o)) ends P is = over_infix (binary_operator o) ends
  where
    over_infix : (b : Option BinOp) → IsOverInner (infix_tail 0 b) → P (infix_tail n b)
    over_infix None ends = is
    over_infix (Some op) ends = absurd ends
over_tail n (sign signs.Question) ends P is = absurd ends
over_tail n x ends P is = is

over_selection : (n : ℕ) (x : Lexeme) → ends_name x → (P : InnerReaction → Type 0) → P over_inner →
    P (selection_on n x)
over_selection n (sign signs.OpenBracket) ends P is = absurd ends
over_selection n (sign signs.Dot) ends P is = absurd ends
over_selection n x ends P is = is

f_tail : (l : Limits) (n : ℕ) (t : Placed) (ts rest : List Placed) → tail_form l n (t ∷ ts) rest →
    AcceptsInner l t ts rest (tail_on n t.lexeme)
f_tail l n t ts rest ([], (m, row, inl (next, same))) =
    over_tail n t.lexeme (subst (Next ends_tail) (sym row) next) (AcceptsInner l t ts rest)
    (row ∙ same)
f_tail l n t ts rest ([], (m, row, inr (p, a, b, deep, ends, next))) =
    let (opens, (m1, question, (m2, a_is, (m3, colon, b_is)))) = deep in
    let first = before l (n + 1) a signs.Colon m1 m2 m3 tt tt a_is colon in
    let second = to_parts l (n + 1) b m3 rest b_is ends next in
    by_token (λ x us. AcceptsInner l t us rest (tail_on n x))
    (subst (λ us. sign_at signs.Question p us m1) (sym row) question) (
      opens,
      (
        first.0,
        first.1,
        (m2, first.2, (m3, colon, (second.0, second.1, (rest, second.2, refl)))),
      ),
    )
f_tail l n t ts rest (k ∷ ks, (m, row, final)) =
    let (m1, operator, (m2, right, further)) = row in
    by_token (λ x us. AcceptsInner l t us rest (tail_on n x)) operator.2
    (subst (λ b. AcceptsInner l t m1 rest (infix_tail n b)) (sym operator.1)
    (none_opens l, (m2, (k.right, right), (rest, (ks, (m, further, final)), refl))))

f_selection : (l : Limits) (n : ℕ) (t : Placed) (ts rest : List Placed) →
    selection_form l n (t ∷ ts) rest → AcceptsInner l t ts rest (selection_on n t.lexeme)
f_selection l n t ts rest (inl (next, same)) =
    over_selection n t.lexeme next (AcceptsInner l t ts rest) same
f_selection l n t ts rest (inr (inl (i, deep))) =
    let (opens, (m1, bracket, (m2, is, close))) = deep in
    let first = before l (n + 1) i signs.CloseBracket m1 m2 rest tt tt is close in
    by_token (λ x us. AcceptsInner l t us rest (selection_on n x)) bracket.1
    (opens, (first.0, first.1, (m2, first.2, (rest, inl close, refl))))
f_selection l n t ts rest (inr (inr (h, i, deep))) =
    let (opens, (m1, bracket, (m2, (m3, h_is, (m4, colon, i_is)), close))) = deep in
    let first = before l (n + 1) h signs.Colon m1 m3 m4 tt tt h_is colon in
    by_token (λ x us. AcceptsInner l t us rest (selection_on n x)) bracket.1 (
      opens,
      (
        first.0,
        first.1,
        (m3, first.2, (rest, inr (m4, colon, (m2, (i, i_is), close)), refl)),
      ),
    )

f_selection_end : (l : Limits) (n : ℕ) (t : Placed) (ts rest : List Placed)
    → selection_end_form l n (t ∷ ts) rest
    → AcceptsInner l t ts rest (selection_end_on n t.lexeme)
f_selection_end l n t ts rest (inl (p, e)) =
    by_token (λ x us. AcceptsInner l t us rest (selection_end_on n x)) e (none_opens l, refl)
f_selection_end l n t ts rest (inr (m, (p, e), (m2, (w, is), close))) =
    let first = before l n w signs.CloseBracket m m2 rest tt tt is close in
    by_token (λ x us. AcceptsInner l t us rest (selection_end_on n x)) e
    (none_opens l, (first.0, first.1, (m2, first.2, (rest, close, refl))))

f_members : (l : Limits) (n : ℕ) (t : Placed) (ts rest : List Placed) →
    members_form l n (t ∷ ts) rest → AcceptsInner l t ts rest (members_on n t.lexeme)
f_members l n t ts rest (no_more, (m, same, close)) =
    by_token (λ x us. AcceptsInner l t us rest (members_on n x))
    (subst (λ us. sign_at signs.CloseBrace close.0 us rest) (sym same) close.1)
    (none_opens l, refl)
f_members l n t ts rest (more e es, (m, (c, comma, (m2, is, others)), close)) =
    let first = before_members l n e es c m2 rest is (m, others, close) in
    by_token (λ x us. AcceptsInner l t us rest (members_on n x)) comma.1
    (none_opens l, (first.0, first.1, (m2, first.2, (rest, (es, (m, others, close)), refl))))

f_members_or_count : (l : Limits) (n : ℕ) (t : Placed) (ts rest : List Placed)
    → members_or_count_form l n (t ∷ ts) rest
    → AcceptsInner l t ts rest (members_or_count_on n t.lexeme)
f_members_or_count l n t ts rest (inl (no_more, (m, same, close))) =
    by_token (λ x us. AcceptsInner l t us rest (members_or_count_on n x))
    (subst (λ us. sign_at signs.CloseBrace close.0 us rest) (sym same) close.1)
    (none_opens l, refl)
f_members_or_count l n t ts rest (inl (more e es, (m, (c, comma, (m2, is, others)), close))) =
    let first = before_members l n e es c m2 rest is (m, others, close) in
    by_token (λ x us. AcceptsInner l t us rest (members_or_count_on n x)) comma.1
    (none_opens l, (first.0, first.1, (m2, first.2, (rest, (es, (m, others, close)), refl))))
f_members_or_count l n t ts rest
    (inr (no_more, (m, (opens, (m1, brace, (m2, none, close))), last))) = absurd none
f_members_or_count l n t ts rest
    (inr (more e es, (m, (opens, (m1, brace, (m2, (m3, is, others), close))), last))) =
    let first = before_members l (n + 1) e es m1 m3 m is (m2, others, close) in
    by_token (λ x us. AcceptsInner l t us rest (members_or_count_on n x)) brace.1
    (opens, (first.0, first.1, (m3, first.2, (m, (es, (m2, others, close)), (rest, last, refl)))))

two_more : (n : ℕ) → n + 2 ≡ (n + 1) + 1
two_more n = omega arith

f_operand : (l : Limits) (n : ℕ) (t : Placed) (ts rest : List Placed) →
    operand_form l n (t ∷ ts) rest → AcceptsInner l t ts rest (operand_on n t.lexeme)
f_operand l n t ts rest (literal v p, (kind, is, ends)) =
    by_token (λ x us. AcceptsInner l t us rest (operand_on n x)) is (none_opens l, refl)
f_operand l n t ts rest (named y p, (kind, is, ends)) =
    by_token (λ x us. AcceptsInner l t us rest (operand_on n x)) is.1
    (free_name (is_refused_word y) is.0 (λ b.
    AcceptsInner l t rest rest (name_operand n b))
    (none_opens l, (rest, inl (ends, refl), refl)))
f_operand l n t ts rest (bit_of y p i, (kind, (m, name, deep), ends)) =
    by_token (λ x us. AcceptsInner l t us rest (operand_on n x)) name.1
    (free_name (is_refused_word y) name.0 (λ b.
    AcceptsInner l t m rest (name_operand n b))
    (none_opens l, (rest, inr (inl (i, deep)), refl)))
f_operand l n t ts rest (part_of y p h i, (kind, (m, name, deep), ends)) =
    by_token (λ x us. AcceptsInner l t us rest (operand_on n x)) name.1
    (free_name (is_refused_word y) name.0 (λ b.
    AcceptsInner l t m rest (name_operand n b))
    (none_opens l, (rest, inr (inr (h, i, deep)), refl)))
f_operand l n t ts rest (group e, (kind, (opens, (m1, parenthesis, (m2, is, close))), ends)) =
    let first = before l (n + 1) e signs.CloseParenthesis m1 m2 rest tt tt is close in
    by_token (λ x us. AcceptsInner l t us rest (operand_on n x)) parenthesis.1
    (opens, (first.0, first.1, (m2, first.2, (rest, close, refl))))
f_operand l n t ts rest (unary op p e, (kind, (tight, (opens, (m1, operator, is))), ends)) =
    by_token (λ x us. AcceptsInner l t us rest (operand_on n x)) operator.2
    (subst (λ u. AcceptsInner l t m1 rest (prefix_operand n u)) (sym operator.1)
    (opens, (rest, (e, (tight_is_operand e tight, is, ends)), refl)))
f_operand l n t ts rest (binary op p a b, (kind, is, ends)) = absurd kind
f_operand l n t ts rest (choice p c a b, (kind, is, ends)) = absurd kind
f_operand l n t ts rest (join p no_more, (kind, (opens, (m1, brace, (m2, none, close))), ends)) =
    absurd none
f_operand l n t ts rest
    (join p (more e es), (kind, (opens, (m1, brace, (m2, (m3, is, others), close))), ends)) =
    let first = before_members l (n + 1) e es m1 m3 rest is (m2, others, close) in
    by_token (λ x us. AcceptsInner l t us rest (operand_on n x)) brace
    (opens, (first.0, first.1, (m3, first.2, (rest, inl (es, (m2, others, close)), refl))))
f_operand l n t ts rest (
  replication p c es,
  (
    kind,
    (opens, (m1, brace, (m2, is, (m3, (deep, (m4, second, (m5, are, close))), last)))),
    ends,
  ),
) =
    let first = before l (n + 1) c signs.OpenBrace m1 m2 m4 tt tt is second in
    let are : AreWritten l ((n + 1) + 1) es m4 m5 =
    subst (λ k. AreWritten l k es m4 m5) (two_more n) are in
    by_token (λ x us. AcceptsInner l t us rest (operand_on n x)) brace (
      opens,
      (
        first.0,
        first.1,
        (m2, first.2, (rest, inr (es, (m3, (deep, (m4, second, (m5, are, close))), last)), refl)),
      ),
    )

f_one : (l : Limits) (s : SignKind) (on : Lexeme → InnerReaction) → on (sign s) ≡ takes_inner 0 []
    → (t : Placed) (ts rest : List Placed) → a_sign s (t ∷ ts) rest
    → AcceptsInner l t ts rest (on t.lexeme)
f_one l s on taken t ts rest (p, e) =
    by_token (λ x us. AcceptsInner l t us rest (on x)) e
    (subst (AcceptsInner l t rest rest) (sym taken) (none_opens l, refl))

pub f_inner : (l : Limits) (s : Inner) (t : Placed) (ts rest : List Placed) →
    inner_form l s (t ∷ ts) rest → AcceptsInner l t ts rest (inner_on s t.lexeme)
f_inner l (operand n) t ts rest is = f_operand l n t ts rest is
f_inner l (tail n) t ts rest is = f_tail l n t ts rest is
f_inner l (selection n) t ts rest is = f_selection l n t ts rest is
f_inner l (selection_end n) t ts rest is = f_selection_end l n t ts rest is
f_inner l (members_or_count n) t ts rest is = f_members_or_count l n t ts rest is
f_inner l (members n) t ts rest is = f_members l n t ts rest is
f_inner l inner_colon t ts rest is = f_one l signs.Colon inner_colon_on refl t ts rest is
f_inner l inner_parenthesis t ts rest is =
    f_one l signs.CloseParenthesis inner_parenthesis_on refl t ts rest is
f_inner l inner_bracket t ts rest is = f_one l signs.CloseBracket inner_bracket_on refl t ts rest is
f_inner l inner_brace t ts rest is = f_one l signs.CloseBrace inner_brace_on refl t ts rest is
