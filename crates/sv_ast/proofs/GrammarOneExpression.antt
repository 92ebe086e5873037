-- Tokens spell one expression: where no binary operator, `?` or `[` follows, its tree and its end
-- are determined.
use Rattle.std.proofs.Common.{◌≡◌, ℕ, ◌+◌, Bool, true, false, ◌&&◌, List, [], ◌∷◌, ◌++◌, refl, sym}
use Rattle.std.proofs.Common.{ap, subst, ◌∙◌}
use Rattle.std.specs.Prelude.{IsTrue, nat_le, nat_lt}
use Rattle.std.proofs.lemmas.Bool.{false≢true, and_parts}
use Rattle.sv_num.specs.declared.operators.BinOp.{BinOp}
use Rattle.sv_num.specs.declared.operators.BinOp.TheVariants.{Mul}
use Rattle.sv_num.specs.declared.operators.UnOp.{UnOp}
use Rattle.sv_num.specs.declared.faults.Place.{Place}
use Rattle.sv_token.specs.declared.signs.SignKind.TheVariants as signs
use Rattle.sv_token.specs.Lexemes.{sign, Placed}
use Rattle.sv_ast.specs.Tree.{ExpressionTree}
use Rattle.sv_ast.specs.GrammarForms.{Form, ◌⨾◌, given, nothing, sign_at, a_sign, binary_at}
use Rattle.sv_ast.specs.GrammarGroups.{Written, literal, named, bit_of, part_of, group, unary}
use Rattle.sv_ast.specs.GrammarGroups.{binary, choice, join, replication, WrittenList, no_more}
use Rattle.sv_ast.specs.GrammarGroups.{more, without_groups, precedence_of, binding}
use Rattle.sv_ast.specs.GrammarExpressions.{Limits, IsWritten, IsExpression}
use Rattle.sv_ast.proofs.GrammarNesting.{Piece, operand, operator, pieces, IsNested, one_nesting}
use Rattle.sv_ast.proofs.GrammarOneToken.{one_sign, one_sign_at, one_binary, NextIs, is_no_bracket}
use Rattle.sv_ast.proofs.GrammarOneToken.{is_no_operator, ends_row, ends_expression, next_row}
use Rattle.sv_ast.proofs.GrammarOneToken.{next_bracket, next_at, next_not}
use Rattle.sv_ast.proofs.GrammarOneOperand.{IsOperand, tight_is_operand, IsOne, IsAny, AreOne}
use Rattle.sv_ast.proofs.GrammarOneOperand.{one_literal, one_named, one_bit, one_part, one_group}
use Rattle.sv_ast.proofs.GrammarOneOperand.{one_unary_operand, one_join, one_replication}

-- ---- rows of operands and operators

abbrev pub InRow : Limits → ℕ → List Piece → Form
InRow l n [] = nothing
InRow l n (operand w ∷ ps) = given (IsOperand w) (IsWritten l n w ⨾ InRow l n ps)
InRow l n (operator op p ∷ ps) = binary_at op p ⨾ InRow l n ps

-- operands and operators alternate, from an operand on or from an operator on
abbrev pub Alternates : (operand_first : Bool) → List Piece → Type 0
Alternates true (operand w ∷ ps) = Alternates false ps
Alternates false [] = Unit {0}
Alternates false (operator op p ∷ ps) = Alternates true ps
Alternates _ _ = ⊥

abbrev pub AreOnePieces : List Piece → Type 0
AreOnePieces [] = Unit {0}
AreOnePieces (operand w ∷ ps) = (IsOperand w → IsOne IsOperand is_no_bracket w) × AreOnePieces ps
AreOnePieces (operator op p ∷ ps) = AreOnePieces ps

append_pieces : (xs : List Piece) (op : BinOp) (p : Place) (ys : List Piece) → AreOnePieces xs →
    AreOnePieces ys → AreOnePieces (xs ++ operator op p ∷ ys)
append_pieces [] op p ys first second = second
append_pieces (operand w ∷ xs) op p ys first second =
    (first.0, append_pieces xs op p ys first.1 second)
append_pieces (operator o q ∷ xs) op p ys first second = append_pieces xs op p ys first second

append_row : (l : Limits) (n : ℕ) (xs ys : List Piece) (ts mid r : List Placed) →
    InRow l n xs ts mid → InRow l n ys mid r → InRow l n (xs ++ ys) ts r
append_row l n [] ys ts mid r first second = subst (λ us. InRow l n ys us r) (sym first) second
append_row l n (operand w ∷ xs) ys ts mid r first second =
    (first.0, (first.1.0, first.1.1, append_row l n xs ys first.1.0 mid r first.1.2 second))
append_row l n (operator o q ∷ xs) ys ts mid r first second =
    (first.0, first.1, append_row l n xs ys first.0 mid r first.2 second)

append_alternates : (first : Bool) (xs : List Piece) (op : BinOp) (p : Place) (ys : List Piece)
    → Alternates first xs → Alternates true ys → Alternates first (xs ++ operator op p ∷ ys)
append_alternates true [] op p ys one two = absurd one
append_alternates true (operand w ∷ xs) op p ys one two = append_alternates false xs op p ys one two
append_alternates true (operator o q ∷ xs) op p ys one two = absurd one
append_alternates false [] op p ys one two = two
append_alternates false (operand w ∷ xs) op p ys one two = absurd one
append_alternates false (operator o q ∷ xs) op p ys one two =
    append_alternates true xs op p ys one two

pieces_alternate : (w : Written) → Alternates true (pieces w)
pieces_alternate (binary op p a b) =
    append_alternates true (pieces a) op p (pieces b) (pieces_alternate a) (pieces_alternate b)
pieces_alternate _ = tt

abbrev pub NoChoice : Written → Type 0
NoChoice (choice p c a b) = ⊥
NoChoice w = Unit {0}

no_choice_at : (op : BinOp) → IsTrue (nat_le 11 (precedence_of op)) → ⊥
no_choice_at Mul loose = false≢true loose
no_choice_at _ loose = false≢true loose

no_choice_below : (op : BinOp) → IsTrue (nat_lt 11 (precedence_of op)) → ⊥
no_choice_below Mul loose = false≢true loose
no_choice_below _ loose = false≢true loose

pub left_is_no_choice : (op : BinOp) (a : Written)
    → IsTrue (nat_le (binding a) (precedence_of op)) → NoChoice a
left_is_no_choice op (choice p c a b) loose = no_choice_at op loose
left_is_no_choice op _ loose = tt

pub right_is_no_choice : (op : BinOp) (a : Written)
    → IsTrue (nat_lt (binding a) (precedence_of op)) → NoChoice a
right_is_no_choice op (choice p c a b) loose = no_choice_below op loose
right_is_no_choice op _ loose = tt

pub tight_is_no_choice : (a : Written) → IsTrue (nat_le (binding a) 10) → NoChoice a
tight_is_no_choice (choice p c a b) loose = false≢true loose
tight_is_no_choice _ loose = tt

in_row : (l : Limits) (n : ℕ) (w : Written) (ts r : List Placed) → NoChoice w →
    IsWritten l n w ts r → InRow l n (pieces w) ts r
in_row l n (binary op p a b) ts r kind is =
    let parts = and_parts (nat_le (binding a) (precedence_of op))
    (nat_lt (binding b) (precedence_of op)) is.0 in
    append_row l n (pieces a) (operator op p ∷ pieces b) ts is.1.0 r
    (in_row l n a ts is.1.0 (left_is_no_choice op a parts.0) is.1.1)
    (is.1.2.0, is.1.2.1, in_row l n b is.1.2.0 r (right_is_no_choice op b parts.1) is.1.2.2)
in_row l n (choice p c a b) ts r kind is = absurd kind
in_row l n (literal v p) ts r kind is = (tt, (r, is, refl))
in_row l n w ts r kind is = (tt, (r, is, refl))

is_nested : (l : Limits) (n : ℕ) (w : Written) (ts r : List Placed) → IsWritten l n w ts r →
    IsNested w
is_nested l n (binary op p a b) ts r is =
    (is.0, is_nested l n a ts is.1.0 is.1.1, is_nested l n b is.1.2.0 r is.1.2.2)
is_nested l n _ ts r is = tt

-- an operator follows, or what follows the row
next_of_row : (l : Limits) (n : ℕ) (xs : List Piece) (ts r : List Placed) → Alternates false xs →
    InRow l n xs ts r → NextIs ends_row r → NextIs is_no_bracket ts
next_of_row l n [] ts r alternates is ends =
    subst (NextIs is_no_bracket) (sym is) (next_bracket r ends)
next_of_row l n (operand w ∷ xs) ts r alternates is ends = absurd alternates
next_of_row l n (operator op p ∷ xs) ts r alternates is ends =
    next_at is_no_bracket (sign (signs.Operator is.1.0)) p ts is.0 is.1.2 refl

-- where an operator comes no row has ended
row_goes_on : (op : BinOp) (p : Place) (ts rest : List Placed) → binary_at op p ts rest →
    NextIs ends_row ts → ⊥
row_goes_on op p ts rest is ends =
    next_not ends_row (sign (signs.Operator is.0)) p ts rest is.2 (ap is_no_operator is.1) ends

one_row : (first : Bool) (xs : List Piece) → AreOnePieces xs → Alternates first xs
    → (l k : Limits) (n m : ℕ) (ys : List Piece) (ts r s : List Placed)
    → Alternates first ys → InRow l n xs ts r → InRow k m ys ts s → NextIs ends_row r
    → NextIs ends_row s → (xs ≡ ys) × (r ≡ s)
one_row true [] ones alternates l k n m ys ts r s alternates_too is is_too ends ends_too =
    absurd alternates
one_row true (operator op p ∷ xs) ones alternates l k n m ys ts r s alternates_too is is_too ends
    ends_too = absurd alternates
one_row true (operand u ∷ xs) ones alternates l k n m [] ts r s alternates_too is is_too ends
    ends_too = absurd alternates_too
one_row true (operand u ∷ xs) ones alternates l k n m (operator op p ∷ ys) ts r s alternates_too is
    is_too ends ends_too = absurd alternates_too
one_row true (operand u ∷ xs) ones alternates l k n m (operand v ∷ ys) ts r s alternates_too is
    is_too ends ends_too =
    let same = ones.0 is.0 l k n m v ts is.1.0 is_too.1.0 is_too.0 is.1.1 is_too.1.1
    (next_of_row l n xs is.1.0 r alternates is.1.2 ends)
    (next_of_row k m ys is_too.1.0 s alternates_too is_too.1.2 ends_too) in
    let rest = one_row false xs ones.1 alternates l k n m ys is.1.0 r s alternates_too is.1.2
    (subst (λ us. InRow k m ys us s) (sym same.1) is_too.1.2) ends ends_too in
    let heads = same.0 in
    let tails = rest.0 in
    (cc, rest.1)
one_row false (operand w ∷ xs) ones alternates l k n m ys ts r s alternates_too is is_too ends
    ends_too = absurd alternates
one_row false [] ones alternates l k n m (operand w ∷ ys) ts r s alternates_too is is_too ends
    ends_too = absurd alternates_too
one_row false [] ones alternates l k n m [] ts r s alternates_too is is_too ends ends_too =
    (refl, sym is ∙ is_too)
one_row false [] ones alternates l k n m (operator op p ∷ ys) ts r s alternates_too is is_too ends
    ends_too =
    absurd (row_goes_on op p ts is_too.0 is_too.1 (subst (NextIs ends_row) (sym is) ends))
one_row false (operator op p ∷ xs) ones alternates l k n m [] ts r s alternates_too is is_too ends
    ends_too =
    absurd (row_goes_on op p ts is.0 is.1 (subst (NextIs ends_row) (sym is_too) ends_too))
one_row false (operator op p ∷ xs) ones alternates l k n m (operand w ∷ ys) ts r s alternates_too is
    is_too ends ends_too = absurd alternates_too
one_row false (operator op p ∷ xs) ones alternates l k n m (operator oq q ∷ ys) ts r s
    alternates_too is is_too ends ends_too =
    let same = one_binary op oq p q ts is.0 is_too.0 is.1 is_too.1 in
    let rest = one_row true xs ones alternates l k n m ys is.0 r s alternates_too is.2
    (subst (λ us. InRow k m ys us s) (sym same.2) is_too.2) ends ends_too in
    let ops = same.0 in
    let places = same.1 in
    let tails = rest.0 in
    (cc, rest.1)

-- ---- expressions without and with a choice

pub row_is_one : (w : Written) → NoChoice w → AreOnePieces (pieces w) → IsOne NoChoice ends_row w
row_is_one w kind ones l k n m v ts r s kind_too is is_too ends ends_too =
    let rows = one_row true (pieces w) ones (pieces_alternate w) l k n m (pieces v) ts r s
    (pieces_alternate v)
    (in_row l n w ts r kind is) (in_row k m v ts s kind_too is_too) ends ends_too in
    (one_nesting w v (is_nested l n w ts r is) (is_nested k m v ts s is_too) rows.0, rows.1)

no_question : (p : Place) (ts rest : List Placed) → sign_at signs.Question p ts rest →
    NextIs ends_expression ts → ⊥
no_question p ts rest is ends =
    next_not ends_expression (sign signs.Question) p ts rest is refl ends

question_ends_row : (p : Place) (ts rest : List Placed) → sign_at signs.Question p ts rest →
    NextIs ends_row ts
question_ends_row p ts rest is = next_at ends_row (sign signs.Question) p ts rest is refl

no_choice_is_one : (w : Written) → NoChoice w → AreOnePieces (pieces w) →
    IsOne IsAny ends_expression w
no_choice_is_one w kind ones l k n m (choice q d a b) ts r s any is is_too ends ends_too =
    let condition = is_too.1 in
    let question = condition.2.1 in
    let same = row_is_one w kind ones l k n m d ts r condition.0 (tight_is_no_choice d is_too.0) is
    condition.1
    (next_row r ends) (question_ends_row q condition.0 question.0 question.1) in
    absurd (no_question q condition.0 question.0 question.1
    (subst (NextIs ends_expression) same.1 ends))
no_choice_is_one w kind ones l k n m (literal x p) ts r s any is is_too ends ends_too =
    row_is_one w kind ones l k n m (literal x p) ts r s tt is is_too (next_row r ends)
    (next_row s ends_too)
no_choice_is_one w kind ones l k n m v ts r s any is is_too ends ends_too =
    row_is_one w kind ones l k n m v ts r s tt is is_too (next_row r ends) (next_row s ends_too)

not_both : (p : Place) (c a b : Written) → AreOnePieces (pieces c)
    → (l k : Limits) (n m : ℕ) (v : Written) (ts r s : List Placed)
    → NoChoice v → IsWritten l n (choice p c a b) ts r → IsWritten k m v ts s
    → NextIs ends_expression s → ⊥
not_both p c a b ones l k n m v ts r s kind is is_too ends_too =
    let condition = is.1 in
    let question = condition.2.1 in
    let same = row_is_one c (tight_is_no_choice c is.0) ones l k n m v ts condition.0 s kind
    condition.1 is_too
    (question_ends_row p condition.0 question.0 question.1) (next_row s ends_too) in
    no_question p condition.0 question.0 question.1
    (subst (NextIs ends_expression) (sym same.1) ends_too)

choice_is_one : (p : Place) (c a b : Written) → AreOnePieces (pieces c)
    → IsOne IsAny ends_expression a → IsOne IsAny ends_expression b
    → IsOne IsAny ends_expression (choice p c a b)
choice_is_one p c a b ones one two l k n m (choice q d e f) ts r s any is is_too ends ends_too =
    let mine = is.1 in
    let theirs = is_too.1 in
    let first = mine.2.1 in
    let second = theirs.2.1 in
    let conditions = row_is_one c (tight_is_no_choice c is.0) ones l k n m d ts mine.0 theirs.0
    (tight_is_no_choice d is_too.0) mine.1 theirs.1
    (question_ends_row p mine.0 first.0 first.1) (question_ends_row q theirs.0 second.0 second.1) in
    let questions = one_sign_at signs.Question p q mine.0 first.0 second.0 first.1
    (subst (λ us. sign_at signs.Question q us second.0) (sym conditions.1) second.1) in
    let others : (IsWritten k (m + 1) e ⨾ a_sign signs.Colon ⨾ IsWritten k (m + 1) f) first.0 s =
    subst (λ us. (IsWritten k (m + 1) e ⨾ a_sign signs.Colon ⨾ IsWritten k (m + 1) f) us s)
    (sym questions.1) second.2 in
    let values = one l k (n + 1) (m + 1) e first.0 first.2.0 others.0 tt first.2.1 others.1
    (next_at ends_expression (sign signs.Colon) first.2.2.1.0 first.2.0 first.2.2.0
    first.2.2.1.1 refl)
    (next_at ends_expression (sign signs.Colon) others.2.1.0 others.0 others.2.0 others.2.1.1
    refl) in
    let colons = one_sign signs.Colon first.2.0 first.2.2.0 others.2.0 first.2.2.1
    (subst (λ us. a_sign signs.Colon us others.2.0) (sym values.1) others.2.1) in
    let lasts = two l k (n + 1) (m + 1) f first.2.2.0 r s tt first.2.2.2
    (subst (λ us. IsWritten k (m + 1) f us s) (sym colons) others.2.2) ends ends_too in
    let places = questions.0 in
    let cs = conditions.0 in
    let es = values.0 in
    let fs = lasts.0 in
    (cc, lasts.1)
choice_is_one p c a b ones one two l k n m (literal x q) ts r s any is is_too ends ends_too =
    absurd (not_both p c a b ones l k n m (literal x q) ts r s tt is is_too ends_too)
choice_is_one p c a b ones one two l k n m v ts r s any is is_too ends ends_too =
    absurd (not_both p c a b ones l k n m v ts r s tt is is_too ends_too)

operand_is_one : (e : Written) → AreOnePieces (pieces e) → IsOperand e →
    IsOne IsOperand is_no_bracket e
operand_is_one (binary op p a b) ones kind = absurd kind
operand_is_one _ ones kind = ones.0 kind

unary_is_one : (op : UnOp) (p : Place) (e : Written) → AreOnePieces (pieces e) →
    IsOne IsOperand is_no_bracket (unary op p e)
unary_is_one op p e ones l k n m v ts r s kind is is_too ends ends_too =
    one_unary_operand op p e (operand_is_one e ones (tight_is_operand e is.0)) l k n m v ts r s kind
    is is_too ends ends_too

mutual
  pub written_is_one : (w : Written) → AreOnePieces (pieces w) × IsOne IsAny ends_expression w
  written_is_one (literal v p) =
      let one = one_literal v p in
      (((λ kind. one), tt), no_choice_is_one (literal v p) tt ((λ kind. one), tt))
  written_is_one (named x p) =
      let one = one_named x p in
      (((λ kind. one), tt), no_choice_is_one (named x p) tt ((λ kind. one), tt))
  written_is_one (bit_of x p i) =
      let one = one_bit x p i (written_is_one i).1 in
      (((λ kind. one), tt), no_choice_is_one (bit_of x p i) tt ((λ kind. one), tt))
  written_is_one (part_of x p h i) =
      let one = one_part x p h i (written_is_one h).1 (written_is_one i).1 in
      (((λ kind. one), tt), no_choice_is_one (part_of x p h i) tt ((λ kind. one), tt))
  written_is_one (group e) =
      let one = one_group e (written_is_one e).1 in
      (((λ kind. one), tt), no_choice_is_one (group e) tt ((λ kind. one), tt))
  written_is_one (unary op p e) =
      let one = unary_is_one op p e (written_is_one e).0 in
      (((λ kind. one), tt), no_choice_is_one (unary op p e) tt ((λ kind. one), tt))
  written_is_one (binary op p a b) =
      let ones = append_pieces (pieces a) op p (pieces b) (written_is_one a).0
      (written_is_one b).0 in
      (ones, no_choice_is_one (binary op p a b) tt ones)
  written_is_one (choice p c a b) = (
    ((λ kind. absurd kind), tt),
    choice_is_one p c a b (written_is_one c).0 (written_is_one a).1
        (written_is_one b).1,
  )
  written_is_one (join p es) =
      let one = one_join p es (all_are_one es) in
      (((λ kind. one), tt), no_choice_is_one (join p es) tt ((λ kind. one), tt))
  written_is_one (replication p c es) =
      let one = one_replication p c es (written_is_one c).1 (all_are_one es) in
      (((λ kind. one), tt), no_choice_is_one (replication p c es) tt ((λ kind. one), tt))

  pub all_are_one : (es : WrittenList) → AreOne es
  all_are_one no_more = tt
  all_are_one (more e es) = ((written_is_one e).1, all_are_one es)

-- an expression is determined by its tokens
pub one_expression : (l k : Limits) (n m : ℕ) (e f : ExpressionTree) (ts r s : List Placed)
    → IsExpression l n e ts r → IsExpression k m f ts s → NextIs ends_expression r
    → NextIs ends_expression s → (e ≡ f) × (r ≡ s)
unfolding IsExpression
one_expression l k n m e f ts r s is is_too ends ends_too =
    let same = (written_is_one is.0).1 l k n m is_too.0 ts r s tt is.3 is_too.3 ends ends_too in
    (sym is.1 ∙ ap without_groups same.0 ∙ is_too.1, same.1)
