-- What a part of an expression leaves behind is no longer than what it begins with.
use Rattle.std.proofs.Common.{◌≡◌, ℕ, ◌+◌, ◌≤◌, List, [], ◌∷◌, length, inl, inr, ap, arith}
use Rattle.sv_num.specs.declared.operators.UnOp.{UnOp}
use Rattle.sv_num.specs.declared.operators.BinOp.{BinOp}
use Rattle.sv_num.specs.declared.faults.Place.{Place}
use Rattle.sv_token.specs.declared.signs.SignKind.{SignKind}
use Rattle.sv_token.specs.Lexemes.{Lexeme, Placed}
use Rattle.sv_ast.specs.GrammarForms.{Form, ◌⨾◌, given, lexeme_at, name_at, a_sign, binary_at}
use Rattle.sv_ast.specs.GrammarForms.{unary_at}
use Rattle.sv_ast.specs.GrammarGroups.{Written, literal, named, bit_of, part_of, group, unary}
use Rattle.sv_ast.specs.GrammarGroups.{binary, choice, join, replication, WrittenList, no_more}
use Rattle.sv_ast.specs.GrammarGroups.{more}
use Rattle.sv_ast.specs.GrammarExpressions.{Limits, IsWritten, AreWritten, AreMore}
use Rattle.sv_parse_machine.specs.Symbols.{Inner, operand, tail, selection, selection_end}
use Rattle.sv_parse_machine.specs.Symbols.{members_or_count, members, inner_colon, inner_parenthesis}
use Rattle.sv_parse_machine.specs.Symbols.{inner_bracket, inner_brace}
use Rattle.sv_parse_machine.proofs.ExpressionForms.{operand_is, Link, row_form, chosen_form, tail_form}
use Rattle.sv_parse_machine.proofs.ExpressionForms.{selection_form, selection_end_form, members_form}
use Rattle.sv_parse_machine.proofs.ExpressionForms.{members_or_count_form, inner_form, inner_forms}

abbrev pub Shrinks : Form → Type 0
Shrinks P = (ts rest : List Placed) → P ts rest → length rest ≤ length ts

one : (x : Lexeme) (p : Place) → Shrinks (lexeme_at x p)
one x p ts rest at = omega (arith, ap length at)

same_length : (ts rest : List Placed) → ts ≡ rest → length rest ≤ length ts
same_length ts rest same = omega (arith, ap length same)

then : {P Q : Form} → Shrinks P → Shrinks Q → Shrinks (P ⨾ Q)
then first second ts rest is =
    let a = first ts is.0 is.1 in
    let b = second is.0 rest is.2 in
    omega (arith, a, b)

under : {A : Type 0} {P : Form} → Shrinks P → Shrinks (given A P)
under f ts rest is = f ts rest is.1

a_sign_shrinks : (s : SignKind) → Shrinks (a_sign s)
a_sign_shrinks s ts rest is = one _ _ ts rest is.1

name_shrinks : (x : List ℕ) (p : Place) → Shrinks (name_at x p)
name_shrinks x p ts rest is = one _ _ ts rest is.1

binary_shrinks : (op : BinOp) (p : Place) → Shrinks (binary_at op p)
binary_shrinks op p ts rest is = one _ _ ts rest is.2

unary_shrinks : (op : UnOp) (p : Place) → Shrinks (unary_at op p)
unary_shrinks op p ts rest is = one _ _ ts rest is.2

mutual
  written_shrinks : (l : Limits) (n : ℕ) (w : Written) → Shrinks (IsWritten l n w)
  written_shrinks l n (literal v p) = one _ p
  written_shrinks l n (named x p) = name_shrinks x p
  written_shrinks l n (bit_of x p i) =
      then (name_shrinks x p)
      (under (then (a_sign_shrinks _) (then (written_shrinks l (n + 1) i) (a_sign_shrinks _))))
  written_shrinks l n (part_of x p h i) =
      then (name_shrinks x p) (under (then (a_sign_shrinks _)
      (then (then (written_shrinks l (n + 1) h)
      (then (a_sign_shrinks _) (written_shrinks l (n + 1) i))) (a_sign_shrinks _))))
  written_shrinks l n (group e) =
      under (then (a_sign_shrinks _) (then (written_shrinks l (n + 1) e) (a_sign_shrinks _)))
  written_shrinks l n (unary op p e) =
      under (under (then (unary_shrinks op p) (written_shrinks l (n + 1) e)))
  written_shrinks l n (binary op p a b) =
      under (then (written_shrinks l n a) (then (binary_shrinks op p) (written_shrinks l n b)))
  written_shrinks l n (choice p c a b) =
      under (then (written_shrinks l n c)
      (under (then (one _ p)
      (then (written_shrinks l (n + 1) a)
      (then (a_sign_shrinks _) (written_shrinks l (n + 1) b))))))
  written_shrinks l n (join p es) =
      under (then (one _ p) (then (all_shrink l (n + 1) es) (a_sign_shrinks _)))
  written_shrinks l n (replication p c es) =
      under (then (one _ p) (then (written_shrinks l (n + 1) c)
      (then (under (then (a_sign_shrinks _) (then (all_shrink l (n + 2) es) (a_sign_shrinks _))))
      (a_sign_shrinks _))))

  all_shrink : (l : Limits) (n : ℕ) (es : WrittenList) → Shrinks (AreWritten l n es)
  all_shrink l n no_more = λ ts rest is. absurd is
  all_shrink l n (more e es) = then (written_shrinks l n e) (more_shrink l n es)

  more_shrink : (l : Limits) (n : ℕ) (es : WrittenList) → Shrinks (AreMore l n es)
  more_shrink l n no_more = same_length
  more_shrink l n (more e es) =
      then (a_sign_shrinks _) (then (written_shrinks l n e) (more_shrink l n es))

operand_shrinks : (l : Limits) (n : ℕ) (w : Written) → Shrinks (operand_is l n w)
operand_shrinks l n w ts rest is = written_shrinks l n w ts rest is.1

row_shrinks : (l : Limits) (n : ℕ) (ks : List Link) → Shrinks (row_form l n ks)
row_shrinks l n [] = same_length
row_shrinks l n (k ∷ ks) =
    then (binary_shrinks k.operator k.place)
    (then (operand_shrinks l n k.right) (row_shrinks l n ks))

chosen_shrinks : (l : Limits) (n : ℕ) → Shrinks (chosen_form l n)
chosen_shrinks l n ts rest (p, a, b, deep, ends, next) =
    then (one _ p) (then (written_shrinks l (n + 1) a)
    (then (a_sign_shrinks _) (written_shrinks l (n + 1) b))) ts rest deep.1

tail_shrinks : (l : Limits) (n : ℕ) → Shrinks (tail_form l n)
tail_shrinks l n ts rest (ks, (m, row, inl final)) =
    let a = row_shrinks l n ks ts m row in
    let b = same_length m rest final.1 in
    omega (arith, a, b)
tail_shrinks l n ts rest (ks, (m, row, inr chosen)) =
    let a = row_shrinks l n ks ts m row in
    let b = chosen_shrinks l n m rest chosen in
    omega (arith, a, b)

selection_shrinks : (l : Limits) (n : ℕ) → Shrinks (selection_form l n)
selection_shrinks l n ts rest (inl final) = same_length ts rest final.1
selection_shrinks l n ts rest (inr (inl (i, deep))) =
    then (a_sign_shrinks _) (then (written_shrinks l (n + 1) i) (a_sign_shrinks _)) ts rest deep.1
selection_shrinks l n ts rest (inr (inr (h, i, deep))) =
    then (a_sign_shrinks _)
    (then (then (written_shrinks l (n + 1) h)
    (then (a_sign_shrinks _) (written_shrinks l (n + 1) i))) (a_sign_shrinks _)) ts rest deep.1

selection_end_shrinks : (l : Limits) (n : ℕ) → Shrinks (selection_end_form l n)
selection_end_shrinks l n ts rest (inl close) = a_sign_shrinks _ ts rest close
selection_end_shrinks l n ts rest (inr is) =
    then (a_sign_shrinks _) (then (λ us r w. written_shrinks l n w.0 us r w.1) (a_sign_shrinks _))
    ts rest is

members_shrink : (l : Limits) (n : ℕ) → Shrinks (members_form l n)
members_shrink l n ts rest (es, is) = then (more_shrink l n es) (a_sign_shrinks _) ts rest is

members_or_count_shrink : (l : Limits) (n : ℕ) → Shrinks (members_or_count_form l n)
members_or_count_shrink l n ts rest (inl is) = members_shrink l n ts rest is
members_or_count_shrink l n ts rest (inr (es, is)) =
    then (under (then (a_sign_shrinks _) (then (all_shrink l (n + 1) es) (a_sign_shrinks _))))
    (a_sign_shrinks _) ts rest is

inner_shrinks : (l : Limits) (s : Inner) → Shrinks (inner_form l s)
inner_shrinks l (operand n) ts rest is = operand_shrinks l n is.0 ts rest is.1
inner_shrinks l (tail n) ts rest is = tail_shrinks l n ts rest is
inner_shrinks l (selection n) ts rest is = selection_shrinks l n ts rest is
inner_shrinks l (selection_end n) ts rest is = selection_end_shrinks l n ts rest is
inner_shrinks l (members_or_count n) ts rest is = members_or_count_shrink l n ts rest is
inner_shrinks l (members n) ts rest is = members_shrink l n ts rest is
inner_shrinks l inner_colon ts rest is = a_sign_shrinks _ ts rest is
inner_shrinks l inner_parenthesis ts rest is = a_sign_shrinks _ ts rest is
inner_shrinks l inner_bracket ts rest is = a_sign_shrinks _ ts rest is
inner_shrinks l inner_brace ts rest is = a_sign_shrinks _ ts rest is

pub all_inner_shrink : (l : Limits) (xs : List Inner) → Shrinks (inner_forms l xs)
all_inner_shrink l [] = same_length
all_inner_shrink l (x ∷ xs) = then (inner_shrinks l x) (all_inner_shrink l xs)
