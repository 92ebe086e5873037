-- Expressions (IEEE 1364-2005, annex A and clause 5), and the limits within which texts keep (this
-- project's profile).
use Rattle.std.specs.Prelude.{◌≡◌, ℕ, ◌+◌, ◌-◌, max, nat_le, nat_lt, nat_eq, Bool, true, ◌&&◌}
use Rattle.std.specs.Prelude.{IsTrue, List, length, Option, Some, None}
use Rattle.sv_token.specs.declared.signs.SignKind.TheVariants as signs
use Rattle.sv_token.specs.Lexemes.{Placed}
use Rattle.sv_ast.specs.Tree.{ExpressionTree}
use Rattle.sv_ast.specs.GrammarForms.{Form, ◌⨾◌, given, nothing, never, number_at, name_at, sign_at}
use Rattle.sv_ast.specs.GrammarForms.{a_sign, binary_at, unary_at, in_parentheses, in_brackets}
use Rattle.sv_ast.specs.GrammarForms.{in_braces}
use Rattle.sv_ast.specs.GrammarGroups.{Written, literal, named, bit_of, part_of, group, unary}
use Rattle.sv_ast.specs.GrammarGroups.{binary, choice, join, replication, WrittenList, no_more}
use Rattle.sv_ast.specs.GrammarGroups.{more, without_groups, precedence_of, binding}

-- how many levels may be open at once, how many tokens one expression and how many arms one case
-- may have; and how many tokens at the end of the text were not read yet, so that no expression's
-- tokens among them count
pub record Limits : Type 0 where
  pub levels : Option ℕ
  pub tokens : Option ℕ
  pub arms : Option ℕ
  pub unread : ℕ

abbrev pub is_within : Option ℕ → ℕ → Bool
is_within None n = true
is_within (Some most) n = nat_le n most

-- a form that opens a level, n being open around it
abbrev pub deeper : Limits → ℕ → Form → Form
deeper l n P = given (IsTrue (is_within l.levels (n + 1))) P

-- a written expression, n levels being open around it. Levels are opened by a group in parentheses,
-- braces or brackets, by a unary operator with its operand, and by a choice, from its `?` on. An
-- operand binds at least as tight as its operator, and the right operand of a binary operator
-- tighter
abbrev mutual
  pub IsWritten : Limits → ℕ → Written → Form
  IsWritten l n (literal v p) = number_at v p
  IsWritten l n (named x p) = name_at x p
  IsWritten l n (bit_of x p i) = name_at x p ⨾ deeper l n (in_brackets (IsWritten l (n + 1) i))
  IsWritten l n (part_of x p high low) =
      name_at x p ⨾ deeper l n
      (in_brackets (IsWritten l (n + 1) high ⨾ a_sign signs.Colon ⨾ IsWritten l (n + 1) low))
  IsWritten l n (group e) = deeper l n (in_parentheses (IsWritten l (n + 1) e))
  IsWritten l n (unary op p e) =
      given (IsTrue (nat_eq (binding e) 0)) (deeper l n (unary_at op p ⨾ IsWritten l (n + 1) e))
  IsWritten l n (binary op p a b) =
      given (IsTrue (nat_le (binding a) (precedence_of op)
      && nat_lt (binding b) (precedence_of op)))
      (IsWritten l n a ⨾ binary_at op p ⨾ IsWritten l n b)
  IsWritten l n (choice p c a b) =
      given (IsTrue (nat_le (binding c) 10))
      (IsWritten l n c ⨾ deeper l n (sign_at signs.Question p ⨾ IsWritten l (n + 1) a
      ⨾ a_sign signs.Colon ⨾ IsWritten l (n + 1) b))
  IsWritten l n (join p es) =
      deeper l n (sign_at signs.OpenBrace p ⨾ AreWritten l (n + 1) es ⨾ a_sign signs.CloseBrace)
  IsWritten l n (replication p c es) =
      deeper l n (sign_at signs.OpenBrace p
      ⨾ IsWritten l (n + 1) c
      ⨾ deeper l (n + 1) (in_braces (AreWritten l (n + 2) es))
      ⨾ a_sign signs.CloseBrace)

  -- at least one, commas between them
  pub AreWritten : Limits → ℕ → WrittenList → Form
  AreWritten l n no_more = never
  AreWritten l n (more e es) = IsWritten l n e ⨾ AreMore l n es

  pub AreMore : Limits → ℕ → WrittenList → Form
  AreMore l n no_more = nothing
  AreMore l n (more e es) = a_sign signs.Comma ⨾ IsWritten l n e ⨾ AreMore l n es

-- how many tokens that were read stand before the rest
abbrev pub read_tokens : Limits → List Placed → List Placed → ℕ
read_tokens l ts rest = length ts - max (length rest) l.unread

-- an expression that stands in no other one
unfoldable pub IsExpression : Limits → ℕ → ExpressionTree → Form
IsExpression l n e ts rest =
    (w : Written)
    × (without_groups w ≡ e)
    × IsTrue (is_within l.tokens (read_tokens l ts rest))
    × IsWritten l n w ts rest
