-- Readers of expressions, by the number of steps that they may take.
use Rattle.std.proofs.Common.{ℕ, zero, suc, ◌+◌, ◌-◌, ◌*◌, ◌&&◌, List, length, Option, Some, None}
use Rattle.std.proofs.Common.{refl}
use Rattle.std.specs.Prelude.{IsTrue, nat_le, nat_lt, nat_eq}
use Rattle.sv_num.specs.declared.faults.Place.{Place}
use Rattle.sv_token.specs.declared.signs.SignKind.TheVariants as signs
use Rattle.sv_token.specs.Lexemes.{Placed}
use Rattle.sv_ast.specs.GrammarForms.{name_at}
use Rattle.sv_ast.specs.GrammarGroups.{Written, literal, named, bit_of, part_of, group, unary}
use Rattle.sv_ast.specs.GrammarGroups.{binary, choice, join, replication, no_more, more}
use Rattle.sv_ast.specs.GrammarGroups.{without_groups, precedence_of, binding}
use Rattle.sv_ast.specs.GrammarExpressions.{Limits, is_within, IsWritten, AreMore, read_tokens}
use Rattle.sv_ast.specs.GrammarExpressions.{IsExpression}
use Rattle.sv_ast.proofs.GrammarReads.{◌>>=◌, otherwise, check, Reads, read_sign, read_sign_at}
use Rattle.sv_ast.proofs.GrammarReads.{read_number_at, read_name_at, read_binary_at, read_unary_at}

-- an expression that binds at least as tight as the precedence says
abbrev pub ReadsWithin : ℕ → Limits → ℕ → List Placed → Type 0
ReadsWithin most l n ts =
    Option ((w : Written) × (rest : List Placed) × IsTrue (nat_le (binding w) most)
    × IsWritten l n w ts rest)

abbrev pub may_open : (l : Limits) (n : ℕ) → Option (IsTrue (is_within l.levels (n + 1)))
may_open l n = check (is_within l.levels (n + 1))

abbrev mutual
  pub read_written : (steps : ℕ) (l : Limits) (n : ℕ) (ts : List Placed) → Reads (IsWritten l n) ts
  read_written zero l n ts = None
  read_written (suc k) l n ts = do
    c ← read_within k 10 l n ts
    otherwise (do
      q ← read_sign_at signs.Question c.1
      deep ← may_open l n
      a ← read_written k l (n + 1) q.1
      colon ← read_sign signs.Colon a.1
      b ← read_written k l (n + 1) colon.0
      Some (
        choice q.0 c.0 a.0
            b.0,
        b.1,
        (c.2, (c.1, c.3, (deep, (q.1, q.2, (a.1, a.2, (colon.0, colon.1, b.2)))))),
      ))
        (λ _. Some (c.0, c.1, c.3))

  pub read_within : (steps most : ℕ) (l : Limits) (n : ℕ) (ts : List Placed) →
      ReadsWithin most l n ts
  read_within zero most l n ts = None
  read_within (suc k) most l n ts = do
    a ← read_operand k l n ts
    tight ← check (nat_le (binding a.0) most)
    read_further k most l n ts a.0 a.1 tight a.2

  -- operators behind an operand
  pub read_further : (steps most : ℕ) (l : Limits) (n : ℕ) (ts : List Placed) (a : Written)
      (mid : List Placed)
      → IsTrue (nat_le (binding a) most) → IsWritten l n a ts mid → ReadsWithin most l n ts
  read_further zero most l n ts a mid tight is = None
  read_further (suc k) most l n ts a mid tight is = otherwise (do
    op ← read_binary_at mid
    loose ← check (nat_le (precedence_of op.0) most)
    b ← read_within k (precedence_of op.0 - 1) l n op.2
    nested ← check (nat_le (binding a) (precedence_of op.0)
        && nat_lt (binding b.0) (precedence_of op.0))
    read_further k most l n ts (binary op.0 op.1 a b.0) b.1 loose
        (nested, (mid, is, (op.2, op.3, b.3)))) (λ _. Some (a, mid, tight, is))

  pub read_operand : (steps : ℕ) (l : Limits) (n : ℕ) (ts : List Placed) → Reads (IsWritten l n) ts
  read_operand zero l n ts = None
  read_operand (suc k) l n ts =
      otherwise (do
        v ← read_number_at ts
        Some (literal v.0 v.1, v.2, v.3)) (λ _.
      otherwise (do
        x ← read_name_at ts
        otherwise (read_selected k l n ts x.0 x.1 x.2 x.3) (λ _.
            Some (named x.0 x.1, x.2, x.3))) (λ _.
      otherwise (do
        o ← read_sign signs.OpenParenthesis ts
        deep ← may_open l n
        e ← read_written k l (n + 1) o.0
        c ← read_sign signs.CloseParenthesis e.1
        Some (group e.0, c.0, (deep, (o.0, o.1, (e.1, e.2, c.1))))) (λ _.
      otherwise (read_braces k l n ts) (λ _. (do
        op ← read_unary_at ts
        deep ← may_open l n
        e ← read_operand k l (n + 1) op.2
        tight ← check (nat_eq (binding e.0) 0)
        Some (unary op.0 op.1 e.0, e.1, (tight, (deep, (op.2, op.3, e.2)))))))))

  -- a bit or a part of a name
  pub read_selected : (steps : ℕ) (l : Limits) (n : ℕ) (ts : List Placed) (x : List ℕ) (p : Place)
      (mid : List Placed)
      → name_at x p ts mid → Reads (IsWritten l n) ts
  read_selected zero l n ts x p mid is = None
  read_selected (suc k) l n ts x p mid is = do
    o ← read_sign signs.OpenBracket mid
    deep ← may_open l n
    e ← read_written k l (n + 1) o.0
    otherwise (do
      c ← read_sign signs.CloseBracket e.1
      Some (bit_of x p e.0, c.0, (mid, is, (deep, (o.0, o.1, (e.1, e.2, c.1)))))) (λ _. (do
        colon ← read_sign signs.Colon e.1
        f ← read_written k l (n + 1) colon.0
        c ← read_sign signs.CloseBracket f.1
        Some (
          part_of x p e.0
              f.0,
          c.0,
          (
            mid,
            is,
            (
              deep,
              (o.0, o.1, (f.1, (e.1, e.2, (colon.0, colon.1, f.2)), c.1)),
            ),
          ),
        )))

  -- a join or a replication
  pub read_braces : (steps : ℕ) (l : Limits) (n : ℕ) (ts : List Placed) → Reads (IsWritten l n) ts
  read_braces zero l n ts = None
  read_braces (suc k) l n ts = do
    o ← read_sign_at signs.OpenBrace ts
    deep ← may_open l n
    e ← read_written k l (n + 1) o.1
    otherwise (do
      i ← read_sign signs.OpenBrace e.1
      deeper_too ← may_open l (n + 1)
      f ← read_written k l (n + 2) i.0
      fs ← read_more k l (n + 2) f.1
      c ← read_sign signs.CloseBrace fs.1
      d ← read_sign signs.CloseBrace c.0
      Some (
        replication o.0 e.0 (more f.0 fs.0),
        d.0,
        (
          deep,
          (
            o.1,
            o.2,
            (
              e.1,
              e.2,
              (c.0, (deeper_too, (i.0, i.1, (fs.1, (f.1, f.2, fs.2), c.1))), d.1),
            ),
          ),
        ),
      )) (λ _. (do
        es ← read_more k l (n + 1) e.1
        c ← read_sign signs.CloseBrace es.1
        Some (join o.0 (more e.0 es.0), c.0, (deep, (o.1, o.2, (es.1, (e.1, e.2, es.2), c.1))))))

  pub read_more : (steps : ℕ) (l : Limits) (n : ℕ) (ts : List Placed) → Reads (AreMore l n) ts
  read_more zero l n ts = None
  read_more (suc k) l n ts = otherwise (do
    c ← read_sign signs.Comma ts
    e ← read_written k l n c.0
    es ← read_more k l n e.1
    Some (more e.0 es.0, es.1, (c.0, c.1, (e.1, e.2, es.2)))) (λ _. Some (no_more, ts, refl))

-- steps that are enough for these tokens
abbrev pub steps_for : List Placed → ℕ
steps_for ts = 8 * length ts + 8

abbrev pub read_expression : (l : Limits) (n : ℕ) (ts : List Placed) → Reads (IsExpression l n) ts
unfolding IsExpression
read_expression l n ts = do
  w ← read_written (steps_for ts) l n ts
  short ← check (is_within l.tokens (read_tokens l ts w.1))
  Some (without_groups w.0, w.1, (w.0, refl, short, w.2))
