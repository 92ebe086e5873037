-- A written expression is an operand and what follows one: operators with their operands nest in
-- one way, and then a choice may come.
use Rattle.std.proofs.Common.{◌≡◌, ℕ, Bool, true, false, List, [], ◌∷◌, ◌++◌, inl, inr, refl}
use Rattle.std.proofs.Common.{sym, subst, arith}
use Rattle.std.specs.Prelude.{IsTrue, cond, nat_le, nat_lt}
use Rattle.std.proofs.lemmas.Bool.{and_parts, and_from}
use Rattle.sv_num.specs.declared.operators.BinOp.{BinOp}
use Rattle.sv_num.specs.declared.operators.BinOp.TheVariants.{Mul}
use Rattle.sv_num.specs.declared.faults.Place.{Place}
use Rattle.sv_token.specs.declared.signs.SignKind.TheVariants as signs
use Rattle.sv_token.specs.Lexemes.{Lexeme, sign, Placed}
use Rattle.sv_ast.specs.GrammarForms.{◌⨾◌, lexeme_at, binary_at}
use Rattle.sv_ast.specs.GrammarGroups.{Written, literal, named, bit_of, part_of, group, unary}
use Rattle.sv_ast.specs.GrammarGroups.{binary, choice, join, replication, precedence_of, binding}
use Rattle.sv_ast.specs.GrammarExpressions.{Limits, IsWritten}
use Rattle.sv_ast.proofs.GrammarOneOperand.{IsOperand}
use Rattle.sv_ast.proofs.GrammarOneExpression.{NoChoice, left_is_no_choice, right_is_no_choice}
use Rattle.sv_ast.proofs.GrammarOneExpression.{tight_is_no_choice}
use Rattle.sv_parse_machine.proofs.ExpressionForms.{Next, ends_tail, ends_name, Ends, operand_is}
use Rattle.sv_parse_machine.proofs.ExpressionForms.{operand_form, Link, row_form, tail_form}

-- ---- what follows

-- a token that is there passes
pub next_at : (P : Lexeme → Type 0) (x : Lexeme) (p : Place) (ts rest : List Placed) →
    lexeme_at x p ts rest → P x → Next P ts
next_at P x p ts rest at passes = subst (Next P) (sym at) passes

-- where a name ends every operand does
pub ends_any : (w : Written) (rest : List Placed) → Next ends_name rest → Ends w rest
ends_any (named x p) rest next = next
ends_any (unary op p e) rest next = ends_any e rest next
ends_any (binary op p a b) rest next = ends_any b rest next
ends_any (choice p c a b) rest next = ends_any b rest next
ends_any _ rest next = tt

-- ---- levels

precedence_within : (op : BinOp) → IsTrue (nat_le (precedence_of op) 10)
precedence_within Mul = refl
precedence_within _ = refl

no_choice_is_tight : (a : Written) → NoChoice a → IsTrue (nat_le (binding a) 10)
no_choice_is_tight (binary op p a b) kind = precedence_within op
no_choice_is_tight (choice p c a b) kind = absurd kind
no_choice_is_tight _ kind = refl

precedence_is_some : (op : BinOp) → IsTrue (nat_lt 0 (precedence_of op))
precedence_is_some Mul = refl
precedence_is_some _ = refl

precedence_is_not_below : (op : BinOp) → IsTrue (nat_le 0 (precedence_of op))
precedence_is_not_below Mul = refl
precedence_is_not_below _ = refl

-- ---- from expressions to rows

abbrev pub Flat : Limits → ℕ → List Placed → List Placed → Type 0
Flat l n ts rest = (w : Written) × (ks : List Link) × (operand_is l n w ⨾ row_form l n ks) ts rest

append_rows : (l : Limits) (n : ℕ) (ks more : List Link) (ts mid rest : List Placed) →
    row_form l n ks ts mid → row_form l n more mid rest → row_form l n (ks ++ more) ts rest
append_rows l n [] more ts mid rest first second =
    subst (λ us. row_form l n more us rest) (sym first) second
append_rows l n (k ∷ ks) more ts mid rest first second = (
  first.0,
  first.1,
  (
    first.2.0,
    first.2.1,
    append_rows l n ks more first.2.0 mid rest first.2.2
        second,
  ),
)

flat : (l : Limits) (n : ℕ) (w : Written) (ts rest : List Placed) → NoChoice w →
    IsWritten l n w ts rest → Ends w rest → Flat l n ts rest
flat l n (binary op p a b) ts rest kind is ends =
    let parts = and_parts (nat_le (binding a) (precedence_of op))
    (nat_lt (binding b) (precedence_of op)) is.0 in
    let operator = is.1.2.1 in
    let next : Next ends_name is.1.0 =
    next_at ends_name (sign (signs.Operator operator.0)) p is.1.0 is.1.2.0 operator.2 tt in
    let left = flat l n a ts is.1.0 (left_is_no_choice op a parts.0) is.1.1
    (ends_any a is.1.0 next) in
    let right = flat l n b is.1.2.0 rest (right_is_no_choice op b parts.1) is.1.2.2 ends in
    let link : Link = record { operator = op; place = p; right = right.0 } in (
      left.0,
      left.1 ++ link ∷ right.1,
      (
        left.2.0,
        left.2.1,
        append_rows l n left.1 (link ∷ right.1) left.2.0 is.1.0 rest left.2.2
            (is.1.2.0, operator, (right.2.0, right.2.1, right.2.2)),
      ),
    )
flat l n (choice p c a b) ts rest kind is ends = absurd kind
flat l n (named x p) ts rest kind is ends = (named x p, [], (rest, (tt, is, ends), refl))
flat l n (unary op p e) ts rest kind is ends = (unary op p e, [], (rest, (tt, is, ends), refl))
flat l n (literal v p) ts rest kind is ends = (literal v p, [], (rest, (tt, is, tt), refl))
flat l n (bit_of x p i) ts rest kind is ends = (bit_of x p i, [], (rest, (tt, is, tt), refl))
flat l n (part_of x p h i) ts rest kind is ends = (part_of x p h i, [], (rest, (tt, is, tt), refl))
flat l n (group e) ts rest kind is ends = (group e, [], (rest, (tt, is, tt), refl))
flat l n (join p es) ts rest kind is ends = (join p es, [], (rest, (tt, is, tt), refl))
flat l n (replication p c es) ts rest kind is ends =
    (replication p c es, [], (rest, (tt, is, tt), refl))

no_choice_parts : (l : Limits) (n : ℕ) (w : Written) (ts rest : List Placed) → NoChoice w
    → IsWritten l n w ts rest → Ends w rest → Next ends_tail rest
    → (operand_form l n ⨾ tail_form l n) ts rest
no_choice_parts l n w ts rest kind is ends next =
    let row = flat l n w ts rest kind is ends in
    (row.2.0, (row.0, row.2.1), (row.1, (rest, row.2.2, inl (next, refl))))

pub to_parts : (l : Limits) (n : ℕ) (w : Written) (ts rest : List Placed) → IsWritten l n w ts rest
    → Ends w rest → Next ends_tail rest
    → (operand_form l n ⨾ tail_form l n) ts rest
to_parts l n (choice p c a b) ts rest is ends next =
    let (mid, condition, behind) = is.1 in
    let follows : Next ends_name mid =
    next_at ends_name (sign signs.Question) p mid behind.1.0 behind.1.1 tt in
    let row = flat l n c ts mid (tight_is_no_choice c is.0) condition (ends_any c mid follows) in
    (row.2.0, (row.0, row.2.1), (row.1, (mid, row.2.2, inr (p, a, b, behind, ends, next))))
to_parts l n (binary op p a b) ts rest is ends next =
    no_choice_parts l n (binary op p a b) ts rest tt is ends next
to_parts l n (named x p) ts rest is ends next =
    no_choice_parts l n (named x p) ts rest tt is ends next
to_parts l n (unary op p e) ts rest is ends next =
    no_choice_parts l n (unary op p e) ts rest tt is ends next
to_parts l n (literal v p) ts rest is ends next =
    no_choice_parts l n (literal v p) ts rest tt is ends next
to_parts l n (bit_of x p i) ts rest is ends next =
    no_choice_parts l n (bit_of x p i) ts rest tt is ends next
to_parts l n (part_of x p h i) ts rest is ends next =
    no_choice_parts l n (part_of x p h i) ts rest tt is ends next
to_parts l n (group e) ts rest is ends next = no_choice_parts l n (group e) ts rest tt is ends next
to_parts l n (join p es) ts rest is ends next =
    no_choice_parts l n (join p es) ts rest tt is ends next
to_parts l n (replication p c es) ts rest is ends next =
    no_choice_parts l n (replication p c es) ts rest tt is ends next

-- ---- from rows to expressions

-- a further operator and operand behind an expression without choice
abbrev pub insert : Written → BinOp → Place → Written → Written
insert (binary oq q a b) op p x =
    cond (nat_le (precedence_of oq) (precedence_of op)) (binary op p (binary oq q a b) x)
    (binary oq q a (insert b op p x))
insert w op p x = binary op p w x

by_order : (v : Bool) (P : Written → Type 0) (y z : Written) → (v ≡ true → P y) →
    (v ≡ false → P z) → P (cond v y z)
by_order true P y z first second = first refl
by_order false P y z first second = second refl

not_le : (a b : ℕ) → nat_le a b ≡ false → IsTrue (nat_lt b a)
not_le a b above = grind arith

operand_is_tight : (op : BinOp) (x : Written) → IsOperand x →
    IsTrue (nat_lt (binding x) (precedence_of op))
operand_is_tight op (binary oq q a b) kind = absurd kind
operand_is_tight op (choice p c a b) kind = absurd kind
operand_is_tight op _ kind = precedence_is_some op

insert_binds : (v : ℕ) (w : Written) (op : BinOp) (p : Place) (x : Written)
    → IsTrue (nat_lt (binding w) v) → IsTrue (nat_lt (precedence_of op) v)
    → IsTrue (nat_lt (binding (insert w op p x)) v)
insert_binds v (binary oq q a b) op p x first second =
    by_order (nat_le (precedence_of oq) (precedence_of op)) (λ w.
    IsTrue (nat_lt (binding w) v)) (binary op p (binary oq q a b) x)
    (binary oq q a (insert b op p x))
    (λ _. second) (λ _. first)
insert_binds v _ op p x first second = second

-- the expression goes on up to here
abbrev Goes : Limits → ℕ → List Placed → List Placed → Written → Type 0
Goes l n ts rest w = NoChoice w × IsWritten l n w ts rest × Ends w rest

behind_operand : (l : Limits) (n : ℕ) (w : Written) (op : BinOp) (p : Place) (x : Written)
    (ts mid rest : List Placed)
    → IsTrue (nat_le (binding w) (precedence_of op)) → IsWritten l n w ts mid
    → (binary_at op p ⨾ operand_is l n x) mid rest → Goes l n ts rest (binary op p w x)
behind_operand l n w op p x ts mid rest tight is behind =
    let right = behind.2 in (
      tt,
      (
        and_from (nat_le (binding w) (precedence_of op)) (nat_lt (binding x)
            (precedence_of op)) tight
            (operand_is_tight op x right.0),
        (mid, is, (behind.0, behind.1, right.1)),
      ),
      right.2,
    )

inserted : (l : Limits) (n : ℕ) (w : Written) (op : BinOp) (p : Place) (x : Written)
    (ts mid rest : List Placed)
    → NoChoice w → IsWritten l n w ts mid → (binary_at op p ⨾ operand_is l n x) mid rest
    → Goes l n ts rest (insert w op p x)
inserted l n (binary oq q a b) op p x ts mid rest kind is behind =
    let parts = and_parts (nat_le (binding a) (precedence_of oq))
    (nat_lt (binding b) (precedence_of oq)) is.0 in
    let right = inserted l n b op p x is.1.2.0 mid rest (right_is_no_choice oq b parts.1) is.1.2.2
    behind in
    by_order (nat_le (precedence_of oq) (precedence_of op)) (Goes l n ts rest)
    (binary op p (binary oq q a b) x) (binary oq q a (insert b op p x))
    (λ loose. behind_operand l n (binary oq q a b) op p x ts mid rest loose is behind)
    (λ tight. (
      tt,
      (
        and_from (nat_le (binding a) (precedence_of oq))
            (nat_lt (binding (insert b op p x)) (precedence_of oq)) parts.0
            (insert_binds (precedence_of oq) b op p x parts.1
            (not_le (precedence_of oq) (precedence_of op) tight)),
        (is.1.0, is.1.1, (is.1.2.0, is.1.2.1, right.1)),
      ),
      right.2,
    ))
inserted l n (choice q c a b) op p x ts mid rest kind is behind = absurd kind
inserted l n w op p x ts mid rest kind is behind =
    behind_operand l n w op p x ts mid rest (precedence_is_not_below op) is behind

all_inserted : (l : Limits) (n : ℕ) (ks : List Link) (w : Written) (ts mid rest : List Placed)
    → Goes l n ts mid w → row_form l n ks mid rest
    → (v : Written) × Goes l n ts rest v
all_inserted l n [] w ts mid rest goes row = (w, subst (λ us. Goes l n ts us w) row goes)
all_inserted l n (k ∷ ks) w ts mid rest goes row =
    let next = inserted l n w k.operator k.place k.right ts mid row.2.0 goes.0 goes.1
    (row.0, row.1, row.2.1) in
    all_inserted l n ks (insert w k.operator k.place k.right) ts row.2.0 rest next row.2.2

operand_is_no_choice : (w : Written) → IsOperand w → NoChoice w
operand_is_no_choice (choice p c a b) kind = kind
operand_is_no_choice _ kind = tt

pub from_parts : (l : Limits) (n : ℕ) (ts rest : List Placed)
    → (operand_form l n ⨾ tail_form l n) ts rest
    → (w : Written) × IsWritten l n w ts rest × Ends w rest × Next ends_tail rest
from_parts l n ts rest (mid, (w, first), (ks, (stop, row, inl (next, same)))) =
    let row = all_inserted l n ks w ts mid stop
    (operand_is_no_choice w first.0, first.1, first.2) row in
    subst (λ us. (w : Written) × IsWritten l n w ts us × Ends w us × Next ends_tail us) same
    (row.0, row.1.1, row.1.2, next)
from_parts l n ts rest (mid, (w, first), (ks, (stop, row, inr (p, a, b, behind, ends, next)))) =
    let row = all_inserted l n ks w ts mid stop
    (operand_is_no_choice w first.0, first.1, first.2) row in
    (choice p row.0 a b, (no_choice_is_tight row.0 row.1.0, (stop, row.1.1, behind)), ends, next)
