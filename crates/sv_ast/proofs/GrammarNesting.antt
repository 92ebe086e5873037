-- Binary operators in a row nest in one way: a written expression is determined by its operands and
-- operators in their order.
use Rattle.std.proofs.Common.{◌≡◌, ℕ, ◌-◌, Bool, true, ◌&&◌, List, [], ◌∷◌, ◌++◌, ◌⊎◌, inl}
use Rattle.std.proofs.Common.{inr, ⊎_elim, refl, sym, ap, subst, ◌∙◌, arith}
use Rattle.std.specs.Prelude.{IsTrue, nat_le, nat_lt}
use Rattle.std.specs.List.{list_all}
use Rattle.std.proofs.lemmas.Bool.{and_parts, and_from}
use Rattle.std.proofs.lemmas.List.{append_assoc}
use Rattle.sv_num.specs.declared.operators.BinOp.{BinOp}
use Rattle.sv_num.specs.declared.operators.BinOp.TheVariants.{Mul}
use Rattle.sv_num.specs.declared.faults.Place.{Place}
use Rattle.sv_ast.specs.GrammarGroups.{Written, binary, precedence_of, binding}

-- a place in two splits of a list: it is the same one, or one of them stands before the other
abbrev pub Splits : {A : Type 0} → (before : List A) → A → (after front : List A) → A →
    (back : List A) → Type 0
Splits {A} before x after front y back =
    ((us : List A) × (front ≡ (before ++ x ∷ []) ++ us))
    ⊎ ((us : List A) × (before ≡ (front ++ y ∷ []) ++ us))
    ⊎ ((before ≡ front) × (x ≡ y) × (after ≡ back))

pub splits : {A : Type 0} (before : List A) (x : A) (after front : List A) (y : A) (back : List A)
    → before ++ x ∷ after ≡ front ++ y ∷ back → Splits before x after front y back
splits [] x after [] y back same = inr (inr (refl, cc, cc))
splits [] x after (u ∷ us) y back same = inl (us, cc)
splits (u ∷ us) x after [] y back same = inr (inl (us, cc))
splits (u ∷ us) x after (v ∷ vs) y back same =
    let heads : u ≡ v = cc in
    let tails : us ++ x ∷ after ≡ vs ++ y ∷ back = cc in
    ⊎_elim (λ first. inl (first.0, cc))
    (λ others. ⊎_elim (λ second. inr (inl (second.0, cc))) (λ one.
    inr (inr (cc, one.1, one.2))) others)
    (splits us x after vs y back tails)

-- what stands in a row: operands and binary operators
pub data Piece : Type 0 where
  operand : Written → Piece
  operator : BinOp → Place → Piece

abbrev pub pieces : Written → List Piece
pieces (binary op p a b) = pieces a ++ operator op p ∷ pieces b
pieces w = operand w ∷ []

-- operands of binary operators bind as they must
abbrev pub IsNested : Written → Type 0
IsNested (binary op p a b) =
    IsTrue (nat_le (binding a) (precedence_of op) && nat_lt (binding b) (precedence_of op))
    × IsNested a
    × IsNested b
IsNested w = Unit {0}

-- an operator of this precedence at most, or an operand
abbrev pub is_at_most : ℕ → Piece → Bool
is_at_most v (operand w) = true
is_at_most v (operator op p) = nat_le (precedence_of op) v

le_le : (a b c : ℕ) → IsTrue (nat_le a b) → IsTrue (nat_le b c) → IsTrue (nat_le a c)
le_le a b c first second = grind arith

below : (a b : ℕ) → IsTrue (nat_lt a b) → IsTrue (nat_le a (b - 1))
below a b less = grind arith

not_both : (a b : ℕ) → IsTrue (nat_lt 0 b) → IsTrue (nat_le b a) → IsTrue (nat_le a (b - 1)) → ⊥
not_both a b some up down = grind arith

less_le : (a b : ℕ) → IsTrue (nat_lt a b) → IsTrue (nat_le a b)
less_le a b less = grind arith

all_append : {A : Type 0} (test : A → Bool) (xs ys : List A) → IsTrue (list_all test xs) →
    IsTrue (list_all test ys) → IsTrue (list_all test (xs ++ ys))
all_append test [] ys first second = second
all_append test (x ∷ xs) ys first second =
    let parts = and_parts (test x) (list_all test xs) first in
    and_from (test x) (list_all test (xs ++ ys)) parts.0 (all_append test xs ys parts.1 second)

all_behind : {A : Type 0} (test : A → Bool) (xs : List A) (y : A) (ys : List A) →
    IsTrue (list_all test (xs ++ y ∷ ys)) → IsTrue (test y)
all_behind test [] y ys all = (and_parts (test y) (list_all test ys) all).0
all_behind test (x ∷ xs) y ys all =
    all_behind test xs y ys (and_parts (test x) (list_all test (xs ++ y ∷ ys)) all).1

-- the operators of an expression bind at least as tight as it does
precedences_of_pieces : (v : ℕ) (w : Written) → IsTrue (nat_le (binding w) v) → IsNested w →
    IsTrue (list_all (is_at_most v) (pieces w))
precedences_of_pieces v (binary op p a b) tight nested =
    let parts = and_parts (nat_le (binding a) (precedence_of op)) (nat_lt (binding b)
    (precedence_of op))
    nested.0 in
    all_append (is_at_most v) (pieces a) (operator op p ∷ pieces b)
    (precedences_of_pieces v a (le_le (binding a) (precedence_of op) v parts.0 tight) nested.1)
    (and_from (nat_le (precedence_of op) v) (list_all (is_at_most v) (pieces b)) tight
    (precedences_of_pieces v b
    (le_le (binding b) (precedence_of op) v (less_le (binding b) (precedence_of op) parts.1) tight)
    nested.2))
precedences_of_pieces v _ tight nested = refl

-- precedences count from 1
precedence_is_some : (op : BinOp) → IsTrue (nat_lt 0 (precedence_of op))
precedence_is_some Mul = refl
precedence_is_some _ = refl

some_pieces : (w : Written) → (x : Piece) × (xs : List Piece) × (pieces w ≡ x ∷ xs)
some_pieces (binary op p a b) =
    let (x, xs, same) = some_pieces a in
    (x, xs ++ operator op p ∷ pieces b, ap (λ ys. ys ++ operator op p ∷ pieces b) same)
some_pieces w = (operand w, [], refl)

not_empty : {A : Type 0} (xs : List A) (y : A) (ys : List A) → xs ++ y ∷ ys ≡ [] → ⊥
not_empty [] y ys same = cc
not_empty (x ∷ xs) y ys same = cc

cancel : {A : Type 0} (xs ys zs : List A) → xs ++ ys ≡ xs ++ zs → ys ≡ zs
cancel [] ys zs same = same
cancel (x ∷ xs) ys zs same = cancel xs ys zs cc

no_row_of_one : (op : BinOp) (p : Place) (a b w : Written) →
    pieces a ++ operator op p ∷ pieces b ≡ operand w ∷ [] → ⊥
no_row_of_one op p a b w same =
    let (x, xs, first) = some_pieces a in
    let row : x ∷ (xs ++ operator op p ∷ pieces b) ≡ operand w ∷ [] =
    subst (λ ys. ys ++ operator op p ∷ pieces b ≡ operand w ∷ []) first same in
    not_empty xs (operator op p) (pieces b) cc

-- an expression whose operator stands on the right of another's in the same row binds tighter
no_later : (op : BinOp) (p : Place) (a b : Written) (oq : BinOp) (q : Place) (c d : Written)
    → IsNested (binary op p a b) → IsNested (binary oq q c d) → (us : List Piece)
    → pieces c ≡ (pieces a ++ operator op p ∷ []) ++ us
    → pieces a ++ operator op p ∷ pieces b ≡ pieces c ++ operator oq q ∷ pieces d → ⊥
no_later op p a b oq q c d nested nested_too us longer same =
    let parts = and_parts (nat_le (binding a) (precedence_of op)) (nat_lt (binding b)
    (precedence_of op))
    nested.0 in
    let parts_too = and_parts (nat_le (binding c) (precedence_of oq)) (nat_lt (binding d)
    (precedence_of oq))
    nested_too.0 in
    let row : pieces c ≡ pieces a ++ operator op p ∷ us =
    longer ∙ append_assoc (pieces a) (operator op p ∷ []) us in
    let up : IsTrue (nat_le (precedence_of op) (precedence_of oq)) =
    all_behind (is_at_most (precedence_of oq)) (pieces a) (operator op p) us
    (subst (λ ys. IsTrue (list_all (is_at_most (precedence_of oq)) ys)) row
    (precedences_of_pieces (precedence_of oq) c parts_too.0 nested_too.1)) in
    let rest : pieces a ++ operator op p ∷ pieces b ≡
    pieces a ++ operator op p ∷ (us ++ operator oq q ∷ pieces d) =
    same ∙ ap (λ ys. ys ++ operator oq q ∷ pieces d) row
    ∙ append_assoc (pieces a) (operator op p ∷ us) (operator oq q ∷ pieces d) in
    let right : pieces b ≡ us ++ operator oq q ∷ pieces d =
    cancel (operator op p ∷ []) (pieces b) (us ++ operator oq q ∷ pieces d)
    (cancel (pieces a) (operator op p ∷ pieces b) (operator op p ∷ (us ++ operator oq q ∷ pieces d))
    rest) in
    let down : IsTrue (nat_le (precedence_of oq) (precedence_of op - 1)) =
    all_behind (is_at_most (precedence_of op - 1)) us (operator oq q) (pieces d)
    (subst (λ ys. IsTrue (list_all (is_at_most (precedence_of op - 1)) ys)) right
    (precedences_of_pieces (precedence_of op - 1) b (below (binding b)
    (precedence_of op) parts.1) nested.2)) in
    not_both (precedence_of oq) (precedence_of op) (precedence_is_some op) up down

-- one nesting for a row
pub one_nesting : (w v : Written) → IsNested w → IsNested v → pieces w ≡ pieces v → w ≡ v
one_nesting (binary op p a b) (binary oq q c d) nested nested_too same =
    ⊎_elim (λ first. absurd (no_later op p a b oq q c d nested nested_too first.0 first.1 same))
    (λ others. ⊎_elim (λ second.
    absurd (no_later oq q c d op p a b nested_too nested second.0 second.1 (sym same)))
    (λ one.
    let lefts : a ≡ c = one_nesting a c nested.1 nested_too.1 one.0 in
    let rights : b ≡ d = one_nesting b d nested.2 nested_too.2 one.2 in
    let ops : operator op p ≡ operator oq q = one.1 in
    cc) others)
    (splits (pieces a) (operator op p) (pieces b) (pieces c) (operator oq q) (pieces d) same)
one_nesting (binary op p a b) v nested nested_too same = absurd (no_row_of_one op p a b v same)
one_nesting w (binary oq q c d) nested nested_too same =
    absurd (no_row_of_one oq q c d w (sym same))
one_nesting w v nested nested_too same = cc
