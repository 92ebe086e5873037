-- How what is read of an expression is put together.
use Rattle.std.proofs.Common.{◌≡◌, ℕ, ◌+◌, ◌-◌, ◌≤◌, nat_le, nat_lt, nat_eq, IsTrue, List, [], ◌∷◌}
use Rattle.std.proofs.Common.{◌++◌, length, max, Option, Some, None, refl, sym, ap, ◌∙◌, subst}
use Rattle.std.proofs.Common.{arith}
use Rattle.std.specs.Cmp.Derive.{both_true}
use Rattle.sv_num.specs.declared.faults.Place.{Place}
use Rattle.sv_num.specs.declared.operators.UnOp.{UnOp}
use Rattle.sv_num.specs.declared.operators.BinOp.{BinOp}
use Rattle.sv_token.specs.Lexemes.{Placed, Literal, placed_of, placed_tokens}
use Rattle.sv_token.specs.declared.tokens.Token.{Token}
use Rattle.sv_token.specs.declared.signs.SignKind.TheVariants as signs
use Rattle.sv_ast.specs.Tree as tree
use Rattle.sv_ast.specs.Tree.{ExpressionTree, ExpressionTrees, no_expressions, more_expressions}
use Rattle.sv_ast.specs.declared.expressions.Expr.{Expr}
use Rattle.sv_ast.specs.Views.{expression_tree, expression_trees, parts_of}
use Rattle.std.proofs.lemmas.List.{length-map, map_push}
use Rattle.sv_ast.specs.GrammarForms.{a_sign, number_at, name_at, sign_at, binary_at, unary_at}
use Rattle.sv_ast.specs.GrammarGroups.{literal, named, bit_of, part_of, group, unary, binary}
use Rattle.sv_ast.specs.GrammarGroups.{choice, join, replication, WrittenList, no_more, more}
use Rattle.sv_ast.specs.GrammarGroups.{without_groups, all_without_groups, binding, precedence_of}
use Rattle.sv_ast.specs.GrammarExpressions.{AreMore, IsExpression}
use Rattle.sv_ast.specs.GrammarRules.{all_limits}
use Rattle.sv_parse_expr.specs.Reading.{IsChain, AreParts, AreLaterParts, IsBounded, IsRepeated}
use Rattle.sv_parse_expr.specs.Reading.{selected_tree}

within : (n : ℕ) → n ≤ 64 → IsTrue (nat_le n 64)
within n h = grind arith

-- a tree that is equal
pub tree_of : (n k : ℕ) (e f : ExpressionTree) (ts rest : List Placed) → f ≡ e →
    IsChain n k e ts rest → IsChain n k f ts rest
tree_of n k e f ts rest eq h = subst (λ (x : ExpressionTree). IsChain n k x ts rest) (sym eq) h

pub literal_is : (n : ℕ) (v : Literal) (p : Place) (ts rest : List Placed) → number_at v p ts rest →
    IsChain n 0 (tree.literal v p) ts rest
literal_is n v p ts rest h = record { written = literal v p; tree = refl; binds = refl; is = h }

pub name_is : (n : ℕ) (x : List ℕ) (p : Place) (ts rest : List Placed) → name_at x p ts rest →
    IsChain n 0 (tree.named x p) ts rest
name_is n x p ts rest h = record { written = named x p; tree = refl; binds = refl; is = h }

-- one level deeper
at_depth : (n m k : ℕ) (e : ExpressionTree) (ts rest : List Placed) → m ≡ n + 1 →
    IsChain m k e ts rest → IsChain (n + 1) k e ts rest
at_depth n m k e ts rest eq h = subst (λ (x : ℕ). IsChain x k e ts rest) eq h

within_of : (n m : ℕ) → m ≡ n + 1 → m ≤ 64 → IsTrue (nat_le (n + 1) 64)
within_of n m eq le = within (n + 1) (omega arith)

pub bit_is :
    (n m : ℕ) (x : List ℕ) (p : Place) (i : ExpressionTree) (ts a b c rest : List Placed) →
    m ≡ n + 1 → m ≤ 64 → name_at x p ts a → a_sign signs.OpenBracket a b → IsChain m 11 i b c →
    a_sign signs.CloseBracket c rest →
    IsChain n 0 (tree.bit_of x p i) ts rest
bit_is n m x p i ts a b c rest eq deep name opens index_is closes =
    let index = at_depth n m 11 i b c eq index_is in
    record {
      written = bit_of x p index.written;
      tree = ap (tree.bit_of x p) index.tree;
      binds = refl;
      is = (a, name, (within_of n m eq deep, (b, opens, (c, index.is, closes))));
    }

pub part_is :
    (n m : ℕ) (x : List ℕ) (p : Place) (i j : ExpressionTree) (ts a b c d e rest : List Placed) →
    m ≡ n + 1 → m ≤ 64 → name_at x p ts a → a_sign signs.OpenBracket a b → IsChain m 11 i b c →
    a_sign signs.Colon c d →
    IsChain m 11 j d e → a_sign signs.CloseBracket e rest →
    IsChain n 0 (tree.part_of x p i j) ts rest
part_is n m x p i j ts a b c d e rest eq deep name opens high_is colon low_is closes =
    let high = at_depth n m 11 i b c eq high_is in
    let low = at_depth n m 11 j d e eq low_is in
    record {
      written = part_of x p high.written low.written;
      tree =
          ap (λ h. tree.part_of x p h (without_groups low.written)) high.tree
          ∙ ap (tree.part_of x p i) low.tree;
      binds = refl;
      is = (
        a,
        name,
        (
          within_of n m eq
              deep,
          (b, opens, (e, (c, high.is, (d, colon, low.is)), closes)),
        ),
      );
    }

pub select_is :
    (n m : ℕ) (x : List ℕ) (p : Place) (i : ExpressionTree) (j : Option ExpressionTree)
    (ts a b rest : List Placed) →
    m ≡ n + 1 → m ≤ 64 → name_at x p ts a → a_sign signs.OpenBracket a b → IsBounded m i j b rest →
    IsChain n 0 (selected_tree x p i j) ts rest
select_is n m x p i None ts a b rest eq deep name opens bounds =
    bit_is n m x p i ts a b bounds.0 rest eq deep name opens bounds.1 bounds.2
select_is n m x p i (Some j) ts a b rest eq deep name opens bounds =
    let second = bounds.2 in
    let third = second.2 in
    part_is n m x p i j ts a b bounds.0 second.0 third.0 rest eq deep name opens bounds.1 second.1
    third.1 third.2

pub group_is :
    (n m : ℕ) (i : ExpressionTree) (ts a b rest : List Placed) →
    m ≡ n + 1 → m ≤ 64 → a_sign signs.OpenParenthesis ts a → IsChain m 11 i a b →
    a_sign signs.CloseParenthesis b rest →
    IsChain n 0 i ts rest
group_is n m i ts a b rest eq deep opens inner_is closes =
    let inner = at_depth n m 11 i a b eq inner_is in
    record {
      written = group inner.written;
      tree = inner.tree;
      binds = refl;
      is = (within_of n m eq deep, (a, opens, (b, inner.is, closes)));
    }

is_zero : (k : ℕ) → IsTrue (nat_le k 0) → IsTrue (nat_eq k 0)
is_zero k h = grind arith

pub unary_is :
    (n m : ℕ) (op : UnOp) (p : Place) (i : ExpressionTree) (ts a rest : List Placed) →
    m ≡ n + 1 → m ≤ 64 → unary_at op p ts a → IsChain m 0 i a rest →
    IsChain n 0 (tree.unary op p i) ts rest
unary_is n m op p i ts a rest eq deep sign inner_is =
    let inner = at_depth n m 0 i a rest eq inner_is in
    record {
      written = unary op p inner.written;
      tree = ap (tree.unary op p) inner.tree;
      binds = refl;
      is = (
        is_zero (binding inner.written) inner.binds,
        (within_of n m eq deep, (a, sign, inner.is)),
      );
    }

looser_bound : (b k m : ℕ) → IsTrue (nat_le b k) → k ≤ m → IsTrue (nat_le b m)
looser_bound b k m h le = grind arith

tighter_bound : (b k m : ℕ) → IsTrue (nat_le b k) → k + 1 ≡ m → IsTrue (nat_lt b m)
tighter_bound b k m h e = grind arith

equal_bound : (k m : ℕ) → k ≡ m → IsTrue (nat_le k m)
equal_bound k m e = grind arith

pub looser :
    (n k m : ℕ) (e : ExpressionTree) (ts rest : List Placed) → k ≤ m → IsChain n k e ts rest →
    IsChain n m e ts rest
looser n k m e ts rest le h = record {
  written = h.written;
  tree = h.tree;
  binds = looser_bound (binding h.written) k m h.binds le;
  is = h.is;
}

pub binary_is :
    (n k j : ℕ) (op : BinOp) (p : Place) (x y : ExpressionTree) (ts a b rest : List Placed) →
    precedence_of op ≡ k → j + 1 ≡ k → IsChain n k x ts a → binary_at op p a b → IsChain n j y b
    rest →
    IsChain n k (tree.binary op p x y) ts rest
binary_is n k j op p x y ts a b rest same below left sign right = record {
  written = binary op p left.written right.written;
  tree =
      ap (λ l. tree.binary op p l (without_groups right.written)) left.tree
      ∙ ap (tree.binary op p x) right.tree;
  binds = equal_bound (precedence_of op) k same;
  is = (
    both_true
        (subst (λ (m : ℕ). IsTrue (nat_le (binding left.written) m)) (sym same) left.binds)
        (tighter_bound (binding right.written) j (precedence_of op) right.binds
        (below ∙ sym same)),
    (a, left.is, (b, sign, right.is)),
  );
}

pub choice_is :
    (n m : ℕ) (p : Place) (x y z : ExpressionTree) (ts a b c d rest : List Placed) →
    m ≡ n + 1 → m ≤ 64 → IsChain n 10 x ts a → sign_at signs.Question p a b → IsChain m 11 y b c →
    a_sign signs.Colon c d →
    IsChain m 11 z d rest →
    IsChain n 11 (tree.choice p x y z) ts rest
choice_is n m p x y z ts a b c d rest eq deep cond sign first_is colon second_is =
    let first = at_depth n m 11 y b c eq first_is in
    let second = at_depth n m 11 z d rest eq second_is in
    record {
      written = choice p cond.written first.written second.written;
      tree =
          ap (λ l. tree.choice p l (without_groups first.written) (without_groups second.written))
          cond.tree
          ∙ ap (λ l. tree.choice p x l (without_groups second.written)) first.tree
          ∙ ap (tree.choice p x y) second.tree;
      binds = refl;
      is = (
        cond.binds,
        (
          a,
          cond.is,
          (within_of n m eq deep, (b, sign, (c, first.is, (d, colon, second.is)))),
        ),
      );
    }

-- ---- parts

pub parts_are :
    (n : ℕ) (x : ExpressionTree) (es : List ExpressionTree) (ts a rest : List Placed) →
    IsChain n 11 x ts a → AreLaterParts n x es a rest → AreParts n es ts rest
parts_are n x es ts a rest first others = record {
  written = more first.written others.written;
  trees =
      ap (λ l. more_expressions l (all_without_groups others.written)) first.tree ∙ others.trees;
  are = (a, first.is, others.are);
}

parts_at_depth : (n m : ℕ) (es : List ExpressionTree) (ts rest : List Placed) → m ≡ n →
    AreParts m es ts rest → AreParts n es ts rest
parts_at_depth n m es ts rest eq h = subst (λ (x : ℕ). AreParts x es ts rest) eq h

pub join_is :
    (n m : ℕ) (p : Place) (x : ExpressionTree) (es : List ExpressionTree)
    (ts a b c rest : List Placed) →
    m ≡ n + 1 → m ≤ 64 → sign_at signs.OpenBrace p ts a → IsChain m 11 x a b →
    AreLaterParts m x es b c →
    a_sign signs.CloseBrace c rest →
    IsChain n 0 (tree.join p (parts_of es)) ts rest
join_is n m p x es ts a b c rest eq deep opens first others closes =
    let parts = parts_at_depth (n + 1) m es a c eq (parts_are m x es a b c first others) in
    record {
      written = join p parts.written;
      tree = ap (tree.join p) parts.trees;
      binds = refl;
      is = (within_of n m eq deep, (a, opens, (c, parts.are, closes)));
    }

two_deeper : (n m k : ℕ) → m ≡ n + 1 → k ≡ m + 1 → k ≡ n + 2
two_deeper n m k first second = omega arith

pub repeat_is :
    (n m k : ℕ) (p : Place) (x : ExpressionTree) (es : List ExpressionTree)
    (ts a b c rest : List Placed) →
    m ≡ n + 1 → m ≤ 64 → k ≡ m + 1 → k ≤ 64 → sign_at signs.OpenBrace p ts a → IsChain m 11 x a b →
    a_sign signs.OpenBrace b c →
    IsRepeated k es c rest →
    IsChain n 0 (tree.replication p x (parts_of es)) ts rest
repeat_is n m k p x es ts a b c rest eq deep second deeper_still opens count_is opens_again
    repeated =
    let count = at_depth n m 11 x a b eq count_is in
    let parts = parts_at_depth (n + 2) k es c repeated.0 (two_deeper n m k eq second) repeated.1 in
    let ends = repeated.2 in
    record {
      written = replication p count.written parts.written;
      tree =
          ap (λ l. tree.replication p l (all_without_groups parts.written)) count.tree
          ∙ ap (tree.replication p x) parts.trees;
      binds = refl;
      is = (
        within_of n m eq deep,
        (
          a,
          opens,
          (
            b,
            count.is,
            (
              ends.0,
              (
                within (n + 1 + 1) (omega arith),
                (c, opens_again, (repeated.0, parts.are, ends.1)),
              ),
              ends.2,
            ),
          ),
        ),
      );
    }

-- parts before others
abbrev pub before_parts : List ExpressionTree → ExpressionTrees → ExpressionTrees
before_parts [] others = others
before_parts (e ∷ es) others = more_expressions e (before_parts es others)

before_none : (es : List ExpressionTree) → before_parts es no_expressions ≡ parts_of es
before_none [] = refl
before_none (e ∷ es) = ap (more_expressions e) (before_none es)

before_one : (es : List ExpressionTree) (e : ExpressionTree) (others : ExpressionTrees) →
    before_parts (es ++ e ∷ []) others ≡ before_parts es (more_expressions e others)
before_one [] e others = refl
before_one (x ∷ es) e others = ap (more_expressions x) (before_one es e others)

-- whatever else follows from here on, all that follows the first part is of the form
pub record AreOpenParts (n : ℕ) (first : ExpressionTree) (es : List ExpressionTree)
    (ts here : List Placed) : Type 0 where
  pub closed :
      (others : WrittenList) (rest : List Placed) → AreMore all_limits n others here rest →
      (all : WrittenList) × (more_expressions first (all_without_groups all) ≡
      before_parts es (all_without_groups others)) × AreMore all_limits n all ts rest

pub open_parts_more :
    (n : ℕ) (first e : ExpressionTree) (es : List ExpressionTree) (ts a b c : List Placed) →
    AreOpenParts n first es ts a → a_sign signs.Comma a b → IsChain n 11 e b c →
    AreOpenParts n first (es ++ e ∷ []) ts c
open_parts_more n first e es ts a b c before comma next = record {
  closed = λ others rest h.
      let all = before.closed (more next.written others) rest (b, comma, (c, next.is, h)) in (
        all.0,
        all.1 ∙ ap (λ l. before_parts es (more_expressions l (all_without_groups others)))
            next.tree ∙ sym (before_one es e (all_without_groups others)),
        all.2,
      );
}

-- what a vector holds behind a push
pub pushed_parts :
    (n : ℕ) (first : ExpressionTree) (all items : List Expr) (x : Expr) (ts here : List Placed) →
    all ≡ items ++ x ∷ [] →
    AreOpenParts n first (expression_trees items ++ expression_tree x ∷ []) ts here →
    AreOpenParts n first (expression_trees all) ts here
pushed_parts n first all items x ts here eq h =
    subst (λ (es : List ExpressionTree). AreOpenParts n first es ts here)
    (sym (ap expression_trees eq ∙ map_push expression_tree items x)) h

pub open_parts_end :
    (n : ℕ) (first : ExpressionTree) (es : List ExpressionTree) (ts here : List Placed) →
    AreOpenParts n first es ts here → AreLaterParts n first es ts here
open_parts_end n first es ts here before =
    let all = before.closed no_more here refl in
    record { written = all.0; trees = all.1 ∙ before_none es; are = all.2 }

-- ---- whole expressions

within_tokens : (k m : ℕ) → k - 1024 ≤ m → IsTrue (nat_le (k - max m 0) 1024)
within_tokens k m h = grind arith

pub expression_is :
    (n : ℕ) (e : ExpressionTree) (ts rest : List Placed) → length ts - 1024 ≤ length rest →
    IsChain n 11 e ts rest →
    IsExpression all_limits n e ts rest
unfolding IsExpression
expression_is n e ts rest few h =
    (h.written, h.tree, within_tokens (length ts) (length rest) few, h.is)

pub expression_from :
    (bytes : List ℕ) (n m beyond : ℕ) (e : ExpressionTree) (tokens rest : List Token) →
    m ≡ n → beyond ≡ length tokens - 1024 → beyond ≤ length rest →
    IsChain m 11 e (placed_tokens bytes tokens) (placed_tokens bytes rest) →
    IsExpression all_limits n e (placed_tokens bytes tokens) (placed_tokens bytes rest)
expression_from bytes n m beyond e tokens rest eq room few h =
    let before : length (placed_tokens bytes tokens) ≡ length tokens =
    length-map tokens (placed_of bytes) in
    let behind : length (placed_tokens bytes rest) ≡ length rest =
    length-map rest (placed_of bytes) in
    expression_is n e (placed_tokens bytes tokens) (placed_tokens bytes rest) (omega arith)
    (subst (λ (x : ℕ). IsChain x 11 e (placed_tokens bytes tokens) (placed_tokens bytes rest)) eq h)
