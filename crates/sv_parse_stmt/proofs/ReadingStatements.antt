-- How what is read of a statement is put together.
use Rattle.std.proofs.Common.{◌≡◌, ℕ, ◌+◌, ◌≤◌, ◌<◌, nat_le, nat_lt, Bool, false, ◌||◌, IsTrue}
use Rattle.std.proofs.Common.{List, [], ◌∷◌, ◌++◌, length, refl, sym, ap, subst, arith}
use Rattle.std.proofs.Common.{length-append}
use Rattle.sv_num.specs.declared.faults.Place.{Place}
use Rattle.sv_token.specs.Lexemes.{Placed}
use Rattle.sv_token.specs.declared.keywords.WordKind.{WordKind}
use Rattle.sv_token.specs.declared.keywords.WordKind.TheVariants as words
use Rattle.sv_ast.specs.Tree as tree
use Rattle.sv_ast.specs.Tree.{ExpressionTree, StatementTree, StatementTrees, no_statements}
use Rattle.sv_ast.specs.Tree.{more_statements, ArmTrees, no_arms, more_arms}
use Rattle.sv_ast.specs.Views.{ArmTree, statements_of, arms_of}
use Rattle.sv_ast.specs.GrammarForms.{◌⨾◌, a_word, word_at, optional, in_parentheses}
use Rattle.sv_ast.specs.GrammarExpressions.{IsExpression}
use Rattle.sv_ast.specs.GrammarStatements.{block_name, IsNext, IsArmHead, is_default, IsStatement}
use Rattle.sv_ast.specs.GrammarStatements.{AreStatements, AreArms}
use Rattle.sv_ast.specs.GrammarRules.{all_limits}

within : (n : ℕ) → n ≤ 64 → IsTrue (nat_le n 64)
within n h = grind arith

within_arms : (n : ℕ) → n ≤ 256 → IsTrue (nat_le n 256)
within_arms n h = grind arith

some_arms : (n : ℕ) → 0 < n → IsTrue (nat_lt 0 n)
some_arms n h = grind arith

within_of : (n m : ℕ) → m ≡ n + 1 → m ≤ 64 → IsTrue (nat_le (n + 1) 64)
within_of n m eq le = within (n + 1) (omega arith)

-- a tree that is equal
pub statement_of : (n : ℕ) (s t : StatementTree) (ts rest : List Placed) → t ≡ s →
    IsStatement all_limits n s ts rest → IsStatement all_limits n t ts rest
statement_of n s t ts rest eq h =
    subst (λ (x : StatementTree). IsStatement all_limits n x ts rest) (sym eq) h

-- one level deeper
deep_statement : (n m : ℕ) (s : StatementTree) (ts rest : List Placed) → m ≡ n + 1 →
    IsStatement all_limits m s ts rest → IsStatement all_limits (n + 1) s ts rest
deep_statement n m s ts rest eq h = subst (λ (x : ℕ). IsStatement all_limits x s ts rest) eq h

deep_condition :
    (n m : ℕ) (c : ExpressionTree) (ts rest : List Placed) → m ≡ n + 1 →
    in_parentheses (IsExpression all_limits m c) ts rest →
    in_parentheses (IsExpression all_limits (n + 1) c) ts rest
deep_condition n m c ts rest eq h =
    subst (λ (x : ℕ). in_parentheses (IsExpression all_limits x c) ts rest) eq h

pub block_is :
    (n m : ℕ) (ss : StatementTrees) (ts a b rest : List Placed) →
    m ≡ n + 1 → m ≤ 64 → a_word words.Begin ts a → optional block_name a b →
    (AreStatements all_limits m ss ⨾ a_word words.End) b rest →
    IsStatement all_limits n (tree.block ss) ts rest
block_is n m ss ts a b rest eq deep word name ends = (
  within_of n m eq deep,
  (
    a,
    word,
    (
      b,
      name,
      subst (λ (x : ℕ).
          (AreStatements all_limits x ss ⨾ a_word words.End) b rest) eq ends,
    ),
  ),
)

pub if_only_is :
    (n m : ℕ) (p : Place) (c : ExpressionTree) (s : StatementTree) (ts a b rest : List Placed) →
    m ≡ n + 1 → m ≤ 64 → word_at words.If p ts a →
    in_parentheses (IsExpression all_limits m c) a b →
    IsStatement all_limits m s b rest → (IsNext words.Else rest → ⊥) →
    IsStatement all_limits n (tree.if_only p c s) ts rest
if_only_is n m p c s ts a b rest eq deep word cond first not_else = (
  within_of n m eq deep,
  (
    a,
    word,
    (
      b,
      deep_condition n m c a b eq
          cond,
      (rest, deep_statement n m s b rest eq first, (not_else, refl)),
    ),
  ),
)

pub if_else_is :
    (n m : ℕ) (p : Place) (c : ExpressionTree) (s t : StatementTree)
    (ts a b d e rest : List Placed) →
    m ≡ n + 1 → m ≤ 64 → word_at words.If p ts a →
    in_parentheses (IsExpression all_limits m c) a b →
    IsStatement all_limits m s b d → a_word words.Else d e → IsStatement all_limits m t e rest →
    IsStatement all_limits n (tree.if_else p c s t) ts rest
if_else_is n m p c s t ts a b d e rest eq deep word cond first other second = (
  within_of n m eq deep,
  (
    a,
    word,
    (
      b,
      deep_condition n m c a b eq
          cond,
      (
        d,
        deep_statement n m s b d eq
            first,
        (e, other, deep_statement n m t e rest eq second),
      ),
    ),
  ),
)

pub case_is :
    (n m : ℕ) (p : Place) (c : ExpressionTree) (arms : ArmTrees) (ts a b rest : List Placed) →
    m ≡ n + 1 → m ≤ 64 → word_at words.Case p ts a →
    in_parentheses (IsExpression all_limits m c) a b →
    (AreArms all_limits m 0 false arms ⨾ a_word words.Endcase) b rest →
    IsStatement all_limits n (tree.case_of p c arms) ts rest
case_is n m p c arms ts a b rest eq deep word cond are = (
  within_of n m eq deep,
  (
    a,
    word,
    (
      b,
      deep_condition n m c a b eq cond,
      subst (λ (x : ℕ).
          (AreArms all_limits x 0 false arms ⨾ a_word words.Endcase) b rest) eq are,
    ),
  ),
)

-- a word at a place
pub word_is : (w : WordKind) (p : Place) (ts rest : List Placed) → word_at w p ts rest →
    a_word w ts rest
word_is w p ts rest h = (p, h)

-- ---- the statements of a block

abbrev pub before_statements : List StatementTree → StatementTrees → StatementTrees
before_statements [] others = others
before_statements (s ∷ ss) others = more_statements s (before_statements ss others)

before_none : (ss : List StatementTree) → before_statements ss no_statements ≡ statements_of ss
before_none [] = refl
before_none (s ∷ ss) = ap (more_statements s) (before_none ss)

before_one : (ss : List StatementTree) (s : StatementTree) (others : StatementTrees) →
    before_statements ss (more_statements s others) ≡ before_statements (ss ++ s ∷ []) others
before_one [] s others = refl
before_one (x ∷ ss) s others = ap (more_statements x) (before_one ss s others)

-- whatever statements follow from here on, all are of the form
pub record AreOpenStatements (n : ℕ) (ss : List StatementTree) (ts here : List Placed) :
    Type 0 where
  pub closed : (others : StatementTrees) (rest : List Placed) →
      AreStatements all_limits n others here rest →
      AreStatements all_limits n (before_statements ss others) ts rest

pub statements_more :
    (n : ℕ) (ss : List StatementTree) (s : StatementTree) (ts a b : List Placed) →
    AreOpenStatements n ss ts a → IsStatement all_limits n s a b →
    AreOpenStatements n (ss ++ s ∷ []) ts b
statements_more n ss s ts a b before is = record {
  closed = λ others rest h.
      subst (λ (x : StatementTrees). AreStatements all_limits n x ts rest) (before_one ss s others)
      (before.closed (more_statements s others) rest (b, is, h));
}

pub statements_end :
    (n : ℕ) (ss : List StatementTree) (ts here : List Placed) →
    AreOpenStatements n ss ts here → AreStatements all_limits n (statements_of ss) ts here
statements_end n ss ts here before =
    subst (λ (x : StatementTrees). AreStatements all_limits n x ts here) (before_none ss)
    (before.closed no_statements here refl)

-- ---- the arms of a case

abbrev pub before_arms : List ArmTree → ArmTrees → ArmTrees
before_arms [] others = others
before_arms (a ∷ arms) others = more_arms a.place a.items a.body (before_arms arms others)

arms_before_none : (arms : List ArmTree) → before_arms arms no_arms ≡ arms_of arms
arms_before_none [] = refl
arms_before_none (a ∷ arms) = ap (more_arms a.place a.items a.body) (arms_before_none arms)

arms_before_one : (arms : List ArmTree) (a : ArmTree) (others : ArmTrees) →
    before_arms arms (more_arms a.place a.items a.body others) ≡ before_arms (arms ++ a ∷ []) others
arms_before_one [] a others = refl
arms_before_one (x ∷ arms) a others =
    ap (more_arms x.place x.items x.body) (arms_before_one arms a others)

pub record AreOpenArms (n : ℕ) (arms : List ArmTree) (default : Bool) (ts here : List Placed) :
    Type 0 where
  pub closed :
      (others : ArmTrees) (rest : List Placed) →
      AreArms all_limits n (length arms) default others here rest →
      AreArms all_limits n 0 false (before_arms arms others) ts rest

one_more : (arms : List ArmTree) (a : ArmTree) → length (arms ++ a ∷ []) ≡ length arms + 1
one_more arms a = length-append arms (a ∷ [])

pub arms_more :
    (n : ℕ) (arms : List ArmTree) (default : Bool) (arm : ArmTree) (ts a b c : List Placed) →
    AreOpenArms n arms default ts a → length arms + 1 ≤ 256 →
    IsArmHead all_limits n default arm.place arm.items a b →
    IsStatement all_limits n arm.body b c →
    AreOpenArms n (arms ++ arm ∷ []) (default || is_default arm.items) ts c
arms_more n arms default arm ts a b c before few head is = record {
  closed = λ others rest h.
      let counted : AreArms all_limits n (length arms + 1) (default || is_default arm.items) others
      c rest =
      subst (λ (k : ℕ). AreArms all_limits n k (default || is_default arm.items) others c rest)
      (one_more arms arm) h
      in
      subst (λ (x : ArmTrees).
      AreArms all_limits n 0 false x ts rest) (arms_before_one arms arm others)
      (before.closed (more_arms arm.place arm.items arm.body others) rest
      (within_arms (length arms + 1) few, (b, head, (c, is, counted))));
}

pub arms_end :
    (n : ℕ) (arms : List ArmTree) (default : Bool) (ts here : List Placed) →
    0 < length arms → AreOpenArms n arms default ts here →
    AreArms all_limits n 0 false (arms_of arms) ts here
arms_end n arms default ts here some before =
    subst (λ (x : ArmTrees). AreArms all_limits n 0 false x ts here) (arms_before_none arms)
    (before.closed no_arms here (some_arms (length arms) some, refl))
