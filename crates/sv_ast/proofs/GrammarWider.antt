-- Wider limits: a text that keeps within limits keeps within wider ones.
use Rattle.std.proofs.Common.{ℕ, ◌+◌, Bool, false, ◌||◌, List, [], ◌∷◌, Option, Some, None, inl}
use Rattle.std.proofs.Common.{inr, ⊎_elim}
use Rattle.std.specs.Prelude.{IsTrue}
use Rattle.sv_num.specs.declared.faults.Place.{Place}
use Rattle.sv_token.specs.Lexemes.{Placed}
use Rattle.sv_ast.specs.Tree.{ExpressionTree, Selection, whole, bit_at, part_from, TargetTree}
use Rattle.sv_ast.specs.Tree.{StatementTree, null, assignment, block, if_only, if_else, case_of}
use Rattle.sv_ast.specs.Tree.{StatementTrees, no_statements, more_statements, ArmTrees, no_arms}
use Rattle.sv_ast.specs.Tree.{more_arms}
use Rattle.sv_ast.specs.GrammarForms.{Form, ◌⨾◌, ◌or◌, given, perhaps, each, some, later, listed}
use Rattle.sv_ast.specs.GrammarForms.{commas, in_parentheses}
use Rattle.sv_ast.specs.GrammarGroups.{Written, literal, named, bit_of, part_of, group, unary}
use Rattle.sv_ast.specs.GrammarGroups.{binary, choice, join, replication, WrittenList, no_more}
use Rattle.sv_ast.specs.GrammarGroups.{more}
use Rattle.sv_ast.specs.GrammarExpressions.{Limits, is_within, deeper, IsWritten, AreWritten}
use Rattle.sv_ast.specs.GrammarExpressions.{AreMore, read_tokens, IsExpression}
use Rattle.sv_ast.specs.GrammarStatements.{IsSelection, IsTarget, only, AreTargets, IsArmHead}
use Rattle.sv_ast.specs.GrammarStatements.{is_default, IsStatement, AreStatements, AreArms}

-- wherever the one form stands, the other does
abbrev pub Implies : Form → Form → Type 0
Implies P Q = (ts rest : List Placed) → P ts rest → Q ts rest

pub same : (P : Form) → Implies P P
same P ts rest is = is

pub both : {P Q R S : Form} → Implies P R → Implies Q S → Implies (P ⨾ Q) (R ⨾ S)
both f g ts rest is = (is.0, f ts is.0 is.1, g is.0 rest is.2)

pub either : {P Q R S : Form} → Implies P R → Implies Q S → Implies (P or Q) (R or S)
either f g ts rest is = ⊎_elim (λ p. inl (f ts rest p)) (λ q. inr (g ts rest q)) is

pub under : {A : Type 0} {P Q : Form} → Implies P Q → Implies (given A P) (given A Q)
under f ts rest is = (is.0, f ts rest is.1)

pub in_perhaps : {A : Type 0} {P Q : A → Form} → ((a : A) → Implies (P a) (Q a)) → (o : Option A) →
    Implies (perhaps P o) (perhaps Q o)
in_perhaps f None = same _
in_perhaps f (Some a) = f a

pub in_each : {A : Type 0} {P Q : A → Form} → ((a : A) → Implies (P a) (Q a)) → (xs : List A) →
    Implies (each P xs) (each Q xs)
in_each f [] = same _
in_each f (x ∷ xs) = both (f x) (in_each f xs)

pub in_some : {A : Type 0} {P Q : A → Form} → ((a : A) → Implies (P a) (Q a)) → (xs : List A) →
    Implies (some P xs) (some Q xs)
in_some f [] = same _
in_some f (x ∷ xs) = both (f x) (in_each f xs)

pub in_later : {A : Type 0} {L M : A → A → Form} → ((a b : A) → Implies (L a b) (M a b)) →
    (a : A) (xs : List A) → Implies (later L a xs) (later M a xs)
in_later f a [] = same _
in_later f a (x ∷ xs) = both (same _) (both (f a x) (in_later f x xs))

pub in_listed : {A : Type 0} {P Q : A → Form} {L M : A → A → Form} →
    ((a : A) → Implies (P a) (Q a)) → ((a b : A) → Implies (L a b) (M a b)) → (xs : List A) →
    Implies (listed P L xs) (listed Q M xs)
in_listed f g [] = same _
in_listed f g (x ∷ xs) = both (f x) (in_later g x xs)

pub in_commas : {A : Type 0} {P Q : A → Form} → ((a : A) → Implies (P a) (Q a)) → (xs : List A) →
    Implies (commas P xs) (commas Q xs)
in_commas f xs = in_listed f (λ _. f) xs

-- ---- limits

pub record IsWider (l k : Limits) : Type 0 where
  pub levels : (n : ℕ) → IsTrue (is_within l.levels n) → IsTrue (is_within k.levels n)
  pub tokens : (ts rest : List Placed) → IsTrue (is_within l.tokens (read_tokens l ts rest)) →
      IsTrue (is_within k.tokens (read_tokens k ts rest))
  pub arms : (n : ℕ) → IsTrue (is_within l.arms n) → IsTrue (is_within k.arms n)

pub in_deeper : {l k : Limits} {P Q : Form} (n : ℕ) → IsWider l k → Implies P Q →
    Implies (deeper l n P) (deeper k n Q)
in_deeper n wider f ts rest is = (wider.levels (n + 1) is.0, f ts rest is.1)

mutual
  pub wider_written : {l k : Limits} → IsWider l k → (n : ℕ) (w : Written) →
      Implies (IsWritten l n w) (IsWritten k n w)
  wider_written wider n (literal v p) = same _
  wider_written wider n (named x p) = same _
  wider_written wider n (bit_of x p i) =
      both (same _) (in_deeper n wider
      (both (same _) (both (wider_written wider (n + 1) i) (same _))))
  wider_written wider n (part_of x p high low) =
      both (same _) (in_deeper n wider
      (both (same _) (both
      (both (wider_written wider (n + 1) high)
      (both (same _) (wider_written wider (n + 1) low))) (same _))))
  wider_written wider n (group e) =
      in_deeper n wider (both (same _) (both (wider_written wider (n + 1) e) (same _)))
  wider_written wider n (unary op p e) =
      under (in_deeper n wider (both (same _) (wider_written wider (n + 1) e)))
  wider_written wider n (binary op p a b) =
      under (both (wider_written wider n a) (both (same _) (wider_written wider n b)))
  wider_written wider n (choice p c a b) =
      under (both (wider_written wider n c)
      (in_deeper n wider (both (same _)
      (both (wider_written wider (n + 1) a) (both (same _) (wider_written wider (n + 1) b))))))
  wider_written wider n (join p es) =
      in_deeper n wider (both (same _) (both (wider_all wider (n + 1) es) (same _)))
  wider_written wider n (replication p c es) =
      in_deeper n wider (both (same _) (both (wider_written wider (n + 1) c)
      (both (in_deeper (n + 1) wider (both (same _) (both (wider_all wider (n + 2) es) (same _))))
      (same _))))

  pub wider_all : {l k : Limits} → IsWider l k → (n : ℕ) (es : WrittenList) →
      Implies (AreWritten l n es) (AreWritten k n es)
  wider_all wider n no_more = same _
  wider_all wider n (more e es) = both (wider_written wider n e) (wider_more wider n es)

  pub wider_more : {l k : Limits} → IsWider l k → (n : ℕ) (es : WrittenList) →
      Implies (AreMore l n es) (AreMore k n es)
  wider_more wider n no_more = same _
  wider_more wider n (more e es) =
      both (same _) (both (wider_written wider n e) (wider_more wider n es))

pub wider_expression : {l k : Limits} → IsWider l k → (n : ℕ) (e : ExpressionTree) →
    Implies (IsExpression l n e) (IsExpression k n e)
unfolding IsExpression
wider_expression wider n e ts rest is =
    (is.0, is.1, wider.tokens ts rest is.2, wider_written wider n is.0 ts rest is.3)

-- ---- statements

module _ {l k : Limits} (wider : IsWider l k) where
  wide_selection : (n : ℕ) (s : Selection) → Implies (IsSelection l n s) (IsSelection k n s)
  wide_selection n whole = same _
  wide_selection n (bit_at i) = both (same _) (both (wider_expression wider n i) (same _))
  wide_selection n (part_from high low) =
      both (same _) (both (both (wider_expression wider n high)
      (both (same _) (wider_expression wider n low))) (same _))

  wide_target : (n : ℕ) (t : TargetTree) → Implies (IsTarget l n t) (IsTarget k n t)
  wide_target n t = both (same _) (wide_selection n t.selection)

  pub in_only : {A : Type 0} {P Q : A → Form} → ((a : A) → Implies (P a) (Q a)) → (xs : List A) →
      Implies (only P xs) (only Q xs)
  in_only f [] = same _
  in_only f (x ∷ []) = f x
  in_only f (x ∷ y ∷ xs) = same _

  pub wide_targets : {P Q : TargetTree → Form} → ((t : TargetTree) → Implies (P t) (Q t)) →
      (targets : List TargetTree) → Implies (AreTargets P targets) (AreTargets Q targets)
  wide_targets f targets =
      either (in_only f targets) (both (same _) (both (in_commas f targets) (same _)))

  wide_arm_head : (n : ℕ) (default : Bool) (p : Place) (items : List ExpressionTree) →
      Implies (IsArmHead l n default p items) (IsArmHead k n default p items)
  wide_arm_head n default p [] = same _
  wide_arm_head n default p (e ∷ es) =
      both (same _) (both (in_commas (wider_expression wider n) (e ∷ es)) (same _))

  wide_condition : (n : ℕ) (e : ExpressionTree) →
      Implies (in_parentheses (IsExpression l n e)) (in_parentheses (IsExpression k n e))
  wide_condition n e = both (same _) (both (wider_expression wider n e) (same _))

  mutual
    pub wide_statement : (n : ℕ) (s : StatementTree) →
        Implies (IsStatement l n s) (IsStatement k n s)
    wide_statement n null = same _
    wide_statement n (assignment targets p blocking e) =
        under (both (wide_targets (wide_target n) targets)
        (both (same _) (both (wider_expression wider n e) (same _))))
    wide_statement n (block ss) =
        in_deeper n wider (both (same _)
        (both (same _) (both (wide_statements (n + 1) ss) (same _))))
    wide_statement n (if_only p c s) =
        in_deeper n wider (both (same _)
        (both (wide_condition (n + 1) c) (both (wide_statement (n + 1) s) (same _))))
    wide_statement n (if_else p c s t) =
        in_deeper n wider (both (same _) (both (wide_condition (n + 1) c)
        (both (wide_statement (n + 1) s) (both (same _) (wide_statement (n + 1) t)))))
    wide_statement n (case_of p e arms) =
        in_deeper n wider (both (same _)
        (both (wide_condition (n + 1) e) (both (wide_arms (n + 1) 0 false arms) (same _))))

    pub wide_statements : (n : ℕ) (ss : StatementTrees) →
        Implies (AreStatements l n ss) (AreStatements k n ss)
    wide_statements n no_statements = same _
    wide_statements n (more_statements s ss) = both (wide_statement n s) (wide_statements n ss)

    pub wide_arms : (n before : ℕ) (default : Bool) (arms : ArmTrees) →
        Implies (AreArms l n before default arms) (AreArms k n before default arms)
    wide_arms n before default no_arms ts rest is = is
    wide_arms n before default (more_arms p items s arms) ts rest is = (
      wider.arms (before + 1) is.0,
      both (wide_arm_head n default p items)
          (both (wide_statement n s) (wide_arms n (before + 1) (default || is_default items) arms))
          ts rest is.1,
    )
