-- The numbers that expressions and statements write are fine where their tokens are.
use Rattle.std.proofs.Common.{ℕ, ◌+◌, ◌||◌, Bool, true, false, List, [], ◌∷◌, subst}
use Rattle.sv_num.specs.declared.faults.Place.{Place}
use Rattle.sv_num.specs.declared.operators.BinOp.TheVariants.{Le}
use Rattle.sv_system.proofs.Lists.{Contains-head, Contains-later}
use Rattle.sv_token.specs.declared.keywords.WordKind.TheVariants as words
use Rattle.sv_token.specs.declared.signs.SignKind.TheVariants as signs
use Rattle.sv_token.specs.Lexemes.{word, sign}
use Rattle.sv_ast.specs.Tree.{ExpressionTree, Selection, whole, bit_at, part_from, TargetTree}
use Rattle.sv_ast.specs.Tree.{StatementTree, null, assignment, block, if_only, if_else, case_of}
use Rattle.sv_ast.specs.Tree.{StatementTrees, no_statements, more_statements, ArmTrees, no_arms}
use Rattle.sv_ast.specs.Tree.{more_arms, ExpressionTrees}
use Rattle.sv_ast.specs.GrammarForms.{Form, commas, in_parentheses}
use Rattle.sv_ast.specs.GrammarGroups.{Written, literal, named, bit_of, part_of, group, unary}
use Rattle.sv_ast.specs.GrammarGroups.{binary, choice, join, replication, WrittenList, no_more}
use Rattle.sv_ast.specs.GrammarGroups.{more, without_groups, all_without_groups}
use Rattle.sv_ast.specs.GrammarExpressions.{Limits, IsWritten, AreWritten, AreMore, IsExpression}
use Rattle.sv_ast.specs.GrammarStatements.{IsSelection, IsTarget, AreTargets, assigns}
use Rattle.sv_ast.specs.GrammarStatements.{begins_at, block_name, IsArmHead, is_default}
use Rattle.sv_ast.specs.GrammarStatements.{IsStatement, AreStatements, AreArms}
use Rattle.sv_width.specs.Agreement.{NumbersHaveLengths, PartsHaveLengths}
use Rattle.sv_width.specs.WrittenLengths.{ItemsHaveLengths, StatementHasLengths}
use Rattle.sv_width.specs.WrittenLengths.{StatementsHaveLengths, ArmsHaveLengths}
use Rattle.sv_elab_laws.specs.Numbers.{NumbersFit, PartNumbersFit, SelectorsFit, SelectorsFitIn}
use Rattle.sv_elab_laws.specs.Numbers.{SelectorsFitBy}
use Rattle.sv_run_laws.proofs.FineTokens.{AreFine}
use Rattle.sv_run_laws.proofs.FineForms.{Keeps, Gives, Each, lexeme_kept, number_given, word_kept}
use Rattle.sv_run_laws.proofs.FineForms.{sign_kept, name_kept, a_name_kept, binary_kept}
use Rattle.sv_run_laws.proofs.FineForms.{unary_kept, operator_kept, nothing_kept, both_kept}
use Rattle.sv_run_laws.proofs.FineForms.{either_kept, optional_kept, kept, behind, before, both}
use Rattle.sv_run_laws.proofs.FineForms.{under, so, nowhere, parentheses, brackets, braces, plain}
use Rattle.sv_run_laws.proofs.FineForms.{commas_given, commas_kept, only_kept}
use Rattle.sv_run_laws.proofs.FineForms.{no_more as nothing_more}

-- ---- expressions

abbrev pub FineNumbers : ExpressionTree → Type 0
FineNumbers e = NumbersHaveLengths e × NumbersFit e

abbrev FineParts : ExpressionTrees → Type 0
FineParts es = PartsHaveLengths es × PartNumbersFit es

-- two pairs of properties, and the properties of the pair
crossed : {A B C D : Type 0} → (A × B) × (C × D) → (A × C) × (B × D)
crossed h = ((h.0.0, h.1.0), (h.0.1, h.1.1))

-- likewise of three
all_crossed : {A B C D E F : Type 0} → (A × B) × ((C × D) × (E × F)) → (A × C × E) × (B × D × F)
all_crossed h = ((h.0.0, h.1.0.0, h.1.1.0), (h.0.1, h.1.0.1, h.1.1.1))

mutual
  written : (l : Limits) (n : ℕ) (w : Written) →
      Gives (IsWritten l n w) (FineNumbers (without_groups w))
  written l n (literal v p) = so (λ h. ((h.0, h.1), h.2)) (number_given v p)
  written l n (named x p) = so (λ h. (tt, tt)) (plain (name_kept x p))
  written l n (bit_of x p i) = behind (name_kept x p) (under (brackets (written l (n + 1) i)))
  written l n (part_of x p high low) =
      behind (name_kept x p) (under (brackets
      (so crossed (both (written l (n + 1) high)
      (behind (sign_kept signs.Colon) (written l (n + 1) low))))))
  written l n (group e) = under (parentheses (written l (n + 1) e))
  written l n (unary op p e) = under (under (behind (unary_kept op p) (written l (n + 1) e)))
  written l n (binary op p a b) =
      under (so crossed (both (written l n a) (behind (binary_kept op p) (written l n b))))
  written l n (choice p c a b) =
      under (so all_crossed (both (written l n c)
      (under (behind (lexeme_kept (sign signs.Question) p)
      (both (written l (n + 1) a)
      (behind (sign_kept signs.Colon) (written l (n + 1) b)))))))
  written l n (join p es) =
      under (behind (lexeme_kept (sign signs.OpenBrace) p)
      (before (all_written l (n + 1) es) (sign_kept signs.CloseBrace)))
  written l n (replication p c es) =
      under (behind (lexeme_kept (sign signs.OpenBrace) p)
      (so crossed (both (written l (n + 1) c)
      (before (under (braces (all_written l (n + 2) es))) (sign_kept signs.CloseBrace)))))

  all_written : (l : Limits) (n : ℕ) (es : WrittenList) →
      Gives (AreWritten l n es) (FineParts (all_without_groups es))
  all_written l n no_more = nowhere
  all_written l n (more e es) = so crossed (both (written l n e) (more_written l n es))

  more_written : (l : Limits) (n : ℕ) (es : WrittenList) →
      Gives (AreMore l n es) (FineParts (all_without_groups es))
  more_written l n no_more = nothing_more (tt, tt)
  more_written l n (more e es) =
      behind (sign_kept signs.Comma) (so crossed (both (written l n e) (more_written l n es)))

pub expression : (l : Limits) (n : ℕ) (e : ExpressionTree) → Gives (IsExpression l n e)
    (FineNumbers e)
unfolding IsExpression
expression l n e ts rest is fine =
    let h = written l n is.0 ts rest is.3 fine in (subst FineNumbers is.1 h.0, h.1)

pub expressions : (l : Limits) (n : ℕ) (es : List ExpressionTree) →
    Gives (commas (IsExpression l n) es) (Each FineNumbers es)
expressions l n es = commas_given FineNumbers (expression l n) es

-- ---- targets

selection_kept : (l : Limits) (n : ℕ) (s : Selection) → Keeps (IsSelection l n s)
selection_kept l n whole = nothing_kept
selection_kept l n (bit_at i) = kept (brackets (expression l n i))
selection_kept l n (part_from high low) =
    kept (brackets (both (expression l n high)
    (behind (sign_kept signs.Colon) (expression l n low))))

target_kept : (l : Limits) (n : ℕ) (t : TargetTree) → Keeps (IsTarget l n t)
target_kept l n t = both_kept (name_kept t.name t.place) (selection_kept l n t.selection)

pub targets_kept : {P : TargetTree → Form} → ((t : TargetTree) → Keeps (P t))
    → (us : List TargetTree)
    → Keeps (AreTargets P us)
targets_kept f us =
    either_kept (only_kept f us) (kept (braces (plain (commas_kept f us))))

assigns_kept : (b : Bool) → Keeps (assigns b)
assigns_kept true = sign_kept signs.Equals
assigns_kept false = operator_kept Le

-- ---- statements

abbrev pub FineStatement : StatementTree → Type 0
FineStatement s = StatementHasLengths s × SelectorsFit s

abbrev FineStatements : StatementTrees → Type 0
FineStatements ss = StatementsHaveLengths ss × SelectorsFitIn ss

abbrev FineArms : ArmTrees → Type 0
FineArms arms = ArmsHaveLengths arms × SelectorsFitBy arms

block_name_kept : Keeps block_name
block_name_kept =
    both_kept (sign_kept signs.Colon) (λ ts rest is fine. a_name_kept is.0 ts rest is.1 fine)

item_lengths : (es : List ExpressionTree) → Each FineNumbers es → ItemsHaveLengths es
item_lengths [] h = tt
item_lengths (e ∷ es) h = (
  (h e (Contains-head e es)).0,
  item_lengths es (λ x at. h x (Contains-later e es x at)),
)

head_given : (l : Limits) (n : ℕ) (default : Bool) (p : Place) (es : List ExpressionTree) →
    Gives (IsArmHead l n default p es) (ItemsHaveLengths es)
head_given l n default p [] =
    under (so (λ h. tt) (plain (both_kept (lexeme_kept (word words.Default) p)
    (optional_kept (sign_kept signs.Colon)))))
head_given l n default p (e ∷ es) =
    behind (begin_kept p) (before (so (item_lengths (e ∷ es)) (expressions l n (e ∷ es)))
    (sign_kept signs.Colon))
  where
    begin_kept : (p : Place) → Keeps (begins_at p)
    begin_kept p [] rest is fine = absurd is
    begin_kept p (t ∷ ts) rest is fine = subst AreFine is.1 fine

condition : (l : Limits) (n : ℕ) (e : ExpressionTree) →
    Gives (in_parentheses (IsExpression l n e)) (FineNumbers e)
condition l n e = parentheses (expression l n e)

mutual
  pub statement : (l : Limits) (n : ℕ) (s : StatementTree) → Gives (IsStatement l n s)
      (FineStatement s)
  statement l n null = so (λ h. (tt, tt)) (plain (sign_kept signs.Semicolon))
  statement l n (assignment us p b e) =
      under (behind (targets_kept (target_kept l n) us) (behind (assigns_kept b)
      (before (so (λ h. (h.0, tt)) (expression l n e)) (sign_kept signs.Semicolon))))
  statement l n (block ss) =
      under (behind (word_kept words.Begin) (behind (optional_kept block_name_kept)
      (before (statements l (n + 1) ss) (word_kept words.End))))
  statement l n (if_only p c s) =
      under (behind (lexeme_kept (word words.If) p)
      (so (λ h. ((h.0.0, h.1.0), h.1.1))
      (both (condition l (n + 1) c)
      (before (statement l (n + 1) s) (λ ts rest is fine. subst AreFine is.1 fine)))))
  statement l n (if_else p c s t) =
      under (behind (lexeme_kept (word words.If) p)
      (so (λ h. ((h.0.0, h.1.0.0, h.1.1.0), (h.1.0.1, h.1.1.1)))
      (both (condition l (n + 1) c)
      (both (statement l (n + 1) s)
      (behind (word_kept words.Else) (statement l (n + 1) t))))))
  statement l n (case_of p e a) =
      under (behind (lexeme_kept (word words.Case) p)
      (so crossed (both (condition l (n + 1) e)
      (before (arms l (n + 1) 0 false a) (word_kept words.Endcase)))))

  statements : (l : Limits) (n : ℕ) (ss : StatementTrees) → Gives (AreStatements l n ss)
      (FineStatements ss)
  statements l n no_statements = nothing_more (tt, tt)
  statements l n (more_statements s ss) = so crossed (both (statement l n s) (statements l n ss))

  arms : (l : Limits) (n before' : ℕ) (default : Bool) (a : ArmTrees) →
      Gives (AreArms l n before' default a) (FineArms a)
  arms l n before' default no_arms = under (nothing_more (tt, tt))
  arms l n before' default (more_arms p es s a) =
      under (so (λ h. ((h.0, h.1.0.0, h.1.1.0), (h.1.0.1, h.1.1.1)))
      (both (head_given l n default p es)
      (both (statement l n s) (arms l n (before' + 1) (default || is_default es) a))))
