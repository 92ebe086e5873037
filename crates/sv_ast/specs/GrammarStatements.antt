-- Statements (IEEE 1364-2005, annex A and clauses 9.2, 9.4 and 9.5).
use Rattle.std.specs.Prelude.{◌≡◌, ℕ, ◌+◌, nat_lt, ◌||◌, Bool, true, false, not, IsTrue, List, []}
use Rattle.std.specs.Prelude.{◌∷◌}
use Rattle.sv_num.specs.declared.operators.BinOp.TheVariants.{Le}
use Rattle.sv_num.specs.declared.faults.Place.{Place}
use Rattle.sv_token.specs.declared.keywords.WordKind.{WordKind}
use Rattle.sv_token.specs.declared.keywords.WordKind.TheVariants as words
use Rattle.sv_token.specs.declared.signs.SignKind.TheVariants as signs
use Rattle.sv_token.specs.Lexemes.{word, Placed}
use Rattle.sv_ast.specs.Tree.{ExpressionTree, Selection, whole, bit_at, part_from, TargetTree}
use Rattle.sv_ast.specs.Tree.{StatementTree, null, assignment, block, if_only, if_else, case_of}
use Rattle.sv_ast.specs.Tree.{StatementTrees, no_statements, more_statements, ArmTrees, no_arms}
use Rattle.sv_ast.specs.Tree.{more_arms}
use Rattle.sv_ast.specs.GrammarForms.{Form, ◌⨾◌, ◌or◌, given, nothing, never, optional, word_at}
use Rattle.sv_ast.specs.GrammarForms.{name_at, a_word, a_sign, a_name, somewhere, binary_at, commas}
use Rattle.sv_ast.specs.GrammarForms.{in_parentheses, in_brackets, in_braces}
use Rattle.sv_ast.specs.GrammarExpressions.{Limits, is_within, deeper, IsExpression}

-- ---- targets

-- the bits of a target; its braces and brackets open no level
abbrev pub IsSelection : Limits → ℕ → Selection → Form
IsSelection l n whole = nothing
IsSelection l n (bit_at i) = in_brackets (IsExpression l n i)
IsSelection l n (part_from high low) =
    in_brackets (IsExpression l n high ⨾ a_sign signs.Colon ⨾ IsExpression l n low)

abbrev pub IsTarget : Limits → ℕ → TargetTree → Form
IsTarget l n t = name_at t.name t.place ⨾ IsSelection l n t.selection

-- the one member of a list
abbrev pub only : {A : Type 0} → (A → Form) → List A → Form
only P (a ∷ []) = P a
only P _ = never

-- one target, or several in braces
abbrev pub AreTargets : (TargetTree → Form) → List TargetTree → Form
AreTargets P targets = only P targets or in_braces (commas P targets)

-- the place of the first target
abbrev pub BeginAt : Place → List TargetTree → Type 0
BeginAt p [] = ⊥
BeginAt p (t ∷ more) = p ≡ t.place

-- `=` for a blocking assignment, `<=` for a nonblocking one
abbrev pub assigns : Bool → Form
assigns true = a_sign signs.Equals
assigns false = somewhere (binary_at Le)

-- ---- statements

-- the tokens begin at the place
abbrev pub begins_at : Place → Form
begins_at p [] rest = ⊥
begins_at p (t ∷ ts) rest = (t.place ≡ p) × (t ∷ ts ≡ rest)

abbrev pub IsNext : WordKind → List Placed → Type 0
IsNext w [] = ⊥
IsNext w (t ∷ ts) = t.lexeme ≡ word w

-- no token, where the word does not come
abbrev pub not_before : WordKind → Form
not_before w ts rest = (IsNext w ts → ⊥) × (ts ≡ rest)

-- the name of a block is part of no tree
abbrev pub block_name : Form
block_name = a_sign signs.Colon ⨾ (λ ts rest. (x : List ℕ) × a_name x ts rest)

-- the tokens of an arm up to its statement, where `default` says whether one stands before it
abbrev pub IsArmHead : Limits → ℕ → (default : Bool) → Place → List ExpressionTree → Form
IsArmHead l n default p [] =
    given (IsTrue (not default)) (word_at words.Default p ⨾ optional (a_sign signs.Colon))
IsArmHead l n default p items = begins_at p ⨾ commas (IsExpression l n) items ⨾ a_sign signs.Colon

-- whether this is the arm without items
abbrev pub is_default : List ExpressionTree → Bool
is_default [] = true
is_default (e ∷ es) = false

-- a statement, n levels being open around it. Levels are opened by a block, by an `if` and by a
-- `case`; an `else` belongs to the nearest `if` without one
abbrev mutual
  pub IsStatement : Limits → ℕ → StatementTree → Form
  IsStatement l n null = a_sign signs.Semicolon
  IsStatement l n (assignment targets p blocking e) =
      given (BeginAt p targets)
      (AreTargets (IsTarget l n) targets ⨾ assigns blocking ⨾ IsExpression l n e
      ⨾ a_sign signs.Semicolon)
  IsStatement l n (block ss) =
      deeper l n (a_word words.Begin ⨾ optional block_name ⨾ AreStatements l (n + 1) ss
      ⨾ a_word words.End)
  IsStatement l n (if_only p c s) =
      deeper l n (word_at words.If p ⨾ in_parentheses (IsExpression l (n + 1) c)
      ⨾ IsStatement l (n + 1) s ⨾ not_before words.Else)
  IsStatement l n (if_else p c s t) =
      deeper l n (word_at words.If p
      ⨾ in_parentheses (IsExpression l (n + 1) c)
      ⨾ IsStatement l (n + 1) s
      ⨾ a_word words.Else
      ⨾ IsStatement l (n + 1) t)
  IsStatement l n (case_of p e arms) =
      deeper l n (word_at words.Case p
      ⨾ in_parentheses (IsExpression l (n + 1) e)
      ⨾ AreArms l (n + 1) 0 false arms
      ⨾ a_word words.Endcase)

  pub AreStatements : Limits → ℕ → StatementTrees → Form
  AreStatements l n no_statements = nothing
  AreStatements l n (more_statements s ss) = IsStatement l n s ⨾ AreStatements l n ss

  -- the arms of a case behind `before` others, a default among them or not: at least one in all,
  -- and at most one default
  pub AreArms : Limits → ℕ → (before : ℕ) → (default : Bool) → ArmTrees → Form
  AreArms l n before default no_arms = given (IsTrue (nat_lt 0 before)) nothing
  AreArms l n before default (more_arms p items s arms) =
      given (IsTrue (is_within l.arms (before + 1)))
      (IsArmHead l n default p items
      ⨾ IsStatement l n s
      ⨾ AreArms l n (before + 1) (default || is_default items) arms)
