-- Statements determine their trees: an `else` belongs to the nearest `if` without one.
use Rattle.std.proofs.Common.{◌≡◌, ℕ, ◌+◌, ◌||◌, Bool, true, false, List, [], ◌∷◌, refl, sym, ap}
use Rattle.std.proofs.Common.{ap₂, subst, ◌∙◌, arith}
use Rattle.std.proofs.lemmas.Bool.{false≢true}
use Rattle.sv_num.specs.declared.faults.Place.{Place}
use Rattle.sv_token.specs.declared.keywords.WordKind.{WordKind}
use Rattle.sv_token.specs.declared.keywords.WordKind.TheVariants as words
use Rattle.sv_token.specs.declared.signs.SignKind.TheVariants as signs
use Rattle.sv_token.specs.Lexemes.{Lexeme, word, identifier, numeral, sign, Placed}
use Rattle.sv_ast.specs.Tree.{ExpressionTree, TargetTree, StatementTree, null, assignment, block}
use Rattle.sv_ast.specs.Tree.{if_only, if_else, case_of, StatementTrees, no_statements}
use Rattle.sv_ast.specs.Tree.{more_statements, ArmTrees, no_arms, more_arms}
use Rattle.sv_ast.specs.GrammarForms.{Form, ◌⨾◌, optional, word_at, a_word, a_sign, in_parentheses}
use Rattle.sv_ast.specs.GrammarExpressions.{Limits, IsExpression}
use Rattle.sv_ast.specs.GrammarStatements.{IsTarget, assigns, begins_at, IsNext, not_before}
use Rattle.sv_ast.specs.GrammarStatements.{block_name, IsArmHead, is_default, IsStatement}
use Rattle.sv_ast.specs.GrammarStatements.{AreStatements, AreArms}
use Rattle.sv_ast.proofs.GrammarOneToken.{NextIs}
use Rattle.sv_parse_machine.proofs.OneForm.{Behind, Anything, AreOne, AreApart, Leads, At, one_as}
use Rattle.sv_parse_machine.proofs.OneForm.{one_anywhere, one_apart, one_turned, apart_turned}
use Rattle.sv_parse_machine.proofs.OneForm.{one_nothing, leads_nothing, one_then, one_before, leads_first}
use Rattle.sv_parse_machine.proofs.OneForm.{leads_through, one_this, one_mark, one_plain, sign_behind}
use Rattle.sv_parse_machine.proofs.OneForm.{word_behind, leads_sign, leads_word, leads_this, leads_name}
use Rattle.sv_parse_machine.proofs.OneForm.{before_sign, before_word, FirstIs, HasClass, classes_apart}
use Rattle.sv_parse_machine.proofs.OneForm.{Refuses, apart_from, one_or_none, leads_given, leads_or}
use Rattle.sv_parse_machine.proofs.OneForm.{one_given}
use Rattle.sv_parse_machine.proofs.OneList.{one_optional, list_ends, one_commas, leads_listed}
use Rattle.sv_parse_machine.proofs.OneType.{one_value, begins_expression, leads_value, value_refused}
use Rattle.sv_parse_machine.proofs.OneTarget.{NoBracket, one_target, list_no_bracket, leads_target}
use Rattle.sv_parse_machine.proofs.OneTarget.{leads_only, one_targets, begin_same, one_assigns}
use Rattle.sv_parse_machine.proofs.OneTarget.{leads_assigns}

-- ---- first tokens

-- known of all tokens that begin a statement
abbrev pub AtStatements : Behind → Type 0
AtStatements F =
    At F (sign signs.Semicolon) × ((x : List ℕ) → At F (identifier x)) × At F (sign signs.OpenBrace)
    × At F (word words.Begin) × At F (word words.If) × At F (word words.Case)

leads_target_name : {F D : Behind} (l : Limits) (n : ℕ) (t : TargetTree) →
    ((x : List ℕ) → At F (identifier x)) → Leads F D (IsTarget l n t)
leads_target_name l n t begins = leads_first (leads_name t.name t.place (begins t.name))

pub leads_statement : {F D : Behind} (l : Limits) (n : ℕ) (s : StatementTree) → AtStatements F →
    Leads F D (IsStatement l n s)
leads_statement l n null at = leads_sign signs.Semicolon at.0
leads_statement l n (assignment targets p blocking e) at =
    leads_given (leads_first
    (leads_or (leads_only (λ t. leads_target_name l n t at.1) targets)
    (leads_first (leads_sign signs.OpenBrace at.2))))
leads_statement l n (block ss) at = leads_given (leads_first (leads_word words.Begin at.3))
leads_statement l n (if_only p c s) at =
    leads_given (leads_first (leads_this (word words.If) p at.4))
leads_statement l n (if_else p c s t) at =
    leads_given (leads_first (leads_this (word words.If) p at.4))
leads_statement l n (case_of p e arms) at =
    leads_given (leads_first (leads_this (word words.Case) p at.5))

-- statements of different classes begin with different tokens
abbrev class_of : StatementTree → ℕ
class_of null = 0
class_of (assignment targets p blocking e) = 1
class_of (block ss) = 2
class_of (if_only p c s) = 3
class_of (if_else p c s t) = 3
class_of (case_of p e arms) = 4

abbrev class_of_lexeme : Lexeme → ℕ
class_of_lexeme (sign signs.Semicolon) = 0
class_of_lexeme (identifier x) = 1
class_of_lexeme (sign signs.OpenBrace) = 1
class_of_lexeme (word words.Begin) = 2
class_of_lexeme (word words.If) = 3
class_of_lexeme (word words.Case) = 4
class_of_lexeme x = 5

leads_class : (l : Limits) (n : ℕ) (s : StatementTree) →
    Leads (HasClass class_of_lexeme (class_of s)) Anything (IsStatement l n s)
leads_class l n null = leads_sign signs.Semicolon (λ p rest. refl)
leads_class l n (assignment targets p blocking e) =
    leads_given (leads_first
    (leads_or (leads_only (λ t. leads_target_name l n t (λ x p rest. refl)) targets)
    (leads_first (leads_sign signs.OpenBrace (λ p rest. refl)))))
leads_class l n (block ss) = leads_given (leads_first (leads_word words.Begin (λ p rest. refl)))
leads_class l n (if_only p c s) =
    leads_given (leads_first (leads_this (word words.If) p (λ p rest. refl)))
leads_class l n (if_else p c s t) =
    leads_given (leads_first (leads_this (word words.If) p (λ p rest. refl)))
leads_class l n (case_of p e arms) =
    leads_given (leads_first (leads_this (word words.Case) p (λ p rest. refl)))

statements_apart : (l : Limits) (n : ℕ) (s t : StatementTree) → (class_of s ≡ class_of t → ⊥) →
    AreApart (IsStatement l n s) (IsStatement l n t)
statements_apart l n s t differ =
    classes_apart class_of_lexeme (class_of s) (class_of t) differ (leads_class l n s)
    (leads_class l n t)

-- ---- blocks

abbrev is_no_colon : Lexeme → Bool
is_no_colon (sign signs.Colon) = false
is_no_colon x = true

abbrev NoColon : Behind
NoColon = NextIs is_no_colon

statements_without_colon : AtStatements NoColon
statements_without_colon = (
  (λ p rest. refl),
  (λ x p rest. refl),
  (λ p rest. refl),
  (λ p rest. refl),
  (λ p rest.
      refl),
  (λ p rest. refl),
)

one_block_name : AreOne Anything (Unit {0}) block_name block_name
one_block_name = sign_behind signs.Colon (record {
  one = λ ts r s is is_too ends ends_too.
      let same = one_plain is.0 is_too.0 in (tt, (same.one ts r s is.1 is_too.1 tt tt).1);
})

perhaps_block_name : AreOne NoColon (Unit {0}) (optional block_name) (optional block_name)
perhaps_block_name =
    one_optional (one_anywhere one_block_name)
    (leads_first (leads_sign signs.Colon (λ p rest. false≢true)))

perhaps_colon : AreOne NoColon (Unit {0}) (optional (a_sign signs.Colon))
    (optional (a_sign signs.Colon))
perhaps_colon =
    one_optional (one_anywhere (one_mark signs.Colon))
    (leads_sign signs.Colon (λ p rest. false≢true))

leads_statements : {F D : Behind} (l : Limits) (n : ℕ) (ss : StatementTrees) → AtStatements F
    → ((ts : List Placed) → D ts → F ts)
    → Leads F D (AreStatements l n ss)
leads_statements l n no_statements at so = leads_nothing so
leads_statements l n (more_statements s ss) at so = leads_first (leads_statement l n s at)

-- up to the `end`
leads_body : (l : Limits) (n : ℕ) (ss : StatementTrees) →
    Leads NoColon Anything (AreStatements l n ss ⨾ a_word words.End)
leads_body l n ss =
    leads_through (leads_statements l n ss statements_without_colon (λ ts known. known))
    (leads_word words.End (λ p rest. refl))

-- the word comes next
abbrev is_end : Lexeme → Bool
is_end (word words.End) = true
is_end x = false

abbrev is_endcase : Lexeme → Bool
is_endcase (word words.Endcase) = true
is_endcase x = false

abbrev EndIs : Behind
EndIs = FirstIs is_end

abbrev EndcaseIs : Behind
EndcaseIs = FirstIs is_endcase

statement_is_no_end : (l : Limits) (n : ℕ) (s : StatementTree) → Refuses EndIs (IsStatement l n s)
statement_is_no_end l n s =
    leads_statement l n s (
      (λ p rest. false≢true),
      (λ x p rest. false≢true),
      (λ p rest. false≢true),
      (λ p rest. false≢true),
      (λ p rest. false≢true),
      (λ p rest. false≢true),
    )

-- ---- `else`

one_without : (w : WordKind) → AreOne Anything (Unit {0}) (not_before w) (not_before w)
one_without w = record { one = λ ts r s is is_too ends ends_too. (tt, sym is.1 ∙ is_too.1) }

else_or_not : (P : Form) → AreApart (not_before words.Else) (a_word words.Else ⨾ P)
else_or_not P =
    record { apart = λ ts r s is is_too. is.0 (subst (IsNext words.Else) (sym is_too.1.1) refl) }

one_condition : (l : Limits) (n : ℕ) (c d : ExpressionTree)
    → AreOne Anything (c ≡ d) (in_parentheses (IsExpression l n c))
    (in_parentheses (IsExpression l n d))
one_condition l n c d =
    sign_behind signs.OpenParenthesis
    (before_sign signs.CloseParenthesis (one_value l n c d) (λ p rest. refl))

-- a word and a condition before forms that are one
one_head : {E : Type 0} {P Q : Form} (w : WordKind) (l : Limits) (n : ℕ) (p q : Place)
    (c d : ExpressionTree) → AreOne Anything E P Q
    → AreOne Anything ((p ≡ q) × ((c ≡ d) × E)) (word_at w p ⨾ in_parentheses (IsExpression l n c)
    ⨾ P) (word_at w q ⨾ in_parentheses (IsExpression l n d) ⨾ Q)
one_head w l n p q c d same =
    one_then (one_this (word w) p q) (λ at. one_then (one_condition l n c d) (λ condition. same))

-- ---- arms

leads_arm : {D : Behind} (l : Limits) (n : ℕ) (s : StatementTree) (P : Form) →
    Leads NoColon D (IsStatement l n s ⨾ P)
leads_arm l n s P = leads_first (leads_statement l n s statements_without_colon)

lexeme_is_no_end : (x : Lexeme) → begins_expression x ≡ true → is_endcase x ≡ true → ⊥
lexeme_is_no_end (word w) first ends = false≢true first
lexeme_is_no_end (sign s) first ends = false≢true ends
lexeme_is_no_end (identifier x) first ends = false≢true ends
lexeme_is_no_end (numeral v) first ends = false≢true ends

one_begin : (p q : Place) → AreOne Anything (p ≡ q) (begins_at p) (begins_at q)
one_begin p q = record { one = λ ts r s is is_too ends ends_too. begin ts r s is is_too }
  where
    begin : (ts r s : List Placed) → begins_at p ts r → begins_at q ts s → (p ≡ q) × (r ≡ s)
    begin [] r s is is_too = absurd is
    begin (t ∷ ts) r s is is_too = (sym is.0 ∙ is_too.0, sym is.1 ∙ is_too.1)

leads_begin : {F : Behind} (p : Place) → Leads F F (begins_at p)
leads_begin {F = F} p = record { leads = λ ts r is ends. begin ts r is ends }
  where
    begin : (ts r : List Placed) → begins_at p ts r → F r → F ts
    begin [] r is ends = absurd is
    begin (t ∷ ts) r is ends = subst F (sym is.1) ends

default_is_no_value :
    (l : Limits) (n : ℕ) (default : Bool) (p q : Place) (e : ExpressionTree)
    (es : List ExpressionTree)
    → AreApart (IsArmHead l n default p []) (IsArmHead l n default q (e ∷ es))
default_is_no_value l n default p q e es =
    apart_from {D = FirstIs begins_expression}
    (leads_given (leads_first (leads_this (word words.Default) p (λ p rest. false≢true))))
    (leads_through (leads_begin q) (leads_first (leads_listed _ (λ f. leads_value l n f) (e ∷ es))))

one_arm_head : (l : Limits) (n : ℕ) (default : Bool) (p q : Place) (es fs : List ExpressionTree)
    → AreOne NoColon ((p ≡ q) × (es ≡ fs)) (IsArmHead l n default p es) (IsArmHead l n default q fs)
one_arm_head l n default p q [] [] = one_given (λ none none_too.
    one_as (λ both. (both.0, refl)) (one_then (one_this (word words.Default) p q) (λ same.
    perhaps_colon)))
one_arm_head l n default p q [] (f ∷ fs) = one_apart (default_is_no_value l n default p q f fs)
one_arm_head l n default p q (e ∷ es) [] =
    one_apart (apart_turned (default_is_no_value l n default q p e es))
one_arm_head l n default p q (e ∷ es) (f ∷ fs) =
    one_then (one_begin p q) (λ same.
    before_sign signs.Colon (one_commas (one_value l n) (λ p rest.
    refl) list_ends (e ∷ es) (f ∷ fs))
    (λ p rest. refl))

head_is_no_end : (l : Limits) (n : ℕ) (default : Bool) (p : Place) (es : List ExpressionTree) →
    Refuses EndcaseIs (IsArmHead l n default p es)
head_is_no_end l n default p [] =
    leads_given (leads_first (leads_this (word words.Default) p (λ q rest. false≢true)))
head_is_no_end l n default p (e ∷ es) =
    leads_through (leads_begin p)
    (leads_first (leads_listed _ (value_refused lexeme_is_no_end l n) (e ∷ es)))

-- ---- statements

one_assignment : (l : Limits) (n : ℕ) (ts us : List TargetTree) (p q : Place) (b c : Bool)
    (e f : ExpressionTree)
    → AreOne Anything (assignment ts p b e ≡ assignment us q c f)
    (IsStatement l n (assignment ts p b e)) (IsStatement l n (assignment us q c f))
one_assignment l n ts us p q b c e f = one_given (λ at at_too.
    one_as (λ both i. assignment (both.0 i) (begin_same p q ts us at at_too both.0 i) (both.1.0 i)
    (both.1.1 i))
    (one_before (one_targets (one_target l n) (leads_target l n) (λ p rest.
    refl) list_no_bracket ts us) (leads_assigned b e) (leads_assigned c f)
    (λ targets. one_then (one_assigns b c) (λ same.
    before_sign signs.Semicolon (one_value l n e f) (λ p rest. refl)))))
  where
    leads_assigned : (d : Bool) (g : ExpressionTree) →
        Leads NoBracket Anything (assigns d ⨾ IsExpression l n g ⨾ a_sign signs.Semicolon)
    leads_assigned d g = leads_first (leads_assigns d (λ p rest. refl) (λ o p rest. refl))

-- the arms behind the first one
one_arms_as : (l : Limits) (n before : ℕ) (default : Bool) (es fs : List ExpressionTree)
    (a b : ArmTrees) → es ≡ fs
    → AreOne EndcaseIs (a ≡ b) (AreArms l n before (default || is_default es) a)
    (AreArms l n before (default || is_default es) b)
    → AreOne EndcaseIs (a ≡ b) (AreArms l n before (default || is_default es) a)
    (AreArms l n before (default || is_default fs) b)
one_arms_as l n before default es fs a b same one =
    subst (λ gs. AreOne EndcaseIs (a ≡ b) (AreArms l n before (default || is_default es) a)
    (AreArms l n before (default || is_default gs) b)) same one

mutual
  pub one_statement : (l : Limits) (s : StatementTree) (n : ℕ) (t : StatementTree) →
      AreOne Anything (s ≡ t) (IsStatement l n s) (IsStatement l n t)
  one_statement l null n null = one_as (λ same. refl) (one_mark signs.Semicolon)
  one_statement l null n t = one_apart (statements_apart l n null t (λ same. omega arith))
  one_statement l (assignment ts p b e) n (assignment us q c f) =
      one_assignment l n ts us p q b c e f
  one_statement l (assignment ts p b e) n t =
      one_apart (statements_apart l n (assignment ts p b e) t (λ same. omega arith))
  one_statement l (block ss) n (block ts) = one_given (λ within within_too.
      one_as (λ both. ap block both.1) (word_behind words.Begin
      (one_before perhaps_block_name (leads_body l (n + 1) ss) (leads_body l (n + 1) ts)
      (λ name. before_word words.End (one_statements l ss (n + 1) ts) (λ p rest. refl)))))
  one_statement l (block ss) n t =
      one_apart (statements_apart l n (block ss) t (λ same. omega arith))
  one_statement l (if_only p c s) n (if_only q d t) = one_given (λ within within_too.
      one_as (λ both i. if_only (both.0 i) (both.1.0 i) (both.1.1.0 i))
      (one_head words.If l (n + 1) p q c d (one_then (one_statement l s (n + 1) t) (λ inner.
      one_without words.Else))))
  one_statement l (if_only p c s) n (if_else q d t u) = one_given (λ within within_too.
      one_as (λ both. absurd both.1.1.1)
      (one_head words.If l (n + 1) p q c d (one_then (one_statement l s (n + 1) t)
      (λ inner. one_apart {E = ⊥} (else_or_not (IsStatement l (n + 1) u))))))
  one_statement l (if_only p c s) n t =
      one_apart (statements_apart l n (if_only p c s) t (λ same. omega arith))
  one_statement l (if_else p c s u) n (if_only q d t) = one_given (λ within within_too.
      one_as (λ both. absurd both.1.1.1)
      (one_head words.If l (n + 1) p q c d (one_then (one_statement l s (n + 1) t)
      (λ inner. one_apart {E = ⊥} (apart_turned (else_or_not (IsStatement l (n + 1) u)))))))
  one_statement l (if_else p c s u) n (if_else q d t v) = one_given (λ within within_too.
      one_as (λ both i. if_else (both.0 i) (both.1.0 i) (both.1.1.0 i) (both.1.1.1 i))
      (one_head words.If l (n + 1) p q c d (one_then (one_statement l s (n + 1) t)
      (λ inner. word_behind words.Else (one_statement l u (n + 1) v)))))
  one_statement l (if_else p c s u) n t =
      one_apart (statements_apart l n (if_else p c s u) t (λ same. omega arith))
  one_statement l (case_of p e a) n (case_of q f b) = one_given (λ within within_too.
      one_as (λ both i. case_of (both.0 i) (both.1.0 i) (both.1.1 i))
      (one_head words.Case l (n + 1) p q e f
      (before_word words.Endcase (one_arms l a (n + 1) 0 false b) (λ p rest. refl))))
  one_statement l (case_of p e a) n t =
      one_apart (statements_apart l n (case_of p e a) t (λ same. omega arith))

  pub one_statements : (l : Limits) (ss : StatementTrees) (n : ℕ) (ts : StatementTrees)
      → AreOne EndIs (ss ≡ ts) (AreStatements l n ss) (AreStatements l n ts)
  one_statements l no_statements n no_statements = one_as (λ same. refl) one_nothing
  one_statements l no_statements n (more_statements t ts) =
      one_or_none (leads_first (statement_is_no_end l n t))
  one_statements l (more_statements s ss) n no_statements =
      one_turned (one_or_none (leads_first (statement_is_no_end l n s)))
  one_statements l (more_statements s ss) n (more_statements t ts) =
      one_as (λ both. ap₂ more_statements both.0 both.1)
      (one_then (one_statement l s n t) (λ same. one_statements l ss n ts))

  pub one_arms : (l : Limits) (a : ArmTrees) (n before : ℕ) (default : Bool) (b : ArmTrees)
      → AreOne EndcaseIs (a ≡ b) (AreArms l n before default a) (AreArms l n before default b)
  one_arms l no_arms n before default no_arms =
      one_given (λ some some_too. one_as (λ same. refl) one_nothing)
  one_arms l no_arms n before default (more_arms q fs t b) =
      one_given (λ some some_too. one_or_none (leads_first (head_is_no_end l n default q fs)))
  one_arms l (more_arms p es s a) n before default no_arms =
      one_given (λ some some_too.
      one_turned (one_or_none (leads_first (head_is_no_end l n default p es))))
  one_arms l (more_arms p es s a) n before default (more_arms q fs t b) =
      one_given (λ within within_too.
      one_as (λ both i. more_arms (both.0.0 i) (both.0.1 i) (both.1.0 i) (both.1.1 i))
      (one_before (one_arm_head l n default p q es fs) (leads_arm l n s _) (leads_arm l n t _)
      (λ head. one_then (one_statement l s n t)
      (λ same. one_arms_as l n (before + 1) default es fs a b head.1
      (one_arms l a n (before + 1) (default || is_default es) b)))))
