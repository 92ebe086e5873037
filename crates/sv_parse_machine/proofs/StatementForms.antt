-- From steps to forms: statements and the arms of a case, as the grammar's trees.
use Rattle.std.proofs.Common.{◌≡◌, ℕ, zero, suc, ◌+◌, Bool, true, false, ◌||◌, List, [], ◌∷◌}
use Rattle.std.proofs.Common.{inl, inr, refl, sym, subst, arith}
use Rattle.std.specs.Prelude.{IsTrue, nat_lt}
use Rattle.sv_num.specs.declared.faults.Place.{Place}
use Rattle.sv_token.specs.declared.keywords.WordKind.TheVariants as words
use Rattle.sv_token.specs.declared.signs.SignKind.TheVariants as signs
use Rattle.sv_token.specs.Lexemes.{Lexeme, word, identifier, sign, Placed}
use Rattle.sv_token.specs.Words.{is_refused_word}
use Rattle.sv_ast.specs.Tree.{ExpressionTree, Selection, whole, bit_at, part_from, TargetTree}
use Rattle.sv_ast.specs.Tree.{StatementTree, null, assignment, block, if_only, if_else, case_of}
use Rattle.sv_ast.specs.Tree.{StatementTrees, no_statements, more_statements, no_arms, more_arms}
use Rattle.sv_ast.specs.GrammarForms.{◌⨾◌, ◌or◌, nothing, a_word, a_sign, a_name, later}
use Rattle.sv_ast.specs.GrammarForms.{binary_operator}
use Rattle.sv_ast.specs.GrammarGroups.{without_groups}
use Rattle.sv_ast.specs.GrammarExpressions.{Limits, is_within, IsExpression}
use Rattle.sv_ast.specs.GrammarStatements.{IsSelection, IsTarget, assigns, IsNext, block_name}
use Rattle.sv_ast.specs.GrammarStatements.{IsStatement, AreStatements, AreArms}
use Rattle.sv_parse_machine.specs.Symbols.{Outer, perhaps_bits, statements, statement, more_choices, arms}
use Rattle.sv_parse_machine.specs.Symbols.{OuterReaction, takes, begins, over, stuck, and_then}
use Rattle.sv_parse_machine.specs.ExpressionTable.{expression_on}
use Rattle.sv_parse_machine.specs.StatementTable.{assignment_behind, no_more_arms, default_arm}
use Rattle.sv_parse_machine.specs.StatementTable.{statement_on, statements_on, perhaps_else_on}
use Rattle.sv_parse_machine.specs.StatementTable.{assigns_on, arms_on}
use Rattle.sv_parse_machine.proofs.ExpressionForms.{Next, expression_form}
use Rattle.sv_parse_machine.proofs.InnerSteps.{placed, split_forms}
use Rattle.sv_parse_machine.proofs.InnerForms.{last_token}
use Rattle.sv_parse_machine.proofs.OuterForms.{times, more_targets_row, more_choices_row, outer_form}
use Rattle.sv_parse_machine.proofs.OuterForms.{outer_forms}
use Rattle.sv_parse_machine.proofs.OuterForms.{IsOver, assigns_form, perhaps_bits_form, bits_end_form}
use Rattle.sv_parse_machine.proofs.OuterForms.{statement_form, statements_form, arms_form}
use Rattle.sv_parse_machine.proofs.OuterForms.{perhaps_else_form, perhaps_block_name_form}
use Rattle.sv_parse_machine.proofs.OuterForms.{perhaps_colon_form, Accepts}
use Rattle.sv_parse_machine.proofs.OuterTokens.{taken_as_name, taken_less_equal, b_begins}
use Rattle.sv_parse_machine.proofs.StatementSteps.{IsNotOver, statement_is_not_over}

-- ---- expressions and targets

pub expression_tree : (l : Limits) (n : ℕ) (ts rest : List Placed) → expression_form l n ts rest →
    (e : ExpressionTree) × IsExpression l n e ts rest
unfolding IsExpression
expression_tree l n ts rest (w, is, ends, next, count) = (without_groups w, (w, refl, count, is))

abbrev Selected : Limits → ℕ → List Placed → List Placed → Type 0
Selected l n ts rest = (s : Selection) × IsSelection l n s ts rest

b_bits_end : (l : Limits) (n : ℕ) (ts m0 m rest : List Placed) (e : ExpressionTree)
    → a_sign signs.OpenBracket ts m0 → IsExpression l n e m0 m → bits_end_form l n m rest
    → Selected l n ts rest
b_bits_end l n ts m0 m rest e bracket is (inl (m1, close, same)) =
    subst (Selected l n ts) same (bit_at e, (m0, bracket, (m, is, close)))
b_bits_end l n ts m0 m rest e bracket is (inr (m1, colon, (m2, low, (m3, close, same)))) =
    let value = expression_tree l n m1 m2 low in
    subst (Selected l n ts) same
    (part_from e value.0, (m0, bracket, (m2, (m, is, (m1, colon, value.1)), close)))

b_bits : (l : Limits) (n : ℕ) (ts rest : List Placed) → perhaps_bits_form l n ts rest →
    Selected l n ts rest
b_bits l n ts rest (inl (next, same)) = (whole, same)
b_bits l n ts rest (inr (m, bracket, (m1, first, (m2, last, same)))) =
    let value = expression_tree l n m m1 first in
    subst (Selected l n ts) same (b_bits_end l n ts m m1 m2 value.0 bracket value.1 last)

abbrev Assigning : List Placed → List Placed → Type 0
Assigning ts rest = (blocking : Bool) × assigns blocking ts rest

b_assigns_form : (l : Limits) (ts rest : List Placed) → assigns_form l ts rest → Assigning ts rest
b_assigns_form l ts rest (inl is) = (true, is)
b_assigns_form l ts rest (inr is) = (false, is)

pub b_assigns : (l : Limits) (x : Lexeme) (p : Place) (ts rest : List Placed) →
    Accepts l (placed x p) ts rest (assigns_on x) → assigns_form l (placed x p ∷ ts) rest
b_assigns l (sign signs.Equals) p ts rest is =
    inl (p, last_token (sign signs.Equals) p ts rest is.2)
b_assigns l (sign (signs.Operator o)) p ts rest is =
    let operator = taken_less_equal l (placed (sign (signs.Operator o)) p) ts rest
    (binary_operator o) is in
    inr (p, (o, operator.0, last_token (sign (signs.Operator o)) p ts rest operator.1))
b_assigns l x p ts rest is = absurd is

abbrev Targets : Limits → ℕ → TargetTree → List Placed → List Placed → Type 0
Targets l n a ts rest =
    (bs : List TargetTree) × (later (λ before. IsTarget l n) a bs ⨾ a_sign signs.CloseBrace) ts rest

b_targets : (l : Limits) (n k : ℕ) (a : TargetTree) (ts m rest : List Placed) →
    (times (more_targets_row l n) k) ts m → a_sign signs.CloseBrace m rest → Targets l n a ts rest
b_targets l n zero a ts m rest none close = ([], (m, none, close))
b_targets l n (suc k) a ts m rest (m1, (c, comma, (m2, (x, (q, name)), bits)), further) close =
    let selected = b_bits l n m2 m1 bits in
    let b : TargetTree = record { name = x; place = q; selection = selected.0 } in
    let others = b_targets l n k b m1 m rest further close in
    (b ∷ others.0, (others.1.0, (c, comma, (m1, (m2, name, selected.1), others.1.1)), others.1.2))

-- ---- statements

abbrev Block : Limits → ℕ → List Placed → List Placed → Type 0
Block l n ts rest = (ss : StatementTrees) × (AreStatements l n ss ⨾ a_word words.End) ts rest

b_block : (l : Limits) (n k : ℕ) (ts m rest : List Placed) → (times (statement_form l n) k) ts m →
    a_word words.End m rest → Block l n ts rest
b_block l n zero ts m rest none final = (no_statements, (m, none, final))
b_block l n (suc k) ts m rest (m1, (s, is), further) final =
    let others = b_block l n k m1 m rest further final in
    (more_statements s others.0, (others.1.0, (m1, is, others.1.1), others.1.2))

b_block_name : (l : Limits) (ts rest : List Placed) → perhaps_block_name_form l ts rest →
    (block_name or nothing) ts rest
b_block_name l ts rest (inl (next, same)) = inr same
b_block_name l ts rest (inr (m, colon, (m1, name, same))) =
    inl (m, colon, subst (λ us. (x : List ℕ) × a_name x m us) same name)

no_else : (n : ℕ) (ts : List Placed) → Next (λ x. IsOver (perhaps_else_on n x)) ts →
    IsNext words.Else ts → ⊥
no_else n [] next is = is
no_else n (t ∷ ts) next is = subst (λ x. IsOver (perhaps_else_on n x)) is next

b_if : (l : Limits) (n : ℕ) (p : Place) (c : ExpressionTree) (s : StatementTree)
    (ts m1 m2 rest : List Placed) → IsTrue (is_within l.levels (n + 1))
    → (a_sign signs.OpenParenthesis ⨾ IsExpression l (n + 1) c ⨾ a_sign signs.CloseParenthesis) ts
    m1 → IsStatement l (n + 1) s m1 m2
    → perhaps_else_form l (n + 1) m2 rest → statement_form l n (placed (word words.If) p ∷ ts) rest
b_if l n p c s ts m1 m2 rest opens condition is (inl (next, same)) =
    (if_only p c s, (opens, (ts, refl, (m1, condition, (m2, is, (no_else (n + 1) m2 next, same))))))
b_if l n p c s ts m1 m2 rest opens condition is (inr (m3, other, (m4, (u, others), same))) =
    subst (statement_form l n (placed (word words.If) p ∷ ts)) same
    (if_else p c s u, (opens, (ts, refl, (m1, condition, (m2, is, (m3, other, others))))))

pub b_statement : (l : Limits) (n : ℕ) (x : Lexeme) (p : Place) (ts rest : List Placed)
    → Accepts l (placed x p) ts rest (statement_on n x)
    → statement_form l n (placed x p ∷ ts) rest
b_statement l n (sign signs.Semicolon) p ts rest is =
    (null, (p, last_token (sign signs.Semicolon) p ts rest is.2))
b_statement l n (identifier x) p ts rest is =
    let name = taken_as_name l (perhaps_bits n ∷ assignment_behind n) (placed (identifier x) p) ts
    rest (is_refused_word x) is in
    let (m, bits, (m1, sets, (m2, value, (m3, semicolon, same)))) = name.1 in
    let selected = b_bits l n ts m bits in
    let assigning = b_assigns_form l m m1 sets in
    let tree = expression_tree l n m1 m2 value in
    let target : TargetTree = record { name = x; place = p; selection = selected.0 } in
    subst (statement_form l n (placed (identifier x) p ∷ ts)) same (
      assignment (target ∷ []) p assigning.0 tree.0,
      (refl, (m, inl (ts, (name.0, refl), selected.1), (m1, assigning.1, (m2, tree.1, semicolon)))),
    )
b_statement l n (sign signs.OpenBrace) p ts rest (
  opens,
  arm,
  (
    m,
    (x, (q, name)),
    (m1, bits, (m2, (k, (m3, others, close)), (m4, sets, (m5, value, (m6, semicolon, same))))),
  ),
) =
    let selected = b_bits l n m m1 bits in
    let target : TargetTree = record { name = x; place = q; selection = selected.0 } in
    let targets = b_targets l n k target m1 m3 m2 others close in
    let assigning = b_assigns_form l m2 m4 sets in
    let tree = expression_tree l n m4 m5 value in
    subst (statement_form l n (placed (sign signs.OpenBrace) p ∷ ts)) same (
      assignment (target ∷ targets.0) q assigning.0 tree.0,
      (
        refl,
        (
          m2,
          inr (ts, (p, refl), (targets.1.0, (m1, (m, name, selected.1), targets.1.1), targets.1.2)),
          (m4, assigning.1, (m5, tree.1, semicolon)),
        ),
      ),
    )
b_statement l n (word words.Begin) p ts rest
    (opens, arm, (m, name, (m1, (k, (m2, others, final)), same))) =
    let inside = b_block l (n + 1) k m m2 m1 others final in
    subst (statement_form l n (placed (word words.Begin) p ∷ ts)) same
    (block inside.0, (opens, (ts, (p, refl), (m, b_block_name l ts m name, inside.1))))
b_statement l n (word words.If) p ts rest
    (opens, arm, (m, first, (m1, value, (m2, second, (m3, (s, is), (m4, other, same)))))) =
    let tree = expression_tree l (n + 1) m m1 value in
    subst (statement_form l n (placed (word words.If) p ∷ ts)) same
    (b_if l n p tree.0 s ts m2 m3 m4 opens (m, first, (m1, tree.1, second)) is other)
b_statement l n (word words.Case) p ts rest
    (opens, arm, (m, first, (m1, value, (m2, second, (m3, (cs, are), same))))) =
    let tree = expression_tree l (n + 1) m m1 value in
    subst (statement_form l n (placed (word words.Case) p ∷ ts)) same
    (case_of p tree.0 cs, (opens, (ts, refl, (m2, (m, first, (m1, tree.1, second)), are))))
b_statement l n x p ts rest is = absurd is

without_others : (l : Limits) (zs : List Outer) (t : Placed) (ts rest : List Placed)
    (r : OuterReaction) → IsNotOver r → Accepts l t ts rest (and_then zs r)
    → (mid : List Placed) × Accepts l t ts mid r × outer_forms l zs mid rest
without_others l zs t ts rest (takes level arm ys) kind (opens, few, is) =
    let parts = split_forms (outer_form l) ys zs ts rest is in
    (parts.0, (opens, few, parts.1), parts.2)
without_others l zs t ts rest (begins level arm xs ys) kind (opens, few, m, inners, count, is) =
    let parts = split_forms (outer_form l) ys zs m rest is in
    (parts.0, (opens, few, m, inners, count, parts.1), parts.2)
without_others l zs t ts rest over kind is = absurd kind
without_others l zs t ts rest (stuck e) kind is = absurd is

b_statements_row : (l : Limits) (n : ℕ) (x : Lexeme) (p : Place) (ts rest : List Placed)
    → Accepts l (placed x p) ts rest (and_then (statements n ∷ []) (statement_on n x))
    → statements_form l n (placed x p ∷ ts) rest
b_statements_row l n x p ts rest is =
    let (m, first, (m1, (k, (m2, others, final)), same)) =
    without_others l (statements n ∷ []) (placed x p) ts rest (statement_on n x)
    (statement_is_not_over n x) is in
    subst (statements_form l n (placed x p ∷ ts)) same
    (suc k, (m2, (m, b_statement l n x p ts m first, others), final))

pub b_statements : (l : Limits) (n : ℕ) (x : Lexeme) (p : Place) (ts rest : List Placed)
    → Accepts l (placed x p) ts rest (statements_on n x)
    → statements_form l n (placed x p ∷ ts) rest
b_statements l n (word words.End) p ts rest is =
    (zero, (placed (word words.End) p ∷ ts, refl, (p, last_token (word words.End) p ts rest is.2)))
b_statements l n x p ts rest is = b_statements_row l n x p ts rest is

-- ---- arms

abbrev Choices : Limits → ℕ → ExpressionTree → List Placed → List Placed → Type 0
Choices l n a ts rest =
    (bs : List ExpressionTree)
    × (later (λ before. IsExpression l n) a bs ⨾ a_sign signs.Colon) ts rest

b_choices : (l : Limits) (n k : ℕ) (a : ExpressionTree) (ts m rest : List Placed)
    → (times (more_choices_row l n) k) ts m → a_sign signs.Colon m rest
    → Choices l n a ts rest
b_choices l n zero a ts m rest none close = ([], (m, none, close))
b_choices l n (suc k) a ts m rest (m1, (c, comma, value), further) close =
    let tree = expression_tree l n c m1 value in
    let others = b_choices l n k tree.0 m1 m rest further close in
    (tree.0 ∷ others.0, (others.1.0, (c, comma, (m1, tree.1, others.1.1)), others.1.2))

b_colon : (l : Limits) (ts rest : List Placed) → perhaps_colon_form l ts rest →
    (a_sign signs.Colon or nothing) ts rest
b_colon l ts rest (inl (next, same)) = inr same
b_colon l ts rest (inr (m, colon, same)) = inl (subst (a_sign signs.Colon ts) same colon)

some_before : (k : ℕ) → IsTrue (nat_lt 0 (suc k))
some_before k = grind arith

b_last_arm : (l : Limits) (n before : ℕ) (default : Bool) (p : Place) (ts rest : List Placed)
    → Accepts l (placed (word words.Endcase) p) ts rest (no_more_arms before)
    → arms_form l n before default (placed (word words.Endcase) p ∷ ts) rest
b_last_arm l n zero default p ts rest is = absurd is
b_last_arm l n (suc k) default p ts rest is = (
  no_arms,
  (
    placed (word words.Endcase) p ∷
        ts,
    (some_before k, refl),
    (p, last_token (word words.Endcase) p ts rest is.2),
  ),
)

b_default_arm : (l : Limits) (n before : ℕ) (default : Bool) (p : Place) (ts rest : List Placed)
    → Accepts l (placed (word words.Default) p) ts rest (default_arm n before default)
    → arms_form l n before default (placed (word words.Default) p ∷ ts) rest
b_default_arm l n before true p ts rest is = absurd is
b_default_arm l n before false p ts rest
    (opens, few, (m, colon, (m1, (s, is), (m2, (cs, (m3, are, final)), same)))) =
    subst (arms_form l n before false (placed (word words.Default) p ∷ ts)) same (
      more_arms p [] s cs,
      (m3, (few, (m, (refl, (ts, refl, b_colon l ts m colon)), (m1, is, are))), final),
    )

no_default : (default : Bool) → default || false ≡ default
no_default true = refl
no_default false = refl

b_choice_arm : (l : Limits) (n before : ℕ) (default : Bool) (x : Lexeme) (p : Place)
    (ts rest : List Placed)
    → Accepts l (placed x p) ts rest
    (expression_on n (before + 1)
    (more_choices n ∷ statement n ∷ arms n (before + 1) default ∷ []) x)
    → arms_form l n before default (placed x p ∷ ts) rest
b_choice_arm l n before default x p ts rest is =
    let (
      few,
      mid,
      value,
      (m, (k, (m0, others, colon)), (m1, (s, are), (m2, (cs, (m3, behind, final)), same))),
    ) =
    b_begins l n (before + 1) (more_choices n ∷ statement n ∷ arms n (before + 1) default ∷ []) x p
    ts rest is in
    let tree = expression_tree l n (placed x p ∷ ts) mid value in
    let choices = b_choices l n k tree.0 mid m0 m others colon in
    let further : AreArms l n (before + 1) (default || false) cs m1 m3 =
    subst (λ d. AreArms l n (before + 1) d cs m1 m3) (sym (no_default default)) behind in
    subst (arms_form l n before default (placed x p ∷ ts)) same (
      more_arms p (tree.0 ∷ choices.0) s cs,
      (
        m3,
        (
          few,
          (
            m,
            (
              placed x p ∷
                  ts,
              (refl, refl),
              (choices.1.0, (mid, tree.1, choices.1.1), choices.1.2),
            ),
            (m1, are, further),
          ),
        ),
        final,
      ),
    )

pub b_arms : (l : Limits) (n before : ℕ) (default : Bool) (x : Lexeme) (p : Place)
    (ts rest : List Placed) → Accepts l (placed x p) ts rest (arms_on n before default x)
    → arms_form l n before default (placed x p ∷ ts) rest
b_arms l n before default (word words.Endcase) p ts rest is =
    b_last_arm l n before default p ts rest is
b_arms l n before default (word words.Default) p ts rest is =
    b_default_arm l n before default p ts rest is
b_arms l n before default x p ts rest is = b_choice_arm l n before default x p ts rest is
