-- What a token does to a statement and to the arms of a case is what their forms say, in the
-- grammar's own trees.
use Rattle.std.proofs.Common.{◌≡◌, ℕ, zero, suc, ◌+◌, Bool, true, false, List, [], ◌∷◌, inl}
use Rattle.std.proofs.Common.{inr, refl, sym, subst, ◌∙◌}
use Rattle.std.specs.Prelude.{IsTrue}
use Rattle.std.proofs.lemmas.Bool.{false≢true}
use Rattle.sv_num.specs.declared.faults.Place.{Place}
use Rattle.sv_token.specs.declared.keywords.WordKind.TheVariants as words
use Rattle.sv_token.specs.declared.signs.SignKind.{SignKind}
use Rattle.sv_token.specs.declared.signs.SignKind.TheVariants as signs
use Rattle.sv_token.specs.Lexemes.{Lexeme, word, identifier, sign, Placed}
use Rattle.sv_token.specs.Words.{is_refused_word}
use Rattle.sv_ast.specs.Tree.{ExpressionTree, Selection, whole, bit_at, part_from, TargetTree}
use Rattle.sv_ast.specs.Tree.{StatementTree, null, assignment, block, if_only, if_else, case_of}
use Rattle.sv_ast.specs.Tree.{StatementTrees, no_statements, more_statements, ArmTrees, no_arms}
use Rattle.sv_ast.specs.Tree.{more_arms}
use Rattle.sv_ast.specs.GrammarForms.{Form, ◌⨾◌, ◌or◌, nothing, a_word, a_sign, later}
use Rattle.sv_ast.specs.GrammarForms.{in_parentheses}
use Rattle.sv_ast.specs.GrammarExpressions.{Limits, is_within, IsExpression}
use Rattle.sv_ast.specs.GrammarStatements.{IsSelection, IsTarget, AreTargets, assigns, IsNext}
use Rattle.sv_ast.specs.GrammarStatements.{block_name, IsArmHead, IsStatement, AreStatements}
use Rattle.sv_parse_machine.specs.Symbols.{Outer, perhaps_bits, statements, statement, more_choices}
use Rattle.sv_parse_machine.specs.Symbols.{perhaps_else, arms, OuterReaction, takes, begins, over, stuck}
use Rattle.sv_parse_machine.specs.Symbols.{and_then, unless_refused}
use Rattle.sv_parse_machine.specs.ExpressionTable.{expression_on}
use Rattle.sv_parse_machine.specs.StatementTable.{assignment_behind, arms_on, statement_on, statements_on}
use Rattle.sv_parse_machine.specs.StatementTable.{perhaps_block_name_on, perhaps_else_on, perhaps_bits_on}
use Rattle.sv_parse_machine.specs.StatementTable.{perhaps_colon_on, assigns_on, taken_if, is_less_equal}
use Rattle.sv_parse_machine.proofs.ExpressionForms.{Next, ends_tail, ends_name, expression_form}
use Rattle.sv_parse_machine.proofs.ExpressionParts.{next_at, ends_any}
use Rattle.sv_parse_machine.proofs.InnerSteps.{by_token, none_opens, no_arm, append_forms}
use Rattle.sv_parse_machine.proofs.OuterForms.{outer_form, outer_forms, IsOver, assigns_form}
use Rattle.sv_parse_machine.proofs.OuterForms.{perhaps_bits_form}
use Rattle.sv_parse_machine.proofs.OuterForms.{more_targets_form, more_choices_form, statement_form}
use Rattle.sv_parse_machine.proofs.OuterForms.{statements_form, arms_form, perhaps_block_name_form}
use Rattle.sv_parse_machine.proofs.OuterForms.{perhaps_colon_form, Accepts}
use Rattle.sv_parse_machine.proofs.OuterTokens.{by_row, unrefused, f_begins}

-- ---- expressions in front of signs

-- an expression of the grammar, where what follows is known to be no part of it
pub value_up_to : (l : Limits) (n : ℕ) (e : ExpressionTree) (ts mid : List Placed)
    → Next ends_name mid → Next ends_tail mid → IsExpression l n e ts mid
    → expression_form l n ts mid
unfolding IsExpression
value_up_to l n e ts mid name_ends tail_ends (w, tree, count, is) =
    (w, is, ends_any w mid name_ends, tail_ends, count)

pub value_before : (l : Limits) (n : ℕ) (e : ExpressionTree) (s : SignKind)
    (ts mid rest : List Placed) → ends_name (sign s) → ends_tail (sign s)
    → IsExpression l n e ts mid → a_sign s mid rest → expression_form l n ts mid
value_before l n e s ts mid rest name_ends tail_ends is (p, at) =
    value_up_to l n e ts mid (next_at ends_name (sign s) p mid rest at name_ends)
    (next_at ends_tail (sign s) p mid rest at tail_ends) is

-- further members and a sign: a comma comes next, or the sign
pub next_later : {A : Type 0} (P : Lexeme → Type 0) (L : A → A
    → Form) (a : A) (bs : List A) (s : SignKind) (ts rest : List Placed)
    → P (sign signs.Comma) → P (sign s) → (later L a bs ⨾ a_sign s) ts rest → Next P ts
next_later P L a [] s ts rest first second (m, none, (p, e)) =
    subst (Next P) (sym none) (next_at P (sign s) p m rest e second)
next_later P L a (b ∷ bs) s ts rest first second (m, (c, (p, e), others), final) =
    next_at P (sign signs.Comma) p ts c e first

-- ---- parts of statements

f_bits : (l : Limits) (n : ℕ) (s : Selection) (ts rest : List Placed) → IsSelection l n s ts rest
    → Next (λ x. IsOver (perhaps_bits_on n x)) rest
    → perhaps_bits_form l n ts rest
f_bits l n whole ts rest same next =
    inl (subst (Next (λ x. IsOver (perhaps_bits_on n x))) (sym same) next, same)
f_bits l n (bit_at i) ts rest (m, bracket, (m1, is, close)) next =
    inr (
      m,
      bracket,
      (
        m1,
        value_before l n i signs.CloseBracket m m1 rest tt tt is
            close,
        (rest, inl (rest, close, refl), refl),
      ),
    )
f_bits l n (part_from h i) ts rest (m, bracket, (m1, (m2, h_is, (m3, colon, i_is)), close)) next =
    inr (
      m,
      bracket,
      (
        m2,
        value_before l n h signs.Colon m m2 m3 tt tt h_is colon,
        (
          rest,
          inr (
            m3,
            colon,
            (
              m1,
              value_before l n i signs.CloseBracket m3 m1 rest tt tt i_is
                  close,
              (rest, close, refl),
            ),
          ),
          refl,
        ),
      ),
    )

f_assigns_form : (l : Limits) (blocking : Bool) (ts rest : List Placed) → assigns blocking ts rest →
    assigns_form l ts rest
f_assigns_form l true ts rest is = inl is
f_assigns_form l false ts rest is = inr is

next_assigns : (n : ℕ) (blocking : Bool) (ts rest : List Placed) → assigns blocking ts rest →
    Next (λ x. IsOver (perhaps_bits_on n x)) ts
next_assigns n true ts rest (p, e) =
    next_at (λ x. IsOver (perhaps_bits_on n x)) (sign signs.Equals) p ts rest e tt
next_assigns n false ts rest (p, (o, op, e)) =
    next_at (λ x. IsOver (perhaps_bits_on n x)) (sign (signs.Operator o)) p ts rest e tt

pub f_assigns : (l : Limits) (t : Placed) (ts rest : List Placed) → assigns_form l (t ∷ ts) rest →
    Accepts l t ts rest (assigns_on t.lexeme)
f_assigns l t ts rest (inl (p, e)) = by_row l t rest assigns_on e (none_opens l, no_arm l, refl)
f_assigns l t ts rest (inr (p, (o, op, e))) =
    by_row l t rest assigns_on e
    (subst (λ b. Accepts l t rest rest (taken_if (is_less_equal b))) (sym op)
    (none_opens l, no_arm l, refl))

-- a target behind its name, and the others up to the brace
f_targets : (l : Limits) (n : ℕ) (a : TargetTree) (bs : List TargetTree) (ts rest : List Placed)
    → (IsSelection l n a.selection ⨾ later (λ before. IsTarget l n) a bs
    ⨾ a_sign signs.CloseBrace) ts rest
    → (perhaps_bits_form l n ⨾ more_targets_form l n) ts rest
f_targets l n a bs ts rest (m, bits, behind) = (
  m,
  f_bits l n a.selection ts m bits
      (next_later (λ x. IsOver (perhaps_bits_on n x)) (λ before.
      IsTarget l n) a bs signs.CloseBrace m rest tt tt behind),
  others a bs m behind,
)
  where
    others : (a : TargetTree) (bs : List TargetTree) (m : List Placed)
        → (later (λ before. IsTarget l n) a bs ⨾ a_sign signs.CloseBrace) m rest
        → more_targets_form l n m rest
    others a [] m (m1, none, close) =
        (zero, (m, refl, subst (λ us. a_sign signs.CloseBrace us rest) (sym none) close))
    others a (b ∷ bs) m (m1, (c, comma, (m2, (m3, name, bits), further)), close) =
        let more = others b bs m2 (m1, further, close) in (
          suc more.0,
          (
            more.1.0,
            (
              m2,
              (
                c,
                comma,
                (
                  m3,
                  (b.name, (b.place, name)),
                  f_bits l n b.selection m3 m2 bits
                      (next_later (λ x. IsOver (perhaps_bits_on n x)) (λ before.
                      IsTarget l n) b bs signs.CloseBrace m2 rest tt tt (m1, further, close)),
                ),
              ),
              more.1.1,
            ),
            more.1.2,
          ),
        )

-- what stands before the assigning sign of a statement
assignment_behind_target :
    (l : Limits) (n : ℕ) (targets : List TargetTree) (blocking : Bool) (e : ExpressionTree)
    (t : Placed) (ts mid rest : List Placed)
    → AreTargets (IsTarget l n) targets (t ∷ ts) mid
    → (assigns blocking ⨾ IsExpression l n e ⨾ a_sign signs.Semicolon) mid rest
    → Accepts l t ts rest (statement_on n t.lexeme)
assignment_behind_target l n [] blocking e t ts mid rest (inl never) behind = absurd never
assignment_behind_target l n (a ∷ b ∷ bs) blocking e t ts mid rest (inl never) behind = absurd never
assignment_behind_target l n [] blocking e t ts mid rest (inr (m, brace, (m1, never, close)))
    behind = absurd never
assignment_behind_target l n (a ∷ []) blocking e t ts mid rest (inl (m, name, bits))
    (m2, assigning, (m3, is, semicolon)) =
    let bits = f_bits l n a.selection m mid bits (next_assigns n blocking mid m2 assigning) in
    let value = value_before l n e signs.Semicolon m2 m3 rest tt tt is semicolon in
    by_row l t rest (statement_on n) name.1
    (unrefused l (perhaps_bits n ∷ assignment_behind n) t m rest a.name name.0 (
      mid,
      bits,
      (
        m2,
        f_assigns_form l blocking mid m2
            assigning,
        (m3, value, (rest, semicolon, refl)),
      ),
    ))
assignment_behind_target l n (a ∷ bs) blocking e t ts mid rest
    (inr (m, (p, brace), (m1, (m4, (m5, name, bits), others), close)))
    (m2, assigning, (m3, is, semicolon)) =
    let targets = f_targets l n a bs m5 mid (m4, bits, (m1, others, close)) in
    let value = value_before l n e signs.Semicolon m2 m3 rest tt tt is semicolon in
    by_row l t rest (statement_on n) brace (
      none_opens l,
      no_arm l,
      (
        m5,
        (a.name, (a.place, name)),
        (
          targets.0,
          targets.1,
          (
            mid,
            targets.2,
            (m2, f_assigns_form l blocking mid m2 assigning, (m3, value, (rest, semicolon, refl))),
          ),
        ),
      ),
    )

-- ---- what a statement begins with

pub next_statement : (P : Lexeme → Type 0) → P (sign signs.Semicolon)
    → ((x : List ℕ) → P (identifier x)) → P (sign signs.OpenBrace) → P (word words.Begin)
    → P (word words.If) → P (word words.Case)
    → (l : Limits) (n : ℕ) (s : StatementTree) (ts rest : List Placed) → IsStatement l n s ts rest
    → Next P ts
next_statement P semicolon name brace begin if case l n null ts rest (p, e) =
    next_at P (sign signs.Semicolon) p ts rest e semicolon
next_statement P semicolon name brace begin if case l n (assignment [] q b v) ts rest
    (at, (m, inl never, behind)) = absurd never
next_statement P semicolon name brace begin if case l n (assignment [] q b v) ts rest
    (at, (m, inr targets, behind)) = absurd at
next_statement P semicolon name brace begin if case l n (assignment (a ∷ []) q b v) ts rest
    (at, (m, inl (m1, (free, e), bits), behind)) =
    next_at P (identifier a.name) a.place ts m1 e (name a.name)
next_statement P semicolon name brace begin if case l n (assignment (a ∷ b ∷ bs) q c v) ts rest
    (at, (m, inl never, behind)) = absurd never
next_statement P semicolon name brace begin if case l n (assignment (a ∷ bs) q b v) ts rest
    (at, (m, inr (m1, (p, e), targets), behind)) =
    next_at P (sign signs.OpenBrace) p ts m1 e brace
next_statement P semicolon name brace begin if case l n (block ss) ts rest
    (opens, (m, (p, e), behind)) = next_at P (word words.Begin) p ts m e begin
next_statement P semicolon name brace begin if case l n (if_only q c s) ts rest
    (opens, (m, e, behind)) = next_at P (word words.If) q ts m e if
next_statement P semicolon name brace begin if case l n (if_else q c s u) ts rest
    (opens, (m, e, behind)) = next_at P (word words.If) q ts m e if
next_statement P semicolon name brace begin if case l n (case_of q v cs) ts rest
    (opens, (m, e, behind)) = next_at P (word words.Case) q ts m e case

next_in_block : (l : Limits) (n : ℕ) (ss : StatementTrees) (ts rest : List Placed)
    → (AreStatements l n ss ⨾ a_word words.End) ts rest
    → Next (λ x. IsOver (perhaps_block_name_on x)) ts
next_in_block l n no_statements ts rest (m, none, (p, e)) =
    next_at (λ x. IsOver (perhaps_block_name_on x)) (word words.End) p ts rest (none ∙ e) tt
next_in_block l n (more_statements s ss) ts rest (m, (m1, is, others), final) =
    next_statement (λ x. IsOver (perhaps_block_name_on x)) tt (λ x. tt) tt tt tt tt l n s ts m1 is

-- ---- statements

statements_of : (l : Limits) (n : ℕ) (ss : StatementTrees) (ts rest : List Placed) →
    (AreStatements l n ss ⨾ a_word words.End) ts rest → statements_form l n ts rest
statements_of l n no_statements ts rest (m, none, final) = (zero, (m, none, final))
statements_of l n (more_statements s ss) ts rest (m, (m1, is, others), final) =
    let further = statements_of l n ss m1 rest (m, others, final) in
    (suc further.0, (further.1.0, (m1, (s, is), further.1.1), further.1.2))

f_block_name : (l : Limits) (n : ℕ) (ss : StatementTrees) (ts mid rest : List Placed)
    → (block_name or nothing) ts mid
    → (AreStatements l n ss ⨾ a_word words.End) mid rest → perhaps_block_name_form l ts mid
f_block_name l n ss ts mid rest (inl (m, colon, name)) are = inr (m, colon, (mid, name, refl))
f_block_name l n ss ts mid rest (inr same) are =
    inl (
      subst (Next (λ x. IsOver (perhaps_block_name_on x))) (sym same)
          (next_in_block l n ss mid rest are),
      same,
    )

not_else : (n : ℕ) (x : Lexeme) → (x ≡ word words.Else → ⊥) → IsOver (perhaps_else_on n x)
not_else n (word words.Else) no_else = absurd (no_else refl)
not_else n x no_else = tt

no_else_next : (n : ℕ) (ts : List Placed) → (IsNext words.Else ts → ⊥) →
    Next (λ x. IsOver (perhaps_else_on n x)) ts
no_else_next n [] no_else = tt
no_else_next n (t ∷ ts) no_else = not_else n t.lexeme no_else

f_condition : (l : Limits) (n : ℕ) (e : ExpressionTree) (ys : List Outer)
    (ts mid rest : List Placed) → in_parentheses (IsExpression l n e) ts mid
    → outer_forms l ys mid rest
    → (a_sign signs.OpenParenthesis ⨾ expression_form l n ⨾ a_sign signs.CloseParenthesis
    ⨾ outer_forms l ys) ts rest
f_condition l n e ys ts mid rest (m, first, (m1, is, second)) behind = (
  m,
  first,
  (
    m1,
    value_before l n e signs.CloseParenthesis m m1 mid tt tt is
        second,
    (mid, second, behind),
  ),
)

pub f_statement : (l : Limits) (n : ℕ) (t : Placed) (ts rest : List Placed) →
    statement_form l n (t ∷ ts) rest → Accepts l t ts rest (statement_on n t.lexeme)
f_statement l n t ts rest (null, (p, e)) =
    by_row l t rest (statement_on n) e (none_opens l, no_arm l, refl)
f_statement l n t ts rest (assignment targets q b v, (at, (m, are, behind))) =
    assignment_behind_target l n targets b v t ts m rest are behind
f_statement l n t ts rest (block ss, (opens, (m, (p, e), (m1, name, are)))) =
    by_row l t rest (statement_on n) e (
      opens,
      no_arm l,
      (
        m1,
        f_block_name l (n + 1) ss m m1 rest name
            are,
        (rest, statements_of l (n + 1) ss m1 rest are, refl),
      ),
    )
f_statement l n t ts rest
    (if_only q c s, (opens, (m, e, (m1, condition, (m2, is, (no_else, same)))))) =
    by_row l t rest (statement_on n) e (
      opens,
      no_arm l,
      f_condition l (n + 1) c (statement (n + 1) ∷ perhaps_else (n + 1) ∷ []) m m1 rest condition
          (m2, (s, is), (rest, inl (no_else_next (n + 1) m2 no_else, same), refl)),
    )
f_statement l n t ts rest
    (if_else q c s u, (opens, (m, e, (m1, condition, (m2, is, (m3, other, others)))))) =
    by_row l t rest (statement_on n) e (
      opens,
      no_arm l,
      f_condition l (n + 1) c (statement (n + 1) ∷ perhaps_else (n + 1) ∷ []) m m1 rest condition
          (m2, (s, is), (rest, inr (m3, other, (rest, (u, others), refl)), refl)),
    )
f_statement l n t ts rest (case_of q v cs, (opens, (m, e, (m1, condition, are)))) =
    by_row l t rest (statement_on n) e (
      opens,
      no_arm l,
      f_condition l (n + 1) v (arms (n + 1) 0 false ∷ []) m m1 rest condition
          (rest, (cs, are), refl),
    )

-- ---- statements in a row

abbrev pub IsNotOver : OuterReaction → Type 0
IsNotOver over = ⊥
IsNotOver r = Unit {0}

name_is_not_over : (b : Bool) (ys : List Outer) → IsNotOver (unless_refused b (takes 0 0 ys))
name_is_not_over true ys = tt
name_is_not_over false ys = tt

pub statement_is_not_over : (n : ℕ) (x : Lexeme) → IsNotOver (statement_on n x)
statement_is_not_over n (identifier y) =
    name_is_not_over (is_refused_word y) (perhaps_bits n ∷ assignment_behind n)
statement_is_not_over n (word words.Begin) = tt
statement_is_not_over n (sign signs.Semicolon) = tt
statement_is_not_over n x = tt

with_others : (l : Limits) (zs : List Outer) (t : Placed) (ts mid rest : List Placed)
    (r : OuterReaction) → IsNotOver r → Accepts l t ts mid r
    → outer_forms l zs mid rest → Accepts l t ts rest (and_then zs r)
with_others l zs t ts mid rest (takes level arm ys) kind (opens, few, is) others =
    (opens, few, append_forms (outer_form l) ys zs ts mid rest is others)
with_others l zs t ts mid rest (begins level arm xs ys) kind (opens, few, m, inners, count, is)
    others =
    (opens, few, m, inners, count, append_forms (outer_form l) ys zs m mid rest is others)
with_others l zs t ts mid rest over kind is others = absurd kind
with_others l zs t ts mid rest (stuck e) kind is others = absurd is

statements_as_statement : (l : Limits) (n : ℕ) (t : Placed) (ts rest : List Placed) (x : Lexeme)
    → Accepts l t ts rest (and_then (statements n ∷ []) (statement_on n x))
    → Accepts l t ts rest (statements_on n x)
statements_as_statement l n t ts rest (word words.End) is = absurd is
statements_as_statement l n t ts rest x is = is

pub f_statements : (l : Limits) (n : ℕ) (t : Placed) (ts rest : List Placed) →
    statements_form l n (t ∷ ts) rest → Accepts l t ts rest (statements_on n t.lexeme)
f_statements l n t ts rest (zero, (m, none, (p, e))) =
    by_row l t rest (statements_on n) (none ∙ e) (none_opens l, no_arm l, refl)
f_statements l n t ts rest (suc k, (m, (m1, is, others), final)) =
    statements_as_statement l n t ts rest t.lexeme
    (with_others l (statements n ∷ []) t ts m1 rest (statement_on n t.lexeme)
    (statement_is_not_over n t.lexeme) (f_statement l n t ts m1 is)
    (rest, (k, (m, others, final)), refl))

-- ---- arms

f_choices : (l : Limits) (n : ℕ) (a : ExpressionTree) (bs : List ExpressionTree)
    (ts rest : List Placed)
    → (later (λ before. IsExpression l n) a bs ⨾ a_sign signs.Colon) ts rest
    → more_choices_form l n ts rest
f_choices l n a [] ts rest (m, none, close) = (zero, (m, none, close))
f_choices l n a (b ∷ bs) ts rest (m, (c, comma, (m1, is, others)), close) =
    let further = f_choices l n b bs m1 rest (m, others, close) in
    let value = value_up_to l n b c m1 (next_later ends_name (λ before.
    IsExpression l n) b bs signs.Colon m1 rest tt tt (m, others, close))
    (next_later ends_tail (λ before.
    IsExpression l n) b bs signs.Colon m1 rest tt tt (m, others, close)) is in
    (suc further.0, (further.1.0, (m1, (c, comma, value), further.1.1), further.1.2))

arms_as_expression :
    (l : Limits) (n before : ℕ) (default : Bool) (t : Placed) (ts rest : List Placed) (x : Lexeme)
    → Accepts l t ts rest
    (expression_on n (before + 1)
    (more_choices n ∷ statement n ∷ arms n (before + 1) default ∷ []) x)
    → Accepts l t ts rest (arms_on n before default x)
arms_as_expression l n before default t ts rest (word words.Endcase) is = absurd is
arms_as_expression l n before default t ts rest (word words.Default) is = absurd is
arms_as_expression l n before default t ts rest x is = is

f_colon : (l : Limits) (n : ℕ) (s : StatementTree) (ts mid rest : List Placed)
    → (a_sign signs.Colon or nothing) ts mid → IsStatement l n s mid rest
    → perhaps_colon_form l ts mid
f_colon l n s ts mid rest (inl colon) is = inr (mid, colon, refl)
f_colon l n s ts mid rest (inr same) is =
    inl (
      subst (Next (λ x. IsOver (perhaps_colon_on x))) (sym same)
          (next_statement (λ x. IsOver (perhaps_colon_on x)) tt (λ x.
          tt) tt tt tt tt l n s mid rest is),
      same,
    )

f_choice_arm : (l : Limits) (n before : ℕ) (default : Bool) (t : Placed) (ts rest : List Placed)
    (q : Place) (v : ExpressionTree) (vs : List ExpressionTree)
    (s : StatementTree) (cs : ArmTrees)
    → IsTrue (is_within l.arms (before + 1))
    → (IsArmHead l n default q (v ∷ vs) ⨾ IsStatement l n s ⨾ arms_form l n (before + 1) default)
    (t ∷ ts) rest
    → Accepts l t ts rest (arms_on n before default t.lexeme)
f_choice_arm l n before default t ts rest q v vs s cs few
    (m, (m1, (at, same), (m2, (m3, value, others), colon)), (m4, is, further)) =
    let choices = f_choices l n v vs m3 m (m2, others, colon) in
    let first = value_up_to l n v m1 m3 (next_later ends_name (λ before.
    IsExpression l n) v vs signs.Colon m3 m tt tt (m2, others, colon))
    (next_later ends_tail (λ before.
    IsExpression l n) v vs signs.Colon m3 m tt tt (m2, others, colon)) value in
    arms_as_expression l n before default t ts rest t.lexeme
    (f_begins l n (before + 1) (more_choices n ∷ statement n ∷ arms n (before + 1) default ∷ []) t
    ts m3 rest
    (subst (λ us. expression_form l n us m3) (sym same) first) few
    (m, choices, (m4, (s, is), (rest, further, refl))))

pub f_arms : (l : Limits) (n before : ℕ) (default : Bool) (t : Placed) (ts rest : List Placed)
    → arms_form l n before default (t ∷ ts) rest
    → Accepts l t ts rest (arms_on n before default t.lexeme)
f_arms l n zero default t ts rest (no_arms, (m, (few, same), final)) = absurd (false≢true few)
f_arms l n (suc before) default t ts rest (no_arms, (m, (few, same), (p, e))) =
    by_token (λ x us. Accepts l t us rest (arms_on n (suc before) default x)) (same ∙ e)
    (none_opens l, no_arm l, refl)
f_arms l n before true t ts rest (more_arms q [] s cs, (m, (few, (m1, (free, head), is)), final)) =
    absurd (false≢true free)
f_arms l n before false t ts rest
    (more_arms q [] s cs, (m, (few, (m1, (free, (m2, e, colon)), (m3, is, others))), final)) =
    by_row l t rest (arms_on n before false) e (
      none_opens l,
      few,
      (
        m1,
        f_colon l n s m2 m1 m3 colon
            is,
        (m3, (s, is), (rest, (cs, (m, others, final)), refl)),
      ),
    )
f_arms l n before true t ts rest
    (more_arms q (v ∷ vs) s cs, (m, (few, (m1, head, (m2, is, others))), final)) =
    f_choice_arm l n before true t ts rest q v vs s cs few
    (m1, head, (m2, is, (cs, (m, others, final))))
f_arms l n before false t ts rest
    (more_arms q (v ∷ vs) s cs, (m, (few, (m1, head, (m2, is, others))), final)) =
    f_choice_arm l n before false t ts rest q v vs s cs few
    (m1, head, (m2, is, (cs, (m, others, final))))
