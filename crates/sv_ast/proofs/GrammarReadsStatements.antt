-- Readers of statements, by the number of steps that they may take.
use Rattle.std.proofs.Common.{◌≡◌, ℕ, zero, suc, ◌+◌, Bool, true, false, not, ◌||◌, List, [], ◌∷◌}
use Rattle.std.proofs.Common.{Option, Some, None, inl, inr, refl, ap, ◌∙◌}
use Rattle.std.specs.Prelude.{IsTrue, nat_lt}
use Rattle.std.proofs.lemmas.Bool.{false≢true}
use Rattle.sv_num.specs.declared.faults.Place.{Place}
use Rattle.sv_num.specs.declared.operators.BinOp.{BinOp}
use Rattle.sv_num.specs.declared.operators.BinOp.TheVariants as binop
use Rattle.sv_token.specs.declared.keywords.WordKind.TheVariants as words
use Rattle.sv_token.specs.declared.signs.SignKind.TheVariants as signs
use Rattle.sv_token.specs.Lexemes.{Lexeme, word, Placed}
use Rattle.sv_ast.specs.Tree.{whole, bit_at, part_from, TargetTree, null, assignment, block}
use Rattle.sv_ast.specs.Tree.{if_only, if_else, case_of, no_statements, more_statements, no_arms}
use Rattle.sv_ast.specs.Tree.{more_arms}
use Rattle.sv_ast.specs.GrammarForms.{Form, somewhere, binary_at, in_parentheses}
use Rattle.sv_ast.specs.GrammarExpressions.{Limits, is_within, IsExpression}
use Rattle.sv_ast.specs.GrammarStatements.{IsSelection, IsTarget, AreTargets, BeginAt, assigns}
use Rattle.sv_ast.specs.GrammarStatements.{begins_at, not_before, block_name, IsStatement}
use Rattle.sv_ast.specs.GrammarStatements.{AreStatements, AreArms}
use Rattle.sv_ast.proofs.GrammarReads.{◌>>=◌, otherwise, check, Reads, Stands, read_word}
use Rattle.sv_ast.proofs.GrammarReads.{read_word_at, read_sign, read_name, read_name_at}
use Rattle.sv_ast.proofs.GrammarReads.{read_binary_at, read_optional, read_later, read_commas}
use Rattle.sv_ast.proofs.GrammarReads.{read_tree_between}
use Rattle.sv_ast.proofs.GrammarReadsExpressions.{may_open, read_expression}

abbrev pub the_binary : (op wanted : BinOp) → Option (op ≡ wanted)
the_binary binop.Le binop.Le = Some refl
the_binary binop.Mul binop.Mul = Some refl
the_binary op wanted = None

-- a token of this operator
abbrev pub read_operator : (op : BinOp) (ts : List Placed) → Stands (somewhere (binary_at op)) ts
read_operator op ts = do
  r ← read_binary_at ts
  e ← the_binary r.0 op
  Some (r.2, (r.1, (r.3.0, r.3.1 ∙ ap Some e, r.3.2)))

abbrev pub read_selection : (l : Limits) (n : ℕ) (ts : List Placed) → Reads (IsSelection l n) ts
read_selection l n ts = otherwise (do
  o ← read_sign signs.OpenBracket ts
  e ← read_expression l n o.0
  otherwise (do
    c ← read_sign signs.CloseBracket e.1
    Some (bit_at e.0, c.0, (o.0, o.1, (e.1, e.2, c.1)))) (λ _. (do
      colon ← read_sign signs.Colon e.1
      f ← read_expression l n colon.0
      c ← read_sign signs.CloseBracket f.1
      Some (part_from e.0 f.0, c.0, (o.0, o.1, (f.1, (e.1, e.2, (colon.0, colon.1, f.2)), c.1))))))
    (λ _. Some (whole, ts, refl))

abbrev pub read_target : (l : Limits) (n : ℕ) (ts : List Placed) → Reads (IsTarget l n) ts
read_target l n ts = do
  x ← read_name_at ts
  s ← read_selection l n x.2
  Some (record { name = x.0; place = x.1; selection = s.0 }, s.1, (x.2, x.3, s.2))

abbrev pub read_targets : {P : TargetTree → Form} → ((ts : List Placed) → Reads P ts) → ℕ →
    (ts : List Placed) → Reads (AreTargets P) ts
read_targets {P} read k ts = otherwise (do
  b ← read_tree_between signs.OpenBrace signs.CloseBrace (read_commas {P = P} read k) ts
  Some (b.0, b.1, inr b.2)) (λ _. (do
    t ← read ts
    Some (t.0 ∷ [], t.1, inl t.2)))

abbrev pub first_place : (targets : List TargetTree) → Option ((p : Place) × BeginAt p targets)
first_place [] = None
first_place (t ∷ more) = Some (t.place, refl)

abbrev pub read_assigns : (ts : List Placed) → Reads assigns ts
read_assigns ts = otherwise (do
  e ← read_sign signs.Equals ts
  Some (true, e.0, e.1)) (λ _. (do
    o ← read_operator binop.Le ts
    Some (false, o.0, o.1)))

abbrev pub read_begins_at : (ts : List Placed) → Reads begins_at ts
read_begins_at [] = None
read_begins_at (t ∷ ts) = Some (t.place, t ∷ ts, (refl, refl))

abbrev pub is_else : Lexeme → Bool
is_else (word words.Else) = true
is_else x = false

-- what is not `else` equals no `else`
pub no_else : (b : Bool) → IsTrue (not b) → b ≡ true → ⊥
no_else true other same = false≢true other
no_else false other same = false≢true same

abbrev pub read_not_else : (ts : List Placed) → Stands (not_before words.Else) ts
read_not_else [] = Some ([], ((λ next. next), refl))
read_not_else (t ∷ ts) = do
  other ← check (not (is_else t.lexeme))
  Some (t ∷ ts, ((λ next. no_else (is_else t.lexeme) other (ap is_else next)), refl))

abbrev pub read_block_name : (ts : List Placed) → Stands block_name ts
read_block_name ts = do
  c ← read_sign signs.Colon ts
  x ← read_name c.0
  Some (x.1, (c.0, c.1, (x.0, x.2)))

abbrev pub read_condition : (l : Limits) (n : ℕ) (ts : List Placed) →
    Reads (λ e. in_parentheses (IsExpression l n e)) ts
read_condition l n ts =
    read_tree_between signs.OpenParenthesis signs.CloseParenthesis (read_expression l n) ts

abbrev mutual
  pub read_statement : (steps : ℕ) (l : Limits) (n : ℕ) (ts : List Placed) →
      Reads (IsStatement l n) ts
  read_statement zero l n ts = None
  read_statement (suc k) l n ts =
      otherwise (do
        s ← read_sign signs.Semicolon ts
        Some (null, s.0, s.1)) (λ _.
      otherwise (do
        b ← read_word words.Begin ts
        deep ← may_open l n
        name ← read_optional read_block_name b.0
        ss ← read_statements k l (n + 1) name.0
        e ← read_word words.End ss.1
        Some (block ss.0, e.0, (deep, (b.0, b.1, (name.0, name.1, (ss.1, ss.2, e.1)))))) (λ _.
      otherwise (do
        i ← read_word_at words.If ts
        deep ← may_open l n
        c ← read_condition l (n + 1) i.1
        s ← read_statement k l (n + 1) c.1
        otherwise (do
          e ← read_word words.Else s.1
          t ← read_statement k l (n + 1) e.0
          Some (
            if_else i.0 c.0 s.0
                t.0,
            t.1,
            (deep, (i.1, i.2, (c.1, c.2, (s.1, s.2, (e.0, e.1, t.2))))),
          )) (λ _. (do
            e ← read_not_else s.1
            Some (if_only i.0 c.0 s.0, e.0, (deep, (i.1, i.2, (c.1, c.2, (s.1, s.2, e.1))))))))
      (λ _.
      otherwise (do
        w ← read_word_at words.Case ts
        deep ← may_open l n
        c ← read_condition l (n + 1) w.1
        arms ← read_arms k l (n + 1) 0 false c.1
        e ← read_word words.Endcase arms.1
        Some (case_of w.0 c.0 arms.0, e.0, (deep, (w.1, w.2, (c.1, c.2, (arms.1, arms.2, e.1))))))
      (λ _. (do
        targets ← read_targets {P = IsTarget l n} (read_target l n) k ts
        p ← first_place targets.0
        a ← read_assigns targets.1
        e ← read_expression l n a.1
        s ← read_sign signs.Semicolon e.1
        Some (
          assignment targets.0 p.0 a.0
              e.0,
          s.0,
          (p.1, (targets.1, targets.2, (a.1, a.2, (e.1, e.2, s.1)))),
        ))))))

  pub read_statements : (steps : ℕ) (l : Limits) (n : ℕ) (ts : List Placed) →
      Reads (AreStatements l n) ts
  read_statements zero l n ts = Some (no_statements, ts, refl)
  read_statements (suc k) l n ts = otherwise (do
    s ← read_statement k l n ts
    ss ← read_statements k l n s.1
    Some (more_statements s.0 ss.0, ss.1, (s.1, s.2, ss.2))) (λ _. Some (no_statements, ts, refl))

  pub read_arms : (steps : ℕ) (l : Limits) (n before : ℕ) (default : Bool) (ts : List Placed) →
      Reads (AreArms l n before default) ts
  read_arms zero l n before default ts = None
  read_arms (suc k) l n before default ts =
      otherwise (do
        w ← read_word_at words.Default ts
        first ← check (not default)
        colon ← read_optional (read_sign signs.Colon) w.1
        s ← read_statement k l n colon.0
        arms ← read_arms k l n (before + 1) (default || true) s.1
        few ← check (is_within l.arms (before + 1))
        Some (
          more_arms w.0 [] s.0 arms.0,
          arms.1,
          (few, (colon.0, (first, (w.1, w.2, colon.1)), (s.1, s.2, arms.2))),
        )) (λ _.
      otherwise (do
        p ← read_begins_at ts
        e ← read_expression l n p.1
        es ← read_later {L = λ a. IsExpression l n} (λ _. read_expression l n) k e.0 e.1
        colon ← read_sign signs.Colon es.1
        s ← read_statement k l n colon.0
        arms ← read_arms k l n (before + 1) (default || false) s.1
        few ← check (is_within l.arms (before + 1))
        Some (
          more_arms p.0 (e.0 ∷ es.0) s.0 arms.0,
          arms.1,
          (few, (colon.0, (p.1, p.2, (es.1, (e.1, e.2, es.2), colon.1)), (s.1, s.2, arms.2))),
        )) (λ _. (do
          some ← check (nat_lt 0 before)
          Some (no_arms, ts, (some, refl)))))
