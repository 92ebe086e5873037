-- A state that does not take a lexeme says whether an item, a statement, an edge of a clock or a
-- first port may begin there.
use Rattle.std.proofs.Common.{◌≡◌, ℕ, Bool, true, false, not, ◌&&◌, ◌||◌, [], ◌∷◌, Option, Some}
use Rattle.std.proofs.Common.{None, refl, sym, ap, subst, ◌∙◌}
use Rattle.std.specs.Prelude.{IsTrue}
use Rattle.std.proofs.lemmas.Bool.{false≢true, and_parts}
use Rattle.sv_num.specs.declared.operators.BinOp.{BinOp}
use Rattle.sv_token.specs.declared.keywords.WordKind.{WordKind}
use Rattle.sv_token.specs.declared.keywords.WordKind.TheVariants as words
use Rattle.sv_token.specs.declared.signs.SignKind.TheVariants as signs
use Rattle.sv_token.specs.Lexemes.{Lexeme, word, sign}
use Rattle.sv_ast.specs.GrammarForms.{binary_operator}
use Rattle.sv_ast.specs.GrammarRules.{no_limits}
use Rattle.sv_parse_machine.specs.Symbols.{Inner, operand, tail, selection, selection_end}
use Rattle.sv_parse_machine.specs.Symbols.{members_or_count, members, inner_colon, inner_parenthesis}
use Rattle.sv_parse_machine.specs.Symbols.{inner_bracket, inner_brace, Outer, inner, outer, State}
use Rattle.sv_parse_machine.specs.Symbols.{Expected, something, an_item, a_statement, an_edge}
use Rattle.sv_parse_machine.specs.Symbols.{a_port, InnerReaction, takes_inner, over_inner}
use Rattle.sv_parse_machine.specs.Symbols.{stuck_inner, OuterReaction, takes, begins, over, stuck}
use Rattle.sv_parse_machine.specs.ExpressionTable.{operand_on, infix_tail, inner_on}
use Rattle.sv_parse_machine.specs.ModuleTable.{one_module_on}
use Rattle.sv_parse_machine.specs.Machine.{outer_on, MachineStep, goes, fails_as, stuck_at}
use Rattle.sv_parse_machine.specs.Machine.{after_inner, after_outer, step}
use Rattle.sv_parse_machine.proofs.AgreedRows.{is_expected, is_as, is_over}
use Rattle.sv_parse_machine.proofs.AgreedRows.{agrees, is_named, IsFree, rows_agree, PlainlyStuck}
use Rattle.sv_parse_machine.proofs.AgreedRows.{operand_is_plain}

abbrev pub goes_on : MachineStep → Bool
goes_on (goes s) = true
goes_on (fails_as f) = false

abbrev pub IsNoDot : Lexeme → Type 0
IsNoDot (sign signs.Dot) = ⊥
IsNoDot x = Unit {0}

-- ---- within expressions

abbrev InnerAgrees : InnerReaction → InnerReaction → Type 0
InnerAgrees (takes_inner level xs) r = Unit {0}
InnerAgrees over_inner r = r ≡ over_inner
InnerAgrees (stuck_inner something) r = r ≡ stuck_inner something
InnerAgrees (stuck_inner e) r = ⊥

plainly : (r : InnerReaction) → PlainlyStuck r → InnerAgrees r (stuck_inner something)
plainly (takes_inner level xs) kind = tt
plainly over_inner kind = absurd kind
plainly (stuck_inner something) kind = refl
plainly (stuck_inner e) kind = absurd kind

infix_agrees : (n : ℕ) (b : Option BinOp) → InnerAgrees (infix_tail n b) over_inner
infix_agrees n None = refl
infix_agrees n (Some op) = tt

inner_agrees : (s : Inner) (x : Lexeme) (w : WordKind) → IsNoDot x →
    InnerAgrees (inner_on s x) (inner_on s (word w))
inner_agrees (operand n) x w no_dot = plainly (operand_on n x) (operand_is_plain n x)
inner_agrees (tail n) (sign signs.Question) w no_dot = tt
inner_agrees (tail n) (sign (signs.Operator o)) w no_dot = infix_agrees n (binary_operator o)
inner_agrees (tail n) x w no_dot = refl
inner_agrees (selection n) (sign signs.OpenBracket) w no_dot = tt
inner_agrees (selection n) (sign signs.Dot) w no_dot = absurd no_dot
inner_agrees (selection n) x w no_dot = refl
inner_agrees (selection_end n) (sign signs.CloseBracket) w no_dot = tt
inner_agrees (selection_end n) (sign signs.Colon) w no_dot = tt
inner_agrees (selection_end n) x w no_dot = refl
inner_agrees (members_or_count n) (sign signs.CloseBrace) w no_dot = tt
inner_agrees (members_or_count n) (sign signs.Comma) w no_dot = tt
inner_agrees (members_or_count n) (sign signs.OpenBrace) w no_dot = tt
inner_agrees (members_or_count n) x w no_dot = refl
inner_agrees (members n) (sign signs.CloseBrace) w no_dot = tt
inner_agrees (members n) (sign signs.Comma) w no_dot = tt
inner_agrees (members n) x w no_dot = refl
inner_agrees inner_colon (sign signs.Colon) w no_dot = tt
inner_agrees inner_colon x w no_dot = refl
inner_agrees inner_parenthesis (sign signs.CloseParenthesis) w no_dot = tt
inner_agrees inner_parenthesis x w no_dot = refl
inner_agrees inner_bracket (sign signs.CloseBracket) w no_dot = tt
inner_agrees inner_bracket x w no_dot = refl
inner_agrees inner_brace (sign signs.CloseBrace) w no_dot = tt
inner_agrees inner_brace x w no_dot = refl

-- ---- states

-- what the state would do with the words
pub record Expects (a : ℕ) (s : State) (x : Lexeme) (e : Expected) : Type 0 where
  pub items : goes_on (step no_limits a s (word words.Always)) ≡ is_expected an_item e
  pub statements : goes_on (step no_limits a s (word words.Begin)) ≡ is_expected a_statement e
  pub edges : goes_on (step no_limits a s (word words.Posedge)) ≡ is_expected an_edge e
  pub ports : IsTrue (is_named x) →
      goes_on (step no_limits a s (word words.Input)) ≡ is_expected a_port e

no_module_expected : (a : ℕ) (x : Lexeme) (e : Expected) →
    after_outer no_limits a [] (goes []) (one_module_on x) ≡ fails_as (stuck_at e) → e ≡ something
no_module_expected a (word words.Module) e same = absurd (cc)
no_module_expected a x e same = cc

stuck_inside : (w : WordKind) (a start : ℕ) (s : Inner) (below : State) →
    inner_on s (word w) ≡ stuck_inner something →
    goes_on (step no_limits a (inner start s ∷ below) (word w)) ≡ false
stuck_inside w a start s below is =
    ap (λ r. goes_on (after_inner no_limits a start below (step no_limits a below (word w)) r)) is

over_inside : (w : WordKind) (a start : ℕ) (s : Inner) (below : State) (b : Bool)
    → inner_on s (word w) ≡ over_inner → goes_on (step no_limits a below (word w)) ≡ b
    → goes_on (step no_limits a (inner start s ∷ below) (word w)) ≡ b
over_inside w a start s below b is further =
    ap (λ r. goes_on (after_inner no_limits a start below (step no_limits a below (word w)) r)) is
    ∙ further

expects_inside : (a start : ℕ) (s : Inner) (below : State) (x : Lexeme) (e : Expected)
    (r : InnerReaction) → IsNoDot x → inner_on s x ≡ r
    → after_inner no_limits a start below (step no_limits a below x) r ≡ fails_as (stuck_at e)
    → (step no_limits a below x ≡ fails_as (stuck_at e) → Expects a below x e)
    → Expects a (inner start s ∷ below) x e
expects_inside a start s below x e (takes_inner level xs) no_dot found halts further = absurd (cc)
expects_inside a start s below x e over_inner no_dot found halts further =
    let others = further halts in
    let same = λ (w : WordKind).
    subst (λ r. InnerAgrees r (inner_on s (word w))) found (inner_agrees s x w no_dot) in
    record {
      items =
          over_inside words.Always a start s below (is_expected an_item e) (same words.Always)
          others.items;
      statements =
          over_inside words.Begin a start s below (is_expected a_statement e) (same words.Begin)
          others.statements;
      edges =
          over_inside words.Posedge a start s below (is_expected an_edge e) (same words.Posedge)
          others.edges;
      ports =
          λ named. over_inside words.Input a start s below (is_expected a_port e) (same words.Input)
          (others.ports named);
    }
expects_inside a start s below x e (stuck_inner something) no_dot found halts further =
    let none : something ≡ e = cc in
    let same = λ (w : WordKind).
    subst (λ r. InnerAgrees r (inner_on s (word w))) found (inner_agrees s x w no_dot) in
    subst (Expects a (inner start s ∷ below) x) none (record {
      items = stuck_inside words.Always a start s below (same words.Always);
      statements = stuck_inside words.Begin a start s below (same words.Begin);
      edges = stuck_inside words.Posedge a start s below (same words.Posedge);
      ports = λ named. stuck_inside words.Input a start s below (same words.Input);
    })
expects_inside a start s below x e (stuck_inner f) no_dot found halts further =
    absurd (subst (λ r. InnerAgrees r (inner_on s (word words.Always))) found
    (inner_agrees s x words.Always no_dot))

or_parts : (x y : Bool) → IsTrue (not x || y) → IsTrue x → IsTrue y
or_parts true y all is = all
or_parts false y all is = absurd (false≢true is)

over_goes : (a : ℕ) (below : State) (skip : MachineStep) (b : Bool) (r : OuterReaction) →
    IsTrue (is_over r) → goes_on skip ≡ b → goes_on (after_outer no_limits a below skip r) ≡ b
over_goes a below skip b over kind further = further
over_goes a below skip b r kind further = absurd (false≢true kind)

as_goes : (a : ℕ) (below : State) (skip : MachineStep) (b : Bool) (r : OuterReaction) →
    IsTrue (is_as b r) → goes_on (after_outer no_limits a below skip r) ≡ b
as_goes a below skip true (takes level arm ys) is = refl
as_goes a below skip false (stuck e) is = refl
as_goes a below skip true r is = absurd (false≢true is)
as_goes a below skip false r is = absurd (false≢true is)

expects_outside : (a : ℕ) (y : Outer) (below : State) (x : Lexeme) (e : Expected)
    (r : OuterReaction)
    → IsTrue (agrees (is_named x) r (outer_on y (word words.Always)) (outer_on y (word words.Begin))
    (outer_on y (word words.Posedge)) (outer_on y (word words.Input)))
    → after_outer no_limits a below (step no_limits a below x) r ≡ fails_as (stuck_at e)
    → (step no_limits a below x ≡ fails_as (stuck_at e) → Expects a below x e)
    → Expects a (outer y ∷ below) x e
expects_outside a y below x e (takes level arm ys) agree halts further = absurd (cc)
expects_outside a y below x e (begins level arm xs ys) agree halts further = absurd (cc)
expects_outside a y below x e over agree halts further =
    let others = further halts in
    let first = and_parts (is_over (outer_on y (word words.Always)))
    (is_over (outer_on y (word words.Begin))
    && (is_over (outer_on y (word words.Posedge)) && is_over (outer_on y (word words.Input))))
    agree in
    let second = and_parts (is_over (outer_on y (word words.Begin)))
    (is_over (outer_on y (word words.Posedge)) && is_over (outer_on y (word words.Input)))
    first.1 in
    let third = and_parts (is_over (outer_on y (word words.Posedge)))
    (is_over (outer_on y (word words.Input))) second.1 in
    record {
      items =
          over_goes a below (step no_limits a below (word words.Always)) (is_expected an_item e)
          (outer_on y (word words.Always)) first.0 others.items;
      statements =
          over_goes a below (step no_limits a below (word words.Begin)) (is_expected a_statement e)
          (outer_on y (word words.Begin)) second.0 others.statements;
      edges =
          over_goes a below (step no_limits a below (word words.Posedge)) (is_expected an_edge e)
          (outer_on y (word words.Posedge)) third.0 others.edges;
      ports =
          λ named. over_goes a below (step no_limits a below (word words.Input))
          (is_expected a_port e) (outer_on y (word words.Input)) third.1 (others.ports named);
    }
expects_outside a y below x e (stuck f) agree halts further =
    let none : f ≡ e = cc in
    let first = and_parts (is_as (is_expected an_item f) (outer_on y (word words.Always)))
    (is_as (is_expected a_statement f) (outer_on y (word words.Begin))
    && (is_as (is_expected an_edge f) (outer_on y (word words.Posedge))
    && (not (is_named x) || is_as (is_expected a_port f) (outer_on y (word words.Input))))) agree in
    let second = and_parts (is_as (is_expected a_statement f) (outer_on y (word words.Begin)))
    (is_as (is_expected an_edge f) (outer_on y (word words.Posedge))
    && (not (is_named x) || is_as (is_expected a_port f) (outer_on y (word words.Input))))
    first.1 in
    let third = and_parts (is_as (is_expected an_edge f) (outer_on y (word words.Posedge)))
    (not (is_named x) || is_as (is_expected a_port f) (outer_on y (word words.Input))) second.1 in
    subst (Expects a (outer y ∷ below) x) none (record {
      items =
          as_goes a below (step no_limits a below (word words.Always)) (is_expected an_item f)
          (outer_on y (word words.Always)) first.0;
      statements =
          as_goes a below (step no_limits a below (word words.Begin)) (is_expected a_statement f)
          (outer_on y (word words.Begin)) second.0;
      edges =
          as_goes a below (step no_limits a below (word words.Posedge)) (is_expected an_edge f)
          (outer_on y (word words.Posedge)) third.0;
      ports =
          λ named. as_goes a below (step no_limits a below (word words.Input))
          (is_expected a_port f) (outer_on y (word words.Input))
          (or_parts (is_named x) (is_as (is_expected a_port f) (outer_on y (word words.Input)))
          third.1 named);
    })

pub expects : (a : ℕ) (s : State) (x : Lexeme) (e : Expected) → IsFree x → IsNoDot x →
    step no_limits a s x ≡ fails_as (stuck_at e) → Expects a s x e
expects a [] x e free no_dot halts =
    subst (Expects a [] x) (sym (no_module_expected a x e halts)) (record {
      items = refl;
      statements = refl;
      edges = refl;
      ports = λ named. refl;
    })
expects a (inner start s ∷ below) x e free no_dot halts =
    expects_inside a start s below x e (inner_on s x) no_dot refl halts (λ same.
    expects a below x e free no_dot same)
expects a (outer y ∷ below) x e free no_dot halts =
    expects_outside a y below x e (outer_on y x) (rows_agree y x free) halts (λ same.
    expects a below x e free no_dot same)
