-- Single steps outside expressions: names, operators, and the first token of an expression.
use Rattle.std.proofs.Common.{◌≡◌, ℕ, zero, suc, Bool, true, false, not, List, [], ◌∷◌}
use Rattle.std.proofs.Common.{Option, Some, inl, inr, refl, sym, subst, ◌∙◌}
use Rattle.std.specs.Prelude.{IsTrue}
use Rattle.sv_num.specs.declared.operators.BinOp.{BinOp}
use Rattle.sv_num.specs.declared.operators.BinOp.TheVariants.{Mul, Le}
use Rattle.sv_num.specs.declared.faults.Place.{Place}
use Rattle.sv_token.specs.declared.signs.SignKind.{SignKind}
use Rattle.sv_token.specs.declared.signs.SignKind.TheVariants as signs
use Rattle.sv_token.specs.Lexemes.{Lexeme, identifier, sign, Placed}
use Rattle.sv_token.specs.Words.{is_refused_word}
use Rattle.sv_ast.specs.GrammarForms.{Form, ◌⨾◌, ◌or◌, nothing, lexeme_at, somewhere, a_sign}
use Rattle.sv_ast.specs.GrammarExpressions.{Limits, is_within, read_tokens}
use Rattle.sv_parse_machine.specs.Symbols.{operand, tail, Outer, punctuation, InnerReaction}
use Rattle.sv_parse_machine.specs.Symbols.{takes_inner, over_inner, stuck_inner, OuterReaction, over}
use Rattle.sv_parse_machine.specs.Symbols.{takes_all, unless_refused}
use Rattle.sv_parse_machine.specs.ExpressionTable.{operand_on, as_expression, expression_on}
use Rattle.sv_parse_machine.specs.StatementTable.{is_star, is_less_equal, taken_if}
use Rattle.sv_parse_machine.specs.ModuleTable.{star_in_event}
use Rattle.sv_parse_machine.proofs.ExpressionForms.{tail_form, inner_form, AcceptsInner, expression_form}
use Rattle.sv_parse_machine.proofs.ExpressionParts.{to_parts, from_parts}
use Rattle.sv_parse_machine.proofs.ReadSteps.{NotOver, operand_not_over}
use Rattle.sv_parse_machine.proofs.InnerSteps.{placed, by_token, none_opens, no_arm, free_name, alone}
use Rattle.sv_parse_machine.proofs.InnerSteps.{append_forms, split_forms, f_inner}
use Rattle.sv_parse_machine.proofs.InnerForms.{last_token, b_inner, no_operand}
use Rattle.sv_parse_machine.proofs.OuterForms.{IsOver, skip_form, loop_form, some_name, outer_form}
use Rattle.sv_parse_machine.proofs.OuterForms.{outer_forms, Accepts}

-- ---- what is shown of a symbol by its row of the table and its form

-- where the form stands, its first token is taken as the row says
abbrev pub StepsBy : (Lexeme → OuterReaction) → (Limits → Form) → Type 0
StepsBy on form =
    (l : Limits) (t : Placed) (ts rest : List Placed) → form l (t ∷ ts) rest
    → Accepts l t ts rest (on t.lexeme)

-- and back
abbrev pub FormsBy : (Lexeme → OuterReaction) → (Limits → Form) → Type 0
FormsBy on form =
    (l : Limits) (x : Lexeme) (p : Place) (ts rest : List Placed)
    → Accepts l (placed x p) ts rest (on x) → form l (placed x p ∷ ts) rest

-- it does not stand where no token is left
abbrev pub NeedsToken : (Limits → Form) → Type 0
NeedsToken form = (l : Limits) (rest : List Placed) → form l [] rest → ⊥

-- a row read at the token that stands there
pub by_row : {x : Lexeme} {p : Place} {ts mid : List Placed} (l : Limits) (t : Placed)
    (rest : List Placed) (on : Lexeme → OuterReaction)
    → lexeme_at x p (t ∷ ts) mid → Accepts l t mid rest (on x) → Accepts l t ts rest (on t.lexeme)
by_row l t rest on at is = by_token (λ x us. Accepts l t us rest (on x)) at is

-- either of two tokens
pub f_either : (on : Lexeme → OuterReaction) (x : Lexeme) (ys : List Outer) (y : Lexeme)
    (zs : List Outer) → on x ≡ takes_all ys → on y ≡ takes_all zs
    → StepsBy on (λ l. (somewhere (lexeme_at x) ⨾ outer_forms l ys)
    or (somewhere (lexeme_at y) ⨾ outer_forms l zs))
f_either on x ys y zs first second l t ts rest (inl (m, (p, e), behind)) =
    by_row l t rest on e (subst (Accepts l t m rest) (sym first) (none_opens l, no_arm l, behind))
f_either on x ys y zs first second l t ts rest (inr (m, (p, e), behind)) =
    by_row l t rest on e (subst (Accepts l t m rest) (sym second) (none_opens l, no_arm l, behind))

-- ---- any number of the one, and then the other

-- where the other is one token
pub loop_closes : (row : Form) (x : Lexeme) (p : Place) (ts rest : List Placed) → ts ≡ rest →
    loop_form row (somewhere (lexeme_at x)) (placed x p ∷ ts) rest
loop_closes row x p ts rest same =
    (zero, (placed x p ∷ ts, refl, (p, last_token x p ts rest same)))

pub loop_goes_on : (row last : Form) (ts mid rest : List Placed) → row ts mid →
    (loop_form row last ⨾ nothing) mid rest → loop_form row last ts rest
loop_goes_on row last ts mid rest first (ends, (k, (behind, others, final)), same) =
    subst (loop_form row last ts) same (suc k, (behind, (mid, first, others), final))

-- further members of a list, each behind a comma
pub f_commas : (on : Lexeme → OuterReaction) (z y : Outer) (s : SignKind) (l : Limits) (t : Placed)
    (ts rest : List Placed)
    → on (sign s) ≡ takes_all [] → on (sign signs.Comma) ≡ takes_all (z ∷ y ∷ [])
    → ((us : List Placed) → loop_form (a_sign signs.Comma ⨾ outer_form l z) (a_sign s) us rest
    → outer_form l y us rest)
    → loop_form (a_sign signs.Comma ⨾ outer_form l z) (a_sign s) (t ∷ ts) rest
    → Accepts l t ts rest (on t.lexeme)
f_commas on z y s l t ts rest ends goes_on as_y (zero, (m, none, (p, e))) =
    by_row l t rest on (none ∙ e)
    (subst (Accepts l t rest rest) (sym ends) (none_opens l, no_arm l, refl))
f_commas on z y s l t ts rest ends goes_on as_y
    (suc k, (m, (m1, (m0, (p, e), first), others), final)) =
    by_row l t rest on e (subst (Accepts l t m0 rest) (sym goes_on)
    (none_opens l, no_arm l, (m1, first, (rest, as_y m1 (k, (m, others, final)), refl))))

-- ---- names and operators

pub unrefused : (l : Limits) (ys : List Outer) (t : Placed) (ts rest : List Placed) (x : List ℕ)
    → IsTrue (not (is_refused_word x)) → outer_forms l ys ts rest
    → Accepts l t ts rest (unless_refused (is_refused_word x) (takes_all ys))
unrefused l ys t ts rest x free is =
    free_name (is_refused_word x) free (λ b. Accepts l t ts rest (unless_refused b (takes_all ys)))
    (none_opens l, no_arm l, is)

-- a name, and the others behind it
pub f_named : (on : Lexeme → OuterReaction) (ys : List Outer)
    → ((x : List ℕ) → on (identifier x) ≡ unless_refused (is_refused_word x) (takes_all ys))
    → StepsBy on (λ l. some_name ⨾ outer_forms l ys)
f_named on ys row l t ts rest (m, (x, (p, (free, e))), behind) =
    by_row l t rest on e
    (subst (Accepts l t m rest) (sym (row x)) (unrefused l ys t m rest x free behind))

pub taken_as_name : (l : Limits) (ys : List Outer) (t : Placed) (ts rest : List Placed) (b : Bool)
    → Accepts l t ts rest (unless_refused b (takes_all ys))
    → IsTrue (not b) × outer_forms l ys ts rest
taken_as_name l ys t ts rest true is = absurd is
taken_as_name l ys t ts rest false is = (refl, is.2)

pub skipped : (l : Limits) (t : Placed) (ts rest : List Placed) (r : OuterReaction) → IsOver r →
    t ∷ ts ≡ rest → Accepts l t ts rest r
skipped l t ts rest over kind same = same
skipped l t ts rest r kind same = absurd kind

-- none of the symbol, or either of two tokens
pub f_perhaps_either : (on : Lexeme → OuterReaction) (x : Lexeme) (ys : List Outer) (y : Lexeme)
    (zs : List Outer) → on x ≡ takes_all ys → on y ≡ takes_all zs
    → StepsBy on (λ l. skip_form on or (somewhere (lexeme_at x) ⨾ outer_forms l ys)
    or (somewhere (lexeme_at y) ⨾ outer_forms l zs))
f_perhaps_either on x ys y zs first second l t ts rest (inl (ends, same)) =
    skipped l t ts rest (on t.lexeme) ends same
f_perhaps_either on x ys y zs first second l t ts rest (inr is) =
    f_either on x ys y zs first second l t ts rest is

pub taken_star : (l : Limits) (t : Placed) (ts rest : List Placed) (b : Option BinOp) →
    Accepts l t ts rest (taken_if (is_star b)) → (b ≡ Some Mul) × (ts ≡ rest)
taken_star l t ts rest (Some Mul) is = (refl, is.2)
taken_star l t ts rest b is = absurd is

pub taken_less_equal : (l : Limits) (t : Placed) (ts rest : List Placed) (b : Option BinOp)
    → Accepts l t ts rest (taken_if (is_less_equal b))
    → (b ≡ Some Le) × (ts ≡ rest)
taken_less_equal l t ts rest (Some Le) is = (refl, is.2)
taken_less_equal l t ts rest b is = absurd is

pub taken_star_inside : (l : Limits) (t : Placed) (ts rest : List Placed) (b : Option BinOp)
    → Accepts l t ts rest (star_in_event (is_star b))
    → (b ≡ Some Mul) × outer_forms l (punctuation signs.CloseParenthesis ∷ []) ts rest
taken_star_inside l t ts rest (Some Mul) is = (refl, is.2)
taken_star_inside l t ts rest b is = absurd is

-- ---- expressions

begun : (l : Limits) (n arm : ℕ) (ys : List Outer) (t : Placed) (ts m mid rest : List Placed)
    (r : InnerReaction) → NotOver r
    → AcceptsInner l t ts m r → tail_form l n m mid
    → IsTrue (is_within l.tokens (read_tokens l (t ∷ ts) mid)) → IsTrue (is_within l.arms arm)
    → outer_forms l ys mid rest → Accepts l t ts rest (as_expression n arm ys r)
begun l n arm ys t ts m mid rest (takes_inner level xs) kind first behind count few others = (
  first.0,
  few,
  mid,
  append_forms (inner_form l) xs (tail n ∷ []) ts m mid first.1
      (mid, behind, refl),
  count,
  others,
)
begun l n arm ys t ts m mid rest over_inner kind first behind count few others = absurd kind
begun l n arm ys t ts m mid rest (stuck_inner e) kind first behind count few others = absurd first

-- an expression begins with its token
pub f_begins : (l : Limits) (n arm : ℕ) (ys : List Outer) (t : Placed) (ts mid rest : List Placed)
    → expression_form l n (t ∷ ts) mid
    → IsTrue (is_within l.arms arm) → outer_forms l ys mid rest
    → Accepts l t ts rest (expression_on n arm ys t.lexeme)
f_begins l n arm ys t ts mid rest (w, is, ends, next, count) few others =
    let parts = to_parts l n w (t ∷ ts) mid is ends next in
    begun l n arm ys t ts parts.0 mid rest (operand_on n t.lexeme) (operand_not_over n t.lexeme)
    (f_inner l (operand n) t ts parts.0 parts.1) parts.2 count few others

-- the arm may begin, and an expression stands there with the others behind it
abbrev Begun : Limits → (n arm : ℕ) → List Outer → Placed → List Placed → List Placed → Type 0
Begun l n arm ys t ts rest =
    IsTrue (is_within l.arms arm) × (mid : List Placed) × expression_form l n (t ∷ ts) mid
    × outer_forms l ys mid rest

begun_back : (l : Limits) (n arm : ℕ) (ys : List Outer) (x : Lexeme) (p : Place)
    (ts rest : List Placed) (r : InnerReaction) → operand_on n x ≡ r → NotOver r
    → Accepts l (placed x p) ts rest (as_expression n arm ys r)
    → Begun l n arm ys (placed x p) ts rest
begun_back l n arm ys x p ts rest (takes_inner level xs) found kind
    (opens, few, mid, inners, count, others) =
    let (m, first, behind) = split_forms (inner_form l) xs (tail n ∷ []) ts mid inners in
    let operand = b_inner l (operand n) x p ts m
    (subst (AcceptsInner l (placed x p) ts m) (sym found) (opens, first)) in
    let whole = from_parts l n (placed x p ∷ ts) mid
    (m, operand, alone (tail_form l n) m mid behind) in
    (few, mid, (whole.0, whole.1, whole.2, whole.3, count), others)
begun_back l n arm ys x p ts rest over_inner found kind is = absurd kind
begun_back l n arm ys x p ts rest (stuck_inner e) found kind is = absurd is

pub b_begins : (l : Limits) (n arm : ℕ) (ys : List Outer) (x : Lexeme) (p : Place)
    (ts rest : List Placed) → Accepts l (placed x p) ts rest (expression_on n arm ys x)
    → Begun l n arm ys (placed x p) ts rest
b_begins l n arm ys x p ts rest is =
    begun_back l n arm ys x p ts rest (operand_on n x) refl (operand_not_over n x) is

pub no_expression : (l : Limits) (n : ℕ) (mid : List Placed) → expression_form l n [] mid → ⊥
no_expression l n mid (w, is, ends, next, count) =
    no_operand l n (to_parts l n w [] mid is ends next).0 (to_parts l n w [] mid is ends next).1
