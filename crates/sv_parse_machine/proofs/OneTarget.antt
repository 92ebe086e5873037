-- Targets and assignments determine their trees.
use Rattle.std.proofs.Common.{◌≡◌, ℕ, Bool, true, false, List, [], ◌∷◌, refl, sym, ap, subst, ◌∙◌}
use Rattle.std.proofs.lemmas.Bool.{false≢true}
use Rattle.sv_num.specs.declared.operators.BinOp.{BinOp}
use Rattle.sv_num.specs.declared.operators.BinOp.TheVariants.{Le}
use Rattle.sv_num.specs.declared.faults.Place.{Place}
use Rattle.sv_token.specs.declared.signs.SignKind.TheVariants as signs
use Rattle.sv_token.specs.declared.signs.Operator.{Operator}
use Rattle.sv_token.specs.Lexemes.{Lexeme, sign, Placed}
use Rattle.sv_ast.specs.Tree.{ExpressionTree, Selection, whole, bit_at, part_from, TargetTree}
use Rattle.sv_ast.specs.GrammarForms.{Form, ◌⨾◌, a_sign, somewhere, binary_at, in_brackets}
use Rattle.sv_ast.specs.GrammarForms.{in_braces}
use Rattle.sv_ast.specs.GrammarExpressions.{Limits, IsExpression}
use Rattle.sv_ast.specs.GrammarStatements.{IsSelection, IsTarget, only, AreTargets, BeginAt}
use Rattle.sv_ast.specs.GrammarStatements.{assigns}
use Rattle.sv_ast.proofs.GrammarOneToken.{one_binary, NextIs, is_no_bracket}
use Rattle.sv_parse_machine.proofs.OneForm.{Behind, Anything, AreOne, AreApart, Leads, At, one_as}
use Rattle.sv_parse_machine.proofs.OneForm.{one_apart, one_turned, apart_turned, one_nothing, one_then}
use Rattle.sv_parse_machine.proofs.OneForm.{apart_then, apart_before, apart_grouped, leads_first}
use Rattle.sv_parse_machine.proofs.OneForm.{one_mark, one_placed, sign_behind, leads_sign, before_sign}
use Rattle.sv_parse_machine.proofs.OneForm.{around_sign, FirstIs, begins_sign, words_apart, apart_from}
use Rattle.sv_parse_machine.proofs.OneForm.{one_or_none, one_never, leads_never, one_or}
use Rattle.sv_parse_machine.proofs.OneList.{ends_list, ListEnds, one_commas}
use Rattle.sv_parse_machine.proofs.OneType.{one_value, NameIs, leads_named}

abbrev pub NoBracket : Behind
NoBracket = NextIs is_no_bracket

-- ---- targets

bit_or_part : (l : Limits) (n : ℕ) (i high low : ExpressionTree)
    → AreApart (in_brackets (IsExpression l n i))
    (in_brackets (IsExpression l n high ⨾ a_sign signs.Colon ⨾ IsExpression l n low))
bit_or_part l n i high low =
    apart_then (one_mark signs.OpenBracket) (λ opened. apart_grouped
    (apart_before (one_value l n i high) (leads_sign signs.CloseBracket (λ p rest. refl))
    (leads_first (leads_first (leads_sign signs.Colon (λ p rest. refl))))
    (λ same. words_apart (sign signs.CloseBracket) (sign signs.Colon) (λ clash.
    cc) (begins_sign signs.CloseBracket)
    (leads_first (leads_first (begins_sign signs.Colon))))))

one_selection : (l : Limits) (n : ℕ) (a b : Selection) →
    AreOne NoBracket (a ≡ b) (IsSelection l n a) (IsSelection l n b)
one_selection l n whole whole = one_as (λ same. refl) one_nothing
one_selection l n whole (bit_at i) =
    one_or_none (leads_first (leads_sign signs.OpenBracket (λ p rest. false≢true)))
one_selection l n whole (part_from high low) =
    one_or_none (leads_first (leads_sign signs.OpenBracket (λ p rest. false≢true)))
one_selection l n (bit_at i) whole =
    one_turned (one_or_none (leads_first (leads_sign signs.OpenBracket (λ p rest. false≢true))))
one_selection l n (part_from high low) whole =
    one_turned (one_or_none (leads_first (leads_sign signs.OpenBracket (λ p rest. false≢true))))
one_selection l n (bit_at i) (bit_at j) =
    one_as (λ same. ap bit_at same)
    (sign_behind signs.OpenBracket
    (before_sign signs.CloseBracket (one_value l n i j) (λ p rest. refl)))
one_selection l n (bit_at i) (part_from high low) = one_apart (bit_or_part l n i high low)
one_selection l n (part_from high low) (bit_at i) =
    one_apart (apart_turned (bit_or_part l n i high low))
one_selection l n (part_from a b) (part_from c d) =
    one_as (λ both i. part_from (both.0 i) (both.1 i))
    (sign_behind signs.OpenBracket (before_sign signs.CloseBracket
    (around_sign signs.Colon (one_value l n a c) (λ p rest. refl) (one_value l n b d))
    (λ p rest. refl)))

pub one_target : (l : Limits) (n : ℕ) (t u : TargetTree) →
    AreOne NoBracket (t ≡ u) (IsTarget l n t) (IsTarget l n u)
one_target l n t u =
    one_as (λ both i. record { name = both.0.0 i; place = both.0.1 i; selection = both.1 i })
    (one_then (one_placed t.name u.name t.place u.place) (λ name.
    one_selection l n t.selection u.selection))

bracket_free : (x : Lexeme) → ends_list x ≡ true → is_no_bracket x ≡ true
bracket_free (sign signs.OpenBracket) ends = ends
bracket_free _ ends = refl

pub list_no_bracket : (ts : List Placed) → ListEnds ts → NoBracket ts
list_no_bracket [] ends = tt
list_no_bracket (t ∷ ts) ends = bracket_free t.lexeme ends

pub leads_target : {D : Behind} (l : Limits) (n : ℕ) (t : TargetTree) →
    Leads NameIs D (IsTarget l n t)
leads_target l n t = leads_first (leads_named t.name t.place)

pub one_only : {A : Type 0} {P : A → Form} {F : Behind}
    → ((a b : A) → AreOne F (a ≡ b) (P a) (P b)) → (xs ys : List A)
    → AreOne F (xs ≡ ys) (only P xs) (only P ys)
one_only member [] ys = one_never
one_only member (a ∷ c ∷ xs) ys = one_never
one_only member (a ∷ []) [] = one_turned one_never
one_only member (a ∷ []) (b ∷ d ∷ ys) = one_turned one_never
one_only member (a ∷ []) (b ∷ []) = one_as (λ same. ap (λ x. x ∷ []) same) (member a b)

pub leads_only : {A : Type 0} {P : A → Form} {F D : Behind} → ((a : A) → Leads F D (P a)) →
    (xs : List A) → Leads F D (only P xs)
leads_only member [] = leads_never
leads_only member (a ∷ []) = member a
leads_only member (a ∷ b ∷ xs) = leads_never

name_or_brace : {P : TargetTree → Form} {Q : Form}
    → ((t : TargetTree) → Leads NameIs Anything (P t)) → (ts : List TargetTree)
    → AreApart (in_braces Q) (only P ts)
name_or_brace name ts =
    apart_from {D = NameIs} (leads_first (leads_sign signs.OpenBrace (λ p rest. false≢true)))
    (leads_only name ts)

-- one target, or several in braces
pub one_targets : {P : TargetTree → Form} {F : Behind}
    → ((t u : TargetTree) → AreOne F (t ≡ u) (P t) (P u))
    → ((t : TargetTree) → Leads NameIs Anything (P t))
    → At F (sign signs.Comma) → ((ts : List Placed) → ListEnds ts → F ts)
    → (ts us : List TargetTree) → AreOne F (ts ≡ us) (AreTargets P ts) (AreTargets P us)
one_targets member name comma so ts us =
    one_or (one_only member ts us) (one_apart (apart_turned (name_or_brace name ts)))
    (one_apart (name_or_brace name us))
    (sign_behind signs.OpenBrace
    (before_sign signs.CloseBrace (one_commas member comma so ts us) (λ p rest. refl)))

pub begin_same : (p q : Place) (ts us : List TargetTree) → BeginAt p ts → BeginAt q us →
    ts ≡ us → p ≡ q
begin_same p q ts us at at_too same = begin_one p q us (subst (BeginAt p) same at) at_too
  where
    begin_one : (p q : Place) (us : List TargetTree) → BeginAt p us → BeginAt q us → p ≡ q
    begin_one p q [] at at_too = absurd at
    begin_one p q (u ∷ us) at at_too = at ∙ sym at_too

-- ---- operators

abbrev is_operator : Lexeme → Bool
is_operator (sign (signs.Operator o)) = true
is_operator x = false

abbrev pub OperatorIs : Behind
OperatorIs = FirstIs is_operator

pub one_operator : (op : BinOp) →
    AreOne Anything (Unit {0}) (somewhere (binary_at op)) (somewhere (binary_at op))
one_operator op =
    record {
      one = λ ts r s is is_too ends ends_too.
          (tt, (one_binary op op is.0 is_too.0 ts r s is.1 is_too.1).2);
    }

pub leads_operator : {F D : Behind} (op : BinOp) →
    ((o : Operator) → At F (sign (signs.Operator o))) → Leads F D (somewhere (binary_at op))
leads_operator {F = F} op begins =
    record { leads = λ ts r is ends. subst F (sym is.1.2) (begins is.1.0 is.0 r) }

equals_or_operator : AreApart (a_sign signs.Equals) (somewhere (binary_at Le))
equals_or_operator =
    apart_from {D = OperatorIs} (leads_sign signs.Equals (λ p rest. false≢true))
    (leads_operator Le (λ o p rest. refl))

pub one_assigns : (b c : Bool) → AreOne Anything (b ≡ c) (assigns b) (assigns c)
one_assigns true true = one_as (λ same. refl) (one_mark signs.Equals)
one_assigns false false = one_as (λ same. refl) (one_operator Le)
one_assigns true false = one_apart equals_or_operator
one_assigns false true = one_apart (apart_turned equals_or_operator)

pub leads_assigns : {F D : Behind} (b : Bool) → At F (sign signs.Equals) →
    ((o : Operator) → At F (sign (signs.Operator o))) → Leads F D (assigns b)
leads_assigns true equal operator = leads_sign signs.Equals equal
leads_assigns false equal operator = leads_operator Le operator
