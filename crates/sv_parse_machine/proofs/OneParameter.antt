-- Parameters determine their trees.
use Rattle.std.proofs.Common.{◌≡◌, Bool, true, false, List, Option, Some, None, refl, sym, ap, ◌∙◌}
use Rattle.std.proofs.lemmas.Bool.{false≢true}
use Rattle.sv_token.specs.declared.keywords.WordKind.TheVariants as words
use Rattle.sv_token.specs.declared.signs.SignKind.TheVariants as signs
use Rattle.sv_token.specs.Lexemes.{word}
use Rattle.sv_ast.specs.Tree.{ExpressionTree, SpanTree, ParameterTree}
use Rattle.sv_ast.specs.GrammarForms.{◌⨾◌, flag, a_word}
use Rattle.sv_ast.specs.GrammarExpressions.{Limits}
use Rattle.sv_ast.specs.GrammarDeclarations.{IsRange, equals, IsParameterType, IsNamedParameter}
use Rattle.sv_ast.specs.GrammarDeclarations.{parameter_word, IsParameter, IsLaterParameter}
use Rattle.sv_ast.specs.GrammarDeclarations.{AreParameters, IsHeaderParameter, AreHeaderParameters}
use Rattle.sv_ast.proofs.GrammarOneToken.{NextIs}
use Rattle.sv_parse_machine.proofs.TreeParts.{same_parameter}
use Rattle.sv_parse_machine.proofs.OneForm.{Behind, Anything, AreOne, AreApart, Leads, one_as}
use Rattle.sv_parse_machine.proofs.OneForm.{one_anywhere, one_apart, one_turned, apart_turned}
use Rattle.sv_parse_machine.proofs.OneForm.{one_nothing, one_then, one_before, leads_first, leads_through}
use Rattle.sv_parse_machine.proofs.OneForm.{one_word, one_placed, sign_behind, leads_sign, leads_word}
use Rattle.sv_parse_machine.proofs.OneForm.{begins_word, words_apart, Refuses, apart_from, one_or_none}
use Rattle.sv_parse_machine.proofs.OneForm.{one_never, leads_given, one_given, one_or}
use Rattle.sv_parse_machine.proofs.OneList.{one_flag, leads_flag, ListEnds, list_ends, one_listed}
use Rattle.sv_parse_machine.proofs.OneType.{ExpressionEnds, one_value, one_range, is_not_signed, NameIs}
use Rattle.sv_parse_machine.proofs.OneType.{leads_range, leads_named}

pub one_equals : (l : Limits) (e f : ExpressionTree) →
    AreOne ExpressionEnds (e ≡ f) (equals l e) (equals l f)
one_equals l e f = sign_behind signs.Equals (one_value l 0 e f)

-- a type with a range does not begin with a name
signed_range_is_no_name : (l : Limits) (b : Bool) (s : SpanTree) →
    Refuses NameIs (flag words.Signed b ⨾ IsRange l s)
signed_range_is_no_name l b s =
    leads_through (leads_flag {F = λ ts. NameIs ts → ⊥} {D = λ ts.
    NameIs ts → ⊥} words.Signed (λ p rest. false≢true) (λ ts known. known) b)
    (leads_first (leads_sign signs.OpenBracket (λ p rest. false≢true)))

one_parameter_type : (l : Limits) (b c : Bool) (s t : Option SpanTree)
    → AreOne NameIs ((b ≡ c) × (s ≡ t)) (IsParameterType l b s) (IsParameterType l c t)
one_parameter_type l b c (Some s) (Some t) =
    one_as (λ both. (both.0, ap Some both.1))
    (one_before {F = NextIs is_not_signed} (one_flag words.Signed (λ p rest. false≢true) b c)
    (leads_range l s (λ p rest. refl))
    (leads_range l t (λ p rest. refl))
    (λ signed. one_anywhere (one_range l s t)))
one_parameter_type l b false (Some s) None =
    one_turned (one_or_none (signed_range_is_no_name l b s))
one_parameter_type l b true (Some s) None = one_turned one_never
one_parameter_type l false c None (Some t) = one_or_none (signed_range_is_no_name l c t)
one_parameter_type l true c None (Some t) = one_never
one_parameter_type l true c None None = one_never
one_parameter_type l false true None None = one_turned one_never
one_parameter_type l false false None None = one_as (λ same. (refl, refl)) one_nothing

leads_parameter_name : {D : Behind} (l : Limits) (q : ParameterTree) →
    Leads NameIs D (IsNamedParameter l q)
leads_parameter_name l q = leads_first (leads_named q.name q.place)

one_named_parameter : (l : Limits) (q r : ParameterTree)
    → AreOne ExpressionEnds (((q.name ≡ r.name) × (q.place ≡ r.place))
    × (q.value ≡ r.value)) (IsNamedParameter l q) (IsNamedParameter l r)
one_named_parameter l q r =
    one_then (one_placed q.name r.name q.place r.place) (λ name. one_equals l q.value r.value)

one_parameter_word : (b c : Bool) →
    AreOne Anything (b ≡ c) (a_word (parameter_word b)) (a_word (parameter_word c))
one_parameter_word true true = one_as (λ same. refl) (one_word words.Localparam)
one_parameter_word false false = one_as (λ same. refl) (one_word words.Parameter)
one_parameter_word true false =
    one_apart (words_apart (word words.Localparam) (word words.Parameter) (λ same.
    cc) (begins_word words.Localparam) (begins_word words.Parameter))
one_parameter_word false true =
    one_apart (words_apart (word words.Parameter) (word words.Localparam) (λ same.
    cc) (begins_word words.Parameter) (begins_word words.Localparam))

one_parameter : (l : Limits) (q r : ParameterTree) →
    AreOne ExpressionEnds (q ≡ r) (IsParameter l q) (IsParameter l r)
one_parameter l q r =
    one_as (λ both. same_parameter q r both.0 both.1.0.0 both.1.0.1 both.1.1.0.0 both.1.1.0.1
    both.1.1.1)
    (one_then (one_parameter_word q.local r.local)
    (λ first. one_before (one_parameter_type l q.signed r.signed q.span r.span)
    (leads_parameter_name l q) (leads_parameter_name l r)
    (λ kind. one_named_parameter l q r)))

one_later_parameter : (l : Limits) (before q r : ParameterTree)
    → AreOne ExpressionEnds (q ≡ r) (IsLaterParameter l before q) (IsLaterParameter l before r)
one_later_parameter l before q r = one_given (λ known known_too.
    one_as (λ both. same_parameter q r (known.0 ∙ sym known_too.0) (known.1 ∙ sym known_too.1)
    (known.2 ∙ sym known_too.2) both.0.0 both.0.1 both.1)
    (one_named_parameter l q r))

pub one_parameters : (l : Limits) (qs rs : List ParameterTree) →
    AreOne ListEnds (qs ≡ rs) (AreParameters l qs) (AreParameters l rs)
one_parameters l qs rs =
    one_listed (one_parameter l) (one_later_parameter l) (λ p rest. refl) list_ends qs rs

one_header_parameter : (l : Limits) (q r : ParameterTree) →
    AreOne ExpressionEnds (q ≡ r) (IsHeaderParameter l q) (IsHeaderParameter l r)
one_header_parameter l q r = one_given (λ known known_too. one_parameter l q r)

parameter_is_no_name : (l : Limits) (q : ParameterTree) → Refuses NameIs (IsParameter l q)
parameter_is_no_name l q = leads_first (leads_word (parameter_word q.local) (λ p rest. false≢true))

word_or_name : (l : Limits) (before q r : ParameterTree) →
    AreApart (IsHeaderParameter l q) (IsLaterParameter l before r)
word_or_name l before q r =
    apart_from (leads_given (parameter_is_no_name l q)) (leads_given (leads_parameter_name l r))

pub one_header_parameters : (l : Limits) (qs rs : List ParameterTree)
    → AreOne ListEnds (qs ≡ rs) (AreHeaderParameters l qs) (AreHeaderParameters l rs)
one_header_parameters l qs rs = one_listed (one_header_parameter l)
    (λ before q r. one_or (one_header_parameter l q r) (one_apart (word_or_name l before q r))
    (one_apart (apart_turned (word_or_name l before r q))) (one_later_parameter l before q r))
    (λ p rest. refl) list_ends qs rs
