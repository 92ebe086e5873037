-- Instances determine their trees.
use Rattle.std.proofs.Common.{◌≡◌, ℕ, Bool, true, false, List, [], ◌∷◌, refl, sym, ap, ◌∙◌}
use Rattle.std.proofs.lemmas.Bool.{false≢true}
use Rattle.sv_num.specs.declared.faults.Place.{Place}
use Rattle.sv_token.specs.declared.signs.SignKind.TheVariants as signs
use Rattle.sv_token.specs.Lexemes.{Lexeme, identifier, sign, Placed}
use Rattle.sv_ast.specs.Tree.{ExpressionTree, NamedOverride, OverrideTrees, named_overrides}
use Rattle.sv_ast.specs.Tree.{ordered_overrides, NamedLink, LinkTrees, named_links, ordered_links}
use Rattle.sv_ast.specs.Tree.{InstanceTree}
use Rattle.sv_ast.specs.GrammarForms.{Form, given, perhaps, commas}
use Rattle.sv_ast.specs.GrammarExpressions.{Limits}
use Rattle.sv_ast.specs.GrammarDeclarations.{IsValue}
use Rattle.sv_ast.specs.GrammarModules.{by_name, IsNamedOverride, hash_parentheses, AreOverrides}
use Rattle.sv_ast.specs.GrammarModules.{IsNamedLink, AreLinks, IsNamedInstance, IsInstance}
use Rattle.sv_ast.specs.GrammarModules.{AreOfOneModule, AreInstances}
use Rattle.sv_parse_machine.proofs.TreeParts.{same_instance}
use Rattle.sv_parse_machine.proofs.OneForm.{Behind, Anything, AreOne, AreApart, Leads, At, one_as}
use Rattle.sv_parse_machine.proofs.OneForm.{one_where, one_apart, one_turned, apart_turned, one_nothing}
use Rattle.sv_parse_machine.proofs.OneForm.{one_then, one_before, apart_then, apart_first, leads_first}
use Rattle.sv_parse_machine.proofs.OneForm.{one_mark, one_placed, sign_behind, leads_sign, leads_name}
use Rattle.sv_parse_machine.proofs.OneForm.{before_sign, FirstIs, Refuses, apart_from, one_or_none}
use Rattle.sv_parse_machine.proofs.OneForm.{one_given}
use Rattle.sv_parse_machine.proofs.OneList.{one_perhaps, ends_list, ListEnds, list_ends, one_listed}
use Rattle.sv_parse_machine.proofs.OneList.{one_commas, leads_listed}
use Rattle.sv_parse_machine.proofs.OneType.{one_value, begins_expression, value_refused, NameIs}

-- ---- what may come behind a link is a `)`

abbrev is_close : Lexeme → Bool
is_close (sign signs.CloseParenthesis) = true
is_close x = false

abbrev CloseIs : Behind
CloseIs = FirstIs is_close

close_ends_list : (x : Lexeme) → is_close x ≡ true → ends_list x ≡ true
close_ends_list (sign signs.CloseParenthesis) close = refl
close_ends_list x close = absurd (false≢true close)

close_is_no_value : (x : Lexeme) → begins_expression x ≡ true → is_close x ≡ true → ⊥
close_is_no_value (sign signs.CloseParenthesis) begins close = false≢true begins
close_is_no_value x begins close = false≢true close

close_list : (ts : List Placed) → CloseIs ts → ListEnds ts
close_list [] close = absurd close
close_list (t ∷ ts) close = close_ends_list t.lexeme close

value_is_no_close : (l : Limits) (e : ExpressionTree) → Refuses CloseIs (IsValue l e)
value_is_no_close l e = value_refused close_is_no_value l 0 e

-- ---- by name and in order

abbrev is_dot : Lexeme → Bool
is_dot (sign signs.Dot) = true
is_dot x = false

abbrev DotIs : Behind
DotIs = FirstIs is_dot

dot_is_no_value : (x : Lexeme) → begins_expression x ≡ true → is_dot x ≡ true → ⊥
dot_is_no_value (sign signs.Dot) begins dot = false≢true begins
dot_is_no_value x begins dot = false≢true dot

value_is_no_dot : (l : Limits) (e : ExpressionTree) → Refuses DotIs (IsValue l e)
value_is_no_dot l e = value_refused dot_is_no_value l 0 e

leads_by_name : {F D : Behind} (x : List ℕ) (p : Place) (P : Form) → At F (sign signs.Dot) →
    Leads F D (by_name x p P)
leads_by_name x p P begins = leads_first (leads_sign signs.Dot begins)

one_by_name : {E : Type 0} {P Q : Form} (x y : List ℕ) (p q : Place) → AreOne CloseIs E P Q
    → AreOne Anything (((x ≡ y) × (p ≡ q)) × E) (by_name x p P) (by_name y q Q)
one_by_name x y p q same = sign_behind signs.Dot (one_then (one_placed x y p q)
    (λ name. sign_behind signs.OpenParenthesis (before_sign signs.CloseParenthesis same (λ p rest.
    refl))))

named_or_ordered : {A : Type 0} {P : A → Form} (l : Limits) → ((a : A) → Leads DotIs Anything (P a))
    → (xs : List A) (es : List ExpressionTree)
    → AreApart (commas (IsValue l) es) (commas P xs)
named_or_ordered l leads xs es =
    apart_from {D = DotIs} (leads_listed _ (value_is_no_dot l) es) (leads_listed _ leads xs)

close_value : (l : Limits) (e f : ExpressionTree) →
    AreOne CloseIs (e ≡ f) (IsValue l e) (IsValue l f)
close_value l e f = one_where (λ ts close. list_ends ts (close_list ts close)) (one_value l 0 e f)

one_values : (l : Limits) (es fs : List ExpressionTree) →
    AreOne ListEnds (es ≡ fs) (commas (IsValue l) es) (commas (IsValue l) fs)
one_values l es fs = one_commas (one_value l 0) (λ p rest. refl) list_ends es fs

-- ---- overrides

leads_override : (l : Limits) (o : NamedOverride) → Leads DotIs Anything (IsNamedOverride l o)
leads_override l o = leads_by_name o.name o.place (IsValue l o.value) (λ p rest. refl)

one_override : (l : Limits) (o u : NamedOverride) →
    AreOne Anything (o ≡ u) (IsNamedOverride l o) (IsNamedOverride l u)
one_override l o u =
    one_as (λ both i. record { name = both.0.0 i; place = both.0.1 i; value = both.1 i })
    (one_by_name o.name u.name o.place u.place (close_value l o.value u.value))

pub one_hash : {E : Type 0} {F : Behind} {P Q : Form} → AreOne ListEnds E P Q →
    AreOne F E (hash_parentheses P) (hash_parentheses Q)
one_hash same =
    sign_behind signs.Hash
    (sign_behind signs.OpenParenthesis (before_sign signs.CloseParenthesis same (λ p rest. refl)))

apart_hash : {P Q : Form} → AreApart P Q → AreApart (hash_parentheses P) (hash_parentheses Q)
apart_hash apart =
    apart_then (one_mark signs.Hash) (λ hash.
    apart_then (one_mark signs.OpenParenthesis) (λ opened. apart_first apart))

hash_is_no_name : (P : Form) → Refuses NameIs (hash_parentheses P)
hash_is_no_name P = leads_first (leads_sign signs.Hash (λ p rest. false≢true))

one_overrides : (l : Limits) (a b : OverrideTrees) →
    AreOne NameIs (a ≡ b) (AreOverrides l a) (AreOverrides l b)
one_overrides l (named_overrides os) (named_overrides us) =
    one_as (λ same. ap named_overrides same)
    (one_hash (one_commas (one_override l) (λ p rest. tt) (λ ts ends. tt) os us))
one_overrides l (named_overrides os) (ordered_overrides []) =
    one_turned (one_or_none (hash_is_no_name _))
one_overrides l (named_overrides os) (ordered_overrides (f ∷ fs)) =
    one_apart (apart_turned (apart_hash (named_or_ordered l (leads_override l) os (f ∷ fs))))
one_overrides l (ordered_overrides []) (named_overrides us) = one_or_none (hash_is_no_name _)
one_overrides l (ordered_overrides []) (ordered_overrides []) = one_as (λ same. refl) one_nothing
one_overrides l (ordered_overrides []) (ordered_overrides (f ∷ fs)) =
    one_or_none (hash_is_no_name _)
one_overrides l (ordered_overrides (e ∷ es)) (named_overrides us) =
    one_apart (apart_hash (named_or_ordered l (leads_override l) us (e ∷ es)))
one_overrides l (ordered_overrides (e ∷ es)) (ordered_overrides []) =
    one_turned (one_or_none (hash_is_no_name _))
one_overrides l (ordered_overrides (e ∷ es)) (ordered_overrides (f ∷ fs)) =
    one_as (λ same. ap ordered_overrides same) (one_hash (one_values l (e ∷ es) (f ∷ fs)))

-- ---- links

leads_link : {F D : Behind} (l : Limits) (k : NamedLink) → At F (sign signs.Dot) →
    Leads F D (IsNamedLink l k)
leads_link l k begins = leads_by_name k.name k.place (perhaps (IsValue l) k.value) begins

one_link : (l : Limits) (k j : NamedLink) →
    AreOne Anything (k ≡ j) (IsNamedLink l k) (IsNamedLink l j)
one_link l k j =
    one_as (λ both i. record { name = both.0.0 i; place = both.0.1 i; value = both.1 i })
    (one_by_name k.name j.name k.place j.place
    (one_perhaps (close_value l) (value_is_no_close l) k.value j.value))

links_are_no_close : (l : Limits) (ks : List NamedLink) →
    Refuses CloseIs (commas (IsNamedLink l) ks)
links_are_no_close l ks = leads_listed _ (λ k. leads_link l k (λ p rest. false≢true)) ks

values_are_no_close : (l : Limits) (es : List ExpressionTree) →
    Refuses CloseIs (commas (IsValue l) es)
values_are_no_close l es = leads_listed _ (value_is_no_close l) es

one_links : (l : Limits) (a b : LinkTrees) → AreOne CloseIs (a ≡ b) (AreLinks l a) (AreLinks l b)
one_links l (named_links ks) (named_links js) =
    one_as (λ same. ap named_links same)
    (one_where close_list (one_commas (one_link l) (λ p rest. tt) (λ ts ends. tt) ks js))
one_links l (named_links ks) (ordered_links []) = one_turned (one_or_none (links_are_no_close l ks))
one_links l (named_links ks) (ordered_links (f ∷ fs)) =
    one_apart (apart_turned (named_or_ordered l (λ k. leads_link l k (λ p rest. refl)) ks (f ∷ fs)))
one_links l (ordered_links []) (named_links js) = one_or_none (links_are_no_close l js)
one_links l (ordered_links []) (ordered_links []) = one_as (λ same. refl) one_nothing
one_links l (ordered_links []) (ordered_links (f ∷ fs)) =
    one_or_none (values_are_no_close l (f ∷ fs))
one_links l (ordered_links (e ∷ es)) (named_links js) =
    one_apart (named_or_ordered l (λ k. leads_link l k (λ p rest. refl)) js (e ∷ es))
one_links l (ordered_links (e ∷ es)) (ordered_links []) =
    one_turned (one_or_none (values_are_no_close l (e ∷ es)))
one_links l (ordered_links (e ∷ es)) (ordered_links (f ∷ fs)) =
    one_as (λ same. ap ordered_links same) (one_where close_list (one_values l (e ∷ es) (f ∷ fs)))

-- ---- instances

one_named_instance : (l : Limits) (a b : InstanceTree)
    → AreOne Anything (((a.name ≡ b.name) × (a.name_place ≡ b.name_place))
    × (a.links ≡ b.links)) (IsNamedInstance l a) (IsNamedInstance l b)
one_named_instance l a b = one_then (one_placed a.name b.name a.name_place b.name_place)
    (λ name. sign_behind signs.OpenParenthesis
    (before_sign signs.CloseParenthesis (one_links l a.links b.links) (λ p rest. refl)))

leads_named_instance : {D : Behind} (l : Limits) (a : InstanceTree) →
    Leads NameIs D (IsNamedInstance l a)
leads_named_instance l a = leads_first (leads_name a.name a.name_place (λ p rest. refl))

one_instance : (l : Limits) (a b : InstanceTree) →
    AreOne Anything (a ≡ b) (IsInstance l a) (IsInstance l b)
one_instance l a b =
    one_as (λ both. same_instance a b both.0.0 both.0.1 both.1.0 both.1.1.0.0 both.1.1.0.1
    both.1.1.1)
    (one_then (one_placed a.master b.master a.place b.place)
    (λ master. one_before (one_overrides l a.overrides b.overrides) (leads_named_instance l a)
    (leads_named_instance l b)
    (λ same. one_named_instance l a b)))

one_later_instance : (l : Limits) (before a b : InstanceTree)
    → AreOne Anything (a ≡ b) (given (AreOfOneModule before a) (IsNamedInstance l a))
    (given (AreOfOneModule before b) (IsNamedInstance l b))
one_later_instance l before a b = one_given (λ known known_too.
    one_as (λ both. same_instance a b (known.0 ∙ sym known_too.0) (known.1 ∙ sym known_too.1)
    (known.2 ∙ sym known_too.2) both.0.0 both.0.1 both.1)
    (one_named_instance l a b))

pub one_instances : (l : Limits) (xs ys : List InstanceTree) →
    AreOne ListEnds (xs ≡ ys) (AreInstances l xs) (AreInstances l ys)
one_instances l xs ys =
    one_listed (one_instance l) (one_later_instance l) (λ p rest. tt) (λ ts ends. tt) xs ys

pub leads_instances : {F D : Behind} (l : Limits) (xs : List InstanceTree) →
    ((x : List ℕ) → At F (identifier x)) → Leads F D (AreInstances l xs)
leads_instances l xs begins =
    leads_listed _ (λ a. leads_first (leads_name a.master a.place (begins a.master))) xs
