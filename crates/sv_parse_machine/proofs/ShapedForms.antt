-- What forms of expressions, types and declarations are forms of is shaped as the grammar gives it.
use Rattle.std.proofs.Common.{◌≡◌, ℕ, ◌+◌, Bool, true, false, not, ◌&&◌, ◌||◌, List, [], ◌∷◌}
use Rattle.std.proofs.Common.{Option, Some, None, is_none, inl, inr, refl, sym, ap, subst, ◌∙◌}
use Rattle.std.specs.Prelude.{IsTrue}
use Rattle.std.specs.List.{list_all}
use Rattle.std.specs.Option.{option_map_or}
use Rattle.std.proofs.lemmas.Bool.{and_from, and_parts}
use Rattle.sv_token.specs.Lexemes.{Placed}
use Rattle.sv_ast.specs.declared.declarations.DeclKind.{DeclKind}
use Rattle.sv_ast.specs.declared.declarations.DeclKind.TheVariants as kinds
use Rattle.sv_ast.specs.Tree.{ExpressionTree, SpanTree, DeclarationTree, ParameterTree}
use Rattle.sv_ast.specs.GrammarForms.{Form, ◌or◌, given, perhaps, each, later, listed}
use Rattle.sv_ast.specs.GrammarGroups.{Written, literal, named, bit_of, part_of, group, unary}
use Rattle.sv_ast.specs.GrammarGroups.{binary, choice, join, replication, WrittenList, no_more}
use Rattle.sv_ast.specs.GrammarGroups.{more, without_groups, all_without_groups}
use Rattle.sv_ast.specs.GrammarExpressions.{Limits, IsWritten, AreWritten, AreMore, IsExpression}
use Rattle.sv_ast.specs.GrammarDeclarations.{IsRange, IsTyped, equals, IsParameterType, IsParameter}
use Rattle.sv_ast.specs.GrammarDeclarations.{IsLaterParameter, AreParameters, IsHeaderParameter}
use Rattle.sv_ast.specs.GrammarDeclarations.{AreHeaderParameters, AreAlike, IsPortKind, IsNamedPort}
use Rattle.sv_ast.specs.GrammarDeclarations.{IsPort, ArePorts, IsSignalKind, IsSignalValue}
use Rattle.sv_ast.specs.GrammarDeclarations.{IsNamedSignal, AreSignals, IsMemory}
use Rattle.sv_ast.specs.Shape.{has_part, is_shaped_expression, are_shaped_parts, is_shaped_span}
use Rattle.sv_ast.specs.Shape.{is_port_kind, is_wire, is_port, is_inner, is_shaped_declaration}
use Rattle.sv_ast.specs.Shape.{is_shaped_parameter, is_shaped_memory, are_header_parameters}
use Rattle.sv_ast.specs.Shape.{are_ports}

-- ---- lists and parts that may be left out

-- what the form is a form of passes the test
abbrev pub Passes : {A : Type 0} → (A → Bool) → (A → Form) → Type 0
Passes {A} test P = (a : A) (ts r : List Placed) → P a ts r → IsTrue (test a)

pub all_later : {A : Type 0} {L : A → A → Form} (test : A → Bool)
    → ((before : A) → IsTrue (test before) → Passes test (L before))
    → (before : A) → IsTrue (test before) → (xs : List A) (ts r : List Placed)
    → later L before xs ts r → IsTrue (list_all test xs)
all_later test member before first [] ts r is = refl
all_later test member before first (x ∷ xs) ts r is =
    let this = member before first x is.0 is.2.0 is.2.1 in
    and_from _ _ this (all_later test member x this xs is.2.0 r is.2.2)

pub all_listed : {A : Type 0} {P : A → Form} {L : A → A → Form} (test : A → Bool)
    → Passes test P → ((before : A) → IsTrue (test before) → Passes test (L before))
    → (xs : List A) (ts r : List Placed) → listed P L xs ts r → IsTrue (list_all test xs)
all_listed test first member [] ts r is = absurd is
all_listed test first member (x ∷ xs) ts r is =
    let this = first x ts is.0 is.1 in
    and_from _ _ this (all_later test member x this xs is.0 r is.2)

-- a list whose later members may be as the first
first_or_later : {A : Type 0} (P : A → Form) (L : A → A → Form) (test : A → Bool)
    → Passes test P → ((before : A) → IsTrue (test before) → Passes test (L before))
    → (xs : List A) (ts r : List Placed) → listed P (λ before a. P a or L before a) xs ts r
    → IsTrue (list_all test xs)
first_or_later {A} P L test first later xs ts r is =
    all_listed test first (λ before known a us s one. either before known a us s one) xs ts r is
  where
    either : (before : A) → IsTrue (test before) → Passes test (λ a. P a or L before a)
    either before known a us s (inl one) = first a us s one
    either before known a us s (inr one) = later before known a us s one

pub all_each : {A : Type 0} {P : A → Form} (test : A → Bool) → Passes test P
    → (xs : List A) (ts r : List Placed) → each P xs ts r
    → IsTrue (list_all test xs)
all_each test member [] ts r is = refl
all_each test member (x ∷ xs) ts r is =
    and_from _ _ (member x ts is.0 is.1) (all_each test member xs is.0 r is.2)

pub perhaps_passes : {A : Type 0} {P : A → Form} (test : A → Bool) → Passes test P
    → (x : Option A) (ts r : List Placed) → perhaps P x ts r → IsTrue (option_map_or test x true)
perhaps_passes test member None ts r is = refl
perhaps_passes test member (Some a) ts r is = member a ts r is

-- ---- expressions

mutual
  written_is_shaped : (l : Limits) (n : ℕ) (w : Written) (ts r : List Placed) → IsWritten l n w ts r
      → IsTrue (is_shaped_expression (without_groups w))
  written_is_shaped l n (literal v p) ts r is = refl
  written_is_shaped l n (named x p) ts r is = refl
  written_is_shaped l n (bit_of x p i) ts r is = written_is_shaped l (n + 1) i _ _ is.2.1.2.1
  written_is_shaped l n (part_of x p high low) ts r is =
      and_from _ _ (written_is_shaped l (n + 1) high _ _ is.2.1.2.1.1)
      (written_is_shaped l (n + 1) low _ _ is.2.1.2.1.2.2)
  written_is_shaped l n (group e) ts r is = written_is_shaped l (n + 1) e _ _ is.1.2.1
  written_is_shaped l n (unary op p e) ts r is = written_is_shaped l (n + 1) e _ _ is.1.1.2
  written_is_shaped l n (binary op p a b) ts r is =
      and_from _ _ (written_is_shaped l n a _ _ is.1.1) (written_is_shaped l n b _ _ is.1.2.2)
  written_is_shaped l n (choice p c a b) ts r is =
      and_from _ _ (and_from _ _ (written_is_shaped l n c _ _ is.1.1)
      (written_is_shaped l (n + 1) a _ _ is.1.2.1.2.1))
      (written_is_shaped l (n + 1) b _ _ is.1.2.1.2.2.2)
  written_is_shaped l n (join p es) ts r is = parts_are_shaped l (n + 1) es _ _ is.1.2.1
  written_is_shaped l n (replication p c es) ts r is =
      let parts = and_parts _ _ (parts_are_shaped l (n + 2) es _ _ is.1.2.2.1.1.2.1) in
      and_from _ _ (and_from _ _ (written_is_shaped l (n + 1) c _ _ is.1.2.1) parts.0) parts.1

  parts_are_shaped : (l : Limits) (n : ℕ) (es : WrittenList) (ts r : List Placed)
      → AreWritten l n es ts r
      → IsTrue (has_part (all_without_groups es) && are_shaped_parts (all_without_groups es))
  parts_are_shaped l n no_more ts r is = absurd is
  parts_are_shaped l n (more e es) ts r is =
      and_from _ _ (written_is_shaped l n e _ _ is.1) (more_are_shaped l n es _ _ is.2)

  more_are_shaped : (l : Limits) (n : ℕ) (es : WrittenList) (ts r : List Placed)
      → AreMore l n es ts r
      → IsTrue (are_shaped_parts (all_without_groups es))
  more_are_shaped l n no_more ts r is = refl
  more_are_shaped l n (more e es) ts r is =
      and_from _ _ (written_is_shaped l n e _ _ is.2.1) (more_are_shaped l n es _ _ is.2.2)

pub value_is_shaped : (l : Limits) (n : ℕ) → Passes is_shaped_expression (IsExpression l n)
unfolding IsExpression
value_is_shaped l n e ts r is =
    subst (λ f. IsTrue (is_shaped_expression f)) is.1 (written_is_shaped l n is.0 ts r is.3)

pub range_is_shaped : (l : Limits) → Passes is_shaped_span (IsRange l)
range_is_shaped l s ts r is =
    and_from _ _ (value_is_shaped l 0 s.high _ _ is.2.1.1)
    (value_is_shaped l 0 s.low _ _ is.2.1.2.2)

perhaps_range : (l : Limits) (s : Option SpanTree) (ts r : List Placed) →
    perhaps (IsRange l) s ts r → IsTrue (option_map_or is_shaped_span s true)
perhaps_range l s ts r is = perhaps_passes is_shaped_span (range_is_shaped l) s ts r is

-- ---- parameters

type_is_shaped : (l : Limits) (b : Bool) (s : Option SpanTree) (ts r : List Placed)
    → IsParameterType l b s ts r
    → IsTrue (option_map_or is_shaped_span s true)
type_is_shaped l b (Some s) ts r is = range_is_shaped l s _ _ is.2
type_is_shaped l b None ts r is = refl

parameter_is_shaped : (l : Limits) → Passes is_shaped_parameter (IsParameter l)
parameter_is_shaped l q ts r is =
    and_from _ _ (type_is_shaped l q.signed q.span _ _ is.2.1)
    (value_is_shaped l 0 q.value _ _ is.2.2.2.2)

-- span of a parameter that has the span of one before it
later_span : (before q : ParameterTree) → q.span ≡ before.span → IsTrue (is_shaped_parameter before)
    → IsTrue (option_map_or is_shaped_span q.span true)
later_span before q same shaped =
    subst (λ s. IsTrue (option_map_or is_shaped_span s true)) (sym same) (and_parts _ _ shaped).0

named_is_shaped : (l : Limits) (before q : ParameterTree) (ts r : List Placed)
    → IsTrue (is_shaped_parameter before)
    → IsLaterParameter l before q ts r → IsTrue (is_shaped_parameter q)
named_is_shaped l before q ts r first is =
    and_from _ _ (later_span before q is.0.2 first) (value_is_shaped l 0 q.value _ _ is.1.2.2)

pub parameters_are_shaped : (l : Limits) (qs : List ParameterTree) (ts r : List Placed)
    → AreParameters l qs ts r
    → IsTrue (list_all is_shaped_parameter qs)
parameters_are_shaped l qs ts r is =
    all_listed is_shaped_parameter (parameter_is_shaped l) (λ before first q us s one.
    named_is_shaped l before q us s first one) qs ts r is

pub header_parameters_are_shaped : (l : Limits) (qs : List ParameterTree) (ts r : List Placed)
    → AreHeaderParameters l qs ts r
    → IsTrue (list_all is_shaped_parameter qs)
header_parameters_are_shaped l qs ts r is =
    first_or_later (IsHeaderParameter l) (IsLaterParameter l) is_shaped_parameter
    (λ q us s one. parameter_is_shaped l q us s one.1)
    (λ before known q us s one. named_is_shaped l before q us s known one) qs ts r is

not_local : (b : Bool) → b ≡ false → IsTrue (not b)
not_local b same = ap not same

pub header_parameters_are_outer : (l : Limits) (qs : List ParameterTree) (ts r : List Placed)
    → AreHeaderParameters l qs ts r
    → IsTrue (are_header_parameters qs)
header_parameters_are_outer l qs ts r is =
    first_or_later (IsHeaderParameter l) (IsLaterParameter l) (λ q. not q.local)
    (λ q us s one. not_local q.local one.0) (λ before known q us s one. ap not one.0.0 ∙ known)
    qs ts r is

-- ---- ports and signals

typed_range : (l : Limits) (d : DeclarationTree) (ts r : List Placed) → IsTyped l d ts r →
    IsTrue (option_map_or is_shaped_span d.span true)
typed_range l d ts r is = perhaps_range l d.span _ _ is.2.1

without_value : (d : DeclarationTree) → IsTrue (option_map_or is_shaped_span d.span true) →
    d.value ≡ None → IsTrue (is_shaped_declaration d)
without_value d span none =
    and_from _ _ span (subst (λ v.
    IsTrue (option_map_or is_shaped_expression v true)) (sym none) refl)

alike_range : (before d : DeclarationTree) → d.span ≡ before.span
    → IsTrue (is_shaped_declaration before)
    → IsTrue (option_map_or is_shaped_span d.span true)
alike_range before d same shaped =
    subst (λ s. IsTrue (option_map_or is_shaped_span s true)) (sym same) (and_parts _ _ shaped).0

abbrev LaterPort : DeclarationTree → DeclarationTree → Form
LaterPort before d = given (AreAlike before d) (IsNamedPort d)

pub ports_are_shaped : (l : Limits) (ds : List DeclarationTree) (ts r : List Placed)
    → ArePorts l ds ts r
    → IsTrue (list_all is_shaped_declaration ds)
ports_are_shaped l ds ts r is =
    first_or_later (IsPort l) LaterPort is_shaped_declaration
    (λ d us s one. without_value d (typed_range l d _ _ one.2.1) one.2.2.0)
    (λ before known d us s one.
    without_value d (alike_range before d one.0.2 known) one.1.0) ds ts r is

port_kind : (k : DeclKind) (ts r : List Placed) → IsPortKind k ts r → IsTrue (is_port_kind k)
port_kind kinds.Input ts r is = refl
port_kind kinds.OutputWire ts r is = refl
port_kind kinds.OutputReg ts r is = refl
port_kind kinds.Wire ts r is = absurd is
port_kind kinds.Reg ts r is = absurd is

no_value : (v : Option ExpressionTree) → v ≡ None → IsTrue (is_none v)
no_value v none = ap is_none none

pub ports_are_ports : (l : Limits) (ds : List DeclarationTree) (ts r : List Placed) →
    ArePorts l ds ts r → IsTrue (are_ports ds)
ports_are_ports l ds ts r is =
    first_or_later (IsPort l) LaterPort is_port
    (λ d us s one. and_from _ _ (port_kind d.kind _ _ one.1) (no_value d.value one.2.2.0))
    (λ before known d us s one.
    and_from _ _ (ap is_port_kind one.0.0 ∙ (and_parts _ _ known).0) (no_value d.value one.1.0))
    ds ts r is

-- what an item declares

abbrev is_shaped_signal : DeclarationTree → Bool
is_shaped_signal d = is_inner d && is_shaped_declaration d

signal_kind : (k : DeclKind) (ts r : List Placed) → IsSignalKind k ts r →
    IsTrue (not (is_port_kind k))
signal_kind kinds.Wire ts r is = refl
signal_kind kinds.Reg ts r is = refl
signal_kind kinds.Input ts r is = absurd is
signal_kind kinds.OutputWire ts r is = absurd is
signal_kind kinds.OutputReg ts r is = absurd is

signal_value : (l : Limits) (k : DeclKind) (v : Option ExpressionTree) (ts r : List Placed)
    → IsSignalValue l k v ts r
    → IsTrue (is_wire k || is_none v) × IsTrue (option_map_or is_shaped_expression v true)
signal_value l kinds.Wire v ts r is = (
  refl,
  perhaps_passes {P = equals l} is_shaped_expression (λ e us s one.
      value_is_shaped l 0 e _ _ one.2) v ts r is,
)
signal_value l _ v ts r is = (
  no_value v is.0,
  subst (λ v.
      IsTrue (option_map_or is_shaped_expression v true)) (sym is.0) refl,
)

signal_passes : (l : Limits) (d : DeclarationTree) (ts r : List Placed)
    → IsTrue (not (is_port_kind d.kind))
    → IsTrue (option_map_or is_shaped_span d.span true)
    → IsNamedSignal l d ts r → IsTrue (is_shaped_signal d)
signal_passes l d ts r kind span is =
    let value = signal_value l d.kind d.value _ _ is.2 in
    and_from _ _ (and_from _ _ kind value.0) (and_from _ _ span value.1)

later_signal : (l : Limits) (before d : DeclarationTree) (ts r : List Placed)
    → IsTrue (is_shaped_signal before) → AreAlike before d
    → IsNamedSignal l d ts r
    → IsTrue (is_shaped_signal d)
later_signal l before d ts r known alike is =
    let parts = and_parts _ _ known in
    signal_passes l d ts r (ap (λ k. not (is_port_kind k)) alike.0 ∙ (and_parts _ _ parts.0).0)
    (alike_range before d alike.2 parts.1) is

pub signals_are_shaped : (l : Limits) (ds : List DeclarationTree) (ts r : List Placed)
    → AreSignals l ds ts r
    → IsTrue (list_all is_shaped_signal ds)
signals_are_shaped l ds ts r is = all_listed is_shaped_signal
    (λ d us s one. signal_passes l d _ _ (signal_kind d.kind _ _ one.1)
    (typed_range l d _ _ one.2.1) one.2.2)
    (λ before known d us s one. later_signal l before d us s known one.0 one.1) ds ts r is

pub memory_is_shaped : (l : Limits) → Passes is_shaped_memory (IsMemory l)
memory_is_shaped l m ts r is = perhaps_range l m.span _ _ is.2.2.1
