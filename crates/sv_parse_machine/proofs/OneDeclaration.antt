-- Ports, signals and memories determine their trees.
use Rattle.std.proofs.Common.{◌≡◌, Bool, true, false, List, [], ◌∷◌, Option, None, refl, sym, subst}
use Rattle.std.proofs.Common.{◌∙◌}
use Rattle.std.proofs.lemmas.Bool.{false≢true}
use Rattle.sv_token.specs.declared.keywords.WordKind.TheVariants as words
use Rattle.sv_token.specs.declared.signs.SignKind.TheVariants as signs
use Rattle.sv_token.specs.Lexemes.{Lexeme, word, identifier, numeral, sign, Placed}
use Rattle.sv_ast.specs.declared.declarations.DeclKind.{DeclKind}
use Rattle.sv_ast.specs.declared.declarations.DeclKind.TheVariants as kinds
use Rattle.sv_ast.specs.Tree.{ExpressionTree, DeclarationTree, MemoryTree}
use Rattle.sv_ast.specs.GrammarForms.{Form, ◌⨾◌, given, nothing, optional, a_word, a_sign, name_at}
use Rattle.sv_ast.specs.GrammarForms.{a_number, in_brackets}
use Rattle.sv_ast.specs.GrammarExpressions.{Limits}
use Rattle.sv_ast.specs.GrammarDeclarations.{IsTyped, AreAlike, IsPortKind, IsNamedPort, IsPort}
use Rattle.sv_ast.specs.GrammarDeclarations.{ArePorts, IsSignalKind, IsSignalValue, IsNamedSignal}
use Rattle.sv_ast.specs.GrammarDeclarations.{IsSignal, AreSignals, IsMemory}
use Rattle.sv_ast.proofs.GrammarOneToken.{NextIs, ends_expression}
use Rattle.sv_parse_machine.proofs.TreeParts.{same_declaration, same_memory}
use Rattle.sv_parse_machine.proofs.OneForm.{Behind, Anything, AreOne, AreApart, Leads, one_as}
use Rattle.sv_parse_machine.proofs.OneForm.{one_anywhere, one_where, one_apart, one_turned, apart_turned}
use Rattle.sv_parse_machine.proofs.OneForm.{one_nothing, leads_nothing, one_then, one_before, one_grouped}
use Rattle.sv_parse_machine.proofs.OneForm.{apart_first, leads_first, leads_through, one_word, one_placed}
use Rattle.sv_parse_machine.proofs.OneForm.{one_numeral, sign_behind, word_behind, leads_sign, leads_word}
use Rattle.sv_parse_machine.proofs.OneForm.{then_sign, FirstIs, begins_word, words_apart, Refuses}
use Rattle.sv_parse_machine.proofs.OneForm.{apart_from, one_or_none, one_never, leads_never, one_refused}
use Rattle.sv_parse_machine.proofs.OneForm.{apart_prefix, leads_given, one_given, one_of_either, one_or}
use Rattle.sv_parse_machine.proofs.OneList.{one_perhaps, one_optional, ends_list, ListEnds}
use Rattle.sv_parse_machine.proofs.OneList.{list_ends_expression, leads_later, one_listed}
use Rattle.sv_parse_machine.proofs.OneType.{NameIs, first_is, name_behind, one_typed, IsMemoryTyped}
use Rattle.sv_parse_machine.proofs.OneType.{one_memory_typed, one_of_types, leads_typed, leads_named}
use Rattle.sv_parse_machine.proofs.OneParameter.{one_equals}

-- ---- ports

-- behind the words of a port's kind
abbrev is_no_kind : Lexeme → Bool
is_no_kind (word words.Wire) = false
is_no_kind (word words.Reg) = false
is_no_kind x = true

abbrev NoKind : Behind
NoKind = NextIs is_no_kind

perhaps_wire : AreOne NoKind (Unit {0}) (optional (a_word words.Wire))
    (optional (a_word words.Wire))
perhaps_wire =
    one_optional (one_anywhere (one_word words.Wire)) (leads_word words.Wire (λ p rest. false≢true))

wire_or_reg : AreOne NoKind ⊥ (optional (a_word words.Wire)) (a_word words.Reg)
wire_or_reg =
    one_of_either (one_apart (words_apart (word words.Wire) (word words.Reg) (λ same.
    cc) (begins_word words.Wire)
    (begins_word words.Reg)))
    (one_or_none (leads_word words.Reg (λ p rest. false≢true)))

input_or_output : (P Q : Form) → AreApart (a_word words.Input ⨾ P) (a_word words.Output ⨾ Q)
input_or_output P Q =
    words_apart (word words.Input) (word words.Output) (λ same.
    cc) (leads_first (begins_word words.Input)) (leads_first (begins_word words.Output))

one_port_kind : (k j : DeclKind) → AreOne NoKind (k ≡ j) (IsPortKind k) (IsPortKind j)
one_port_kind kinds.Wire j = one_never
one_port_kind kinds.Reg j = one_never
one_port_kind kinds.Input kinds.Wire = one_turned one_never
one_port_kind kinds.Input kinds.Reg = one_turned one_never
one_port_kind kinds.OutputWire kinds.Wire = one_turned one_never
one_port_kind kinds.OutputWire kinds.Reg = one_turned one_never
one_port_kind kinds.OutputReg kinds.Wire = one_turned one_never
one_port_kind kinds.OutputReg kinds.Reg = one_turned one_never
one_port_kind kinds.Input kinds.Input = one_as (λ same. refl) (word_behind words.Input perhaps_wire)
one_port_kind kinds.Input kinds.OutputWire = one_apart (input_or_output _ _)
one_port_kind kinds.Input kinds.OutputReg = one_apart (input_or_output _ _)
one_port_kind kinds.OutputWire kinds.Input = one_apart (apart_turned (input_or_output _ _))
one_port_kind kinds.OutputReg kinds.Input = one_apart (apart_turned (input_or_output _ _))
one_port_kind kinds.OutputWire kinds.OutputWire =
    one_as (λ same. refl) (word_behind words.Output perhaps_wire)
one_port_kind kinds.OutputReg kinds.OutputReg =
    one_as (λ same. refl) (word_behind words.Output (one_anywhere (one_word words.Reg)))
one_port_kind kinds.OutputWire kinds.OutputReg =
    one_as (λ none. absurd none) (word_behind words.Output wire_or_reg)
one_port_kind kinds.OutputReg kinds.OutputWire =
    one_as (λ none. absurd none) (word_behind words.Output (one_turned wire_or_reg))

leads_port_type : (l : Limits) (d : DeclarationTree) → Leads NoKind NameIs (IsTyped l d)
leads_port_type l d =
    leads_typed l d (λ p rest. refl) (λ p rest. refl) (λ p rest.
    refl) (name_behind is_no_kind (λ n. refl))

one_port_name : (d e : DeclarationTree) →
    AreOne Anything ((d.value ≡ e.value) × ((d.name ≡ e.name) × (d.place ≡ e.place)))
    (IsNamedPort d) (IsNamedPort e)
one_port_name d e =
    one_given (λ none none_too.
    one_as (λ names. (none ∙ sym none_too, names)) (one_placed d.name e.name d.place e.place))

leads_port_name : {D : Behind} (d : DeclarationTree) → Leads NameIs D (IsNamedPort d)
leads_port_name d = leads_given (leads_named d.name d.place)

one_port : (l : Limits) (d e : DeclarationTree) → AreOne Anything (d ≡ e) (IsPort l d) (IsPort l e)
one_port l d e =
    one_as (λ both. same_declaration d e both.0 both.1.0.0 both.1.0.1.0 both.1.0.1.1 both.1.1.1.0
    both.1.1.1.1 both.1.1.0)
    (one_before (one_port_kind d.kind e.kind)
    (leads_through (leads_port_type l d) (leads_port_name d))
    (leads_through (leads_port_type l e) (leads_port_name e))
    (λ kind. one_before (one_typed l d e) (leads_port_name d) (leads_port_name e) (λ type.
    one_port_name d e)))

port_is_no_name : (l : Limits) (d : DeclarationTree) → Refuses NameIs (IsPort l d)
port_is_no_name l d = leads_first (kind_is_no_name d.kind)
  where
    kind_is_no_name : (k : DeclKind) → Refuses NameIs (IsPortKind k)
    kind_is_no_name kinds.Input = leads_first (leads_word words.Input (λ p rest. false≢true))
    kind_is_no_name kinds.OutputWire = leads_first (leads_word words.Output (λ p rest. false≢true))
    kind_is_no_name kinds.OutputReg = leads_first (leads_word words.Output (λ p rest. false≢true))
    kind_is_no_name kinds.Wire = leads_never
    kind_is_no_name kinds.Reg = leads_never

one_alike : (before d e : DeclarationTree) → AreAlike before d → AreAlike before e
    → (d.value ≡ e.value) → (d.name ≡ e.name) → (d.place ≡ e.place) → d ≡ e
one_alike before d e known known_too value name place =
    same_declaration d e (known.0 ∙ sym known_too.0) (known.1 ∙ sym known_too.1)
    (known.2 ∙ sym known_too.2) (known.3 ∙ sym known_too.3) name place value

port_or_name : (l : Limits) (before d e : DeclarationTree) →
    AreApart (IsPort l d) (given (AreAlike before e) (IsNamedPort e))
port_or_name l before d e = apart_from (port_is_no_name l d) (leads_given (leads_port_name e))

pub one_ports : (l : Limits) (ds es : List DeclarationTree) →
    AreOne ListEnds (ds ≡ es) (ArePorts l ds) (ArePorts l es)
one_ports l ds es = one_listed (one_port l)
    (λ before d e. one_or (one_port l d e) (one_apart (port_or_name l before d e))
    (one_apart (apart_turned (port_or_name l before e d)))
    (one_given (λ known known_too.
    one_as (λ both. one_alike before d e known known_too both.0 both.1.0 both.1.1)
    (one_port_name d e))))
    (λ p rest. tt) (λ ts ends. tt) ds es

-- ---- signals

-- behind a declared name and its value
abbrev ends_signal : Lexeme → Bool
ends_signal (sign signs.Comma) = true
ends_signal x = ends_list x

abbrev SignalEnds : Behind
SignalEnds = FirstIs ends_signal

signal_ends_expression : (x : Lexeme) → ends_signal x ≡ true → ends_expression x ≡ true
signal_ends_expression (sign signs.Comma) ends = refl
signal_ends_expression (sign s) ends = list_ends_expression (sign s) ends
signal_ends_expression (word w) ends = list_ends_expression (word w) ends
signal_ends_expression (identifier x) ends = list_ends_expression (identifier x) ends
signal_ends_expression (numeral v) ends = list_ends_expression (numeral v) ends

list_ends_signal : (x : Lexeme) → ends_list x ≡ true → ends_signal x ≡ true
list_ends_signal (sign signs.Comma) ends = refl
list_ends_signal (sign _) ends = ends
list_ends_signal (word w) ends = ends
list_ends_signal (identifier x) ends = ends
list_ends_signal (numeral v) ends = ends

one_signal_value : (l : Limits) (k : DeclKind) (v w : Option ExpressionTree) →
    AreOne SignalEnds (v ≡ w) (IsSignalValue l k v) (IsSignalValue l k w)
one_signal_value l kinds.Wire v w =
    one_perhaps (λ e f. one_where (λ ts ends.
    first_is ends_expression signal_ends_expression ts ends) (one_equals l e f))
    (λ e. leads_first (leads_sign signs.Equals (λ p rest. false≢true))) v w
one_signal_value l _ v w =
    one_given (λ none none_too. one_as (λ same. none ∙ sym none_too) one_nothing)

one_signal_name : (l : Limits) (d e : DeclarationTree) → d.kind ≡ e.kind
    → AreOne SignalEnds (((d.name ≡ e.name) × (d.place ≡ e.place))
    × (d.value ≡ e.value)) (IsNamedSignal l d) (IsNamedSignal l e)
one_signal_name l d e kind = one_then (one_placed d.name e.name d.place e.place)
    (λ name. subst (λ k.
    AreOne SignalEnds (d.value ≡ e.value) (IsSignalValue l d.kind d.value)
    (IsSignalValue l k e.value)) kind
    (one_signal_value l d.kind d.value e.value))

leads_signal_name : {D : Behind} (l : Limits) (d : DeclarationTree) →
    Leads NameIs D (IsNamedSignal l d)
leads_signal_name l d = leads_first (leads_named d.name d.place)

wire_is_no_reg : AreApart (a_word words.Wire) (a_word words.Reg)
wire_is_no_reg =
    words_apart (word words.Wire) (word words.Reg) (λ same.
    cc) (begins_word words.Wire) (begins_word words.Reg)

one_signal_kind : (k j : DeclKind) → AreOne Anything (k ≡ j) (IsSignalKind k) (IsSignalKind j)
one_signal_kind kinds.Input j = one_never
one_signal_kind kinds.OutputWire j = one_never
one_signal_kind kinds.OutputReg j = one_never
one_signal_kind kinds.Wire kinds.Wire = one_as (λ same. refl) (one_word words.Wire)
one_signal_kind kinds.Reg kinds.Reg = one_as (λ same. refl) (one_word words.Reg)
one_signal_kind kinds.Wire kinds.Reg = one_apart wire_is_no_reg
one_signal_kind kinds.Reg kinds.Wire = one_apart (apart_turned wire_is_no_reg)
one_signal_kind kinds.Wire _ = one_turned one_never
one_signal_kind kinds.Reg _ = one_turned one_never

one_signal : (l : Limits) (d e : DeclarationTree) →
    AreOne SignalEnds (d ≡ e) (IsSignal l d) (IsSignal l e)
one_signal l d e =
    one_as (λ both. same_declaration d e both.0 both.1.0.0 both.1.0.1.0 both.1.0.1.1 both.1.1.0.0
    both.1.1.0.1 both.1.1.1)
    (one_then (one_signal_kind d.kind e.kind)
    (λ kind. one_before (one_typed l d e) (leads_signal_name l d) (leads_signal_name l e) (λ type.
    one_signal_name l d e kind)))

one_later_signal : (l : Limits) (before d e : DeclarationTree)
    → AreOne SignalEnds (d ≡ e) (given (AreAlike before d) (IsNamedSignal l d))
    (given (AreAlike before e) (IsNamedSignal l e))
one_later_signal l before d e = one_given (λ known known_too.
    one_as (λ both. one_alike before d e known known_too both.1 both.0.0 both.0.1)
    (one_signal_name l d e (known.0 ∙ sym known_too.0)))

list_or_signal : (ts : List Placed) → ListEnds ts → SignalEnds ts
list_or_signal [] ends = absurd ends
list_or_signal (t ∷ ts) ends = list_ends_signal t.lexeme ends

pub one_signals : (l : Limits) (ds es : List DeclarationTree) →
    AreOne ListEnds (ds ≡ es) (AreSignals l ds) (AreSignals l es)
one_signals l ds es =
    one_listed (one_signal l) (one_later_signal l) (λ p rest. refl) list_or_signal ds es

-- ---- memories

-- the form with its type as one group
one_regrouped : {E : Type 0} {F : Behind} {P T U V W : Form} → AreOne F E P ((T ⨾ U ⨾ V) ⨾ W) →
    AreOne F E P (T ⨾ U ⨾ V ⨾ W)
one_regrouped same = record {
  one = λ ts r s is is_too ends ends_too.
      same.one ts r s is (
        is_too.2.2.0,
        (is_too.0, is_too.1, (is_too.2.0, is_too.2.1, is_too.2.2.1)),
        is_too.2.2.2,
      ) ends ends_too;
}

abbrev IsMemoryName : MemoryTree → Form
IsMemoryName m =
    name_at m.name m.place ⨾ in_brackets (a_number m.first ⨾ a_sign signs.Colon ⨾ a_number m.last)

one_memory_name : (m n : MemoryTree)
    → AreOne Anything (((m.name ≡ n.name) × (m.place ≡ n.place))
    × ((m.first ≡ n.first) × (m.last ≡ n.last))) (IsMemoryName m) (IsMemoryName n)
one_memory_name m n = one_then (one_placed m.name n.name m.place n.place)
    (λ name. sign_behind signs.OpenBracket (then_sign signs.CloseBracket
    (one_then (one_numeral m.first n.first) (λ first.
    sign_behind signs.Colon (one_numeral m.last n.last)))))

leads_memory_name : {D : Behind} (m : MemoryTree) → Leads NameIs D (IsMemoryName m)
leads_memory_name m = leads_first (leads_named m.name m.place)

pub one_memory : (l : Limits) (m n : MemoryTree) →
    AreOne Anything (m ≡ n) (IsMemory l m) (IsMemory l n)
one_memory l m n =
    one_as (λ both. same_memory m n both.0.0 both.0.1.0 both.0.1.1 both.1.0.0 both.1.0.1 both.1.1.0
    both.1.1.1)
    (word_behind words.Reg (one_regrouped (one_turned (one_regrouped (one_turned
    (one_before (one_memory_typed l m n) (leads_memory_name m) (leads_memory_name n) (λ type.
    one_memory_name m n)))))))

-- a `reg` with a name that no `[` follows
one_of_regs : (l : Limits) (d : DeclarationTree) (m : MemoryTree) (P : Form)
    → Leads SignalEnds ListEnds P
    → AreOne ListEnds ⊥ ((IsTyped l d ⨾ name_at d.name d.place ⨾ given (d.value ≡ None) nothing)
    ⨾ P) (IsMemoryTyped l m ⨾ IsMemoryName m)
one_of_regs l d m P ends =
    one_turned (one_grouped (one_turned (one_as (λ both. both.1)
    (one_before (one_of_types l d m) (leads_first (leads_first (leads_named d.name d.place)))
    (leads_memory_name m)
    (λ type.
    one_turned (one_grouped
    (one_turned (one_as (λ both. both.1) (one_then (one_placed d.name m.name d.place m.place)
    (λ name. one_refused {F = SignalEnds}
    (leads_through (leads_given (leads_nothing (λ ts known. known))) ends)
    (leads_first (leads_sign signs.OpenBracket (λ p rest. false≢true)))))))))))))

one_of_kinds : (l : Limits) (k : DeclKind) (d : DeclarationTree) (m : MemoryTree) (P : Form)
    → Leads SignalEnds ListEnds P
    → AreOne ListEnds ⊥ ((IsSignalKind k ⨾ IsTyped l d ⨾ name_at d.name d.place
    ⨾ IsSignalValue l k d.value) ⨾ P) (IsMemory l m)
one_of_kinds l kinds.Wire d m P ends = one_apart (apart_prefix (apart_first wire_is_no_reg))
one_of_kinds l kinds.Reg d m P ends =
    one_turned (one_grouped
    (one_turned (word_behind words.Reg (one_regrouped (one_of_regs l d m P ends)))))
one_of_kinds l _ d m P ends = one_apart (record { apart = λ ts r s is is_too. is.1.1 })

pub one_of_signals : (l : Limits) (ds : List DeclarationTree) (m : MemoryTree) →
    AreOne ListEnds ⊥ (AreSignals l ds) (IsMemory l m)
one_of_signals l [] m = one_never
one_of_signals l (d ∷ ds) m =
    one_of_kinds l d.kind d m _ (leads_later _ (λ p rest. refl) list_or_signal d ds)
