-- The header of a module is what its symbols stand for.
use Rattle.std.proofs.Common.{◌≡◌, ℕ, false, List, [], ◌∷◌, None, inl, inr, refl, sym, subst}
use Rattle.sv_token.specs.declared.keywords.WordKind.TheVariants as words
use Rattle.sv_token.specs.declared.signs.SignKind.TheVariants as signs
use Rattle.sv_token.specs.Lexemes.{Lexeme, word, identifier, sign, Placed}
use Rattle.sv_ast.specs.declared.declarations.DeclKind.{DeclKind}
use Rattle.sv_ast.specs.declared.declarations.DeclKind.TheVariants as kinds
use Rattle.sv_ast.specs.Tree.{DeclarationTree, ParameterTree}
use Rattle.sv_ast.specs.GrammarForms.{Form, ◌⨾◌, ◌or◌, given, nothing, optional, a_word, a_sign}
use Rattle.sv_ast.specs.GrammarForms.{in_parentheses}
use Rattle.sv_ast.specs.GrammarExpressions.{Limits}
use Rattle.sv_ast.specs.GrammarDeclarations.{parameter_word, IsLaterParameter, IsHeaderParameter}
use Rattle.sv_ast.specs.GrammarDeclarations.{AreHeaderParameters, AreAlike, IsPortKind, IsNamedPort}
use Rattle.sv_ast.specs.GrammarDeclarations.{IsPort, ArePorts}
use Rattle.sv_ast.specs.GrammarModules.{hash_parentheses}
use Rattle.sv_parse_machine.specs.ModuleTable.{perhaps_header_parameters_on, perhaps_ports_on}
use Rattle.sv_parse_machine.specs.ModuleTable.{perhaps_wire_on, perhaps_wire_or_reg_on}
use Rattle.sv_parse_machine.proofs.ExpressionForms.{Next, ends_name, ends_tail}
use Rattle.sv_parse_machine.proofs.OuterForms.{IsOver, some_name, header_parameter_form}
use Rattle.sv_parse_machine.proofs.OuterForms.{later_header_parameter_form, more_header_parameters_form}
use Rattle.sv_parse_machine.proofs.OuterForms.{perhaps_header_parameters_form, perhaps_wire_form}
use Rattle.sv_parse_machine.proofs.OuterForms.{perhaps_wire_or_reg_form, perhaps_signed_form}
use Rattle.sv_parse_machine.proofs.OuterForms.{perhaps_range_form, perhaps_label_form, later_port_form}
use Rattle.sv_parse_machine.proofs.OuterForms.{more_ports_form, ports_form, perhaps_ports_form}
use Rattle.sv_parse_machine.proofs.StatementSteps.{next_later}
use Rattle.sv_parse_machine.proofs.TreeParts.{typed_parameter, declared_tree}
use Rattle.sv_parse_machine.proofs.ListTrees.{next_name, Any, Follows, f_later, b_later}
use Rattle.sv_parse_machine.proofs.TypeTrees.{f_typed, next_typed, b_signed, b_range, b_label}
use Rattle.sv_parse_machine.proofs.TypeTrees.{f_parameter_type, b_parameter_type, f_named_parameter}
use Rattle.sv_parse_machine.proofs.TypeTrees.{b_named_parameter}

-- ---- parameters

f_header_parameter : (l : Limits) (q : ParameterTree) (ts rest : List Placed)
    → IsHeaderParameter l q ts rest → Follows signs.CloseParenthesis rest
    → header_parameter_form l ts rest
f_header_parameter l q ts rest (local, (m, is, (m1, type, named))) follows =
    let (m2, name, (m3, sets, value)) =
    f_named_parameter l q m1 rest named (follows ends_name tt tt) (follows ends_tail tt tt) in (
      m,
      subst (λ b. a_word (parameter_word b) ts m) local is,
      (
        m1,
        f_parameter_type l q.signed q.span m m1 m2 type
            name,
        (m2, name, (m3, sets, (rest, value, refl))),
      ),
    )

abbrev LaterHeaderParameter : Limits → ParameterTree → ParameterTree → Form
LaterHeaderParameter l before q = IsHeaderParameter l q or IsLaterParameter l before q

f_later_header_parameter : (l : Limits) (a b : ParameterTree) (ts rest : List Placed) → Any a
    → LaterHeaderParameter l a b ts rest
    → Follows signs.CloseParenthesis rest → Any b × later_header_parameter_form l ts rest
f_later_header_parameter l a b ts rest known (inl is) follows =
    (tt, inl (f_header_parameter l b ts rest is follows))
f_later_header_parameter l a b ts rest known (inr (same, named)) follows =
    let (m2, name, (m3, sets, value)) =
    f_named_parameter l b ts rest named (follows ends_name tt tt) (follows ends_tail tt tt) in
    (tt, inr (m2, name, (m3, sets, (rest, value, refl))))

f_header_parameters : (l : Limits) (qs : List ParameterTree) (ts rest : List Placed)
    → (AreHeaderParameters l qs ⨾ a_sign signs.CloseParenthesis) ts rest
    → (header_parameter_form l ⨾ more_header_parameters_form l ⨾ nothing) ts rest
f_header_parameters l [] ts rest (m, never, close) = absurd never
f_header_parameters l (q ∷ qs) ts rest (m, (m1, is, others), close) = (
  m1,
  f_header_parameter l q ts m1 is
      (λ Q first second. next_later Q (LaterHeaderParameter l) q qs signs.CloseParenthesis m1 rest
      first second (m, others, close)),
  (
    rest,
    f_later (LaterHeaderParameter l) (later_header_parameter_form l) Any signs.CloseParenthesis
        (f_later_header_parameter l) q qs m1 rest tt (m, others, close),
    refl,
  ),
)

-- the parameters of a header, or none
abbrev pub HeaderParameters : Limits → List ParameterTree → Form
HeaderParameters l qs = given (qs ≡ []) nothing or hash_parentheses (AreHeaderParameters l qs)

pub f_perhaps_header_parameters : (l : Limits) (qs : List ParameterTree) (ts rest : List Placed)
    → HeaderParameters l qs ts rest
    → Next (λ x. IsOver (perhaps_header_parameters_on x)) rest
    → perhaps_header_parameters_form l ts rest
f_perhaps_header_parameters l qs ts rest (inl (none, same)) next =
    inl (subst (Next (λ x. IsOver (perhaps_header_parameters_on x))) (sym same) next, same)
f_perhaps_header_parameters l qs ts rest (inr (m, hash, (m1, opens, are))) next =
    inr (m, hash, (m1, opens, f_header_parameters l qs m1 rest are))

abbrev HeaderParameter : Limits → List Placed → List Placed → Type 0
HeaderParameter l ts rest = (q : ParameterTree) × IsHeaderParameter l q ts rest

b_header_parameter : (l : Limits) (ts rest : List Placed) → header_parameter_form l ts rest →
    HeaderParameter l ts rest
b_header_parameter l ts rest (m, is, (m1, type, (m2, name, (m3, sets, (m4, value, same))))) =
    let types = b_parameter_type l m m1 type in
    let named = b_named_parameter l m1 m4 (m2, name, (m3, sets, value)) in
    let q : ParameterTree =
    typed_parameter false types.0 types.1 named.0 named.1 named.2 in
    subst (HeaderParameter l ts) same (q, (refl, (m, is, (m1, types.2, named.3))))

abbrev LaterHeader : Limits → ParameterTree → List Placed → List Placed → Type 0
LaterHeader l a ts rest = (b : ParameterTree) × Any b × LaterHeaderParameter l a b ts rest

b_later_header_parameter : (l : Limits) (a : ParameterTree) (ts rest : List Placed) → Any a →
    later_header_parameter_form l ts rest → LaterHeader l a ts rest
b_later_header_parameter l a ts rest known (inl is) =
    let this = b_header_parameter l ts rest is in (this.0, tt, inl this.1)
b_later_header_parameter l a ts rest known (inr (m2, name, (m3, sets, (m4, value, same)))) =
    let named = b_named_parameter l ts m4 (m2, name, (m3, sets, value)) in
    let q : ParameterTree =
    record a {
      name = named.0;
      place = named.1;
      value = named.2;
    } in
    subst (LaterHeader l a ts) same (q, tt, inr ((refl, refl, refl), named.3))

abbrev SomeHeaderParameters : Limits → List Placed → List Placed → Type 0
SomeHeaderParameters l ts rest = (qs : List ParameterTree) × HeaderParameters l qs ts rest

pub b_perhaps_header_parameters : (l : Limits) (ts rest : List Placed) →
    perhaps_header_parameters_form l ts rest → SomeHeaderParameters l ts rest
b_perhaps_header_parameters l ts rest (inl (next, same)) = ([], inl (refl, same))
b_perhaps_header_parameters l ts rest
    (inr (m, hash, (m1, opens, (m2, first, (m3, (k, (m4, others, close)), same))))) =
    let q = b_header_parameter l m1 m2 first in
    let qs = b_later (LaterHeaderParameter l) (later_header_parameter_form l) Any
    signs.CloseParenthesis (b_later_header_parameter l) q.0 k m2 m4 m3 tt others close in
    subst (SomeHeaderParameters l ts) same
    (q.0 ∷ qs.0, inr (m, hash, (m1, opens, (qs.1.0, (m2, q.1, qs.1.1), qs.1.2))))

-- ---- kinds of ports

-- up to the type
abbrev port_start : Limits → Form
port_start l =
    (a_word words.Input ⨾ perhaps_wire_form l) or (a_word words.Output ⨾ perhaps_wire_or_reg_form l)

f_wire : (l : Limits) (ts rest : List Placed) → optional (a_word words.Wire) ts rest →
    Next (λ x. IsOver (perhaps_wire_on x)) rest → perhaps_wire_form l ts rest
f_wire l ts rest (inl is) next = inr (rest, is, refl)
f_wire l ts rest (inr same) next =
    inl (subst (Next (λ x. IsOver (perhaps_wire_on x))) (sym same) next, same)

f_wire_or_reg : (l : Limits) (ts rest : List Placed) → optional (a_word words.Wire) ts rest
    → Next (λ x. IsOver (perhaps_wire_or_reg_on x)) rest
    → perhaps_wire_or_reg_form l ts rest
f_wire_or_reg l ts rest (inl is) next = inr (inl (rest, is, refl))
f_wire_or_reg l ts rest (inr same) next =
    inl (subst (Next (λ x. IsOver (perhaps_wire_or_reg_on x))) (sym same) next, same)

f_port_kind : (l : Limits) (k : DeclKind) (ts rest : List Placed) → IsPortKind k ts rest
    → Next (λ x. IsOver (perhaps_wire_on x)) rest
    → Next (λ x. IsOver (perhaps_wire_or_reg_on x)) rest → port_start l ts rest
f_port_kind l kinds.Input ts rest (m, is, wire) next others = inl (m, is, f_wire l m rest wire next)
f_port_kind l kinds.OutputWire ts rest (m, is, wire) next others =
    inr (m, is, f_wire_or_reg l m rest wire others)
f_port_kind l kinds.OutputReg ts rest (m, is, reg) next others =
    inr (m, is, inr (inr (rest, reg, refl)))
f_port_kind l _ ts rest never next others = absurd never

abbrev PortKind : List Placed → List Placed → Type 0
PortKind ts rest = (k : DeclKind) × IsPortKind k ts rest

b_input : (l : Limits) (ts m rest : List Placed) → a_word words.Input ts m →
    perhaps_wire_form l m rest → PortKind ts rest
b_input l ts m rest is (inl (next, same)) = (kinds.Input, (m, is, inr same))
b_input l ts m rest is (inr (m1, wire, same)) =
    subst (PortKind ts) same (kinds.Input, (m, is, inl wire))

b_output : (l : Limits) (ts m rest : List Placed) → a_word words.Output ts m →
    perhaps_wire_or_reg_form l m rest → PortKind ts rest
b_output l ts m rest is (inl (next, same)) = (kinds.OutputWire, (m, is, inr same))
b_output l ts m rest is (inr (inl (m1, wire, same))) =
    subst (PortKind ts) same (kinds.OutputWire, (m, is, inl wire))
b_output l ts m rest is (inr (inr (m1, reg, same))) =
    subst (PortKind ts) same (kinds.OutputReg, (m, is, reg))

-- ---- ports

abbrev typed_form : Limits → Form → Form
typed_form l Q = perhaps_signed_form l ⨾ perhaps_range_form l ⨾ perhaps_label_form l ⨾ some_name ⨾ Q

-- a whole port, and a form behind it
abbrev port_form : Limits → Form → Form
port_form l Q = port_start l ⨾ typed_form l Q

f_port : (l : Limits) (d : DeclarationTree) (Q : Form) (ts mid rest : List Placed) →
    IsPort l d ts mid → Q mid rest → port_form l Q ts rest
f_port l d Q ts mid rest (m, kind, (m1, type, (none, name))) behind = (
  m,
  f_port_kind l d.kind ts m kind (next (λ x. IsOver (perhaps_wire_on x)) tt tt tt (λ x. tt))
      (next (λ x. IsOver (perhaps_wire_or_reg_on x)) tt tt tt (λ x. tt)),
  f_typed l d Q m m1 rest type (mid, (d.name, (d.place, name)), behind),
)
  where
    next : (P : Lexeme → Type 0) → P (word words.Signed) → P (sign signs.OpenBracket) →
        P (sign signs.OpenBrace) → ((x : List ℕ) → P (identifier x)) → Next P m
    next P one two three four =
        next_typed P l d m m1 one two three (next_name P m1 mid four (d.name, (d.place, name))) type

f_ports_start : (l : Limits) (ts rest : List Placed) →
    port_form l (more_ports_form l ⨾ nothing) ts rest → ports_form l ts rest
f_ports_start l ts rest (m, inl (m1, is, wire), behind) = inl (m1, is, (m, wire, behind))
f_ports_start l ts rest (m, inr (m1, is, wire), behind) = inr (inl (m1, is, (m, wire, behind)))

f_later_start : (l : Limits) (ts rest : List Placed) → port_form l nothing ts rest →
    later_port_form l ts rest
f_later_start l ts rest (m, inl (m1, is, wire), behind) = inl (m1, is, (m, wire, behind))
f_later_start l ts rest (m, inr (m1, is, wire), behind) = inr (inl (m1, is, (m, wire, behind)))

abbrev LaterPort : Limits → DeclarationTree → DeclarationTree → Form
LaterPort l before d = IsPort l d or given (AreAlike before d) (IsNamedPort d)

f_later_port : (l : Limits) (a b : DeclarationTree) (ts rest : List Placed) → Any a
    → LaterPort l a b ts rest → Follows signs.CloseParenthesis rest
    → Any b × later_port_form l ts rest
f_later_port l a b ts rest known (inl is) follows =
    (tt, f_later_start l ts rest (f_port l b nothing ts rest rest is refl))
f_later_port l a b ts rest known (inr (alike, (none, name))) follows =
    (tt, inr (inr (rest, (b.name, (b.place, name)), refl)))

f_some_ports : (l : Limits) (ds : List DeclarationTree) (ts rest : List Placed) →
    (ArePorts l ds ⨾ a_sign signs.CloseParenthesis) ts rest → ports_form l ts rest
f_some_ports l [] ts rest (m, never, close) = absurd never
f_some_ports l (d ∷ ds) ts rest (m, (m1, is, others), close) =
    f_ports_start l ts rest (f_port l d (more_ports_form l ⨾ nothing) ts m1 rest is (
      rest,
      f_later (LaterPort l) (later_port_form l) Any signs.CloseParenthesis (f_later_port l) d
          ds m1 rest tt (m, others, close),
      refl,
    ))

-- the ports of a header, or none
abbrev pub HeaderPorts : Limits → List DeclarationTree → Form
HeaderPorts l ds =
    given (ds ≡ []) (optional (in_parentheses nothing)) or in_parentheses (ArePorts l ds)

pub f_perhaps_ports : (l : Limits) (ds : List DeclarationTree) (ts rest : List Placed)
    → HeaderPorts l ds ts rest
    → Next (λ x. IsOver (perhaps_ports_on x)) rest → perhaps_ports_form l ts rest
f_perhaps_ports l ds ts rest (inl (none, inr same)) next =
    inl (subst (Next (λ x. IsOver (perhaps_ports_on x))) (sym same) next, same)
f_perhaps_ports l ds ts rest (inl (none, inl (m, opens, (m1, same, close)))) next =
    inr (
      m,
      opens,
      (
        rest,
        inr
            (inr (
              rest,
              subst (λ us.
                  a_sign signs.CloseParenthesis us rest) (sym same) close,
              refl,
            )),
        refl,
      ),
    )
f_perhaps_ports l ds ts rest (inr (m, opens, are)) next =
    inr (m, opens, (rest, f_some_ports l ds m rest are, refl))

-- the port at a name, of the kind and the type before it
abbrev Port : Limits → Form → List Placed → List Placed → Type 0
Port l Q ts rest = (d : DeclarationTree) × (IsPort l d ⨾ Q) ts rest

b_port : (l : Limits) (Q : Form) (ts m rest : List Placed) → PortKind ts m → typed_form l Q m rest →
    Port l Q ts rest
b_port l Q ts m rest kind (m1, signed, (m2, range, (m3, label, (m4, (x, (p, name)), behind)))) =
    let signed = b_signed l m m1 signed in
    let range = b_range l m1 m2 range in
    let label = b_label l m2 m3 label in
    let d : DeclarationTree =
    declared_tree kind.0 signed.0 range.0 label.0 x p None in
    (d, (m4, (m, kind.1, (m3, (m1, signed.1, (m2, range.1, label.1)), (refl, name))), behind))

abbrev LaterDeclaration : Limits → DeclarationTree → List Placed → List Placed → Type 0
LaterDeclaration l a ts rest = (b : DeclarationTree) × Any b × LaterPort l a b ts rest

b_whole_port : (l : Limits) (a : DeclarationTree) (ts rest : List Placed) → Port l nothing ts rest →
    LaterDeclaration l a ts rest
b_whole_port l a ts rest (d, (m, is, same)) = subst (LaterDeclaration l a ts) same (d, tt, inl is)

b_later_port : (l : Limits) (a : DeclarationTree) (ts rest : List Placed) → Any a →
    later_port_form l ts rest → LaterDeclaration l a ts rest
b_later_port l a ts rest known (inl (m, is, (m1, wire, behind))) =
    b_whole_port l a ts rest (b_port l nothing ts m1 rest (b_input l ts m m1 is wire) behind)
b_later_port l a ts rest known (inr (inl (m, is, (m1, wire, behind)))) =
    b_whole_port l a ts rest (b_port l nothing ts m1 rest (b_output l ts m m1 is wire) behind)
b_later_port l a ts rest known (inr (inr (m, (x, (p, name)), same))) =
    let d : DeclarationTree =
    record a {
      name = x;
      place = p;
      value = None;
    } in
    subst (LaterDeclaration l a ts) same (d, tt, inr ((refl, refl, refl, refl), (refl, name)))

abbrev SomePorts : Limits → List Placed → List Placed → Type 0
SomePorts l ts rest = (ds : List DeclarationTree) × HeaderPorts l ds ts rest

b_some_ports : (l : Limits) (ts m rest : List Placed) → a_sign signs.OpenParenthesis ts m →
    Port l (more_ports_form l ⨾ nothing) m rest → SomePorts l ts rest
b_some_ports l ts m rest opens (d, (m1, is, (m2, (k, (m3, others, close)), same))) =
    let ds = b_later (LaterPort l) (later_port_form l) Any signs.CloseParenthesis (b_later_port l) d
    k m1 m3 m2 tt others close in
    subst (SomePorts l ts) same (d ∷ ds.0, inr (m, opens, (ds.1.0, (m1, is, ds.1.1), ds.1.2)))

b_ports : (l : Limits) (ts m rest : List Placed) → a_sign signs.OpenParenthesis ts m →
    ports_form l m rest → SomePorts l ts rest
b_ports l ts m rest opens (inl (m1, is, (m2, wire, behind))) =
    b_some_ports l ts m rest opens
    (b_port l (more_ports_form l ⨾ nothing) m m2 rest (b_input l m m1 m2 is wire) behind)
b_ports l ts m rest opens (inr (inl (m1, is, (m2, wire, behind)))) =
    b_some_ports l ts m rest opens
    (b_port l (more_ports_form l ⨾ nothing) m m2 rest (b_output l m m1 m2 is wire) behind)
b_ports l ts m rest opens (inr (inr (m1, close, same))) =
    subst (SomePorts l ts) same ([], inl (refl, inl (m, opens, (m, refl, close))))

pub b_perhaps_ports : (l : Limits) (ts rest : List Placed) → perhaps_ports_form l ts rest →
    SomePorts l ts rest
b_perhaps_ports l ts rest (inl (next, same)) = ([], inl (refl, inr same))
b_perhaps_ports l ts rest (inr (m, opens, (m1, inside, same))) =
    subst (SomePorts l ts) same (b_ports l ts m m1 opens inside)
