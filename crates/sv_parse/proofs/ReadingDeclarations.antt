-- How what is read of types, declarations and registers is put together.
use Rattle.std.proofs.Common.{◌≡◌, ℕ, Bool, false, List, [], ◌∷◌, Option, None, refl, sym, ◌∙◌}
use Rattle.std.proofs.Common.{subst}
use Rattle.sv_num.specs.declared.faults.Place.{Place}
use Rattle.sv_token.specs.declared.keywords.WordKind.TheVariants as words
use Rattle.sv_token.specs.declared.signs.SignKind.TheVariants as signs
use Rattle.sv_token.specs.Lexemes.{Placed}
use Rattle.sv_ast.specs.declared.declarations.DeclKind.{DeclKind}
use Rattle.sv_ast.specs.declared.declarations.DeclKind.TheVariants as kinds
use Rattle.sv_ast.specs.Tree.{ExpressionTree, SpanTree, LabelTree, point_label, table_label}
use Rattle.sv_ast.specs.Tree.{DeclarationTree, ParameterTree, MemoryLabelTree, MemoryTree}
use Rattle.sv_ast.specs.GrammarForms.{Form, ◌⨾◌, given, perhaps, flag, later, listed, name_at}
use Rattle.sv_ast.specs.GrammarForms.{a_word, a_sign}
use Rattle.sv_ast.specs.GrammarDeclarations.{IsValue, IsRange, IsLabel, equals, IsParameterType}
use Rattle.sv_ast.specs.GrammarDeclarations.{IsParameter, IsLaterParameter, IsHeaderParameter}
use Rattle.sv_ast.specs.GrammarDeclarations.{parameter_word, AreAlike, IsPortKind, IsNamedPort}
use Rattle.sv_ast.specs.GrammarDeclarations.{IsPort, IsSignalKind, IsSignalValue, IsNamedSignal}
use Rattle.sv_ast.specs.GrammarDeclarations.{IsSignal, AreSignals, IsMemoryLabel, IsMemory}
use Rattle.sv_ast.specs.GrammarRules.{all_limits}
use Rattle.sv_parse_machine.proofs.TreeParts.{declared_tree}
use Rattle.sv_parse.specs.Reading.{IsTableEnd, IsOpenLabel, IsTypedAs, IsTypeOf, IsOutputEnd}
use Rattle.sv_parse.specs.Reading.{IsNamedAs, IsTypedPort, IsWireAs, IsParameterAs}
use Rattle.sv_parse.specs.Reading.{IsTypedParameter}
use Rattle.sv_ast.specs.Views.{label_tree}
use Rattle.sv_parse.specs.declared.registers.RegLabel.{RegLabel}
use Rattle.sv_parse.specs.declared.registers.RegLabel.TheVariants as reg_label
use Rattle.sv_parse.specs.ReadingItems.{IsWire, IsWireLike, IsRegLabelEnd, IsOpenRegLabel}
use Rattle.sv_parse.specs.ReadingItems.{IsRegLabel, MayBeMemory, MayBeSignal, memory_label_of}
use Rattle.sv_parse.specs.ReadingItems.{signal_label_of, IsMemoryAs}

-- ---- types

pub range_is :
    (s : SpanTree) (ts a rest : List Placed) → a_sign signs.OpenBracket ts a →
    (IsValue all_limits s.high ⨾ a_sign signs.Colon ⨾ IsValue all_limits s.low
    ⨾ a_sign signs.CloseBracket) a rest →
    IsRange all_limits s ts rest
range_is s ts a rest opens h =
    let second = h.2 in
    let third = second.2 in
    (a, opens, (third.0, (h.0, h.1, (second.0, second.1, third.1)), third.2))

pub label_is : (l : LabelTree) (ts a rest : List Placed) → a_sign signs.OpenBrace ts a →
    IsOpenLabel l a rest → IsLabel l ts rest
label_is (point_label x p) ts a rest opens h = (a, opens, h)
label_is (table_label m s t p) ts a rest opens h =
    let second = h.2 in
    let third = second.2 in
    let fourth = third.2 in
    let last = fourth.2 in (
      a,
      opens,
      (
        last.0,
        (
          h.0,
          h.1,
          (second.0, second.1, (fourth.0, (third.0, third.1, fourth.1), last.1)),
        ),
        last.2,
      ),
    )

pub open_label_is :
    (x : List ℕ) (q : Place) (l : LabelTree) (ts a b rest : List Placed) →
    name_at x q ts a → a_sign signs.OpenParenthesis a b → IsTableEnd x q l b rest →
    IsOpenLabel l ts rest
open_label_is x q (point_label y p) ts a b rest name opens h = absurd h
open_label_is x q (table_label m s t p) ts a b rest name opens h =
    let same = h.0 in (
      a,
      subst (λ (y : List ℕ).
          name_at y p ts a) (sym same.0)
          (subst (λ (r : Place). name_at x r ts a) (sym same.1) name),
      (b, opens, h.1),
    )

-- ---- parameters

pub typed_parameter :
    (local signed : Bool) (span : Option SpanTree) (q : ParameterTree) (ts a rest : List Placed) →
    IsParameterType all_limits signed span ts a → IsParameterAs local signed span q a rest →
    IsTypedParameter local q ts rest
typed_parameter local signed span q ts a rest typed h =
    let same = h.0 in (
      same.0,
      (
        a,
        subst (λ (x : Bool). IsParameterType all_limits x q.span ts a) (sym same.1)
            (subst (λ (x : Option SpanTree).
            IsParameterType all_limits signed x ts a) (sym same.2) typed),
        h.1,
      ),
    )

pub later_parameter :
    (before q : ParameterTree) (span : Option SpanTree) (ts rest : List Placed) →
    span ≡ before.span → IsParameterAs before.local before.signed span q ts rest →
    IsLaterParameter all_limits before q ts rest
later_parameter before q span ts rest eq h =
    let same = h.0 in
    ((same.0, same.1, same.2 ∙ eq), h.1)

pub parameter_is :
    (local : Bool) (q : ParameterTree) (ts a rest : List Placed) →
    a_word (parameter_word local) ts a → IsTypedParameter local q a rest →
    IsParameter all_limits q ts rest
parameter_is local q ts a rest word h =
    (a, subst (λ (x : Bool). a_word (parameter_word x) ts a) (sym h.0) word, h.1)

pub header_parameter_is :
    (q : ParameterTree) (ts a rest : List Placed) →
    a_word words.Parameter ts a → IsTypedParameter false q a rest →
    IsHeaderParameter all_limits q ts rest
header_parameter_is q ts a rest word h = (h.0, parameter_is false q ts a rest word h)

-- ---- ports and signals

pub output_is :
    (kind : DeclKind) (ts a rest : List Placed) → a_word words.Output ts a →
    IsOutputEnd kind a rest → IsPortKind kind ts rest
output_is kinds.Input ts a rest word h = absurd h
output_is kinds.OutputWire ts a rest word h = (a, word, h)
output_is kinds.OutputReg ts a rest word h = (a, word, h)
output_is kinds.Wire ts a rest word h = absurd h
output_is kinds.Reg ts a rest word h = absurd h

pub named_as :
    (kind : DeclKind) (signed : Bool) (span : Option SpanTree) (label : Option LabelTree)
    (x : List ℕ) (p : Place)
    (d : DeclarationTree) (ts rest : List Placed) →
    d ≡ declared_tree kind signed span label x p None →
    name_at x p ts rest → IsNamedAs kind signed span label d ts rest
named_as kind signed span label x p d ts rest eq h =
    subst (λ (e : DeclarationTree).
    IsNamedAs kind signed span label e ts rest) (sym eq) ((refl, (refl, refl, refl)), (refl, h))

pub alike_port :
    (before d : DeclarationTree) (signed : Bool) (span : Option SpanTree) (label : Option LabelTree)
    (ts rest : List Placed) →
    IsTypeOf signed span label before → IsNamedAs before.kind signed span label d ts rest →
    (given (AreAlike before d) (IsNamedPort d)) ts rest
alike_port before d signed span label ts rest of h =
    let same = h.0 in
    let is : IsTypeOf signed span label d = same.1 in
    ((same.0, is.0 ∙ sym of.0, is.1 ∙ sym of.1, is.2 ∙ sym of.2), h.1)

typed_again :
    (signed : Bool) (span : Option SpanTree) (label : Option LabelTree) (d : DeclarationTree)
    (ts rest : List Placed) →
    IsTypeOf signed span label d → IsTypedAs signed span label ts rest →
    IsTypedAs d.signed d.span d.label ts rest
typed_again signed span label d ts rest of h =
    subst (λ (x : Bool). IsTypedAs x d.span d.label ts rest) (sym of.0)
    (subst (λ (x : Option SpanTree). IsTypedAs signed x d.label ts rest) (sym of.1)
    (subst (λ (x : Option LabelTree). IsTypedAs signed span x ts rest) (sym of.2) h))

pub typed_port :
    (kind : DeclKind) (signed : Bool) (span : Option SpanTree) (label : Option LabelTree)
    (d : DeclarationTree) (ts a rest : List Placed) →
    IsTypedAs signed span label ts a → IsNamedAs kind signed span label d a rest →
    IsTypedPort kind d ts rest
typed_port kind signed span label d ts a rest typed h =
    let same = h.0 in
    (same.0, (a, typed_again signed span label d ts a same.1 typed, h.1))

pub port_is :
    (kind : DeclKind) (d : DeclarationTree) (ts a rest : List Placed) →
    IsPortKind kind ts a → IsTypedPort kind d a rest → IsPort all_limits d ts rest
port_is kind d ts a rest word h =
    (a, subst (λ (x : DeclKind). IsPortKind x ts a) (sym h.0) word, h.1)

pub wire_as :
    (signed : Bool) (span : Option SpanTree) (label : Option LabelTree) (x : List ℕ) (p : Place)
    (value : Option ExpressionTree)
    (d : DeclarationTree) (ts a rest : List Placed) →
    d ≡ declared_tree kinds.Wire signed span label x p value →
    name_at x p ts a → perhaps (equals all_limits) value a rest →
    IsWireAs signed span label d ts rest
wire_as signed span label x p value d ts a rest eq name h =
    subst (λ (e : DeclarationTree).
    IsWireAs signed span label e ts rest) (sym eq) ((refl, (refl, refl, refl)), (a, name, h))

pub wire_is :
    (signed : Bool) (span : Option SpanTree) (label : Option LabelTree) (d : DeclarationTree)
    (ts a b rest : List Placed) →
    a_word words.Wire ts a → IsTypedAs signed span label a b → IsWireAs signed span label d b rest →
    IsWire d ts rest
wire_is signed span label d ts a b rest word typed h =
    let same = h.0 in (
      same.0,
      (
        a,
        subst (λ (x : DeclKind).
            IsSignalKind x ts a) (sym same.0)
            word,
        (b, typed_again signed span label d a b same.1 typed, h.1),
      ),
    )

pub wire_like :
    (before d : DeclarationTree) (signed : Bool) (span : Option SpanTree) (label : Option LabelTree)
    (ts rest : List Placed) →
    IsTypeOf signed span label before → IsWireAs signed span label d ts rest →
    IsWireLike before d ts rest
wire_like before d signed span label ts rest of h =
    let same = h.0 in
    let is : IsTypeOf signed span label d = same.1 in
    ((same.0, (is.0 ∙ sym of.0, is.1 ∙ sym of.1, is.2 ∙ sym of.2)), h.1)

later_wires :
    (before : DeclarationTree) (ds : List DeclarationTree) (ts rest : List Placed) →
    before.kind ≡ kinds.Wire →
    later IsWireLike before ds ts rest →
    later (λ b d. given (AreAlike b d) (IsNamedSignal all_limits d)) before ds ts rest
later_wires before [] ts rest kind h = h
later_wires before (d ∷ ds) ts rest kind h =
    let second = h.2 in
    let like = second.1 in
    let same = like.0 in
    let of = same.1 in (
      h.0,
      h.1,
      (
        second.0,
        ((same.0 ∙ sym kind, of.0, of.1, of.2), like.1),
        later_wires d ds second.0
            rest same.0 second.2,
      ),
    )

pub wires_are : (ds : List DeclarationTree) (ts rest : List Placed) →
    listed IsWire IsWireLike ds ts rest → AreSignals all_limits ds ts rest
wires_are [] ts rest h = absurd h
wires_are (d ∷ ds) ts rest h =
    let first = h.1 in
    (h.0, first.1, later_wires d ds h.0 rest first.0 h.2)

no_value : (kind : DeclKind) (rest : List Placed) → kind ≡ kind →
    IsSignalValue all_limits kind None rest rest
no_value kinds.Input rest e = (refl, refl)
no_value kinds.OutputWire rest e = (refl, refl)
no_value kinds.OutputReg rest e = (refl, refl)
no_value kinds.Wire rest e = refl
no_value kinds.Reg rest e = (refl, refl)

named_signal : (d : DeclarationTree) (ts rest : List Placed) → IsNamedPort d ts rest →
    IsNamedSignal all_limits d ts rest
named_signal d ts rest h = (
  rest,
  h.1,
  subst (λ (v : Option ExpressionTree).
      IsSignalValue all_limits d.kind v rest rest) (sym h.0) (no_value d.kind rest refl),
)

pub alike_register :
    (before d : DeclarationTree) (ts rest : List Placed) →
    (given (AreAlike before d) (IsNamedPort d)) ts rest →
    (given (AreAlike before d) (IsNamedSignal all_limits d)) ts rest
alike_register before d ts rest h = (h.0, named_signal d ts rest h.1)

-- ---- registers

pub open_reg_label_is :
    (x : List ℕ) (q : Place) (l : RegLabel) (ts a b rest : List Placed) →
    name_at x q ts a → a_sign signs.OpenParenthesis a b → IsRegLabelEnd x q l b rest →
    IsOpenRegLabel l ts rest
open_reg_label_is x q reg_label.None ts a b rest name opens h = absurd h
open_reg_label_is x q (reg_label.Point y p) ts a b rest name opens h = absurd h
open_reg_label_is x q (reg_label.Table l) ts a b rest name opens h =
    (x, q, (a, name, (b, opens, h)))
open_reg_label_is x q (reg_label.ByIndex y p) ts a b rest name opens h =
    let same = h.0 in (
      a,
      subst (λ (z : List ℕ).
          name_at z p ts a) (sym same.0)
          (subst (λ (r : Place). name_at x r ts a) (sym same.1) name),
      (b, opens, h.1),
    )

pub reg_label_is : (l : RegLabel) (ts a rest : List Placed) → a_sign signs.OpenBrace ts a →
    IsOpenRegLabel l a rest → IsRegLabel l ts rest
reg_label_is reg_label.None ts a rest opens h = absurd h
reg_label_is (reg_label.Point x p) ts a rest opens h = (a, opens, h)
reg_label_is (reg_label.Table l) ts a rest opens h =
    let body = h.2 in
    let second = body.2 in
    label_is (label_tree l) ts a rest opens
    (open_label_is h.0 h.1 (label_tree l) a body.0 second.0 rest body.1 second.1 second.2)
reg_label_is (reg_label.ByIndex x p) ts a rest opens h =
    let second = h.2 in
    let third = second.2 in
    let last = third.2 in
    (a, opens, (last.0, (h.0, h.1, (second.0, second.1, (third.0, third.1, last.1))), last.2))

pub by_index_end : (x : List ℕ) (p : Place) (ts a b rest : List Placed) →
    a_sign signs.Hash ts a → a_sign signs.CloseParenthesis a b → a_sign signs.CloseBrace b rest →
    IsRegLabelEnd x p (reg_label.ByIndex x p) ts rest
by_index_end x p ts a b rest first second third = ((refl, refl), (a, first, (b, second, third)))

-- the label of a memory, where it is none of a register alone
memory_label_is : (l : RegLabel) (ts rest : List Placed) → MayBeMemory l → IsRegLabel l ts rest →
    perhaps IsMemoryLabel (memory_label_of l) ts rest
memory_label_is reg_label.None ts rest may h = h
memory_label_is (reg_label.Point x p) ts rest may h = h
memory_label_is (reg_label.Table l) ts rest may h = absurd may
memory_label_is (reg_label.ByIndex x p) ts rest may h = h

-- the label of a register, where it is none of a memory alone
signal_label_is : (l : RegLabel) (ts rest : List Placed) → MayBeSignal l → IsRegLabel l ts rest →
    perhaps IsLabel (signal_label_of l) ts rest
signal_label_is reg_label.None ts rest may h = h
signal_label_is (reg_label.Point x p) ts rest may h = h
signal_label_is (reg_label.Table l) ts rest may h = h
signal_label_is (reg_label.ByIndex x p) ts rest may h = absurd may

-- what stands behind `reg` up to the name
abbrev pub IsRegType : Bool → Option SpanTree → RegLabel → Form
IsRegType signed span l =
    flag words.Signed signed ⨾ perhaps (IsRange all_limits) span ⨾ IsRegLabel l

pub memory_is :
    (signed : Bool) (span : Option SpanTree) (l : RegLabel) (x : List ℕ) (p : Place)
    (m : MemoryTree) (ts a b c rest : List Placed) →
    a_word words.Reg ts a → IsRegType signed span l a b → name_at x p b c → MayBeMemory l →
    IsMemoryAs signed span (memory_label_of l) x p m c rest →
    IsMemory all_limits m ts rest
memory_is signed span l x p m ts a b c rest word typed name may h =
    let same = h.0 in
    let second = typed.2 in (
      a,
      word,
      (
        typed.0,
        subst (λ (s : Bool). flag words.Signed s a typed.0) (sym same.0) typed.1,
        (
          second.0,
          subst (λ (s : Option SpanTree).
              perhaps (IsRange all_limits) s typed.0 second.0) (sym same.1) second.1,
          (
            b,
            subst (λ (s : Option MemoryLabelTree).
                perhaps IsMemoryLabel s second.0 b) (sym same.2)
                (memory_label_is l second.0 b may second.2),
            (
              c,
              subst (λ (y : List ℕ).
                  name_at y m.place b c) (sym same.3)
                  (subst (λ (q : Place). name_at x q b c) (sym same.4) name),
              h.1,
            ),
          ),
        ),
      ),
    )

pub first_register_is :
    (signed : Bool) (span : Option SpanTree) (l : RegLabel) (x : List ℕ) (p : Place)
    (d : DeclarationTree) (ts a b c : List Placed) →
    d ≡ declared_tree kinds.Reg signed span (signal_label_of l) x p None →
    a_word words.Reg ts a → IsRegType signed span l a b → name_at x p b c → MayBeSignal l →
    IsSignal all_limits d ts c
first_register_is signed span l x p d ts a b c eq word typed name may =
    let second = typed.2 in
    subst (λ (e : DeclarationTree). IsSignal all_limits e ts c) (sym eq) (
      a,
      word,
      (
        b,
        (
          typed.0,
          typed.1,
          (second.0, second.1, signal_label_is l second.0 b may second.2),
        ),
        (c, name, (refl, refl)),
      ),
    )
