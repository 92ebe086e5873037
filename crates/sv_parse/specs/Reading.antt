-- Private: how the code goes. What the private functions say of what they read: from the tokens
-- that they are handed to those that they give back stands a form of the grammar.
use Rattle.std.specs.Prelude.{◌≡◌, ℕ, Bool, List, [], ◌∷◌, Option, Result}
use Rattle.std.specs.Borrow.{Bor}
use Rattle.sv_token.specs.declared.tokens.Token.{Token}
use Rattle.sv_token.specs.declared.signs.SignKind.TheVariants as signs
use Rattle.sv_num.specs.declared.faults.Place.{Place}
use Rattle.sv_token.specs.declared.keywords.WordKind.TheVariants as words
use Rattle.sv_ast.specs.declared.declarations.DeclKind.{DeclKind}
use Rattle.sv_ast.specs.declared.declarations.DeclKind.TheVariants as kinds
use Rattle.sv_ast.specs.Tree.{SpanTree, LabelTree, point_label, table_label, DeclarationTree}
use Rattle.sv_ast.specs.Tree.{ParameterTree}
use Rattle.sv_ast.specs.GrammarForms.{Form, ◌⨾◌, given, never, perhaps, optional, flag, name_at}
use Rattle.sv_ast.specs.GrammarForms.{a_name, a_word, a_sign}
use Rattle.sv_ast.specs.GrammarDeclarations.{IsRange, IsLabel, IsNamedPort, IsNamedSignal}
use Rattle.sv_ast.specs.GrammarDeclarations.{IsNamedParameter, IsParameterType}
use Rattle.sv_ast.specs.GrammarRules.{all_limits}
use Rattle.sv_parse_machine.specs.Symbols.{punctuation, items}
use Rattle.sv_parse_expr.specs.declared.stop.Input.{Input}
use Rattle.sv_parse_expr.specs.declared.stop.Stop.{Stop}
use Rattle.sv_parse_expr.specs.Parses.{Leads}

-- reading an item up to its `;`
abbrev pub LeadsToEnd : {A : Type 0} → Result (A × Bor (List Token)) Stop → Input → Type 0
LeadsToEnd result input =
    Leads result input (items ∷ []) (punctuation signs.Semicolon ∷ items ∷ [])

-- ---- declarations

-- a label with selectors, behind its map and the `(`
abbrev pub IsTableEnd : (map : List ℕ) → Place → LabelTree → Form
IsTableEnd map place (point_label x p) = never
IsTableEnd map place (table_label m s t p) =
    given ((m ≡ map) × (p ≡ place))
    (a_name s ⨾ perhaps (λ x. a_sign signs.Comma ⨾ a_name x) t ⨾ a_sign signs.CloseParenthesis
    ⨾ a_sign signs.CloseBrace)

-- a label, behind its brace
abbrev pub IsOpenLabel : LabelTree → Form
IsOpenLabel (point_label x p) = name_at x p ⨾ a_sign signs.CloseBrace
IsOpenLabel (table_label m s t p) =
    name_at m p
    ⨾ a_sign signs.OpenParenthesis
    ⨾ a_name s
    ⨾ perhaps (λ x. a_sign signs.Comma ⨾ a_name x) t
    ⨾ a_sign signs.CloseParenthesis
    ⨾ a_sign signs.CloseBrace

-- signedness, range and label of a declaration
abbrev pub IsTypedAs : Bool → Option SpanTree → Option LabelTree → Form
IsTypedAs signed span label =
    flag words.Signed signed ⨾ perhaps (IsRange all_limits) span ⨾ perhaps IsLabel label

abbrev pub IsTypeOf : Bool → Option SpanTree → Option LabelTree → DeclarationTree → Type 0
IsTypeOf signed span label d = (d.signed ≡ signed) × (d.span ≡ span) × (d.label ≡ label)

-- what stands behind `output`
abbrev pub IsOutputEnd : DeclKind → Form
IsOutputEnd kinds.OutputWire = optional (a_word words.Wire)
IsOutputEnd kinds.OutputReg = a_word words.Reg
IsOutputEnd _ = never

-- the name of a declaration of the kind and the type
abbrev pub IsNamedAs : DeclKind → Bool → Option SpanTree → Option LabelTree → DeclarationTree → Form
IsNamedAs kind signed span label d =
    given ((d.kind ≡ kind) × IsTypeOf signed span label d) (IsNamedPort d)

abbrev pub IsTypedPort : DeclKind → DeclarationTree → Form
IsTypedPort kind d = given (d.kind ≡ kind) (IsTypedAs d.signed d.span d.label ⨾ IsNamedPort d)

-- the name and the value of a `wire` of the type
abbrev pub IsWireAs : Bool → Option SpanTree → Option LabelTree → DeclarationTree → Form
IsWireAs signed span label d =
    given ((d.kind ≡ kinds.Wire) × IsTypeOf signed span label d) (IsNamedSignal all_limits d)

-- the name and the value of a parameter of the type
abbrev pub IsParameterAs : Bool → Bool → Option SpanTree → ParameterTree → Form
IsParameterAs local signed span q =
    given ((q.local ≡ local) × (q.signed ≡ signed)
    × (q.span ≡ span)) (IsNamedParameter all_limits q)

abbrev pub IsTypedParameter : Bool → ParameterTree → Form
IsTypedParameter local q =
    given (q.local ≡ local) (IsParameterType all_limits q.signed q.span
    ⨾ IsNamedParameter all_limits q)
