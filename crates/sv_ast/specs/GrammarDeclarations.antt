-- Parameters, ports, signals and memories (IEEE 1364-2005, annex A and clause 4; labels are those
-- of SecVerilog, ASPLOS 2015).
use Rattle.std.specs.Prelude.{◌≡◌, Bool, true, false, List, Option, Some, None}
use Rattle.sv_token.specs.declared.keywords.WordKind.{WordKind}
use Rattle.sv_token.specs.declared.keywords.WordKind.TheVariants as words
use Rattle.sv_token.specs.declared.signs.SignKind.TheVariants as signs
use Rattle.sv_ast.specs.declared.declarations.DeclKind.{DeclKind}
use Rattle.sv_ast.specs.declared.declarations.DeclKind.TheVariants as kinds
use Rattle.sv_ast.specs.Tree.{ExpressionTree, SpanTree, LabelTree, point_label, table_label}
use Rattle.sv_ast.specs.Tree.{DeclarationTree, ParameterTree, MemoryLabelTree, memory_point}
use Rattle.sv_ast.specs.Tree.{by_index, MemoryTree}
use Rattle.sv_ast.specs.GrammarForms.{Form, ◌⨾◌, ◌or◌, given, nothing, never, optional, perhaps}
use Rattle.sv_ast.specs.GrammarForms.{flag, name_at, a_word, a_sign, a_name, a_number, listed}
use Rattle.sv_ast.specs.GrammarForms.{in_parentheses, in_brackets, in_braces}
use Rattle.sv_ast.specs.GrammarExpressions.{Limits, IsExpression}

-- ---- types

-- an expression around which no level is open
abbrev pub IsValue : Limits → ExpressionTree → Form
IsValue l e = IsExpression l 0 e

abbrev pub IsRange : Limits → SpanTree → Form
IsRange l s = in_brackets (IsValue l s.high ⨾ a_sign signs.Colon ⨾ IsValue l s.low)

abbrev pub IsLabel : LabelTree → Form
IsLabel (point_label x p) = in_braces (name_at x p)
IsLabel (table_label m s t p) =
    in_braces (name_at m p
    ⨾ in_parentheses (a_name s ⨾ perhaps (λ x. a_sign signs.Comma ⨾ a_name x) t))

-- `signed` or not, a range or none, a label or none
abbrev pub IsTyped : Limits → DeclarationTree → Form
IsTyped l d = flag words.Signed d.signed ⨾ perhaps (IsRange l) d.span ⨾ perhaps IsLabel d.label

-- `= e`
abbrev pub equals : Limits → ExpressionTree → Form
equals l e = a_sign signs.Equals ⨾ IsValue l e

-- ---- parameters

-- a parameter is signed only where it has a range
abbrev pub IsParameterType : Limits → Bool → Option SpanTree → Form
IsParameterType l signed (Some s) = flag words.Signed signed ⨾ IsRange l s
IsParameterType l false None = nothing
IsParameterType l true None = never

abbrev pub IsNamedParameter : Limits → ParameterTree → Form
IsNamedParameter l q = name_at q.name q.place ⨾ equals l q.value

abbrev pub parameter_word : (local : Bool) → WordKind
parameter_word true = words.Localparam
parameter_word false = words.Parameter

-- `parameter` or `localparam` with type, name and value
abbrev pub IsParameter : Limits → ParameterTree → Form
IsParameter l q =
    a_word (parameter_word q.local) ⨾ IsParameterType l q.signed q.span ⨾ IsNamedParameter l q

-- a parameter without the word takes word, signedness and range of the one before it
abbrev pub IsLaterParameter : Limits → ParameterTree → ParameterTree → Form
IsLaterParameter l before q =
    given ((q.local ≡ before.local) × (q.signed ≡ before.signed)
    × (q.span ≡ before.span)) (IsNamedParameter l q)

abbrev pub AreParameters : Limits → List ParameterTree → Form
AreParameters l = listed (IsParameter l) (IsLaterParameter l)

-- in a module's header each may have the word, and none is local
abbrev pub IsHeaderParameter : Limits → ParameterTree → Form
IsHeaderParameter l q = given (q.local ≡ false) (IsParameter l q)

abbrev pub AreHeaderParameters : Limits → List ParameterTree → Form
AreHeaderParameters l =
    listed (IsHeaderParameter l) (λ before q. IsHeaderParameter l q or IsLaterParameter l before q)

-- ---- ports and signals

-- the declarations have one kind, signedness, range and label
abbrev pub AreAlike : DeclarationTree → DeclarationTree → Type 0
AreAlike d e = (e.kind ≡ d.kind) × (e.signed ≡ d.signed) × (e.span ≡ d.span) × (e.label ≡ d.label)

abbrev pub IsPortKind : DeclKind → Form
IsPortKind kinds.Input = a_word words.Input ⨾ optional (a_word words.Wire)
IsPortKind kinds.OutputWire = a_word words.Output ⨾ optional (a_word words.Wire)
IsPortKind kinds.OutputReg = a_word words.Output ⨾ a_word words.Reg
IsPortKind _ = never

abbrev pub IsNamedPort : DeclarationTree → Form
IsNamedPort d = given (d.value ≡ None) (name_at d.name d.place)

abbrev pub IsPort : Limits → DeclarationTree → Form
IsPort l d = IsPortKind d.kind ⨾ IsTyped l d ⨾ IsNamedPort d

-- a name alone takes kind, signedness, range and label of the port before it
abbrev pub ArePorts : Limits → List DeclarationTree → Form
ArePorts l = listed (IsPort l) (λ before d. IsPort l d or given (AreAlike before d) (IsNamedPort d))

-- a `wire` may have a value, a `reg` has none
abbrev pub IsSignalKind : DeclKind → Form
IsSignalKind kinds.Wire = a_word words.Wire
IsSignalKind kinds.Reg = a_word words.Reg
IsSignalKind _ = never

abbrev pub IsSignalValue : Limits → DeclKind → Option ExpressionTree → Form
IsSignalValue l kinds.Wire value = perhaps (equals l) value
IsSignalValue l _ value = given (value ≡ None) nothing

abbrev pub IsNamedSignal : Limits → DeclarationTree → Form
IsNamedSignal l d = name_at d.name d.place ⨾ IsSignalValue l d.kind d.value

abbrev pub IsSignal : Limits → DeclarationTree → Form
IsSignal l d = IsSignalKind d.kind ⨾ IsTyped l d ⨾ IsNamedSignal l d

-- a later name takes kind, signedness, range and label of the one before it
abbrev pub AreSignals : Limits → List DeclarationTree → Form
AreSignals l = listed (IsSignal l) (λ before d. given (AreAlike before d) (IsNamedSignal l d))

-- ---- memories (this project's profile)

abbrev pub IsMemoryLabel : MemoryLabelTree → Form
IsMemoryLabel (memory_point x p) = in_braces (name_at x p)
IsMemoryLabel (by_index x p) = in_braces (name_at x p ⨾ in_parentheses (a_sign signs.Hash))

abbrev pub IsMemory : Limits → MemoryTree → Form
IsMemory l m =
    a_word words.Reg
    ⨾ flag words.Signed m.signed
    ⨾ perhaps (IsRange l) m.span
    ⨾ perhaps IsMemoryLabel m.label
    ⨾ name_at m.name m.place
    ⨾ in_brackets (a_number m.first ⨾ a_sign signs.Colon ⨾ a_number m.last)
