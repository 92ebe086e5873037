-- Private: how the code goes. What the private functions say of what they read of items, modules,
-- lattices and label maps.
use Rattle.std.specs.Prelude.{◌≡◌, ℕ, Bool, List, [], ◌++◌, flat_map, Option, Some, None}
use Rattle.sv_num.specs.declared.faults.Place.{Place}
use Rattle.sv_num.specs.declared.operators.BinOp.TheVariants.{Mul}
use Rattle.sv_token.specs.declared.keywords.WordKind.TheVariants as words
use Rattle.sv_token.specs.declared.signs.SignKind.TheVariants as signs
use Rattle.sv_token.specs.Lexemes.{Placed, literal_of}
use Rattle.sv_ast.specs.declared.declarations.DeclKind.TheVariants as kinds
use Rattle.sv_ast.specs.Tree.{SpanTree, LabelTree, point_label, DeclarationTree, ParameterTree}
use Rattle.sv_ast.specs.Tree.{MemoryLabelTree, memory_point, by_index, MemoryTree, OverrideTrees}
use Rattle.sv_ast.specs.Tree.{named_overrides, ordered_overrides, InstanceTree, PlacedName}
use Rattle.sv_ast.specs.Tree.{PairTree, literal}
use Rattle.sv_ast.specs.Views.{label_tree}
use Rattle.sv_ast.specs.GrammarForms.{Form, ◌⨾◌, ◌or◌, given, nothing, never, optional, each}
use Rattle.sv_ast.specs.GrammarForms.{name_at, a_word, a_sign, a_number, somewhere, binary_at}
use Rattle.sv_ast.specs.GrammarForms.{commas, in_parentheses, in_braces, in_brackets}
use Rattle.sv_ast.specs.GrammarDeclarations.{IsValue, IsLabel, AreHeaderParameters, ArePorts}
use Rattle.sv_ast.specs.GrammarDeclarations.{IsSignal, IsNamedSignal}
use Rattle.sv_ast.specs.GrammarModules.{IsPlacedName, IsNamedOverride, hash_parentheses}
use Rattle.sv_ast.specs.GrammarModules.{IsNamedInstance, LatticeLine, IsLatticeLine, points_of}
use Rattle.sv_ast.specs.GrammarModules.{pairs_of, IsNumber}
use Rattle.sv_ast.specs.GrammarRules.{all_limits}
use Rattle.sv_parse.specs.declared.label_maps.KeyRange.{KeyRange}
use Rattle.sv_parse.specs.declared.registers.RegLabel.{RegLabel}
use Rattle.sv_parse.specs.declared.registers.RegLabel.TheVariants as reg_label
use Rattle.sv_parse.specs.Reading.{IsTableEnd, IsTypeOf}

-- ---- wires

abbrev pub IsWire : DeclarationTree → Form
IsWire d = given (d.kind ≡ kinds.Wire) (IsSignal all_limits d)

-- a `wire` with signedness, range and label of the one before it
abbrev pub IsWireLike : DeclarationTree → DeclarationTree → Form
IsWireLike before d =
    given ((d.kind ≡ kinds.Wire) × IsTypeOf before.signed before.span before.label d)
    (IsNamedSignal all_limits d)

-- ---- registers and memories

-- a label of a register or of a memory
abbrev pub IsRegLabel : RegLabel → Form
IsRegLabel reg_label.None = nothing
IsRegLabel (reg_label.Point x p) = in_braces (name_at x p)
IsRegLabel (reg_label.Table l) = IsLabel (label_tree l)
IsRegLabel (reg_label.ByIndex x p) = in_braces (name_at x p ⨾ in_parentheses (a_sign signs.Hash))

-- behind its brace
abbrev pub IsOpenRegLabel : RegLabel → Form
IsOpenRegLabel reg_label.None = never
IsOpenRegLabel (reg_label.Point x p) = name_at x p ⨾ a_sign signs.CloseBrace
IsOpenRegLabel (reg_label.Table l) =
    λ ts rest. (x : List ℕ) × (p : Place)
    × (name_at x p ⨾ a_sign signs.OpenParenthesis ⨾ IsTableEnd x p (label_tree l)) ts rest
IsOpenRegLabel (reg_label.ByIndex x p) =
    name_at x p ⨾ a_sign signs.OpenParenthesis ⨾ a_sign signs.Hash ⨾ a_sign signs.CloseParenthesis
    ⨾ a_sign signs.CloseBrace

-- behind its map and the `(`
abbrev pub IsRegLabelEnd : (map : List ℕ) → Place → RegLabel → Form
IsRegLabelEnd map place (reg_label.Table l) = IsTableEnd map place (label_tree l)
IsRegLabelEnd map place (reg_label.ByIndex x p) =
    given ((x ≡ map) × (p ≡ place)) (a_sign signs.Hash ⨾ a_sign signs.CloseParenthesis
    ⨾ a_sign signs.CloseBrace)
IsRegLabelEnd map place _ = never

abbrev pub MayBeMemory : RegLabel → Type 0
MayBeMemory (reg_label.Table l) = ⊥
MayBeMemory _ = Unit {0}

abbrev pub MayBeSignal : RegLabel → Type 0
MayBeSignal (reg_label.ByIndex x p) = ⊥
MayBeSignal _ = Unit {0}

abbrev pub memory_label_of : RegLabel → Option MemoryLabelTree
memory_label_of (reg_label.Point x p) = Some (memory_point x p)
memory_label_of (reg_label.ByIndex x p) = Some (by_index x p)
memory_label_of _ = None

abbrev pub signal_label_of : RegLabel → Option LabelTree
signal_label_of (reg_label.Point x p) = Some (point_label x p)
signal_label_of (reg_label.Table l) = Some (label_tree l)
signal_label_of _ = None

-- the bounds of a memory of the type and the name
abbrev pub IsMemoryAs : Bool → Option SpanTree → Option MemoryLabelTree → List ℕ → Place →
    MemoryTree → Form
IsMemoryAs signed span label name place m =
    given ((m.signed ≡ signed) × (m.span ≡ span) × (m.label ≡ label) × (m.name ≡ name)
    × (m.place ≡ place))
    (in_brackets (a_number m.first ⨾ a_sign signs.Colon ⨾ a_number m.last))

-- ---- instances

-- overrides inside their parentheses
abbrev pub AreOpenOverrides : OverrideTrees → Form
AreOpenOverrides (named_overrides os) = commas (IsNamedOverride all_limits) os
AreOpenOverrides (ordered_overrides es) = commas (IsValue all_limits) es

abbrev pub IsInstanceAs : (master : List ℕ) → Place → OverrideTrees → InstanceTree → Form
IsInstanceAs master place overrides i =
    given ((i.master ≡ master) × (i.place ≡ place)
    × (i.overrides ≡ overrides)) (IsNamedInstance all_limits i)

-- ---- `always`

-- what wakes a process, behind the `(`
abbrev pub IsOpenEvent : Option PlacedName → Form
IsOpenEvent None = somewhere (binary_at Mul) ⨾ a_sign signs.CloseParenthesis
IsOpenEvent (Some clock) = a_word words.Posedge ⨾ IsPlacedName clock ⨾ a_sign signs.CloseParenthesis

-- ---- modules

abbrev pub AreParameterList : List ParameterTree → Form
AreParameterList ps =
    given (ps ≡ []) nothing or hash_parentheses (AreHeaderParameters all_limits ps)

abbrev pub AreOpenPorts : List DeclarationTree → Form
AreOpenPorts ds = given (ds ≡ []) nothing or ArePorts all_limits ds

abbrev pub ArePortList : List DeclarationTree → Form
ArePortList ds =
    given (ds ≡ []) (optional (in_parentheses nothing)) or in_parentheses (ArePorts all_limits ds)

abbrev pub IsHeaderOf : List ℕ → Place → List ParameterTree → List DeclarationTree → Form
IsHeaderOf name place ps ds =
    a_word words.Module ⨾ name_at name place ⨾ AreParameterList ps ⨾ ArePortList ds
    ⨾ a_sign signs.Semicolon

-- ---- lattices and label maps

-- one more line, of these points and pairs before and behind it
pub record IsOneMore (points : List PlacedName) (pairs : List PairTree)
    (all_points : List PlacedName) (all_pairs : List PairTree) (ts rest : List Placed) :
    Type 0 where
  pub line : LatticeLine
  pub points_are : all_points ≡ points ++ points_of line
  pub pairs_are : all_pairs ≡ pairs ++ pairs_of line
  pub is : IsLatticeLine line ts rest

-- the lines of a lattice, and its last word
pub record AreLines (points : List PlacedName) (pairs : List PairTree) (ts rest : List Placed) :
    Type 0 where
  pub lines : List LatticeLine
  pub points_are : points ≡ flat_map points_of lines
  pub pairs_are : pairs ≡ flat_map pairs_of lines
  pub are : (each IsLatticeLine lines ⨾ a_word words.Endlattice) ts rest

-- the tree of a range of a label map
abbrev pub range_tree : KeyRange → SpanTree
range_tree r = record {
  high = literal (literal_of r.high) r.high_place;
  low = literal (literal_of r.low) r.low_place;
}

-- a range of a label map, behind its `[`
abbrev pub IsOpenKeyRange : SpanTree → Form
IsOpenKeyRange s = IsNumber s.high ⨾ a_sign signs.Colon ⨾ IsNumber s.low ⨾ a_sign signs.CloseBracket
