-- Items, modules and whole texts (IEEE 1364-2005, annex A and clause 12; lattices and label maps
-- are those of SecVerilog, ASPLOS 2015; invariants and released values are this project's profile).
use Rattle.std.specs.Prelude.{◌≡◌, ℕ, List, [], ◌∷◌, map, flat_map, Option, Some, None}
use Rattle.sv_num.specs.declared.operators.BinOp.TheVariants.{Mul, Le}
use Rattle.sv_num.specs.declared.faults.Place.{Place}
use Rattle.sv_token.specs.declared.keywords.WordKind.TheVariants as words
use Rattle.sv_token.specs.declared.signs.SignKind.TheVariants as signs
use Rattle.sv_token.specs.Lexemes.{Placed}
use Rattle.sv_ast.specs.Tree.{ExpressionTree, literal, named, bit_of, part_of, unary, binary}
use Rattle.sv_ast.specs.Tree.{choice, join, replication, whole, TargetTree, SpanTree, NamedOverride}
use Rattle.sv_ast.specs.Tree.{OverrideTrees, named_overrides, ordered_overrides, NamedLink}
use Rattle.sv_ast.specs.Tree.{LinkTrees, named_links, ordered_links, InstanceTree, PlacedName}
use Rattle.sv_ast.specs.Tree.{ItemTree, parameter_item, declared, memory_item, continuous, released}
use Rattle.sv_ast.specs.Tree.{always_item, invariant_item, instance_item, ModuleTree, PairTree}
use Rattle.sv_ast.specs.Tree.{LatticeTree, RowTree, KeyTree, MapTree, TextTree}
use Rattle.sv_ast.specs.GrammarForms.{Form, ◌⨾◌, ◌or◌, given, nothing, never, optional, perhaps}
use Rattle.sv_ast.specs.GrammarForms.{each, some, word_at, name_at, number_at, a_word, a_sign}
use Rattle.sv_ast.specs.GrammarForms.{a_name, somewhere, binary_at, listed, commas, in_parentheses}
use Rattle.sv_ast.specs.GrammarForms.{in_brackets}
use Rattle.sv_ast.specs.GrammarExpressions.{Limits}
use Rattle.sv_ast.specs.GrammarStatements.{AreTargets, BeginAt, only, IsStatement}
use Rattle.sv_ast.specs.GrammarDeclarations.{IsValue, equals, AreParameters, AreHeaderParameters}
use Rattle.sv_ast.specs.GrammarDeclarations.{ArePorts, AreSignals, IsMemory}

-- a name with its place
abbrev pub IsPlacedName : PlacedName → Form
IsPlacedName x = name_at x.name x.place

-- ---- `assign`, `always`, `invariant`

-- a target of an `assign` item is a whole signal
abbrev pub IsWholeTarget : TargetTree → Form
IsWholeTarget t = given (t.selection ≡ whole) (name_at t.name t.place)

abbrev pub IsContinuous : Limits → ItemTree → Form
IsContinuous l (continuous targets p e) =
    given (BeginAt p targets) (AreTargets IsWholeTarget targets ⨾ equals l e)
IsContinuous l _ = never

abbrev pub AreContinuous : Limits → List ItemTree → Form
AreContinuous l items = a_word words.Assign ⨾ commas (IsContinuous l) items

abbrev pub IsReleased : Limits → ItemTree → Form
IsReleased l (released target e point) =
    a_word words.Assign
    ⨾ IsPlacedName target
    ⨾ a_sign signs.Equals
    ⨾ a_word words.Release
    ⨾ in_parentheses (IsValue l e ⨾ a_sign signs.Comma ⨾ IsPlacedName point)
IsReleased l _ = never

-- what wakes a process: any signal it reads, or the edge of a clock
abbrev pub IsEvent : Option PlacedName → Form
IsEvent None = somewhere (binary_at Mul) or in_parentheses (somewhere (binary_at Mul))
IsEvent (Some clock) = in_parentheses (a_word words.Posedge ⨾ IsPlacedName clock)

abbrev pub IsAlways : Limits → ItemTree → Form
IsAlways l (always_item p clock s) =
    word_at words.Always p ⨾ a_sign signs.At ⨾ IsEvent clock ⨾ IsStatement l 0 s
IsAlways l _ = never

-- the place of an expression: of its operator, its `?`, its first brace, or else its first token
abbrev pub place_of : ExpressionTree → Place
place_of (literal v p) = p
place_of (named x p) = p
place_of (bit_of x p i) = p
place_of (part_of x p high low) = p
place_of (unary op p e) = p
place_of (binary op p a b) = p
place_of (choice p c a b) = p
place_of (join p es) = p
place_of (replication p c es) = p

abbrev pub IsInvariant : Limits → ItemTree → Form
IsInvariant l (invariant_item p e) = given (p ≡ place_of e) (a_word words.Invariant ⨾ IsValue l e)
IsInvariant l _ = never

-- ---- instances

-- `. name`, and in parentheses what it is set or linked to
abbrev pub by_name : List ℕ → Place → Form → Form
by_name x p P = a_sign signs.Dot ⨾ name_at x p ⨾ in_parentheses P

abbrev pub IsNamedOverride : Limits → NamedOverride → Form
IsNamedOverride l o = by_name o.name o.place (IsValue l o.value)

abbrev pub hash_parentheses : Form → Form
hash_parentheses P = a_sign signs.Hash ⨾ in_parentheses P

abbrev pub AreOverrides : Limits → OverrideTrees → Form
AreOverrides l (named_overrides os) = hash_parentheses (commas (IsNamedOverride l) os)
AreOverrides l (ordered_overrides []) = nothing
AreOverrides l (ordered_overrides es) = hash_parentheses (commas (IsValue l) es)

abbrev pub IsNamedLink : Limits → NamedLink → Form
IsNamedLink l k = by_name k.name k.place (perhaps (IsValue l) k.value)

abbrev pub AreLinks : Limits → LinkTrees → Form
AreLinks l (named_links ks) = commas (IsNamedLink l) ks
AreLinks l (ordered_links []) = nothing
AreLinks l (ordered_links es) = commas (IsValue l) es

abbrev pub IsNamedInstance : Limits → InstanceTree → Form
IsNamedInstance l i = name_at i.name i.name_place ⨾ in_parentheses (AreLinks l i.links)

abbrev pub IsInstance : Limits → InstanceTree → Form
IsInstance l i = name_at i.master i.place ⨾ AreOverrides l i.overrides ⨾ IsNamedInstance l i

-- the instances are of one module, with the same overrides
abbrev pub AreOfOneModule : InstanceTree → InstanceTree → Type 0
AreOfOneModule i j = (j.master ≡ i.master) × (j.place ≡ i.place) × (j.overrides ≡ i.overrides)

abbrev pub AreInstances : Limits → List InstanceTree → Form
AreInstances l =
    listed (IsInstance l) (λ before i. given (AreOfOneModule before i) (IsNamedInstance l i))

-- ---- items

-- items of one kind, as trees of that kind
abbrev pub all_as : {A : Type 0} → (A → ItemTree) → (List A → Form) → List ItemTree → Form
all_as {A} as_item P items ts rest =
    (members : List A) × (items ≡ map as_item members) × P members ts rest

-- what stands up to a `;` and gives these items, an item for each name
abbrev pub IsListedItem : Limits → List ItemTree → Form
IsListedItem l items =
    all_as parameter_item (AreParameters l) items
    or all_as declared (AreSignals l) items
    or all_as memory_item (only (IsMemory l)) items
    or AreContinuous l items
    or only (IsReleased l) items
    or only (IsInvariant l) items
    or all_as instance_item (AreInstances l) items

-- an item of the text, which gives these items
unfoldable pub IsItem : Limits → List ItemTree → Form
IsItem l items = only (IsAlways l) items or (IsListedItem l items ⨾ a_sign signs.Semicolon)

-- the items of a module, in order
abbrev pub AreItems : Limits → List ItemTree → Form
AreItems l items ts rest =
    (groups : List (List ItemTree)) × (items ≡ flat_map (λ group. group) groups)
    × each (IsItem l) groups ts rest

-- ---- modules

abbrev pub IsHeader : Limits → ModuleTree → Form
IsHeader l m =
    a_word words.Module
    ⨾ name_at m.name m.place
    ⨾ (given (m.parameters ≡ []) nothing or hash_parentheses (AreHeaderParameters l m.parameters))
    ⨾ (given (m.ports ≡ []) (optional (in_parentheses nothing))
    or in_parentheses (ArePorts l m.ports))
    ⨾ a_sign signs.Semicolon

unfoldable pub IsModule : Limits → ModuleTree → Form
IsModule l m = IsHeader l m ⨾ AreItems l m.items ⨾ a_word words.Endmodule

-- ---- lattices and label maps

-- a line of a lattice: points, or a pair
pub data LatticeLine : Type 0 where
  points : List PlacedName → LatticeLine
  pair : PairTree → LatticeLine

abbrev pub IsLatticeLine : LatticeLine → Form
IsLatticeLine (points xs) = a_word words.Point ⨾ commas IsPlacedName xs ⨾ a_sign signs.Semicolon
IsLatticeLine (pair q) =
    IsPlacedName q.lower ⨾ somewhere (binary_at Le) ⨾ IsPlacedName q.upper ⨾ a_sign signs.Semicolon

abbrev pub points_of : LatticeLine → List PlacedName
points_of (points xs) = xs
points_of (pair q) = []

abbrev pub pairs_of : LatticeLine → List PairTree
pairs_of (points xs) = []
pairs_of (pair q) = q ∷ []

unfoldable pub IsLattice : LatticeTree → Form
IsLattice t ts rest =
    (lines : List LatticeLine)
    × (t.points ≡ flat_map points_of lines)
    × (t.pairs ≡ flat_map pairs_of lines)
    × (word_at words.Lattice t.place ⨾ each IsLatticeLine lines ⨾ a_word words.Endlattice) ts rest

-- a plain number, as a tree
abbrev pub IsNumber : ExpressionTree → Form
IsNumber (literal v p) = number_at v p
IsNumber _ = never

-- the range of a label map has plain numbers only
abbrev pub IsKeyRange : SpanTree → Form
IsKeyRange s = in_brackets (IsNumber s.high ⨾ a_sign signs.Colon ⨾ IsNumber s.low)

abbrev pub IsKey : KeyTree → Form
IsKey k = number_at k.value k.place

abbrev pub IsRow : RowTree → Form
IsRow r =
    IsKey r.first ⨾ perhaps (λ k. a_sign signs.Comma ⨾ IsKey k) r.second ⨾ a_sign signs.Colon
    ⨾ a_name r.to ⨾ a_sign signs.Semicolon

unfoldable pub IsMap : MapTree → Form
IsMap m =
    a_word words.Labelmap
    ⨾ name_at m.name m.place
    ⨾ IsKeyRange m.span
    ⨾ perhaps IsKeyRange m.second
    ⨾ each IsRow m.rows
    ⨾ perhaps (λ x. a_word words.Default ⨾ a_sign signs.Colon ⨾ a_name x
    ⨾ a_sign signs.Semicolon) m.other
    ⨾ a_word words.Endlabelmap

-- ---- texts

-- the tokens, from the first to the last, are those of the text's tree
unfoldable pub IsText : Limits → TextTree → List Placed → Type 0
IsText l t ts =
    (perhaps IsLattice t.lattice ⨾ each IsMap t.maps ⨾ some (IsModule l) t.modules) ts []
