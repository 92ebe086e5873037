-- The numbers that a text writes are fine where its tokens are.
use Rattle.std.proofs.Common.{◌≡◌, ℕ, Bool, true, false, List, [], ◌∷◌, ◌++◌, map}
use Rattle.std.proofs.Common.{Option, Some, None, sym, subst, ⊎_elim}
use Rattle.std.specs.Prelude.{Contains}
use Rattle.sv_num.specs.declared.operators.BinOp.TheVariants.{Mul, Le}
use Rattle.sv_system.proofs.Lists.{Contains-from_map}
use Rattle.sv_token.specs.declared.keywords.WordKind.TheVariants as words
use Rattle.sv_token.specs.declared.signs.SignKind.TheVariants as signs
use Rattle.sv_token.specs.Lexemes.{word, Placed}
use Rattle.sv_ast.specs.declared.declarations.DeclKind.{DeclKind}
use Rattle.sv_ast.specs.declared.declarations.DeclKind.TheVariants as kinds
use Rattle.sv_ast.specs.Tree.{ExpressionTree, literal, SpanTree, LabelTree, point_label}
use Rattle.sv_ast.specs.Tree.{table_label, DeclarationTree, ParameterTree, MemoryLabelTree}
use Rattle.sv_ast.specs.Tree.{memory_point, by_index, MemoryTree, PlacedName, TargetTree}
use Rattle.sv_ast.specs.Tree.{NamedOverride, OverrideTrees, named_overrides, ordered_overrides}
use Rattle.sv_ast.specs.Tree.{NamedLink, LinkTrees, named_links, ordered_links, InstanceTree}
use Rattle.sv_ast.specs.Tree.{ItemTree, parameter_item, declared, continuous, released}
use Rattle.sv_ast.specs.Tree.{always_item, invariant_item, ModuleTree, LatticeTree}
use Rattle.sv_ast.specs.Tree.{KeyTree, RowTree, MapTree, TextTree}
use Rattle.sv_ast.specs.GrammarForms.{Form, ◌or◌, given, nothing, perhaps}
use Rattle.sv_ast.specs.GrammarForms.{commas}
use Rattle.sv_ast.specs.GrammarExpressions.{Limits}
use Rattle.sv_ast.specs.GrammarDeclarations.{IsValue, IsRange, IsLabel, IsTyped, equals}
use Rattle.sv_ast.specs.GrammarDeclarations.{IsParameterType, IsNamedParameter, parameter_word}
use Rattle.sv_ast.specs.GrammarDeclarations.{IsParameter, AreParameters}
use Rattle.sv_ast.specs.GrammarDeclarations.{AreHeaderParameters, IsPortKind, IsNamedPort, IsPort}
use Rattle.sv_ast.specs.GrammarDeclarations.{ArePorts, IsSignalKind, IsSignalValue, IsNamedSignal}
use Rattle.sv_ast.specs.GrammarDeclarations.{AreSignals, IsMemoryLabel, IsMemory}
use Rattle.sv_ast.specs.GrammarModules.{IsPlacedName, IsContinuous, IsReleased}
use Rattle.sv_ast.specs.GrammarModules.{IsEvent, IsAlways, IsInvariant, hash_parentheses}
use Rattle.sv_ast.specs.GrammarModules.{IsNamedOverride, AreOverrides, IsNamedLink, AreLinks}
use Rattle.sv_ast.specs.GrammarModules.{IsNamedInstance, AreOfOneModule, AreInstances, all_as}
use Rattle.sv_ast.specs.GrammarModules.{IsListedItem, IsItem, AreItems, IsModule, LatticeLine}
use Rattle.sv_ast.specs.GrammarModules.{points, pair, IsLatticeLine, IsLattice, IsNumber}
use Rattle.sv_ast.specs.GrammarModules.{IsKeyRange, IsKey, IsRow, IsMap, IsText}
use Rattle.sv_ast.specs.GrammarMeaning.{Means}
use Rattle.sv_ast.specs.GrammarRules.{TokensMean, all_limits}
use Rattle.sv_width.specs.Agreement.{NumbersHaveLengths}
use Rattle.sv_width.specs.WrittenLengths.{AllHaveLengths, ValueHasLengths, OverridesHaveLengths}
use Rattle.sv_width.specs.WrittenLengths.{LinksHaveLengths, ItemHasLengths, ModuleHasLengths}
use Rattle.sv_width.specs.WrittenLengths.{TextHasLengths}
use Rattle.sv_elab_laws.specs.FlattenedTexts.{ItemNumbersFit, EachItem}
use Rattle.sv_flat.proofs.Members.{Contains-either as contains_either, from_flat_map}
use Rattle.sv_run_laws.proofs.FineTokens.{AreFine, tokens_fine}
use Rattle.sv_run_laws.proofs.FineForms.{Keeps, Gives, Each, lexeme_kept, number_given, word_kept}
use Rattle.sv_run_laws.proofs.FineForms.{sign_kept, name_kept, a_name_kept, a_number_kept}
use Rattle.sv_run_laws.proofs.FineForms.{operator_kept, flag_kept, nothing_kept, both_kept}
use Rattle.sv_run_laws.proofs.FineForms.{either_kept, under_kept, optional_kept, kept, behind}
use Rattle.sv_run_laws.proofs.FineForms.{before, both, either, under, so, no_more, nowhere}
use Rattle.sv_run_laws.proofs.FineForms.{parentheses, brackets, braces, perhaps_kept, no_member}
use Rattle.sv_run_laws.proofs.FineForms.{each_given, some_given, listed_given, commas_given}
use Rattle.sv_run_laws.proofs.FineForms.{only_given, plain, each_kept, commas_kept}
use Rattle.sv_run_laws.proofs.FineStatements.{expression, targets_kept, statement}

-- ---- values, ranges and labels

value : (l : Limits) (e : ExpressionTree) → Gives (IsValue l e) (NumbersHaveLengths e)
value l e = so (λ h. h.0) (expression l 0 e)

values : (l : Limits) (es : List ExpressionTree) → Gives (commas (IsValue l) es) (AllHaveLengths es)
values l es = commas_given NumbersHaveLengths (value l) es

equal_value : (l : Limits) (e : ExpressionTree) → Gives (equals l e) (NumbersHaveLengths e)
equal_value l e = behind (sign_kept signs.Equals) (value l e)

range_kept : (l : Limits) (s : SpanTree) → Keeps (IsRange l s)
range_kept l s =
    kept (brackets (both (value l s.high) (behind (sign_kept signs.Colon) (value l s.low))))

label_kept : (t : LabelTree) → Keeps (IsLabel t)
label_kept (point_label x p) = kept (braces (plain (name_kept x p)))
label_kept (table_label m s t p) =
    kept (braces (plain (both_kept (name_kept m p)
    (kept (parentheses (plain (both_kept (a_name_kept s) (perhaps_kept (λ x.
    both_kept (sign_kept signs.Comma) (a_name_kept x)) t))))))))

typed_kept : (l : Limits) (d : DeclarationTree) → Keeps (IsTyped l d)
typed_kept l d =
    both_kept (flag_kept words.Signed d.signed)
    (both_kept (perhaps_kept (range_kept l) d.span) (perhaps_kept label_kept d.label))

-- ---- parameters

abbrev ParameterHasLengths : ParameterTree → Type 0
ParameterHasLengths q = NumbersHaveLengths q.value

type_kept : (l : Limits) (signed : Bool) (s : Option SpanTree) → Keeps (IsParameterType l signed s)
type_kept l signed (Some s) = both_kept (flag_kept words.Signed signed) (range_kept l s)
type_kept l false None = nothing_kept
type_kept l true None = kept (nowhere {A = Unit {0}})

named_parameter : (l : Limits) (q : ParameterTree) → Gives (IsNamedParameter l q)
    (ParameterHasLengths q)
named_parameter l q = behind (name_kept q.name q.place) (equal_value l q.value)

parameter : (l : Limits) (q : ParameterTree) → Gives (IsParameter l q) (ParameterHasLengths q)
parameter l q =
    behind (word_kept (parameter_word q.local))
    (behind (type_kept l q.signed q.span) (named_parameter l q))

parameters : (l : Limits) (qs : List ParameterTree) → Gives (AreParameters l qs)
    (Each ParameterHasLengths qs)
parameters l qs =
    listed_given ParameterHasLengths (parameter l) (λ a q first.
    under (named_parameter l q)) qs

header_parameters : (l : Limits) (qs : List ParameterTree) → Gives (AreHeaderParameters l qs)
    (Each ParameterHasLengths qs)
header_parameters l qs =
    listed_given ParameterHasLengths (λ q. under (parameter l q))
    (λ a q first. either (under (parameter l q)) (under (named_parameter l q))) qs

-- ---- ports, signals and memories

abbrev SignalHasLengths : DeclarationTree → Type 0
SignalHasLengths d = ValueHasLengths d.value

without_value : (v : Option ExpressionTree) → v ≡ None → ValueHasLengths v
without_value v none = subst ValueHasLengths (sym none) tt

port_kind_kept : (k : DeclKind) → Keeps (IsPortKind k)
port_kind_kept kinds.Input =
    both_kept (word_kept words.Input) (optional_kept (word_kept words.Wire))
port_kind_kept kinds.OutputWire =
    both_kept (word_kept words.Output) (optional_kept (word_kept words.Wire))
port_kind_kept kinds.OutputReg = both_kept (word_kept words.Output) (word_kept words.Reg)
port_kind_kept kinds.Wire = kept (nowhere {A = Unit {0}})
port_kind_kept kinds.Reg = kept (nowhere {A = Unit {0}})

named_port : (d : DeclarationTree) → Gives (IsNamedPort d) (SignalHasLengths d)
named_port d ts rest is fine =
    (without_value d.value is.0, name_kept d.name d.place ts rest is.1 fine)

port : (l : Limits) (d : DeclarationTree) → Gives (IsPort l d) (SignalHasLengths d)
port l d = behind (port_kind_kept d.kind) (behind (typed_kept l d) (named_port d))

ports : (l : Limits) (ds : List DeclarationTree) → Gives (ArePorts l ds) (Each SignalHasLengths ds)
ports l ds =
    listed_given SignalHasLengths (port l) (λ a d first.
    either (port l d) (under (named_port d))) ds

signal_kind_kept : (k : DeclKind) → Keeps (IsSignalKind k)
signal_kind_kept kinds.Wire = word_kept words.Wire
signal_kind_kept kinds.Reg = word_kept words.Reg
signal_kind_kept kinds.Input = kept (nowhere {A = Unit {0}})
signal_kind_kept kinds.OutputWire = kept (nowhere {A = Unit {0}})
signal_kind_kept kinds.OutputReg = kept (nowhere {A = Unit {0}})

none_there : (v : Option ExpressionTree) → Gives (given (v ≡ None) nothing) (ValueHasLengths v)
none_there v ts rest is fine = (without_value v is.0, subst AreFine is.1 fine)

signal_value : (l : Limits) (k : DeclKind) (v : Option ExpressionTree) →
    Gives (IsSignalValue l k v) (ValueHasLengths v)
signal_value l kinds.Wire None = no_more tt
signal_value l kinds.Wire (Some e) = equal_value l e
signal_value l kinds.Reg v = none_there v
signal_value l kinds.Input v = none_there v
signal_value l kinds.OutputWire v = none_there v
signal_value l kinds.OutputReg v = none_there v

named_signal : (l : Limits) (d : DeclarationTree) → Gives (IsNamedSignal l d) (SignalHasLengths d)
named_signal l d = behind (name_kept d.name d.place) (signal_value l d.kind d.value)

signals : (l : Limits) (ds : List DeclarationTree) → Gives (AreSignals l ds)
    (Each SignalHasLengths ds)
signals l ds =
    listed_given SignalHasLengths
    (λ d. behind (signal_kind_kept d.kind) (behind (typed_kept l d) (named_signal l d)))
    (λ a d first. under (named_signal l d)) ds

memory_label_kept : (t : MemoryLabelTree) → Keeps (IsMemoryLabel t)
memory_label_kept (memory_point x p) = kept (braces (plain (name_kept x p)))
memory_label_kept (by_index x p) =
    kept (braces (plain (both_kept (name_kept x p)
    (kept (parentheses (plain (sign_kept signs.Hash)))))))

memory_kept : (l : Limits) (m : MemoryTree) → Keeps (IsMemory l m)
memory_kept l m =
    both_kept (word_kept words.Reg)
    (both_kept (flag_kept words.Signed m.signed)
    (both_kept (perhaps_kept (range_kept l) m.span)
    (both_kept (perhaps_kept memory_label_kept m.label)
    (both_kept (name_kept m.name m.place)
    (kept (brackets (plain (both_kept (a_number_kept m.first)
    (both_kept (sign_kept signs.Colon) (a_number_kept m.last))))))))))

-- ---- instances

named_value : (l : Limits) (o : NamedOverride) →
    Gives (IsNamedOverride l o) (NumbersHaveLengths o.value)
named_value l o =
    behind (sign_kept signs.Dot) (behind (name_kept o.name o.place) (parentheses (value l o.value)))

hashed : {P : Form} {A : Type 0} → Gives P A → Gives (hash_parentheses P) A
hashed f = behind (sign_kept signs.Hash) (parentheses f)

overrides : (l : Limits) (os : OverrideTrees) → Gives (AreOverrides l os) (OverridesHaveLengths os)
overrides l (named_overrides os) =
    hashed (commas_given (λ (o : NamedOverride). NumbersHaveLengths o.value) (named_value l) os)
overrides l (ordered_overrides []) = no_more (no_member NumbersHaveLengths)
overrides l (ordered_overrides (e ∷ es)) = hashed (values l (e ∷ es))

linked_value : (l : Limits) (v : Option ExpressionTree) → Gives (perhaps (IsValue l) v)
    (ValueHasLengths v)
linked_value l None = no_more tt
linked_value l (Some e) = value l e

named_link : (l : Limits) (k : NamedLink) → Gives (IsNamedLink l k) (ValueHasLengths k.value)
named_link l k =
    behind (sign_kept signs.Dot)
    (behind (name_kept k.name k.place) (parentheses (linked_value l k.value)))

links : (l : Limits) (ks : LinkTrees) → Gives (AreLinks l ks) (LinksHaveLengths ks)
links l (named_links ks) =
    commas_given (λ (k : NamedLink). ValueHasLengths k.value) (named_link l) ks
links l (ordered_links []) = no_more (no_member NumbersHaveLengths)
links l (ordered_links (e ∷ es)) = values l (e ∷ es)

abbrev InstanceHasLengths : InstanceTree → Type 0
InstanceHasLengths i = OverridesHaveLengths i.overrides × LinksHaveLengths i.links

named_instance : (l : Limits) (i : InstanceTree) →
    Gives (IsNamedInstance l i) (LinksHaveLengths i.links)
named_instance l i = behind (name_kept i.name i.name_place) (parentheses (links l i.links))

-- a later instance has the overrides of the one before it
later_instance : (l : Limits) (a i : InstanceTree) → InstanceHasLengths a →
    Gives (given (AreOfOneModule a i) (IsNamedInstance l i)) (InstanceHasLengths i)
later_instance l a i first ts rest is fine =
    let h = named_instance l i ts rest is.1 fine in
    ((subst OverridesHaveLengths (sym is.0.2) first.0, h.0), h.1)

instances : (l : Limits) (xs : List InstanceTree) → Gives (AreInstances l xs)
    (Each InstanceHasLengths xs)
instances l xs =
    listed_given InstanceHasLengths
    (λ i. behind (name_kept i.master i.place) (both (overrides l i.overrides)
    (named_instance l i)))
    (later_instance l) xs

-- ---- items

abbrev FineItem : ItemTree → Type 0
FineItem i = ItemHasLengths i × ItemNumbersFit i

all_as_given : {A : Type 0} {as_item : A → ItemTree} {P : List A → Form} (T : A → Type 0)
    → ((xs : List A) → Gives (P xs) (Each T xs)) → ((x : A) → T x → FineItem (as_item x))
    → (items : List ItemTree)
    → Gives (all_as as_item P items) (Each FineItem items)
all_as_given {as_item = as_item} T f g items ts rest is fine =
    let h = f is.0 ts rest is.2 fine in (
      subst (Each FineItem) (sym is.1)
          (λ x at. let from = Contains-from_map as_item is.0 x at in
          subst FineItem from.2 (g from.0 (h.0 from.0 from.1))),
      h.1,
    )

placed_kept : (x : PlacedName) → Keeps (IsPlacedName x)
placed_kept x = name_kept x.name x.place

continuous_given : (l : Limits) (i : ItemTree) → Gives (IsContinuous l i) (FineItem i)
continuous_given l (continuous us p e) =
    under (behind (targets_kept (λ (t : TargetTree). under_kept (name_kept t.name t.place)) us)
    (so (λ h. (h, tt)) (equal_value l e)))
continuous_given l (parameter_item q) = nowhere
continuous_given l _ = nowhere

released_given : (l : Limits) (i : ItemTree) → Gives (IsReleased l i) (FineItem i)
released_given l (released target e point) =
    behind (word_kept words.Assign)
    (behind (placed_kept target)
    (behind (sign_kept signs.Equals)
    (behind (word_kept words.Release)
    (parentheses (so (λ h. (h, tt)) (before (value l e)
    (both_kept (sign_kept signs.Comma) (placed_kept point))))))))
released_given l (parameter_item q) = nowhere
released_given l _ = nowhere

event_kept : (clock : Option PlacedName) → Keeps (IsEvent clock)
event_kept None =
    either_kept (operator_kept Mul) (kept (parentheses (plain (operator_kept Mul))))
event_kept (Some clock) =
    kept (parentheses (plain (both_kept (word_kept words.Posedge) (placed_kept clock))))

always_given : (l : Limits) (i : ItemTree) → Gives (IsAlways l i) (FineItem i)
always_given l (always_item p clock s) =
    behind (lexeme_kept (word words.Always) p)
    (behind (sign_kept signs.At) (behind (event_kept clock) (statement l 0 s)))
always_given l (parameter_item q) = nowhere
always_given l _ = nowhere

invariant_given : (l : Limits) (i : ItemTree) → Gives (IsInvariant l i) (FineItem i)
invariant_given l (invariant_item p e) =
    under (behind (word_kept words.Invariant) (so (λ h. (tt, tt)) (value l e)))
invariant_given l (parameter_item q) = nowhere
invariant_given l _ = nowhere

listed_item : (l : Limits) (xs : List ItemTree) → Gives (IsListedItem l xs) (Each FineItem xs)
listed_item l xs =
    either (all_as_given ParameterHasLengths (parameters l) (λ q h. (h, tt)) xs)
    (either (all_as_given SignalHasLengths (signals l) (λ d h. (h, tt)) xs)
    (either (all_as_given (λ m. Unit {0}) (only_given (λ m. Unit {0}) (λ m.
    plain (memory_kept l m))) (λ m h. (tt, tt)) xs)
    (either (behind (word_kept words.Assign) (commas_given FineItem (continuous_given l) xs))
    (either (only_given FineItem (released_given l) xs)
    (either (only_given FineItem (invariant_given l) xs)
    (all_as_given InstanceHasLengths (instances l) (λ i h. (h, tt)) xs))))))

item : (l : Limits) (xs : List ItemTree) → Gives (IsItem l xs) (Each FineItem xs)
unfolding IsItem
item l xs =
    either (only_given FineItem (always_given l) xs)
    (before (listed_item l xs) (sign_kept signs.Semicolon))

items : (l : Limits) (xs : List ItemTree) → Gives (AreItems l xs) (Each FineItem xs)
items l xs ts rest is fine =
    let h = each_given (Each FineItem) (item l) is.0 ts rest is.2 fine in (
      subst (Each FineItem) (sym is.1)
          (λ x at. let from = from_flat_map (λ (group : List ItemTree). group) is.0 x at in
          h.0 from.0 from.1 x from.2),
      h.1,
    )

-- ---- modules

abbrev FineModule : ModuleTree → Type 0
FineModule m =
    ModuleHasLengths m × ((x : ItemTree) → Contains m.items x → ItemNumbersFit x)

-- no parameters or ports, or those of a list
none_or_given : {X : Type 0} {P Q : Form} (T : X → Type 0) (xs : List X) → Keeps P
    → Gives Q (Each T xs)
    → Gives (given (xs ≡ []) P or Q) (Each T xs)
none_or_given T xs f g =
    either (λ ts rest is fine.
    (subst (Each T) (sym is.0) (no_member T), f ts rest is.1 fine)) g

module_fine : (m : ModuleTree)
    → (Each ParameterHasLengths m.parameters × Each SignalHasLengths m.ports)
    × Each FineItem m.items
    → FineModule m
module_fine m h = (
  λ x at. ⊎_elim
      (λ header. ⊎_elim
      (λ mine. let q = Contains-from_map parameter_item m.parameters x mine in
      subst ItemHasLengths q.2 (h.0.0 q.0 q.1))
      (λ port. let d = Contains-from_map declared m.ports x port in
      subst ItemHasLengths d.2 (h.0.1 d.0 d.1))
      (contains_either (map parameter_item m.parameters) (map declared m.ports) x header))
      (λ inside. (h.1 x inside).0)
      (contains_either (map parameter_item m.parameters ++ map declared m.ports) m.items x at),
  λ x at. (h.1 x at).1,
)

module_given : (l : Limits) (m : ModuleTree) → Gives (IsModule l m) (FineModule m)
unfolding IsModule
module_given l m =
    so (module_fine m)
    (both (behind (word_kept words.Module) (behind (name_kept m.name m.place)
    (both (none_or_given ParameterHasLengths m.parameters nothing_kept
    (hashed (header_parameters l m.parameters)))
    (before (none_or_given SignalHasLengths m.ports
    (optional_kept (kept (parentheses (plain nothing_kept))))
    (parentheses (ports l m.ports))) (sign_kept signs.Semicolon)))))
    (before (items l m.items) (word_kept words.Endmodule)))

-- ---- lattices and label maps

line_kept : (line : LatticeLine) → Keeps (IsLatticeLine line)
line_kept (points xs) =
    both_kept (word_kept words.Point)
    (both_kept (commas_kept placed_kept xs) (sign_kept signs.Semicolon))
line_kept (pair q) =
    both_kept (placed_kept q.lower) (both_kept (operator_kept Le)
    (both_kept (placed_kept q.upper) (sign_kept signs.Semicolon)))

lattice_kept : (t : LatticeTree) → Keeps (IsLattice t)
unfolding IsLattice
lattice_kept t ts rest is fine =
    both_kept (lexeme_kept (word words.Lattice) t.place)
    (both_kept (each_kept line_kept is.0) (word_kept words.Endlattice)) ts rest is.3 fine

number_kept : (e : ExpressionTree) → Keeps (IsNumber e)
number_kept (literal v p) = kept (number_given v p)
number_kept _ = kept (nowhere {A = Unit {0}})

key_range_kept : (s : SpanTree) → Keeps (IsKeyRange s)
key_range_kept s =
    kept (brackets (plain (both_kept (number_kept s.high)
    (both_kept (sign_kept signs.Colon) (number_kept s.low)))))

key_kept : (k : KeyTree) → Keeps (IsKey k)
key_kept k = kept (number_given k.value k.place)

row_kept : (r : RowTree) → Keeps (IsRow r)
row_kept r =
    both_kept (key_kept r.first)
    (both_kept (perhaps_kept (λ k. both_kept (sign_kept signs.Comma) (key_kept k)) r.second)
    (both_kept (sign_kept signs.Colon)
    (both_kept (a_name_kept r.to) (sign_kept signs.Semicolon))))

map_kept : (m : MapTree) → Keeps (IsMap m)
unfolding IsMap
map_kept m =
    both_kept (word_kept words.Labelmap)
    (both_kept (name_kept m.name m.place)
    (both_kept (key_range_kept m.span)
    (both_kept (perhaps_kept key_range_kept m.second)
    (both_kept (each_kept row_kept m.rows)
    (both_kept (perhaps_kept (λ x. both_kept (word_kept words.Default)
    (both_kept (sign_kept signs.Colon) (both_kept (a_name_kept x) (sign_kept signs.Semicolon))))
    m.other)
    (word_kept words.Endlabelmap))))))

-- ---- texts

modules_fine : (ts : List Placed) (t : TextTree) → TokensMean ts t → AreFine ts →
    Each FineModule t.modules
unfolding IsText
modules_fine ts t is fine =
    (behind (perhaps_kept lattice_kept t.lattice) (behind (each_kept map_kept t.maps)
    (some_given FineModule (module_given all_limits) t.modules)) ts [] is fine).0

-- the numbers that the bytes of a text write have 1 to 64 bits, and fit them
pub written_fine : (bytes : List ℕ) (text : TextTree) → Means bytes text
    → TextHasLengths text × EachItem ItemNumbersFit text
written_fine bytes text is =
    let fine = modules_fine is.0 text is.2 (tokens_fine bytes is.0 is.1) in
    (λ m at. (fine m at).0, λ m at. (fine m at).1)
