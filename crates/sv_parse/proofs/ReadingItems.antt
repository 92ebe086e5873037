-- How what is read of items, modules and label maps is put together.
use Rattle.std.proofs.Common.{◌≡◌, ℕ, ◌<◌, ◌≤◌, List, [], ◌∷◌, ◌++◌, length, flat_map, map, inl}
use Rattle.std.proofs.Common.{inr, refl, sym, ap, ◌∙◌, subst, append_assoc, arith}
use Rattle.std.proofs.lemmas.List.{map_push, map-append, length-map}
use Rattle.sv_token.specs.declared.tokens.Token.{Token}
use Rattle.sv_token.specs.Lexemes.{Placed, placed_tokens}
use Rattle.sv_token.specs.declared.keywords.WordKind.TheVariants as words
use Rattle.sv_token.specs.declared.signs.SignKind.TheVariants as signs
use Rattle.sv_ast.specs.Tree.{SpanTree, DeclarationTree, ItemTree, PlacedName, PairTree}
use Rattle.sv_ast.specs.Tree.{LatticeTree, MapTree, ModuleTree, TextTree}
use Rattle.sv_ast.specs.GrammarForms.{Form, ◌⨾◌, perhaps, each, some, a_word, a_sign, a_name}
use Rattle.sv_ast.specs.GrammarForms.{name_at, word_at, commas}
use Rattle.sv_ast.specs.GrammarStatements.{only}
use Rattle.sv_ast.specs.GrammarModules.{IsPlacedName, IsAlways, IsListedItem, IsItem, AreItems}
use Rattle.sv_ast.specs.GrammarModules.{LatticeLine, points as line_of_points, pair as line_of_pair}
use Rattle.sv_ast.specs.GrammarModules.{IsLatticeLine, IsKeyRange, IsRow, IsMap, IsLattice}
use Rattle.sv_ast.specs.GrammarModules.{points_of, pairs_of, IsModule, IsText}
use Rattle.sv_ast.specs.GrammarRules.{all_limits, TokensMean}
use Rattle.sv_parse_machine.specs.Symbols.{Outer, outer}
use Rattle.sv_parse_machine.specs.Reads.{Reads}
use Rattle.sv_parse_expr.specs.declared.stop.Input.{Input}
use Rattle.sv_parse_expr.specs.Parses.{placed}
use Rattle.sv_parse.specs.ReadingItems.{IsOpenKeyRange, AreOpenPorts, ArePortList, IsHeaderOf}
use Rattle.sv_parse.specs.ReadingItems.{IsOneMore, AreLines}

-- what a loop has read: up to the tokens that are left stands the form, and the symbol is still to
-- come
abbrev pub HasRead : Form → Outer → Input → (rest : List Token) → Type 0
HasRead P y input rest = record {
  are : P (placed input) (placed_tokens input.bytes.now rest);
  shorter : length rest ≤ length input.rest.now;
  reads : Reads (outer y ∷ []) (outer y ∷ []) (placed input) (placed_tokens input.bytes.now rest);
}

to_nothing : (A : Type 0) (xs : List A) → xs ++ [] ≡ xs
to_nothing A [] = refl
to_nothing A (x ∷ xs) = ap (λ (ys : List A). x ∷ ys) (to_nothing A xs)

-- whatever members follow from here on, all are of the form
pub record AreOpenEach (A : Type 0) (P : A → Form) (front : List A) (ts here : List Placed) :
    Type 0 where
  pub closed : (others : List A) (rest : List Placed) → each P others here rest →
      each P (front ++ others) ts rest

pub each_begin : (A : Type 0) (P : A → Form) (ts : List Placed) → AreOpenEach A P [] ts ts
each_begin A P ts = record { closed = λ others rest h. h }

pub each_more :
    (A : Type 0) (P : A → Form) (front : List A) (x : A) (ts a b : List Placed) →
    AreOpenEach A P front ts a → P x a b → AreOpenEach A P (front ++ x ∷ []) ts b
each_more A P front x ts a b before is = record {
  closed = λ others rest h. rw append_assoc (before.closed (x ∷ others) rest (b, is, h));
}

pub each_end : (A : Type 0) (P : A → Form) (front : List A) (ts here : List Placed) →
    AreOpenEach A P front ts here → each P front ts here
each_end A P front ts here before =
    subst (λ (xs : List A). each P xs ts here) (to_nothing A front) (before.closed [] here refl)

pub some_are : (A : Type 0) (P : A → Form) (xs : List A) (ts rest : List Placed) → 0 < length xs →
    each P xs ts rest → some P xs ts rest
some_are A P [] ts rest more h = absurd (omega arith)
some_are A P (x ∷ xs) ts rest more h = h

pub pushed_each :
    (A X : Type 0) (f : X → A) (P : A → Form) (all done : List X) (x : X) (ts a b : List Placed) →
    all ≡ done ++ x ∷ [] →
    AreOpenEach A P (map f done) ts a → P (f x) a b → AreOpenEach A P (map f all) ts b
pushed_each A X f P all done x ts a b eq before is =
    subst (λ (xs : List A). AreOpenEach A P xs ts b) (sym (ap (map f) eq ∙ map_push f done x))
    (each_more A P (map f done) (f x) ts a b before is)

-- the first of a vector that was empty
pub first_each :
    (A X : Type 0) (f : X → A) (P : A → Form) (all done : List X) (x : X) (ts b : List Placed) →
    all ≡ done ++ x ∷ [] → P (f x) ts b → done ≡ [] →
    AreOpenEach A P (map f all) ts b
first_each A X f P all done x ts b eq is none =
    pushed_each A X f P all done x ts ts b eq (subst (λ (xs : List X).
    AreOpenEach A P (map f xs) ts ts) (sym none) (each_begin A P ts)) is

-- ---- items

flat_more : (X Y : Type 0) (f : X → List Y) (xs : List X) (x : X) →
    flat_map f (xs ++ x ∷ []) ≡ flat_map f xs ++ f x
flat_more X Y f [] x = to_nothing Y (f x)
flat_more X Y f (z ∷ xs) x =
    ap (λ (ys : List Y). f z ++ ys) (flat_more X Y f xs x)
    ∙ sym (append_assoc (f z) (flat_map f xs) (f x))

pub record AreOpenItems (items : List ItemTree) (ts here : List Placed) : Type 0 where
  pub groups : List (List ItemTree)
  pub are : items ≡ flat_map (λ g. g) groups
  pub each_is : AreOpenEach (List ItemTree) (IsItem all_limits) groups ts here

pub items_begin : (ts : List Placed) → AreOpenItems [] ts ts
items_begin ts =
    record { groups = []; are = refl; each_is = each_begin (List ItemTree) (IsItem all_limits) ts }

pub items_more :
    (items group : List ItemTree) (ts a b : List Placed) →
    AreOpenItems items ts a → IsItem all_limits group a b → AreOpenItems (items ++ group) ts b
items_more items group ts a b before is = record {
  groups = before.groups ++ group ∷ [];
  are =
      ap (λ (xs : List ItemTree). xs ++ group) before.are
      ∙ sym (flat_more (List ItemTree) ItemTree (λ g. g) before.groups group);
  each_is =
      each_more (List ItemTree) (IsItem all_limits) before.groups group ts a b before.each_is is;
}

pub appended_items :
    (X : Type 0) (f : X → ItemTree) (all done more : List X) (ts a b : List Placed) →
    all ≡ done ++ more →
    AreOpenItems (map f done) ts a → IsItem all_limits (map f more) a b →
    AreOpenItems (map f all) ts b
appended_items X f all done more ts a b eq before is =
    subst (λ (xs : List ItemTree).
    AreOpenItems xs ts b) (sym (ap (map f) eq ∙ map-append f done more))
    (items_more (map f done) (map f more) ts a b before is)

pub items_end : (items : List ItemTree) (ts here : List Placed) → AreOpenItems items ts here →
    AreItems all_limits items ts here
items_end items ts here before = (
  before.groups,
  before.are,
  each_end (List ItemTree) (IsItem all_limits) before.groups ts here
      before.each_is,
)

-- ---- lattices

pub record AreOpenLines (points : List PlacedName) (pairs : List PairTree) (ts here : List Placed) :
    Type 0 where
  pub lines : List LatticeLine
  pub points_are : points ≡ flat_map points_of lines
  pub pairs_are : pairs ≡ flat_map pairs_of lines
  pub each_is : AreOpenEach LatticeLine IsLatticeLine lines ts here

pub lines_begin : (ts : List Placed) → AreOpenLines [] [] ts ts
lines_begin ts =
    record {
      lines = [];
      points_are = refl;
      pairs_are = refl;
      each_is = each_begin LatticeLine IsLatticeLine ts;
    }

pub lines_more :
    (points all_points : List PlacedName) (pairs all_pairs : List PairTree) (ts a b : List Placed) →
    AreOpenLines points pairs ts a → IsOneMore points pairs all_points all_pairs a b →
    AreOpenLines all_points all_pairs ts b
lines_more points all_points pairs all_pairs ts a b before one = record {
  lines = before.lines ++ one.line ∷ [];
  points_are =
      one.points_are ∙ ap (λ (xs : List PlacedName). xs ++ points_of one.line) before.points_are
      ∙ sym (flat_more LatticeLine PlacedName points_of before.lines one.line);
  pairs_are =
      one.pairs_are ∙ ap (λ (xs : List PairTree). xs ++ pairs_of one.line) before.pairs_are
      ∙ sym (flat_more LatticeLine PairTree pairs_of before.lines one.line);
  each_is = each_more LatticeLine IsLatticeLine before.lines one.line ts a b before.each_is one.is;
}

pub lines_end :
    (points : List PlacedName) (pairs : List PairTree) (ts here rest : List Placed) →
    AreOpenLines points pairs ts here → a_word words.Endlattice here rest →
    AreLines points pairs ts rest
lines_end points pairs ts here rest before last = record {
  lines = before.lines;
  points_are = before.points_are;
  pairs_are = before.pairs_are;
  are = (here, each_end LatticeLine IsLatticeLine before.lines ts here before.each_is, last);
}

pub lattice_is :
    (t : LatticeTree) (ts a rest : List Placed) → word_at words.Lattice t.place ts a →
    AreLines t.points t.pairs a rest → IsLattice t ts rest
unfolding IsLattice
lattice_is t ts a rest first h = (h.lines, h.points_are, h.pairs_are, (a, first, h.are))

pub points_more :
    (points more all : List PlacedName) (pairs : List PairTree) (ts a rest : List Placed) →
    all ≡ points ++ more →
    a_word words.Point ts a → (commas IsPlacedName more ⨾ a_sign signs.Semicolon) a rest →
    IsOneMore points pairs all pairs ts rest
points_more points more all pairs ts a rest eq first h = record {
  line = line_of_points more;
  points_are = eq;
  pairs_are = sym (to_nothing PairTree pairs);
  is = (a, first, h);
}

pub pair_more :
    (points : List PlacedName) (pairs all : List PairTree) (q : PairTree) (ts rest : List Placed) →
    all ≡ pairs ++ q ∷ [] →
    IsLatticeLine (line_of_pair q) ts rest → IsOneMore points pairs points all ts rest
pair_more points pairs all q ts rest eq h = record {
  line = line_of_pair q;
  points_are = sym (to_nothing PlacedName points);
  pairs_are = eq;
  is = h;
}

-- ---- label maps

pub key_range_is :
    (s : SpanTree) (ts a rest : List Placed) → a_sign signs.OpenBracket ts a →
    IsOpenKeyRange s a rest → IsKeyRange s ts rest
key_range_is s ts a rest opens h =
    let second = h.2 in
    let third = second.2 in
    (a, opens, (third.0, (h.0, h.1, (second.0, second.1, third.1)), third.2))

abbrev pub IsOther : List ℕ → Form
IsOther x = a_word words.Default ⨾ a_sign signs.Colon ⨾ a_name x ⨾ a_sign signs.Semicolon

pub map_is :
    (m : MapTree) (ts a b c d e f rest : List Placed) → a_word words.Labelmap ts a →
    name_at m.name m.place a b → IsKeyRange m.span b c →
    perhaps IsKeyRange m.second c d → each IsRow m.rows d e → perhaps IsOther m.other e f →
    a_word words.Endlabelmap f rest → IsMap m ts rest
unfolding IsMap
map_is m ts a b c d e f rest first name span second rows other last =
    (a, first, (b, name, (c, span, (d, second, (e, rows, (f, other, last))))))

pub always_item_is : (is : List ItemTree) (ts rest : List Placed) →
    only (IsAlways all_limits) is ts rest → IsItem all_limits is ts rest
unfolding IsItem
always_item_is is ts rest h = inl h

pub listed_item_is :
    (is : List ItemTree) (ts a rest : List Placed) → IsListedItem all_limits is ts a →
    a_sign signs.Semicolon a rest → IsItem all_limits is ts rest
unfolding IsItem
listed_item_is is ts a rest h last = inr (a, h, last)

-- ---- modules and texts

pub some_up_to_the_end :
    (A X : Type 0) (f : X → A) (P : A →
    Form) (xs : List X) (bytes : List ℕ) (tokens rest : List Token) → 0 < length xs →
    AreOpenEach A P (map f xs) (placed_tokens bytes tokens) (placed_tokens bytes rest) →
    length rest ≡ 0 → some P (map f xs) (placed_tokens bytes tokens) []
some_up_to_the_end A X f P xs bytes tokens [] more before none =
    some_are A P (map f xs) (placed_tokens bytes tokens) []
    (subst (λ (n : ℕ). 0 < n) (sym (length-map xs f)) more)
    (each_end A P (map f xs) (placed_tokens bytes tokens) [] before)
some_up_to_the_end A X f P xs bytes tokens (t ∷ rest) more before none =
    absurd (omega (arith, none))

pub port_list_is :
    (ds : List DeclarationTree) (ts a rest : List Placed) → a_sign signs.OpenParenthesis ts a →
    (AreOpenPorts ds ⨾ a_sign signs.CloseParenthesis) a rest →
    ArePortList ds ts rest
port_list_is ds ts a rest opens (b, inl (none, same), closes) =
    inl (none, inl (a, opens, (b, same, closes)))
port_list_is ds ts a rest opens (b, inr ports, closes) = inr (a, opens, (b, ports, closes))

pub module_is :
    (m : ModuleTree) (ts a rest : List Placed) →
    IsHeaderOf m.name m.place m.parameters m.ports ts a →
    (AreItems all_limits m.items ⨾ a_word words.Endmodule) a rest →
    IsModule all_limits m ts rest
unfolding IsModule
module_is m ts a rest header items = (a, header, items)

pub text_is :
    (t : TextTree) (ts a b : List Placed) → perhaps IsLattice t.lattice ts a →
    each IsMap t.maps a b → some (IsModule all_limits) t.modules b [] → TokensMean ts t
unfolding IsText
text_is t ts a b lattice maps modules = (a, lattice, (b, maps, modules))
