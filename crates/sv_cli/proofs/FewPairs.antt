-- A text has no more pairs of its lattice and no more label maps than bytes: each has a token of
-- its own.
use Rattle.std.proofs.Common.{◌≡◌, ℕ, suc, ◌+◌, ◌≤◌, List, [], ◌∷◌, length, take, drop}
use Rattle.std.proofs.Common.{Option}
use Rattle.std.proofs.Common.{Some, None, ap, arith}
use Rattle.std.specs.Prelude.{IfSome, flat_map}
use Rattle.std.proofs.lemmas.List.{length-append, length-drop}
use Rattle.sv_num.specs.declared.faults.Place.{Place}
use Rattle.sv_token.specs.declared.keywords.WordKind.{WordKind}
use Rattle.sv_token.specs.declared.keywords.WordKind.TheVariants as words
use Rattle.sv_token.specs.declared.signs.SignKind.{SignKind}
use Rattle.sv_token.specs.declared.signs.SignKind.TheVariants as signs
use Rattle.sv_token.specs.Lexemes.{Lexeme, word, identifier, numeral, sign, Placed}
use Rattle.sv_token.specs.Tokens.{place_behind, HasTokensUpTo, past_gap, past_token}
use Rattle.sv_ast.specs.GrammarForms.{Form, ◌⨾◌, given, lexeme_at, somewhere, word_at, sign_at}
use Rattle.sv_ast.specs.GrammarForms.{name_at, a_word, a_sign, a_name, later, each, perhaps}
use Rattle.sv_ast.specs.GrammarModules.{IsPlacedName, LatticeLine, points, pair, IsLatticeLine}
use Rattle.sv_ast.specs.GrammarModules.{pairs_of, IsLattice, IsNumber, IsKeyRange, IsKey, IsRow}
use Rattle.sv_ast.specs.GrammarModules.{IsMap, IsText}
use Rattle.sv_ast.specs.GrammarMeaning.{Means}
use Rattle.sv_ast.specs.Tree.{ExpressionTree, literal, SpanTree, PlacedName, LatticeTree, KeyTree}
use Rattle.sv_ast.specs.Tree.{RowTree, MapTree, TextTree}

-- a token leaves one token less
one_less : (x : Lexeme) (p : Place) (ts rest : List Placed) → lexeme_at x p ts rest →
    length rest + 1 ≤ length ts
one_less x p ts rest is =
    let same : length ts ≡ suc (length rest) = ap length is in omega arith

-- names with commas between them leave no more tokens
names_shrink : (before : PlacedName) (xs : List PlacedName) (ts rest : List Placed) →
    later (λ before. IsPlacedName) before xs ts rest → length rest ≤ length ts
names_shrink before [] ts rest is = let same : length ts ≡ length rest = ap length is in omega arith
names_shrink before (x ∷ xs) ts rest (m, (p, comma), (n, (plain, name), more)) =
    let a = one_less _ p ts m comma in
    let b = one_less _ x.place m n name in
    let c = names_shrink x xs n rest more in
    omega arith

-- a line takes as many tokens as it has pairs, at least
line_has : (line : LatticeLine) (ts rest : List Placed) → IsLatticeLine line ts rest →
    length (pairs_of line) + length rest ≤ length ts
line_has (points []) ts rest (m, begins, (n, names, ends)) = absurd names
line_has (points (x ∷ xs)) ts rest
    (m, (p, begins), (n, (k, (plain, name), more), (q, ends))) =
    let a = one_less _ p ts m begins in
    let b = one_less _ x.place m k name in
    let c = names_shrink x xs k n more in
    let d = one_less _ q n rest ends in
    omega arith
line_has (pair r) ts rest
    (m, (plain, name), (n, (p, (o, is, flows)), (k, (again, other), (q, ends)))) =
    let a = one_less _ r.lower.place ts m name in
    let b = one_less _ p m n flows in
    let c = one_less _ r.upper.place n k other in
    let d = one_less _ q k rest ends in
    omega arith

lines_have : (lines : List LatticeLine) (ts rest : List Placed) → each IsLatticeLine lines ts rest →
    length (flat_map pairs_of lines) + length rest ≤ length ts
lines_have [] ts rest is = let same : length ts ≡ length rest = ap length is in omega arith
lines_have (line ∷ lines) ts rest (m, first, more) =
    let a = line_has line ts m first in
    let b = lines_have lines m rest more in
    let c : length (flat_map pairs_of (line ∷ lines))
    ≡ length (pairs_of line) + length (flat_map pairs_of lines) =
    length-append (pairs_of line) (flat_map pairs_of lines) in
    omega arith

lattice_has : (t : LatticeTree) (ts rest : List Placed) → IsLattice t ts rest →
    length t.pairs ≤ length ts
unfolding IsLattice
lattice_has t ts rest (lines, named, paired, (m, begins, (n, each_line, ends))) =
    let a = one_less _ t.place ts m begins in
    let b = lines_have lines m n each_line in
    let c : length t.pairs ≡ length (flat_map pairs_of lines) = ap length paired in
    omega arith

lattice_shrinks : (t : LatticeTree) (ts rest : List Placed) → IsLattice t ts rest →
    length rest ≤ length ts
unfolding IsLattice
lattice_shrinks t ts rest (lines, named, paired, (m, begins, (n, each_line, (p, ends)))) =
    let a = one_less _ t.place ts m begins in
    let b = lines_have lines m n each_line in
    let c = one_less _ p n rest ends in
    omega arith

-- there are no more tokens than bytes
few_tokens : (stop : Place) (left : List ℕ) (place : Place) (bytes : List ℕ) (ts : List Placed) →
    HasTokensUpTo stop left place bytes ts → length ts ≤ length bytes
few_tokens stop left place bytes [] has = omega arith
few_tokens stop left place [] (t ∷ ts) has = elim has [ ]
few_tokens stop left place (b ∷ bs) (t ∷ ts) (past_gap {n = n} is has) =
    let a = few_tokens stop left (place_behind place (b ∷ take n bs)) (drop n bs) (t ∷ ts) has in
    let c = length-drop n bs in
    omega arith
few_tokens stop left place (b ∷ bs) (t ∷ ts) (past_token {n = n} is has) =
    let a = few_tokens stop left (place_behind place (b ∷ take n bs)) (drop n bs) ts has in
    let c = length-drop n bs in
    omega arith

-- ---- label maps

-- a form leaves no more tokens than it begins with
abbrev Shrinks : Form → Type 0
Shrinks P = (ts rest : List Placed) → P ts rest → length rest ≤ length ts

both_shrink : {P Q : Form} → Shrinks P → Shrinks Q → Shrinks (P ⨾ Q)
both_shrink p q ts rest (m, first, second) =
    let a = p ts m first in let b = q m rest second in omega arith

token_shrinks : (x : Lexeme) (p : Place) → Shrinks (lexeme_at x p)
token_shrinks x p ts rest is = let a = one_less x p ts rest is in omega arith

some_place_shrinks : (P : Place → Form) → ((p : Place) → Shrinks (P p)) → Shrinks (somewhere P)
some_place_shrinks P each_one ts rest (p, is) = each_one p ts rest is

given_shrinks : (A : Type 0) (P : Form) → Shrinks P → Shrinks (given A P)
given_shrinks A P p ts rest (holds, is) = p ts rest is

perhaps_shrinks : {A : Type 0} (P : A → Form) → ((x : A) → Shrinks (P x)) → (o : Option A) →
    Shrinks (perhaps P o)
perhaps_shrinks P each_one None ts rest is =
    let same : length ts ≡ length rest = ap length is in omega arith
perhaps_shrinks P each_one (Some x) ts rest is = each_one x ts rest is

each_shrinks : {A : Type 0} (P : A → Form) → ((x : A) → Shrinks (P x)) → (xs : List A) →
    Shrinks (each P xs)
each_shrinks P each_one [] ts rest is =
    let same : length ts ≡ length rest = ap length is in omega arith
each_shrinks P each_one (x ∷ xs) ts rest (m, first, more) =
    let a = each_one x ts m first in
    let b = each_shrinks P each_one xs m rest more in
    omega arith

word_shrinks : (w : WordKind) → Shrinks (a_word w)
word_shrinks w = some_place_shrinks (word_at w) (token_shrinks (word w))

sign_shrinks : (s : SignKind) → Shrinks (a_sign s)
sign_shrinks s = some_place_shrinks (sign_at s) (token_shrinks (sign s))

name_shrinks : (x : List ℕ) (p : Place) → Shrinks (name_at x p)
name_shrinks x p = given_shrinks _ (lexeme_at (identifier x) p) (token_shrinks (identifier x) p)

a_name_shrinks : (x : List ℕ) → Shrinks (a_name x)
a_name_shrinks x = some_place_shrinks (name_at x) (name_shrinks x)

number_shrinks : (e : ExpressionTree) → Shrinks (IsNumber e)
number_shrinks (literal v p) ts rest is = token_shrinks (numeral v) p ts rest is
number_shrinks _ ts rest is = absurd is

range_shrinks : (s : SpanTree) → Shrinks (IsKeyRange s)
range_shrinks s =
    both_shrink (sign_shrinks signs.OpenBracket)
    (both_shrink (both_shrink (number_shrinks s.high)
    (both_shrink (sign_shrinks signs.Colon) (number_shrinks s.low)))
    (sign_shrinks signs.CloseBracket))

key_shrinks : (k : KeyTree) → Shrinks (IsKey k)
key_shrinks k = token_shrinks (numeral k.value) k.place

row_shrinks : (r : RowTree) → Shrinks (IsRow r)
row_shrinks r =
    both_shrink (key_shrinks r.first)
    (both_shrink (perhaps_shrinks (λ (k : KeyTree). a_sign signs.Comma ⨾ IsKey k)
    (λ k. both_shrink (sign_shrinks signs.Comma) (key_shrinks k)) r.second)
    (both_shrink (sign_shrinks signs.Colon)
    (both_shrink (a_name_shrinks r.to) (sign_shrinks signs.Semicolon))))

map_has : (m : MapTree) (ts rest : List Placed) → IsMap m ts rest → length rest + 1 ≤ length ts
unfolding IsMap
map_has m ts rest (n, (p, begins), behind) =
    let a = one_less _ p ts n begins in
    let b =
    both_shrink (name_shrinks m.name m.place)
    (both_shrink (range_shrinks m.span)
    (both_shrink (perhaps_shrinks IsKeyRange range_shrinks m.second)
    (both_shrink (each_shrinks IsRow row_shrinks m.rows)
    (both_shrink (perhaps_shrinks (λ (x : List ℕ). a_word words.Default ⨾ a_sign signs.Colon
    ⨾ a_name x ⨾ a_sign signs.Semicolon)
    (λ x. both_shrink (word_shrinks words.Default) (both_shrink (sign_shrinks signs.Colon)
    (both_shrink (a_name_shrinks x) (sign_shrinks signs.Semicolon)))) m.other)
    (word_shrinks words.Endlabelmap))))) n rest behind in
    omega arith

maps_have : (ms : List MapTree) (ts rest : List Placed) → each IsMap ms ts rest →
    length ms + length rest ≤ length ts
maps_have [] ts rest is = let same : length ts ≡ length rest = ap length is in omega arith
maps_have (m ∷ ms) ts rest (n, first, more) =
    let a = map_has m ts n first in
    let b = maps_have ms n rest more in
    omega arith

-- ---- texts

pub few_pairs : (bytes : List ℕ) (text : TextTree) → Means bytes text →
    IfSome text.lattice (λ t. length t.pairs ≤ length bytes)
unfolding IsText
few_pairs bytes text (tokens, (stop, are), (m, lattice, modules)) = by_lattice text.lattice lattice
  where
    by_lattice : (o : Option LatticeTree) → perhaps IsLattice o tokens m →
        IfSome o (λ t. length t.pairs ≤ length bytes)
    by_lattice None is = tt
    by_lattice (Some t) is =
        let a = lattice_has t tokens m is in
        let b = few_tokens stop [] _ bytes tokens are in
        omega arith

pub few_maps : (bytes : List ℕ) (text : TextTree) → Means bytes text →
    length text.maps ≤ length bytes
unfolding IsText
few_maps bytes text (tokens, (stop, are), (m, lattice, (n, maps, modules))) =
    let a = maps_have text.maps m n maps in
    let b = few_tokens stop [] _ bytes tokens are in
    let c = perhaps_shrinks IsLattice lattice_shrinks text.lattice tokens m lattice in
    omega arith
