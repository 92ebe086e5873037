-- Modules, lattices and label maps determine their trees, and tokens mean at most one text.
use Rattle.std.proofs.Common.{◌≡◌, ℕ, Bool, true, false, not, List, [], ◌∷◌, flat_map, Option, refl}
use Rattle.std.proofs.Common.{sym, ap, subst, ◌∙◌}
use Rattle.std.proofs.lemmas.Bool.{false≢true}
use Rattle.sv_num.specs.declared.operators.BinOp.TheVariants.{Le}
use Rattle.sv_num.specs.declared.faults.Place.{Place}
use Rattle.sv_token.specs.declared.keywords.WordKind.{WordKind}
use Rattle.sv_token.specs.declared.keywords.WordKind.TheVariants as words
use Rattle.sv_token.specs.declared.signs.SignKind.{SignKind}
use Rattle.sv_token.specs.declared.signs.SignKind.TheVariants as signs
use Rattle.sv_token.specs.Lexemes.{Lexeme, word, numeral, sign, Placed}
use Rattle.sv_token.proofs.Agreement.{tokens_are_one}
use Rattle.sv_ast.specs.declared.declarations.DeclKind.{DeclKind}
use Rattle.sv_ast.specs.declared.declarations.DeclKind.TheVariants as kinds
use Rattle.sv_ast.specs.Tree.{ExpressionTree, literal, SpanTree, ParameterTree, DeclarationTree}
use Rattle.sv_ast.specs.Tree.{PlacedName, ModuleTree, PairTree, LatticeTree, RowTree, KeyTree}
use Rattle.sv_ast.specs.Tree.{MapTree, TextTree}
use Rattle.sv_ast.specs.GrammarForms.{Form, ◌⨾◌, ◌or◌, given, nothing, optional, perhaps, each}
use Rattle.sv_ast.specs.GrammarForms.{some, word_at, a_word, a_sign, a_name, in_parentheses}
use Rattle.sv_ast.specs.GrammarExpressions.{Limits}
use Rattle.sv_ast.specs.GrammarDeclarations.{AreHeaderParameters, IsPortKind, ArePorts}
use Rattle.sv_ast.specs.GrammarModules.{hash_parentheses, IsHeader, IsModule, LatticeLine, points}
use Rattle.sv_ast.specs.GrammarModules.{pair, IsLatticeLine, points_of, pairs_of, IsLattice}
use Rattle.sv_ast.specs.GrammarModules.{IsNumber, IsKeyRange, IsKey, IsRow, IsMap, IsText}
use Rattle.sv_ast.specs.GrammarMeaning.{Means}
use Rattle.sv_ast.specs.GrammarRules.{TokensMean, all_limits}
use Rattle.sv_ast.proofs.GrammarOneToken.{NextIs, is_no_bracket}
use Rattle.sv_parse_machine.specs.StatementTable.{is_sign}
use Rattle.sv_parse_machine.proofs.TreeParts.{same_module, same_map}
use Rattle.sv_parse_machine.proofs.OneForm.{Behind, Anything, AreOne, AreApart, Leads, At, one_as}
use Rattle.sv_parse_machine.proofs.OneForm.{one_anywhere, one_apart, one_turned, apart_turned}
use Rattle.sv_parse_machine.proofs.OneForm.{one_nothing, leads_nothing, one_then, one_before, apart_then}
use Rattle.sv_parse_machine.proofs.OneForm.{leads_first, leads_through, one_this, one_mark, one_placed}
use Rattle.sv_parse_machine.proofs.OneForm.{one_plain, one_number_at, sign_behind, word_behind}
use Rattle.sv_parse_machine.proofs.OneForm.{leads_sign, leads_word, leads_this, leads_name, before_sign}
use Rattle.sv_parse_machine.proofs.OneForm.{before_word, then_sign, FirstIs, Refuses, apart_from}
use Rattle.sv_parse_machine.proofs.OneForm.{one_or_none, one_never, leads_never, leads_given, leads_or}
use Rattle.sv_parse_machine.proofs.OneForm.{one_given, one_of_either, one_or}
use Rattle.sv_parse_machine.proofs.OneList.{one_perhaps, leads_perhaps, one_optional, one_each}
use Rattle.sv_parse_machine.proofs.OneList.{leads_each, one_some, one_commas, leads_listed}
use Rattle.sv_parse_machine.proofs.OneType.{is_no_comma, NameIs}
use Rattle.sv_parse_machine.proofs.OneParameter.{one_header_parameters}
use Rattle.sv_parse_machine.proofs.OneDeclaration.{one_ports}
use Rattle.sv_parse_machine.proofs.OneTarget.{one_operator}
use Rattle.sv_parse_machine.proofs.OneInstance.{one_hash}
use Rattle.sv_parse_machine.proofs.OneItem.{one_placed_name, one_items}

-- ---- modules

abbrev is_no_sign : SignKind → Lexeme → Bool
is_no_sign s (sign t) = not (is_sign s t)
is_no_sign s x = true

abbrev NoHash : Behind
NoHash = NextIs (is_no_sign signs.Hash)

abbrev NoParenthesis : Behind
NoParenthesis = NextIs (is_no_sign signs.OpenParenthesis)

abbrev is_a_word : Lexeme → Bool
is_a_word (word w) = true
is_a_word x = false

abbrev HeaderParameters : Limits → List ParameterTree → Form
HeaderParameters l qs = given (qs ≡ []) nothing or hash_parentheses (AreHeaderParameters l qs)

hash_refused : (P : Form) → Refuses NoHash (hash_parentheses P)
hash_refused P = leads_first (leads_sign signs.Hash (λ p rest. false≢true))

none_or : {A E : Type 0} {F : Behind} {P : Form} → Refuses F P → AreOne F E (given A nothing) P
none_or {F = F} refuses =
    record {
      one = λ ts r s is is_too ends ends_too.
          absurd (refuses.leads ts s is_too tt (subst F (sym is.1) ends));
    }

one_parameters_of_header : (l : Limits) (qs rs : List ParameterTree)
    → AreOne NoHash (qs ≡ rs) (HeaderParameters l qs) (HeaderParameters l rs)
one_parameters_of_header l qs rs = one_or
    (one_given (λ none none_too. one_as (λ same. none ∙ sym none_too) one_nothing))
    (none_or (hash_refused _)) (one_turned (none_or (hash_refused _)))
    (one_hash (one_header_parameters l qs rs))

abbrev Ports : Limits → List DeclarationTree → Form
Ports l ds = given (ds ≡ []) (optional (in_parentheses nothing)) or in_parentheses (ArePorts l ds)

parenthesis_refused : (P : Form) → Refuses NoParenthesis (in_parentheses P)
parenthesis_refused P = leads_first (leads_sign signs.OpenParenthesis (λ p rest. false≢true))

leads_port_kind : (k : DeclKind) → Leads (FirstIs is_a_word) Anything (IsPortKind k)
leads_port_kind kinds.Input = leads_first (leads_word words.Input (λ p rest. refl))
leads_port_kind kinds.OutputWire = leads_first (leads_word words.Output (λ p rest. refl))
leads_port_kind kinds.OutputReg = leads_first (leads_word words.Output (λ p rest. refl))
leads_port_kind kinds.Wire = leads_never
leads_port_kind kinds.Reg = leads_never

empty_or_ports : (l : Limits) (ds : List DeclarationTree) →
    AreApart (in_parentheses nothing) (in_parentheses (ArePorts l ds))
empty_or_ports l ds =
    apart_then (one_mark signs.OpenParenthesis) (λ opened. apart_from {D = FirstIs is_a_word}
    (leads_through (leads_nothing (λ ts known. known))
    (leads_sign signs.CloseParenthesis (λ p rest. false≢true)))
    (leads_first (leads_listed _ (λ d. leads_first (leads_port_kind d.kind)) ds)))

one_empty : AreOne NoParenthesis (Unit {0}) (optional (in_parentheses nothing))
    (optional (in_parentheses nothing))
one_empty =
    one_optional (sign_behind signs.OpenParenthesis (then_sign signs.CloseParenthesis one_nothing))
    (parenthesis_refused _)

none_or_ports : {A E : Type 0} (l : Limits) (ds : List DeclarationTree)
    → AreOne NoParenthesis E (given A (optional (in_parentheses nothing)))
    (in_parentheses (ArePorts l ds))
none_or_ports l ds =
    record { one = λ ts r s is is_too ends ends_too. either.one ts r s is.1 is_too ends ends_too }
  where
    either : {E : Type 0} →
        AreOne NoParenthesis E (optional (in_parentheses nothing))
        (in_parentheses (ArePorts l ds))
    either = one_of_either (one_apart (empty_or_ports l ds)) (one_or_none (parenthesis_refused _))

one_ports_of_header : (l : Limits) (ds es : List DeclarationTree) →
    AreOne NoParenthesis (ds ≡ es) (Ports l ds) (Ports l es)
one_ports_of_header l ds es = one_or
    (one_given (λ none none_too. one_as (λ same. none ∙ sym none_too) one_empty))
    (none_or_ports l es) (one_turned (none_or_ports l ds))
    (sign_behind signs.OpenParenthesis
    (before_sign signs.CloseParenthesis (one_ports l ds es) (λ p rest. refl)))

leads_ports : (l : Limits) (ds : List DeclarationTree) →
    Leads NoHash Anything (Ports l ds ⨾ a_sign signs.Semicolon)
leads_ports l ds = leads_through (leads_or
    (leads_given (leads_or (leads_first (leads_sign signs.OpenParenthesis (λ p rest. refl)))
    (leads_nothing (λ ts known. known))))
    (leads_first (leads_sign signs.OpenParenthesis (λ p rest. refl))))
    (leads_sign signs.Semicolon (λ p rest. refl))

one_header : (l : Limits) (m n : ModuleTree)
    → AreOne Anything (((m.name ≡ n.name) × (m.place ≡ n.place))
    × ((m.parameters ≡ n.parameters) × (m.ports ≡ n.ports))) (IsHeader l m) (IsHeader l n)
one_header l m n =
    word_behind words.Module (one_then (one_placed m.name n.name m.place n.place) (λ name.
    one_before (one_parameters_of_header l m.parameters n.parameters) (leads_ports l m.ports)
    (leads_ports l n.ports)
    (λ same. before_sign signs.Semicolon (one_ports_of_header l m.ports n.ports) (λ p rest. refl))))

one_module : (l : Limits) (m n : ModuleTree) → AreOne Anything (m ≡ n) (IsModule l m) (IsModule l n)
unfolding IsModule
one_module l m n =
    one_as (λ both. same_module m n both.0.0.0 both.0.0.1 both.0.1.0 both.0.1.1 both.1)
    (one_then (one_header l m n) (λ header.
    before_word words.Endmodule (one_items l m.items n.items) (λ p rest. refl)))

-- ---- lattices

abbrev is_endlattice : Lexeme → Bool
is_endlattice (word words.Endlattice) = true
is_endlattice x = false

points_or_pair : (xs : List PlacedName) (q : PairTree) →
    AreApart (IsLatticeLine (points xs)) (IsLatticeLine (pair q))
points_or_pair xs q =
    apart_from {D = NameIs} (leads_first (leads_word words.Point (λ p rest. false≢true)))
    (leads_first (leads_name q.lower.name q.lower.place (λ p rest. refl)))

one_line : (a b : LatticeLine) → AreOne Anything (a ≡ b) (IsLatticeLine a) (IsLatticeLine b)
one_line (points xs) (points ys) =
    one_as (λ same. ap points same) (word_behind words.Point
    (before_sign signs.Semicolon (one_commas {F = Anything} one_placed_name (λ p rest.
    tt) (λ ts ends. tt) xs ys) (λ p rest. refl)))
one_line (points xs) (pair r) = one_apart (points_or_pair xs r)
one_line (pair q) (points ys) = one_apart (apart_turned (points_or_pair ys q))
one_line (pair q) (pair r) =
    one_as (λ both i. pair (record { lower = both.0 i; upper = both.1.1 i }))
    (one_then (one_placed_name q.lower r.lower) (λ lower. one_then (one_operator Le)
    (λ flows. then_sign signs.Semicolon (one_placed_name q.upper r.upper))))

line_is_no_end : (a : LatticeLine) → Refuses (FirstIs is_endlattice) (IsLatticeLine a)
line_is_no_end (points xs) = leads_first (leads_word words.Point (λ p rest. false≢true))
line_is_no_end (pair q) = leads_first (leads_name q.lower.name q.lower.place (λ p rest. false≢true))

one_lattice : (a b : LatticeTree) → AreOne Anything (a ≡ b) (IsLattice a) (IsLattice b)
unfolding IsLattice
one_lattice a b = record {
  one = λ ts r s is is_too ends ends_too.
      let known = lines a.place b.place is.0 is_too.0 in
      let both = known.one ts r s is.3 is_too.3 tt tt in
      let lines_too = both.0.1 in (
        same (both.0.0) (is.1 ∙ ap (flat_map points_of) lines_too ∙ sym is_too.1) (is.2
            ∙ ap (flat_map pairs_of) lines_too ∙ sym is_too.2),
        both.1,
      );
}
  where
    lines : (p q : Place) (xs ys : List LatticeLine)
        → AreOne Anything ((p ≡ q) × (xs ≡ ys)) (word_at words.Lattice p ⨾ each IsLatticeLine xs
        ⨾ a_word words.Endlattice) (word_at words.Lattice q ⨾ each IsLatticeLine ys
        ⨾ a_word words.Endlattice)
    lines p q xs ys =
        one_then (one_this (word words.Lattice) p q) (λ at.
        before_word words.Endlattice (one_each one_line line_is_no_end xs ys) (λ p rest. refl))

    same : a.place ≡ b.place → a.points ≡ b.points → a.pairs ≡ b.pairs → a ≡ b
    same p q r i = record { place = p i; points = q i; pairs = r i }

-- ---- label maps

one_number_tree : (e f : ExpressionTree) → AreOne Anything (e ≡ f) (IsNumber e) (IsNumber f)
one_number_tree (literal v p) (literal w q) =
    one_as (λ both i. literal (both.0 i) (both.1 i)) (one_number_at v w p q)
one_number_tree (literal v p) f = one_turned one_never
one_number_tree e f = one_never

one_key_range : (s t : SpanTree) → AreOne Anything (s ≡ t) (IsKeyRange s) (IsKeyRange t)
one_key_range s t =
    one_as (λ both i. record { high = both.0 i; low = both.1 i })
    (sign_behind signs.OpenBracket (then_sign signs.CloseBracket
    (one_then (one_number_tree s.high t.high) (λ high.
    sign_behind signs.Colon (one_number_tree s.low t.low)))))

one_key : (k j : KeyTree) → AreOne Anything (k ≡ j) (IsKey k) (IsKey j)
one_key k j =
    one_as (λ both i. record { value = both.0 i; place = both.1 i })
    (one_number_at k.value j.value k.place j.place)

one_point : (x y : List ℕ) →
    AreOne Anything (x ≡ y) (a_sign signs.Colon ⨾ a_name x ⨾ a_sign signs.Semicolon)
    (a_sign signs.Colon ⨾ a_name y ⨾ a_sign signs.Semicolon)
one_point x y = sign_behind signs.Colon (then_sign signs.Semicolon (one_plain x y))

one_row : (a b : RowTree) → AreOne Anything (a ≡ b) (IsRow a) (IsRow b)
one_row a b =
    one_as (λ both i. record { first = both.0 i; second = both.1.0 i; to = both.1.1 i })
    (one_then (one_key a.first b.first) (λ first.
    one_before {F = NextIs is_no_comma}
    (one_perhaps (λ k j. one_anywhere (sign_behind signs.Comma (one_key k j)))
    (λ k. leads_first (leads_sign signs.Comma (λ p rest. false≢true))) a.second b.second)
    (leads_first (leads_sign signs.Colon (λ p rest. refl)))
    (leads_first (leads_sign signs.Colon (λ p rest. refl)))
    (λ second. one_point a.to b.to)))

abbrev is_no_number : Lexeme → Bool
is_no_number (numeral v) = false
is_no_number x = true

abbrev is_no_default : Lexeme → Bool
is_no_default (word words.Default) = false
is_no_default x = true

abbrev IsOther : List ℕ → Form
IsOther x = a_word words.Default ⨾ a_sign signs.Colon ⨾ a_name x ⨾ a_sign signs.Semicolon

abbrev MapEnd : Option (List ℕ) → Form
MapEnd other = perhaps IsOther other ⨾ a_word words.Endlabelmap

one_map_end : (x y : Option (List ℕ)) → AreOne Anything (x ≡ y) (MapEnd x) (MapEnd y)
one_map_end x y =
    before_word {F = NextIs is_no_default} words.Endlabelmap
    (one_perhaps (λ a b. one_anywhere (word_behind words.Default (one_point a b)))
    (λ a. leads_first (leads_word words.Default (λ p rest. false≢true))) x y)
    (λ p rest. refl)

leads_map_end : {F : Behind} → At F (word words.Default) → At F (word words.Endlabelmap) →
    (x : Option (List ℕ)) → Leads F Anything (MapEnd x)
leads_map_end {F = F} default end x =
    leads_through (leads_perhaps {F = F} {D = F} (λ a.
    leads_first (leads_word words.Default default)) (λ ts known. known) x)
    (leads_word words.Endlabelmap end)

row_is_number : (a : RowTree) → Refuses (NextIs is_no_number) (IsRow a)
row_is_number a =
    leads_first (leads_this (numeral a.first.value) a.first.place (λ p rest. false≢true))

one_rows : (a b : MapTree) →
    AreOne Anything ((a.rows ≡ b.rows) × (a.other ≡ b.other)) (each IsRow a.rows ⨾ MapEnd a.other)
    (each IsRow b.rows ⨾ MapEnd b.other)
one_rows a b =
    one_before (one_each one_row row_is_number a.rows b.rows)
    (leads_map_end (λ p rest. refl) (λ p rest. refl) a.other)
    (leads_map_end (λ p rest. refl) (λ p rest. refl) b.other)
    (λ rows. one_map_end a.other b.other)

leads_rows : (a : MapTree) →
    Leads (NextIs is_no_bracket) Anything (each IsRow a.rows ⨾ MapEnd a.other)
leads_rows a = leads_through
    (leads_each {D = NextIs is_no_bracket} (λ row.
    leads_first (leads_this (numeral row.first.value) row.first.place (λ p rest. refl)))
    (λ ts known. known) a.rows)
    (leads_map_end (λ p rest. refl) (λ p rest. refl) a.other)

one_map : (a b : MapTree) → AreOne Anything (a ≡ b) (IsMap a) (IsMap b)
unfolding IsMap
one_map a b =
    one_as (λ both. same_map a b both.0.0 both.0.1 both.1.0 both.1.1.0 both.1.1.1.0 both.1.1.1.1)
    (word_behind words.Labelmap (one_then (one_placed a.name b.name a.place b.place) (λ name.
    one_then (one_key_range a.span b.span) (λ span.
    one_before {F = NextIs is_no_bracket} (one_perhaps (λ s t. one_anywhere (one_key_range s t))
    (λ s. leads_first (leads_sign signs.OpenBracket (λ p rest. false≢true))) a.second b.second)
    (leads_rows a) (leads_rows b) (λ second. one_rows a b)))))

-- ---- texts

abbrev AtEnd : Behind
AtEnd ts = ts ≡ []

abbrev comes_not : WordKind → Lexeme → Bool
comes_not words.Labelmap (word words.Labelmap) = false
comes_not words.Lattice (word words.Lattice) = false
comes_not w x = true

leads_module : {F D : Behind} (l : Limits) (m : ModuleTree) → At F (word words.Module) →
    Leads F D (IsModule l m)
unfolding IsModule
leads_module l m begins = leads_first (leads_first (leads_word words.Module begins))

leads_modules : {F D : Behind} (l : Limits) (ms : List ModuleTree) → At F (word words.Module) →
    Leads F D (some (IsModule l) ms)
leads_modules l [] begins = leads_never
leads_modules l (m ∷ ms) begins = leads_first (leads_module l m begins)

leads_map : {F D : Behind} (a : MapTree) → At F (word words.Labelmap) → Leads F D (IsMap a)
unfolding IsMap
leads_map a begins = leads_first (leads_word words.Labelmap begins)

leads_lattice : {F D : Behind} (a : LatticeTree) → At F (word words.Lattice) →
    Leads F D (IsLattice a)
unfolding IsLattice
leads_lattice {F = F} a begins = record {
  leads = λ ts r is ends.
      let known = leads_this {F = F} {D = Anything} (word words.Lattice) a.place begins in
      known.leads ts is.3.0 is.3.1 tt;
}

leads_maps : (l : Limits) (t : TextTree) →
    Leads (NextIs (comes_not words.Lattice)) AtEnd (each IsMap t.maps ⨾ some (IsModule l) t.modules)
leads_maps l t = leads_through
    (leads_each {D = NextIs (comes_not words.Lattice)} (λ a. leads_map a (λ p rest. refl))
    (λ ts known. known) t.maps)
    (leads_modules l t.modules (λ p rest. refl))

no_end : (p : Place) (rest : List Placed) →
    record { lexeme = word words.Module; place = p } ∷ rest ≡ [] → ⊥
no_end p rest same = cc

one_text_of : (l : Limits) (t u : TextTree) → AreOne AtEnd (t ≡ u)
    (perhaps IsLattice t.lattice ⨾ each IsMap t.maps ⨾ some (IsModule l) t.modules)
    (perhaps IsLattice u.lattice ⨾ each IsMap u.maps ⨾ some (IsModule l) u.modules)
one_text_of l t u =
    one_as (λ both i. record { lattice = both.0 i; maps = both.1.0 i; modules = both.1.1 i })
    (one_before (one_perhaps (λ a b. one_anywhere (one_lattice a b)) (λ a.
    leads_lattice a (λ p rest. false≢true)) t.lattice u.lattice)
    (leads_maps l t) (leads_maps l u)
    (λ lattice. one_before {F = NextIs (comes_not words.Labelmap)}
    (one_each one_map (λ a. leads_map a (λ p rest. false≢true)) t.maps u.maps)
    (leads_modules l t.modules (λ p rest. refl)) (leads_modules l u.modules (λ p rest. refl))
    (λ maps. one_some (one_module l) (λ m. leads_module l m no_end) t.modules u.modules)))

-- tokens mean at most one text
pub one_text : (tokens : List Placed) (t u : TextTree) → TokensMean tokens t →
    TokensMean tokens u → t ≡ u
unfolding IsText
one_text tokens t u is is_too =
    let known = one_text_of all_limits t u in
    (known.one tokens [] [] is is_too refl refl).0

-- and so do bytes
pub one_meaning : (bytes : List ℕ) (t u : TextTree) → Means bytes t → Means bytes u → t ≡ u
one_meaning bytes t u (ts, are, mean) (us, are_too, mean_too) =
    one_text us t u (subst (λ vs. TokensMean vs t) (tokens_are_one are are_too) mean) mean_too
