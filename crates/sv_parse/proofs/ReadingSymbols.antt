-- How the symbols of the machine are read one after the other, and how a symbol begins as others
-- do.
use Rattle.std.proofs.Common.{◌≡◌, ℕ, Bool, true, false, List, [], ◌∷◌, ◌++◌, length, Some, inl}
use Rattle.std.proofs.Common.{inr, refl, sym, ap, ◌∙◌, subst}
use Rattle.sv_num.specs.declared.operators.BinOp.{BinOp}
use Rattle.sv_num.specs.declared.operators.BinOp.TheVariants.{Mul, Le}
use Rattle.sv_num.specs.declared.faults.Place.{Place}
use Rattle.sv_token.specs.declared.keywords.WordKind.{WordKind}
use Rattle.sv_token.specs.declared.keywords.WordKind.TheVariants as words
use Rattle.sv_token.specs.declared.signs.SignKind.{SignKind}
use Rattle.sv_token.specs.declared.signs.SignKind.TheVariants as signs
use Rattle.sv_token.specs.declared.signs.Operator.{Operator}
use Rattle.sv_token.specs.Lexemes.{Lexeme, word, identifier, numeral, sign, Placed}
use Rattle.sv_token.specs.Words.{is_refused_word}
use Rattle.sv_ast.specs.GrammarForms.{a_sign, a_word, word_at, somewhere, binary_at}
use Rattle.sv_ast.specs.GrammarForms.{binary_operator}
use Rattle.sv_ast.specs.GrammarStatements.{IsNext}
use Rattle.sv_ast.specs.GrammarExpressions.{is_within}
use Rattle.sv_ast.specs.GrammarRules.{all_limits}
use Rattle.sv_parse_machine.specs.Symbols.{Outer, punctuation, plain_name, plain_number, expression}
use Rattle.sv_parse_machine.specs.Symbols.{more_names, more_values, lattice_lines, less_equal, map_name}
use Rattle.sv_parse_machine.specs.Symbols.{rows, perhaps_second_key, end_of_map, event, event_inside}
use Rattle.sv_parse_machine.specs.Symbols.{perhaps_maps, perhaps_key_range, items, statement}
use Rattle.sv_parse_machine.specs.Symbols.{one_module, perhaps_header_parameters, perhaps_ports}
use Rattle.sv_parse_machine.specs.Symbols.{header_parameter, more_header_parameters}
use Rattle.sv_parse_machine.specs.Symbols.{more_named_overrides, links, link, more_named_links}
use Rattle.sv_parse_machine.specs.Symbols.{more_instances, outer, State, OuterReaction, takes}
use Rattle.sv_parse_machine.specs.Symbols.{begins, over, stuck, and_then, unless_refused}
use Rattle.sv_parse_machine.specs.ModuleTable.{number_range, star_in_event}
use Rattle.sv_parse_machine.specs.StatementTable.{is_sign, is_star, is_less_equal, taken_if}
use Rattle.sv_parse_machine.specs.Machine.{outer_on, MachineStep, outside_on, after_outer}
use Rattle.sv_parse_machine.specs.Machine.{within_limits, step, may_be_empty, ended, at_end, go_on}
use Rattle.sv_parse_machine.specs.Machine.{run}
use Rattle.sv_parse_machine.specs.Reads.{IsNot, NextIs, NextIsNotWord, NextIsAnyName, Reads, GoesOn}
use Rattle.sv_parse_expr.specs.declared.stop.Stop.{Stop}
use Rattle.sv_parse_expr.specs.Expectations.{HaltsAs}
use Rattle.sv_parse_machine.proofs.ReadSteps.{reads_then, reads_before, takes_token, expression_from}
use Rattle.sv_parse_machine.proofs.ReadSteps.{reads_expression}
use Rattle.sv_parse_machine.proofs.ReadRows.{sign_taken, word_taken}
use Rattle.sv_parse_machine.proofs.ReadLists.{NextIsIdentifier, same_outer}
use Rattle.sv_parse_expr.proofs.Halting.{stops_then}
use Rattle.sv_parse.specs.ReadingTexts.{EndsRows}
use Rattle.sv_parse.proofs.DeclarationRuns.{and_read, front_read}

-- ---- one after the other

pub group_read : (xs ys zs : State) (ts mid rest : List Placed) → Reads xs [] ts mid →
    Reads ys zs mid rest → Reads (xs ++ ys) zs ts rest
group_read xs ys zs ts mid rest first second =
    reads_then (xs ++ ys) ys zs ts mid rest (reads_before xs [] ys ts mid first) second

pub group_stop : (xs ys : State) (ts mid : List Placed) (stop : Stop) → Reads xs [] ts mid →
    HaltsAs ys mid stop → HaltsAs (xs ++ ys) ts stop
group_stop xs ys ts mid stop first second =
    stops_then (xs ++ ys) ys ts mid stop (reads_before xs [] ys ts mid first) second

-- ---- what comes next

pub word_is_next : (w : WordKind) (ts rest : List Placed) → a_word w ts rest → IsNext w ts
word_is_next w ts rest (p, at) = subst (λ us. IsNext w us) (sym at) refl

pub other_word : (v w : WordKind) (ts rest : List Placed) → (word v ≡ word w → ⊥) →
    a_word v ts rest → NextIsNotWord w ts
other_word v w ts rest differs (p, at) = subst (λ us. NextIsNotWord w us) (sym at) differs

-- the token of a word that was looked at
pub next_word_taken : (y : Outer) (w : WordKind) (ys : List Outer) (ts rest : List Placed)
    → outer_on y (word w) ≡ takes 0 0 ys → (p : Place) → word_at w p ts rest
    → Reads (outer y ∷ []) (outside_on ys) ts rest
next_word_taken y w ys ts rest row p at = word_taken y w ys ts rest row (p, at)

-- ---- symbols that begin as others do

abbrev MayComeNext : OuterReaction → Type 0
MayComeNext (takes level arm ys) = Unit {0}
MayComeNext (stuck e) = Unit {0}
MayComeNext r = ⊥

outside_append : (xs ys : List Outer) (below : State) →
    outside_on (xs ++ ys) ++ below ≡ outside_on xs ++ (outside_on ys ++ below)
outside_append [] ys below = refl
outside_append (x ∷ xs) ys below = ap (λ (s : State). outer x ∷ s) (outside_append xs ys below)

then_outer : (ys : List Outer) (r : OuterReaction) → MayComeNext r
    → (after : ℕ) (below : State) (skip other : MachineStep)
    → after_outer all_limits after below skip (and_then ys r) ≡
    after_outer all_limits after (outside_on ys ++ below) other r
then_outer ys (takes level arm xs) may after below skip other =
    ap (λ s. within_limits (is_within all_limits.levels level) (is_within all_limits.arms arm) s)
    (outside_append xs ys below)
then_outer ys (begins level arm xs zs) may after below skip other = absurd may
then_outer ys over may after below skip other = absurd may
then_outer ys (stuck e) may after below skip other = refl

-- a symbol does to the next token what another one does that has to come, and these behind it
pub begins_as : (y z : Outer) (ys : List Outer) (ts : List Placed) → may_be_empty (outer y) ≡ false
    → may_be_empty (outer z) ≡ false
    → ((x : Lexeme) → MayComeNext (outer_on z x))
    → NextIs (λ x. outer_on y x ≡ and_then ys (outer_on z x)) ts
    → Reads (outer y ∷ []) (outer z ∷ outside_on ys) ts ts
begins_as y z ys [] first second may next = record {
  runs =
      λ below. ap (λ b. ended b (at_end below)) first
      ∙ sym (ap (λ b. ended b (at_end (outside_on ys ++ below))) second);
}
begins_as y z ys (t ∷ ts) first second may next = record {
  runs = λ below.
      ap (λ st. go_on (λ s. run all_limits s ts) (t ∷ ts) st)
      (ap (λ r. after_outer all_limits (length ts) below
      (step all_limits (length ts) below t.lexeme) r) next
      ∙ then_outer ys (outer_on z t.lexeme) (may t.lexeme) (length ts) below
      (step all_limits (length ts) below t.lexeme)
      (step all_limits (length ts) (outside_on ys ++ below) t.lexeme));
}

may_refused : (b : Bool) → MayComeNext (unless_refused b (takes 0 0 []))
may_refused true = tt
may_refused false = tt

may_taken : (b : Bool) → MayComeNext (taken_if b)
may_taken true = tt
may_taken false = tt

may_name : (x : Lexeme) → MayComeNext (outer_on plain_name x)
may_name (identifier x) = may_refused (is_refused_word x)
may_name x = tt

may_number : (x : Lexeme) → MayComeNext (outer_on plain_number x)
may_number (numeral v) = tt
may_number x = tt

may_sign : (s : SignKind) (x : Lexeme) → MayComeNext (outer_on (punctuation s) x)
may_sign s (sign t) = may_taken (is_sign s t)
may_sign s x = tt

named_then : (b : Bool) (ys : List Outer) →
    unless_refused b (takes 0 0 ys) ≡ and_then ys (unless_refused b (takes 0 0 []))
named_then true ys = refl
named_then false ys = refl

next_of : (P Q : Lexeme → Type 0) → ((x : Lexeme) → P x → Q x) → (ts : List Placed) → NextIs P ts →
    NextIs Q ts
next_of P Q f [] next = tt
next_of P Q f (t ∷ ts) next = f t.lexeme next

each_next : (P : Lexeme → Type 0) → ((x : Lexeme) → P x) → (ts : List Placed) → NextIs P ts
each_next P is [] = tt
each_next P is (t ∷ ts) = is t.lexeme

both_next : (P Q : Lexeme → Type 0) (ts : List Placed) → NextIs P ts → NextIs Q ts →
    NextIs (λ x. P x × Q x) ts
both_next P Q [] first second = tt
both_next P Q (t ∷ ts) first second = (first, second)

-- ---- lattices

abbrev pub pair_behind_name : List Outer
pair_behind_name = less_equal ∷ plain_name ∷ punctuation signs.Semicolon ∷ lattice_lines ∷ []

row_pair : (x : Lexeme) → IsNot (word words.Point) x × IsNot (word words.Endlattice) x →
    outer_on lattice_lines x ≡ and_then pair_behind_name (outer_on plain_name x)
row_pair (word words.Point) other = absurd (other.0 refl)
row_pair (word words.Endlattice) other = absurd (other.1 refl)
row_pair (identifier x) other = named_then (is_refused_word x) pair_behind_name
row_pair x other = refl

-- a line is a pair where it is none of points
pub begins_pair : (ts : List Placed) → NextIsNotWord words.Point ts
    → NextIsNotWord words.Endlattice ts
    → Reads (outer lattice_lines ∷ []) (outer plain_name ∷ outside_on pair_behind_name) ts ts
begins_pair ts no_point no_end =
    begins_as lattice_lines plain_name pair_behind_name ts refl refl may_name
    (next_of (λ x. IsNot (word words.Point) x × IsNot (word words.Endlattice) x) (λ x.
    outer_on lattice_lines x ≡ and_then pair_behind_name (outer_on plain_name x)) row_pair ts
    (both_next (IsNot (word words.Point)) (IsNot (word words.Endlattice)) ts no_point no_end))

pub goes_on_names : GoesOn (outer (more_names signs.Semicolon) ∷ []) (outer plain_name ∷ [])
goes_on_names =
    record {
      comma = λ ts rest comes.
          sign_taken (more_names signs.Semicolon) signs.Comma
          (plain_name ∷ more_names signs.Semicolon ∷ []) ts rest refl comes;
    }

-- ---- label maps

abbrev pub row_behind_key : List Outer
row_behind_key =
    perhaps_second_key ∷ punctuation signs.Colon ∷ plain_name ∷ punctuation signs.Semicolon ∷
    rows ∷ []

row_row : (x : Lexeme) → IsNot (word words.Default) x × IsNot (word words.Endlabelmap) x →
    outer_on rows x ≡ and_then row_behind_key (outer_on plain_number x)
row_row (word words.Default) other = absurd (other.0 refl)
row_row (word words.Endlabelmap) other = absurd (other.1 refl)
row_row (numeral v) other = refl
row_row x other = refl

pub begins_row : (ts : List Placed) → NextIsNotWord words.Default ts →
    NextIsNotWord words.Endlabelmap ts →
    Reads (outer rows ∷ []) (outer plain_number ∷ outside_on row_behind_key) ts ts
begins_row ts no_default no_end =
    begins_as rows plain_number row_behind_key ts refl refl may_number
    (next_of (λ x. IsNot (word words.Default) x × IsNot (word words.Endlabelmap) x) (λ x.
    outer_on rows x ≡ and_then row_behind_key (outer_on plain_number x)) row_row ts
    (both_next (IsNot (word words.Default)) (IsNot (word words.Endlabelmap)) ts no_default no_end))

abbrev pub map_behind_name : List Outer
map_behind_name = punctuation signs.OpenBracket ∷ number_range

row_map_name : (x : Lexeme) → outer_on map_name x ≡ and_then map_behind_name (outer_on plain_name x)
row_map_name (identifier x) = named_then (is_refused_word x) map_behind_name
row_map_name x = refl

pub begins_map_name : (ts : List Placed) →
    Reads (outer map_name ∷ []) (outer plain_name ∷ outside_on map_behind_name) ts ts
begins_map_name ts =
    begins_as map_name plain_name map_behind_name ts refl refl may_name
    (each_next (λ x. outer_on map_name x ≡ and_then map_behind_name (outer_on plain_name x))
    row_map_name ts)

abbrev pub map_range : State
map_range = outside_on map_behind_name

abbrev pub behind_map_range : State
behind_map_range = outer perhaps_key_range ∷ outer rows ∷ outer perhaps_maps ∷ []

-- a map is read up to its name
pub map_comes : (ts rest : List Placed) → a_word words.Labelmap ts rest →
    Reads (outer perhaps_maps ∷ []) (outer plain_name ∷ (map_range ++ behind_map_range)) ts rest
map_comes ts rest comes =
    reads_then (outer perhaps_maps ∷ []) (outer map_name ∷ behind_map_range)
    (outer plain_name ∷ (map_range ++ behind_map_range)) ts rest rest
    (word_taken perhaps_maps words.Labelmap
    (map_name ∷ perhaps_key_range ∷ rows ∷ perhaps_maps ∷ []) ts rest refl comes)
    (reads_before (outer map_name ∷ []) (outer plain_name ∷ map_range) behind_map_range rest rest
    (begins_map_name rest))

-- and up to the second range of its keys, its rows and its end
pub map_range_comes : (ts named ranged rest : List Placed) → a_word words.Labelmap ts named →
    Reads (outer plain_name ∷ []) [] named ranged → Reads map_range [] ranged rest →
    Reads (outer perhaps_maps ∷ []) behind_map_range ts rest
map_range_comes ts named ranged rest comes name range =
    reads_then (outer perhaps_maps ∷ []) (outer plain_name ∷ (map_range ++ behind_map_range))
    behind_map_range ts named rest (map_comes ts named comes)
    (and_read (outer plain_name) (map_range ++ behind_map_range) behind_map_range named ranged rest
    name (reads_before map_range [] behind_map_range ranged rest range))

pub map_rows_come : (ts mid keyed rest : List Placed) (xs : State) →
    Reads (outer perhaps_maps ∷ []) behind_map_range ts mid →
    Reads (outer perhaps_key_range ∷ []) [] mid keyed → Reads (outer rows ∷ []) xs keyed rest →
    Reads (outer perhaps_maps ∷ []) (xs ++ (outer perhaps_maps ∷ [])) ts rest
map_rows_come ts mid keyed rest xs before second read =
    reads_then (outer perhaps_maps ∷ []) behind_map_range (xs ++ (outer perhaps_maps ∷ [])) ts mid
    rest before
    (and_read (outer perhaps_key_range) (outer rows ∷ outer perhaps_maps ∷ [])
    (xs ++ (outer perhaps_maps ∷ [])) mid keyed rest second
    (reads_before (outer rows ∷ []) xs (outer perhaps_maps ∷ []) keyed rest read))

-- a map without a point of the other keys ends with its rows
pub ends_rows : (ts : List Placed) → NextIsNotWord words.Default ts → EndsRows ts →
    Reads (outer rows ∷ []) (outer end_of_map ∷ []) ts ts
ends_rows [] other ends = record { runs = λ below. refl }
ends_rows (t ∷ ts) other (inl is) = absurd (other is)
ends_rows (t ∷ ts) other (inr is) =
    same_outer rows end_of_map (t ∷ ts) refl refl
    (subst (λ x. outer_on rows x ≡ outer_on end_of_map x) (sym is) refl)

-- ---- instances

-- a symbol that begins an expression begins as the expression does, and what is behind it
pub as_expression : (xs : State) (n : ℕ) (ys : List Outer) (ts : List Placed)
    → Reads xs (expression_from (length ts) n ys) ts ts
    → Reads xs (outer (expression n) ∷ outside_on ys) ts ts
as_expression xs n ys ts is = record {
  runs =
      λ below. is.runs below
      ∙ sym ((reads_before (outer (expression n) ∷ []) (expression_from (length ts) n [])
      (outside_on ys) ts ts (reads_expression n ts)).runs below);
}

-- a symbol begins with a sign that comes
pub begins_with_sign : (y : Outer) (s : SignKind) (ys : List Outer) (ts rest : List Placed)
    → is_sign s s ≡ true → outer_on y (sign s) ≡ takes 0 0 ys → a_sign s ts rest
    → Reads (outer y ∷ []) (outer (punctuation s) ∷ outside_on ys) ts ts
begins_with_sign y s ys ts rest known row (p, at) =
    subst (λ us. Reads (outer y ∷ []) (outer (punctuation s) ∷ outside_on ys) us us) (sym at)
    (record {
      runs = λ below.
          (takes_token y ys (record { lexeme = sign s; place = p }) rest row).runs below
          ∙ sym ((takes_token (punctuation s) [] (record { lexeme = sign s; place = p }) rest
          (ap taken_if known)).runs (outside_on ys ++ below));
    })

pub goes_on_overrides :
    GoesOn (outer more_named_overrides ∷ [])
    (outer (punctuation signs.Dot) ∷ outer plain_name ∷ outer (punctuation signs.OpenParenthesis) ∷
    outer (expression 0) ∷ outer (punctuation signs.CloseParenthesis) ∷ [])
goes_on_overrides = record {
  comma = λ ts rest comes.
      sign_taken more_named_overrides signs.Comma
      (punctuation signs.Dot ∷ plain_name ∷ punctuation signs.OpenParenthesis ∷ expression 0 ∷
      punctuation signs.CloseParenthesis ∷ more_named_overrides ∷ []) ts rest refl comes;
}

pub goes_on_values : GoesOn (outer more_values ∷ []) (outer (expression 0) ∷ [])
goes_on_values =
    record {
      comma = λ ts rest comes.
          sign_taken more_values signs.Comma (expression 0 ∷ more_values ∷ []) ts rest refl comes;
    }

pub goes_on_links :
    GoesOn (outer more_named_links ∷ [])
    (outer (punctuation signs.Dot) ∷ outer plain_name ∷
    outer (punctuation signs.OpenParenthesis) ∷ outer link ∷ [])
goes_on_links = record {
  comma = λ ts rest comes.
      sign_taken more_named_links signs.Comma
      (punctuation signs.Dot ∷ plain_name ∷ punctuation signs.OpenParenthesis ∷ link ∷
      more_named_links ∷ []) ts rest refl comes;
}

pub goes_on_instances :
    GoesOn (outer more_instances ∷ [])
    (outer plain_name ∷ outer (punctuation signs.OpenParenthesis) ∷ outer links ∷ [])
goes_on_instances = record {
  comma =
      λ ts rest comes. sign_taken more_instances signs.Comma
      (plain_name ∷ punctuation signs.OpenParenthesis ∷ links ∷ more_instances ∷ []) ts rest
      refl comes;
}

-- ---- what a word or a sign in front says is to come

pub module_comes : (p : Place) (ts rest : List Placed) → word_at words.Module p ts rest →
    Reads (outer one_module ∷ [])
    (outside_on (plain_name ∷ perhaps_header_parameters ∷ perhaps_ports ∷
    punctuation signs.Semicolon ∷ items ∷ [])) ts rest
module_comes p ts rest comes =
    next_word_taken one_module words.Module
    (plain_name ∷ perhaps_header_parameters ∷ perhaps_ports ∷ punctuation signs.Semicolon ∷
    items ∷ []) ts rest refl p comes

-- a header is read up to its ports
pub header_comes : (p : Place) (ts named listed rest : List Placed) →
    word_at words.Module p ts named → Reads (outer plain_name ∷ []) [] named listed →
    Reads (outer perhaps_header_parameters ∷ []) [] listed rest →
    Reads (outer one_module ∷ [])
    (outside_on (perhaps_ports ∷ punctuation signs.Semicolon ∷ items ∷ [])) ts rest
header_comes p ts named listed rest comes name parameters =
    reads_then _ _ _ ts named rest (module_comes p ts named comes)
    (and_read _ _ _ named listed rest name (front_read _ _ listed rest parameters))

pub process_comes : (p : Place) (ts rest : List Placed) → word_at words.Always p ts rest →
    Reads (outer items ∷ [])
    (outside_on (punctuation signs.At ∷ event ∷ statement 0 ∷ items ∷ [])) ts rest
process_comes p ts rest comes =
    next_word_taken items words.Always (punctuation signs.At ∷ event ∷ statement 0 ∷ items ∷ []) ts
    rest refl p comes

-- the edge that wakes a process, before the name of its clock
pub edge_read : (ts rest : List Placed) → a_word words.Posedge ts rest →
    Reads (outer event_inside ∷ [])
    (outside_on (plain_name ∷ punctuation signs.CloseParenthesis ∷ [])) ts rest
edge_read ts rest comes =
    word_taken event_inside words.Posedge (plain_name ∷ punctuation signs.CloseParenthesis ∷ []) ts
    rest refl comes

pub parameters_come : (ts rest : List Placed) → a_sign signs.Hash ts rest →
    Reads (outer perhaps_header_parameters ∷ [])
    (outside_on (punctuation signs.OpenParenthesis ∷ header_parameter ∷
    more_header_parameters ∷ [])) ts rest
parameters_come ts rest comes =
    sign_taken perhaps_header_parameters signs.Hash
    (punctuation signs.OpenParenthesis ∷ header_parameter ∷ more_header_parameters ∷ []) ts rest
    refl comes

-- ---- operators

pub operator_taken : (y : Outer) (op : BinOp) (ys : List Outer) (ts rest : List Placed)
    → ((o : Operator) → binary_operator o ≡ Some op
    → outer_on y (sign (signs.Operator o)) ≡ takes 0 0 ys) → somewhere (binary_at op) ts rest
    → Reads (outer y ∷ []) (outside_on ys) ts rest
operator_taken y op ys ts rest row (p, (o, known, at)) =
    subst (λ us. Reads (outer y ∷ []) (outside_on ys) us rest) (sym at)
    (takes_token y ys (record { lexeme = sign (signs.Operator o); place = p }) rest
    (row o known))

pub less_equal_read : (ts rest : List Placed) → somewhere (binary_at Le) ts rest →
    Reads (outer less_equal ∷ []) [] ts rest
less_equal_read ts rest comes =
    operator_taken less_equal Le [] ts rest (λ o known.
    ap (λ f. taken_if (is_less_equal f)) known) comes

pub star_read : (ts rest : List Placed) → somewhere (binary_at Mul) ts rest →
    Reads (outer event ∷ []) [] ts rest
star_read ts rest comes =
    operator_taken event Mul [] ts rest (λ o known. ap (λ f. taken_if (is_star f)) known) comes

pub star_inside_read : (ts rest : List Placed) → somewhere (binary_at Mul) ts rest →
    Reads (outer event_inside ∷ []) (outer (punctuation signs.CloseParenthesis) ∷ []) ts rest
star_inside_read ts rest comes =
    operator_taken event_inside Mul (punctuation signs.CloseParenthesis ∷ []) ts rest (λ o known.
    ap (λ f. star_in_event (is_star f)) known) comes

-- ---- names

pub any_name : (ts : List Placed) → NextIsAnyName ts → NextIsIdentifier ts
any_name [] next = next
any_name (t ∷ ts) next = next
