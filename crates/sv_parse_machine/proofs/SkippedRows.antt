-- For each symbol outside expressions that may be left out, or that an expression may begin: what
-- reading it comes to where no token of its own comes.
use Rattle.std.proofs.Common.{◌≡◌, ℕ, ◌+◌, ◌≤◌, Bool, true, false, List, [], ◌∷◌, length, ◌⊎◌, inl}
use Rattle.std.proofs.Common.{inr, ⊎_elim, refl, arith}
use Rattle.sv_token.specs.declared.keywords.WordKind.TheVariants as words
use Rattle.sv_token.specs.declared.signs.SignKind.TheVariants as signs
use Rattle.sv_token.specs.Lexemes.{Lexeme, word, sign, Placed}
use Rattle.sv_parse_machine.specs.Symbols.{punctuation, plain_name, plain_number, expression}
use Rattle.sv_parse_machine.specs.Symbols.{more_values, perhaps_lattice, lattice_lines, perhaps_maps}
use Rattle.sv_parse_machine.specs.Symbols.{map_name, perhaps_key_range, rows, perhaps_second_key}
use Rattle.sv_parse_machine.specs.Symbols.{perhaps_header_parameters, header_parameter}
use Rattle.sv_parse_machine.specs.Symbols.{more_header_parameters, perhaps_ports, ports, perhaps_wire}
use Rattle.sv_parse_machine.specs.Symbols.{perhaps_signed, perhaps_range, perhaps_label, label_end}
use Rattle.sv_parse_machine.specs.Symbols.{perhaps_second_name, perhaps_value, value_or_release}
use Rattle.sv_parse_machine.specs.Symbols.{more_assigned, perhaps_overrides, overrides, links, link}
use Rattle.sv_parse_machine.specs.Symbols.{statement, perhaps_block_name, perhaps_else, perhaps_bits}
use Rattle.sv_parse_machine.specs.Symbols.{bits_end, arms, more_choices, perhaps_colon, Outer, outer}
use Rattle.sv_parse_machine.specs.Symbols.{over, takes_all}
use Rattle.sv_parse_machine.specs.ExpressionTable.{expression_on}
use Rattle.sv_parse_machine.specs.ModuleTable.{number_range, value_range}
use Rattle.sv_parse_machine.specs.Machine.{outer_on, may_be_empty}
use Rattle.sv_parse_machine.specs.Reads.{IsNot, NextIsNot, Reads}
use Rattle.sv_parse_machine.proofs.ReadSteps.{skips, expression_from, begins_expression}

-- ---- symbols that may be left out, and that one token alone begins

abbrev pub OneToken : Outer → Type 0
OneToken perhaps_lattice = Unit {0}
OneToken perhaps_maps = Unit {0}
OneToken perhaps_key_range = Unit {0}
OneToken perhaps_second_key = Unit {0}
OneToken perhaps_header_parameters = Unit {0}
OneToken perhaps_ports = Unit {0}
OneToken perhaps_wire = Unit {0}
OneToken perhaps_signed = Unit {0}
OneToken perhaps_range = Unit {0}
OneToken perhaps_label = Unit {0}
OneToken perhaps_second_name = Unit {0}
OneToken perhaps_value = Unit {0}
OneToken perhaps_overrides = Unit {0}
OneToken perhaps_block_name = Unit {0}
OneToken (perhaps_else n) = Unit {0}
OneToken (perhaps_bits n) = Unit {0}
OneToken perhaps_colon = Unit {0}
OneToken y = ⊥

-- the token
abbrev pub first_of : (y : Outer) → OneToken y → Lexeme
first_of perhaps_lattice one = word words.Lattice
first_of perhaps_maps one = word words.Labelmap
first_of perhaps_key_range one = sign signs.OpenBracket
first_of perhaps_second_key one = sign signs.Comma
first_of perhaps_header_parameters one = sign signs.Hash
first_of perhaps_ports one = sign signs.OpenParenthesis
first_of perhaps_wire one = word words.Wire
first_of perhaps_signed one = word words.Signed
first_of perhaps_range one = sign signs.OpenBracket
first_of perhaps_label one = sign signs.OpenBrace
first_of perhaps_second_name one = sign signs.Comma
first_of perhaps_value one = sign signs.Equals
first_of perhaps_overrides one = sign signs.Hash
first_of perhaps_block_name one = sign signs.Colon
first_of (perhaps_else n) one = word words.Else
first_of (perhaps_bits n) one = sign signs.OpenBracket
first_of perhaps_colon one = sign signs.Colon
first_of y one = absurd one

-- and what comes behind it
abbrev pub others_of : (y : Outer) → OneToken y → List Outer
others_of perhaps_lattice one = lattice_lines ∷ []
others_of perhaps_maps one = map_name ∷ perhaps_key_range ∷ rows ∷ perhaps_maps ∷ []
others_of perhaps_key_range one = number_range
others_of perhaps_second_key one = plain_number ∷ []
others_of perhaps_header_parameters one =
    punctuation signs.OpenParenthesis ∷ header_parameter ∷ more_header_parameters ∷ []
others_of perhaps_ports one = ports ∷ []
others_of perhaps_wire one = []
others_of perhaps_signed one = []
others_of perhaps_range one = value_range
others_of perhaps_label one = plain_name ∷ label_end ∷ []
others_of perhaps_second_name one = plain_name ∷ []
others_of perhaps_value one = expression 0 ∷ []
others_of perhaps_overrides one = punctuation signs.OpenParenthesis ∷ overrides ∷ []
others_of perhaps_block_name one = plain_name ∷ []
others_of (perhaps_else n) one = statement n ∷ []
others_of (perhaps_bits n) one = expression n ∷ bits_end n ∷ []
others_of perhaps_colon one = []
others_of y one = absurd one

pub row_of_first : (y : Outer) (one : OneToken y) →
    (outer_on y (first_of y one) ≡ takes_all (others_of y one)) × (may_be_empty (outer y) ≡ true)
row_of_first perhaps_lattice one = (refl, refl)
row_of_first perhaps_maps one = (refl, refl)
row_of_first perhaps_key_range one = (refl, refl)
row_of_first perhaps_second_key one = (refl, refl)
row_of_first perhaps_header_parameters one = (refl, refl)
row_of_first perhaps_ports one = (refl, refl)
row_of_first perhaps_wire one = (refl, refl)
row_of_first perhaps_signed one = (refl, refl)
row_of_first perhaps_range one = (refl, refl)
row_of_first perhaps_label one = (refl, refl)
row_of_first perhaps_second_name one = (refl, refl)
row_of_first perhaps_value one = (refl, refl)
row_of_first perhaps_overrides one = (refl, refl)
row_of_first perhaps_block_name one = (refl, refl)
row_of_first (perhaps_else n) one = (refl, refl)
row_of_first (perhaps_bits n) one = (refl, refl)
row_of_first perhaps_colon one = (refl, refl)
row_of_first y one = absurd one

-- before any other token the symbol is over
pub only_first : (y : Outer) (one : OneToken y) (x : Lexeme) →
    (x ≡ first_of y one) ⊎ (outer_on y x ≡ over)
only_first perhaps_lattice one (word words.Lattice) = inl refl
only_first perhaps_lattice one x = inr refl
only_first perhaps_maps one (word words.Labelmap) = inl refl
only_first perhaps_maps one x = inr refl
only_first perhaps_key_range one (sign signs.OpenBracket) = inl refl
only_first perhaps_key_range one x = inr refl
only_first perhaps_second_key one (sign signs.Comma) = inl refl
only_first perhaps_second_key one x = inr refl
only_first perhaps_header_parameters one (sign signs.Hash) = inl refl
only_first perhaps_header_parameters one x = inr refl
only_first perhaps_ports one (sign signs.OpenParenthesis) = inl refl
only_first perhaps_ports one x = inr refl
only_first perhaps_wire one (word words.Wire) = inl refl
only_first perhaps_wire one x = inr refl
only_first perhaps_signed one (word words.Signed) = inl refl
only_first perhaps_signed one x = inr refl
only_first perhaps_range one (sign signs.OpenBracket) = inl refl
only_first perhaps_range one x = inr refl
only_first perhaps_label one (sign signs.OpenBrace) = inl refl
only_first perhaps_label one x = inr refl
only_first perhaps_second_name one (sign signs.Comma) = inl refl
only_first perhaps_second_name one x = inr refl
only_first perhaps_value one (sign signs.Equals) = inl refl
only_first perhaps_value one x = inr refl
only_first perhaps_overrides one (sign signs.Hash) = inl refl
only_first perhaps_overrides one x = inr refl
only_first perhaps_block_name one (sign signs.Colon) = inl refl
only_first perhaps_block_name one x = inr refl
only_first (perhaps_else n) one (word words.Else) = inl refl
only_first (perhaps_else n) one x = inr refl
only_first (perhaps_bits n) one (sign signs.OpenBracket) = inl refl
only_first (perhaps_bits n) one x = inr refl
only_first perhaps_colon one (sign signs.Colon) = inl refl
only_first perhaps_colon one x = inr refl
only_first y one x = absurd one

-- where the token does not come
pub skips_symbol : (y : Outer) (one : OneToken y) (ts : List Placed) → NextIsNot (first_of y one) ts
    → Reads (outer y ∷ []) [] ts ts
skips_symbol y one [] other = skips y [] (row_of_first y one).1 tt
skips_symbol y one (t ∷ ts) other =
    skips y (t ∷ ts) (row_of_first y one).1
    (⊎_elim (λ is. absurd (other is)) (λ none. none) (only_first y one t.lexeme))

-- ---- symbols that an expression begins where one token does not come

abbrev pub IsBegun : Outer → Type 0
IsBegun value_or_release = Unit {0}
IsBegun overrides = Unit {0}
IsBegun link = Unit {0}
IsBegun y = ⊥

-- what comes behind the expression
abbrev pub behind_it : (y : Outer) → IsBegun y → List Outer
behind_it value_or_release begun = more_assigned ∷ []
behind_it overrides begun = more_values ∷ []
behind_it link begun = punctuation signs.CloseParenthesis ∷ []
behind_it y begun = absurd begun

-- the token
abbrev pub unless_first : (y : Outer) → IsBegun y → Lexeme
unless_first value_or_release begun = word words.Release
unless_first overrides begun = sign signs.Dot
unless_first link begun = sign signs.CloseParenthesis
unless_first y begun = absurd begun

row_begun : (y : Outer) (begun : IsBegun y) (x : Lexeme) → IsNot (unless_first y begun) x →
    outer_on y x ≡ expression_on 0 0 (behind_it y begun) x
row_begun value_or_release begun (word words.Release) other = absurd (other refl)
row_begun value_or_release begun x other = refl
row_begun overrides begun (sign signs.Dot) other = absurd (other refl)
row_begun overrides begun x other = refl
row_begun link begun (sign signs.CloseParenthesis) other = absurd (other refl)
row_begun link begun x other = refl
row_begun y begun x other = absurd begun

never_left : (y : Outer) → IsBegun y → may_be_empty (outer y) ≡ false
never_left value_or_release begun = refl
never_left overrides begun = refl
never_left link begun = refl
never_left y begun = absurd begun

begins_symbol : (y : Outer) (begun : IsBegun y) (ts : List Placed)
    → NextIsNot (unless_first y begun) ts
    → Reads (outer y ∷ []) (expression_from (length ts) 0 (behind_it y begun)) ts ts
begins_symbol y begun [] other =
    begins_expression y 0 0 (behind_it y begun) [] (omega arith) (never_left y begun) tt
begins_symbol y begun (t ∷ ts) other =
    begins_expression y 0 0 (behind_it y begun) (t ∷ ts) (omega arith) (never_left y begun)
    (row_begun y begun t.lexeme other)

pub begins_value_or_release : (ts : List Placed) → NextIsNot (word words.Release) ts →
    Reads (outer value_or_release ∷ []) (expression_from (length ts) 0 (more_assigned ∷ [])) ts ts
begins_value_or_release = begins_symbol value_or_release tt

pub begins_overrides : (ts : List Placed) → NextIsNot (sign signs.Dot) ts →
    Reads (outer overrides ∷ []) (expression_from (length ts) 0 (more_values ∷ [])) ts ts
begins_overrides = begins_symbol overrides tt

pub begins_link : (ts : List Placed) → NextIsNot (sign signs.CloseParenthesis) ts →
    Reads (outer link ∷ [])
    (expression_from (length ts) 0 (punctuation signs.CloseParenthesis ∷ [])) ts ts
begins_link = begins_symbol link tt

-- ---- symbols that an expression begins where none of two tokens comes

row_links : (x : Lexeme) → IsNot (sign signs.CloseParenthesis) x → IsNot (sign signs.Dot) x →
    outer_on links x ≡ expression_on 0 0 (more_values ∷ []) x
row_links (sign signs.CloseParenthesis) no_0 no_1 = absurd (no_0 refl)
row_links (sign signs.Dot) no_0 no_1 = absurd (no_1 refl)
row_links x no_0 no_1 = refl

pub begins_links : (ts : List Placed) → NextIsNot (sign signs.CloseParenthesis) ts →
    NextIsNot (sign signs.Dot) ts →
    Reads (outer links ∷ []) (expression_from (length ts) 0 (more_values ∷ [])) ts ts
begins_links [] no_0 no_1 = begins_expression links 0 0 (more_values ∷ []) [] (omega arith) refl tt
begins_links (t ∷ ts) no_0 no_1 =
    begins_expression links 0 0 (more_values ∷ []) (t ∷ ts) (omega arith) refl
    (row_links t.lexeme no_0 no_1)

row_arms : (n before : ℕ) (default : Bool) (x : Lexeme) → IsNot (word words.Endcase) x →
    IsNot (word words.Default) x →
    outer_on (arms n before default) x ≡
    expression_on n (before + 1) (more_choices n ∷ statement n ∷ arms n (before + 1) default ∷ []) x
row_arms n before default (word words.Endcase) no_0 no_1 = absurd (no_0 refl)
row_arms n before default (word words.Default) no_0 no_1 = absurd (no_1 refl)
row_arms n before default x no_0 no_1 = refl

pub begins_arms : (n before : ℕ) (default : Bool) (ts : List Placed) → (before + 1) ≤ 256 →
    NextIsNot (word words.Endcase) ts → NextIsNot (word words.Default) ts →
    Reads (outer (arms n before default) ∷ [])
    (expression_from (length ts) n
    (more_choices n ∷ statement n ∷ arms n (before + 1) default ∷ [])) ts ts
begins_arms n before default [] few no_0 no_1 =
    begins_expression (arms n before default) n (before + 1)
    (more_choices n ∷ statement n ∷ arms n (before + 1) default ∷ []) [] few refl tt
begins_arms n before default (t ∷ ts) few no_0 no_1 =
    begins_expression (arms n before default) n (before + 1)
    (more_choices n ∷ statement n ∷ arms n (before + 1) default ∷ []) (t ∷ ts) few refl
    (row_arms n before default t.lexeme no_0 no_1)
