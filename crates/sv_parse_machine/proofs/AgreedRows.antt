-- Where a lexeme is not taken, the table says which of four words may begin there.
use Rattle.std.proofs.Common.{ℕ, zero, suc, ◌+◌, Bool, true, false, not, ◌&&◌, ◌||◌, List, [], ◌∷◌}
use Rattle.std.proofs.Common.{Option, Some, None, refl}
use Rattle.std.specs.Prelude.{IsTrue}
use Rattle.std.proofs.lemmas.Bool.{false≢true}
use Rattle.sv_num.specs.declared.operators.UnOp.{UnOp}
use Rattle.sv_ast.specs.GrammarForms.{binary_operator, unary_operator}
use Rattle.sv_token.specs.declared.keywords.WordKind.TheVariants as words
use Rattle.sv_token.specs.declared.signs.SignKind.TheVariants as signs
use Rattle.sv_token.specs.Lexemes.{Lexeme, word, identifier, numeral, sign}
use Rattle.sv_token.specs.Words.{is_refused_word}
use Rattle.sv_parse_machine.specs.Symbols.{punctuation, plain_name, plain_number, expression, more_names}
use Rattle.sv_parse_machine.specs.Symbols.{more_values, perhaps_lattice, lattice_lines, less_equal}
use Rattle.sv_parse_machine.specs.Symbols.{perhaps_maps, map_name, perhaps_key_range, rows}
use Rattle.sv_parse_machine.specs.Symbols.{perhaps_second_key, end_of_map, one_module}
use Rattle.sv_parse_machine.specs.Symbols.{perhaps_header_parameters, header_parameter}
use Rattle.sv_parse_machine.specs.Symbols.{later_header_parameter, more_header_parameters, parameter_type}
use Rattle.sv_parse_machine.specs.Symbols.{perhaps_ports, ports, later_port, more_ports, perhaps_wire}
use Rattle.sv_parse_machine.specs.Symbols.{perhaps_wire_or_reg, perhaps_signed, perhaps_range}
use Rattle.sv_parse_machine.specs.Symbols.{perhaps_label, label_end, perhaps_second_name, items}
use Rattle.sv_parse_machine.specs.Symbols.{more_parameters, perhaps_value, more_wires, reg_label}
use Rattle.sv_parse_machine.specs.Symbols.{reg_label_end, reg_name, behind_reg_name, label_selector}
use Rattle.sv_parse_machine.specs.Symbols.{memory_name, assigned, value_or_release, later_assigned}
use Rattle.sv_parse_machine.specs.Symbols.{more_assigned, event, event_inside, perhaps_overrides}
use Rattle.sv_parse_machine.specs.Symbols.{overrides, more_named_overrides, links, link, more_named_links}
use Rattle.sv_parse_machine.specs.Symbols.{more_instances, statement, statements, perhaps_block_name}
use Rattle.sv_parse_machine.specs.Symbols.{perhaps_else, perhaps_bits, bits_end, more_targets, assigns}
use Rattle.sv_parse_machine.specs.Symbols.{arms, more_choices, perhaps_colon}
use Rattle.sv_parse_machine.specs.ModuleTable.{star_in_event}
use Rattle.sv_parse_machine.specs.Symbols.{Outer, Expected, something, an_item, a_statement, an_edge}
use Rattle.sv_parse_machine.specs.Symbols.{a_port, InnerReaction, takes_inner, over_inner, stuck_inner}
use Rattle.sv_parse_machine.specs.Symbols.{OuterReaction, takes, over, stuck, unexpected, and_then}
use Rattle.sv_parse_machine.specs.Symbols.{unless_refused}
use Rattle.sv_parse_machine.specs.ExpressionTable.{name_operand, prefix_operand, operand_on}
use Rattle.sv_parse_machine.specs.ExpressionTable.{as_expression}
use Rattle.sv_parse_machine.specs.StatementTable.{is_sign, is_star, is_less_equal, taken_if}
use Rattle.sv_parse_machine.specs.StatementTable.{assignment_behind, no_more_arms, default_arm}
use Rattle.sv_parse_machine.specs.ModuleTable.{star_in_event}
use Rattle.sv_parse_machine.specs.Machine.{outer_on}

-- ---- within expressions

-- taken, or stuck where nothing of the others may begin
abbrev pub PlainlyStuck : InnerReaction → Type 0
PlainlyStuck over_inner = ⊥
PlainlyStuck (takes_inner level xs) = Unit {0}
PlainlyStuck (stuck_inner something) = Unit {0}
PlainlyStuck (stuck_inner e) = ⊥

name_is_plain : (n : ℕ) (b : Bool) → PlainlyStuck (name_operand n b)
name_is_plain n true = tt
name_is_plain n false = tt

prefix_is_plain : (n : ℕ) (u : Option UnOp) → PlainlyStuck (prefix_operand n u)
prefix_is_plain n None = tt
prefix_is_plain n (Some op) = tt

pub operand_is_plain : (n : ℕ) (x : Lexeme) → PlainlyStuck (operand_on n x)
operand_is_plain n (identifier y) = name_is_plain n (is_refused_word y)
operand_is_plain n (sign (signs.Operator o)) = prefix_is_plain n (unary_operator o)
operand_is_plain n x = tt

-- ---- what may begin

abbrev pub is_expected : (form found : Expected) → Bool
is_expected an_item an_item = true
is_expected a_statement a_statement = true
is_expected an_edge an_edge = true
is_expected a_port a_port = true
is_expected form found = false

-- it is taken, or no text goes on with it, as it should
abbrev pub is_as : Bool → OuterReaction → Bool
is_as true (takes level arm ys) = true
is_as false (stuck e) = true
is_as b r = false

abbrev pub is_over : OuterReaction → Bool
is_over over = true
is_over r = false

-- where the one lexeme is not taken, `always`, `begin`, `posedge` and, in place of a name, `input`
-- are as it says
abbrev pub agrees : (named : Bool) → (on : OuterReaction) →
    (always begin posedge input : OuterReaction) → Bool
agrees named (stuck e) a b p i =
    is_as (is_expected an_item e) a && (is_as (is_expected a_statement e) b
    && (is_as (is_expected an_edge e) p && (not named || is_as (is_expected a_port e) i)))
agrees named over a b p i = is_over a && (is_over b && (is_over p && is_over i))
agrees named r a b p i = true

abbrev pub is_named : Lexeme → Bool
is_named (identifier x) = true
is_named x = false

-- no refused word
abbrev pub IsFree : Lexeme → Type 0
IsFree (identifier x) = IsTrue (not (is_refused_word x))
IsFree x = Unit {0}

abbrev pub Agrees : Outer → Lexeme → Type 0
Agrees y x =
    IsTrue (agrees (is_named x) (outer_on y x) (outer_on y (word words.Always))
    (outer_on y (word words.Begin)) (outer_on y (word words.Posedge))
    (outer_on y (word words.Input)))

free_agrees : (b : Bool) (ys : List Outer) (a c p i : OuterReaction) → IsTrue (not b) →
    IsTrue (agrees true (unless_refused b (takes 0 0 ys)) a c p i)
free_agrees true ys a c p i free = absurd (false≢true free)
free_agrees false ys a c p i free = refl

-- a symbol that takes none of the four words
plain_if : (b : Bool) →
    IsTrue (agrees false (taken_if b) unexpected unexpected unexpected unexpected)
plain_if true = refl
plain_if false = refl

edge_if : (b : Bool) (i : OuterReaction) →
    IsTrue (agrees false (star_in_event b) (stuck an_edge) (stuck an_edge)
    (takes 0 0 (plain_name ∷ punctuation signs.CloseParenthesis ∷ [])) i)
edge_if true i = refl
edge_if false i = refl

statement_name : (n : ℕ) (b : Bool) (a c p i : OuterReaction) → IsTrue (not b)
    → IsTrue (agrees true
    (and_then (statements n ∷ [])
    (unless_refused b (takes 0 0 (perhaps_bits n ∷ assignment_behind n)))) a c p i)
statement_name n true a c p i free = absurd (false≢true free)
statement_name n false a c p i free = refl

-- an expression's first token
expression_agrees : (named : Bool) (n arm : ℕ) (ys : List Outer) (r : InnerReaction) →
    PlainlyStuck r → IsTrue
    (agrees named (as_expression n arm ys r) unexpected unexpected unexpected unexpected)
expression_agrees true n arm ys (takes_inner level xs) kind = refl
expression_agrees false n arm ys (takes_inner level xs) kind = refl
expression_agrees named n arm ys over_inner kind = absurd kind
expression_agrees true n arm ys (stuck_inner something) kind = refl
expression_agrees false n arm ys (stuck_inner something) kind = refl
expression_agrees named n arm ys (stuck_inner e) kind = absurd kind

more_arms_agree : (before : ℕ) →
    IsTrue (agrees false (no_more_arms before) unexpected unexpected unexpected unexpected)
more_arms_agree zero = refl
more_arms_agree (suc k) = refl

default_agrees : (n before : ℕ) (default : Bool) →
    IsTrue (agrees false (default_arm n before default) unexpected unexpected unexpected unexpected)
default_agrees n before true = refl
default_agrees n before false = refl

pub rows_agree : (y : Outer) (x : Lexeme) → IsFree x → Agrees y x
rows_agree (punctuation s) (sign t) free = plain_if (is_sign s t)
rows_agree (punctuation s) (identifier y) free = refl
rows_agree (punctuation s) x free = refl
rows_agree plain_name (identifier x) free =
    free_agrees (is_refused_word x) [] (outer_on plain_name (word words.Always))
    (outer_on plain_name (word words.Begin)) (outer_on plain_name (word words.Posedge))
    (outer_on plain_name (word words.Input)) free
rows_agree plain_name x free = refl
rows_agree plain_number (numeral v) free = refl
rows_agree plain_number (identifier y) free = refl
rows_agree plain_number x free = refl
rows_agree (expression n) x free =
    expression_agrees (is_named x) n 0 [] (operand_on n x) (operand_is_plain n x)
rows_agree (more_names signs.Semicolon) (sign signs.Comma) free = refl
rows_agree (more_names signs.Semicolon) (identifier y) free = refl
rows_agree (more_names signs.Semicolon) x free = refl
rows_agree (more_names signs.CloseBrace) (sign signs.Comma) free = refl
rows_agree (more_names signs.CloseBrace) (identifier y) free = refl
rows_agree (more_names signs.CloseBrace) x free = refl
rows_agree (more_names s) (identifier y) free = refl
rows_agree (more_names s) x free = refl
rows_agree more_values (sign signs.Comma) free = refl
rows_agree more_values (sign signs.CloseParenthesis) free = refl
rows_agree more_values (identifier y) free = refl
rows_agree more_values x free = refl
rows_agree perhaps_lattice (word words.Lattice) free = refl
rows_agree perhaps_lattice (identifier y) free = refl
rows_agree perhaps_lattice x free = refl
rows_agree lattice_lines (word words.Point) free = refl
rows_agree lattice_lines (identifier x) free =
    free_agrees (is_refused_word x)
    (less_equal ∷ plain_name ∷ punctuation signs.Semicolon ∷ lattice_lines ∷ [])
    (outer_on lattice_lines (word words.Always)) (outer_on lattice_lines (word words.Begin))
    (outer_on lattice_lines (word words.Posedge)) (outer_on lattice_lines (word words.Input)) free
rows_agree lattice_lines (word words.Endlattice) free = refl
rows_agree lattice_lines x free = refl
rows_agree less_equal (sign (signs.Operator o)) free = plain_if (is_less_equal (binary_operator o))
rows_agree less_equal (identifier y) free = refl
rows_agree less_equal x free = refl
rows_agree perhaps_maps (word words.Labelmap) free = refl
rows_agree perhaps_maps (identifier y) free = refl
rows_agree perhaps_maps x free = refl
rows_agree map_name (identifier x) free =
    free_agrees (is_refused_word x)
    (punctuation signs.OpenBracket ∷ plain_number ∷ punctuation signs.Colon ∷ plain_number ∷
    punctuation signs.CloseBracket ∷ []) (outer_on map_name (word words.Always))
    (outer_on map_name (word words.Begin)) (outer_on map_name (word words.Posedge))
    (outer_on map_name (word words.Input)) free
rows_agree map_name x free = refl
rows_agree perhaps_key_range (sign signs.OpenBracket) free = refl
rows_agree perhaps_key_range (identifier y) free = refl
rows_agree perhaps_key_range x free = refl
rows_agree rows (numeral v) free = refl
rows_agree rows (word words.Default) free = refl
rows_agree rows (word words.Endlabelmap) free = refl
rows_agree rows (identifier y) free = refl
rows_agree rows x free = refl
rows_agree perhaps_second_key (sign signs.Comma) free = refl
rows_agree perhaps_second_key (identifier y) free = refl
rows_agree perhaps_second_key x free = refl
rows_agree end_of_map (word words.Endlabelmap) free = refl
rows_agree end_of_map (identifier y) free = refl
rows_agree end_of_map x free = refl
rows_agree one_module (word words.Module) free = refl
rows_agree one_module (identifier y) free = refl
rows_agree one_module x free = refl
rows_agree perhaps_header_parameters (sign signs.Hash) free = refl
rows_agree perhaps_header_parameters (identifier y) free = refl
rows_agree perhaps_header_parameters x free = refl
rows_agree header_parameter (word words.Parameter) free = refl
rows_agree header_parameter (identifier y) free = refl
rows_agree header_parameter x free = refl
rows_agree later_header_parameter (word words.Parameter) free = refl
rows_agree later_header_parameter (identifier x) free =
    free_agrees (is_refused_word x) (punctuation signs.Equals ∷ expression 0 ∷ [])
    (outer_on later_header_parameter (word words.Always))
    (outer_on later_header_parameter (word words.Begin))
    (outer_on later_header_parameter (word words.Posedge))
    (outer_on later_header_parameter (word words.Input)) free
rows_agree later_header_parameter x free = refl
rows_agree more_header_parameters (sign signs.Comma) free = refl
rows_agree more_header_parameters (sign signs.CloseParenthesis) free = refl
rows_agree more_header_parameters (identifier y) free = refl
rows_agree more_header_parameters x free = refl
rows_agree parameter_type (word words.Signed) free = refl
rows_agree parameter_type (sign signs.OpenBracket) free = refl
rows_agree parameter_type (identifier y) free = refl
rows_agree parameter_type x free = refl
rows_agree perhaps_ports (sign signs.OpenParenthesis) free = refl
rows_agree perhaps_ports (identifier y) free = refl
rows_agree perhaps_ports x free = refl
rows_agree ports (word words.Input) free = refl
rows_agree ports (word words.Output) free = refl
rows_agree ports (sign signs.CloseParenthesis) free = refl
rows_agree ports (identifier y) free = refl
rows_agree ports x free = refl
rows_agree later_port (word words.Input) free = refl
rows_agree later_port (word words.Output) free = refl
rows_agree later_port (identifier x) free =
    free_agrees (is_refused_word x) [] (outer_on later_port (word words.Always))
    (outer_on later_port (word words.Begin)) (outer_on later_port (word words.Posedge))
    (outer_on later_port (word words.Input)) free
rows_agree later_port x free = refl
rows_agree more_ports (sign signs.Comma) free = refl
rows_agree more_ports (sign signs.CloseParenthesis) free = refl
rows_agree more_ports (identifier y) free = refl
rows_agree more_ports x free = refl
rows_agree perhaps_wire (word words.Wire) free = refl
rows_agree perhaps_wire (identifier y) free = refl
rows_agree perhaps_wire x free = refl
rows_agree perhaps_wire_or_reg (word words.Wire) free = refl
rows_agree perhaps_wire_or_reg (word words.Reg) free = refl
rows_agree perhaps_wire_or_reg (identifier y) free = refl
rows_agree perhaps_wire_or_reg x free = refl
rows_agree perhaps_signed (word words.Signed) free = refl
rows_agree perhaps_signed (identifier y) free = refl
rows_agree perhaps_signed x free = refl
rows_agree perhaps_range (sign signs.OpenBracket) free = refl
rows_agree perhaps_range (identifier y) free = refl
rows_agree perhaps_range x free = refl
rows_agree perhaps_label (sign signs.OpenBrace) free = refl
rows_agree perhaps_label (identifier y) free = refl
rows_agree perhaps_label x free = refl
rows_agree label_end (sign signs.CloseBrace) free = refl
rows_agree label_end (sign signs.OpenParenthesis) free = refl
rows_agree label_end (identifier y) free = refl
rows_agree label_end x free = refl
rows_agree perhaps_second_name (sign signs.Comma) free = refl
rows_agree perhaps_second_name (identifier y) free = refl
rows_agree perhaps_second_name x free = refl
rows_agree items (word words.Parameter) free = refl
rows_agree items (word words.Localparam) free = refl
rows_agree items (word words.Wire) free = refl
rows_agree items (word words.Reg) free = refl
rows_agree items (word words.Assign) free = refl
rows_agree items (word words.Always) free = refl
rows_agree items (word words.Invariant) free = refl
rows_agree items (identifier x) free =
    free_agrees (is_refused_word x)
    (perhaps_overrides ∷ plain_name ∷ punctuation signs.OpenParenthesis ∷ links ∷ more_instances ∷
    items ∷ []) (outer_on items (word words.Always)) (outer_on items (word words.Begin))
    (outer_on items (word words.Posedge)) (outer_on items (word words.Input)) free
rows_agree items (word words.Endmodule) free = refl
rows_agree items x free = refl
rows_agree more_parameters (sign signs.Comma) free = refl
rows_agree more_parameters (sign signs.Semicolon) free = refl
rows_agree more_parameters (identifier y) free = refl
rows_agree more_parameters x free = refl
rows_agree perhaps_value (sign signs.Equals) free = refl
rows_agree perhaps_value (identifier y) free = refl
rows_agree perhaps_value x free = refl
rows_agree more_wires (sign signs.Comma) free = refl
rows_agree more_wires (sign signs.Semicolon) free = refl
rows_agree more_wires (identifier y) free = refl
rows_agree more_wires x free = refl
rows_agree reg_label (sign signs.OpenBrace) free = refl
rows_agree reg_label (identifier x) free =
    free_agrees (is_refused_word x) (behind_reg_name ∷ []) (outer_on reg_label (word words.Always))
    (outer_on reg_label (word words.Begin)) (outer_on reg_label (word words.Posedge))
    (outer_on reg_label (word words.Input)) free
rows_agree reg_label x free = refl
rows_agree reg_label_end (sign signs.CloseBrace) free = refl
rows_agree reg_label_end (sign signs.OpenParenthesis) free = refl
rows_agree reg_label_end (identifier y) free = refl
rows_agree reg_label_end x free = refl
rows_agree reg_name (identifier x) free =
    free_agrees (is_refused_word x) (behind_reg_name ∷ []) (outer_on reg_name (word words.Always))
    (outer_on reg_name (word words.Begin)) (outer_on reg_name (word words.Posedge))
    (outer_on reg_name (word words.Input)) free
rows_agree reg_name x free = refl
rows_agree behind_reg_name (sign signs.OpenBracket) free = refl
rows_agree behind_reg_name (sign signs.Comma) free = refl
rows_agree behind_reg_name (sign signs.Semicolon) free = refl
rows_agree behind_reg_name (identifier y) free = refl
rows_agree behind_reg_name x free = refl
rows_agree label_selector (sign signs.Hash) free = refl
rows_agree label_selector (identifier x) free =
    free_agrees (is_refused_word x)
    (perhaps_second_name ∷ punctuation signs.CloseParenthesis ∷ punctuation signs.CloseBrace ∷
    plain_name ∷ more_names signs.Semicolon ∷ []) (outer_on label_selector (word words.Always))
    (outer_on label_selector (word words.Begin)) (outer_on label_selector (word words.Posedge))
    (outer_on label_selector (word words.Input)) free
rows_agree label_selector x free = refl
rows_agree memory_name (identifier x) free =
    free_agrees (is_refused_word x)
    (punctuation signs.OpenBracket ∷ plain_number ∷ punctuation signs.Colon ∷ plain_number ∷
    punctuation signs.CloseBracket ∷ []) (outer_on memory_name (word words.Always))
    (outer_on memory_name (word words.Begin)) (outer_on memory_name (word words.Posedge))
    (outer_on memory_name (word words.Input)) free
rows_agree memory_name x free = refl
rows_agree assigned (identifier x) free =
    free_agrees (is_refused_word x) (punctuation signs.Equals ∷ value_or_release ∷ [])
    (outer_on assigned (word words.Always)) (outer_on assigned (word words.Begin))
    (outer_on assigned (word words.Posedge)) (outer_on assigned (word words.Input)) free
rows_agree assigned (sign signs.OpenBrace) free = refl
rows_agree assigned x free = refl
rows_agree value_or_release (word words.Release) free = refl
rows_agree value_or_release x free =
    expression_agrees (is_named x) 0 0 (more_assigned ∷ []) (operand_on 0 x) (operand_is_plain 0 x)
rows_agree later_assigned (identifier x) free =
    free_agrees (is_refused_word x) (punctuation signs.Equals ∷ expression 0 ∷ [])
    (outer_on later_assigned (word words.Always)) (outer_on later_assigned (word words.Begin))
    (outer_on later_assigned (word words.Posedge)) (outer_on later_assigned (word words.Input)) free
rows_agree later_assigned (sign signs.OpenBrace) free = refl
rows_agree later_assigned x free = refl
rows_agree more_assigned (sign signs.Comma) free = refl
rows_agree more_assigned (sign signs.Semicolon) free = refl
rows_agree more_assigned (identifier y) free = refl
rows_agree more_assigned x free = refl
rows_agree event (sign (signs.Operator o)) free = plain_if (is_star (binary_operator o))
rows_agree event (sign signs.OpenParenthesis) free = refl
rows_agree event (identifier y) free = refl
rows_agree event x free = refl
rows_agree event_inside (sign (signs.Operator o)) free =
    edge_if (is_star (binary_operator o)) (outer_on event_inside (word words.Input))
rows_agree event_inside (word words.Posedge) free = refl
rows_agree event_inside (identifier y) free = refl
rows_agree event_inside x free = refl
rows_agree perhaps_overrides (sign signs.Hash) free = refl
rows_agree perhaps_overrides (identifier y) free = refl
rows_agree perhaps_overrides x free = refl
rows_agree overrides (sign signs.Dot) free = refl
rows_agree overrides x free =
    expression_agrees (is_named x) 0 0 (more_values ∷ []) (operand_on 0 x) (operand_is_plain 0 x)
rows_agree more_named_overrides (sign signs.Comma) free = refl
rows_agree more_named_overrides (sign signs.CloseParenthesis) free = refl
rows_agree more_named_overrides (identifier y) free = refl
rows_agree more_named_overrides x free = refl
rows_agree links (sign signs.CloseParenthesis) free = refl
rows_agree links (sign signs.Dot) free = refl
rows_agree links x free =
    expression_agrees (is_named x) 0 0 (more_values ∷ []) (operand_on 0 x) (operand_is_plain 0 x)
rows_agree link (sign signs.CloseParenthesis) free = refl
rows_agree link x free =
    expression_agrees (is_named x) 0 0 (punctuation signs.CloseParenthesis ∷ []) (operand_on 0 x)
    (operand_is_plain 0 x)
rows_agree more_named_links (sign signs.Comma) free = refl
rows_agree more_named_links (sign signs.CloseParenthesis) free = refl
rows_agree more_named_links (identifier y) free = refl
rows_agree more_named_links x free = refl
rows_agree more_instances (sign signs.Comma) free = refl
rows_agree more_instances (sign signs.Semicolon) free = refl
rows_agree more_instances (identifier y) free = refl
rows_agree more_instances x free = refl
rows_agree (statement n) (identifier x) free =
    free_agrees (is_refused_word x) (perhaps_bits n ∷ assignment_behind n)
    (outer_on (statement n) (word words.Always)) (outer_on (statement n) (word words.Begin))
    (outer_on (statement n) (word words.Posedge)) (outer_on (statement n) (word words.Input)) free
rows_agree (statement n) (word words.Begin) free = refl
rows_agree (statement n) (sign signs.Semicolon) free = refl
rows_agree (statement n) x free = refl
rows_agree (statements n) (identifier x) free =
    statement_name n (is_refused_word x) (outer_on (statements n) (word words.Always))
    (outer_on (statements n) (word words.Begin)) (outer_on (statements n) (word words.Posedge))
    (outer_on (statements n) (word words.Input)) free
rows_agree (statements n) (word words.Begin) free = refl
rows_agree (statements n) (sign signs.Semicolon) free = refl
rows_agree (statements n) x free = refl
rows_agree perhaps_block_name (sign signs.Colon) free = refl
rows_agree perhaps_block_name (identifier y) free = refl
rows_agree perhaps_block_name x free = refl
rows_agree (perhaps_else n) (word words.Else) free = refl
rows_agree (perhaps_else n) (identifier y) free = refl
rows_agree (perhaps_else n) x free = refl
rows_agree (perhaps_bits n) (sign signs.OpenBracket) free = refl
rows_agree (perhaps_bits n) (identifier y) free = refl
rows_agree (perhaps_bits n) x free = refl
rows_agree (bits_end n) (sign signs.CloseBracket) free = refl
rows_agree (bits_end n) (sign signs.Colon) free = refl
rows_agree (bits_end n) (identifier y) free = refl
rows_agree (bits_end n) x free = refl
rows_agree (more_targets n) (sign signs.Comma) free = refl
rows_agree (more_targets n) (sign signs.CloseBrace) free = refl
rows_agree (more_targets n) (identifier y) free = refl
rows_agree (more_targets n) x free = refl
rows_agree assigns (sign (signs.Operator o)) free = plain_if (is_less_equal (binary_operator o))
rows_agree assigns (identifier y) free = refl
rows_agree assigns x free = refl
rows_agree (arms n before default) (word words.Endcase) free = more_arms_agree before
rows_agree (arms n before default) (word words.Default) free = default_agrees n before default
rows_agree (arms n before default) x free =
    expression_agrees (is_named x) n (before + 1)
    (more_choices n ∷ statement n ∷ arms n (before + 1) default ∷ []) (operand_on n x)
    (operand_is_plain n x)
rows_agree (more_choices n) (sign signs.Comma) free = refl
rows_agree (more_choices n) (sign signs.Colon) free = refl
rows_agree (more_choices n) (identifier y) free = refl
rows_agree (more_choices n) x free = refl
rows_agree perhaps_colon (sign signs.Colon) free = refl
rows_agree perhaps_colon (identifier y) free = refl
rows_agree perhaps_colon x free = refl
