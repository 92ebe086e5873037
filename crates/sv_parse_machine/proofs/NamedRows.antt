-- What an expression has behind its first token, where that is a name and where it is none; and
-- that dots and `?` are of expressions.
use Rattle.std.proofs.Common.{ℕ, zero, suc, ◌+◌, Bool, true, false, ◌&&◌, List, [], ◌∷◌, Option}
use Rattle.std.proofs.Common.{Some, None, refl}
use Rattle.std.specs.Prelude.{IsTrue}
use Rattle.std.proofs.lemmas.Bool.{false≢true}
use Rattle.sv_num.specs.declared.operators.UnOp.{UnOp}
use Rattle.sv_ast.specs.GrammarForms.{binary_operator, unary_operator}
use Rattle.sv_ast.specs.GrammarRules.{is_name}
use Rattle.sv_token.specs.declared.keywords.WordKind.TheVariants as words
use Rattle.sv_token.specs.declared.signs.SignKind.{SignKind}
use Rattle.sv_token.specs.declared.signs.SignKind.TheVariants as signs
use Rattle.sv_token.specs.Lexemes.{Lexeme, word, identifier, numeral, sign}
use Rattle.sv_token.specs.Words.{is_refused_word}
use Rattle.sv_parse_machine.specs.Symbols.{punctuation, plain_name, plain_number, expression, more_names}
use Rattle.sv_parse_machine.specs.Symbols.{more_values, perhaps_lattice, lattice_lines, less_equal}
use Rattle.sv_parse_machine.specs.Symbols.{perhaps_maps, map_name, perhaps_key_range, rows}
use Rattle.sv_parse_machine.specs.Symbols.{perhaps_second_key, end_of_map, one_module}
use Rattle.sv_parse_machine.specs.Symbols.{perhaps_header_parameters, header_parameter}
use Rattle.sv_parse_machine.specs.Symbols.{later_header_parameter, more_header_parameters, parameter_type}
use Rattle.sv_parse_machine.specs.Symbols.{perhaps_ports, ports, later_port, more_ports, perhaps_wire}
use Rattle.sv_parse_machine.specs.Symbols.{perhaps_wire_or_reg, perhaps_signed, perhaps_range}
use Rattle.sv_parse_machine.specs.Symbols.{perhaps_label, label_end, perhaps_second_name, items}
use Rattle.sv_parse_machine.specs.Symbols.{more_parameters, perhaps_value, more_wires, reg_label}
use Rattle.sv_parse_machine.specs.Symbols.{reg_label_end, reg_name, behind_reg_name, label_selector}
use Rattle.sv_parse_machine.specs.Symbols.{memory_name, assigned, value_or_release, later_assigned}
use Rattle.sv_parse_machine.specs.Symbols.{more_assigned, event, event_inside, perhaps_overrides}
use Rattle.sv_parse_machine.specs.Symbols.{overrides, more_named_overrides, links, link, more_named_links}
use Rattle.sv_parse_machine.specs.Symbols.{more_instances, statement, statements, perhaps_block_name}
use Rattle.sv_parse_machine.specs.Symbols.{perhaps_else, perhaps_bits, bits_end, more_targets, assigns}
use Rattle.sv_parse_machine.specs.Symbols.{arms, more_choices, perhaps_colon}
use Rattle.sv_parse_machine.specs.ModuleTable.{star_in_event}
use Rattle.sv_parse_machine.specs.Symbols.{Inner, operand, tail, selection, Outer, behind_name}
use Rattle.sv_parse_machine.specs.Symbols.{OuterReaction, takes, begins, stuck, and_then, unless_refused}
use Rattle.sv_parse_machine.specs.ExpressionTable.{name_operand, prefix_operand, as_expression}
use Rattle.sv_parse_machine.specs.ExpressionTable.{expression_on}
use Rattle.sv_parse_machine.specs.StatementTable.{is_sign, is_star, is_less_equal, taken_if}
use Rattle.sv_parse_machine.specs.StatementTable.{punctuation_on, more_names_on, assignment_behind}
use Rattle.sv_parse_machine.specs.StatementTable.{no_more_arms, default_arm}
use Rattle.sv_parse_machine.specs.Machine.{outer_on}
use Rattle.sv_parse_machine.proofs.Completions.{is_sane}

-- ---- what an expression begins with

-- operands have what follows them directly behind, and no name waits for its bits
abbrev pub tail_comes : List Inner → Bool
tail_comes (tail n ∷ xs) = true
tail_comes xs = false

abbrev pub row_is_tidy : List Inner → Bool
row_is_tidy [] = true
row_is_tidy (operand n ∷ xs) = tail_comes xs && row_is_tidy xs
row_is_tidy (selection n ∷ xs) = false
row_is_tidy (x ∷ xs) = row_is_tidy xs

-- behind a name, it may have bits
abbrev pub begins_well : (named : Bool) → OuterReaction → Bool
begins_well true (begins level arm (selection n ∷ tail m ∷ []) ys) = true
begins_well true (begins level arm xs ys) = false
begins_well false (begins level arm xs ys) = row_is_tidy xs
begins_well named r = true

begun_name : (n arm : ℕ) (ys : List Outer) (b : Bool) →
    IsTrue (begins_well true (as_expression n arm ys (name_operand n b)))
begun_name n arm ys true = refl
begun_name n arm ys false = refl

begun_prefix : (n arm : ℕ) (ys : List Outer) (u : Option UnOp) →
    IsTrue (begins_well false (as_expression n arm ys (prefix_operand n u)))
begun_prefix n arm ys None = refl
begun_prefix n arm ys (Some op) = refl

begun_well : (n arm : ℕ) (ys : List Outer) (x : Lexeme) →
    IsTrue (begins_well (is_name x) (expression_on n arm ys x))
begun_well n arm ys (identifier y) = begun_name n arm ys (is_refused_word y)
begun_well n arm ys (sign (signs.Operator o)) = begun_prefix n arm ys (unary_operator o)
begun_well n arm ys (sign signs.OpenParenthesis) = refl
begun_well n arm ys x = refl

no_begin_refused : (b : Bool) (ys : List Outer) (named : Bool) →
    IsTrue (begins_well named (unless_refused b (takes 0 0 ys)))
no_begin_refused true ys true = refl
no_begin_refused true ys false = refl
no_begin_refused false ys true = refl
no_begin_refused false ys false = refl

no_begin_if : (b : Bool) → IsTrue (begins_well false (taken_if b))
no_begin_if true = refl
no_begin_if false = refl

no_begin_star : (b : Bool) → IsTrue (begins_well false (star_in_event b))
no_begin_star true = refl
no_begin_star false = refl

no_begin_arms : (before : ℕ) → IsTrue (begins_well false (no_more_arms before))
no_begin_arms zero = refl
no_begin_arms (suc k) = refl

no_begin_default : (n before : ℕ) (default : Bool) →
    IsTrue (begins_well false (default_arm n before default))
no_begin_default n before true = refl
no_begin_default n before false = refl

no_begin_statement : (n : ℕ) (b : Bool) →
    IsTrue (begins_well true
    (and_then (statements n ∷ [])
    (unless_refused b (takes 0 0 (perhaps_bits n ∷ assignment_behind n)))))
no_begin_statement n true = refl
no_begin_statement n false = refl

pub rows_begin_well : (y : Outer) (x : Lexeme) → IsTrue (begins_well (is_name x) (outer_on y x))
rows_begin_well (punctuation s) (sign t) = no_begin_if (is_sign s t)
rows_begin_well (punctuation s) (identifier y) = refl
rows_begin_well (punctuation s) x = refl
rows_begin_well plain_name (identifier x) = no_begin_refused (is_refused_word x) [] true
rows_begin_well plain_name x = refl
rows_begin_well plain_number (numeral v) = refl
rows_begin_well plain_number (identifier y) = refl
rows_begin_well plain_number x = refl
rows_begin_well (expression n) x = begun_well n 0 [] x
rows_begin_well (more_names signs.Semicolon) (sign signs.Comma) = refl
rows_begin_well (more_names signs.Semicolon) (identifier y) = refl
rows_begin_well (more_names signs.Semicolon) x = refl
rows_begin_well (more_names signs.CloseBrace) (sign signs.Comma) = refl
rows_begin_well (more_names signs.CloseBrace) (identifier y) = refl
rows_begin_well (more_names signs.CloseBrace) x = refl
rows_begin_well (more_names s) (identifier y) = refl
rows_begin_well (more_names s) x = refl
rows_begin_well more_values (sign signs.Comma) = refl
rows_begin_well more_values (sign signs.CloseParenthesis) = refl
rows_begin_well more_values (identifier y) = refl
rows_begin_well more_values x = refl
rows_begin_well perhaps_lattice (word words.Lattice) = refl
rows_begin_well perhaps_lattice (identifier y) = refl
rows_begin_well perhaps_lattice x = refl
rows_begin_well lattice_lines (word words.Point) = refl
rows_begin_well lattice_lines (identifier x) =
    no_begin_refused (is_refused_word x)
    (less_equal ∷ plain_name ∷ punctuation signs.Semicolon ∷ lattice_lines ∷ []) true
rows_begin_well lattice_lines (word words.Endlattice) = refl
rows_begin_well lattice_lines x = refl
rows_begin_well less_equal (sign (signs.Operator o)) =
    no_begin_if (is_less_equal (binary_operator o))
rows_begin_well less_equal (identifier y) = refl
rows_begin_well less_equal x = refl
rows_begin_well perhaps_maps (word words.Labelmap) = refl
rows_begin_well perhaps_maps (identifier y) = refl
rows_begin_well perhaps_maps x = refl
rows_begin_well map_name (identifier x) =
    no_begin_refused (is_refused_word x)
    (punctuation signs.OpenBracket ∷ plain_number ∷ punctuation signs.Colon ∷ plain_number ∷
    punctuation signs.CloseBracket ∷ []) true
rows_begin_well map_name x = refl
rows_begin_well perhaps_key_range (sign signs.OpenBracket) = refl
rows_begin_well perhaps_key_range (identifier y) = refl
rows_begin_well perhaps_key_range x = refl
rows_begin_well rows (numeral v) = refl
rows_begin_well rows (word words.Default) = refl
rows_begin_well rows (word words.Endlabelmap) = refl
rows_begin_well rows (identifier y) = refl
rows_begin_well rows x = refl
rows_begin_well perhaps_second_key (sign signs.Comma) = refl
rows_begin_well perhaps_second_key (identifier y) = refl
rows_begin_well perhaps_second_key x = refl
rows_begin_well end_of_map (word words.Endlabelmap) = refl
rows_begin_well end_of_map (identifier y) = refl
rows_begin_well end_of_map x = refl
rows_begin_well one_module (word words.Module) = refl
rows_begin_well one_module (identifier y) = refl
rows_begin_well one_module x = refl
rows_begin_well perhaps_header_parameters (sign signs.Hash) = refl
rows_begin_well perhaps_header_parameters (identifier y) = refl
rows_begin_well perhaps_header_parameters x = refl
rows_begin_well header_parameter (word words.Parameter) = refl
rows_begin_well header_parameter (identifier y) = refl
rows_begin_well header_parameter x = refl
rows_begin_well later_header_parameter (word words.Parameter) = refl
rows_begin_well later_header_parameter (identifier x) =
    no_begin_refused (is_refused_word x) (punctuation signs.Equals ∷ expression 0 ∷ []) true
rows_begin_well later_header_parameter x = refl
rows_begin_well more_header_parameters (sign signs.Comma) = refl
rows_begin_well more_header_parameters (sign signs.CloseParenthesis) = refl
rows_begin_well more_header_parameters (identifier y) = refl
rows_begin_well more_header_parameters x = refl
rows_begin_well parameter_type (word words.Signed) = refl
rows_begin_well parameter_type (sign signs.OpenBracket) = refl
rows_begin_well parameter_type (identifier y) = refl
rows_begin_well parameter_type x = refl
rows_begin_well perhaps_ports (sign signs.OpenParenthesis) = refl
rows_begin_well perhaps_ports (identifier y) = refl
rows_begin_well perhaps_ports x = refl
rows_begin_well ports (word words.Input) = refl
rows_begin_well ports (word words.Output) = refl
rows_begin_well ports (sign signs.CloseParenthesis) = refl
rows_begin_well ports (identifier y) = refl
rows_begin_well ports x = refl
rows_begin_well later_port (word words.Input) = refl
rows_begin_well later_port (word words.Output) = refl
rows_begin_well later_port (identifier x) = no_begin_refused (is_refused_word x) [] true
rows_begin_well later_port x = refl
rows_begin_well more_ports (sign signs.Comma) = refl
rows_begin_well more_ports (sign signs.CloseParenthesis) = refl
rows_begin_well more_ports (identifier y) = refl
rows_begin_well more_ports x = refl
rows_begin_well perhaps_wire (word words.Wire) = refl
rows_begin_well perhaps_wire (identifier y) = refl
rows_begin_well perhaps_wire x = refl
rows_begin_well perhaps_wire_or_reg (word words.Wire) = refl
rows_begin_well perhaps_wire_or_reg (word words.Reg) = refl
rows_begin_well perhaps_wire_or_reg (identifier y) = refl
rows_begin_well perhaps_wire_or_reg x = refl
rows_begin_well perhaps_signed (word words.Signed) = refl
rows_begin_well perhaps_signed (identifier y) = refl
rows_begin_well perhaps_signed x = refl
rows_begin_well perhaps_range (sign signs.OpenBracket) = refl
rows_begin_well perhaps_range (identifier y) = refl
rows_begin_well perhaps_range x = refl
rows_begin_well perhaps_label (sign signs.OpenBrace) = refl
rows_begin_well perhaps_label (identifier y) = refl
rows_begin_well perhaps_label x = refl
rows_begin_well label_end (sign signs.CloseBrace) = refl
rows_begin_well label_end (sign signs.OpenParenthesis) = refl
rows_begin_well label_end (identifier y) = refl
rows_begin_well label_end x = refl
rows_begin_well perhaps_second_name (sign signs.Comma) = refl
rows_begin_well perhaps_second_name (identifier y) = refl
rows_begin_well perhaps_second_name x = refl
rows_begin_well items (word words.Parameter) = refl
rows_begin_well items (word words.Localparam) = refl
rows_begin_well items (word words.Wire) = refl
rows_begin_well items (word words.Reg) = refl
rows_begin_well items (word words.Assign) = refl
rows_begin_well items (word words.Always) = refl
rows_begin_well items (word words.Invariant) = refl
rows_begin_well items (identifier x) =
    no_begin_refused (is_refused_word x)
    (perhaps_overrides ∷ plain_name ∷ punctuation signs.OpenParenthesis ∷ links ∷ more_instances ∷
    items ∷ []) true
rows_begin_well items (word words.Endmodule) = refl
rows_begin_well items x = refl
rows_begin_well more_parameters (sign signs.Comma) = refl
rows_begin_well more_parameters (sign signs.Semicolon) = refl
rows_begin_well more_parameters (identifier y) = refl
rows_begin_well more_parameters x = refl
rows_begin_well perhaps_value (sign signs.Equals) = refl
rows_begin_well perhaps_value (identifier y) = refl
rows_begin_well perhaps_value x = refl
rows_begin_well more_wires (sign signs.Comma) = refl
rows_begin_well more_wires (sign signs.Semicolon) = refl
rows_begin_well more_wires (identifier y) = refl
rows_begin_well more_wires x = refl
rows_begin_well reg_label (sign signs.OpenBrace) = refl
rows_begin_well reg_label (identifier x) =
    no_begin_refused (is_refused_word x) (behind_reg_name ∷ []) true
rows_begin_well reg_label x = refl
rows_begin_well reg_label_end (sign signs.CloseBrace) = refl
rows_begin_well reg_label_end (sign signs.OpenParenthesis) = refl
rows_begin_well reg_label_end (identifier y) = refl
rows_begin_well reg_label_end x = refl
rows_begin_well reg_name (identifier x) =
    no_begin_refused (is_refused_word x) (behind_reg_name ∷ []) true
rows_begin_well reg_name x = refl
rows_begin_well behind_reg_name (sign signs.OpenBracket) = refl
rows_begin_well behind_reg_name (sign signs.Comma) = refl
rows_begin_well behind_reg_name (sign signs.Semicolon) = refl
rows_begin_well behind_reg_name (identifier y) = refl
rows_begin_well behind_reg_name x = refl
rows_begin_well label_selector (sign signs.Hash) = refl
rows_begin_well label_selector (identifier x) =
    no_begin_refused (is_refused_word x)
    (perhaps_second_name ∷ punctuation signs.CloseParenthesis ∷ punctuation signs.CloseBrace ∷
    plain_name ∷ more_names signs.Semicolon ∷ []) true
rows_begin_well label_selector x = refl
rows_begin_well memory_name (identifier x) =
    no_begin_refused (is_refused_word x)
    (punctuation signs.OpenBracket ∷ plain_number ∷ punctuation signs.Colon ∷ plain_number ∷
    punctuation signs.CloseBracket ∷ []) true
rows_begin_well memory_name x = refl
rows_begin_well assigned (identifier x) =
    no_begin_refused (is_refused_word x) (punctuation signs.Equals ∷ value_or_release ∷ []) true
rows_begin_well assigned (sign signs.OpenBrace) = refl
rows_begin_well assigned x = refl
rows_begin_well value_or_release (word words.Release) = refl
rows_begin_well value_or_release x = begun_well 0 0 (more_assigned ∷ []) x
rows_begin_well later_assigned (identifier x) =
    no_begin_refused (is_refused_word x) (punctuation signs.Equals ∷ expression 0 ∷ []) true
rows_begin_well later_assigned (sign signs.OpenBrace) = refl
rows_begin_well later_assigned x = refl
rows_begin_well more_assigned (sign signs.Comma) = refl
rows_begin_well more_assigned (sign signs.Semicolon) = refl
rows_begin_well more_assigned (identifier y) = refl
rows_begin_well more_assigned x = refl
rows_begin_well event (sign (signs.Operator o)) = no_begin_if (is_star (binary_operator o))
rows_begin_well event (sign signs.OpenParenthesis) = refl
rows_begin_well event (identifier y) = refl
rows_begin_well event x = refl
rows_begin_well event_inside (sign (signs.Operator o)) = no_begin_star (is_star (binary_operator o))
rows_begin_well event_inside (word words.Posedge) = refl
rows_begin_well event_inside (identifier y) = refl
rows_begin_well event_inside x = refl
rows_begin_well perhaps_overrides (sign signs.Hash) = refl
rows_begin_well perhaps_overrides (identifier y) = refl
rows_begin_well perhaps_overrides x = refl
rows_begin_well overrides (sign signs.Dot) = refl
rows_begin_well overrides x = begun_well 0 0 (more_values ∷ []) x
rows_begin_well more_named_overrides (sign signs.Comma) = refl
rows_begin_well more_named_overrides (sign signs.CloseParenthesis) = refl
rows_begin_well more_named_overrides (identifier y) = refl
rows_begin_well more_named_overrides x = refl
rows_begin_well links (sign signs.CloseParenthesis) = refl
rows_begin_well links (sign signs.Dot) = refl
rows_begin_well links x = begun_well 0 0 (more_values ∷ []) x
rows_begin_well link (sign signs.CloseParenthesis) = refl
rows_begin_well link x = begun_well 0 0 (punctuation signs.CloseParenthesis ∷ []) x
rows_begin_well more_named_links (sign signs.Comma) = refl
rows_begin_well more_named_links (sign signs.CloseParenthesis) = refl
rows_begin_well more_named_links (identifier y) = refl
rows_begin_well more_named_links x = refl
rows_begin_well more_instances (sign signs.Comma) = refl
rows_begin_well more_instances (sign signs.Semicolon) = refl
rows_begin_well more_instances (identifier y) = refl
rows_begin_well more_instances x = refl
rows_begin_well (statement n) (identifier x) =
    no_begin_refused (is_refused_word x) (perhaps_bits n ∷ assignment_behind n) true
rows_begin_well (statement n) (word words.Begin) = refl
rows_begin_well (statement n) (sign signs.Semicolon) = refl
rows_begin_well (statement n) x = refl
rows_begin_well (statements n) (identifier x) = no_begin_statement n (is_refused_word x)
rows_begin_well (statements n) (word words.Begin) = refl
rows_begin_well (statements n) (sign signs.Semicolon) = refl
rows_begin_well (statements n) x = refl
rows_begin_well perhaps_block_name (sign signs.Colon) = refl
rows_begin_well perhaps_block_name (identifier y) = refl
rows_begin_well perhaps_block_name x = refl
rows_begin_well (perhaps_else n) (word words.Else) = refl
rows_begin_well (perhaps_else n) (identifier y) = refl
rows_begin_well (perhaps_else n) x = refl
rows_begin_well (perhaps_bits n) (sign signs.OpenBracket) = refl
rows_begin_well (perhaps_bits n) (identifier y) = refl
rows_begin_well (perhaps_bits n) x = refl
rows_begin_well (bits_end n) (sign signs.CloseBracket) = refl
rows_begin_well (bits_end n) (sign signs.Colon) = refl
rows_begin_well (bits_end n) (identifier y) = refl
rows_begin_well (bits_end n) x = refl
rows_begin_well (more_targets n) (sign signs.Comma) = refl
rows_begin_well (more_targets n) (sign signs.CloseBrace) = refl
rows_begin_well (more_targets n) (identifier y) = refl
rows_begin_well (more_targets n) x = refl
rows_begin_well assigns (sign (signs.Operator o)) = no_begin_if (is_less_equal (binary_operator o))
rows_begin_well assigns (identifier y) = refl
rows_begin_well assigns x = refl
rows_begin_well (arms n before default) (word words.Endcase) = no_begin_arms before
rows_begin_well (arms n before default) (word words.Default) = no_begin_default n before default
rows_begin_well (arms n before default) x =
    begun_well n (before + 1) (more_choices n ∷ statement n ∷ arms n (before + 1) default ∷ []) x
rows_begin_well (more_choices n) (sign signs.Comma) = refl
rows_begin_well (more_choices n) (sign signs.Colon) = refl
rows_begin_well (more_choices n) (identifier y) = refl
rows_begin_well (more_choices n) x = refl
rows_begin_well perhaps_colon (sign signs.Colon) = refl
rows_begin_well perhaps_colon (identifier y) = refl
rows_begin_well perhaps_colon x = refl

-- ---- a dot and a `?` outside expressions

abbrev pub is_not_behind_name : OuterReaction → Bool
is_not_behind_name (stuck behind_name) = false
is_not_behind_name r = true

dot_if : (b : Bool) → IsTrue (is_not_behind_name (taken_if b))
dot_if true = refl
dot_if false = refl

dot_names : (s : SignKind) → IsTrue (is_not_behind_name (more_names_on s (sign signs.Dot)))
dot_names signs.Semicolon = refl
dot_names signs.CloseBrace = refl
dot_names s = refl

pub dots_are_outside : (y : Outer) → IsTrue (is_not_behind_name (outer_on y (sign signs.Dot)))
dots_are_outside (punctuation s) = dot_if (is_sign s signs.Dot)
dots_are_outside (more_names s) = dot_names s
dots_are_outside y = refl

abbrev pub is_not_taken : OuterReaction → Bool
is_not_taken (takes level arm ys) = false
is_not_taken (begins level arm xs ys) = false
is_not_taken r = true

question_names : (s : SignKind) → IsTrue (is_not_taken (more_names_on s (sign signs.Question)))
question_names signs.Semicolon = refl
question_names signs.CloseBrace = refl
question_names s = refl

question_signs : (s : SignKind) → IsTrue (is_sane (punctuation s)) →
    IsTrue (is_not_taken (punctuation_on s (sign signs.Question)))
question_signs signs.Question sane = absurd (false≢true sane)
question_signs s sane = refl

pub questions_are_inside : (y : Outer) → IsTrue (is_sane y) →
    IsTrue (is_not_taken (outer_on y (sign signs.Question)))
questions_are_inside (punctuation s) sane = question_signs s sane
questions_are_inside (more_names s) sane = question_names s
questions_are_inside y sane = refl
