-- What follows a token in the table can be completed: what stands below other symbols is completed
-- quietly.
use Rattle.std.proofs.Common.{ℕ, zero, suc, ◌+◌, Bool, true, false, ◌&&◌, List, [], ◌∷◌, refl}
use Rattle.std.specs.List.{list_all}
use Rattle.std.specs.Prelude.{IsTrue}
use Rattle.sv_token.specs.declared.keywords.WordKind.TheVariants as words
use Rattle.sv_token.specs.declared.signs.SignKind.TheVariants as signs
use Rattle.sv_token.specs.Lexemes.{Lexeme, word, identifier, numeral, sign}
use Rattle.sv_token.specs.Words.{is_refused_word}
use Rattle.sv_ast.specs.GrammarForms.{binary_operator}
use Rattle.sv_parse_machine.specs.Symbols.{punctuation, plain_name, plain_number, expression, more_names}
use Rattle.sv_parse_machine.specs.Symbols.{more_values, perhaps_lattice, lattice_lines, less_equal}
use Rattle.sv_parse_machine.specs.Symbols.{perhaps_maps, map_name, perhaps_key_range, rows}
use Rattle.sv_parse_machine.specs.Symbols.{perhaps_second_key, end_of_map, one_module}
use Rattle.sv_parse_machine.specs.Symbols.{perhaps_header_parameters, header_parameter}
use Rattle.sv_parse_machine.specs.Symbols.{later_header_parameter, more_header_parameters, parameter_type}
use Rattle.sv_parse_machine.specs.Symbols.{perhaps_ports, ports, later_port, more_ports, perhaps_wire}
use Rattle.sv_parse_machine.specs.Symbols.{perhaps_wire_or_reg, perhaps_signed, perhaps_range}
use Rattle.sv_parse_machine.specs.Symbols.{perhaps_label, label_end, perhaps_second_name, items}
use Rattle.sv_parse_machine.specs.Symbols.{more_parameters, perhaps_value, more_wires, reg_label}
use Rattle.sv_parse_machine.specs.Symbols.{reg_label_end, reg_name, behind_reg_name, label_selector}
use Rattle.sv_parse_machine.specs.Symbols.{memory_name, assigned, value_or_release, later_assigned}
use Rattle.sv_parse_machine.specs.Symbols.{more_assigned, event, event_inside, perhaps_overrides}
use Rattle.sv_parse_machine.specs.Symbols.{overrides, more_named_overrides, links, link, more_named_links}
use Rattle.sv_parse_machine.specs.Symbols.{more_instances, statement, statements, perhaps_block_name}
use Rattle.sv_parse_machine.specs.Symbols.{perhaps_else, perhaps_bits, bits_end, more_targets, assigns}
use Rattle.sv_parse_machine.specs.Symbols.{arms, more_choices, perhaps_colon}
use Rattle.sv_parse_machine.specs.ModuleTable.{star_in_event}
use Rattle.sv_parse_machine.specs.Symbols.{Outer, InnerReaction, takes_inner, over_inner, stuck_inner}
use Rattle.sv_parse_machine.specs.Symbols.{OuterReaction, takes, begins, over, stuck, and_then}
use Rattle.sv_parse_machine.specs.Symbols.{unless_refused}
use Rattle.sv_parse_machine.specs.ExpressionTable.{operand_on, as_expression}
use Rattle.sv_parse_machine.specs.StatementTable.{is_sign, is_star, is_less_equal, taken_if}
use Rattle.sv_parse_machine.specs.StatementTable.{assignment_behind, no_more_arms, default_arm}
use Rattle.sv_parse_machine.specs.Machine.{outer_on}
use Rattle.sv_parse_machine.proofs.Completions.{is_sane, is_plain}

-- those that follow are sane, and all but the first plain
abbrev pub are_sane : List Outer → Bool
are_sane ys = list_all is_sane ys

abbrev pub are_plain : List Outer → Bool
are_plain ys = list_all is_plain ys

abbrev pub plain_behind : List Outer → Bool
plain_behind [] = true
plain_behind (y ∷ ys) = are_plain ys

abbrev pub row_is_fine : OuterReaction → Bool
row_is_fine (takes level arm ys) = are_sane ys && plain_behind ys
row_is_fine (begins level arm xs ys) = are_sane ys && are_plain ys
row_is_fine over = true
row_is_fine (stuck e) = true

fine_name : (b : Bool) (ys : List Outer) → IsTrue (are_sane ys && plain_behind ys) →
    IsTrue (row_is_fine (unless_refused b (takes 0 0 ys)))
fine_name true ys fine = refl
fine_name false ys fine = fine

fine_if : (b : Bool) → IsTrue (row_is_fine (taken_if b))
fine_if true = refl
fine_if false = refl

fine_star : (b : Bool) → IsTrue (row_is_fine (star_in_event b))
fine_star true = refl
fine_star false = refl

fine_as_expression : (n arm : ℕ) (ys : List Outer) (r : InnerReaction) →
    IsTrue (are_sane ys && are_plain ys) → IsTrue (row_is_fine (as_expression n arm ys r))
fine_as_expression n arm ys (takes_inner level xs) fine = fine
fine_as_expression n arm ys over_inner fine = refl
fine_as_expression n arm ys (stuck_inner e) fine = refl

fine_no_more_arms : (before : ℕ) → IsTrue (row_is_fine (no_more_arms before))
fine_no_more_arms zero = refl
fine_no_more_arms (suc k) = refl

fine_default_arm : (n before : ℕ) (default : Bool) →
    IsTrue (row_is_fine (default_arm n before default))
fine_default_arm n before true = refl
fine_default_arm n before false = refl

fine_statements_name : (n : ℕ) (b : Bool) →
    IsTrue (row_is_fine (and_then (statements n ∷ [])
    (unless_refused b (takes 0 0 (perhaps_bits n ∷ assignment_behind n)))))
fine_statements_name n true = refl
fine_statements_name n false = refl

pub rows_are_fine : (y : Outer) (x : Lexeme) → IsTrue (row_is_fine (outer_on y x))
rows_are_fine (punctuation s) (sign t) = fine_if (is_sign s t)
rows_are_fine (punctuation s) x = refl
rows_are_fine plain_name (identifier x) = fine_name (is_refused_word x) [] refl
rows_are_fine plain_name x = refl
rows_are_fine plain_number (numeral v) = refl
rows_are_fine plain_number x = refl
rows_are_fine (expression n) x = fine_as_expression n 0 [] (operand_on n x) refl
rows_are_fine (more_names signs.Semicolon) (sign signs.Comma) = refl
rows_are_fine (more_names signs.Semicolon) x = refl
rows_are_fine (more_names signs.CloseBrace) (sign signs.Comma) = refl
rows_are_fine (more_names signs.CloseBrace) x = refl
rows_are_fine (more_names s) x = refl
rows_are_fine more_values (sign signs.Comma) = refl
rows_are_fine more_values (sign signs.CloseParenthesis) = refl
rows_are_fine more_values x = refl
rows_are_fine perhaps_lattice (word words.Lattice) = refl
rows_are_fine perhaps_lattice x = refl
rows_are_fine lattice_lines (word words.Point) = refl
rows_are_fine lattice_lines (identifier x) =
    fine_name (is_refused_word x)
    (less_equal ∷ plain_name ∷ punctuation signs.Semicolon ∷ lattice_lines ∷ []) refl
rows_are_fine lattice_lines (word words.Endlattice) = refl
rows_are_fine lattice_lines x = refl
rows_are_fine less_equal (sign (signs.Operator o)) = fine_if (is_less_equal (binary_operator o))
rows_are_fine less_equal x = refl
rows_are_fine perhaps_maps (word words.Labelmap) = refl
rows_are_fine perhaps_maps x = refl
rows_are_fine map_name (identifier x) =
    fine_name (is_refused_word x)
    (punctuation signs.OpenBracket ∷ plain_number ∷ punctuation signs.Colon ∷ plain_number ∷
    punctuation signs.CloseBracket ∷ []) refl
rows_are_fine map_name x = refl
rows_are_fine perhaps_key_range (sign signs.OpenBracket) = refl
rows_are_fine perhaps_key_range x = refl
rows_are_fine rows (numeral v) = refl
rows_are_fine rows (word words.Default) = refl
rows_are_fine rows (word words.Endlabelmap) = refl
rows_are_fine rows x = refl
rows_are_fine perhaps_second_key (sign signs.Comma) = refl
rows_are_fine perhaps_second_key x = refl
rows_are_fine end_of_map (word words.Endlabelmap) = refl
rows_are_fine end_of_map x = refl
rows_are_fine one_module (word words.Module) = refl
rows_are_fine one_module x = refl
rows_are_fine perhaps_header_parameters (sign signs.Hash) = refl
rows_are_fine perhaps_header_parameters x = refl
rows_are_fine header_parameter (word words.Parameter) = refl
rows_are_fine header_parameter x = refl
rows_are_fine later_header_parameter (word words.Parameter) = refl
rows_are_fine later_header_parameter (identifier x) =
    fine_name (is_refused_word x) (punctuation signs.Equals ∷ expression 0 ∷ []) refl
rows_are_fine later_header_parameter x = refl
rows_are_fine more_header_parameters (sign signs.Comma) = refl
rows_are_fine more_header_parameters (sign signs.CloseParenthesis) = refl
rows_are_fine more_header_parameters x = refl
rows_are_fine parameter_type (word words.Signed) = refl
rows_are_fine parameter_type (sign signs.OpenBracket) = refl
rows_are_fine parameter_type x = refl
rows_are_fine perhaps_ports (sign signs.OpenParenthesis) = refl
rows_are_fine perhaps_ports x = refl
rows_are_fine ports (word words.Input) = refl
rows_are_fine ports (word words.Output) = refl
rows_are_fine ports (sign signs.CloseParenthesis) = refl
rows_are_fine ports x = refl
rows_are_fine later_port (word words.Input) = refl
rows_are_fine later_port (word words.Output) = refl
rows_are_fine later_port (identifier x) = fine_name (is_refused_word x) [] refl
rows_are_fine later_port x = refl
rows_are_fine more_ports (sign signs.Comma) = refl
rows_are_fine more_ports (sign signs.CloseParenthesis) = refl
rows_are_fine more_ports x = refl
rows_are_fine perhaps_wire (word words.Wire) = refl
rows_are_fine perhaps_wire x = refl
rows_are_fine perhaps_wire_or_reg (word words.Wire) = refl
rows_are_fine perhaps_wire_or_reg (word words.Reg) = refl
rows_are_fine perhaps_wire_or_reg x = refl
rows_are_fine perhaps_signed (word words.Signed) = refl
rows_are_fine perhaps_signed x = refl
rows_are_fine perhaps_range (sign signs.OpenBracket) = refl
rows_are_fine perhaps_range x = refl
rows_are_fine perhaps_label (sign signs.OpenBrace) = refl
rows_are_fine perhaps_label x = refl
rows_are_fine label_end (sign signs.CloseBrace) = refl
rows_are_fine label_end (sign signs.OpenParenthesis) = refl
rows_are_fine label_end x = refl
rows_are_fine perhaps_second_name (sign signs.Comma) = refl
rows_are_fine perhaps_second_name x = refl
rows_are_fine items (word words.Parameter) = refl
rows_are_fine items (word words.Localparam) = refl
rows_are_fine items (word words.Wire) = refl
rows_are_fine items (word words.Reg) = refl
rows_are_fine items (word words.Assign) = refl
rows_are_fine items (word words.Always) = refl
rows_are_fine items (word words.Invariant) = refl
rows_are_fine items (identifier x) =
    fine_name (is_refused_word x)
    (perhaps_overrides ∷ plain_name ∷ punctuation signs.OpenParenthesis ∷ links ∷ more_instances ∷
    items ∷ []) refl
rows_are_fine items (word words.Endmodule) = refl
rows_are_fine items x = refl
rows_are_fine more_parameters (sign signs.Comma) = refl
rows_are_fine more_parameters (sign signs.Semicolon) = refl
rows_are_fine more_parameters x = refl
rows_are_fine perhaps_value (sign signs.Equals) = refl
rows_are_fine perhaps_value x = refl
rows_are_fine more_wires (sign signs.Comma) = refl
rows_are_fine more_wires (sign signs.Semicolon) = refl
rows_are_fine more_wires x = refl
rows_are_fine reg_label (sign signs.OpenBrace) = refl
rows_are_fine reg_label (identifier x) = fine_name (is_refused_word x) (behind_reg_name ∷ []) refl
rows_are_fine reg_label x = refl
rows_are_fine reg_label_end (sign signs.CloseBrace) = refl
rows_are_fine reg_label_end (sign signs.OpenParenthesis) = refl
rows_are_fine reg_label_end x = refl
rows_are_fine reg_name (identifier x) = fine_name (is_refused_word x) (behind_reg_name ∷ []) refl
rows_are_fine reg_name x = refl
rows_are_fine behind_reg_name (sign signs.OpenBracket) = refl
rows_are_fine behind_reg_name (sign signs.Comma) = refl
rows_are_fine behind_reg_name (sign signs.Semicolon) = refl
rows_are_fine behind_reg_name x = refl
rows_are_fine label_selector (sign signs.Hash) = refl
rows_are_fine label_selector (identifier x) =
    fine_name (is_refused_word x)
    (perhaps_second_name ∷ punctuation signs.CloseParenthesis ∷ punctuation signs.CloseBrace ∷
    plain_name ∷ more_names signs.Semicolon ∷ []) refl
rows_are_fine label_selector x = refl
rows_are_fine memory_name (identifier x) =
    fine_name (is_refused_word x)
    (punctuation signs.OpenBracket ∷ plain_number ∷ punctuation signs.Colon ∷ plain_number ∷
    punctuation signs.CloseBracket ∷ []) refl
rows_are_fine memory_name x = refl
rows_are_fine assigned (identifier x) =
    fine_name (is_refused_word x) (punctuation signs.Equals ∷ value_or_release ∷ []) refl
rows_are_fine assigned (sign signs.OpenBrace) = refl
rows_are_fine assigned x = refl
rows_are_fine value_or_release (word words.Release) = refl
rows_are_fine value_or_release x = fine_as_expression 0 0 (more_assigned ∷ []) (operand_on 0 x) refl
rows_are_fine later_assigned (identifier x) =
    fine_name (is_refused_word x) (punctuation signs.Equals ∷ expression 0 ∷ []) refl
rows_are_fine later_assigned (sign signs.OpenBrace) = refl
rows_are_fine later_assigned x = refl
rows_are_fine more_assigned (sign signs.Comma) = refl
rows_are_fine more_assigned (sign signs.Semicolon) = refl
rows_are_fine more_assigned x = refl
rows_are_fine event (sign (signs.Operator o)) = fine_if (is_star (binary_operator o))
rows_are_fine event (sign signs.OpenParenthesis) = refl
rows_are_fine event x = refl
rows_are_fine event_inside (sign (signs.Operator o)) = fine_star (is_star (binary_operator o))
rows_are_fine event_inside (word words.Posedge) = refl
rows_are_fine event_inside x = refl
rows_are_fine perhaps_overrides (sign signs.Hash) = refl
rows_are_fine perhaps_overrides x = refl
rows_are_fine overrides (sign signs.Dot) = refl
rows_are_fine overrides x = fine_as_expression 0 0 (more_values ∷ []) (operand_on 0 x) refl
rows_are_fine more_named_overrides (sign signs.Comma) = refl
rows_are_fine more_named_overrides (sign signs.CloseParenthesis) = refl
rows_are_fine more_named_overrides x = refl
rows_are_fine links (sign signs.CloseParenthesis) = refl
rows_are_fine links (sign signs.Dot) = refl
rows_are_fine links x = fine_as_expression 0 0 (more_values ∷ []) (operand_on 0 x) refl
rows_are_fine link (sign signs.CloseParenthesis) = refl
rows_are_fine link x =
    fine_as_expression 0 0 (punctuation signs.CloseParenthesis ∷ []) (operand_on 0 x) refl
rows_are_fine more_named_links (sign signs.Comma) = refl
rows_are_fine more_named_links (sign signs.CloseParenthesis) = refl
rows_are_fine more_named_links x = refl
rows_are_fine more_instances (sign signs.Comma) = refl
rows_are_fine more_instances (sign signs.Semicolon) = refl
rows_are_fine more_instances x = refl
rows_are_fine (statement n) (identifier x) =
    fine_name (is_refused_word x) (perhaps_bits n ∷ assignment_behind n) refl
rows_are_fine (statement n) (word words.Begin) = refl
rows_are_fine (statement n) (sign signs.Semicolon) = refl
rows_are_fine (statement n) x = refl
rows_are_fine (statements n) (identifier x) = fine_statements_name n (is_refused_word x)
rows_are_fine (statements n) (word words.Begin) = refl
rows_are_fine (statements n) (sign signs.Semicolon) = refl
rows_are_fine (statements n) x = refl
rows_are_fine perhaps_block_name (sign signs.Colon) = refl
rows_are_fine perhaps_block_name x = refl
rows_are_fine (perhaps_else n) (word words.Else) = refl
rows_are_fine (perhaps_else n) x = refl
rows_are_fine (perhaps_bits n) (sign signs.OpenBracket) = refl
rows_are_fine (perhaps_bits n) x = refl
rows_are_fine (bits_end n) (sign signs.CloseBracket) = refl
rows_are_fine (bits_end n) (sign signs.Colon) = refl
rows_are_fine (bits_end n) x = refl
rows_are_fine (more_targets n) (sign signs.Comma) = refl
rows_are_fine (more_targets n) (sign signs.CloseBrace) = refl
rows_are_fine (more_targets n) x = refl
rows_are_fine assigns (sign (signs.Operator o)) = fine_if (is_less_equal (binary_operator o))
rows_are_fine assigns x = refl
rows_are_fine (arms n before default) (word words.Endcase) = fine_no_more_arms before
rows_are_fine (arms n before default) (word words.Default) = fine_default_arm n before default
rows_are_fine (arms n before default) x =
    fine_as_expression n (before + 1)
    (more_choices n ∷ statement n ∷ arms n (before + 1) default ∷ []) (operand_on n x) refl
rows_are_fine (more_choices n) (sign signs.Comma) = refl
rows_are_fine (more_choices n) (sign signs.Colon) = refl
rows_are_fine (more_choices n) x = refl
rows_are_fine perhaps_colon (sign signs.Colon) = refl
rows_are_fine perhaps_colon x = refl
