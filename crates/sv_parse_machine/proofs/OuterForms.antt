-- What the symbols outside expressions stand for.
use Rattle.std.specs.Prelude.{◌≡◌, ℕ, zero, suc, Bool, IsTrue, List, ◌∷◌}
use Rattle.sv_num.specs.declared.operators.BinOp.TheVariants.{Mul, Le}
use Rattle.sv_token.specs.declared.keywords.WordKind.TheVariants as words
use Rattle.sv_token.specs.declared.signs.SignKind.{SignKind}
use Rattle.sv_token.specs.declared.signs.SignKind.TheVariants as signs
use Rattle.sv_token.specs.Lexemes.{Lexeme, Literal, Placed}
use Rattle.sv_ast.specs.Tree.{StatementTree, ArmTrees}
use Rattle.sv_ast.specs.GrammarForms.{Form, ◌⨾◌, ◌or◌, nothing, never, each, a_word, a_sign}
use Rattle.sv_ast.specs.GrammarForms.{a_number, a_name, somewhere, binary_at}
use Rattle.sv_ast.specs.GrammarExpressions.{Limits, is_within, read_tokens}
use Rattle.sv_ast.specs.GrammarStatements.{IsStatement, AreArms}
use Rattle.sv_parse_machine.specs.Symbols.{Outer, punctuation, plain_name, plain_number, expression}
use Rattle.sv_parse_machine.specs.Symbols.{more_names, more_values, perhaps_lattice, lattice_lines}
use Rattle.sv_parse_machine.specs.Symbols.{less_equal, perhaps_maps, map_name, perhaps_key_range, rows}
use Rattle.sv_parse_machine.specs.Symbols.{perhaps_second_key, end_of_map, one_module}
use Rattle.sv_parse_machine.specs.Symbols.{perhaps_header_parameters, header_parameter}
use Rattle.sv_parse_machine.specs.Symbols.{later_header_parameter, more_header_parameters, parameter_type}
use Rattle.sv_parse_machine.specs.Symbols.{perhaps_ports, ports, later_port, more_ports, perhaps_wire}
use Rattle.sv_parse_machine.specs.Symbols.{perhaps_wire_or_reg, perhaps_signed, perhaps_range}
use Rattle.sv_parse_machine.specs.Symbols.{perhaps_label, label_end, perhaps_second_name, items}
use Rattle.sv_parse_machine.specs.Symbols.{more_parameters, perhaps_value, more_wires, reg_label}
use Rattle.sv_parse_machine.specs.Symbols.{reg_label_end, reg_name, behind_reg_name, label_selector}
use Rattle.sv_parse_machine.specs.Symbols.{memory_name, assigned, value_or_release, later_assigned}
use Rattle.sv_parse_machine.specs.Symbols.{more_assigned, event, event_inside, perhaps_overrides}
use Rattle.sv_parse_machine.specs.Symbols.{overrides, more_named_overrides, links, link, more_named_links}
use Rattle.sv_parse_machine.specs.Symbols.{more_instances, statement, statements, perhaps_block_name}
use Rattle.sv_parse_machine.specs.Symbols.{perhaps_else, perhaps_bits, bits_end, more_targets, assigns}
use Rattle.sv_parse_machine.specs.Symbols.{arms, more_choices, perhaps_colon, OuterReaction, takes}
use Rattle.sv_parse_machine.specs.Symbols.{begins, over, stuck}
use Rattle.sv_parse_machine.specs.StatementTable.{perhaps_block_name_on, perhaps_else_on, perhaps_bits_on}
use Rattle.sv_parse_machine.specs.StatementTable.{perhaps_colon_on}
use Rattle.sv_parse_machine.specs.ModuleTable.{perhaps_lattice_on, perhaps_maps_on, perhaps_key_range_on}
use Rattle.sv_parse_machine.specs.ModuleTable.{perhaps_second_key_on, perhaps_header_parameters_on}
use Rattle.sv_parse_machine.specs.ModuleTable.{parameter_type_on, perhaps_ports_on, perhaps_wire_on}
use Rattle.sv_parse_machine.specs.ModuleTable.{perhaps_wire_or_reg_on, perhaps_signed_on}
use Rattle.sv_parse_machine.specs.ModuleTable.{perhaps_range_on, perhaps_label_on, perhaps_second_name_on}
use Rattle.sv_parse_machine.specs.ModuleTable.{perhaps_value_on, perhaps_overrides_on}
use Rattle.sv_parse_machine.proofs.ExpressionForms.{Next, inner_forms, expression_form}

-- ---- putting forms together

abbrev pub IsOver : OuterReaction → Type 0
IsOver over = Unit {0}
IsOver r = ⊥

-- no token, where none of the symbol comes
abbrev pub skip_form : (Lexeme → OuterReaction) → Form
skip_form on ts rest = Next (λ x. IsOver (on x)) ts × (ts ≡ rest)

abbrev pub times : Form → ℕ → Form
times P zero = nothing
times P (suc k) = P ⨾ times P k

-- any number of the one, and then the other
abbrev pub loop_form : Form → Form → Form
loop_form P Q ts rest = (k : ℕ) × (times P k ⨾ Q) ts rest

abbrev pub some_name : Form
some_name ts rest = (x : List ℕ) × a_name x ts rest

abbrev pub some_number : Form
some_number ts rest = (v : Literal) × a_number v ts rest

abbrev pub star_form : Form
star_form = somewhere (binary_at Mul)

abbrev pub less_equal_form : Form
less_equal_form = somewhere (binary_at Le)

abbrev pub more_names_form : Limits → SignKind → Form
more_names_form l signs.Semicolon =
    loop_form (a_sign signs.Comma ⨾ some_name) (a_sign signs.Semicolon)
more_names_form l signs.CloseBrace =
    loop_form (a_sign signs.Comma ⨾ some_name) (a_sign signs.CloseBrace)
more_names_form l s = never

-- operators are no punctuation
abbrev pub punctuation_form : SignKind → Form
punctuation_form (signs.Operator o) = never
punctuation_form s = a_sign s

abbrev pub statement_form : Limits → ℕ → Form
statement_form l n ts rest = (s : StatementTree) × IsStatement l n s ts rest

abbrev pub statements_form : Limits → ℕ → Form
statements_form l n = loop_form (statement_form l n) (a_word words.End)

abbrev pub arms_form : Limits → ℕ → (before : ℕ) → (default : Bool) → Form
arms_form l n before default ts rest =
    (arms : ArmTrees) × (AreArms l n before default arms ⨾ a_word words.Endcase) ts rest

abbrev pub assigns_form : Limits → Form
assigns_form l = a_sign signs.Equals or less_equal_form

-- ---- symbol by symbol

abbrev pub more_values_row : Limits → Form
more_values_row l =
    (a_sign signs.Comma ⨾ expression_form l 0)

abbrev pub more_values_end : Limits → Form
more_values_end l = a_sign signs.CloseParenthesis

abbrev pub more_values_form : Limits → Form
more_values_form l = loop_form (more_values_row l) (more_values_end l)

abbrev pub lattice_lines_row : Limits → Form
lattice_lines_row l =
    (a_word words.Point ⨾ some_name ⨾ more_names_form l signs.Semicolon)
    or (some_name ⨾ less_equal_form ⨾ some_name ⨾ a_sign signs.Semicolon)

abbrev pub lattice_lines_end : Limits → Form
lattice_lines_end l = a_word words.Endlattice

abbrev pub lattice_lines_form : Limits → Form
lattice_lines_form l = loop_form (lattice_lines_row l) (lattice_lines_end l)

abbrev pub perhaps_lattice_form : Limits → Form
perhaps_lattice_form l =
    skip_form (perhaps_lattice_on)
    or (a_word words.Lattice ⨾ lattice_lines_form l ⨾ nothing)

abbrev pub map_name_form : Limits → Form
map_name_form l =
    (some_name ⨾ a_sign signs.OpenBracket ⨾ some_number ⨾ a_sign signs.Colon ⨾ some_number
    ⨾ a_sign signs.CloseBracket ⨾ nothing)

abbrev pub perhaps_key_range_form : Limits → Form
perhaps_key_range_form l =
    skip_form (perhaps_key_range_on)
    or (a_sign signs.OpenBracket ⨾ some_number ⨾ a_sign signs.Colon ⨾ some_number
    ⨾ a_sign signs.CloseBracket ⨾ nothing)

abbrev pub perhaps_second_key_form : Limits → Form
perhaps_second_key_form l =
    skip_form (perhaps_second_key_on)
    or (a_sign signs.Comma ⨾ some_number ⨾ nothing)

abbrev pub end_of_map_form : Limits → Form
end_of_map_form l =
    (a_word words.Endlabelmap ⨾ nothing)

abbrev pub rows_row : Limits → Form
rows_row l =
    (some_number ⨾ perhaps_second_key_form l ⨾ a_sign signs.Colon ⨾ some_name
    ⨾ a_sign signs.Semicolon)

abbrev pub rows_end : Limits → Form
rows_end l =
    (a_word words.Default ⨾ a_sign signs.Colon ⨾ some_name ⨾ a_sign signs.Semicolon
    ⨾ end_of_map_form l)
    or a_word words.Endlabelmap

abbrev pub rows_form : Limits → Form
rows_form l = loop_form (rows_row l) (rows_end l)

abbrev pub perhaps_maps_row : Limits → Form
perhaps_maps_row l =
    (a_word words.Labelmap ⨾ map_name_form l ⨾ perhaps_key_range_form l ⨾ rows_form l)

abbrev pub perhaps_maps_end : Limits → Form
perhaps_maps_end l = skip_form (perhaps_maps_on)

abbrev pub perhaps_maps_form : Limits → Form
perhaps_maps_form l = loop_form (perhaps_maps_row l) (perhaps_maps_end l)

abbrev pub parameter_type_form : Limits → Form
parameter_type_form l =
    skip_form (parameter_type_on)
    or (a_word words.Signed ⨾ a_sign signs.OpenBracket ⨾ expression_form l 0 ⨾ a_sign signs.Colon
    ⨾ expression_form l 0 ⨾ a_sign signs.CloseBracket ⨾ nothing)
    or (a_sign signs.OpenBracket ⨾ expression_form l 0 ⨾ a_sign signs.Colon ⨾ expression_form l 0
    ⨾ a_sign signs.CloseBracket ⨾ nothing)

abbrev pub header_parameter_form : Limits → Form
header_parameter_form l =
    (a_word words.Parameter ⨾ parameter_type_form l ⨾ some_name ⨾ a_sign signs.Equals
    ⨾ expression_form l 0 ⨾ nothing)

abbrev pub later_header_parameter_form : Limits → Form
later_header_parameter_form l =
    (a_word words.Parameter ⨾ parameter_type_form l ⨾ some_name ⨾ a_sign signs.Equals
    ⨾ expression_form l 0 ⨾ nothing)
    or (some_name ⨾ a_sign signs.Equals ⨾ expression_form l 0 ⨾ nothing)

abbrev pub more_header_parameters_row : Limits → Form
more_header_parameters_row l =
    (a_sign signs.Comma ⨾ later_header_parameter_form l)

abbrev pub more_header_parameters_end : Limits → Form
more_header_parameters_end l = a_sign signs.CloseParenthesis

abbrev pub more_header_parameters_form : Limits → Form
more_header_parameters_form l =
    loop_form (more_header_parameters_row l) (more_header_parameters_end l)

abbrev pub perhaps_header_parameters_form : Limits → Form
perhaps_header_parameters_form l =
    skip_form (perhaps_header_parameters_on)
    or (a_sign signs.Hash ⨾ a_sign signs.OpenParenthesis ⨾ header_parameter_form l
    ⨾ more_header_parameters_form l ⨾ nothing)

abbrev pub perhaps_wire_form : Limits → Form
perhaps_wire_form l =
    skip_form (perhaps_wire_on)
    or (a_word words.Wire ⨾ nothing)

abbrev pub perhaps_wire_or_reg_form : Limits → Form
perhaps_wire_or_reg_form l =
    skip_form (perhaps_wire_or_reg_on)
    or (a_word words.Wire ⨾ nothing)
    or (a_word words.Reg ⨾ nothing)

abbrev pub perhaps_signed_form : Limits → Form
perhaps_signed_form l =
    skip_form (perhaps_signed_on)
    or (a_word words.Signed ⨾ nothing)

abbrev pub perhaps_range_form : Limits → Form
perhaps_range_form l =
    skip_form (perhaps_range_on)
    or (a_sign signs.OpenBracket ⨾ expression_form l 0 ⨾ a_sign signs.Colon ⨾ expression_form l 0
    ⨾ a_sign signs.CloseBracket ⨾ nothing)

abbrev pub perhaps_second_name_form : Limits → Form
perhaps_second_name_form l =
    skip_form (perhaps_second_name_on)
    or (a_sign signs.Comma ⨾ some_name ⨾ nothing)

abbrev pub label_end_form : Limits → Form
label_end_form l =
    (a_sign signs.CloseBrace ⨾ nothing)
    or (a_sign signs.OpenParenthesis ⨾ some_name ⨾ perhaps_second_name_form l
    ⨾ a_sign signs.CloseParenthesis ⨾ a_sign signs.CloseBrace ⨾ nothing)

abbrev pub perhaps_label_form : Limits → Form
perhaps_label_form l =
    skip_form (perhaps_label_on)
    or (a_sign signs.OpenBrace ⨾ some_name ⨾ label_end_form l ⨾ nothing)

abbrev pub later_port_form : Limits → Form
later_port_form l =
    (a_word words.Input ⨾ perhaps_wire_form l ⨾ perhaps_signed_form l ⨾ perhaps_range_form l
    ⨾ perhaps_label_form l ⨾ some_name ⨾ nothing)
    or (a_word words.Output ⨾ perhaps_wire_or_reg_form l ⨾ perhaps_signed_form l
    ⨾ perhaps_range_form l ⨾ perhaps_label_form l ⨾ some_name ⨾ nothing)
    or (some_name ⨾ nothing)

abbrev pub more_ports_row : Limits → Form
more_ports_row l =
    (a_sign signs.Comma ⨾ later_port_form l)

abbrev pub more_ports_end : Limits → Form
more_ports_end l = a_sign signs.CloseParenthesis

abbrev pub more_ports_form : Limits → Form
more_ports_form l = loop_form (more_ports_row l) (more_ports_end l)

abbrev pub ports_form : Limits → Form
ports_form l =
    (a_word words.Input ⨾ perhaps_wire_form l ⨾ perhaps_signed_form l ⨾ perhaps_range_form l
    ⨾ perhaps_label_form l ⨾ some_name ⨾ more_ports_form l ⨾ nothing)
    or (a_word words.Output ⨾ perhaps_wire_or_reg_form l ⨾ perhaps_signed_form l
    ⨾ perhaps_range_form l ⨾ perhaps_label_form l ⨾ some_name ⨾ more_ports_form l ⨾ nothing)
    or (a_sign signs.CloseParenthesis ⨾ nothing)

abbrev pub perhaps_ports_form : Limits → Form
perhaps_ports_form l =
    skip_form (perhaps_ports_on)
    or (a_sign signs.OpenParenthesis ⨾ ports_form l ⨾ nothing)

abbrev pub more_parameters_row : Limits → Form
more_parameters_row l =
    (a_sign signs.Comma ⨾ some_name ⨾ a_sign signs.Equals ⨾ expression_form l 0)

abbrev pub more_parameters_end : Limits → Form
more_parameters_end l = a_sign signs.Semicolon

abbrev pub more_parameters_form : Limits → Form
more_parameters_form l = loop_form (more_parameters_row l) (more_parameters_end l)

abbrev pub perhaps_value_form : Limits → Form
perhaps_value_form l =
    skip_form (perhaps_value_on)
    or (a_sign signs.Equals ⨾ expression_form l 0 ⨾ nothing)

abbrev pub more_wires_row : Limits → Form
more_wires_row l =
    (a_sign signs.Comma ⨾ some_name ⨾ perhaps_value_form l)

abbrev pub more_wires_end : Limits → Form
more_wires_end l = a_sign signs.Semicolon

abbrev pub more_wires_form : Limits → Form
more_wires_form l = loop_form (more_wires_row l) (more_wires_end l)

abbrev pub behind_reg_name_form : Limits → Form
behind_reg_name_form l =
    (a_sign signs.OpenBracket ⨾ some_number ⨾ a_sign signs.Colon ⨾ some_number
    ⨾ a_sign signs.CloseBracket ⨾ a_sign signs.Semicolon ⨾ nothing)
    or (a_sign signs.Comma ⨾ some_name ⨾ more_names_form l signs.Semicolon ⨾ nothing)
    or (a_sign signs.Semicolon ⨾ nothing)

abbrev pub memory_name_form : Limits → Form
memory_name_form l =
    (some_name ⨾ a_sign signs.OpenBracket ⨾ some_number ⨾ a_sign signs.Colon ⨾ some_number
    ⨾ a_sign signs.CloseBracket ⨾ nothing)

abbrev pub label_selector_form : Limits → Form
label_selector_form l =
    (a_sign signs.Hash ⨾ a_sign signs.CloseParenthesis ⨾ a_sign signs.CloseBrace
    ⨾ memory_name_form l ⨾ a_sign signs.Semicolon ⨾ nothing)
    or (some_name ⨾ perhaps_second_name_form l ⨾ a_sign signs.CloseParenthesis
    ⨾ a_sign signs.CloseBrace ⨾ some_name ⨾ more_names_form l signs.Semicolon ⨾ nothing)

abbrev pub reg_name_form : Limits → Form
reg_name_form l =
    (some_name ⨾ behind_reg_name_form l ⨾ nothing)

abbrev pub reg_label_end_form : Limits → Form
reg_label_end_form l =
    (a_sign signs.CloseBrace ⨾ reg_name_form l ⨾ nothing)
    or (a_sign signs.OpenParenthesis ⨾ label_selector_form l ⨾ nothing)

abbrev pub reg_label_form : Limits → Form
reg_label_form l =
    (a_sign signs.OpenBrace ⨾ some_name ⨾ reg_label_end_form l ⨾ nothing)
    or (some_name ⨾ behind_reg_name_form l ⨾ nothing)

abbrev pub later_assigned_form : Limits → Form
later_assigned_form l =
    (some_name ⨾ a_sign signs.Equals ⨾ expression_form l 0 ⨾ nothing)
    or (a_sign signs.OpenBrace ⨾ some_name ⨾ more_names_form l signs.CloseBrace
    ⨾ a_sign signs.Equals ⨾ expression_form l 0 ⨾ nothing)

abbrev pub more_assigned_row : Limits → Form
more_assigned_row l =
    (a_sign signs.Comma ⨾ later_assigned_form l)

abbrev pub more_assigned_end : Limits → Form
more_assigned_end l = a_sign signs.Semicolon

abbrev pub more_assigned_form : Limits → Form
more_assigned_form l = loop_form (more_assigned_row l) (more_assigned_end l)

abbrev pub value_or_release_form : Limits → Form
value_or_release_form l =
    (a_word words.Release ⨾ a_sign signs.OpenParenthesis ⨾ expression_form l 0 ⨾ a_sign signs.Comma
    ⨾ some_name ⨾ a_sign signs.CloseParenthesis ⨾ a_sign signs.Semicolon ⨾ nothing)
    or (expression_form l 0 ⨾ more_assigned_form l ⨾ nothing)

abbrev pub assigned_form : Limits → Form
assigned_form l =
    (some_name ⨾ a_sign signs.Equals ⨾ value_or_release_form l ⨾ nothing)
    or (a_sign signs.OpenBrace ⨾ some_name ⨾ more_names_form l signs.CloseBrace
    ⨾ a_sign signs.Equals ⨾ expression_form l 0 ⨾ more_assigned_form l ⨾ nothing)

abbrev pub event_inside_form : Limits → Form
event_inside_form l =
    (star_form ⨾ a_sign signs.CloseParenthesis ⨾ nothing)
    or (a_word words.Posedge ⨾ some_name ⨾ a_sign signs.CloseParenthesis ⨾ nothing)

abbrev pub event_form : Limits → Form
event_form l =
    (star_form ⨾ nothing)
    or (a_sign signs.OpenParenthesis ⨾ event_inside_form l ⨾ nothing)

abbrev pub more_named_overrides_row : Limits → Form
more_named_overrides_row l =
    (a_sign signs.Comma ⨾ a_sign signs.Dot ⨾ some_name ⨾ a_sign signs.OpenParenthesis
    ⨾ expression_form l 0 ⨾ a_sign signs.CloseParenthesis)

abbrev pub more_named_overrides_end : Limits → Form
more_named_overrides_end l = a_sign signs.CloseParenthesis

abbrev pub more_named_overrides_form : Limits → Form
more_named_overrides_form l = loop_form (more_named_overrides_row l) (more_named_overrides_end l)

abbrev pub overrides_form : Limits → Form
overrides_form l =
    (a_sign signs.Dot ⨾ some_name ⨾ a_sign signs.OpenParenthesis ⨾ expression_form l 0
    ⨾ a_sign signs.CloseParenthesis ⨾ more_named_overrides_form l ⨾ nothing)
    or (expression_form l 0 ⨾ more_values_form l ⨾ nothing)

abbrev pub perhaps_overrides_form : Limits → Form
perhaps_overrides_form l =
    skip_form (perhaps_overrides_on)
    or (a_sign signs.Hash ⨾ a_sign signs.OpenParenthesis ⨾ overrides_form l ⨾ nothing)

abbrev pub link_form : Limits → Form
link_form l =
    (a_sign signs.CloseParenthesis ⨾ nothing)
    or (expression_form l 0 ⨾ a_sign signs.CloseParenthesis ⨾ nothing)

abbrev pub more_named_links_row : Limits → Form
more_named_links_row l =
    (a_sign signs.Comma ⨾ a_sign signs.Dot ⨾ some_name ⨾ a_sign signs.OpenParenthesis ⨾ link_form l)

abbrev pub more_named_links_end : Limits → Form
more_named_links_end l = a_sign signs.CloseParenthesis

abbrev pub more_named_links_form : Limits → Form
more_named_links_form l = loop_form (more_named_links_row l) (more_named_links_end l)

abbrev pub links_form : Limits → Form
links_form l =
    (a_sign signs.CloseParenthesis ⨾ nothing)
    or (a_sign signs.Dot ⨾ some_name ⨾ a_sign signs.OpenParenthesis ⨾ link_form l
    ⨾ more_named_links_form l ⨾ nothing)
    or (expression_form l 0 ⨾ more_values_form l ⨾ nothing)

abbrev pub more_instances_row : Limits → Form
more_instances_row l =
    (a_sign signs.Comma ⨾ some_name ⨾ a_sign signs.OpenParenthesis ⨾ links_form l)

abbrev pub more_instances_end : Limits → Form
more_instances_end l = a_sign signs.Semicolon

abbrev pub more_instances_form : Limits → Form
more_instances_form l = loop_form (more_instances_row l) (more_instances_end l)

abbrev pub bits_end_form : Limits → ℕ → Form
bits_end_form l n =
    (a_sign signs.CloseBracket ⨾ nothing)
    or (a_sign signs.Colon ⨾ expression_form l n ⨾ a_sign signs.CloseBracket ⨾ nothing)

abbrev pub perhaps_bits_form : Limits → ℕ → Form
perhaps_bits_form l n =
    skip_form (perhaps_bits_on n)
    or (a_sign signs.OpenBracket ⨾ expression_form l n ⨾ bits_end_form l n ⨾ nothing)

abbrev pub more_targets_row : Limits → ℕ → Form
more_targets_row l n =
    (a_sign signs.Comma ⨾ some_name ⨾ perhaps_bits_form l n)

abbrev pub more_targets_end : Limits → ℕ → Form
more_targets_end l n = a_sign signs.CloseBrace

abbrev pub more_targets_form : Limits → ℕ → Form
more_targets_form l n = loop_form (more_targets_row l n) (more_targets_end l n)

abbrev pub more_choices_row : Limits → ℕ → Form
more_choices_row l n =
    (a_sign signs.Comma ⨾ expression_form l n)

abbrev pub more_choices_end : Limits → ℕ → Form
more_choices_end l n = a_sign signs.Colon

abbrev pub more_choices_form : Limits → ℕ → Form
more_choices_form l n = loop_form (more_choices_row l n) (more_choices_end l n)

abbrev pub perhaps_block_name_form : Limits → Form
perhaps_block_name_form l =
    skip_form (perhaps_block_name_on)
    or (a_sign signs.Colon ⨾ some_name ⨾ nothing)

abbrev pub perhaps_colon_form : Limits → Form
perhaps_colon_form l =
    skip_form (perhaps_colon_on)
    or (a_sign signs.Colon ⨾ nothing)

abbrev pub perhaps_else_form : Limits → ℕ → Form
perhaps_else_form l n =
    skip_form (perhaps_else_on n)
    or (a_word words.Else ⨾ statement_form l n ⨾ nothing)

abbrev pub items_row : Limits → Form
items_row l =
    (a_word words.Parameter ⨾ parameter_type_form l ⨾ some_name ⨾ a_sign signs.Equals
    ⨾ expression_form l 0 ⨾ more_parameters_form l)
    or (a_word words.Localparam ⨾ parameter_type_form l ⨾ some_name ⨾ a_sign signs.Equals
    ⨾ expression_form l 0 ⨾ more_parameters_form l)
    or (a_word words.Wire ⨾ perhaps_signed_form l ⨾ perhaps_range_form l ⨾ perhaps_label_form l
    ⨾ some_name ⨾ perhaps_value_form l ⨾ more_wires_form l)
    or (a_word words.Reg ⨾ perhaps_signed_form l ⨾ perhaps_range_form l ⨾ reg_label_form l)
    or (a_word words.Assign ⨾ assigned_form l)
    or (a_word words.Always ⨾ a_sign signs.At ⨾ event_form l ⨾ statement_form l 0)
    or (a_word words.Invariant ⨾ expression_form l 0 ⨾ a_sign signs.Semicolon)
    or (some_name ⨾ perhaps_overrides_form l ⨾ some_name ⨾ a_sign signs.OpenParenthesis
    ⨾ links_form l ⨾ more_instances_form l)

abbrev pub items_end : Limits → Form
items_end l = a_word words.Endmodule

abbrev pub items_form : Limits → Form
items_form l = loop_form (items_row l) (items_end l)

abbrev pub one_module_form : Limits → Form
one_module_form l =
    (a_word words.Module ⨾ some_name ⨾ perhaps_header_parameters_form l ⨾ perhaps_ports_form l
    ⨾ a_sign signs.Semicolon ⨾ items_form l ⨾ nothing)

abbrev pub outer_form : Limits → Outer → Form
outer_form l (punctuation s) = punctuation_form s
outer_form l plain_name = some_name
outer_form l plain_number = some_number
outer_form l (expression n) = expression_form l n
outer_form l (more_names s) = more_names_form l s
outer_form l less_equal = less_equal_form
outer_form l assigns = assigns_form l
outer_form l (statement n) = statement_form l n
outer_form l (statements n) = statements_form l n
outer_form l (arms n before default) = arms_form l n before default
outer_form l more_values = more_values_form l
outer_form l lattice_lines = lattice_lines_form l
outer_form l perhaps_lattice = perhaps_lattice_form l
outer_form l map_name = map_name_form l
outer_form l perhaps_key_range = perhaps_key_range_form l
outer_form l perhaps_second_key = perhaps_second_key_form l
outer_form l end_of_map = end_of_map_form l
outer_form l rows = rows_form l
outer_form l perhaps_maps = perhaps_maps_form l
outer_form l parameter_type = parameter_type_form l
outer_form l header_parameter = header_parameter_form l
outer_form l later_header_parameter = later_header_parameter_form l
outer_form l more_header_parameters = more_header_parameters_form l
outer_form l perhaps_header_parameters = perhaps_header_parameters_form l
outer_form l perhaps_wire = perhaps_wire_form l
outer_form l perhaps_wire_or_reg = perhaps_wire_or_reg_form l
outer_form l perhaps_signed = perhaps_signed_form l
outer_form l perhaps_range = perhaps_range_form l
outer_form l perhaps_second_name = perhaps_second_name_form l
outer_form l label_end = label_end_form l
outer_form l perhaps_label = perhaps_label_form l
outer_form l later_port = later_port_form l
outer_form l more_ports = more_ports_form l
outer_form l ports = ports_form l
outer_form l perhaps_ports = perhaps_ports_form l
outer_form l more_parameters = more_parameters_form l
outer_form l perhaps_value = perhaps_value_form l
outer_form l more_wires = more_wires_form l
outer_form l behind_reg_name = behind_reg_name_form l
outer_form l memory_name = memory_name_form l
outer_form l label_selector = label_selector_form l
outer_form l reg_name = reg_name_form l
outer_form l reg_label_end = reg_label_end_form l
outer_form l reg_label = reg_label_form l
outer_form l later_assigned = later_assigned_form l
outer_form l more_assigned = more_assigned_form l
outer_form l value_or_release = value_or_release_form l
outer_form l assigned = assigned_form l
outer_form l event_inside = event_inside_form l
outer_form l event = event_form l
outer_form l more_named_overrides = more_named_overrides_form l
outer_form l overrides = overrides_form l
outer_form l perhaps_overrides = perhaps_overrides_form l
outer_form l link = link_form l
outer_form l more_named_links = more_named_links_form l
outer_form l links = links_form l
outer_form l more_instances = more_instances_form l
outer_form l (bits_end n) = bits_end_form l n
outer_form l (perhaps_bits n) = perhaps_bits_form l n
outer_form l (more_targets n) = more_targets_form l n
outer_form l (more_choices n) = more_choices_form l n
outer_form l perhaps_block_name = perhaps_block_name_form l
outer_form l perhaps_colon = perhaps_colon_form l
outer_form l (perhaps_else n) = perhaps_else_form l n
outer_form l items = items_form l
outer_form l one_module = one_module_form l

abbrev pub outer_forms : Limits → List Outer → Form
outer_forms l ys = each (outer_form l) ys

-- what a token and the tokens behind it are to a symbol
abbrev pub Accepts : Limits → Placed → (ts rest : List Placed) → OuterReaction → Type 0
Accepts l t ts rest (takes level arm ys) =
    IsTrue (is_within l.levels level) × IsTrue (is_within l.arms arm) × outer_forms l ys ts rest
Accepts l t ts rest (begins level arm xs ys) =
    IsTrue (is_within l.levels level)
    × IsTrue (is_within l.arms arm)
    × (mid : List Placed)
    × inner_forms l xs ts mid
    × IsTrue (is_within l.tokens (read_tokens l (t ∷ ts) mid))
    × outer_forms l ys mid rest
Accepts l t ts rest over = t ∷ ts ≡ rest
Accepts l t ts rest (stuck e) = ⊥
