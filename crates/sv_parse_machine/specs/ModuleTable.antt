-- Private: how the code goes. What a token does to each symbol of a module, a lattice or a label
-- map.
use Rattle.std.specs.Prelude.{ℕ, Bool, true, false, List, [], ◌∷◌}
use Rattle.sv_token.specs.declared.keywords.WordKind.TheVariants as words
use Rattle.sv_token.specs.declared.signs.SignKind.TheVariants as signs
use Rattle.sv_token.specs.Lexemes.{Lexeme, word, identifier, numeral, sign}
use Rattle.sv_token.specs.Words.{is_refused_word}
use Rattle.sv_ast.specs.GrammarForms.{binary_operator}
use Rattle.sv_parse_machine.specs.Symbols.{Outer, punctuation, plain_name, plain_number, expression}
use Rattle.sv_parse_machine.specs.Symbols.{more_names, more_values, lattice_lines, less_equal}
use Rattle.sv_parse_machine.specs.Symbols.{perhaps_maps, map_name, perhaps_key_range, rows}
use Rattle.sv_parse_machine.specs.Symbols.{perhaps_second_key, end_of_map, perhaps_header_parameters}
use Rattle.sv_parse_machine.specs.Symbols.{header_parameter, later_header_parameter}
use Rattle.sv_parse_machine.specs.Symbols.{more_header_parameters, parameter_type, perhaps_ports, ports}
use Rattle.sv_parse_machine.specs.Symbols.{later_port, more_ports, perhaps_wire, perhaps_wire_or_reg}
use Rattle.sv_parse_machine.specs.Symbols.{perhaps_signed, perhaps_range, perhaps_label, label_end}
use Rattle.sv_parse_machine.specs.Symbols.{perhaps_second_name, items, more_parameters, perhaps_value}
use Rattle.sv_parse_machine.specs.Symbols.{more_wires, reg_label, reg_label_end, reg_name}
use Rattle.sv_parse_machine.specs.Symbols.{behind_reg_name, label_selector, memory_name, assigned}
use Rattle.sv_parse_machine.specs.Symbols.{value_or_release, later_assigned, more_assigned, event}
use Rattle.sv_parse_machine.specs.Symbols.{event_inside, perhaps_overrides, overrides}
use Rattle.sv_parse_machine.specs.Symbols.{more_named_overrides, links, link, more_named_links}
use Rattle.sv_parse_machine.specs.Symbols.{more_instances, statement, an_item, an_edge, a_port}
use Rattle.sv_parse_machine.specs.Symbols.{OuterReaction, over, stuck, takes_all, unexpected}
use Rattle.sv_parse_machine.specs.Symbols.{unless_refused}
use Rattle.sv_parse_machine.specs.ExpressionTable.{expression_on}
use Rattle.sv_parse_machine.specs.StatementTable.{is_star, taken_if}

-- a sign, and what comes behind it
abbrev pub number_range : List Outer
number_range =
    plain_number ∷ punctuation signs.Colon ∷ plain_number ∷ punctuation signs.CloseBracket ∷ []

abbrev pub value_range : List Outer
value_range =
    expression 0 ∷ punctuation signs.Colon ∷ expression 0 ∷ punctuation signs.CloseBracket ∷ []

abbrev pub named : List ℕ → List Outer → OuterReaction
named x ys = unless_refused (is_refused_word x) (takes_all ys)

abbrev pub value : List Outer → List Outer
value ys = punctuation signs.Equals ∷ expression 0 ∷ ys

-- ---- lattices and label maps

abbrev pub perhaps_lattice_on : Lexeme → OuterReaction
perhaps_lattice_on (word words.Lattice) = takes_all (lattice_lines ∷ [])
perhaps_lattice_on x = over

abbrev pub lattice_lines_on : Lexeme → OuterReaction
lattice_lines_on (word words.Point) =
    takes_all (plain_name ∷ more_names signs.Semicolon ∷ lattice_lines ∷ [])
lattice_lines_on (identifier x) =
    named x (less_equal ∷ plain_name ∷ punctuation signs.Semicolon ∷ lattice_lines ∷ [])
lattice_lines_on (word words.Endlattice) = takes_all []
lattice_lines_on x = unexpected

abbrev pub perhaps_maps_on : Lexeme → OuterReaction
perhaps_maps_on (word words.Labelmap) =
    takes_all (map_name ∷ perhaps_key_range ∷ rows ∷ perhaps_maps ∷ [])
perhaps_maps_on x = over

abbrev pub map_name_on : Lexeme → OuterReaction
map_name_on (identifier x) = named x (punctuation signs.OpenBracket ∷ number_range)
map_name_on x = unexpected

abbrev pub perhaps_key_range_on : Lexeme → OuterReaction
perhaps_key_range_on (sign signs.OpenBracket) = takes_all number_range
perhaps_key_range_on x = over

abbrev pub rows_on : Lexeme → OuterReaction
rows_on (numeral v) =
    takes_all (perhaps_second_key ∷ punctuation signs.Colon ∷ plain_name ∷
    punctuation signs.Semicolon ∷ rows ∷ [])
rows_on (word words.Default) =
    takes_all (punctuation signs.Colon ∷ plain_name ∷ punctuation signs.Semicolon ∷ end_of_map ∷ [])
rows_on (word words.Endlabelmap) = takes_all []
rows_on x = unexpected

abbrev pub perhaps_second_key_on : Lexeme → OuterReaction
perhaps_second_key_on (sign signs.Comma) = takes_all (plain_number ∷ [])
perhaps_second_key_on x = over

abbrev pub end_of_map_on : Lexeme → OuterReaction
end_of_map_on (word words.Endlabelmap) = takes_all []
end_of_map_on x = unexpected

-- ---- headers

abbrev pub one_module_on : Lexeme → OuterReaction
one_module_on (word words.Module) =
    takes_all (plain_name ∷ perhaps_header_parameters ∷ perhaps_ports ∷
    punctuation signs.Semicolon ∷ items ∷ [])
one_module_on x = unexpected

abbrev pub perhaps_header_parameters_on : Lexeme → OuterReaction
perhaps_header_parameters_on (sign signs.Hash) =
    takes_all (punctuation signs.OpenParenthesis ∷ header_parameter ∷ more_header_parameters ∷ [])
perhaps_header_parameters_on x = over

abbrev pub header_parameter_on : Lexeme → OuterReaction
header_parameter_on (word words.Parameter) = takes_all (parameter_type ∷ plain_name ∷ value [])
header_parameter_on x = unexpected

abbrev pub later_header_parameter_on : Lexeme → OuterReaction
later_header_parameter_on (word words.Parameter) =
    takes_all (parameter_type ∷ plain_name ∷ value [])
later_header_parameter_on (identifier x) = named x (value [])
later_header_parameter_on x = unexpected

abbrev pub more_header_parameters_on : Lexeme → OuterReaction
more_header_parameters_on (sign signs.Comma) =
    takes_all (later_header_parameter ∷ more_header_parameters ∷ [])
more_header_parameters_on (sign signs.CloseParenthesis) = takes_all []
more_header_parameters_on x = unexpected

abbrev pub parameter_type_on : Lexeme → OuterReaction
parameter_type_on (word words.Signed) = takes_all (punctuation signs.OpenBracket ∷ value_range)
parameter_type_on (sign signs.OpenBracket) = takes_all value_range
parameter_type_on x = over

abbrev pub perhaps_ports_on : Lexeme → OuterReaction
perhaps_ports_on (sign signs.OpenParenthesis) = takes_all (ports ∷ [])
perhaps_ports_on x = over

abbrev pub typed_name : List Outer → List Outer
typed_name ys = perhaps_signed ∷ perhaps_range ∷ perhaps_label ∷ plain_name ∷ ys

abbrev pub ports_on : Lexeme → OuterReaction
ports_on (word words.Input) = takes_all (perhaps_wire ∷ typed_name (more_ports ∷ []))
ports_on (word words.Output) = takes_all (perhaps_wire_or_reg ∷ typed_name (more_ports ∷ []))
ports_on (sign signs.CloseParenthesis) = takes_all []
ports_on x = stuck a_port

abbrev pub later_port_on : Lexeme → OuterReaction
later_port_on (word words.Input) = takes_all (perhaps_wire ∷ typed_name [])
later_port_on (word words.Output) = takes_all (perhaps_wire_or_reg ∷ typed_name [])
later_port_on (identifier x) = named x []
later_port_on x = unexpected

abbrev pub more_ports_on : Lexeme → OuterReaction
more_ports_on (sign signs.Comma) = takes_all (later_port ∷ more_ports ∷ [])
more_ports_on (sign signs.CloseParenthesis) = takes_all []
more_ports_on x = unexpected

abbrev pub perhaps_wire_on : Lexeme → OuterReaction
perhaps_wire_on (word words.Wire) = takes_all []
perhaps_wire_on x = over

abbrev pub perhaps_wire_or_reg_on : Lexeme → OuterReaction
perhaps_wire_or_reg_on (word words.Wire) = takes_all []
perhaps_wire_or_reg_on (word words.Reg) = takes_all []
perhaps_wire_or_reg_on x = over

abbrev pub perhaps_signed_on : Lexeme → OuterReaction
perhaps_signed_on (word words.Signed) = takes_all []
perhaps_signed_on x = over

abbrev pub perhaps_range_on : Lexeme → OuterReaction
perhaps_range_on (sign signs.OpenBracket) = takes_all value_range
perhaps_range_on x = over

abbrev pub perhaps_label_on : Lexeme → OuterReaction
perhaps_label_on (sign signs.OpenBrace) = takes_all (plain_name ∷ label_end ∷ [])
perhaps_label_on x = over

abbrev pub behind_selector : List Outer → List Outer
behind_selector ys = punctuation signs.CloseParenthesis ∷ punctuation signs.CloseBrace ∷ ys

abbrev pub label_end_on : Lexeme → OuterReaction
label_end_on (sign signs.CloseBrace) = takes_all []
label_end_on (sign signs.OpenParenthesis) =
    takes_all (plain_name ∷ perhaps_second_name ∷ behind_selector [])
label_end_on x = unexpected

abbrev pub perhaps_second_name_on : Lexeme → OuterReaction
perhaps_second_name_on (sign signs.Comma) = takes_all (plain_name ∷ [])
perhaps_second_name_on x = over

-- ---- items

abbrev pub items_on : Lexeme → OuterReaction
items_on (word words.Parameter) =
    takes_all (parameter_type ∷ plain_name ∷ value (more_parameters ∷ items ∷ []))
items_on (word words.Localparam) =
    takes_all (parameter_type ∷ plain_name ∷ value (more_parameters ∷ items ∷ []))
items_on (word words.Wire) = takes_all (typed_name (perhaps_value ∷ more_wires ∷ items ∷ []))
items_on (word words.Reg) = takes_all (perhaps_signed ∷ perhaps_range ∷ reg_label ∷ items ∷ [])
items_on (word words.Assign) = takes_all (assigned ∷ items ∷ [])
items_on (word words.Always) = takes_all (punctuation signs.At ∷ event ∷ statement 0 ∷ items ∷ [])
items_on (word words.Invariant) =
    takes_all (expression 0 ∷ punctuation signs.Semicolon ∷ items ∷ [])
items_on (identifier x) =
    named x (perhaps_overrides ∷ plain_name ∷ punctuation signs.OpenParenthesis ∷ links ∷
    more_instances ∷ items ∷ [])
items_on (word words.Endmodule) = takes_all []
items_on x = stuck an_item

abbrev pub more_parameters_on : Lexeme → OuterReaction
more_parameters_on (sign signs.Comma) = takes_all (plain_name ∷ value (more_parameters ∷ []))
more_parameters_on (sign signs.Semicolon) = takes_all []
more_parameters_on x = unexpected

abbrev pub perhaps_value_on : Lexeme → OuterReaction
perhaps_value_on (sign signs.Equals) = takes_all (expression 0 ∷ [])
perhaps_value_on x = over

abbrev pub more_wires_on : Lexeme → OuterReaction
more_wires_on (sign signs.Comma) = takes_all (plain_name ∷ perhaps_value ∷ more_wires ∷ [])
more_wires_on (sign signs.Semicolon) = takes_all []
more_wires_on x = unexpected

-- ---- registers and memories

abbrev pub reg_label_on : Lexeme → OuterReaction
reg_label_on (sign signs.OpenBrace) = takes_all (plain_name ∷ reg_label_end ∷ [])
reg_label_on (identifier x) = named x (behind_reg_name ∷ [])
reg_label_on x = unexpected

abbrev pub reg_label_end_on : Lexeme → OuterReaction
reg_label_end_on (sign signs.CloseBrace) = takes_all (reg_name ∷ [])
reg_label_end_on (sign signs.OpenParenthesis) = takes_all (label_selector ∷ [])
reg_label_end_on x = unexpected

abbrev pub reg_name_on : Lexeme → OuterReaction
reg_name_on (identifier x) = named x (behind_reg_name ∷ [])
reg_name_on x = unexpected

abbrev pub behind_reg_name_on : Lexeme → OuterReaction
behind_reg_name_on (sign signs.OpenBracket) =
    takes_all (plain_number ∷ punctuation signs.Colon ∷ plain_number ∷
    punctuation signs.CloseBracket ∷ punctuation signs.Semicolon ∷ [])
behind_reg_name_on (sign signs.Comma) = takes_all (plain_name ∷ more_names signs.Semicolon ∷ [])
behind_reg_name_on (sign signs.Semicolon) = takes_all []
behind_reg_name_on x = unexpected

abbrev pub label_selector_on : Lexeme → OuterReaction
label_selector_on (sign signs.Hash) =
    takes_all (behind_selector (memory_name ∷ punctuation signs.Semicolon ∷ []))
label_selector_on (identifier x) =
    named x (perhaps_second_name ∷ behind_selector (plain_name ∷ more_names signs.Semicolon ∷ []))
label_selector_on x = unexpected

abbrev pub memory_name_on : Lexeme → OuterReaction
memory_name_on (identifier x) = named x (punctuation signs.OpenBracket ∷ number_range)
memory_name_on x = unexpected

-- ---- `assign` and `always`

abbrev pub assigned_on : Lexeme → OuterReaction
assigned_on (identifier x) = named x (punctuation signs.Equals ∷ value_or_release ∷ [])
assigned_on (sign signs.OpenBrace) =
    takes_all (plain_name ∷ more_names signs.CloseBrace ∷ value (more_assigned ∷ []))
assigned_on x = unexpected

abbrev pub value_or_release_on : Lexeme → OuterReaction
value_or_release_on (word words.Release) =
    takes_all (punctuation signs.OpenParenthesis ∷ expression 0 ∷ punctuation signs.Comma ∷
    plain_name ∷ punctuation signs.CloseParenthesis ∷ punctuation signs.Semicolon ∷ [])
value_or_release_on x = expression_on 0 0 (more_assigned ∷ []) x

abbrev pub later_assigned_on : Lexeme → OuterReaction
later_assigned_on (identifier x) = named x (value [])
later_assigned_on (sign signs.OpenBrace) =
    takes_all (plain_name ∷ more_names signs.CloseBrace ∷ value [])
later_assigned_on x = unexpected

abbrev pub more_assigned_on : Lexeme → OuterReaction
more_assigned_on (sign signs.Comma) = takes_all (later_assigned ∷ more_assigned ∷ [])
more_assigned_on (sign signs.Semicolon) = takes_all []
more_assigned_on x = unexpected

abbrev pub event_on : Lexeme → OuterReaction
event_on (sign (signs.Operator o)) = taken_if (is_star (binary_operator o))
event_on (sign signs.OpenParenthesis) = takes_all (event_inside ∷ [])
event_on x = unexpected

abbrev pub star_in_event : Bool → OuterReaction
star_in_event true = takes_all (punctuation signs.CloseParenthesis ∷ [])
star_in_event false = stuck an_edge

abbrev pub event_inside_on : Lexeme → OuterReaction
event_inside_on (sign (signs.Operator o)) = star_in_event (is_star (binary_operator o))
event_inside_on (word words.Posedge) =
    takes_all (plain_name ∷ punctuation signs.CloseParenthesis ∷ [])
event_inside_on x = stuck an_edge

-- ---- instances

abbrev pub perhaps_overrides_on : Lexeme → OuterReaction
perhaps_overrides_on (sign signs.Hash) =
    takes_all (punctuation signs.OpenParenthesis ∷ overrides ∷ [])
perhaps_overrides_on x = over

abbrev pub in_name : List Outer → List Outer
in_name ys =
    plain_name ∷ punctuation signs.OpenParenthesis ∷ expression 0 ∷
    punctuation signs.CloseParenthesis ∷ ys

abbrev pub overrides_on : Lexeme → OuterReaction
overrides_on (sign signs.Dot) = takes_all (in_name (more_named_overrides ∷ []))
overrides_on x = expression_on 0 0 (more_values ∷ []) x

abbrev pub more_named_overrides_on : Lexeme → OuterReaction
more_named_overrides_on (sign signs.Comma) =
    takes_all (punctuation signs.Dot ∷ in_name (more_named_overrides ∷ []))
more_named_overrides_on (sign signs.CloseParenthesis) = takes_all []
more_named_overrides_on x = unexpected

abbrev pub links_on : Lexeme → OuterReaction
links_on (sign signs.CloseParenthesis) = takes_all []
links_on (sign signs.Dot) =
    takes_all (plain_name ∷ punctuation signs.OpenParenthesis ∷ link ∷ more_named_links ∷ [])
links_on x = expression_on 0 0 (more_values ∷ []) x

abbrev pub link_on : Lexeme → OuterReaction
link_on (sign signs.CloseParenthesis) = takes_all []
link_on x = expression_on 0 0 (punctuation signs.CloseParenthesis ∷ []) x

abbrev pub more_named_links_on : Lexeme → OuterReaction
more_named_links_on (sign signs.Comma) =
    takes_all (punctuation signs.Dot ∷ plain_name ∷ punctuation signs.OpenParenthesis ∷ link ∷
    more_named_links ∷ [])
more_named_links_on (sign signs.CloseParenthesis) = takes_all []
more_named_links_on x = unexpected

abbrev pub more_instances_on : Lexeme → OuterReaction
more_instances_on (sign signs.Comma) =
    takes_all (plain_name ∷ punctuation signs.OpenParenthesis ∷ links ∷ more_instances ∷ [])
more_instances_on (sign signs.Semicolon) = takes_all []
more_instances_on x = unexpected
