-- Private: how the code goes. A run over tokens: what is still to come, token by token, and where
-- no text goes on.
use Rattle.std.specs.Prelude.{ℕ, ◌+◌, ◌-◌, max, Bool, true, false, ◌&&◌, List, [], ◌∷◌, ◌++◌, map}
use Rattle.std.specs.Prelude.{length}
use Rattle.sv_token.specs.Lexemes.{Lexeme, Placed}
use Rattle.sv_ast.specs.GrammarExpressions.{Limits, is_within}
use Rattle.sv_parse_machine.specs.Symbols.{Inner, tail, selection, Outer, punctuation, plain_name}
use Rattle.sv_parse_machine.specs.Symbols.{plain_number, expression, more_names, more_values}
use Rattle.sv_parse_machine.specs.Symbols.{perhaps_lattice, lattice_lines, less_equal, perhaps_maps}
use Rattle.sv_parse_machine.specs.Symbols.{map_name, perhaps_key_range, rows, perhaps_second_key}
use Rattle.sv_parse_machine.specs.Symbols.{end_of_map, one_module, perhaps_header_parameters}
use Rattle.sv_parse_machine.specs.Symbols.{header_parameter, later_header_parameter}
use Rattle.sv_parse_machine.specs.Symbols.{more_header_parameters, parameter_type, perhaps_ports, ports}
use Rattle.sv_parse_machine.specs.Symbols.{later_port, more_ports, perhaps_wire, perhaps_wire_or_reg}
use Rattle.sv_parse_machine.specs.Symbols.{perhaps_signed, perhaps_range, perhaps_label, label_end}
use Rattle.sv_parse_machine.specs.Symbols.{perhaps_second_name, items, more_parameters, perhaps_value}
use Rattle.sv_parse_machine.specs.Symbols.{more_wires, reg_label, reg_label_end, reg_name}
use Rattle.sv_parse_machine.specs.Symbols.{behind_reg_name, label_selector, memory_name, assigned}
use Rattle.sv_parse_machine.specs.Symbols.{value_or_release, later_assigned, more_assigned, event}
use Rattle.sv_parse_machine.specs.Symbols.{event_inside, perhaps_overrides, overrides}
use Rattle.sv_parse_machine.specs.Symbols.{more_named_overrides, links, link, more_named_links}
use Rattle.sv_parse_machine.specs.Symbols.{more_instances, statement, statements, perhaps_block_name}
use Rattle.sv_parse_machine.specs.Symbols.{perhaps_else, perhaps_bits, bits_end, more_targets, assigns}
use Rattle.sv_parse_machine.specs.Symbols.{arms, more_choices, perhaps_colon, Symbol, inner, outer, State}
use Rattle.sv_parse_machine.specs.Symbols.{Expected, InnerReaction, takes_inner, over_inner, stuck_inner}
use Rattle.sv_parse_machine.specs.Symbols.{OuterReaction, takes, begins, over, stuck}
use Rattle.sv_parse_machine.specs.ExpressionTable.{inner_on, expression_on}
use Rattle.sv_parse_machine.specs.StatementTable.{punctuation_on, name_on, number_on, less_equal_on}
use Rattle.sv_parse_machine.specs.StatementTable.{more_names_on, more_values_on, statement_on}
use Rattle.sv_parse_machine.specs.StatementTable.{statements_on, perhaps_block_name_on, perhaps_else_on}
use Rattle.sv_parse_machine.specs.StatementTable.{perhaps_bits_on, bits_end_on, more_targets_on}
use Rattle.sv_parse_machine.specs.StatementTable.{assigns_on, arms_on, more_choices_on, perhaps_colon_on}
use Rattle.sv_parse_machine.specs.ModuleTable.{perhaps_lattice_on, lattice_lines_on, perhaps_maps_on}
use Rattle.sv_parse_machine.specs.ModuleTable.{map_name_on, perhaps_key_range_on, rows_on}
use Rattle.sv_parse_machine.specs.ModuleTable.{perhaps_second_key_on, end_of_map_on, one_module_on}
use Rattle.sv_parse_machine.specs.ModuleTable.{perhaps_header_parameters_on, header_parameter_on}
use Rattle.sv_parse_machine.specs.ModuleTable.{later_header_parameter_on, more_header_parameters_on}
use Rattle.sv_parse_machine.specs.ModuleTable.{parameter_type_on, perhaps_ports_on, ports_on}
use Rattle.sv_parse_machine.specs.ModuleTable.{later_port_on, more_ports_on, perhaps_wire_on}
use Rattle.sv_parse_machine.specs.ModuleTable.{perhaps_wire_or_reg_on, perhaps_signed_on}
use Rattle.sv_parse_machine.specs.ModuleTable.{perhaps_range_on, perhaps_label_on, label_end_on}
use Rattle.sv_parse_machine.specs.ModuleTable.{perhaps_second_name_on, items_on, more_parameters_on}
use Rattle.sv_parse_machine.specs.ModuleTable.{perhaps_value_on, more_wires_on, reg_label_on}
use Rattle.sv_parse_machine.specs.ModuleTable.{reg_label_end_on, reg_name_on, behind_reg_name_on}
use Rattle.sv_parse_machine.specs.ModuleTable.{label_selector_on, memory_name_on, assigned_on}
use Rattle.sv_parse_machine.specs.ModuleTable.{value_or_release_on, later_assigned_on, more_assigned_on}
use Rattle.sv_parse_machine.specs.ModuleTable.{event_on, event_inside_on, perhaps_overrides_on}
use Rattle.sv_parse_machine.specs.ModuleTable.{overrides_on, more_named_overrides_on, links_on, link_on}
use Rattle.sv_parse_machine.specs.ModuleTable.{more_named_links_on, more_instances_on}

-- ---- the table

abbrev pub outer_on : Outer → Lexeme → OuterReaction
outer_on (punctuation s) x = punctuation_on s x
outer_on plain_name x = name_on x
outer_on plain_number x = number_on x
outer_on (expression n) x = expression_on n 0 [] x
outer_on (more_names s) x = more_names_on s x
outer_on more_values x = more_values_on x
outer_on perhaps_lattice x = perhaps_lattice_on x
outer_on lattice_lines x = lattice_lines_on x
outer_on less_equal x = less_equal_on x
outer_on perhaps_maps x = perhaps_maps_on x
outer_on map_name x = map_name_on x
outer_on perhaps_key_range x = perhaps_key_range_on x
outer_on rows x = rows_on x
outer_on perhaps_second_key x = perhaps_second_key_on x
outer_on end_of_map x = end_of_map_on x
outer_on one_module x = one_module_on x
outer_on perhaps_header_parameters x = perhaps_header_parameters_on x
outer_on header_parameter x = header_parameter_on x
outer_on later_header_parameter x = later_header_parameter_on x
outer_on more_header_parameters x = more_header_parameters_on x
outer_on parameter_type x = parameter_type_on x
outer_on perhaps_ports x = perhaps_ports_on x
outer_on ports x = ports_on x
outer_on later_port x = later_port_on x
outer_on more_ports x = more_ports_on x
outer_on perhaps_wire x = perhaps_wire_on x
outer_on perhaps_wire_or_reg x = perhaps_wire_or_reg_on x
outer_on perhaps_signed x = perhaps_signed_on x
outer_on perhaps_range x = perhaps_range_on x
outer_on perhaps_label x = perhaps_label_on x
outer_on label_end x = label_end_on x
outer_on perhaps_second_name x = perhaps_second_name_on x
outer_on items x = items_on x
outer_on more_parameters x = more_parameters_on x
outer_on perhaps_value x = perhaps_value_on x
outer_on more_wires x = more_wires_on x
outer_on reg_label x = reg_label_on x
outer_on reg_label_end x = reg_label_end_on x
outer_on reg_name x = reg_name_on x
outer_on behind_reg_name x = behind_reg_name_on x
outer_on label_selector x = label_selector_on x
outer_on memory_name x = memory_name_on x
outer_on assigned x = assigned_on x
outer_on value_or_release x = value_or_release_on x
outer_on later_assigned x = later_assigned_on x
outer_on more_assigned x = more_assigned_on x
outer_on event x = event_on x
outer_on event_inside x = event_inside_on x
outer_on perhaps_overrides x = perhaps_overrides_on x
outer_on overrides x = overrides_on x
outer_on more_named_overrides x = more_named_overrides_on x
outer_on links x = links_on x
outer_on link x = link_on x
outer_on more_named_links x = more_named_links_on x
outer_on more_instances x = more_instances_on x
outer_on (statement n) x = statement_on n x
outer_on (statements n) x = statements_on n x
outer_on perhaps_block_name x = perhaps_block_name_on x
outer_on (perhaps_else n) x = perhaps_else_on n x
outer_on (perhaps_bits n) x = perhaps_bits_on n x
outer_on (bits_end n) x = bits_end_on n x
outer_on (more_targets n) x = more_targets_on n x
outer_on assigns x = assigns_on x
outer_on (arms n before default) x = arms_on n before default x
outer_on (more_choices n) x = more_choices_on n x
outer_on perhaps_colon x = perhaps_colon_on x

-- ---- a step

pub data Failure : Type 0 where
  -- no text goes on with the token
  stuck_at : Expected → Failure
  -- the token begins a level too many
  too_deep : Failure
  -- it is one too many of an expression, or begins an arm too many of a case
  too_long : Failure
  -- the text ends too early
  ends_early : Failure

pub data MachineStep : Type 0 where
  goes : State → MachineStep
  fails_as : Failure → MachineStep

-- on where the numbers of open levels, of arms and of tokens are within the limits
abbrev pub within_limits : (deep long : Bool) → State → MachineStep
within_limits true true s = goes s
within_limits true false s = fails_as too_long
within_limits false long s = fails_as too_deep

abbrev pub inside_on : ℕ → List Inner → List Symbol
inside_on start xs = map (inner start) xs

abbrev pub outside_on : List Outer → List Symbol
outside_on ys = map outer ys

-- how many tokens an expression has that began with so many left, where so many are left behind the
-- token
abbrev pub tokens_of : Limits → (start after : ℕ) → ℕ
tokens_of l start after = start - max after l.unread

abbrev pub after_inner : Limits → (after start : ℕ) → (below : State) → (skip : MachineStep) →
    InnerReaction → MachineStep
after_inner l after start below skip (takes_inner level xs) =
    within_limits (is_within l.levels level) (is_within l.tokens (tokens_of l start after))
    (inside_on start xs ++ below)
after_inner l after start below skip over_inner = skip
after_inner l after start below skip (stuck_inner e) = fails_as (stuck_at e)

abbrev pub after_outer : Limits → (after : ℕ) → (below : State) → (skip : MachineStep) →
    OuterReaction → MachineStep
after_outer l after below skip (takes level arm ys) =
    within_limits (is_within l.levels level) (is_within l.arms arm) (outside_on ys ++ below)
after_outer l after below skip (begins level arm xs ys) =
    within_limits (is_within l.levels level) (is_within l.arms arm
    && is_within l.tokens (tokens_of l (after + 1) after))
    (inside_on (after + 1) xs ++ (outside_on ys ++ below))
after_outer l after below skip over = skip
after_outer l after below skip (stuck e) = fails_as (stuck_at e)

-- what the lexeme does, where so many tokens are left behind it
abbrev pub step : Limits → (after : ℕ) → State → Lexeme → MachineStep
step l after [] x = after_outer l after [] (goes []) (one_module_on x)
step l after (inner start s ∷ below) x =
    after_inner l after start below (step l after below x) (inner_on s x)
step l after (outer s ∷ below) x = after_outer l after below (step l after below x) (outer_on s x)

-- ---- a run

pub data MachineEnd : Type 0 where
  done : MachineEnd
  -- with the tokens from the one on that breaks a rule; none at the end
  fails : Failure → List Placed → MachineEnd

-- what may have no token
abbrev pub may_be_empty : Symbol → Bool
may_be_empty (inner start (tail n)) = true
may_be_empty (inner start (selection n)) = true
may_be_empty (outer perhaps_lattice) = true
may_be_empty (outer perhaps_maps) = true
may_be_empty (outer perhaps_key_range) = true
may_be_empty (outer perhaps_second_key) = true
may_be_empty (outer perhaps_header_parameters) = true
may_be_empty (outer parameter_type) = true
may_be_empty (outer perhaps_ports) = true
may_be_empty (outer perhaps_wire) = true
may_be_empty (outer perhaps_wire_or_reg) = true
may_be_empty (outer perhaps_signed) = true
may_be_empty (outer perhaps_range) = true
may_be_empty (outer perhaps_label) = true
may_be_empty (outer perhaps_second_name) = true
may_be_empty (outer perhaps_value) = true
may_be_empty (outer perhaps_overrides) = true
may_be_empty (outer perhaps_block_name) = true
may_be_empty (outer (perhaps_else n)) = true
may_be_empty (outer (perhaps_bits n)) = true
may_be_empty (outer perhaps_colon) = true
may_be_empty s = false

abbrev pub ended : Bool → MachineEnd → MachineEnd
ended true below = below
ended false below = fails ends_early []

abbrev pub at_end : State → MachineEnd
at_end [] = done
at_end (s ∷ below) = ended (may_be_empty s) (at_end below)

-- on with what the step gives
abbrev pub go_on : (State → MachineEnd) → List Placed → MachineStep → MachineEnd
go_on next ts (goes s) = next s
go_on next ts (fails_as f) = fails f ts

abbrev pub run : Limits → State → List Placed → MachineEnd
run l s [] = at_end s
run l s (t ∷ ts) = go_on (λ next. run l next ts) (t ∷ ts) (step l (length ts) s t.lexeme)

-- a text: a lattice or none, label maps, and at least one module
abbrev pub text_state : State
text_state = outer perhaps_lattice ∷ outer perhaps_maps ∷ outer one_module ∷ []
