-- Which trees the grammar gives (this project's profile).
use Rattle.std.specs.Prelude.{ℕ, ◌+◌, Bool, true, false, not, ◌&&◌, ◌||◌, nat_le, List, [], ◌∷◌}
use Rattle.std.specs.Prelude.{is_none}
use Rattle.std.specs.List.{list_all}
use Rattle.std.specs.Option.{option_map_or}
use Rattle.sv_ast.specs.declared.declarations.DeclKind.{DeclKind}
use Rattle.sv_ast.specs.declared.declarations.DeclKind.TheVariants as kind
use Rattle.sv_ast.specs.Tree.{ExpressionTree, literal, named, bit_of, part_of, unary, binary}
use Rattle.sv_ast.specs.Tree.{choice, join, replication}
use Rattle.sv_ast.specs.Tree.{ExpressionTrees, no_expressions, more_expressions}
use Rattle.sv_ast.specs.Tree.{Selection, whole, bit_at, part_from, TargetTree}
use Rattle.sv_ast.specs.Tree.{StatementTree, null, assignment, block, if_only, if_else, case_of}
use Rattle.sv_ast.specs.Tree.{StatementTrees, no_statements, more_statements, ArmTrees, no_arms}
use Rattle.sv_ast.specs.Tree.{more_arms}
use Rattle.sv_ast.specs.Tree.{SpanTree, DeclarationTree, ParameterTree, MemoryTree}
use Rattle.sv_ast.specs.Tree.{NamedOverride, OverrideTrees, named_overrides, ordered_overrides}
use Rattle.sv_ast.specs.Tree.{NamedLink, LinkTrees, named_links, ordered_links, InstanceTree}
use Rattle.sv_ast.specs.Tree.{ItemTree, parameter_item, declared, memory_item, continuous, released}
use Rattle.sv_ast.specs.Tree.{always_item, invariant_item, instance_item}
use Rattle.sv_ast.specs.Tree.{ModuleTree, MapTree, TextTree}

-- Expressions (IEEE 1364-2005, clause 5)

abbrev pub has_part : ExpressionTrees → Bool
has_part no_expressions = false
has_part (more_expressions e es) = true

abbrev mutual
  -- every join and replication in it has at least one part
  pub is_shaped_expression : ExpressionTree → Bool
  is_shaped_expression (literal number place) = true
  is_shaped_expression (named name place) = true
  is_shaped_expression (bit_of name place index) = is_shaped_expression index
  is_shaped_expression (part_of name place high low) =
      is_shaped_expression high && is_shaped_expression low
  is_shaped_expression (unary op place operand) = is_shaped_expression operand
  is_shaped_expression (binary op place left right) =
      is_shaped_expression left && is_shaped_expression right
  is_shaped_expression (choice place condition first second) =
      is_shaped_expression condition && is_shaped_expression first && is_shaped_expression second
  is_shaped_expression (join place es) = has_part es && are_shaped_parts es
  is_shaped_expression (replication place count es) =
      is_shaped_expression count && has_part es && are_shaped_parts es

  pub are_shaped_parts : ExpressionTrees → Bool
  are_shaped_parts no_expressions = true
  are_shaped_parts (more_expressions e es) = is_shaped_expression e && are_shaped_parts es

-- Statements (IEEE 1364-2005, clause 9)

-- an assignment changes all bits of the target
abbrev pub is_whole : Selection → Bool
is_whole whole = true
is_whole (bit_at index) = false
is_whole (part_from high low) = false

abbrev pub is_shaped_selection : Selection → Bool
is_shaped_selection whole = true
is_shaped_selection (bit_at index) = is_shaped_expression index
is_shaped_selection (part_from high low) = is_shaped_expression high && is_shaped_expression low

abbrev pub has_target : List TargetTree → Bool
has_target [] = false
has_target (t ∷ targets) = true

abbrev pub is_shaped_target : TargetTree → Bool
is_shaped_target t = is_shaped_selection t.selection

abbrev pub are_shaped_targets : List TargetTree → Bool
are_shaped_targets targets = has_target targets && list_all is_shaped_target targets

abbrev pub has_arm : ArmTrees → Bool
has_arm no_arms = false
has_arm (more_arms place items body arms) = true

-- how many arms have no items
abbrev pub default_count : ArmTrees → ℕ
default_count no_arms = 0
default_count (more_arms place [] body arms) = default_count arms + 1
default_count (more_arms place (e ∷ items) body arms) = default_count arms

abbrev mutual
  -- every assignment has at least one target, every case at least one arm and at most one default
  pub is_shaped_statement : StatementTree → Bool
  is_shaped_statement null = true
  is_shaped_statement (assignment targets place blocking value) =
      are_shaped_targets targets && is_shaped_expression value
  is_shaped_statement (block ss) = are_shaped_statements ss
  is_shaped_statement (if_only place condition s) =
      is_shaped_expression condition && is_shaped_statement s
  is_shaped_statement (if_else place condition first second) =
      is_shaped_expression condition && is_shaped_statement first && is_shaped_statement second
  is_shaped_statement (case_of place selector arms) =
      is_shaped_expression selector && has_arm arms && nat_le (default_count arms) 1
      && are_shaped_arms arms

  pub are_shaped_statements : StatementTrees → Bool
  are_shaped_statements no_statements = true
  are_shaped_statements (more_statements s ss) = is_shaped_statement s && are_shaped_statements ss

  pub are_shaped_arms : ArmTrees → Bool
  are_shaped_arms no_arms = true
  are_shaped_arms (more_arms place items body arms) =
      list_all is_shaped_expression items && is_shaped_statement body && are_shaped_arms arms

-- Declarations (IEEE 1364-2005, clauses 4 and 12)

abbrev pub is_shaped_span : SpanTree → Bool
is_shaped_span s = is_shaped_expression s.high && is_shaped_expression s.low

abbrev pub is_port_kind : DeclKind → Bool
is_port_kind kind.Wire = false
is_port_kind kind.Reg = false
is_port_kind _ = true

abbrev pub is_wire : DeclKind → Bool
is_wire kind.Wire = true
is_wire _ = false

-- a port has no value
abbrev pub is_port : DeclarationTree → Bool
is_port d = is_port_kind d.kind && is_none d.value

-- what an item declares is a wire or a register, and only a wire may have a value
abbrev pub is_inner : DeclarationTree → Bool
is_inner d = not (is_port_kind d.kind) && (is_wire d.kind || is_none d.value)

abbrev pub is_shaped_declaration : DeclarationTree → Bool
is_shaped_declaration d =
    option_map_or is_shaped_span d.span true && option_map_or is_shaped_expression d.value true

abbrev pub is_shaped_parameter : ParameterTree → Bool
is_shaped_parameter p = option_map_or is_shaped_span p.span true && is_shaped_expression p.value

abbrev pub is_shaped_memory : MemoryTree → Bool
is_shaped_memory m = option_map_or is_shaped_span m.span true

-- Modules (IEEE 1364-2005, clause 12)

abbrev pub is_shaped_override : NamedOverride → Bool
is_shaped_override o = is_shaped_expression o.value

abbrev pub are_shaped_overrides : OverrideTrees → Bool
are_shaped_overrides (named_overrides os) = list_all is_shaped_override os
are_shaped_overrides (ordered_overrides es) = list_all is_shaped_expression es

abbrev pub is_shaped_link : NamedLink → Bool
is_shaped_link l = option_map_or is_shaped_expression l.value true

abbrev pub are_shaped_links : LinkTrees → Bool
are_shaped_links (named_links ls) = list_all is_shaped_link ls
are_shaped_links (ordered_links es) = list_all is_shaped_expression es

abbrev pub is_shaped_instance : InstanceTree → Bool
is_shaped_instance i = are_shaped_overrides i.overrides && are_shaped_links i.links

abbrev pub is_whole_target : TargetTree → Bool
is_whole_target t = is_whole t.selection

-- an `assign` has at least one target, and whole ones
abbrev pub are_whole_targets : List TargetTree → Bool
are_whole_targets targets = has_target targets && list_all is_whole_target targets

abbrev pub is_shaped_item : ItemTree → Bool
is_shaped_item (parameter_item p) = is_shaped_parameter p
is_shaped_item (declared d) = is_inner d && is_shaped_declaration d
is_shaped_item (memory_item m) = is_shaped_memory m
is_shaped_item (continuous targets place value) =
    are_whole_targets targets && is_shaped_expression value
is_shaped_item (released target value to) = is_shaped_expression value
is_shaped_item (always_item place clock s) = is_shaped_statement s
is_shaped_item (invariant_item place e) = is_shaped_expression e
is_shaped_item (instance_item i) = is_shaped_instance i

-- a header has no `localparam`
abbrev pub are_header_parameters : List ParameterTree → Bool
are_header_parameters ps = list_all (λ p. not p.local) ps

abbrev pub are_ports : List DeclarationTree → Bool
are_ports ds = list_all is_port ds

abbrev pub is_shaped_module : ModuleTree → Bool
is_shaped_module m =
    are_header_parameters m.parameters && list_all is_shaped_parameter m.parameters
    && are_ports m.ports && list_all is_shaped_declaration m.ports
    && list_all is_shaped_item m.items

-- Texts

abbrev pub is_number : ExpressionTree → Bool
is_number (literal number place) = true
is_number _ = false

-- a label map's range has plain numbers
abbrev pub is_plain_span : SpanTree → Bool
is_plain_span s = is_number s.high && is_number s.low

abbrev pub is_shaped_map : MapTree → Bool
is_shaped_map m = is_plain_span m.span && option_map_or is_plain_span m.second true

abbrev pub is_shaped : TextTree → Bool
is_shaped t = list_all is_shaped_map t.maps && list_all is_shaped_module t.modules
