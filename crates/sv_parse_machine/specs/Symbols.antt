-- Private: how the code goes. What may still have to come at a place of a text, and what the next
-- token does to it.
use Rattle.std.specs.Prelude.{ℕ, Bool, true, false, List, ◌++◌}
use Rattle.sv_token.specs.declared.signs.SignKind.{SignKind}

-- ---- symbols

-- within an expression that stands in no other one; the number counts the levels that are open
-- around
pub data Inner : Type 0 where
  -- an operand without the operators behind it
  operand : ℕ → Inner
  -- binary operators with their operands, and then a choice, or nothing
  tail : ℕ → Inner
  -- a bit or a part of the name before, or nothing
  selection : ℕ → Inner
  -- behind the first expression in the brackets of a bit or a part: `]`, or `:` and the second one
  selection_end : ℕ → Inner
  -- behind the first member in braces: more members, or those of a replication
  members_or_count : ℕ → Inner
  -- more members and the `}`
  members : ℕ → Inner
  inner_colon : Inner
  inner_parenthesis : Inner
  inner_bracket : Inner
  inner_brace : Inner

-- outside expressions
pub data Outer : Type 0 where
  punctuation : SignKind → Outer
  plain_name : Outer
  plain_number : Outer
  -- an expression that stands in no other one
  expression : ℕ → Outer
  -- further names and the sign behind the last
  more_names : SignKind → Outer
  -- further expressions and `)`
  more_values : Outer
  -- lattices and label maps
  perhaps_lattice : Outer
  lattice_lines : Outer
  less_equal : Outer
  perhaps_maps : Outer
  map_name : Outer
  perhaps_key_range : Outer
  rows : Outer
  perhaps_second_key : Outer
  end_of_map : Outer
  -- modules
  one_module : Outer
  perhaps_header_parameters : Outer
  header_parameter : Outer
  later_header_parameter : Outer
  more_header_parameters : Outer
  parameter_type : Outer
  perhaps_ports : Outer
  ports : Outer
  later_port : Outer
  more_ports : Outer
  perhaps_wire : Outer
  perhaps_wire_or_reg : Outer
  perhaps_signed : Outer
  perhaps_range : Outer
  perhaps_label : Outer
  label_end : Outer
  perhaps_second_name : Outer
  -- items, up to `endmodule`
  items : Outer
  more_parameters : Outer
  perhaps_value : Outer
  more_wires : Outer
  -- a `reg` may be a memory
  reg_label : Outer
  reg_label_end : Outer
  reg_name : Outer
  behind_reg_name : Outer
  label_selector : Outer
  memory_name : Outer
  assigned : Outer
  value_or_release : Outer
  later_assigned : Outer
  more_assigned : Outer
  event : Outer
  event_inside : Outer
  perhaps_overrides : Outer
  overrides : Outer
  more_named_overrides : Outer
  links : Outer
  link : Outer
  more_named_links : Outer
  more_instances : Outer
  -- statements, so many levels being open around
  statement : ℕ → Outer
  statements : ℕ → Outer
  perhaps_block_name : Outer
  perhaps_else : ℕ → Outer
  perhaps_bits : ℕ → Outer
  bits_end : ℕ → Outer
  more_targets : ℕ → Outer
  assigns : Outer
  -- the arms of a case behind so many others, a default among them or not, up to `endcase`
  arms : ℕ → (before : ℕ) → (default : Bool) → Outer
  more_choices : ℕ → Outer
  perhaps_colon : Outer

-- of an expression, whose first token was the first of so many that were left; or of what is around
-- expressions
pub data Symbol : Type 0 where
  inner : (start : ℕ) → Inner → Symbol
  outer : Outer → Symbol

-- what is still to come, the next first, and then any number of modules
abbrev pub State : Type 0
State = List Symbol

-- ---- what a token does

-- what may begin where no text goes on with the token
pub data Expected : Type 0 where
  something : Expected
  an_item : Expected
  a_statement : Expected
  an_edge : Expected
  a_port : Expected
  -- an operand is complete with a name
  behind_name : Expected

-- to a symbol of an expression: it takes it, opens this level (0 for none), and is followed by
-- these; or it is over before it; or no text goes on with it
pub data InnerReaction : Type 0 where
  takes_inner : (level : ℕ) → List Inner → InnerReaction
  over_inner : InnerReaction
  stuck_inner : Expected → InnerReaction

-- to a symbol outside: likewise, where it begins the arm of this number (0 for none), and may begin
-- an expression
pub data OuterReaction : Type 0 where
  takes : (level arm : ℕ) → List Outer → OuterReaction
  begins : (level arm : ℕ) → List Inner → List Outer → OuterReaction
  over : OuterReaction
  stuck : Expected → OuterReaction

abbrev pub takes_all : List Outer → OuterReaction
takes_all ys = takes 0 0 ys

abbrev pub unexpected : OuterReaction
unexpected = stuck something

-- with further symbols behind
abbrev pub and_then : List Outer → OuterReaction → OuterReaction
and_then zs (takes level arm ys) = takes level arm (ys ++ zs)
and_then zs (begins level arm xs ys) = begins level arm xs (ys ++ zs)
and_then zs over = over
and_then zs (stuck e) = stuck e

-- a name, if it is no refused word
abbrev pub unless_refused : Bool → OuterReaction → OuterReaction
unless_refused true r = unexpected
unless_refused false r = r
