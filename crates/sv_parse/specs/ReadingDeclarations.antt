-- Private: how the code goes. What still has to come, symbol by symbol, behind parts of
-- declarations, instances and label maps.
use Rattle.std.specs.Prelude.{List, [], ◌∷◌, ◌++◌}
use Rattle.sv_token.specs.declared.signs.SignKind.TheVariants as signs
use Rattle.sv_parse_machine.specs.Symbols.{Outer, punctuation, plain_name, perhaps_signed, perhaps_range}
use Rattle.sv_parse_machine.specs.Symbols.{perhaps_label, perhaps_second_name, parameter_type, more_names}
use Rattle.sv_parse_machine.specs.Symbols.{behind_reg_name, expression, link}
use Rattle.sv_parse_machine.specs.ModuleTable.{value, number_range, behind_selector}
use Rattle.sv_parse.specs.declared.registers.RegLabel.{RegLabel}
use Rattle.sv_parse.specs.declared.registers.RegLabel.TheVariants as reg_label

-- the selectors of a label and the signs behind them
abbrev pub table_end : List Outer
table_end = plain_name ∷ perhaps_second_name ∷ behind_selector []

-- signedness, range and label of a declaration
abbrev pub name_type : List Outer
name_type = perhaps_signed ∷ perhaps_range ∷ perhaps_label ∷ []

-- the name and the value of a parameter
abbrev pub named_value : List Outer
named_value = plain_name ∷ value []

abbrev pub typed_value : List Outer
typed_value = parameter_type ∷ named_value

-- the bounds of a memory
abbrev pub memory_bounds : List Outer
memory_bounds = punctuation signs.OpenBracket ∷ number_range

-- the bounds and the end of the item
abbrev pub memory_end : List Outer
memory_end = memory_bounds ++ punctuation signs.Semicolon ∷ []

-- behind the name of a register or a memory, up to the end of the item
abbrev pub behind_name : RegLabel → List Outer
behind_name (reg_label.Table l) = more_names signs.Semicolon ∷ []
behind_name (reg_label.ByIndex x p) = memory_end
behind_name l = behind_reg_name ∷ []

-- a name behind a dot, and the `(` behind it
abbrev pub dotted : List Outer → List Outer
dotted ys = punctuation signs.Dot ∷ plain_name ∷ punctuation signs.OpenParenthesis ∷ ys

-- a parameter that is set by name
abbrev pub dotted_value : List Outer
dotted_value = dotted (expression 0 ∷ punctuation signs.CloseParenthesis ∷ [])

-- a port that is linked by name
abbrev pub dotted_link : List Outer
dotted_link = dotted (link ∷ [])

-- the point behind the keys of a row
abbrev pub to_point : List Outer
to_point = punctuation signs.Colon ∷ plain_name ∷ punctuation signs.Semicolon ∷ []
