-- From steps to forms: lattices, label maps and headers.
use Rattle.std.proofs.Common.{◌≡◌, zero, suc, List, [], ◌∷◌, inl, inr, refl, subst, ◌∙◌}
use Rattle.sv_token.specs.declared.keywords.WordKind.TheVariants as words
use Rattle.sv_token.specs.declared.signs.SignKind.TheVariants as signs
use Rattle.sv_token.specs.Lexemes.{word, identifier, numeral, sign, Placed}
use Rattle.sv_token.specs.Words.{is_refused_word}
use Rattle.sv_ast.specs.GrammarExpressions.{Limits}
use Rattle.sv_parse_machine.specs.Symbols.{punctuation, plain_name, plain_number, expression}
use Rattle.sv_parse_machine.specs.Symbols.{lattice_lines, less_equal}
use Rattle.sv_parse_machine.specs.StatementTable.{more_values_on}
use Rattle.sv_parse_machine.specs.ModuleTable.{lattice_lines_on, map_name_on, end_of_map_on}
use Rattle.sv_parse_machine.specs.ModuleTable.{rows_on, perhaps_maps_on, parameter_type_on}
use Rattle.sv_parse_machine.specs.ModuleTable.{header_parameter_on, later_header_parameter_on}
use Rattle.sv_parse_machine.specs.ModuleTable.{more_header_parameters_on, perhaps_wire_or_reg_on}
use Rattle.sv_parse_machine.specs.ModuleTable.{label_end_on, later_port_on, more_ports_on, ports_on}
use Rattle.sv_parse_machine.proofs.InnerSteps.{placed, no_token}
use Rattle.sv_parse_machine.proofs.InnerForms.{last_token}
use Rattle.sv_parse_machine.proofs.OuterForms.{more_values_form, lattice_lines_form, map_name_form}
use Rattle.sv_parse_machine.proofs.OuterForms.{end_of_map_form, rows_form, perhaps_maps_form}
use Rattle.sv_parse_machine.proofs.OuterForms.{parameter_type_form, header_parameter_form}
use Rattle.sv_parse_machine.proofs.OuterForms.{later_header_parameter_form}
use Rattle.sv_parse_machine.proofs.OuterForms.{more_header_parameters_form}
use Rattle.sv_parse_machine.proofs.OuterForms.{perhaps_wire_or_reg_form, label_end_form}
use Rattle.sv_parse_machine.proofs.OuterForms.{later_port_form, more_ports_form, ports_form}
use Rattle.sv_parse_machine.proofs.OuterTokens.{FormsBy, NeedsToken, taken_as_name}
use Rattle.sv_parse_machine.proofs.OuterForms.{more_values_row, more_values_end, lattice_lines_row}
use Rattle.sv_parse_machine.proofs.OuterForms.{lattice_lines_end, rows_row, rows_end}
use Rattle.sv_parse_machine.proofs.OuterForms.{perhaps_maps_row, perhaps_maps_end}
use Rattle.sv_parse_machine.proofs.OuterForms.{more_header_parameters_row}
use Rattle.sv_parse_machine.proofs.OuterForms.{more_header_parameters_end, more_ports_row}
use Rattle.sv_parse_machine.proofs.OuterForms.{more_ports_end}
use Rattle.sv_parse_machine.proofs.OuterTokens.{loop_closes, loop_goes_on}

pub b_more_values : FormsBy more_values_on more_values_form
b_more_values l (sign signs.CloseParenthesis) p ts rest is =
    loop_closes (more_values_row l) (sign signs.CloseParenthesis) p ts rest is.2
b_more_values l (sign signs.Comma) p ts rest (opens, arm, (m1, a0, again)) =
    loop_goes_on (more_values_row l) (more_values_end l) (placed (sign signs.Comma) p ∷ ts) m1
    rest (ts, (p, refl), a0) again
b_more_values l x p ts rest is = absurd is

pub none_more_values : NeedsToken more_values_form
none_more_values l rest (zero, (m, none, (p, e))) = no_token (none ∙ e)
none_more_values l rest (suc k, (m, (m1, (m0, (p, e), behind), others), final)) = no_token e

pub b_lattice_lines : FormsBy lattice_lines_on lattice_lines_form
b_lattice_lines l (word words.Endlattice) p ts rest is =
    loop_closes (lattice_lines_row l) (word words.Endlattice) p ts rest is.2
b_lattice_lines l (word words.Point) p ts rest (opens, arm, (q0, a0, (m1, a1, again))) =
    loop_goes_on (lattice_lines_row l) (lattice_lines_end l) (placed (word words.Point) p ∷ ts) m1
    rest (inl (ts, (p, refl), (q0, a0, a1))) again
b_lattice_lines l (identifier x) p ts rest is =
    let name = taken_as_name l
    (less_equal ∷ plain_name ∷ punctuation signs.Semicolon ∷ lattice_lines ∷ [])
    (placed (identifier x) p) ts rest (is_refused_word x) is in
    let (q0, a0, (q1, a1, (m1, a2, again))) = name.1 in
    loop_goes_on (lattice_lines_row l) (lattice_lines_end l) (placed (identifier x) p ∷ ts) m1
    rest (inr (ts, (x, (p, (name.0, refl))), (q0, a0, (q1, a1, a2)))) again
b_lattice_lines l x p ts rest is = absurd is

pub none_lattice_lines : NeedsToken lattice_lines_form
none_lattice_lines l rest (zero, (m, none, (p, e))) = no_token (none ∙ e)
none_lattice_lines l rest (suc k, (m, (m1, inl (m0, (p, e), behind), others), final)) = no_token e
none_lattice_lines l rest (suc k, (m, (m1, inr (m0, (x, (p, (free, e))), behind), others), final)) =
    no_token e

pub b_map_name : FormsBy map_name_on map_name_form
b_map_name l (identifier x) p ts rest is =
    let name = taken_as_name l
    (punctuation signs.OpenBracket ∷ plain_number ∷ punctuation signs.Colon ∷ plain_number ∷
    punctuation signs.CloseBracket ∷ []) (placed (identifier x) p) ts rest (is_refused_word x)
    is in (ts, (x, (p, (name.0, refl))), name.1)
b_map_name l x p ts rest is = absurd is

pub none_map_name : NeedsToken map_name_form
none_map_name l rest (m, (x, (p, (free, e))), behind) = no_token e

pub b_end_of_map : FormsBy end_of_map_on end_of_map_form
b_end_of_map l (word words.Endlabelmap) p ts rest is = (ts, (p, refl), is.2)
b_end_of_map l x p ts rest is = absurd is

pub b_rows : FormsBy rows_on rows_form
b_rows l (word words.Default) p ts rest (opens, arm, (q0, a0, (q1, a1, (q2, a2, (m1, a3, same))))) =
    subst (rows_form l (placed (word words.Default) p ∷ ts)) same (
      zero,
      (
        placed (word words.Default) p ∷ ts,
        refl,
        inl
            (ts, (p, refl), (q0, a0, (q1, a1, (q2, a2, a3)))),
      ),
    )
b_rows l (word words.Endlabelmap) p ts rest is = (
  zero,
  (
    placed (word words.Endlabelmap) p ∷ ts,
    refl,
    inr
        (p, last_token (word words.Endlabelmap) p ts rest is.2),
  ),
)
b_rows l (numeral v) p ts rest (opens, arm, (q0, a0, (q1, a1, (q2, a2, (m1, a3, again))))) =
    loop_goes_on (rows_row l) (rows_end l) (placed (numeral v) p ∷ ts) m1 rest
    (ts, (v, (p, refl)), (q0, a0, (q1, a1, (q2, a2, a3)))) again
b_rows l x p ts rest is = absurd is

pub none_rows : NeedsToken rows_form
none_rows l rest (zero, (m, none, inl (m0, (p, e), behind))) = no_token (none ∙ e)
none_rows l rest (zero, (m, none, inr (p, e))) = no_token (none ∙ e)
none_rows l rest (suc k, (m, (m1, (m0, (v, (p, e)), behind), others), final)) = no_token e

pub b_perhaps_maps : FormsBy perhaps_maps_on perhaps_maps_form
b_perhaps_maps l (word words.Labelmap) p ts rest (opens, arm, (q0, a0, (q1, a1, (m1, a2, again)))) =
    loop_goes_on (perhaps_maps_row l) (perhaps_maps_end l) (placed (word words.Labelmap) p ∷ ts)
    m1 rest (ts, (p, refl), (q0, a0, (q1, a1, a2))) again
b_perhaps_maps l x p ts rest is = (zero, (placed x p ∷ ts, refl, (tt, is)))

pub none_perhaps_maps : (l : Limits) (rest : List Placed) → perhaps_maps_form l [] rest → [] ≡ rest
none_perhaps_maps l rest (zero, (m, none, (over, same))) = none ∙ same
none_perhaps_maps l rest (suc k, (m, (m1, (m0, (p, e), behind), others), final)) =
    absurd (no_token e)

pub b_parameter_type : FormsBy parameter_type_on parameter_type_form
b_parameter_type l (word words.Signed) p ts rest is = inr (inl (ts, (p, refl), is.2))
b_parameter_type l (sign signs.OpenBracket) p ts rest is = inr (inr (ts, (p, refl), is.2))
b_parameter_type l x p ts rest is = inl (tt, is)

pub none_parameter_type : (l : Limits) (rest : List Placed) → parameter_type_form l [] rest →
    [] ≡ rest
none_parameter_type l rest (inl (over, same)) = same
none_parameter_type l rest (inr (inl (m, (p, e), behind))) = absurd (no_token e)
none_parameter_type l rest (inr (inr (m, (p, e), behind))) = absurd (no_token e)

pub b_header_parameter : FormsBy header_parameter_on header_parameter_form
b_header_parameter l (word words.Parameter) p ts rest is = (ts, (p, refl), is.2)
b_header_parameter l x p ts rest is = absurd is

pub b_later_header_parameter : FormsBy later_header_parameter_on later_header_parameter_form
b_later_header_parameter l (word words.Parameter) p ts rest is = inl (ts, (p, refl), is.2)
b_later_header_parameter l (identifier x) p ts rest is =
    let name = taken_as_name l (punctuation signs.Equals ∷ expression 0 ∷ [])
    (placed (identifier x) p) ts rest (is_refused_word x) is in
    inr (ts, (x, (p, (name.0, refl))), name.1)
b_later_header_parameter l x p ts rest is = absurd is

pub none_later_header_parameter : NeedsToken later_header_parameter_form
none_later_header_parameter l rest (inl (m, (p, e), behind)) = no_token e
none_later_header_parameter l rest (inr (m, (x, (p, (free, e))), behind)) = no_token e

pub b_more_header_parameters : FormsBy more_header_parameters_on more_header_parameters_form
b_more_header_parameters l (sign signs.CloseParenthesis) p ts rest is =
    loop_closes (more_header_parameters_row l) (sign signs.CloseParenthesis) p ts rest is.2
b_more_header_parameters l (sign signs.Comma) p ts rest (opens, arm, (m1, a0, again)) =
    loop_goes_on (more_header_parameters_row l) (more_header_parameters_end l)
    (placed (sign signs.Comma) p ∷ ts) m1 rest (ts, (p, refl), a0) again
b_more_header_parameters l x p ts rest is = absurd is

pub none_more_header_parameters : NeedsToken more_header_parameters_form
none_more_header_parameters l rest (zero, (m, none, (p, e))) = no_token (none ∙ e)
none_more_header_parameters l rest (suc k, (m, (m1, (m0, (p, e), behind), others), final)) =
    no_token e

pub b_perhaps_wire_or_reg : FormsBy perhaps_wire_or_reg_on perhaps_wire_or_reg_form
b_perhaps_wire_or_reg l (word words.Wire) p ts rest is = inr (inl (ts, (p, refl), is.2))
b_perhaps_wire_or_reg l (word words.Reg) p ts rest is = inr (inr (ts, (p, refl), is.2))
b_perhaps_wire_or_reg l x p ts rest is = inl (tt, is)

pub none_perhaps_wire_or_reg : (l : Limits) (rest : List Placed) →
    perhaps_wire_or_reg_form l [] rest → [] ≡ rest
none_perhaps_wire_or_reg l rest (inl (over, same)) = same
none_perhaps_wire_or_reg l rest (inr (inl (m, (p, e), behind))) = absurd (no_token e)
none_perhaps_wire_or_reg l rest (inr (inr (m, (p, e), behind))) = absurd (no_token e)

pub b_label_end : FormsBy label_end_on label_end_form
b_label_end l (sign signs.CloseBrace) p ts rest is = inl (ts, (p, refl), is.2)
b_label_end l (sign signs.OpenParenthesis) p ts rest is = inr (ts, (p, refl), is.2)
b_label_end l x p ts rest is = absurd is

pub none_label_end : NeedsToken label_end_form
none_label_end l rest (inl (m, (p, e), behind)) = no_token e
none_label_end l rest (inr (m, (p, e), behind)) = no_token e

pub b_later_port : FormsBy later_port_on later_port_form
b_later_port l (word words.Input) p ts rest is = inl (ts, (p, refl), is.2)
b_later_port l (word words.Output) p ts rest is = inr (inl (ts, (p, refl), is.2))
b_later_port l (identifier x) p ts rest is =
    let name = taken_as_name l [] (placed (identifier x) p) ts rest (is_refused_word x) is in
    inr (inr (ts, (x, (p, (name.0, refl))), name.1))
b_later_port l x p ts rest is = absurd is

pub none_later_port : NeedsToken later_port_form
none_later_port l rest (inl (m, (p, e), behind)) = no_token e
none_later_port l rest (inr (inl (m, (p, e), behind))) = no_token e
none_later_port l rest (inr (inr (m, (x, (p, (free, e))), behind))) = no_token e

pub b_more_ports : FormsBy more_ports_on more_ports_form
b_more_ports l (sign signs.CloseParenthesis) p ts rest is =
    loop_closes (more_ports_row l) (sign signs.CloseParenthesis) p ts rest is.2
b_more_ports l (sign signs.Comma) p ts rest (opens, arm, (m1, a0, again)) =
    loop_goes_on (more_ports_row l) (more_ports_end l) (placed (sign signs.Comma) p ∷ ts) m1 rest
    (ts, (p, refl), a0) again
b_more_ports l x p ts rest is = absurd is

pub none_more_ports : NeedsToken more_ports_form
none_more_ports l rest (zero, (m, none, (p, e))) = no_token (none ∙ e)
none_more_ports l rest (suc k, (m, (m1, (m0, (p, e), behind), others), final)) = no_token e

pub b_ports : FormsBy ports_on ports_form
b_ports l (word words.Input) p ts rest is = inl (ts, (p, refl), is.2)
b_ports l (word words.Output) p ts rest is = inr (inl (ts, (p, refl), is.2))
b_ports l (sign signs.CloseParenthesis) p ts rest is = inr (inr (ts, (p, refl), is.2))
b_ports l x p ts rest is = absurd is

pub none_ports : NeedsToken ports_form
none_ports l rest (inl (m, (p, e), behind)) = no_token e
none_ports l rest (inr (inl (m, (p, e), behind))) = no_token e
none_ports l rest (inr (inr (m, (p, e), behind))) = no_token e
