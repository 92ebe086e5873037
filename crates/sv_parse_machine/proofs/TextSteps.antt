-- From forms to steps: lattices, label maps and headers.
use Rattle.std.proofs.Common.{zero, suc, [], ◌∷◌, inl, inr, refl, sym, subst, ◌∙◌}
use Rattle.sv_token.specs.declared.keywords.WordKind.TheVariants as words
use Rattle.sv_token.specs.declared.signs.SignKind.TheVariants as signs
use Rattle.sv_token.specs.Lexemes.{word, sign}
use Rattle.sv_parse_machine.specs.Symbols.{punctuation, plain_name, expression}
use Rattle.sv_parse_machine.specs.Symbols.{more_values, lattice_lines, less_equal}
use Rattle.sv_parse_machine.specs.Symbols.{later_header_parameter, more_header_parameters}
use Rattle.sv_parse_machine.specs.Symbols.{perhaps_second_name, later_port, more_ports}
use Rattle.sv_parse_machine.specs.StatementTable.{more_values_on}
use Rattle.sv_parse_machine.specs.ModuleTable.{lattice_lines_on, map_name_on, end_of_map_on}
use Rattle.sv_parse_machine.specs.ModuleTable.{rows_on, perhaps_maps_on, parameter_type_on}
use Rattle.sv_parse_machine.specs.ModuleTable.{header_parameter_on, later_header_parameter_on}
use Rattle.sv_parse_machine.specs.ModuleTable.{more_header_parameters_on, perhaps_wire_or_reg_on}
use Rattle.sv_parse_machine.specs.ModuleTable.{label_end_on, later_port_on, more_ports_on, ports_on}
use Rattle.sv_parse_machine.specs.ModuleTable.{number_range, value_range, behind_selector}
use Rattle.sv_parse_machine.proofs.ExpressionForms.{Next}
use Rattle.sv_parse_machine.proofs.InnerSteps.{none_opens, no_arm}
use Rattle.sv_parse_machine.proofs.OuterForms.{IsOver, more_values_form, lattice_lines_form}
use Rattle.sv_parse_machine.proofs.OuterForms.{map_name_form, end_of_map_form, rows_form}
use Rattle.sv_parse_machine.proofs.OuterForms.{perhaps_maps_form, parameter_type_form}
use Rattle.sv_parse_machine.proofs.OuterForms.{header_parameter_form, later_header_parameter_form}
use Rattle.sv_parse_machine.proofs.OuterForms.{more_header_parameters_form}
use Rattle.sv_parse_machine.proofs.OuterForms.{perhaps_wire_or_reg_form, label_end_form}
use Rattle.sv_parse_machine.proofs.OuterForms.{later_port_form, more_ports_form, ports_form}
use Rattle.sv_parse_machine.proofs.OuterTokens.{by_row, f_commas, f_either, f_perhaps_either}
use Rattle.sv_parse_machine.proofs.OuterTokens.{f_named, StepsBy, unrefused, skipped}

pub f_more_values : StepsBy more_values_on more_values_form
f_more_values l t ts rest is =
    f_commas more_values_on (expression 0) more_values signs.CloseParenthesis l t ts rest
    refl refl (λ us is. is) is

pub f_lattice_lines : StepsBy lattice_lines_on lattice_lines_form
f_lattice_lines l t ts rest (zero, (m, none, (p, e))) =
    by_row l t rest lattice_lines_on (none ∙ e) (none_opens l, no_arm l, refl)
f_lattice_lines l t ts rest (suc k, (m, (m1, inl ((m0, (p, e), (q0, a0, a1))), others), final)) =
    by_row l t rest lattice_lines_on e
    (none_opens l, no_arm l, (q0, a0, (m1, a1, (rest, (k, (m, others, final)), refl))))
f_lattice_lines l t ts rest
    (suc k, (m, (m1, inr ((m0, (x, (p, (free, e))), (q0, a0, (q1, a1, a2)))), others), final)) =
    by_row l t rest lattice_lines_on e
    (unrefused l (less_equal ∷ plain_name ∷ punctuation signs.Semicolon ∷ lattice_lines ∷ []) t
    m0 rest x free (q0, a0, (q1, a1, (m1, a2, (rest, (k, (m, others, final)), refl)))))

pub f_map_name : StepsBy map_name_on map_name_form
f_map_name =
    f_named map_name_on (punctuation signs.OpenBracket ∷ number_range) (λ x. refl)

pub f_end_of_map : StepsBy end_of_map_on end_of_map_form
f_end_of_map l t ts rest (m, (p, e), behind) =
    by_row l t rest end_of_map_on e (none_opens l, no_arm l, behind)

pub f_rows : StepsBy rows_on rows_form
f_rows l t ts rest (zero, (m, none, inl ((m0, (p, e), (q0, a0, (q1, a1, (q2, a2, a3))))))) =
    by_row l t rest rows_on (none ∙ e)
    (none_opens l, no_arm l, (q0, a0, (q1, a1, (q2, a2, (rest, a3, refl)))))
f_rows l t ts rest (zero, (m, none, inr (p, e))) =
    by_row l t rest rows_on (none ∙ e) (none_opens l, no_arm l, refl)
f_rows l t ts rest (
  suc
      k,
  (m, (m1, (m0, (v, (p, e)), (q0, a0, (q1, a1, (q2, a2, a3)))), others), final),
) =
    by_row l t rest rows_on e (
      none_opens l,
      no_arm
          l,
      (q0, a0, (q1, a1, (q2, a2, (m1, a3, (rest, (k, (m, others, final)), refl))))),
    )

pub f_perhaps_maps : StepsBy perhaps_maps_on perhaps_maps_form
f_perhaps_maps l t ts rest (zero, (m, none, (over, same))) =
    skipped l t ts rest (perhaps_maps_on t.lexeme)
    (subst (Next (λ x. IsOver (perhaps_maps_on x))) (sym none) over) (none ∙ same)
f_perhaps_maps l t ts rest (suc k, (m, (m1, (m0, (p, e), (q0, a0, (q1, a1, a2))), others), final)) =
    by_row l t rest perhaps_maps_on e (
      none_opens l,
      no_arm
          l,
      (q0, a0, (q1, a1, (m1, a2, (rest, (k, (m, others, final)), refl)))),
    )

pub f_parameter_type : StepsBy parameter_type_on parameter_type_form
f_parameter_type =
    f_perhaps_either parameter_type_on (word words.Signed)
    (punctuation signs.OpenBracket ∷ value_range) (sign signs.OpenBracket) value_range refl refl

pub f_header_parameter : StepsBy header_parameter_on header_parameter_form
f_header_parameter l t ts rest (m, (p, e), behind) =
    by_row l t rest header_parameter_on e (none_opens l, no_arm l, behind)

pub f_later_header_parameter : StepsBy later_header_parameter_on later_header_parameter_form
f_later_header_parameter l t ts rest (inl (m, (p, e), behind)) =
    by_row l t rest later_header_parameter_on e (none_opens l, no_arm l, behind)
f_later_header_parameter l t ts rest (inr (m, (x, (p, (free, e))), behind)) =
    by_row l t rest later_header_parameter_on e
    (unrefused l (punctuation signs.Equals ∷ expression 0 ∷ []) t m rest x free behind)

pub f_more_header_parameters : StepsBy more_header_parameters_on more_header_parameters_form
f_more_header_parameters l t ts rest is =
    f_commas more_header_parameters_on later_header_parameter more_header_parameters
    signs.CloseParenthesis l t ts rest refl refl (λ us is. is) is

pub f_perhaps_wire_or_reg : StepsBy perhaps_wire_or_reg_on perhaps_wire_or_reg_form
f_perhaps_wire_or_reg =
    f_perhaps_either perhaps_wire_or_reg_on (word words.Wire) [] (word words.Reg) [] refl refl

pub f_label_end : StepsBy label_end_on label_end_form
f_label_end =
    f_either label_end_on (sign signs.CloseBrace) [] (sign signs.OpenParenthesis)
    (plain_name ∷ perhaps_second_name ∷ behind_selector []) refl refl

pub f_later_port : StepsBy later_port_on later_port_form
f_later_port l t ts rest (inl (m, (p, e), behind)) =
    by_row l t rest later_port_on e (none_opens l, no_arm l, behind)
f_later_port l t ts rest (inr (inl (m, (p, e), behind))) =
    by_row l t rest later_port_on e (none_opens l, no_arm l, behind)
f_later_port l t ts rest (inr (inr (m, (x, (p, (free, e))), behind))) =
    by_row l t rest later_port_on e (unrefused l [] t m rest x free behind)

pub f_more_ports : StepsBy more_ports_on more_ports_form
f_more_ports l t ts rest is =
    f_commas more_ports_on later_port more_ports signs.CloseParenthesis l t ts rest
    refl refl (λ us is. is) is

pub f_ports : StepsBy ports_on ports_form
f_ports l t ts rest (inl (m, (p, e), behind)) =
    by_row l t rest ports_on e (none_opens l, no_arm l, behind)
f_ports l t ts rest (inr (inl (m, (p, e), behind))) =
    by_row l t rest ports_on e (none_opens l, no_arm l, behind)
f_ports l t ts rest (inr (inr (m, (p, e), behind))) =
    by_row l t rest ports_on e (none_opens l, no_arm l, behind)
