-- From steps to forms: items and modules.
use Rattle.std.proofs.Common.{zero, suc, [], ◌∷◌, inl, inr, refl, ◌∙◌}
use Rattle.sv_token.specs.declared.keywords.WordKind.TheVariants as words
use Rattle.sv_token.specs.declared.signs.SignKind.TheVariants as signs
use Rattle.sv_token.specs.Lexemes.{word, identifier, sign}
use Rattle.sv_token.specs.Words.{is_refused_word}
use Rattle.sv_ast.specs.GrammarForms.{binary_operator}
use Rattle.sv_parse_machine.specs.Symbols.{punctuation, plain_name, plain_number, expression}
use Rattle.sv_parse_machine.specs.Symbols.{more_names, more_values, perhaps_second_name, items}
use Rattle.sv_parse_machine.specs.Symbols.{behind_reg_name, value_or_release, more_assigned}
use Rattle.sv_parse_machine.specs.Symbols.{perhaps_overrides, links, more_instances}
use Rattle.sv_parse_machine.specs.ModuleTable.{more_parameters_on, more_wires_on}
use Rattle.sv_parse_machine.specs.ModuleTable.{behind_reg_name_on, memory_name_on}
use Rattle.sv_parse_machine.specs.ModuleTable.{label_selector_on, reg_name_on, reg_label_end_on}
use Rattle.sv_parse_machine.specs.ModuleTable.{reg_label_on, later_assigned_on, more_assigned_on}
use Rattle.sv_parse_machine.specs.ModuleTable.{value_or_release_on, assigned_on, event_inside_on}
use Rattle.sv_parse_machine.specs.ModuleTable.{event_on, more_named_overrides_on, overrides_on}
use Rattle.sv_parse_machine.specs.ModuleTable.{link_on, more_named_links_on, links_on}
use Rattle.sv_parse_machine.specs.ModuleTable.{more_instances_on, items_on, one_module_on}
use Rattle.sv_parse_machine.proofs.InnerSteps.{placed, no_token}
use Rattle.sv_parse_machine.proofs.OuterForms.{more_parameters_form, more_wires_form}
use Rattle.sv_parse_machine.proofs.OuterForms.{behind_reg_name_form, memory_name_form}
use Rattle.sv_parse_machine.proofs.OuterForms.{label_selector_form, reg_name_form}
use Rattle.sv_parse_machine.proofs.OuterForms.{reg_label_end_form, reg_label_form}
use Rattle.sv_parse_machine.proofs.OuterForms.{later_assigned_form, more_assigned_form}
use Rattle.sv_parse_machine.proofs.OuterForms.{value_or_release_form, assigned_form}
use Rattle.sv_parse_machine.proofs.OuterForms.{event_inside_form, event_form}
use Rattle.sv_parse_machine.proofs.OuterForms.{more_named_overrides_form, overrides_form, link_form}
use Rattle.sv_parse_machine.proofs.OuterForms.{more_named_links_form, links_form}
use Rattle.sv_parse_machine.proofs.OuterForms.{more_instances_form, items_form, one_module_form}
use Rattle.sv_parse_machine.proofs.OuterTokens.{FormsBy, NeedsToken, taken_as_name, taken_star}
use Rattle.sv_parse_machine.proofs.OuterTokens.{taken_star_inside}
use Rattle.sv_parse_machine.proofs.OuterTokens.{b_begins, no_expression}
use Rattle.sv_parse_machine.proofs.OuterForms.{more_parameters_row, more_parameters_end}
use Rattle.sv_parse_machine.proofs.OuterForms.{more_wires_row, more_wires_end, more_assigned_row}
use Rattle.sv_parse_machine.proofs.OuterForms.{more_assigned_end, more_named_overrides_row}
use Rattle.sv_parse_machine.proofs.OuterForms.{more_named_overrides_end, more_named_links_row}
use Rattle.sv_parse_machine.proofs.OuterForms.{more_named_links_end, more_instances_row}
use Rattle.sv_parse_machine.proofs.OuterForms.{more_instances_end, items_row, items_end}
use Rattle.sv_parse_machine.proofs.OuterTokens.{loop_closes, loop_goes_on}

pub b_more_parameters : FormsBy more_parameters_on more_parameters_form
b_more_parameters l (sign signs.Semicolon) p ts rest is =
    loop_closes (more_parameters_row l) (sign signs.Semicolon) p ts rest is.2
b_more_parameters l (sign signs.Comma) p ts rest (opens, arm, (q0, a0, (q1, a1, (m1, a2, again)))) =
    loop_goes_on (more_parameters_row l) (more_parameters_end l)
    (placed (sign signs.Comma) p ∷ ts) m1 rest (ts, (p, refl), (q0, a0, (q1, a1, a2))) again
b_more_parameters l x p ts rest is = absurd is

pub none_more_parameters : NeedsToken more_parameters_form
none_more_parameters l rest (zero, (m, none, (p, e))) = no_token (none ∙ e)
none_more_parameters l rest (suc k, (m, (m1, (m0, (p, e), behind), others), final)) = no_token e

pub b_more_wires : FormsBy more_wires_on more_wires_form
b_more_wires l (sign signs.Semicolon) p ts rest is =
    loop_closes (more_wires_row l) (sign signs.Semicolon) p ts rest is.2
b_more_wires l (sign signs.Comma) p ts rest (opens, arm, (q0, a0, (m1, a1, again))) =
    loop_goes_on (more_wires_row l) (more_wires_end l) (placed (sign signs.Comma) p ∷ ts) m1 rest
    (ts, (p, refl), (q0, a0, a1)) again
b_more_wires l x p ts rest is = absurd is

pub none_more_wires : NeedsToken more_wires_form
none_more_wires l rest (zero, (m, none, (p, e))) = no_token (none ∙ e)
none_more_wires l rest (suc k, (m, (m1, (m0, (p, e), behind), others), final)) = no_token e

pub b_behind_reg_name : FormsBy behind_reg_name_on behind_reg_name_form
b_behind_reg_name l (sign signs.OpenBracket) p ts rest is = inl (ts, (p, refl), is.2)
b_behind_reg_name l (sign signs.Comma) p ts rest is = inr (inl (ts, (p, refl), is.2))
b_behind_reg_name l (sign signs.Semicolon) p ts rest is = inr (inr (ts, (p, refl), is.2))
b_behind_reg_name l x p ts rest is = absurd is

pub none_behind_reg_name : NeedsToken behind_reg_name_form
none_behind_reg_name l rest (inl (m, (p, e), behind)) = no_token e
none_behind_reg_name l rest (inr (inl (m, (p, e), behind))) = no_token e
none_behind_reg_name l rest (inr (inr (m, (p, e), behind))) = no_token e

pub b_memory_name : FormsBy memory_name_on memory_name_form
b_memory_name l (identifier x) p ts rest is =
    let name = taken_as_name l
    (punctuation signs.OpenBracket ∷ plain_number ∷ punctuation signs.Colon ∷ plain_number ∷
    punctuation signs.CloseBracket ∷ []) (placed (identifier x) p) ts rest (is_refused_word x)
    is in (ts, (x, (p, (name.0, refl))), name.1)
b_memory_name l x p ts rest is = absurd is

pub none_memory_name : NeedsToken memory_name_form
none_memory_name l rest (m, (x, (p, (free, e))), behind) = no_token e

pub b_label_selector : FormsBy label_selector_on label_selector_form
b_label_selector l (sign signs.Hash) p ts rest is = inl (ts, (p, refl), is.2)
b_label_selector l (identifier x) p ts rest is =
    let name = taken_as_name l
    (perhaps_second_name ∷ punctuation signs.CloseParenthesis ∷ punctuation signs.CloseBrace ∷
    plain_name ∷ more_names signs.Semicolon ∷ []) (placed (identifier x) p) ts rest
    (is_refused_word x) is in inr (ts, (x, (p, (name.0, refl))), name.1)
b_label_selector l x p ts rest is = absurd is

pub none_label_selector : NeedsToken label_selector_form
none_label_selector l rest (inl (m, (p, e), behind)) = no_token e
none_label_selector l rest (inr (m, (x, (p, (free, e))), behind)) = no_token e

pub b_reg_name : FormsBy reg_name_on reg_name_form
b_reg_name l (identifier x) p ts rest is =
    let name = taken_as_name l (behind_reg_name ∷ []) (placed (identifier x) p) ts rest
    (is_refused_word x) is in (ts, (x, (p, (name.0, refl))), name.1)
b_reg_name l x p ts rest is = absurd is

pub none_reg_name : NeedsToken reg_name_form
none_reg_name l rest (m, (x, (p, (free, e))), behind) = no_token e

pub b_reg_label_end : FormsBy reg_label_end_on reg_label_end_form
b_reg_label_end l (sign signs.CloseBrace) p ts rest is = inl (ts, (p, refl), is.2)
b_reg_label_end l (sign signs.OpenParenthesis) p ts rest is = inr (ts, (p, refl), is.2)
b_reg_label_end l x p ts rest is = absurd is

pub none_reg_label_end : NeedsToken reg_label_end_form
none_reg_label_end l rest (inl (m, (p, e), behind)) = no_token e
none_reg_label_end l rest (inr (m, (p, e), behind)) = no_token e

pub b_reg_label : FormsBy reg_label_on reg_label_form
b_reg_label l (sign signs.OpenBrace) p ts rest is = inl (ts, (p, refl), is.2)
b_reg_label l (identifier x) p ts rest is =
    let name = taken_as_name l (behind_reg_name ∷ []) (placed (identifier x) p) ts rest
    (is_refused_word x) is in inr (ts, (x, (p, (name.0, refl))), name.1)
b_reg_label l x p ts rest is = absurd is

pub none_reg_label : NeedsToken reg_label_form
none_reg_label l rest (inl (m, (p, e), behind)) = no_token e
none_reg_label l rest (inr (m, (x, (p, (free, e))), behind)) = no_token e

pub b_later_assigned : FormsBy later_assigned_on later_assigned_form
b_later_assigned l (identifier x) p ts rest is =
    let name = taken_as_name l (punctuation signs.Equals ∷ expression 0 ∷ [])
    (placed (identifier x) p) ts rest (is_refused_word x) is in
    inl (ts, (x, (p, (name.0, refl))), name.1)
b_later_assigned l (sign signs.OpenBrace) p ts rest is = inr (ts, (p, refl), is.2)
b_later_assigned l x p ts rest is = absurd is

pub none_later_assigned : NeedsToken later_assigned_form
none_later_assigned l rest (inl (m, (x, (p, (free, e))), behind)) = no_token e
none_later_assigned l rest (inr (m, (p, e), behind)) = no_token e

pub b_more_assigned : FormsBy more_assigned_on more_assigned_form
b_more_assigned l (sign signs.Semicolon) p ts rest is =
    loop_closes (more_assigned_row l) (sign signs.Semicolon) p ts rest is.2
b_more_assigned l (sign signs.Comma) p ts rest (opens, arm, (m1, a0, again)) =
    loop_goes_on (more_assigned_row l) (more_assigned_end l) (placed (sign signs.Comma) p ∷ ts) m1
    rest (ts, (p, refl), a0) again
b_more_assigned l x p ts rest is = absurd is

pub none_more_assigned : NeedsToken more_assigned_form
none_more_assigned l rest (zero, (m, none, (p, e))) = no_token (none ∙ e)
none_more_assigned l rest (suc k, (m, (m1, (m0, (p, e), behind), others), final)) = no_token e

pub b_value_or_release : FormsBy value_or_release_on value_or_release_form
b_value_or_release l (word words.Release) p ts rest is = inl (ts, (p, refl), is.2)
b_value_or_release l x p ts rest is =
    let begun = b_begins l 0 0 (more_assigned ∷ []) x p ts rest is in
    inr (begun.1, begun.2, begun.3)

pub none_value_or_release : NeedsToken value_or_release_form
none_value_or_release l rest (inl (m, (p, e), behind)) = no_token e
none_value_or_release l rest (inr (m, is, behind)) = no_expression l 0 m is

pub b_assigned : FormsBy assigned_on assigned_form
b_assigned l (identifier x) p ts rest is =
    let name = taken_as_name l (punctuation signs.Equals ∷ value_or_release ∷ [])
    (placed (identifier x) p) ts rest (is_refused_word x) is in
    inl (ts, (x, (p, (name.0, refl))), name.1)
b_assigned l (sign signs.OpenBrace) p ts rest is = inr (ts, (p, refl), is.2)
b_assigned l x p ts rest is = absurd is

pub none_assigned : NeedsToken assigned_form
none_assigned l rest (inl (m, (x, (p, (free, e))), behind)) = no_token e
none_assigned l rest (inr (m, (p, e), behind)) = no_token e

pub b_event_inside : FormsBy event_inside_on event_inside_form
b_event_inside l (sign (signs.Operator o)) p ts rest is =
    let star = taken_star_inside l (placed (sign (signs.Operator o)) p) ts rest (binary_operator o)
    is in inl (ts, (p, (o, star.0, refl)), star.1)
b_event_inside l (word words.Posedge) p ts rest is = inr (ts, (p, refl), is.2)
b_event_inside l x p ts rest is = absurd is

pub none_event_inside : NeedsToken event_inside_form
none_event_inside l rest (inl (m, (p, (o, op, e)), behind)) = no_token e
none_event_inside l rest (inr (m, (p, e), behind)) = no_token e

pub b_event : FormsBy event_on event_form
b_event l (sign (signs.Operator o)) p ts rest is =
    let star = taken_star l (placed (sign (signs.Operator o)) p) ts rest (binary_operator o) is in
    inl (ts, (p, (o, star.0, refl)), star.1)
b_event l (sign signs.OpenParenthesis) p ts rest is = inr (ts, (p, refl), is.2)
b_event l x p ts rest is = absurd is

pub none_event : NeedsToken event_form
none_event l rest (inl (m, (p, (o, op, e)), behind)) = no_token e
none_event l rest (inr (m, (p, e), behind)) = no_token e

pub b_more_named_overrides : FormsBy more_named_overrides_on more_named_overrides_form
b_more_named_overrides l (sign signs.CloseParenthesis) p ts rest is =
    loop_closes (more_named_overrides_row l) (sign signs.CloseParenthesis) p ts rest is.2
b_more_named_overrides l (sign signs.Comma) p ts rest
    (opens, arm, (q0, a0, (q1, a1, (q2, a2, (q3, a3, (m1, a4, again)))))) =
    loop_goes_on (more_named_overrides_row l) (more_named_overrides_end l)
    (placed (sign signs.Comma) p ∷ ts) m1 rest
    (ts, (p, refl), (q0, a0, (q1, a1, (q2, a2, (q3, a3, a4))))) again
b_more_named_overrides l x p ts rest is = absurd is

pub none_more_named_overrides : NeedsToken more_named_overrides_form
none_more_named_overrides l rest (zero, (m, none, (p, e))) = no_token (none ∙ e)
none_more_named_overrides l rest (suc k, (m, (m1, (m0, (p, e), behind), others), final)) =
    no_token e

pub b_overrides : FormsBy overrides_on overrides_form
b_overrides l (sign signs.Dot) p ts rest is = inl (ts, (p, refl), is.2)
b_overrides l x p ts rest is =
    let begun = b_begins l 0 0 (more_values ∷ []) x p ts rest is in inr (begun.1, begun.2, begun.3)

pub none_overrides : NeedsToken overrides_form
none_overrides l rest (inl (m, (p, e), behind)) = no_token e
none_overrides l rest (inr (m, is, behind)) = no_expression l 0 m is

pub b_link : FormsBy link_on link_form
b_link l (sign signs.CloseParenthesis) p ts rest is = inl (ts, (p, refl), is.2)
b_link l x p ts rest is =
    let begun = b_begins l 0 0 (punctuation signs.CloseParenthesis ∷ []) x p ts rest is in
    inr (begun.1, begun.2, begun.3)

pub none_link : NeedsToken link_form
none_link l rest (inl (m, (p, e), behind)) = no_token e
none_link l rest (inr (m, is, behind)) = no_expression l 0 m is

pub b_more_named_links : FormsBy more_named_links_on more_named_links_form
b_more_named_links l (sign signs.CloseParenthesis) p ts rest is =
    loop_closes (more_named_links_row l) (sign signs.CloseParenthesis) p ts rest is.2
b_more_named_links l (sign signs.Comma) p ts rest
    (opens, arm, (q0, a0, (q1, a1, (q2, a2, (m1, a3, again))))) =
    loop_goes_on (more_named_links_row l) (more_named_links_end l)
    (placed (sign signs.Comma) p ∷ ts) m1 rest (ts, (p, refl), (q0, a0, (q1, a1, (q2, a2, a3))))
    again
b_more_named_links l x p ts rest is = absurd is

pub none_more_named_links : NeedsToken more_named_links_form
none_more_named_links l rest (zero, (m, none, (p, e))) = no_token (none ∙ e)
none_more_named_links l rest (suc k, (m, (m1, (m0, (p, e), behind), others), final)) = no_token e

pub b_links : FormsBy links_on links_form
b_links l (sign signs.CloseParenthesis) p ts rest is = inl (ts, (p, refl), is.2)
b_links l (sign signs.Dot) p ts rest is = inr (inl (ts, (p, refl), is.2))
b_links l x p ts rest is =
    let begun = b_begins l 0 0 (more_values ∷ []) x p ts rest is in
    inr (inr (begun.1, begun.2, begun.3))

pub none_links : NeedsToken links_form
none_links l rest (inl (m, (p, e), behind)) = no_token e
none_links l rest (inr (inl (m, (p, e), behind))) = no_token e
none_links l rest (inr (inr (m, is, behind))) = no_expression l 0 m is

pub b_more_instances : FormsBy more_instances_on more_instances_form
b_more_instances l (sign signs.Semicolon) p ts rest is =
    loop_closes (more_instances_row l) (sign signs.Semicolon) p ts rest is.2
b_more_instances l (sign signs.Comma) p ts rest (opens, arm, (q0, a0, (q1, a1, (m1, a2, again)))) =
    loop_goes_on (more_instances_row l) (more_instances_end l) (placed (sign signs.Comma) p ∷ ts)
    m1 rest (ts, (p, refl), (q0, a0, (q1, a1, a2))) again
b_more_instances l x p ts rest is = absurd is

pub none_more_instances : NeedsToken more_instances_form
none_more_instances l rest (zero, (m, none, (p, e))) = no_token (none ∙ e)
none_more_instances l rest (suc k, (m, (m1, (m0, (p, e), behind), others), final)) = no_token e

pub b_items : FormsBy items_on items_form
b_items l (word words.Endmodule) p ts rest is =
    loop_closes (items_row l) (word words.Endmodule) p ts rest is.2
b_items l (word words.Parameter) p ts rest
    (opens, arm, (q0, a0, (q1, a1, (q2, a2, (q3, a3, (m1, a4, again)))))) =
    loop_goes_on (items_row l) (items_end l) (placed (word words.Parameter) p ∷ ts) m1 rest
    (inl (ts, (p, refl), (q0, a0, (q1, a1, (q2, a2, (q3, a3, a4)))))) again
b_items l (word words.Localparam) p ts rest
    (opens, arm, (q0, a0, (q1, a1, (q2, a2, (q3, a3, (m1, a4, again)))))) =
    loop_goes_on (items_row l) (items_end l) (placed (word words.Localparam) p ∷ ts) m1 rest
    (inr (inl (ts, (p, refl), (q0, a0, (q1, a1, (q2, a2, (q3, a3, a4))))))) again
b_items l (word words.Wire) p ts rest
    (opens, arm, (q0, a0, (q1, a1, (q2, a2, (q3, a3, (q4, a4, (m1, a5, again))))))) =
    loop_goes_on (items_row l) (items_end l) (placed (word words.Wire) p ∷ ts) m1 rest
    (inr (inr (inl (ts, (p, refl), (q0, a0, (q1, a1, (q2, a2, (q3, a3, (q4, a4, a5))))))))) again
b_items l (word words.Reg) p ts rest (opens, arm, (q0, a0, (q1, a1, (m1, a2, again)))) =
    loop_goes_on (items_row l) (items_end l) (placed (word words.Reg) p ∷ ts) m1 rest
    (inr (inr (inr (inl (ts, (p, refl), (q0, a0, (q1, a1, a2))))))) again
b_items l (word words.Assign) p ts rest (opens, arm, (m1, a0, again)) =
    loop_goes_on (items_row l) (items_end l) (placed (word words.Assign) p ∷ ts) m1 rest
    (inr (inr (inr (inr (inl (ts, (p, refl), a0)))))) again
b_items l (word words.Always) p ts rest (opens, arm, (q0, a0, (q1, a1, (m1, a2, again)))) =
    loop_goes_on (items_row l) (items_end l) (placed (word words.Always) p ∷ ts) m1 rest
    (inr (inr (inr (inr (inr (inl (ts, (p, refl), (q0, a0, (q1, a1, a2))))))))) again
b_items l (word words.Invariant) p ts rest (opens, arm, (q0, a0, (m1, a1, again))) =
    loop_goes_on (items_row l) (items_end l) (placed (word words.Invariant) p ∷ ts) m1 rest
    (inr (inr (inr (inr (inr (inr (inl (ts, (p, refl), (q0, a0, a1))))))))) again
b_items l (identifier x) p ts rest is =
    let name = taken_as_name l
    (perhaps_overrides ∷ plain_name ∷ punctuation signs.OpenParenthesis ∷ links ∷ more_instances ∷
    items ∷ []) (placed (identifier x) p) ts rest (is_refused_word x) is in
    let (q0, a0, (q1, a1, (q2, a2, (q3, a3, (m1, a4, again))))) = name.1 in
    loop_goes_on (items_row l) (items_end l) (placed (identifier x) p ∷ ts) m1 rest
    (inr (inr
    (inr (inr
    (inr (inr
    (inr (ts, (x, (p, (name.0, refl))), (q0, a0, (q1, a1, (q2, a2, (q3, a3, a4)))))))))))) again
b_items l x p ts rest is = absurd is

pub none_items : NeedsToken items_form
none_items l rest (zero, (m, none, (p, e))) = no_token (none ∙ e)
none_items l rest (suc k, (m, (m1, inl (m0, (p, e), behind), others), final)) = no_token e
none_items l rest (suc k, (m, (m1, inr (inl (m0, (p, e), behind)), others), final)) = no_token e
none_items l rest (suc k, (m, (m1, inr (inr (inl (m0, (p, e), behind))), others), final)) =
    no_token e
none_items l rest (suc k, (m, (m1, inr (inr (inr (inl (m0, (p, e), behind)))), others), final)) =
    no_token e
none_items l rest (
  suc
      k,
  (m, (m1, inr (inr (inr (inr (inl (m0, (p, e), behind))))), others), final),
) = no_token e
none_items l rest (
  suc
      k,
  (m, (m1, inr (inr (inr (inr (inr (inl (m0, (p, e), behind)))))), others), final),
) =
    no_token e
none_items l rest (
  suc
      k,
  (m, (m1, inr (inr (inr (inr (inr (inr (inl (m0, (p, e), behind))))))), others), final),
) =
    no_token e
none_items l rest (
  suc
      k,
  (
    m,
    (m1, inr (inr (inr (inr (inr (inr (inr (m0, (x, (p, (free, e))), behind))))))), others),
    final,
  ),
) = no_token e

pub b_one_module : FormsBy one_module_on one_module_form
b_one_module l (word words.Module) p ts rest is = (ts, (p, refl), is.2)
b_one_module l x p ts rest is = absurd is

pub none_one_module : NeedsToken one_module_form
none_one_module l rest (m, (p, e), behind) = no_token e
