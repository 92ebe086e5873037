-- From forms to steps: items and modules.
use Rattle.std.proofs.Common.{zero, suc, List, [], ◌∷◌, inl, inr, refl, sym, subst, ◌∙◌}
use Rattle.sv_token.specs.declared.keywords.WordKind.TheVariants as words
use Rattle.sv_token.specs.declared.signs.SignKind.TheVariants as signs
use Rattle.sv_token.specs.Lexemes.{Lexeme, word, sign, Placed}
use Rattle.sv_ast.specs.GrammarExpressions.{Limits}
use Rattle.sv_parse_machine.specs.Symbols.{punctuation, plain_name, expression}
use Rattle.sv_parse_machine.specs.Symbols.{more_names, more_values, perhaps_second_name, items}
use Rattle.sv_parse_machine.specs.Symbols.{reg_name, label_selector, behind_reg_name}
use Rattle.sv_parse_machine.specs.Symbols.{value_or_release, later_assigned}
use Rattle.sv_parse_machine.specs.Symbols.{more_assigned, perhaps_overrides, links, more_instances}
use Rattle.sv_parse_machine.specs.ExpressionTable.{expression_on}
use Rattle.sv_parse_machine.specs.StatementTable.{is_star, taken_if}
use Rattle.sv_parse_machine.specs.ModuleTable.{more_parameters_on, more_wires_on}
use Rattle.sv_parse_machine.specs.ModuleTable.{behind_reg_name_on, memory_name_on}
use Rattle.sv_parse_machine.specs.ModuleTable.{label_selector_on, reg_name_on, reg_label_end_on}
use Rattle.sv_parse_machine.specs.ModuleTable.{reg_label_on, later_assigned_on, more_assigned_on}
use Rattle.sv_parse_machine.specs.ModuleTable.{value_or_release_on, assigned_on, event_inside_on}
use Rattle.sv_parse_machine.specs.ModuleTable.{event_on, more_named_overrides_on, overrides_on}
use Rattle.sv_parse_machine.specs.ModuleTable.{link_on, more_named_links_on, links_on}
use Rattle.sv_parse_machine.specs.ModuleTable.{more_instances_on, items_on, one_module_on}
use Rattle.sv_parse_machine.specs.ModuleTable.{number_range, star_in_event}
use Rattle.sv_parse_machine.proofs.InnerSteps.{none_opens, no_arm}
use Rattle.sv_parse_machine.proofs.OuterForms.{more_parameters_form, more_wires_form}
use Rattle.sv_parse_machine.proofs.OuterForms.{behind_reg_name_form, memory_name_form}
use Rattle.sv_parse_machine.proofs.OuterForms.{label_selector_form, reg_name_form}
use Rattle.sv_parse_machine.proofs.OuterForms.{reg_label_end_form, reg_label_form}
use Rattle.sv_parse_machine.proofs.OuterForms.{later_assigned_form, more_assigned_form}
use Rattle.sv_parse_machine.proofs.OuterForms.{value_or_release_form, assigned_form}
use Rattle.sv_parse_machine.proofs.OuterForms.{event_inside_form, event_form}
use Rattle.sv_parse_machine.proofs.OuterForms.{more_named_overrides_form, overrides_form, link_form}
use Rattle.sv_parse_machine.proofs.OuterForms.{more_named_links_form, links_form}
use Rattle.sv_parse_machine.proofs.OuterForms.{more_instances_form, items_form, one_module_form}
use Rattle.sv_parse_machine.proofs.OuterForms.{Accepts}
use Rattle.sv_parse_machine.proofs.OuterTokens.{by_row, f_commas, f_either, f_named, StepsBy}
use Rattle.sv_parse_machine.proofs.OuterTokens.{unrefused, f_begins}

pub f_more_parameters : StepsBy more_parameters_on more_parameters_form
f_more_parameters l t ts rest (zero, (m, none, (p, e))) =
    by_row l t rest more_parameters_on (none ∙ e) (none_opens l, no_arm l, refl)
f_more_parameters l t ts rest
    (suc k, (m, (m1, (m0, (p, e), (q0, a0, (q1, a1, a2))), others), final)) =
    by_row l t rest more_parameters_on e (
      none_opens l,
      no_arm
          l,
      (q0, a0, (q1, a1, (m1, a2, (rest, (k, (m, others, final)), refl)))),
    )

pub f_more_wires : StepsBy more_wires_on more_wires_form
f_more_wires l t ts rest (zero, (m, none, (p, e))) =
    by_row l t rest more_wires_on (none ∙ e) (none_opens l, no_arm l, refl)
f_more_wires l t ts rest (suc k, (m, (m1, (m0, (p, e), (q0, a0, a1)), others), final)) =
    by_row l t rest more_wires_on e
    (none_opens l, no_arm l, (q0, a0, (m1, a1, (rest, (k, (m, others, final)), refl))))

pub f_behind_reg_name : StepsBy behind_reg_name_on behind_reg_name_form
f_behind_reg_name l t ts rest (inl (m, (p, e), behind)) =
    by_row l t rest behind_reg_name_on e (none_opens l, no_arm l, behind)
f_behind_reg_name l t ts rest (inr is) =
    f_either behind_reg_name_on (sign signs.Comma) (plain_name ∷ more_names signs.Semicolon ∷ [])
    (sign signs.Semicolon) [] refl refl l t ts rest is

pub f_memory_name : StepsBy memory_name_on memory_name_form
f_memory_name =
    f_named memory_name_on (punctuation signs.OpenBracket ∷ number_range) (λ x. refl)

pub f_label_selector : StepsBy label_selector_on label_selector_form
f_label_selector l t ts rest (inl (m, (p, e), behind)) =
    by_row l t rest label_selector_on e (none_opens l, no_arm l, behind)
f_label_selector l t ts rest (inr (m, (x, (p, (free, e))), behind)) =
    by_row l t rest label_selector_on e
    (unrefused l (perhaps_second_name ∷ punctuation signs.CloseParenthesis ∷
    punctuation signs.CloseBrace ∷ plain_name ∷ more_names signs.Semicolon ∷ []) t m rest x
    free behind)

pub f_reg_name : StepsBy reg_name_on reg_name_form
f_reg_name = f_named reg_name_on (behind_reg_name ∷ []) (λ x. refl)

pub f_reg_label_end : StepsBy reg_label_end_on reg_label_end_form
f_reg_label_end =
    f_either reg_label_end_on (sign signs.CloseBrace) (reg_name ∷ []) (sign signs.OpenParenthesis)
    (label_selector ∷ []) refl refl

pub f_reg_label : StepsBy reg_label_on reg_label_form
f_reg_label l t ts rest (inl (m, (p, e), behind)) =
    by_row l t rest reg_label_on e (none_opens l, no_arm l, behind)
f_reg_label l t ts rest (inr (m, (x, (p, (free, e))), behind)) =
    by_row l t rest reg_label_on e (unrefused l (behind_reg_name ∷ []) t m rest x free behind)

pub f_later_assigned : StepsBy later_assigned_on later_assigned_form
f_later_assigned l t ts rest (inl (m, (x, (p, (free, e))), behind)) =
    by_row l t rest later_assigned_on e
    (unrefused l (punctuation signs.Equals ∷ expression 0 ∷ []) t m rest x free behind)
f_later_assigned l t ts rest (inr (m, (p, e), behind)) =
    by_row l t rest later_assigned_on e (none_opens l, no_arm l, behind)

pub f_more_assigned : StepsBy more_assigned_on more_assigned_form
f_more_assigned l t ts rest is =
    f_commas more_assigned_on later_assigned more_assigned signs.Semicolon l t ts rest
    refl refl (λ us is. is) is

value_or_release_as_expression : (l : Limits) (t : Placed) (ts rest : List Placed) (x : Lexeme) →
    Accepts l t ts rest (expression_on 0 0 (more_assigned ∷ []) x) →
    Accepts l t ts rest (value_or_release_on x)
value_or_release_as_expression l t ts rest (word words.Release) is = absurd is
value_or_release_as_expression l t ts rest x is = is

pub f_value_or_release : StepsBy value_or_release_on value_or_release_form
f_value_or_release l t ts rest (inl (m, (p, e), behind)) =
    by_row l t rest value_or_release_on e (none_opens l, no_arm l, behind)
f_value_or_release l t ts rest (inr (m, is, behind)) =
    value_or_release_as_expression l t ts rest t.lexeme
    (f_begins l 0 0 (more_assigned ∷ []) t ts m rest is (no_arm l) behind)

pub f_assigned : StepsBy assigned_on assigned_form
f_assigned l t ts rest (inl (m, (x, (p, (free, e))), behind)) =
    by_row l t rest assigned_on e
    (unrefused l (punctuation signs.Equals ∷ value_or_release ∷ []) t m rest x free behind)
f_assigned l t ts rest (inr (m, (p, e), behind)) =
    by_row l t rest assigned_on e (none_opens l, no_arm l, behind)

pub f_event_inside : StepsBy event_inside_on event_inside_form
f_event_inside l t ts rest (inl (m, (p, (o, op, e)), behind)) =
    by_row l t rest event_inside_on e
    (subst (λ b. Accepts l t m rest (star_in_event (is_star b))) (sym op)
    (none_opens l, no_arm l, behind))
f_event_inside l t ts rest (inr (m, (p, e), behind)) =
    by_row l t rest event_inside_on e (none_opens l, no_arm l, behind)

pub f_event : StepsBy event_on event_form
f_event l t ts rest (inl (m, (p, (o, op, e)), behind)) =
    by_row l t rest event_on e
    (subst (λ b. Accepts l t m rest (taken_if (is_star b))) (sym op)
    (none_opens l, no_arm l, behind))
f_event l t ts rest (inr (m, (p, e), behind)) =
    by_row l t rest event_on e (none_opens l, no_arm l, behind)

pub f_more_named_overrides : StepsBy more_named_overrides_on more_named_overrides_form
f_more_named_overrides l t ts rest (zero, (m, none, (p, e))) =
    by_row l t rest more_named_overrides_on (none ∙ e) (none_opens l, no_arm l, refl)
f_more_named_overrides l t ts rest
    (suc k, (m, (m1, (m0, (p, e), (q0, a0, (q1, a1, (q2, a2, (q3, a3, a4))))), others), final)) =
    by_row l t rest more_named_overrides_on e (
      none_opens l,
      no_arm
          l,
      (q0, a0, (q1, a1, (q2, a2, (q3, a3, (m1, a4, (rest, (k, (m, others, final)), refl)))))),
    )

overrides_as_expression : (l : Limits) (t : Placed) (ts rest : List Placed) (x : Lexeme) →
    Accepts l t ts rest (expression_on 0 0 (more_values ∷ []) x) →
    Accepts l t ts rest (overrides_on x)
overrides_as_expression l t ts rest (sign signs.Dot) is = absurd is
overrides_as_expression l t ts rest x is = is

pub f_overrides : StepsBy overrides_on overrides_form
f_overrides l t ts rest (inl (m, (p, e), behind)) =
    by_row l t rest overrides_on e (none_opens l, no_arm l, behind)
f_overrides l t ts rest (inr (m, is, behind)) =
    overrides_as_expression l t ts rest t.lexeme
    (f_begins l 0 0 (more_values ∷ []) t ts m rest is (no_arm l) behind)

link_as_expression : (l : Limits) (t : Placed) (ts rest : List Placed) (x : Lexeme) →
    Accepts l t ts rest (expression_on 0 0 (punctuation signs.CloseParenthesis ∷ []) x) →
    Accepts l t ts rest (link_on x)
link_as_expression l t ts rest (sign signs.CloseParenthesis) is = absurd is
link_as_expression l t ts rest x is = is

pub f_link : StepsBy link_on link_form
f_link l t ts rest (inl (m, (p, e), behind)) =
    by_row l t rest link_on e (none_opens l, no_arm l, behind)
f_link l t ts rest (inr (m, is, behind)) =
    link_as_expression l t ts rest t.lexeme
    (f_begins l 0 0 (punctuation signs.CloseParenthesis ∷ []) t ts m rest is (no_arm l) behind)

pub f_more_named_links : StepsBy more_named_links_on more_named_links_form
f_more_named_links l t ts rest (zero, (m, none, (p, e))) =
    by_row l t rest more_named_links_on (none ∙ e) (none_opens l, no_arm l, refl)
f_more_named_links l t ts rest
    (suc k, (m, (m1, (m0, (p, e), (q0, a0, (q1, a1, (q2, a2, a3)))), others), final)) =
    by_row l t rest more_named_links_on e (
      none_opens l,
      no_arm
          l,
      (q0, a0, (q1, a1, (q2, a2, (m1, a3, (rest, (k, (m, others, final)), refl))))),
    )

links_as_expression : (l : Limits) (t : Placed) (ts rest : List Placed) (x : Lexeme) →
    Accepts l t ts rest (expression_on 0 0 (more_values ∷ []) x) → Accepts l t ts rest (links_on x)
links_as_expression l t ts rest (sign signs.CloseParenthesis) is = absurd is
links_as_expression l t ts rest (sign signs.Dot) is = absurd is
links_as_expression l t ts rest x is = is

pub f_links : StepsBy links_on links_form
f_links l t ts rest (inl (m, (p, e), behind)) =
    by_row l t rest links_on e (none_opens l, no_arm l, behind)
f_links l t ts rest (inr (inl (m, (p, e), behind))) =
    by_row l t rest links_on e (none_opens l, no_arm l, behind)
f_links l t ts rest (inr (inr (m, is, behind))) =
    links_as_expression l t ts rest t.lexeme
    (f_begins l 0 0 (more_values ∷ []) t ts m rest is (no_arm l) behind)

pub f_more_instances : StepsBy more_instances_on more_instances_form
f_more_instances l t ts rest (zero, (m, none, (p, e))) =
    by_row l t rest more_instances_on (none ∙ e) (none_opens l, no_arm l, refl)
f_more_instances l t ts rest
    (suc k, (m, (m1, (m0, (p, e), (q0, a0, (q1, a1, a2))), others), final)) =
    by_row l t rest more_instances_on e (
      none_opens l,
      no_arm
          l,
      (q0, a0, (q1, a1, (m1, a2, (rest, (k, (m, others, final)), refl)))),
    )

pub f_items : StepsBy items_on items_form
f_items l t ts rest (zero, (m, none, (p, e))) =
    by_row l t rest items_on (none ∙ e) (none_opens l, no_arm l, refl)
f_items l t ts rest (
  suc
      k,
  (m, (m1, inl ((m0, (p, e), (q0, a0, (q1, a1, (q2, a2, (q3, a3, a4)))))), others), final),
) =
    by_row l t rest items_on e (
      none_opens l,
      no_arm
          l,
      (q0, a0, (q1, a1, (q2, a2, (q3, a3, (m1, a4, (rest, (k, (m, others, final)), refl)))))),
    )
f_items l t ts rest (
  suc
      k,
  (
    m,
    (m1, inr (inl ((m0, (p, e), (q0, a0, (q1, a1, (q2, a2, (q3, a3, a4))))))), others),
    final,
  ),
) =
    by_row l t rest items_on e (
      none_opens l,
      no_arm
          l,
      (q0, a0, (q1, a1, (q2, a2, (q3, a3, (m1, a4, (rest, (k, (m, others, final)), refl)))))),
    )
f_items l t ts rest (
  suc
      k,
  (
    m,
    (
      m1,
      inr (inr (inl ((m0, (p, e), (q0, a0, (q1, a1, (q2, a2, (q3, a3, (q4, a4, a5))))))))),
      others,
    ),
    final,
  ),
) =
    by_row l t rest items_on e (
      none_opens l,
      no_arm
          l,
      (
        q0,
        a0,
        (
          q1,
          a1,
          (q2, a2, (q3, a3, (q4, a4, (m1, a5, (rest, (k, (m, others, final)), refl))))),
        ),
      ),
    )
f_items l t ts rest (
  suc
      k,
  (m, (m1, inr (inr (inr (inl ((m0, (p, e), (q0, a0, (q1, a1, a2))))))), others), final),
) =
    by_row l t rest items_on e (
      none_opens l,
      no_arm
          l,
      (q0, a0, (q1, a1, (m1, a2, (rest, (k, (m, others, final)), refl)))),
    )
f_items l t ts rest (
  suc
      k,
  (m, (m1, inr (inr (inr (inr (inl ((m0, (p, e), a0)))))), others), final),
) =
    by_row l t rest items_on e
    (none_opens l, no_arm l, (m1, a0, (rest, (k, (m, others, final)), refl)))
f_items l t ts rest (
  suc
      k,
  (
    m,
    (m1, inr (inr (inr (inr (inr (inl ((m0, (p, e), (q0, a0, (q1, a1, a2))))))))), others),
    final,
  ),
) =
    by_row l t rest items_on e (
      none_opens l,
      no_arm
          l,
      (q0, a0, (q1, a1, (m1, a2, (rest, (k, (m, others, final)), refl)))),
    )
f_items l t ts rest (
  suc
      k,
  (
    m,
    (m1, inr (inr (inr (inr (inr (inr (inl ((m0, (p, e), (q0, a0, a1))))))))), others),
    final,
  ),
) =
    by_row l t rest items_on e
    (none_opens l, no_arm l, (q0, a0, (m1, a1, (rest, (k, (m, others, final)), refl))))
f_items l t ts rest (
  suc
      k,
  (
    m,
    (
      m1,
      inr
          (inr
          (inr
          (inr
          (inr
          (inr
          (inr ((m0, (x, (p, (free, e))), (q0, a0, (q1, a1, (q2, a2, (q3, a3, a4)))))))))))),
      others,
    ),
    final,
  ),
) =
    by_row l t rest items_on e
    (unrefused l (perhaps_overrides ∷ plain_name ∷ punctuation signs.OpenParenthesis ∷ links ∷
    more_instances ∷ items ∷ []) t m0 rest x free
    (q0, a0, (q1, a1, (q2, a2, (q3, a3, (m1, a4, (rest, (k, (m, others, final)), refl)))))))

pub f_one_module : StepsBy one_module_on one_module_form
f_one_module l t ts rest (m, (p, e), behind) =
    by_row l t rest one_module_on e (none_opens l, no_arm l, behind)
