-- For every symbol outside expressions: a step of the machine is what the form of the symbol says.
use Rattle.std.proofs.Common.{◌≡◌, ℕ, zero, suc, Bool, true, false, List, [], ◌∷◌, inl, inr, refl}
use Rattle.std.proofs.Common.{sym, subst, ◌∙◌}
use Rattle.sv_num.specs.declared.faults.Place.{Place}
use Rattle.sv_token.specs.declared.signs.SignKind.{SignKind}
use Rattle.sv_token.specs.declared.signs.SignKind.TheVariants as signs
use Rattle.sv_token.specs.Lexemes.{Lexeme, identifier, numeral, sign, Placed}
use Rattle.sv_token.specs.Words.{is_refused_word}
use Rattle.sv_ast.specs.GrammarForms.{binary_operator, ◌⨾◌, a_sign}
use Rattle.sv_ast.specs.GrammarExpressions.{Limits}
use Rattle.sv_parse_machine.specs.Symbols.{punctuation, plain_name, plain_number, expression}
use Rattle.sv_parse_machine.specs.Symbols.{more_names, more_values, perhaps_lattice, lattice_lines}
use Rattle.sv_parse_machine.specs.Symbols.{less_equal, perhaps_maps, map_name, perhaps_key_range}
use Rattle.sv_parse_machine.specs.Symbols.{rows, perhaps_second_key, end_of_map, one_module}
use Rattle.sv_parse_machine.specs.Symbols.{perhaps_header_parameters, header_parameter}
use Rattle.sv_parse_machine.specs.Symbols.{later_header_parameter, more_header_parameters}
use Rattle.sv_parse_machine.specs.Symbols.{parameter_type, perhaps_ports, ports, later_port}
use Rattle.sv_parse_machine.specs.Symbols.{more_ports, perhaps_wire, perhaps_wire_or_reg}
use Rattle.sv_parse_machine.specs.Symbols.{perhaps_signed, perhaps_range, perhaps_label, label_end}
use Rattle.sv_parse_machine.specs.Symbols.{perhaps_second_name, items, more_parameters}
use Rattle.sv_parse_machine.specs.Symbols.{perhaps_value, more_wires, reg_label, reg_label_end}
use Rattle.sv_parse_machine.specs.Symbols.{reg_name, behind_reg_name, label_selector, memory_name}
use Rattle.sv_parse_machine.specs.Symbols.{assigned, value_or_release, later_assigned}
use Rattle.sv_parse_machine.specs.Symbols.{more_assigned, event, event_inside, perhaps_overrides}
use Rattle.sv_parse_machine.specs.Symbols.{overrides, more_named_overrides, links, link}
use Rattle.sv_parse_machine.specs.Symbols.{more_named_links, more_instances, statement, statements}
use Rattle.sv_parse_machine.specs.Symbols.{perhaps_block_name, perhaps_else, perhaps_bits, bits_end}
use Rattle.sv_parse_machine.specs.Symbols.{more_targets, assigns, arms, more_choices, perhaps_colon}
use Rattle.sv_parse_machine.specs.ExpressionTable.{expression_on}
use Rattle.sv_parse_machine.proofs.InnerSteps.{placed, by_token, no_token, none_opens, no_arm}
use Rattle.sv_parse_machine.proofs.InnerForms.{last_token}
use Rattle.sv_parse_machine.proofs.ReadRows.{same_sign}
use Rattle.sv_parse_machine.proofs.OuterForms.{some_name, some_number, less_equal_form}
use Rattle.sv_parse_machine.proofs.OuterForms.{more_names_form, statement_form, statements_form}
use Rattle.sv_parse_machine.proofs.OuterForms.{arms_form, assigns_form, Accepts}
use Rattle.sv_parse_machine.proofs.ExpressionForms.{expression_form}
use Rattle.std.specs.Prelude.{IsTrue}
use Rattle.std.proofs.lemmas.Bool.{false≢true}
use Rattle.sv_ast.specs.Tree.{null, assignment, block, if_only, if_else, case_of, no_arms}
use Rattle.sv_ast.specs.Tree.{more_arms}
use Rattle.sv_parse_machine.specs.StatementTable.{is_sign, is_less_equal, name_on, number_on}
use Rattle.sv_parse_machine.specs.StatementTable.{less_equal_on, punctuation_on, more_names_on}
use Rattle.sv_parse_machine.specs.StatementTable.{taken_if}
use Rattle.sv_parse_machine.specs.Machine.{outer_on, may_be_empty}
use Rattle.sv_parse_machine.proofs.OuterForms.{punctuation_form, outer_form}
use Rattle.sv_parse_machine.proofs.OuterTokens.{by_row, taken_less_equal, b_begins, f_begins}
use Rattle.sv_parse_machine.proofs.OuterTokens.{unrefused, taken_as_name, no_expression, loop_closes}
use Rattle.sv_parse_machine.proofs.OuterTokens.{loop_goes_on}
use Rattle.sv_parse_machine.specs.Symbols.{Outer, outer}
use Rattle.sv_parse_machine.proofs.StatementSteps.{f_assigns, f_statement, f_statements, f_arms}
use Rattle.sv_parse_machine.proofs.StatementForms.{b_assigns, b_statement, b_statements, b_arms}
use Rattle.sv_parse_machine.proofs.OneToken.{f_perhaps, b_perhaps, none_perhaps}
use Rattle.sv_parse_machine.proofs.TextSteps.{f_more_values, f_lattice_lines, f_map_name}
use Rattle.sv_parse_machine.proofs.TextSteps.{f_end_of_map, f_rows, f_perhaps_maps}
use Rattle.sv_parse_machine.proofs.TextSteps.{f_parameter_type, f_header_parameter}
use Rattle.sv_parse_machine.proofs.TextSteps.{f_later_header_parameter, f_more_header_parameters}
use Rattle.sv_parse_machine.proofs.TextSteps.{f_perhaps_wire_or_reg, f_label_end, f_later_port}
use Rattle.sv_parse_machine.proofs.TextSteps.{f_more_ports, f_ports}
use Rattle.sv_parse_machine.proofs.TextForms.{b_more_values, b_lattice_lines, b_map_name}
use Rattle.sv_parse_machine.proofs.TextForms.{b_end_of_map, b_rows, b_perhaps_maps}
use Rattle.sv_parse_machine.proofs.TextForms.{b_parameter_type, b_header_parameter}
use Rattle.sv_parse_machine.proofs.TextForms.{b_later_header_parameter, b_more_header_parameters}
use Rattle.sv_parse_machine.proofs.TextForms.{b_perhaps_wire_or_reg, b_label_end, b_later_port}
use Rattle.sv_parse_machine.proofs.TextForms.{b_more_ports, b_ports, none_more_values}
use Rattle.sv_parse_machine.proofs.TextForms.{none_lattice_lines, none_map_name}
use Rattle.sv_parse_machine.proofs.TextForms.{none_rows, none_perhaps_maps, none_parameter_type}
use Rattle.sv_parse_machine.proofs.TextForms.{none_later_header_parameter}
use Rattle.sv_parse_machine.proofs.TextForms.{none_more_header_parameters, none_perhaps_wire_or_reg}
use Rattle.sv_parse_machine.proofs.TextForms.{none_label_end, none_later_port, none_more_ports}
use Rattle.sv_parse_machine.proofs.TextForms.{none_ports}
use Rattle.sv_parse_machine.proofs.ItemSteps.{f_more_parameters, f_more_wires, f_behind_reg_name}
use Rattle.sv_parse_machine.proofs.ItemSteps.{f_memory_name, f_label_selector, f_reg_name}
use Rattle.sv_parse_machine.proofs.ItemSteps.{f_reg_label_end, f_reg_label, f_later_assigned}
use Rattle.sv_parse_machine.proofs.ItemSteps.{f_more_assigned, f_value_or_release, f_assigned}
use Rattle.sv_parse_machine.proofs.ItemSteps.{f_event_inside, f_event, f_more_named_overrides}
use Rattle.sv_parse_machine.proofs.ItemSteps.{f_overrides, f_link, f_more_named_links, f_links}
use Rattle.sv_parse_machine.proofs.ItemSteps.{f_more_instances, f_items, f_one_module}
use Rattle.sv_parse_machine.proofs.ItemForms.{b_more_parameters, b_more_wires, b_behind_reg_name}
use Rattle.sv_parse_machine.proofs.ItemForms.{b_memory_name, b_label_selector, b_reg_name}
use Rattle.sv_parse_machine.proofs.ItemForms.{b_reg_label_end, b_reg_label, b_later_assigned}
use Rattle.sv_parse_machine.proofs.ItemForms.{b_more_assigned, b_value_or_release, b_assigned}
use Rattle.sv_parse_machine.proofs.ItemForms.{b_event_inside, b_event, b_more_named_overrides}
use Rattle.sv_parse_machine.proofs.ItemForms.{b_overrides, b_link, b_more_named_links, b_links}
use Rattle.sv_parse_machine.proofs.ItemForms.{b_more_instances, b_items, b_one_module}
use Rattle.sv_parse_machine.proofs.ItemForms.{none_more_parameters, none_more_wires}
use Rattle.sv_parse_machine.proofs.ItemForms.{none_behind_reg_name, none_memory_name}
use Rattle.sv_parse_machine.proofs.ItemForms.{none_label_selector, none_reg_name}
use Rattle.sv_parse_machine.proofs.ItemForms.{none_reg_label_end, none_reg_label}
use Rattle.sv_parse_machine.proofs.ItemForms.{none_later_assigned, none_more_assigned}
use Rattle.sv_parse_machine.proofs.ItemForms.{none_value_or_release, none_assigned}
use Rattle.sv_parse_machine.proofs.ItemForms.{none_event_inside, none_event}
use Rattle.sv_parse_machine.proofs.ItemForms.{none_more_named_overrides, none_overrides, none_link}
use Rattle.sv_parse_machine.proofs.ItemForms.{none_more_named_links, none_links}
use Rattle.sv_parse_machine.proofs.ItemForms.{none_more_instances, none_items, none_one_module}
use Rattle.sv_parse_machine.proofs.PartSteps.{f_bits_end, f_more_targets, f_more_choices}
use Rattle.sv_parse_machine.proofs.PartSteps.{b_bits_end, b_more_targets, b_more_choices}
use Rattle.sv_parse_machine.proofs.PartSteps.{none_bits_end, none_more_targets, none_more_choices}

-- ---- single tokens

f_punctuation : (l : Limits) (s : SignKind) (t : Placed) (ts rest : List Placed) →
    punctuation_form s (t ∷ ts) rest → Accepts l t ts rest (punctuation_on s t.lexeme)
f_punctuation l (signs.Operator o) t ts rest is = absurd is
f_punctuation l s t ts rest (p, e) =
    by_row l t rest (punctuation_on s) e (none_opens l, no_arm l, refl)

taken : (l : Limits) (t : Placed) (ts rest : List Placed) (b : Bool) →
    Accepts l t ts rest (taken_if b) → IsTrue b × (ts ≡ rest)
taken l t ts rest true is = (refl, is.2)
taken l t ts rest false is = absurd is

one_sign : (s : SignKind) (p : Place) (ts rest : List Placed) → IsTrue (is_sign s s) → ts ≡ rest →
    punctuation_form s (placed (sign s) p ∷ ts) rest
one_sign (signs.Operator o) p ts rest kind same = absurd (false≢true kind)
one_sign s p ts rest kind same = (p, last_token (sign s) p ts rest same)

b_punctuation : (l : Limits) (s : SignKind) (x : Lexeme) (p : Place) (ts rest : List Placed)
    → Accepts l (placed x p) ts rest (punctuation_on s x)
    → punctuation_form s (placed x p ∷ ts) rest
b_punctuation l s (sign t) p ts rest is =
    let found = taken l (placed (sign t) p) ts rest (is_sign s t) is in
    let same : s ≡ t = same_sign s t found.0 in
    subst (λ u. punctuation_form s (placed (sign u) p ∷ ts) rest) same
    (one_sign s p ts rest (subst (λ u. IsTrue (is_sign s u)) (sym same) found.0) found.1)
b_punctuation l s x p ts rest is = absurd is

none_punctuation : (s : SignKind) (rest : List Placed) → punctuation_form s [] rest → ⊥
none_punctuation (signs.Operator o) rest is = is
none_punctuation s rest (p, e) = no_token e

f_name : (l : Limits) (t : Placed) (ts rest : List Placed) → some_name (t ∷ ts) rest →
    Accepts l t ts rest (name_on t.lexeme)
f_name l t ts rest (x, (p, (free, e))) =
    by_token (λ y us. Accepts l t us rest (name_on y)) e (unrefused l [] t rest rest x free refl)

b_name : (l : Limits) (x : Lexeme) (p : Place) (ts rest : List Placed) →
    Accepts l (placed x p) ts rest (name_on x) → some_name (placed x p ∷ ts) rest
b_name l (identifier x) p ts rest is =
    let name = taken_as_name l [] (placed (identifier x) p) ts rest (is_refused_word x) is in
    (x, (p, (name.0, last_token (identifier x) p ts rest name.1)))
b_name l x p ts rest is = absurd is

f_number : (l : Limits) (t : Placed) (ts rest : List Placed) → some_number (t ∷ ts) rest →
    Accepts l t ts rest (number_on t.lexeme)
f_number l t ts rest (v, (p, e)) =
    by_token (λ y us. Accepts l t us rest (number_on y)) e (none_opens l, no_arm l, refl)

b_number : (l : Limits) (x : Lexeme) (p : Place) (ts rest : List Placed) →
    Accepts l (placed x p) ts rest (number_on x) → some_number (placed x p ∷ ts) rest
b_number l (numeral v) p ts rest is = (v, (p, last_token (numeral v) p ts rest is.2))
b_number l x p ts rest is = absurd is

f_less_equal : (l : Limits) (t : Placed) (ts rest : List Placed) → less_equal_form (t ∷ ts) rest →
    Accepts l t ts rest (less_equal_on t.lexeme)
f_less_equal l t ts rest (p, (o, op, e)) =
    by_row l t rest less_equal_on e
    (subst (λ b. Accepts l t rest rest (taken_if (is_less_equal b))) (sym op)
    (none_opens l, no_arm l, refl))

b_less_equal : (l : Limits) (x : Lexeme) (p : Place) (ts rest : List Placed) →
    Accepts l (placed x p) ts rest (less_equal_on x) → less_equal_form (placed x p ∷ ts) rest
b_less_equal l (sign (signs.Operator o)) p ts rest is =
    let operator = taken_less_equal l (placed (sign (signs.Operator o)) p) ts rest
    (binary_operator o) is in
    (p, (o, operator.0, last_token (sign (signs.Operator o)) p ts rest operator.1))
b_less_equal l x p ts rest is = absurd is

f_expression : (l : Limits) (n : ℕ) (t : Placed) (ts rest : List Placed) →
    expression_form l n (t ∷ ts) rest → Accepts l t ts rest (expression_on n 0 [] t.lexeme)
f_expression l n t ts rest is = f_begins l n 0 [] t ts rest rest is (no_arm l) refl

b_expression : (l : Limits) (n : ℕ) (x : Lexeme) (p : Place) (ts rest : List Placed)
    → Accepts l (placed x p) ts rest (expression_on n 0 [] x)
    → expression_form l n (placed x p ∷ ts) rest
b_expression l n x p ts rest is =
    let begun = b_begins l n 0 [] x p ts rest is in
    subst (expression_form l n (placed x p ∷ ts)) begun.3 begun.2

-- ---- lists of names

f_more_names : (l : Limits) (s : SignKind) (t : Placed) (ts rest : List Placed) →
    more_names_form l s (t ∷ ts) rest → Accepts l t ts rest (more_names_on s t.lexeme)
f_more_names l signs.Semicolon t ts rest (zero, (m, none, (p, e))) =
    by_token (λ x us. Accepts l t us rest (more_names_on signs.Semicolon x)) (none ∙ e)
    (none_opens l, no_arm l, refl)
f_more_names l signs.Semicolon t ts rest (suc k, (m, (m1, (c, (p, e), name), others), final)) =
    by_token (λ x us. Accepts l t us rest (more_names_on signs.Semicolon x)) e
    (none_opens l, no_arm l, (m1, name, (rest, (k, (m, others, final)), refl)))
f_more_names l signs.CloseBrace t ts rest (zero, (m, none, (p, e))) =
    by_token (λ x us. Accepts l t us rest (more_names_on signs.CloseBrace x)) (none ∙ e)
    (none_opens l, no_arm l, refl)
f_more_names l signs.CloseBrace t ts rest (suc k, (m, (m1, (c, (p, e), name), others), final)) =
    by_token (λ x us. Accepts l t us rest (more_names_on signs.CloseBrace x)) e
    (none_opens l, no_arm l, (m1, name, (rest, (k, (m, others, final)), refl)))
f_more_names l s t ts rest is = absurd is

b_more_names : (l : Limits) (s : SignKind) (x : Lexeme) (p : Place) (ts rest : List Placed)
    → Accepts l (placed x p) ts rest (more_names_on s x)
    → more_names_form l s (placed x p ∷ ts) rest
b_more_names l signs.Semicolon (sign signs.Semicolon) p ts rest is =
    loop_closes (a_sign signs.Comma ⨾ some_name) (sign signs.Semicolon) p ts rest is.2
b_more_names l signs.Semicolon (sign signs.Comma) p ts rest
    (opens, arm, (m1, name, again)) =
    loop_goes_on (a_sign signs.Comma ⨾ some_name) (a_sign signs.Semicolon)
    (placed (sign signs.Comma) p ∷ ts) m1 rest (ts, (p, refl), name) again
b_more_names l signs.CloseBrace (sign signs.CloseBrace) p ts rest is =
    loop_closes (a_sign signs.Comma ⨾ some_name) (sign signs.CloseBrace) p ts rest is.2
b_more_names l signs.CloseBrace (sign signs.Comma) p ts rest
    (opens, arm, (m1, name, again)) =
    loop_goes_on (a_sign signs.Comma ⨾ some_name) (a_sign signs.CloseBrace)
    (placed (sign signs.Comma) p ∷ ts) m1 rest (ts, (p, refl), name) again
b_more_names l s x p ts rest is = absurd is

none_more_names : (l : Limits) (s : SignKind) (rest : List Placed) → more_names_form l s [] rest → ⊥
none_more_names l signs.Semicolon rest (zero, (m, none, (p, e))) = no_token (none ∙ e)
none_more_names l signs.Semicolon rest (suc k, (m, (m1, (c, (p, e), name), others), final)) =
    no_token e
none_more_names l signs.CloseBrace rest (zero, (m, none, (p, e))) = no_token (none ∙ e)
none_more_names l signs.CloseBrace rest (suc k, (m, (m1, (c, (p, e), name), others), final)) =
    no_token e
none_more_names l s rest is = absurd is

-- ---- no statement without tokens

none_statement : (l : Limits) (n : ℕ) (rest : List Placed) → statement_form l n [] rest → ⊥
none_statement l n rest (null, (p, e)) = no_token e
none_statement l n rest (assignment [] q b v, (at, is)) = at
none_statement l n rest (assignment (a ∷ []) q b v, (at, (m, inl (m1, (free, e), bits), behind))) =
    no_token e
none_statement l n rest (assignment (a ∷ b ∷ bs) q c v, (at, (m, inl never, behind))) = never
none_statement l n rest (assignment (a ∷ bs) q b v, (at, (m, inr (m1, (p, e), targets), behind))) =
    no_token e
none_statement l n rest (block ss, (opens, (m, (p, e), behind))) = no_token e
none_statement l n rest (if_only q c s, (opens, (m, e, behind))) = no_token e
none_statement l n rest (if_else q c s u, (opens, (m, e, behind))) = no_token e
none_statement l n rest (case_of q v cs, (opens, (m, e, behind))) = no_token e

none_statements : (l : Limits) (n : ℕ) (rest : List Placed) → statements_form l n [] rest → ⊥
none_statements l n rest (zero, (m, none, (p, e))) = no_token (none ∙ e)
none_statements l n rest (suc k, (m, (m1, is, others), final)) = none_statement l n m1 is

none_arms : (l : Limits) (n before : ℕ) (default : Bool) (rest : List Placed) →
    arms_form l n before default [] rest → ⊥
none_arms l n before default rest (no_arms, (m, (few, same), (p, e))) = no_token (same ∙ e)
none_arms l n before default rest
    (more_arms q [] s cs, (m, (few, (m1, (free, (m2, e, colon)), is)), final)) = no_token e
none_arms l n before default rest
    (more_arms q (v ∷ vs) s cs, (m, (few, (m1, (m2, at, values), is)), final)) = at

none_assigns : (l : Limits) (rest : List Placed) → assigns_form l [] rest → ⊥
none_assigns l rest (inl (p, e)) = no_token e
none_assigns l rest (inr (p, (o, op, e))) = no_token e

-- ---- every symbol

pub f_outer : (l : Limits) (y : Outer) (t : Placed) (ts rest : List Placed) →
    outer_form l y (t ∷ ts) rest → Accepts l t ts rest (outer_on y t.lexeme)
f_outer l (punctuation s) t ts rest is = f_punctuation l s t ts rest is
f_outer l plain_name t ts rest is = f_name l t ts rest is
f_outer l plain_number t ts rest is = f_number l t ts rest is
f_outer l (expression n) t ts rest is = f_expression l n t ts rest is
f_outer l (more_names s) t ts rest is = f_more_names l s t ts rest is
f_outer l more_values t ts rest is = f_more_values l t ts rest is
f_outer l perhaps_lattice t ts rest is = f_perhaps perhaps_lattice tt l t ts rest is
f_outer l lattice_lines t ts rest is = f_lattice_lines l t ts rest is
f_outer l less_equal t ts rest is = f_less_equal l t ts rest is
f_outer l perhaps_maps t ts rest is = f_perhaps_maps l t ts rest is
f_outer l map_name t ts rest is = f_map_name l t ts rest is
f_outer l perhaps_key_range t ts rest is = f_perhaps perhaps_key_range tt l t ts rest is
f_outer l rows t ts rest is = f_rows l t ts rest is
f_outer l perhaps_second_key t ts rest is = f_perhaps perhaps_second_key tt l t ts rest is
f_outer l end_of_map t ts rest is = f_end_of_map l t ts rest is
f_outer l one_module t ts rest is = f_one_module l t ts rest is
f_outer l perhaps_header_parameters t ts rest is =
    f_perhaps perhaps_header_parameters tt l t ts rest is
f_outer l header_parameter t ts rest is = f_header_parameter l t ts rest is
f_outer l later_header_parameter t ts rest is = f_later_header_parameter l t ts rest is
f_outer l more_header_parameters t ts rest is = f_more_header_parameters l t ts rest is
f_outer l parameter_type t ts rest is = f_parameter_type l t ts rest is
f_outer l perhaps_ports t ts rest is = f_perhaps perhaps_ports tt l t ts rest is
f_outer l ports t ts rest is = f_ports l t ts rest is
f_outer l later_port t ts rest is = f_later_port l t ts rest is
f_outer l more_ports t ts rest is = f_more_ports l t ts rest is
f_outer l perhaps_wire t ts rest is = f_perhaps perhaps_wire tt l t ts rest is
f_outer l perhaps_wire_or_reg t ts rest is = f_perhaps_wire_or_reg l t ts rest is
f_outer l perhaps_signed t ts rest is = f_perhaps perhaps_signed tt l t ts rest is
f_outer l perhaps_range t ts rest is = f_perhaps perhaps_range tt l t ts rest is
f_outer l perhaps_label t ts rest is = f_perhaps perhaps_label tt l t ts rest is
f_outer l label_end t ts rest is = f_label_end l t ts rest is
f_outer l perhaps_second_name t ts rest is = f_perhaps perhaps_second_name tt l t ts rest is
f_outer l items t ts rest is = f_items l t ts rest is
f_outer l more_parameters t ts rest is = f_more_parameters l t ts rest is
f_outer l perhaps_value t ts rest is = f_perhaps perhaps_value tt l t ts rest is
f_outer l more_wires t ts rest is = f_more_wires l t ts rest is
f_outer l reg_label t ts rest is = f_reg_label l t ts rest is
f_outer l reg_label_end t ts rest is = f_reg_label_end l t ts rest is
f_outer l reg_name t ts rest is = f_reg_name l t ts rest is
f_outer l behind_reg_name t ts rest is = f_behind_reg_name l t ts rest is
f_outer l label_selector t ts rest is = f_label_selector l t ts rest is
f_outer l memory_name t ts rest is = f_memory_name l t ts rest is
f_outer l assigned t ts rest is = f_assigned l t ts rest is
f_outer l value_or_release t ts rest is = f_value_or_release l t ts rest is
f_outer l later_assigned t ts rest is = f_later_assigned l t ts rest is
f_outer l more_assigned t ts rest is = f_more_assigned l t ts rest is
f_outer l event t ts rest is = f_event l t ts rest is
f_outer l event_inside t ts rest is = f_event_inside l t ts rest is
f_outer l perhaps_overrides t ts rest is = f_perhaps perhaps_overrides tt l t ts rest is
f_outer l overrides t ts rest is = f_overrides l t ts rest is
f_outer l more_named_overrides t ts rest is = f_more_named_overrides l t ts rest is
f_outer l links t ts rest is = f_links l t ts rest is
f_outer l link t ts rest is = f_link l t ts rest is
f_outer l more_named_links t ts rest is = f_more_named_links l t ts rest is
f_outer l more_instances t ts rest is = f_more_instances l t ts rest is
f_outer l (statement n) t ts rest is = f_statement l n t ts rest is
f_outer l (statements n) t ts rest is = f_statements l n t ts rest is
f_outer l perhaps_block_name t ts rest is = f_perhaps perhaps_block_name tt l t ts rest is
f_outer l (perhaps_else n) t ts rest is = f_perhaps (perhaps_else n) tt l t ts rest is
f_outer l (perhaps_bits n) t ts rest is = f_perhaps (perhaps_bits n) tt l t ts rest is
f_outer l (bits_end n) t ts rest is = f_bits_end n l t ts rest is
f_outer l (more_targets n) t ts rest is = f_more_targets n l t ts rest is
f_outer l assigns t ts rest is = f_assigns l t ts rest is
f_outer l (arms n before default) t ts rest is = f_arms l n before default t ts rest is
f_outer l (more_choices n) t ts rest is = f_more_choices n l t ts rest is
f_outer l perhaps_colon t ts rest is = f_perhaps perhaps_colon tt l t ts rest is

pub b_outer : (l : Limits) (y : Outer) (x : Lexeme) (p : Place) (ts rest : List Placed) →
    Accepts l (placed x p) ts rest (outer_on y x) → outer_form l y (placed x p ∷ ts) rest
b_outer l (punctuation s) x p ts rest is = b_punctuation l s x p ts rest is
b_outer l plain_name x p ts rest is = b_name l x p ts rest is
b_outer l plain_number x p ts rest is = b_number l x p ts rest is
b_outer l (expression n) x p ts rest is = b_expression l n x p ts rest is
b_outer l (more_names s) x p ts rest is = b_more_names l s x p ts rest is
b_outer l more_values x p ts rest is = b_more_values l x p ts rest is
b_outer l perhaps_lattice x p ts rest is = b_perhaps perhaps_lattice tt l x p ts rest is
b_outer l lattice_lines x p ts rest is = b_lattice_lines l x p ts rest is
b_outer l less_equal x p ts rest is = b_less_equal l x p ts rest is
b_outer l perhaps_maps x p ts rest is = b_perhaps_maps l x p ts rest is
b_outer l map_name x p ts rest is = b_map_name l x p ts rest is
b_outer l perhaps_key_range x p ts rest is = b_perhaps perhaps_key_range tt l x p ts rest is
b_outer l rows x p ts rest is = b_rows l x p ts rest is
b_outer l perhaps_second_key x p ts rest is = b_perhaps perhaps_second_key tt l x p ts rest is
b_outer l end_of_map x p ts rest is = b_end_of_map l x p ts rest is
b_outer l one_module x p ts rest is = b_one_module l x p ts rest is
b_outer l perhaps_header_parameters x p ts rest is =
    b_perhaps perhaps_header_parameters tt l x p ts rest is
b_outer l header_parameter x p ts rest is = b_header_parameter l x p ts rest is
b_outer l later_header_parameter x p ts rest is = b_later_header_parameter l x p ts rest is
b_outer l more_header_parameters x p ts rest is = b_more_header_parameters l x p ts rest is
b_outer l parameter_type x p ts rest is = b_parameter_type l x p ts rest is
b_outer l perhaps_ports x p ts rest is = b_perhaps perhaps_ports tt l x p ts rest is
b_outer l ports x p ts rest is = b_ports l x p ts rest is
b_outer l later_port x p ts rest is = b_later_port l x p ts rest is
b_outer l more_ports x p ts rest is = b_more_ports l x p ts rest is
b_outer l perhaps_wire x p ts rest is = b_perhaps perhaps_wire tt l x p ts rest is
b_outer l perhaps_wire_or_reg x p ts rest is = b_perhaps_wire_or_reg l x p ts rest is
b_outer l perhaps_signed x p ts rest is = b_perhaps perhaps_signed tt l x p ts rest is
b_outer l perhaps_range x p ts rest is = b_perhaps perhaps_range tt l x p ts rest is
b_outer l perhaps_label x p ts rest is = b_perhaps perhaps_label tt l x p ts rest is
b_outer l label_end x p ts rest is = b_label_end l x p ts rest is
b_outer l perhaps_second_name x p ts rest is = b_perhaps perhaps_second_name tt l x p ts rest is
b_outer l items x p ts rest is = b_items l x p ts rest is
b_outer l more_parameters x p ts rest is = b_more_parameters l x p ts rest is
b_outer l perhaps_value x p ts rest is = b_perhaps perhaps_value tt l x p ts rest is
b_outer l more_wires x p ts rest is = b_more_wires l x p ts rest is
b_outer l reg_label x p ts rest is = b_reg_label l x p ts rest is
b_outer l reg_label_end x p ts rest is = b_reg_label_end l x p ts rest is
b_outer l reg_name x p ts rest is = b_reg_name l x p ts rest is
b_outer l behind_reg_name x p ts rest is = b_behind_reg_name l x p ts rest is
b_outer l label_selector x p ts rest is = b_label_selector l x p ts rest is
b_outer l memory_name x p ts rest is = b_memory_name l x p ts rest is
b_outer l assigned x p ts rest is = b_assigned l x p ts rest is
b_outer l value_or_release x p ts rest is = b_value_or_release l x p ts rest is
b_outer l later_assigned x p ts rest is = b_later_assigned l x p ts rest is
b_outer l more_assigned x p ts rest is = b_more_assigned l x p ts rest is
b_outer l event x p ts rest is = b_event l x p ts rest is
b_outer l event_inside x p ts rest is = b_event_inside l x p ts rest is
b_outer l perhaps_overrides x p ts rest is = b_perhaps perhaps_overrides tt l x p ts rest is
b_outer l overrides x p ts rest is = b_overrides l x p ts rest is
b_outer l more_named_overrides x p ts rest is = b_more_named_overrides l x p ts rest is
b_outer l links x p ts rest is = b_links l x p ts rest is
b_outer l link x p ts rest is = b_link l x p ts rest is
b_outer l more_named_links x p ts rest is = b_more_named_links l x p ts rest is
b_outer l more_instances x p ts rest is = b_more_instances l x p ts rest is
b_outer l (statement n) x p ts rest is = b_statement l n x p ts rest is
b_outer l (statements n) x p ts rest is = b_statements l n x p ts rest is
b_outer l perhaps_block_name x p ts rest is = b_perhaps perhaps_block_name tt l x p ts rest is
b_outer l (perhaps_else n) x p ts rest is = b_perhaps (perhaps_else n) tt l x p ts rest is
b_outer l (perhaps_bits n) x p ts rest is = b_perhaps (perhaps_bits n) tt l x p ts rest is
b_outer l (bits_end n) x p ts rest is = b_bits_end n l x p ts rest is
b_outer l (more_targets n) x p ts rest is = b_more_targets n l x p ts rest is
b_outer l assigns x p ts rest is = b_assigns l x p ts rest is
b_outer l (arms n before default) x p ts rest is = b_arms l n before default x p ts rest is
b_outer l (more_choices n) x p ts rest is = b_more_choices n l x p ts rest is
b_outer l perhaps_colon x p ts rest is = b_perhaps perhaps_colon tt l x p ts rest is

pub none_outer : (l : Limits) (y : Outer) (rest : List Placed) → outer_form l y [] rest →
    IsTrue (may_be_empty (outer y)) × ([] ≡ rest)
none_outer l (punctuation s) rest is = absurd (none_punctuation s rest is)
none_outer l plain_name rest (x, (p, (free, e))) = absurd (no_token e)
none_outer l plain_number rest (v, (p, e)) = absurd (no_token e)
none_outer l (expression n) rest is = absurd (no_expression l n rest is)
none_outer l (more_names s) rest is = absurd (none_more_names l s rest is)
none_outer l more_values rest is = absurd (none_more_values l rest is)
none_outer l perhaps_lattice rest is = (refl, none_perhaps perhaps_lattice tt l rest is)
none_outer l lattice_lines rest is = absurd (none_lattice_lines l rest is)
none_outer l less_equal rest (p, (o, op, e)) = absurd (no_token e)
none_outer l perhaps_maps rest is = (refl, none_perhaps_maps l rest is)
none_outer l map_name rest is = absurd (none_map_name l rest is)
none_outer l perhaps_key_range rest is = (refl, none_perhaps perhaps_key_range tt l rest is)
none_outer l rows rest is = absurd (none_rows l rest is)
none_outer l perhaps_second_key rest is = (refl, none_perhaps perhaps_second_key tt l rest is)
none_outer l end_of_map rest (m, (p, e), behind) = absurd (no_token e)
none_outer l one_module rest is = absurd (none_one_module l rest is)
none_outer l perhaps_header_parameters rest is =
    (refl, none_perhaps perhaps_header_parameters tt l rest is)
none_outer l header_parameter rest (m, (p, e), behind) = absurd (no_token e)
none_outer l later_header_parameter rest is = absurd (none_later_header_parameter l rest is)
none_outer l more_header_parameters rest is = absurd (none_more_header_parameters l rest is)
none_outer l parameter_type rest is = (refl, none_parameter_type l rest is)
none_outer l perhaps_ports rest is = (refl, none_perhaps perhaps_ports tt l rest is)
none_outer l ports rest is = absurd (none_ports l rest is)
none_outer l later_port rest is = absurd (none_later_port l rest is)
none_outer l more_ports rest is = absurd (none_more_ports l rest is)
none_outer l perhaps_wire rest is = (refl, none_perhaps perhaps_wire tt l rest is)
none_outer l perhaps_wire_or_reg rest is = (refl, none_perhaps_wire_or_reg l rest is)
none_outer l perhaps_signed rest is = (refl, none_perhaps perhaps_signed tt l rest is)
none_outer l perhaps_range rest is = (refl, none_perhaps perhaps_range tt l rest is)
none_outer l perhaps_label rest is = (refl, none_perhaps perhaps_label tt l rest is)
none_outer l label_end rest is = absurd (none_label_end l rest is)
none_outer l perhaps_second_name rest is = (refl, none_perhaps perhaps_second_name tt l rest is)
none_outer l items rest is = absurd (none_items l rest is)
none_outer l more_parameters rest is = absurd (none_more_parameters l rest is)
none_outer l perhaps_value rest is = (refl, none_perhaps perhaps_value tt l rest is)
none_outer l more_wires rest is = absurd (none_more_wires l rest is)
none_outer l reg_label rest is = absurd (none_reg_label l rest is)
none_outer l reg_label_end rest is = absurd (none_reg_label_end l rest is)
none_outer l reg_name rest is = absurd (none_reg_name l rest is)
none_outer l behind_reg_name rest is = absurd (none_behind_reg_name l rest is)
none_outer l label_selector rest is = absurd (none_label_selector l rest is)
none_outer l memory_name rest is = absurd (none_memory_name l rest is)
none_outer l assigned rest is = absurd (none_assigned l rest is)
none_outer l value_or_release rest is = absurd (none_value_or_release l rest is)
none_outer l later_assigned rest is = absurd (none_later_assigned l rest is)
none_outer l more_assigned rest is = absurd (none_more_assigned l rest is)
none_outer l event rest is = absurd (none_event l rest is)
none_outer l event_inside rest is = absurd (none_event_inside l rest is)
none_outer l perhaps_overrides rest is = (refl, none_perhaps perhaps_overrides tt l rest is)
none_outer l overrides rest is = absurd (none_overrides l rest is)
none_outer l more_named_overrides rest is = absurd (none_more_named_overrides l rest is)
none_outer l links rest is = absurd (none_links l rest is)
none_outer l link rest is = absurd (none_link l rest is)
none_outer l more_named_links rest is = absurd (none_more_named_links l rest is)
none_outer l more_instances rest is = absurd (none_more_instances l rest is)
none_outer l (statement n) rest is = absurd (none_statement l n rest is)
none_outer l (statements n) rest is = absurd (none_statements l n rest is)
none_outer l perhaps_block_name rest is = (refl, none_perhaps perhaps_block_name tt l rest is)
none_outer l (perhaps_else n) rest is = (refl, none_perhaps (perhaps_else n) tt l rest is)
none_outer l (perhaps_bits n) rest is = (refl, none_perhaps (perhaps_bits n) tt l rest is)
none_outer l (bits_end n) rest is = absurd (none_bits_end n l rest is)
none_outer l (more_targets n) rest is = absurd (none_more_targets n l rest is)
none_outer l assigns rest is = absurd (none_assigns l rest is)
none_outer l (arms n before default) rest is = absurd (none_arms l n before default rest is)
none_outer l (more_choices n) rest is = absurd (none_more_choices n l rest is)
none_outer l perhaps_colon rest is = (refl, none_perhaps perhaps_colon tt l rest is)

pub empty_outer : (l : Limits) (y : Outer) → IsTrue (may_be_empty (outer y)) → outer_form l y [] []
empty_outer l perhaps_lattice may = inl (tt, refl)
empty_outer l perhaps_maps may = (zero, ([], refl, (tt, refl)))
empty_outer l perhaps_key_range may = inl (tt, refl)
empty_outer l perhaps_second_key may = inl (tt, refl)
empty_outer l perhaps_header_parameters may = inl (tt, refl)
empty_outer l parameter_type may = inl (tt, refl)
empty_outer l perhaps_ports may = inl (tt, refl)
empty_outer l perhaps_wire may = inl (tt, refl)
empty_outer l perhaps_wire_or_reg may = inl (tt, refl)
empty_outer l perhaps_signed may = inl (tt, refl)
empty_outer l perhaps_range may = inl (tt, refl)
empty_outer l perhaps_label may = inl (tt, refl)
empty_outer l perhaps_second_name may = inl (tt, refl)
empty_outer l perhaps_value may = inl (tt, refl)
empty_outer l perhaps_overrides may = inl (tt, refl)
empty_outer l perhaps_block_name may = inl (tt, refl)
empty_outer l (perhaps_else n) may = inl (tt, refl)
empty_outer l (perhaps_bits n) may = inl (tt, refl)
empty_outer l perhaps_colon may = inl (tt, refl)
empty_outer l y may = absurd (false≢true may)
