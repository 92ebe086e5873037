-- Parts of statements: from forms to steps, and back.
use Rattle.std.proofs.Common.{ℕ, zero, suc, [], ◌∷◌, inl, inr, refl, ◌∙◌}
use Rattle.sv_token.specs.declared.signs.SignKind.TheVariants as signs
use Rattle.sv_token.specs.Lexemes.{sign}
use Rattle.sv_parse_machine.specs.Symbols.{punctuation, expression, more_choices}
use Rattle.sv_parse_machine.specs.StatementTable.{bits_end_on, more_targets_on, more_choices_on}
use Rattle.sv_parse_machine.proofs.InnerSteps.{placed, no_token, none_opens, no_arm}
use Rattle.sv_parse_machine.proofs.OuterForms.{bits_end_form, more_targets_row, more_targets_end}
use Rattle.sv_parse_machine.proofs.OuterForms.{more_targets_form, more_choices_row}
use Rattle.sv_parse_machine.proofs.OuterForms.{more_choices_end, more_choices_form}
use Rattle.sv_parse_machine.proofs.OuterTokens.{StepsBy, FormsBy, NeedsToken, by_row, f_either}
use Rattle.sv_parse_machine.proofs.OuterTokens.{f_commas, loop_closes, loop_goes_on}

pub f_bits_end : (n : ℕ) → StepsBy (bits_end_on n) (λ l. bits_end_form l n)
f_bits_end n =
    f_either (bits_end_on n) (sign signs.CloseBracket) [] (sign signs.Colon)
    (expression n ∷ punctuation signs.CloseBracket ∷ []) refl refl

pub b_bits_end : (n : ℕ) → FormsBy (bits_end_on n) (λ l. bits_end_form l n)
b_bits_end n l (sign signs.CloseBracket) p ts rest is = inl (ts, (p, refl), is.2)
b_bits_end n l (sign signs.Colon) p ts rest is = inr (ts, (p, refl), is.2)
b_bits_end n l x p ts rest is = absurd is

pub none_bits_end : (n : ℕ) → NeedsToken (λ l. bits_end_form l n)
none_bits_end n l rest (inl (m, (p, e), behind)) = no_token e
none_bits_end n l rest (inr (m, (p, e), behind)) = no_token e

pub f_more_targets : (n : ℕ) → StepsBy (more_targets_on n) (λ l. more_targets_form l n)
f_more_targets n l t ts rest (zero, (m, none, (p, e))) =
    by_row l t rest (more_targets_on n) (none ∙ e) (none_opens l, no_arm l, refl)
f_more_targets n l t ts rest (suc k, (m, (m1, (m0, (p, e), (q0, a0, a1)), others), final)) =
    by_row l t rest (more_targets_on n) e
    (none_opens l, no_arm l, (q0, a0, (m1, a1, (rest, (k, (m, others, final)), refl))))

pub b_more_targets : (n : ℕ) → FormsBy (more_targets_on n) (λ l. more_targets_form l n)
b_more_targets n l (sign signs.CloseBrace) p ts rest is =
    loop_closes (more_targets_row l n) (sign signs.CloseBrace) p ts rest is.2
b_more_targets n l (sign signs.Comma) p ts rest (opens, arm, (q0, a0, (m1, a1, again))) =
    loop_goes_on (more_targets_row l n) (more_targets_end l n) (placed (sign signs.Comma) p ∷ ts)
    m1 rest (ts, (p, refl), (q0, a0, a1)) again
b_more_targets n l x p ts rest is = absurd is

pub none_more_targets : (n : ℕ) → NeedsToken (λ l. more_targets_form l n)
none_more_targets n l rest (zero, (m, none, (p, e))) = no_token (none ∙ e)
none_more_targets n l rest (suc k, (m, (m1, (m0, (p, e), behind), others), final)) = no_token e

pub f_more_choices : (n : ℕ) → StepsBy (more_choices_on n) (λ l. more_choices_form l n)
f_more_choices n l t ts rest is =
    f_commas (more_choices_on n) (expression n) (more_choices n) signs.Colon l t ts rest
    refl refl (λ us is. is) is

pub b_more_choices : (n : ℕ) → FormsBy (more_choices_on n) (λ l. more_choices_form l n)
b_more_choices n l (sign signs.Colon) p ts rest is =
    loop_closes (more_choices_row l n) (sign signs.Colon) p ts rest is.2
b_more_choices n l (sign signs.Comma) p ts rest (opens, arm, (m1, a0, again)) =
    loop_goes_on (more_choices_row l n) (more_choices_end l n) (placed (sign signs.Comma) p ∷ ts)
    m1 rest (ts, (p, refl), a0) again
b_more_choices n l x p ts rest is = absurd is

pub none_more_choices : (n : ℕ) → NeedsToken (λ l. more_choices_form l n)
none_more_choices n l rest (zero, (m, none, (p, e))) = no_token (none ∙ e)
none_more_choices n l rest (suc k, (m, (m1, (m0, (p, e), behind), others), final)) = no_token e
