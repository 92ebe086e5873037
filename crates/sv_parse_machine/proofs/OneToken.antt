-- What a token and those behind it are to a symbol that may be left out, and that one token alone
-- begins, is what the symbol's form says of them.
use Rattle.std.proofs.Common.{◌≡◌, List, [], ◌∷◌, ⊎_elim, inl, inr, sym, ap, subst, ◌∙◌}
use Rattle.sv_num.specs.declared.faults.Place.{Place}
use Rattle.sv_token.specs.Lexemes.{Lexeme, Placed}
use Rattle.sv_ast.specs.GrammarForms.{Form, ◌⨾◌, ◌or◌, somewhere, lexeme_at}
use Rattle.sv_ast.specs.GrammarExpressions.{Limits}
use Rattle.sv_parse_machine.specs.Symbols.{Outer, takes_all}
use Rattle.sv_parse_machine.specs.Machine.{outer_on}
use Rattle.sv_parse_machine.proofs.InnerSteps.{placed, no_token, none_opens, no_arm}
use Rattle.sv_parse_machine.proofs.OuterForms.{IsOver, skip_form, outer_forms, Accepts}
use Rattle.sv_parse_machine.proofs.OuterTokens.{by_row, skipped}
use Rattle.sv_parse_machine.proofs.SkippedRows.{OneToken, first_of, others_of, row_of_first}
use Rattle.sv_parse_machine.proofs.SkippedRows.{only_first}

-- none of its tokens, or its first one and the others behind it
abbrev pub perhaps_form : (y : Outer) → OneToken y → Limits → Form
perhaps_form y one l =
    skip_form (outer_on y)
    or (somewhere (lexeme_at (first_of y one)) ⨾ outer_forms l (others_of y one))

pub f_perhaps : (y : Outer) (one : OneToken y) (l : Limits) (t : Placed) (ts rest : List Placed) →
    perhaps_form y one l (t ∷ ts) rest → Accepts l t ts rest (outer_on y t.lexeme)
f_perhaps y one l t ts rest (inl (none, same)) = skipped l t ts rest (outer_on y t.lexeme) none same
f_perhaps y one l t ts rest (inr (m, (p, e), behind)) =
    by_row l t rest (outer_on y) e
    (subst (Accepts l t m rest) (sym (row_of_first y one).0) (none_opens l, no_arm l, behind))

pub b_perhaps : (y : Outer) (one : OneToken y) (l : Limits) (x : Lexeme) (p : Place)
    (ts rest : List Placed)
    → Accepts l (placed x p) ts rest (outer_on y x)
    → perhaps_form y one l (placed x p ∷ ts) rest
b_perhaps y one l x p ts rest is = ⊎_elim
    (λ first.
    let taken : Accepts l (placed x p) ts rest (takes_all (others_of y one)) =
    subst (Accepts l (placed x p) ts rest) (ap (outer_on y) first ∙ (row_of_first y one).0) is in
    inr (ts, (p, ap (λ z. placed z p ∷ ts) first), taken.2))
    (λ none.
    inl (subst IsOver (sym none) tt, subst (Accepts l (placed x p) ts rest) none is))
    (only_first y one x)

pub none_perhaps : (y : Outer) (one : OneToken y) (l : Limits) (rest : List Placed) →
    perhaps_form y one l [] rest → [] ≡ rest
none_perhaps y one l rest (inl (none, same)) = same
none_perhaps y one l rest (inr (m, (p, e), behind)) = absurd (no_token e)
