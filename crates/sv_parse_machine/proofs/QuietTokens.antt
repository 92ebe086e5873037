-- What begins quietly: behind it nothing that may be left out comes.
use Rattle.std.proofs.Common.{◌≡◌, zero, Bool, true, false, List, [], ◌∷◌, ⊎_elim, inl, refl, sym}
use Rattle.std.proofs.Common.{ap, subst, ◌∙◌}
use Rattle.std.specs.Prelude.{IsTrue}
use Rattle.std.proofs.lemmas.Bool.{false≢true}
use Rattle.sv_token.specs.declared.keywords.WordKind.TheVariants as words
use Rattle.sv_token.specs.declared.signs.SignKind.TheVariants as signs
use Rattle.sv_token.specs.Lexemes.{Lexeme, word, sign, Placed}
use Rattle.sv_ast.specs.GrammarExpressions.{Limits}
use Rattle.sv_parse_machine.specs.Symbols.{Outer, perhaps_maps, OuterReaction}
use Rattle.sv_parse_machine.specs.Machine.{outer_on}
use Rattle.sv_parse_machine.specs.ModuleTable.{perhaps_maps_on, parameter_type_on}
use Rattle.sv_parse_machine.specs.ModuleTable.{perhaps_wire_or_reg_on}
use Rattle.sv_parse_machine.proofs.ExpressionForms.{Next, ends_tail, ends_name}
use Rattle.sv_parse_machine.proofs.OuterForms.{IsOver, skip_form, perhaps_maps_form}
use Rattle.sv_parse_machine.proofs.OuterForms.{parameter_type_form, perhaps_wire_or_reg_form}
use Rattle.sv_parse_machine.proofs.SkippedRows.{OneToken, first_of, only_first}
use Rattle.sv_parse_machine.proofs.OneToken.{perhaps_form}

-- begins nothing that may be left out behind a name or an expression
abbrev pub is_quiet : Lexeme → Bool
is_quiet (sign signs.Question) = false
is_quiet (sign (signs.Operator o)) = false
is_quiet (sign signs.OpenBracket) = false
is_quiet (sign signs.Dot) = false
is_quiet (sign signs.OpenBrace) = false
is_quiet (sign signs.Hash) = false
is_quiet (word words.Lattice) = false
is_quiet (word words.Labelmap) = false
is_quiet (word words.Signed) = false
is_quiet (word words.Wire) = false
is_quiet (word words.Reg) = false
is_quiet (word words.Else) = false
is_quiet x = true

abbrev pub Quiet : List Placed → Type 0
Quiet ts = Next (λ x. IsTrue (is_quiet x)) ts

next_by : (P Q : Lexeme → Type 0) → ((x : Lexeme) → P x → Q x) → (ts : List Placed) → Next P ts →
    Next Q ts
next_by P Q f [] next = tt
next_by P Q f (t ∷ ts) next = f t.lexeme next

pub quiet_tail : (x : Lexeme) → IsTrue (is_quiet x) → ends_tail x
quiet_tail (sign signs.Question) quiet = absurd (false≢true quiet)
quiet_tail (sign (signs.Operator o)) quiet = absurd (false≢true quiet)
quiet_tail x quiet = tt

pub quiet_name : (x : Lexeme) → IsTrue (is_quiet x) → ends_name x
quiet_name (sign signs.OpenBracket) quiet = absurd (false≢true quiet)
quiet_name (sign signs.Dot) quiet = absurd (false≢true quiet)
quiet_name x quiet = tt

pub ends_tail_quietly : (ts : List Placed) → Quiet ts → Next ends_tail ts
ends_tail_quietly ts quiet = next_by (λ x. IsTrue (is_quiet x)) ends_tail quiet_tail ts quiet

pub ends_name_quietly : (ts : List Placed) → Quiet ts → Next ends_name ts
ends_name_quietly ts quiet = next_by (λ x. IsTrue (is_quiet x)) ends_name quiet_name ts quiet

-- where nothing that the symbol takes comes, it is over
skips_quietly : (on : Lexeme → OuterReaction) → ((x : Lexeme) → IsTrue (is_quiet x) → IsOver (on x))
    → (ts : List Placed) → Quiet ts → skip_form on ts ts
skips_quietly on row ts quiet =
    (next_by (λ x. IsTrue (is_quiet x)) (λ x. IsOver (on x)) row ts quiet, refl)

-- before a quiet token a symbol is over that one token alone begins, which is not quiet
quiet_over : (y : Outer) (one : OneToken y) → is_quiet (first_of y one) ≡ false → (x : Lexeme) →
    IsTrue (is_quiet x) → IsOver (outer_on y x)
quiet_over y one loud x quiet = ⊎_elim
    (λ first. absurd (false≢true (sym loud ∙ ap is_quiet (sym first) ∙ quiet)))
    (λ none. subst IsOver (sym none) tt) (only_first y one x)

pub skip_perhaps : (y : Outer) (one : OneToken y) → is_quiet (first_of y one) ≡ false →
    (l : Limits) (ts : List Placed) → Quiet ts → perhaps_form y one l ts ts
skip_perhaps y one loud l ts quiet =
    inl (skips_quietly (outer_on y) (quiet_over y one loud) ts quiet)

pub skip_perhaps_maps : (l : Limits) (ts : List Placed) → Quiet ts → perhaps_maps_form l ts ts
skip_perhaps_maps l ts quiet =
    (zero, (ts, refl, skips_quietly perhaps_maps_on (quiet_over perhaps_maps tt refl) ts quiet))

quiet_parameter_type : (x : Lexeme) → IsTrue (is_quiet x) → IsOver (parameter_type_on x)
quiet_parameter_type (word words.Signed) quiet = absurd (false≢true quiet)
quiet_parameter_type (sign signs.OpenBracket) quiet = absurd (false≢true quiet)
quiet_parameter_type x quiet = tt

pub skip_parameter_type : (l : Limits) (ts : List Placed) → Quiet ts → parameter_type_form l ts ts
skip_parameter_type l ts quiet =
    inl (skips_quietly parameter_type_on quiet_parameter_type ts quiet)

quiet_perhaps_wire_or_reg : (x : Lexeme) → IsTrue (is_quiet x) → IsOver (perhaps_wire_or_reg_on x)
quiet_perhaps_wire_or_reg (word words.Wire) quiet = absurd (false≢true quiet)
quiet_perhaps_wire_or_reg (word words.Reg) quiet = absurd (false≢true quiet)
quiet_perhaps_wire_or_reg x quiet = tt

pub skip_perhaps_wire_or_reg : (l : Limits) (ts : List Placed) → Quiet ts →
    perhaps_wire_or_reg_form l ts ts
skip_perhaps_wire_or_reg l ts quiet =
    inl (skips_quietly perhaps_wire_or_reg_on quiet_perhaps_wire_or_reg ts quiet)
