-- Every symbol can be completed without opening a level.
use Rattle.std.proofs.Common.{ℕ, zero, suc, ◌-◌, ◌≤◌, max, Bool, true, false, not, List, [], ◌∷◌}
use Rattle.std.proofs.Common.{◌++◌, length, Option, Some, None, inl, inr, refl, arith}
use Rattle.sv_token.specs.declared.keywords.WordKind.TheVariants as words
use Rattle.sv_token.specs.declared.signs.SignKind.{SignKind}
use Rattle.sv_token.specs.declared.signs.SignKind.TheVariants as signs
use Rattle.sv_token.specs.Lexemes.{Literal, Lexeme, word, identifier, numeral, sign, Placed}
use Rattle.sv_parse_machine.specs.Symbols.{punctuation, plain_name, plain_number, expression, more_names}
use Rattle.sv_parse_machine.specs.Symbols.{more_values, perhaps_lattice, lattice_lines, less_equal}
use Rattle.sv_parse_machine.specs.Symbols.{perhaps_maps, map_name, perhaps_key_range, rows}
use Rattle.sv_parse_machine.specs.Symbols.{perhaps_second_key, end_of_map, one_module}
use Rattle.sv_parse_machine.specs.Symbols.{perhaps_header_parameters, header_parameter}
use Rattle.sv_parse_machine.specs.Symbols.{later_header_parameter, more_header_parameters, parameter_type}
use Rattle.sv_parse_machine.specs.Symbols.{perhaps_ports, ports, later_port, more_ports, perhaps_wire}
use Rattle.sv_parse_machine.specs.Symbols.{perhaps_wire_or_reg, perhaps_signed, perhaps_range}
use Rattle.sv_parse_machine.specs.Symbols.{perhaps_label, label_end, perhaps_second_name, items}
use Rattle.sv_parse_machine.specs.Symbols.{more_parameters, perhaps_value, more_wires, reg_label}
use Rattle.sv_parse_machine.specs.Symbols.{reg_label_end, reg_name, behind_reg_name, label_selector}
use Rattle.sv_parse_machine.specs.Symbols.{memory_name, assigned, value_or_release, later_assigned}
use Rattle.sv_parse_machine.specs.Symbols.{more_assigned, event, event_inside, perhaps_overrides}
use Rattle.sv_parse_machine.specs.Symbols.{overrides, more_named_overrides, links, link, more_named_links}
use Rattle.sv_parse_machine.specs.Symbols.{more_instances, statement, statements, perhaps_block_name}
use Rattle.sv_parse_machine.specs.Symbols.{perhaps_else, perhaps_bits, bits_end, more_targets, assigns}
use Rattle.sv_parse_machine.specs.Symbols.{arms, more_choices, perhaps_colon, Outer}
use Rattle.sv_parse_machine.proofs.ExpressionForms.{expression_form}
use Rattle.sv_parse_machine.proofs.OuterForms.{some_name, more_names_form, arms_form, punctuation_form}
use Rattle.sv_parse_machine.proofs.OuterForms.{outer_form}
use Rattle.sv_token.specs.Words.{is_refused_word}
use Rattle.std.specs.Prelude.{IsTrue, nat_lt, codes}
use Rattle.std.proofs.lemmas.Bool.{false≢true}
use Rattle.sv_token.specs.declared.signs.Operator.{Operator}
use Rattle.sv_token.specs.Tokens.{first_place}
use Rattle.sv_ast.specs.GrammarForms.{◌⨾◌, nothing, a_sign}
use Rattle.sv_ast.specs.GrammarGroups.{literal}
use Rattle.sv_ast.specs.GrammarExpressions.{Limits, is_within}
use Rattle.sv_ast.specs.Tree.{null, no_arms, more_arms}
use Rattle.sv_parse_machine.proofs.StatementForms.{expression_tree}
use Rattle.sv_parse_machine.proofs.QuietTokens.{is_quiet, Quiet, ends_tail_quietly, skip_perhaps}
use Rattle.sv_parse_machine.proofs.QuietTokens.{skip_perhaps_maps, skip_parameter_type}
use Rattle.sv_parse_machine.proofs.QuietTokens.{skip_perhaps_wire_or_reg}

-- ---- tokens that complete

abbrev pub a_token : Lexeme → Placed
a_token x = record { lexeme = x; place = first_place }

abbrev pub short_name : List ℕ
short_name = codes "a"

abbrev pub a_name : Placed
a_name = a_token (identifier short_name)

abbrev pub zero_literal : Literal
zero_literal = record { width = 32; signed = true; value = 0; sized = false }

abbrev pub a_number : Placed
a_number = a_token (numeral zero_literal)

-- `<=`
abbrev pub less_equal_sign : Operator
less_equal_sign = record { binary = Some 10; unary = None }

abbrev pub is_sane : Outer → Bool
is_sane (punctuation (signs.Operator o)) = false
is_sane (punctuation signs.Question) = false
is_sane (more_names signs.Semicolon) = true
is_sane (more_names signs.CloseBrace) = true
is_sane (more_names s) = false
is_sane y = true

-- may stand below other symbols: what completes it begins quietly
abbrev pub is_plain : Outer → Bool
is_plain (punctuation s) = is_quiet (sign s)
is_plain less_equal = false
is_plain (more_names signs.Semicolon) = true
is_plain (more_names signs.CloseBrace) = true
is_plain (more_names s) = false
is_plain y = true

abbrev pub closing_arms : ℕ → List Placed
closing_arms zero =
    a_number ∷ a_token (sign signs.Colon) ∷ a_token (sign signs.Semicolon) ∷
    a_token (word words.Endcase) ∷ []
closing_arms (suc k) = a_token (word words.Endcase) ∷ []

-- tokens that complete a symbol, none of which opens a level
abbrev pub closing : Outer → List Placed
closing (punctuation s) = a_token (sign s) ∷ []
closing plain_name = a_name ∷ []
closing plain_number = a_number ∷ []
closing (expression n) = a_number ∷ []
closing (more_names s) = a_token (sign s) ∷ []
closing more_values = a_token (sign signs.CloseParenthesis) ∷ []
closing perhaps_lattice = []
closing lattice_lines = a_token (word words.Endlattice) ∷ []
closing less_equal = a_token (sign (signs.Operator less_equal_sign)) ∷ []
closing perhaps_maps = []
closing map_name =
    a_name ∷ a_token (sign signs.OpenBracket) ∷ a_number ∷ a_token (sign signs.Colon) ∷ a_number ∷
    a_token (sign signs.CloseBracket) ∷ []
closing perhaps_key_range = []
closing rows = a_token (word words.Endlabelmap) ∷ []
closing perhaps_second_key = a_token (sign signs.Comma) ∷ a_number ∷ []
closing end_of_map = a_token (word words.Endlabelmap) ∷ []
closing one_module =
    a_token (word words.Module) ∷ a_name ∷ a_token (sign signs.Semicolon) ∷
    a_token (word words.Endmodule) ∷ []
closing perhaps_header_parameters = []
closing header_parameter =
    a_token (word words.Parameter) ∷ a_name ∷ a_token (sign signs.Equals) ∷ a_number ∷ []
closing later_header_parameter = a_name ∷ a_token (sign signs.Equals) ∷ a_number ∷ []
closing more_header_parameters = a_token (sign signs.CloseParenthesis) ∷ []
closing parameter_type = []
closing perhaps_ports =
    a_token (sign signs.OpenParenthesis) ∷ a_token (sign signs.CloseParenthesis) ∷ []
closing ports = a_token (sign signs.CloseParenthesis) ∷ []
closing later_port = a_name ∷ []
closing more_ports = a_token (sign signs.CloseParenthesis) ∷ []
closing perhaps_wire = []
closing perhaps_wire_or_reg = []
closing perhaps_signed = []
closing perhaps_range = []
closing perhaps_label = []
closing label_end = a_token (sign signs.CloseBrace) ∷ []
closing perhaps_second_name = a_token (sign signs.Comma) ∷ a_name ∷ []
closing items = a_token (word words.Endmodule) ∷ []
closing more_parameters = a_token (sign signs.Semicolon) ∷ []
closing perhaps_value = a_token (sign signs.Equals) ∷ a_number ∷ []
closing more_wires = a_token (sign signs.Semicolon) ∷ []
closing reg_label = a_name ∷ a_token (sign signs.Semicolon) ∷ []
closing reg_label_end =
    a_token (sign signs.CloseBrace) ∷ a_name ∷ a_token (sign signs.Semicolon) ∷ []
closing reg_name = a_name ∷ a_token (sign signs.Semicolon) ∷ []
closing behind_reg_name = a_token (sign signs.Semicolon) ∷ []
closing label_selector =
    a_name ∷ a_token (sign signs.CloseParenthesis) ∷ a_token (sign signs.CloseBrace) ∷ a_name ∷
    a_token (sign signs.Semicolon) ∷ []
closing memory_name =
    a_name ∷ a_token (sign signs.OpenBracket) ∷ a_number ∷ a_token (sign signs.Colon) ∷ a_number ∷
    a_token (sign signs.CloseBracket) ∷ []
closing assigned =
    a_name ∷ a_token (sign signs.Equals) ∷ a_number ∷ a_token (sign signs.Semicolon) ∷ []
closing value_or_release = a_number ∷ a_token (sign signs.Semicolon) ∷ []
closing later_assigned = a_name ∷ a_token (sign signs.Equals) ∷ a_number ∷ []
closing more_assigned = a_token (sign signs.Semicolon) ∷ []
closing event =
    a_token (sign signs.OpenParenthesis) ∷ a_token (word words.Posedge) ∷ a_name ∷
    a_token (sign signs.CloseParenthesis) ∷ []
closing event_inside =
    a_token (word words.Posedge) ∷ a_name ∷ a_token (sign signs.CloseParenthesis) ∷ []
closing perhaps_overrides = []
closing overrides = a_number ∷ a_token (sign signs.CloseParenthesis) ∷ []
closing more_named_overrides = a_token (sign signs.CloseParenthesis) ∷ []
closing links = a_token (sign signs.CloseParenthesis) ∷ []
closing link = a_token (sign signs.CloseParenthesis) ∷ []
closing more_named_links = a_token (sign signs.CloseParenthesis) ∷ []
closing more_instances = a_token (sign signs.Semicolon) ∷ []
closing (statement n) = a_token (sign signs.Semicolon) ∷ []
closing (statements n) = a_token (word words.End) ∷ []
closing perhaps_block_name = a_token (sign signs.Colon) ∷ a_name ∷ []
closing (perhaps_else n) = []
closing (perhaps_bits n) = []
closing (bits_end n) = a_token (sign signs.CloseBracket) ∷ []
closing (more_targets n) = a_token (sign signs.CloseBrace) ∷ []
closing assigns = a_token (sign signs.Equals) ∷ []
closing (arms n before default) = closing_arms before
closing (more_choices n) = a_token (sign signs.Colon) ∷ []
closing perhaps_colon = a_token (sign signs.Colon) ∷ []

-- ---- they are its form

unread_tokens : (o : Option ℕ) (a b u : ℕ) → a ≤ u → IsTrue (is_within o (a - max b u))
unread_tokens None a b u less = refl
unread_tokens (Some m) a b u less = grind arith

a_value : (l : Limits) (n : ℕ) (us : List Placed) → Quiet us → length (a_number ∷ us) ≤ l.unread →
    expression_form l n (a_number ∷ us) us
a_value l n us quiet less = (
  literal zero_literal first_place,
  refl,
  tt,
  ends_tail_quietly us quiet,
  unread_tokens l.tokens (length (a_number ∷ us)) (length us) l.unread less,
)

short_name_is_free : IsTrue (not (is_refused_word short_name))
unfolding is_refused_word
short_name_is_free = refl

no_words : (l : Limits) (us : List Placed) → some_name (a_name ∷ us) us
no_words l us = (short_name, (first_place, (short_name_is_free, refl)))

closed_punctuation : (s : SignKind) (us : List Placed) → IsTrue (is_sane (punctuation s)) →
    punctuation_form s (a_token (sign s) ∷ us) us
closed_punctuation (signs.Operator o) us sane = absurd (false≢true sane)
closed_punctuation s us sane = (first_place, refl)

closed_names : (l : Limits) (s : SignKind) (us : List Placed) → IsTrue (is_sane (more_names s)) →
    more_names_form l s (a_token (sign s) ∷ us) us
closed_names l signs.Semicolon us sane =
    (zero, (a_token (sign signs.Semicolon) ∷ us, refl, (first_place, refl)))
closed_names l signs.CloseBrace us sane =
    (zero, (a_token (sign signs.CloseBrace) ∷ us, refl, (first_place, refl)))
closed_names l s us sane = absurd (false≢true sane)

some_arm : (k : ℕ) → IsTrue (nat_lt 0 (suc k))
some_arm k = grind arith

closed_arms : (l : Limits) (n before : ℕ) (default : Bool) (us : List Placed)
    → IsTrue (is_within l.arms 1) → length (closing_arms before ++ us) ≤ l.unread
    → arms_form l n before default (closing_arms before ++ us) us
closed_arms l n (suc k) default us few less =
    (no_arms, (a_token (word words.Endcase) ∷ us, (some_arm k, refl), (first_place, refl)))
closed_arms l n zero default us few less =
    let behind : List Placed =
    a_token (sign signs.Colon) ∷ a_token (sign signs.Semicolon) ∷
    a_token (word words.Endcase) ∷ us in
    let value = expression_tree l n (a_number ∷ behind) behind
    (a_value l n behind refl (omega arith)) in (
      more_arms first_place (value.0 ∷ []) null no_arms,
      (
        a_token (word words.Endcase) ∷ us,
        (
          few,
          (
            a_token (sign signs.Semicolon) ∷ a_token (word words.Endcase) ∷ us,
            (
              a_number ∷ behind,
              (refl, refl),
              (behind, (behind, value.1, refl), (first_place, refl)),
            ),
            (a_token (word words.Endcase) ∷ us, (first_place, refl), (refl, refl)),
          ),
        ),
        (first_place, refl),
      ),
    )

-- a name with its value
closed_setting : (l : Limits) (us : List Placed) → Quiet us → length (a_number ∷ us) ≤ l.unread
    → (some_name ⨾ a_sign signs.Equals ⨾ expression_form l 0 ⨾ nothing)
    (a_name ∷ a_token (sign signs.Equals) ∷ a_number ∷ us) us
closed_setting l us quiet less = (
  a_token (sign signs.Equals) ∷ a_number ∷ us,
  no_words l (a_token (sign signs.Equals) ∷ a_number ∷ us),
  (a_number ∷ us, (first_place, refl), (us, a_value l 0 us quiet less, refl)),
)

-- an edge of a clock
closed_edge : (l : Limits) (us : List Placed) →
    outer_form l event_inside (closing event_inside ++ us) us
closed_edge l us =
    inr (
      a_name ∷ a_token (sign signs.CloseParenthesis) ∷
          us,
      (first_place, refl),
      (
        a_token (sign signs.CloseParenthesis) ∷ us,
        no_words l (a_token (sign signs.CloseParenthesis) ∷ us),
        (us, (first_place, refl), refl),
      ),
    )

-- a name with a range behind it
closed_range : (l : Limits) (us : List Placed) → outer_form l map_name (closing map_name ++ us) us
closed_range l us = (
  a_token (sign signs.OpenBracket) ∷ a_number ∷ a_token (sign signs.Colon) ∷ a_number ∷
      a_token (sign signs.CloseBracket) ∷ us,
  (short_name, (first_place, (short_name_is_free, refl))),
  (
    a_number ∷ a_token (sign signs.Colon) ∷ a_number ∷ a_token (sign signs.CloseBracket) ∷
        us,
    (first_place, refl),
    (
      a_token (sign signs.Colon) ∷ a_number ∷
          a_token (sign signs.CloseBracket) ∷
          us,
      (zero_literal, (first_place, refl)),
      (
        a_number ∷ a_token (sign signs.CloseBracket) ∷
            us,
        (first_place, refl),
        (
          a_token (sign signs.CloseBracket) ∷
              us,
          (zero_literal, (first_place, refl)),
          (us, (first_place, refl), refl),
        ),
      ),
    ),
  ),
)

-- the tokens that complete it, and those behind them, are none that were read
pub closed : (l : Limits) (y : Outer) (us : List Placed) → IsTrue (is_within l.arms 1)
    → IsTrue (is_sane y) → Quiet us → length (closing y ++ us) ≤ l.unread
    → outer_form l y (closing y ++ us) us
closed l (punctuation s) us few sane quiet less = closed_punctuation s us sane
closed l plain_name us few sane quiet less = no_words l us
closed l plain_number us few sane quiet less = (zero_literal, (first_place, refl))
closed l (expression n) us few sane quiet less = a_value l n us quiet less
closed l (more_names s) us few sane quiet less = closed_names l s us sane
closed l more_values us few sane quiet less =
    (zero, (a_token (sign signs.CloseParenthesis) ∷ us, refl, (first_place, refl)))
closed l perhaps_lattice us few sane quiet less = skip_perhaps perhaps_lattice tt refl l us quiet
closed l lattice_lines us few sane quiet less =
    (zero, (a_token (word words.Endlattice) ∷ us, refl, (first_place, refl)))
closed l less_equal us few sane quiet less = (first_place, (less_equal_sign, refl, refl))
closed l perhaps_maps us few sane quiet less = skip_perhaps_maps l us quiet
closed l map_name us few sane quiet less = closed_range l us
closed l perhaps_key_range us few sane quiet less = skip_perhaps perhaps_key_range tt refl l us quiet
closed l rows us few sane quiet less =
    (zero, (a_token (word words.Endlabelmap) ∷ us, refl, inr (first_place, refl)))
closed l perhaps_second_key us few sane quiet less =
    inr (a_number ∷ us, (first_place, refl), (us, (zero_literal, (first_place, refl)), refl))
closed l end_of_map us few sane quiet less = (us, (first_place, refl), refl)
closed l one_module us few sane quiet less = (
  a_name ∷ a_token (sign signs.Semicolon) ∷ a_token (word words.Endmodule) ∷
      us,
  (first_place, refl),
  (
    a_token (sign signs.Semicolon) ∷ a_token (word words.Endmodule) ∷
        us,
    (short_name, (first_place, (short_name_is_free, refl))),
    (
      a_token (sign signs.Semicolon) ∷ a_token (word words.Endmodule) ∷
          us,
      skip_perhaps perhaps_header_parameters tt refl l
          (a_token (sign signs.Semicolon) ∷ a_token (word words.Endmodule) ∷ us)
          refl,
      (
        a_token (sign signs.Semicolon) ∷ a_token (word words.Endmodule) ∷
            us,
        inl (tt, refl),
        (
          a_token (word words.Endmodule) ∷
              us,
          (first_place, refl),
          (us, (zero, (a_token (word words.Endmodule) ∷ us, refl, (first_place, refl))), refl),
        ),
      ),
    ),
  ),
)
closed l perhaps_header_parameters us few sane quiet less =
    skip_perhaps perhaps_header_parameters tt refl l us quiet
closed l header_parameter us few sane quiet less = (
  a_name ∷ a_token (sign signs.Equals) ∷ a_number ∷
      us,
  (first_place, refl),
  (
    a_name ∷ a_token (sign signs.Equals) ∷ a_number ∷
        us,
    skip_parameter_type l (a_name ∷ a_token (sign signs.Equals) ∷ a_number ∷ us)
        refl,
    closed_setting l us quiet (omega arith),
  ),
)
closed l later_header_parameter us few sane quiet less =
    inr (closed_setting l us quiet (omega arith))
closed l more_header_parameters us few sane quiet less =
    (zero, (a_token (sign signs.CloseParenthesis) ∷ us, refl, (first_place, refl)))
closed l parameter_type us few sane quiet less = skip_parameter_type l us quiet
closed l perhaps_ports us few sane quiet less =
    inr (
      a_token (sign signs.CloseParenthesis) ∷
          us,
      (first_place, refl),
      (us, inr (inr (us, (first_place, refl), refl)), refl),
    )
closed l ports us few sane quiet less = inr (inr (us, (first_place, refl), refl))
closed l later_port us few sane quiet less =
    inr (inr (us, (short_name, (first_place, (short_name_is_free, refl))), refl))
closed l more_ports us few sane quiet less =
    (zero, (a_token (sign signs.CloseParenthesis) ∷ us, refl, (first_place, refl)))
closed l perhaps_wire us few sane quiet less = skip_perhaps perhaps_wire tt refl l us quiet
closed l perhaps_wire_or_reg us few sane quiet less = skip_perhaps_wire_or_reg l us quiet
closed l perhaps_signed us few sane quiet less = skip_perhaps perhaps_signed tt refl l us quiet
closed l perhaps_range us few sane quiet less = skip_perhaps perhaps_range tt refl l us quiet
closed l perhaps_label us few sane quiet less = skip_perhaps perhaps_label tt refl l us quiet
closed l label_end us few sane quiet less = inl (us, (first_place, refl), refl)
closed l perhaps_second_name us few sane quiet less =
    inr (
      a_name ∷ us,
      (first_place, refl),
      (us, (short_name, (first_place, (short_name_is_free, refl))), refl),
    )
closed l items us few sane quiet less =
    (zero, (a_token (word words.Endmodule) ∷ us, refl, (first_place, refl)))
closed l more_parameters us few sane quiet less =
    (zero, (a_token (sign signs.Semicolon) ∷ us, refl, (first_place, refl)))
closed l perhaps_value us few sane quiet less =
    inr (a_number ∷ us, (first_place, refl), (us, a_value l 0 us quiet (omega arith), refl))
closed l more_wires us few sane quiet less =
    (zero, (a_token (sign signs.Semicolon) ∷ us, refl, (first_place, refl)))
closed l reg_label us few sane quiet less =
    inr (
      a_token (sign signs.Semicolon) ∷
          us,
      (short_name, (first_place, (short_name_is_free, refl))),
      (us, inr (inr (us, (first_place, refl), refl)), refl),
    )
closed l reg_label_end us few sane quiet less =
    inl (
      a_name ∷ a_token (sign signs.Semicolon) ∷
          us,
      (first_place, refl),
      (
        us,
        (
          a_token (sign signs.Semicolon) ∷
              us,
          (short_name, (first_place, (short_name_is_free, refl))),
          (us, inr (inr (us, (first_place, refl), refl)), refl),
        ),
        refl,
      ),
    )
closed l reg_name us few sane quiet less = (
  a_token (sign signs.Semicolon) ∷ us,
  (short_name, (first_place, (short_name_is_free, refl))),
  (us, inr (inr (us, (first_place, refl), refl)), refl),
)
closed l behind_reg_name us few sane quiet less = inr (inr (us, (first_place, refl), refl))
closed l label_selector us few sane quiet less =
    inr (
      a_token (sign signs.CloseParenthesis) ∷ a_token (sign signs.CloseBrace) ∷ a_name ∷
          a_token (sign signs.Semicolon) ∷ us,
      (short_name, (first_place, (short_name_is_free, refl))),
      (
        a_token (sign signs.CloseParenthesis) ∷ a_token (sign signs.CloseBrace) ∷ a_name ∷
            a_token (sign signs.Semicolon) ∷
            us,
        inl (tt, refl),
        (
          a_token (sign signs.CloseBrace) ∷ a_name ∷ a_token (sign signs.Semicolon) ∷
              us,
          (first_place, refl),
          (
            a_name ∷ a_token (sign signs.Semicolon) ∷
                us,
            (first_place, refl),
            (
              a_token (sign signs.Semicolon) ∷
                  us,
              (short_name, (first_place, (short_name_is_free, refl))),
              (us, (zero, (a_token (sign signs.Semicolon) ∷ us, refl, (first_place, refl))), refl),
            ),
          ),
        ),
      ),
    )
closed l memory_name us few sane quiet less = closed_range l us
closed l assigned us few sane quiet less =
    inl (
      a_token (sign signs.Equals) ∷ a_number ∷ a_token (sign signs.Semicolon) ∷
          us,
      (short_name, (first_place, (short_name_is_free, refl))),
      (
        a_number ∷ a_token (sign signs.Semicolon) ∷
            us,
        (first_place, refl),
        (
          us,
          inr (
            a_token (sign signs.Semicolon) ∷ us,
            a_value l 0 (a_token (sign signs.Semicolon) ∷ us)
                refl (omega arith),
            (
              us,
              (zero, (a_token (sign signs.Semicolon) ∷ us, refl, (first_place, refl))),
              refl,
            ),
          ),
          refl,
        ),
      ),
    )
closed l value_or_release us few sane quiet less =
    inr (
      a_token (sign signs.Semicolon) ∷ us,
      a_value l 0 (a_token (sign signs.Semicolon) ∷ us) refl
          (omega arith),
      (
        us,
        (zero, (a_token (sign signs.Semicolon) ∷ us, refl, (first_place, refl))),
        refl,
      ),
    )
closed l later_assigned us few sane quiet less =
    inl (closed_setting l us quiet (omega arith))
closed l more_assigned us few sane quiet less =
    (zero, (a_token (sign signs.Semicolon) ∷ us, refl, (first_place, refl)))
closed l event us few sane quiet less =
    inr (
      a_token (word words.Posedge) ∷ a_name ∷ a_token (sign signs.CloseParenthesis) ∷
          us,
      (first_place, refl),
      (us, closed_edge l us, refl),
    )
closed l event_inside us few sane quiet less = closed_edge l us
closed l perhaps_overrides us few sane quiet less = skip_perhaps perhaps_overrides tt refl l us quiet
closed l overrides us few sane quiet less =
    inr (
      a_token (sign signs.CloseParenthesis) ∷
          us,
      a_value l 0 (a_token (sign signs.CloseParenthesis) ∷ us) refl
          (omega arith),
      (
        us,
        (
          zero,
          (
            a_token (sign signs.CloseParenthesis) ∷
                us,
            refl,
            (first_place, refl),
          ),
        ),
        refl,
      ),
    )
closed l more_named_overrides us few sane quiet less =
    (zero, (a_token (sign signs.CloseParenthesis) ∷ us, refl, (first_place, refl)))
closed l links us few sane quiet less = inl (us, (first_place, refl), refl)
closed l link us few sane quiet less = inl (us, (first_place, refl), refl)
closed l more_named_links us few sane quiet less =
    (zero, (a_token (sign signs.CloseParenthesis) ∷ us, refl, (first_place, refl)))
closed l more_instances us few sane quiet less =
    (zero, (a_token (sign signs.Semicolon) ∷ us, refl, (first_place, refl)))
closed l (statement n) us few sane quiet less = (null, (first_place, refl))
closed l (statements n) us few sane quiet less =
    (zero, (a_token (word words.End) ∷ us, refl, (first_place, refl)))
closed l perhaps_block_name us few sane quiet less =
    inr (
      a_name ∷ us,
      (first_place, refl),
      (us, (short_name, (first_place, (short_name_is_free, refl))), refl),
    )
closed l (perhaps_else n) us few sane quiet less = skip_perhaps (perhaps_else n) tt refl l us quiet
closed l (perhaps_bits n) us few sane quiet less = skip_perhaps (perhaps_bits n) tt refl l us quiet
closed l (bits_end n) us few sane quiet less = inl (us, (first_place, refl), refl)
closed l (more_targets n) us few sane quiet less =
    (zero, (a_token (sign signs.CloseBrace) ∷ us, refl, (first_place, refl)))
closed l assigns us few sane quiet less = inl (first_place, refl)
closed l (arms n before default) us few sane quiet less = closed_arms l n before default us few less
closed l (more_choices n) us few sane quiet less =
    (zero, (a_token (sign signs.Colon) ∷ us, refl, (first_place, refl)))
closed l perhaps_colon us few sane quiet less = inr (us, (first_place, refl), refl)

pub closing_is_quiet : (y : Outer) (us : List Placed) → IsTrue (is_plain y) → Quiet us →
    Quiet (closing y ++ us)
closing_is_quiet perhaps_lattice us plain quiet = quiet
closing_is_quiet perhaps_maps us plain quiet = quiet
closing_is_quiet perhaps_key_range us plain quiet = quiet
closing_is_quiet perhaps_header_parameters us plain quiet = quiet
closing_is_quiet parameter_type us plain quiet = quiet
closing_is_quiet perhaps_wire us plain quiet = quiet
closing_is_quiet perhaps_wire_or_reg us plain quiet = quiet
closing_is_quiet perhaps_signed us plain quiet = quiet
closing_is_quiet perhaps_range us plain quiet = quiet
closing_is_quiet perhaps_label us plain quiet = quiet
closing_is_quiet perhaps_overrides us plain quiet = quiet
closing_is_quiet (perhaps_else n) us plain quiet = quiet
closing_is_quiet (perhaps_bits n) us plain quiet = quiet
closing_is_quiet (punctuation s) us plain quiet = plain
closing_is_quiet less_equal us plain quiet = absurd (false≢true plain)
closing_is_quiet (arms n zero default) us plain quiet = refl
closing_is_quiet (arms n (suc k) default) us plain quiet = refl
closing_is_quiet (more_names signs.Semicolon) us plain quiet = refl
closing_is_quiet (more_names signs.CloseBrace) us plain quiet = refl
closing_is_quiet (more_names s) us plain quiet = absurd (false≢true plain)
closing_is_quiet y us plain quiet = refl
