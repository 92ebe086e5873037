-- What reading a symbol outside expressions comes to where a token of it comes and, for each that
-- wants one of its tokens, where none does.
use Rattle.std.proofs.Common.{◌≡◌, ℕ, ◌<◌, ◌≤◌, Bool, true, false, not, List, [], ◌∷◌, length}
use Rattle.std.proofs.Common.{Option, Some, refl, sym, ap, subst, ◌∙◌}
use Rattle.std.specs.Prelude.{IsTrue}
use Rattle.std.proofs.lemmas.Bool.{false≢true}
use Rattle.sv_num.specs.declared.operators.BinOp.{BinOp}
use Rattle.sv_num.specs.declared.operators.BinOp.TheVariants.{Mul, Le}
use Rattle.sv_num.specs.declared.faults.Place.{Place}
use Rattle.sv_token.specs.declared.keywords.WordKind.{WordKind}
use Rattle.sv_token.specs.declared.signs.SignKind.{SignKind}
use Rattle.sv_ast.specs.GrammarForms.{binary_operator, name_at, a_word, a_sign}
use Rattle.sv_token.specs.declared.keywords.WordKind.TheVariants as words
use Rattle.sv_token.specs.declared.signs.SignKind.TheVariants as signs
use Rattle.sv_token.specs.Lexemes.{Lexeme, word, identifier, sign, Placed}
use Rattle.sv_token.specs.Words.{is_refused_word}
use Rattle.sv_parse_machine.specs.Symbols.{punctuation, less_equal, end_of_map, one_module}
use Rattle.sv_parse_machine.specs.Symbols.{header_parameter, label_end, reg_label_end, event}
use Rattle.sv_parse_machine.specs.Symbols.{event_inside, bits_end, assigns, Expected, Outer, outer}
use Rattle.sv_parse_machine.specs.Symbols.{something, an_edge, takes, stuck, unless_refused}
use Rattle.sv_parse_machine.specs.StatementTable.{is_sign, is_star, is_less_equal, taken_if}
use Rattle.sv_parse_machine.specs.ModuleTable.{star_in_event}
use Rattle.sv_parse_machine.specs.Machine.{may_be_empty, outer_on, outside_on, stuck_at, too_deep}
use Rattle.sv_parse_machine.specs.Reads.{NextIs, IsNot, NextIsNot, IsNoOperator, NextIsNoOperator}
use Rattle.sv_parse_machine.specs.Reads.{Reads, Halts}
use Rattle.sv_parse_machine.proofs.ReadSteps.{takes_token, takes_level, level_is_too_deep, is_stuck}

-- ---- tokens that come

pub sign_taken : (y : Outer) (s : SignKind) (ys : List Outer) (ts rest : List Placed)
    → outer_on y (sign s) ≡ takes 0 0 ys → a_sign s ts rest
    → Reads (outer y ∷ []) (outside_on ys) ts rest
sign_taken y s ys ts rest row (p, at) =
    subst (λ us. Reads (outer y ∷ []) (outside_on ys) us rest) (sym at)
    (takes_token y ys (record { lexeme = sign s; place = p }) rest row)

pub word_taken : (y : Outer) (w : WordKind) (ys : List Outer) (ts rest : List Placed)
    → outer_on y (word w) ≡ takes 0 0 ys → a_word w ts rest
    → Reads (outer y ∷ []) (outside_on ys) ts rest
word_taken y w ys ts rest row (p, at) =
    subst (λ us. Reads (outer y ∷ []) (outside_on ys) us rest) (sym at)
    (takes_token y ys (record { lexeme = word w; place = p }) rest row)

-- the row is the one where the name is no refused word
pub name_taken : (y : Outer) (x : List ℕ) (p : Place) (ys : List Outer) (ts rest : List Placed)
    → outer_on y (identifier x) ≡ unless_refused (is_refused_word x) (takes 0 0 ys)
    → name_at x p ts rest → Reads (outer y ∷ []) (outside_on ys) ts rest
name_taken y x p ys ts rest row (free, at) =
    subst (λ us. Reads (outer y ∷ []) (outside_on ys) us rest) (sym at)
    (takes_token y ys (record { lexeme = identifier x; place = p }) rest
    (row ∙ not_refused (is_refused_word x) free))
  where
    not_refused : (b : Bool) → IsTrue (not b) → unless_refused b (takes 0 0 ys) ≡ takes 0 0 ys
    not_refused true free = absurd (false≢true free)
    not_refused false free = refl

-- `block`, `if` and `case`
pub level_taken : (y : Outer) (w : WordKind) (level : ℕ) (ys : List Outer) (ts rest : List Placed)
    → level ≤ 64 → outer_on y (word w) ≡ takes level 0 ys → a_word w ts rest
    → Reads (outer y ∷ []) (outside_on ys) ts rest
level_taken y w level ys ts rest less row (p, at) =
    subst (λ us. Reads (outer y ∷ []) (outside_on ys) us rest) (sym at)
    (takes_level y level ys (record { lexeme = word w; place = p }) rest less row)

pub level_too_deep :
    (y : Outer) (w : WordKind) (level : ℕ) (ys : List Outer) (ts rest : List Placed) → 64 < level
    → outer_on y (word w) ≡ takes level 0 ys → a_word w ts rest
    → Halts (outer y ∷ []) ts too_deep (length ts)
level_too_deep y w level ys ts rest more row (p, at) =
    subst (λ us. Halts (outer y ∷ []) us too_deep (length us)) (sym at)
    (level_is_too_deep y level ys (record { lexeme = word w; place = p }) rest more row)

-- ---- where no token goes on with a symbol

halts_if : (P : Lexeme → Type 0) (y : Outer) (e : Expected) → may_be_empty (outer y) ≡ false
    → ((x : Lexeme) → P x → outer_on y x ≡ stuck e) → (ts : List Placed) → NextIs P ts
    → Halts (outer y ∷ []) ts (stuck_at e) (length ts)
halts_if P y e full row [] none = is_stuck y e [] full tt
halts_if P y e full row (t ∷ ts) none = is_stuck y e (t ∷ ts) full (row t.lexeme none)

-- ---- punctuation, names and numbers that have to come

pub punctuation_read : (s : SignKind) (ts rest : List Placed) → is_sign s s ≡ true →
    a_sign s ts rest → Reads (outer (punctuation s) ∷ []) [] ts rest
punctuation_read s ts rest kind is = sign_taken (punctuation s) s [] ts rest (ap taken_if kind) is

pub same_sign : (s t : SignKind) → is_sign s t ≡ true → s ≡ t
same_sign signs.Question signs.Question same = refl
same_sign signs.Colon signs.Colon same = refl
same_sign signs.Semicolon signs.Semicolon same = refl
same_sign signs.Comma signs.Comma same = refl
same_sign signs.Dot signs.Dot same = refl
same_sign signs.OpenParenthesis signs.OpenParenthesis same = refl
same_sign signs.CloseParenthesis signs.CloseParenthesis same = refl
same_sign signs.OpenBracket signs.OpenBracket same = refl
same_sign signs.CloseBracket signs.CloseBracket same = refl
same_sign signs.OpenBrace signs.OpenBrace same = refl
same_sign signs.CloseBrace signs.CloseBrace same = refl
same_sign signs.Equals signs.Equals same = refl
same_sign signs.Hash signs.Hash same = refl
same_sign signs.At signs.At same = refl
same_sign s t same = absurd (false≢true same)

not_taken : (s t : SignKind) (b : Bool) → is_sign s t ≡ b → IsNot (sign s) (sign t) →
    taken_if b ≡ stuck something
not_taken s t true found other = absurd (other (ap sign (sym (same_sign s t found))))
not_taken s t false found other = refl

row_punctuation : (s : SignKind) (x : Lexeme) → IsNot (sign s) x →
    outer_on (punctuation s) x ≡ stuck something
row_punctuation s (sign t) other = not_taken s t (is_sign s t) refl other
row_punctuation s x other = refl

pub halts_punctuation : (s : SignKind) (ts : List Placed) → NextIsNot (sign s) ts →
    Halts (outer (punctuation s) ∷ []) ts (stuck_at something) (length ts)
halts_punctuation s = halts_if (IsNot (sign s)) (punctuation s) something refl (row_punctuation s)

no_star : (o : Option BinOp) → (o ≡ Some Mul → ⊥) → taken_if (is_star o) ≡ stuck something
no_star (Some Mul) none = absurd (none refl)
no_star o none = refl

no_star_inside : (o : Option BinOp) → (o ≡ Some Mul → ⊥) → star_in_event (is_star o) ≡ stuck an_edge
no_star_inside (Some Mul) none = absurd (none refl)
no_star_inside o none = refl

no_less_equal : (o : Option BinOp) → (o ≡ Some Le → ⊥) →
    taken_if (is_less_equal o) ≡ stuck something
no_less_equal (Some Le) none = absurd (none refl)
no_less_equal o none = refl

-- ---- symbol by symbol: what it is where none of its tokens comes

row_end_of_map : (x : Lexeme) → IsNot (word words.Endlabelmap) x →
    outer_on end_of_map x ≡ stuck something
row_end_of_map (word words.Endlabelmap) no_0 = absurd (no_0 refl)
row_end_of_map x no_0 = refl

pub halts_end_of_map : (ts : List Placed) → NextIsNot (word words.Endlabelmap) ts →
    Halts (outer end_of_map ∷ []) ts (stuck_at something) (length ts)
halts_end_of_map =
    halts_if (IsNot (word words.Endlabelmap)) end_of_map something refl row_end_of_map

row_header_parameter : (x : Lexeme) → IsNot (word words.Parameter) x →
    outer_on header_parameter x ≡ stuck something
row_header_parameter (word words.Parameter) no_0 = absurd (no_0 refl)
row_header_parameter x no_0 = refl

pub halts_header_parameter : (ts : List Placed) → NextIsNot (word words.Parameter) ts →
    Halts (outer header_parameter ∷ []) ts (stuck_at something) (length ts)
halts_header_parameter =
    halts_if (IsNot (word words.Parameter)) header_parameter something refl row_header_parameter

row_label_end : (x : Lexeme) → IsNot (sign signs.CloseBrace) x →
    IsNot (sign signs.OpenParenthesis) x → outer_on label_end x ≡ stuck something
row_label_end (sign signs.CloseBrace) no_0 no_1 = absurd (no_0 refl)
row_label_end (sign signs.OpenParenthesis) no_0 no_1 = absurd (no_1 refl)
row_label_end x no_0 no_1 = refl

pub halts_label_end : (ts : List Placed) → NextIsNot (sign signs.CloseBrace) ts →
    NextIsNot (sign signs.OpenParenthesis) ts →
    Halts (outer label_end ∷ []) ts (stuck_at something) (length ts)
halts_label_end [] no_0 no_1 = is_stuck label_end something [] refl tt
halts_label_end (t ∷ ts) no_0 no_1 =
    is_stuck label_end something (t ∷ ts) refl (row_label_end t.lexeme no_0 no_1)

row_reg_label_end : (x : Lexeme) → IsNot (sign signs.CloseBrace) x →
    IsNot (sign signs.OpenParenthesis) x → outer_on reg_label_end x ≡ stuck something
row_reg_label_end (sign signs.CloseBrace) no_0 no_1 = absurd (no_0 refl)
row_reg_label_end (sign signs.OpenParenthesis) no_0 no_1 = absurd (no_1 refl)
row_reg_label_end x no_0 no_1 = refl

pub halts_reg_label_end : (ts : List Placed) → NextIsNot (sign signs.CloseBrace) ts →
    NextIsNot (sign signs.OpenParenthesis) ts →
    Halts (outer reg_label_end ∷ []) ts (stuck_at something) (length ts)
halts_reg_label_end [] no_0 no_1 = is_stuck reg_label_end something [] refl tt
halts_reg_label_end (t ∷ ts) no_0 no_1 =
    is_stuck reg_label_end something (t ∷ ts) refl (row_reg_label_end t.lexeme no_0 no_1)

row_event_inside : (x : Lexeme) → IsNoOperator Mul x → IsNot (word words.Posedge) x →
    outer_on event_inside x ≡ stuck an_edge
row_event_inside (sign (signs.Operator o)) no_0 no_1 =
    no_star_inside (binary_operator o) (no_0 o refl)
row_event_inside (word words.Posedge) no_0 no_1 = absurd (no_1 refl)
row_event_inside x no_0 no_1 = refl

pub halts_event_inside : (ts : List Placed) → NextIsNoOperator Mul ts →
    NextIsNot (word words.Posedge) ts →
    Halts (outer event_inside ∷ []) ts (stuck_at an_edge) (length ts)
halts_event_inside [] no_0 no_1 = is_stuck event_inside an_edge [] refl tt
halts_event_inside (t ∷ ts) no_0 no_1 =
    is_stuck event_inside an_edge (t ∷ ts) refl (row_event_inside t.lexeme no_0 no_1)

row_event : (x : Lexeme) → IsNoOperator Mul x → IsNot (sign signs.OpenParenthesis) x →
    outer_on event x ≡ stuck something
row_event (sign (signs.Operator o)) no_0 no_1 = no_star (binary_operator o) (no_0 o refl)
row_event (sign signs.OpenParenthesis) no_0 no_1 = absurd (no_1 refl)
row_event x no_0 no_1 = refl

pub halts_event : (ts : List Placed) → NextIsNoOperator Mul ts →
    NextIsNot (sign signs.OpenParenthesis) ts →
    Halts (outer event ∷ []) ts (stuck_at something) (length ts)
halts_event [] no_0 no_1 = is_stuck event something [] refl tt
halts_event (t ∷ ts) no_0 no_1 =
    is_stuck event something (t ∷ ts) refl (row_event t.lexeme no_0 no_1)

row_bits_end : (n : ℕ) (x : Lexeme) → IsNot (sign signs.CloseBracket) x →
    IsNot (sign signs.Colon) x → outer_on (bits_end n) x ≡ stuck something
row_bits_end n (sign signs.CloseBracket) no_0 no_1 = absurd (no_0 refl)
row_bits_end n (sign signs.Colon) no_0 no_1 = absurd (no_1 refl)
row_bits_end n x no_0 no_1 = refl

pub halts_bits_end : (n : ℕ) (ts : List Placed) → NextIsNot (sign signs.CloseBracket) ts →
    NextIsNot (sign signs.Colon) ts →
    Halts (outer (bits_end n) ∷ []) ts (stuck_at something) (length ts)
halts_bits_end n [] no_0 no_1 = is_stuck (bits_end n) something [] refl tt
halts_bits_end n (t ∷ ts) no_0 no_1 =
    is_stuck (bits_end n) something (t ∷ ts) refl (row_bits_end n t.lexeme no_0 no_1)

row_one_module : (x : Lexeme) → IsNot (word words.Module) x →
    outer_on one_module x ≡ stuck something
row_one_module (word words.Module) no_0 = absurd (no_0 refl)
row_one_module x no_0 = refl

pub halts_one_module : (ts : List Placed) → NextIsNot (word words.Module) ts →
    Halts (outer one_module ∷ []) ts (stuck_at something) (length ts)
halts_one_module = halts_if (IsNot (word words.Module)) one_module something refl row_one_module

row_less_equal : (x : Lexeme) → IsNoOperator Le x → outer_on less_equal x ≡ stuck something
row_less_equal (sign (signs.Operator o)) no_0 = no_less_equal (binary_operator o) (no_0 o refl)
row_less_equal x no_0 = refl

pub halts_less_equal : (ts : List Placed) → NextIsNoOperator Le ts →
    Halts (outer less_equal ∷ []) ts (stuck_at something) (length ts)
halts_less_equal = halts_if (IsNoOperator Le) less_equal something refl row_less_equal

row_assigns : (x : Lexeme) → IsNot (sign signs.Equals) x → IsNoOperator Le x →
    outer_on assigns x ≡ stuck something
row_assigns (sign signs.Equals) no_0 no_1 = absurd (no_0 refl)
row_assigns (sign (signs.Operator o)) no_0 no_1 = no_less_equal (binary_operator o) (no_1 o refl)
row_assigns x no_0 no_1 = refl

pub halts_assigns : (ts : List Placed) → NextIsNot (sign signs.Equals) ts → NextIsNoOperator Le ts →
    Halts (outer assigns ∷ []) ts (stuck_at something) (length ts)
halts_assigns [] no_0 no_1 = is_stuck assigns something [] refl tt
halts_assigns (t ∷ ts) no_0 no_1 =
    is_stuck assigns something (t ∷ ts) refl (row_assigns t.lexeme no_0 no_1)
