-- What reading the parts of an expression is to the machine of the grammar.
use Rattle.std.proofs.Common.{◌≡◌, ℕ, ◌+◌, ◌-◌, ◌≤◌, ◌<◌, Bool, true, false, not, List, [], ◌∷◌}
use Rattle.std.proofs.Common.{◌++◌, length, Option, Some, None, refl, sym, ap, ◌∙◌, subst, arith}
use Rattle.std.specs.Prelude.{IsTrue}
use Rattle.std.proofs.lemmas.Bool.{false≢true}
use Rattle.sv_num.specs.declared.faults.Place.{Place}
use Rattle.sv_num.specs.declared.operators.UnOp.{UnOp}
use Rattle.sv_num.specs.declared.operators.BinOp.{BinOp}
use Rattle.sv_num.specs.declared.operators.BinOp.TheVariants as ops
use Rattle.sv_token.specs.declared.signs.SignKind.{SignKind}
use Rattle.sv_token.specs.declared.signs.SignKind.TheVariants as signs
use Rattle.sv_token.specs.declared.signs.Operator.{Operator}
use Rattle.sv_token.specs.declared.tokens.Token.{Token}
use Rattle.sv_token.specs.Lexemes.{Lexeme, identifier, sign, Placed, placed_tokens}
use Rattle.sv_token.specs.Words.{is_refused_word}
use Rattle.sv_ast.specs.GrammarForms.{binary_operator, unary_operator, sign_at, a_sign, binary_at}
use Rattle.sv_ast.specs.GrammarForms.{unary_at, name_at}
use Rattle.sv_ast.specs.GrammarGroups.{precedence_of}
use Rattle.sv_ast.specs.GrammarRules.{all_limits}
use Rattle.sv_parse_expr.specs.declared.stop.GrammarBreach.TheVariants.{TooDeep, TooLong}
use Rattle.sv_parse_expr.specs.declared.stop.Stop.{Stop}
use Rattle.sv_parse_expr.specs.declared.stop.Stop.TheVariants as stops
use Rattle.sv_parse_machine.specs.Symbols.{Inner, operand, tail, selection, selection_end}
use Rattle.sv_parse_machine.specs.Symbols.{members_or_count, members, inner_colon, inner_parenthesis}
use Rattle.sv_parse_machine.specs.Symbols.{inner_bracket, inner_brace, something, behind_name, inner}
use Rattle.sv_parse_machine.specs.Symbols.{outer, expression, State, takes_inner, over_inner, stuck_inner}
use Rattle.sv_parse_machine.specs.ExpressionTable.{inside, name_operand, prefix_operand, infix_tail}
use Rattle.sv_parse_machine.specs.ExpressionTable.{inner_on}
use Rattle.sv_parse_machine.specs.Machine.{inside_on, stuck_at, too_deep, too_long, MachineStep}
use Rattle.sv_parse_machine.specs.Machine.{after_inner, step, go_on, run}
use Rattle.sv_parse_machine.specs.Reads.{Reads, Halts, NextIs, IsNot, NextIsNotSign, NextIsSign}
use Rattle.sv_parse_machine.specs.Reads.{NextIsNoName, NextIsAnyName, NextIsNoNumber, NextIsNumber}
use Rattle.sv_parse_machine.specs.Reads.{NextIsNoUnary, NextIsAnyOperator, NextIsNoOperator, NextIsLooser}
use Rattle.sv_parse_machine.specs.Reads.{IsLooser, IsNotOfPrecedence, NextTakes, Closes}
use Rattle.sv_parse_expr.specs.Expectations.{HaltsAs, StopsAt}
use Rattle.sv_parse_machine.proofs.ReadSteps.{reads_then, reads_before, takes_inside, inside_is_too_deep}
use Rattle.sv_parse_machine.proofs.ReadSteps.{inside_is_too_long, skips_inside, is_stuck_inside}
use Rattle.sv_parse_machine.proofs.ReadSteps.{is_stuck_inside_at, reads_expression, as_many}
use Rattle.sv_parse_machine.proofs.ReadLists.{ends_members, no_count}
use Rattle.sv_parse_expr.proofs.Halting.{stops_then, stops_before, stops_here}

-- an expression of which so many levels are open around
abbrev pub whole : ℕ → ℕ → State
whole start n = inner start (operand n) ∷ inner start (tail n) ∷ []

-- ---- tokens of an expression

pub token_inside :
    (bytes : List ℕ) (tokens rest : List Token) (start beyond : ℕ) (s : Inner) (level : ℕ)
    (xs : List Inner) (x : Lexeme) (p : Place) →
    beyond ≡ start - 1024 → beyond < length tokens → level ≤ 64 →
    inner_on s x ≡ takes_inner level xs →
    placed_tokens bytes tokens ≡ record { lexeme = x; place = p } ∷ placed_tokens bytes rest →
    Reads (inner start s ∷ []) (inside_on start xs) (placed_tokens bytes tokens)
    (placed_tokens bytes rest)
token_inside bytes tokens rest start beyond s level xs x p same count deep row at =
    let many : length (placed_tokens bytes tokens) ≡ length tokens = as_many bytes tokens in
    let size : length (placed_tokens bytes tokens) ≡
    length (record { lexeme = x; place = p } ∷ placed_tokens bytes rest) = ap length at in
    subst (λ us. Reads (inner start s ∷ []) (inside_on start xs) us (placed_tokens bytes rest))
    (sym at)
    (takes_inside start s level xs (record { lexeme = x; place = p }) (placed_tokens bytes rest)
    deep (rw (sym size) (omega arith)) row)

pub token_takes :
    (s : Inner) (level : ℕ) (xs : List Inner) (x : Lexeme) (p : Place) (ts rest : List Placed) →
    inner_on s x ≡ takes_inner level xs → ts ≡ record { lexeme = x; place = p } ∷ rest →
    NextTakes s level xs ts
token_takes s level xs x p ts rest row at = subst (λ us. NextTakes s level xs us) (sym at) row

pub sign_takes :
    (s : Inner) (level : ℕ) (xs : List Inner) (k : SignKind) (ts rest : List Placed) →
    inner_on s (sign k) ≡ takes_inner level xs → a_sign k ts rest → NextTakes s level xs ts
sign_takes s level xs k ts rest row (p, at) = token_takes s level xs (sign k) p ts rest row at

pub sign_inside :
    (bytes : List ℕ) (tokens rest : List Token) (start beyond : ℕ) (s : Inner) (level : ℕ)
    (xs : List Inner) (k : SignKind) →
    beyond ≡ start - 1024 → beyond < length tokens → level ≤ 64 →
    inner_on s (sign k) ≡ takes_inner level xs →
    a_sign k (placed_tokens bytes tokens) (placed_tokens bytes rest) →
    Reads (inner start s ∷ []) (inside_on start xs) (placed_tokens bytes tokens)
    (placed_tokens bytes rest)
sign_inside bytes tokens rest start beyond s level xs k same count deep row (p, at) =
    token_inside bytes tokens rest start beyond s level xs (sign k) p same count deep row at

-- ---- too deep, too long

pub too_long_inside :
    (ts : List Placed) (start : ℕ) (s : Inner) (level : ℕ) (xs : List Inner) → level ≤ 64 →
    length ts ≤ start - 1024 →
    NextTakes s level xs ts → Halts (inner start s ∷ []) ts too_long (length ts)
too_long_inside [] start s level xs deep long row = absurd row
too_long_inside (t ∷ ts) start s level xs deep long row =
    inside_is_too_long start s level xs t ts deep long row

pub too_deep_inside :
    (ts : List Placed) (start : ℕ) (s : Inner) (level : ℕ) (xs : List Inner) → 64 < level →
    NextTakes s level xs ts → Halts (inner start s ∷ []) ts too_deep (length ts)
too_deep_inside [] start s level xs deep row = absurd row
too_deep_inside (t ∷ ts) start s level xs deep row =
    inside_is_too_deep start s level xs t ts deep row

pub stops_too_long :
    (bytes : List ℕ) (tokens : List Token) (start beyond : ℕ) (s : Inner) (level : ℕ)
    (xs : List Inner) (stop : Stop) →
    beyond ≡ start - 1024 → level ≤ 64 → NextTakes s level xs (placed_tokens bytes tokens) →
    length tokens ≤ beyond → stop ≡ stops.Broken TooLong (length tokens) →
    HaltsAs (inner start s ∷ []) (placed_tokens bytes tokens) stop
stops_too_long bytes tokens start beyond s level xs stop same deep row long at =
    let many : length (placed_tokens bytes tokens) ≡ length tokens = as_many bytes tokens in
    stops_here bytes tokens (inner start s ∷ []) TooLong stop
    (too_long_inside (placed_tokens bytes tokens) start s level xs deep (omega arith) row) at

pub stops_too_deep :
    (bytes : List ℕ) (tokens : List Token) (start : ℕ) (s : Inner) (level : ℕ) (xs : List Inner)
    (stop : Stop) →
    NextTakes s level xs (placed_tokens bytes tokens) →
    64 < level → stop ≡ stops.Broken TooDeep (length tokens) →
    HaltsAs (inner start s ∷ []) (placed_tokens bytes tokens) stop
stops_too_deep bytes tokens start s level xs stop row deep at =
    stops_here bytes tokens (inner start s ∷ []) TooDeep stop
    (too_deep_inside (placed_tokens bytes tokens) start s level xs deep row) at

-- ---- signs that have to come

pub closing_read :
    (bytes : List ℕ) (tokens rest : List Token) (start beyond : ℕ) (s : Inner) (k : SignKind) →
    beyond ≡ start - 1024 → beyond < length tokens → Closes k s →
    a_sign k (placed_tokens bytes tokens) (placed_tokens bytes rest) →
    Reads (inner start s ∷ []) [] (placed_tokens bytes tokens) (placed_tokens bytes rest)
closing_read bytes tokens rest start beyond s k same count closes at =
    sign_inside bytes tokens rest start beyond s 0 [] k same count (omega arith) closes.taken at

pub closing_halts : (start : ℕ) (s : Inner) (k : SignKind) (ts : List Placed) → Closes k s
    → NextIsNotSign k ts
    → Halts (inner start s ∷ []) ts (stuck_at something) (length ts)
closing_halts start s k [] closes none = is_stuck_inside start s something [] (closes.full start) tt
closing_halts start s k (t ∷ ts) closes none =
    is_stuck_inside start s something (t ∷ ts) (closes.full start) (closes.other t.lexeme none)

colon_other : (x : Lexeme) → IsNot (sign signs.Colon) x →
    inner_on inner_colon x ≡ stuck_inner something
colon_other (sign signs.Colon) none = absurd (none refl)
colon_other x none = refl

pub colon_closes : Closes signs.Colon inner_colon
colon_closes = record { taken = refl; other = colon_other; full = λ start. refl }

parenthesis_other : (x : Lexeme) → IsNot (sign signs.CloseParenthesis) x →
    inner_on inner_parenthesis x ≡ stuck_inner something
parenthesis_other (sign signs.CloseParenthesis) none = absurd (none refl)
parenthesis_other x none = refl

pub parenthesis_closes : Closes signs.CloseParenthesis inner_parenthesis
parenthesis_closes = record { taken = refl; other = parenthesis_other; full = λ start. refl }

bracket_other : (x : Lexeme) → IsNot (sign signs.CloseBracket) x →
    inner_on inner_bracket x ≡ stuck_inner something
bracket_other (sign signs.CloseBracket) none = absurd (none refl)
bracket_other x none = refl

pub bracket_closes : Closes signs.CloseBracket inner_bracket
bracket_closes = record { taken = refl; other = bracket_other; full = λ start. refl }

brace_other : (x : Lexeme) → IsNot (sign signs.CloseBrace) x →
    inner_on inner_brace x ≡ stuck_inner something
brace_other (sign signs.CloseBrace) none = absurd (none refl)
brace_other x none = refl

pub brace_closes : Closes signs.CloseBrace inner_brace
brace_closes = record { taken = refl; other = brace_other; full = λ start. refl }

-- ---- operators

pub other_precedence :
    (op : BinOp) (p : Place) (found precedence : ℕ) (ts rest : List Placed)
    → found ≡ precedence_of op → (found ≡ precedence → ⊥) → binary_at op p ts rest
    → NextIs (IsNotOfPrecedence precedence) ts
other_precedence op p found precedence ts rest is differs (o, known, at) =
    subst (λ us. NextIs (IsNotOfPrecedence precedence) us) (sym at)
    (λ o' op' same here same_precedence.
    let same_operator : o ≡ o' = cc in
    let found_here : binary_operator o ≡ Some op' = ap binary_operator same_operator ∙ here in
    let same_op : op ≡ op' = cc in
    differs (is ∙ ap precedence_of same_op ∙ same_precedence))

pub other_operator : (found op : BinOp) (p : Place) (ts rest : List Placed) → (found ≡ op → ⊥) →
    binary_at found p ts rest → NextIsNoOperator op ts
other_operator found op p ts rest differs (o, known, at) =
    subst (λ us. NextIsNoOperator op us) (sym at)
    (λ o' same here.
    let same_operator : o ≡ o' = cc in
    let found_here : binary_operator o ≡ Some op = ap binary_operator same_operator ∙ here in
    let same_op : found ≡ op = cc in
    differs same_op)

precedence_is_some : (op : BinOp) → 0 < precedence_of op
precedence_is_some ops.Mul = omega arith
precedence_is_some _ = omega arith

precedence_is_low : (op : BinOp) → precedence_of op ≤ 10
precedence_is_low ops.Mul = omega arith
precedence_is_low _ = omega arith

pub any_looser : (precedence : ℕ) (ts : List Placed) → precedence ≡ 0 → NextIsLooser precedence ts
any_looser precedence [] is = tt
any_looser precedence (t ∷ ts) is = λ o op same here. rw is (precedence_is_some op)

pub looser_behind : (precedence : ℕ) (ts : List Placed) → 0 < precedence →
    NextIsLooser (precedence - 1) ts → NextIs (IsNotOfPrecedence precedence) ts →
    NextIsLooser precedence ts
looser_behind precedence [] some looser other = tt
looser_behind precedence (t ∷ ts) some looser other = λ o op same here.
    let less : precedence - 1 < precedence_of op = looser o op same here in
    let differs : precedence_of op ≡ precedence → ⊥ = other o op same here in
    grind arith

no_tail : (n : ℕ) (o : Operator) (found : Option BinOp) → binary_operator o ≡ found →
    IsLooser 10 (sign (signs.Operator o)) → infix_tail n (binary_operator o) ≡ over_inner
no_tail n o None is looser = ap (infix_tail n) is
no_tail n o (Some op) is looser =
    let less : 10 < precedence_of op = looser o op refl is in
    let low : precedence_of op ≤ 10 = precedence_is_low op in
    absurd (omega arith)

tail_is_over : (n : ℕ) (x : Lexeme) → IsLooser 10 x → IsNot (sign signs.Question) x →
    inner_on (tail n) x ≡ over_inner
tail_is_over n (sign signs.Question) looser none = absurd (none refl)
tail_is_over n (sign (signs.Operator o)) looser none = no_tail n o (binary_operator o) refl looser
tail_is_over n x looser none = refl

pub tail_skipped : (start n : ℕ) (ts : List Placed) → NextIsLooser 10 ts →
    NextIsNotSign signs.Question ts → Reads (inner start (tail n) ∷ []) [] ts ts
tail_skipped start n [] looser none = skips_inside start (tail n) [] refl tt
tail_skipped start n (t ∷ ts) looser none =
    skips_inside start (tail n) (t ∷ ts) refl (tail_is_over n t.lexeme looser none)

pub infix_row : (n : ℕ) (o : Operator) (op : BinOp) → binary_operator o ≡ Some op →
    inner_on (tail n) (sign (signs.Operator o)) ≡ takes_inner 0 (inside n [])
infix_row n o op known = ap (infix_tail n) known

pub infix_takes : (n : ℕ) (op : BinOp) (p : Place) (ts rest : List Placed) →
    binary_at op p ts rest → NextTakes (tail n) 0 (inside n []) ts
infix_takes n op p ts rest (o, known, at) =
    token_takes (tail n) 0 (inside n []) (sign (signs.Operator o)) p ts rest
    (infix_row n o op known) at

pub infix_read :
    (bytes : List ℕ) (tokens rest : List Token) (start beyond n : ℕ) (op : BinOp) (p : Place) →
    beyond ≡ start - 1024 → beyond < length tokens →
    binary_at op p (placed_tokens bytes tokens) (placed_tokens bytes rest) →
    Reads (inner start (tail n) ∷ []) (whole start n) (placed_tokens bytes tokens)
    (placed_tokens bytes rest)
infix_read bytes tokens rest start beyond n op p same count (o, known, at) =
    token_inside bytes tokens rest start beyond (tail n) 0 (inside n []) (sign (signs.Operator o)) p
    same count (omega arith) (infix_row n o op known) at

pub prefix_takes : (n : ℕ) (op : UnOp) (p : Place) (ts rest : List Placed) → unary_at op p ts rest →
    NextTakes (operand n) (n + 1) (operand (n + 1) ∷ []) ts
prefix_takes n op p ts rest (o, known, at) =
    token_takes (operand n) (n + 1) (operand (n + 1) ∷ []) (sign (signs.Operator o)) p ts rest
    (ap (prefix_operand n) known) at

pub prefix_read :
    (bytes : List ℕ) (tokens rest : List Token) (start beyond n m : ℕ) (op : UnOp) (p : Place) →
    beyond ≡ start - 1024 → beyond < length tokens →
    m ≡ n + 1 → m ≤ 64 → unary_at op p (placed_tokens bytes tokens) (placed_tokens bytes rest) →
    Reads (inner start (operand n) ∷ []) (inner start (operand m) ∷ []) (placed_tokens bytes tokens)
    (placed_tokens bytes rest)
prefix_read bytes tokens rest start beyond n m op p same count opens deep (o, known, at) =
    token_inside bytes tokens rest start beyond (operand n) m (operand m ∷ [])
    (sign (signs.Operator o)) p same count deep
    (ap (prefix_operand n) known ∙ ap (λ (k : ℕ). takes_inner k (operand k ∷ [])) (sym opens)) at

-- ---- levels that a sign opens

pub opened_read :
    (bytes : List ℕ) (tokens rest : List Token) (start beyond n m : ℕ) (s : Inner) (behind : ℕ →
    List Inner) (k : SignKind) →
    beyond ≡ start - 1024 → beyond < length tokens → m ≡ n + 1 → m ≤ 64 →
    inner_on s (sign k) ≡ takes_inner (n + 1) (behind (n + 1)) →
    a_sign k (placed_tokens bytes tokens) (placed_tokens bytes rest) →
    Reads (inner start s ∷ []) (inside_on start (behind m)) (placed_tokens bytes tokens)
    (placed_tokens bytes rest)
opened_read bytes tokens rest start beyond n m s behind k same count opens deep row at =
    sign_inside bytes tokens rest start beyond s m (behind m) k same count deep
    (row ∙ ap (λ (l : ℕ). takes_inner l (behind l)) (sym opens)) at

-- ---- put together

pub then_read : (xs ys zs : State) (ts mid rest : List Placed) → Reads xs (ys ++ zs) ts mid →
    Reads ys [] mid rest → Reads xs zs ts rest
then_read xs ys zs ts mid rest first second =
    reads_then xs (ys ++ zs) zs ts mid rest first (reads_before ys [] zs mid rest second)

-- what is read wholly first, in front of what is read behind it
pub then_follow : (xs ys zs : State) (ts mid rest : List Placed) → Reads xs [] ts mid →
    Reads ys zs mid rest → Reads (xs ++ ys) zs ts rest
then_follow xs ys zs ts mid rest first second =
    reads_then (xs ++ ys) ys zs ts mid rest (reads_before xs [] ys ts mid first) second

pub then_stop : (xs ys zs : State) (ts mid : List Placed) (stop : Stop) →
    Reads xs (ys ++ zs) ts mid → HaltsAs ys mid stop → HaltsAs xs ts stop
then_stop xs ys zs ts mid stop first second =
    stops_then xs (ys ++ zs) ts mid stop first (stops_before ys zs mid stop second)

-- behind the `?` of a choice
pub choice_opened :
    (bytes : List ℕ) (tokens behind rest : List Token) (start beyond n m : ℕ) (p : Place) →
    beyond ≡ start - 1024 → beyond < length behind → m ≡ n + 1 → m ≤ 64 →
    Reads (whole start n) (inner start (tail n) ∷ []) (placed_tokens bytes tokens)
    (placed_tokens bytes behind) →
    sign_at signs.Question p (placed_tokens bytes behind) (placed_tokens bytes rest) →
    Reads (whole start n) (whole start m ++ (inner start inner_colon ∷ whole start m))
    (placed_tokens bytes tokens) (placed_tokens bytes rest)
choice_opened bytes tokens behind rest start beyond n m p same count opens deep chain at =
    reads_then (whole start n) (inner start (tail n) ∷ [])
    (whole start m ++ (inner start inner_colon ∷ whole start m))
    (placed_tokens bytes tokens) (placed_tokens bytes behind) (placed_tokens bytes rest) chain
    (opened_read bytes behind rest start beyond n m (tail n) (λ l.
    inside l (inner_colon ∷ inside l [])) signs.Question same count opens deep refl (p, at))

-- behind a token that is not the one that the bits of a name end with, both bounds come
colon_comes : (start n : ℕ) → (x : Lexeme) → IsNot (sign signs.CloseBracket) x →
    (a : ℕ) (below : State) (skip other : MachineStep) →
    after_inner all_limits a start below skip (inner_on (selection_end n) x)
    ≡ after_inner all_limits a start (whole start n ++ (inner start inner_bracket ∷ below)) other
    (inner_on inner_colon x)
colon_comes start n (sign signs.CloseBracket) none a below skip other = absurd (none refl)
colon_comes start n (sign signs.Colon) none a below skip other = refl
colon_comes start n x none a below skip other = refl

pub two_bounds :
    (start n : ℕ) (ts : List Placed) → NextIsNotSign signs.CloseBracket ts →
    Reads (inner start (selection_end n) ∷ [])
    (inner start inner_colon ∷ (whole start n ++ (inner start inner_bracket ∷ []))) ts ts
two_bounds start n [] none = record { runs = λ below. refl }
two_bounds start n (t ∷ ts) none = record {
  runs = λ below.
      ap (λ st. go_on (λ s. run all_limits s ts) (t ∷ ts) st)
      (colon_comes start n t.lexeme none (length ts) below
      (step all_limits (length ts) below t.lexeme)
      (step all_limits (length ts) (whole start n ++ (inner start inner_bracket ∷ below))
      t.lexeme));
}

-- the first of two bounds, behind which their colon has to come
pub first_bound :
    (start n : ℕ) (ts rest : List Placed) → Reads (whole start n) [] ts rest →
    NextIsNotSign signs.CloseBracket rest →
    Reads (whole start n ++ (inner start (selection_end n) ∷ []))
    (inner start inner_colon ∷ (whole start n ++ (inner start inner_bracket ∷ []))) ts rest
first_bound start n ts rest first none =
    then_follow (whole start n) (inner start (selection_end n) ∷ [])
    (inner start inner_colon ∷ (whole start n ++ (inner start inner_bracket ∷ []))) ts rest rest
    first (two_bounds start n rest none)

-- both bounds, behind which their bracket has to come
pub both_bounds :
    (start n : ℕ) (ts mid behind rest : List Placed) →
    Reads (whole start n ++ (inner start (selection_end n) ∷ []))
    (inner start inner_colon ∷ (whole start n ++ (inner start inner_bracket ∷ []))) ts mid →
    Reads (inner start inner_colon ∷ []) [] mid behind → Reads (whole start n) [] behind rest →
    Reads (whole start n ++ (inner start (selection_end n) ∷ []))
    (inner start inner_bracket ∷ []) ts rest
both_bounds start n ts mid behind rest first colon second =
    then_read (whole start n ++ (inner start (selection_end n) ∷ [])) (whole start n)
    (inner start inner_bracket ∷ []) ts behind rest
    (then_read (whole start n ++ (inner start (selection_end n) ∷ []))
    (inner start inner_colon ∷ []) (whole start n ++ (inner start inner_bracket ∷ [])) ts mid
    behind first colon)
    second

-- ---- an expression in parentheses

-- behind the opening parenthesis, before the closing one
pub group_read :
    (bytes : List ℕ) (tokens behind rest : List Token) (start beyond n m : ℕ) →
    beyond ≡ start - 1024 → beyond < length tokens → m ≡ n + 1 → m ≤ 64 →
    a_sign signs.OpenParenthesis (placed_tokens bytes tokens) (placed_tokens bytes behind) →
    Reads (whole start m) [] (placed_tokens bytes behind) (placed_tokens bytes rest) →
    Reads (inner start (operand n) ∷ []) (inner start inner_parenthesis ∷ [])
    (placed_tokens bytes tokens) (placed_tokens bytes rest)
group_read bytes tokens behind rest start beyond n m same count opens deep at expr =
    then_read (inner start (operand n) ∷ []) (whole start m) (inner start inner_parenthesis ∷ [])
    (placed_tokens bytes tokens) (placed_tokens bytes behind) (placed_tokens bytes rest)
    (opened_read bytes tokens behind start beyond n m (operand n) (λ l.
    inside l (inner_parenthesis ∷ [])) signs.OpenParenthesis same count opens deep refl at)
    expr

-- ---- parts in braces

-- the first part, behind the opening brace
pub first_part :
    (bytes : List ℕ) (tokens behind rest : List Token) (start beyond n m : ℕ) →
    beyond ≡ start - 1024 → beyond < length tokens → m ≡ n + 1 → m ≤ 64 →
    a_sign signs.OpenBrace (placed_tokens bytes tokens) (placed_tokens bytes behind) →
    Reads (whole start m) [] (placed_tokens bytes behind) (placed_tokens bytes rest) →
    Reads (inner start (operand n) ∷ []) (inner start (members_or_count m) ∷ [])
    (placed_tokens bytes tokens) (placed_tokens bytes rest)
first_part bytes tokens behind rest start beyond n m same count opens deep at first =
    then_read (inner start (operand n) ∷ []) (whole start m) (inner start (members_or_count m) ∷ [])
    (placed_tokens bytes tokens) (placed_tokens bytes behind) (placed_tokens bytes rest)
    (opened_read bytes tokens behind start beyond n m (operand n) (λ l.
    inside l (members_or_count l ∷ [])) signs.OpenBrace same count opens deep refl at)
    first

-- the first part was a count, since a second brace comes
pub count_read :
    (bytes : List ℕ) (tokens mid rest : List Token) (start beyond n m k : ℕ) →
    beyond ≡ start - 1024 → beyond < length mid → k ≡ m + 1 → k ≤ 64 →
    Reads (inner start (operand n) ∷ []) (inner start (members_or_count m) ∷ [])
    (placed_tokens bytes tokens) (placed_tokens bytes mid) →
    a_sign signs.OpenBrace (placed_tokens bytes mid) (placed_tokens bytes rest) →
    Reads (inner start (operand n) ∷ [])
    (whole start k ++ (inner start (members k) ∷ inner start inner_brace ∷ []))
    (placed_tokens bytes tokens) (placed_tokens bytes rest)
count_read bytes tokens mid rest start beyond n m k same count opens deep first at =
    reads_then (inner start (operand n) ∷ []) (inner start (members_or_count m) ∷ [])
    (whole start k ++ (inner start (members k) ∷ inner start inner_brace ∷ []))
    (placed_tokens bytes tokens) (placed_tokens bytes mid) (placed_tokens bytes rest) first
    (opened_read bytes mid rest start beyond m k (members_or_count m) (λ l.
    inside l (members l ∷ inner_brace ∷ [])) signs.OpenBrace same count opens deep refl at)

-- the first part begins a join, since no second brace comes
pub join_begun :
    (start n m : ℕ) (ts rest : List Placed) →
    Reads (inner start (operand n) ∷ []) (inner start (members_or_count m) ∷ []) ts rest →
    NextIsNotSign signs.OpenBrace rest →
    Reads (inner start (operand n) ∷ []) (inner start (members m) ∷ []) ts rest
join_begun start n m ts rest first none =
    reads_then (inner start (operand n) ∷ []) (inner start (members_or_count m) ∷ [])
    (inner start (members m) ∷ []) ts rest rest first (no_count start m rest none)

-- the parts have to end with a brace, since no comma comes
pub parts_end :
    (xs : State) (start m : ℕ) (ts mid rest : List Placed) →
    Reads xs (inner start (members m) ∷ []) ts mid →
    Reads (inner start (members m) ∷ []) (inner start (members m) ∷ []) mid rest →
    NextIsNotSign signs.Comma rest →
    Reads xs (inner start inner_brace ∷ []) ts rest
parts_end xs start m ts mid rest begun later none =
    reads_then xs (inner start (members m) ∷ []) (inner start inner_brace ∷ []) ts mid rest begun
    (reads_then (inner start (members m) ∷ []) (inner start (members m) ∷ [])
    (inner start inner_brace ∷ []) mid rest rest later (ends_members start m rest none))

-- the parts of a replication, behind which both of its braces have to come
pub repeated_parts :
    (start n : ℕ) (ts mid rest : List Placed) → Reads (whole start n) [] ts mid →
    Reads (inner start (members n) ∷ []) (inner start (members n) ∷ []) mid rest →
    NextIsNotSign signs.Comma rest →
    Reads (whole start n ++ (inner start (members n) ∷ inner start inner_brace ∷ []))
    (inner start inner_brace ∷ inner start inner_brace ∷ []) ts rest
repeated_parts start n ts mid rest first later none =
    reads_before (whole start n ++ (inner start (members n) ∷ [])) (inner start inner_brace ∷ [])
    (inner start inner_brace ∷ []) ts rest
    (parts_end (whole start n ++ (inner start (members n) ∷ [])) start n ts mid rest
    (reads_before (whole start n) [] (inner start (members n) ∷ []) ts mid first) later none)

-- ---- what stands behind a name

pub dot_halts : (start n : ℕ) (ts rest : List Placed) → a_sign signs.Dot ts rest →
    Halts (inner start (selection n) ∷ []) ts (stuck_at behind_name) (length ts)
dot_halts start n ts rest (p, at) =
    subst (λ us. Halts (inner start (selection n) ∷ []) us (stuck_at behind_name) (length us))
    (sym at)
    (is_stuck_inside_at start (selection n) behind_name (record {
      lexeme = sign signs.Dot;
      place = p;
    }) rest refl)

free_name : (n : ℕ) (b : Bool) → IsTrue (not b) →
    name_operand n b ≡ takes_inner 0 (selection n ∷ [])
free_name n true free = absurd (false≢true free)
free_name n false free = refl

pub name_takes : (n : ℕ) (x : List ℕ) (p : Place) (ts rest : List Placed) → name_at x p ts rest →
    NextTakes (operand n) 0 (selection n ∷ []) ts
name_takes n x p ts rest (free, at) =
    token_takes (operand n) 0 (selection n ∷ []) (identifier x) p ts rest
    (free_name n (is_refused_word x) free) at

pub name_read :
    (bytes : List ℕ) (tokens rest : List Token) (start beyond n : ℕ) (x : List ℕ) (p : Place) →
    beyond ≡ start - 1024 → beyond < length tokens →
    name_at x p (placed_tokens bytes tokens) (placed_tokens bytes rest) →
    Reads (inner start (operand n) ∷ []) (inner start (selection n) ∷ [])
    (placed_tokens bytes tokens) (placed_tokens bytes rest)
name_read bytes tokens rest start beyond n x p same count (free, at) =
    token_inside bytes tokens rest start beyond (operand n) 0 (selection n ∷ []) (identifier x) p
    same count (omega arith) (free_name n (is_refused_word x) free) at

-- a name and the opening bracket behind it
pub selection_opened :
    (bytes : List ℕ) (tokens mid rest : List Token) (start beyond n m : ℕ) (x : List ℕ)
    (p : Place) → beyond ≡ start - 1024 →
    beyond < length tokens → beyond < length mid → m ≡ n + 1 → m ≤ 64 →
    name_at x p (placed_tokens bytes tokens) (placed_tokens bytes mid) →
    a_sign signs.OpenBracket (placed_tokens bytes mid) (placed_tokens bytes rest) →
    Reads (inner start (operand n) ∷ []) (whole start m ++ (inner start (selection_end m) ∷ []))
    (placed_tokens bytes tokens) (placed_tokens bytes rest)
selection_opened bytes tokens mid rest start beyond n m x p same count counted opens deep name at =
    reads_then (inner start (operand n) ∷ []) (inner start (selection n) ∷ [])
    (whole start m ++ (inner start (selection_end m) ∷ []))
    (placed_tokens bytes tokens) (placed_tokens bytes mid) (placed_tokens bytes rest)
    (name_read bytes tokens mid start beyond n x p same count name)
    (opened_read bytes mid rest start beyond n m (selection n) (λ l.
    inside l (selection_end l ∷ [])) signs.OpenBracket same counted opens deep refl at)

-- ---- what cannot be, since the caller saw the token

pub sign_is_there : (xs : State) (k : SignKind) (ts : List Placed) (tokens : List Token)
    (others : List Placed) (stop : Stop) → NextIsSign k ts
    → StopsAt tokens (NextIsNotSign k ts) stop → HaltsAs xs others stop
sign_is_there xs k [] tokens others stop comes at = absurd comes
sign_is_there xs k (t ∷ ts) tokens others (stops.Broken breach left) comes at = absurd (at.0 comes)
sign_is_there xs k (t ∷ ts) tokens others stops.OutOfMemory comes at = tt

pub not_there : (k : SignKind) (ts : List Placed) → NextIsSign k ts → NextIsNotSign k ts → ⊥
not_there k [] comes none = comes
not_there k (t ∷ ts) comes none = none comes

pub number_is_there :
    (xs : State) (ts : List Placed) (tokens : List Token) (others : List Placed) (stop : Stop)
    → NextIsNumber ts
    → StopsAt tokens (NextIsNoNumber ts) stop → HaltsAs xs others stop
number_is_there xs [] tokens others stop comes at = absurd comes
number_is_there xs (t ∷ ts) tokens others (stops.Broken breach left) comes at =
    absurd (at.0 comes.0 comes.1)
number_is_there xs (t ∷ ts) tokens others stops.OutOfMemory comes at = tt

refused_name : (n : ℕ) (b : Bool) → (IsTrue (not b) → ⊥) → name_operand n b ≡ stuck_inner something
refused_name n true none = refl
refused_name n false none = absurd (none refl)

pub name_halts : (start n : ℕ) (ts : List Placed) → NextIsAnyName ts → NextIsNoName ts →
    Halts (inner start (operand n) ∷ []) ts (stuck_at something) (length ts)
name_halts start n [] comes none = absurd comes
name_halts start n (t ∷ ts) (x, is) none =
    is_stuck_inside start (operand n) something (t ∷ ts) refl (ap (inner_on (operand n)) is
    ∙ refused_name n (is_refused_word x) (none x is))

no_prefix : (n : ℕ) (o : Operator) (found : Option UnOp) → unary_operator o ≡ found
    → ((op : UnOp) → unary_operator o ≡ Some op → ⊥)
    → prefix_operand n (unary_operator o) ≡ stuck_inner something
no_prefix n o None is none = ap (prefix_operand n) is
no_prefix n o (Some op) is none = absurd (none op is)

pub prefix_halts : (start n : ℕ) (ts : List Placed) → NextIsAnyOperator ts → NextIsNoUnary ts →
    Halts (inner start (operand n) ∷ []) ts (stuck_at something) (length ts)
prefix_halts start n [] comes none = absurd comes
prefix_halts start n (t ∷ ts) (o, is) none =
    is_stuck_inside start (operand n) something (t ∷ ts) refl
    (ap (inner_on (operand n)) is ∙ no_prefix n o (unary_operator o) refl (λ op known.
    none o op is known))

-- ---- an expression that stands in no other one

pub expression_read :
    (bytes : List ℕ) (tokens rest : List Token) (beyond n m : ℕ) → m ≡ n →
    beyond ≡ length tokens - 1024 →
    ((start : ℕ) → beyond ≡ start - 1024 →
    Reads (whole start m) [] (placed_tokens bytes tokens) (placed_tokens bytes rest)) →
    Reads (outer (expression n) ∷ []) [] (placed_tokens bytes tokens) (placed_tokens bytes rest)
expression_read bytes tokens rest beyond n m is size read =
    reads_then (outer (expression n) ∷ []) (whole (length (placed_tokens bytes tokens)) n) []
    (placed_tokens bytes tokens) (placed_tokens bytes tokens) (placed_tokens bytes rest)
    (reads_expression n (placed_tokens bytes tokens))
    (subst (λ (k : ℕ). Reads (whole (length (placed_tokens bytes tokens)) k) []
    (placed_tokens bytes tokens) (placed_tokens bytes rest)) is
    (read (length (placed_tokens bytes tokens)) (size
    ∙ ap (λ (k : ℕ). k - 1024) (sym (as_many bytes tokens)))))

pub expression_stops :
    (bytes : List ℕ) (tokens : List Token) (beyond n m : ℕ) (stop : Stop) → m ≡ n →
    beyond ≡ length tokens - 1024 →
    ((start : ℕ) → beyond ≡ start - 1024 →
    HaltsAs (whole start m) (placed_tokens bytes tokens) stop) →
    HaltsAs (outer (expression n) ∷ []) (placed_tokens bytes tokens) stop
expression_stops bytes tokens beyond n m stop is size halts =
    stops_then (outer (expression n) ∷ []) (whole (length (placed_tokens bytes tokens)) n)
    (placed_tokens bytes tokens) (placed_tokens bytes tokens) stop
    (reads_expression n (placed_tokens bytes tokens))
    (subst (λ (k : ℕ). HaltsAs (whole (length (placed_tokens bytes tokens)) k)
    (placed_tokens bytes tokens) stop) is
    (halts (length (placed_tokens bytes tokens)) (size
    ∙ ap (λ (k : ℕ). k - 1024) (sym (as_many bytes tokens)))))

-- ---- lists

-- the first member of a list, behind which its further members are still to come
pub list_begun : (start behind others more : State) (ts rest : List Placed) →
    behind ++ others ≡ more → Reads start behind ts rest → Reads (start ++ others) more ts rest
list_begun start behind others more ts rest all first =
    subst (λ (s : State).
    Reads (start ++ others) s ts rest) all (reads_before start behind others ts rest first)
