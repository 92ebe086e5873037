-- How an arm of a case begins.
use Rattle.std.proofs.Common.{◌≡◌, ℕ, suc, zero, ◌+◌, ◌-◌, ◌<◌, ◌≤◌, max, Bool, true, false, ◌&&◌}
use Rattle.std.proofs.Common.{◌||◌, List, [], ◌∷◌, ◌++◌, length, refl, sym, ap}
use Rattle.std.proofs.Common.{◌∙◌, subst, arith}
use Rattle.std.proofs.lemmas.Bool.{false≢true}
use Rattle.sv_token.specs.declared.keywords.WordKind.TheVariants as words
use Rattle.sv_token.specs.declared.signs.SignKind.TheVariants as signs
use Rattle.sv_token.specs.declared.tokens.Token.{Token}
use Rattle.sv_token.specs.Lexemes.{Lexeme, word, Placed, placed_tokens}
use Rattle.sv_num.specs.declared.faults.Place.{Place}
use Rattle.sv_token.specs.declared.keywords.WordKind.{WordKind}
use Rattle.sv_ast.specs.Tree.{ExpressionTree}
use Rattle.sv_ast.specs.GrammarForms.{◌⨾◌, a_word, a_sign, word_at, commas}
use Rattle.sv_ast.specs.GrammarExpressions.{is_within, IsExpression}
use Rattle.sv_ast.specs.GrammarStatements.{IsNext, is_default}
use Rattle.sv_ast.specs.GrammarRules.{all_limits}
use Rattle.sv_parse_expr.specs.declared.stop.Stop.{Stop}
use Rattle.sv_parse_expr.specs.Expectations.{HaltsAs}
use Rattle.sv_parse_machine.specs.Symbols.{operand, tail, Outer, punctuation, expression, statement, arms}
use Rattle.sv_parse_machine.specs.Symbols.{more_choices, inner, outer, State, InnerReaction, takes_inner}
use Rattle.sv_parse_machine.specs.Symbols.{over_inner, stuck_inner}
use Rattle.sv_parse_machine.specs.ExpressionTable.{operand_on}
use Rattle.sv_parse_machine.specs.ExpressionTable.{as_expression, expression_on}
use Rattle.sv_parse_machine.specs.Machine.{outer_on, MachineStep, within_limits, inside_on}
use Rattle.sv_parse_machine.specs.Machine.{outside_on, tokens_of, after_inner, after_outer, step}
use Rattle.sv_parse_machine.specs.Machine.{go_on, run}
use Rattle.sv_parse_machine.specs.Reads.{Reads, IsNot, NextIsNotWord, NextIsNotSign}
use Rattle.sv_parse_machine.proofs.ReadSteps.{NotOver, operand_not_over, reads_then}
use Rattle.sv_parse_machine.proofs.ReadSteps.{beyond, begins_expression, as_many}
use Rattle.sv_parse_machine.proofs.ReadRows.{word_taken}
use Rattle.sv_parse_machine.proofs.SkippedRows.{begins_arms}
use Rattle.sv_parse_machine.proofs.ReadLists.{ends_more_choices}
use Rattle.sv_parse_expr.proofs.Halting.{stops_then}
use Rattle.sv_parse_stmt.specs.ReadingArms.{ArmComes, behind_arm, behind_items}
use Rattle.sv_parse_stmt.proofs.SymbolsAlike.{then_on, expression_first}

abbrev items_behind : ℕ → ℕ → Bool → List Outer
items_behind n before default = more_choices n ∷ statement n ∷ arms n (before + 1) default ∷ []

-- ---- an arm with items

-- the first arm may not be `endcase`, which begins no expression either
row_first_arm : (n : ℕ) (default : Bool) (x : Lexeme) → IsNot (word words.Default) x →
    outer_on (arms n 0 default) x ≡ expression_on n 1 (items_behind n 0 default) x
row_first_arm n default (word words.Endcase) none = refl
row_first_arm n default (word words.Default) none = absurd (none refl)
row_first_arm n default x none = refl

first_arm : (n : ℕ) (default : Bool) (ts : List Placed) → NextIsNotWord words.Default ts →
    Reads (outer (arms n 0 default) ∷ []) (outer (expression n) ∷ behind_items n 0 default) ts ts
first_arm n default [] none =
    expression_first (arms n 0 default) n (items_behind n 0 default) []
    (begins_expression (arms n 0 default) n 1 (items_behind n 0 default) [] (omega arith)
    refl tt)
first_arm n default (t ∷ ts) none =
    expression_first (arms n 0 default) n (items_behind n 0 default) (t ∷ ts)
    (begins_expression (arms n 0 default) n 1 (items_behind n 0 default) (t ∷ ts) (omega arith) refl
    (row_first_arm n default t.lexeme none))

pub arm_begins :
    (n before : ℕ) (default : Bool) (ts : List Placed) → before + 1 ≤ 256 → ArmComes before ts →
    NextIsNotWord words.Default ts →
    Reads (outer (arms n before default) ∷ [])
    (outer (expression n) ∷ behind_items n before default) ts ts
arm_begins n zero default ts few comes none = first_arm n default ts none
arm_begins n (suc k) default ts few comes none =
    expression_first (arms n (suc k) default) n (items_behind n (suc k) default) ts
    (begins_arms n (suc k) default ts few (comes (omega arith)) none)

-- ---- an arm too many

fails_alike : (deep b c : Bool) (s t : State) → b ≡ false → c ≡ false →
    within_limits deep b s ≡ within_limits deep c t
fails_alike true true c s t first second = absurd (false≢true (sym first))
fails_alike true false true s t first second = absurd (false≢true (sym second))
fails_alike true false false s t first second = refl
fails_alike false b c s t first second = refl

no_arm : (b c : Bool) → b ≡ false → (b && c) ≡ false
no_arm true c is = absurd (false≢true (sym is))
no_arm false c is = refl

-- a token that begins an expression is one too many in both
too_many_step :
    (n arm a : ℕ) (ys : List Outer) (below others : State) (skip other : MachineStep)
    (r : InnerReaction) → NotOver r → 256 < arm →
    after_outer all_limits a below skip (as_expression n arm ys r) ≡
    after_inner all_limits a (a + 1 + 1024) others other r
too_many_step n arm a ys below others skip other (takes_inner level xs) kind more =
    fails_alike (is_within all_limits.levels level) (is_within all_limits.arms arm
    && is_within all_limits.tokens (tokens_of all_limits (a + 1) a))
    (is_within all_limits.tokens (tokens_of all_limits (a + 1 + 1024) a))
    (inside_on (a + 1) (xs ++ tail n ∷ []) ++ (outside_on ys ++ below))
    (inside_on (a + 1 + 1024) xs ++ others)
    (no_arm (is_within all_limits.arms arm)
    (is_within all_limits.tokens (tokens_of all_limits (a + 1) a)) (beyond arm 256 more))
    (beyond (a + 1 + 1024 - max a 0) 1024 (omega arith))
too_many_step n arm a ys below others skip other over_inner kind more = absurd kind
too_many_step n arm a ys below others skip other (stuck_inner e) kind more = refl

row_arms : (n before : ℕ) (default : Bool) (x : Lexeme) → IsNot (word words.Endcase) x →
    IsNot (word words.Default) x →
    outer_on (arms n before default) x ≡
    expression_on n (before + 1) (items_behind n before default) x
row_arms n before default (word words.Endcase) no_end no_default = absurd (no_end refl)
row_arms n before default (word words.Default) no_end no_default = absurd (no_default refl)
row_arms n before default x no_end no_default = refl

-- an expression that may have no token
abbrev none_at_all : ℕ → ℕ → State
none_at_all n left = inner (left + 1024) (operand n) ∷ inner (left + 1024) (tail n) ∷ []

arm_too_many :
    (n before : ℕ) (default : Bool) (ts : List Placed) → 256 < before + 1 →
    NextIsNotWord words.Endcase ts → NextIsNotWord words.Default ts →
    Reads (outer (arms n before default) ∷ []) (none_at_all n (length ts)) ts ts
arm_too_many n before default [] more no_end no_default = record { runs = λ below. refl }
arm_too_many n before default (t ∷ ts) more no_end no_default = record {
  runs = λ below.
      let many : length (t ∷ ts) ≡ length ts + 1 = omega arith in
      ap (λ r. go_on (λ s.
      run all_limits s ts) (t ∷ ts)
      (after_outer all_limits (length ts) below (step all_limits (length ts) below t.lexeme) r))
      (row_arms n before default t.lexeme no_end no_default)
      ∙ ap (λ st. go_on (λ s. run all_limits s ts) (t ∷ ts) st)
      (too_many_step n (before + 1) (length ts) (items_behind n before default) below
      (inner (length ts + 1 + 1024) (tail n) ∷ below)
      (step all_limits (length ts) below t.lexeme)
      (step all_limits (length ts) (inner (length ts + 1 + 1024) (tail n) ∷ below) t.lexeme)
      (operand_on n t.lexeme) (operand_not_over n t.lexeme) more)
      ∙ ap (λ (left : ℕ). run all_limits (none_at_all n left ++ below) (t ∷ ts)) (sym many);
}

-- the stop of an arm too many
pub arm_stops :
    (bytes : List ℕ) (tokens : List Token) (n before : ℕ) (default : Bool) (stop : Stop) →
    256 ≤ before →
    ArmComes before (placed_tokens bytes tokens) →
    NextIsNotWord words.Default (placed_tokens bytes tokens) →
    HaltsAs (none_at_all n (length tokens)) (placed_tokens bytes tokens) stop →
    HaltsAs (outer (arms n before default) ∷ []) (placed_tokens bytes tokens) stop
arm_stops bytes tokens n before default stop more comes none halts =
    stops_then (outer (arms n before default) ∷ [])
    (none_at_all n (length (placed_tokens bytes tokens))) (placed_tokens bytes tokens)
    (placed_tokens bytes tokens) stop
    (arm_too_many n before default (placed_tokens bytes tokens) (omega arith)
    (comes (omega arith)) none)
    (subst (λ (left : ℕ). HaltsAs (none_at_all n left) (placed_tokens bytes tokens) stop)
    (sym (as_many bytes tokens)) halts)

-- ---- the last word of a case

pub case_ends : (n before : ℕ) (default : Bool) (ts rest : List Placed) → 0 < before →
    a_word words.Endcase ts rest → Reads (outer (arms n before default) ∷ []) [] ts rest
case_ends n zero default ts rest some is = absurd (omega arith)
case_ends n (suc k) default ts rest some is =
    word_taken (arms n (suc k) default) words.Endcase [] ts rest refl is

-- ---- put together

-- behind the last item of an arm its `:` has to come
pub items_closing :
    (n before : ℕ) (default : Bool) (ts a b : List Placed) →
    Reads (outer (arms n before default) ∷ []) (behind_items n before default) ts a →
    Reads (outer (more_choices n) ∷ []) (outer (more_choices n) ∷ []) a b →
    NextIsNotSign signs.Comma b →
    Reads (outer (arms n before default) ∷ [])
    (outer (punctuation signs.Colon) ∷ behind_arm n before default) ts b
items_closing n before default ts a b first items over =
    then_on (outer (arms n before default) ∷ []) (outer (more_choices n) ∷ [])
    (outer (punctuation signs.Colon) ∷ []) (behind_arm n before default) ts a b first
    (reads_then (outer (more_choices n) ∷ []) (outer (more_choices n) ∷ [])
    (outer (punctuation signs.Colon) ∷ []) a b b items (ends_more_choices n b over))

-- an arm with items is no default
pub not_default :
    (n : ℕ) (items : List ExpressionTree) (ts rest : List Placed) →
    (commas (IsExpression all_limits n) items ⨾ a_sign signs.Colon) ts rest →
    is_default items ≡ false
not_default n [] ts rest is = absurd is.1
not_default n (e ∷ es) ts rest is = refl

pub or_none : (default other : Bool) → other ≡ false → (default || other) ≡ default
or_none true other none = refl
or_none false other none = none

pub word_comes : (w : WordKind) (p : Place) (ts rest : List Placed) → word_at w p ts rest →
    IsNext w ts
word_comes w p ts rest at = subst (λ us. IsNext w us) (sym at) refl
