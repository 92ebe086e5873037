-- How a run over a whole text fails, and what rule the text breaks there.
use Rattle.std.proofs.Common.{◌≡◌, ℕ, ◌+◌, ◌-◌, List, [], ◌∷◌, ◌++◌, length, take, drop, refl, sym}
use Rattle.std.proofs.Common.{ap, subst, ◌∙◌, arith, length-append}
use Rattle.std.proofs.Math.Seq.{take-append_seam, drop-append_seam}
use Rattle.std.proofs.lemmas.List.{take-map, length-map}
use Rattle.std.specs.List.{drop-map}
use Rattle.sv_num.specs.declared.faults.Place.{Place}
use Rattle.sv_num.specs.declared.faults.Fault.{Fault}
use Rattle.sv_num.specs.declared.faults.Fault.TheVariants.{Rule, OutOfMemory}
use Rattle.sv_num.specs.Faults.{Refuses}
use Rattle.sv_token.specs.declared.keywords.WordKind.TheVariants as words
use Rattle.sv_token.specs.declared.tokens.Token.{Token}
use Rattle.sv_token.specs.Lexemes.{Lexeme, word, Placed, placed_of, placed_tokens}
use Rattle.sv_ast.specs.GrammarRules.{all_limits, BreaksGrammar}
use Rattle.sv_parse_machine.specs.Symbols.{one_module, outer, State}
use Rattle.sv_parse_machine.specs.ModuleTable.{one_module_on}
use Rattle.sv_parse_machine.specs.Machine.{MachineStep, goes, after_outer, step, go_on, run}
use Rattle.sv_parse_machine.specs.Machine.{text_state}
use Rattle.sv_parse_machine.specs.Reads.{Reads, failure_at}
use Rattle.sv_parse_machine.specs.Verdict.{rule_number, rule_names, rule_place}
use Rattle.sv_parse_machine.proofs.Walks.{where_run_fails}
use Rattle.sv_parse_machine.proofs.Breaks.{failure_breaks}
use Rattle.sv_parse_expr.specs.declared.stop.GrammarBreach.{GrammarBreach}
use Rattle.sv_parse_expr.specs.declared.stop.Stop.{Stop}
use Rattle.sv_parse_expr.specs.declared.stop.Stop.TheVariants as stops
use Rattle.sv_parse_expr.specs.Expectations.{failure_of, HaltsAs, RefusesAt}
use Rattle.sv_parse_expr.specs.Faults.{IsRefusalOf}
use Rattle.sv_parse.specs.ReadingTexts.{Fails, FailsAs}

-- ---- runs that fail

pub fails_then : (xs ys : State) (ts mid : List Placed) (stop : Stop) →
    run all_limits xs ts ≡ run all_limits ys mid → FailsAs ys mid stop → FailsAs xs ts stop
fails_then xs ys ts mid (stops.Broken breach left) same is =
    record { rest = is.rest; many = is.many; runs = same ∙ is.runs }
fails_then xs ys ts mid stops.OutOfMemory same is = tt

-- behind what was read, in front of further symbols
pub fails_behind : (xs ys below : State) (ts mid : List Placed) (stop : Stop) → Reads xs ys ts mid →
    FailsAs (ys ++ below) mid stop → FailsAs (xs ++ below) ts stop
fails_behind xs ys below ts mid stop first is =
    fails_then (xs ++ below) (ys ++ below) ts mid stop (first.runs below) is

to_nothing : (xs : State) → xs ++ [] ≡ xs
to_nothing [] = refl
to_nothing (x ∷ xs) = ap (λ (ys : State). x ∷ ys) (to_nothing xs)

pub halting_fails : (xs : State) (ts : List Placed) (stop : Stop) → HaltsAs xs ts stop →
    FailsAs xs ts stop
halting_fails xs ts (stops.Broken breach left) is = record {
  rest = is.rest;
  many = is.many;
  runs = ap (λ s. run all_limits s ts) (sym (to_nothing xs)) ∙ is.runs [];
}
halting_fails xs ts stops.OutOfMemory is = tt

-- ---- modules behind the first

only_a_module : (after : ℕ) (skip other : MachineStep) (x : Lexeme) →
    after_outer all_limits after [] skip (one_module_on x) ≡
    after_outer all_limits after [] other (one_module_on x)
only_a_module after skip other (word words.Module) = refl
only_a_module after skip other x = refl

pub next_module : (bytes : List ℕ) (tokens : List Token) → (length tokens ≡ 0 → ⊥)
    → run all_limits [] (placed_tokens bytes tokens) ≡
    run all_limits (outer one_module ∷ []) (placed_tokens bytes tokens)
next_module bytes [] some = absurd (some refl)
next_module bytes (u ∷ us) some =
    let ts = placed_tokens bytes us in
    let t = placed_of bytes u in
    ap (λ st. go_on (λ s. run all_limits s ts) (t ∷ ts) st)
    (only_a_module (length ts) (goes []) (step all_limits (length ts) [] t.lexeme) t.lexeme)

-- ---- the rule that is broken

refusal_of : (fault : Fault) (number : ℕ) (place : Place) (names : List (List ℕ)) (stop : Place)
    (tokens : List Placed) → Refuses fault number place names
    → BreaksGrammar number names place stop tokens → IsRefusalOf stop tokens fault
refusal_of (Rule r) number place names stop tokens said breaks =
    subst (λ x. BreaksGrammar x.0 x.2 x.1 stop tokens) (sym said) breaks
refusal_of OutOfMemory number place names stop tokens said breaks = absurd said

count_before : (ts before rest : List Placed) (left : ℕ) → ts ≡ before ++ rest →
    length rest ≡ left → length ts - left ≡ length before
count_before ts before rest left parts many =
    let all : length ts ≡ length before + length rest =
    ap length parts ∙ length-append before rest in
    omega (arith, all, many)

tokens_before : (ts before rest : List Placed) (n : ℕ) → ts ≡ before ++ rest → n ≡ length before →
    before ≡ take n ts
tokens_before ts before rest n parts count =
    sym (ap (λ us. take n us) parts ∙ ap (λ k. take k (before ++ rest)) count
    ∙ take-append_seam before rest)

tokens_left : (ts before rest : List Placed) (n : ℕ) → ts ≡ before ++ rest → n ≡ length before →
    rest ≡ drop n ts
tokens_left ts before rest n parts count =
    sym (ap (λ us. drop n us) parts ∙ ap (λ k. drop k (before ++ rest)) count
    ∙ drop-append_seam before rest)

-- where the run over the whole text fails, and the fault says what is broken there
pub failing_is_refused :
    (bytes : List ℕ) (tokens : List Token) (breach : GrammarBreach) (left : ℕ) (stop : Place)
    (fault : Fault)
    → Fails text_state (placed_tokens bytes tokens) (failure_of breach) left
    → RefusesAt fault (failure_of breach) stop
    (placed_tokens bytes (take (length tokens - left) tokens))
    (placed_tokens bytes (drop (length tokens - left) tokens))
    → IsRefusalOf stop (placed_tokens bytes tokens) fault
failing_is_refused bytes tokens breach left stop fault fails said =
    let f = failure_of breach in
    let ts = placed_tokens bytes tokens in
    let n = length tokens - left in
    let rest = fails.rest in
    let found = where_run_fails all_limits ts text_state (failure_at f rest) rest fails.runs in
    let before = found.0 in
    let breaks = failure_breaks ts before rest f stop found.1 fails.runs in
    let same : length ts ≡ length tokens = length-map tokens (placed_of bytes) in
    let counted = count_before ts before rest left found.1 fails.many in
    let count : n ≡ length before = ap (λ k. k - left) (sym same) ∙ counted in
    let first : placed_tokens bytes (take n tokens) ≡ before =
    sym (take-map (placed_of bytes) n tokens)
    ∙ sym (tokens_before ts before rest n found.1 count) in
    let last : placed_tokens bytes (drop n tokens) ≡ rest =
    sym (drop-map (placed_of bytes) n tokens)
    ∙ sym (tokens_left ts before rest n found.1 count) in
    let there : RefusesAt fault f stop before rest =
    subst (λ us. RefusesAt fault f stop before us) last
    (subst (λ us. RefusesAt fault f stop us (placed_tokens bytes (drop n tokens))) first
    said) in
    refusal_of fault (rule_number f before rest) (rule_place stop rest) (rule_names f before rest)
    stop ts there breaks
