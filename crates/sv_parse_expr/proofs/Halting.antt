-- How a stop of what is read first, or behind something else, is the stop of the whole.
use Rattle.std.proofs.Common.{◌≡◌, ℕ, List, ◌++◌, length, sym, ap, ◌∙◌, subst}
use Rattle.std.specs.Prelude.{Result, Ok, Err, IfErr, IsErrAnd}
use Rattle.sv_token.specs.declared.tokens.Token.{Token}
use Rattle.sv_token.specs.Lexemes.{Placed, placed_tokens}
use Rattle.sv_parse_expr.specs.declared.stop.GrammarBreach.{GrammarBreach}
use Rattle.sv_parse_expr.specs.declared.stop.GrammarBreach.TheVariants.{Stuck}
use Rattle.sv_parse_expr.specs.declared.stop.Expected.TheVariants as code_expected
use Rattle.sv_parse_expr.specs.declared.stop.Stop.{Stop}
use Rattle.sv_parse_expr.specs.declared.stop.Stop.TheVariants as stops
use Rattle.sv_parse_machine.specs.Symbols.{State, something}
use Rattle.sv_parse_machine.specs.Machine.{stuck_at}
use Rattle.sv_parse_machine.specs.Reads.{Reads, Halts}
use Rattle.sv_parse_expr.specs.Expectations.{failure_of, HaltsAs, StopsAt}
use Rattle.sv_parse_machine.proofs.ReadSteps.{halts_then, halts_before, halts_left, as_many}

-- what comes first is read, and what is behind it fails
pub stops_then : (xs ys : State) (ts mid : List Placed) (stop : Stop) → Reads xs ys ts mid →
    HaltsAs ys mid stop → HaltsAs xs ts stop
stops_then xs ys ts mid (stops.Broken breach left) first second =
    halts_then xs ys ts mid (failure_of breach) left first second
stops_then xs ys ts mid stops.OutOfMemory first second = tt

-- in front of other symbols
pub stops_before : (xs others : State) (ts : List Placed) (stop : Stop) → HaltsAs xs ts stop →
    HaltsAs (xs ++ others) ts stop
stops_before xs others ts (stops.Broken breach left) is =
    halts_before xs others ts (failure_of breach) left is
stops_before xs others ts stops.OutOfMemory is = tt

-- memory runs out
pub stops_without_memory : (xs : State) (ts : List Placed) (stop : Stop) →
    stop ≡ stops.OutOfMemory → HaltsAs xs ts stop
stops_without_memory xs ts stop is = subst (λ (s : Stop). HaltsAs xs ts s) (sym is) tt

-- a breach at the first of the tokens
pub stops_here : (bytes : List ℕ) (tokens : List Token) (xs : State) (breach : GrammarBreach)
    (stop : Stop)
    → Halts xs (placed_tokens bytes tokens) (failure_of breach)
    (length (placed_tokens bytes tokens))
    → stop ≡ stops.Broken breach (length tokens) → HaltsAs xs (placed_tokens bytes tokens) stop
stops_here bytes tokens xs breach stop is at =
    subst (λ (s : Stop). HaltsAs xs (placed_tokens bytes tokens) s) (sym at)
    (halts_left xs (placed_tokens bytes tokens) (failure_of breach)
    (length (placed_tokens bytes tokens)) (length tokens) (as_many bytes tokens) is)

-- a stop at the first of the tokens, where the symbols are stuck if what it says of them holds
pub stops_by : (bytes : List ℕ) (tokens : List Token) (xs : State) (P : Type 0) (stop : Stop)
    → (P → Halts xs (placed_tokens bytes tokens) (stuck_at something)
    (length (placed_tokens bytes tokens)))
    → StopsAt tokens P stop → HaltsAs xs (placed_tokens bytes tokens) stop
stops_by bytes tokens xs P (stops.Broken breach left) is at =
    stops_here bytes tokens xs (Stuck code_expected.Something) (stops.Broken breach left) (is at.0)
    (ap (λ (b : GrammarBreach). stops.Broken b left) at.1
    ∙ ap (λ (n : ℕ). stops.Broken (Stuck code_expected.Something) n) at.2)
stops_by bytes tokens xs P stops.OutOfMemory is at = tt

-- a stop that `?` passes on
pub passed : {T : Type 0} (P : Stop → Type 0) (r : Result T Stop) (x : Stop) →
    IsErrAnd r (λ y. y ≡ x) → P x → IfErr r P
passed P (Ok v) x is holds = absurd is
passed P (Err y) x is holds = subst P (sym is) holds
