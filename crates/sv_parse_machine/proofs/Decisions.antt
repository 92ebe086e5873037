-- The machine of the grammar runs through tokens to the end, or fails: so they mean a text, or
-- break a rule.
use Rattle.std.proofs.Common.{◌≡◌, ℕ, List, [], ◌∷◌, ◌⊎◌, inl, inr, refl}
use Rattle.sv_num.specs.declared.faults.Place.{Place}
use Rattle.sv_token.specs.Lexemes.{Placed}
use Rattle.sv_ast.specs.Tree.{TextTree}
use Rattle.sv_ast.specs.GrammarRules.{all_limits, TokensMean, BreaksGrammar}
use Rattle.sv_parse_machine.specs.Machine.{MachineEnd, done, fails, run, text_state}
use Rattle.sv_parse_machine.specs.Verdict.{rule_number, rule_names, rule_place}
use Rattle.sv_parse_machine.proofs.Runs.{text_of_run}
use Rattle.sv_parse_machine.proofs.TextTrees.{text_of_form}
use Rattle.sv_parse_machine.proofs.Walks.{where_run_fails}
use Rattle.sv_parse_machine.proofs.Breaks.{end_breaks, failure_breaks}

abbrev pub MeansOrBreaks : List Placed → Place → Type 0
MeansOrBreaks tokens stop =
    ((text : TextTree) × TokensMean tokens text)
    ⊎ ((number : ℕ) × (names : List (List ℕ)) × (place : Place)
    × BreaksGrammar number names place stop tokens)

by_end : (ts : List Placed) (stop : Place) (o : MachineEnd) → run all_limits text_state ts ≡ o →
    MeansOrBreaks ts stop
by_end ts stop done e = inl (text_of_form all_limits ts (text_of_run all_limits ts e))
by_end ts stop (fails f []) e = inr (201, [], stop, end_breaks ts f stop e)
by_end ts stop (fails f (t ∷ after)) e =
    let found = where_run_fails all_limits ts text_state f (t ∷ after) e in
    inr (
      rule_number f found.0 (t ∷ after),
      rule_names f found.0 (t ∷ after),
      rule_place stop (t ∷ after),
      failure_breaks ts found.0 (t ∷ after) f stop found.1 e,
    )

pub means_or_breaks : (ts : List Placed) (stop : Place) → MeansOrBreaks ts stop
means_or_breaks ts stop = by_end ts stop (run all_limits text_state ts) refl
