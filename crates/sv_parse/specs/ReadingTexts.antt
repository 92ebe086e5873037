-- Private: how the code goes. What the private functions say of the machine where they read whole
-- texts, and of the words with which parameters begin and label maps end.
use Rattle.std.specs.Prelude.{◌≡◌, ◌⊎◌, ℕ, List, length}
use Rattle.sv_token.specs.declared.keywords.WordKind.TheVariants as words
use Rattle.sv_token.specs.Lexemes.{Placed}
use Rattle.sv_ast.specs.GrammarStatements.{IsNext}
use Rattle.sv_ast.specs.GrammarRules.{all_limits}
use Rattle.sv_parse_machine.specs.Symbols.{State}
use Rattle.sv_parse_machine.specs.Machine.{Failure, fails, run}
use Rattle.sv_parse_machine.specs.Reads.{failure_at}
use Rattle.sv_parse_expr.specs.declared.stop.Stop.{Stop}
use Rattle.sv_parse_expr.specs.declared.stop.Stop.TheVariants as stops
use Rattle.sv_parse_expr.specs.Expectations.{failure_of}

-- the word of an item of parameters comes
abbrev pub BeginsParameters : List Placed → Type 0
BeginsParameters ts = IsNext words.Parameter ts ⊎ IsNext words.Localparam ts

-- `default` or the last word of a label map comes
abbrev pub EndsRows : List Placed → Type 0
EndsRows ts = IsNext words.Default ts ⊎ IsNext words.Endlabelmap ts

-- a run that reads these symbols, and behind them nothing but modules, fails on the tokens, with so
-- many of them left
pub record Fails (xs : State) (ts : List Placed) (f : Failure) (left : ℕ) : Type 0 where
  pub rest : List Placed
  pub many : length rest ≡ left
  pub runs : run all_limits xs ts ≡ fails (failure_at f rest) rest

-- it fails as the stop says. Memory may run out at any tokens
abbrev pub FailsAs : State → List Placed → Stop → Type 0
FailsAs xs ts (stops.Broken breach left) = Fails xs ts (failure_of breach) left
FailsAs xs ts stops.OutOfMemory = Unit {0}
