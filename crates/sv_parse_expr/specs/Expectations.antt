-- Private: how the code goes. What the code says of the end of a run, as the definitions say it.
use Rattle.std.specs.Prelude.{◌≡◌, ℕ, List, length, Option, option_map}
use Rattle.std.specs.Borrow.{Bor}
use Rattle.sv_num.specs.declared.faults.Place.{Place}
use Rattle.sv_num.specs.declared.faults.Fault.{Fault}
use Rattle.sv_num.specs.Faults.{Refuses}
use Rattle.sv_token.specs.declared.tokens.Token.{Token}
use Rattle.sv_token.specs.Lexemes.{Placed}
use Rattle.sv_ast.specs.GrammarRules.{Part, header, body, outside}
use Rattle.sv_parse_expr.specs.declared.forms.Part.{Part as CodePart}
use Rattle.sv_parse_expr.specs.declared.forms.Part.TheVariants as code_part
use Rattle.sv_parse_expr.specs.declared.stop.Expected.{Expected as CodeExpected}
use Rattle.sv_parse_expr.specs.declared.stop.Expected.TheVariants as code_expected
use Rattle.sv_parse_expr.specs.declared.stop.GrammarBreach.{GrammarBreach}
use Rattle.sv_parse_expr.specs.declared.stop.GrammarBreach.TheVariants.{Stuck, TooDeep, TooLong}
use Rattle.sv_parse_expr.specs.declared.stop.Stop.{Stop}
use Rattle.sv_parse_expr.specs.declared.stop.Stop.TheVariants as stops
use Rattle.sv_parse_machine.specs.Symbols.{State, Expected, something, an_item, a_statement, an_edge}
use Rattle.sv_parse_machine.specs.Symbols.{a_port, behind_name}
use Rattle.sv_parse_machine.specs.Machine.{Failure, stuck_at, too_deep, too_long}
use Rattle.sv_parse_machine.specs.Reads.{Halts}
use Rattle.sv_parse_machine.specs.Verdict.{rule_number, rule_names, rule_place}

abbrev pub expected_of : CodeExpected → Expected
expected_of code_expected.Something = something
expected_of code_expected.Item = an_item
expected_of code_expected.Statement = a_statement
expected_of code_expected.Edge = an_edge
expected_of code_expected.Port = a_port
expected_of code_expected.BehindName = behind_name

abbrev pub failure_of : GrammarBreach → Failure
failure_of (Stuck e) = stuck_at (expected_of e)
failure_of TooDeep = too_deep
failure_of TooLong = too_long

-- ---- what a stop says

-- the symbols fail on the tokens as the stop says. Memory may run out at any tokens
abbrev pub HaltsAs : State → List Placed → Stop → Type 0
HaltsAs xs ts (stops.Broken breach left) = Halts xs ts (failure_of breach) left
HaltsAs xs ts stops.OutOfMemory = Unit {0}

-- the stop is at the first of the tokens, where the sentence holds and nothing may begin that
-- `Expected` names; or memory ran out
abbrev pub StopsAt : List Token → Type 0 → Stop → Type 0
StopsAt tokens P (stops.Broken breach left) =
    P × (breach ≡ Stuck code_expected.Something) × (left ≡ length tokens)
StopsAt tokens P stops.OutOfMemory = Unit {0}

-- ---- part and words of a refusal

abbrev pub part_of : CodePart → Part
part_of code_part.Header = header
part_of code_part.Body = body
part_of code_part.Outside = outside

-- a word that may be there, as its bytes
abbrev pub word_bytes : Option (Bor (List ℕ)) → Option (List ℕ)
word_bytes w = option_map (λ x. x.now) w

-- ---- what the fault of a text says

-- the fault refuses a text that ends at the place `stop` for the rule that the failure breaks,
-- between the tokens before and the rest
abbrev pub RefusesAt : Fault → Failure → (stop : Place) → (before rest : List Placed) → Type 0
RefusesAt fault f stop before rest =
    Refuses fault (rule_number f before rest) (rule_place stop rest) (rule_names f before rest)
