-- What the fault of tokens says.
use Rattle.std.specs.Prelude.{List}
use Rattle.sv_num.specs.declared.faults.Place.{Place}
use Rattle.sv_num.specs.declared.faults.Fault.{Fault}
use Rattle.sv_num.specs.declared.faults.Fault.TheVariants.{Rule, OutOfMemory}
use Rattle.sv_token.specs.Lexemes.{Placed}
use Rattle.sv_ast.specs.GrammarRules.{BreaksGrammar}

-- the fault refuses a text of the tokens that ends at the place `stop` for the rule of the grammar
-- that they break first. Memory may run out at any text
abbrev pub IsRefusalOf : (stop : Place) → List Placed → Fault → Type 0
IsRefusalOf stop tokens (Rule r) = BreaksGrammar r.number r.names.items r.place stop tokens
IsRefusalOf stop tokens OutOfMemory = Unit {0}
