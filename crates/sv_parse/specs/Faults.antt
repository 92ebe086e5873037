-- What the fault of a text says.
use Rattle.std.specs.Prelude.{List, ℕ}
use Rattle.sv_num.specs.declared.faults.Fault.{Fault}
use Rattle.sv_num.specs.declared.faults.Fault.TheVariants.{Rule, OutOfMemory}
use Rattle.sv_ast.specs.GrammarMeaning.{BreaksSyntax}

-- It refuses the text for the first rule on tokens or on the grammar that the text breaks. Memory
-- may run out at any text
abbrev pub IsSyntaxFault : (bytes : List ℕ) → Fault → Type 0
IsSyntaxFault bytes (Rule r) = BreaksSyntax r.number r.names.items r.place bytes
IsSyntaxFault bytes OutOfMemory = Unit {0}
