-- What the fault of a text says.
use Rattle.std.specs.Prelude.{ℕ, List}
use Rattle.sv_num.specs.declared.faults.Fault.{Fault}
use Rattle.sv_num.specs.declared.faults.Fault.TheVariants.{Rule, OutOfMemory}
use Rattle.sv_token.specs.Tokens.{BreaksLexis}

-- a text that breaks a rule is refused for the first that it breaks, where it breaks it. Memory may
-- run out at any text
abbrev pub IsFaultOf : List ℕ → Fault → Type 0
IsFaultOf bytes (Rule refusal) = BreaksLexis refusal.number refusal.names.items refusal.place bytes
IsFaultOf bytes OutOfMemory = Unit {0}
