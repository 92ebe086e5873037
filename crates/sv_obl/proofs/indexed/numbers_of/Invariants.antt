use Rattle.std.proofs.Common.{map, All}
use Rattle.sv_obl.specs.IndexedStatements.{statement_of, IsMarked}
use Rattle.sv_obl.proofs.IndexedFacts.{TellsFirst}
use Rattle.sv_obl.proofs.indexed.numbers_of.Given as goal

-- the numbers of the parts so far
abbrev pub invariant-loop-i : goal.invariant-loop-i
invariant-loop-i l =
    All IsMarked l.parts → TellsFirst (map statement_of l.parts) l.i l.numbers
