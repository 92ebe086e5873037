use Rattle.std.proofs.Common.{◌≡◌, ℕ, take}
use Rattle.sv_obl.specs.IndexedBodies.{numbers_at}
use Rattle.sv_obl.specs.IndexedStatements.{numbered}
use Rattle.sv_obl.proofs.indexed.add_numbers.Given as goal

-- the number was added for the targets so far
abbrev pub invariant-loop-target : goal.invariant-loop-target
invariant-loop-target l =
    (s : ℕ) → numbers_at l.numbers s
    ≡ numbered (take l.target-index l.targets) l.number (numbers_at l.initial.numbers) s
