use Rattle.std.proofs.Common.{◌≡◌, ℕ, ◌+◌, ◌-◌, length}
use Rattle.sv_blast.specs.WordTables.{words_of}
use Rattle.sv_blast.proofs.tables.WordTable.put.Given as goal

abbrev pub invariant-rows : goal.invariant-rows
invariant-rows l = (s : ℕ) → words_of l.self s ≡ words_of l.fn.self s

abbrev pub decreases-rows : goal.decreases-rows
decreases-rows l = l.number + 1 - length l.self.rows.items
