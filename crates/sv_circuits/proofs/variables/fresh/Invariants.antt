use Rattle.std.proofs.Common.{[], ◌-◌}
use Rattle.sv_circuits.specs.Words.{fresh_word}
use Rattle.sv_circuits.proofs.WordKeeps.{onto}
use Rattle.sv_circuits.proofs.LoopSteps.{LoopAt}
use Rattle.sv_circuits.proofs.variables.fresh.Given as goal

abbrev pub invariant-bits : goal.invariant-bits
invariant-bits l =
    LoopAt (fresh_word l.width l.fn.gates)
    (onto l.word.items (fresh_word (l.width - l.counter) l.gates)) l.fn.gates l.gates [] []
    l.word.items []
