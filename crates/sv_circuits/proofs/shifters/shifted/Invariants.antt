use Rattle.std.proofs.Common.{◌≡◌, [], ◌∷◌, drop, min, ◌^◌}
use Rattle.sv_circuits.specs.Operators.{shifted_word, shifted_from}
use Rattle.sv_circuits.specs.Moves.{move_of}
use Rattle.sv_circuits.proofs.LoopSteps.{LoopAt}
use Rattle.sv_circuits.proofs.shifters.shifted.Given as goal

abbrev pub invariant-amount : goal.invariant-amount
invariant-amount l =
    LoopAt (shifted_word (move_of l.direction l.fn.fill) l.fn.word l.fn.amount l.fn.gates)
    (shifted_from (move_of l.direction l.fn.fill) l.bit-index (drop l.bit-index l.amount)
    l.made.items l.gates) l.fn.gates l.gates (drop l.bit-index l.amount) [] l.made.items
    (l.fn.fill ∷ [])
    × (l.by ≡ min (2 ^ l.bit-index) 18446744073709551615)
