use Rattle.std.proofs.Common.{drop}
use Rattle.sv_flat.specs.Views.{design_of}
use Rattle.sv_design.specs.Numbers.{numbers}
use Rattle.sv_encoding.specs.Bodies.{settled_word}
use Rattle.sv_blast.specs.Steps.{next_in_turn}
use Rattle.sv_blast.specs.WordTables.{words_of}
use Rattle.sv_blast.proofs.WordTurns.{WordsAt}
use Rattle.sv_blast.proofs.frames.make_next.Given as goal

abbrev pub invariant-loop-register : goal.invariant-loop-register
invariant-loop-register l =
    WordsAt (λ s words. settled_word (design_of l.fan_in.design.now) (words_of l.fan_in.words.now) s)
    (next_in_turn (design_of l.fan_in.design.now) (words_of l.fan_in.words.now) (numbers l.registers)
    (words_of l.fn.words) l.fn.gates)
    (numbers (drop l.register-index l.registers)) l.fn.gates l.gates (words_of l.words)
