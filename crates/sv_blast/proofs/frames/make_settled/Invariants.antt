use Rattle.std.proofs.Common.{drop}
use Rattle.sv_flat.specs.Views.{design_of}
use Rattle.sv_design.specs.Numbers.{numbers}
use Rattle.sv_encoding.specs.Bodies.{settled_word}
use Rattle.sv_blast.specs.Steps.{AreReady, settled_in_turn}
use Rattle.sv_blast.specs.WordTables.{words_of, StandsOf}
use Rattle.sv_blast.proofs.WordTurns.{WordsAt}
use Rattle.sv_blast.proofs.frames.make_settled.Given as goal

abbrev pub invariant-loop-signal : goal.invariant-loop-signal
invariant-loop-signal l =
    WordsAt (λ s words. settled_word (design_of l.design) words s)
    (settled_in_turn (design_of l.design) (numbers l.signals) (words_of l.fn.words) l.fn.gates)
    (numbers (drop l.signal-index l.signals)) l.fn.gates l.gates (words_of l.words)
    × AreReady (design_of l.design)
    (StandsOf (design_of l.design).signals l.gates.variables (words_of l.words))
    (numbers (drop l.signal-index l.signals))
