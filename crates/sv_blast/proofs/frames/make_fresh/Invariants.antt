use Rattle.std.proofs.Common.{drop}
use Rattle.sv_flat.specs.Values.{signal_width}
use Rattle.sv_flat.specs.Views.{design_of}
use Rattle.sv_design.specs.Numbers.{numbers}
use Rattle.sv_circuits.specs.Words.{fresh_word}
use Rattle.sv_encoding.specs.Encoding.{fresh_words}
use Rattle.sv_blast.specs.WordTables.{words_of}
use Rattle.sv_blast.proofs.WordTurns.{WordsAt}
use Rattle.sv_blast.proofs.frames.make_fresh.Given as goal

abbrev pub invariant-loop-signal : goal.invariant-loop-signal
invariant-loop-signal l =
    WordsAt (λ s words. fresh_word (signal_width (design_of l.design).signals s))
    (fresh_words (design_of l.design) (numbers l.signals) (words_of l.fn.words) l.fn.gates)
    (numbers (drop l.signal-index l.signals)) l.fn.gates l.gates (words_of l.words)
