use Rattle.std.proofs.Common.{drop}
use Rattle.sv_flat.specs.ByNumber.{signal_forms}
use Rattle.sv_flat.proofs.Parts.{trees}
use Rattle.sv_encoding.specs.Expressions.{joined_word}
use Rattle.sv_blast.specs.WordTables.{words_of}
use Rattle.sv_blast.proofs.LoopStages.{JoinAt}
use Rattle.sv_blast.proofs.expressions.Names.+expression_words.Given as goal

abbrev pub invariant-joined-parts : goal.invariant-joined-parts
invariant-joined-parts l =
    let signals = signal_forms l.self.signals.now in
    let words = words_of l.self.words.now in
    JoinAt signals words (joined_word signals words (trees l.parts) l.fn.gates)
    (trees (drop l.part-index l.parts)) l.fn.gates l.gates l.above.items
