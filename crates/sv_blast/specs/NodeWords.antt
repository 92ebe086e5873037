-- Private: how the code goes. Words of parts of nodes, and words at another length.
use Rattle.std.specs.Prelude.{ℕ, List}
use Rattle.sv_num.specs.declared.operators.OpClass.{OpClass}
use Rattle.sv_flat.specs.Design.{SignalForm, TypedTree}
use Rattle.sv_circuits.specs.Words.{WordMaker, zero_filled}
use Rattle.sv_encoding.specs.Expressions.{Words, expression_word, operand_word, cut_word}

-- a word that is made, at another length
abbrev pub filled_to : (width : ℕ) → WordMaker → WordMaker
filled_to width make formula =
    let (formula, word) = make formula in (formula, zero_filled width word)

-- an operand of a binary operator
abbrev pub operand_of : List SignalForm → Words → OpClass → TypedTree → WordMaker
operand_of signals words class e formula =
    let (formula, word) = expression_word signals words e formula in
    operand_word class word formula

-- what was put in for a signal's name, at the signal's width
abbrev pub cut_of : List SignalForm → Words → (signal : ℕ) → TypedTree → WordMaker
cut_of signals words s e formula =
    let (formula, word) = expression_word signals words e formula in
    (formula, cut_word signals s word)
