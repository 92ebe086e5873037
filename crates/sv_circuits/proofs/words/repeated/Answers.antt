use Rattle.std.proofs.Common.{◌∙◌, arith}
use Rattle.sv_circuits.proofs.WordSteps.{repeated_more, repeated_done}
use Rattle.sv_circuits.proofs.words.repeated.Goals as goal

pub copies-preserved : goal.copies-preserved
copies-preserved c = c.in_ok-append_word.ensures ∙ repeated_more _ _ _ c.copies.invariant

pub returns : goal.returns
returns c = repeated_done c.copies.made.items c.args.word.now c.copies.counter c.args.count
    (omega arith) c.copies.invariant
