use Rattle.std.proofs.Common.{ap, sym, ◌++◌}
use Rattle.std.proofs.lemmas.List.{drop_all}
use Rattle.sv_circuits.proofs.WordKeeps.{turn_of}
use Rattle.sv_circuits.specs.Words.{inverted_word}
use Rattle.sv_circuits.proofs.WordSteps.{inverted_more, inverted_done}
use Rattle.sv_circuits.proofs.words.inverted.Goals as goal

pub bits-init : goal.bits-init
bits-init c = sym (ap (λ z. z ++ inverted_word c.args.word.now) c.in_ok-made.ensures.items)

pub bits-preserved : goal.bits-preserved
bits-preserved c =
    let turn = turn_of c.args.word.now _ _ c.bits-test.true c.literal-item.is in
    let items = rw c.negated.ensures at c.in_ok-push.ensures.items in
    rw items (inverted_more _ _ _ _ _ turn c.bits.invariant)

pub returns : goal.returns
returns c =
    inverted_done _ _ _ (drop_all c.bits.literal-index c.args.word.now c.bits-test.false)
    c.bits.invariant
