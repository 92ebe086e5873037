use Rattle.std.proofs.Common.{map}
use Rattle.sv_obl.specs.IndexedStatements.{statement_of}
use Rattle.sv_obl.proofs.IndexedFacts.{none_told, more_told, all_told}
use Rattle.sv_obl.proofs.indexed.numbers_of.Goals as goal

pub loop-i-init : goal.loop-i-init
loop-i-init c = λ marks.
    none_told (map statement_of c.args.parts.now) c.new-numbers.result c.new-numbers.ensures.empty

pub loop-i-preserved : goal.loop-i-preserved
loop-i-preserved c = λ marks.
    more_told c.args.parts.now c.loop-i.i c.index-parts-i.result c.loop-i.numbers
    c.add_part.new.numbers c.loop-i-test.true c.index-parts-i.is marks c.in_ok-add_part.ensures
    (c.loop-i.invariant marks)

pub returns : goal.returns
returns c = λ marks.
    all_told c.args.parts.now c.loop-i.i c.loop-i.numbers c.loop-i-test.false
    (c.loop-i.invariant marks)
