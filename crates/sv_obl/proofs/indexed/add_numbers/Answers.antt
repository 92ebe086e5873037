use Rattle.std.proofs.Common.{get_or, refl}
use Rattle.sv_obl.specs.IndexedBodies.{numbers_at}
use Rattle.sv_obl.proofs.IndexedFacts.{numbered_more}
use Rattle.sv_obl.proofs.indexed.add_numbers.Goals as goal

pub loop-target-preserved : goal.loop-target-preserved
loop-target-preserved c = λ s.
    let targets = c.args.targets.now in
    let i = c.loop-target.target-index in
    numbered_more targets i (get_or targets i 0) c.args.number (numbers_at c.args.numbers.now)
    (numbers_at c.loop-target.numbers) (numbers_at c.add_number.new.numbers) s
    c.loop-target-test.true refl (c.loop-target.invariant s) (c.in_ok-add_number.ensures s)
