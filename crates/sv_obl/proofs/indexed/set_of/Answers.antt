use Rattle.std.proofs.Common.{[], fold, nat_cmp}
use Rattle.std.specs.BTreeSet.{insert_key}
use Rattle.sv_obl.proofs.HeldNumbers.{put_next}
use Rattle.sv_obl.proofs.indexed.set_of.Goals as goal

pub loop-name-preserved : goal.loop-name-preserved
loop-name-preserved c =
    put_next c.args.names.now c.loop-name.name-index _ c.loop-name.set.keys c.insert.new.self.keys
    (fold (insert_key nat_cmp) [] c.args.names.now) c.loop-name-test.true
    c.in_ok-insert.ensures.keys c.loop-name.invariant
