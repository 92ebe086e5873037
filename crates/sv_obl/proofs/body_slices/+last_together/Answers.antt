use Rattle.sv_obl.proofs.SliceChains.{ends_joined}
use Rattle.sv_obl.proofs.body_slices.+last_together.Goals as goal

pub returns-clause-ends : goal.returns-clause-ends
returns-clause-ends t c =
    ends_joined c.args.slices.now.items c.last_together.new.slices.items
    c.last_together-2.new.slices.items c.in_ok-first.first c.in_ok-second.second c.chained.result
    c.in_ok-second.ensures.ends c.in_ok-first.ensures.ends c.chained.ensures
