use Rattle.std.proofs.Common.{sym}
use Rattle.sv_obl.proofs.IndexedFacts.{number_put}
use Rattle.sv_obl.proofs.indexed.add_number.Goals as goal

pub returns : goal.returns
returns c = λ s.
    number_put c.args.numbers.now c.take_out-those.new.numbers c.insert.new.self c.args.target
    c.args.number c.take_out-those.result.items c.in_ok-more.more c.take_out-those.ensures.others
    c.in_ok-insert.ensures.updates (sym c.take_out-those.ensures.those) c.in_ok-more.ensures s
