use Rattle.sv_obl.proofs.MarkedFacts.{popped, none_popped}
use Rattle.sv_obl.proofs.marked.last_of.Goals as goal

pub returns-in-Some-clause-ends : goal.returns-in-Some-clause-ends
returns-in-Some-clause-ends c =
    popped c.args.parts.now.items c.pop.new.self.items c.pop.result c.in-Some.last
    c.pop.ensures.items c.in-Some.is

pub returns-in-None-clause-ends : goal.returns-in-None-clause-ends
returns-in-None-clause-ends c =
    none_popped c.args.parts.now.items c.pop.new.self.items c.pop.result c.pop.ensures.items
    c.in-None.is
