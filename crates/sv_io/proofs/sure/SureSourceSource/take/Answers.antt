use Rattle.std.proofs.Common.{arith, take}
use Rattle.sv_io.proofs.Given.{take_moves}
use Rattle.sv_io.proofs.sure.SureSourceSource.take.Goals as goal

pub returns-clause-given : goal.returns-clause-given
returns-clause-given c =
    (take_moves c.args.self.now.all.items c.deref.result.now
    (take c.copy_front-count.result c.copy_front-count.new.buf) c.args.self.now.at
    c.copy_front-count.result (search arith) c.deref.ensures.value
    c.copy_front-count.ensures.copied).0

pub returns-clause-taken : goal.returns-clause-taken
returns-clause-taken c tells =
    (take_moves c.args.self.now.all.items c.deref.result.now
    (take c.copy_front-count.result c.copy_front-count.new.buf) c.args.self.now.at
    c.copy_front-count.result (search arith) c.deref.ensures.value
    c.copy_front-count.ensures.copied).1
