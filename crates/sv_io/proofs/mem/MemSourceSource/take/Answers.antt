use Rattle.std.proofs.Common.{arith, take}
use Rattle.sv_io.proofs.Given.{take_moves}
use Rattle.sv_io.proofs.mem.MemSourceSource.take.Goals as goal

pub returns-clause-given : goal.returns-clause-given
returns-clause-given c =
    let s = c.args.self.now in
    let moves = take_moves s.all.items c.deref.result.now
    (take c.copy_front-count.result c.copy_front-count.new.buf) s.at c.copy_front-count.result
    (search arith) c.deref.ensures.value c.copy_front-count.ensures.copied in
    rw (c.pass.ensures.passed, c.pass.ensures.bytes) moves.0

pub returns-clause-taken : goal.returns-clause-taken
returns-clause-taken c =
    let s = c.args.self.now in
    let moves = take_moves s.all.items c.deref.result.now
    (take c.copy_front-count.result c.copy_front-count.new.buf) s.at c.copy_front-count.result
    (search arith) c.deref.ensures.value c.copy_front-count.ensures.copied in
    rw (c.pass.ensures.passed, c.pass.ensures.bytes) moves.1
