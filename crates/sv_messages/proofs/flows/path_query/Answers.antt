use Rattle.std.proofs.Common.{arith}
use Rattle.sv_flat.specs.Views.{design_of}
use Rattle.sv_messages.proofs.flows.path_query.Goals as goal

pub query-requires-clause-there : goal.query-requires-clause-there
query-requires-clause-there c =
    let counted = c.len.ensures (design_of c.args.design.now) c.requires in
    omega (arith, c.if-at-len.true)
