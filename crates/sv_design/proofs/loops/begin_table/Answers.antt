use Rattle.sv_design.proofs.NestFacts.{has_begins}
use Rattle.sv_design.proofs.loops.begin_table.Goals as goal

pub returns : goal.returns
returns c = λ design are.
    let (nest, ends, led) = c.in_ok-table.ensures in
    has_begins design c.args.reads.now are nest ends c.in_ok-table.table.items led
