use Rattle.sv_event.proofs.SeenFacts.{unmarked}
use Rattle.sv_event.proofs.orders.has_block_once.Goals as goal

pub sees_each_once-requires : goal.sees_each_once-requires
sees_each_once-requires c = unmarked c.args.size 4096 c.requires
