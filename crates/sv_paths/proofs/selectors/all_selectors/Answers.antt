use Rattle.std.proofs.Common.{[], map}
use Rattle.sv_flat.specs.Views.{design_of}
use Rattle.sv_obl.specs.Obligations.{selector_obligations}
use Rattle.sv_obl.specs.Views.{obligation_of}
use Rattle.sv_paths.proofs.TargetWalks.{next_number}
use Rattle.sv_paths.proofs.selectors.all_selectors.Goals as goal

pub loop-s-preserved : goal.loop-s-preserved
loop-s-preserved c =
    next_number (selector_obligations [] (design_of c.args.design.now)) []
    (map obligation_of c.loop-s.queries.items)
    (map obligation_of c.add_selectors.new.queries.items) c.loop-s.s c.in_ok-add_selectors.ensures
    c.loop-s.invariant
