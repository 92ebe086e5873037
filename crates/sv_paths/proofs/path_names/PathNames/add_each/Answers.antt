use Rattle.sv_paths.specs.Trails.{with_name, with_each}
use Rattle.sv_paths.specs.TrailViews.{names_form}
use Rattle.sv_paths.proofs.NameFacts.{next_number}
use Rattle.sv_paths.proofs.path_names.PathNames.add_each.Goals as goal

pub loop-name-preserved : goal.loop-name-preserved
loop-name-preserved c =
    next_number (with_name c.args.count c.args.times) c.args.names.now c.loop-name.name-index 0
    (names_form c.loop-name.self) (names_form c.add.new.self)
    (with_each c.args.count c.args.times (names_form c.args.self.now) c.args.names.now)
    c.loop-name-test.true c.in_ok-add.ensures c.loop-name.invariant
