use Rattle.std.proofs.Common.{◌≡◌, drop}
use Rattle.sv_paths.specs.Trails.{with_each}
use Rattle.sv_paths.specs.TrailViews.{names_form}
use Rattle.sv_paths.proofs.path_names.PathNames.add_each.Given as goal

-- the names that are left, added too, give what all give
abbrev pub invariant-loop-name : goal.invariant-loop-name
invariant-loop-name l =
    with_each l.count l.times (names_form l.self) (drop l.name-index l.names)
    ≡ with_each l.count l.times (names_form l.initial.self) l.names
