use Rattle.std.proofs.Common.{◌≡◌, [], ◌++◌, map, flat_map}
use Rattle.std.specs.List.{range_with_len}
use Rattle.sv_flat.specs.Views.{design_of}
use Rattle.sv_obl.specs.Obligations.{selector_obligations}
use Rattle.sv_obl.specs.Views.{obligation_of}
use Rattle.sv_paths.proofs.selectors.all_selectors.Given as goal

-- those of the signals so far
abbrev pub invariant-loop-s : goal.invariant-loop-s
invariant-loop-s l =
    map obligation_of l.queries.items
    ≡ [] ++ flat_map (selector_obligations [] (design_of l.design)) (range_with_len 0 l.s)
