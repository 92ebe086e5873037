use Rattle.std.proofs.Common.{◌≡◌, drop, nat_le}
use Rattle.sv_flat.proofs.Parts.{trees}
use Rattle.sv_paths.specs.Levels.{levels_of_parts}
use Rattle.sv_paths.proofs.levels.+is_within.Given as goal

-- those that are left tell as all do
abbrev pub invariant-are_within-loop-part : goal.invariant-are_within-loop-part
invariant-are_within-loop-part l =
    nat_le (levels_of_parts (trees (drop l.part-index l.parts))) l.most
    ≡ nat_le (levels_of_parts (trees l.parts)) l.most
