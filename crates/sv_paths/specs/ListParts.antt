-- The obligations of a design, part by part: those of one target after the other, and then those of
-- selectors; and what `secv list` prints of them.
use Rattle.std.specs.Prelude.{◌≡◌, ◌<◌, ◌≤◌, ℕ, ◌+◌, ◌-◌, List, ◌++◌, [], length, flat_map}
use Rattle.std.specs.List.{range_with_len}
use Rattle.sv_flat.specs.Design.{FlatDesign}
use Rattle.sv_flat.specs.Processes.{signal_numbers}
use Rattle.sv_paths.specs.declared.list_parts.Listing.{Listing}
use Rattle.sv_paths.specs.declared.target_paths.TargetPaths.{TargetPaths}
use Rattle.sv_paths.specs.Driven.{IsDriven}
use Rattle.sv_paths.specs.Limits.{first_excess, excess}
use Rattle.sv_paths.specs.ListLines.{lines_from}
use Rattle.sv_obl.specs.MarkedBodies.{AreBodiesOf}
use Rattle.sv_obl.specs.Obligations.{Obligation, target_obligations, selector_obligations}

-- the obligations of the targets before this one
abbrev pub obligations_before : FlatDesign → (target : ℕ) → List Obligation
obligations_before design i = flat_map (target_obligations [] design) (range_with_len 0 i)

-- those of the targets from this one on, and of selectors
abbrev pub obligations_from : FlatDesign → (target : ℕ) → List Obligation
obligations_from design i =
    flat_map (target_obligations [] design) (range_with_len i (length design.signals - i))
    ++ flat_map (selector_obligations [] design) (signal_numbers design)

-- the lines that are left where those of the targets before this one are written
abbrev pub lines_left : FlatDesign → (target : ℕ) → List ℕ
lines_left design i =
    lines_from design.signals (length (obligations_before design i) + 1)
    (obligations_from design i)

-- the targets before this one have so many obligations, and the rest exceeds the limit that all
-- exceed
pub record AreCounted (design : FlatDesign) (target total : ℕ) : Type 0 where
  pub count : total ≡ length (obligations_before design target)
  pub rest :
      first_excess design total (range_with_len target (length design.signals - target))
      ≡ excess design
  pub few : total ≤ 65536

-- this target comes next
pub record IsAt (design : FlatDesign) (target : ℕ) (listing : Listing) : Type 0 where
  pub bodies : AreBodiesOf design listing.bodies.now
  pub counted : AreCounted design target listing.count

-- the obligations of the target that has these paths
abbrev pub obligations_on : FlatDesign → TargetPaths → List Obligation
obligations_on design paths = target_obligations [] design paths.target.0

-- these are the paths of a signal of the design, found behind so many obligations
pub record ArePathsOf (design : FlatDesign) (paths : TargetPaths) : Type 0 where
  pub inside : paths.target.0 < length design.signals
  pub total : ℕ
  pub driven : IsDriven design paths.target.0 total paths.paths
