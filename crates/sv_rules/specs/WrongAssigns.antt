-- Private: how the code goes. Rule 601 in parts.
use Rattle.std.specs.Prelude.{List, map, filter}
use Rattle.sv_flat.specs.Design.{FlatStatement, ProcessKind, FlatDesign}
use Rattle.sv_flat.specs.Breaches.{Breach}
use Rattle.sv_flat.specs.Assignments.{TargetForm, targets, is_wrong_target, target_breach}

-- the wrong ones of some targets
abbrev pub wrong_of : FlatDesign → ProcessKind → List TargetForm → List Breach
wrong_of design kind ts = map target_breach (filter (is_wrong_target design kind) ts)

-- those of a statement
abbrev pub wrong_in : FlatDesign → ProcessKind → FlatStatement → List Breach
wrong_in design kind body = wrong_of design kind (targets body)
