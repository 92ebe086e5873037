-- Private: how the code goes. The plain forms of trails as they are walked, and of the bodies that
-- they go through.
use Rattle.std.specs.Prelude.{◌≡◌, ◌<◌, ◌≤◌, List, map, length, Result, Ok, Err}
use Rattle.std.specs.Global.{Vec}
use Rattle.sv_paths.specs.declared.faults.WalkFault.{WalkFault}
use Rattle.sv_paths.specs.declared.faults.WalkFault.TheVariants.{TooMany, OutOfMemory}
use Rattle.sv_paths.specs.declared.path_names.PathNames.{PathNames}
use Rattle.sv_paths.specs.declared.trails.Trail.{Trail}
use Rattle.sv_paths.specs.Trails.{NamesForm, TrailForm}

abbrev pub names_form : PathNames → NamesForm
names_form t = record { settled = t.settled.keys; wanted = t.wanted.entries }

abbrev pub trail_form : Trail → TrailForm
trail_form t = record {
  marks = t.marks.items;
  choices = t.choices.items;
  names = names_form t.names;
  own = t.own;
  nodes = t.nodes;
  place = t.place;
}

abbrev pub trail_forms : List Trail → List TrailForm
trail_forms trails = map trail_form trails

-- a walk gives the trails where they are few enough, and else tells that they are too many
abbrev pub WalksTrails : List TrailForm → Result (Vec Trail) WalkFault → Type 0
WalksTrails forms (Ok trails) = (trail_forms trails.items ≡ forms) × (length forms ≤ 4096)
WalksTrails forms (Err TooMany) = 4096 < length forms
WalksTrails forms (Err OutOfMemory) = Unit {0}

-- the trails are these now, unless these are too many
abbrev pub AddsTrails : (forms now : List TrailForm) → Result Unit WalkFault → Type 0
AddsTrails forms now (Ok done) = now ≡ forms
AddsTrails forms now (Err TooMany) = 4096 < length forms
AddsTrails forms now (Err OutOfMemory) = Unit {0}
