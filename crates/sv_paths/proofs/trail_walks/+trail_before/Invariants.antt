use Rattle.std.proofs.Common.{◌≡◌, ◌≤◌, ◌++◌, length, flat_map}
use Rattle.sv_flat.specs.ByNumber.{signal_forms}
use Rattle.sv_obl.specs.MarkedBodies.{marked_statement}
use Rattle.sv_paths.specs.Trails.{trails_before}
use Rattle.sv_paths.specs.TrailViews.{trail_forms}
use Rattle.sv_paths.proofs.trail_walks.+trail_before.Given as goal

-- those of the trails so far were added
abbrev pub invariant-before_each-loop-trail : goal.invariant-before_each-loop-trail
invariant-before_each-loop-trail l = record {
  adds : trail_forms l.all.items ≡ trail_forms l.initial.all.items
      ++ flat_map (trails_before (signal_forms l.walk.signals.now) l.walk.target.0
      (marked_statement l.stmt)) (trail_forms l.yielded);
  few : length l.initial.all.items ≤ 4096 → length l.all.items ≤ 4096;
}
