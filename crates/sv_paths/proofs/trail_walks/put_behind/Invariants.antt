use Rattle.std.proofs.Common.{◌≡◌, ◌-◌, length}
use Rattle.sv_flat.specs.Views.{typed_tree}
use Rattle.sv_paths.specs.Trails.{marked_by}
use Rattle.sv_paths.specs.TrailViews.{trail_forms}
use Rattle.sv_paths.proofs.RouteFacts.{changed_from}
use Rattle.sv_paths.proofs.trail_walks.put_behind.Given as goal

-- those before the index stand behind the condition
abbrev pub invariant-loop-i : goal.invariant-loop-i
invariant-loop-i l =
    let f = marked_by l.count l.mark (typed_tree l.cond) in
    let old = trail_forms l.fn.all.items in
    record {
      trails : trail_forms l.all.items ≡ changed_from f old l.start (l.i - l.start);
      count : length l.all.items ≡ length l.fn.all.items;
    }
