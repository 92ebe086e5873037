use Rattle.std.proofs.Common.{◌≡◌, ◌+◌, map, reverse, take}
use Rattle.std.specs.Prelude.{Contains}
use Rattle.sv_flat.specs.ByNumber.{signal_forms}
use Rattle.sv_flat.specs.Design.{FlatStatement}
use Rattle.sv_flat.specs.Views.{process_form}
use Rattle.sv_paths.specs.Alongs.{conditions_along, trail_obligation}
use Rattle.sv_paths.specs.ListLines.{step_word}
use Rattle.sv_paths.specs.Trails.{TrailForm}
use Rattle.sv_paths.specs.TrailViews.{trail_forms}
use Rattle.sv_paths.specs.Written.{mark_word, Writes}
use Rattle.sv_paths.proofs.list_texts.push_trails.Given as goal

-- those of the paths so far were added
abbrev pub invariant-loop-trail : goal.invariant-loop-trail
invariant-loop-trail l =
    (l.lines.count ≡ l.initial.lines.count + l.trail-index)
    × ((body : FlatStatement) → ((trail : TrailForm) → Contains (trail_forms l.trails) trail
    → map step_word (conditions_along (signal_forms l.driven.signals.now) l.driven.target.0 body
    trail) ≡ map mark_word (reverse trail.marks)) → Writes (signal_forms l.driven.signals.now)
    (map (trail_obligation (signal_forms l.driven.signals.now) (process_form l.driven.process.now)
    l.driven.target.0 body) (trail_forms (take l.trail-index l.trails))) l.initial.lines l.lines)
