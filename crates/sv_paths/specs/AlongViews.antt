-- Private: how the code goes. The plain form of a path that is walked along its trail.
use Rattle.std.specs.Prelude.{map, drop}
use Rattle.sv_paths.specs.declared.conditions.Condition.{Condition}
use Rattle.sv_paths.specs.declared.trail_queries.Making.{Making}
use Rattle.sv_paths.specs.Alongs.{WayForm}
use Rattle.sv_obl.specs.Paths.{StepForm}
use Rattle.sv_paths.specs.TrailViews.{trail_form}
use Rattle.sv_obl.specs.Views.{step_form}

abbrev pub condition_form : Condition → StepForm
condition_form t = step_form t.step

abbrev pub way_form : Making → WayForm
way_form t = record {
  trail = trail_form t.trail;
  steps = map condition_form t.conditions.items;
  arms = drop t.next t.choices.now;
}
