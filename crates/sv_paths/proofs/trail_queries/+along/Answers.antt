use Rattle.std.proofs.Common.{sym, ◌∙◌}
use Rattle.sv_flat.specs.ByNumber.{signal_forms}
use Rattle.sv_paths.specs.AlongViews.{way_form}
use Rattle.sv_obl.specs.MarkedBodies.{marked_statement}
use Rattle.sv_paths.proofs.AlongFacts.{along_stays}
use Rattle.sv_paths.proofs.trail_queries.+along.Goals as goal

pub along-returns-then-not-is_taken : goal.along-returns-then-not-is_taken
along-returns-then-not-is_taken t c =
    sym (along_stays (signal_forms c.args.walk.signals.now) c.args.walk.target.0
    (marked_statement c.args.stmt.now) (way_form c.args.making.now)
    (sym c.is_taken.ensures ∙ c.if-not-is_taken.true))
