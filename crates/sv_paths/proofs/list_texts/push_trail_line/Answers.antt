use Rattle.std.proofs.Common.{refl}
use Rattle.sv_flat.specs.ByNumber.{signal_forms}
use Rattle.sv_flat.specs.Views.{process_form}
use Rattle.sv_paths.specs.TrailViews.{trail_form}
use Rattle.sv_paths.proofs.TrailWritten.{trail_written}
use Rattle.sv_paths.proofs.list_texts.push_trail_line.Goals as goal

pub returns-clause-line : goal.returns-clause-line
returns-clause-line c = λ body marks.
    trail_written (signal_forms c.args.driven.signals.now) (process_form c.args.driven.process.now)
    c.args.driven.target.0 body (trail_form c.args.trail.now) marks c.args.lines.now _
    c.in_ok-push_trail.ensures refl
