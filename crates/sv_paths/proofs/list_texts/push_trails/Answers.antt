use Rattle.std.proofs.Common.{◌+◌, map, take, arith}
use Rattle.sv_flat.specs.ByNumber.{signal_forms}
use Rattle.sv_flat.specs.Views.{process_form}
use Rattle.sv_paths.specs.Alongs.{trail_obligation}
use Rattle.sv_paths.specs.TrailViews.{trail_form, trail_forms}
use Rattle.sv_obl.proofs.FormLists.{form_there}
use Rattle.sv_paths.proofs.WrittenFacts.{forms_more, none_written, one_written}
use Rattle.sv_paths.proofs.list_texts.push_trails.Goals as goal

pub loop-trail-init : goal.loop-trail-init
loop-trail-init c =
    (omega arith, λ body marks. none_written (signal_forms c.args.driven.signals.now) c.args.lines.now)

pub push_trail_line-requires : goal.push_trail_line-requires
push_trail_line-requires c =
    let x = c.trail-item.result in
    let inside = c.loop-trail-test.true in
    let counted = c.loop-trail.invariant.0 in
    let few = c.requires.few in
    record {
      known = c.requires.known;
      names = c.requires.names (trail_form x)
          (form_there trail_form c.args.trails.now c.loop-trail.trail-index x inside c.trail-item.is);
      few = omega arith;
    }

pub loop-trail-preserved : goal.loop-trail-preserved
loop-trail-preserved c =
    let forms = signal_forms c.args.driven.signals.now in
    let trails = c.args.trails.now in
    let i = c.loop-trail.trail-index in
    let x = c.trail-item.result in
    let counted = c.loop-trail.invariant.0 in
    let more = c.in_ok-push_trail_line.ensures.count in (
      omega arith,
      λ body marks.
          let become = trail_obligation forms (process_form c.args.driven.process.now) c.args.driven.target.0
          body in
          one_written forms (map become (trail_forms (take i trails)))
          (map become (trail_forms (take (i + 1) trails))) (become (trail_form x))
          c.args.lines.now c.loop-trail.lines c.push_trail_line.new.lines
          (forms_more trail_form become trails i x c.loop-trail-test.true c.trail-item.is)
          (c.loop-trail.invariant.1 body marks)
          (c.in_ok-push_trail_line.ensures.line body (marks (trail_form x)
          (form_there trail_form trails i x c.loop-trail-test.true c.trail-item.is))),
    )
