use Rattle.std.proofs.Common.{◌+◌, ◌∙◌, refl}
use Rattle.sv_flat.specs.Views.{design_of}
use Rattle.sv_paths.specs.ListParts.{lines_left}
use Rattle.sv_cli.proofs.Lines.{none_put, then_put, front_after, on_error}
use Rattle.sv_cli.proofs.listing.put_targets.Goals as goal

pub loop-s-init : goal.loop-s-init
loop-s-init g c = record {
  kept = refl;
  at = c.requires.at;
  put = none_put (g.K.Sink.accepted c.args.out.now) (lines_left (design_of c.args.design.now) 0);
}

pub loop-s-preserved : goal.loop-s-preserved
loop-s-preserved g c =
    let left = lines_left (design_of c.args.design.now) in
    record {
      kept = c.in_ok-put_target.ensures.kept ∙ c.loop-s.invariant.kept;
      at = c.in_ok-put_target.ensures.next;
      put = then_put (g.K.Sink.accepted c.args.out.now) (left 0) (left c.loop-s.s)
          (left (c.loop-s.s + 1)) (g.K.Sink.accepted c.loop-s.out)
          (g.K.Sink.accepted c.put_target.new.out) c.loop-s.invariant.put
          c.in_ok-put_target.ensures.whole;
    }

pub returns-in_err-put_target-clause-refused : goal.returns-in_err-put_target-clause-refused
returns-in_err-put_target-clause-refused g c =
    let left = lines_left (design_of c.args.design.now) in
    on_error c.from_residual.result
    (front_after (g.K.Sink.accepted c.args.out.now) (left 0) (left c.loop-s.s)
    (g.K.Sink.accepted c.loop-s.out) (g.K.Sink.accepted c.put_target.new.out)
    c.loop-s.invariant.put c.in_err-put_target.ensures.refused)
