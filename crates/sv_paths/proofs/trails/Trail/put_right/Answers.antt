use Rattle.std.proofs.Common.{length, sym}
use Rattle.std.proofs.lemmas.Result.{on_ok_weaker}
use Rattle.sv_flat.specs.ByNumber.{signal_forms}
use Rattle.sv_flat.specs.Views.{typed_tree}
use Rattle.sv_obl.specs.Views.{piece_forms}
use Rattle.sv_paths.specs.TrailViews.{names_form, trail_form}
use Rattle.sv_paths.proofs.TrailFacts.{form_count, right_put}
use Rattle.sv_paths.proofs.trails.Trail.put_right.Goals as goal

pub returns : goal.returns
returns c =
    let signals = c.args.signals.now in
    on_ok_weaker c.add_put.result
    (right_put (signal_forms signals) c.args.target.0 (piece_forms c.args.pieces.now)
    (typed_tree c.args.right.now) (trail_form c.args.self.now) (length signals)
    c.times_put-times.result c.own_times.result c.with_nodes-self.result c.place_with-self.result
    (names_form c.drop_covered.new.self) (names_form c.add_put.new.self)
    (sym (form_count signals)) c.times_put-times.ensures c.own_times.ensures c.with_nodes-self.ensures
    c.place_with-self.ensures c.drop_covered.ensures)
    c.add_put.ensures
