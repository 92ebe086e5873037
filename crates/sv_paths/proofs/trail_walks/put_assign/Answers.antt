use Rattle.std.proofs.Common.{◌++◌, ◌∷◌, [], List, sym, subst, ◌∙◌}
use Rattle.sv_flat.specs.ByNumber.{signal_forms}
use Rattle.sv_flat.specs.Views.{typed_tree}
use Rattle.sv_obl.specs.Views.{piece_forms}
use Rattle.sv_paths.specs.Trails.{TrailForm}
use Rattle.sv_paths.specs.TrailViews.{trail_form, trail_forms, AddsTrails}
use Rattle.sv_paths.proofs.TrailFacts.{form_count, put_whole}
use Rattle.sv_paths.proofs.trail_walks.put_assign.Goals as goal

pub returns-in-Some-clause-adds : goal.returns-in-Some-clause-adds
returns-in-Some-clause-adds c =
    let signals = c.args.walk.signals.now in
    subst (λ (ts : List TrailForm). AddsTrails (trail_forms c.args.others.now.items ++ ts)
    (trail_forms c.put_ways.new.others.items ++ trail_form c.put_ways.new.trail ∷ [])
    c.put_ways.result)
    (put_whole (signal_forms signals) c.args.walk.target.0 (piece_forms c.args.pieces.now)
    (typed_tree c.args.right.now) (trail_form c.args.trail.now) _ _ (sym (form_count signals))
    c.in_ok-put_right.ensures _ (sym c.whole_from-whole.ensures ∙ c.in-Some.is))
    c.put_ways.ensures.adds
