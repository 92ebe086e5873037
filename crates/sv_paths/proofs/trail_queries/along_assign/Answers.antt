use Rattle.std.proofs.Common.{◌≡◌, map, sym, ap, subst, ◌∙◌, Vec, Global}
use Rattle.std.specs.Prelude.{OnOk}
use Rattle.sv_flat.specs.ByNumber.{signal_forms}
use Rattle.sv_flat.specs.Views.{typed_tree}
use Rattle.sv_paths.specs.declared.conditions.Condition.{Condition}
use Rattle.sv_paths.specs.Alongs.{WayForm}
use Rattle.sv_paths.specs.AlongViews.{condition_form, way_form}
use Rattle.sv_obl.specs.Paths.{step_with}
use Rattle.sv_obl.specs.Views.{piece_forms}
use Rattle.sv_paths.specs.TrailViews.{trail_form}
use Rattle.sv_obl.specs.Wanted.{put_in}
use Rattle.sv_paths.proofs.AlongFacts.{own_along}
use Rattle.sv_paths.proofs.TrailFacts.{form_count}
use Rattle.sv_paths.proofs.trail_queries.along_assign.Goals as goal

pub returns : goal.returns
returns c =
    let signals = c.args.walk.signals.now in
    let put = step_with (put_in (signal_forms signals) (piece_forms c.args.pieces.now)
    (typed_tree c.args.right.now)) in
    subst (λ (f : WayForm). OnOk c.along_own.result (way_form c.along_own.new.making ≡ f))
    (own_along (signal_forms signals) c.args.walk.target.0 (piece_forms c.args.pieces.now)
    (typed_tree c.args.right.now) (way_form c.args.making.now) (trail_form c.put_right.new.self)
    (map condition_form c.in_ok-making.field-0.items) _ (sym (form_count signals))
    c.in_ok-put_right.ensures
    (c.in_ok-making.ensures
    ∙ ap (λ (v : Vec Condition Global). map put (map condition_form v.items))
    c.replace-conditions.ensures.value)
    c.own_pieces-times.result c.whole_from-whole.result c.own_pieces-times.ensures
    c.whole_from-whole.ensures)
    c.along_own.ensures
