use Rattle.std.proofs.Common.{◌≡◌, ◌||◌, ap, sym, subst, ◌∙◌, ◌<◌, rules}
use Rattle.sv_flat.specs.Sets.{holds}
use Rattle.sv_flat.specs.Views.{design_of, typed_tree}
use Rattle.sv_graph.specs.Marks.{is_marked}
use Rattle.sv_obl.specs.declared.frames.Frame.TheVariants.{Now}
use Rattle.sv_obl.specs.Obligations.{holds as must_hold}
use Rattle.sv_obl.specs.Views.{goal_form}
use Rattle.sv_encoding.specs.Cones.{asked_now}
use Rattle.sv_blast.proofs.ConeStarts.{one_named, count_is}
use Rattle.sv_blast.proofs.cones.mark_asked_now.Goals as goal

pub returns-in-Holds-default-Now : goal.returns-in-Holds-default-Now
returns-in-Holds-default-Now c =
    let design = design_of c.args.design.now in
    let e = typed_tree c.in-Holds-default-Now.expr in
    let is : goal_form c.args.goal.now ≡ must_hold e Now = search rules in
    λ s below.
    c.mark_names.ensures s below
    ∙ ap (λ b. is_marked c.args.table.now s || b)
    (one_named design e s
    (subst (λ n. s < n) (c.requires.size ∙ sym (count_is c.args.design.now)) below)
    ∙ sym (ap (λ g. holds (asked_now design g) s) is))
