use Rattle.std.proofs.Common.{◌≡◌, [], ◌∷◌, ◌++◌, length, ap, arith}
use Rattle.std.proofs.lemmas.List.{length-map}
use Rattle.sv_flat.specs.Views.{typed_tree}
use Rattle.sv_paths.specs.declared.list_lines.StepMark.{StepMark}
use Rattle.sv_paths.specs.Trails.{chosen, marked_by, with_own_ways}
use Rattle.sv_paths.specs.TrailViews.{trail_form, trail_forms}
use Rattle.sv_paths.proofs.TrailFacts.{arm_fails, arm_left, some_ways, start_inside}
use Rattle.sv_paths.proofs.trail_walks.+trail_ways.Goals as goal

pub put_way-returns-in_err-put_ways-clause-adds : goal.put_way-returns-in_err-put_ways-clause-adds
put_way-returns-in_err-put_ways-clause-adds t c =
    let ways = with_own_ways c.args.splice.count c.args.splice.from (typed_tree c.args.right.now) in
    let mark : StepMark = record { truth = c.args.step.truth; place = c.args.step.place } in
    arm_fails (marked_by c.args.splice.count mark (typed_tree c.args.step.cond.now))
    (trail_forms c.args.others.now.items) (ways (trail_form c.choose.new.self))
    (ways (chosen c.args.step.truth (trail_form c.args.trail.now)))
    (trail_forms c.put_ways.new.others.items ++ trail_form c.put_ways.new.trail ∷ [])
    (trail_forms c.put_ways.new.others.items ++ trail_form c.put_ways.new.trail ∷ [])
    c.in_err-put_ways.field-0.0 c.from_residual-in_err-put_ways.result
    (ap ways c.in_ok-choose.ensures) c.from_residual-in_err-put_ways.ensures.1
    c.in_err-put_ways.ensures.adds

pub put_way-put_behind-requires : goal.put_way-put_behind-requires
put_way-put_behind-requires t c =
    let old = c.args.others.now in
    let same = length-map old.items trail_form in
    let at : c.len-start.result ≡ length (trail_forms old.items) =
    omega (arith, c.len-start.ensures, old.ok.0, same) in
    start_inside (trail_forms old.items)
    (with_own_ways c.args.splice.count c.args.splice.from (typed_tree c.args.right.now)
    (trail_form c.choose.new.self)) c.put_ways.new.others.items
    (trail_form c.put_ways.new.trail) c.len-start.result at
    (some_ways c.args.splice.count c.args.splice.from (typed_tree c.args.right.now)
    (trail_form c.choose.new.self)) c.in_ok-put_ways.ensures.adds

pub put_way-returns-clause-adds : goal.put_way-returns-clause-adds
put_way-returns-clause-adds t c =
    let old = c.args.others.now in
    let same = length-map old.items trail_form in
    let at : c.len-start.result ≡ length (trail_forms old.items) =
    omega (arith, c.len-start.ensures, old.ok.0, same) in
    let ways = with_own_ways c.args.splice.count c.args.splice.from (typed_tree c.args.right.now) in
    let mark : StepMark = record { truth = c.args.step.truth; place = c.args.step.place } in
    let arm = ways (chosen c.args.step.truth (trail_form c.args.trail.now)) in
    arm_left (marked_by c.args.splice.count mark (typed_tree c.args.step.cond.now))
    (trail_forms old.items) (ways (trail_form c.choose.new.self)) arm
    (trail_forms c.put_ways.new.others.items) (trail_forms c.put_behind.new.all.items)
    (trail_form c.put_ways.new.trail) (trail_form c.add_mark.new.self) c.len-start.result at
    (some_ways c.args.splice.count c.args.splice.from (typed_tree c.args.right.now)
    (chosen c.args.step.truth (trail_form c.args.trail.now))) (ap ways c.in_ok-choose.ensures)
    c.in_ok-put_ways.ensures.adds c.in_ok-put_behind.ensures.trails c.in_ok-add_mark.ensures
