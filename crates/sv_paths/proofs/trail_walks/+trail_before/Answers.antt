use Rattle.std.proofs.Common.{◌≡◌, ◌≤◌, ◌++◌, true, List, [], ◌∷◌, length, map, take, drop}
use Rattle.std.proofs.Common.{flat_map, map-id, Err, sym, ap, ap₂, subst, ◌∙◌, arith, rules}
use Rattle.std.proofs.lemmas.Iterator.Consumers.{YieldsList-turn, YieldsList-so_far}
use Rattle.std.proofs.lemmas.Iterator.Adapters.{YieldsList-from_vec}
use Rattle.std.proofs.lemmas.List.{length-map}
use Rattle.sv_flat.specs.ByNumber.{signal_forms}
use Rattle.sv_flat.specs.Design.{after}
use Rattle.sv_flat.specs.Views.{typed_tree}
use Rattle.sv_paths.specs.declared.list_lines.StepMark.{StepMark}
use Rattle.sv_obl.specs.MarkedBodies.{marked_statement}
use Rattle.sv_obl.specs.Views.{piece_forms}
use Rattle.sv_paths.specs.Trails.{TrailForm, takes, chosen, marked_by, with_assign, trails_before}
use Rattle.sv_paths.specs.TrailViews.{trail_form, trail_forms, AddsTrails}
use Rattle.sv_paths.proofs.TrailFacts.{stays, if_taken, fails_early, chain_longer, chain_left}
use Rattle.sv_paths.proofs.TrailFacts.{between_shorter, arm_fails, arm_left, start_inside}
use Rattle.sv_paths.proofs.TrailFacts.{some_trail, turn_fails, form_count}
use Rattle.sv_paths.proofs.trail_walks.+trail_before.Goals as goal

pub before-returns-then-not-is_taken-clause-adds : goal.before-returns-then-not-is_taken-clause-adds
before-returns-then-not-is_taken-clause-adds t c =
    ap (λ (ts : List TrailForm). trail_forms c.args.others.now.items ++ ts)
    (sym (stays (signal_forms c.args.walk.signals.now) c.args.walk.target.0
    (marked_statement c.args.stmt.now) (trail_form c.args.trail.now)
    (sym c.is_taken.ensures ∙ c.if-not-is_taken.true)))

pub before-returns-in-Assign-clause-adds : goal.before-returns-in-Assign-clause-adds
before-returns-in-Assign-clause-adds t c =
    let signals = signal_forms c.args.walk.signals.now in
    let s = c.args.walk.target.0 in
    let trail = trail_form c.args.trail.now in
    let taken = subst (λ x. takes (marked_statement x) trail ≡ true) c.in-Assign.is
    (sym c.is_taken.ensures ∙ c.if-not-is_taken.false) in
    subst (λ (ts : List TrailForm). AddsTrails (trail_forms c.args.others.now.items ++ ts)
    (trail_forms c.put_assign.new.others.items ++ trail_form c.put_assign.new.trail ∷ [])
    c.put_assign.result)
    (if_taken _ (with_assign signals s (piece_forms c.in-Assign.pieces.now)
    (typed_tree c.in-Assign.right) trail) (trail ∷ []) taken
    ∙ ap (λ x. trails_before signals s (marked_statement x) trail) (sym c.in-Assign.is))
    c.put_assign.ensures.adds

pub before-returns-in_err-before-in-Chain-clause-adds :
    goal.before-returns-in_err-before-in-Chain-clause-adds
before-returns-in_err-before-in-Chain-clause-adds t c =
    let signals = signal_forms c.args.walk.signals.now in
    let s = c.args.walk.target.0 in
    let first = marked_statement c.in-Chain.first.value in
    let second = marked_statement c.deref.result.now in
    let trail = trail_form c.args.trail.now in
    let old = trail_forms c.args.others.now.items in
    let none = trail_forms c.new-between.result.items in
    let whole : after first second ≡ marked_statement c.args.stmt.now =
    ap (λ x. after first (marked_statement x)) c.deref.ensures
    ∙ sym (ap marked_statement c.in-Chain.is) in
    fails_early (none ++ trails_before signals s second trail)
    (old ++ trails_before signals s (marked_statement c.args.stmt.now) trail)
    (trail_forms c.before-in-Chain.new.others.items
    ++ trail_form c.before-in-Chain.new.trail ∷ [])
    (trail_forms c.args.others.now.items ++ trail_form c.before-in-Chain.new.trail ∷ [])
    c.in_err-before-in-Chain.field-0.0 c.from_residual.result
    (subst (λ w. length (none ++ trails_before signals s second trail)
    ≤ length (old ++ trails_before signals s w trail)) whole
    (chain_longer signals s first second trail none old
    (ap trail_forms c.new-between.ensures.items)))
    c.from_residual.ensures.1 c.in_err-before-in-Chain.ensures.adds

pub before_arm-returns-in_err-before-clause-adds : goal.before_arm-returns-in_err-before-clause-adds
before_arm-returns-in_err-before-clause-adds t c =
    let signals = signal_forms c.args.walk.signals.now in
    let before = trails_before signals c.args.walk.target.0 (marked_statement c.args.stmt.now) in
    let mark : StepMark = record { truth = c.args.step.truth; place = c.args.step.place } in
    arm_fails (marked_by (length signals) mark (typed_tree c.args.step.cond.now))
    (trail_forms c.args.others.now.items) (before (trail_form c.choose.new.self))
    (before (chosen c.args.step.truth (trail_form c.args.trail.now)))
    (trail_forms c.before-2.new.others.items ++ trail_form c.before-2.new.trail ∷ [])
    (trail_forms c.before-2.new.others.items ++ trail_form c.before-2.new.trail ∷ [])
    c.in_err-before.field-0.0 c.from_residual-in_err-before.result
    (ap before c.in_ok-choose.ensures)
    c.from_residual-in_err-before.ensures.1 c.in_err-before.ensures.adds

pub before_arm-put_behind-requires : goal.before_arm-put_behind-requires
before_arm-put_behind-requires t c =
    let signals = signal_forms c.args.walk.signals.now in
    let old = c.args.others.now in
    let same = length-map old.items trail_form in
    let at : c.len-start.result ≡ length (trail_forms old.items) =
    omega (arith, c.len-start.ensures, old.ok.0, same) in
    start_inside (trail_forms old.items)
    (trails_before signals c.args.walk.target.0 (marked_statement c.args.stmt.now)
    (trail_form c.choose.new.self)) c.before-2.new.others.items
    (trail_form c.before-2.new.trail) c.len-start.result at
    (some_trail signals c.args.walk.target.0 (marked_statement c.args.stmt.now)
    (trail_form c.choose.new.self)) c.in_ok-before.ensures.adds

pub before_arm-returns-clause-adds : goal.before_arm-returns-clause-adds
before_arm-returns-clause-adds t c =
    let signals = signal_forms c.args.walk.signals.now in
    let old = c.args.others.now in
    let same = length-map old.items trail_form in
    let at : c.len-start.result ≡ length (trail_forms old.items) =
    omega (arith, c.len-start.ensures, old.ok.0, same) in
    let before = trails_before signals c.args.walk.target.0 (marked_statement c.args.stmt.now) in
    let mark : StepMark = record { truth = c.args.step.truth; place = c.args.step.place } in
    let cond = typed_tree c.args.step.cond.now in
    let many = sym (form_count c.args.walk.signals.now) in
    let given = trail_forms c.before-2.new.others.items in
    let left = trail_form c.before-2.new.trail in
    arm_left (marked_by (length signals) mark cond)
    (trail_forms old.items) (before (trail_form c.choose.new.self))
    (before (chosen c.args.step.truth (trail_form c.args.trail.now)))
    given (trail_forms c.put_behind.new.all.items)
    left (trail_form c.add_mark.new.self) c.len-start.result at
    (some_trail signals c.args.walk.target.0 (marked_statement c.args.stmt.now)
    (chosen c.args.step.truth (trail_form c.args.trail.now))) (ap before c.in_ok-choose.ensures)
    c.in_ok-before.ensures.adds
    (c.in_ok-put_behind.ensures.trails
    ∙ ap (λ n. take c.len-start.result given
    ++ map (marked_by n mark cond) (drop c.len-start.result given)) many)
    (c.in_ok-add_mark.ensures ∙ ap (λ n. marked_by n mark cond left) many)

pub before-returns-in_err-before_each-in-Chain-clause-adds :
    goal.before-returns-in_err-before_each-in-Chain-clause-adds
before-returns-in_err-before_each-in-Chain-clause-adds t c =
    let signals = signal_forms c.args.walk.signals.now in
    let s = c.args.walk.target.0 in
    let first = marked_statement c.deref-in-Chain.result.now in
    let second = marked_statement c.deref.result.now in
    let trail = trail_form c.args.trail.now in
    let old = trail_forms c.args.others.now.items in
    let none = trail_forms c.new-between.result.items in
    let between = trail_forms c.before-in-Chain.new.others.items in
    let left = trail_form c.before-in-Chain.new.trail in
    let whole : after first second ≡ marked_statement c.args.stmt.now =
    ap₂ (λ x y. after (marked_statement x) (marked_statement y)) c.deref-in-Chain.ensures
    c.deref.ensures ∙ sym (ap marked_statement c.in-Chain.is) in
    fails_early (old ++ flat_map (trails_before signals s first) between)
    (old ++ trails_before signals s (marked_statement c.args.stmt.now) trail)
    (trail_forms c.before_each.new.all.items)
    (trail_forms c.before_each.new.all.items ++ left ∷ [])
    c.in_err-before_each-in-Chain.field-0.0 c.from_residual-in_err-before_each-in-Chain.result
    (subst (λ w. length (old ++ flat_map (trails_before signals s first) between)
    ≤ length (old ++ trails_before signals s w trail)) whole
    (between_shorter signals s first second trail none between left
    (ap trail_forms c.new-between.ensures.items) c.in_ok-before-in-Chain.ensures.adds old))
    c.from_residual-in_err-before_each-in-Chain.ensures.1 c.in_err-before_each-in-Chain.ensures.adds

pub before-returns-in_ok-before_each-in-Chain-clause-adds :
    goal.before-returns-in_ok-before_each-in-Chain-clause-adds
before-returns-in_ok-before_each-in-Chain-clause-adds t c =
    let signals = signal_forms c.args.walk.signals.now in
    let s = c.args.walk.target.0 in
    let first = marked_statement c.deref-in-Chain-2.result.now in
    let second = marked_statement c.deref.result.now in
    let trail = trail_form c.args.trail.now in
    let old = trail_forms c.args.others.now.items in
    let none = trail_forms c.new-between.result.items in
    let between = trail_forms c.before-in-Chain.new.others.items in
    let left = trail_form c.before-in-Chain.new.trail in
    let whole : after first second ≡ marked_statement c.args.stmt.now =
    ap₂ (λ x y. after (marked_statement x) (marked_statement y)) c.deref-in-Chain-2.ensures
    c.deref.ensures ∙ sym (ap marked_statement c.in-Chain.is) in
    let adds : trail_forms c.before_each.new.all.items
    ≡ old ++ flat_map (trails_before signals s first) between =
    c.in_ok-before_each-in-Chain.ensures.adds
    ∙ ap (λ x. old ++ flat_map (trails_before signals s (marked_statement x)) between)
    (c.deref-in-Chain.ensures ∙ sym c.deref-in-Chain-2.ensures) in
    subst (λ (ts : List TrailForm). AddsTrails ts
    (trail_forms c.before-in-Chain-2.new.others.items
    ++ trail_form c.before-in-Chain-2.new.trail ∷ []) c.before-in-Chain-2.result)
    (chain_left signals s first second trail none between left
    (ap trail_forms c.new-between.ensures.items) c.in_ok-before-in-Chain.ensures.adds old
    (trail_forms c.before_each.new.all.items) adds
    ∙ ap (λ w. old ++ trails_before signals s w trail) whole)
    c.before-in-Chain-2.ensures.adds

pub before_each-returns-in_err-before-clause-adds :
    goal.before_each-returns-in_err-before-clause-adds
before_each-returns-in_err-before-clause-adds t c =
    let f = trails_before (signal_forms c.args.walk.signals.now) c.args.walk.target.0
    (marked_statement c.args.stmt.now) in
    let trails = c.args.trails.items in
    let seen = c.loop-trail.yielded in
    let x = c.in-Some.trail in
    let yields = YieldsList-from_vec {s = c.into_iter-trail-iterator.result} trails
    (search rules) (search rules) in
    let so_far = YieldsList-so_far yields seen c.loop-trail.trail-iterator
    c.loop-trail.yielded_by in
    let one = YieldsList-turn yields seen c.loop-trail.trail-iterator c.loop-trail.yielded_by
    c.next.result c.next.new.self x c.in-Some.is c.next.ensures.steps in
    let old = trail_forms c.args.all.now.items in
    let now = trail_forms c.before-in-loop-trail.new.others.items
    ++ trail_form c.before-in-loop-trail.new.trail ∷ [] in
    turn_fails f trails seen x old (trail_forms c.loop-trail.all.items) now
    (trail_forms c.before-in-loop-trail.new.others.items)
    (sym (map-id seen) ∙ so_far) one.0 one.1 c.loop-trail.invariant.adds
    c.in_err-before.field-0.0 c.from_residual.result c.from_residual.ensures.1
    c.in_err-before.ensures.adds

pub before_each-returns-in_err-add-clause-adds :
    goal.before_each-returns-in_err-add-clause-adds
before_each-returns-in_err-add-clause-adds t c =
    let f = trails_before (signal_forms c.args.walk.signals.now) c.args.walk.target.0
    (marked_statement c.args.stmt.now) in
    let trails = c.args.trails.items in
    let seen = c.loop-trail.yielded in
    let x = c.in-Some.trail in
    let yields = YieldsList-from_vec {s = c.into_iter-trail-iterator.result} trails
    (search rules) (search rules) in
    let so_far = YieldsList-so_far yields seen c.loop-trail.trail-iterator
    c.loop-trail.yielded_by in
    let one = YieldsList-turn yields seen c.loop-trail.trail-iterator c.loop-trail.yielded_by
    c.next.result c.next.new.self x c.in-Some.is c.next.ensures.steps in
    let old = trail_forms c.args.all.now.items in
    let now = trail_forms c.add.new.all.items in
    turn_fails f trails seen x old (trail_forms c.loop-trail.all.items) now now
    (sym (map-id seen) ∙ so_far) one.0 one.1 c.loop-trail.invariant.adds
    c.in_err-add.field-0.0 c.from_residual-in_err-add.result c.from_residual-in_err-add.ensures.1
    (subst (λ (ts : List TrailForm). AddsTrails ts now (Err c.in_err-add.field-0.0))
    c.in_ok-before.ensures.adds c.in_err-add.ensures.adds)
