use Rattle.std.proofs.Common.{◌≡◌, ◌+◌, ◌++◌, List, [], ◌∷◌, cond, length}
use Rattle.std.proofs.Common.{flat_map, map-id, sym, ap, ap₂, subst, ◌∙◌, arith, rules}
use Rattle.std.proofs.Common.{length-append}
use Rattle.std.proofs.lemmas.Iterator.Consumers.{YieldsList-turn, YieldsList-so_far}
use Rattle.std.proofs.lemmas.Iterator.Adapters.{YieldsList-from_vec}
use Rattle.sv_flat.specs.ByNumber.{signal_forms}
use Rattle.sv_flat.specs.Views.{typed_tree}
use Rattle.sv_obl.specs.SliceRoutes.{slice_routes}
use Rattle.sv_obl.specs.Routes.{RouteForm, with_right}
use Rattle.sv_obl.specs.Views.{piece_forms}
use Rattle.sv_paths.specs.RouteViews.{route_form, route_forms, Adds}
use Rattle.sv_obl.proofs.SliceChains.{closed_stays}
use Rattle.sv_paths.proofs.WalkFacts.{fails_early, chain_longer, chain_flat, chain_flat_longer}
use Rattle.sv_paths.proofs.WalkFacts.{next_longer}
use Rattle.sv_paths.proofs.walks.+before.Goals as goal

pub before-returns-then-not-route-clause-adds : goal.before-returns-then-not-route-clause-adds
before-returns-then-not-route-clause-adds t c =
    let signals = signal_forms c.args.walk.now.signals.now in
    subst (λ (rs : List RouteForm). Adds (route_forms c.args.all.now.items ++ rs) c.add.new.all
    c.add.result)
    (sym (closed_stays signals c.args.walk.now.target.0 c.args.slice.now (route_form c.args.route)
    c.if-not-route.true))
    c.add.ensures.adds

pub before-returns-in-Assign-clause-adds : goal.before-returns-in-Assign-clause-adds
before-returns-in-Assign-clause-adds t c =
    let signals = signal_forms c.args.walk.now.signals.now in
    let s = c.args.walk.now.target.0 in
    let route = route_form c.args.route in
    let put = with_right signals s (piece_forms c.in-Assign.pieces.now)
    (typed_tree c.in-Assign.value.now) route in
    subst (λ (rs : List RouteForm). Adds (route_forms c.args.all.now.items ++ rs)
    c.put_right.new.all c.put_right.result)
    (sym (ap (λ x. slice_routes signals s x route) c.in-Assign.is
    ∙ ap (λ b. cond b put (route ∷ [])) c.if-not-route.false))
    c.put_right.ensures.adds

pub before-returns-in_err-before-in-Chain-clause-adds :
    goal.before-returns-in_err-before-in-Chain-clause-adds
before-returns-in_err-before-in-Chain-clause-adds t c =
    let signals = signal_forms c.args.walk.now.signals.now in
    let s = c.args.walk.now.target.0 in
    let first = c.in-Chain.first.value in
    let second = c.deref.result.now in
    let route = route_form c.args.route in
    let old = route_forms c.args.all.now.items in
    let none = route_forms c.new-routes.result.items in
    fails_early (none ++ slice_routes signals s second route)
    (old ++ slice_routes signals s c.args.slice.now route) c.before-in-Chain.new.all c.args.all.now
    c.in_err-before-in-Chain.field-0.0 c.from_residual.result
    (chain_longer signals s first second c.args.slice.now route none old
    (ap route_forms c.new-routes.ensures.items)
    (λ r. ap (λ k. slice_routes signals s k r) c.in-Chain.is
    ∙ ap (λ k. flat_map (slice_routes signals s first) (slice_routes signals s k r))
    (sym c.deref.ensures)))
    c.from_residual.ensures.1 c.in_err-before-in-Chain.ensures.adds

pub before_all-returns-in_err-before_all-in-Chain-clause-adds :
    goal.before_all-returns-in_err-before_all-in-Chain-clause-adds
before_all-returns-in_err-before_all-in-Chain-clause-adds t c =
    let signals = signal_forms c.args.walk.now.signals.now in
    let s = c.args.walk.now.target.0 in
    let first = c.in-Chain.first.value in
    let second = c.deref.result.now in
    let forms = route_forms c.args.routes.items in
    let old = route_forms c.args.all.now.items in
    let none = route_forms c.new-between.result.items in
    fails_early (none ++ flat_map (slice_routes signals s second) forms)
    (old ++ flat_map (slice_routes signals s c.args.slice.now) forms) c.before_all.new.all
    c.args.all.now c.in_err-before_all-in-Chain.field-0.0 c.from_residual.result
    (chain_flat_longer signals s first second c.args.slice.now
    (λ r. ap (λ k. slice_routes signals s k r) c.in-Chain.is
    ∙ ap (λ k. flat_map (slice_routes signals s first) (slice_routes signals s k r))
    (sym c.deref.ensures))
    forms none old (ap route_forms c.new-between.ensures.items))
    c.from_residual.ensures.1 c.in_err-before_all-in-Chain.ensures.adds

pub before_all-returns-in_ok-before_all-in-Chain-clause-adds :
    goal.before_all-returns-in_ok-before_all-in-Chain-clause-adds
before_all-returns-in_ok-before_all-in-Chain-clause-adds t c =
    let signals = signal_forms c.args.walk.now.signals.now in
    let s = c.args.walk.now.target.0 in
    let first = c.deref-in-Chain.result.now in
    let second = c.deref.result.now in
    let forms = route_forms c.args.routes.items in
    subst (λ (rs : List RouteForm). Adds (route_forms c.args.all.now.items ++ rs)
    c.before_all-in-Chain.new.all c.before_all-in-Chain.result)
    (ap (flat_map (slice_routes signals s first)) (c.in_ok-before_all-in-Chain.ensures.adds
    ∙ ap (λ ts. route_forms ts ++ flat_map (slice_routes signals s second) forms)
    c.new-between.ensures.items)
    ∙ sym (chain_flat signals s first second c.args.slice.now
    (λ r. ap (λ k. slice_routes signals s k r) c.in-Chain.is
    ∙ ap₂ (λ j k. flat_map (slice_routes signals s j) (slice_routes signals s k r))
    (sym c.deref-in-Chain.ensures) (sym c.deref.ensures)) forms))
    c.before_all-in-Chain.ensures.adds

pub before_each-returns-in_err-before-clause-adds :
    goal.before_each-returns-in_err-before-clause-adds
before_each-returns-in_err-before-clause-adds t c =
    let signals = signal_forms c.args.walk.now.signals.now in
    let f = slice_routes signals c.args.walk.now.target.0 c.args.slice.now in
    let routes = c.args.routes.items in
    let seen = c.loop-route.yielded in
    let x = c.in-Some.route in
    let yields = YieldsList-from_vec {s = c.into_iter-route-iterator.result} routes
    (search rules) (search rules) in
    let so_far = YieldsList-so_far yields seen c.loop-route.route-iterator
    c.loop-route.yielded_by in
    let one = YieldsList-turn yields seen c.loop-route.route-iterator c.loop-route.yielded_by
    c.next.result c.next.new.self x c.in-Some.is c.next.ensures.steps in
    let longer = next_longer route_form f routes seen x (sym (map-id seen) ∙ so_far) one.0 one.1 in
    let old = route_forms c.args.all.now.items in
    let all = route_forms c.loop-route.all.items in
    let here : length all ≡ length old + length (flat_map f (route_forms seen)) =
    ap length c.loop-route.invariant.adds ∙ length-append old (flat_map f (route_forms seen)) in
    let more = length-append all (f (route_form x)) in
    let most = length-append old (flat_map f (route_forms routes)) in
    fails_early (all ++ f (route_form x)) (old ++ flat_map f (route_forms routes))
    c.before-in-loop-route.new.all c.before-in-loop-route.new.all c.in_err-before.field-0.0
    c.from_residual.result (omega (arith, longer, here, more, most)) c.from_residual.ensures.1
    c.in_err-before.ensures.adds
