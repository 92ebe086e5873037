-- Routes only grow more on the walk, so it may end as soon as they are too many.
use Rattle.std.proofs.Common.{◌≡◌, ℕ, ◌+◌, ◌<◌, ◌≤◌, Bool, true, false, cond}
use Rattle.std.proofs.Common.{List, [], ◌∷◌, ◌++◌, length, map, flat_map, get_or, Ok, Err}
use Rattle.std.proofs.Common.{Result}
use Rattle.std.proofs.Common.{refl, IsErrAnd}
use Rattle.std.specs.Global.{Vec}
use Rattle.std.proofs.Common.{sym, ap, subst, ◌∙◌, arith, length-append}
use Rattle.std.proofs.Common.{take}
use Rattle.std.proofs.lemmas.List.{length-map}
use Rattle.std.proofs.lemmas.List.Folds.{length-flat_map-take}
use Rattle.sv_flat.specs.Design.{SignalForm, TypedTree, typed, choice, PieceForm}
use Rattle.sv_flat.specs.Views.{typed_tree}
use Rattle.sv_paths.specs.declared.faults.WalkFault.{WalkFault}
use Rattle.sv_paths.specs.declared.faults.WalkFault.TheVariants.{TooMany, OutOfMemory}
use Rattle.sv_paths.specs.declared.routes.Route.{Route}
use Rattle.sv_obl.specs.Routes.{RouteForm, behind, is_all, with_put, with_ways, with_right}
use Rattle.sv_obl.specs.declared.body_slices.BodySlice.{BodySlice}
use Rattle.sv_obl.specs.declared.body_slices.BodySlice as slice
use Rattle.sv_obl.specs.SliceRoutes.{slice_routes}
use Rattle.sv_obl.proofs.PathLists.{flat_flat, flat_alike}
use Rattle.sv_obl.specs.Views.{piece_forms}
use Rattle.sv_paths.specs.RouteViews.{route_form, route_forms, Adds}

-- ---- lists

module _ {X Y : Type 0} (f : X → List Y) (some : (x : X) → 1 ≤ length (f x)) where
  pub flat_longer : (xs : List X) → length xs ≤ length (flat_map f xs)
  flat_longer [] = omega arith
  flat_longer (x ∷ xs) =
      let one = some x in
      let rest = flat_longer xs in
      let both = length-append (f x) (flat_map f xs) in
      omega arith

pub some_cond : {X : Type 0} (c : Bool) (xs ys : List X) → 1 ≤ length xs → 1 ≤ length ys →
    1 ≤ length (cond c xs ys)
some_cond true xs ys one two = one
some_cond false xs ys one two = two

pub some_both : {X : Type 0} (f g : X → X) (xs ys : List X) → 1 ≤ length xs →
    1 ≤ length (map f xs ++ map g ys)
some_both f g xs ys one =
    let both = length-append (map f xs) (map g ys) in
    let same = length-map xs f in
    omega arith

-- ---- no walk ends without a route

module _ (signals : List SignalForm) (s : ℕ) where
  some_ways : (pieces : List PieceForm) (right : TypedTree) (route : RouteForm) →
      1 ≤ length (with_ways signals s pieces right route)
  some_ways pieces (typed w signed (choice place c a b)) route =
      some_both _ _ (with_ways signals s pieces a route) (with_ways signals s pieces b route)
      (some_ways pieces a route)
  some_ways pieces right route = omega arith

  pub some_slice : (c : BodySlice) (route : RouteForm) → 1 ≤ length (slice_routes signals s c route)
  some_slice slice.Nothing route = omega arith
  some_slice (slice.Assign pieces place blocking value) route =
      let right = typed_tree value.now in
      let forms = piece_forms pieces.now in
      some_cond route.wants (with_right signals s forms right route) (route ∷ [])
      (some_cond (is_all signals s forms route) (with_ways signals s forms right route)
      (with_put signals s forms right route ∷ []) (some_ways forms right route) (omega arith))
      (omega arith)
  some_slice (slice.Chain' p first q second) route =
      let one = some_slice second route in
      let more = flat_longer (slice_routes signals s first) (some_slice first)
      (slice_routes signals s second route) in
      omega arith
  some_slice (slice.Branch' place c p first q second) route =
      some_cond route.wants _ (route ∷ [])
      (some_both (behind (record { place = place; condition = typed_tree c.now; truth = true }))
      (behind (record { place = place; condition = typed_tree c.now; truth = false }))
      (slice_routes signals s first route) (slice_routes signals s second route)
      (some_slice first route)) (omega arith)

-- ---- a walk that ends early

-- more routes are too many too
pub ends_early : (forms more : List RouteForm) (routes after : Vec Route) (e : WalkFault)
    → length forms ≤ length more → Adds forms routes (Err e) → Adds more after (Err e)
ends_early forms more routes after TooMany less h = omega arith
ends_early forms more routes after OutOfMemory less h = tt

pub fails_early : (forms more : List RouteForm) (routes after : Vec Route) (e : WalkFault)
    (result : Result Unit WalkFault) → length forms ≤ length more
    → IsErrAnd result (λ y. y ≡ e) → Adds forms routes (Err e) → Adds more after result
fails_early forms more routes after e (Ok done) less same h = elim same [ ]
fails_early forms more routes after e (Err y) less same h =
    subst (λ x. Adds more after (Err x)) (sym same)
    (ends_early forms more routes after e less h)

-- one more than are passed at most
pub over_most : {X F : Type 0} (form : X → F) (xs : List X) (x : F) → 4096 ≤ length xs
    → 4096 < length (map form xs ++ x ∷ [])
over_most form xs x full =
    let same = length-map xs form in
    let more = length-append (map form xs) (x ∷ []) in
    omega (arith, same, more)

pub one_too_many : (routes : List Route) (route : RouteForm) → 4096 ≤ length routes
    → 4096 < length (route_forms routes ++ route ∷ [])
one_too_many routes route full = over_most route_form routes route full

-- ---- the routes or the trails before a part, one by one

module _ {X Y : Type 0} (form : X → Y) (f : Y → List Y) where
  flat_forms : (xs : List X) → flat_map f (map form xs) ≡ flat_map (λ x. f (form x)) xs
  flat_forms [] = refl
  flat_forms (x ∷ xs) = ap (λ ys. f (form x) ++ ys) (flat_forms xs)

  -- those so far and the next one give no more than all of them
  pub next_longer : (xs seen : List X) (x : X) → seen ≡ take (length seen) xs
      → length seen < length xs → x ≡ get_or xs (length seen) x
      → length (flat_map f (map form seen)) + length (f (form x))
      ≤ length (flat_map f (map form xs))
  next_longer xs seen x so_far inside is =
      let g = λ (t : X). f (form t) in
      let more = length-flat_map-take g xs (length seen) x inside in
      let front : length (flat_map g (take (length seen) xs))
      ≡ length (flat_map f (map form seen)) =
      ap length (ap (flat_map g) (sym so_far) ∙ sym (flat_forms seen)) in
      let next : length (g (get_or xs (length seen) x)) ≡ length (f (form x)) =
      ap (λ (t : X). length (f (form t))) (sym is) in
      let whole : length (flat_map g xs) ≡ length (flat_map f (map form xs)) =
      ap length (sym (flat_forms xs)) in
      omega arith

-- where the second of two slices gives too many, both do
pub chain_longer : (signals : List SignalForm) (s : ℕ) (first second whole : BodySlice) (route : RouteForm)
    (none old : List RouteForm) → none ≡ []
    → ((r : RouteForm) → slice_routes signals s whole r
    ≡ flat_map (slice_routes signals s first) (slice_routes signals s second r))
    → length (none ++ slice_routes signals s second route)
    ≤ length (old ++ slice_routes signals s whole route)
chain_longer signals s first second whole route none old empty is =
    let one = length-append none (slice_routes signals s second route) in
    let two = length-append old (slice_routes signals s whole route) in
    let three : length none ≡ 0 = ap length empty in
    let four = flat_longer (slice_routes signals s first) (some_slice signals s first)
    (slice_routes signals s second route) in
    let five : length (slice_routes signals s whole route) ≡ length (flat_map
    (slice_routes signals s first) (slice_routes signals s second route)) = ap length (is route) in
    omega arith

-- a chain before some routes is its second slice before them, and then its first
module _ (signals : List SignalForm) (s : ℕ) (first second whole : BodySlice)
    (is : (r : RouteForm) → slice_routes signals s whole r
    ≡ flat_map (slice_routes signals s first) (slice_routes signals s second r)) where
  pub chain_flat : (routes : List RouteForm) → flat_map (slice_routes signals s whole) routes
      ≡ flat_map (slice_routes signals s first) (flat_map (slice_routes signals s second) routes)
  chain_flat routes =
      flat_alike (slice_routes signals s whole)
      (λ r. flat_map (slice_routes signals s first) (slice_routes signals s second r)) is routes
      ∙ sym (flat_flat (slice_routes signals s second) (slice_routes signals s first) routes)

  pub chain_flat_longer : (routes none old : List RouteForm) → none ≡ []
      → length (none ++ flat_map (slice_routes signals s second) routes)
      ≤ length (old ++ flat_map (slice_routes signals s whole) routes)
  chain_flat_longer routes none old empty =
      let seconds = flat_map (slice_routes signals s second) routes in
      let one = length-append none seconds in
      let two = length-append old (flat_map (slice_routes signals s whole) routes) in
      let three : length none ≡ 0 = ap length empty in
      let four = flat_longer (slice_routes signals s first) (some_slice signals s first) seconds in
      let five : length (flat_map (slice_routes signals s whole) routes)
      ≡ length (flat_map (slice_routes signals s first) seconds) = ap length (chain_flat routes) in
      omega arith
