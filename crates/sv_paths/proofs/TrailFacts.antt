-- Trails only grow more on the walk, so it may end as soon as they are too many; and what does not
-- take a statement stays.
use Rattle.std.proofs.Common.{◌≡◌, ℕ, ◌+◌, ◌<◌, ◌≤◌, Bool, true, false, cond, ◌||◌}
use Rattle.std.proofs.Common.{List, [], ◌∷◌, ◌++◌, length, map, flat_map, get_or, take, drop}
use Rattle.std.proofs.Common.{Ok, Err}
use Rattle.std.proofs.Common.{Result, Option, Some, None, IsErrAnd, refl, sym, ap, ap₂, subst, ◌∙◌}
use Rattle.std.proofs.Common.{arith, length-append, append_assoc}
use Rattle.std.specs.List.{list_any}
use Rattle.std.proofs.lemmas.Bool.{or_left, or_right}
use Rattle.std.proofs.lemmas.Grind.{flat_map-append}
use Rattle.std.proofs.lemmas.List.{append-nil, length-map, map-append}
use Rattle.sv_num.specs.declared.faults.Place.{Place}
use Rattle.sv_flat.specs.ByNumber.{signal_forms}
use Rattle.sv_flat.specs.Views.{signal_form}
use Rattle.sv_flat.specs.declared.signals.Signal.{Signal}
use Rattle.sv_flat.specs.Design.{SignalForm, TypedTree, typed, choice, PieceForm, FlatStatement}
use Rattle.sv_flat.specs.Design.{nothing, after, assign, branch}
use Rattle.sv_flat.specs.Assigned.{assigns}
use Rattle.sv_paths.specs.declared.faults.WalkFault.{WalkFault}
use Rattle.sv_paths.specs.declared.faults.WalkFault.TheVariants.{TooMany, OutOfMemory}
use Rattle.sv_paths.specs.declared.trails.Trail.{Trail}
use Rattle.sv_obl.specs.Paths.{later_place}
use Rattle.sv_obl.specs.Routes.{names_in, first_place, with_nodes}
use Rattle.sv_paths.specs.Trails.{NamesForm, TrailForm, wanted_signals, takes, chosen, marked_by}
use Rattle.sv_paths.specs.Trails.{own_pieces, own_times, times_put, without_covered, with_put_names}
use Rattle.sv_paths.specs.Trails.{with_right_put, whole_from, with_own_ways, with_own_put}
use Rattle.sv_paths.specs.Trails.{with_assign, trails_before}
use Rattle.sv_paths.specs.TrailViews.{trail_form, trail_forms, AddsTrails}
use Rattle.sv_obl.proofs.PathLists.{none_of}
use Rattle.sv_paths.proofs.WalkFacts.{flat_longer, some_cond, some_both, over_most, next_longer}

-- ---- what is not taken

module _ {X : Type 0} (f g : X → Bool) where
  first_none : (xs : List X) → list_any (λ x. f x || g x) xs ≡ false → list_any f xs ≡ false
  first_none xs h = none_of f (λ x. f x || g x) xs (λ x. or_left (f x) (g x)) h

  second_none : (xs : List X) → list_any (λ x. f x || g x) xs ≡ false → list_any g xs ≡ false
  second_none xs h = none_of g (λ x. f x || g x) xs (λ x. or_right (f x) (g x)) h

module _ (signals : List SignalForm) (s : ℕ) where
  -- what takes no part of a statement stays as it is
  pub stays : (statement : FlatStatement) (trail : TrailForm) → takes statement trail ≡ false
      → trails_before signals s statement trail ≡ trail ∷ []
  stays nothing trail h = refl
  stays (after first second) trail h =
      let ss = wanted_signals trail in
      ap (flat_map (trails_before signals s first))
      (stays second trail (second_none (assigns first) (assigns second) ss h))
      ∙ ap (λ ts. ts ++ [])
      (stays first trail (first_none (assigns first) (assigns second) ss h))
  stays (assign pieces place blocking right) trail h =
      ap (λ b. cond b (with_assign signals s pieces right trail) (trail ∷ [])) h
  stays (branch place condition first second) trail h =
      ap (λ b. cond b (map (marked_by (length signals) (record { truth = true; place = place })
      condition) (trails_before signals s first (chosen true trail))
      ++ map (marked_by (length signals) (record { truth = false; place = place }) condition)
      (trails_before signals s second (chosen false trail))) (trail ∷ [])) h

-- ---- no walk ends without a trail

pub some_ways : (count from : ℕ) (right : TypedTree) (trail : TrailForm) →
    1 ≤ length (with_own_ways count from right trail)
some_ways count from (typed w signed (choice place c a b)) trail =
    some_both _ _ (with_own_ways count from a (chosen true trail))
    (with_own_ways count from b (chosen false trail)) (some_ways count from a (chosen true trail))
some_ways count from right trail = omega arith

some_put : (count times : ℕ) (from : Option ℕ) (right : TypedTree) (trail : TrailForm) →
    1 ≤ length (with_own_put count times from right trail)
some_put count times (Some from) right trail = some_ways count from right trail
some_put count times None right trail = omega arith

module _ (signals : List SignalForm) (s : ℕ) where
  pub some_trail : (statement : FlatStatement) (trail : TrailForm) →
      1 ≤ length (trails_before signals s statement trail)
  some_trail nothing trail = omega arith
  some_trail (after first second) trail =
      let one = some_trail second trail in
      let more = flat_longer (trails_before signals s first) (some_trail first)
      (trails_before signals s second trail) in
      omega arith
  some_trail (assign pieces place blocking right) trail =
      some_cond (takes (assign pieces place blocking right) trail)
      (with_assign signals s pieces right trail) (trail ∷ [])
      (some_put (length signals) (own_pieces trail.own pieces)
      (whole_from signals trail.own pieces) right (with_right_put signals s pieces right trail))
      (omega arith)
  some_trail (branch place condition first second) trail =
      some_cond (takes (branch place condition first second) trail) _ (trail ∷ [])
      (some_both
      (marked_by (length signals) (record { truth = true; place = place }) condition)
      (marked_by (length signals) (record { truth = false; place = place }) condition)
      (trails_before signals s first (chosen true trail))
      (trails_before signals s second (chosen false trail)) (some_trail first (chosen true trail)))
      (omega arith)

-- ---- what an assignment puts in

-- where each part is what the definition says
pub right_put : (forms : List SignalForm) (s : ℕ) (pieces : List PieceForm) (right : TypedTree)
    (trail : TrailForm) (count times own nodes : ℕ) (place : Option Place) (left names : NamesForm)
    → count ≡ length forms → times ≡ times_put trail.names pieces
    → own ≡ own_times forms s pieces trail → nodes ≡ with_nodes trail.nodes (times + own) right
    → place ≡ later_place (first_place s pieces) trail.place
    → left ≡ without_covered forms trail.names pieces
    → names ≡ with_put_names count times left (names_in [] right)
    → record trail { names = names; nodes = nodes; place = place }
    ≡ with_right_put forms s pieces right trail
right_put forms s pieces right trail count times own nodes place left names many so_often own_is
    nodes_is place_is left_is names_is =
    let made : NamesForm → ℕ → Option Place → TrailForm =
    λ ns k p. record trail { names = ns; nodes = k; place = p } in
    let e1 : names ≡ with_put_names (length forms) (times_put trail.names pieces)
    (without_covered forms trail.names pieces) (names_in [] right) =
    names_is
    ∙ ap₂ (λ n k. with_put_names n k left (names_in [] right)) many so_often
    ∙ ap (λ l. with_put_names (length forms) (times_put trail.names pieces) l (names_in [] right))
    left_is in
    let e2 : nodes ≡ with_nodes trail.nodes
    (times_put trail.names pieces + own_times forms s pieces trail) right =
    nodes_is ∙ ap₂ (λ a b. with_nodes trail.nodes (a + b) right) so_often own_is in
    ap₂ (λ ns k. made ns k place) e1 e2
    ∙ ap (made (with_put_names (length forms) (times_put trail.names pieces)
    (without_covered forms trail.names pieces) (names_in [] right))
    (with_nodes trail.nodes (times_put trail.names pieces + own_times forms s pieces trail) right))
    place_is

-- ---- an assignment that is taken

-- so many signals have so many plain forms
pub form_count : (signals : List Signal) → length (signal_forms signals) ≡ length signals
form_count signals = length-map signals signal_form

module _ (forms : List SignalForm) (s : ℕ) (pieces : List PieceForm) (right : TypedTree)
    (trail put : TrailForm) (count : ℕ) (many : count ≡ length forms)
    (is : put ≡ with_right_put forms s pieces right trail) where
  pub put_whole : (from : ℕ) → whole_from forms trail.own pieces ≡ Some from
      → with_own_ways count from right put ≡ with_assign forms s pieces right trail
  put_whole from whole =
      ap₂ (λ n t. with_own_ways n from right t) many is
      ∙ ap (λ o. with_own_put (length forms) (own_pieces trail.own pieces) o right
      (with_right_put forms s pieces right trail)) (sym whole)

  pub put_parts : (times : ℕ) → times ≡ own_pieces trail.own pieces
      → whole_from forms trail.own pieces ≡ None
      → with_own_put count times None right put ≡ with_assign forms s pieces right trail
  put_parts times so_many none =
      ap₂ (λ n t. with_own_put n times None right t) many is
      ∙ ap (λ k. with_own_put (length forms) k None right
      (with_right_put forms s pieces right trail)) so_many
      ∙ ap (λ o. with_own_put (length forms) (own_pieces trail.own pieces) o right
      (with_right_put forms s pieces right trail)) (sym none)

-- where a test passes
pub if_taken : (b : Bool) (xs ys : List TrailForm) → b ≡ true → xs ≡ cond b xs ys
if_taken b xs ys is = sym (ap (λ t. cond t xs ys) is)

-- ---- a walk that ends early

-- more trails are too many too
ends_early : (forms more now later : List TrailForm) (e : WalkFault)
    → length forms ≤ length more → AddsTrails forms now (Err e) → AddsTrails more later (Err e)
ends_early forms more now later TooMany less h = omega arith
ends_early forms more now later OutOfMemory less h = tt

pub fails_early : (forms more now later : List TrailForm) (e : WalkFault)
    (result : Result Unit WalkFault) → length forms ≤ length more
    → IsErrAnd result (λ y. y ≡ e) → AddsTrails forms now (Err e)
    → AddsTrails more later result
fails_early forms more now later e (Ok done) less same h = elim same [ ]
fails_early forms more now later e (Err y) less same h =
    subst (λ x. AddsTrails more later (Err x)) (sym same)
    (ends_early forms more now later e less h)

-- ---- an arm

-- where an arm gives too many, they are as many behind its condition
pub arm_fails : (f : TrailForm → TrailForm) (old given arm now later : List TrailForm)
    (e : WalkFault) (result : Result Unit WalkFault) → given ≡ arm
    → IsErrAnd result (λ y. y ≡ e) → AddsTrails (old ++ given) now (Err e)
    → AddsTrails (old ++ map f arm) later result
arm_fails f old given arm now later e result same is h =
    let one = length-append old given in
    let two = length-append old (map f arm) in
    let three = length-map arm f in
    let four : length given ≡ length arm = ap length same in
    fails_early (old ++ given) (old ++ map f arm) now later e result (omega arith) is h

-- those before an arm are no more than those added with it, since one of it is left
pub start_inside : (old given : List TrailForm) (trails : List Trail) (left : TrailForm)
    (start : ℕ) → start ≡ length old → 1 ≤ length given
    → trail_forms trails ++ left ∷ [] ≡ old ++ given → start ≤ length trails
start_inside old given trails left start at some adds =
    let one = length-append old given in
    let two = length-map trails trail_form in
    let three : length (trail_forms trails ++ left ∷ []) ≡ length (old ++ given) = ap length adds in
    let four = length-append (trail_forms trails) (left ∷ []) in
    omega arith

-- the trails of an arm that were added, and the one that is left
arm_behind : (f : TrailForm → TrailForm) (old arm now : List TrailForm) (left : TrailForm)
    → 1 ≤ length arm → now ++ left ∷ [] ≡ old ++ arm
    → (take (length old) now ++ map f (drop (length old) now)) ++ f left ∷ []
    ≡ old ++ map f arm
arm_behind f [] arm now left some is = sym (map-append f now (left ∷ [])) ∙ ap (map f) is
arm_behind f (o ∷ old) arm [] left some is =
    let same : 1 ≡ length ((o ∷ old) ++ arm) = ap length is in
    let both = length-append (o ∷ old) arm in
    absurd (omega arith)
arm_behind f (o ∷ old) arm (t ∷ now) left some is =
    let first : t ≡ o = ap (λ (ts : List TrailForm). get_or ts 0 o) is in
    let later : now ++ left ∷ [] ≡ old ++ arm = ap (drop 1) is in
    ap₂ (λ (x : TrailForm) (xs : List TrailForm). x ∷ xs) first
    (arm_behind f old arm now left some later)

pub arm_left : (f : TrailForm → TrailForm) (old given arm now later : List TrailForm)
    (left marked : TrailForm) (start : ℕ) → start ≡ length old → 1 ≤ length arm → given ≡ arm
    → now ++ left ∷ [] ≡ old ++ given → later ≡ take start now ++ map f (drop start now)
    → marked ≡ f left → later ++ marked ∷ [] ≡ old ++ map f arm
arm_left f old given arm now later left marked start at some same is behind here =
    ap₂ (λ (ts : List TrailForm) t. ts ++ t ∷ []) behind here
    ∙ ap (λ n. (take n now ++ map f (drop n now)) ++ f left ∷ []) at
    ∙ arm_behind f old arm now left some (is ∙ ap (λ ts. old ++ ts) same)

pub one_too_many : (trails : List Trail) (trail : TrailForm) → 4096 ≤ length trails
    → 4096 < length (trail_forms trails ++ trail ∷ [])
one_too_many trails trail full = over_most trail_form trails trail full

-- ---- the trails before a statement, one by one

module _ (f : TrailForm → List TrailForm) where
  -- where the next one gives too many, all of them do
  pub turn_fails : (trails seen : List Trail) (x : Trail) (old all now later : List TrailForm)
      → seen ≡ take (length seen) trails → length seen < length trails
      → x ≡ get_or trails (length seen) x → all ≡ old ++ flat_map f (trail_forms seen)
      → (e : WalkFault) (result : Result Unit WalkFault) → IsErrAnd result (λ y. y ≡ e)
      → AddsTrails (all ++ f (trail_form x)) now (Err e)
      → AddsTrails (old ++ flat_map f (trail_forms trails)) later result
  turn_fails trails seen x old all now later so_far inside next adds e result is h =
      let longer = next_longer trail_form f trails seen x so_far inside next in
      let here : length all ≡ length old + length (flat_map f (trail_forms seen)) =
      ap length adds ∙ length-append old (flat_map f (trail_forms seen)) in
      let more = length-append all (f (trail_form x)) in
      let most = length-append old (flat_map f (trail_forms trails)) in
      fails_early (all ++ f (trail_form x)) (old ++ flat_map f (trail_forms trails)) now later e
      result (omega (arith, longer, here, more, most)) is h

-- ---- two statements

module _ (signals : List SignalForm) (s : ℕ) (first second : FlatStatement)
    (trail : TrailForm) where
  -- where the second gives too many, both do
  pub chain_longer : (none old : List TrailForm) → none ≡ []
      → length (none ++ trails_before signals s second trail)
      ≤ length (old ++ trails_before signals s (after first second) trail)
  chain_longer none old empty =
      let one = length-append none (trails_before signals s second trail) in
      let two = length-append old (trails_before signals s (after first second) trail) in
      let three : length none ≡ 0 = ap length empty in
      let four = flat_longer (trails_before signals s first) (some_trail signals s first)
      (trails_before signals s second trail) in
      let five : length (trails_before signals s (after first second) trail)
      ≡ length (flat_map (trails_before signals s first) (trails_before signals s second trail)) =
      refl in
      omega arith

  module _ (none between : List TrailForm) (left : TrailForm) (empty : none ≡ [])
      (is : between ++ left ∷ [] ≡ none ++ trails_before signals s second trail) where
    -- the first before those that the second adds, and before the one that it leaves
    pub chain_left : (old added : List TrailForm)
        → added ≡ old ++ flat_map (trails_before signals s first) between
        → added ++ trails_before signals s first left
        ≡ old ++ trails_before signals s (after first second) trail
    chain_left old added adds =
        let f = trails_before signals s first in
        let whole : flat_map f between ++ f left
        ≡ trails_before signals s (after first second) trail =
        ap (λ ts. flat_map f between ++ ts) (sym (append-nil (f left)))
        ∙ sym (flat_map-append f between (left ∷ []))
        ∙ ap (flat_map f) (is ∙ ap (λ ts. ts ++ trails_before signals s second trail) empty) in
        ap (λ ts. ts ++ f left) adds
        ∙ append_assoc old (flat_map f between) (f left)
        ∙ ap (λ ts. old ++ ts) whole

    -- where the first gives too many of those that the second adds, both do
    pub between_shorter : (old : List TrailForm) →
        length (old ++ flat_map (trails_before signals s first) between)
        ≤ length (old ++ trails_before signals s (after first second) trail)
    between_shorter old =
        let added = old ++ flat_map (trails_before signals s first) between in
        let both = length-append added (trails_before signals s first left) in
        let same : length (added ++ trails_before signals s first left)
        ≡ length (old ++ trails_before signals s (after first second) trail) =
        ap length (chain_left old added refl) in
        omega arith
