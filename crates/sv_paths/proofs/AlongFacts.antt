-- A statement that a trail does not take changes nothing on its way; which arm comes next, and what
-- an arm and an assignment that are taken make of it.
use Rattle.std.proofs.Common.{◌≡◌, ℕ, zero, suc, ◌+◌, ◌<◌, ◌≤◌, Bool, true, false, cond, ◌||◌}
use Rattle.std.proofs.Common.{List, [], ◌∷◌, ◌++◌, length, map, reverse, get_or, drop, Option}
use Rattle.std.proofs.Common.{refl, sym, ap, ap₂, ◌∙◌, arith, add-one, append_assoc}
use Rattle.std.specs.List.{list_any}
use Rattle.std.proofs.lemmas.Bool.{false≢true}
use Rattle.std.proofs.lemmas.List.{drop_all, map-append, reverse-append}
use Rattle.sv_num.specs.declared.faults.Place.{Place}
use Rattle.sv_flat.specs.Design.{SignalForm, TypedTree, typed, choice, PieceForm, FlatStatement}
use Rattle.sv_flat.specs.Design.{nothing, after, assign, branch}
use Rattle.sv_flat.specs.Assigned.{assigns}
use Rattle.sv_paths.specs.declared.conditions.Condition.{Condition}
use Rattle.sv_obl.specs.declared.queries.PathStep.{PathStep}
use Rattle.sv_paths.specs.declared.trails.Trail.{Trail}
use Rattle.sv_paths.specs.Alongs.{WayForm, next_arm, later_arms, on_arm, with_step, along_ways}
use Rattle.sv_paths.specs.Alongs.{along_own, along_assign, along, open_way}
use Rattle.sv_paths.specs.AlongViews.{condition_form}
use Rattle.sv_obl.specs.Paths.{StepForm, step_with}
use Rattle.sv_paths.specs.Trails.{TrailForm, open_trail, wanted_signals, takes, marked_by}
use Rattle.sv_paths.specs.Trails.{own_pieces, whole_from}
use Rattle.sv_paths.specs.Trails.{with_right_put}
use Rattle.sv_paths.specs.TrailViews.{trail_form}
use Rattle.sv_obl.specs.Views.{step_form}
use Rattle.sv_obl.specs.Wanted.{put_in}

neither : (f g : ℕ → Bool) (xs : List ℕ) → list_any (λ k. f k || g k) xs ≡ false
    → (list_any f xs ≡ false) × (list_any g xs ≡ false)
neither f g [] none = (refl, refl)
neither f g (x ∷ xs) none = by_tests (f x) (g x) none (neither f g xs)
  where
    by_tests : (b c : Bool) → ((b || c) || list_any (λ k. f k || g k) xs) ≡ false
        → (list_any (λ k. f k || g k) xs ≡ false
        → (list_any f xs ≡ false) × (list_any g xs ≡ false))
        → ((b || list_any f xs) ≡ false) × ((c || list_any g xs) ≡ false)
    by_tests true c none rest = absurd (false≢true (sym none))
    by_tests false true none rest = absurd (false≢true (sym none))
    by_tests false false none rest = rest none

pub along_stays : (signals : List SignalForm) (s : ℕ) (statement : FlatStatement) (way : WayForm)
    → takes statement way.trail ≡ false → along signals s statement way ≡ way
along_stays signals s nothing way none = refl
along_stays signals s (after first second) way none =
    let both = neither (assigns first) (assigns second) (wanted_signals way.trail) none in
    ap (along signals s first) (along_stays signals s second way both.1)
    ∙ along_stays signals s first way both.0
along_stays signals s (assign pieces place blocking right) way none =
    ap (λ b. cond b (along_assign signals s pieces right way) way) none
along_stays signals s (branch place condition first second) way none =
    ap (λ b. cond b (with_step (length signals)
    (record { place = place; condition = condition; truth = next_arm way.arms })
    (cond (next_arm way.arms) (along signals s first (on_arm way))
    (along signals s second (on_arm way)))) way) none

-- ---- the arm that comes next

pub next_is : (arms : List Bool) (n : ℕ) (d : Bool) → n < length arms
    → get_or arms n d ≡ next_arm (drop n arms)
next_is [] n d inside = absurd (omega arith)
next_is (arm ∷ arms) zero d inside = refl
next_is (arm ∷ arms) (suc n) d inside = next_is arms n d (omega arith)

later_from : (arms : List Bool) (n : ℕ) → drop (suc n) arms ≡ later_arms (drop n arms)
later_from [] zero = refl
later_from [] (suc n) = refl
later_from (arm ∷ arms) zero = refl
later_from (arm ∷ arms) (suc n) = later_from arms n

pub later_are : (arms : List Bool) (n : ℕ) → drop (n + 1) arms ≡ later_arms (drop n arms)
later_are arms n = ap (λ k. drop k arms) (add-one n) ∙ later_from arms n

-- past the last one
pub no_arm : (arms : List Bool) (n : ℕ) → length arms ≤ n → false ≡ next_arm (drop n arms)
no_arm arms n past = sym (ap next_arm (drop_all n arms past))

pub none_later : (arms : List Bool) (n : ℕ) → length arms ≤ n
    → drop n arms ≡ later_arms (drop n arms)
none_later arms n past = drop_all n arms past ∙ sym (ap later_arms (drop_all n arms past))

-- with other arms
abbrev pub with_arms : Trail → List Condition → List Bool → WayForm
with_arms trail conditions arms =
    record { trail = trail_form trail; steps = map condition_form conditions; arms = arms }

-- ---- one step more

pub step_added : (count : ℕ) (step : StepForm) (way : WayForm) (trail : TrailForm)
    (conditions more : List Condition) (one : Condition)
    → trail ≡ marked_by count (record { truth = step.truth; place = step.place }) step.condition
    way.trail
    → way.steps ≡ map condition_form conditions → more ≡ conditions ++ one ∷ []
    → condition_form one ≡ step
    → record { trail = trail; steps = map condition_form more; arms = way.arms }
    ≡ with_step count step way
step_added count step way trail conditions more one marked so_far made is =
    let whole : TrailForm → List StepForm → WayForm = λ t ss.
    record { trail = t; steps = ss; arms = way.arms } in
    ap₂ whole marked
    (ap (map condition_form) made
    ∙ map-append condition_form conditions (one ∷ [])
    ∙ ap₂ (λ ss s. ss ++ s ∷ []) (sym so_far) is)

-- ---- one arm is taken

-- what is made of the arm that is taken
each_arm : {X Y Z : Type 0} (g : Bool → Y → Z) (f : X → Y) (a b : X) (t : Bool) →
    g t (f (cond t a b)) ≡ g t (cond t (f a) (f b))
each_arm g f a b true = refl
each_arm g f a b false = refl

module _ (way made : WayForm) (arm : Bool) (is : made ≡ on_arm way)
    (next : arm ≡ next_arm way.arms) (place : Place) (c : TypedTree) where
  abbrev step : Bool → StepForm
  step truth = record { place = place; condition = c; truth = truth }

  module _ (count from : ℕ) (w : ℕ) (signed : Bool) (a b : TypedTree) where
    taken_way : (x : TypedTree) → cond arm a b ≡ x
        → with_step count (step arm) (along_ways count from x made)
        ≡ along_ways count from (typed w signed (choice place c a b)) way
    taken_way x same =
        ap₂ (λ y m. with_step count (step arm) (along_ways count from y m)) (sym same) is
        ∙ each_arm (λ t w. with_step count (step t) w)
        (λ y. along_ways count from y (on_arm way)) a b arm
        ∙ ap (λ t. with_step count (step t)
        (cond t (along_ways count from a (on_arm way)) (along_ways count from b (on_arm way)))) next

    pub first_way : arm ≡ true → with_step count (step true) (along_ways count from a made)
        ≡ along_ways count from (typed w signed (choice place c a b)) way
    first_way so =
        ap (λ t. with_step count (step t) (along_ways count from a made)) (sym so)
        ∙ taken_way a (ap (λ t. cond t a b) so)

    pub second_way : arm ≡ false → with_step count (step false) (along_ways count from b made)
        ≡ along_ways count from (typed w signed (choice place c a b)) way
    second_way so =
        ap (λ t. with_step count (step t) (along_ways count from b made)) (sym so)
        ∙ taken_way b (ap (λ t. cond t a b) so)

  module _ (signals : List SignalForm) (s : ℕ) (count : ℕ) (many : count ≡ length signals)
      (a b : FlatStatement) (takes_it : takes (branch place c a b) way.trail ≡ true) where
    taken_arm : (x : FlatStatement) → cond arm a b ≡ x
        → with_step count (step arm) (along signals s x made)
        ≡ along signals s (branch place c a b) way
    taken_arm x same =
        ap₂ (λ y m. with_step count (step arm) (along signals s y m)) (sym same) is
        ∙ each_arm (λ t w. with_step count (step t) w) (λ y. along signals s y (on_arm way)) a b arm
        ∙ ap (λ t. with_step count (step t)
        (cond t (along signals s a (on_arm way)) (along signals s b (on_arm way)))) next
        ∙ ap (λ n. with_step n (step (next_arm way.arms)) (cond (next_arm way.arms)
        (along signals s a (on_arm way)) (along signals s b (on_arm way)))) many
        ∙ sym (ap (λ t. cond t (with_step (length signals) (step (next_arm way.arms))
        (cond (next_arm way.arms) (along signals s a (on_arm way))
        (along signals s b (on_arm way)))) way) takes_it)

-- ---- an assignment

-- its right side is put in for all names but the result's own, and then for that
module _ (signals : List SignalForm) (s : ℕ) (pieces : List PieceForm) (right : TypedTree)
    (way : WayForm) (trail : TrailForm) (steps : List StepForm) (count : ℕ)
    (many : count ≡ length signals) (put : trail ≡ with_right_put signals s pieces right way.trail)
    (put_steps : steps ≡ map (step_with (put_in signals pieces right)) way.steps) where
  abbrev put_way : WayForm
  put_way = record {
    trail = with_right_put signals s pieces right way.trail;
    steps = map (step_with (put_in signals pieces right)) way.steps;
    arms = way.arms;
  }

  abbrev pub given : WayForm
  given = record { trail = trail; steps = steps; arms = way.arms }

  is_put : given ≡ put_way
  is_put =
      let whole : TrailForm → List StepForm → WayForm = λ t ss.
      record { trail = t; steps = ss; arms = way.arms } in
      ap₂ whole put put_steps

  pub own_along : (times : ℕ) (from : Option ℕ) → times ≡ own_pieces way.trail.own pieces
      → from ≡ whole_from signals way.trail.own pieces
      → along_own count times from right given ≡ along_assign signals s pieces right way
  own_along times from so_many whole =
      ap₂ (λ n w. along_own n times from right w) many is_put
      ∙ ap₂ (λ k o. along_own (length signals) k o right put_way) so_many whole

-- ---- at the ends

-- where the path is walked along from
pub begins : (s : ℕ) (trail : TrailForm) (conditions : List Condition) (given arms : List Bool)
    → trail ≡ open_trail s → conditions ≡ [] → given ≡ arms
    → record { trail = trail; steps = map condition_form conditions; arms = drop 0 given }
    ≡ open_way s arms
begins s trail conditions given arms opened none same =
    let whole : TrailForm → List Condition → WayForm = λ t cs.
    record { trail = t; steps = map condition_form cs; arms = given } in
    let on : List Bool → WayForm = λ bs.
    record { trail = open_trail s; steps = []; arms = bs } in
    ap₂ whole opened none ∙ ap on same

-- one more of those that are left is the last but the ones so far
turned_more : (turned rest left all : List StepForm) (step : StepForm)
    → rest ≡ left ++ step ∷ [] → turned ++ reverse rest ≡ all
    → (turned ++ step ∷ []) ++ reverse left ≡ all
turned_more turned rest left all step split so_far =
    append_assoc turned (step ∷ []) (reverse left)
    ∙ ap (λ xs. turned ++ xs) (sym (ap reverse split ∙ reverse-append left (step ∷ [])))
    ∙ so_far

-- one more condition, changed, as the last
more_changed : {X : Type 0} (form : X → StepForm) (f : StepForm → StepForm) (seen : List X)
    (one : X) → map f (map form (seen ++ one ∷ []))
    ≡ map f (map form seen) ++ f (form one) ∷ []
more_changed form f seen one =
    ap (map f) (map-append form seen (one ∷ []))
    ∙ map-append f (map form seen) (form one ∷ [])

module _ (f : StepForm → StepForm) where
  -- one more condition in which something is put
  pub put_next : (made more seen : List Condition) (one condition : Condition)
      → more ≡ made ++ one ∷ [] → condition_form one ≡ f (condition_form condition)
      → map condition_form made ≡ map f (map condition_form seen)
      → map condition_form more ≡ map f (map condition_form (seen ++ condition ∷ []))
  put_next made more seen one condition gains is so_far =
      ap (map condition_form) gains
      ∙ map-append condition_form made (one ∷ [])
      ∙ ap₂ (λ xs x. xs ++ x ∷ []) so_far is
      ∙ sym (more_changed condition_form f seen condition)

  -- one more of those that are left, behind the ones so far
  pub closed_next : (closed more : List PathStep) (rest left : List Condition) (all : List StepForm)
      (one : PathStep) (condition : Condition)
      → more ≡ closed ++ one ∷ [] → rest ≡ left ++ condition ∷ []
      → step_form one ≡ f (condition_form condition)
      → map step_form closed ++ reverse (map f (map condition_form rest)) ≡ all
      → map step_form more ++ reverse (map f (map condition_form left)) ≡ all
  closed_next closed more rest left all one condition gains split is so_far =
      let changed = map f (map condition_form left) in
      ap (λ xs. map step_form xs ++ reverse changed) gains
      ∙ ap (λ xs. xs ++ reverse changed)
      (map-append step_form closed (one ∷ [])
      ∙ ap (λ x. map step_form closed ++ x ∷ []) is)
      ∙ turned_more (map step_form closed) (map f (map condition_form rest)) changed all
      (f (condition_form condition))
      (ap (λ cs. map f (map condition_form cs)) split
      ∙ more_changed condition_form f left condition) so_far
