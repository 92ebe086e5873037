-- A statement means for a target what its slice means.
use Rattle.std.proofs.Common.{◌≡◌, ℕ, Bool, true, false, cond, ◌&&◌, ◌||◌, List, [], ◌∷◌, ◌++◌}
use Rattle.std.proofs.Common.{map, flat_map, refl, sym, ap, ap₂, ◌∙◌, append-nil, ◌==◌, ◌+◌}
use Rattle.std.proofs.Common.{subst, arith}
use Rattle.std.specs.Prelude.{IsFalse}
use Rattle.std.specs.List.{list_any}
use Rattle.sv_num.specs.declared.faults.Place.{Place}
use Rattle.sv_flat.specs.Design.{SignalForm, TypedTree, PieceForm, FlatStatement, nothing, after}
use Rattle.sv_flat.specs.Design.{assign, branch}
use Rattle.sv_flat.specs.Assigned.{assigns}
use Rattle.sv_flat.proofs.SameRuns.{or_none_left, or_none_right}
use Rattle.sv_obl.specs.BodySlices.{sliced, in_sequence, SameParts}
use Rattle.sv_obl.specs.Routes.{RouteForm, behind, with_right, routes_before}
use Rattle.sv_obl.proofs.PathLists.{cond_false, flat_flat, flat_alike, flat_itself}

-- ---- sequences

pub or_of : (a b c : Bool) → ((a || b) || c) ≡ (a || (b || c))
or_of true b c = refl
or_of false b c = refl

pub or_none : (b : Bool) → (b || false) ≡ b
or_none true = refl
or_none false = refl

-- parts that stand in one sequence stand so behind others
pub regrouped : (a b rest : FlatStatement)
    → in_sequence a (in_sequence b rest) ≡ in_sequence (in_sequence a b) rest
regrouped nothing b rest = refl
regrouped (after x y) b rest =
    ap (in_sequence x) (regrouped y b rest) ∙ regrouped x (in_sequence y b) rest
regrouped (assign pieces place blocking right) b rest = refl
regrouped (branch place condition x y) b rest =
    ap₂ (λ (u v : FlatStatement). after (branch place condition u v) (in_sequence b rest))
    (regrouped x nothing nothing) (regrouped y nothing nothing)

-- statements of the same parts have them before any rest
pub same_before : (a b : FlatStatement) → SameParts a b → (rest : FlatStatement)
    → in_sequence a rest ≡ in_sequence b rest
same_before a b same rest =
    regrouped a nothing rest
    ∙ ap (λ (x : FlatStatement). in_sequence x rest) same
    ∙ sym (regrouped b nothing rest)

-- a change of lists by statements, where that of a sequence is that of its second part first
module _ {X : Type 0} (walk : FlatStatement → X → List X)
    (still : (x : X) → walk nothing x ≡ x ∷ [])
    (then_first : (a b : FlatStatement) (x : X) → walk (after a b) x ≡ flat_map (walk a) (walk b x))
    (arms : (place : Place) (condition : TypedTree) (a b : FlatStatement)
    → ((x : X) → walk (in_sequence a nothing) x ≡ walk a x)
    → ((x : X) → walk (in_sequence b nothing) x ≡ walk b x) → (x : X)
    → walk (branch place condition (in_sequence a nothing) (in_sequence b nothing)) x
    ≡ walk (branch place condition a b) x) where
  walk_in_sequence : (a b : FlatStatement) (x : X)
      → walk (in_sequence a b) x ≡ flat_map (walk a) (walk b x)
  walk_in_sequence nothing b x =
      sym (flat_itself (walk b x))
      ∙ flat_alike (λ y. y ∷ []) (walk nothing) (λ y. sym (still y)) (walk b x)
  walk_in_sequence (after c d) b x =
      walk_in_sequence c (in_sequence d b) x
      ∙ ap (flat_map (walk c)) (walk_in_sequence d b x)
      ∙ flat_flat (walk d) (walk c) (walk b x)
      ∙ flat_alike (λ y. flat_map (walk c) (walk d y)) (walk (after c d))
      (λ y. sym (then_first c d y)) (walk b x)
  walk_in_sequence (assign pieces place blocking right) b x =
      then_first (assign pieces place blocking right) b x
  walk_in_sequence (branch place condition c d) b x =
      then_first (branch place condition (in_sequence c nothing) (in_sequence d nothing)) b x
      ∙ flat_alike (walk (branch place condition (in_sequence c nothing) (in_sequence d nothing)))
      (walk (branch place condition c d))
      (arms place condition c d
      (λ y. walk_in_sequence c nothing y ∙ ap (flat_map (walk c)) (still y) ∙ append-nil (walk c y))
      (λ y. walk_in_sequence d nothing y ∙ ap (flat_map (walk d)) (still y)
      ∙ append-nil (walk d y))) (walk b x)

  walk_alone : (a : FlatStatement) (x : X) → walk (in_sequence a nothing) x ≡ walk a x
  walk_alone a x =
      walk_in_sequence a nothing x ∙ ap (flat_map (walk a)) (still x) ∙ append-nil (walk a x)

  -- statements of the same parts change them alike
  pub same_parts_walked : (a b : FlatStatement) → SameParts a b → (x : X) → walk a x ≡ walk b x
  same_parts_walked a b same x =
      sym (walk_alone a x) ∙ ap (λ (c : FlatStatement). walk c x) same ∙ walk_alone b x

-- what a sequence has where both its parts have it, and so may its arms be put in sequence or not
module _ (P : FlatStatement → Type 0) (none : P nothing)
    (joined : (a b : FlatStatement) → P a → P b → P (after a b))
    (parted : (a b : FlatStatement) → P (after a b) → P a × P b)
    (arms_in : (place : Place) (condition : TypedTree) (a b : FlatStatement)
    → (P a → P (in_sequence a nothing)) → (P b → P (in_sequence b nothing))
    → P (branch place condition a b)
    → P (branch place condition (in_sequence a nothing) (in_sequence b nothing)))
    (arms_out : (place : Place) (condition : TypedTree) (a b : FlatStatement)
    → (P (in_sequence a nothing) → P a) → (P (in_sequence b nothing) → P b)
    → P (branch place condition (in_sequence a nothing) (in_sequence b nothing))
    → P (branch place condition a b)) where
  has_in_sequence : (a b : FlatStatement) → P a → P b → P (in_sequence a b)
  has_in_sequence nothing b one two = two
  has_in_sequence (after x y) b one two =
      let parts = parted x y one in
      has_in_sequence x (in_sequence y b) parts.0 (has_in_sequence y b parts.1 two)
  has_in_sequence (assign pieces place blocking right) b one two =
      joined (assign pieces place blocking right) b one two
  has_in_sequence (branch place condition x y) b one two =
      joined (branch place condition (in_sequence x nothing) (in_sequence y nothing)) b
      (arms_in place condition x y (λ has. has_in_sequence x nothing has none)
      (λ has. has_in_sequence y nothing has none) one) two

  has_apart : (a b : FlatStatement) → P (in_sequence a b) → P a × P b
  has_apart nothing b has = (none, has)
  has_apart (after x y) b has =
      let front = has_apart x (in_sequence y b) has in
      let rest = has_apart y b front.1 in
      (joined x y front.0 rest.0, rest.1)
  has_apart (assign pieces place blocking right) b has =
      parted (assign pieces place blocking right) b has
  has_apart (branch place condition x y) b has =
      let parts =
      parted (branch place condition (in_sequence x nothing) (in_sequence y nothing)) b has in (
        arms_out place condition x y (λ there. (has_apart x nothing there).0)
            (λ there. (has_apart y nothing there).0) parts.0,
        parts.1,
      )

  -- statements of the same parts have it both or neither
  pub same_parts_have : (a b : FlatStatement) → SameParts a b → P b → P a
  same_parts_have a b same has =
      (has_apart a nothing (subst P (sym same) (has_in_sequence b nothing has none))).0

-- a number of a statement, where that of a sequence is the sum of its parts'
module _ (size : FlatStatement → ℕ) (none : size nothing ≡ 0)
    (joined : (a b : FlatStatement) → size (after a b) ≡ size a + size b)
    (arms : (place : Place) (condition : TypedTree) (a b : FlatStatement)
    → size (in_sequence a nothing) ≡ size a → size (in_sequence b nothing) ≡ size b
    → size (branch place condition (in_sequence a nothing) (in_sequence b nothing))
    ≡ size (branch place condition a b)) where
  sized_in_sequence : (a b : FlatStatement) → size (in_sequence a b) ≡ size a + size b
  sized_in_sequence nothing b = omega (arith, none)
  sized_in_sequence (after x y) b =
      sized_in_sequence x (in_sequence y b)
      ∙ omega (arith, sized_in_sequence y b, joined x y)
  sized_in_sequence (assign pieces place blocking right) b =
      joined (assign pieces place blocking right) b
  sized_in_sequence (branch place condition x y) b =
      joined (branch place condition (in_sequence x nothing) (in_sequence y nothing)) b
      ∙ ap (λ n. n + size b)
      (arms place condition x y (omega (arith, none, sized_in_sequence x nothing))
      (omega (arith, none, sized_in_sequence y nothing)))

  -- statements of the same parts have the same
  pub same_parts_sized : (a b : FlatStatement) → SameParts a b → size a ≡ size b
  same_parts_sized a b same =
      omega (arith, none, sized_in_sequence a nothing, sized_in_sequence b nothing, ap size same)

pub assigns_in_sequence : (s : ℕ) (a b : FlatStatement)
    → assigns (in_sequence a b) s ≡ (assigns a s || assigns b s)
assigns_in_sequence s nothing b = refl
assigns_in_sequence s (after x y) b =
    assigns_in_sequence s x (in_sequence y b)
    ∙ ap (λ c. assigns x s || c) (assigns_in_sequence s y b)
    ∙ sym (or_of (assigns x s) (assigns y s) (assigns b s))
assigns_in_sequence s (assign pieces place blocking right) b = refl
assigns_in_sequence s (branch place condition x y) b =
    ap₂ (λ c d. (c || d) || assigns b s)
    (assigns_in_sequence s x nothing ∙ or_none (assigns x s))
    (assigns_in_sequence s y nothing ∙ or_none (assigns y s))

-- ---- slices

-- what does not assign the target has an empty slice
pub slice_is_empty : (s : ℕ) (a : FlatStatement) → IsFalse (assigns a s) → (rest : FlatStatement)
    → in_sequence (sliced s a) rest ≡ rest
slice_is_empty s nothing none rest = refl
slice_is_empty s (after x y) none rest =
    slice_is_empty s x (or_none_left (assigns x s) (assigns y s) none)
    (in_sequence (sliced s y) rest)
    ∙ slice_is_empty s y (or_none_right (assigns x s) (assigns y s) none) rest
slice_is_empty s (assign pieces place blocking right) none rest =
    ap (λ b. in_sequence (cond b (assign pieces place blocking right) nothing) rest) none
slice_is_empty s (branch place condition x y) none rest =
    ap (λ b. in_sequence (cond b (branch place condition (sliced s x) (sliced s y)) nothing) rest)
    none

pub slice_assigns : (s : ℕ) (a : FlatStatement) → assigns (sliced s a) s ≡ assigns a s
slice_assigns s nothing = refl
slice_assigns s (after x y) = ap₂ (λ c d. c || d) (slice_assigns s x) (slice_assigns s y)
slice_assigns s (assign pieces place blocking right) =
    by_test (list_any (λ (piece : PieceForm). piece.signal == s) pieces) refl
  where
    by_test : (b : Bool) → assigns (assign pieces place blocking right) s ≡ b
        → assigns (cond b (assign pieces place blocking right) nothing) s ≡ b
    by_test true is = is
    by_test false is = refl
slice_assigns s (branch place condition x y) =
    by_test (assigns x s || assigns y s)
    (ap₂ (λ c d. c || d) (slice_assigns s x) (slice_assigns s y))
  where
    by_test : (b : Bool) → (assigns (sliced s x) s || assigns (sliced s y) s) ≡ b
        → assigns (cond b (branch place condition (sliced s x) (sliced s y)) nothing) s ≡ b
    by_test true is = is
    by_test false is = refl

-- a slice means what the whole statement means, whether that stands in it or not
kept_or_none : {Y : Type 0} (means : FlatStatement → Y) (kept whole : FlatStatement) (c : Bool)
    → (c ≡ true → means kept ≡ means whole) → (c ≡ false → means nothing ≡ means whole)
    → means (cond c kept nothing) ≡ means whole
kept_or_none means kept whole true stands gone = stands refl
kept_or_none means kept whole false stands gone = gone refl

-- ---- meanings

-- a meaning of statements, as changes of a state, in which a branch comes to what its arms come to
-- and what does not assign the target changes nothing
pub record PassesOver (s : ℕ) {X : Type 0} (means : FlatStatement → X → X) : Type 0 where
  pub chain : (a b : FlatStatement) (x : X) → means (after a b) x ≡ means b (means a x)
  pub arms : (place : Place) (condition : TypedTree) (a b c d : FlatStatement)
      → assigns a s ≡ assigns c s → assigns b s ≡ assigns d s
      → ((x : X) → means a x ≡ means c x) → ((x : X) → means b x ≡ means d x)
      → (x : X) → means (branch place condition a b) x ≡ means (branch place condition c d) x
  pub others : (a : FlatStatement) → IsFalse (assigns a s) → (x : X) → means a x ≡ x

module _ (s : ℕ) {X : Type 0} (means : FlatStatement → X → X) (passes : PassesOver s means) where
  pub sliced_means : (a : FlatStatement) (x : X) → means (sliced s a) x ≡ means a x
  sliced_means nothing x = refl
  sliced_means (after a b) x =
      passes.chain (sliced s a) (sliced s b) x
      ∙ sliced_means b (means (sliced s a) x)
      ∙ ap (means b) (sliced_means a x)
      ∙ sym (passes.chain a b x)
  sliced_means (assign pieces place blocking right) x =
      let whole = assign pieces place blocking right in
      kept_or_none (λ z. means z x) whole whole (assigns whole s) (λ is. refl)
      (λ none. passes.others nothing refl x ∙ sym (passes.others whole none x))
  sliced_means (branch place condition a b) x =
      let whole = branch place condition a b in
      kept_or_none (λ z. means z x) (branch place condition (sliced s a) (sliced s b)) whole
      (assigns a s || assigns b s)
      (λ is. passes.arms place condition (sliced s a) (sliced s b) a b (slice_assigns s a)
      (slice_assigns s b) (λ y. sliced_means a y) (λ y. sliced_means b y) x)
      (λ none. passes.others nothing refl x ∙ sym (passes.others whole none x))

  pub sequence_means : (a b : FlatStatement) (x : X) → means (in_sequence a b) x
      ≡ means b (means a x)
  sequence_means nothing b x = ap (means b) (sym (passes.others nothing refl x))
  sequence_means (after c d) b x =
      sequence_means c (in_sequence d b) x
      ∙ sequence_means d b (means c x)
      ∙ ap (means b) (sym (passes.chain c d x))
  sequence_means (assign pieces place blocking right) b x =
      passes.chain (assign pieces place blocking right) b x
  sequence_means (branch place condition c d) b x =
      passes.chain (branch place condition (in_sequence c nothing) (in_sequence d nothing)) b x
      ∙ ap (means b)
      (passes.arms place condition (in_sequence c nothing) (in_sequence d nothing) c d
      (assigns_in_sequence s c nothing ∙ or_none (assigns c s))
      (assigns_in_sequence s d nothing ∙ or_none (assigns d s))
      (λ y. sequence_means c nothing y ∙ passes.others nothing refl (means c y))
      (λ y. sequence_means d nothing y ∙ passes.others nothing refl (means d y)) x)

  -- whatever has the parts of a statement's slice means what the statement means
  pub slice_means : (slice a : FlatStatement) → SameParts slice (sliced s a) → (x : X)
      → means slice x ≡ means a x
  slice_means slice a same x =
      sym (passes.others nothing refl (means slice x))
      ∙ sym (sequence_means slice nothing x)
      ∙ ap (λ (b : FlatStatement). means b x) same
      ∙ sequence_means (sliced s a) nothing x
      ∙ passes.others nothing refl (means (sliced s a) x)
      ∙ sliced_means a x

-- ---- routes

-- a statement that does not assign the target changes no route
pub stays : (signals : List SignalForm) (s : ℕ) (a : FlatStatement) → IsFalse (assigns a s)
    → (route : RouteForm) → routes_before signals s a route ≡ route ∷ []
stays signals s nothing none route = refl
stays signals s (after first second) none route =
    ap (flat_map (routes_before signals s first))
    (stays signals s second (or_none_right (assigns first s) (assigns second s) none) route)
    ∙ append-nil (routes_before signals s first route)
    ∙ stays signals s first (or_none_left (assigns first s) (assigns second s) none) route
stays signals s (assign pieces place blocking right) none route =
    cond_false (assigns (assign pieces place blocking right) s && route.wants)
    (with_right signals s pieces right route) (route ∷ []) (ap (λ b. b && route.wants) none)
stays signals s (branch place condition first second) none route =
    cond_false (assigns (branch place condition first second) s && route.wants)
    (map (behind (record { place = place; condition = condition; truth = true }))
    (routes_before signals s first route)
    ++ map (behind (record { place = place; condition = condition; truth = false }))
    (routes_before signals s second route))
    (route ∷ []) (ap (λ b. b && route.wants) none)

-- the routes before some routes, from the last statement back: a change of lists of routes, of which
-- the one of a sequence is that of its second part first
module _ (signals : List SignalForm) (s : ℕ) where
  abbrev routes : FlatStatement → RouteForm → List RouteForm
  routes = routes_before signals s

  same_arms : (place : Place) (condition : TypedTree) (a b c d : FlatStatement)
      → assigns a s ≡ assigns c s → assigns b s ≡ assigns d s
      → ((r : RouteForm) → routes a r ≡ routes c r) → ((r : RouteForm) → routes b r ≡ routes d r)
      → (r : RouteForm) → routes (branch place condition a b) r ≡ routes (branch place condition c d) r
  same_arms place condition a b c d one two first second r =
      ap₂ (λ ys ns. cond ((assigns a s || assigns b s) && r.wants)
      (map (behind (record { place = place; condition = condition; truth = true })) ys
      ++ map (behind (record { place = place; condition = condition; truth = false })) ns)
      (r ∷ [])) (first r) (second r)
      ∙ ap₂ (λ m n. cond ((m || n) && r.wants)
      (map (behind (record { place = place; condition = condition; truth = true })) (routes c r)
      ++ map (behind (record { place = place; condition = condition; truth = false })) (routes d r))
      (r ∷ [])) one two

  sliced_routes : (a : FlatStatement) (r : RouteForm) → routes (sliced s a) r ≡ routes a r
  sliced_routes nothing r = refl
  sliced_routes (after a b) r =
      ap (flat_map (routes (sliced s a))) (sliced_routes b r)
      ∙ flat_alike (routes (sliced s a)) (routes a) (λ y. sliced_routes a y) (routes b r)
  sliced_routes (assign pieces place blocking right) r =
      let whole = assign pieces place blocking right in
      kept_or_none (λ z. routes z r) whole whole (assigns whole s) (λ is. refl)
      (λ none. sym (stays signals s whole none r))
  sliced_routes (branch place condition a b) r =
      let whole = branch place condition a b in
      kept_or_none (λ z. routes z r) (branch place condition (sliced s a) (sliced s b)) whole
      (assigns a s || assigns b s)
      (λ is. same_arms place condition (sliced s a) (sliced s b) a b (slice_assigns s a)
      (slice_assigns s b) (λ y. sliced_routes a y) (λ y. sliced_routes b y) r)
      (λ none. sym (stays signals s whole none r))

  arms_in_sequence : (place : Place) (condition : TypedTree) (c d : FlatStatement)
      → ((r : RouteForm) → routes (in_sequence c nothing) r ≡ routes c r)
      → ((r : RouteForm) → routes (in_sequence d nothing) r ≡ routes d r) → (r : RouteForm)
      → routes (branch place condition (in_sequence c nothing) (in_sequence d nothing)) r
      ≡ routes (branch place condition c d) r
  arms_in_sequence place condition c d one two =
      same_arms place condition (in_sequence c nothing) (in_sequence d nothing) c d
      (assigns_in_sequence s c nothing ∙ or_none (assigns c s))
      (assigns_in_sequence s d nothing ∙ or_none (assigns d s)) one two

  -- statements with the same slice for a target have its routes
  pub same_slice_routes : (a b : FlatStatement) → SameParts (sliced s a) (sliced s b) → (r : RouteForm)
      → routes_before signals s a r ≡ routes_before signals s b r
  same_slice_routes a b same r =
      sym (sliced_routes a r)
      ∙ same_parts_walked routes (λ x. refl) (λ x y z. refl) arms_in_sequence (sliced s a)
      (sliced s b) same r
      ∙ sliced_routes b r
