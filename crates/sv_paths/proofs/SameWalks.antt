-- Statements of the same parts have bits of a word alike, and are walked alike.
use Rattle.std.proofs.Common.{◌≡◌, ℕ, true, false, cond, ◌||◌, List, [], ◌∷◌, ◌++◌, map}
use Rattle.std.proofs.Common.{length, refl, sym, ap, ap₂, ◌∙◌}
use Rattle.sv_num.specs.declared.faults.Place.{Place}
use Rattle.sv_flat.specs.Assigned.{assigns}
use Rattle.sv_flat.specs.Design.{SignalForm, TypedTree, FlatStatement, nothing, after, assign, branch}
use Rattle.sv_paths.specs.Alongs.{WayForm, along, next_arm, on_arm, with_step}
use Rattle.sv_obl.specs.BodySlices.{in_sequence, SameParts}
use Rattle.sv_obl.specs.Paths.{StepForm}
use Rattle.sv_paths.specs.PutIn.{HasWords}
use Rattle.sv_paths.specs.Trails.{TrailForm, trails_before, takes, wanted_signals, chosen}
use Rattle.sv_paths.specs.Trails.{marked_by}
use Rattle.sv_paths.proofs.NameFacts.{any_alike}
use Rattle.sv_obl.proofs.SliceFacts.{or_none, assigns_in_sequence, same_parts_walked}
use Rattle.sv_obl.proofs.SliceFacts.{same_parts_have}

-- a statement and nothing behind it
abbrev alone : FlatStatement → FlatStatement
alone a = in_sequence a nothing

alone_assigns : (a : FlatStatement) (s : ℕ) → assigns (alone a) s ≡ assigns a s
alone_assigns a s = assigns_in_sequence s a nothing ∙ or_none (assigns a s)

branch_assigns : (place : Place) (condition : TypedTree) (a b : FlatStatement) (s : ℕ)
    → assigns (branch place condition (alone a) (alone b)) s
    ≡ assigns (branch place condition a b) s
branch_assigns place condition a b s = ap₂ (λ m n. m || n) (alone_assigns a s) (alone_assigns b s)

-- ---- bits of a word

pub same_words : (a b : FlatStatement) → SameParts a b → HasWords b → HasWords a
same_words =
    same_parts_have HasWords tt (λ a b one two. (one, two)) (λ a b has. (has.0, has.1))
    (λ place condition a b first second has. (first has.0, second has.1))
    (λ place condition a b first second has. (first has.0, second has.1))

-- ---- trails

module _ (signals : List SignalForm) (s : ℕ) where
  abbrev trails : FlatStatement → TrailForm → List TrailForm
  trails = trails_before signals s

  same_arms : (place : Place) (condition : TypedTree) (a b c d : FlatStatement)
      → ((t : ℕ) → assigns (branch place condition a b) t ≡ assigns (branch place condition c d) t)
      → ((t : TrailForm) → trails a t ≡ trails c t) → ((t : TrailForm) → trails b t ≡ trails d t)
      → (t : TrailForm)
      → trails (branch place condition a b) t ≡ trails (branch place condition c d) t
  same_arms place condition a b c d assigned first second trail =
      let one = marked_by (length signals) (record { truth = true; place = place }) condition in
      let two = marked_by (length signals) (record { truth = false; place = place }) condition in
      let all = map one (trails a (chosen true trail)) ++ map two (trails b (chosen false trail)) in
      ap (λ t. cond t all (trail ∷ []))
      (any_alike (assigns (branch place condition a b)) (assigns (branch place condition c d))
      assigned (wanted_signals trail))
      ∙ ap₂ (λ ms ns. cond (takes (branch place condition c d) trail) (map one ms ++ map two ns)
      (trail ∷ []))
      (first (chosen true trail)) (second (chosen false trail))

  pub same_trails : (a b : FlatStatement) → SameParts a b → (t : TrailForm)
      → trails_before signals s a t ≡ trails_before signals s b t
  same_trails =
      same_parts_walked trails (λ t. refl) (λ a b t. refl)
      (λ place condition a b one two. same_arms place condition (alone a) (alone b) a b
      (branch_assigns place condition a b) one two)

  -- ---- one path along its trail

  abbrev walk : FlatStatement → WayForm → WayForm
  walk = along signals s

  same_arm : (place : Place) (condition : TypedTree) (a b c d : FlatStatement)
      → ((t : ℕ) → assigns (branch place condition a b) t ≡ assigns (branch place condition c d) t)
      → ((w : WayForm) → walk a w ≡ walk c w) → ((w : WayForm) → walk b w ≡ walk d w)
      → (w : WayForm) → walk (branch place condition a b) w ≡ walk (branch place condition c d) w
  same_arm place condition a b c d assigned first second way =
      let truth = next_arm way.arms in
      let step : StepForm = record { place = place; condition = condition; truth = truth } in
      let one = walk a (on_arm way) in
      let two = walk b (on_arm way) in
      ap (λ t. cond t (with_step (length signals) step (cond truth one two)) way)
      (any_alike (assigns (branch place condition a b)) (assigns (branch place condition c d))
      assigned (wanted_signals way.trail))
      ∙ ap₂ (λ m n. cond (takes (branch place condition c d) way.trail)
      (with_step (length signals) step (cond truth m n)) way)
      (first (on_arm way)) (second (on_arm way))

  walk_in_sequence : (a b : FlatStatement) (w : WayForm)
      → walk (in_sequence a b) w ≡ walk a (walk b w)
  walk_in_sequence nothing b w = refl
  walk_in_sequence (after x y) b w =
      walk_in_sequence x (in_sequence y b) w ∙ ap (walk x) (walk_in_sequence y b w)
  walk_in_sequence (assign pieces place blocking right) b w = refl
  walk_in_sequence (branch place condition x y) b w =
      same_arm place condition (alone x) (alone y) x y (branch_assigns place condition x y)
      (λ u. walk_in_sequence x nothing u) (λ u. walk_in_sequence y nothing u) (walk b w)

  pub same_along : (a b : FlatStatement) → SameParts a b → (w : WayForm)
      → along signals s a w ≡ along signals s b w
  same_along a b same w =
      sym (walk_in_sequence a nothing w)
      ∙ ap (λ (c : FlatStatement). walk c w) same
      ∙ walk_in_sequence b nothing w
