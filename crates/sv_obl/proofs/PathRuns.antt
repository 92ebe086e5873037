-- What a path tells of a run. A path that holds before a statement comes from one that holds after
-- it, and its result has the same value; where a path holds after a statement, exactly one of those
-- that it becomes holds before it.
use Rattle.std.proofs.Common.{◌≡◌, ℕ, ◌+◌, ◌-◌, Bool, true, false, cond, ◌&&◌, ◌==◌, not, nat_lt}
use Rattle.std.proofs.Common.{List, [], ◌∷◌, ◌++◌, length, map, fold, ⊎_elim, refl, sym, ap, ap₂}
use Rattle.std.proofs.Common.{subst, ◌∙◌}
use Rattle.std.specs.Prelude.{Contains, IsTrue}
use Rattle.std.specs.Bool.{beq}
use Rattle.std.specs.List.{list_any, list_all}
use Rattle.std.proofs.lemmas.Bool.{false≢true, eqb-true}
use Rattle.sv_num.specs.declared.faults.Place.{Place}
use Rattle.sv_num.specs.Vectors.{is_true}
use Rattle.sv_num.specs.Parts.{span_of}
use Rattle.sv_system.specs.System.{Environment}
use Rattle.sv_system.proofs.Lists.{Contains-head, Contains-later, Contains-nil, Contains-cases}
use Rattle.sv_system.proofs.Lists.{Contains-map, Contains-from_map}
use Rattle.sv_flat.specs.Design.{SignalForm, TypedTree, typed, choice, mend, slice, PieceForm}
use Rattle.sv_flat.specs.Values.{signal_of, signal_width, value}
use Rattle.sv_flat.specs.Soundness.{is_signal, is_whole, well_formed}
use Rattle.sv_flat.specs.Readings.{ReadForm, BitSet}
use Rattle.sv_flat.proofs.Members.{Contains-left, Contains-right, Contains-either}
use Rattle.sv_flat.proofs.LeastSets.{either_way, from_some}
use Rattle.sv_flat.proofs.Depths.{first_of, second_of}
use Rattle.sv_obl.specs.Exchange.{name, content}
use Rattle.sv_obl.specs.Wanted.{with_copies, is_copy, original, mark, marked_tree, wanted_name}
use Rattle.sv_obl.specs.Wanted.{piece_value, with_piece_put, put_value, pieces_put, put_in}
use Rattle.sv_obl.specs.Paths.{StepForm, Path, step_with, Way, way_under, ways, covers_name}
use Rattle.sv_obl.specs.Paths.{name_itself, ways_taken}
use Rattle.sv_flat.proofs.Members.{only}
use Rattle.sv_obl.proofs.PathLists.{same_truth, truth_same, both_true, cond_true, cond_false}
use Rattle.sv_obl.proofs.PathLists.{from_cond}
use Rattle.sv_obl.proofs.TreeFacts.{held_below, well_held, exchanged_held, Below}

abbrev pub step_of : Place → TypedTree → Bool → StepForm
step_of place condition truth = record { place = place; condition = condition; truth = truth }

abbrev pub whole_way : TypedTree → Way
whole_way right = record { steps = []; right = right }

-- ---- conditions and ways

-- a way of a choice is one of an arm, under the condition
pub way_cases : (P : Way → Type 0) (p : Place) (c a b : TypedTree)
    → ((way : Way) → Contains (ways a) way → P (way_under (step_of p c true) way))
    → ((way : Way) → Contains (ways b) way → P (way_under (step_of p c false) way))
    → (way : Way) → Contains (map (way_under (step_of p c true)) (ways a)
    ++ map (way_under (step_of p c false)) (ways b)) way
    → P way
way_cases P p c a b taken passed way at = ⊎_elim
    (λ l.
    let from = Contains-from_map (way_under (step_of p c true)) (ways a) way l in
    subst P from.2 (taken from.0 from.1))
    (λ r.
    let from = Contains-from_map (way_under (step_of p c false)) (ways b) way r in
    subst P from.2 (passed from.0 from.1))
    (Contains-either (map (way_under (step_of p c true)) (ways a))
    (map (way_under (step_of p c false)) (ways b)) way at)

-- a way that is taken is one of the right side, or the whole of it
pub taken_cases : (signals : List SignalForm) (P : Way → Type 0) (pieces : List PieceForm)
    (right : TypedTree) (p : Path)
    → ((way : Way) → Contains (ways right) way → P way) → P (whole_way right)
    → (way : Way) → Contains (ways_taken signals pieces right p) way → P way
taken_cases signals P pieces right p each all way at = ⊎_elim
    (λ split. each way split.1)
    (λ whole. subst P (only (whole_way right) way whole.1) all)
    (from_cond (covers_name signals pieces (name_itself p.result)) (ways right)
    (whole_way right ∷ []) way at)

-- what holds of a right side and the parts of its choices holds of each of its ways
module _ (Good : TypedTree → Type 0) (Steps : List StepForm → Type 0) (no_steps : Steps [])
    (more : (step : StepForm) (steps : List StepForm) → Good step.condition → Steps steps →
    Steps (step ∷ steps))
    (parts : (w : ℕ) (signed : Bool) (p : Place) (c a b : TypedTree)
    → Good (typed w signed (choice p c a b)) → Good c × Good a × Good b) where
  ways_keep : (right : TypedTree) → Good right → (way : Way) → Contains (ways right) way →
      Steps way.steps × Good way.right
  ways_keep (typed w signed (choice p c a b)) good way at =
      let of = parts w signed p c a b good in
      way_cases (λ (y : Way). Steps y.steps × Good y.right) p c a b
      (λ from is.
      let inner = ways_keep a of.1 from is in
      (more (step_of p c true) from.steps of.0 inner.0, inner.1))
      (λ from is.
      let inner = ways_keep b of.2 from is in
      (more (step_of p c false) from.steps of.0 inner.0, inner.1))
      way at
  ways_keep right good way at =
      subst (λ (y : Way). Steps y.steps × Good y.right) (only (whole_way right) way at)
      (no_steps, good)

  pub taken_keep : (signals : List SignalForm) (pieces : List PieceForm) (right : TypedTree)
      (p : Path) → Good right → (way : Way) → Contains (ways_taken signals pieces right p) way
      → Steps way.steps × Good way.right
  taken_keep signals pieces right p good =
      taken_cases signals (λ (y : Way). Steps y.steps × Good y.right) pieces right p
      (ways_keep right good) (no_steps, good)

-- what holds of both holds of either
pub either_keeps : {X : Type 0} (P : X → Type 0) (c : Bool) (x y : X) → P x → P y → P (cond c x y)
either_keeps P true x y first second = first
either_keeps P false x y first second = second

module _ (A : List SignalForm) (E : Environment ℕ) where
  abbrev pub step_holds : StepForm → Bool
  step_holds step = beq (is_true (value A E step.condition)) step.truth

  abbrev pub steps_hold : List StepForm → Bool
  steps_hold steps = list_all step_holds steps

  -- the way whose conditions hold has the value of the right side
  pub ways_value : (right : TypedTree) (way : Way) → Contains (ways right) way
      → IsTrue (steps_hold way.steps)
      → value A E way.right ≡ value A E right
  ways_value (typed w s (choice p c a b)) way at h =
      let v = is_true (value A E c) in
      way_cases (λ (y : Way). IsTrue (steps_hold y.steps)
      → value A E y.right ≡ value A E (typed w s (choice p c a b))) p c a b
      (λ from is inner.
      ways_value a from is (second_of (beq v true) (steps_hold from.steps) inner)
      ∙ sym (cond_true v (value A E a) (value A E b)
      (same_truth v true (first_of (beq v true) (steps_hold from.steps) inner))))
      (λ from is inner.
      ways_value b from is (second_of (beq v false) (steps_hold from.steps) inner)
      ∙ sym (cond_false v (value A E a) (value A E b)
      (same_truth v false (first_of (beq v false) (steps_hold from.steps) inner))))
      way at h
  ways_value right way at h =
      ap (λ (y : Way). value A E y.right) (sym (only (whole_way right) way at))

  -- a way whose conditions hold, under a condition that holds
  some_under : (step : StepForm) (arm : List Way) → IsTrue (step_holds step)
      → (way : Way) × Contains arm way × IsTrue (steps_hold way.steps)
      → (way : Way) × Contains (map (way_under step) arm) way × IsTrue (steps_hold way.steps)
  some_under step arm holds found = (
    way_under step found.0,
    Contains-map (way_under step) arm found.0 found.1,
    both_true (step_holds step) (steps_hold found.0.steps) holds found.2,
  )

  -- some way has conditions that hold
  pub some_way : (right : TypedTree) → (way : Way) × Contains (ways right) way
      × IsTrue (steps_hold way.steps)
  some_way (typed w s (choice p c a b)) =
      let v = is_true (value A E c) in
      let yes_ways = map (way_under (step_of p c true)) (ways a) in
      let no_ways = map (way_under (step_of p c false)) (ways b) in
      ⊎_elim
      (λ holds.
      let found = some_under (step_of p c true) (ways a) (truth_same v true holds) (some_way a) in
      (found.0, Contains-left yes_ways no_ways found.0 found.1, found.2))
      (λ fails.
      let found = some_under (step_of p c false) (ways b) (truth_same v false fails) (some_way b) in
      (found.0, Contains-right yes_ways no_ways found.0 found.1, found.2))
      (either_way v)
  some_way right = (whole_way right, Contains-head (whole_way right) [], refl)

  pub two_truths : (v : Bool) → IsTrue (beq v true) → IsTrue (beq v false) → ⊥
  two_truths true h k = false≢true k
  two_truths false h k = false≢true h

  -- a way under a condition whose steps hold is a way whose steps hold, and the condition holds
  under_met : (step : StepForm) (arm : List Way) (v : Way) → Contains (map (way_under step) arm) v
      → IsTrue (steps_hold v.steps)
      → (x : Way) × Contains arm x × (way_under step x ≡ v) × IsTrue (step_holds step)
      × IsTrue (steps_hold x.steps)
  under_met step arm v at h =
      let x = Contains-from_map (way_under step) arm v at in
      let holds = subst (λ (k : Way). IsTrue (steps_hold k.steps)) (sym x.2) h in (
        x.0,
        x.1,
        x.2,
        first_of (step_holds step) (steps_hold x.0.steps) holds,
        second_of (step_holds step) (steps_hold x.0.steps) holds,
      )

  -- where of some ways no two have, no two have under a condition
  one_under : (step : StepForm) (arm : List Way) (v w : Way)
      → ((x y : Way) → Contains arm x → IsTrue (steps_hold x.steps) → Contains arm y
      → IsTrue (steps_hold y.steps) → x ≡ y)
      → Contains (map (way_under step) arm) v → IsTrue (steps_hold v.steps)
      → Contains (map (way_under step) arm) w → IsTrue (steps_hold w.steps) → v ≡ w
  one_under step arm v w one v_at v_holds w_at w_holds =
      let x = under_met step arm v v_at v_holds in
      let y = under_met step arm w w_at w_holds in
      sym x.2 ∙ ap (way_under step) (one x.0 y.0 x.1 x.4 y.1 y.4) ∙ y.2

  -- and no two have
  pub one_way : (right : TypedTree) (v w : Way) → Contains (ways right) v
      → IsTrue (steps_hold v.steps) → Contains (ways right) w
      → IsTrue (steps_hold w.steps) → v ≡ w
  one_way (typed width s (choice p c a b)) v w v_at v_holds w_at w_holds =
      let t = is_true (value A E c) in
      let yes_ways = map (way_under (step_of p c true)) (ways a) in
      let no_ways = map (way_under (step_of p c false)) (ways b) in
      let yes = step_of p c true in
      let no = step_of p c false in
      ⊎_elim
      (λ v_left. ⊎_elim
      (λ w_left.
      one_under yes (ways a) v w (λ x y x_at x_holds y_at y_holds.
      one_way a x y x_at x_holds y_at y_holds) v_left v_holds w_left w_holds)
      (λ w_right.
      absurd (two_truths t (under_met yes (ways a) v v_left v_holds).3
      (under_met no (ways b) w w_right w_holds).3))
      (Contains-either yes_ways no_ways w w_at))
      (λ v_right. ⊎_elim
      (λ w_left.
      absurd (two_truths t (under_met yes (ways a) w w_left w_holds).3
      (under_met no (ways b) v v_right v_holds).3))
      (λ w_right.
      one_under no (ways b) v w (λ x y x_at x_holds y_at y_holds.
      one_way b x y x_at x_holds y_at y_holds) v_right v_holds w_right w_holds)
      (Contains-either yes_ways no_ways w w_at))
      (Contains-either yes_ways no_ways v v_at)
  one_way right v w v_at v_holds w_at w_holds =
      sym (only (whole_way right) v v_at) ∙ only (whole_way right) w w_at

-- conditions whose values are the same hold alike
pub steps_alike : (A B : List SignalForm) (E F : Environment ℕ) (f : TypedTree
    → TypedTree) (steps : List StepForm)
    → ((step : StepForm) → Contains steps step
    → value A E (f step.condition) ≡ value B F step.condition)
    → steps_hold A E (map (step_with f) steps) ≡ steps_hold B F steps
steps_alike A B E F f [] same = refl
steps_alike A B E F f (step ∷ steps) same =
    ap₂ (λ x y. beq (is_true x) step.truth && y) (same step (Contains-head step steps))
    (steps_alike A B E F f steps (λ s at. same s (Contains-later step steps s at)))

pub same_steps : (A B : List SignalForm) (E F : Environment ℕ) (steps : List StepForm)
    → ((step : StepForm) → Contains steps step
    → value A E step.condition ≡ value B F step.condition)
    → steps_hold A E steps ≡ steps_hold B F steps
same_steps A B E F [] same = refl
same_steps A B E F (step ∷ steps) same =
    ap₂ (λ x y. beq (is_true x) step.truth && y) (same step (Contains-head step steps))
    (same_steps A B E F steps (λ s at. same s (Contains-later step steps s at)))

module _ (signals : List SignalForm) where
  abbrev n : ℕ
  n = length signals

  abbrev both : List SignalForm
  both = with_copies signals

  -- ---- tidy paths hold values for signals

  abbrev pub Held : TypedTree → Type 0
  Held t = IsTrue (held_below (length signals) t)

  abbrev pub HeldSteps : List StepForm → Type 0
  HeldSteps steps = (step : StepForm) → Contains steps step → Held step.condition

  abbrev pub Tidy : Path → Type 0
  Tidy p = HeldSteps p.steps × Held p.result

  pub held_cons : (step : StepForm) (steps : List StepForm) → Held step.condition →
      HeldSteps steps → HeldSteps (step ∷ steps)
  held_cons step steps here each other at = ⊎_elim
      (λ is. subst (λ (y : StepForm). Held y.condition) is here)
      (λ later. each other later)
      (Contains-cases step steps other at)

  pub held_both : (first second : List StepForm) → HeldSteps first → HeldSteps second →
      HeldSteps (first ++ second)
  held_both first second one two step at =
      ⊎_elim (one step) (two step) (Contains-either first second step at)

  pub held_map : (f : TypedTree → TypedTree) (steps : List StepForm)
      → ((t : TypedTree) → Held t → Held (f t)) → HeldSteps steps
      → HeldSteps (map (step_with f) steps)
  held_map f steps keeps each step at =
      let from = Contains-from_map (step_with f) steps step at in
      subst (λ (y : StepForm).
      Held y.condition) from.2 (keeps (from.0).condition (each from.0 from.1))

  pub marked_held : (in_block : Bool) (follows : BitSet) (t : TypedTree)
      → IsTrue (well_formed signals t)
      → Held (marked_tree signals in_block follows t)
  marked_held in_block follows t well =
      exchanged_held signals (mark signals in_block follows) (length signals) t
      (well_held signals t well) (λ r at. tt)

  held_parts : (w : ℕ) (signed : Bool) (p : Place) (c a b : TypedTree)
      → Held (typed w signed (choice p c a b)) → Held c × Held a × Held b
  held_parts w signed p c a b h =
      let front = first_of (held_below n c && held_below n a) (held_below n b) h in (
        first_of (held_below n c) (held_below n a) front,
        second_of (held_below n c) (held_below n a) front,
        second_of (held_below n c && held_below n a) (held_below n b) h,
      )

  pub taken_held : (pieces : List PieceForm) (right : TypedTree) (p : Path) → Held right
      → (way : Way)
      → Contains (ways_taken signals pieces right p) way → HeldSteps way.steps × Held way.right
  taken_held pieces right p h =
      taken_keep Held HeldSteps (λ step none. absurd (Contains-nil step none)) held_cons held_parts
      signals pieces right p h

  piece_held : (right : TypedTree) (p : PieceForm) → Held right → Held (piece_value right p)
  piece_held right p h =
      either_keeps Held (p.from == 0) right
      (typed (span_of p.high p.low) false (slice right (p.from + p.high - p.low) p.from)) h h

  put_held : (right : TypedTree) (s : ℕ) (pieces : List PieceForm) (old : TypedTree) → Held right
      → IsTrue (nat_lt s n) → Held old
      → Held (fold (with_piece_put signals right s) old pieces)
  put_held right s [] old h inside held_old = held_old
  put_held right s (p ∷ pieces) old h inside held_old =
      put_held right s pieces (with_piece_put signals right s old p) h inside
      (by_test (not (p.signal == s)) (is_whole signals p))
    where
      by_test : (c d : Bool) → IsTrue (held_below n (cond c old (cond d (piece_value right p)
          (typed (signal_width signals s) (signal_of signals s).signed
          (mend s old p.high p.low (piece_value right p))))))
      by_test true d = held_old
      by_test false true = piece_held right p h
      by_test false false =
          both_true (nat_lt s n && held_below n old) (held_below n (piece_value right p))
          (both_true (nat_lt s n) (held_below n old) inside held_old) (piece_held right p h)

  pub put_in_held : (pieces : List PieceForm) (right way : TypedTree)
      → ((p : PieceForm) → Contains pieces p → IsTrue (is_signal signals p.signal))
      → Held way → (t : TypedTree) → Held t → Held (put_in signals pieces way t)
  put_in_held pieces right way known h t held_t =
      exchanged_held both (pieces_put signals pieces way) n t held_t (λ r at. below r)
    where
      below : (r : ReadForm)
          → Below both (pieces_put signals pieces way) n (pieces_put signals pieces way r)
      below r =
          by_test (is_copy signals r.signal && list_any (λ (p : PieceForm).
          p.signal == original signals r.signal) pieces) refl
        where
          by_test : (c : Bool)
              → (is_copy signals r.signal && list_any (λ (p : PieceForm).
              p.signal == original signals r.signal) pieces) ≡ c
              → Below both (pieces_put signals pieces way) n
              (cond c (content (original signals r.signal)
              (put_value signals pieces way (original signals r.signal) r.place)) (name r.signal))
          by_test true e =
              let s = original signals r.signal in
              let found = from_some (λ (p : PieceForm). p.signal == s) pieces
              (second_of (is_copy signals r.signal)
              (list_any (λ (p : PieceForm). p.signal == s) pieces) e) in
              let inside = subst (λ k.
              IsTrue (is_signal signals k)) (eqb-true (found.0).signal s found.2)
              (known found.0 found.1) in
              (inside, put_held way s pieces (wanted_name signals s r.place) h inside refl)
          by_test false e = tt
