-- Paths against runs, statement by statement.
use Rattle.std.proofs.Common.{◌≡◌, ℕ, ◌-◌, Bool, true, false, ◌&&◌, ◌||◌, ◌==◌, ltb-true, List, []}
use Rattle.std.proofs.Common.{◌∷◌, ◌++◌, length, map, ⊎_elim, refl, sym, ap, ap₂, subst, ◌∙◌}
use Rattle.std.specs.Prelude.{Contains, IsTrue, IsFalse}
use Rattle.std.specs.Bool.{beq}
use Rattle.std.specs.List.{list_any, list_all, range_with_len}
use Rattle.std.proofs.lemmas.Bool.{false≢true, or_left, or_right, eq-eqb}
use Rattle.sv_num.specs.declared.faults.Place.{Place}
use Rattle.sv_num.specs.Vectors.{is_true}
use Rattle.sv_system.specs.System.{Environment}
use Rattle.sv_system.proofs.Lists.{Contains-head, Contains-map, Contains-from_map}
use Rattle.sv_flat.specs.Design.{SignalForm, TypedTree, PieceForm, FlatStatement, nothing, after}
use Rattle.sv_flat.specs.Design.{assign, branch}
use Rattle.sv_flat.specs.Values.{signal_width, expression_width, value}
use Rattle.sv_flat.specs.Runs.{run}
use Rattle.sv_flat.specs.Soundness.{is_signal, is_part_of, piece_fits, well_formed, statement_sound}
use Rattle.sv_flat.specs.Assigned.{assigns, can_assign}
use Rattle.sv_flat.specs.Readings.{ReadForm, reads, names_signal, BitSet, either}
use Rattle.sv_flat.proofs.Members.{Contains-left, Contains-right, Contains-either}
use Rattle.sv_flat.proofs.LeastSets.{either_way, range_has, some_from}
use Rattle.sv_flat.proofs.Depths.{first_of, second_of, from_all}
use Rattle.sv_flat.proofs.AdmittedFacts.{assigned_is_signal}
use Rattle.sv_obl.specs.Wanted.{with_copies, copy_of, is_copy, original, marked_tree, marked}
use Rattle.sv_obl.specs.Wanted.{put_in}
use Rattle.sv_obl.specs.Paths.{StepForm, Path, under, step_with, Way, ways, covers_name}
use Rattle.sv_obl.specs.Paths.{name_itself, ways_taken, with_way, path_names, is_taken, before}
use Rattle.sv_flat.proofs.Members.{only}
use Rattle.sv_obl.proofs.PathLists.{same_truth, truth_same, both_true, cond_true, cond_false}
use Rattle.sv_obl.proofs.PathLists.{from_cond, in_first, in_second, all_left, all_right, all_joined}
use Rattle.sv_obl.proofs.PathLists.{in_flat_map, from_flat_map}
use Rattle.sv_obl.proofs.PutFacts.{State, all_are, running, running_leaves, beside, put_same}
use Rattle.sv_obl.proofs.PutFacts.{copy_is}
use Rattle.sv_obl.proofs.TreeFacts.{same_names}
use Rattle.sv_obl.proofs.PathRuns.{step_of, whole_way, step_holds, steps_hold, ways_value, some_way}
use Rattle.sv_obl.proofs.PathRuns.{taken_cases}
use Rattle.sv_obl.proofs.PathRuns.{one_way, two_truths, steps_alike, same_steps, Tidy, held_cons}
use Rattle.sv_obl.proofs.PathRuns.{held_both, held_map, marked_held, taken_held, put_in_held}

-- marking leaves what is assigned
pub marked_assigns :
    (signals : List SignalForm) (in_block : Bool) (body : FlatStatement) (later : BitSet) (s : ℕ)
    → assigns (marked signals in_block body later) s ≡ assigns body s
marked_assigns signals in_block nothing later s = refl
marked_assigns signals in_block (after first second) later s =
    ap₂ (λ x y. x || y) (marked_assigns signals in_block first (either (can_assign second) later) s)
    (marked_assigns signals in_block second later s)
marked_assigns signals in_block (assign pieces place blocking right) later s = refl
marked_assigns signals in_block (branch place condition first second) later s =
    ap₂ (λ x y. x || y) (marked_assigns signals in_block first later s)
    (marked_assigns signals in_block second later s)

module _ (signals : List SignalForm) (in_block b : Bool) (target : ℕ) (z : Environment ℕ) where
  abbrev both : List SignalForm
  both = with_copies signals

  -- the settled values, and beside them those that a run goes on with
  abbrev pub here : State → Environment ℕ
  here now = beside signals z (running b now)

  abbrev follow : FlatStatement → BitSet → BitSet
  follow whole later = either (can_assign whole) later

  abbrev before_marked : FlatStatement → BitSet → Path → List Path
  before_marked body later p = before signals target (marked signals in_block body later) p

  abbrev pub Holds : State → Path → Type 0
  Holds now p = IsTrue (steps_hold both (here now) p.steps)

  -- what the run reads on its way has the value of the expression in which earlier reads are wanted
  abbrev pub Follows : FlatStatement → BitSet → State → Type 0
  Follows nothing later now = Unit {0}
  Follows (after first second) later now =
      Follows first (either (can_assign second) later) now
      × Follows second later (run signals first now)
  Follows (assign pieces place blocking right) later now =
      value signals now.0 right ≡
      value both (here now)
      (marked_tree signals in_block (follow (assign pieces place blocking right) later) right)
  Follows (branch place condition first second) later now =
      (value signals now.0 condition
      ≡ value both (here now)
      (marked_tree signals in_block (follow (branch place condition first second) later)
      condition))
      × (IsTrue (is_true (value signals now.0 condition)) → Follows first later now)
      × (IsFalse (is_true (value signals now.0 condition)) → Follows second later now)

  known_pieces : (pieces : List PieceForm) (right : TypedTree)
      → IsTrue (list_all (piece_fits signals right) pieces) → (p : PieceForm)
      → Contains pieces p → IsTrue (is_signal signals p.signal)
  known_pieces pieces right fit p at = first_of (is_signal signals p.signal)
      (is_part_of (signal_width signals p.signal) (expression_width right - p.from) p.high p.low)
      (from_all (piece_fits signals right) pieces p fit at)

  -- ---- paths stay tidy

  pub stays_tidy : (body : FlatStatement) (later : BitSet) (p q : Path)
      → IsTrue (statement_sound signals body) → Tidy signals p
      → Contains (before_marked body later p) q → Tidy signals q
  stays_tidy nothing later p q sound tidy at = subst (Tidy signals) (only p q at) tidy
  stays_tidy (after first second) later p q sound tidy at =
      let found = from_flat_map (before_marked first (either (can_assign second) later))
      (before_marked second later p) q at in
      stays_tidy first (either (can_assign second) later) found.0 q
      (first_of (statement_sound signals first) (statement_sound signals second) sound)
      (stays_tidy second later p found.0
      (second_of (statement_sound signals first) (statement_sound signals second) sound) tidy
      found.1)
      found.2
  stays_tidy (assign pieces place blocking right) later p q sound tidy at =
      let whole = assign pieces place blocking right in
      let tree = marked_tree signals in_block (follow whole later) right in
      ⊎_elim
      (λ taken.
      let from = Contains-from_map (with_way signals target pieces tree p)
      (ways_taken signals pieces tree p) q taken.1 in
      let way = from.0 in
      let held_tree = marked_held signals in_block (follow whole later) right
      (first_of (well_formed signals right) (list_all (piece_fits signals right) pieces) sound) in
      let held = taken_held signals pieces tree p held_tree way from.1 in
      let known = known_pieces pieces right
      (second_of (well_formed signals right) (list_all (piece_fits signals right) pieces)
      sound) in
      subst (Tidy signals) from.2 (
        held_both signals way.steps (map (step_with (put_in signals pieces tree)) p.steps) held.0
            (held_map signals (put_in signals pieces tree) p.steps
            (put_in_held signals pieces right tree known held_tree) tidy.0),
        put_in_held signals pieces right way.right known held.1 p.result tidy.1,
      ))
      (λ kept. subst (Tidy signals) (only p q kept.1) tidy)
      (from_cond (is_taken signals (marked signals in_block whole later) p)
      (map (with_way signals target pieces tree p) (ways_taken signals pieces tree p))
      (p ∷ []) q at)
  stays_tidy (branch place condition first second) later p q sound tidy at =
      let whole = branch place condition first second in
      let tree = marked_tree signals in_block (follow whole later) condition in
      let front = first_of (well_formed signals condition && statement_sound signals first)
      (statement_sound signals second) sound in
      let held = marked_held signals in_block (follow whole later) condition
      (first_of (well_formed signals condition) (statement_sound signals first) front) in
      let in_yes = map (under (step_of place tree true)) (before_marked first later p) in
      let in_no = map (under (step_of place tree false)) (before_marked second later p) in
      ⊎_elim
      (λ taken. ⊎_elim
      (λ l.
      let from = Contains-from_map (under (step_of place tree true))
      (before_marked first later p) q l in
      let inner = stays_tidy first later p from.0
      (second_of (well_formed signals condition) (statement_sound signals first) front) tidy
      from.1 in
      subst (Tidy signals) from.2
      (held_cons signals (step_of place tree true) from.0.steps held inner.0, inner.1))
      (λ r.
      let from = Contains-from_map (under (step_of place tree false))
      (before_marked second later p) q r in
      let inner = stays_tidy second later p from.0
      (second_of (well_formed signals condition && statement_sound signals first)
      (statement_sound signals second) sound) tidy from.1 in
      subst (Tidy signals) from.2
      (held_cons signals (step_of place tree false) from.0.steps held inner.0, inner.1))
      (Contains-either in_yes in_no q taken.1))
      (λ kept. subst (Tidy signals) (only p q kept.1) tidy)
      (from_cond (is_taken signals (marked signals in_block whole later) p) (in_yes ++ in_no)
      (p ∷ []) q at)

  -- ---- a statement that is passed over

  module _ (body : FlatStatement) (later : BitSet) (p : Path) (now : State)
      (kind : IsTrue (all_are b body))
      (sound : IsTrue (statement_sound signals body)) (tidy : Tidy signals p)
      (passed : IsFalse (is_taken signals (marked signals in_block body later) p)) where
    abbrev last : State
    last = run signals body now

    wanted_stays : (s : ℕ) → IsTrue (path_names both p (copy_of signals s)) →
        running b now s ≡ running b last s
    wanted_stays s named = ⊎_elim
        (λ assigned. absurd (false≢true (sym passed
        ∙ some_from (λ k. assigns (marked signals in_block body later) k
        && path_names both p (copy_of signals k))
        (range_with_len 0 (length signals)) s
        (range_has (length signals) s
        (ltb-true s (length signals) (assigned_is_signal signals body sound s assigned)))
        (both_true (assigns (marked signals in_block body later) s)
        (path_names both p (copy_of signals s))
        (marked_assigns signals in_block body later s ∙ assigned) named))))
        (λ unassigned. sym (running_leaves signals b body s kind unassigned now))
        (either_way (assigns body s))

    name_stays : (t : ℕ) → IsTrue (path_names both p t) → here now t ≡ here last t
    name_stays t named = ⊎_elim
        (λ copy.
        cond_true (is_copy signals t) (running b now (original signals t)) (z t) copy
        ∙ wanted_stays (original signals t)
        (subst (λ k. IsTrue (path_names both p k)) (sym (copy_is signals t copy)) named)
        ∙ sym (cond_true (is_copy signals t) (running b last (original signals t)) (z t) copy))
        (λ settled.
        cond_false (is_copy signals t) (running b now (original signals t)) (z t) settled
        ∙ sym (cond_false (is_copy signals t) (running b last (original signals t)) (z t) settled))
        (either_way (is_copy signals t))

    abbrev in_steps : ℕ → Bool
    in_steps t = list_any (λ (step : StepForm). names_signal both step.condition t) p.steps

    named_in : (t : TypedTree) (r : ReadForm) → Contains (reads both t) r →
        IsTrue (names_signal both t r.signal)
    named_in t r at =
        some_from (λ (x : ReadForm).
        x.signal == r.signal) (reads both t) r at (eq-eqb r.signal r.signal refl)

    pub steps_stay : steps_hold both (here now) p.steps ≡ steps_hold both (here last) p.steps
    steps_stay = same_steps both both (here now) (here last) p.steps (λ step at.
        same_names both (length signals) (here now) (here last) step.condition (tidy.0 step at)
        (λ r r_at.
        name_stays r.signal (or_left (in_steps r.signal) (names_signal both p.result r.signal)
        (some_from (λ (x : StepForm). names_signal both x.condition r.signal) p.steps step at
        (named_in step.condition r r_at)))))

    pub result_stays : value both (here now) p.result ≡ value both (here last) p.result
    result_stays =
        same_names both (length signals) (here now) (here last) p.result tidy.1 (λ r r_at.
        name_stays r.signal (or_right (in_steps r.signal) (names_signal both p.result r.signal)
        (named_in p.result r r_at)))

  -- ---- an assignment that is taken

  taken_value : (pieces : List PieceForm) (right : TypedTree) (p : Path) (now : State) (way : Way)
      → Contains (ways_taken signals pieces right p) way
      → IsTrue (steps_hold both (here now) way.steps)
      → value both (here now) way.right ≡ value both (here now) right
  taken_value pieces right p now =
      taken_cases signals (λ (y : Way). IsTrue (steps_hold both (here now) y.steps)
      → value both (here now) y.right ≡ value both (here now) right) pieces right p
      (ways_value both (here now) right) (λ h. refl)

  some_taken : (pieces : List PieceForm) (right : TypedTree) (p : Path) (now : State)
      → (way : Way) × Contains (ways_taken signals pieces right p) way
      × IsTrue (steps_hold both (here now) way.steps)
  some_taken pieces right p now =
      let split = covers_name signals pieces (name_itself p.result) in
      let one = whole_way right ∷ [] in
      ⊎_elim
      (λ yes_split.
      let found = some_way both (here now) right in
      (found.0, in_first split (ways right) one found.0 yes_split found.1, found.2))
      (λ no_split. (
        whole_way right,
        in_second split (ways right) one (whole_way right) no_split
            (Contains-head (whole_way right) []),
        refl,
      ))
      (either_way split)

  one_taken : (pieces : List PieceForm) (right : TypedTree) (p : Path) (now : State) (v w : Way)
      → Contains (ways_taken signals pieces right p) v → IsTrue (steps_hold both (here now) v.steps)
      → Contains (ways_taken signals pieces right p) w
      → IsTrue (steps_hold both (here now) w.steps) → v ≡ w
  one_taken pieces right p now v w v_at v_holds w_at w_holds =
      let split = covers_name signals pieces (name_itself p.result) in
      let one = whole_way right ∷ [] in
      ⊎_elim
      (λ v_split. ⊎_elim
      (λ w_split. one_way both (here now) right v w v_split.1 v_holds w_split.1 w_holds)
      (λ w_whole. absurd (false≢true (sym w_whole.0 ∙ v_split.0)))
      (from_cond split (ways right) one w w_at))
      (λ v_whole. ⊎_elim
      (λ w_split. absurd (false≢true (sym v_whole.0 ∙ w_split.0)))
      (λ w_whole. sym (only (whole_way right) v v_whole.1) ∙ only (whole_way right) w w_whole.1)
      (from_cond split (ways right) one w w_at))
      (from_cond split (ways right) one v v_at)

  -- a way put in: the conditions hold, and the result has its value, as after the assignment
  module _ (pieces : List PieceForm) (place : Place) (blocking : Bool) (right : TypedTree)
      (later : BitSet) (p : Path) (now : State)
      (kind : IsTrue (all_are b (assign pieces place blocking right)))
      (sound : IsTrue (statement_sound signals (assign pieces place blocking right)))
      (follows : Follows (assign pieces place blocking right) later now) (tidy : Tidy signals p)
      (way : Way)
      (at : Contains (ways_taken signals pieces
      (marked_tree signals in_block (follow (assign pieces place blocking right) later)
      right) p) way)
      (holds : IsTrue (steps_hold both (here now) way.steps)) where
    abbrev whole_tree : TypedTree
    whole_tree =
        marked_tree signals in_block (follow (assign pieces place blocking right) later) right

    abbrev ended : State
    ended = run signals (assign pieces place blocking right) now

    gives : value both (here now) way.right ≡ value signals now.0 right
    gives =
        taken_value pieces (marked_tree signals in_block
        (follow (assign pieces place blocking right) later) right) p now way at holds ∙ sym follows

    put_steps : steps_hold both (here now)
        (map (step_with (put_in signals pieces whole_tree)) p.steps) ≡
        steps_hold both (here ended) p.steps
    put_steps =
        steps_alike both both (here now) (here ended) (put_in signals pieces whole_tree) p.steps
        (λ step step_at.
        put_same signals b pieces place blocking right now z kind sound whole_tree (sym follows)
        step.condition (tidy.0 step step_at))

    put_result : value both (here now) (put_in signals pieces way.right p.result) ≡
        value both (here ended) p.result
    put_result =
        put_same signals b pieces place blocking right now z kind sound way.right gives
        p.result tidy.1

  -- ---- statements

  abbrev Tells : FlatStatement → State → Path → Path → Type 0
  Tells body now p q =
      Holds (run signals body now) p
      × (value both (here now) q.result ≡ value both (here (run signals body now)) p.result)

  -- a path behind the condition of an arm, where the arm runs and its paths tell so of it
  arm_tells : (whole arm : FlatStatement) (later : BitSet) (place : Place) (tree : TypedTree)
      (truth : Bool) (p q : Path) (now : State)
      → (IsTrue (beq (is_true (value both (here now) tree)) truth)
      → (run signals arm now ≡ run signals whole now)
      × ((m : Path) → Contains (before_marked arm later p) m → Holds now m → Tells arm now p m))
      → Contains (map (under (step_of place tree truth)) (before_marked arm later p)) q
      → Holds now q → Tells whole now p q
  arm_tells whole arm later place tree truth p q now taken at h =
      let step = step_of place tree truth in
      let from = Contains-from_map (under step) (before_marked arm later p) q at in
      let m = from.0 in
      let inner = subst (Holds now) (sym from.2) h in
      let v = is_true (value both (here now) tree) in
      let rest = steps_hold both (here now) m.steps in
      let told = taken (first_of (beq v truth) rest inner) in
      subst (Tells whole now p) from.2
      (subst (λ (x : State).
      Holds x p × (value both (here now) m.result ≡ value both (here x) p.result)) told.0
      (told.1 m from.1 (second_of (beq v truth) rest inner)))

  -- a path that holds before a statement comes from one that holds after it, with the same value
  pub path_tells : (body : FlatStatement) (later : BitSet) (p q : Path) (now : State)
      → IsTrue (all_are b body)
      → IsTrue (statement_sound signals body) → Follows body later now → Tidy signals p
      → Contains (before_marked body later p) q
      → Holds now q → Holds (run signals body now) p
      × (value both (here now) q.result ≡ value both (here (run signals body now)) p.result)
  path_tells nothing later p q now kind sound follows tidy at h =
      subst (λ (y : Path).
      Holds now y → Holds now p
      × (value both (here now) y.result ≡ value both (here now) p.result)) (only p q at)
      (λ same. (same, refl)) h
  path_tells (after first second) later p q now kind sound follows tidy at h =
      let middle = either (can_assign second) later in
      let found = from_flat_map (before_marked first middle) (before_marked second later p) q at in
      let m = found.0 in
      let sound1 = first_of (statement_sound signals first) (statement_sound signals second)
      sound in
      let sound2 = second_of (statement_sound signals first) (statement_sound signals second)
      sound in
      let one = path_tells first middle m q now (first_of (all_are b first) (all_are b second) kind)
      sound1 follows.0
      (stays_tidy second later p m sound2 tidy found.1) found.2 h in
      let two = path_tells second later p m (run signals first now)
      (second_of (all_are b first) (all_are b second) kind) sound2 follows.1 tidy
      found.1 one.0 in
      (two.0, one.1 ∙ two.1)
  path_tells (assign pieces place blocking right) later p q now kind sound follows tidy at h =
      let whole = assign pieces place blocking right in
      let tree = marked_tree signals in_block (follow whole later) right in
      ⊎_elim
      (λ taken.
      let from = Contains-from_map (with_way signals target pieces tree p)
      (ways_taken signals pieces tree p) q taken.1 in
      let way = from.0 in
      let puts = map (step_with (put_in signals pieces tree)) p.steps in
      let inner = subst (Holds now) (sym from.2) h in
      let way_holds = all_left (step_holds both (here now)) way.steps puts inner in
      subst (Tells whole now p) from.2 (
        sym (put_steps pieces place blocking right later p now kind sound follows tidy way from.1
            way_holds)
            ∙ all_right (step_holds both (here now)) way.steps puts inner,
        put_result pieces place blocking right later p now kind sound follows tidy way from.1
            way_holds,
      ))
      (λ kept.
      let same = only p q kept.1 in
      subst (Tells whole now p) same (
        sym (steps_stay whole later p now kind sound tidy kept.0) ∙ subst (Holds now) (sym same) h,
        result_stays whole later p now kind sound tidy kept.0,
      ))
      (from_cond (is_taken signals (marked signals in_block whole later) p)
      (map (with_way signals target pieces tree p) (ways_taken signals pieces tree p))
      (p ∷ []) q at)
  path_tells (branch place condition first second) later p q now kind sound follows tidy at h =
      let whole = branch place condition first second in
      let tree = marked_tree signals in_block (follow whole later) condition in
      let front = first_of (well_formed signals condition && statement_sound signals first)
      (statement_sound signals second) sound in
      let v = is_true (value both (here now) tree) in
      let c = is_true (value signals now.0 condition) in
      let same = ap is_true follows.0 in
      let in_yes = map (under (step_of place tree true)) (before_marked first later p) in
      let in_no = map (under (step_of place tree false)) (before_marked second later p) in
      ⊎_elim
      (λ taken. ⊎_elim
      (λ l. arm_tells whole first later place tree true p q now (λ holds.
      let is = same ∙ same_truth v true holds in (
        sym (cond_true c (run signals first now) (run signals second now) is),
        λ m m_at m_holds. path_tells first later p m now
            (first_of (all_are b first) (all_are b second) kind)
            (second_of (well_formed signals condition) (statement_sound signals first) front)
            (follows.1 is) tidy m_at m_holds,
      )) l h)
      (λ r. arm_tells whole second later place tree false p q now (λ holds.
      let is = same ∙ same_truth v false holds in (
        sym (cond_false c (run signals first now) (run signals second now) is),
        λ m m_at m_holds. path_tells second later p m now
            (second_of (all_are b first) (all_are b second) kind)
            (second_of (well_formed signals condition && statement_sound signals first)
            (statement_sound signals second) sound)
            (follows.2 is) tidy m_at m_holds,
      )) r h)
      (Contains-either in_yes in_no q taken.1))
      (λ kept.
      let is = only p q kept.1 in
      subst (Tells whole now p) is (
        sym (steps_stay whole later p now kind sound tidy kept.0) ∙ subst (Holds now) (sym is) h,
        result_stays whole later p now kind sound tidy kept.0,
      ))
      (from_cond (is_taken signals (marked signals in_block whole later) p) (in_yes ++ in_no)
      (p ∷ []) q at)

  -- where a path holds after a statement, one of those that it becomes holds before it
  pub some_path : (body : FlatStatement) (later : BitSet) (p : Path) (now : State)
      → IsTrue (all_are b body)
      → IsTrue (statement_sound signals body) → Follows body later now → Tidy signals p
      → Holds (run signals body now) p
      → (q : Path) × Contains (before_marked body later p) q × Holds now q
  some_path nothing later p now kind sound follows tidy h = (p, Contains-head p [], h)
  some_path (after first second) later p now kind sound follows tidy h =
      let middle = either (can_assign second) later in
      let sound1 = first_of (statement_sound signals first) (statement_sound signals second)
      sound in
      let sound2 = second_of (statement_sound signals first) (statement_sound signals second)
      sound in
      let mid = some_path second later p (run signals first now)
      (second_of (all_are b first) (all_are b second) kind) sound2 follows.1 tidy h in
      let found = some_path first middle mid.0 now
      (first_of (all_are b first) (all_are b second) kind) sound1 follows.0
      (stays_tidy second later p mid.0 sound2 tidy mid.1) mid.2 in (
        found.0,
        in_flat_map (before_marked first middle) (before_marked second later p) mid.0
            found.0 mid.1 found.1,
        found.2,
      )
  some_path (assign pieces place blocking right) later p now kind sound follows tidy h =
      let whole = assign pieces place blocking right in
      let tree = marked_tree signals in_block (follow whole later) right in
      let taken = is_taken signals (marked signals in_block whole later) p in
      let all = map (with_way signals target pieces tree p) (ways_taken signals pieces tree p) in
      ⊎_elim
      (λ is.
      let found = some_taken pieces tree p now in
      let way = found.0 in
      let q = with_way signals target pieces tree p way in (
        q,
        in_first taken all (p ∷ []) q is
            (Contains-map (with_way signals target pieces tree p) (ways_taken signals pieces tree p)
            way found.1),
        all_joined (step_holds both (here now)) way.steps
            (map (step_with (put_in signals pieces tree)) p.steps) found.2
            (put_steps pieces place blocking right later p now kind sound follows tidy way found.1
            found.2 ∙ h),
      ))
      (λ passed. (
        p,
        in_second taken all (p ∷ []) p passed (Contains-head p []),
        steps_stay whole
            later p now kind sound tidy passed ∙ h,
      ))
      (either_way taken)
  some_path (branch place condition first second) later p now kind sound follows tidy h =
      let whole = branch place condition first second in
      let tree = marked_tree signals in_block (follow whole later) condition in
      let front = first_of (well_formed signals condition && statement_sound signals first)
      (statement_sound signals second) sound in
      let taken = is_taken signals (marked signals in_block whole later) p in
      let v = is_true (value both (here now) tree) in
      let c = is_true (value signals now.0 condition) in
      let same = ap is_true follows.0 in
      let in_yes = map (under (step_of place tree true)) (before_marked first later p) in
      let in_no = map (under (step_of place tree false)) (before_marked second later p) in
      ⊎_elim
      (λ is. ⊎_elim
      (λ holds.
      let found = some_path first later p now (first_of (all_are b first) (all_are b second) kind)
      (second_of (well_formed signals condition) (statement_sound signals first) front)
      (follows.1 holds) tidy
      (subst (λ (x : State).
      Holds x p) (cond_true c (run signals first now) (run signals second now) holds) h) in
      let q = under (step_of place tree true) found.0 in (
        q,
        in_first taken (in_yes ++ in_no) (p ∷ []) q is (Contains-left in_yes in_no q
            (Contains-map (under (step_of place tree true)) (before_marked first later p) found.0
            found.1)),
        both_true (beq v true) (steps_hold both (here now) found.0.steps)
            (truth_same v true (sym same ∙ holds)) found.2,
      ))
      (λ fails.
      let found = some_path second later p now (second_of (all_are b first) (all_are b second) kind)
      (second_of (well_formed signals condition && statement_sound signals first)
      (statement_sound signals second) sound) (follows.2 fails) tidy
      (subst (λ (x : State).
      Holds x p) (cond_false c (run signals first now) (run signals second now) fails) h) in
      let q = under (step_of place tree false) found.0 in (
        q,
        in_first taken (in_yes ++ in_no) (p ∷ []) q is (Contains-right in_yes in_no q
            (Contains-map (under (step_of place tree false)) (before_marked second later p) found.0
            found.1)),
        both_true (beq v false) (steps_hold both (here now) found.0.steps)
            (truth_same v false (sym same ∙ fails)) found.2,
      ))
      (either_way c))
      (λ passed. (
        p,
        in_second taken (in_yes ++ in_no) (p ∷ []) p passed (Contains-head p []),
        steps_stay
            whole later p now kind sound tidy passed ∙ h,
      ))
      (either_way taken)

  -- and no two of them do
  pub one_path : (body : FlatStatement) (later : BitSet) (p q r : Path) (now : State)
      → IsTrue (all_are b body)
      → IsTrue (statement_sound signals body) → Follows body later now → Tidy signals p
      → Contains (before_marked body later p) q → Holds now q
      → Contains (before_marked body later p) r → Holds now r → q ≡ r
  one_path nothing later p q r now kind sound follows tidy q_at q_holds r_at r_holds =
      sym (only p q q_at) ∙ only p r r_at
  one_path (after first second) later p q r now kind sound follows tidy q_at q_holds r_at r_holds =
      let middle = either (can_assign second) later in
      let kind1 = first_of (all_are b first) (all_are b second) kind in
      let sound1 = first_of (statement_sound signals first) (statement_sound signals second)
      sound in
      let sound2 = second_of (statement_sound signals first) (statement_sound signals second)
      sound in
      let x = from_flat_map (before_marked first middle) (before_marked second later p) q q_at in
      let y = from_flat_map (before_marked first middle) (before_marked second later p) r r_at in
      let x_tidy = stays_tidy second later p x.0 sound2 tidy x.1 in
      let y_tidy = stays_tidy second later p y.0 sound2 tidy y.1 in
      let same = one_path second later p x.0 y.0 (run signals first now)
      (second_of (all_are b first) (all_are b second) kind) sound2 follows.1 tidy
      x.1 (path_tells first middle x.0 q now kind1 sound1 follows.0 x_tidy x.2 q_holds).0
      y.1 (path_tells first middle y.0 r now kind1 sound1 follows.0 y_tidy y.2 r_holds).0 in
      one_path first middle x.0 q r now kind1 sound1 follows.0 x_tidy x.2 q_holds
      (subst (λ (m : Path). Contains (before_marked first middle m) r) (sym same) y.2) r_holds
  one_path (assign pieces place blocking right) later p q r now kind sound follows tidy q_at q_holds
      r_at r_holds =
      let whole = assign pieces place blocking right in
      let tree = marked_tree signals in_block (follow whole later) right in
      let taken = is_taken signals (marked signals in_block whole later) p in
      let all = map (with_way signals target pieces tree p) (ways_taken signals pieces tree p) in
      let inner =
      λ (w : Way) (y : Path) (is : with_way signals target pieces tree p w ≡ y) (h : Holds now y).
      all_left (step_holds both (here now)) w.steps
      (map (step_with (put_in signals pieces tree)) p.steps) (subst (Holds now) (sym is) h) in
      ⊎_elim
      (λ q_taken. ⊎_elim
      (λ r_taken.
      let v = Contains-from_map (with_way signals target pieces tree p)
      (ways_taken signals pieces tree p) q q_taken.1 in
      let w = Contains-from_map (with_way signals target pieces tree p)
      (ways_taken signals pieces tree p) r r_taken.1 in
      sym v.2
      ∙ ap (with_way signals target pieces tree p)
      (one_taken pieces tree p now v.0 w.0 v.1 (inner v.0 q v.2 q_holds) w.1
      (inner w.0 r w.2 r_holds))
      ∙ w.2)
      (λ r_kept. absurd (false≢true (sym r_kept.0 ∙ q_taken.0)))
      (from_cond taken all (p ∷ []) r r_at))
      (λ q_kept. ⊎_elim
      (λ r_taken. absurd (false≢true (sym q_kept.0 ∙ r_taken.0)))
      (λ r_kept. sym (only p q q_kept.1) ∙ only p r r_kept.1)
      (from_cond taken all (p ∷ []) r r_at))
      (from_cond taken all (p ∷ []) q q_at)
  one_path (branch place condition first second) later p q r now kind sound follows tidy q_at
      q_holds r_at r_holds =
      let whole = branch place condition first second in
      let tree = marked_tree signals in_block (follow whole later) condition in
      let front = first_of (well_formed signals condition && statement_sound signals first)
      (statement_sound signals second) sound in
      let taken = is_taken signals (marked signals in_block whole later) p in
      let t = is_true (value both (here now) tree) in
      let same = ap is_true follows.0 in
      let yes_step = step_of place tree true in
      let no_step = step_of place tree false in
      let in_yes = map (under yes_step) (before_marked first later p) in
      let in_no = map (under no_step) (before_marked second later p) in
      let inner = λ (x y : Path) (is : x ≡ y) (h : Holds now y). subst (Holds now) (sym is) h in
      let both_arms = λ (q_in : Contains (in_yes ++ in_no) q) (r_in : Contains (in_yes ++ in_no) r).
      ⊎_elim
      (λ q_left.
      let x = Contains-from_map (under yes_step) (before_marked first later p) q q_left in
      let x_holds = inner (under yes_step x.0) q x.2 q_holds in
      let is = same ∙ same_truth t true
      (first_of (beq t true) (steps_hold both (here now) x.0.steps) x_holds) in
      ⊎_elim
      (λ r_left.
      let y = Contains-from_map (under yes_step) (before_marked first later p) r r_left in
      let y_holds = inner (under yes_step y.0) r y.2 r_holds in
      sym x.2
      ∙ ap (under yes_step)
      (one_path first later p x.0 y.0 now (first_of (all_are b first) (all_are b second) kind)
      (second_of (well_formed signals condition) (statement_sound signals first) front)
      (follows.1 is) tidy
      x.1 (second_of (beq t true) (steps_hold both (here now) x.0.steps) x_holds) y.1
      (second_of (beq t true) (steps_hold both (here now) y.0.steps) y_holds))
      ∙ y.2)
      (λ r_right.
      let y = Contains-from_map (under no_step) (before_marked second later p) r r_right in
      let y_holds = inner (under no_step y.0) r y.2 r_holds in
      absurd (two_truths both (here now) t
      (first_of (beq t true) (steps_hold both (here now) x.0.steps) x_holds)
      (first_of (beq t false) (steps_hold both (here now) y.0.steps) y_holds)))
      (Contains-either in_yes in_no r r_in))
      (λ q_right.
      let x = Contains-from_map (under no_step) (before_marked second later p) q q_right in
      let x_holds = inner (under no_step x.0) q x.2 q_holds in
      let is = same ∙ same_truth t false
      (first_of (beq t false) (steps_hold both (here now) x.0.steps) x_holds) in
      ⊎_elim
      (λ r_left.
      let y = Contains-from_map (under yes_step) (before_marked first later p) r r_left in
      let y_holds = inner (under yes_step y.0) r y.2 r_holds in
      absurd (two_truths both (here now) t
      (first_of (beq t true) (steps_hold both (here now) y.0.steps) y_holds)
      (first_of (beq t false) (steps_hold both (here now) x.0.steps) x_holds)))
      (λ r_right.
      let y = Contains-from_map (under no_step) (before_marked second later p) r r_right in
      let y_holds = inner (under no_step y.0) r y.2 r_holds in
      sym x.2
      ∙ ap (under no_step)
      (one_path second later p x.0 y.0 now (second_of (all_are b first) (all_are b second) kind)
      (second_of (well_formed signals condition && statement_sound signals first)
      (statement_sound signals second) sound) (follows.2 is) tidy
      x.1 (second_of (beq t false) (steps_hold both (here now) x.0.steps) x_holds) y.1
      (second_of (beq t false) (steps_hold both (here now) y.0.steps) y_holds))
      ∙ y.2)
      (Contains-either in_yes in_no r r_in))
      (Contains-either in_yes in_no q q_in) in
      ⊎_elim
      (λ q_taken. ⊎_elim
      (λ r_taken. both_arms q_taken.1 r_taken.1)
      (λ r_kept. absurd (false≢true (sym r_kept.0 ∙ q_taken.0)))
      (from_cond taken (in_yes ++ in_no) (p ∷ []) r r_at))
      (λ q_kept. ⊎_elim
      (λ r_taken. absurd (false≢true (sym q_kept.0 ∙ r_taken.0)))
      (λ r_kept. sym (only p q q_kept.1) ∙ only p r r_kept.1)
      (from_cond taken (in_yes ++ in_no) (p ∷ []) r r_at))
      (from_cond taken (in_yes ++ in_no) (p ∷ []) q q_at)
