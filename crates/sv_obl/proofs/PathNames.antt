-- What a path names: settled names that are read for its target, and the wanted names of the
-- signals that the target follows.
use Rattle.std.proofs.Common.{◌≡◌, ℕ, ◌+◌, ◌-◌, Bool, true, false, cond, ◌&&◌, ◌==◌, not, ltb-true}
use Rattle.std.proofs.Common.{List, [], ◌∷◌, ◌++◌, length, map, fold, ◌⊎◌, inl, inr, ⊎_elim, refl}
use Rattle.std.proofs.Common.{sym, ap, subst, ◌∙◌, arith}
use Rattle.std.specs.Prelude.{Contains, IsTrue, IsFalse}
use Rattle.std.specs.List.{list_any, list_all, range_with_len}
use Rattle.std.proofs.lemmas.Bool.{false≢true, eqb-true}
use Rattle.sv_num.specs.declared.faults.Place.{Place}
use Rattle.sv_num.specs.Parts.{span_of}
use Rattle.sv_system.proofs.Lists.{Contains-nil, Contains-cases, Contains-map, Contains-from_map}
use Rattle.sv_flat.specs.Design.{SignalForm, TypedTree, typed, choice, mend, slice, PieceForm}
use Rattle.sv_flat.specs.Design.{FlatStatement, nothing, after, assign, branch}
use Rattle.sv_flat.specs.Values.{signal_of, signal_width}
use Rattle.sv_flat.specs.Soundness.{is_whole, piece_fits, well_formed, statement_sound}
use Rattle.sv_flat.specs.Assigned.{assigns, always_assigns, can_assign}
use Rattle.sv_flat.specs.Readings.{ReadForm, whole_read, reads, names_signal, BitSet, either}
use Rattle.sv_flat.specs.Readings.{Reading, readings_of, readings, some_bit_read, is_followed}
use Rattle.sv_flat.proofs.Members.{Contains-left, Contains-right, Contains-either}
use Rattle.sv_flat.proofs.LeastSets.{or_cases, from_some}
use Rattle.sv_flat.proofs.Depths.{first_of, second_of}
use Rattle.sv_flat.proofs.ReadSignals.{reads_signals}
use Rattle.sv_obl.specs.Exchange.{name, content}
use Rattle.sv_obl.specs.Wanted.{with_copies, copy_of, is_copy, original, mark, marked_tree, marked}
use Rattle.sv_obl.specs.Wanted.{wanted_name, piece_value, with_piece_put, put_value, pieces_put}
use Rattle.sv_obl.specs.Wanted.{put_in}
use Rattle.sv_obl.specs.Paths.{StepForm, Path, under, step_with, Way}
use Rattle.sv_obl.specs.Paths.{ways_taken, with_way, path_names, is_taken, open_path}
use Rattle.sv_obl.specs.Paths.{before}
use Rattle.sv_flat.proofs.Members.{only}
use Rattle.sv_obl.proofs.PathLists.{cond_true, cond_false, from_cond, from_flat_map}
use Rattle.sv_obl.proofs.PutFacts.{copy_is, copy_is_copy, signal_is_settled}
use Rattle.sv_obl.proofs.PathTells.{marked_assigns}
use Rattle.sv_obl.proofs.PathRuns.{step_of, taken_keep, either_keeps}
use Rattle.sv_obl.proofs.TreeFacts.{Comes, exchanged_names}

module _ (signals : List SignalForm) (in_block : Bool) (s : ℕ) (Served Member : ℕ → Type 0) where
  abbrev both : List SignalForm
  both = with_copies signals

  -- a settled name that is served, or the wanted name of a member
  abbrev pub NameFine : ℕ → Type 0
  NameFine x =
      (IsFalse (is_copy signals x) × Served x)
      ⊎ ((u : ℕ) × Member u × (x ≡ copy_of signals u))

  abbrev pub Fine : TypedTree → Type 0
  Fine t = (r : ReadForm) → Contains (reads both t) r → NameFine r.signal

  abbrev pub StepsFine : List StepForm → Type 0
  StepsFine steps = (step : StepForm) → Contains steps step → Fine step.condition

  abbrev pub PathFine : Path → Type 0
  PathFine p = StepsFine p.steps × Fine p.result

  -- what serves a member is settled and served, or an earlier read of a member
  abbrev pub AllServe : List Reading → Type 0
  AllServe rs =
      (r : Reading) → Contains rs r → (u : ℕ) → Member u → IsTrue (r.serves u) →
      (IsFalse (in_block && is_followed signals r) × Served r.name.signal)
      ⊎ (IsTrue (in_block && is_followed signals r) × Member r.name.signal)

  no_steps : StepsFine []
  no_steps step at = absurd (Contains-nil step at)

  with_step : (step : StepForm) (steps : List StepForm) → Fine step.condition → StepsFine steps →
      StepsFine (step ∷ steps)
  with_step step steps fine each other at = ⊎_elim
      (λ is. subst (λ (y : StepForm). Fine y.condition) is fine)
      (λ later. each other later)
      (Contains-cases step steps other at)

  both_steps : (first second : List StepForm) → StepsFine first → StepsFine second →
      StepsFine (first ++ second)
  both_steps first second one two step at =
      ⊎_elim (one step) (two step) (Contains-either first second step at)

  fine_left : (xs ys : List ReadForm) →
      ((r : ReadForm) → Contains (xs ++ ys) r → NameFine r.signal) → (r : ReadForm) →
      Contains xs r → NameFine r.signal
  fine_left xs ys fine r at = fine r (Contains-left xs ys r at)

  fine_right : (xs ys : List ReadForm) →
      ((r : ReadForm) → Contains (xs ++ ys) r → NameFine r.signal) → (r : ReadForm) →
      Contains ys r → NameFine r.signal
  fine_right xs ys fine r at = fine r (Contains-right xs ys r at)

  fine_both : (xs ys : List ReadForm) → ((r : ReadForm) → Contains xs r → NameFine r.signal)
      → ((r : ReadForm) → Contains ys r → NameFine r.signal)
      → (r : ReadForm) → Contains (xs ++ ys) r → NameFine r.signal
  fine_both xs ys one two r at = ⊎_elim (one r) (two r) (Contains-either xs ys r at)

  -- ---- right sides

  fine_parts : (w : ℕ) (signed : Bool) (p : Place) (c a b : TypedTree)
      → Fine (typed w signed (choice p c a b)) → Fine c × Fine a × Fine b
  fine_parts w signed p c a b fine =
      let front = fine_left (reads both c ++ reads both a) (reads both b) fine in (
        fine_left (reads both c) (reads both a) front,
        fine_right (reads both c) (reads both a) front,
        fine_right (reads both c ++ reads both a) (reads both b) fine,
      )

  taken_fine : (pieces : List PieceForm) (right : TypedTree) (p : Path) → Fine right → (way : Way)
      → Contains (ways_taken signals pieces right p) way → StepsFine way.steps × Fine way.right
  taken_fine pieces right p fine =
      taken_keep Fine StepsFine no_steps with_step fine_parts signals pieces right p fine

  -- ---- what is put

  piece_fine : (right : TypedTree) (p : PieceForm) → Fine right → Fine (piece_value right p)
  piece_fine right p fine =
      either_keeps Fine (p.from == 0) right
      (typed (span_of p.high p.low) false (slice right (p.from + p.high - p.low) p.from))
      fine fine

  put_fine : (right : TypedTree) (t : ℕ) (pieces : List PieceForm) (old : TypedTree) → Fine right
      → Fine old
      → Fine (fold (with_piece_put signals right t) old pieces)
  put_fine right t [] old fine fine_old = fine_old
  put_fine right t (p ∷ pieces) old fine fine_old =
      let mended = typed (signal_width signals t) (signal_of signals t).signed
      (mend t old p.high p.low (piece_value right p)) in
      put_fine right t pieces (with_piece_put signals right t old p) fine
      (either_keeps Fine (not (p.signal == t)) old
      (cond (is_whole signals p) (piece_value right p) mended)
      fine_old
      (either_keeps Fine (is_whole signals p) (piece_value right p) mended (piece_fine right p fine)
      (fine_both (reads both old) (reads both (piece_value right p)) fine_old
      (piece_fine right p fine))))

  wanted_fine : (t : ℕ) (place : Place) → NameFine (copy_of signals t) →
      Fine (wanted_name signals t place)
  wanted_fine t place fine r at =
      subst NameFine (ap (λ (x : ReadForm).
      x.signal) (only (whole_read both (copy_of signals t) place) r at)) fine

  put_in_fine : (pieces : List PieceForm) (way t : TypedTree) → Fine way → Fine t →
      Fine (put_in signals pieces way t)
  put_in_fine pieces way t fine_way fine_t r at =
      let from = exchanged_names both both (pieces_put signals pieces way) t r.signal
      (r, at, refl) in
      let q = from.0 in
      let named = fine_t q from.1 in
      by_test q named (is_copy signals q.signal)
      (list_any (λ (p : PieceForm). p.signal == original signals q.signal) pieces) refl from.2
    where
      by_test : (q : ReadForm) → NameFine q.signal → (c d : Bool) → is_copy signals q.signal ≡ c
          → Comes both both (pieces_put signals pieces way) r.signal
          (cond (c && d) (content (original signals q.signal)
          (put_value signals pieces way (original signals q.signal) q.place)) (name q.signal))
          → NameFine r.signal
      by_test q named true true copy from =
          let o = original signals q.signal in
          subst NameFine from.2 (put_fine way o pieces (wanted_name signals o q.place) fine_way
          (wanted_fine o q.place (subst NameFine (sym (copy_is signals q.signal copy)) named))
          from.0 from.1)
      by_test q named true false copy from = subst NameFine from named
      by_test q named false d copy from = subst NameFine from named

  map_fine : (pieces : List PieceForm) (way : TypedTree) (steps : List StepForm) → Fine way
      → StepsFine steps
      → StepsFine (map (step_with (put_in signals pieces way)) steps)
  map_fine pieces way steps fine each step at =
      let from = Contains-from_map (step_with (put_in signals pieces way)) steps step at in
      subst (λ (y : StepForm).
      Fine y.condition) from.2
      (put_in_fine pieces way (from.0).condition fine (each from.0 from.1))

  -- ---- statements

  pub marked_fine : (whole : FlatStatement) (t : TypedTree) (early later : BitSet)
      → IsTrue (well_formed signals t) → (u : ℕ) → Member u → IsTrue (assigns whole u)
      → AllServe (readings_of signals t (assigns whole) early later)
      → Fine (marked_tree signals in_block later t)
  marked_fine whole t early later well u member assigned serve r at =
      let from = exchanged_names signals both (mark signals in_block later) t r.signal
      (r, at, refl) in
      let q = from.0 in
      let is_marked = in_block && some_bit_read signals q (later q.signal) in
      ⊎_elim
      (λ settled.
      let is : q.signal ≡ r.signal =
      sym (cond_false is_marked (copy_of signals q.signal) q.signal settled.0) ∙ from.2 in
      subst NameFine is (inl (
        signal_is_settled signals q.signal
            (ltb-true q.signal (length signals) (reads_signals signals t well q from.1)),
        settled.1,
      )))
      (λ earlier.
      let is : copy_of signals q.signal ≡ r.signal =
      sym (cond_true is_marked (copy_of signals q.signal) q.signal earlier.0) ∙ from.2 in
      subst NameFine is (inr (q.signal, earlier.1, refl)))
      (serve (record {
        name = q;
        serves = assigns whole;
        assigned = early;
        follows = later;
      })
      (Contains-map (λ (x : ReadForm).
      record { name = x; serves = assigns whole; assigned = early; follows = later })
      (reads signals t) q from.1) u member assigned)

  -- a path wants members, so a statement that is taken assigns one
  named_fine : (p : Path) → PathFine p → (x : ℕ) → IsTrue (path_names both p x) → NameFine x
  named_fine p fine x named =
      let in_steps = list_any (λ (step : StepForm). names_signal both step.condition x) p.steps in
      ⊎_elim
      (λ l.
      let step = from_some (λ (y : StepForm). names_signal both y.condition x) p.steps l in
      let read = from_some (λ (r : ReadForm).
      r.signal == x) (reads both (step.0).condition) step.2 in
      subst NameFine (eqb-true (read.0).signal x read.2) (fine.0 step.0 step.1 read.0 read.1))
      (λ r.
      let read = from_some (λ (z : ReadForm). z.signal == x) (reads both p.result) r in
      subst NameFine (eqb-true (read.0).signal x read.2) (fine.1 read.0 read.1))
      (or_cases in_steps (names_signal both p.result x) named)

  taken_assigns : (body : FlatStatement) (later : BitSet) (p : Path) → PathFine p
      → IsTrue (is_taken signals (marked signals in_block body later) p)
      → (u : ℕ) × Member u × IsTrue (assigns body u)
  taken_assigns body later p fine taken =
      let found = from_some (λ k.
      assigns (marked signals in_block body later) k && path_names both p (copy_of signals k))
      (range_with_len 0 (length signals)) taken in
      let k = found.0 in
      let assigned = first_of (assigns (marked signals in_block body later) k)
      (path_names both p (copy_of signals k)) found.2 in
      let named = named_fine p fine (copy_of signals k)
      (second_of (assigns (marked signals in_block body later) k)
      (path_names both p (copy_of signals k)) found.2) in
      ⊎_elim
      (λ settled. absurd (false≢true (sym settled.0 ∙ copy_is_copy signals k)))
      (λ wanted.
      let same = wanted.2 in
      let is : k ≡ wanted.0 = omega (arith, same) in (
        wanted.0,
        wanted.1,
        subst (λ x. IsTrue (assigns body x)) is
            (sym (marked_assigns signals in_block body later k) ∙ assigned),
      ))
      named

  pub paths_fine : (body : FlatStatement) (early later : BitSet) (p q : Path)
      → IsTrue (statement_sound signals body)
      → AllServe (readings signals body early later) → PathFine p
      → Contains (before signals s (marked signals in_block body later) p) q
      → PathFine q
  paths_fine nothing early later p q sound serve fine at = subst PathFine (only p q at) fine
  paths_fine (after first second) early later p q sound serve fine at =
      let late = either (can_assign second) later in
      let mid = either (always_assigns first) early in
      let found = from_flat_map (before signals s (marked signals in_block first late))
      (before signals s (marked signals in_block second later) p) q at in
      paths_fine first early late found.0 q
      (first_of (statement_sound signals first) (statement_sound signals second) sound)
      (λ r r_at.
      serve r (Contains-left (readings signals first early late)
      (readings signals second mid later) r r_at))
      (paths_fine second mid later p found.0
      (second_of (statement_sound signals first) (statement_sound signals second) sound)
      (λ r r_at.
      serve r (Contains-right (readings signals first early late)
      (readings signals second mid later) r r_at)) fine found.1)
      found.2
  paths_fine (assign pieces place blocking right) early later p q sound serve fine at =
      let whole = assign pieces place blocking right in
      let follows = either (can_assign whole) later in
      let tree = marked_tree signals in_block follows right in
      ⊎_elim
      (λ taken.
      let from = Contains-from_map (with_way signals s pieces tree p)
      (ways_taken signals pieces tree p) q taken.1 in
      let way = from.0 in
      let by = taken_assigns whole later p fine taken.0 in
      let fine_tree = marked_fine whole right early follows
      (first_of (well_formed signals right) (list_all (piece_fits signals right) pieces) sound)
      by.0 by.1 by.2 serve in
      let inner = taken_fine pieces tree p fine_tree way from.1 in
      subst PathFine from.2 (
        both_steps way.steps (map (step_with (put_in signals pieces tree)) p.steps) inner.0
            (map_fine pieces tree p.steps fine_tree fine.0),
        put_in_fine pieces way.right p.result inner.1 fine.1,
      ))
      (λ kept. subst PathFine (only p q kept.1) fine)
      (from_cond (is_taken signals (marked signals in_block whole later) p)
      (map (with_way signals s pieces tree p) (ways_taken signals pieces tree p)) (p ∷ []) q at)
  paths_fine (branch place condition first second) early later p q sound serve fine at =
      let whole = branch place condition first second in
      let follows = either (can_assign whole) later in
      let tree = marked_tree signals in_block follows condition in
      let read_here = readings_of signals condition (assigns whole) early follows in
      let in_first = readings signals first early later in
      let in_second = readings signals second early later in
      let front = first_of (well_formed signals condition && statement_sound signals first)
      (statement_sound signals second) sound in
      let in_yes = map (under (step_of place tree true))
      (before signals s (marked signals in_block first later) p) in
      let in_no = map (under (step_of place tree false))
      (before signals s (marked signals in_block second later) p) in
      ⊎_elim
      (λ taken.
      let by = taken_assigns whole later p fine taken.0 in
      let fine_condition = marked_fine whole condition early follows
      (first_of (well_formed signals condition) (statement_sound signals first) front)
      by.0 by.1 by.2
      (λ r r_at.
      serve r (Contains-left (read_here ++ in_first) in_second r
      (Contains-left read_here in_first r r_at))) in
      ⊎_elim
      (λ l.
      let from = Contains-from_map (under (step_of place tree true))
      (before signals s (marked signals in_block first later) p) q l in
      let inner = paths_fine first early later p from.0
      (second_of (well_formed signals condition) (statement_sound signals first) front)
      (λ r r_at.
      serve r (Contains-left (read_here ++ in_first) in_second r
      (Contains-right read_here in_first r r_at))) fine from.1 in
      subst PathFine from.2
      (with_step (step_of place tree true) from.0.steps fine_condition inner.0, inner.1))
      (λ r.
      let from = Contains-from_map (under (step_of place tree false))
      (before signals s (marked signals in_block second later) p) q r in
      let inner = paths_fine second early later p from.0
      (second_of (well_formed signals condition && statement_sound signals first)
      (statement_sound signals second) sound)
      (λ z z_at. serve z (Contains-right (read_here ++ in_first) in_second z z_at)) fine from.1 in
      subst PathFine from.2
      (with_step (step_of place tree false) from.0.steps fine_condition inner.0, inner.1))
      (Contains-either in_yes in_no q taken.1))
      (λ kept. subst PathFine (only p q kept.1) fine)
      (from_cond (is_taken signals (marked signals in_block whole later) p) (in_yes ++ in_no)
      (p ∷ []) q at)

  pub open_fine : Member s → PathFine (open_path signals s)
  open_fine member =
      (no_steps, wanted_fine s (signal_of signals s).place (inr (s, member, refl)))
