-- A run does the same from environments that agree on all that it reads and assigns.
use Rattle.std.proofs.Common.{◌≡◌, ℕ, ◌<◌, Bool, true, false, cond, List, [], ◌∷◌, ◌++◌, fold}
use Rattle.std.proofs.Common.{refl, ap, subst, ◌∙◌, inl}
use Rattle.std.specs.Prelude.{◌==◌, ◌&&◌, Contains, IsTrue}
use Rattle.std.specs.List.{list_any, list_all}
use Rattle.std.proofs.lemmas.Bool.{or_left, or_right, eq-eqb}
use Rattle.sv_num.specs.Vectors.{is_true}
use Rattle.sv_system.specs.System.{Environment, put, last_update}
use Rattle.sv_system.proofs.Lists.{Contains-map}
use Rattle.sv_flat.specs.Design.{SignalForm, TypedTree, PieceForm, FlatStatement, nothing, after}
use Rattle.sv_flat.specs.Design.{assign, branch}
use Rattle.sv_flat.specs.Values.{signal_width, value}
use Rattle.sv_flat.specs.Runs.{Updates, with_piece, put_piece, run}
use Rattle.sv_flat.specs.Assigned.{assigns, can_assign, always_assigns}
use Rattle.sv_flat.specs.Readings.{BitSet, either, Reading, reading_of, readings_of, readings}
use Rattle.sv_flat.specs.Readings.{ReadForm, reads}
use Rattle.sv_flat.specs.Soundness.{is_signal, well_formed, piece_fits, statement_sound}
use Rattle.sv_flat.proofs.Members.{Contains-left, Contains-right}
use Rattle.sv_flat.proofs.Depths.{first_of, second_of}
use Rattle.sv_flat.proofs.SameValues.{same_value}

abbrev State : Type 0
State = Environment ℕ × Updates

module _ (signals : List SignalForm) (positive : (s : ℕ) → IsTrue (is_signal signals s) →
    0 < signal_width signals s) (Given : ℕ → Type 0) where
  abbrev pub ReadsGiven : FlatStatement → BitSet → BitSet → Type 0
  ReadsGiven body before later =
      (r : Reading) → Contains (readings signals body before later) r → Given r.name.signal

  abbrev pub AssignsGiven : FlatStatement → Type 0
  AssignsGiven body = (s : ℕ) → assigns body s ≡ true → Given s

  -- two states agree on what is given, and on the updates
  abbrev pub Alike : State → State → Type 0
  Alike now other = ((s : ℕ) → Given s → now.0 s ≡ other.0 s) × (now.1 ≡ other.1)

  value_alike : (e : TypedTree) → IsTrue (well_formed signals e)
      → ((r : ReadForm) → Contains (reads signals e) r → Given r.signal)
      → (now other : State) → Alike now other → value signals now.0 e ≡ value signals other.0 e
  value_alike e formed given now other alike =
      same_value signals positive e formed now.0 other.0 (λ r at.
      inl (alike.0 r.signal (given r at)))

  put_alike : (t v w : ℕ) (d e : Environment ℕ) → v ≡ w → ((s : ℕ) → Given s → d s ≡ e s) →
      (s : ℕ) → Given s → put ◌==◌ t v d s ≡ put ◌==◌ t w e s
  put_alike t v w d e same agree s given =
      ap (λ x. cond (t == s) x (d s)) same ∙ ap (cond (t == s) w) (agree s given)

  piece_alike : (blocking : Bool) (v w : ℕ) → v ≡ w → (piece : PieceForm) → Given piece.signal
      → (now other : State) → Alike now other
      → Alike (put_piece signals blocking v now piece) (put_piece signals blocking w other piece)
  piece_alike true v w same piece given now other alike = (
    put_alike piece.signal (with_piece signals piece v (now.0 piece.signal))
        (with_piece signals piece w (other.0 piece.signal)) now.0 other.0
        (ap (λ x. with_piece signals piece x (now.0 piece.signal)) same
        ∙ ap (with_piece signals piece w) (alike.0 piece.signal given)) alike.0,
    alike.1,
  )
  piece_alike false v w same piece given now other alike = (
    alike.0,
    ap (λ x.
        now.1 ++ (
          piece.signal,
          with_piece signals piece x
              (last_update ◌==◌ piece.signal (now.0 piece.signal) now.1),
        ) ∷ []) same
        ∙ ap (λ x.
        now.1 ++ (
          piece.signal,
          with_piece signals piece w
              (last_update ◌==◌ piece.signal x now.1),
        ) ∷ []) (alike.0 piece.signal given)
        ∙ ap (λ us.
        us ++ (
          piece.signal,
          with_piece signals piece w
              (last_update ◌==◌ piece.signal (other.0 piece.signal) us),
        ) ∷ []) alike.1,
  )

  pieces_alike : (blocking : Bool) (v w : ℕ) → v ≡ w → (pieces : List PieceForm)
      → ((s : ℕ) → list_any (λ (p : PieceForm). p.signal == s) pieces ≡ true → Given s)
      → (now other : State) → Alike now other
      → Alike (fold (put_piece signals blocking v) now pieces)
      (fold (put_piece signals blocking w) other pieces)
  pieces_alike blocking v w same [] given now other alike = alike
  pieces_alike blocking v w same (piece ∷ pieces) given now other alike =
      pieces_alike blocking v w same pieces
      (λ s h.
      given s (or_right (piece.signal == s) (list_any (λ (p : PieceForm).
      p.signal == s) pieces) h))
      (put_piece signals blocking v now piece) (put_piece signals blocking w other piece)
      (piece_alike blocking v w same piece
      (given piece.signal (or_left (piece.signal == piece.signal)
      (list_any (λ (p : PieceForm). p.signal == piece.signal) pieces)
      (eq-eqb piece.signal piece.signal refl))) now other alike)

  chosen_alike : (b c : Bool) → b ≡ c → (x y z w : State) → Alike x z → Alike y w →
      Alike (cond b x y) (cond c z w)
  chosen_alike true c same x y z w h k = subst (λ d. Alike x (cond d z w)) same h
  chosen_alike false c same x y z w h k = subst (λ d. Alike y (cond d z w)) same k

  pub run_alike : (body : FlatStatement) → IsTrue (statement_sound signals body)
      → (before later : BitSet) → ReadsGiven body before later
      → AssignsGiven body → (now other : State) → Alike now other
      → Alike (run signals body now) (run signals body other)
  run_alike nothing sound before later reading assigning now other alike = alike
  run_alike (after first second) sound before later reading assigning now other alike =
      let left = readings signals first before (either (can_assign second) later) in
      let right = readings signals second (either (always_assigns first) before) later in
      run_alike second (second_of (statement_sound signals first) (statement_sound signals second)
      sound) (either (always_assigns first) before) later
      (λ r at. reading r (Contains-right left right r at))
      (λ s h. assigning s (or_right (assigns first s) (assigns second s) h))
      (run signals first now) (run signals first other)
      (run_alike first (first_of (statement_sound signals first) (statement_sound signals second)
      sound) before (either (can_assign second) later)
      (λ r at. reading r (Contains-left left right r at))
      (λ s h. assigning s (or_left (assigns first s) (assigns second s) h)) now other alike)
  run_alike (assign pieces place blocking right) sound before later reading assigning now
      other alike =
      let whole = assign pieces place blocking right in
      let here = reading_of (assigns whole) before (either (can_assign whole) later) in
      pieces_alike blocking (value signals now.0 right) (value signals other.0 right)
      (value_alike right (first_of (well_formed signals right)
      (list_all (piece_fits signals right) pieces) sound)
      (λ r at. reading (here r) (Contains-map here (reads signals right) r at)) now other alike)
      pieces assigning now other alike
  run_alike (branch place condition first second) sound before later reading assigning now
      other alike =
      let whole = branch place condition first second in
      let here = reading_of (assigns whole) before (either (can_assign whole) later) in
      let front = first_of (well_formed signals condition && statement_sound signals first)
      (statement_sound signals second) sound in
      let conditions = readings_of signals condition (assigns whole) before
      (either (can_assign whole) later) in
      let left = readings signals first before later in
      let right = readings signals second before later in
      chosen_alike (is_true (value signals now.0 condition))
      (is_true (value signals other.0 condition))
      (ap is_true (value_alike condition
      (first_of (well_formed signals condition) (statement_sound signals first) front)
      (λ r at. reading (here r)
      (Contains-left (conditions ++ left) right _ (Contains-left conditions left _
      (Contains-map here (reads signals condition) r at)))) now other alike))
      (run signals first now) (run signals second now) (run signals first other)
      (run signals second other)
      (run_alike first (second_of (well_formed signals condition) (statement_sound signals first)
      front) before later
      (λ r at.
      reading r (Contains-left (conditions ++ left) right r
      (Contains-right conditions left r at)))
      (λ s h. assigning s (or_left (assigns first s) (assigns second s) h)) now other alike)
      (run_alike second (second_of (well_formed signals condition && statement_sound signals first)
      (statement_sound signals second) sound) before later
      (λ r at. reading r (Contains-right (conditions ++ left) right r at))
      (λ s h. assigning s (or_right (assigns first s) (assigns second s) h)) now other alike)
