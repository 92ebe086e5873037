-- Two runs of a block from environments that agree on what is read leave the same values. Some of
-- the signals that the block assigns are wanted; what is read for those is given, or has been
-- assigned before.
use Rattle.std.proofs.Common.{◌≡◌, ℕ, ◌+◌, ◌-◌, ◌/◌, ◌^◌, ◌<◌, ◌≤◌, Bool, true, false, cond, ◌&&◌}
use Rattle.std.proofs.Common.{◌||◌, ◌==◌, nat_lt, nat_le, leb-true, leb-false, ltb-true, List, []}
use Rattle.std.proofs.Common.{◌∷◌, ◌++◌, fold, ◌⊎◌, inl, inr, ⊎_elim, refl, sym, ap, subst, ◌∙◌}
use Rattle.std.specs.Prelude.{Contains, IsTrue, IsFalse}
use Rattle.std.specs.Int.{bit_at}
use Rattle.std.specs.List.{list_any, list_all}
use Rattle.std.proofs.lemmas.Bool.{false≢true, or_left, or_right, eqb-true, eq-eqb}
use Rattle.sv_num.specs.declared.faults.Place.{Place}
use Rattle.sv_num.specs.Vectors.{is_true}
use Rattle.sv_system.specs.System.{Environment, put}
use Rattle.sv_system.proofs.Lists.{Contains-head, Contains-later, Contains-map}
use Rattle.sv_flat.specs.Design.{SignalForm, TypedTree, PieceForm, FlatStatement, nothing, after}
use Rattle.sv_flat.specs.Design.{assign, branch}
use Rattle.sv_flat.specs.Values.{signal_width, expression_width, value}
use Rattle.sv_flat.specs.Runs.{Updates, with_piece, put_piece, run}
use Rattle.sv_flat.specs.Soundness.{is_signal, is_part_of, piece_fits, well_formed, statement_sound}
use Rattle.sv_flat.specs.Assigned.{has_bit, assigns, always_assigns, can_assign}
use Rattle.sv_flat.specs.Readings.{BitSet, either, Reading, reading_of, readings_of}
use Rattle.sv_flat.specs.Readings.{readings, reads}
use Rattle.sv_flat.proofs.Members.{Contains-left, Contains-right}
use Rattle.sv_flat.proofs.LeastSets.{either_way, or_cases, some_from, from_some}
use Rattle.sv_flat.proofs.Depths.{first_of, second_of, from_all}
use Rattle.sv_flat.proofs.ReplacedBits.{replaced_below, replaced_inside, replaced_under}
use Rattle.sv_flat.proofs.ReplacedBits.{replaced_over}
use Rattle.sv_flat.proofs.SameValues.{same_value}

abbrev State : Type 0
State = Environment ℕ × Updates

-- ---- what a run leaves alone

pub put_other : (p t v : ℕ) (e : Environment ℕ) → IsFalse (p == t) → put ◌==◌ p v e t ≡ e t
put_other p t v e other = ap (λ b. cond b v (e t)) other

pub put_there : (p v : ℕ) (e : Environment ℕ) → put ◌==◌ p v e p ≡ v
put_there p v e = ap (λ b. cond b v (e p)) (eq-eqb p p refl)

pub or_none_left : (a b : Bool) → IsFalse (a || b) → IsFalse a
or_none_left true b h = h
or_none_left false b h = refl

pub or_none_right : (a b : Bool) → IsFalse (a || b) → IsFalse b
or_none_right true b h = absurd (false≢true (sym h))
or_none_right false b h = h

pub none_found : (b : Bool) → (IsTrue b → ⊥) → IsFalse b
none_found true no_case = absurd (no_case refl)
none_found false no_case = refl

pub and_none_left : (a b : Bool) → IsFalse a → IsFalse (a && b)
and_none_left true b h = absurd (false≢true (sym h))
and_none_left false b h = refl

pub and_none_right : (a b : Bool) → IsFalse b → IsFalse (a && b)
and_none_right true b h = h
and_none_right false b h = refl

pub both_false : (a b : Bool) → IsFalse a → IsFalse b → IsFalse (a || b)
both_false true b first second = first
both_false false b first second = second

both_or_first : (a b c : Bool) → IsTrue (a && b || c) → IsTrue (a || c)
both_or_first true b c h = refl
both_or_first false b c h = h

both_or_second : (a b c : Bool) → IsTrue (a && b || c) → IsTrue (b || c)
both_or_second true true c h = refl
both_or_second true false c h = h
both_or_second false true c h = refl
both_or_second false false c h = h

rest_of : (a b : Bool) → IsFalse a → IsTrue (a || b) → IsTrue b
rest_of true b none h = absurd (false≢true (sym none))
rest_of false b none h = h

turned : (a b c : Bool) → IsTrue (a || b || c) → IsTrue (b || (a || c))
turned true true c h = refl
turned true false c h = refl
turned false true c h = refl
turned false false c h = h

-- every assignment to something is `=`
abbrev pub all_blocking : FlatStatement → Bool
all_blocking nothing = true
all_blocking (after first second) = all_blocking first && all_blocking second
all_blocking (assign [] place blocking right) = true
all_blocking (assign (p ∷ pieces) place blocking right) = blocking
all_blocking (branch place condition first second) = all_blocking first && all_blocking second

-- ---- what is assigned

-- an assignment of a bit is one of its signal
pub can_is_assigned : (body : FlatStatement) (s b : ℕ) → IsTrue (can_assign body s b) →
    IsTrue (assigns body s)
can_is_assigned nothing s b h = absurd (false≢true h)
can_is_assigned (after first second) s b h = ⊎_elim
    (λ l. or_left (assigns first s) (assigns second s) (can_is_assigned first s b l))
    (λ r. or_right (assigns first s) (assigns second s) (can_is_assigned second s b r))
    (or_cases (can_assign first s b) (can_assign second s b) h)
can_is_assigned (assign pieces place blocking right) s b h =
    let found = from_some (has_bit s b) pieces h in
    let p = found.0 in
    some_from (λ (q : PieceForm). q.signal == s) pieces p found.1
    (first_of (p.signal == s) (nat_le p.low b)
    (first_of ((p.signal == s) && nat_le p.low b) (nat_le b p.high) found.2))
can_is_assigned (branch place condition first second) s b h = ⊎_elim
    (λ l. or_left (assigns first s) (assigns second s) (can_is_assigned first s b l))
    (λ r. or_right (assigns first s) (assigns second s) (can_is_assigned second s b r))
    (or_cases (can_assign first s b) (can_assign second s b) h)

-- what is assigned on every path can be
always_can : (body : FlatStatement) (t b : ℕ) → IsTrue (always_assigns body t b) →
    IsTrue (can_assign body t b)
always_can nothing t b h = h
always_can (after first second) t b h = ⊎_elim
    (λ l. or_left (can_assign first t b) (can_assign second t b) (always_can first t b l))
    (λ r. or_right (can_assign first t b) (can_assign second t b) (always_can second t b r))
    (or_cases (always_assigns first t b) (always_assigns second t b) h)
always_can (assign pieces place blocking right) t b h = h
always_can (branch place condition first second) t b h =
    or_left (can_assign first t b) (can_assign second t b)
    (always_can first t b (first_of (always_assigns first t b) (always_assigns second t b) h))

module _ (signals : List SignalForm) where
  piece_leaves : (blocking : Bool) (v : ℕ) (now : State) (piece : PieceForm) (t : ℕ)
      → IsFalse (piece.signal == t)
      → (put_piece signals blocking v now piece).0 t ≡ now.0 t
  piece_leaves true v now piece t other =
      put_other piece.signal t (with_piece signals piece v (now.0 piece.signal)) now.0 other
  piece_leaves false v now piece t other = refl

  pieces_leave : (blocking : Bool) (v : ℕ) (pieces : List PieceForm) (now : State) (t : ℕ)
      → IsFalse (list_any (λ (piece : PieceForm). piece.signal == t) pieces)
      → (fold (put_piece signals blocking v) now pieces).0 t ≡ now.0 t
  pieces_leave blocking v [] now t none = refl
  pieces_leave blocking v (piece ∷ pieces) now t none =
      pieces_leave blocking v pieces (put_piece signals blocking v now piece) t
      (or_none_right (piece.signal == t) (list_any (λ (p : PieceForm). p.signal == t) pieces) none)
      ∙ piece_leaves blocking v now piece t
      (or_none_left (piece.signal == t) (list_any (λ (p : PieceForm).
      p.signal == t) pieces) none)

  either_run : (b : Bool) (x y : State) (t n : ℕ) → x.0 t ≡ n → y.0 t ≡ n → (cond b x y).0 t ≡ n
  either_run true x y t n first second = first
  either_run false x y t n first second = second

  -- a run changes no signal that its statement does not assign
  pub run_leaves : (body : FlatStatement) (t : ℕ) → IsFalse (assigns body t) → (now : State) →
      (run signals body now).0 t ≡ now.0 t
  run_leaves nothing t none now = refl
  run_leaves (after first second) t none now =
      run_leaves second t (or_none_right (assigns first t) (assigns second t) none)
      (run signals first now)
      ∙ run_leaves first t (or_none_left (assigns first t) (assigns second t) none) now
  run_leaves (assign pieces place blocking right) t none now =
      pieces_leave blocking (value signals now.0 right) pieces now t none
  run_leaves (branch place condition first second) t none now =
      either_run (is_true (value signals now.0 condition)) (run signals first now)
      (run signals second now) t (now.0 t)
      (run_leaves first t (or_none_left (assigns first t) (assigns second t) none) now)
      (run_leaves second t (or_none_right (assigns first t) (assigns second t) none) now)

  -- a piece that fits lies in its signal
  pub piece_lies_inside : (right : TypedTree) (p : PieceForm) → IsTrue (piece_fits signals right p)
      → (p.low ≤ p.high) × (p.high < signal_width signals p.signal)
  piece_lies_inside right p h =
      let w = signal_width signals p.signal in
      let part = second_of (is_signal signals p.signal)
      (is_part_of w (expression_width right - p.from) p.high p.low) h in
      let both = first_of (nat_le p.low p.high && nat_lt p.high w)
      (nat_le (p.high + 1 - p.low) (expression_width right - p.from)) part in (
        leb-true p.low p.high (first_of (nat_le p.low p.high) (nat_lt p.high w) both),
        ltb-true p.high w (second_of (nat_le p.low p.high) (nat_lt p.high w) both),
      )

  -- ---- agreement

  module _ (positive : (s : ℕ) → IsTrue (is_signal signals s) →
      0 < signal_width signals s) (own wanted : ℕ → Bool)
      (Given : ℕ → Type 0) where
    -- given signals that the block does not assign have one value, and of wanted ones the known
    -- bits are the same
    abbrev pub Agrees : BitSet → Environment ℕ → Environment ℕ → Type 0
    Agrees known e f = ((t : ℕ) → IsFalse (own t) → Given t → e t ≡ f t)
        × ((t b : ℕ) → IsTrue (wanted t) → b < signal_width signals t → IsTrue (known t b)
        → (e t < 2 ^ signal_width signals t) × (f t < 2 ^ signal_width signals t)
        × (bit_at (e t) b ≡ bit_at (f t) b))

    weaken : (fewer known : BitSet) (e f : Environment ℕ)
        → ((t b : ℕ) → IsTrue (fewer t b) → IsTrue (known t b))
        → Agrees known e f → Agrees fewer e f
    weaken fewer known e f less agrees =
        (agrees.0, λ t b want below h. agrees.1 t b want below (less t b h))

    -- what is read for a wanted signal is given, or is wanted itself with its bits assigned
    abbrev pub Ready : Reading → Type 0
    Ready r = (t : ℕ) → IsTrue (wanted t) → IsTrue (r.serves t)
        → (IsFalse (own r.name.signal) × Given r.name.signal)
        ⊎ (IsTrue (wanted r.name.signal)
        × ((b : ℕ) → r.name.low ≤ b → b ≤ r.name.high → b < signal_width signals r.name.signal →
        IsTrue (r.assigned r.name.signal b)))

    abbrev pub AllReady : List Reading → Type 0
    AllReady rs = (r : Reading) → Contains rs r → Ready r

    right_same : (t : TypedTree) (serves : ℕ
        → Bool) (before follows : BitSet) (target : ℕ) (e f : Environment ℕ)
        → IsTrue (well_formed signals t) → AllReady (readings_of signals t serves before follows)
        → IsTrue (wanted target) → IsTrue (serves target) → Agrees before e f
        → value signals e t ≡ value signals f t
    right_same t serves before follows target e f well ready want served agrees =
        same_value signals positive t well e f (λ r at. ⊎_elim
        (λ given. inl (agrees.0 r.signal given.0 given.1))
        (λ known. inr (λ b from to below.
        agrees.1 r.signal b known.0 below (known.1 b from to below)))
        (ready (reading_of serves before follows r)
        (Contains-map (reading_of serves before follows) (reads signals t) r at)
        target want served))

    -- ---- one piece

    abbrev PieceFits : PieceForm → Type 0
    PieceFits p = (p.low ≤ p.high) × (p.high < signal_width signals p.signal)

    bit_same : (p : PieceForm) (v x y b : ℕ) → p.low ≤ p.high
        → p.high < signal_width signals p.signal → b < signal_width signals p.signal
        → (IsFalse (has_bit p.signal b p) → bit_at x b ≡ bit_at y b)
        → bit_at (with_piece signals p v x) b ≡ bit_at (with_piece signals p v y) b
    bit_same p v x y b ordered inside below old =
        let w = signal_width signals p.signal in
        let q = v / 2 ^ p.from in
        ⊎_elim
        (λ from. ⊎_elim
        (λ to.
        replaced_inside w p.high p.low x q b ordered inside (leb-true p.low b from)
        (leb-true b p.high to)
        ∙ sym (replaced_inside w p.high p.low y q b ordered inside (leb-true p.low b from)
        (leb-true b p.high to)))
        (λ over.
        replaced_over w p.high p.low x q b ordered inside (leb-false b p.high over) below
        ∙ old (and_none_right ((p.signal == p.signal) && nat_le p.low b) (nat_le b p.high) over)
        ∙ sym (replaced_over w p.high p.low y q b ordered inside (leb-false b p.high over) below))
        (either_way (nat_le b p.high)))
        (λ under.
        replaced_under w p.high p.low x q b ordered inside (leb-false p.low b under)
        ∙ old (and_none_left ((p.signal == p.signal) && nat_le p.low b) (nat_le b p.high)
        (and_none_right (p.signal == p.signal) (nat_le p.low b) under))
        ∙ sym (replaced_under w p.high p.low y q b ordered inside (leb-false p.low b under)))
        (either_way (nat_le p.low b))

    put_same_outside : (p : PieceForm) (v1 v2 : ℕ) (known : BitSet) (now1 now2 : State) (t : ℕ)
        → IsTrue (own p.signal)
        → Agrees known now1.0 now2.0 → IsFalse (own t) → Given t
        → (put_piece signals true v1 now1 p).0 t ≡ (put_piece signals true v2 now2 p).0 t
    put_same_outside p v1 v2 known now1 now2 t owned agrees out given = ⊎_elim
        (λ same.
        absurd (false≢true (sym out
        ∙ subst (λ z. IsTrue (own z)) (eqb-true p.signal t same) owned)))
        (λ other.
        put_other p.signal t (with_piece signals p v1 (now1.0 p.signal)) now1.0 other
        ∙ agrees.0 t out given
        ∙ sym (put_other p.signal t (with_piece signals p v2 (now2.0 p.signal)) now2.0 other))
        (either_way (p.signal == t))

    abbrev Inside : Environment ℕ → Environment ℕ → ℕ → ℕ → Type 0
    Inside e f t b =
        (e t < 2 ^ signal_width signals t) × (f t < 2 ^ signal_width signals t)
        × (bit_at (e t) b ≡ bit_at (f t) b)

    -- with one right side, the signal of the piece has the same known bits
    put_same_there : (p : PieceForm) (v : ℕ) (known : BitSet) (now1 now2 : State) (b : ℕ)
        → PieceFits p
        → Agrees known now1.0 now2.0 → IsTrue (wanted p.signal) → b < signal_width signals p.signal
        → IsTrue (has_bit p.signal b p || known p.signal b)
        → Inside (put_piece signals true v now1 p).0 (put_piece signals true v now2 p).0 p.signal b
    put_same_there p v known now1 now2 b fits agrees want below h =
        let w = signal_width signals p.signal in
        let x = now1.0 p.signal in
        let y = now2.0 p.signal in
        let at1 = put_there p.signal (with_piece signals p v x) now1.0 in
        let at2 = put_there p.signal (with_piece signals p v y) now2.0 in (
          subst (λ z. z < 2 ^ w) (sym at1)
              (replaced_below w p.high p.low x (v / 2 ^ p.from) fits.0 fits.1),
          subst (λ z. z < 2 ^ w) (sym at2)
              (replaced_below w p.high p.low y (v / 2 ^ p.from) fits.0 fits.1),
          ap (λ z. bit_at z b) at1
              ∙ bit_same p v x y b fits.0 fits.1 below
              (λ none.
              (agrees.1 p.signal b want below
              (rest_of (has_bit p.signal b p) (known p.signal b) none h)).2)
              ∙ sym (ap (λ z. bit_at z b) at2),
        )

    put_same_elsewhere : (p : PieceForm) (v1 v2 : ℕ) (known : BitSet) (now1 now2 : State) (t b : ℕ)
        → IsFalse (p.signal == t)
        → Agrees known now1.0 now2.0 → IsTrue (wanted t) → b < signal_width signals t
        → IsTrue (has_bit t b p || known t b)
        → Inside (put_piece signals true v1 now1 p).0 (put_piece signals true v2 now2 p).0 t b
    put_same_elsewhere p v1 v2 known now1 now2 t b other agrees want below h =
        let none = and_none_left ((p.signal == t) && nat_le p.low b) (nat_le b p.high)
        (and_none_left (p.signal == t) (nat_le p.low b) other) in
        let same = agrees.1 t b want below (rest_of (has_bit t b p) (known t b) none h) in
        let at1 = put_other p.signal t (with_piece signals p v1 (now1.0 p.signal)) now1.0 other in
        let at2 = put_other p.signal t (with_piece signals p v2 (now2.0 p.signal)) now2.0 other in (
          subst (λ z. z < 2 ^ signal_width signals t) (sym at1) same.0,
          subst (λ z. z < 2 ^ signal_width signals t) (sym at2) same.1,
          ap (λ z. bit_at z b) at1 ∙ same.2 ∙ sym (ap (λ z. bit_at z b) at2),
        )

    put_same_inside : (p : PieceForm) (v1 v2 : ℕ) (known : BitSet) (now1 now2 : State) (t b : ℕ)
        → PieceFits p
        → (IsTrue (wanted p.signal) → v1 ≡ v2) → Agrees known now1.0 now2.0 → IsTrue (wanted t)
        → b < signal_width signals t
        → IsTrue (has_bit t b p || known t b)
        → Inside (put_piece signals true v1 now1 p).0 (put_piece signals true v2 now2 p).0 t b
    put_same_inside p v1 v2 known now1 now2 t b fits same agrees want below h = ⊎_elim
        (λ there.
        let is = eqb-true p.signal t there in
        let want_p = subst (λ z. IsTrue (wanted z)) (sym is) want in
        subst (λ z. Inside (put_piece signals true v1 now1 p).0
        (put_piece signals true v2 now2 p).0 z b) is
        (subst (λ v. Inside (put_piece signals true v1 now1 p).0 (put_piece signals true v now2 p).0
        p.signal b) (same want_p)
        (put_same_there p v1 known now1 now2 b fits agrees want_p
        (subst (λ z. b < signal_width signals z) (sym is) below)
        (subst (λ z. IsTrue (has_bit z b p || known z b)) (sym is) h))))
        (λ other. put_same_elsewhere p v1 v2 known now1 now2 t b other agrees want below h)
        (either_way (p.signal == t))

    piece_agrees : (p : PieceForm) (v1 v2 : ℕ) (known : BitSet) (now1 now2 : State) → PieceFits p
        → IsTrue (own p.signal)
        → (IsTrue (wanted p.signal) → v1 ≡ v2) → Agrees known now1.0 now2.0
        → Agrees (λ t b. has_bit t b p || known t b) (put_piece signals true v1 now1 p).0
        (put_piece signals true v2 now2 p).0
    piece_agrees p v1 v2 known now1 now2 fits owned same agrees = (
      (λ t out given. put_same_outside p v1 v2 known now1 now2 t owned agrees out given),
      (λ t b want below h.
          put_same_inside p v1 v2 known now1 now2 t b fits same agrees want below h),
    )

    pieces_agree : (pieces : List PieceForm) (v1 v2 : ℕ) (known : BitSet) (now1 now2 : State)
        → ((p : PieceForm) → Contains pieces p → PieceFits p × IsTrue (own p.signal)
        × (IsTrue (wanted p.signal) → v1 ≡ v2))
        → Agrees known now1.0 now2.0
        → Agrees (λ t b. list_any (has_bit t b) pieces || known t b)
        (fold (put_piece signals true v1) now1 pieces).0
        (fold (put_piece signals true v2) now2 pieces).0
    pieces_agree [] v1 v2 known now1 now2 each agrees = agrees
    pieces_agree (p ∷ pieces) v1 v2 known now1 now2 each agrees =
        let here = each p (Contains-head p pieces) in
        let next1 = put_piece signals true v1 now1 p in
        let next2 = put_piece signals true v2 now2 p in
        weaken (λ t b. has_bit t b p || list_any (has_bit t b) pieces || known t b)
        (λ t b. list_any (has_bit t b) pieces || (has_bit t b p || known t b))
        (fold (put_piece signals true v1) next1 pieces).0
        (fold (put_piece signals true v2) next2 pieces).0
        (λ t b h. turned (has_bit t b p) (list_any (has_bit t b) pieces) (known t b) h)
        (pieces_agree pieces v1 v2 (λ t b. has_bit t b p || known t b) next1 next2
        (λ q at. each q (Contains-later p pieces q at))
        (piece_agrees p v1 v2 known now1 now2 here.0 here.1 here.2 agrees))

    -- ---- statements

    -- some wanted signal is assigned
    abbrev touches : FlatStatement → Bool
    touches nothing = false
    touches (after first second) = touches first || touches second
    touches (assign pieces place blocking right) =
        list_any (λ (p : PieceForm). wanted p.signal) pieces
    touches (branch place condition first second) = touches first || touches second

    touched : (body : FlatStatement) → IsTrue (touches body) →
        (t : ℕ) × IsTrue (wanted t) × IsTrue (assigns body t)
    touched nothing h = absurd (false≢true h)
    touched (after first second) h = ⊎_elim
        (λ l. let found = touched first l in
        (found.0, found.1, or_left (assigns first found.0) (assigns second found.0) found.2))
        (λ r. let found = touched second r in
        (found.0, found.1, or_right (assigns first found.0) (assigns second found.0) found.2))
        (or_cases (touches first) (touches second) h)
    touched (assign pieces place blocking right) h =
        let found = from_some (λ (p : PieceForm). wanted p.signal) pieces h in
        let p = found.0 in (
          p.signal,
          found.2,
          some_from (λ (q : PieceForm).
              q.signal == p.signal) pieces p found.1 (eq-eqb p.signal p.signal refl),
        )
    touched (branch place condition first second) h = ⊎_elim
        (λ l. let found = touched first l in
        (found.0, found.1, or_left (assigns first found.0) (assigns second found.0) found.2))
        (λ r. let found = touched second r in
        (found.0, found.1, or_right (assigns first found.0) (assigns second found.0) found.2))
        (or_cases (touches first) (touches second) h)

    untouched : (body : FlatStatement) → IsFalse (touches body) → (t : ℕ) → IsTrue (wanted t) →
        IsFalse (assigns body t)
    untouched nothing h t want = refl
    untouched (after first second) h t want = both_false (assigns first t) (assigns second t)
        (untouched first (or_none_left (touches first) (touches second) h) t want)
        (untouched second (or_none_right (touches first) (touches second) h) t want)
    untouched (assign pieces place blocking right) h t want =
        none_found (list_any (λ (p : PieceForm). p.signal == t) pieces) (λ some.
        let found = from_some (λ (p : PieceForm). p.signal == t) pieces some in
        let p = found.0 in
        false≢true (sym h ∙ some_from (λ (q : PieceForm). wanted q.signal) pieces p found.1
        (subst (λ z. IsTrue (wanted z)) (sym (eqb-true p.signal t found.2)) want)))
    untouched (branch place condition first second) h t want =
        both_false (assigns first t) (assigns second t)
        (untouched first (or_none_left (touches first) (touches second) h) t want)
        (untouched second (or_none_right (touches first) (touches second) h) t want)

    abbrev pub Owned : FlatStatement → Type 0
    Owned body = (t : ℕ) → IsTrue (assigns body t) → IsTrue (own t)

    -- a statement that assigns nothing wanted keeps what is known
    untouched_agrees : (body : FlatStatement) (before : BitSet) (now1 now2 : State)
        → IsFalse (touches body) → Owned body
        → Agrees before now1.0 now2.0
        → Agrees (either (always_assigns body) before) (run signals body now1).0
        (run signals body now2).0
    untouched_agrees body before now1 now2 none owned agrees = (
      (λ t out given.
          let free = none_found (assigns body t) (λ some. false≢true (sym out ∙ owned t some)) in
          run_leaves body t free now1 ∙ agrees.0 t out given ∙ sym (run_leaves body t free now2)),
      (λ t b want below h.
          let free = untouched body none t want in
          let not_here = none_found (always_assigns body t b) (λ some.
          false≢true (sym free ∙ can_is_assigned body t b (always_can body t b some))) in
          let same = agrees.1 t b want below
          (rest_of (always_assigns body t b) (before t b) not_here h) in
          let at1 = run_leaves body t free now1 in
          let at2 = run_leaves body t free now2 in (
            subst (λ z. z < 2 ^ signal_width signals t) (sym at1) same.0,
            subst (λ z. z < 2 ^ signal_width signals t) (sym at2) same.1,
            ap (λ z. bit_at z b) at1 ∙ same.2 ∙ sym (ap (λ z. bit_at z b) at2),
          )),
    )

    same_arm : (c d : Bool) (known : BitSet) (x1 y1 x2 y2 : State) → c ≡ d → Agrees known x1.0 x2.0
        → Agrees known y1.0 y2.0
        → Agrees known (cond c x1 y1).0 (cond d x2 y2).0
    same_arm true true known x1 y1 x2 y2 is first second = first
    same_arm true false known x1 y1 x2 y2 is first second = absurd (false≢true (sym is))
    same_arm false true known x1 y1 x2 y2 is first second = absurd (false≢true is)
    same_arm false false known x1 y1 x2 y2 is first second = second

    assign_agrees : (pieces : List PieceForm) (place : Place) (right : TypedTree)
        (before later : BitSet) (now1 now2 : State)
        → IsTrue (statement_sound signals (assign pieces place true right))
        → Owned (assign pieces place true right)
        → AllReady (readings signals (assign pieces place true right) before later)
        → Agrees before now1.0 now2.0
        → Agrees (either (always_assigns (assign pieces place true right)) before)
        (run signals (assign pieces place true right) now1).0
        (run signals (assign pieces place true right) now2).0
    assign_agrees pieces place right before later now1 now2 sound owned ready agrees =
        let whole = assign pieces place true right in
        let well = first_of (well_formed signals right) (list_all (piece_fits signals right) pieces)
        sound in
        let fit = second_of (well_formed signals right) (list_all (piece_fits signals right) pieces)
        sound in
        pieces_agree pieces (value signals now1.0 right) (value signals now2.0 right) before
        now1 now2
        (λ p at.
        let assigned = some_from (λ (q : PieceForm).
        q.signal == p.signal) pieces p at (eq-eqb p.signal p.signal refl) in (
          piece_lies_inside right p (from_all (piece_fits signals right) pieces p fit at),
          owned p.signal assigned,
          (λ want. right_same right (assigns whole) before
              (either (can_assign whole) later) p.signal now1.0 now2.0 well ready want assigned
              agrees),
        ))
        agrees

    -- Two runs of a sound statement of blocking assignments, from environments that agree, agree
    -- after it.
    pub runs_agree : (body : FlatStatement) (before later : BitSet) (now1 now2 : State)
        → IsTrue (statement_sound signals body) → IsTrue (all_blocking body) → Owned body
        → AllReady (readings signals body before later) → Agrees before now1.0 now2.0
        → Agrees (either (always_assigns body) before) (run signals body now1).0
        (run signals body now2).0
    runs_agree nothing before later now1 now2 sound blocking owned ready agrees = agrees
    runs_agree (after first second) before later now1 now2 sound blocking owned ready agrees =
        let mid = either (always_assigns first) before in
        let late = either (can_assign second) later in
        let in_first = readings signals first before late in
        let in_second = readings signals second mid later in
        weaken (either (always_assigns (after first second)) before)
        (either (always_assigns second) mid)
        (run signals (after first second) now1).0 (run signals (after first second) now2).0
        (λ t b h. turned (always_assigns first t b) (always_assigns second t b) (before t b) h)
        (runs_agree second mid later (run signals first now1) (run signals first now2)
        (second_of (statement_sound signals first) (statement_sound signals second) sound)
        (second_of (all_blocking first) (all_blocking second) blocking)
        (λ t h. owned t (or_right (assigns first t) (assigns second t) h))
        (λ r at. ready r (Contains-right in_first in_second r at))
        (runs_agree first before late now1 now2
        (first_of (statement_sound signals first) (statement_sound signals second) sound)
        (first_of (all_blocking first) (all_blocking second) blocking)
        (λ t h. owned t (or_left (assigns first t) (assigns second t) h))
        (λ r at. ready r (Contains-left in_first in_second r at))
        agrees))
    runs_agree (assign pieces place true right) before later now1 now2 sound blocking owned ready
        agrees =
        assign_agrees pieces place right before later now1 now2 sound owned ready agrees
    runs_agree (assign [] place false right) before later now1 now2 sound blocking owned ready
        agrees = agrees
    runs_agree (assign (p ∷ pieces) place false right) before later now1 now2 sound blocking owned
        ready agrees = absurd
        (false≢true blocking)
    runs_agree (branch place condition first second) before later now1 now2 sound blocking owned
        ready agrees =
        let whole = branch place condition first second in
        let here = readings_of signals condition (assigns whole) before
        (either (can_assign whole) later) in
        let in_first = readings signals first before later in
        let in_second = readings signals second before later in
        let first1 = run signals first now1 in
        let first2 = run signals first now2 in
        let second1 = run signals second now1 in
        let second2 = run signals second now2 in
        let front = first_of (well_formed signals condition && statement_sound signals first)
        (statement_sound signals second) sound in
        ⊎_elim
        (λ some.
        let target = touched whole some in
        same_arm (is_true (value signals now1.0 condition))
        (is_true (value signals now2.0 condition))
        (either (always_assigns whole) before)
        first1 second1 first2 second2
        (ap is_true (right_same condition (assigns whole) before (either (can_assign whole) later)
        target.0 now1.0 now2.0
        (first_of (well_formed signals condition) (statement_sound signals first) front)
        (λ r at.
        ready r (Contains-left (here ++ in_first) in_second r
        (Contains-left here in_first r at)))
        target.1 target.2 agrees))
        (weaken (either (always_assigns whole) before) (either (always_assigns first) before)
        first1.0 first2.0
        (λ t b h. both_or_first (always_assigns first t b) (always_assigns second t b)
        (before t b) h)
        (runs_agree first before later now1 now2
        (second_of (well_formed signals condition) (statement_sound signals first) front)
        (first_of (all_blocking first) (all_blocking second) blocking)
        (λ t h. owned t (or_left (assigns first t) (assigns second t) h))
        (λ r at.
        ready r (Contains-left (here ++ in_first) in_second r
        (Contains-right here in_first r at)))
        agrees))
        (weaken (either (always_assigns whole) before) (either (always_assigns second) before)
        second1.0 second2.0
        (λ t b h. both_or_second (always_assigns first t b) (always_assigns second t b)
        (before t b) h)
        (runs_agree second before later now1 now2
        (second_of (well_formed signals condition && statement_sound signals first)
        (statement_sound signals second) sound)
        (second_of (all_blocking first) (all_blocking second) blocking)
        (λ t h. owned t (or_right (assigns first t) (assigns second t) h))
        (λ r at. ready r (Contains-right (here ++ in_first) in_second r at))
        agrees)))
        (λ none. untouched_agrees whole before now1 now2 none owned agrees)
        (either_way (touches whole))
