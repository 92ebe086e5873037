-- In a sound body in which no assignment has a bit twice, a covered signal has one piece.
use Rattle.std.proofs.Common.{◌≡◌, ℕ, ◌+◌, ◌<◌, ◌≤◌, Bool, true, false, cond, ◌&&◌, ◌||◌, ◌==◌}
use Rattle.std.proofs.Common.{nat_le, nat_lt, List, [], ◌∷◌, length, refl, sym, ap, ◌∙◌, arith}
use Rattle.std.proofs.Common.{◌-◌, eq-eqb, ltb-true}
use Rattle.std.specs.Prelude.{Contains, IsTrue}
use Rattle.std.specs.List.{list_any, list_all}
use Rattle.std.proofs.lemmas.Bool.{false≢true, eqb-true, leb-true, le-leb}
use Rattle.sv_system.proofs.Lists.{Contains-head, Contains-later}
use Rattle.sv_flat.specs.Design.{SignalForm, TypedTree, PieceForm, FlatStatement, nothing, after}
use Rattle.sv_flat.specs.Design.{assign, branch}
use Rattle.sv_flat.specs.Values.{signal_width, expression_width}
use Rattle.sv_flat.specs.Soundness.{is_whole, is_signal, is_part_of, piece_fits, statement_sound}
use Rattle.sv_flat.specs.Soundness.{well_formed}
use Rattle.sv_flat.specs.Assigned.{can_assign}
use Rattle.sv_flat.specs.Assignments.{overlap}
use Rattle.sv_flat.specs.Readings.{BitSet, either}
use Rattle.sv_flat.proofs.Depths.{first_of, second_of, from_all}
use Rattle.sv_flat.proofs.LeastSets.{some_from}
use Rattle.sv_obl.specs.Paths.{pieces_of, covers}
use Rattle.sv_obl.specs.Wanted.{marked}
use Rattle.sv_obl.proofs.PathLists.{both_true}
use Rattle.sv_paths.proofs.TrailPaths.{LonePieces}

-- no piece has a bit that one before has
abbrev pub Untwice : (before pieces : List PieceForm) → Type 0
Untwice before [] = Unit {0}
Untwice before (p ∷ ps) = (list_any (overlap p) before ≡ false) × Untwice (p ∷ before) ps

abbrev pub NoneTwice : FlatStatement → Type 0
NoneTwice nothing = Unit {0}
NoneTwice (after first second) = NoneTwice first × NoneTwice second
NoneTwice (assign pieces place blocking right) = Untwice [] pieces
NoneTwice (branch place condition first second) = NoneTwice first × NoneTwice second

apart : (p q : PieceForm) (before : List PieceForm) → list_any (overlap p) before ≡ false
    → Contains before q → overlap p q ≡ true → ⊥
apart p q before none at same = false≢true (sym none ∙ some_from (overlap p) before q at same)

module _ (signals : List SignalForm) where
  -- a piece lies in its signal
  abbrev pub Lies : PieceForm → Type 0
  Lies p = (p.low ≤ p.high) × (p.high < signal_width signals p.signal)

  abbrev pub AllLie : List PieceForm → Type 0
  AllLie ps = (p : PieceForm) → Contains ps p → Lies p

  -- what is the whole signal begins no later than a piece of it ends, and ends no sooner than it
  -- begins
  whole_around : (w q : PieceForm) → IsTrue (is_whole signals w) → w.signal ≡ q.signal → Lies q →
      (w.low ≤ q.high) × (q.low ≤ w.high)
  whole_around w q whole same lies =
      let low = eqb-true w.low 0
      (first_of (w.low == 0) (w.high + 1 == signal_width signals w.signal) whole) in
      let high = eqb-true (w.high + 1) (signal_width signals w.signal)
      (second_of (w.low == 0) (w.high + 1 == signal_width signals w.signal) whole) in
      let width = ap (signal_width signals) same in
      let ordered = lies.0 in
      let inside = lies.1 in (omega arith, omega arith)

  common : (p q : PieceForm) → p.signal ≡ q.signal → p.low ≤ q.high → q.low ≤ p.high →
      overlap p q ≡ true
  common p q same first second =
      both_true ((p.signal == q.signal) && nat_le p.low q.high) (nat_le q.low p.high)
      (both_true (p.signal == q.signal) (nat_le p.low q.high) (eq-eqb p.signal q.signal same)
      (le-leb p.low q.high first))
      (le-leb q.low p.high second)

  -- so it has a bit in common with it
  whole_first : (w q : PieceForm) → IsTrue (is_whole signals w) → w.signal ≡ q.signal → Lies q →
      overlap w q ≡ true
  whole_first w q whole same lies =
      let around = whole_around w q whole same lies in common w q same around.0 around.1

  whole_second : (w q : PieceForm) → IsTrue (is_whole signals w) → w.signal ≡ q.signal → Lies q →
      overlap q w ≡ true
  whole_second w q whole same lies =
      let around = whole_around w q whole same lies in common q w (sym same) around.1 around.0

  module _ (o : ℕ) where
    none_after : (ps before : List PieceForm) → Untwice before ps → AllLie ps
        → (w : PieceForm) → Contains before w → IsTrue (is_whole signals w) → w.signal ≡ o
        → length (pieces_of o ps) ≡ 0
    none_after [] before untwice lie w at whole own = refl
    none_after (q ∷ ps) before untwice lie w at whole own =
        by_signal (q.signal == o) refl
        (none_after ps (q ∷ before) untwice.1 (λ x x_at. lie x (Contains-later q ps x x_at)) w
        (Contains-later q before w at) whole own)
      where
        by_signal : (c : Bool) → (q.signal == o) ≡ c → length (pieces_of o ps) ≡ 0
            → length (cond c (q ∷ pieces_of o ps) (pieces_of o ps)) ≡ 0
        by_signal true is rest = absurd (apart q w before untwice.0 at
            (whole_second w q whole (own ∙ sym (eqb-true q.signal o is))
            (lie q (Contains-head q ps))))
        by_signal false is rest = rest

    no_cover_after : (ps before : List PieceForm) → Untwice before ps
        → (p : PieceForm) → Contains before p → p.signal ≡ o → Lies p
        → covers signals o ps ≡ true → ⊥
    no_cover_after [] before untwice p at own lies covered = false≢true covered
    no_cover_after (q ∷ ps) before untwice p at own lies covered =
        by_signal (q.signal == o) refl covered
        (no_cover_after ps (q ∷ before) untwice.1 p (Contains-later q before p at) own lies)
      where
        by_whole : (d : Bool) → is_whole signals q ≡ d → q.signal ≡ o
            → (d || list_any (is_whole signals) (pieces_of o ps)) ≡ true
            → (covers signals o ps ≡ true → ⊥) → ⊥
        by_whole true whole same covered rest = apart q p before untwice.0 at
            (whole_first q p whole (same ∙ sym own) lies)
        by_whole false whole same covered rest = rest covered

        by_signal : (c : Bool) → (q.signal == o) ≡ c
            → list_any (is_whole signals) (cond c (q ∷ pieces_of o ps) (pieces_of o ps)) ≡ true
            → (covers signals o ps ≡ true → ⊥) → ⊥
        by_signal true is covered rest =
            by_whole (is_whole signals q) refl (eqb-true q.signal o is) covered rest
        by_signal false is covered rest = rest covered

    one_piece : (ps before : List PieceForm) → Untwice before ps → AllLie ps
        → covers signals o ps ≡ true → length (pieces_of o ps) ≡ 1
    one_piece [] before untwice lie covered = absurd (false≢true covered)
    one_piece (p ∷ ps) before untwice lie covered =
        by_signal (p.signal == o) refl covered
        (one_piece ps (p ∷ before) untwice.1 (λ x x_at. lie x (Contains-later p ps x x_at)))
      where
        by_whole : (d : Bool) → is_whole signals p ≡ d → p.signal ≡ o
            → (d || list_any (is_whole signals) (pieces_of o ps)) ≡ true
            → length (p ∷ pieces_of o ps) ≡ 1
        by_whole true whole own covered =
            let none = none_after ps (p ∷ before) untwice.1
            (λ x x_at. lie x (Contains-later p ps x x_at)) p (Contains-head p before) whole own in
            omega arith
        by_whole false whole own covered = absurd (no_cover_after ps (p ∷ before) untwice.1 p
            (Contains-head p before) own (lie p (Contains-head p ps)) covered)

        by_signal : (c : Bool) → (p.signal == o) ≡ c
            → list_any (is_whole signals) (cond c (p ∷ pieces_of o ps) (pieces_of o ps)) ≡ true
            → (covers signals o ps ≡ true → length (pieces_of o ps) ≡ 1)
            → length (cond c (p ∷ pieces_of o ps) (pieces_of o ps)) ≡ 1
        by_signal true is covered rest =
            by_whole (is_whole signals p) refl (eqb-true p.signal o is) covered
        by_signal false is covered rest = rest covered

  -- ---- statements

  fitting_lie : (right : TypedTree) (pieces : List PieceForm)
      → IsTrue (list_all (piece_fits signals right) pieces) → AllLie pieces
  fitting_lie right pieces fit p at =
      let fits = from_all (piece_fits signals right) pieces p fit at in
      let part = second_of (is_signal signals p.signal)
      (is_part_of (signal_width signals p.signal) (expression_width right - p.from) p.high p.low)
      fits in
      let front = first_of (nat_le p.low p.high && nat_lt p.high (signal_width signals p.signal))
      (nat_le (p.high + 1 - p.low) (expression_width right - p.from)) part in (
        leb-true p.low p.high (first_of (nat_le p.low p.high)
            (nat_lt p.high (signal_width signals p.signal)) front),
        ltb-true p.high (signal_width signals p.signal) (second_of (nat_le p.low p.high)
            (nat_lt p.high (signal_width signals p.signal)) front),
      )

  pub lone_pieces : (statement : FlatStatement) → IsTrue (statement_sound signals statement)
      → NoneTwice statement → LonePieces signals statement
  lone_pieces nothing sound untwice = tt
  lone_pieces (after first second) sound untwice = (
    lone_pieces first
        (first_of (statement_sound signals first) (statement_sound signals second) sound)
        untwice.0,
    lone_pieces second
        (second_of (statement_sound signals first) (statement_sound signals second) sound)
        untwice.1,
  )
  lone_pieces (assign pieces place blocking right) sound untwice =
      λ o covered. one_piece o pieces [] untwice
      (fitting_lie right pieces
      (second_of (well_formed signals right) (list_all (piece_fits signals right) pieces) sound))
      covered
  lone_pieces (branch place condition first second) sound untwice =
      let front = first_of (well_formed signals condition && statement_sound signals first)
      (statement_sound signals second) sound in (
        lone_pieces first
            (second_of (well_formed signals condition) (statement_sound signals first) front)
            untwice.0,
        lone_pieces second
            (second_of (well_formed signals condition && statement_sound signals first)
            (statement_sound signals second) sound)
            untwice.1,
      )

  -- wanted names change no piece
  pub marked_lone : (in_block : Bool) (statement : FlatStatement) (later : BitSet)
      → LonePieces signals statement
      → LonePieces signals (marked signals in_block statement later)
  marked_lone in_block nothing later lone = tt
  marked_lone in_block (after first second) later lone = (
    marked_lone in_block first (either (can_assign second) later) lone.0,
    marked_lone in_block second later lone.1,
  )
  marked_lone in_block (assign pieces place blocking right) later lone = lone
  marked_lone in_block (branch place condition first second) later lone = (
    marked_lone in_block first later lone.0,
    marked_lone in_block second later lone.1,
  )
