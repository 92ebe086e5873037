-- The names in what is put for a name.
use Rattle.std.proofs.Common.{◌≡◌, ℕ, ◌-◌, ◌+◌, Bool, true, false, cond, ◌&&◌, ◌||◌, ◌==◌, not}
use Rattle.std.proofs.Common.{List, [], ◌∷◌, ◌++◌, fold, flat_map, refl, sym, ap, ap₂, ◌∙◌}
use Rattle.std.proofs.Common.{append_assoc, append-nil}
use Rattle.std.specs.Prelude.{IsTrue}
use Rattle.std.specs.List.{list_any}
use Rattle.std.proofs.lemmas.List.Folds.{list_any-append}
use Rattle.std.proofs.lemmas.List.{map-append}
use Rattle.sv_num.specs.Parts.{span_of}
use Rattle.sv_flat.specs.Design.{SignalForm, TypedTree, typed, mend, slice, PieceForm}
use Rattle.sv_flat.specs.Sets.{holds}
use Rattle.sv_flat.specs.Soundness.{is_whole}
use Rattle.sv_flat.specs.Values.{signal_of, signal_width}
use Rattle.sv_flat.specs.Readings.{ReadForm, reads}
use Rattle.sv_obl.specs.Paths.{pieces_of, covers}
use Rattle.sv_obl.specs.Exchange.{name, content}
use Rattle.sv_obl.specs.Routes.{signals_of_reads, names_in}
use Rattle.sv_obl.specs.Wanted.{with_copies, copy_of, is_copy, original, wanted_name, piece_value}
use Rattle.sv_obl.specs.Wanted.{with_piece_put, put_value, pieces_put, put_in}
use Rattle.sv_obl.proofs.RouteNames.{stands, exchanged_in}

-- ---- what is put for a name

module _ (signals both : List SignalForm) (right : TypedTree) (s : ℕ) where
  abbrev R : List ℕ
  R = names_in both right

  -- the names after a piece is put
  abbrev pub piece_names : List ℕ → PieceForm → List ℕ
  piece_names old piece =
      cond (not (piece.signal == s)) old (cond (is_whole signals piece) R (old ++ R))

  value_names : (piece : PieceForm) → names_in both (piece_value right piece) ≡ R
  value_names piece = by_from (piece.from == 0)
    where
      by_from : (c : Bool) → names_in both (cond c right (typed (span_of piece.high piece.low) false
          (slice right (piece.from + piece.high - piece.low) piece.from))) ≡ R
      by_from true = refl
      by_from false = refl

  one_put : (old : TypedTree) (piece : PieceForm)
      → names_in both (with_piece_put signals right s old piece)
      ≡ piece_names (names_in both old) piece
  one_put old piece = by_tests (not (piece.signal == s)) (is_whole signals piece)
    where
      mended : TypedTree
      mended = typed (signal_width signals s) (signal_of signals s).signed
          (mend s old piece.high piece.low (piece_value right piece))

      by_tests : (c d : Bool)
          → names_in both (cond c old (cond d (piece_value right piece)
          (typed (signal_width signals s) (signal_of signals s).signed
          (mend s old piece.high piece.low (piece_value right piece)))))
          ≡ cond c (names_in both old) (cond d R (names_in both old ++ R))
      by_tests true d = refl
      by_tests false true = value_names piece
      by_tests false false =
          map-append (λ (r : ReadForm). r.signal) (reads both old)
          (reads both (piece_value right piece))
          ∙ ap (λ ns. names_in both old ++ ns) (value_names piece)

  -- the names after all pieces are put
  pub all_put : (pieces : List PieceForm) (old : TypedTree)
      → names_in both (fold (with_piece_put signals right s) old pieces)
      ≡ fold piece_names (names_in both old) pieces
  all_put [] old = refl
  all_put (piece ∷ pieces) old =
      all_put pieces (with_piece_put signals right s old piece)
      ∙ ap (λ ns. fold piece_names ns pieces) (one_put old piece)

  -- some piece is one of the signal
  abbrev pub some_piece : List PieceForm → Bool
  some_piece pieces = list_any (λ (piece : PieceForm). piece.signal == s) pieces

  covers_some : (pieces : List PieceForm) → IsTrue (covers signals s pieces) →
      some_piece pieces ≡ true
  covers_some [] h = h
  covers_some (piece ∷ pieces) h = by_signal (piece.signal == s) (covers_some pieces) h
    where
      by_signal : (c : Bool)
          → (IsTrue (covers signals s pieces) → some_piece pieces ≡ true)
          → IsTrue (list_any (is_whole signals) (cond c (piece ∷ pieces_of s pieces)
          (pieces_of s pieces)))
          → (c || some_piece pieces) ≡ true
      by_signal true later h = refl
      by_signal false later h = later h

  -- What is left of them is the name itself where no piece covers the signal, and names in the
  -- right side.
  pub record LeftOf (old : List ℕ) (pieces : List PieceForm) : Type 0 where
    pub more : List ℕ
    pub are : fold piece_names old pieces
        ≡ cond (covers signals s pieces) [] old ++ more
    pub each : (t : ℕ) → holds more t ≡ (some_piece pieces && holds R t)

  absorbed : (a b : Bool) → (a || b && a) ≡ a
  absorbed true b = refl
  absorbed false true = refl
  absorbed false false = refl

  then_left : (old : List ℕ) (piece : PieceForm) (pieces : List PieceForm) (c d : Bool)
      → LeftOf (cond (not c) old (cond d R (old ++ R))) pieces
      → is_whole signals piece ≡ d
      → (more : List ℕ)
      × (fold piece_names (cond (not c) old (cond d R (old ++ R))) pieces
      ≡ cond (list_any (is_whole signals) (cond c (piece ∷ pieces_of s pieces)
      (pieces_of s pieces))) [] old ++ more)
      × ((t : ℕ) → holds more t ≡ ((c || some_piece pieces) && holds R t))
  then_left old piece pieces false d rest whole = (rest.more, rest.are, rest.each)
  then_left old piece pieces true true rest whole = by_rest (covers signals s pieces) refl
    where
      by_rest : (e : Bool) → covers signals s pieces ≡ e
          → (more : List ℕ)
          × (fold piece_names R pieces
          ≡ cond (is_whole signals piece || covers signals s pieces) [] old ++ more)
          × ((t : ℕ) → holds more t ≡ holds R t)
      by_rest true is = (
        rest.more,
        rest.are ∙ ap (λ a. cond a [] R ++ rest.more) is
            ∙ ap (λ a. cond (a || covers signals s pieces) [] old ++ rest.more) (sym whole),
        λ t. rest.each t ∙ ap (λ a. a && holds R t) (covers_some pieces is),
      )
      by_rest false is = (
        R ++ rest.more,
        rest.are ∙ ap (λ a. cond a [] R ++ rest.more) is
            ∙ ap (λ a. cond (a || covers signals s pieces) [] old ++ (R ++ rest.more)) (sym whole),
        λ t. list_any-append (λ m. m == t) R rest.more
            ∙ ap (λ a. holds R t || a) (rest.each t)
            ∙ absorbed (holds R t) (some_piece pieces),
      )
  then_left old piece pieces true false rest whole = by_rest (covers signals s pieces) refl
    where
      by_rest : (e : Bool) → covers signals s pieces ≡ e
          → (more : List ℕ)
          × (fold piece_names (old ++ R) pieces
          ≡ cond (is_whole signals piece || covers signals s pieces) [] old ++ more)
          × ((t : ℕ) → holds more t ≡ holds R t)
      by_rest true is = (
        rest.more,
        rest.are ∙ ap (λ a. cond a [] (old ++ R) ++ rest.more) is
            ∙ ap₂ (λ a b. cond (a || b) [] old ++ rest.more) (sym whole) (sym is),
        λ t. rest.each t ∙ ap (λ a. a && holds R t) (covers_some pieces is),
      )
      by_rest false is = (
        R ++ rest.more,
        rest.are ∙ ap (λ a. cond a [] (old ++ R) ++ rest.more) is
            ∙ append_assoc old R rest.more
            ∙ ap₂ (λ a b. cond (a || b) [] old ++ (R ++ rest.more)) (sym whole) (sym is),
        λ t. list_any-append (λ m. m == t) R rest.more
            ∙ ap (λ a. holds R t || a) (rest.each t)
            ∙ absorbed (holds R t) (some_piece pieces),
      )

  pub left_of : (pieces : List PieceForm) (old : List ℕ) → LeftOf old pieces
  left_of [] old = record { more = []; are = sym (append-nil old); each = λ t. refl }
  left_of (piece ∷ pieces) old =
      let found = then_left old piece pieces (piece.signal == s) (is_whole signals piece)
      (left_of pieces (piece_names old piece)) refl in
      record { more = found.0; are = found.1; each = found.2 }

-- ---- names put in

-- of reads only the signals matter
pub by_signals : (f : ReadForm → List ℕ) (g : ℕ → List ℕ) → ((r : ReadForm) → f r ≡ g r.signal)
    → (rs : List ReadForm) → flat_map f rs ≡ flat_map g (signals_of_reads rs)
by_signals f g same [] = refl
by_signals f g same (r ∷ rs) = ap₂ (λ a b. a ++ b) (same r) (by_signals f g same rs)

-- what is put in an expression for the wanted names of pieces
module _ (signals : List SignalForm) (pieces : List PieceForm) (way : TypedTree) where
  abbrev both : List SignalForm
  both = with_copies signals

  abbrev pub some_of : ℕ → Bool
  some_of o = list_any (λ (piece : PieceForm). piece.signal == o) pieces

  -- the names in what is put for a name
  abbrev pub put_names : ℕ → List ℕ
  put_names x = cond (is_copy signals x && some_of (original signals x))
      (fold (piece_names signals both way (original signals x))
      (copy_of signals (original signals x) ∷ []) pieces) (x ∷ [])

  put_is : (r : ReadForm) → stands both (pieces_put signals pieces way r) ≡ put_names r.signal
  put_is r = by_test (is_copy signals r.signal && some_of (original signals r.signal))
    where
      by_test : (c : Bool)
          → stands both (cond c (content (original signals r.signal)
          (put_value signals pieces way (original signals r.signal) r.place)) (name r.signal))
          ≡ cond c (fold (piece_names signals both way (original signals r.signal))
          (copy_of signals (original signals r.signal) ∷ []) pieces) (r.signal ∷ [])
      by_test true = all_put signals both way (original signals r.signal) pieces
          (wanted_name signals (original signals r.signal) r.place)
      by_test false = refl

  pub names_put : (e : TypedTree) →
      names_in both (put_in signals pieces way e) ≡ flat_map put_names (names_in both e)
  names_put e =
      exchanged_in both both (pieces_put signals pieces way) e
      ∙ by_signals (λ r. stands both (pieces_put signals pieces way r)) put_names put_is
      (reads both e)
