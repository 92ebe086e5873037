-- Which wanted name an expression is by itself, and is where an assignment is put in.
use Rattle.std.proofs.Common.{◌≡◌, ℕ, suc, ◌+◌, ◌-◌, ◌≤◌, Bool, true, false, cond, ◌&&◌, ◌||◌}
use Rattle.std.proofs.Common.{◌==◌, not, nat_lt, List, [], ◌∷◌, length, filter, fold}
use Rattle.std.proofs.Common.{Option, Some, None, option_map, slice_get, refl, sym, ap, ◌∙◌}
use Rattle.std.proofs.Common.{arith, ltb-true, ne_eqb}
use Rattle.std.specs.List.{list_any}
use Rattle.std.proofs.lemmas.Bool.{false≢true, ltb-false, le-leb, le-ltb}
use Rattle.sv_num.specs.declared.faults.Place.{Place}
use Rattle.sv_num.specs.Parts.{span_of}
use Rattle.sv_flat.specs.Design.{SignalForm, TypedTree, typed, read, read_bit, read_part, held, mend}
use Rattle.sv_flat.specs.Design.{slice, PieceForm}
use Rattle.sv_flat.specs.Soundness.{is_whole}
use Rattle.sv_flat.specs.Values.{signal_of, signal_width}
use Rattle.sv_flat.specs.Readings.{indexed_read}
use Rattle.sv_obl.specs.Exchange.{Instead, name, content, for_whole, for_bit, for_part}
use Rattle.sv_obl.specs.Paths.{pieces_of, covers, covers_name, name_itself}
use Rattle.sv_obl.specs.Routes.{names_in}
use Rattle.sv_paths.specs.Trails.{own_name, whole_from}
use Rattle.sv_obl.specs.Wanted.{with_copies, is_copy, original, wanted_name, piece_value}
use Rattle.sv_obl.specs.Wanted.{with_piece_put, put_value, pieces_put, put_in}
use Rattle.sv_obl.proofs.TreeFacts.{part_read}
use Rattle.sv_paths.proofs.TrailNames.{signal_low}

some_same : (a b : ℕ) → Some a ≡ Some b → a ≡ b
some_same a b e = cc

none_some : (t : ℕ) → None ≡ Some t → ⊥
none_some t e = cc

copy_back : (n s : ℕ) → n + s - n ≡ s
copy_back n s = omega arith

copy_again : (n t : ℕ) → n ≤ t → t ≡ n + (t - n)
copy_again n t high = omega arith

module _ (signals : List SignalForm) where
  abbrev n : ℕ
  n = length signals

  abbrev both : List SignalForm
  both = with_copies signals

  copy_of_high : (t : ℕ) → nat_lt t (length signals) ≡ false → is_copy signals t ≡ true
  copy_of_high t is = le-leb (length signals) t (ltb-false t (length signals) is)

  copy_of_low : (t : ℕ) → nat_lt t (length signals) ≡ true → is_copy signals t ≡ false
  copy_of_low t is = signal_low signals t (ltb-true t (length signals) is)

  -- the pieces cover the signal whose wanted name it is
  abbrev pub covers_own : List PieceForm → Option ℕ → Bool
  covers_own pieces None = false
  covers_own pieces (Some o) = covers signals o pieces

  pub covers_is : (pieces : List PieceForm) (e : TypedTree) →
      covers_name signals pieces (name_itself e) ≡ covers_own pieces (own_name n e)
  covers_is pieces (typed w signed (read t place)) = by_test (nat_lt t (length signals)) refl
    where
      by_test : (b : Bool) → nat_lt t (length signals) ≡ b
          → (is_copy signals t && covers signals (original signals t) pieces)
          ≡ covers_own pieces (cond b None (Some (t - length signals)))
      by_test true is =
          ap (λ c. c && covers signals (original signals t) pieces) (copy_of_low t is)
      by_test false is =
          ap (λ c. c && covers signals (original signals t) pieces) (copy_of_high t is)
  covers_is pieces (typed w signed (held t e)) = covers_is pieces e
  covers_is pieces e = refl

  -- it is the only name in it
  pub own_names : (e : TypedTree) (o : ℕ) → own_name n e ≡ Some o →
      names_in both e ≡ (n + o) ∷ []
  own_names (typed w signed (read t place)) o is =
      by_test (nat_lt t (length signals)) refl is
    where
      by_test : (b : Bool) → nat_lt t (length signals) ≡ b
          → cond b None (Some (t - length signals)) ≡ Some o
          → t ∷ [] ≡ (length signals + o) ∷ []
      by_test true low is = absurd (none_some o is)
      by_test false high is =
          ap (λ z. z ∷ []) (copy_again (length signals) t (ltb-false t (length signals) high)
          ∙ ap (λ z. length signals + z) (some_same (t - length signals) o is))
  own_names (typed w signed (held t e)) o is = own_names e o is
  own_names e o is = absurd (none_some o is)

  pub own_open : (o : ℕ) →
      own_name n (wanted_name signals o (signal_of signals o).place) ≡ Some o
  own_open o =
      ap (λ b. cond b None (Some (length signals + o - length signals)))
      (le-ltb (length signals + o) (length signals) (omega arith))
      ∙ ap Some (copy_back (length signals) o)

  -- ---- pieces put in

  module _ (way : TypedTree) where
    -- of a piece that covers it
    abbrev pub own_of : PieceForm → Option ℕ
    own_of p = cond (p.from == 0) (own_name (length signals) way) None

    module _ (o : ℕ) where
      abbrev pub own_step : Option ℕ → PieceForm → Option ℕ
      own_step old p = cond (not (p.signal == o)) old (cond (is_whole signals p) (own_of p) None)

      one_step : (e : TypedTree) (p : PieceForm)
          → own_name (length signals) (with_piece_put signals way o e p)
          ≡ own_step (own_name (length signals) e) p
      one_step e p = by_tests (p.signal == o) (is_whole signals p) (p.from == 0)
        where
          by_tests : (c d f : Bool)
              → own_name (length signals) (cond (not c) e (cond d
              (cond f way (typed (span_of p.high p.low) false
              (slice way (p.from + p.high - p.low) p.from)))
              (typed (signal_width signals o) (signal_of signals o).signed
              (mend o e p.high p.low (piece_value way p)))))
              ≡ cond (not c) (own_name (length signals) e)
              (cond d (cond f (own_name (length signals) way) None) None)
          by_tests false d f = refl
          by_tests true false f = refl
          by_tests true true true = refl
          by_tests true true false = refl

      own_fold : (ps : List PieceForm) (e : TypedTree)
          → own_name (length signals) (fold (with_piece_put signals way o) e ps)
          ≡ fold own_step (own_name (length signals) e) ps
      own_fold [] e = refl
      own_fold (p ∷ ps) e =
          own_fold ps (with_piece_put signals way o e p)
          ∙ ap (λ old. fold own_step old ps) (one_step e p)

    abbrev some_of : List PieceForm → ℕ → Bool
    some_of pieces o = list_any (λ (piece : PieceForm). piece.signal == o) pieces

    abbrev pub own_after : List PieceForm → Option ℕ → Option ℕ
    own_after pieces None = None
    own_after pieces (Some o) = cond (some_of pieces o) (fold (own_step o) (Some o) pieces) (Some o)

    module _ (pieces : List PieceForm) where
      own_wanted : (o : ℕ) (place : Place)
          → own_name (length signals) (put_value signals pieces way o place)
          ≡ fold (own_step o) (Some o) pieces
      own_wanted o place =
          own_fold o pieces (wanted_name signals o place)
          ∙ ap (λ old. fold (own_step o) old pieces)
          (ap (λ b. cond b None (Some (length signals + o - length signals)))
          (le-ltb (length signals + o) (length signals) (omega arith))
          ∙ ap Some (copy_back (length signals) o))

      bit_none : (w : ℕ) (signed : Bool) (i : Instead) (place : Place) (index : TypedTree)
          → own_name (length signals) (typed w signed (for_bit i place index)) ≡ None
      bit_none w signed (name t) place index = refl
      bit_none w signed (content t e) place index = refl

      part_none : (w : ℕ) (signed : Bool) (i : Instead) (place : Place) (high low : ℕ)
          → own_name (length signals) (typed w signed (for_part i place high low)) ≡ None
      part_none w signed (name t) place high low = refl
      part_none w signed (content t e) place high low = refl

      -- the name of what is read, where that is a copy or not
      abbrev seen : (w : ℕ) (signed : Bool) (t : ℕ) (place : Place) → Bool → Option ℕ
      seen w signed t place c =
          own_name (length signals) (typed w signed (for_whole
          (cond (c && some_of pieces (original signals t))
          (content (original signals t)
          (put_value signals pieces way (original signals t) place)) (name t)) place))

      pub own_put : (e : TypedTree) →
          own_name n (put_in signals pieces way e) ≡ own_after pieces (own_name n e)
      own_put (typed w signed (read t place)) = by_test (nat_lt t (length signals)) refl
        where
          by_some : nat_lt t (length signals) ≡ false → (c : Bool)
              → own_name (length signals) (typed w signed (for_whole
              (cond c (content (original signals t)
              (put_value signals pieces way (original signals t) place)) (name t)) place))
              ≡ cond c (fold (own_step (t - length signals)) (Some (t - length signals)) pieces)
              (Some (t - length signals))
          by_some is true = own_wanted (t - length signals) place
          by_some is false = ap (λ b. cond b None (Some (t - length signals))) is

          by_test : (b : Bool) → nat_lt t (length signals) ≡ b
              → seen w signed t place (is_copy signals t)
              ≡ own_after pieces (cond b None (Some (t - length signals)))
          by_test true is =
              ap (seen w signed t place) (copy_of_low t is)
              ∙ ap (λ b. cond b None (Some (t - length signals))) is
          by_test false is =
              ap (seen w signed t place) (copy_of_high t is)
              ∙ by_some is (some_of pieces (original signals t))
      own_put (typed w signed (held t e)) = own_put e
      own_put (typed w signed (read_bit t place i)) =
          bit_none w signed (pieces_put signals pieces way (indexed_read both t place i)) place
          (put_in signals pieces way i)
      own_put (typed w signed (read_part t place high low)) =
          part_none w signed (pieces_put signals pieces way (part_read t place high low)) place high
          low
      own_put e = refl

    -- ---- what pieces leave

    module _ (o : ℕ) where
      pub fold_same : (ps : List PieceForm) (old : Option ℕ) → length (pieces_of o ps) ≡ 0 →
          fold (own_step o) old ps ≡ old
      fold_same [] old none = refl
      fold_same (p ∷ ps) old none = by_signal (p.signal == o) none (fold_same ps old)
        where
          by_signal : (c : Bool)
              → length (cond c (p ∷ pieces_of o ps) (pieces_of o ps)) ≡ 0
              → (length (pieces_of o ps) ≡ 0 → fold (own_step o) old ps ≡ old)
              → fold (own_step o)
              (cond (not c) old (cond (is_whole signals p) (own_of p) None)) ps ≡ old
          by_signal true none rest = absurd (omega arith)
          by_signal false none rest = rest none

      -- a single piece, which is the whole signal
      pub one_whole : (ps : List PieceForm) (old : Option ℕ) → length (pieces_of o ps) ≡ 1
          → covers signals o ps ≡ true
          → (from : ℕ) × (whole_from signals (Some o) ps ≡ Some from)
          × (fold (own_step o) old ps ≡ cond (from == 0) (own_name (length signals) way) None)
      one_whole [] old one covered = absurd (false≢true covered)
      one_whole (p ∷ ps) old one covered =
          by_signal (p.signal == o) one covered (one_whole ps old)
        where
          none_whole : (qs : List PieceForm) → length qs ≡ 0 →
              list_any (is_whole signals) qs ≡ false
          none_whole [] none = refl
          none_whole (q ∷ qs) none = absurd (omega arith)

          or_none : (a b : Bool) → b ≡ false → (a || b) ≡ true → a ≡ true
          or_none true b none is = refl
          or_none false b none is = absurd (false≢true (sym none ∙ is))

          by_signal : (c : Bool)
              → length (cond c (p ∷ pieces_of o ps) (pieces_of o ps)) ≡ 1
              → list_any (is_whole signals) (cond c (p ∷ pieces_of o ps) (pieces_of o ps)) ≡ true
              → (length (pieces_of o ps) ≡ 1 → covers signals o ps ≡ true
              → (from : ℕ) × (whole_from signals (Some o) ps ≡ Some from)
              × (fold (own_step o) old ps
              ≡ cond (from == 0) (own_name (length signals) way) None))
              → (from : ℕ) × (option_map (λ (q : PieceForm). q.from) (slice_get
              (filter (is_whole signals) (cond c (p ∷ pieces_of o ps) (pieces_of o ps))) 0)
              ≡ Some from)
              × (fold (own_step o) (cond (not c) old (cond (is_whole signals p) (own_of p) None)) ps
              ≡ cond (from == 0) (own_name (length signals) way) None)
          by_signal true one covered rest =
              let none : length (pieces_of o ps) ≡ 0 = omega arith in
              let whole = or_none (is_whole signals p)
              (list_any (is_whole signals) (pieces_of o ps))
              (none_whole (pieces_of o ps) none) covered in (
                p.from,
                ap (λ b. option_map (λ (q : PieceForm). q.from) (slice_get
                    (cond b (p ∷ filter (is_whole signals) (pieces_of o ps))
                    (filter (is_whole signals) (pieces_of o ps))) 0)) whole,
                ap (λ b. fold (own_step o) (cond b (own_of p) None) ps) whole
                    ∙ fold_same ps (own_of p) none,
              )
          by_signal false one covered rest = rest one covered

      none_taken : (ps : List PieceForm) → covers signals o ps ≡ false →
          filter (is_whole signals) (pieces_of o ps) ≡ []
      none_taken ps none = in_list (pieces_of o ps) none
        where
          in_list : (qs : List PieceForm) → list_any (is_whole signals) qs ≡ false →
              filter (is_whole signals) qs ≡ []
          in_list [] none = refl
          in_list (q ∷ qs) none = by_whole (is_whole signals q) none (in_list qs)
            where
              by_whole : (b : Bool) → (b || list_any (is_whole signals) qs) ≡ false
                  → (list_any (is_whole signals) qs ≡ false → filter (is_whole signals) qs ≡ [])
                  → cond b (q ∷ filter (is_whole signals) qs) (filter (is_whole signals) qs) ≡ []
              by_whole true none rest = absurd (false≢true (sym none))
              by_whole false none rest = rest none

      pub no_whole_from : (ps : List PieceForm) → covers signals o ps ≡ false →
          whole_from signals (Some o) ps ≡ None
      no_whole_from ps none =
          ap (λ qs. option_map (λ (q : PieceForm). q.from) (slice_get qs 0)) (none_taken ps none)

      -- pieces that are no whole signal
      pub none_own : (ps : List PieceForm) (old : Option ℕ) → covers signals o ps ≡ false
          → (length (pieces_of o ps) ≡ 0 → old ≡ None)
          → fold (own_step o) old ps ≡ None
      none_own [] old none known = known refl
      none_own (p ∷ ps) old none known =
          by_signal (p.signal == o) (is_whole signals p) none known (none_own ps)
        where
          by_signal : (c d : Bool)
              → list_any (is_whole signals) (cond c (p ∷ pieces_of o ps) (pieces_of o ps)) ≡ false
              → (length (cond c (p ∷ pieces_of o ps) (pieces_of o ps)) ≡ 0 → old ≡ None)
              → ((x : Option ℕ) → covers signals o ps ≡ false
              → (length (pieces_of o ps) ≡ 0 → x ≡ None) → fold (own_step o) x ps ≡ None)
              → fold (own_step o) (cond (not c) old (cond (is_whole signals p) (own_of p) None)) ps
              ≡ None
          by_signal true d none known rest =
              by_whole (is_whole signals p) none
            where
              by_whole : (b : Bool) → (b || list_any (is_whole signals) (pieces_of o ps)) ≡ false
                  → fold (own_step o) (cond b (own_of p) None) ps ≡ None
              by_whole true none = absurd (false≢true (sym none))
              by_whole false none = rest None none (λ h. refl)
          by_signal false d none known rest = rest old none known

-- some piece is one of the signal
pub some_counted : (o : ℕ) (ps : List PieceForm) →
    list_any (λ (piece : PieceForm). piece.signal == o) ps ≡ not (length (pieces_of o ps) == 0)
some_counted o [] = refl
some_counted o (p ∷ ps) = by_signal (p.signal == o) (some_counted o ps)
  where
    positive : (k : ℕ) → not (suc k == 0) ≡ true
    positive k = ap not (ne_eqb (suc k) 0 (λ e. absurd (omega arith)))

    by_signal : (c : Bool)
        → list_any (λ (piece : PieceForm). piece.signal == o) ps
        ≡ not (length (pieces_of o ps) == 0)
        → (c || list_any (λ (piece : PieceForm). piece.signal == o) ps)
        ≡ not (length (cond c (p ∷ pieces_of o ps) (pieces_of o ps)) == 0)
    by_signal true rest = sym (positive (length (pieces_of o ps)))
    by_signal false rest = rest
