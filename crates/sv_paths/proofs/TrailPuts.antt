-- How often names stand in an expression in which an assignment is put in.
use Rattle.std.proofs.Common.{◌≡◌, ℕ, suc, ◌+◌, ◌-◌, ◌≤◌, Bool, true, false, cond, ◌&&◌, ◌||◌}
use Rattle.std.proofs.Common.{◌==◌, not, nat_le, List, [], ◌∷◌, ◌++◌, length, map, fold, flat_map}
use Rattle.std.proofs.Common.{sum, refl, sym, ap, ap₂, ◌∙◌, arith, eq-eqb, ne_eqb, zero-add}
use Rattle.std.specs.List.{list_any}
use Rattle.std.proofs.lemmas.Bool.{eqb-true, false≢true, leb-true, leb-false}
use Rattle.std.proofs.lemmas.List.Sums.{sum_by-cons}
use Rattle.sv_flat.specs.Design.{SignalForm, TypedTree, PieceForm}
use Rattle.sv_flat.specs.Soundness.{is_whole}
use Rattle.sv_flat.specs.Readings.{ReadForm, reads}
use Rattle.sv_obl.specs.Paths.{pieces_of, covers, puts_in}
use Rattle.sv_obl.specs.Routes.{signals_of_reads, names_in}
use Rattle.sv_obl.specs.Wanted.{with_copies}
use Rattle.sv_paths.proofs.PutNames.{piece_names, some_of, put_names}
use Rattle.sv_paths.proofs.TrailCounts.{weigh, count, weigh_append, weigh_none, weigh_more}
use Rattle.sv_paths.proofs.TrailCounts.{one_at, unless, either_same}
use Rattle.sv_paths.proofs.TrailNames.{total, gone}

-- a signal that the pieces cover has no other piece
abbrev pub Lone : List SignalForm → List PieceForm → Type 0
Lone signals pieces =
    (o : ℕ) → covers signals o pieces ≡ true → length (pieces_of o pieces) ≡ 1

plus_none : (a : ℕ) → a ≡ a + 0
plus_none a = omega arith

four : (a b c d : ℕ) → a + b + (c + d) ≡ (a + c) + (b + d)
four a b c d = omega arith

none_covered : (signals : List SignalForm) (pieces : List PieceForm) → length pieces ≡ 0
    → list_any (is_whole signals) pieces ≡ false
none_covered signals [] none = refl
none_covered signals (p ∷ ps) none = absurd (omega arith)

-- ---- totals

module _ (n : ℕ) where
  total_none : (ps : List PieceForm) → total n (λ x. 0) ps ≡ 0
  total_none [] = refl
  total_none (p ∷ ps) = zero-add (total n (λ x. 0) ps) ∙ total_none ps

  total_sum : (c d : ℕ → ℕ) (ps : List PieceForm) →
      total n (λ x. c x + d x) ps ≡ total n c ps + total n d ps
  total_sum c d [] = refl
  total_sum c d (p ∷ ps) =
      ap (λ m. c (n + p.signal) + d (n + p.signal) + m) (total_sum c d ps)
      ∙ four (c (n + p.signal)) (d (n + p.signal)) (total n c ps) (total n d ps)

  -- a wanted name has the pieces of its signal
  total_one : (y : ℕ) (ps : List PieceForm)
      → total n (λ x. cond (y == x) 1 0) ps
      ≡ cond (nat_le n y) (length (pieces_of (y - n) ps)) 0
  total_one y [] = sym (either_same (nat_le n y) 0)
  total_one y (p ∷ ps) =
      ap (λ m. cond (y == n + p.signal) 1 0 + m) (total_one y ps)
      ∙ by_copy (nat_le n y) refl
    where
      one_more : (c : Bool) →
          cond c 1 0 + length (pieces_of (y - n) ps)
          ≡ length (cond c (p ∷ pieces_of (y - n) ps) (pieces_of (y - n) ps))
      one_more true = omega arith
      one_more false = omega arith

      same_signal : n ≤ y → (c : Bool) → (p.signal == (y - n)) ≡ c → (y == n + p.signal) ≡ c
      same_signal high true is =
          let at = eqb-true p.signal (y - n) is in eq-eqb y (n + p.signal) (omega arith)
      same_signal high false is =
          ne_eqb y (n + p.signal) (λ e. false≢true (sym is
          ∙ eq-eqb p.signal (y - n) (omega arith)))

      by_copy : (b : Bool) → nat_le n y ≡ b
          → cond (y == n + p.signal) 1 0 + cond b (length (pieces_of (y - n) ps)) 0
          ≡ cond b (length (cond (p.signal == (y - n)) (p ∷ pieces_of (y - n) ps)
          (pieces_of (y - n) ps))) 0
      by_copy true is =
          ap (λ c. cond c 1 0 + length (pieces_of (y - n) ps))
          (same_signal (leb-true n y is) (p.signal == (y - n)) refl)
          ∙ one_more (p.signal == (y - n))
      by_copy false is =
          let low = leb-false n y is in
          ap (λ c. cond c 1 0 + 0) (ne_eqb y (n + p.signal) (λ e. absurd (omega arith)))

module _ (signals : List SignalForm) (pieces : List PieceForm) where
  abbrev both : List SignalForm
  both = with_copies signals

  -- how many pieces are put for a name
  abbrev pub times_of : ℕ → ℕ
  times_of y =
      cond (nat_le (length signals) y) (length (pieces_of (y - length signals) pieces)) 0

  -- and for some names
  abbrev pub puts : List ℕ → ℕ
  puts [] = 0
  puts (y ∷ ys) = times_of y + puts ys

  pub puts_append : (xs ys : List ℕ) → puts (xs ++ ys) ≡ puts xs + puts ys
  puts_append [] ys = sym (zero-add (puts ys))
  puts_append (x ∷ xs) ys = ap (λ m. times_of x + m) (puts_append xs ys) ∙ omega arith

  pub total_puts : (ys : List ℕ) → total (length signals) (count ys) pieces ≡ puts ys
  total_puts [] = total_none (length signals) pieces
  total_puts (y ∷ ys) =
      total_sum (length signals) (λ x. cond (y == x) 1 0) (count ys) pieces
      ∙ ap₂ (λ a b. a + b) (total_one (length signals) y pieces) (total_puts ys)

  puts_of_reads : (rs : List ReadForm) →
      sum (map (λ (r : ReadForm). times_of r.signal) rs) ≡ puts (signals_of_reads rs)
  puts_of_reads [] = refl
  puts_of_reads (r ∷ rs) =
      sum_by-cons (λ k. k) (times_of r.signal)
      (map (λ (x : ReadForm). times_of x.signal) rs)
      ∙ ap (λ m. times_of r.signal + m) (puts_of_reads rs)

  pub puts_are : (e : TypedTree) → puts_in signals pieces e ≡ puts (names_in both e)
  puts_are e = puts_of_reads (reads both e)

  -- ---- names put in

  module _ (way : TypedTree) where
    abbrev R : List ℕ
    R = names_in both way

    abbrev some_names : ℕ → Bool
    some_names = some_of signals pieces way

    abbrev put_for : ℕ → List ℕ
    put_for = put_names signals pieces way

    -- ---- how often they stand there

    fold_none : (o : ℕ) (ps : List PieceForm) (old : List ℕ)
        → list_any (λ (piece : PieceForm). piece.signal == o) ps ≡ false
        → fold (piece_names signals both way o) old ps ≡ old
    fold_none o [] old none = refl
    fold_none o (p ∷ ps) old none = by_signal (p.signal == o) (fold_none o ps old) none
      where
        by_signal : (c : Bool)
            → (list_any (λ (piece : PieceForm). piece.signal == o) ps ≡ false
            → fold (piece_names signals both way o) old ps ≡ old)
            → (c || list_any (λ (piece : PieceForm). piece.signal == o) ps) ≡ false
            → fold (piece_names signals both way o)
            (cond (not c) old (cond (is_whole signals p) R (old ++ R))) ps ≡ old
        by_signal true rest none = absurd (false≢true (sym none))
        by_signal false rest none = rest none

    module _ (o x : ℕ) where
      -- after some pieces, from some names
      abbrev Counted : List PieceForm → List ℕ → Type 0
      Counted ps old =
          count (fold (piece_names signals both way o) old ps) x
          ≡ cond (covers signals o ps) 0 (count old x)
          + weigh (length (pieces_of o ps)) R x

      abbrev LoneOf : List PieceForm → Type 0
      LoneOf qs = list_any (is_whole signals) qs ≡ true → length qs ≡ 1

      module _ (p : PieceForm) (ps : List PieceForm)
          (rest : LoneOf (pieces_of o ps) → (old : List ℕ) → Counted ps old)
          (old : List ℕ) where
        abbrev Q : List PieceForm
        Q = pieces_of o ps

        whole_put : length (p ∷ pieces_of o ps) ≡ 1
            → count (fold (piece_names signals both way o) R ps) x
            ≡ 0 + weigh (length (p ∷ pieces_of o ps)) R x
        whole_put one =
            let none : length Q ≡ 0 = omega arith in
            rest (λ covered. absurd (false≢true (sym (none_covered signals Q none) ∙ covered))) R
            ∙ ap₂ (λ b k. cond b 0 (count R x) + weigh k R x)
            (none_covered signals Q none) none
            ∙ ap (λ m. count R x + m) (weigh_none R x)
            ∙ swapped (count R x)
            ∙ ap (λ k. 0 + weigh k R x) (sym one)
          where
            swapped : (a : ℕ) → a + 0 ≡ 0 + a
            swapped a = omega arith

        part_put : (b : Bool) → list_any (is_whole signals) (pieces_of o ps) ≡ b
            → (b ≡ true → length (p ∷ pieces_of o ps) ≡ 1)
            → count (fold (piece_names signals both way o) (old ++ R) ps) x
            ≡ cond b 0 (count old x) + weigh (length (p ∷ pieces_of o ps)) R x
        part_put true is lone =
            let one = lone refl in
            let none : length Q ≡ 0 = omega arith in
            absurd (false≢true (sym (none_covered signals Q none) ∙ is))
        part_put false is lone =
            rest (λ covered. absurd (false≢true (sym is ∙ covered))) (old ++ R)
            ∙ ap₂ (λ b m. cond b 0 m + weigh (length Q) R x) is (weigh_append 1 old R x)
            ∙ moved (count old x) (count R x) (weigh (length Q) R x)
            ∙ ap (λ m. count old x + m) (sym (weigh_more 1 (length Q) R x)
            ∙ ap (λ k. weigh k R x) (one_more (length Q)))
          where
            moved : (a b c : ℕ) → a + b + c ≡ a + (b + c)
            moved a b c = omega arith

            one_more : (k : ℕ) → 1 + k ≡ suc k
            one_more k = omega arith

        by_whole : (d : Bool)
            → ((d || list_any (is_whole signals) (pieces_of o ps)) ≡ true
            → length (p ∷ pieces_of o ps) ≡ 1)
            → count (fold (piece_names signals both way o) (cond d R (old ++ R)) ps) x
            ≡ cond (d || list_any (is_whole signals) (pieces_of o ps)) 0 (count old x)
            + weigh (length (p ∷ pieces_of o ps)) R x
        by_whole true lone = whole_put (lone refl)
        by_whole false lone =
            part_put (list_any (is_whole signals) (pieces_of o ps)) refl
            lone

        by_signal : (c : Bool) → LoneOf (cond c (p ∷ pieces_of o ps) (pieces_of o ps))
            → count (fold (piece_names signals both way o)
            (cond (not c) old (cond (is_whole signals p) R (old ++ R))) ps) x
            ≡ cond (list_any (is_whole signals) (cond c (p ∷ pieces_of o ps) (pieces_of o ps))) 0
            (count old x) + weigh (length (cond c (p ∷ pieces_of o ps) (pieces_of o ps))) R x
        by_signal true lone = by_whole (is_whole signals p) lone
        by_signal false lone = rest lone old

      fold_counts : (ps : List PieceForm) → LoneOf (pieces_of o ps) → (old : List ℕ) →
          Counted ps old
      fold_counts [] lone old =
          plus_none (count old x) ∙ ap (λ m. count old x + m) (sym (weigh_none R x))
      fold_counts (p ∷ ps) lone old =
          by_signal p ps (fold_counts ps) old (p.signal == o) lone

    -- ---- of a list of names

    module _ (lone : Lone signals pieces) (x : ℕ) where
      abbrev n : ℕ
      n = length signals

      copy_counts : (y : ℕ) → n ≤ y
          → count (cond (some_names (y - length signals))
          (fold (piece_names signals both way (y - length signals))
          ((length signals + (y - length signals)) ∷ []) pieces) (y ∷ [])) x
          ≡ cond (covers signals (y - length signals) pieces) 0 (cond (y == x) 1 0)
          + weigh (length (pieces_of (y - length signals) pieces)) R x
      copy_counts y high =
          by_some (some_names (y - length signals)) refl
          ∙ ap (λ z. count (fold (piece_names signals both way (y - length signals))
          (z ∷ []) pieces) x) back
          ∙ fold_counts (y - length signals) x pieces (lone (y - length signals)) (y ∷ [])
          ∙ ap (λ m. cond (covers signals (y - length signals) pieces) 0 m
          + weigh (length (pieces_of (y - length signals) pieces)) R x)
          (sym (plus_none (cond (y == x) 1 0)))
        where
          back : length signals + (y - length signals) ≡ y
          back = omega arith

          by_some : (c : Bool) → some_names (y - length signals) ≡ c
              → count (cond c (fold (piece_names signals both way (y - length signals))
              ((length signals + (y - length signals)) ∷ []) pieces) (y ∷ [])) x
              ≡ count (fold (piece_names signals both way (y - length signals))
              ((length signals + (y - length signals)) ∷ []) pieces) x
          by_some true is = refl
          by_some false is =
              ap (λ z. count (z ∷ []) x) (sym back)
              ∙ sym (ap (λ ns. count ns x) (fold_none (y - length signals) pieces
              ((length signals + (y - length signals)) ∷ []) is))

      name_counts : (y : ℕ) → (b : Bool) → nat_le (length signals) y ≡ b
          → count (cond (b && some_names (y - length signals))
          (fold (piece_names signals both way (y - length signals))
          ((length signals + (y - length signals)) ∷ []) pieces) (y ∷ [])) x
          ≡ cond (b && covers signals (y - length signals) pieces) 0 (cond (y == x) 1 0)
          + weigh (cond b (length (pieces_of (y - length signals) pieces)) 0) R x
      name_counts y true is = copy_counts y (leb-true (length signals) y is)
      name_counts y false is =
          ap (λ m. cond (y == x) 1 0 + m) (sym (weigh_none R x))

      -- what is counted at a number hangs on that number
      here : (y : ℕ)
          → unless (gone signals pieces y) (one_at (y == x))
          ≡ unless (gone signals pieces x) (one_at (y == x))
      here y = by_test (y == x) refl
        where
          by_test : (b : Bool) → (y == x) ≡ b
              → unless (gone signals pieces y) (one_at b)
              ≡ unless (gone signals pieces x) (one_at b)
          by_test true is = ap (λ z. unless (gone signals pieces z) 1) (eqb-true y x is)
          by_test false is =
              either_same (gone signals pieces y) 0 ∙ sym (either_same (gone signals pieces x) 0)

      pub flat_counts : (ys : List ℕ)
          → count (flat_map put_for ys) x
          ≡ cond (gone signals pieces x) 0 (count ys x) + weigh (puts ys) R x
      flat_counts [] = sym (ap₂ (λ a b. a + b) (either_same (gone signals pieces x) 0)
          (weigh_none R x))
      flat_counts (y ∷ ys) =
          weigh_append 1 (put_for y) (flat_map put_for ys) x
          ∙ ap₂ (λ a b. a + b)
          (name_counts y (nat_le (length signals) y) refl
          ∙ ap (λ m. m + weigh (times_of y) R x) (here y))
          (flat_counts ys)
          ∙ gathered (gone signals pieces x) (cond (y == x) 1 0) (count ys x)
          (weigh (times_of y) R x) (weigh (puts ys) R x)
          ∙ ap (λ m. cond (gone signals pieces x) 0 (cond (y == x) 1 0 + count ys x) + m)
          (sym (weigh_more (times_of y) (puts ys) R x))
        where
          gathered : (g : Bool) (a b v w : ℕ)
              → (cond g 0 a + v) + (cond g 0 b + w) ≡ cond g 0 (a + b) + (v + w)
          gathered true a b v w = omega arith
          gathered false a b v w = omega arith
