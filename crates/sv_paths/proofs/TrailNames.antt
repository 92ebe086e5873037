-- What the names of a trail say: which names stand there that are not wanted, and how often the
-- others do.
use Rattle.std.proofs.Common.{◌≡◌, ℕ, zero, suc, ◌+◌, ◌-◌, ◌<◌, ◌≤◌, Bool, true, false, cond, ◌&&◌}
use Rattle.std.proofs.Common.{◌||◌, ◌==◌, not, min, nat_lt, nat_le, List, [], ◌∷◌, length}
use Rattle.std.proofs.Common.{fold, Option, Some, None, nat_cmp, refl, sym, ap, ap₂, ◌∙◌, arith}
use Rattle.std.proofs.Common.{eq-eqb, ne_eqb, zero-add, ltb-true}
use Rattle.std.specs.Prelude.{unwrap_or}
use Rattle.std.specs.BTreeMap.{insert_entry, is_at}
use Rattle.std.specs.BTreeSet.{insert_key}
use Rattle.std.specs.List.{list_any, range_with_len}
use Rattle.std.specs.Map.{remove_entry}
use Rattle.std.proofs.lemmas.Bool.{eqb-true, false≢true, ltb-false, leb-true, le-leb}
use Rattle.sv_flat.specs.Design.{SignalForm, PieceForm}
use Rattle.sv_flat.specs.Sets.{those}
use Rattle.sv_flat.specs.Soundness.{is_whole}
use Rattle.sv_rules.proofs.TableFacts.{filter_within}
use Rattle.sv_obl.specs.Paths.{pieces_of, covers}
use Rattle.sv_paths.specs.Trails.{NamesForm, no_names, times_wanted, with_wanted, with_name}
use Rattle.sv_paths.specs.Trails.{with_each}
use Rattle.sv_paths.specs.Trails.{with_put_names, without_piece, without_covered, with_times}
use Rattle.sv_paths.specs.Trails.{times_put}
use Rattle.sv_paths.proofs.NumberSets.{filter_alike, filter_none, put_in_range}
use Rattle.sv_paths.proofs.TrailCounts.{weigh, weigh_none, weigh_capped}
use Rattle.sv_paths.proofs.WantedEntries.{find, find_is, From, from_put, find_put, from_removed}
use Rattle.sv_paths.proofs.WantedEntries.{find_removed}

-- ---- counts up to one over the limit

capped : (a b : ℕ) → min (min a 65537 + b) 65537 ≡ min (a + b) 65537
capped a b = omega arith

pub capped_both : (a b : ℕ) → min (min a 65537 + min b 65537) 65537 ≡ min (a + b) 65537
capped_both a b = omega arith

capped_sum : (a b d : ℕ) → min b 65537 ≡ min d 65537 → min (a + b) 65537 ≡ min (a + d) 65537
capped_sum a b d same = omega arith

pub plus_none : (a : ℕ) → a ≡ a + 0
plus_none a = omega arith

plus_moved : (a b d : ℕ) → a + b + d ≡ a + (b + d)
plus_moved a b d = omega arith

copy_moved : (n s : ℕ) → n + s - n ≡ s
copy_moved n s = omega arith

or_true : (b : Bool) → (b || true) ≡ true
or_true true = refl
or_true false = refl

or_false : (b : Bool) → (b || false) ≡ b
or_false true = refl
or_false false = refl

and_false : (b : Bool) → (b && false) ≡ false
and_false true = refl
and_false false = refl

-- what stands in the map for a count
abbrev pub entry : ℕ → Option ℕ
entry k = cond (k == 0) None (Some k)

some_entry : (k : ℕ) → 0 < k → Some k ≡ entry k
some_entry k some =
    sym (ap (λ b. cond b None (Some k)) (ne_eqb k 0 (λ e. absurd (omega arith))))

entry_times : (k : ℕ) → unwrap_or (entry k) 0 ≡ k
entry_times k = by_test (k == 0) refl
  where
    by_test : (b : Bool) → (k == 0) ≡ b → unwrap_or (cond b None (Some k)) 0 ≡ k
    by_test true is = sym (eqb-true k 0 is)
    by_test false is = refl

-- where there are so many signals
module _ (n : ℕ) where
  -- The names are those that stand so often somewhere.
  pub record NamesTell (names : NamesForm) (c : ℕ → ℕ) : Type 0 where
    pub settled : names.settled ≡ those n (λ x. not (min (c x) 65537 == 0))
    pub wanted : (s : ℕ) → find s names.wanted ≡ entry (min (c (n + s)) 65537)
    pub from : From 0 names.wanted

  pub tell_alike : (names : NamesForm) (c d : ℕ → ℕ)
      → ((x : ℕ) → min (c x) 65537 ≡ min (d x) 65537)
      → NamesTell names c → NamesTell names d
  tell_alike names c d same tells = record {
    settled = tells.settled ∙ filter_alike (λ x. not (min (c x) 65537 == 0))
        (λ x. not (min (d x) 65537 == 0)) (λ x. ap (λ m. not (m == 0)) (same x))
        (range_with_len 0 n);
    wanted = λ s. tells.wanted s ∙ ap entry (same (n + s));
    from = tells.from;
  }

  pub none_tell : NamesTell no_names (λ x. 0)
  none_tell = record {
    settled = sym (filter_none (range_with_len 0 n));
    wanted = λ s. refl;
    from = tt;
  }

  pub times_are : (names : NamesForm) (c : ℕ → ℕ) → NamesTell names c → (s : ℕ) →
      times_wanted names s ≡ min (c (n + s)) 65537
  times_are names c tells s =
      ap (λ o. unwrap_or o 0) (find_is s names.wanted ∙ tells.wanted s)
      ∙ entry_times (min (c (n + s)) 65537)

  -- ---- one name more

  module _ (times : ℕ) (some : 0 < times) (names : NamesForm) (c : ℕ → ℕ) (y : ℕ)
      (tells : NamesTell names c) where
    abbrev more : ℕ → ℕ
    more x = c x + cond (y == x) times 0

    held_now : (k : ℕ) (b : Bool) →
        (not (min k 65537 == 0) || b) ≡ not (min (k + cond b times 0) 65537 == 0)
    held_now k true =
        or_true (not (min k 65537 == 0))
        ∙ sym (ap not (ne_eqb (min (k + times) 65537) 0 (λ e. absurd (omega arith))))
    held_now k false =
        or_false (not (min k 65537 == 0))
        ∙ ap (λ m. not (min m 65537 == 0)) (plus_none k)

    other : (x : ℕ) → (y ≡ x → ⊥) → c x ≡ more x
    other x apart = plus_none (c x) ∙ ap (λ b. c x + cond b times 0) (sym (ne_eqb y x apart))

    settled_more : y < n →
        insert_key nat_cmp names.settled y ≡ those n (λ x. not (min (more x) 65537 == 0))
    settled_more low =
        ap (λ ks. insert_key nat_cmp ks y) tells.settled
        ∙ put_in_range y (λ x. not (min (c x) 65537 == 0)) 0 n (omega arith) (omega arith)
        ∙ filter_alike (λ x. not (min (c x) 65537 == 0) || (y == x))
        (λ x. not (min (more x) 65537 == 0)) (λ x. held_now (c x) (y == x))
        (range_with_len 0 n)

    settled_same : n ≤ y → names.settled ≡ those n (λ x. not (min (more x) 65537 == 0))
    settled_same high =
        tells.settled
        ∙ filter_within (λ x. not (min (c x) 65537 == 0)) (λ x. not (min (more x) 65537 == 0)) 0 n
        (λ x low. ap (λ m. not (min m 65537 == 0)) (other x (λ e. absurd (omega arith))))

    abbrev put : ℕ
    put = min (times_wanted names (y - n) + times) 65537

    put_is : put ≡ min (c (n + (y - n)) + times) 65537
    put_is =
        ap (λ m. min (m + times) 65537) (times_are names c tells (y - n))
        ∙ capped (c (n + (y - n))) times

    wanted_more : n ≤ y → (s : ℕ) →
        find s (insert_entry nat_cmp names.wanted (y - n) put) ≡ entry (min (more (n + s)) 65537)
    wanted_more high s =
        find_put (y - n) put s names.wanted ∙ by_key ((y - n) == s) refl
      where
        here : y - n ≡ s → Some put ≡ entry (min (more (n + s)) 65537)
        here is =
            ap Some (put_is ∙ ap (λ k. min (c (n + k) + times) 65537) is)
            ∙ some_entry (min (c (n + s) + times) 65537) (omega arith)
            ∙ ap (λ b. entry (min (c (n + s) + cond b times 0) 65537))
            (sym (eq-eqb y (n + s) (omega arith)))

        by_key : (b : Bool) → ((y - n) == s) ≡ b
            → cond b (Some put) (find s names.wanted) ≡ entry (min (more (n + s)) 65537)
        by_key true is = here (eqb-true (y - n) s is)
        by_key false is =
            tells.wanted s
            ∙ ap (λ m. entry (min m 65537)) (other (n + s) (λ e. false≢true (sym is
            ∙ eq-eqb (y - n) s (omega arith))))

    pub one_name : NamesTell (with_name n times names y) more
    one_name = by_test (nat_lt y n) refl
      where
        by_test : (b : Bool) → nat_lt y n ≡ b
            → NamesTell (cond b
            (record { settled = insert_key nat_cmp names.settled y; wanted = names.wanted })
            (with_wanted times names (y - n))) more
        by_test true is =
            let low = ltb-true y n is in
            record {
              settled = settled_more low;
              wanted = λ s. tells.wanted s
                  ∙ ap (λ m. entry (min m 65537)) (other (n + s) (λ e. absurd (omega arith)));
              from = tells.from;
            }
        by_test false is =
            let high = ltb-false y n is in
            record {
              settled = settled_same high;
              wanted = wanted_more high;
              from = from_put (y - n) put 0 names.wanted (omega arith) tells.from;
            }

  -- ---- several names more

  pub each_name : (times : ℕ) → 0 < times → (ys : List ℕ) (names : NamesForm) (c : ℕ → ℕ)
      → NamesTell names c
      → NamesTell (with_each n times names ys) (λ x. c x + weigh times ys x)
  each_name times some [] names c tells =
      tell_alike names c (λ x. c x + 0) (λ x. ap (λ m. min m 65537) (plus_none (c x))) tells
  each_name times some (y ∷ ys) names c tells =
      tell_alike (with_each n times (with_name n times names y) ys)
      (λ x. c x + cond (y == x) times 0 + weigh times ys x)
      (λ x. c x + (cond (y == x) times 0 + weigh times ys x))
      (λ x. ap (λ m. min m 65537) (plus_moved (c x) (cond (y == x) times 0) (weigh times ys x)))
      (each_name times some ys (with_name n times names y) (λ x. c x + cond (y == x) times 0)
      (one_name times some names c y tells))

  -- the same where they are put so many times, up to one over the limit
  pub put_tell : (k : ℕ) (ys : List ℕ) (names : NamesForm) (c : ℕ → ℕ) → NamesTell names c
      → NamesTell (with_put_names n (min k 65537) names ys) (λ x. c x + weigh k ys x)
  put_tell k ys names c tells = by_test (min k 65537 == 0) refl
    where
      none_put : k ≡ 0 → (x : ℕ) → c x ≡ c x + weigh k ys x
      none_put none x =
          plus_none (c x)
          ∙ ap (λ m. c x + m) (sym (weigh_none ys x) ∙ ap (λ j. weigh j ys x) (sym none))

      some_put : 0 < min k 65537
          → NamesTell (with_each n (min k 65537) names ys) (λ x. c x + weigh k ys x)
      some_put some =
          tell_alike (with_each n (min k 65537) names ys) (λ x. c x + weigh (min k 65537) ys x)
          (λ x. c x + weigh k ys x)
          (λ x. capped_sum (c x) (weigh (min k 65537) ys x) (weigh k ys x) (weigh_capped k ys x))
          (each_name (min k 65537) some ys names c tells)

      by_test : (b : Bool) → (min k 65537 == 0) ≡ b
          → NamesTell (cond b names (with_each n (min k 65537) names ys))
          (λ x. c x + weigh k ys x)
      by_test true is =
          let low = eqb-true (min k 65537) 0 is in
          tell_alike names c (λ x. c x + weigh k ys x)
          (λ x. ap (λ m. min m 65537) (none_put (omega arith) x)) tells
      by_test false is = some_put (positive (min k 65537) is)
        where
          positive : (m : ℕ) → (m == 0) ≡ false → 0 < m
          positive zero is = absurd (false≢true (sym is ∙ eq-eqb 0 0 refl))
          positive (suc m) is = omega arith

  -- ---- how many pieces are put

  -- for each piece how often its signal is wanted
  abbrev pub total : (ℕ → ℕ) → List PieceForm → ℕ
  total c [] = 0
  total c (p ∷ ps) = c (n + p.signal) + total c ps

  module _ (names : NamesForm) (c : ℕ → ℕ) (tells : NamesTell names c) where
    times_from : (k : ℕ) (ps : List PieceForm) →
        fold (with_times names) (min k 65537) ps ≡ min (k + total c ps) 65537
    times_from k [] = ap (λ m. min m 65537) (plus_none k)
    times_from k (p ∷ ps) =
        ap (λ m. fold (with_times names) m ps)
        (ap (λ m. min (min k 65537 + m) 65537) (times_are names c tells p.signal)
        ∙ capped_both k (c (n + p.signal)))
        ∙ times_from (k + c (n + p.signal)) ps
        ∙ ap (λ m. min m 65537) (plus_moved k (c (n + p.signal)) (total c ps))

    pub times_tell : (ps : List PieceForm) → times_put names ps ≡ min (total c ps) 65537
    times_tell ps = times_from 0 ps ∙ ap (λ m. min m 65537) (zero-add (total c ps))

-- ---- what pieces cover

module _ (signals : List SignalForm) where
  -- the name is a wanted one of a signal that the pieces cover
  abbrev pub gone : List PieceForm → ℕ → Bool
  gone pieces x = nat_le (length signals) x && covers signals (x - length signals) pieces

  pub copy_high : (s : ℕ) → nat_le (length signals) (length signals + s) ≡ true
  copy_high s = le-leb (length signals) (length signals + s) (omega arith)

  pub signal_low : (x : ℕ) → x < length signals → nat_le (length signals) x ≡ false
  signal_low x low = by_test (nat_le (length signals) x) refl
    where
      by_test : (b : Bool) → nat_le (length signals) x ≡ b → b ≡ false
      by_test true is = absurd (let high = leb-true (length signals) x is in omega arith)
      by_test false is = refl

  module _ (p : PieceForm) (names : NamesForm) (c : ℕ → ℕ)
      (tells : NamesTell (length signals) names c) where
    abbrev left : Bool → ℕ → ℕ
    left whole x = cond (nat_le (length signals) x
        && (whole && (p.signal == x - length signals))) 0 (c x)

    taken_out : NamesTell (length signals)
        (record {
          settled = names.settled;
          wanted = remove_entry (is_at (nat_cmp p.signal)) names.wanted;
        }) (left true)
    taken_out = record {
      settled = tells.settled
          ∙ filter_within (λ x. not (min (c x) 65537 == 0))
          (λ x. not (min (left true x) 65537 == 0)) 0 (length signals)
          (λ x low. ap (λ b. not (min (cond (b && (p.signal == x - length signals)) 0 (c x)) 65537
          == 0)) (sym (signal_low x (omega arith))));
      wanted = λ s. find_removed p.signal s 0 names.wanted tells.from
          ∙ ap (λ o. cond (p.signal == s) None o) (tells.wanted s)
          ∙ inside (p.signal == s) (c (length signals + s))
          ∙ ap₂ (λ b k. entry (min (cond (b && (p.signal == k)) 0 (c (length signals + s))) 65537))
          (sym (copy_high s)) (sym (copy_moved (length signals) s));
      from = from_removed p.signal 0 names.wanted tells.from;
    }
      where
        inside : (b : Bool) (k : ℕ) →
            cond b None (entry (min k 65537)) ≡ entry (min (cond b 0 k) 65537)
        inside true k = refl
        inside false k = refl

    left_in : (x : ℕ) → min (c x) 65537 ≡ min (left false x) 65537
    left_in x = ap (λ b. min (cond b 0 (c x)) 65537)
        (sym (and_false (nat_le (length signals) x)))

    piece_tell : NamesTell (length signals) (without_piece signals names p)
        (left (is_whole signals p))
    piece_tell = by_test (is_whole signals p)
      where
        by_test : (b : Bool) → NamesTell (length signals)
            (cond b (record {
              settled = names.settled;
              wanted = remove_entry (is_at (nat_cmp p.signal)) names.wanted;
            }) names) (left b)
        by_test true = taken_out
        by_test false = tell_alike (length signals) names c (left false) left_in tells

  then_gone : (p : PieceForm) (ps : List PieceForm) (k : ℕ) (a e : Bool)
      → cond (a && list_any (is_whole signals) ps) 0 (cond (a && (is_whole signals p && e)) 0 k)
      ≡ cond (a && list_any (is_whole signals) (cond e (p ∷ ps) ps)) 0 k
  then_gone p ps k false e = refl
  then_gone p ps k true true = by_tests (is_whole signals p) (list_any (is_whole signals) ps)
    where
      by_tests : (w v : Bool) → cond v 0 (cond (w && true) 0 k) ≡ cond (w || v) 0 k
      by_tests true true = refl
      by_tests true false = refl
      by_tests false v = refl
  then_gone p ps k true false =
      ap (λ b. cond (list_any (is_whole signals) ps) 0 (cond b 0 k))
      (and_false (is_whole signals p))

  pub kept_tell : (pieces : List PieceForm) (names : NamesForm) (c : ℕ → ℕ)
      → NamesTell (length signals) names c
      → NamesTell (length signals) (without_covered signals names pieces)
      (λ x. cond (gone pieces x) 0 (c x))
  kept_tell [] names c tells = tell_alike (length signals) names c
      (λ x. cond (nat_le (length signals) x && false) 0 (c x))
      (λ x. ap (λ b. min (cond b 0 (c x)) 65537) (sym (and_false (nat_le (length signals) x))))
      tells
  kept_tell (p ∷ ps) names c tells =
      tell_alike (length signals) (without_covered signals (without_piece signals names p) ps)
      (λ x. cond (gone ps x) 0 (left p names c tells (is_whole signals p) x))
      (λ x. cond (gone (p ∷ ps) x) 0 (c x))
      (λ x. ap (λ m. min m 65537)
      (then_gone p (pieces_of (x - length signals) ps) (c x) (nat_le (length signals) x)
      (p.signal == x - length signals)))
      (kept_tell ps (without_piece signals names p)
      (left p names c tells (is_whole signals p)) (piece_tell p names c tells))
