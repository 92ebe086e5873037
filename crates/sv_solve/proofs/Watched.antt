-- Watched literals: what the lists of clauses tell of pairs, and what looking at one clause keeps.
use Rattle.std.proofs.Common.{◌≡◌, ◌≢◌, ℕ, suc, ◌+◌, ◌*◌, ◌<◌, ◌≤◌, cond, ℤ, List, [], ◌∷◌, ◌++◌}
use Rattle.std.proofs.Common.{refl, sym, ap, ◌∙◌, subst, inl, inr, ◌⊎◌, ⊎_elim, length, get_or, set}
use Rattle.std.proofs.Common.{arith, Option, Some, None, length-set, nat_eq}
use Rattle.std.specs.Prelude.{IfSome}
use Rattle.std.specs.List.{count_by, swap_remove}
use Rattle.std.proofs.lemmas.Bool.{cases_Bool, cases_eq, cases_lt, cond-true, cond-false, eq-eqb}
use Rattle.std.proofs.lemmas.Bool.{ne_eqb}
use Rattle.std.proofs.lemmas.List.{get_or-set_same, get_or-set_other, get_or_append_left}
use Rattle.std.proofs.lemmas.List.{get_or_push, get_or_past, length_push, get_or_read}
use Rattle.std.proofs.lemmas.List.Sums.{sum_by-cons, sum_by_push, sum_by-swap_remove}
use Rattle.std.proofs.lemmas.List.Sums.{get_or-le-sum_by}
use Rattle.sv_solve.specs.Codes.{code_of, IsOf}
use Rattle.sv_solve.specs.Watching.{Watching, pair_at, times_watched, watching_list, IsListed}
use Rattle.sv_solve.specs.Watching.{HasInPair, ArePair}
use Rattle.sv_solve.specs.declared.watches.Pair.{Pair}
use Rattle.sv_solve.proofs.CodeLaws.{code-below, code-inj}

-- one where two numbers are the same, none where not
once : ℕ → ℕ → ℕ
once a b = cond (nat_eq a b) 1 0

once-same : (a b : ℕ) → a ≡ b → once a b ≡ 1
unfolding once
once-same a b e = cond-true (nat_eq a b) 1 0 (eq-eqb a b e)

once-other : (a b : ℕ) → (a ≡ b → ⊥) → once a b ≡ 0
unfolding once
once-other a b ne = cond-false (nat_eq a b) 1 0 (ne_eqb a b ne)

-- how often a place stands in a list
times : ℕ → List ℕ → ℕ
times place xs = count_by (nat_eq place) xs

times-push : (place x : ℕ) (xs : List ℕ) →
    times place (xs ++ x ∷ []) ≡ times place xs + once place x
unfolding times once
times-push place x xs = sum_by_push (λ y. cond (nat_eq place y) 1 0) xs x

times-swap_remove : (place i : ℕ) (xs : List ℕ) → i < length xs →
    times place (swap_remove xs i 0) + once place (get_or xs i 0) ≡ times place xs
unfolding times once
times-swap_remove place i xs h = sum_by-swap_remove (λ y. cond (nat_eq place y) 1 0) xs i 0 h

times-at : (place i : ℕ) (xs : List ℕ) → i < length xs → get_or xs i 0 ≡ place → 0 < times place xs
unfolding times once
times-at place i xs h e =
    let low : once place (get_or xs i 0) ≤ times place xs =
    get_or-le-sum_by (λ y. cond (nat_eq place y) 1 0) xs i 0 h in
    let one : once place (get_or xs i 0) ≡ 1 = once-same place (get_or xs i 0) (sym e) in
    omega (arith, low, one)

times-cons : (place x : ℕ) (xs : List ℕ) → times place (x ∷ xs) ≡ once place x + times place xs
unfolding times once
times-cons place x xs = sum_by-cons (λ y. cond (nat_eq place y) 1 0) x xs

times-nil : (place : ℕ) → times place [] ≡ 0
unfolding times
times-nil place = refl

place_from_times : (place : ℕ) (xs : List ℕ) → 0 < times place xs →
    (i : ℕ) × (i < length xs) × (get_or xs i 0 ≡ place)
place_from_times place [] h =
    let none : times place [] ≡ 0 = times-nil place in absurd (omega arith)
place_from_times place (x ∷ xs) h =
    let step : times place (x ∷ xs) ≡ once place x + times place xs = times-cons place x xs in
    ⊎_elim
    (λ same. (0, omega arith, sym same))
    (λ ne. let zero' : once place x ≡ 0 = once-other place x ne in
    let r = place_from_times place xs (omega arith) in
    let small : r.0 < length xs = r.1 in (suc r.0, omega arith, r.2))
    (cases_eq place x)

-- how often a literal's number is watched by a pair of two literals
watched-both : (pair : Pair) (one other : ℤ) (code : ℕ) → ArePair pair one other →
    times_watched (Some pair) code ≡ once (code_of one) code + once (code_of other) code
unfolding once
watched-both pair one other code are =
    ⊎_elim (λ e. ap (λ z. once (code_of z) code + once (code_of pair.other) code) e.0
    ∙ ap (λ z. once (code_of one) code + once (code_of z) code) e.1)
    (λ e. let swap : once (code_of pair.one) code + once (code_of pair.other) code ≡
    once (code_of pair.other) code + once (code_of pair.one) code = omega arith in
    swap ∙ ap (λ z. once (code_of z) code + once (code_of pair.one) code) e.1
    ∙ ap (λ z. once (code_of one) code + once (code_of z) code) e.0)
    are

watched_some : (pair : Pair) (code : ℕ) → 0 < times_watched (Some pair) code →
    (code_of pair.one ≡ code) ⊎ (code_of pair.other ≡ code)
unfolding once
watched_some pair code h =
    ⊎_elim inl
    (λ ne. ⊎_elim inr
    (λ ne'. let a : once (code_of pair.one) code ≡ 0 = once-other (code_of pair.one) code ne in
    let b : once (code_of pair.other) code ≡ 0 = once-other (code_of pair.other) code ne' in
    absurd (omega (arith, h)))
    (cases_eq (code_of pair.other) code))
    (cases_eq (code_of pair.one) code)

some_watched : (pair : Pair) (a : ℤ) → HasInPair pair a → 0 < times_watched (Some pair) (code_of a)
unfolding once
some_watched pair a has =
    ⊎_elim (λ e. let one : once (code_of pair.one) (code_of a) ≡
    1 = once-same (code_of pair.one) (code_of a) (ap code_of e) in omega arith)
    (λ e. let one : once (code_of pair.other) (code_of a) ≡
    1 = once-same (code_of pair.other) (code_of a) (ap code_of e) in omega arith)
    has

-- a pair that is watched at some place stands in the table
watched_below : (pairs : List (Option Pair)) (place code : ℕ) →
    0 < times_watched (pair_at pairs place) code → place < length pairs
watched_below pairs place code h =
    ⊎_elim (λ lt. lt)
    (λ past. let none : times_watched (pair_at pairs place) code ≡ 0 = ap (λ z.
    times_watched z code) (get_or_past pairs place None past) in absurd (omega arith))
    (cases_lt place (length pairs))

pair_at_push : (pairs : List (Option Pair)) (o : Option Pair) (place : ℕ) →
    (place ≡ length pairs → ⊥) → pair_at (pairs ++ o ∷ []) place ≡ pair_at pairs place
pair_at_push pairs o place ne =
    let size : length (pairs ++ o ∷ []) ≡ length pairs + 1 = length_push pairs o in
    ⊎_elim (λ lt. get_or_append_left pairs (o ∷ []) None place lt)
    (λ past. let far : length pairs < place = omega (arith, ne) in
    get_or_past (pairs ++ o ∷ []) place None (omega arith)
    ∙ sym (get_or_past pairs place None past))
    (cases_lt place (length pairs))

pair_at_none : (pairs : List (Option Pair)) (place : ℕ) →
    pair_at (pairs ++ None ∷ []) place ≡ pair_at pairs place
pair_at_none pairs place =
    ⊎_elim (λ here. get_or_push pairs None None place (sym here)
    ∙ sym (get_or_past pairs place None (omega arith))) (λ ne.
    pair_at_push pairs None place ne) (cases_eq place (length pairs))

-- one where the two numbers of a list and the two places are the same, none where not
once_at : ℕ → ℕ → ℕ → ℕ → ℕ
once_at c code place x = cond (nat_eq c code) (once place x) 0

once_at-here : (c code place x : ℕ) → place ≡ x → once_at c code place x ≡ once c code
unfolding once_at once
once_at-here c code place x e = ap (λ z. cond (nat_eq c code) z 0) (once-same place x e)

once_at-away : (c code place x : ℕ) → (place ≡ x → ⊥) → once_at c code place x ≡ 0
unfolding once_at
once_at-away c code place x ne =
    ap (λ z. cond (nat_eq c code) z 0) (once-other place x ne)
    ∙ ⊎_elim (λ e. cond-true (nat_eq c code) 0 0 e) (λ e.
    cond-false (nat_eq c code) 0 0 e) (cases_Bool (nat_eq c code))

once_at-same : (c code place x : ℕ) → c ≡ code → once_at c code place x ≡ once place x
unfolding once_at
once_at-same c code place x e = cond-true (nat_eq c code) (once place x) 0 (eq-eqb c code e)

once_at-other : (c code place x : ℕ) → (c ≡ code → ⊥) → once_at c code place x ≡ 0
unfolding once_at
once_at-other c code place x ne = cond-false (nat_eq c code) (once place x) 0 (ne_eqb c code ne)

times-push_at : (lists : List (List ℕ)) (c code place x : ℕ) → c < length lists
    → times place (get_or (set lists c (get_or lists c [] ++ x ∷ [])) code []) ≡
    times place (get_or lists code []) + once_at c code place x
times-push_at lists c code place x h =
    ⊎_elim
    (λ e. ap (λ z. times place (get_or (set lists c (get_or lists c [] ++ x ∷ [])) z [])) (sym e)
    ∙ ap (times place) (get_or-set_same lists c (get_or lists c [] ++ x ∷ []) [] h)
    ∙ times-push place x (get_or lists c [])
    ∙ ap (λ z. times place (get_or lists z []) + once place x) e
    ∙ ap (λ z. times place (get_or lists code []) + z) (sym (once_at-same c code place x e)))
    (λ ne. let none : once_at c code place x ≡ 0 = once_at-other c code place x ne in
    let same : times place (get_or (set lists c (get_or lists c [] ++ x ∷ [])) code []) ≡
    times place (get_or lists code []) = ap (times place)
    (get_or-set_other lists c code (get_or lists c [] ++ x ∷ []) [] (λ e. ne (sym e))) in
    omega arith)
    (cases_eq c code)

times-swap_remove_at : (lists : List (List ℕ)) (c code place i x : ℕ) → c < length lists
    → i < length (get_or lists c []) → get_or (get_or lists c []) i 0 ≡ x
    → times place (get_or (set lists c (swap_remove (get_or lists c []) i 0)) code []) + once_at c
    code place x ≡ times place (get_or lists code [])
times-swap_remove_at lists c code place i x h small at =
    ⊎_elim
    (λ e.
    ap (λ z. times place (get_or (set lists c (swap_remove (get_or lists c []) i 0)) z [])
    + once_at c code place x) (sym e)
    ∙ ap (λ z. times place z + once_at c code place x)
    (get_or-set_same lists c (swap_remove (get_or lists c []) i 0) [] h)
    ∙ ap (λ z. times place (swap_remove (get_or lists c []) i 0) + z) (once_at-same c code place x e
    ∙ ap (once place) (sym at))
    ∙ times-swap_remove place i (get_or lists c []) small
    ∙ ap (λ z. times place (get_or lists z [])) e)
    (λ ne. let none : once_at c code place x ≡ 0 = once_at-other c code place x ne in
    let same : times place (get_or (set lists c (swap_remove (get_or lists c []) i 0)) code []) ≡
    times place (get_or lists code []) = ap (times place)
    (get_or-set_other lists c code (swap_remove (get_or lists c []) i 0) [] (λ e.
    ne (sym e))) in
    omega arith)
    (cases_eq c code)

counted_times : (w : Watching) → IsListed w → (code place : ℕ) → code < length w.lists →
    times place (get_or w.lists code []) ≡ times_watched (pair_at w.pairs place) code
unfolding times
counted_times w listed code place h = listed.counted code place h

listed_from_times : (w : Watching) → length w.lists ≡ 2 * w.variables + 2
    → ((code place : ℕ) → code < length w.lists
    → times place (get_or w.lists code []) ≡ times_watched (pair_at w.pairs place) code)
    → IsListed w
unfolding times
listed_from_times w size counted = record { size = size; counted = counted }

some_of : (o : Option Pair) (code : ℕ) → 0 < times_watched o code → (P : Pair → Type 0) →
    IfSome o P → (was : Pair) × (o ≡ Some was) × P was
some_of None code h P p = absurd (omega arith)
some_of (Some pair) code h P p = (pair, refl, p)

-- a clause in the list of a literal watches it
module _ (w : Watching) (a : ℤ) (i : ℕ) (listed : IsListed w) (of : IsOf w.variables a)
    (small : i < length (watching_list w a)) where
  code_below : code_of a < length w.lists
  code_below =
      let low : code_of a < 2 * w.variables + 2 = code-below w.variables a of in
      omega (arith, listed.size)

  watched_at : 0 < times_watched (pair_at w.pairs (get_or (watching_list w a) i 0)) (code_of a)
  watched_at = let place = get_or (watching_list w a) i 0 in
      subst (λ z. 0 < z) (counted_times w listed (code_of a) place code_below)
      (times-at place i (watching_list w a) small refl)

  pub place_below : get_or (watching_list w a) i 0 < length w.pairs
  place_below = watched_below w.pairs (get_or (watching_list w a) i 0) (code_of a) watched_at

  pub place_pair : (P : Pair → Type 0) →
      IfSome (pair_at w.pairs (get_or (watching_list w a) i 0)) P →
      (was : Pair) × (pair_at w.pairs (get_or (watching_list w a) i 0) ≡ Some was) × P was
  place_pair P h =
      some_of (pair_at w.pairs (get_or (watching_list w a) i 0)) (code_of a) watched_at P h

  pub place_has : (pair : Pair) → pair_at w.pairs (get_or (watching_list w a) i 0) ≡ Some pair →
      HasInPair pair a
  place_has pair is =
      ⊎_elim (λ e. inl (code-inj pair.one a e)) (λ e.
      inr (code-inj pair.other a e))
      (watched_some pair (code_of a) (subst (λ z. 0 < times_watched z (code_of a)) is watched_at))

-- how often a place stands in a list, once a number is put behind one of the lists
times_pushed : (old : Watching) (middle : List (List ℕ)) (one code place n : ℕ) → IsListed old
    → one < length old.lists → code < length old.lists
    → middle ≡ set old.lists one (get_or old.lists one [] ++ n ∷ [])
    → times place (get_or middle code []) ≡
    times_watched (pair_at old.pairs place) code + once_at one code place n
times_pushed old middle one code place n listed low h first =
    ap (λ z. times place (get_or z code [])) first
    ∙ times-push_at old.lists one code place n low
    ∙ ap (λ m. m + once_at one code place n) (counted_times old listed code place h)

-- a place that is not the number is watched as before
times_apart : (old new : Watching) (one other code place n : ℕ) → (place ≡ n → ⊥)
    → pair_at new.pairs place ≡ pair_at old.pairs place
    → (once_at one code place n ≡ 0) × (once_at other code place n ≡ 0)
    × (times_watched (pair_at new.pairs place) code ≡ times_watched (pair_at old.pairs place) code)
times_apart old new one other code place n away same = (
  once_at-away one code place n away,
  once_at-away other code place n away,
  ap (λ z. times_watched z code) same,
)

-- one more clause is watched
pub listed_more : (old new : Watching) (pair : Pair) → IsListed old
    → (pair.one ≢ pair.other) × IsOf old.variables pair.one × IsOf old.variables pair.other
    → new.pairs ≡ old.pairs ++ Some pair ∷ []
    → (middle : List (List ℕ))
    → middle ≡ set old.lists (code_of pair.one)
    (get_or old.lists (code_of pair.one) [] ++ length old.pairs ∷ [])
    → new.lists ≡ set middle (code_of pair.other)
    (get_or middle (code_of pair.other) [] ++ length old.pairs ∷ [])
    → new.variables ≡ old.variables → IsListed new
listed_more old new pair listed within pairs middle first second variables =
    let n = length old.pairs in
    let one = code_of pair.one in
    let other = code_of pair.other in
    let size : length old.lists ≡ 2 * old.variables + 2 = listed.size in
    let size' : length middle ≡ length old.lists =
    ap length first ∙ length-set old.lists one (get_or old.lists one [] ++ n ∷ []) in
    let size'' : length new.lists ≡ length middle =
    ap length second ∙ length-set middle other (get_or middle other [] ++ n ∷ []) in
    let low : one < 2 * old.variables + 2 = code-below old.variables pair.one within.1 in
    let low' : other < 2 * old.variables + 2 = code-below old.variables pair.other within.2 in
    listed_from_times new (omega arith)
    (λ code place h.
    let step : times place (get_or middle code []) ≡
    times_watched (pair_at old.pairs place) code + once_at one code place n =
    times_pushed old middle one code place n listed (omega arith) (omega arith) first in
    let step' : times place (get_or new.lists code []) ≡
    times place (get_or middle code []) + once_at other code place n = ap (λ z.
    times place (get_or z code [])) second
    ∙ times-push_at middle other code place n (omega arith) in
    ⊎_elim
    (λ here.
    let past : times_watched (pair_at old.pairs place) code ≡ 0 =
    ap (λ z. times_watched z code) (get_or_past old.pairs place None (omega arith)) in
    let now : times_watched (pair_at new.pairs place) code ≡ once one code + once other code =
    ap (λ z. times_watched z code) (ap (λ z. pair_at z place) pairs
    ∙ get_or_push old.pairs (Some pair) None place (sym here))
    ∙ watched-both pair pair.one pair.other code (inl (refl, refl)) in
    omega (arith, once_at-here one code place n here, once_at-here other code place n here))
    (λ away.
    let still = times_apart old new one other code place n away
    (ap (λ z. pair_at z place) pairs ∙ pair_at_push old.pairs (Some pair) place away) in
    omega (arith, still.0, still.1, still.2))
    (cases_eq place n))

-- one more clause is not watched
pub listed_unwatched : (old new : Watching) → IsListed old → new.pairs ≡ old.pairs ++ None ∷ [] →
    new.lists ≡ old.lists → new.variables ≡ old.variables → IsListed new
listed_unwatched old new listed pairs lists variables =
    let size : length old.lists ≡ 2 * old.variables + 2 = listed.size in
    let size' : length new.lists ≡ length old.lists = ap length lists in
    listed_from_times new (omega arith)
    (λ code place h. ap (λ z. times place (get_or z code [])) lists
    ∙ counted_times old listed code place (omega arith)
    ∙ sym (ap (λ z. times_watched z code) (ap (λ z. pair_at z place) pairs
    ∙ pair_at_none old.pairs place)))

-- a clause of a literal's list watches another one in its place
module _ (old new : Watching) (a : ℤ) (i : ℕ) (was pair : Pair) (listed : IsListed old)
    (of : IsOf old.variables a) (small : i < length (watching_list old a))
    (of_one : IsOf old.variables pair.one) (apart : pair.one ≢ a)
    (is : pair_at old.pairs (get_or (watching_list old a) i 0) ≡ Some was)
    (are : ArePair was a pair.other)
    (middle : List (List ℕ))
    (first : middle ≡ set old.lists (code_of pair.one)
    (get_or old.lists (code_of pair.one) [] ++ get_or (watching_list old a) i 0 ∷ []))
    (second : new.lists ≡
    set middle (code_of a) (swap_remove (get_or middle (code_of a) []) i 0)) where
  middle_same : get_or middle (code_of a) [] ≡ watching_list old a
  middle_same =
      ap (λ z. get_or z (code_of a) []) first
      ∙ get_or-set_other old.lists (code_of pair.one) (code_of a)
      (get_or old.lists (code_of pair.one) [] ++ get_or (watching_list old a) i 0 ∷ []) [] (λ e.
      apart (sym (code-inj a pair.one e)))

  middle_size : length middle ≡ length old.lists
  middle_size =
      ap length first ∙ length-set old.lists (code_of pair.one)
      (get_or old.lists (code_of pair.one) [] ++ get_or (watching_list old a) i 0 ∷ [])

  pub rewatched_list : watching_list new a ≡ swap_remove (watching_list old a) i 0
  rewatched_list =
      let below : code_of a < length middle =
      omega (arith, code_below old a i listed of small, middle_size) in
      ap (λ z. get_or z (code_of a) []) second
      ∙ get_or-set_same middle (code_of a) (swap_remove (get_or middle (code_of a) []) i 0) []
      below ∙ ap (λ z. swap_remove z i 0) middle_same

  pub listed_rewatched : new.pairs ≡ set old.pairs (get_or (watching_list old a) i 0) (Some pair) →
      new.variables ≡ old.variables → IsListed new
  listed_rewatched pairs variables =
      let x = get_or (watching_list old a) i 0 in
      let one = code_of pair.one in
      let ca = code_of a in
      let size : length old.lists ≡ 2 * old.variables + 2 = listed.size in
      let size' : length middle ≡ length old.lists = middle_size in
      let size'' : length new.lists ≡ length middle =
      ap length second ∙ length-set middle ca (swap_remove (get_or middle ca []) i 0) in
      let low : one < 2 * old.variables + 2 = code-below old.variables pair.one of_one in
      let low' : ca < 2 * old.variables + 2 = code-below old.variables a of in
      let inside : x < length old.pairs = place_below old a i listed of small in
      listed_from_times new (omega arith)
      (λ code place h.
      let step : times place (get_or middle code []) ≡
      times_watched (pair_at old.pairs place) code + once_at one code place x =
      times_pushed old middle one code place x listed (omega arith) (omega arith) first in
      let step' : times place (get_or new.lists code []) + once_at ca code place x ≡
      times place (get_or middle code []) =
      ap (λ z. times place (get_or z code []) + once_at ca code place x) second
      ∙ times-swap_remove_at middle ca code place i x (omega arith)
      (subst (λ z. i < length z) (sym middle_same) small)
      (ap (λ z. get_or z i 0) middle_same) in
      ⊎_elim
      (λ here.
      let before : times_watched (pair_at old.pairs place) code ≡
      once ca code + once (code_of pair.other) code =
      ap (λ z. times_watched z code) (ap (pair_at old.pairs) here ∙ is)
      ∙ watched-both was a pair.other code are in
      let now : times_watched (pair_at new.pairs place) code ≡
      once one code + once (code_of pair.other) code =
      ap (λ z. times_watched z code) (ap (λ z. pair_at z place) pairs
      ∙ ap (pair_at (set old.pairs x (Some pair))) here
      ∙ get_or-set_same old.pairs x (Some pair) None inside)
      ∙ watched-both pair pair.one pair.other code (inl (refl, refl)) in
      omega (arith, once_at-here one code place x here, once_at-here ca code place x here))
      (λ away.
      let still = times_apart old new one ca code place x away
      (ap (λ z. pair_at z place) pairs
      ∙ get_or-set_other old.pairs x place (Some pair) None away) in
      omega (arith, still.0, still.1, still.2))
      (cases_eq place x))

-- a clause that watches a literal stands in its list
pub listed_place : (w : Watching) (a : ℤ) (place : ℕ) (pair : Pair) → IsListed w
    → IsOf w.variables a → pair_at w.pairs place ≡ Some pair → HasInPair pair a
    → (i : ℕ) × (i < length (watching_list w a)) × (get_or (watching_list w a) i 0 ≡ place)
listed_place w a place pair listed of is has =
    let low : code_of a < 2 * w.variables + 2 = code-below w.variables a of in
    let below : code_of a < length w.lists = omega (arith, listed.size) in
    let watched : 0 < times_watched (pair_at w.pairs place) (code_of a) =
    subst (λ z. 0 < times_watched z (code_of a)) (sym is) (some_watched pair a has) in
    place_from_times place (watching_list w a)
    (subst (λ z. 0 < z) (sym (counted_times w listed (code_of a) place below)) watched)

-- what the code reads of the lists
module _ (lists : List (List ℕ)) (w : Watching) (a : ℤ) (code : ℕ) (are : lists ≡ w.lists)
    (listed : IsListed w) (of : IsOf w.variables a) (is : code ≡ code_of a) where
  pub code_small : code < length lists
  code_small =
      let low : code_of a < 2 * w.variables + 2 = code-below w.variables a of in
      omega (arith, listed.size, ap length are)

  pub list_read : (x : List ℕ) → x ≡ get_or lists code x → x ≡ watching_list w a
  list_read x e =
      get_or_read lists code x code_small e [] ∙ ap (λ z. get_or z code []) are
      ∙ ap (λ z. get_or w.lists z []) is
