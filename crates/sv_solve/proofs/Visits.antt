-- The walk over the clauses that watch a literal that became false: what each step keeps.
use Rattle.std.proofs.Common.{◌≡◌, ◌≢◌, ℕ, ◌+◌, ◌-◌, ◌<◌, ◌≤◌, true, false, ℤ, pos, neg_ℤ, List, []}
use Rattle.std.proofs.Common.{◌∷◌, ◌++◌, refl, sym, ap, ◌∙◌, subst, inl, inr, ⊎_elim, length, take}
use Rattle.std.proofs.Common.{get_or, set, arith, Option, Some, None, length-set}
use Rattle.std.specs.List.{swap_remove}
use Rattle.std.proofs.lemmas.Bool.{false≢true, cases_eq, or_cases, or_left}
use Rattle.std.proofs.lemmas.List.{get_or-set_same, get_or-set_other, get_or-take, length-take-le}
use Rattle.std.proofs.lemmas.List.{length_push, take_all, take_at, take_more, take-take}
use Rattle.sv_clause.specs.Literals.{stands}
use Rattle.sv_clause.proofs.Standing.{same_from_int_eq, int_eq-same}
use Rattle.sv_clause.proofs.Merging.{neg-neg}
use Rattle.sv_solve.specs.Codes.{IsOf}
use Rattle.sv_solve.specs.Lists.{Assigned}
use Rattle.sv_solve.specs.Search.{IsConsistent, Implies, ImpliedFrom}
use Rattle.sv_solve.specs.Watching.{Watching, pair_at, watching_list, IsListed, IsFitting, IsPairOf}
use Rattle.sv_solve.specs.Watching.{IsHeld, AllHeld, IsSettledAt, IsPart, KeepsHeld, Extends}
use Rattle.sv_solve.specs.Watching.{Proceeds, HasInPair, ArePair}
use Rattle.sv_solve.specs.declared.watches.Pair.{Pair}
use Rattle.sv_solve.proofs.Places.{stands_take, stands_push_cases}
use Rattle.sv_solve.proofs.Trails.{older_more, implied_push, implied_past}
use Rattle.sv_solve.proofs.Watched.{listed_place}

-- parts of lists
pub part_same : (xs : List ℤ) → IsPart xs xs
part_same xs l e = e

pub part_take : (n : ℕ) (xs : List ℤ) → IsPart (take n xs) xs
part_take n xs l e = stands_take l xs n e

pub part_older : (old new : List ℤ) → take (length old) new ≡ old → IsPart old new
part_older old new older l e = stands_take l new (length old) (ap (stands l) older ∙ e)

-- a literal that is not false is another one than a false one
pub not_false_apart : (a next : ℤ) (was now : List ℤ) → take (length was) now ≡ was →
    stands (neg_ℤ a) was ≡ true → stands (neg_ℤ next) now ≡ false → next ≢ a
not_false_apart a next was now older false_a not_false e =
    false≢true (sym not_false ∙ ap (λ z. stands (neg_ℤ z) now) e
    ∙ part_older was now older (neg_ℤ a) false_a)

-- pairs stay held as the true literals grow
held_grows : (before now later : List ℤ) (o : Option Pair) → IsPart now later →
    IsHeld before now o → IsHeld before later o
held_grows before now later None part h = tt
held_grows before now later (Some pair) part h =
    ((λ e. part pair.other (h.0 e)), (λ e. part pair.one (h.1 e)))

pub all_held_grows : (pairs : List (Option Pair)) (before now later : List ℤ) → IsPart now later →
    AllHeld pairs before now → AllHeld pairs before later
all_held_grows pairs before now later part h place =
    held_grows before now later (pair_at pairs place) part (h place)

-- a trail goes on
pub extends_same : (clauses : List (List ℤ)) (trail : Assigned) → Extends clauses trail trail
extends_same clauses trail =
    record {
      older = take_all (length trail.literals) trail.literals (omega arith);
      longer = omega arith;
      reasons = λ place h. refl;
      implied = λ from h. h;
      variables = refl;
    }

pub extends_on : (clauses : List (List ℤ)) (first cur new : Assigned) → Extends clauses first cur →
    Extends clauses cur new → Extends clauses first new
extends_on clauses first cur new a b =
    let low : length first.literals ≤ length cur.literals = a.longer in
    let more : length cur.literals ≤ length new.literals = b.longer in
    record {
      older = older_more first.literals cur.literals new.literals a.older b.older low;
      longer = omega arith;
      reasons = λ place h. b.reasons place (omega arith) ∙ a.reasons place h;
      implied = λ from h. b.implied from (a.implied from h);
      variables = b.variables ∙ a.variables;
    }

pub extends_push : (clauses : List (List ℤ)) (old new : Assigned) (l : ℤ) (n : ℕ)
    → new.literals ≡ old.literals ++ l ∷ [] → new.reasons ≡ set old.reasons (length old.literals) n
    → length old.literals < length new.reasons → new.variables ≡ old.variables
    → Implies clauses n old.literals l → Extends clauses old new
extends_push clauses old new l n is set_is room variables implies =
    let longer : length new.literals ≡ length old.literals + 1 =
    ap length is ∙ length_push old.literals l in
    record {
      older =
          ap (take (length old.literals)) is
          ∙ take_at old.literals (l ∷ []) (length old.literals) refl;
      longer = omega arith;
      reasons =
          λ place h. ap (λ z. get_or z place 0) set_is
          ∙ get_or-set_other old.reasons (length old.literals) place n 0 (λ e.
          absurd (omega arith));
      implied = λ from h. implied_push clauses old new l n is set_is room implies from h;
      variables = variables;
    }

-- what is the only literal of a list
only : (l x : ℤ) → stands l (x ∷ []) ≡ true → l ≡ x
only l x e =
    ⊎_elim (λ same. same_from_int_eq l x same) (λ none. absurd (false≢true none)) (or_cases _ _ e)

neg_same : (l a : ℤ) → stands (neg_ℤ l) (neg_ℤ a ∷ []) ≡ true → l ≡ a
neg_same l a e = sym (neg-neg l) ∙ ap neg_ℤ (only (neg_ℤ l) (neg_ℤ a) e) ∙ neg-neg a

-- with a literal false and the one beside it true a pair is held
pub held_beside : (a kept : ℤ) (literals : List ℤ) (pair : Pair) → ArePair pair a kept →
    stands kept literals ≡ true → IsHeld (neg_ℤ a ∷ []) literals (Some pair)
held_beside a kept literals pair are stood =
    ⊎_elim
    (λ p. (
      (λ e. ap (λ z. stands z literals) p.1 ∙ stood),
      (λ e.
          ap (λ z. stands z literals) (p.0 ∙ sym (neg_same pair.other a e) ∙ p.1) ∙ stood),
    ))
    (λ p. (
      (λ e. ap (λ z. stands z literals) (p.1 ∙ sym (neg_same pair.one a e) ∙ p.0) ∙ stood),
      (λ e.
          ap (λ z. stands z literals) p.0 ∙ stood),
    ))
    are

-- a pair without the literal is held
held_without : (a : ℤ) (literals : List ℤ) (pair : Pair) → (pair.one ≢ a) → (pair.other ≢ a) →
    IsHeld (neg_ℤ a ∷ []) literals (Some pair)
held_without a literals pair one other =
    ((λ e. absurd (one (neg_same pair.one a e))), (λ e. absurd (other (neg_same pair.other a e))))

-- where the pairs of a literal's list are held, all are
held_if_watched : (a : ℤ) (literals : List ℤ) (o : Option Pair) →
    ((pair : Pair) → o ≡ Some pair → HasInPair pair a →
    IsHeld (neg_ℤ a ∷ []) literals (Some pair)) → IsHeld (neg_ℤ a ∷ []) literals o
held_if_watched a literals None h = tt
held_if_watched a literals (Some pair) h = (
  (λ e. (h pair refl (inl (neg_same pair.one a e))).0 e),
  (λ e.
      (h pair refl (inr (neg_same pair.other a e))).1 e),
)

-- what a clause watches beside a literal
module _ (clauses : List (List ℤ)) (pairs : List (Option Pair)) (place : ℕ) (pair : Pair)
    (a kept : ℤ) (fitting : IsFitting clauses pairs) (below : place < length pairs)
    (is : pair_at pairs place ≡ Some pair) (are : ArePair pair a kept) where
  pub clause_below : place < length clauses
  clause_below = omega (arith, fitting.count)

  fits : (pair.one ≢ pair.other) × (stands pair.one (get_or clauses place []) ≡ true)
      × (stands pair.other (get_or clauses place []) ≡ true)
  fits = subst (IsPairOf (get_or clauses place [])) is (fitting.each place clause_below)

  pub beside_stands : stands kept (get_or clauses place []) ≡ true
  beside_stands =
      ⊎_elim (λ p. ap (λ z. stands z (get_or clauses place [])) (sym p.1) ∙ fits.2) (λ p.
      ap (λ z. stands z (get_or clauses place [])) (sym p.0) ∙ fits.1) are

  pub beside_apart : kept ≢ a
  beside_apart e =
      ⊎_elim (λ p. fits.0 (p.0 ∙ sym e ∙ sym p.1)) (λ p. fits.0 (p.0 ∙ e ∙ sym p.1)) are

-- what the walk over a false literal's list keeps
pub record IsVisiting (clauses : List (List ℤ)) (a : ℤ) (old : Watching) (was : Assigned)
    (watching : Watching) (trail : Assigned) (index : ℕ) : Type 0 where
  pub proceeds : Proceeds clauses old was watching trail
  pub seen : (j : ℕ) → j < index →
      IsHeld (neg_ℤ a ∷ []) trail.literals
      (pair_at watching.pairs (get_or (watching_list watching a) j 0))

swap_remove-before : (xs : List ℕ) (i j : ℕ) → j < i → i < length xs →
    get_or (swap_remove xs i 0) j 0 ≡ get_or xs j 0
swap_remove-before xs i j lt h =
    get_or-take (length xs - 1) (set xs i (get_or xs (length xs - 1) 0)) j 0 (omega arith)
    ∙ get_or-set_other xs i j (get_or xs (length xs - 1) 0) 0 (λ e. absurd (omega arith))

pub length-swap_remove : (xs : List ℕ) (i : ℕ) → i < length xs →
    length (swap_remove xs i 0) + 1 ≡ length xs
length-swap_remove xs i h =
    let whole : length (set xs i (get_or xs (length xs - 1) 0)) ≡ length xs =
    length-set xs i (get_or xs (length xs - 1) 0) in
    let part : length (swap_remove xs i 0) ≡ length xs - 1 =
    length-take-le (length xs - 1) (set xs i (get_or xs (length xs - 1) 0)) (omega arith) in
    omega arith

module _ (clauses : List (List ℤ)) (a : ℤ) (old : Watching) (was : Assigned) where
  pub visiting_start : IsFitting clauses old.pairs → IsListed old →
      IsVisiting clauses a old was old was 0
  visiting_start fitting listed =
      record {
        proceeds =
            record {
              fitting = fitting;
              listed = listed;
              variables = refl;
              keeps = λ before now p q h. h;
              extends = extends_same clauses was;
            };
        seen = λ j h. absurd (omega arith);
      }

  pub visiting_more : (watching : Watching) (trail later : Assigned) (index : ℕ)
      → IsVisiting clauses a old was watching trail index → Extends clauses trail later
      → IsHeld (neg_ℤ a ∷ []) later.literals
      (pair_at watching.pairs (get_or (watching_list watching a) index 0))
      → IsVisiting clauses a old was watching later (index + 1)
  visiting_more watching trail later index v on here =
      record {
        proceeds =
            record {
              fitting = v.proceeds.fitting;
              listed = v.proceeds.listed;
              variables = v.proceeds.variables;
              keeps = v.proceeds.keeps;
              extends = extends_on clauses was trail later v.proceeds.extends on;
            };
        seen = λ j h. ⊎_elim
            (λ last. subst (λ z.
            IsHeld (neg_ℤ a ∷ []) later.literals
            (pair_at watching.pairs (get_or (watching_list watching a) z 0))) (sym last) here)
            (λ ne. held_grows (neg_ℤ a ∷ []) trail.literals later.literals
            (pair_at watching.pairs (get_or (watching_list watching a) j 0))
            (part_older trail.literals later.literals on.older)
            (v.seen j (let differs : j ≢ index = ne in omega arith)))
            (cases_eq j index);
      }

  pub visiting_end : (watching : Watching) (trail : Assigned) (index : ℕ)
      → IsVisiting clauses a old was watching trail index → IsOf watching.variables a
      → length (watching_list watching a) ≤ index
      → AllHeld watching.pairs (neg_ℤ a ∷ []) trail.literals
  visiting_end watching trail index v of h place =
      held_if_watched a trail.literals (pair_at watching.pairs place)
      (λ pair is has. let p = listed_place watching a place pair v.proceeds.listed of is has in
      subst (λ z. IsHeld (neg_ℤ a ∷ []) trail.literals z) is
      (subst (λ z. IsHeld (neg_ℤ a ∷ []) trail.literals (pair_at watching.pairs z)) p.2
      (v.seen p.0 (let small : p.0 < length (watching_list watching a) = p.1 in omega arith))))

-- another literal is watched in place of the false one
module _ (clauses : List (List ℤ)) (a : ℤ) (old : Watching) (was : Assigned)
    (watching new : Watching) (trail : Assigned) (index : ℕ) (pair next : Pair)
    (v : IsVisiting clauses a old was watching trail index) (consistent : IsConsistent was.literals)
    (false_a : stands (neg_ℤ a) was.literals ≡ true)
    (small : index < length (watching_list watching a))
    (below : get_or (watching_list watching a) index 0 < length watching.pairs)
    (is : pair_at watching.pairs (get_or (watching_list watching a) index 0) ≡ Some pair)
    (are : ArePair pair a next.other)
    (apart : next.one ≢ next.other)
    (member : stands next.one (get_or clauses (get_or (watching_list watching a) index 0) []) ≡
    true) (not_false : stands (neg_ℤ next.one) trail.literals ≡ false)
    (pairs : new.pairs ≡ set watching.pairs (get_or (watching_list watching a) index 0)
    (Some next)) where
  moved_here : pair_at new.pairs (get_or (watching_list watching a) index 0) ≡ Some next
  moved_here =
      ap (λ z. pair_at z (get_or (watching_list watching a) index 0)) pairs
      ∙ get_or-set_same watching.pairs (get_or (watching_list watching a) index 0) (Some next)
      None below

  moved_other : (place : ℕ) → (place ≡ get_or (watching_list watching a) index 0 → ⊥) →
      pair_at new.pairs place ≡ pair_at watching.pairs place
  moved_other place ne =
      ap (λ z. pair_at z place) pairs
      ∙ get_or-set_other watching.pairs (get_or (watching_list watching a) index 0) place
      (Some next) None ne

  not_among : (part : List ℤ) → IsPart part was.literals → stands a part ≡ true → ⊥
  not_among part p e = false≢true (sym (consistent a (p a e)) ∙ false_a)

  moved_held : (before now : List ℤ) → IsPart before was.literals → IsPart now was.literals →
      IsHeld before now (Some pair) → IsHeld before now (Some next)
  moved_held before now p q h = (
    (λ e.
        absurd (false≢true (sym not_false
        ∙ part_older was.literals trail.literals v.proceeds.extends.older (neg_ℤ next.one)
        (p (neg_ℤ next.one) e)))),
    (λ e. absurd (⊎_elim
        (λ r. not_among now q (ap (λ z. stands z now) (sym r.0)
        ∙ h.1 (ap (λ z. stands (neg_ℤ z) before) r.1 ∙ e)))
        (λ r. not_among now q (ap (λ z. stands z now) (sym r.1)
        ∙ h.0 (ap (λ z. stands (neg_ℤ z) before) r.0 ∙ e)))
        are)),
  )

  moved_keeps : KeepsHeld old.pairs new.pairs was.literals
  moved_keeps before now p q h place =
      let step = v.proceeds.keeps before now p q h in
      ⊎_elim
      (λ here. subst (IsHeld before now) (sym (ap (pair_at new.pairs) here ∙ moved_here))
      (moved_held before now p q
      (subst (IsHeld before now) is (step (get_or (watching_list watching a) index 0)))))
      (λ ne. subst (IsHeld before now) (sym (moved_other place ne)) (step place))
      (cases_eq place (get_or (watching_list watching a) index 0))

  moved_fits : IsFitting clauses new.pairs
  moved_fits =
      record {
        count =
            ap length pairs ∙ length-set watching.pairs (get_or (watching_list watching a) index 0)
            (Some next) ∙ v.proceeds.fitting.count;
        each = λ place h. ⊎_elim
            (λ here. subst (λ z. IsPairOf (get_or clauses z []) (pair_at new.pairs z)) (sym here)
            (subst (IsPairOf (get_or clauses (get_or (watching_list watching a) index 0) []))
            (sym moved_here) (
              apart,
              member,
              beside_stands clauses watching.pairs
                  (get_or (watching_list watching a) index 0) pair a next.other v.proceeds.fitting
                  below is are,
            )))
            (λ ne. subst (IsPairOf (get_or clauses place [])) (sym (moved_other place ne))
            (v.proceeds.fitting.each place h))
            (cases_eq place (get_or (watching_list watching a) index 0));
      }

  moved_seen : (place : ℕ) → next.one ≢ a →
      IsHeld (neg_ℤ a ∷ []) trail.literals (pair_at watching.pairs place) →
      IsHeld (neg_ℤ a ∷ []) trail.literals (pair_at new.pairs place)
  moved_seen place ne h =
      ⊎_elim
      (λ here. subst (IsHeld (neg_ℤ a ∷ []) trail.literals)
      (sym (ap (pair_at new.pairs) here ∙ moved_here))
      (held_without a trail.literals next ne
      (beside_apart clauses watching.pairs (get_or (watching_list watching a) index 0) pair a
      next.other v.proceeds.fitting below is are)))
      (λ away. subst (IsHeld (neg_ℤ a ∷ []) trail.literals) (sym (moved_other place away)) h)
      (cases_eq place (get_or (watching_list watching a) index 0))

  pub visiting_rewatched : IsListed new → new.variables ≡ watching.variables →
      watching_list new a ≡ swap_remove (watching_list watching a) index 0 →
      IsVisiting clauses a old was new trail index
  visiting_rewatched listed variables list =
      record {
        proceeds =
            record {
              fitting = moved_fits;
              listed = listed;
              variables = variables ∙ v.proceeds.variables;
              keeps = moved_keeps;
              extends = v.proceeds.extends;
            };
        seen = λ j h. subst (λ z. IsHeld (neg_ℤ a ∷ []) trail.literals (pair_at new.pairs z))
            (sym (ap (λ z. get_or z j 0) list
            ∙ swap_remove-before (watching_list watching a) index j h small))
            (moved_seen (get_or (watching_list watching a) j 0)
            (not_false_apart a next.one was.literals trail.literals v.proceeds.extends.older
            false_a not_false) (v.seen j h));
      }

-- one step after another
pub proceeds_on : (clauses : List (List ℤ)) (first cur new : Watching)
    (was trail later : Assigned) → Proceeds clauses first was cur trail →
    Proceeds clauses cur trail new later → Proceeds clauses first was new later
proceeds_on clauses first cur new was trail later a b =
    let part = part_older was.literals trail.literals a.extends.older in
    record {
      fitting = b.fitting;
      listed = b.listed;
      variables = b.variables ∙ a.variables;
      keeps =
          λ before now p q h. b.keeps before now (λ l e. part l (p l e)) (λ l e.
          part l (q l e)) (a.keeps before now p q h);
      extends = extends_on clauses was trail later a.extends b.extends;
    }

take_older : (old new : List ℤ) (n : ℕ) → take (length old) new ≡ old → n ≤ length old →
    take n new ≡ take n old
take_older old new n older h = sym (take-take n (length old) new h) ∙ ap (take n) older

-- what has come of the old pairs and the old trail
module _ (clauses : List (List ℤ)) (old new : Watching) (was trail : Assigned)
    (p : Proceeds clauses old was new trail) where
  pub proceeds_held : (n : ℕ) → n ≤ length was.literals →
      AllHeld old.pairs (take n was.literals) was.literals →
      AllHeld new.pairs (take n trail.literals) trail.literals
  proceeds_held n small h =
      subst (λ z. AllHeld new.pairs z trail.literals)
      (sym (take_older was.literals trail.literals n p.extends.older small))
      (all_held_grows new.pairs (take n was.literals) was.literals trail.literals
      (part_older was.literals trail.literals p.extends.older)
      (p.keeps (take n was.literals) was.literals (part_take n was.literals)
      (part_same was.literals) h))

  pub proceeds_settled : (n : ℕ) → n ≤ length was.literals → IsSettledAt old.pairs was.literals n →
      IsSettledAt new.pairs trail.literals n
  proceeds_settled n small h =
      subst (λ z. AllHeld new.pairs z z)
      (sym (take_older was.literals trail.literals n p.extends.older small))
      (p.keeps (take n was.literals) (take n was.literals) (part_take n was.literals)
      (part_take n was.literals) h)

  pub proceeds_implied : ImpliedFrom clauses trail (length was.literals)
  proceeds_implied =
      p.extends.implied (length was.literals)
      (implied_past clauses was (length was.literals) (omega arith))

held_both : (before now : List ℤ) (l : ℤ) (o : Option Pair) → IsHeld before now o →
    IsHeld (l ∷ []) now o → IsHeld (before ++ l ∷ []) now o
held_both before now l None h k = tt
held_both before now l (Some pair) h k = (
  (λ e. ⊎_elim h.0 (λ same. k.0 (or_left _ _ (int_eq-same (neg_ℤ pair.one) l same)))
      (stands_push_cases (neg_ℤ pair.one) l before e)),
  (λ e. ⊎_elim h.1 (λ same. k.1 (or_left _ _ (int_eq-same (neg_ℤ pair.other) l same)))
      (stands_push_cases (neg_ℤ pair.other) l before e)),
)

-- one more literal of the trail is propagated
pub held_more : (clauses : List (List ℤ)) (old new : Watching) (was trail : Assigned) (head : ℕ)
    (a : ℤ) → Proceeds clauses old was new trail → head < length was.literals
    → neg_ℤ a ≡ get_or was.literals head (pos 0)
    → AllHeld old.pairs (take head was.literals) was.literals
    → AllHeld new.pairs (neg_ℤ a ∷ []) trail.literals
    → AllHeld new.pairs (take (head + 1) trail.literals) trail.literals
held_more clauses old new was trail head a p small is h k =
    let first = subst (λ z.
    AllHeld new.pairs z trail.literals)
    (take_older was.literals trail.literals head p.extends.older (omega arith))
    (proceeds_held clauses old new was trail p head (omega arith) h) in
    let whole : take (head + 1) trail.literals ≡ take head was.literals ++ neg_ℤ a ∷ [] =
    take_older was.literals trail.literals (head + 1) p.extends.older (omega arith)
    ∙ take_more was.literals head (pos 0) small
    ∙ ap (λ z. take head was.literals ++ z ∷ []) (sym is) in
    subst (λ z. AllHeld new.pairs z trail.literals) (sym whole) (λ place.
    held_both (take head was.literals) trail.literals (neg_ℤ a) (pair_at new.pairs place)
    (first place) (k place))

-- what propagation keeps
pub record IsPropagating (clauses : List (List ℤ)) (old : Watching) (was : Assigned)
    (watching : Watching) (trail : Assigned) (from head : ℕ) : Type 0 where
  pub proceeds : Proceeds clauses old was watching trail
  pub low : from ≤ head
  pub high : head ≤ length trail.literals
  pub held : AllHeld watching.pairs (take head trail.literals) trail.literals
