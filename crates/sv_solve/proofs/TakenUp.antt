-- A learned clause that is taken up: the pair that it watches, and what it makes true.
use Rattle.std.proofs.Common.{◌≡◌, ◌≢◌, ℕ, zero, suc, ◌+◌, ◌-◌, ◌<◌, ◌≤◌, true, false, ℤ, pos}
use Rattle.std.proofs.Common.{neg_ℤ, List, [], ◌∷◌, ◌++◌, refl, sym, ap, ◌∙◌, subst, inr, ⊎_elim}
use Rattle.std.proofs.Common.{length, take, get_or, set, arith, Option, Some, None, MatchOption}
use Rattle.std.proofs.Common.{◌^◌}
use Rattle.std.specs.Prelude.{All}
use Rattle.std.proofs.lemmas.Bool.{false≢true, cases_order, cases_lt}
use Rattle.std.proofs.lemmas.List.{get_or-set_other, get_or_append_left, get_or_past, take_all}
use Rattle.std.proofs.lemmas.List.{take_at, take-take, length_push, get_or_push}
use Rattle.std.proofs.lemmas.List.Elements.{All-push}
use Rattle.sv_clause.specs.Literals.{stands}
use Rattle.sv_clause.specs.Units.{HasOneIn}
use Rattle.sv_solve.specs.Lists.{Assigned}
use Rattle.sv_solve.specs.Search.{IsClauseOf, Implies, IsImpliedAt}
use Rattle.sv_solve.specs.ConflictClauses.{IsLatest, IsAsserting}
use Rattle.sv_solve.specs.Known.{Known, clauses_known}
use Rattle.sv_solve.specs.Watching.{Watching, IsListed, IsPairOf, IsPairWithin, IsFitting, IsHeld}
use Rattle.sv_solve.specs.Watching.{AllHeld, UnitsTrue, pair_at}
use Rattle.sv_solve.specs.States.{IsLevel, SearchState, IsSearching}
use Rattle.sv_solve.specs.declared.watches.Pair.{Pair}
use Rattle.sv_solve.proofs.Places.{place_of, stands_take, stands_take_le, not_stands_take}
use Rattle.sv_solve.proofs.Places.{stands_push_new}
use Rattle.sv_solve.proofs.Clauses.{of_member, implies_at, get_at, slice_get_at}
use Rattle.sv_solve.proofs.Trails.{implied_push, implied_past}
use Rattle.sv_solve.proofs.Levels.{agree, within_longer, is_held_more, units_more, SameNumbers}
use Rattle.sv_solve.proofs.Levels.{reasoned_older, level_stays, rest_of}

-- a clause that holds two different literals has two
pub two_members : (xs : List ℤ) (a b : ℤ) → a ≢ b → stands a xs ≡ true → stands b xs ≡ true →
    2 ≤ length xs
two_members xs a b ne e f =
    let p = place_of a xs e in
    let q = place_of b xs f in
    let one : p.0 < length xs = p.1 in
    let other : q.0 < length xs = q.1 in
    ⊎_elim (λ same. absurd (ne (sym p.2 ∙ ap (λ z. get_or xs z (pos 0)) same ∙ q.2)))
    (λ apart. ⊎_elim (λ less. omega arith) (λ more. omega arith) apart)
    (cases_order p.0 q.0)

-- the pair of a clause is of two literals of its variables
pub pair_within : (variables : ℕ) (clause : List ℤ) (pair : Option Pair) →
    IsClauseOf variables clause → IsPairOf clause pair → IsPairWithin variables pair
pair_within variables clause None of h = tt
pair_within variables clause (Some pair) of h =
    (h.0, of_member variables clause pair.one of h.1, of_member variables clause pair.other of h.2)

-- the pair that a new clause watches
abbrev pub pair_with : ℤ → Option ℤ → Option Pair
pair_with first None = None
pair_with first (Some other) = Some (record { one = first; other = other })

pub pair_is : (first : ℤ) (other : Option ℤ) (pair : Option Pair) →
    MatchOption other (pair ≡ None) (λ literal.
    pair ≡ Some (record { one = first; other = literal })) → pair ≡ pair_with first other
pair_is first None pair h = h
pair_is first (Some other) pair h = h

pub new_pair_of : (trail clause : List ℤ) (first : ℤ) (other : Option ℤ) (keep : ℕ) →
    stands first clause ≡ true → IsLatest trail clause first keep other →
    IsPairOf clause (pair_with first other)
new_pair_of trail clause first None keep member latest = latest.0
new_pair_of trail clause first (Some other) keep member latest =
    ((λ same. latest.0 (sym same)), member, latest.1)

-- where the literal that is left is true now and was not false before, the pair is held
new_held : (before now : List ℤ) (first : ℤ) (other : Option ℤ) →
    stands (neg_ℤ first) before ≡ false → stands first now ≡ true →
    IsHeld before now (pair_with first other)
new_held before now first None open_first true_first = tt
new_held before now first (Some other) open_first true_first =
    ((λ e. absurd (false≢true (sym open_first ∙ e))), (λ e. true_first))

-- below an older decision neither literal of the new pair is false
new_settled : (trail clause : List ℤ) (first : ℤ) (other : Option ℤ) (keep d : ℕ) →
    stands (neg_ℤ first) (take d trail) ≡ false → IsLatest trail clause first keep other →
    d < keep → IsHeld (take d trail) (take d trail) (pair_with first other)
new_settled trail clause first None keep d open_first latest low = tt
new_settled trail clause first (Some other) keep d open_first latest low = (
  (λ e. absurd (false≢true (sym open_first ∙ e))),
  (λ e.
      absurd (false≢true (sym latest.3
      ∙ stands_take_le (neg_ℤ other) trail d (keep - 1) (omega arith) e))),
)

-- a new clause that stands below an older decision has two literals
new_long : (trail clause : List ℤ) (first : ℤ) (other : Option ℤ) (keep d : ℕ) →
    stands first clause ≡ true → IsLatest trail clause first keep other → d < keep →
    2 ≤ length clause
new_long trail clause first None keep d member latest low =
    let none : keep ≡ 0 = latest.1 in absurd (omega arith)
new_long trail clause first (Some other) keep d member latest low =
    two_members clause other first latest.0 latest.1 member

held_push : (pairs : List (Option Pair)) (pair : Option Pair) (before now : List ℤ) →
    AllHeld pairs before now → IsHeld before now pair → AllHeld (pairs ++ pair ∷ []) before now
held_push pairs pair before now held new place =
    let size : length (pairs ++ pair ∷ []) ≡ length pairs + 1 = length_push pairs pair in
    ⊎_elim
    (λ last. subst (IsHeld before now) (sym (get_or_push pairs pair None place (sym last))) new)
    (λ other. ⊎_elim
    (λ lt. subst (IsHeld before now) (sym (get_or_append_left pairs (pair ∷ []) None place lt))
    (held place))
    (λ gt. subst (IsHeld before now)
    (sym (get_or_past (pairs ++ pair ∷ []) place None (omega arith))) tt)
    other)
    (cases_order place (length pairs))

pub fitting_push : (clauses : List (List ℤ)) (pairs : List (Option Pair)) (clause : List ℤ)
    (pair : Option Pair) → IsFitting clauses pairs → IsPairOf clause pair →
    IsFitting (clauses ++ clause ∷ []) (pairs ++ pair ∷ [])
fitting_push clauses pairs clause pair fit new =
    let size : length (clauses ++ clause ∷ []) ≡ length clauses + 1 = length_push clauses clause in
    let count : length pairs ≡ length clauses = fit.count in
    record {
      count = length_push pairs pair ∙ ap (λ z. z + 1) fit.count ∙ sym (length_push clauses clause);
      each = λ place h. ⊎_elim
          (λ last. subst (IsPairOf (get_or (clauses ++ clause ∷ []) place []))
          (sym (get_or_push pairs pair None place (omega arith)))
          (subst (λ z. IsPairOf z pair)
          (sym (get_or_push clauses clause [] place (sym last))) new))
          (λ other. let lt : place < length clauses = ⊎_elim (λ less. less) (λ more.
          absurd (omega arith)) other in
          subst (IsPairOf (get_or (clauses ++ clause ∷ []) place []))
          (sym (get_or_append_left pairs (pair ∷ []) None place (omega arith)))
          (subst (λ z. IsPairOf z (pair_at pairs place))
          (sym (get_or_append_left clauses (clause ∷ []) [] place lt)) (fit.each place lt)))
          (cases_order place (length clauses));
    }

-- older clauses keep their numbers
same_numbers : (clauses : List (List ℤ)) (clause : List ℤ) →
    SameNumbers clauses (clauses ++ clause ∷ [])
same_numbers clauses clause zero x e = absurd (cc)
same_numbers clauses clause (suc n) x e =
    let r = get_at clauses n x e in
    let small : n < length clauses = r.0 in
    let size : length (clauses ++ clause ∷ []) ≡ length clauses + 1 = length_push clauses clause in
    slice_get_at (clauses ++ clause ∷ []) n x (omega arith)
    ∙ ap Some (get_or_append_left clauses (clause ∷ []) x n small ∙ r.1)

-- the new clause makes the literal that is left true
new_implied : (clauses : List (List ℤ)) (trail clause : List ℤ) (first : ℤ) (other : Option ℤ)
    (keep : ℕ) → IsAsserting trail (length trail) clause first other keep →
    Implies (clauses ++ clause ∷ []) (length clauses + 1) trail first
new_implied clauses trail clause first other keep a =
    let size : length (clauses ++ clause ∷ []) ≡ length clauses + 1 = length_push clauses clause in
    let at : get_or (clauses ++ clause ∷ []) (length clauses) [] ≡ clause =
    get_or_push clauses clause [] (length clauses) refl in
    implies_at (clauses ++ clause ∷ []) (length clauses) trail first (omega arith)
    (ap (stands first) at ∙ a.member)
    (λ l e ne. stands_take (neg_ℤ l) trail keep (a.others l (sym (ap (stands l) at) ∙ e) ne))

-- the pairs are held where one more clause is watched
held_more : (pairs : List (Option Pair)) (xs now : List ℤ) (n : ℕ) (first : ℤ) (other : Option ℤ)
    → take (length xs) now ≡ xs → n ≤ length xs → stands (neg_ℤ first) xs ≡ false
    → stands first now ≡ true → AllHeld pairs (take n xs) xs
    → AllHeld (pairs ++ pair_with first other ∷ []) (take n now) now
held_more pairs xs now n first other older most open_first true_first held =
    let before : take n now ≡ take n xs = agree xs now n older most in
    held_push pairs (pair_with first other) (take n now) now
    (λ place. is_held_more (take n now) xs now (pair_at pairs place) (within_longer xs now older)
    (subst (λ z. IsHeld z xs (pair_at pairs place)) (sym before) (held place)))
    (new_held (take n now) now first other (ap (stands (neg_ℤ first)) before
    ∙ not_stands_take (neg_ℤ first) xs n open_first) true_first)

-- a level below all that the new clause needs stands with that clause too
level_more : (clauses : List (List ℤ)) (pairs : List (Option Pair)) (xs clause : List ℤ) (first : ℤ)
    (other : Option ℤ) (keep d : ℕ) → IsFitting clauses pairs
    → IsAsserting xs (length xs) clause first other keep → stands (neg_ℤ first) xs ≡ false
    → d < keep
    → IsLevel clauses pairs xs d
    → IsLevel (clauses ++ clause ∷ []) (pairs ++ pair_with first other ∷ []) xs d
level_more clauses pairs xs clause first other keep d fit a open_first low level =
    let more = clauses ++ clause ∷ [] in
    let pair = pair_with first other in
    let long : 2 ≤ length clause = new_long xs clause first other keep d a.member a.latest low in
    let units : UnitsTrue more (take d xs) =
    All-push (λ c. length c < 2 → HasOneIn (take d xs) c) clauses clause level.units (λ short.
    absurd (omega arith)) in
    let settled : AllHeld (pairs ++ pair ∷ []) (take d xs) (take d xs) =
    held_push pairs pair (take d xs) (take d xs) level.settled
    (new_settled xs clause first other keep d (not_stands_take (neg_ℤ first) xs d open_first)
    a.latest low) in
    record {
      settled = settled;
      units = units;
      rest =
          rest_of more (pairs ++ pair ∷ []) (take d xs)
          (fitting_push clauses pairs clause pair fit
          (new_pair_of xs clause first other keep a.member a.latest)) settled units
          level.rest.consistent;
    }

-- the state after a new clause is taken up
pub after_take_up : (state : SearchState) (next : Known) (now : Assigned) (watched : Watching)
    (clause : List ℤ) (first : ℤ) (other : Option ℤ) (keep : ℕ) → IsSearching state
    → IsAsserting state.trail.literals (length state.trail.literals) clause first other keep
    → All (λ d. d < keep) state.decisions
    → clauses_known next ≡ clauses_known state.known ++ clause ∷ []
    → next.variables ≡ state.known.variables
    → watched.pairs ≡ state.watching.pairs ++ pair_with first other ∷ [] → IsListed watched
    → watched.variables ≡ state.watching.variables
    → now.literals ≡ state.trail.literals ++ first ∷ []
    → now.reasons ≡ set state.trail.reasons (length state.trail.literals)
    (length (clauses_known state.known) + 1) → length state.trail.literals < length now.reasons
    → now.variables ≡ state.trail.variables
    → IsSearching (record state { known = next; trail = now; watching = watched })
after_take_up state next now watched clause first other keep s a lower next_is same_known pairs_is
    listed same_watch is set_is room same_trail =
    let clauses = clauses_known state.known in
    let xs = state.trail.literals in
    let pairs = state.watching.pairs ++ pair_with first other ∷ [] in
    let more = clauses ++ clause ∷ [] in
    let size : length now.literals ≡ length xs + 1 = ap length is ∙ length_push xs first in
    let older : take (length xs) now.literals ≡ xs =
    ap (take (length xs)) is ∙ take_at xs (first ∷ []) (length xs) refl in
    let open_first : stands (neg_ℤ first) xs ≡ false =
    subst (λ z. stands (neg_ℤ first) z ≡ false) (take_all (length xs) xs (omega arith))
    a.open_first.1 in
    let true_first : stands first now.literals ≡ true =
    ap (stands first) is ∙ stands_push_new first xs in
    let one : HasOneIn now.literals clause = (first, a.member, true_first) in
    record {
      small = subst (λ z. z < 2 ^ 31) (sym same_known) s.small;
      trail_variables = same_trail ∙ s.trail_variables ∙ sym same_known;
      watch_variables = same_watch ∙ s.watch_variables ∙ sym same_known;
      fitting =
          subst (λ z. IsFitting z watched.pairs) (sym next_is)
          (subst (IsFitting more) (sym pairs_is)
          (fitting_push clauses state.watching.pairs clause (pair_with first other) s.fitting
          (new_pair_of xs clause first other keep a.member a.latest)));
      listed = listed;
      units = subst (λ z. UnitsTrue z now.literals) (sym next_is)
          (All-push (λ c. length c < 2 → HasOneIn now.literals c) clauses clause
          (units_more clauses xs now.literals (within_longer xs now.literals older) s.units)
          (λ short. one));
      progress = omega (arith, s.progress);
      held =
          subst (λ z. AllHeld z (take state.propagated now.literals) now.literals) (sym pairs_is)
          (held_more state.watching.pairs xs now.literals state.propagated first other older
          s.progress open_first true_first s.held);
      reasoned = λ place h. ⊎_elim
          (reasoned_older clauses (clauses_known next) state.trail now state.decisions
          state.decisions (subst (SameNumbers clauses) (sym next_is)
          (same_numbers clauses clause)) older
          (λ p lt. ap (λ z. get_or z p 0) set_is
          ∙ get_or-set_other state.trail.reasons (length xs) p (length clauses + 1) 0 (λ e.
          absurd (omega arith)))
          (λ p e. e) s.reasoned place)
          (λ past. inr (subst (λ z. IsImpliedAt z now place) (sym next_is)
          (implied_push more state.trail now first (length clauses + 1) is set_is room
          (new_implied clauses xs clause first other keep a) (length xs)
          (implied_past more state.trail (length xs) (omega arith)) place past h)))
          (cases_lt place (length xs));
      ascend = s.ascend;
      below =
          λ k d h. let small : get_or state.decisions k d < length xs = (s.below k d h).0 in
          (omega arith, (s.below k d h).1);
      levels =
          subst (λ z. All (IsLevel z watched.pairs now.literals) state.decisions) (sym next_is)
          (subst (λ z. All (IsLevel more z now.literals) state.decisions) (sym pairs_is)
          (λ k d h. let e = get_or state.decisions k d in
          let small : e < length xs = (s.below k d h).0 in
          level_stays more pairs xs now.literals e (agree xs now.literals e older (omega arith))
          (level_more clauses state.watching.pairs xs clause first other keep e s.fitting a
          open_first (lower k d h) (s.levels k d h))));
    }

latest_back : (trail now clause : List ℤ) (first : ℤ) (other : Option ℤ) (keep n : ℕ) →
    now ≡ take n trail → keep ≤ n → IsLatest trail clause first keep other →
    IsLatest now clause first keep other
latest_back trail now clause first None keep n is low latest = latest
latest_back trail now clause first (Some other) keep n is low latest = (
  latest.0,
  latest.1,
  latest.2,
  ap (stands (neg_ℤ other)) (ap (take (keep - 1)) is
      ∙ take-take (keep - 1) n trail (omega arith)) ∙ latest.3,
)

-- once the newest decision is taken back, the literal that is left is open in all that remains
pub asserting_back :
    (trail now clause : List ℤ) (mark : ℕ) (first : ℤ) (other : Option ℤ) (keep : ℕ)
    → now ≡ take (length now) trail → keep ≤ length now → length now ≤ mark
    → IsAsserting trail mark clause first other keep
    → IsAsserting now (length now) clause first other keep
asserting_back trail now clause mark first other keep is low high a =
    let n = length now in
    let before : (l : ℤ) → stands l (take mark trail) ≡ false → stands l (take n now) ≡ false =
    λ l e. ap (stands l) (take_all n now (omega arith) ∙ is ∙ sym (take-take n mark trail high))
    ∙ not_stands_take l (take mark trail) n e in
    record {
      early = low;
      member = a.member;
      open_first = (before first a.open_first.0, before (neg_ℤ first) a.open_first.1);
      others =
          λ l e ne. ap (stands (neg_ℤ l)) (ap (take keep) is ∙ take-take keep n trail low)
          ∙ a.others l e ne;
      latest = latest_back trail now clause first other keep n is low a.latest;
    }
