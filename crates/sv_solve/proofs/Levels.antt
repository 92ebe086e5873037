-- Levels of the search: what holds below each decision, and how it goes on.
use Rattle.std.proofs.Common.{◌≡◌, ℕ, ◌+◌, ◌-◌, ◌<◌, ◌≤◌, true, false, ℤ, pos, neg_ℤ, List, [], ◌∷◌}
use Rattle.std.proofs.Common.{◌++◌, refl, sym, ap, ◌∙◌, subst, inl, inr, ◌⊎◌, ⊎_elim, length, take}
use Rattle.std.proofs.Common.{get_or, set, min, arith, Option, Some, None, is_some, IfNone}
use Rattle.std.specs.Prelude.{All, AllPairs, Contains}
use Rattle.std.proofs.lemmas.Bool.{cases_Bool, cases_lt}
use Rattle.std.proofs.lemmas.List.{get_or_default, get_or-set_other, get_or-take, take_all, take_at}
use Rattle.std.proofs.lemmas.List.{take-take, length_push, length-take-le}
use Rattle.std.proofs.lemmas.List.Elements.{All-push, Contains-append_left, Contains-push}
use Rattle.std.proofs.lemmas.List.Quantifiers.{all_pairs_push}
use Rattle.sv_clause.specs.Literals.{stands}
use Rattle.sv_clause.specs.Logs.{numbered}
use Rattle.sv_clause.specs.Units.{IsAtRest, HasOneIn}
use Rattle.sv_solve.specs.Lists.{Assigned}
use Rattle.sv_solve.specs.Search.{IsSettled, IsConsistent, IsImpliedAt, ImpliedFrom}
use Rattle.sv_solve.specs.Known.{clauses_known}
use Rattle.sv_solve.specs.Watching.{Watching, IsListed, IsPairOf, IsFitting, IsHeld, AllHeld}
use Rattle.sv_solve.specs.Watching.{IsSettledAt, UnitsTrue, pair_at}
use Rattle.sv_solve.specs.States.{IsReasoned, IsLevel, SearchState, IsSearching}
use Rattle.sv_solve.specs.declared.watches.Pair.{Pair}
use Rattle.sv_solve.specs.declared.state.SolverState.TheInside.{Inside}
use Rattle.sv_solve.proofs.Places.{stands_take}
use Rattle.sv_solve.proofs.Trails.{at_rest}
use Rattle.sv_solve.proofs.Ascending.{before_place, ascend_take}

-- the state of the search that the solver holds
abbrev pub state_of : Inside → SearchState
state_of s =
    record {
      known = s.known;
      trail = s.trail;
      decisions = s.decisions.items;
      watching = s.watches;
      propagated = s.propagated;
    }

-- what stands in one list stands in the other
abbrev pub Within : List ℤ → List ℤ → Type 0
Within xs ys = (l : ℤ) → stands l xs ≡ true → stands l ys ≡ true

-- a clause whose watched literals are held has a true literal or two open ones
settled_pair : (clause literals : List ℤ) (pair : Option Pair) → IsPairOf clause pair →
    IsHeld literals literals pair → (length clause < 2 → HasOneIn literals clause) →
    IsSettled literals clause
settled_pair clause literals None of held unit = inl (unit of)
settled_pair clause literals (Some pair) of held unit =
    ⊎_elim (λ one. inl (pair.one, of.1, one))
    (λ no_one. ⊎_elim (λ other. inl (pair.other, of.2, other))
    (λ no_other. ⊎_elim (λ false_one. inl (pair.other, of.2, held.0 false_one))
    (λ open_one. ⊎_elim (λ false_other. inl (pair.one, of.1, held.1 false_other))
    (λ open_other.
    inr (pair.one, pair.other, of.0, of.1, of.2, (no_one, open_one), (no_other, open_other)))
    (cases_Bool (stands (neg_ℤ pair.other) literals)))
    (cases_Bool (stands (neg_ℤ pair.one) literals)))
    (cases_Bool (stands pair.other literals)))
    (cases_Bool (stands pair.one literals))

-- where all pairs are held and all units true, the clauses are at rest
pub rest_of : (clauses : List (List ℤ)) (pairs : List (Option Pair)) (literals : List ℤ) →
    IsFitting clauses pairs → AllHeld pairs literals literals → UnitsTrue clauses literals →
    IsConsistent literals → IsAtRest clauses literals
rest_of clauses pairs literals fit held units consistent =
    at_rest clauses literals consistent
    (λ k d h. subst (IsSettled literals) (get_or_default clauses k [] d h)
    (settled_pair (get_or clauses k []) literals (pair_at pairs k) (fit.each k h) (held k)
    (units k [] h)))

-- a list that is propagated in full is at rest
pub rest_here : (state : SearchState) → IsSearching state → IsConsistent state.trail.literals
    → state.propagated ≡ length state.trail.literals
    → IsAtRest (clauses_known state.known) state.trail.literals
rest_here state s consistent all =
    rest_of (clauses_known state.known) state.watching.pairs state.trail.literals s.fitting
    (subst (λ z. AllHeld state.watching.pairs z state.trail.literals)
    (take_all state.propagated state.trail.literals (omega arith)) s.held)
    s.units consistent

pub agree : (xs ys : List ℤ) (n : ℕ) → take (length xs) ys ≡ xs → n ≤ length xs →
    take n ys ≡ take n xs
agree xs ys n e h = sym (take-take n (length xs) ys h) ∙ ap (take n) e

agree_at : (xs ys : List ℤ) (i : ℕ) → take (length xs) ys ≡ xs → i < length xs →
    get_or ys i (pos 0) ≡ get_or xs i (pos 0)
agree_at xs ys i e h = sym (get_or-take (length xs) ys i (pos 0) h) ∙ ap (λ z. get_or z i (pos 0)) e

pub within_longer : (xs ys : List ℤ) → take (length xs) ys ≡ xs → Within xs ys
within_longer xs ys e l h = stands_take l ys (length xs) (ap (stands l) e ∙ h)

pub is_held_more : (before now later : List ℤ) (pair : Option Pair) → Within now later →
    IsHeld before now pair → IsHeld before later pair
is_held_more before now later None more h = tt
is_held_more before now later (Some pair) more h =
    (λ e. more pair.other (h.0 e), λ e. more pair.one (h.1 e))

pub units_more : (clauses : List (List ℤ)) (xs ys : List ℤ) → Within xs ys → UnitsTrue clauses xs →
    UnitsTrue clauses ys
units_more clauses xs ys more units k d h short =
    let one = units k d h short in (one.0, one.1, more one.0 one.2)

-- the numbered clauses are numbered so among the others
abbrev pub SameNumbers : List (List ℤ) → List (List ℤ) → Type 0
SameNumbers clauses more =
    (number : ℕ) (clause : List ℤ) → numbered clauses number ≡ Some clause →
    numbered more number ≡ Some clause

implied_moves : (clauses more : List (List ℤ)) (trail now : Assigned) (i : ℕ)
    → SameNumbers clauses more → get_or now.reasons i 0 ≡ get_or trail.reasons i 0
    → take i now.literals ≡ take i trail.literals
    → get_or now.literals i (pos 0) ≡ get_or trail.literals i (pos 0) → IsImpliedAt clauses trail i
    → IsImpliedAt more now i
implied_moves clauses more trail now i wider reason before here h =
    record {
      clause = h.clause;
      is = ap (numbered more) reason ∙ wider (get_or trail.reasons i 0) h.clause h.is;
      member = ap (λ z. stands z h.clause) here ∙ h.member;
      others = λ l e ne. ap (stands (neg_ℤ l)) before ∙ h.others l e (λ same. ne (same ∙ sym here));
    }

-- older places keep what made them true
pub reasoned_older :
    (clauses more : List (List ℤ)) (trail now : Assigned) (decisions later : List ℕ)
    → SameNumbers clauses more → take (length trail.literals) now.literals ≡ trail.literals
    → ((place : ℕ) → place < length trail.literals
    → get_or now.reasons place 0 ≡ get_or trail.reasons place 0)
    → ((place : ℕ) → Contains decisions place → Contains later place)
    → IsReasoned clauses trail decisions → (place : ℕ) → place < length trail.literals
    → Contains later place ⊎ IsImpliedAt more now place
reasoned_older clauses more trail now decisions later wider older reasons kept reasoned place h =
    ⊎_elim (λ decided. inl (kept place decided))
    (λ implied. inr (implied_moves clauses more trail now place wider (reasons place h)
    (agree trail.literals now.literals place older (omega arith))
    (agree_at trail.literals now.literals place older h) implied))
    (reasoned place h)

-- a level stands where the literals below it stay
level_moves : (clauses : List (List ℤ)) (pairs next : List (Option Pair)) (xs ys : List ℤ) (d : ℕ) →
    take d ys ≡ take d xs → IsSettledAt next ys d → IsLevel clauses pairs xs d →
    IsLevel clauses next ys d
level_moves clauses pairs next xs ys d same settled level =
    record {
      settled = settled;
      units = subst (UnitsTrue clauses) (sym same) level.units;
      rest = subst (IsAtRest clauses) (sym same) level.rest;
    }

pub level_stays : (clauses : List (List ℤ)) (pairs : List (Option Pair)) (xs ys : List ℤ) (d : ℕ) →
    take d ys ≡ take d xs → IsLevel clauses pairs xs d → IsLevel clauses pairs ys d
level_stays clauses pairs xs ys d same level =
    level_moves clauses pairs pairs xs ys d same
    (subst (λ z. AllHeld pairs z z) (sym same) level.settled) level

-- the state after more was propagated
pub after_propagate :
    (state : SearchState) (now : Assigned) (next : Watching) (upto : ℕ) (clauses : List (List ℤ))
    → IsSearching state → clauses ≡ clauses_known state.known
    → IsFitting clauses next.pairs → IsListed next → next.variables ≡ state.watching.variables
    → state.propagated ≤ upto → upto ≤ length now.literals
    → AllHeld next.pairs (take upto now.literals) now.literals
    → ((place : ℕ) → place ≤ state.propagated
    → IsSettledAt state.watching.pairs state.trail.literals place
    → IsSettledAt next.pairs now.literals place)
    → take (length state.trail.literals) now.literals ≡ state.trail.literals
    → length state.trail.literals ≤ length now.literals
    → ((place : ℕ) → place < length state.trail.literals
    → get_or now.reasons place 0 ≡ get_or state.trail.reasons place 0)
    → ImpliedFrom clauses now (length state.trail.literals) → now.variables ≡ state.trail.variables
    → IsSearching (record state { trail = now; watching = next; propagated = upto })
after_propagate state now next upto clauses s is fit listed same_watch low high held settled older
    longer reasons implied same_trail =
    record {
      small = s.small;
      trail_variables = same_trail ∙ s.trail_variables;
      watch_variables = same_watch ∙ s.watch_variables;
      fitting = subst (λ z. IsFitting z next.pairs) is fit;
      listed = listed;
      units =
          units_more (clauses_known state.known) state.trail.literals now.literals
          (within_longer state.trail.literals now.literals older) s.units;
      progress = high;
      held = held;
      reasoned = λ place h. ⊎_elim
          (reasoned_older (clauses_known state.known) (clauses_known state.known) state.trail now
          state.decisions state.decisions (λ n c e. e) older reasons (λ p e.
          e) s.reasoned place)
          (λ past. inr (subst (λ z. IsImpliedAt z now place) is (implied place past h)))
          (cases_lt place (length state.trail.literals));
      ascend = s.ascend;
      below =
          λ k d h. let b = s.below k d h in
          let small : get_or state.decisions k d < length state.trail.literals = b.0 in
          let early : get_or state.decisions k d ≤ state.propagated = b.1 in
          (omega arith, omega arith);
      levels = λ k d h.
          let b = s.below k d h in
          let e = get_or state.decisions k d in
          let small : e < length state.trail.literals = b.0 in
          level_moves (clauses_known state.known) state.watching.pairs next.pairs
          state.trail.literals now.literals e
          (agree state.trail.literals now.literals e older (omega arith))
          (settled e b.1 (s.levels k d h).settled) (s.levels k d h);
    }

-- the state after a decision, made where all was propagated
pub after_decide : (state : SearchState) (now : Assigned) (later : List ℕ) (l : ℤ) (n : ℕ)
    → IsSearching state → IsConsistent state.trail.literals
    → state.propagated ≡ length state.trail.literals → now.literals ≡ state.trail.literals ++ l ∷ []
    → now.reasons ≡ set state.trail.reasons (length state.trail.literals) n
    → now.variables ≡ state.trail.variables
    → later ≡ state.decisions ++ length state.trail.literals ∷ []
    → IsSearching (record state { trail = now; decisions = later })
after_decide state now later l n s consistent all is set_is same_trail later_is =
    let clauses = clauses_known state.known in
    let xs = state.trail.literals in
    let size : length now.literals ≡ length xs + 1 = ap length is ∙ length_push xs l in
    let older : take (length xs) now.literals ≡ xs =
    ap (take (length xs)) is ∙ take_at xs (l ∷ []) (length xs) refl in
    let more : Within xs now.literals = within_longer xs now.literals older in
    let whole : take (length xs) xs ≡ xs = take_all (length xs) xs (omega arith) in
    let held : AllHeld state.watching.pairs xs xs =
    subst (λ z. AllHeld state.watching.pairs z xs) (take_all state.propagated xs (omega arith))
    s.held in
    let newest : IsLevel clauses state.watching.pairs xs (length xs) =
    record {
      settled = subst (λ z. AllHeld state.watching.pairs z z) (sym whole) held;
      units = subst (UnitsTrue clauses) (sym whole) s.units;
      rest = subst (IsAtRest clauses) (sym whole) (rest_here state s consistent all);
    } in
    let IsBelow : ℕ → Type 0 = λ d. (d < length now.literals) × (d ≤ state.propagated) in
    record {
      small = s.small;
      trail_variables = same_trail ∙ s.trail_variables;
      watch_variables = s.watch_variables;
      fitting = s.fitting;
      listed = s.listed;
      units = units_more clauses xs now.literals more s.units;
      progress = omega arith;
      held =
          λ place. is_held_more (take state.propagated now.literals) xs now.literals
          (pair_at state.watching.pairs place) more
          (subst (λ z. IsHeld z xs (pair_at state.watching.pairs place))
          (sym (agree xs now.literals state.propagated older (omega arith))) (s.held place));
      reasoned = λ place h. ⊎_elim
          (reasoned_older clauses clauses state.trail now state.decisions later (λ m c e. e) older
          (λ p lt. ap (λ z. get_or z p 0) set_is
          ∙ get_or-set_other state.trail.reasons (length xs) p n 0 (λ e. absurd (omega arith)))
          (λ p e. subst (λ z. Contains z p) (sym later_is)
          (Contains-append_left state.decisions (length xs ∷ []) p e)) s.reasoned place)
          (λ past. let here : length xs ≡ place = omega arith in
          inl (subst (λ z. Contains z place) (sym later_is)
          (subst (Contains (state.decisions ++ length xs ∷ [])) here
          (Contains-push state.decisions (length xs)))))
          (cases_lt place (length xs));
      ascend =
          subst (AllPairs ◌<◌) (sym later_is)
          (all_pairs_push ◌<◌ state.decisions (length xs) s.ascend (λ k d h. (s.below k d h).0));
      below = subst (All IsBelow) (sym later_is)
          (All-push IsBelow state.decisions (length xs) (λ k d h.
          let small : get_or state.decisions k d < length xs = (s.below k d h).0 in
          (omega arith, (s.below k d h).1)) (omega arith, omega arith));
      levels = subst (All (IsLevel clauses state.watching.pairs now.literals)) (sym later_is)
          (All-push (IsLevel clauses state.watching.pairs now.literals) state.decisions (length xs)
          (λ k d h. let small : get_or state.decisions k d < length xs = (s.below k d h).0 in
          level_stays clauses state.watching.pairs xs now.literals (get_or state.decisions k d)
          (agree xs now.literals (get_or state.decisions k d) older (omega arith))
          (s.levels k d h))
          (level_stays clauses state.watching.pairs xs now.literals (length xs)
          (agree xs now.literals (length xs) older (omega arith)) newest));
    }

-- the state after the trail is taken back to a place
cut_back : (state : SearchState) (now : Assigned) (later : List ℕ) (upto back : ℕ)
    → IsSearching state
    → now.literals ≡ take back state.trail.literals → now.reasons ≡ state.trail.reasons
    → now.variables ≡ state.trail.variables → back ≤ length state.trail.literals → upto ≤ back
    → AllHeld state.watching.pairs (take upto state.trail.literals) (take back state.trail.literals)
    → UnitsTrue (clauses_known state.known) (take back state.trail.literals)
    → All (λ d. (d < back) × (d ≤ upto)) later
    → ((place : ℕ) → place < back → Contains state.decisions place → Contains later place)
    → AllPairs ◌<◌ later
    → All (IsLevel (clauses_known state.known) state.watching.pairs state.trail.literals) later
    → IsSearching (record state { trail = now; decisions = later; propagated = upto })
cut_back state now later upto back s short same_reasons same_trail most early held units below kept
    ascend levels =
    let clauses = clauses_known state.known in
    let xs = state.trail.literals in
    let size : length now.literals ≡ back = ap length short ∙ length-take-le back xs most in
    let same : (n : ℕ) → n ≤ back → take n now.literals ≡ take n xs =
    λ n h. ap (take n) short ∙ take-take n back xs h in
    record {
      small = s.small;
      trail_variables = same_trail ∙ s.trail_variables;
      watch_variables = s.watch_variables;
      fitting = s.fitting;
      listed = s.listed;
      units = subst (UnitsTrue clauses) (sym short) units;
      progress = omega arith;
      held =
          subst (λ z. AllHeld state.watching.pairs z now.literals) (sym (same upto early))
          (subst (AllHeld state.watching.pairs (take upto xs)) (sym short) held);
      reasoned =
          λ place h. let small : place < back = omega arith in
          ⊎_elim (λ decided. inl (kept place small decided))
          (λ implied. inr (implied_moves clauses clauses state.trail now place (λ n c e.
          e) (ap (λ z. get_or z place 0) same_reasons) (same place (omega arith))
          (ap (λ z. get_or z place (pos 0)) short ∙ get_or-take back xs place (pos 0) small)
          implied))
          (s.reasoned place (omega arith));
      ascend = ascend;
      below =
          λ k d h. let lower : get_or later k d < back = (below k d h).0 in
          (omega arith, (below k d h).1);
      levels =
          λ k d h. let lower : get_or later k d < back = (below k d h).0 in
          level_stays clauses state.watching.pairs xs now.literals (get_or later k d)
          (same (get_or later k d) (omega arith)) (levels k d h);
    }

-- where a decision is the first that is taken back, what stands below its level stays
pub keep_below : (state : SearchState) (now : Assigned) (upto back n : ℕ) → IsSearching state
    → now.literals ≡ take back state.trail.literals → now.reasons ≡ state.trail.reasons
    → now.variables ≡ state.trail.variables → n < length state.decisions
    → back ≡ get_or state.decisions n 0 → upto ≡ min state.propagated back
    → IsSearching (record state {
      trail = now;
      decisions = take n state.decisions;
      propagated = upto;
    })
keep_below state now upto back n s short same_reasons same_trail some first least =
    let clauses = clauses_known state.known in
    let b = s.below n 0 some in
    let lower : get_or state.decisions n 0 < length state.trail.literals = b.0 in
    let early : get_or state.decisions n 0 ≤ state.propagated = b.1 in
    let same : upto ≡ back = omega arith in
    let level : IsLevel clauses state.watching.pairs state.trail.literals back =
    subst (IsLevel clauses state.watching.pairs state.trail.literals) (sym first)
    (s.levels n 0 some) in
    let size : length (take n state.decisions) ≡ n =
    length-take-le n state.decisions (omega arith) in
    cut_back state now (take n state.decisions) upto back s short same_reasons same_trail
    (omega arith) (omega arith)
    (subst (λ z. AllHeld state.watching.pairs (take z state.trail.literals)
    (take back state.trail.literals)) (sym same) level.settled)
    level.units
    (λ k d h. let low : k < n = omega arith in
    let less : get_or state.decisions k d < get_or state.decisions n d = s.ascend k n d low some in
    let here : get_or state.decisions n d ≡ get_or state.decisions n 0 =
    get_or_default state.decisions n d 0 some in
    let at : get_or (take n state.decisions) k d ≡ get_or state.decisions k d =
    get_or-take n state.decisions k d low in
    (omega arith, omega arith))
    (λ place h e. before_place state.decisions n place s.ascend some (omega arith) e)
    (ascend_take state.decisions n s.ascend (omega arith))
    (λ k d h. let low : k < n = omega arith in
    subst (IsLevel clauses state.watching.pairs state.trail.literals)
    (sym (get_or-take n state.decisions k d low)) (s.levels k d (omega arith)))

-- above the newest decision each literal was implied
pub implied_above : (state : SearchState) (mark : ℕ) → IsSearching state
    → 0 < length state.decisions → mark ≡ get_or state.decisions (length state.decisions - 1) 0
    → ImpliedFrom (clauses_known state.known) state.trail (mark + 1)
implied_above state mark s some last i low h =
    ⊎_elim
    (λ decided. let k = decided.0 in
    let small : k < length state.decisions = decided.1 in
    let at : get_or state.decisions k 0 ≡ i =
    get_or_default state.decisions k 0 i small ∙ decided.2 in
    ⊎_elim (λ less. let more : get_or state.decisions k 0
    < get_or state.decisions (length state.decisions - 1) 0 = s.ascend k
    (length state.decisions - 1) 0 less (omega arith) in absurd (omega arith))
    (λ ge. let same : k ≡ length state.decisions - 1 = omega arith in
    let here : get_or state.decisions k 0 ≡
    get_or state.decisions (length state.decisions - 1) 0 = ap (λ z.
    get_or state.decisions z 0) same in absurd (omega arith))
    (cases_lt k (length state.decisions - 1)))
    (λ implied. implied)
    (s.reasoned i h)

pub rest_below : (state : SearchState) (mark : ℕ) → IsSearching state → 0 < length state.decisions
    → mark ≡ get_or state.decisions (length state.decisions - 1) 0
    → IsAtRest (clauses_known state.known) (take mark state.trail.literals)
rest_below state mark s some last =
    subst (λ z. IsAtRest (clauses_known state.known) (take z state.trail.literals)) (sym last)
    (s.levels (length state.decisions - 1) 0 (omega arith)).rest

pub when_none : {X : Type 0} (found : Option X) (P : Type 0) → is_some found ≡ false →
    IfNone found P → P
when_none None P none h = h
when_none (Some x) P none h = absurd (cc)
