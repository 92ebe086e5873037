-- IsSliceOf of statements, one after the other.
use Rattle.std.proofs.Common.{◌≡◌, ℕ, Bool, true, false, cond, ◌&&◌, ◌||◌, not, List, [], ◌∷◌}
use Rattle.std.proofs.Common.{◌++◌, map, flat_map, refl, sym, ap, ap₂, subst, ◌∙◌, append-nil}
use Rattle.std.proofs.Common.{Option, Some, None, option_to_list, Result, Ok, Err}
use Rattle.std.specs.Prelude.{IsTrue, IsFalse, IfOk}
use Rattle.std.proofs.lemmas.Bool.{false≢true}
use Rattle.sv_num.specs.declared.faults.Place.{Place}
use Rattle.sv_flat.specs.Design.{SignalForm, TypedTree, PieceForm, FlatStatement, nothing, after}
use Rattle.sv_flat.specs.Design.{assign, branch}
use Rattle.sv_flat.specs.Assigned.{assigns}
use Rattle.sv_obl.specs.declared.body_slices.BodySlice.{BodySlice}
use Rattle.sv_obl.specs.declared.body_slices.BodySlice as slice
use Rattle.sv_obl.specs.Routes.{RouteForm, behind, with_right, routes_before}
use Rattle.sv_obl.specs.BodySlices.{sliced, in_sequence, slice_statement}
use Rattle.sv_obl.specs.SliceRoutes.{is_nothing, slice_routes, IsSliceOf, IsChain, chain_parts}
use Rattle.sv_obl.specs.SliceRoutes.{chain_routes, all_nothing, AreSlicesOf, EndsIn}
use Rattle.sv_obl.proofs.PathLists.{cond_false, flat_flat, flat_alike, flat_itself}
use Rattle.sv_obl.proofs.SliceFacts.{slice_is_empty}

-- ---- tests

and_right : (b : Bool) → b ≡ (b && true)
and_right true = refl
and_right false = refl

and_of : (a b c : Bool) → ((a && b) && c) ≡ (a && (b && c))
and_of true b c = refl
and_of false b c = refl

-- ---- answers

-- what follows from what holds of an answer
pub on_ok : {T E : Type 0} (r : Result T E) (P Q : T → Type 0) → ((x : T) → P x → Q x)
    → IfOk r P → IfOk r Q
on_ok (Ok x) P Q follows h = follows x h
on_ok (Err e) P Q follows h = h

-- ---- nothing

no_parts_of : (c : BodySlice) → IsTrue (is_nothing c) → (rest : FlatStatement)
    → in_sequence (slice_statement c) rest ≡ rest
no_parts_of slice.Nothing h rest = refl
no_parts_of (slice.Assign pieces place blocking value) h rest = absurd (false≢true h)
no_parts_of (slice.Chain' p first q second) h rest = absurd (false≢true h)
no_parts_of (slice.Branch' place c p met q unmet) h rest = absurd (false≢true h)

module _ (signals : List SignalForm) (s : ℕ) where
  pub nothing_stays : (c : BodySlice) → IsTrue (is_nothing c) → (route : RouteForm) →
      slice_routes signals s c route ≡ route ∷ []
  nothing_stays slice.Nothing h route = refl
  nothing_stays (slice.Assign pieces place blocking value) h route = absurd (false≢true h)
  nothing_stays (slice.Chain' p first q second) h route = absurd (false≢true h)
  nothing_stays (slice.Branch' place c p met q unmet) h route = absurd (false≢true h)

  -- a route that wants nothing stays as it is
  pub closed_stays : (c : BodySlice) (route : RouteForm) → IsFalse route.wants →
      slice_routes signals s c route ≡ route ∷ []
  closed_stays slice.Nothing route h = refl
  closed_stays (slice.Assign pieces place blocking value) route h = cond_false route.wants _ (route ∷ []) h
  closed_stays (slice.Chain' p first q second) route h =
      ap (flat_map (slice_routes signals s first)) (closed_stays second route h)
      ∙ append-nil (slice_routes signals s first route)
      ∙ closed_stays first route h
  closed_stays (slice.Branch' place c p met q unmet) route h = cond_false route.wants _ (route ∷ []) h

-- ---- two slices

module _ (first second : BodySlice) where
  pub chain_of_second : IsTrue (is_nothing first) → IsChain first second second
  chain_of_second none = record {
    nothing = ap (λ b. b && is_nothing second) (sym none);
    parts = λ rest. sym (no_parts_of first none (in_sequence (slice_statement second) rest));
    routes = λ signals s route.
        sym (flat_alike (slice_routes signals s first) (λ r. r ∷ [])
        (nothing_stays signals s first none)
        (slice_routes signals s second route)
        ∙ flat_itself (slice_routes signals s second route));
  }

  pub chain_of_first : IsTrue (is_nothing second) → IsChain first second first
  chain_of_first none = record {
    nothing = and_right (is_nothing first) ∙ ap (λ b. is_nothing first && b) (sym none);
    parts = λ rest. ap (in_sequence (slice_statement first)) (sym (no_parts_of second none rest));
    routes = λ signals s route.
        sym (ap (flat_map (slice_routes signals s first)) (nothing_stays signals s second none route)
        ∙ append-nil (slice_routes signals s first route));
  }

-- ---- branches and assignments

from_not : (b c : Bool) → IsTrue b → b ≡ not c → c ≡ false
from_not b true h e = absurd (false≢true (sym e ∙ h))
from_not b false h e = refl

not_false : (b c : Bool) → IsFalse b → b ≡ not c → c ≡ true
not_false b true h e = refl
not_false b false h e = absurd (false≢true (sym h ∙ e))

module _ (s : ℕ) (place : Place) (condition : TypedTree) (first second : FlatStatement)
    (met unmet : BodySlice) (one : IsSliceOf s first met) (two : IsSliceOf s second unmet) where
  abbrev whole : FlatStatement
  whole = branch place condition first second

  abbrev arms : List SignalForm → (RouteForm → List RouteForm) → (RouteForm → List RouteForm) → RouteForm → List RouteForm
  arms signals f g route =
      map (behind (record { place = place; condition = condition; truth = true })) (f route)
      ++ map (behind (record { place = place; condition = condition; truth = false })) (g route)

  pub no_arm : IsTrue (is_nothing met) → IsTrue (is_nothing unmet) → IsSliceOf s whole slice.Nothing
  no_arm none_yes none_no = record {
    nothing = ap not (sym assigned);
    parts = λ rest. sym (slice_is_empty s whole assigned rest);
    routes = λ signals route.
        sym (cond_false (assigns whole s && route.wants)
        (arms signals (routes_before signals s first) (routes_before signals s second) route)
        (route ∷ []) (ap (λ b. b && route.wants) assigned));
  }
    where
      assigned : assigns whole s ≡ false
      assigned =
          ap₂ (λ a b. a || b) (from_not (is_nothing met) (assigns first s) none_yes one.nothing)
          (from_not (is_nothing unmet) (assigns second s) none_no two.nothing)

  pub some_arm : (c : BodySlice) → IsFalse (is_nothing met && is_nothing unmet) → is_nothing c ≡ false
      → slice_statement c ≡ branch place condition (slice_statement met) (slice_statement unmet)
      → ((signals : List SignalForm) (route : RouteForm) → slice_routes signals s c route
      ≡ cond route.wants
      (arms signals (slice_routes signals s met) (slice_routes signals s unmet) route)
      (route ∷ []))
      → IsSliceOf s whole c
  some_arm c some is goes routes = record {
    nothing = is ∙ ap not (sym assigned);
    parts = λ rest.
        ap (λ (x : FlatStatement). in_sequence x rest) goes
        ∙ ap₂ (λ (x y : FlatStatement). after (branch place condition x y) rest)
        (one.parts nothing) (two.parts nothing)
        ∙ ap (λ b. in_sequence
        (cond b (branch place condition (sliced s first) (sliced s second)) nothing) rest)
        (sym assigned);
    routes = λ signals route.
        routes signals route
        ∙ ap₂ (λ ys ns. cond route.wants
        (map (behind (record { place = place; condition = condition; truth = true })) ys
        ++ map (behind (record { place = place; condition = condition; truth = false })) ns)
        (route ∷ [])) (one.routes signals route) (two.routes signals route)
        ∙ ap (λ b. cond (b && route.wants)
        (arms signals (routes_before signals s first) (routes_before signals s second) route)
        (route ∷ [])) (sym assigned);
  }
    where
      either : (a b x y : Bool) → IsFalse (a && b) → a ≡ not x → b ≡ not y → (x || y) ≡ true
      either a b true y h p q = refl
      either a b false true h p q = refl
      either a b false false h p q = absurd (false≢true (sym h ∙ ap₂ (λ m n. m && n) p q))

      assigned : assigns whole s ≡ true
      assigned = either (is_nothing met) (is_nothing unmet) (assigns first s) (assigns second s)
          some
          one.nothing two.nothing

module _ (s : ℕ) (pieces : List PieceForm) (place : Place) (blocking : Bool)
    (right : TypedTree) where
  abbrev assignment : FlatStatement
  assignment = assign pieces place blocking right

  pub not_assigned : IsFalse (assigns assignment s) → IsSliceOf s assignment slice.Nothing
  not_assigned none = record {
    nothing = ap not (sym none);
    parts = λ rest. sym (slice_is_empty s assignment none rest);
    routes = λ signals route.
        sym (cond_false (assigns assignment s && route.wants)
        (with_right signals s pieces right route) (route ∷ [])
        (ap (λ b. b && route.wants) none));
  }

  pub is_assigned : (c : BodySlice) → IsTrue (assigns assignment s) → is_nothing c ≡ false
      → slice_statement c ≡ assignment
      → ((signals : List SignalForm) (route : RouteForm) → slice_routes signals s c route
      ≡ cond route.wants (with_right signals s pieces right route) (route ∷ []))
      → IsSliceOf s assignment c
  is_assigned c assigned is goes routes = record {
    nothing = is ∙ ap not (sym assigned);
    parts = λ rest.
        ap (λ (x : FlatStatement). in_sequence x rest) goes
        ∙ ap (λ b. in_sequence (cond b assignment nothing) rest) (sym assigned);
    routes = λ signals route.
        routes signals route
        ∙ ap (λ b. cond (b && route.wants) (with_right signals s pieces right route)
        (route ∷ [])) (sym assigned);
  }

-- ---- slices one after the other

one_after : (xs : List BodySlice) (x : BodySlice) → EndsIn (xs ++ x ∷ []) xs x
one_after [] x = record {
  nothing = sym (and_right (is_nothing x));
  parts = λ rest. refl;
  routes = λ signals s route.
      append-nil (slice_routes signals s x route)
      ∙ sym (flat_itself (slice_routes signals s x route));
}
one_after (y ∷ xs) x =
    let rest_of = one_after xs x in
    record {
      nothing = ap (λ b. is_nothing y && b) rest_of.nothing
          ∙ sym (and_of (is_nothing y) (all_nothing xs) (is_nothing x));
      parts = λ rest. ap (in_sequence (slice_statement y)) (rest_of.parts rest);
      routes = λ signals s route.
          ap (flat_map (slice_routes signals s y)) (rest_of.routes signals s route)
          ∙ flat_flat (chain_routes signals s xs) (slice_routes signals s y)
          (slice_routes signals s x route);
    }

pub popped : (old new : List BodySlice) (result : Option BodySlice) (last : BodySlice)
    → old ≡ new ++ option_to_list result → result ≡ Some last → EndsIn old new last
popped old new result last items is =
    subst (λ all. EndsIn all new last) (sym (items ∙ ap (λ r. new ++ option_to_list r) is))
    (one_after new last)

pub none_ends : (xs : List BodySlice) → EndsIn xs xs slice.Nothing
none_ends xs = record {
  nothing = and_right (all_nothing xs);
  parts = λ rest. refl;
  routes = λ signals s route. sym (append-nil (chain_routes signals s xs route));
}

pub none_popped : (old new : List BodySlice) (result : Option BodySlice)
    → old ≡ new ++ option_to_list result → result ≡ None → EndsIn old new slice.Nothing
none_popped old new result items is =
    subst (λ all. EndsIn all new slice.Nothing)
    (sym (items ∙ ap (λ r. new ++ option_to_list r) is ∙ append-nil new)) (none_ends new)

-- the last slices and those before them, taken as one
pub two_ends : (all middle front : List BodySlice) (first second joined : BodySlice)
    → EndsIn all middle second → EndsIn middle front first → IsChain first second joined
    → EndsIn all front joined
two_ends all middle front first second joined later earlier chain = record {
  nothing = later.nothing ∙ ap (λ b. b && is_nothing second) earlier.nothing
      ∙ and_of (all_nothing front) (is_nothing first) (is_nothing second)
      ∙ ap (λ b. all_nothing front && b) (sym chain.nothing);
  parts = λ rest.
      later.parts rest
      ∙ earlier.parts (in_sequence (slice_statement second) rest)
      ∙ ap (chain_parts front) (sym (chain.parts rest));
  routes = λ signals s route.
      later.routes signals s route
      ∙ flat_alike (chain_routes signals s middle)
      (λ r. flat_map (chain_routes signals s front) (slice_routes signals s first r))
      (λ r. earlier.routes signals s r) (slice_routes signals s second route)
      ∙ sym (flat_flat (slice_routes signals s first) (chain_routes signals s front)
      (slice_routes signals s second route))
      ∙ ap (flat_map (chain_routes signals s front)) (sym (chain.routes signals s route));
}

-- so where memory may have run out
pub ends_joined : {E : Type 0} (all middle front : List BodySlice) (first second : BodySlice)
    (joined : Result BodySlice E) → EndsIn all middle second → EndsIn middle front first
    → IfOk joined (IsChain first second) → IfOk joined (EndsIn all front)
ends_joined all middle front first second joined later earlier chain =
    on_ok joined (IsChain first second) (EndsIn all front)
    (λ whole is. two_ends all middle front first second whole later earlier is) chain

pub no_slices : (s : ℕ) → AreSlicesOf s nothing []
no_slices s = record { nothing = refl; parts = λ rest. refl; routes = λ signals route. refl }

-- the slice of one more statement
pub more_slices : (s : ℕ) (a b : FlatStatement) (old new : List BodySlice) (c : BodySlice)
    → AreSlicesOf s a old → IsSliceOf s b c → new ≡ old ++ c ∷ [] → AreSlicesOf s (after a b) new
more_slices s a b old new c are is items =
    let one = one_after old c in
    subst (AreSlicesOf s (after a b)) (sym items)
    (record {
      nothing = one.nothing ∙ ap₂ (λ m n. m && n) are.nothing is.nothing
          ∙ neither (assigns a s) (assigns b s);
      parts = λ rest.
          one.parts rest
          ∙ ap (chain_parts old) (is.parts rest)
          ∙ are.parts (in_sequence (sliced s b) rest);
      routes = λ signals route.
          one.routes signals s route
          ∙ ap (flat_map (chain_routes signals s old)) (is.routes signals route)
          ∙ flat_alike (chain_routes signals s old) (routes_before signals s a)
          (λ r. are.routes signals r) (routes_before signals s b route);
    })
  where
    neither : (x y : Bool) → (not x && not y) ≡ not (x || y)
    neither true y = refl
    neither false y = refl

-- all slices taken as one
pub taken_as_one : (s : ℕ) (a : FlatStatement) (cs : List BodySlice) (joined : BodySlice)
    → AreSlicesOf s a cs → EndsIn cs [] joined → IsSliceOf s a joined
taken_as_one s a cs joined are ends = record {
  nothing = sym ends.nothing ∙ are.nothing;
  parts = λ rest. sym (ends.parts rest) ∙ are.parts rest;
  routes = λ signals route.
      sym (flat_itself (slice_routes signals s joined route))
      ∙ sym (ends.routes signals s route) ∙ are.routes signals route;
}
