-- The paths of a target and its routes are the same where no read is an earlier one.
use Rattle.std.proofs.Common.{◌≡◌, ℕ, ◌+◌, ◌*◌, ◌<◌, Bool, true, false, cond, ◌&&◌, ◌||◌, ◌==◌, not}
use Rattle.std.proofs.Common.{List, [], ◌∷◌, ◌++◌, length, map, reverse, min, Some, None}
use Rattle.std.proofs.Common.{Option, is_none, option_map, slice_get, ◌⊎◌, inl, inr, ⊎_elim, refl}
use Rattle.std.proofs.Common.{sym, ap, ap₂, subst, ◌∙◌, arith, append_assoc, zero-add, zero-mul}
use Rattle.std.specs.Prelude.{Contains, IsTrue, IsFalse}
use Rattle.std.specs.List.{list_any, list_all, range_with_len, AllZip}
use Rattle.std.proofs.lemmas.Bool.{false≢true, or_right, eqb-true}
use Rattle.std.proofs.lemmas.List.{map-append, reverse-append}
use Rattle.std.proofs.lemmas.List.Folds.{list_any-append}
use Rattle.sv_num.specs.declared.faults.Place.{Place}
use Rattle.sv_system.proofs.Lists.{Contains-nil, Contains-head, Contains-cases}
use Rattle.sv_system.proofs.Lists.{Contains-map}
use Rattle.sv_flat.specs.Design.{SignalForm, TypedTree, typed, choice, PieceForm}
use Rattle.sv_flat.specs.Design.{FlatStatement, nothing, after, assign, branch}
use Rattle.sv_flat.specs.Sets.{holds}
use Rattle.sv_flat.specs.Soundness.{well_formed, statement_sound, piece_fits}
use Rattle.sv_flat.specs.Assigned.{assigns}
use Rattle.sv_flat.specs.Readings.{ReadForm, reads, names_signal}
use Rattle.sv_flat.proofs.Members.{Contains-left, Contains-right, Contains-either}
use Rattle.sv_flat.proofs.LeastSets.{or_cases, some_from, from_some, range_has}
use Rattle.sv_flat.proofs.LeastSets.{holds-from_Contains, Contains-from_holds}
use Rattle.sv_flat.proofs.Depths.{first_of, second_of}
use Rattle.sv_obl.specs.Nodes.{nodes_in}
use Rattle.sv_obl.specs.Wanted.{with_copies, copy_of, is_copy, original, put_in}
use Rattle.sv_obl.specs.Paths.{StepForm, Path, open_path, under, step_with, Way, way_under, ways}
use Rattle.sv_obl.specs.Paths.{pieces_of, covers, name_itself, covers_name, ways_taken, later_place}
use Rattle.sv_obl.specs.Paths.{puts_into, with_way, path_names, is_taken}
use Rattle.sv_obl.specs.Paths.{before}
use Rattle.sv_obl.specs.Routes.{RouteForm, open_route, behind, is_all, times_put, first_place}
use Rattle.sv_obl.specs.Routes.{names_in, with_names, with_put, with_ways, with_right}
use Rattle.sv_obl.specs.Routes.{routes_before}
use Rattle.sv_obl.proofs.HeldNumbers.{put_held}
use Rattle.sv_flat.proofs.Members.{only}
use Rattle.sv_obl.proofs.PathLists.{both_true, zip_append, zip_map, zip_flat}
use Rattle.sv_obl.proofs.PathRuns.{step_of, whole_way}
use Rattle.sv_obl.proofs.PutFacts.{copy_is_copy, original_of_copy}
use Rattle.sv_obl.proofs.RouteNames.{names_alike, held_name}
use Rattle.sv_paths.proofs.PutNames.{some_piece, LeftOf, left_of}
use Rattle.sv_paths.proofs.PutAlone.{Settled, AllSettled, well_formed_settled, settled_names}
use Rattle.sv_paths.proofs.PutAlone.{put_leaves, steps_stay, NotAlone, put_alone, here, names_put}
use Rattle.sv_paths.proofs.PutAlone.{times_put_in, none_in_steps}

-- ---- tests

pub same_test : (a b : Bool) → (IsTrue a → IsTrue b) → (IsTrue b → IsTrue a) → a ≡ b
same_test true true to from = refl
same_test true false to from = sym (to refl)
same_test false true to from = from refl
same_test false false to from = refl

-- counts that are added up to one over the limit
capped : (first second : ℕ) → min (min first 65537 + second) 65537 ≡ min (first + second) 65537
capped first second = omega arith

module _ (signals : List SignalForm) (s : ℕ) (inside : s < length signals) where
  abbrev both : List SignalForm
  both = with_copies signals

  abbrev StepsSettled : List StepForm → Type 0
  StepsSettled steps = (step : StepForm) → Contains steps step → Settled signals s step.condition

  -- the names are the target's, where it is wanted, and those in what was put
  pub record Named (wants : Bool) (put names : List ℕ) : Type 0 where
    pub rest : List ℕ
    pub are : names ≡ here signals s wants ++ rest
    pub settled : AllSettled signals s rest
    pub each : (t : ℕ) → holds rest t ≡ holds put t

  -- before an assignment is taken the result is the target's name by itself
  abbrev pub Alone : Bool → TypedTree → Type 0
  Alone true e = name_itself e ≡ Some (copy_of signals s)
  Alone false e = NotAlone signals s e

  -- the path is what the route stands for
  pub record Matches (p : Path) (r : RouteForm) : Type 0 where
    pub steps : p.steps ≡ reverse r.steps
    pub conditions : StepsSettled p.steps
    pub place : p.place ≡ r.place
    pub nodes : r.nodes ≡ min p.nodes 65537
    pub names : Named r.wants r.names (names_in both p.result)
    pub alone : Alone (is_none r.place) p.result

  abbrev pub AllMatch : List Path → List RouteForm → Type 0
  AllMatch ps rs = AllZip Matches ps rs

  one_match : (p : Path) (r : RouteForm) → Matches p r → AllMatch (p ∷ []) (r ∷ [])
  one_match p r same = (same, tt)

  -- ---- the open path

  pub open_matches : Matches (open_path signals s) open_route
  open_matches = record {
    steps = refl;
    conditions = λ step at. absurd (Contains-nil step at);
    place = refl;
    nodes = refl;
    names = record {
      rest = [];
      are = refl;
      settled = λ t at. absurd (Contains-nil t at);
      each = λ t. refl;
    };
    alone = refl;
  }

  -- ---- conditions

  step_settled : (step : StepForm) (steps : List StepForm) → Settled signals s step.condition →
      StepsSettled steps → StepsSettled (step ∷ steps)
  step_settled step steps one each other at = ⊎_elim
      (λ is. subst (λ (y : StepForm). Settled signals s y.condition) is one)
      (λ later. each other later)
      (Contains-cases step steps other at)

  under_matches : (step : StepForm) → Settled signals s step.condition → (p : Path) (r : RouteForm)
      → Matches p r → Matches (under step p) (behind step r)
  under_matches step settled p r same = record {
    steps = ap (λ steps. step ∷ steps) same.steps ∙ sym (reverse-append r.steps (step ∷ []));
    conditions = step_settled step p.steps settled same.conditions;
    place = same.place;
    nodes = same.nodes;
    names = same.names;
    alone = same.alone;
  }

  -- ---- whether a statement is taken

  copies_same : (k : ℕ) → copy_of signals k ≡ copy_of signals s → k ≡ s
  copies_same k is = omega arith

  path_wants : (p : Path) (r : RouteForm) → Matches p r → (k : ℕ)
      → IsTrue (path_names both p (copy_of signals k)) → IsTrue r.wants × (k ≡ s)
  path_wants p r same k named = ⊎_elim
      (λ l.
      let step = from_some (λ (y : StepForm).
      names_signal both y.condition (copy_of signals k)) p.steps l in
      let found = from_some (λ (z : ReadForm).
      z.signal == copy_of signals k) (reads both (step.0).condition) step.2 in
      absurd (no_copy (found.0).signal (eqb-true (found.0).signal (copy_of signals k) found.2)
      (same.conditions step.0 step.1 found.0 found.1)))
      (λ l.
      let found = from_some (λ (z : ReadForm).
      z.signal == copy_of signals k) (reads both p.result) l in
      let at = Contains-map (λ (z : ReadForm). z.signal) (reads both p.result) found.0 found.1 in
      ⊎_elim
      (λ here_at. is_here r.wants here_at)
      (λ rest_at. absurd (no_copy (copy_of signals k) refl
      (same.names.settled (copy_of signals k) rest_at)))
      (Contains-either (here signals s r.wants) same.names.rest (copy_of signals k)
      (subst (λ ns. Contains ns (copy_of signals k)) same.names.are
      (subst (Contains (names_in both p.result))
      (eqb-true (found.0).signal (copy_of signals k) found.2) at))))
      (or_cases (list_any (λ (y : StepForm).
      names_signal both y.condition (copy_of signals k)) p.steps)
      (names_signal both p.result (copy_of signals k)) named)
    where
      no_copy : (x : ℕ) → x ≡ copy_of signals k → IsFalse (is_copy signals x) → ⊥
      no_copy x is settled =
          false≢true (sym settled ∙ ap (is_copy signals) is ∙ copy_is_copy signals k)

      is_here : (wants : Bool) → Contains (here signals s wants) (copy_of signals k)
          → IsTrue wants × (k ≡ s)
      is_here true at =
          (refl, copies_same k (sym (only (copy_of signals s) (copy_of signals k) at)))
      is_here false at = absurd (Contains-nil (copy_of signals k) at)

  wanted_named : (p : Path) (r : RouteForm) → Matches p r → IsTrue r.wants →
      IsTrue (names_signal both p.result (copy_of signals s))
  wanted_named p r same wants =
      sym (held_name (reads both p.result) (copy_of signals s))
      ∙ holds-from_Contains (names_in both p.result) (copy_of signals s)
      (subst (λ ns. Contains ns (copy_of signals s)) (sym same.names.are)
      (subst (λ w. Contains (here signals s w ++ same.names.rest) (copy_of signals s)) (sym wants)
      (Contains-head (copy_of signals s) same.names.rest)))

  taken_is : (statement : FlatStatement) (p : Path) (r : RouteForm) → Matches p r
      → is_taken signals statement p ≡ (assigns statement s && r.wants)
  taken_is statement p r same = same_test (is_taken signals statement p)
      (assigns statement s && r.wants)
      (λ taken.
      let found = from_some (λ k. assigns statement k && path_names both p (copy_of signals k))
      (range_with_len 0 (length signals)) taken in
      let wanted = path_wants p r same found.0
      (second_of (assigns statement found.0)
      (path_names both p (copy_of signals found.0)) found.2) in
      both_true (assigns statement s) r.wants
      (subst (λ k. IsTrue (assigns statement k)) wanted.1
      (first_of (assigns statement found.0)
      (path_names both p (copy_of signals found.0)) found.2)) wanted.0)
      (λ both_hold.
      some_from (λ k. assigns statement k && path_names both p (copy_of signals k))
      (range_with_len 0 (length signals)) s (range_has (length signals) s inside)
      (both_true (assigns statement s) (path_names both p (copy_of signals s))
      (first_of (assigns statement s) r.wants both_hold)
      (or_right (list_any (λ (y : StepForm).
      names_signal both y.condition (copy_of signals s)) p.steps)
      (names_signal both p.result (copy_of signals s))
      (wanted_named p r same (second_of (assigns statement s) r.wants both_hold)))))

  -- ---- how often a right side is put

  module _ (pieces : List PieceForm) (p : Path) (r : RouteForm) (same : Matches p r) where
    settled_covers : (o : Option ℕ) → ((t : ℕ) → o ≡ Some t → IsFalse (is_copy signals t)) →
        covers_name signals pieces o ≡ false
    settled_covers (Some t) settled =
        ap (λ b. b && covers signals (original signals t) pieces) (settled t refl)
    settled_covers None settled = refl

    covers_is : covers_name signals pieces (name_itself p.result) ≡ is_all signals s pieces r
    covers_is = by_place (is_none r.place) same.alone
      where
        by_place : (c : Bool) → Alone c p.result →
            covers_name signals pieces (name_itself p.result) ≡ (c && covers signals s pieces)
        by_place true alone =
            ap (covers_name signals pieces) alone
            ∙ ap₂ (λ b o. b && covers signals o pieces) (copy_is_copy signals s)
            (original_of_copy signals s)
        by_place false alone = settled_covers (name_itself p.result) alone

    target_is : (is_none p.place && covers signals s pieces) ≡ is_all signals s pieces r
    target_is = ap (λ place. is_none place && covers signals s pieces) same.place

    module _ (wants : IsTrue r.wants) where
      names_wanted : names_in both p.result ≡ copy_of signals s ∷ same.names.rest
      names_wanted =
          same.names.are ∙ ap (λ w. here signals s w ++ same.names.rest) wants

      pub puts_are : puts_into signals s pieces p ≡ times_put signals s pieces r
      puts_are = ap₂ (λ a b. a + b)
          (none_in_steps signals s pieces p.steps same.conditions)
          (ap₂ (λ c k. cond c 0 k) target_is
          (times_put_in signals s pieces p.result same.names.rest names_wanted
          same.names.settled))
          ∙ zero-add (times_put signals s pieces r)

      -- ---- a right side put in

      module _ (some : IsTrue (list_any (λ (piece : PieceForm). piece.signal == s) pieces))
          (right way : TypedTree) (settled_right : Settled signals s right)
          (settled : Settled signals s way)
          (nodes_same : times_put signals s pieces r * nodes_in right
          ≡ times_put signals s pieces r * nodes_in way) where
        put_steps : map (step_with (put_in signals pieces right)) p.steps ≡ p.steps
        put_steps = steps_stay signals s (put_in signals pieces right) p.steps
            (λ step at. put_leaves signals s pieces right step.condition (same.conditions step at))

        left : LeftOf signals both way s (copy_of signals s ∷ []) pieces
        left = left_of signals both way s pieces (copy_of signals s ∷ [])

        more_settled : AllSettled signals s left.more
        more_settled t at =
            settled_names signals s way settled t
            (Contains-from_holds (names_in both way) t
            (second_of (some_piece signals both way s pieces) (holds (names_in both way) t)
            (sym (left.each t) ∙ holds-from_Contains left.more t at)))

        way_named : (t : ℕ) → holds left.more t ≡ holds (names_in [] way) t
        way_named t =
            left.each t ∙ ap (λ b. b && holds (names_in both way) t) some
            ∙ ap (λ ns. holds ns t) (names_alike [] both way)

        here_turned : (c : Bool) → cond c [] (copy_of signals s ∷ []) ≡ here signals s (not c)
        here_turned true = refl
        here_turned false = refl

        named : Named (not (covers signals s pieces)) (with_names r.names way)
            (names_in both (put_in signals pieces way p.result))
        named = record {
          rest = left.more ++ same.names.rest;
          are =
              names_put signals s pieces way p.result same.names.rest some names_wanted
              same.names.settled
              ∙ ap (λ ns. ns ++ same.names.rest) left.are
              ∙ append_assoc (cond (covers signals s pieces) [] (copy_of signals s ∷ [])) left.more
              same.names.rest
              ∙ ap (λ ns. ns ++ (left.more ++ same.names.rest))
              (here_turned (covers signals s pieces));
          settled = λ t at. ⊎_elim (more_settled t) (same.names.settled t)
              (Contains-either left.more same.names.rest t at);
          each = λ t.
              list_any-append (λ m. m == t) left.more same.names.rest
              ∙ ap₂ (λ a b. a || b) (way_named t) (same.names.each t)
              ∙ sym (put_held (names_in [] way) r.names t);
        }

        may_be : (t : ℕ) → name_itself p.result ≡ Some t →
            IsFalse (is_copy signals t) ⊎ (t ≡ copy_of signals s)
        may_be t is = by_place (is_none r.place) same.alone
          where
            by_place : (c : Bool) → Alone c p.result →
                IsFalse (is_copy signals t) ⊎ (t ≡ copy_of signals s)
            by_place true alone = inr (let e = sym is ∙ alone in cc)
            by_place false alone = inl (alone t is)

        some_place : is_none (later_place (first_place s pieces) r.place) ≡ false
        some_place = by_pieces pieces some r.place
          where
            by_pieces : (ps : List PieceForm)
                → IsTrue (list_any (λ (piece : PieceForm). piece.signal == s) ps)
                → (o : Option Place) → is_none (later_place (first_place s ps) o) ≡ false
            by_pieces [] none o = absurd (false≢true none)
            by_pieces (piece ∷ ps) some_one (Some q) = refl
            by_pieces (piece ∷ ps) some_one None =
                by_signal (piece.signal == s) some_one
                (λ later. by_pieces ps later None)
              where
                by_signal : (c : Bool)
                    → IsTrue (c || list_any (λ (x : PieceForm). x.signal == s) ps)
                    → (IsTrue (list_any (λ (x : PieceForm). x.signal == s) ps)
                    → is_none (later_place (first_place s ps) None) ≡ false)
                    → is_none (later_place (option_map (λ (x : PieceForm). x.place)
                    (slice_get (cond c (piece ∷ pieces_of s ps) (pieces_of s ps)) 0)) None) ≡ false
                by_signal true h later = refl
                by_signal false h later = later h

        pub put_matches : Matches (with_way signals s pieces right p (whole_way way))
            (with_put signals s pieces way r)
        put_matches = record {
          steps = put_steps ∙ same.steps;
          conditions = subst StepsSettled (sym put_steps) same.conditions;
          place = ap (later_place (first_place s pieces)) same.place;
          nodes =
              ap₂ (λ a b. min (a + b) 65537) same.nodes
              (sym (ap (λ k. k * nodes_in right) puts_are ∙ nodes_same))
              ∙ capped p.nodes (puts_into signals s pieces p * nodes_in right);
          names = named;
          alone = subst (λ c. Alone c (put_in signals pieces way p.result)) (sym some_place)
              (put_alone signals s pieces way settled some p.result may_be);
        }

  -- ---- right sides

  choice_condition : (w : ℕ) (signed : Bool) (place : Place) (c a b : TypedTree)
      → Settled signals s (typed w signed (choice place c a b)) → Settled signals s c
  choice_condition w signed place c a b settled r at =
      settled r (Contains-left (reads both c ++ reads both a) (reads both b) r
      (Contains-left (reads both c) (reads both a) r at))

  choice_first : (w : ℕ) (signed : Bool) (place : Place) (c a b : TypedTree)
      → Settled signals s (typed w signed (choice place c a b)) → Settled signals s a
  choice_first w signed place c a b settled r at =
      settled r (Contains-left (reads both c ++ reads both a) (reads both b) r
      (Contains-right (reads both c) (reads both a) r at))

  choice_second : (w : ℕ) (signed : Bool) (place : Place) (c a b : TypedTree)
      → Settled signals s (typed w signed (choice place c a b)) → Settled signals s b
  choice_second w signed place c a b settled r at =
      settled r (Contains-right (reads both c ++ reads both a) (reads both b) r at)

  module _ (pieces : List PieceForm) (right : TypedTree) (settled_right : Settled signals s right)
      (some : IsTrue (list_any (λ (piece : PieceForm). piece.signal == s) pieces))
      (p : Path) (r : RouteForm) (same : Matches p r) (wants : IsTrue r.wants) where
    -- a condition before each of some ways
    ways_under : (step : StepForm) → Settled signals s step.condition
        → (found : List Way) (rs : List RouteForm)
        → AllMatch (map (with_way signals s pieces right p) found) rs
        → AllMatch (map (with_way signals s pieces right p) (map (way_under step) found))
        (map (behind step) rs)
    ways_under step settled [] [] all = all
    ways_under step settled [] (q ∷ rs) all = elim all [ ]
    ways_under step settled (way ∷ found) [] all = elim all [ ]
    ways_under step settled (way ∷ found) (q ∷ rs) all = (
      under_matches step settled (with_way signals s pieces right p way) q all.0,
      ways_under step settled found rs all.1,
    )

    nothing_counts : (way : TypedTree) → IsTrue (is_all signals s pieces r)
        → times_put signals s pieces r * nodes_in right
        ≡ times_put signals s pieces r * nodes_in way
    nothing_counts way all =
        ap (λ c. cond c 0 (length (pieces_of s pieces)) * nodes_in right) all
        ∙ zero-mul (nodes_in right) ∙ sym (zero-mul (nodes_in way))
        ∙ sym (ap (λ c. cond c 0 (length (pieces_of s pieces)) * nodes_in way) all)

    ways_match : IsTrue (is_all signals s pieces r) → (e : TypedTree) → Settled signals s e
        → AllMatch (map (with_way signals s pieces right p) (ways e))
        (with_ways signals s pieces e r)
    ways_match all (typed w signed (choice place c a b)) settled =
        let c_settled = choice_condition w signed place c a b settled in
        let yes = ways_under (step_of place c true) c_settled (ways a)
        (with_ways signals s pieces a r)
        (ways_match all a (choice_first w signed place c a b settled)) in
        let no = ways_under (step_of place c false) c_settled (ways b)
        (with_ways signals s pieces b r)
        (ways_match all b (choice_second w signed place c a b settled)) in
        subst
        (λ ps. AllMatch ps (with_ways signals s pieces (typed w signed (choice place c a b)) r))
        (sym (map-append (with_way signals s pieces right p)
        (map (way_under (step_of place c true)) (ways a))
        (map (way_under (step_of place c false)) (ways b))))
        (zip_append Matches
        (map (with_way signals s pieces right p) (map (way_under (step_of place c true)) (ways a)))
        (map (with_way signals s pieces right p) (map (way_under (step_of place c false)) (ways b)))
        (map (behind (step_of place c true)) (with_ways signals s pieces a r))
        (map (behind (step_of place c false)) (with_ways signals s pieces b r)) yes no)
    ways_match all e settled =
        one_match (with_way signals s pieces right p (whole_way e)) (with_put signals s pieces e r)
        (put_matches pieces p r same wants some right e settled_right settled
        (nothing_counts e all))

    right_matches : AllMatch
        (map (with_way signals s pieces right p) (ways_taken signals pieces right p))
        (with_right signals s pieces right r)
    right_matches = subst (λ c. AllMatch (map (with_way signals s pieces right p)
        (cond c (ways right) (whole_way right ∷ []))) (with_right signals s pieces right r))
        (sym (covers_is pieces p r same)) (by_test (is_all signals s pieces r) refl)
      where
        by_test : (c : Bool) → is_all signals s pieces r ≡ c
            → AllMatch (map (with_way signals s pieces right p)
            (cond c (ways right) (whole_way right ∷ [])))
            (cond c (with_ways signals s pieces right r) (with_put signals s pieces right r ∷ []))
        by_test true all = ways_match all right settled_right
        by_test false none =
            one_match (with_way signals s pieces right p (whole_way right))
            (with_put signals s pieces right r)
            (put_matches pieces p r same wants some right right settled_right settled_right refl)

  -- ---- statements

  -- the paths before a statement are the routes before it
  pub before_match : (statement : FlatStatement) → IsTrue (statement_sound signals statement)
      → (p : Path) (r : RouteForm) → Matches p r
      → AllMatch (before signals s statement p) (routes_before signals s statement r)
  before_match nothing sound p r same = one_match p r same
  before_match (after first second) sound p r same =
      zip_flat Matches (before signals s first) (routes_before signals s first)
      (before_match first
      (first_of (statement_sound signals first) (statement_sound signals second) sound))
      (before signals s second p) (routes_before signals s second r)
      (before_match second
      (second_of (statement_sound signals first) (statement_sound signals second) sound) p r same)
  before_match (assign pieces place blocking right) sound p r same =
      let settled = well_formed_settled signals s right
      (first_of (well_formed signals right) (list_all (piece_fits signals right) pieces) sound) in
      subst (λ c. AllMatch (cond c (map (with_way signals s pieces right p)
      (ways_taken signals pieces right p)) (p ∷ []))
      (routes_before signals s (assign pieces place blocking right) r))
      (sym (taken_is (assign pieces place blocking right) p r same))
      (by_test settled (assigns (assign pieces place blocking right) s) refl r.wants refl)
    where
      by_test : Settled signals s right
          → (c : Bool) → assigns (assign pieces place blocking right) s ≡ c
          → (d : Bool) → r.wants ≡ d
          → AllMatch (cond (c && d) (map (with_way signals s pieces right p)
          (ways_taken signals pieces right p)) (p ∷ []))
          (cond (c && d) (with_right signals s pieces right r) (r ∷ []))
      by_test settled true assigned true wants =
          right_matches pieces right settled assigned p r same wants
      by_test settled true assigned false wants = one_match p r same
      by_test settled false assigned d wants = one_match p r same
  before_match (branch place condition first second) sound p r same =
      let front = first_of (well_formed signals condition && statement_sound signals first)
      (statement_sound signals second) sound in
      let settled = well_formed_settled signals s condition
      (first_of (well_formed signals condition) (statement_sound signals first) front) in
      subst (λ c. AllMatch (cond c (map (under (step_of place condition true))
      (before signals s first p)
      ++ map (under (step_of place condition false)) (before signals s second p)) (p ∷ []))
      (routes_before signals s (branch place condition first second) r))
      (sym (taken_is (branch place condition first second) p r same))
      (by_test (assigns (branch place condition first second) s && r.wants) _ _
      (zip_append Matches
      (map (under (step_of place condition true)) (before signals s first p))
      (map (under (step_of place condition false)) (before signals s second p))
      (map (behind (step_of place condition true)) (routes_before signals s first r))
      (map (behind (step_of place condition false)) (routes_before signals s second r))
      (zip_map Matches (under (step_of place condition true))
      (behind (step_of place condition true))
      (under_matches (step_of place condition true) settled)
      (before signals s first p) (routes_before signals s first r)
      (before_match first (second_of (well_formed signals condition)
      (statement_sound signals first) front) p r same))
      (zip_map Matches (under (step_of place condition false))
      (behind (step_of place condition false))
      (under_matches (step_of place condition false) settled)
      (before signals s second p) (routes_before signals s second r)
      (before_match second (second_of (well_formed signals condition
      && statement_sound signals first) (statement_sound signals second) sound) p r same))))
    where
      by_test : (c : Bool) (ps : List Path) (rs : List RouteForm) → AllMatch ps rs
          → AllMatch (cond c ps (p ∷ [])) (cond c rs (r ∷ []))
      by_test true ps rs all = all
      by_test false ps rs all = one_match p r same
