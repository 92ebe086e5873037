-- What a trail tells of a path.
use Rattle.std.proofs.Common.{◌≡◌, ℕ, ◌+◌, ◌<◌, Bool, true, false, cond, ◌&&◌, ◌||◌, ◌==◌, not}
use Rattle.std.proofs.Common.{min, List, [], ◌∷◌, ◌++◌, length, map, reverse, flat_map, Option, Some}
use Rattle.std.proofs.Common.{None, is_none, refl, sym, ap, ap₂, ◌∙◌, arith, eq-eqb, ne_eqb}
use Rattle.std.specs.Prelude.{IsTrue, is_some, option_to_list}
use Rattle.std.specs.List.{list_any, range_with_len, AllZip}
use Rattle.std.proofs.lemmas.Bool.{false≢true, eqb-true}
use Rattle.std.proofs.lemmas.List.{reverse-append}
use Rattle.std.proofs.lemmas.List.Folds.{list_any-append}
use Rattle.sv_flat.specs.Design.{SignalForm, TypedTree, FlatStatement}
use Rattle.sv_flat.specs.Sets.{holds}
use Rattle.sv_flat.specs.Assigned.{assigns}
use Rattle.sv_flat.specs.Readings.{reads, names_signal}
use Rattle.sv_flat.proofs.LeastSets.{from_some, some_from, range_has, holds-from_Contains}
use Rattle.sv_flat.proofs.LeastSets.{Contains-from_holds}
use Rattle.sv_flat.proofs.Depths.{first_of, second_of}
use Rattle.sv_paths.specs.declared.list_lines.StepMark.{StepMark}
use Rattle.sv_obl.specs.Paths.{StepForm, Path, open_path, under, path_names, is_taken}
use Rattle.sv_obl.specs.Routes.{names_in}
use Rattle.sv_paths.specs.Trails.{TrailForm, open_trail, own_name, wanted_signals, takes, chosen}
use Rattle.sv_paths.specs.Trails.{marked_by}
use Rattle.sv_obl.specs.Wanted.{with_copies, copy_of}
use Rattle.sv_obl.proofs.PathLists.{both_true}
use Rattle.sv_obl.proofs.RouteNames.{names_alike, held_name}
use Rattle.sv_paths.proofs.RoutePaths.{same_test}
use Rattle.sv_paths.proofs.TrailCounts.{weigh, count, weigh_append, held_count}
use Rattle.sv_paths.proofs.WantedEntries.{any_key}
use Rattle.sv_paths.proofs.TrailNames.{entry, NamesTell, tell_alike, each_name, none_tell}
use Rattle.sv_paths.proofs.TrailOwn.{own_names, own_open}

turned : (a b c : ℕ) → a + b + c ≡ c + a + b
turned a b c = omega arith

-- a condition as a line shows it
abbrev pub mark_of : StepForm → StepMark
mark_of step = record { truth = step.truth; place = step.place }

-- a count that stops at 65,537 is 0 where the count is
pub capped_zero : (k : ℕ) → (min k 65537 == 0) ≡ (k == 0)
capped_zero k = by_test (k == 0) refl
  where
    by_test : (b : Bool) → (k == 0) ≡ b → (min k 65537 == 0) ≡ b
    by_test true is = let e = eqb-true k 0 is in eq-eqb (min k 65537) 0 (omega arith)
    by_test false is = ne_eqb (min k 65537) 0
        (λ e. false≢true (sym is ∙ eq-eqb k 0 (omega arith)))

module _ (signals : List SignalForm) (s : ℕ) where
  abbrev both : List SignalForm
  both = with_copies signals

  -- the names in conditions
  abbrev pub step_names : List StepForm → List ℕ
  step_names steps = flat_map (λ (step : StepForm). names_in both step.condition) steps

  -- and in the result, but where it is a wanted name by itself
  abbrev pub rest_names : Option ℕ → TypedTree → List ℕ
  rest_names own e = cond (is_some own) [] (names_in both e)

  abbrev pub left : Option ℕ → Path → List ℕ
  left own p = step_names p.steps ++ rest_names own p.result

  pub record Tells (p : Path) (t : TrailForm) : Type 0 where
    pub marks : map mark_of p.steps ≡ reverse t.marks
    pub own : own_name (length signals) p.result ≡ t.own
    pub names : NamesTell (length signals) t.names (count (left t.own p))
    pub nodes : t.nodes ≡ min p.nodes 65537
    pub place : p.place ≡ t.place
    -- before an assignment is taken the result is the target's name by itself
    pub first : is_none t.place ≡ true → t.own ≡ Some s

  abbrev pub AllTell : List Path → List TrailForm → Type 0
  AllTell ps ts = AllZip Tells ps ts

  pub one_tells : (p : Path) (t : TrailForm) → Tells p t → AllTell (p ∷ []) (t ∷ [])
  one_tells p t tells = (tells, tt)

  -- ---- the open path

  pub open_tells : Tells (open_path signals s) (open_trail s)
  open_tells = record {
    marks = refl;
    own = own_open signals s;
    names = none_tell (length signals);
    nodes = refl;
    place = refl;
    first = λ none. refl;
  }

  -- ---- conditions

  count_under : (step : StepForm) (own : Option ℕ) (p : Path) (x : ℕ)
      → count (left own p) x + weigh 1 (names_in [] step.condition) x
      ≡ count (left own (under step p)) x
  count_under step own p x =
      ap₂ (λ a b. a + b) (weigh_append 1 (step_names p.steps) (rest_names own p.result) x)
      (ap (λ ns. count ns x) (sym (names_alike [] both step.condition)))
      ∙ turned (count (step_names p.steps) x) (count (rest_names own p.result) x)
      (count (names_in both step.condition) x)
      ∙ sym (weigh_append 1 (names_in both step.condition ++ step_names p.steps)
      (rest_names own p.result) x
      ∙ ap (λ m. m + count (rest_names own p.result) x)
      (weigh_append 1 (names_in both step.condition) (step_names p.steps) x))

  pub under_tells : (step : StepForm) (p : Path) (t : TrailForm) → Tells p t →
      Tells (under step p) (marked_by (length signals) (mark_of step) step.condition t)
  under_tells step p t tells = record {
    marks = ap (λ marks. mark_of step ∷ marks) tells.marks
        ∙ sym (reverse-append t.marks (mark_of step ∷ []));
    own = tells.own;
    names = tell_alike (length signals)
        (marked_by (length signals) (mark_of step) step.condition t).names
        (λ x. count (left t.own p) x + weigh 1 (names_in [] step.condition) x)
        (count (left t.own (under step p)))
        (λ x. ap (λ m. min m 65537) (count_under step t.own p x))
        (each_name (length signals) 1 (omega arith) (names_in [] step.condition) t.names
        (count (left t.own p)) tells.names);
    nodes = tells.nodes;
    place = tells.place;
    first = tells.first;
  }

  pub chosen_tells : (truth : Bool) (p : Path) (t : TrailForm) → Tells p t →
      Tells p (chosen truth t)
  chosen_tells truth p t tells = record {
    marks = tells.marks;
    own = tells.own;
    names = tells.names;
    nodes = tells.nodes;
    place = tells.place;
    first = tells.first;
  }

  -- ---- whether a statement is taken

  pub steps_name : (steps : List StepForm) (x : ℕ)
      → list_any (λ (step : StepForm). names_signal both step.condition x) steps
      ≡ holds (step_names steps) x
  steps_name [] x = refl
  steps_name (step ∷ steps) x = sym
      (list_any-append (λ m. m == x) (names_in both step.condition) (step_names steps)
      ∙ ap₂ (λ a b. a || b) (held_name (reads both step.condition) x)
      (sym (steps_name steps x)))

  some_counted : (k : ℕ) → is_some (entry (min k 65537)) ≡ not (k == 0)
  some_counted k = by_test (k == 0) refl
    where
      by_test : (b : Bool) → (k == 0) ≡ b → is_some (entry (min k 65537)) ≡ not (k == 0)
      by_test true is =
          ap (λ c. is_some (cond c None (Some (min k 65537)))) (capped_zero k ∙ is)
          ∙ ap not (sym is)
      by_test false is =
          ap (λ c. is_some (cond c None (Some (min k 65537)))) (capped_zero k ∙ is)
          ∙ ap not (sym is)

  module _ (p : Path) (t : TrailForm) (tells : Tells p t) where
    own_wanted : (k : ℕ) (own : Option ℕ) → own_name (length signals) p.result ≡ own
        → (holds (step_names p.steps) (copy_of signals k)
        || names_signal both p.result (copy_of signals k))
        ≡ (list_any (λ m. m == k) (option_to_list own)
        || holds (left own p) (copy_of signals k))
    own_wanted k None is =
        ap (λ b. holds (step_names p.steps) (copy_of signals k) || b)
        (sym (held_name (reads both p.result) (copy_of signals k)))
        ∙ sym (list_any-append (λ m. m == copy_of signals k) (step_names p.steps)
        (names_in both p.result))
    own_wanted k (Some o) is =
        ap (λ b. holds (step_names p.steps) (copy_of signals k) || b)
        (sym (held_name (reads both p.result) (copy_of signals k))
        ∙ ap (λ ns. holds ns (copy_of signals k)) (own_names signals p.result o is)
        ∙ ap (λ b. b || false) (same_copy (o == k) refl))
        ∙ or_turned (holds (step_names p.steps) (copy_of signals k)) (o == k)
        ∙ ap (λ b. (o == k) || false || b)
        (sym (list_any-append (λ m. m == copy_of signals k) (step_names p.steps) []))
      where
        same_copy : (b : Bool) → (o == k) ≡ b → (length signals + o == copy_of signals k) ≡ b
        same_copy true same =
            let e = eqb-true o k same in
            eq-eqb (length signals + o) (copy_of signals k) (omega arith)
        same_copy false apart = ne_eqb (length signals + o) (copy_of signals k)
            (λ e. false≢true (sym apart ∙ eq-eqb o k (omega arith)))

        or_turned : (a b : Bool) → (a || (b || false)) ≡ (b || false || (a || false))
        or_turned true true = refl
        or_turned true false = refl
        or_turned false true = refl
        or_turned false false = refl

    -- the trail wants what the path wants
    pub wants_are : (k : ℕ) →
        path_names both p (copy_of signals k) ≡ holds (wanted_signals t) k
    wants_are k =
        ap (λ b. b || names_signal both p.result (copy_of signals k))
        (steps_name p.steps (copy_of signals k))
        ∙ own_wanted k t.own tells.own
        ∙ ap (λ b. list_any (λ m. m == k) (option_to_list t.own) || b)
        (held_count (left t.own p) (copy_of signals k)
        ∙ sym (some_counted (count (left t.own p) (copy_of signals k)))
        ∙ ap is_some (sym (tells.names.wanted k))
        ∙ sym (any_key k t.names.wanted))
        ∙ sym (list_any-append (λ m. m == k) (option_to_list t.own)
        (map (λ (e : ℕ × ℕ). e.0) t.names.wanted))

    pub taken_is : (statement : FlatStatement)
        → ((k : ℕ) → IsTrue (assigns statement k) → k < length signals)
        → is_taken signals statement p ≡ takes statement t
    taken_is statement below = same_test (is_taken signals statement p) (takes statement t)
        (λ taken.
        let found = from_some (λ k. assigns statement k && path_names both p (copy_of signals k))
        (range_with_len 0 (length signals)) taken in
        let k = found.0 in
        some_from (assigns statement) (wanted_signals t) k
        (Contains-from_holds (wanted_signals t) k (sym (wants_are k)
        ∙ second_of (assigns statement k) (path_names both p (copy_of signals k)) found.2))
        (first_of (assigns statement k) (path_names both p (copy_of signals k)) found.2))
        (λ taken.
        let found = from_some (assigns statement) (wanted_signals t) taken in
        let k = found.0 in
        some_from (λ k. assigns statement k && path_names both p (copy_of signals k))
        (range_with_len 0 (length signals)) k (range_has (length signals) k (below k found.2))
        (both_true (assigns statement k) (path_names both p (copy_of signals k)) found.2
        (wants_are k ∙ holds-from_Contains (wanted_signals t) k found.1)))
