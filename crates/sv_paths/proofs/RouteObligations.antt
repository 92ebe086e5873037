-- The obligations of a target are those of its routes.
use Rattle.std.proofs.Common.{◌≡◌, ℕ, ◌<◌, Bool, true, false, cond, ◌&&◌, ◌||◌, ◌==◌, not, nat_lt}
use Rattle.std.proofs.Common.{List, [], ◌∷◌, ◌++◌, length, map, reverse, flat_map, Some, All}
use Rattle.std.proofs.Common.{Option, min, arith}
use Rattle.std.proofs.Common.{⊎_elim, refl, sym, ap, ap₂, subst, ◌∙◌, append-nil}
use Rattle.std.specs.Prelude.{Contains, IsTrue}
use Rattle.std.specs.List.{list_any, range_with_len}
use Rattle.std.proofs.lemmas.Bool.Decides.{nat_tests}
use Rattle.std.proofs.lemmas.List.{reverse-append}
use Rattle.std.proofs.lemmas.List.Concat.{flat_map-append}
use Rattle.std.proofs.lemmas.List.Folds.{list_any-append}
use Rattle.sv_num.specs.declared.faults.Place.{Place}
use Rattle.sv_system.proofs.Lists.{Contains-nil, Contains-cases}
use Rattle.sv_flat.specs.Design.{SignalForm, TypedTree, typed, constant, ProcessForm}
use Rattle.sv_flat.specs.Design.{FlatDesign}
use Rattle.sv_flat.specs.Sets.{holds, those}
use Rattle.sv_flat.specs.Values.{signal_of, signal_width}
use Rattle.sv_flat.specs.Soundness.{sound}
use Rattle.sv_flat.specs.Admission.{IsAdmitted}
use Rattle.sv_flat.specs.Clocks.{processes_of}
use Rattle.sv_flat.specs.Processes.{is_clocked, is_block}
use Rattle.sv_flat.specs.Readings.{ReadForm, reads, names_signal, no_bits}
use Rattle.sv_flat.proofs.AdmittedFacts.{body_is_sound}
use Rattle.sv_flat.proofs.Members.{Contains-either}
use Rattle.sv_flat.proofs.LeastSets.{or_cases, from_some, holds-from_Contains}
use Rattle.sv_flat.proofs.LeastSets.{Contains-from_holds}
use Rattle.sv_paths.specs.RouteObligations.{is_large}
use Rattle.sv_obl.specs.Exchange.{name, content}
use Rattle.sv_obl.specs.Obligations.{Obligation, flow, path_obligation, place_of, is_link}
use Rattle.sv_obl.specs.Obligations.{frame_of}
use Rattle.sv_obl.specs.Paths.{StepForm, Path, open_path, path_names, before, closed, paths}
use Rattle.sv_obl.specs.Routes.{RouteForm, open_route, routes_before, names_in}
use Rattle.sv_paths.specs.RouteObligations.{names_on}
use Rattle.sv_paths.specs.RouteObligations.{route_obligation}
use Rattle.sv_obl.specs.Wanted.{with_copies, copy_of, is_copy, original, close, closed_tree, marked}
use Rattle.sv_obl.proofs.PathLists.{zip_any, zip_count}
use Rattle.sv_paths.proofs.NumberSets.{filter_alike}
use Rattle.sv_flat.proofs.Members.{contained_all, only}
use Rattle.sv_obl.proofs.PutFacts.{copy_is_copy, original_of_copy, settled_is_signal}
use Rattle.sv_paths.proofs.PutAlone.{Settled, AllSettled, kept_each, close_leaves}
use Rattle.sv_paths.proofs.PutNames.{by_signals}
use Rattle.sv_paths.proofs.PutAlone.{steps_stay, here, settled_names}
use Rattle.sv_obl.proofs.RouteNames.{stands, exchanged_in, names_alike, held_name}
use Rattle.sv_paths.proofs.RoutePaths.{Matches, AllMatch, open_matches, before_match}

any_reversed : {X : Type 0} (test : X → Bool) (xs : List X) →
    list_any test (reverse xs) ≡ list_any test xs
any_reversed test [] = refl
any_reversed test (x ∷ xs) =
    ap (list_any test) (reverse-append (x ∷ []) xs)
    ∙ list_any-append test (reverse xs) (x ∷ [])
    ∙ ap (λ b. b || (test x || false)) (any_reversed test xs)
    ∙ or_turned (list_any test xs) (test x)
  where
    or_turned : (a b : Bool) → (a || (b || false)) ≡ (b || a)
    or_turned true true = refl
    or_turned true false = refl
    or_turned false true = refl
    or_turned false false = refl

module _ (signals : List SignalForm) where
  -- a name among those of an expression
  one_named : (e : TypedTree) (t : ℕ) → holds (names_in [] e) t ≡ names_signal signals e t
  one_named e t =
      ap (λ ns. holds ns t) (names_alike signals [] e) ∙ held_name (reads signals e) t

  all_named : {X : Type 0} (tree : X → TypedTree) (xs : List X) (t : ℕ)
      → holds (flat_map (λ x. names_in [] (tree x)) xs) t
      ≡ list_any (λ x. names_signal signals (tree x) t) xs
  all_named tree [] t = refl
  all_named tree (x ∷ xs) t =
      list_any-append (λ m. m == t) (names_in [] (tree x))
      (flat_map (λ y. names_in [] (tree y)) xs)
      ∙ ap₂ (λ a b. a || b) (one_named (tree x) t) (all_named tree xs t)

module _ (signals : List SignalForm) (s : ℕ) (inside : s < length signals)
    (is_register : Bool) where
  abbrev both : List SignalForm
  both = with_copies signals

  -- the names that a name leaves at the beginning of the process
  abbrev left_names : ℕ → List ℕ
  left_names x =
      cond (not (is_copy signals x)) (x ∷ []) (cond is_register (original signals x ∷ []) [])

  close_is : (r : ReadForm) → stands signals (close signals is_register r) ≡ left_names r.signal
  close_is r = by_tests (not (is_copy signals r.signal)) is_register
    where
      by_tests : (b c : Bool)
          → stands signals (cond b (name r.signal) (cond c (name (original signals r.signal))
          (content (original signals r.signal)
          (typed (signal_width signals (original signals r.signal))
          (signal_of signals (original signals r.signal)).signed (constant 0)))))
          ≡ cond b (r.signal ∷ []) (cond c (original signals r.signal ∷ []) [])
      by_tests true c = refl
      by_tests false true = refl
      by_tests false false = refl

  left_rest : (rest : List ℕ) → AllSettled signals s rest → flat_map left_names rest ≡ rest
  left_rest rest settled = kept_each left_names rest (λ x at.
      ap (λ b. cond (not b) (x ∷ []) (cond is_register (original signals x ∷ []) []))
      (settled x at))

  abbrev held : Bool → List ℕ
  held wants = cond (is_register && wants) (s ∷ []) []

  left_here : (wants : Bool) → flat_map left_names (here signals s wants) ≡ held wants
  left_here true =
      append-nil (left_names (copy_of signals s))
      ∙ ap₂ (λ b o. cond (not b) (copy_of signals s ∷ []) (cond is_register (o ∷ []) []))
      (copy_is_copy signals s) (original_of_copy signals s)
      ∙ by_test is_register
    where
      by_test : (c : Bool) → cond c (s ∷ []) [] ≡ cond (c && true) (s ∷ []) []
      by_test true = refl
      by_test false = refl
  left_here false = by_test is_register
    where
      by_test : (c : Bool) → [] ≡ cond (c && false) (s ∷ []) []
      by_test true = refl
      by_test false = refl

  module _ (p : Path) (r : RouteForm) (same : Matches signals s inside p r) where
    abbrev q : Path
    q = closed signals is_register p

    steps_left : q.steps ≡ p.steps
    steps_left = steps_stay signals s (closed_tree signals is_register) p.steps
        (λ step at. close_leaves signals s is_register step.condition (same.conditions step at))

    steps_same : q.steps ≡ reverse r.steps
    steps_same = steps_left ∙ same.steps

    result_names : names_in signals q.result ≡ held r.wants ++ same.names.rest
    result_names =
        exchanged_in both signals (close signals is_register) p.result
        ∙ by_signals (λ z. stands signals (close signals is_register z)) left_names close_is
        (reads both p.result)
        ∙ ap (flat_map left_names) same.names.are
        ∙ flat_map-append left_names (here signals s r.wants) same.names.rest
        ∙ ap₂ (λ a b. a ++ b) (left_here r.wants) (left_rest same.names.rest same.names.settled)

    -- a path names what its route does
    pub names_same : (t : ℕ) → path_names signals q t ≡ holds (names_on is_register s r) t
    names_same t =
        ap₂ (λ a b. a || b)
        (ap (list_any (λ (step : StepForm). names_signal signals step.condition t)) steps_same
        ∙ any_reversed (λ (step : StepForm). names_signal signals step.condition t) r.steps
        ∙ sym (all_named signals (λ (step : StepForm). step.condition) r.steps t))
        (sym (held_name (reads signals q.result) t)
        ∙ ap (λ ns. holds ns t) result_names
        ∙ list_any-append (λ m. m == t) (held r.wants) same.names.rest
        ∙ ap (λ b. holds (held r.wants) t || b) (same.names.each t))
        ∙ or_moved (holds step_names t) (holds (held r.wants) t) (holds r.names t)
        ∙ ap (λ b. b || holds (held r.wants) t)
        (sym (list_any-append (λ m. m == t) step_names r.names))
        ∙ sym (list_any-append (λ m. m == t) (step_names ++ r.names) (held r.wants))
      where
        step_names : List ℕ
        step_names = flat_map (λ (step : StepForm). names_in [] step.condition) r.steps

        or_moved : (a b c : Bool) → (a || (b || c)) ≡ ((a || c) || b)
        or_moved true b c = refl
        or_moved false true true = refl
        or_moved false true false = refl
        or_moved false false c = or_false c
          where
            or_false : (x : Bool) → x ≡ (x || false)
            or_false true = refl
            or_false false = refl

    settled_below : (e : TypedTree) → Settled signals s e → (t : ℕ) →
        IsTrue (names_signal signals e t) → t < length signals
    settled_below e settled t named =
        settled_is_signal signals t (settled_names signals s e settled t
        (Contains-from_holds (names_in both e) t
        (ap (λ ns. holds ns t) (names_alike signals both e) ∙ held_name (reads signals e) t
        ∙ named)))

    held_below : (wants : Bool) (t : ℕ) → Contains (held wants) t → t < length signals
    held_below wants t at = by_test (is_register && wants) at
      where
        by_test : (c : Bool) → Contains (cond c (s ∷ []) []) t → t < length signals
        by_test true at = subst (λ x. x < length signals) (only s t at) inside
        by_test false at = absurd (Contains-nil t at)

    named_below : (t : ℕ) → IsTrue (path_names signals q t) → t < length signals
    named_below t named = ⊎_elim
        (λ l.
        let found = from_some (λ (step : StepForm). names_signal signals step.condition t) p.steps
        (subst (λ steps. IsTrue (list_any (λ (step : StepForm).
        names_signal signals step.condition t) steps)) steps_left l) in
        settled_below (found.0).condition (same.conditions found.0 found.1) t found.2)
        (λ l.
        let at = Contains-from_holds (held r.wants ++ same.names.rest) t
        (sym (ap (λ ns. holds ns t) result_names) ∙ held_name (reads signals q.result) t ∙ l) in
        ⊎_elim (held_below r.wants t)
        (λ later. settled_is_signal signals t (same.names.settled t later))
        (Contains-either (held r.wants) same.names.rest t at))
        (or_cases (list_any (λ (step : StepForm). names_signal signals step.condition t) q.steps)
        (names_signal signals q.result t) named)

    -- each name on the route is a signal
    pub names_below : All (λ t. t < length signals) (names_on is_register s r)
    names_below = contained_all (λ t. t < length signals) (names_on is_register s r)
        (λ t at. named_below t
        (names_same t ∙ holds-from_Contains (names_on is_register s r) t at))

-- ---- obligations

-- a count that is kept up to one over the limit passes it where the whole count does
capped_same : (n : ℕ) → nat_lt 65536 n ≡ nat_lt 65536 (min n 65537)
capped_same n = grind (arith, nat_tests)

module _ (design : FlatDesign) (p : ProcessForm) (s : ℕ) (inside : s < length design.signals) where
  abbrev signals : List SignalForm
  signals = design.signals

  abbrev close_path : Path → Path
  close_path path = closed signals (is_clocked p.kind) path

  abbrev route_of_target : RouteForm → Obligation
  route_of_target r = route_obligation (length signals) p s r

  one_obligation : (path : Path) (r : RouteForm) → Matches signals s inside path r
      → path_obligation [] design p s (close_path path) ≡ route_of_target r
  one_obligation path r same = record_of
      (steps_same signals s inside (is_clocked p.kind) path r same)
      (ap (λ place. cond (is_link p.kind) (Some p.place) place) same.place)
      (filter_alike (path_names signals (close_path path))
      (holds (names_on (is_clocked p.kind) s r))
      (names_same signals s inside (is_clocked p.kind) path r same)
      (range_with_len 0 (length signals)))
    where
      record_of : {steps : List StepForm} {place : Option Place} {reads : List ℕ}
          → (close_path path).steps ≡ steps
          → place_of p (close_path path) ≡ place
          → those (length signals) (path_names signals (close_path path)) ≡ reads
          → path_obligation [] design p s (close_path path)
          ≡ record {
            facts = [];
            path = steps;
            right = place;
            reads = reads;
            goal = flow s (frame_of p.kind);
          }
      record_of one two three = cc

  -- the obligations are those of the routes
  pub obligations_same : (ps : List Path) (rs : List RouteForm) → AllMatch signals s inside ps rs
      → map (path_obligation [] design p s) (map close_path ps) ≡ map route_of_target rs
  obligations_same [] [] all = refl
  obligations_same [] (r ∷ rs) all = elim all [ ]
  obligations_same (path ∷ ps) [] all = elim all [ ]
  obligations_same (path ∷ ps) (r ∷ rs) all =
      ap₂ (λ a b. a ∷ b) (one_obligation path r all.0) (obligations_same ps rs all.1)

  -- so many are large
  pub large_same : (ps : List Path) (rs : List RouteForm) → AllMatch signals s inside ps rs
      → list_any (λ (path : Path). nat_lt 65536 path.nodes) (map close_path ps)
      ≡ list_any is_large rs
  large_same ps rs all =
      zip_any (Matches signals s inside) close_path (λ (path : Path). nat_lt 65536 path.nodes)
      is_large (λ path r same. capped_same path.nodes ∙ ap (nat_lt 65536) (sym same.nodes)) ps rs
      all

  pub count_same : (ps : List Path) (rs : List RouteForm) → AllMatch signals s inside ps rs
      → length (map close_path ps) ≡ length rs
  count_same ps rs all = zip_count (Matches signals s inside) close_path ps rs all

  pub all_below : (ps : List Path) (rs : List RouteForm) → AllMatch signals s inside ps rs
      → (r : RouteForm) → Contains rs r
      → All (λ t. t < length signals) (names_on (is_clocked p.kind) s r)
  all_below [] [] all r at = absurd (Contains-nil r at)
  all_below [] (q ∷ rs) all r at = elim all [ ]
  all_below (path ∷ ps) [] all r at = elim all [ ]
  all_below (path ∷ ps) (q ∷ rs) all r at = ⊎_elim
      (λ is. subst (λ (x : RouteForm). All (λ t. t < length signals)
      (names_on (is_clocked p.kind) s x)) is
      (names_below signals s inside (is_clocked p.kind) path q all.0))
      (λ later. all_below ps rs all.1 r later)
      (Contains-cases q rs r at)

  -- ---- the routes of the body

  module _ (is_sound : IsTrue (sound design)) (admitted : IsAdmitted design)
      (at : Contains (processes_of design) p) where
    abbrev pub target_routes : List RouteForm
    target_routes = routes_before signals s p.body open_route

    all_match : AllMatch signals s inside (before signals s p.body (open_path signals s))
        target_routes
    all_match = before_match signals s inside p.body (body_is_sound design is_sound admitted p at)
        (open_path signals s) open_route (open_matches signals s inside)

    pub target_below : (r : RouteForm) → Contains target_routes r
        → All (λ t. t < length signals) (names_on (is_clocked p.kind) s r)
    target_below = all_below (before signals s p.body (open_path signals s)) target_routes all_match

    -- ---- where no read is an earlier one

    module _ (unmarked : marked signals (is_block p.kind) p.body no_bits ≡ p.body) where
      paths_are : paths signals s p.kind p.body
          ≡ map close_path (before signals s p.body (open_path signals s))
      paths_are =
          ap (λ body. map close_path (before signals s body (open_path signals s))) unmarked

      -- the obligations of the target through the process are those of its routes
      pub target_is : map (path_obligation [] design p s) (paths signals s p.kind p.body)
          ≡ map (route_obligation (length signals) p s) target_routes
      target_is = ap (map (path_obligation [] design p s)) paths_are
          ∙ obligations_same (before signals s p.body (open_path signals s)) target_routes all_match

      pub target_large : list_any (λ (path : Path). nat_lt 65536 path.nodes)
          (paths signals s p.kind p.body)
          ≡ list_any is_large target_routes
      target_large = ap (list_any (λ (path : Path). nat_lt 65536 path.nodes)) paths_are
          ∙ large_same (before signals s p.body (open_path signals s)) target_routes all_match

      pub target_count : length (paths signals s p.kind p.body) ≡ length target_routes
      target_count = ap length paths_are
          ∙ count_same (before signals s p.body (open_path signals s)) target_routes all_match
