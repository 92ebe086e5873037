-- A body walked along the arms of a trail gives the conditions of its path.
use Rattle.std.proofs.Common.{◌≡◌, ℕ, Bool, true, false, cond, ◌==◌, min, List, [], ◌∷◌, ◌++◌, length}
use Rattle.std.proofs.Common.{map, reverse, flat_map, Option, Some, None, refl, sym, ap, subst}
use Rattle.std.proofs.Common.{◌∙◌, append_assoc, append-nil}
use Rattle.std.proofs.lemmas.Bool.{or_left, or_right}
use Rattle.std.proofs.lemmas.List.{map-append, reverse-append, reverse-reverse}
use Rattle.sv_num.specs.declared.faults.Place.{Place}
use Rattle.sv_flat.specs.Design.{SignalForm, TypedTree, typed, choice, PieceForm}
use Rattle.sv_flat.specs.Design.{FlatStatement, nothing, after, assign, branch}
use Rattle.sv_flat.specs.Assigned.{assigns}
use Rattle.sv_paths.specs.Alongs.{WayForm, on_arm, with_step, along_ways, along_own, along_assign}
use Rattle.sv_paths.specs.Alongs.{next_arm, along, open_way}
use Rattle.sv_obl.specs.Paths.{StepForm, Path, open_path, under, step_with, Way, way_under, ways}
use Rattle.sv_obl.specs.Paths.{pieces_of, covers, ways_taken, with_way, before, closed}
use Rattle.sv_paths.specs.Trails.{TrailForm, open_trail, takes, chosen, marked_by, own_pieces}
use Rattle.sv_paths.specs.Trails.{with_right_put, whole_from, with_value, with_own_ways, with_parts}
use Rattle.sv_paths.specs.Trails.{with_own_put, with_assign, trails_before}
use Rattle.sv_obl.specs.Wanted.{put_in, closed_tree}
use Rattle.sv_obl.proofs.PathRuns.{step_of, whole_way}
use Rattle.sv_paths.proofs.RouteFacts.{reversed_map}
use Rattle.sv_paths.proofs.TrailPuts.{Lone}
use Rattle.sv_paths.proofs.TrailOwn.{covers_own, covers_is, one_whole, no_whole_from}
use Rattle.sv_paths.proofs.TrailTells.{mark_of, Tells, AllTell, open_tells, chosen_tells, taken_is}
use Rattle.sv_paths.proofs.TrailPaths.{AssignsSignals, LonePieces, before_tell}

module _ (signals : List SignalForm) (s : ℕ) where
  -- the trail without its choices
  abbrev pub bare : TrailForm → TrailForm
  bare t = record {
    marks = t.marks;
    choices = [];
    names = t.names;
    own = t.own;
    nodes = t.nodes;
    place = t.place;
  }

  -- a path and its trail, with the arms that are taken from there on
  abbrev pub on : Path → TrailForm → List Bool → WayForm
  on p t arms = record { trail = bare t; steps = reverse p.steps; arms = arms }

  -- a walk goes from one path and its trail to another, along the choices
  pub record Goes (walk : WayForm → WayForm) (p : Path) (t : TrailForm) (q : Path)
      (u : TrailForm) : Type 0 where
    pub arms : List Bool
    pub choices : u.choices ≡ t.choices ++ arms
    pub goes : (rest : List Bool) → walk (on p t (arms ++ rest)) ≡ on q u rest

  abbrev pub AllGo : (WayForm → WayForm) → Path → TrailForm → List Path → List TrailForm → Type 0
  AllGo walk p t [] [] = Unit {0}
  AllGo walk p t (q ∷ qs) (u ∷ us) = Goes walk p t q u × AllGo walk p t qs us
  AllGo walk p t [] (u ∷ us) = ⊥
  AllGo walk p t (q ∷ qs) [] = ⊥

  module _ (walk : WayForm → WayForm) (p : Path) (t : TrailForm) where
    go_append : (ps qs : List Path) (ts us : List TrailForm) → AllGo walk p t ps ts
        → AllGo walk p t qs us → AllGo walk p t (ps ++ qs) (ts ++ us)
    go_append [] qs (u ∷ ts) us one two = elim one [ ]
    go_append (q ∷ ps) qs [] us one two = elim one [ ]
    go_append [] qs [] us one two = two
    go_append (q ∷ ps) qs (u ∷ ts) us one two =
        (one.0, go_append ps qs ts us one.1 two)

    -- where it goes as another does from there
    go_alike : (other : WayForm → WayForm)
        → ((arms : List Bool) → walk (on p t arms) ≡ other (on p t arms))
        → (ps : List Path) (ts : List TrailForm) → AllGo other p t ps ts → AllGo walk p t ps ts
    go_alike other same [] (u ∷ ts) all = elim all [ ]
    go_alike other same (q ∷ ps) [] all = elim all [ ]
    go_alike other same [] [] all = all
    go_alike other same (q ∷ ps) (u ∷ ts) all = (
      record {
        arms = all.0.arms;
        choices = all.0.choices;
        goes = λ rest. same (all.0.arms ++ rest) ∙ all.0.goes rest;
      },
      go_alike other same ps ts all.1,
    )

    -- where an arm is taken, with a condition before it
    go_arm : (inner : WayForm → WayForm) (step : StepForm)
        → ((arms : List Bool) → walk (on p t (step.truth ∷ arms))
        ≡ with_step (length signals) step (inner (on p t arms)))
        → (ps : List Path) (ts : List TrailForm) → AllGo inner p (chosen step.truth t) ps ts
        → AllGo walk p t (map (under step) ps)
        (map (marked_by (length signals) (mark_of step) step.condition) ts)
    go_arm inner step same [] (u ∷ ts) all = elim all [ ]
    go_arm inner step same (q ∷ ps) [] all = elim all [ ]
    go_arm inner step same [] [] all = all
    go_arm inner step same (q ∷ ps) (u ∷ ts) all = (
      record {
        arms = step.truth ∷ all.0.arms;
        choices = all.0.choices ∙ append_assoc t.choices (step.truth ∷ []) all.0.arms;
        goes = λ rest.
            same (all.0.arms ++ rest)
            ∙ ap (with_step (length signals) step) (all.0.goes rest)
            ∙ ap (λ (steps : List StepForm). record {
              trail = bare (marked_by (length signals) (mark_of step) step.condition u);
              steps = steps;
              arms = rest;
            }) (sym (reverse-append (step ∷ []) q.steps));
      },
      go_arm inner step same ps ts all.1,
    )

  -- one walk behind another
  module _ (first second : WayForm → WayForm) (p : Path) (t : TrailForm) where
    abbrev both_walk : WayForm → WayForm
    both_walk way = first (second way)

    go_on : (q : Path) (u : TrailForm) → Goes second p t q u
        → (ps : List Path) (ts : List TrailForm) → AllGo first q u ps ts → AllGo both_walk p t ps ts
    go_on q u there [] (v ∷ ts) all = elim all [ ]
    go_on q u there (r ∷ ps) [] all = elim all [ ]
    go_on q u there [] [] all = all
    go_on q u there (r ∷ ps) (v ∷ ts) all = (
      record {
        arms = there.arms ++ all.0.arms;
        choices = all.0.choices
            ∙ ap (λ cs. cs ++ all.0.arms) there.choices
            ∙ append_assoc t.choices there.arms all.0.arms;
        goes = λ rest.
            ap (λ arms. first (second (on p t arms)))
            (append_assoc there.arms all.0.arms rest)
            ∙ ap first (there.goes (all.0.arms ++ rest))
            ∙ all.0.goes rest;
      },
      go_on q u there ps ts all.1,
    )

    go_flat : (f : Path → List Path) (g : TrailForm → List TrailForm)
        → ((q : Path) (u : TrailForm) → Tells signals s q u → AllGo first q u (f q) (g u))
        → (ps : List Path) (ts : List TrailForm) → AllTell signals s ps ts
        → AllGo second p t ps ts
        → AllGo both_walk p t (flat_map f ps) (flat_map g ts)
    go_flat f g each [] (u ∷ ts) tell all = elim all [ ]
    go_flat f g each (q ∷ ps) [] tell all = elim all [ ]
    go_flat f g each [] [] tell all = all
    go_flat f g each (q ∷ ps) (u ∷ ts) tell all =
        go_append both_walk p t (f q) (flat_map f ps) (g u) (flat_map g ts)
        (go_on q u all.0 (f q) (g u) (each q u tell.0))
        (go_flat f g each ps ts tell.1 all.1)

  one_goes : (walk : WayForm → WayForm) (p : Path) (t : TrailForm) (q : Path) (u : TrailForm)
      → u.choices ≡ t.choices → ((rest : List Bool) → walk (on p t rest) ≡ on q u rest)
      → AllGo walk p t (q ∷ []) (u ∷ [])
  one_goes walk p t q u choices goes = (
    record { arms = []; choices = choices ∙ sym (append-nil t.choices); goes = goes },
    tt,
  )

  -- ---- an assignment

  module _ (pieces : List PieceForm) (right : TypedTree) (p : Path) where
    abbrev path_of : Way → Path
    path_of = with_way signals s pieces right p

    abbrev mid : TrailForm → TrailForm
    mid t = with_right_put signals s pieces right t

    -- where it is put for all names but the result's own
    abbrev put_way : WayForm → WayForm
    put_way way = record {
      trail = with_right_put signals s pieces right way.trail;
      steps = map (step_with (put_in signals pieces right)) way.steps;
      arms = way.arms;
    }

    put_steps : (sub : TypedTree) (u : TrailForm) (rest : List Bool)
        → record {
          trail = bare u;
          steps = map (step_with (put_in signals pieces right)) (reverse p.steps);
          arms = rest;
        } ≡ on (path_of (whole_way sub)) u rest
    put_steps sub u rest = ap (λ (steps : List StepForm). record {
      trail = bare u;
      steps = steps;
      arms = rest;
    }) (reversed_map (step_with (put_in signals pieces right)) p.steps)

    module _ (from : ℕ) where
      abbrev walk_of : TypedTree → WayForm → WayForm
      walk_of sub way = along_ways (length signals) from sub (put_way way)

      go_under : (step : StepForm) (t : TrailForm) (walk : WayForm → WayForm) (found : List Way)
          (ts : List TrailForm)
          → AllGo walk p t (map (under step) (map path_of found)) ts
          → AllGo walk p t (map path_of (map (way_under step) found)) ts
      go_under step t walk [] ts all = all
      go_under step t walk (way ∷ found) [] all = elim all [ ]
      go_under step t walk (way ∷ found) (u ∷ ts) all =
          (all.0, go_under step t walk found ts all.1)

      ways_go : (sub : TypedTree) (t : TrailForm) → AllGo (walk_of sub) p t
          (map path_of (ways sub)) (with_own_ways (length signals) from sub (mid t))
      ways_go (typed w signed (choice place c a b)) t =
          let yes = step_of place c true in
          let no = step_of place c false in
          let whole = typed w signed (choice place c a b) in
          subst (λ ps. AllGo (walk_of whole) p t ps
          (with_own_ways (length signals) from whole (mid t)))
          (sym (map-append path_of (map (way_under yes) (ways a)) (map (way_under no) (ways b))))
          (go_append (walk_of whole) p t (map path_of (map (way_under yes) (ways a)))
          (map path_of (map (way_under no) (ways b)))
          (map (marked_by (length signals) (mark_of yes) c)
          (with_own_ways (length signals) from a (chosen true (mid t))))
          (map (marked_by (length signals) (mark_of no) c)
          (with_own_ways (length signals) from b (chosen false (mid t))))
          (go_under yes t (walk_of whole) (ways a)
          (map (marked_by (length signals) (mark_of yes) c)
          (with_own_ways (length signals) from a (chosen true (mid t))))
          (go_arm (walk_of whole) p t (walk_of a) yes (λ arms. refl) (map path_of (ways a))
          (with_own_ways (length signals) from a (chosen true (mid t)))
          (ways_go a (chosen true t))))
          (go_under no t (walk_of whole) (ways b)
          (map (marked_by (length signals) (mark_of no) c)
          (with_own_ways (length signals) from b (chosen false (mid t))))
          (go_arm (walk_of whole) p t (walk_of b) no (λ arms. refl) (map path_of (ways b))
          (with_own_ways (length signals) from b (chosen false (mid t)))
          (ways_go b (chosen false t)))))
      ways_go sub t =
          one_goes (walk_of sub) p t (path_of (whole_way sub))
          (with_value (length signals) from sub (mid t)) refl
          (put_steps sub (with_value (length signals) from sub (mid t)))

    module _ (t : TrailForm) where
      abbrev walk : WayForm → WayForm
      walk = along_assign signals s pieces right

      -- with some pieces of the result's own name, of which none is the whole signal
      rest_goes : (times : ℕ)
          → AllGo (λ way. along_own (length signals) times None right (put_way way)) p t
          (path_of (whole_way right) ∷ [])
          ((cond (times == 0) (mid t) (with_parts (length signals) times right (mid t))) ∷ [])
      rest_goes times = by_test (times == 0)
        where
          by_test : (c : Bool)
              → AllGo (λ way. record {
                trail = cond c (put_way way).trail
                    (with_parts (length signals) times right (put_way way).trail);
                steps = (put_way way).steps;
                arms = way.arms;
              }) p t (path_of (whole_way right) ∷ [])
              ((cond c (mid t) (with_parts (length signals) times right (mid t))) ∷ [])
          by_test true = one_goes _ p t (path_of (whole_way right)) (mid t) refl
              (put_steps right (mid t))
          by_test false = one_goes _ p t (path_of (whole_way right))
              (with_parts (length signals) times right (mid t)) refl
              (put_steps right (with_parts (length signals) times right (mid t)))

      abbrev Walks : Option ℕ → Option ℕ → Type 0
      Walks own from =
          AllGo (λ way. along_own (length signals) (own_pieces own pieces) from right (put_way way))
          p t
          (map path_of (cond (covers_own signals pieces own) (ways right) (whole_way right ∷ [])))
          (with_own_put (length signals) (own_pieces own pieces) from right (mid t))

      by_own : Lone signals pieces → (own : Option ℕ) →
          Walks own (whole_from signals own pieces)
      by_own lone None = rest_goes 0
      by_own lone (Some o) = by_cover (covers signals o pieces) refl
        where
          by_cover : (b : Bool) → covers signals o pieces ≡ b
              → AllGo (λ way. along_own (length signals) (min (length (pieces_of o pieces)) 65537)
              (whole_from signals (Some o) pieces) right (put_way way)) p t
              (map path_of (cond b (ways right) (whole_way right ∷ [])))
              (with_own_put (length signals) (min (length (pieces_of o pieces)) 65537)
              (whole_from signals (Some o) pieces) right (mid t))
          by_cover true covered =
              let found = one_whole signals right o pieces (Some o) (lone o covered) covered in
              subst (λ (from : Option ℕ). AllGo (λ way. along_own (length signals)
              (min (length (pieces_of o pieces)) 65537) from right (put_way way)) p t
              (map path_of (ways right))
              (with_own_put (length signals) (min (length (pieces_of o pieces)) 65537) from right
              (mid t)))
              (sym found.1) (ways_go found.0 right t)
          by_cover false bare_signal =
              subst (λ (from : Option ℕ). AllGo (λ way. along_own (length signals)
              (min (length (pieces_of o pieces)) 65537) from right (put_way way)) p t
              (path_of (whole_way right) ∷ [])
              (with_own_put (length signals) (min (length (pieces_of o pieces)) 65537) from right
              (mid t)))
              (sym (no_whole_from signals right o pieces bare_signal))
              (rest_goes (min (length (pieces_of o pieces)) 65537))

      assign_goes : Lone signals pieces → Tells signals s p t → AllGo walk p t
          (map path_of (ways_taken signals pieces right p)) (with_assign signals s pieces right t)
      assign_goes lone tells = subst (λ c. AllGo walk p t
          (map path_of (cond c (ways right) (whole_way right ∷ [])))
          (with_assign signals s pieces right t))
          (sym (covers_is signals pieces p.result
          ∙ ap (covers_own signals pieces) tells.own))
          (go_alike walk p t
          (λ way. along_own (length signals) (own_pieces t.own pieces)
          (whole_from signals t.own pieces) right (put_way way)) (λ arms. refl)
          (map path_of (cond (covers_own signals pieces t.own) (ways right)
          (whole_way right ∷ []))) (with_assign signals s pieces right t)
          (by_own lone t.own))

  -- ---- statements

  -- what a branch does that is taken
  abbrev taken_walk : Place → TypedTree → (first second : FlatStatement) → WayForm → WayForm
  taken_walk place condition first second way =
      with_step (length signals)
      (record { place = place; condition = condition; truth = next_arm way.arms })
      (cond (next_arm way.arms) (along signals s first (on_arm way))
      (along signals s second (on_arm way)))

  pub before_goes : (statement : FlatStatement) → LonePieces signals statement
      → AssignsSignals signals statement → (p : Path) (t : TrailForm) → Tells signals s p t
      → AllGo (along signals s statement) p t (before signals s statement p)
      (trails_before signals s statement t)
  before_goes nothing lone below p t tells =
      one_goes (along signals s nothing) p t p t refl (λ rest. refl)
  before_goes (after first second) lone below p t tells =
      go_flat (along signals s first) (along signals s second) p t
      (before signals s first) (trails_before signals s first)
      (before_goes first lone.0
      (λ k is. below k (or_left (assigns first k) (assigns second k) is)))
      (before signals s second p) (trails_before signals s second t)
      (before_tell signals s second lone.1
      (λ k is. below k (or_right (assigns first k) (assigns second k) is)) p t tells)
      (before_goes second lone.1
      (λ k is. below k (or_right (assigns first k) (assigns second k) is)) p t tells)
  before_goes (assign pieces place blocking right) lone below p t tells =
      subst (λ c. AllGo (along signals s (assign pieces place blocking right)) p t
      (cond c (map (with_way signals s pieces right p) (ways_taken signals pieces right p))
      (p ∷ [])) (trails_before signals s (assign pieces place blocking right) t))
      (sym (taken_is signals s p t tells (assign pieces place blocking right) below))
      (by_test (takes (assign pieces place blocking right) t) refl)
    where
      by_test : (c : Bool) → takes (assign pieces place blocking right) t ≡ c
          → AllGo (along signals s (assign pieces place blocking right)) p t
          (cond c (map (with_way signals s pieces right p) (ways_taken signals pieces right p))
          (p ∷ []))
          (cond c (with_assign signals s pieces right t) (t ∷ []))
      by_test true is =
          go_alike (along signals s (assign pieces place blocking right)) p t
          (along_assign signals s pieces right)
          (λ arms. ap (λ c. cond c (along_assign signals s pieces right (on p t arms))
          (on p t arms)) is)
          (map (with_way signals s pieces right p) (ways_taken signals pieces right p))
          (with_assign signals s pieces right t) (assign_goes pieces right p t lone tells)
      by_test false is =
          go_alike (along signals s (assign pieces place blocking right)) p t (λ way. way)
          (λ arms. ap (λ c. cond c (along_assign signals s pieces right (on p t arms))
          (on p t arms)) is)
          (p ∷ []) (t ∷ []) (one_goes (λ way. way) p t p t refl (λ rest. refl))
  before_goes (branch place condition first second) lone below p t tells =
      let yes = step_of place condition true in
      let no = step_of place condition false in
      subst (λ c. AllGo (along signals s (branch place condition first second)) p t
      (cond c (map (under yes) (before signals s first p)
      ++ map (under no) (before signals s second p)) (p ∷ []))
      (trails_before signals s (branch place condition first second) t))
      (sym (taken_is signals s p t tells (branch place condition first second) below))
      (by_test (takes (branch place condition first second) t) refl _ _
      (go_append (taken_walk place condition first second) p t
      (map (under yes) (before signals s first p)) (map (under no) (before signals s second p))
      (map (marked_by (length signals) (mark_of yes) condition)
      (trails_before signals s first (chosen true t)))
      (map (marked_by (length signals) (mark_of no) condition)
      (trails_before signals s second (chosen false t)))
      (go_arm (taken_walk place condition first second) p t (along signals s first) yes
      (λ arms. refl) (before signals s first p)
      (trails_before signals s first (chosen true t))
      (before_goes first lone.0
      (λ k is. below k (or_left (assigns first k) (assigns second k) is)) p (chosen true t)
      (chosen_tells signals s true p t tells)))
      (go_arm (taken_walk place condition first second) p t (along signals s second) no
      (λ arms. refl) (before signals s second p)
      (trails_before signals s second (chosen false t))
      (before_goes second lone.1
      (λ k is. below k (or_right (assigns first k) (assigns second k) is)) p (chosen false t)
      (chosen_tells signals s false p t tells)))))
    where
      by_test : (c : Bool) → takes (branch place condition first second) t ≡ c
          → (ps : List Path) (ts : List TrailForm)
          → AllGo (taken_walk place condition first second) p t ps ts
          → AllGo (along signals s (branch place condition first second)) p t
          (cond c ps (p ∷ [])) (cond c ts (t ∷ []))
      by_test true is ps ts all =
          go_alike (along signals s (branch place condition first second)) p t
          (taken_walk place condition first second)
          (λ arms. ap (λ c. cond c (taken_walk place condition first second (on p t arms))
          (on p t arms)) is) ps ts all
      by_test false is ps ts all =
          go_alike (along signals s (branch place condition first second)) p t (λ way. way)
          (λ arms. ap (λ c. cond c (taken_walk place condition first second (on p t arms))
          (on p t arms)) is)
          (p ∷ []) (t ∷ []) (one_goes (λ way. way) p t p t refl (λ rest. refl))

  -- from the open path and the open trail on
  pub all_go : (body : FlatStatement) → LonePieces signals body → AssignsSignals signals body
      → AllGo (along signals s body) (open_path signals s) (open_trail s)
      (before signals s body (open_path signals s)) (trails_before signals s body (open_trail s))
  all_go body lone below =
      before_goes body lone below (open_path signals s) (open_trail s) (open_tells signals s)

  -- so the conditions of the closed path are found along its trail
  pub steps_found : (body : FlatStatement) (p : Path) (t : TrailForm)
      → Goes (along signals s body) (open_path signals s) (open_trail s) p t
      → reverse (map (step_with (closed_tree signals false))
      (along signals s body (open_way s t.choices)).steps)
      ≡ (closed signals false p).steps
  steps_found body p t there =
      ap (λ (way : WayForm). reverse (map (step_with (closed_tree signals false)) way.steps))
      (ap (λ arms. along signals s body (open_way s arms))
      (there.choices ∙ sym (append-nil there.arms))
      ∙ there.goes [])
      ∙ ap reverse (reversed_map (step_with (closed_tree signals false)) p.steps)
      ∙ reverse-reverse (map (step_with (closed_tree signals false)) p.steps)
