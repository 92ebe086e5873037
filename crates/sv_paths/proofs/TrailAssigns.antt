-- The trails of an assignment tell its paths.
use Rattle.std.proofs.Common.{◌≡◌, ℕ, ◌+◌, ◌*◌, Bool, true, false, cond, ◌&&◌, ◌==◌}
use Rattle.std.proofs.Common.{◌-◌, fold, ne_eqb}
use Rattle.std.proofs.Common.{not, min, List, [], ◌∷◌, ◌++◌, length, map, reverse, flat_map}
use Rattle.std.proofs.Common.{sum, Option, Some, None, is_none, refl, sym, ap}
use Rattle.std.proofs.Common.{ap₂, subst, ◌∙◌, arith, append-nil, zero-add, eq-eqb}
use Rattle.std.specs.Prelude.{is_some}
use Rattle.std.proofs.lemmas.Bool.{false≢true, eqb-true}
use Rattle.std.proofs.lemmas.List.{map-append}
use Rattle.std.proofs.lemmas.List.Concat.{flat_map-append}
use Rattle.std.proofs.lemmas.List.Sums.{sum_by-cons}
use Rattle.sv_flat.specs.Design.{SignalForm, TypedTree, typed, choice, PieceForm}
use Rattle.sv_obl.specs.Nodes.{nodes_in}
use Rattle.sv_obl.specs.Paths.{StepForm, Path, step_with, Way, way_under, ways, pieces_of}
use Rattle.sv_obl.specs.Paths.{covers, ways_taken, later_place, puts_in}
use Rattle.sv_obl.specs.Paths.{puts_into, with_way}
use Rattle.sv_obl.specs.Routes.{names_in, first_place}
use Rattle.sv_paths.specs.Trails.{TrailForm, NamesForm, own_name, without_covered, with_each}
use Rattle.sv_paths.specs.Trails.{with_put_names, with_wanted, times_put, own_pieces}
use Rattle.sv_paths.specs.Trails.{own_times, with_right_put, whole_from, with_value, with_own_ways}
use Rattle.sv_paths.specs.Trails.{with_parts, with_own, with_own_put, with_assign, marked_by}
use Rattle.sv_paths.specs.Trails.{chosen}
use Rattle.sv_obl.specs.Wanted.{with_copies, put_in}
use Rattle.sv_obl.proofs.PathRuns.{step_of, whole_way}
use Rattle.sv_obl.proofs.RouteNames.{names_alike}
use Rattle.sv_obl.proofs.PathLists.{zip_append}
use Rattle.sv_paths.proofs.TrailCounts.{weigh, count, weigh_append, one_at, unless, either_same}
use Rattle.sv_paths.proofs.TrailNames.{capped_both, plus_none, NamesTell, tell_alike, one_name}
use Rattle.sv_paths.proofs.TrailNames.{each_name, put_tell, times_tell, gone, kept_tell}
use Rattle.sv_paths.proofs.TrailNames.{copy_high}
use Rattle.sv_paths.proofs.TrailNumbers.{node_sum, some_nodes, some_same, none_some, both_none}
use Rattle.sv_paths.proofs.TrailNumbers.{no_first, copy_named}
use Rattle.sv_paths.proofs.TrailPuts.{Lone, puts, puts_append, total_puts, puts_are}
use Rattle.sv_paths.proofs.TrailPuts.{flat_counts}
use Rattle.sv_paths.proofs.PutNames.{put_names, names_put}
use Rattle.sv_paths.proofs.TrailOwn.{own_names, covers_own, covers_is, own_after, own_put}
use Rattle.sv_paths.proofs.TrailOwn.{one_whole}
use Rattle.sv_paths.proofs.TrailOwn.{no_whole_from, none_own, some_counted, own_step}
use Rattle.sv_paths.proofs.TrailTells.{mark_of, step_names, rest_names, left, Tells, AllTell}
use Rattle.sv_paths.proofs.TrailTells.{one_tells}
use Rattle.sv_paths.proofs.TrailTells.{under_tells}

module _ (signals : List SignalForm) (s : ℕ) where
  abbrev both : List SignalForm
  both = with_copies signals

  -- ---- conditions

  marks_after : (f : TypedTree → TypedTree) (steps : List StepForm) →
      map mark_of (map (step_with f) steps) ≡ map mark_of steps
  marks_after f [] = refl
  marks_after f (step ∷ steps) = ap (λ marks. mark_of step ∷ marks) (marks_after f steps)

  module _ (pieces : List PieceForm) (right : TypedTree) where
    steps_after : (steps : List StepForm)
        → step_names signals s (map (step_with (put_in signals pieces right)) steps)
        ≡ flat_map (put_names signals pieces right) (step_names signals s steps)
    steps_after [] = refl
    steps_after (step ∷ steps) =
        ap₂ (λ a b. a ++ b) (names_put signals pieces right step.condition) (steps_after steps)
        ∙ sym (flat_map-append (put_names signals pieces right)
        (names_in both step.condition) (step_names signals s steps))

  puts_steps : (pieces : List PieceForm) (steps : List StepForm)
      → sum (map (λ (step : StepForm). puts_in signals pieces step.condition) steps)
      ≡ puts signals pieces (step_names signals s steps)
  puts_steps pieces [] = refl
  puts_steps pieces (step ∷ steps) =
      sum_by-cons (λ k. k) (puts_in signals pieces step.condition)
      (map (λ (x : StepForm). puts_in signals pieces x.condition) steps)
      ∙ ap₂ (λ a b. a + b) (puts_are signals pieces step.condition) (puts_steps pieces steps)
      ∙ sym (puts_append signals pieces (names_in both step.condition) (step_names signals s steps))

  -- ---- an assignment

  module _ (pieces : List PieceForm) (lone : Lone signals pieces) (right : TypedTree) (p : Path)
      (t : TrailForm) (tells : Tells signals s p t) where
    abbrev names_left : List ℕ
    names_left = left signals s t.own p

    abbrev after : List StepForm
    after = map (step_with (put_in signals pieces right)) p.steps

    abbrev put : ℕ → List ℕ
    put = put_names signals pieces right

    -- where it is put for all names but the result's own
    abbrev mid : TrailForm
    mid = with_right_put signals s pieces right t

    times_are : times_put t.names pieces ≡ min (puts signals pieces names_left) 65537
    times_are =
        times_tell (length signals) t.names (count names_left) tells.names pieces
        ∙ ap (λ m. min m 65537) (total_puts signals pieces names_left)

    mid_names : NamesTell (length signals) mid.names (count (flat_map put names_left))
    mid_names =
        tell_alike (length signals) mid.names
        (λ x. cond (gone signals pieces x) 0 (count names_left x)
        + weigh (puts signals pieces names_left) (names_in [] right) x)
        (count (flat_map put names_left))
        (λ x. ap (λ m. min m 65537)
        (ap (λ ns. cond (gone signals pieces x) 0 (count names_left x)
        + weigh (puts signals pieces names_left) ns x) (sym (names_alike [] both right))
        ∙ sym (flat_counts signals pieces right lone x names_left)))
        (subst (λ k. NamesTell (length signals) (with_put_names (length signals) k
        (without_covered signals t.names pieces) (names_in [] right))
        (λ x. cond (gone signals pieces x) 0 (count names_left x)
        + weigh (puts signals pieces names_left) (names_in [] right) x))
        (sym times_are)
        (put_tell (length signals) (puts signals pieces names_left) (names_in [] right)
        (without_covered signals t.names pieces)
        (λ x. cond (gone signals pieces x) 0 (count names_left x))
        (kept_tell signals pieces t.names (count names_left) tells.names)))

    -- ---- nodes

    abbrev extra : Option ℕ → ℕ
    extra None = 0
    extra (Some o) = length (pieces_of o pieces)

    own_capped : (own : Option ℕ) → own_pieces own pieces ≡ min (extra own) 65537
    own_capped None = refl
    own_capped (Some o) = refl

    abbrev own_extra : ℕ
    own_extra = cond (is_none t.place && covers signals s pieces) 0 (extra t.own)

    own_times_are : own_times signals s pieces t ≡ min own_extra 65537
    own_times_are =
        ap (λ k. cond (is_none t.place && covers signals s pieces) 0 k) (own_capped t.own)
        ∙ inside (is_none t.place && covers signals s pieces) (extra t.own)
      where
        inside : (b : Bool) (k : ℕ) → cond b 0 (min k 65537) ≡ min (cond b 0 k) 65537
        inside true k = refl
        inside false k = refl

    -- the only name of the result has the pieces of its signal
    own_puts : (o : ℕ) →
        puts signals pieces ((length signals + o) ∷ []) ≡ length (pieces_of o pieces)
    own_puts o =
        ap₂ (λ b k. cond b (length (pieces_of k pieces)) 0 + 0) (copy_high signals o)
        (copy_back (length signals) o)
        ∙ sym (plus_none (length (pieces_of o pieces)))
      where
        copy_back : (n k : ℕ) → n + k - n ≡ k
        copy_back n k = omega arith

    result_puts : (own : Option ℕ) → t.own ≡ own
        → cond (is_none t.place && covers signals s pieces) 0 (puts_in signals pieces p.result)
        ≡ puts signals pieces (rest_names signals s own p.result)
        + cond (is_none t.place && covers signals s pieces) 0 (extra own)
    result_puts None is =
        ap (λ b. cond (b && covers signals s pieces) 0 (puts_in signals pieces p.result)) placed
        ∙ puts_are signals pieces p.result
        ∙ plus_none (puts signals pieces (names_in both p.result))
        ∙ sym (ap (λ b. puts signals pieces (names_in both p.result)
        + cond (b && covers signals s pieces) 0 0) placed)
      where
        by_place : (b : Bool) → is_none t.place ≡ b → b ≡ false
        by_place true none = absurd (none_some s (sym is ∙ tells.first none))
        by_place false some = refl

        placed : is_none t.place ≡ false
        placed = by_place (is_none t.place) refl
    result_puts (Some o) is =
        ap (λ k. cond (is_none t.place && covers signals s pieces) 0 k)
        (puts_are signals pieces p.result
        ∙ ap (puts signals pieces) (own_names signals p.result o (tells.own ∙ is))
        ∙ own_puts o)
        ∙ sym (zero-add
        (cond (is_none t.place && covers signals s pieces) 0 (length (pieces_of o pieces))))

    all_puts : puts_into signals s pieces p ≡ puts signals pieces names_left + own_extra
    all_puts =
        ap₂ (λ a b. a + b) (puts_steps pieces p.steps)
        (ap (λ place. cond (is_none place && covers signals s pieces) 0
        (puts_in signals pieces p.result)) tells.place
        ∙ result_puts t.own refl)
        ∙ moved (puts signals pieces (step_names signals s p.steps))
        (puts signals pieces (rest_names signals s t.own p.result)) own_extra
        ∙ ap (λ m. m + own_extra) (sym (puts_append signals pieces (step_names signals s p.steps)
        (rest_names signals s t.own p.result)))
      where
        moved : (a b c : ℕ) → a + (b + c) ≡ a + b + c
        moved a b c = omega arith

    mid_nodes : mid.nodes
        ≡ min (p.nodes + puts_into signals s pieces p * nodes_in right) 65537
    mid_nodes =
        ap (λ k. min (k + (times_put t.names pieces + own_times signals s pieces t)
        * nodes_in right) 65537) tells.nodes
        ∙ node_sum p.nodes (times_put t.names pieces + own_times signals s pieces t)
        (puts_into signals s pieces p) (nodes_in right) (some_nodes right)
        (ap₂ (λ a b. min (a + b) 65537) times_are own_times_are
        ∙ capped_both (puts signals pieces names_left) own_extra
        ∙ ap (λ m. min m 65537) (sym all_puts))

    -- ---- one way

    abbrev path_of : Way → Path
    path_of = with_way signals s pieces right p

    mid_marks : (sub : TypedTree) → map mark_of (path_of (whole_way sub)).steps ≡ reverse mid.marks
    mid_marks sub = marks_after (put_in signals pieces right) p.steps ∙ tells.marks

    mid_place : (sub : TypedTree) → (path_of (whole_way sub)).place ≡ mid.place
    mid_place sub = ap (later_place (first_place s pieces)) tells.place

    -- before an assignment to the target its name is the result's own, and no piece is one of it
    no_place : is_none mid.place ≡ true → (t.own ≡ Some s) × (length (pieces_of s pieces) ≡ 0)
    no_place none =
        let found = both_none (first_place s pieces) t.place none in
        (tells.first found.1, no_first s pieces found.0)

    -- the names of conditions, and those in the result
    split_counts : (own : Option ℕ) (x : ℕ)
        → count (flat_map put (step_names signals s p.steps ++ rest_names signals s own p.result)) x
        ≡ count (step_names signals s after) x
        + count (flat_map put (rest_names signals s own p.result)) x
    split_counts own x =
        ap (λ ns. count ns x) (flat_map-append put (step_names signals s p.steps)
        (rest_names signals s own p.result)
        ∙ ap (λ ns. ns ++ flat_map put (rest_names signals s own p.result))
        (sym (steps_after pieces right p.steps)))
        ∙ weigh_append 1 (step_names signals s after)
        (flat_map put (rest_names signals s own p.result)) x

    -- ---- a result that is no wanted name

    none_tells : t.own ≡ None → Tells signals s (path_of (whole_way right)) mid
    none_tells is = record {
      marks = mid_marks right;
      own = own_put signals right pieces p.result
          ∙ ap (own_after signals right pieces) (tells.own ∙ is) ∙ sym is;
      names = tell_alike (length signals) mid.names (count (flat_map put names_left))
          (count (left signals s t.own (path_of (whole_way right))))
          (λ x. ap (λ m. min m 65537) (same x)) mid_names;
      nodes = mid_nodes;
      place = mid_place right;
      first = λ none. (no_place none).0;
    }
      where
        same : (x : ℕ) → count (flat_map put names_left) x
            ≡ count (left signals s t.own (path_of (whole_way right))) x
        same x =
            ap (λ own. count (flat_map put (left signals s own p)) x) is
            ∙ split_counts None x
            ∙ ap (λ ns. count (step_names signals s after) x + count ns x)
            (sym (names_put signals pieces right p.result))
            ∙ sym (weigh_append 1 (step_names signals s after)
            (names_in both (put_in signals pieces right p.result)) x)
            ∙ sym (ap (λ own. count (left signals s own (path_of (whole_way right))) x) is)

    -- ---- a result that is a wanted name

    module _ (o : ℕ) (is : t.own ≡ Some o) where
      own_is : own_name (length signals) p.result ≡ Some o
      own_is = tells.own ∙ is

      -- what is left beside the result's own name
      mid_counts : (x : ℕ) →
          count (flat_map put names_left) x ≡ count (step_names signals s after) x
      mid_counts x =
          ap (λ own. count (flat_map put (left signals s own p)) x) is
          ∙ split_counts (Some o) x
          ∙ sym (plus_none (count (step_names signals s after) x))

      result_counts : (way : TypedTree) (x : ℕ)
          → count (names_in both (put_in signals pieces way p.result)) x
          ≡ cond (gone signals pieces x) 0 (cond (length signals + o == x) 1 0)
          + weigh (length (pieces_of o pieces)) (names_in both way) x
      result_counts way x =
          ap (λ ns. count ns x) (names_put signals pieces way p.result
          ∙ ap (flat_map (put_names signals pieces way)) (own_names signals p.result o own_is))
          ∙ flat_counts signals pieces way lone x ((length signals + o) ∷ [])
          ∙ ap₂ (λ a k. cond (gone signals pieces x) 0 a + weigh k (names_in both way) x)
          (sym (plus_none (cond (length signals + o == x) 1 0))) (own_puts o)

      -- the name itself is counted, where no piece covers it
      own_left : (b : Bool) → covers signals o pieces ≡ b → (x : ℕ)
          → unless (gone signals pieces x) (one_at (length signals + o == x))
          ≡ unless b (one_at (length signals + o == x))
      own_left b covered x = by_test (length signals + o == x) refl
        where
          at_copy : gone signals pieces (length signals + o) ≡ b
          at_copy =
              ap₂ (λ c k. c && covers signals k pieces) (copy_high signals o)
              (copy_back (length signals) o) ∙ covered
            where
              copy_back : (n k : ℕ) → n + k - n ≡ k
              copy_back n k = omega arith

          by_test : (c : Bool) → (length signals + o == x) ≡ c
              → unless (gone signals pieces x) (one_at c) ≡ unless b (one_at c)
          by_test true same =
              ap (λ z. unless (gone signals pieces z) 1)
              (sym (eqb-true (length signals + o) x same))
              ∙ ap (λ c. unless c 1) at_copy
          by_test false apart = either_same (gone signals pieces x) 0 ∙ sym (either_same b 0)

      -- no piece is one of its signal
      kept_tells : length (pieces_of o pieces) ≡ 0 →
          Tells signals s (path_of (whole_way right)) mid
      kept_tells none = record {
        marks = mid_marks right;
        own = own_put signals right pieces p.result
            ∙ ap (own_after signals right pieces) own_is
            ∙ ap (λ b. cond b (fold (own_step signals right o) (Some o) pieces) (Some o))
            (some_counted o pieces ∙ ap (λ k. not (k == 0)) none)
            ∙ sym is;
        names = tell_alike (length signals) mid.names (count (flat_map put names_left))
            (count (left signals s t.own (path_of (whole_way right))))
            (λ x. ap (λ m. min m 65537) (mid_counts x
            ∙ ap (λ ns. count ns x) (sym (append-nil (step_names signals s after)))
            ∙ sym (ap (λ own. count (left signals s own (path_of (whole_way right))) x) is)))
            mid_names;
        nodes = mid_nodes;
        place = mid_place right;
        first = λ none. (no_place none).0;
      }

      -- ---- pieces that are no whole signal

      abbrev k : ℕ
      k = length (pieces_of o pieces)

      wanted_more : NamesTell (length signals) (with_wanted 1 mid.names o)
          (λ x. count (flat_map put names_left) x + cond (length signals + o == x) 1 0)
      wanted_more =
          subst (λ (names : NamesForm). NamesTell (length signals) names
          (λ x. count (flat_map put names_left) x + cond (length signals + o == x) 1 0))
          (copy_named (length signals) o mid.names)
          (one_name (length signals) 1 (omega arith) mid.names
          (count (flat_map put names_left)) (length signals + o) mid_names)

      parts_counts : covers signals o pieces ≡ false → (x : ℕ)
          → count (flat_map put names_left) x + cond (length signals + o == x) 1 0
          + weigh k (names_in [] right) x
          ≡ count (left signals s None (path_of (whole_way right))) x
      parts_counts bare x =
          ap₂ (λ a ns. a + cond (length signals + o == x) 1 0 + weigh k ns x) (mid_counts x)
          (sym (names_alike [] both right))
          ∙ moved (count (step_names signals s after) x) (cond (length signals + o == x) 1 0)
          (weigh k (names_in both right) x)
          ∙ ap (λ m. count (step_names signals s after) x + m)
          (ap (λ m. m + weigh k (names_in both right) x) (sym (own_left false bare x))
          ∙ sym (result_counts right x))
          ∙ sym (weigh_append 1 (step_names signals s after)
          (names_in both (put_in signals pieces right p.result)) x)
        where
          moved : (a b c : ℕ) → a + b + c ≡ a + (b + c)
          moved a b c = omega arith

      own_parts : covers signals o pieces ≡ false → (k == 0) ≡ false →
          own_name (length signals) (put_in signals pieces right p.result) ≡ None
      own_parts bare some =
          own_put signals right pieces p.result
          ∙ ap (own_after signals right pieces) own_is
          ∙ ap (λ b. cond b (fold (own_step signals right o) (Some o) pieces) (Some o))
          (some_counted o pieces ∙ ap not some)
          ∙ none_own signals right o pieces (Some o) bare
          (λ none. absurd (false≢true (sym some ∙ eq-eqb k 0 none)))

      parts_names : covers signals o pieces ≡ false
          → NamesTell (length signals) (with_put_names (length signals) (min k 65537)
          (with_wanted 1 mid.names o) (names_in [] right))
          (count (left signals s None (path_of (whole_way right))))
      parts_names bare =
          tell_alike (length signals) (with_put_names (length signals) (min k 65537)
          (with_wanted 1 mid.names o) (names_in [] right))
          (λ x. count (flat_map put names_left) x + cond (length signals + o == x) 1 0
          + weigh k (names_in [] right) x)
          (count (left signals s None (path_of (whole_way right))))
          (λ x. ap (λ m. min m 65537) (parts_counts bare x))
          (put_tell (length signals) k (names_in [] right) (with_wanted 1 mid.names o)
          (λ x. count (flat_map put names_left) x + cond (length signals + o == x) 1 0)
          wanted_more)

      parts_tell : covers signals o pieces ≡ false → (k == 0) ≡ false
          → Tells signals s (path_of (whole_way right))
          (with_parts (length signals) (min k 65537) right mid)
      parts_tell bare some = record {
        marks = mid_marks right;
        own = own_parts bare some;
        names = subst (λ (own : Option ℕ). NamesTell (length signals)
            (with_put_names (length signals) (min k 65537) (with_own own mid.names)
            (names_in [] right)) (count (left signals s None (path_of (whole_way right)))))
            (sym is) (parts_names bare);
        nodes = mid_nodes;
        place = mid_place right;
        first = λ none.
            let found = no_place none in
            absurd (false≢true (sym some ∙ eq-eqb k 0
            (ap (λ j. length (pieces_of j pieces)) (some_same o s (sym is ∙ found.0))
            ∙ found.1)));
      }

      -- ---- a piece that is the whole signal

      module _ (covered : covers signals o pieces ≡ true) where
        one : length (pieces_of o pieces) ≡ 1
        one = lone o covered

        whole_counts : (sub : TypedTree) (x : ℕ)
            → count (flat_map put names_left) x + weigh 1 (names_in [] sub) x
            ≡ count (step_names signals s after
            ++ names_in both (put_in signals pieces sub p.result)) x
        whole_counts sub x =
            ap₂ (λ a ns. a + count ns x) (mid_counts x) (sym (names_alike [] both sub))
            ∙ ap (λ m. count (step_names signals s after) x + m)
            (sym (zero-add (count (names_in both sub) x))
            ∙ sym (ap₂ (λ a j. a + weigh j (names_in both sub) x) (own_left true covered x) one)
            ∙ sym (result_counts sub x))
            ∙ sym (weigh_append 1 (step_names signals s after)
            (names_in both (put_in signals pieces sub p.result)) x)

        value_names : (sub : TypedTree) (b : Bool)
            → NamesTell (length signals)
            (cond b mid.names (with_each (length signals) 1 mid.names (names_in [] sub)))
            (count (step_names signals s after
            ++ cond b [] (names_in both (put_in signals pieces sub p.result))))
        value_names sub true =
            tell_alike (length signals) mid.names (count (flat_map put names_left))
            (count (step_names signals s after ++ []))
            (λ x. ap (λ m. min m 65537) (mid_counts x
            ∙ ap (λ ns. count ns x) (sym (append-nil (step_names signals s after)))))
            mid_names
        value_names sub false =
            tell_alike (length signals)
            (with_each (length signals) 1 mid.names (names_in [] sub))
            (λ x. count (flat_map put names_left) x + weigh 1 (names_in [] sub) x)
            (count (step_names signals s after
            ++ names_in both (put_in signals pieces sub p.result)))
            (λ x. ap (λ m. min m 65537) (whole_counts sub x))
            (each_name (length signals) 1 (omega arith) (names_in [] sub) mid.names
            (count (flat_map put names_left)) mid_names)

        module _ (from : ℕ) (at : whole_from signals (Some o) pieces ≡ Some from) where
          own_value : (sub : TypedTree)
              → own_name (length signals) (put_in signals pieces sub p.result)
              ≡ cond (from == 0) (own_name (length signals) sub) None
          own_value sub =
              let found = one_whole signals sub o pieces (Some o) one covered in
              own_put signals sub pieces p.result
              ∙ ap (own_after signals sub pieces) own_is
              ∙ ap (λ b. cond b (fold (own_step signals sub o) (Some o) pieces) (Some o))
              (some_counted o pieces ∙ ap (λ j. not (j == 0)) one)
              ∙ found.2
              ∙ ap (λ j. cond (j == 0) (own_name (length signals) sub) None)
              (some_same found.0 from (sym found.1 ∙ at))

          -- the trail, whichever arms it took
          abbrev base : List Bool → TrailForm
          base choices = record {
            marks = mid.marks;
            choices = choices;
            names = mid.names;
            own = mid.own;
            nodes = mid.nodes;
            place = mid.place;
          }

          value_tells : (sub : TypedTree) (choices : List Bool)
              → Tells signals s (path_of (whole_way sub))
              (with_value (length signals) from sub (base choices))
          value_tells sub choices = record {
            marks = mid_marks sub;
            own = own_value sub;
            names = value_names sub
                (is_some (cond (from == 0) (own_name (length signals) sub) None));
            nodes = mid_nodes;
            place = mid_place sub;
            first = λ none.
                let found = no_place none in
                absurd (one_zero (length (pieces_of o pieces)) one
                (ap (λ j. length (pieces_of j pieces)) (some_same o s (sym is ∙ found.0))
                ∙ found.1));
          }
            where
              one_zero : (j : ℕ) → j ≡ 1 → j ≡ 0 → ⊥
              one_zero j is_one is_none = absurd (omega arith)

          ways_under : (step : StepForm) (found : List Way) (ts : List TrailForm)
              → AllTell signals s (map path_of found) ts
              → AllTell signals s (map path_of (map (way_under step) found))
              (map (marked_by (length signals) (mark_of step) step.condition) ts)
          ways_under step [] [] all = all
          ways_under step [] (q ∷ ts) all = elim all [ ]
          ways_under step (way ∷ found) [] all = elim all [ ]
          ways_under step (way ∷ found) (q ∷ ts) all = (
            under_tells signals s step (path_of way) q all.0,
            ways_under step found ts all.1,
          )

          ways_tell : (sub : TypedTree) (choices : List Bool)
              → AllTell signals s (map path_of (ways sub))
              (with_own_ways (length signals) from sub (base choices))
          ways_tell (typed w signed (choice place c a b)) choices =
              let yes = step_of place c true in
              let no = step_of place c false in
              subst (λ ps. AllTell signals s ps
              (with_own_ways (length signals) from (typed w signed (choice place c a b))
              (base choices)))
              (sym (map-append path_of (map (way_under yes) (ways a)) (map (way_under no) (ways b))))
              (zip_append (Tells signals s) (map path_of (map (way_under yes) (ways a)))
              (map path_of (map (way_under no) (ways b)))
              (map (marked_by (length signals) (mark_of yes) c)
              (with_own_ways (length signals) from a (chosen true (base choices))))
              (map (marked_by (length signals) (mark_of no) c)
              (with_own_ways (length signals) from b (chosen false (base choices))))
              (ways_under yes (ways a)
              (with_own_ways (length signals) from a (chosen true (base choices)))
              (ways_tell a (choices ++ true ∷ [])))
              (ways_under no (ways b)
              (with_own_ways (length signals) from b (chosen false (base choices)))
              (ways_tell b (choices ++ false ∷ []))))
          ways_tell sub choices =
              one_tells signals s (path_of (whole_way sub))
              (with_value (length signals) from sub (base choices)) (value_tells sub choices)

    -- ---- all ways

    abbrev Assigned : Option ℕ → Type 0
    Assigned own = AllTell signals s
        (map path_of (cond (covers_own signals pieces own) (ways right) (whole_way right ∷ [])))
        (with_own_put (length signals) (own_pieces own pieces) (whole_from signals own pieces) right
        mid)

    by_own : (own : Option ℕ) → t.own ≡ own → Assigned own
    by_own None is = one_tells signals s (path_of (whole_way right)) mid (none_tells is)
    by_own (Some o) is = by_cover (covers signals o pieces) refl
      where
        parts : covers signals o pieces ≡ false
            → AllTell signals s (path_of (whole_way right) ∷ [])
            ((cond (min (length (pieces_of o pieces)) 65537 == 0) mid
            (with_parts (length signals) (min (length (pieces_of o pieces)) 65537) right mid)) ∷ [])
        parts bare = by_count (length (pieces_of o pieces) == 0) refl
          where
            same_zero : (b : Bool) → (length (pieces_of o pieces) == 0) ≡ b
                → (min (length (pieces_of o pieces)) 65537 == 0) ≡ b
            same_zero true none =
                let e = eqb-true (length (pieces_of o pieces)) 0 none in
                eq-eqb (min (length (pieces_of o pieces)) 65537) 0 (omega arith)
            same_zero false some = ne_eqb (min (length (pieces_of o pieces)) 65537) 0
                (λ e. false≢true (sym some
                ∙ eq-eqb (length (pieces_of o pieces)) 0 (omega arith)))

            by_count : (b : Bool) → (length (pieces_of o pieces) == 0) ≡ b
                → AllTell signals s (path_of (whole_way right) ∷ [])
                ((cond (min (length (pieces_of o pieces)) 65537 == 0) mid
                (with_parts (length signals) (min (length (pieces_of o pieces)) 65537) right mid))
                ∷ [])
            by_count true none = subst (λ c. AllTell signals s (path_of (whole_way right) ∷ [])
                ((cond c mid (with_parts (length signals)
                (min (length (pieces_of o pieces)) 65537) right mid)) ∷ []))
                (sym (same_zero true none))
                (one_tells signals s (path_of (whole_way right)) mid
                (kept_tells o is (eqb-true (length (pieces_of o pieces)) 0 none)))
            by_count false some = subst (λ c. AllTell signals s (path_of (whole_way right) ∷ [])
                ((cond c mid (with_parts (length signals)
                (min (length (pieces_of o pieces)) 65537) right mid)) ∷ []))
                (sym (same_zero false some))
                (one_tells signals s (path_of (whole_way right))
                (with_parts (length signals) (min (length (pieces_of o pieces)) 65537) right mid)
                (parts_tell o is bare some))

        by_cover : (b : Bool) → covers signals o pieces ≡ b
            → AllTell signals s (map path_of (cond b (ways right) (whole_way right ∷ [])))
            (with_own_put (length signals) (min (length (pieces_of o pieces)) 65537)
            (whole_from signals (Some o) pieces) right mid)
        by_cover true covered =
            let found = one_whole signals right o pieces (Some o) (lone o covered) covered in
            subst (λ (from : Option ℕ). AllTell signals s (map path_of (ways right))
            (with_own_put (length signals) (min (length (pieces_of o pieces)) 65537) from right mid))
            (sym found.1) (ways_tell o is covered found.0 found.1 right mid.choices)
        by_cover false bare =
            subst (λ (from : Option ℕ). AllTell signals s (path_of (whole_way right) ∷ [])
            (with_own_put (length signals) (min (length (pieces_of o pieces)) 65537) from right mid))
            (sym (no_whole_from signals right o pieces bare)) (parts bare)

    pub assign_tells : AllTell signals s
        (map path_of (ways_taken signals pieces right p)) (with_assign signals s pieces right t)
    assign_tells = subst (λ c. AllTell signals s
        (map path_of (cond c (ways right) (whole_way right ∷ [])))
        (with_assign signals s pieces right t))
        (sym (covers_is signals pieces p.result
        ∙ ap (covers_own signals pieces) tells.own))
        (by_own t.own refl)
