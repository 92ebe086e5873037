-- What is read for what.
use mathlib.Core.Path.{fun_ext}
use Rattle.std.proofs.Common.{◌≡◌, ◌≢◌, ℕ, ◌+◌, ◌<◌, ◌≤◌, nat_lt, ltb-true, lt-ltb, arith, Bool}
use Rattle.std.proofs.Common.{true, false, cond, not, ◌&&◌, ◌||◌, ◌==◌, List, [], ◌∷◌, ◌++◌}
use Rattle.std.proofs.Common.{length, map, Vec, Global, ◌⊎◌, inl, inr, ⊎_elim, refl, sym, ap, ap₂}
use Rattle.std.proofs.Common.{subst, ◌∙◌, Option, None, Some}
use Rattle.std.specs.Prelude.{IsTrue, Contains, filter, slice_get, option_map}
use Rattle.std.specs.List.{list_any, range_with_len}
use Rattle.std.proofs.lemmas.Bool.{false≢true, or_left, or_right, eqb-true, eq-eqb}
use Rattle.std.proofs.Math.ListN.{length-map}
use Rattle.std.proofs.lemmas.List.FromFn.{fill_by_all}
use Rattle.sv_system.proofs.Lists.{Contains-head, Contains-nil, Contains-cases, Contains-filter}
use Rattle.sv_flat.specs.Assigned.{assigns, can_assign, always_assigns}
use Rattle.sv_flat.specs.Admission.{breaches}
use Rattle.sv_flat.specs.Assignments.{wrong_assigns}
use Rattle.sv_flat.specs.Blocks.{latches, phase_faults}
use Rattle.sv_flat.specs.Breaches.{breach}
use Rattle.sv_flat.specs.Clocks.{processes_of}
use Rattle.sv_flat.specs.Design.{SignalForm, TypedTree, FlatStatement, nothing, after, assign}
use Rattle.sv_flat.specs.Design.{branch, ProcessForm, FlatDesign}
use Rattle.sv_flat.specs.Drivers.{clock_faults, extra_driver, driver_fault, driver_faults}
use Rattle.sv_flat.specs.Drivers.{undriven}
use Rattle.sv_flat.specs.Processes.{is_block, is_register, is_top_input, signal_numbers, drivers}
use Rattle.sv_flat.specs.Readings.{ReadForm, reads, BitSet, no_bits, either, Reading, readings}
use Rattle.sv_flat.specs.Readings.{reading_of, readings_of, is_followed}
use Rattle.sv_flat.specs.Reads.{process_readings, is_earlier, wants, followed, reads_settled}
use Rattle.sv_flat.specs.Reads.{is_read_for, reads_for}
use Rattle.sv_flat.specs.Sets.{holds, least_set}
use Rattle.sv_flat.specs.declared.signals.SigId.{SigId}
use Rattle.sv_flat.proofs.AdmittedFacts.{and_true, none_made, some_is_some, empty_left}
use Rattle.sv_flat.proofs.AdmittedFacts.{empty_right}
use Rattle.sv_flat.proofs.BlockFacts.{followed_is_assigned}
use Rattle.sv_flat.proofs.Depths.{first_of, second_of}
use Rattle.sv_flat.proofs.LeastSets.{either_way, or_cases, some_from, from_some, range_has}
use Rattle.sv_flat.proofs.LeastSets.{Contains-from_filter, least_set_has, least_set_closed}
use Rattle.sv_flat.proofs.LeastSets.{least_set_below, least_set_least, holds-from_Contains}
use Rattle.sv_flat.proofs.LeastSets.{Contains-from_holds}
use Rattle.sv_graph.specs.declared.bit_graphs.BitGraph.{BitGraph}
use Rattle.sv_graph.specs.declared.graphs.Graph.{Graph}
use Rattle.sv_design.specs.declared.reads.Sought.{Sought}
use Rattle.sv_graph.specs.BitGraphs.{size, has_edge, IsTurned, GainsEdges}
use Rattle.sv_design.specs.Feeds.{is_sought, names_sought, feeds, sought_in, feeds_in}
use Rattle.sv_graph.specs.BitGraphs.{leads_through}
use Rattle.sv_graph.specs.Graphs.{rows_of}
use Rattle.sv_graph.specs.Graphs as graphs
use Rattle.sv_graph.specs.Marks.{is_marked, IsTable}
use Rattle.sv_design.specs.Numbers.{numbers}
use Rattle.sv_rules.proofs.Passes.{or_turned}
use Rattle.sv_rules.proofs.ReadMarks.{any_after}
use Rattle.sv_rules.proofs.TableFacts.{filter_within}
use Rattle.sv_graph.proofs.BitFacts.{same_answer}
use Rattle.sv_graph.proofs.MarkFacts.{any_append, any_map}

-- ---- one statement

module _ {X : Type 0} (test : X → Bool) where
  any_and : (c : Bool) (xs : List X) → list_any (λ x. c && test x) xs ≡ (list_any test xs && c)
  any_and c [] = refl
  any_and c (x ∷ xs) =
      ap (λ t. (c && test x) || t) (any_and c xs) ∙ turned c (test x) (list_any test xs)
    where
      turned : (c a b : Bool) → ((c && a) || (b && c)) ≡ ((a || b) && c)
      turned true true b = refl
      turned true false true = refl
      turned true false false = refl
      turned false true true = refl
      turned false true false = refl
      turned false false true = refl
      turned false false false = refl

only_one : {X : Type 0} (x y : X) → Contains (x ∷ []) y → x ≡ y
only_one x y at = ⊎_elim (λ e. e) (λ l. absurd (Contains-nil y l)) (Contains-cases x [] y at)

module _ (signals : List SignalForm) (sought : Sought) (s t : ℕ) where
  -- the name is one of the signal, is sought, and serves the target
  abbrev pub serves : Reading → Bool
  serves r = r.serves t && ((r.name.signal == s) && is_sought signals sought r.follows r.name)

  named : (e : TypedTree) (whole : FlatStatement) (a f : BitSet)
      → list_any serves (readings_of signals e (assigns whole) a f) ≡
      (names_sought signals sought f e s && assigns whole t)
  named e whole a f =
      any_map serves (reading_of (assigns whole) a f) (reads signals e)
      ∙ any_and (λ (r : ReadForm). (r.signal == s) && is_sought signals sought f r)
      (assigns whole t) (reads signals e)

  last_first : (c a b : Bool) → ((c || a) || b) ≡ ((a || b) || c)
  last_first true true b = refl
  last_first true false true = refl
  last_first true false false = refl
  last_first false true true = refl
  last_first false true false = refl
  last_first false false true = refl
  last_first false false false = refl

  pub fed : (body : FlatStatement) (a f : BitSet) →
      list_any serves (readings signals body a f) ≡ feeds signals sought body f s t
  fed nothing a f = refl
  fed (after first second) a f =
      any_after signals serves first second a f (fed first a _) (fed second _ f)
  fed (assign pieces place blocking right) a f =
      let whole = assign pieces place blocking right in
      named right whole a (either (can_assign whole) f)
  fed (branch place condition first second) a f =
      let whole = branch place condition first second in
      let late = either (can_assign whole) f in
      let conds = readings_of signals condition (assigns whole) a late in
      any_append serves (conds ++ readings signals first a f) (readings signals second a f)
      ∙ ap₂ ◌||◌
      (any_append serves conds (readings signals first a f)
      ∙ ap₂ ◌||◌ (named condition whole a late) (fed first a f))
      (fed second a f)
      ∙ last_first (names_sought signals sought late condition s && assigns whole t)
      (feeds signals sought first f s t) (feeds signals sought second f s t)

  -- what is fed is assigned
  pub feeds_assigned : (body : FlatStatement) (f : BitSet)
      → IsTrue (feeds signals sought body f s t)
      → IsTrue (assigns body t)
  feeds_assigned nothing f h = absurd (false≢true h)
  feeds_assigned (after first second) f h =
      let late = either (can_assign second) f in ⊎_elim
      (λ l. or_left (assigns first t) (assigns second t) (feeds_assigned first late l))
      (λ r. or_right (assigns first t) (assigns second t) (feeds_assigned second f r))
      (or_cases (feeds signals sought first late s t) (feeds signals sought second f s t) h)
  feeds_assigned (assign pieces place blocking right) f h =
      let whole = assign pieces place blocking right in
      second_of (names_sought signals sought (either (can_assign whole) f) right s)
      (assigns whole t) h
  feeds_assigned (branch place condition first second) f h =
      let whole = branch place condition first second in
      let named_here = names_sought signals sought (either (can_assign whole) f) condition s in
      ⊎_elim
      (λ l. ⊎_elim
      (λ x. or_left (assigns first t) (assigns second t) (feeds_assigned first f x))
      (λ y. or_right (assigns first t) (assigns second t) (feeds_assigned second f y))
      (or_cases (feeds signals sought first f s t) (feeds signals sought second f s t) l))
      (λ r. second_of named_here (assigns first t || assigns second t) r)
      (or_cases (feeds signals sought first f s t || feeds signals sought second f s t)
      (named_here && (assigns first t || assigns second t)) h)

-- a process that is no `always @*` has no earlier read
module _ (signals : List SignalForm) (s t : ℕ) where
  abbrev none_sought : Sought
  none_sought = record { in_block = false; earlier = true }

  and_none : (a b : Bool) → b ≡ false → ((a && false) || b) ≡ false
  and_none true b e = e
  and_none false b e = e

  no_name : (f : BitSet) (rs : List ReadForm)
      → list_any (λ (r : ReadForm).
      (r.signal == s) && is_sought signals none_sought f r) rs ≡ false
  no_name f [] = refl
  no_name f (r ∷ rs) = and_none (r.signal == s) _ (no_name f rs)

  none_fed : (body : FlatStatement) (f : BitSet) → feeds signals none_sought body f s t ≡ false
  none_fed nothing f = refl
  none_fed (after first second) f =
      ap₂ ◌||◌ (none_fed first (either (can_assign second) f)) (none_fed second f)
  none_fed (assign pieces place blocking right) f =
      let whole = assign pieces place blocking right in
      ap (λ b. b && assigns whole t) (no_name (either (can_assign whole) f) (reads signals right))
  none_fed (branch place condition first second) f =
      let whole = branch place condition first second in
      ap₂ ◌||◌ (ap₂ ◌||◌ (none_fed first f) (none_fed second f))
      (ap (λ b. b && assigns whole t)
      (no_name (either (can_assign whole) f) (reads signals condition)))

  pub fed_by_none : (block earlier : Bool) → IsTrue (earlier && not block) → (body : FlatStatement)
      (f : BitSet)
      → feeds signals (record { in_block = block; earlier = earlier }) body f s t ≡ false
  fed_by_none false true h body f = none_fed body f
  fed_by_none true true h body f = absurd (false≢true h)
  fed_by_none block false h body f = absurd (false≢true h)

-- ---- one process

module _ (design : FlatDesign) (p : ProcessForm) where
  abbrev rs : List Reading
  rs = process_readings design p

  -- a name of the signal that is sought in the process serves the target
  abbrev pub Feeding : (earlier : Bool) → (s t : ℕ) → Type 0
  Feeding earlier s t = (r : Reading) × Contains rs r × IsTrue (r.serves t)
      × IsTrue (r.name.signal == s)
      × IsTrue (is_sought design.signals (sought_in earlier p) r.follows r.name)

  pub from_feeds : (earlier : Bool) (s t : ℕ)
      → IsTrue (feeds design.signals (sought_in earlier p) p.body no_bits s t)
      → Feeding earlier s t
  from_feeds earlier s t h =
      let signals = design.signals in
      let sought = sought_in earlier p in
      let found = from_some (serves signals sought s t) rs
      (fed signals sought s t p.body no_bits no_bits ∙ h) in
      let r = found.0 in
      let is = is_sought signals sought r.follows r.name in
      let both = second_of (r.serves t) ((r.name.signal == s) && is) found.2 in (
        r,
        found.1,
        first_of (r.serves t) ((r.name.signal == s) && is) found.2,
        first_of (r.name.signal == s) is both,
        second_of (r.name.signal == s) is both,
      )

  pub to_feeds : (earlier : Bool) (s t : ℕ) → Feeding earlier s t
      → IsTrue (feeds design.signals (sought_in earlier p) p.body no_bits s t)
  to_feeds earlier s t (r, at, served, is, asked) =
      let signals = design.signals in
      let sought = sought_in earlier p in
      let passes = is_sought signals sought r.follows r.name in
      sym (fed signals sought s t p.body no_bits no_bits)
      ∙ some_from (serves signals sought s t) rs r at
      (and_true (r.serves t) ((r.name.signal == s) && passes) served
      (and_true (r.name.signal == s) passes is asked))

  -- earlier reads are those of what is wanted
  pub wants_feeds : (m k : ℕ) → IsTrue (wants design p m k) → Feeding true k m
  wants_feeds m k h =
      let found = from_some (λ (r : Reading).
      is_earlier design p r && r.serves m && (r.name.signal == k)) rs h in
      let r = found.0 in
      let front = is_earlier design p r && r.serves m in
      let both = first_of front (r.name.signal == k) found.2 in (
        r,
        found.1,
        second_of (is_earlier design p r) (r.serves m) both,
        second_of front (r.name.signal == k) found.2,
        first_of (is_earlier design p r) (r.serves m) both,
      )

  pub feeds_wants : (m k : ℕ) → Feeding true k m → IsTrue (wants design p m k)
  feeds_wants m k (r, at, served, is, earlier) =
      some_from (λ (z : Reading). is_earlier design p z && z.serves m && (z.name.signal == k)) rs r
      at
      (and_true (is_earlier design p r && r.serves m) (r.name.signal == k)
      (and_true (is_earlier design p r) (r.serves m) earlier served) is)

  -- all others are settled
  pub settled_feeds : (targets : List ℕ) (s : ℕ) → IsTrue (reads_settled design p targets s)
      → (w : ℕ) × Contains targets w × Feeding false s w
  settled_feeds targets s h =
      let found = from_some (λ (r : Reading).
      not (is_earlier design p r) && list_any r.serves targets && (r.name.signal == s)) rs h in
      let r = found.0 in
      let front = not (is_earlier design p r) && list_any r.serves targets in
      let both = first_of front (r.name.signal == s) found.2 in
      let target = from_some r.serves targets
      (second_of (not (is_earlier design p r)) (list_any r.serves targets) both) in (
        target.0,
        target.1,
        (
          r,
          found.1,
          target.2,
          second_of front (r.name.signal == s) found.2,
          first_of (not (is_earlier design p r)) (list_any r.serves targets) both,
        ),
      )

  pub feeds_settled : (targets : List ℕ) (s w : ℕ) → Contains targets w → Feeding false s w →
      IsTrue (reads_settled design p targets s)
  feeds_settled targets s w w_at (r, at, served, is, late) =
      some_from (λ (z : Reading).
      not (is_earlier design p z) && list_any z.serves targets && (z.name.signal == s)) rs r at
      (and_true (not (is_earlier design p r) && list_any r.serves targets) (r.name.signal == s)
      (and_true (not (is_earlier design p r)) (list_any r.serves targets) late
      (some_from r.serves targets w w_at served)) is)

  -- what the target follows is assigned
  pub follows_own : (t : ℕ) → t < length design.signals → IsTrue (assigns p.body t) → (w : ℕ) →
      Contains (followed design p t) w → IsTrue (assigns p.body w)
  follows_own t below own w w_at =
      least_set_least (length design.signals) (wants design p) (t ∷ [])
      (λ k one. subst (λ z. z < length design.signals) (only_one t k one) below)
      (λ z. IsTrue (assigns p.body z))
      (λ k one. subst (λ z. IsTrue (assigns p.body z)) (only_one t k one) own)
      (λ m k before h k_below.
      let f = wants_feeds m k h in
      let r = f.0 in
      subst (λ z. IsTrue (assigns p.body z)) (eqb-true r.name.signal k f.3)
      (followed_is_assigned design.signals p.body r f.1
      (second_of (is_block p.kind) (is_followed design.signals r) f.4)))
      w w_at

-- ---- a design whose signals have one driver each

module _ (design : FlatDesign)
    (one : (t : ℕ) (p q : ProcessForm) → t < length design.signals
    → Contains (processes_of design) p → Contains (processes_of design) q
    → IsTrue (assigns p.body t) → IsTrue (assigns q.body t) → p ≡ q)
    (t : ℕ) (below : t < length design.signals) where
  abbrev n : ℕ
  n = length design.signals

  abbrev ps : List ProcessForm
  ps = processes_of design

  abbrev reads_by : (earlier : Bool) → (s t : ℕ) → ProcessForm → Bool
  reads_by earlier s m p = feeds design.signals (sought_in earlier p) p.body no_bits s m

  abbrev wanted : ℕ → ℕ → Bool
  wanted m k = feeds_in design.signals true ps k m

  abbrev all : List ℕ
  all = least_set n wanted (t ∷ [])

  begins : (k : ℕ) → Contains (t ∷ []) k → k < n
  begins k h = subst (λ z. z < n) (only_one t k h) below

  -- what the target follows in its process it follows among all
  into : (p : ProcessForm) → Contains ps p → (w : ℕ) → Contains (followed design p t) w →
      Contains all w
  into p at w w_at =
      least_set_least n (wants design p) (t ∷ []) begins (λ z. Contains all z)
      (λ k h. least_set_has n wanted (t ∷ []) begins k h)
      (λ m k m_at h k_below. least_set_closed n wanted (t ∷ []) begins m k m_at
      (some_from (reads_by true k m) ps p at (to_feeds design p true k m (wants_feeds design p m k h)))
      k_below)
      w w_at

  -- and the other way
  abbrev Driven : ℕ → Type 0
  Driven z = (t ≡ z) ⊎ ((p : ProcessForm) × Contains ps p × IsTrue (assigns p.body t)
      × Contains (followed design p t) z)

  itself : (p : ProcessForm) → Contains (followed design p t) t
  itself p = least_set_has n (wants design p) (t ∷ []) begins t (Contains-head t [])

  -- a process that assigns a signal that the target follows is that of the target
  of_target : (q : ProcessForm) → Contains ps q → (w : ℕ) → w < n → IsTrue (assigns q.body w)
      → Driven w
      → IsTrue (assigns q.body t) × Contains (followed design q t) w
  of_target q at w w_below own (inl e) = (
    subst (λ z. IsTrue (assigns q.body z)) (sym e) own,
    subst (λ z. Contains (followed design q t) z) e (itself q),
  )
  of_target q at w w_below own (inr (p, p_at, p_own, inside)) =
      let same = one w p q w_below p_at at (follows_own design p t below p_own w inside) own in (
        subst (λ (z : ProcessForm). IsTrue (assigns z.body t)) same p_own,
        subst (λ (z : ProcessForm). Contains (followed design z t) w) same inside,
      )

  all_below : (w : ℕ) → Contains all w → w < n
  all_below w w_at = least_set_below n wanted (t ∷ []) begins w w_at

  out_of : (w : ℕ) → Contains all w → Driven w × (w < n)
  out_of w w_at =
      least_set_least n wanted (t ∷ []) begins (λ z. Driven z × (z < n))
      (λ k h. (inl (only_one t k h), begins k h))
      (λ m k before h k_below.
      let found = from_some (reads_by true k m) ps h in
      let q = found.0 in
      let own = feeds_assigned design.signals (sought_in true q) k m q.body no_bits found.2 in
      let target = of_target q found.1 m before.1 own before.0 in (
        inr (
          q,
          found.1,
          target.0,
          least_set_closed n (wants design q) (t ∷ []) begins m k target.1
              (feeds_wants design q m k (from_feeds design q true k m found.2)) k_below,
        ),
        k_below,
      ))
      w w_at

  pub reads_are : (s : ℕ)
      → leads_through n (feeds_in design.signals false ps) (feeds_in design.signals true ps) s t ≡
      list_any (λ p. reads_settled design p (followed design p t) s) (drivers ps t)
  reads_are s =
      let through = list_any (feeds_in design.signals false ps s) all in
      let by = list_any (λ p. reads_settled design p (followed design p t) s) (drivers ps t) in
      same_answer through by
      (λ h.
      let found = from_some (feeds_in design.signals false ps s) all h in
      let w = found.0 in
      let in_process = from_some (reads_by false s w) ps found.2 in
      let q = in_process.0 in
      let own = feeds_assigned design.signals (sought_in false q) s w q.body no_bits
      in_process.2 in
      let driven = out_of w found.1 in
      let target = of_target q in_process.1 w driven.1 own driven.0 in
      some_from (λ p. reads_settled design p (followed design p t) s) (drivers ps t) q
      (Contains-filter (λ (p : ProcessForm). assigns p.body t) ps q in_process.1 target.0)
      (feeds_settled design q (followed design q t) s w target.1
      (from_feeds design q false s w in_process.2)))
      (λ h.
      let found = from_some (λ p.
      reads_settled design p (followed design p t) s) (drivers ps t) h in
      let p = found.0 in
      let at = (Contains-from_filter (λ (q : ProcessForm). assigns q.body t) ps p found.1).1 in
      let target = settled_feeds design p (followed design p t) s found.2 in
      some_from (feeds_in design.signals false ps s) all target.0
      (into p at target.0 target.1)
      (some_from (reads_by false s target.0) ps p at
      (to_feeds design p false s target.0 target.2)))

  -- what the target follows in the process that assigns it, it follows among all
  pub followed_is : (p : ProcessForm) → Contains ps p → IsTrue (assigns p.body t) → (k : ℕ)
      → holds all k ≡ holds (followed design p t) k
  followed_is p at own k = same_answer (holds all k) (holds (followed design p t) k)
      (λ h. holds-from_Contains (followed design p t) k
      (of_own (out_of k (Contains-from_holds all k h)).0))
      (λ h. holds-from_Contains all k
      (into p at k (Contains-from_holds (followed design p t) k h)))
    where
      of_own : Driven k → Contains (followed design p t) k
      of_own (inl e) = subst (λ z. Contains (followed design p t) z) e (itself p)
      of_own (inr (q, q_at, q_own, inside)) =
          subst (λ (z : ProcessForm). Contains (followed design z t) k)
          (one t q p below q_at at q_own own) inside

-- where no signal has a second driver, two processes that assign one signal are the same
module _ (design : FlatDesign) (drivers_are : driver_faults design ≡ []) where
  none_second : (b : Bool) (xs : List ProcessForm) → slice_get xs (cond b 0 1) ≡ None
      → slice_get xs 1 ≡ None
  none_second true [] e = e
  none_second true (x ∷ xs) e = absurd (some_is_some x e)
  none_second false xs e = e

  alike : (xs : List ProcessForm) (p q : ProcessForm) → slice_get xs 1 ≡ None
      → Contains xs p → Contains xs q → p ≡ q
  alike [] p q e p_at q_at = absurd (Contains-nil p p_at)
  alike (x ∷ []) p q e p_at q_at = sym (only_one x p p_at) ∙ only_one x q q_at
  alike (x ∷ y ∷ xs) p q e p_at q_at = absurd (some_is_some y e)

  none_extra : (s : ℕ) → s < length design.signals → extra_driver design s ≡ None
  none_extra s below =
      nothing_made (extra_driver design s)
      (none_made (driver_fault design) (signal_numbers design) drivers_are s
      (range_has (length design.signals) s below))
    where
      nothing_made : (o : Option ProcessForm)
          → option_map (λ (p : ProcessForm). breach 603 p.place s) o ≡ None → o ≡ None
      nothing_made None e = refl
      nothing_made (Some p) e = absurd (some_is_some (breach 603 p.place s) e)

  pub one_driver : (t : ℕ) (p q : ProcessForm) → t < length design.signals
      → Contains (processes_of design) p → Contains (processes_of design) q
      → IsTrue (assigns p.body t) → IsTrue (assigns q.body t) → p ≡ q
  one_driver t p q below p_at q_at p_own q_own =
      let ds = drivers (processes_of design) t in
      let test = λ (z : ProcessForm). assigns z.body t in
      alike ds p q (none_second (is_top_input design t) ds (none_extra t below))
      (Contains-filter test (processes_of design) p p_at p_own)
      (Contains-filter test (processes_of design) q q_at q_own)

  -- what is read for a signal: a register itself, and what feeds it
  pub read_for_is : (t s : ℕ) → t < length design.signals
      → is_read_for design t s ≡
      ((is_register design t && (t == s))
      || leads_through (length design.signals)
      (feeds_in design.signals false (processes_of design))
      (feeds_in design.signals true (processes_of design)) s t)
  read_for_is t s below =
      ap (λ b. (is_register design t && (t == s)) || b) (sym (reads_are design one_driver t below s))

-- a design that breaks none of the rules 601 to 606 has no second driver
pub drivers_unbroken : (design : FlatDesign) → breaches design ≡ [] → driver_faults design ≡ []
drivers_unbroken design unbroken =
    let to_latches = wrong_assigns design ++ clock_faults design ++ driver_faults design
    ++ undriven design ++ latches design in
    let to_undriven = wrong_assigns design ++ clock_faults design ++ driver_faults design
    ++ undriven design in
    empty_right (wrong_assigns design ++ clock_faults design) (driver_faults design)
    (empty_left (wrong_assigns design ++ clock_faults design ++ driver_faults design)
    (undriven design)
    (empty_left to_undriven (latches design)
    (empty_left to_latches (phase_faults design) unbroken)))

-- ---- registers

-- one register more
pub registers_more : (test : ℕ → Bool) (s a b : ℕ)
    → (nat_lt b (s + 1) && (test b && (b == a))) ≡
    ((nat_lt b s && (test b && (b == a))) || (test s && ((s == a) && (s == b))))
registers_more test s a b = ⊎_elim
    (λ same.
    let e : s ≡ b = eqb-true s b same in
    ap (λ t. t && (test b && (b == a))) (lt-ltb b (s + 1) (omega arith))
    ∙ sym (ap (λ t. (t && (test b && (b == a))) || (test s && ((s == a) && (s == b))))
    (not_below b s (omega arith))
    ∙ ap (λ z. test s && ((s == a) && z)) same ∙ and_end (test s) (s == a)
    ∙ ap (λ z. test z && (z == a)) e))
    (λ other.
    ap (λ t. t && (test b && (b == a))) (same_answer (nat_lt b (s + 1)) (nat_lt b s)
    (λ h. lt-ltb b s (let lt = ltb-true b (s + 1) h in
    let ne : s ≢ b = λ e. false≢true (sym other ∙ eq-eqb s b e) in omega arith))
    (λ h. lt-ltb b (s + 1) (let lt = ltb-true b s h in omega arith)))
    ∙ sym (ap (λ z. (nat_lt b s && (test b && (b == a))) || (test s && ((s == a) && z))) other
    ∙ or_none (nat_lt b s && (test b && (b == a))) (test s) (s == a)))
    (either_way (s == b))
  where
    and_end : (x y : Bool) → (x && (y && true)) ≡ (x && y)
    and_end true true = refl
    and_end true false = refl
    and_end false y = refl

    or_none : (x y z : Bool) → (x || (y && (z && false))) ≡ x
    or_none true y z = refl
    or_none false true true = refl
    or_none false true false = refl
    or_none false false z = refl

    not_below : (b s : ℕ) → s ≤ b → nat_lt b s ≡ false
    not_below b s le =
        ⊎_elim (λ h. absurd (let lt = ltb-true b s h in omega arith)) (λ h.
        h) (either_way (nat_lt b s))

pub no_register : (x : Bool) (b : ℕ) → (nat_lt b 0 && x) ≡ false
no_register x b =
    ap (λ t. t && x) (⊎_elim (λ h. absurd (let lt = ltb-true b 0 h in omega arith)) (λ h.
    h) (either_way (nat_lt b 0)))

-- ---- the signals read for each signal

pub rows_are : (design : FlatDesign) (graph : BitGraph) (turned : Graph)
    → size graph ≡ length design.signals → graphs.size turned ≡ size graph → IsTurned graph turned
    → ((a b : ℕ) → b < length design.signals → has_edge graph a b ≡ is_read_for design b a)
    → rows_of turned ≡ map (reads_for design) (signal_numbers design)
rows_are design graph turned same same_turned is edges =
    fill_by_all (reads_for design) (rows_of turned) (length design.signals) []
    (length-map turned.rows.items (λ (row : Vec SigId Global). numbers row.items)
    ∙ same_turned ∙ same)
    (λ k below. is k ∙ ap (λ n. filter (λ a. has_edge graph a k) (range_with_len 0 n)) same
    ∙ filter_within (λ a. has_edge graph a k) (is_read_for design k) 0 (length design.signals)
    (λ a inside. edges a k below))

-- the edges of the processes and of the registers
pub edge_is : (design : FlatDesign) → driver_faults design ≡ []
    → (settled earlier readers graph : BitGraph) (registers : List Bool) (n : ℕ)
    → n ≡ length design.signals
    → IsTable n registers (is_register design)
    → ((a b : ℕ) →
    has_edge settled a b ≡ feeds_in design.signals false (processes_of design) a b)
    → ((a b : ℕ) →
    has_edge earlier a b ≡ feeds_in design.signals true (processes_of design) a b)
    → ((a b : ℕ) → b < n →
    has_edge readers a b ≡ leads_through n (has_edge settled) (has_edge earlier) a b)
    → GainsEdges readers graph (λ a b.
    nat_lt b (length registers) && (is_marked registers b && (b == a)))
    → (a b : ℕ) → b < length design.signals → has_edge graph a b ≡ is_read_for design b a
edge_is design drivers settled earlier readers graph registers n same (size_is, has) late soon read
    gains a b below =
    let inside : b < n = omega arith in
    let in_table : b < length registers = omega arith in
    let ps = processes_of design in
    let through = leads_through (length design.signals) (feeds_in design.signals false ps)
    (feeds_in design.signals true ps) a b in
    let read_is : has_edge readers a b ≡ through =
    read a b inside
    ∙ ap (λ m. leads_through m (has_edge settled) (has_edge earlier) a b) same
    ∙ ap (λ f. leads_through (length design.signals) f (has_edge earlier) a b)
    (fun_ext (λ x. fun_ext (λ y. late x y)))
    ∙ ap (λ f. leads_through (length design.signals) (feeds_in design.signals false ps) f a b)
    (fun_ext (λ x. fun_ext (λ y. soon x y))) in
    gains a b
    ∙ ap₂ (λ r t. r || (t && (is_marked registers b && (b == a)))) read_is
    (lt-ltb b (length registers) in_table)
    ∙ ap (λ t. through || (t && (b == a))) (has b inside)
    ∙ or_turned through (is_register design b && (b == a))
    ∙ sym (read_for_is design drivers b a below)
