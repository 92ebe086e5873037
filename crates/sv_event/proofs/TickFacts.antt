-- Clocked processes that run one after the other, in any order that has each of them once, update
-- what each of them updates by itself, since no signal has two processes.
use mathlib.Core.Path.{fun_ext}
use Rattle.std.proofs.Common.{◌≡◌, ℕ, suc, ◌+◌, ◌<◌, ◌≤◌, Bool, true, false, cond, ◌==◌}
use Rattle.std.proofs.Common.{nat_lt, ltb-true, List, [], ◌∷◌, ◌++◌, length, take, drop, get_or}
use Rattle.std.proofs.Common.{Option, None, ⊎_elim, refl, sym, ap, subst, ◌∙◌, append-nil}
use Rattle.std.proofs.Common.{arith, drop-cons, append_assoc, ltb-false, ◌⊎◌}
use Rattle.std.proofs.Common.{zero-add}
use Rattle.std.specs.Prelude.{Contains, IsTrue, IsFalse, filter, slice_get, slice_index, count_by}
use Rattle.std.specs.List.{cons_option, list_all, list_any, range_with_len}
use Rattle.std.proofs.lemmas.Bool.{eqb-true, eq-eqb, false≢true}
use Rattle.std.proofs.lemmas.Grind.{flat_map-append}
use Rattle.std.proofs.lemmas.List.{take_more, take-append-drop, length-map, get_or-map}
use Rattle.std.proofs.lemmas.List.{length-take, get_or-take, get_or_default}
use Rattle.std.proofs.lemmas.List.Elements.{filter_map-append, Contains-get_or}
use Rattle.std.proofs.lemmas.List.Sums.{sum_by-append, sum_by-cons}
use Rattle.std.proofs.lemmas.Option.{slice_get-get_or, slice_get_within, get_or_from_slice_get}
use Rattle.sv_system.specs.System.{Environment, last_update}
use Rattle.sv_system.proofs.Lists.{Contains-head, Contains-later, Contains-nil, Contains-cases}
use Rattle.sv_system.proofs.Runs.{cut_at}
use Rattle.sv_flat.specs.Admission.{IsAdmitted}
use Rattle.sv_flat.specs.Assigned.{assigns}
use Rattle.sv_flat.specs.Clocks.{processes_of}
use Rattle.sv_flat.specs.Design.{ProcessForm, FlatDesign}
use Rattle.sv_flat.specs.FlatSystem.{flat_system, clocked_processes, all_updates, after_edge}
use Rattle.sv_flat.specs.Processes.{is_clocked, is_top_input, drivers}
use Rattle.sv_flat.specs.Runs.{Updates, run, updates_of}
use Rattle.sv_flat.specs.Schedules.{in_order, is_order, clocked_count, after_tick}
use Rattle.sv_flat.specs.Soundness.{sound}
use Rattle.sv_flat.proofs.AdmittedFacts.{drives, extra_at, body_is_sound}
use Rattle.sv_flat.proofs.AdmittedFacts.{assigned_is_signal}
use Rattle.sv_flat.proofs.Depths.{first_of, second_of, from_all}
use Rattle.sv_flat.proofs.LeastSets.{either_way, some_from, from_some, Contains-from_filter}
use Rattle.sv_flat.proofs.LeastSets.{range_has}
use Rattle.sv_flat.proofs.Members.{Contains-right}
use Rattle.sv_flat.proofs.SameRuns.{none_found}
use Rattle.sv_rules.proofs.FirstBreaches.{from_filter_map}
use Rattle.sv_sim.specs.Simulations.{process_at}
use Rattle.sv_sim.proofs.AtPlace.{idle}
use Rattle.sv_sim.proofs.EdgeFacts.{touches, last_untouched, last_split, all_touch, run_touch}
use Rattle.sv_sim.proofs.EdgeFacts.{run_from, two_pass, clocked_is_nonblocking, some_first}
use Rattle.sv_event.specs.Places.{ArePlaces}
use Rattle.sv_event.proofs.QuietFacts.{at_most_one, twice_fewer, no_second}

-- ---- how often a number stands in a list

abbrev pub count : List ℕ → ℕ → ℕ
count xs v = count_by (λ m. m == v) xs

abbrev pub once : Bool → ℕ
once b = cond b 1 0

is_once : (b : Bool) → IsTrue b → once b ≡ 1
is_once b h = ap once h

pub count_cons : (v x : ℕ) (xs : List ℕ) → count (x ∷ xs) v ≡ once (x == v) + count xs v
count_cons v x xs = sum_by-cons (λ m. once (m == v)) x xs

pub count_head : (v : ℕ) (xs : List ℕ) → count (v ∷ xs) v ≡ 1 + count xs v
count_head v xs =
    count_cons v v xs ∙ ap (λ n. n + count xs v) (is_once (v == v) (eq-eqb v v refl))

count_parts : (before later : List ℕ) (v : ℕ)
    → count (before ++ v ∷ later) v ≡ count before v + (1 + count later v)
count_parts before later v =
    sum_by-append (λ m. once (m == v)) before (v ∷ later)
    ∙ ap (λ n. count before v + n) (count_head v later)

no_none : (n : ℕ) → n ≡ 0 → 1 ≤ n → ⊥
no_none n is some = absurd (omega (arith, is, some))

counted : (v : ℕ) (xs : List ℕ) → Contains xs v → 1 ≤ count xs v
counted v [] at = absurd (Contains-nil v at)
counted v (x ∷ xs) at = ⊎_elim
    (λ same. subst (λ n. 1 ≤ n)
    (sym (count_cons v x xs ∙ ap (λ n. n + count xs v) (is_once (x == v) (eq-eqb x v same))))
    (omega arith))
    (λ later. subst (λ n. 1 ≤ n) (sym (count_cons v x xs))
    (more (once (x == v)) (count xs v) (counted v xs later)))
    (Contains-cases x xs v at)
  where
    more : (m n : ℕ) → 1 ≤ n → 1 ≤ m + n
    more m n some = omega (arith, some)

from_count : (v : ℕ) (xs : List ℕ) → 1 ≤ count xs v → Contains xs v
from_count v [] some = absurd (no_none (count [] v) refl some)
from_count v (x ∷ xs) some = ⊎_elim
    (λ same. subst (Contains (x ∷ xs)) (eqb-true x v same) (Contains-head x xs))
    (λ other. Contains-later x xs v (from_count v xs
    (subst (λ n. 1 ≤ n)
    (count_cons v x xs ∙ ap (λ b. once b + count xs v) other ∙ zero-add (count xs v)) some)))
    (either_way (x == v))

alone : (m n : ℕ) → m + (1 + n) ≡ 1 → (1 ≤ m → ⊥) × (1 ≤ n → ⊥)
alone m n is = (λ some. absurd (omega (arith, is, some)), λ some. absurd (omega (arith, is, some)))

-- what stands once in a list stands neither before nor after its place
apart_from : (before later : List ℕ) (v : ℕ) → count (before ++ v ∷ later) v ≡ 1
    → (Contains before v → ⊥) × (Contains later v → ⊥)
apart_from before later v stands =
    let parts = alone (count before v) (count later v)
    (sym (count_parts before later v) ∙ stands) in
    (λ at. parts.0 (counted v before at), λ at. parts.1 (counted v later at))

pub not_before : (order : List ℕ) (i : ℕ) → i < length order
    → count order (slice_index order i) ≡ 1
    → Contains (take i order) (slice_index order i) → ⊥
not_before order i inside stands =
    let v = slice_index order i in
    let whole : take i order ++ v ∷ drop (suc i) order ≡ order =
    ap (λ zs. take i order ++ zs) (sym (drop-cons order i 0 inside)) ∙ take-append-drop i order in
    (apart_from (take i order) (drop (suc i) order) v
    (ap (λ zs. count zs v) whole ∙ stands)).0

-- ---- places of a list that pass a test

module _ {X : Type 0} (test : X → Bool) (d : X) where
  first_place : (xs : List X) (m n : ℕ) → m < n → n < length xs
      → IsTrue (test (get_or xs m d)) → IsTrue (test (get_or xs n d))
      → slice_get (filter test xs) 1 ≡ None → ⊥
  first_place xs m n below inside one other few =
      let p = get_or xs n d in
      let sizes = length-take n xs in
      let size : m < length (take n xs) = omega (arith, below, inside, sizes) in
      let same : get_or (take n xs) m d ≡ get_or xs m d = get_or-take n xs m d below in
      let whole : take n xs ++ p ∷ drop (suc n) xs ≡ xs =
      ap (λ zs. take n xs ++ zs) (sym (drop-cons xs n d inside)) ∙ take-append-drop n xs in
      two_pass test p other (drop (suc n) xs) (take n xs) (get_or xs m d)
      (subst (Contains (take n xs)) same (Contains-get_or (take n xs) m d size)) one
      (subst (λ zs. slice_get (filter test zs) 1 ≡ None) (sym whole) few)

  -- where one at most passes, there is one place
  pub same_place : (xs : List X) (m n : ℕ) → m < length xs → n < length xs
      → IsTrue (test (get_or xs m d)) → IsTrue (test (get_or xs n d))
      → slice_get (filter test xs) 1 ≡ None → m ≡ n
  same_place xs m n m_in n_in one other few = ⊎_elim
      (λ below. absurd (first_place xs m n (ltb-true m n below) n_in one other few))
      (λ past. ⊎_elim
      (λ above. absurd (first_place xs n m (ltb-true n m above) m_in other one few))
      (λ none. let low = ltb-false m n past in let high = ltb-false n m none in
      omega (arith, low, high))
      (either_way (nat_lt n m)))
      (either_way (nat_lt m n))

-- ---- processes by their numbers

module _ (design : FlatDesign) where
  abbrev pub clocked : List ProcessForm
  clocked = clocked_processes design

  abbrev pub numbered : ℕ → ProcessForm
  numbered k = get_or clocked k idle

  pub in_order_more : (order : List ℕ) (i : ℕ) → i < length order
      → slice_index order i < length clocked
      → in_order design (take (i + 1) order) ≡
      in_order design (take i order) ++ numbered (slice_index order i) ∷ []
  in_order_more order i inside known =
      ap (in_order design) (take_more order i 0 inside)
      ∙ filter_map-append (slice_get clocked) (take i order) (slice_index order i ∷ [])
      ∙ ap (λ (o : Option ProcessForm). in_order design (take i order) ++ cons_option o [])
      (slice_get-get_or clocked (slice_index order i) idle known)

  pub updates_more : (qs : List ProcessForm) (p : ProcessForm) (e : Environment ℕ)
      → all_updates design (qs ++ p ∷ []) e ≡
      all_updates design qs e ++ updates_of design.signals p.body e
  updates_more qs p e =
      flat_map-append (λ (q : ProcessForm). updates_of design.signals q.body e) qs (p ∷ [])
      ∙ ap (λ us. all_updates design qs e ++ us) (append-nil (updates_of design.signals p.body e))

  -- the clocked processes are processes, each with its number
  pub among_processes : (p : ProcessForm) → Contains clocked p →
      Contains (processes_of design) p × IsTrue (is_clocked p.kind)
  among_processes p at =
      let both = Contains-from_filter (λ (q : ProcessForm). is_clocked q.kind)
      (processes_of design) p at in
      (both.1, both.0)

  pub numbered_in : (k : ℕ) → k < length clocked → Contains clocked (numbered k)
  numbered_in k below = Contains-get_or clocked k idle below

  -- a process that an order has has a number
  number_of : (order : List ℕ) (q : ProcessForm) → Contains (in_order design order) q
      → (m : ℕ) × Contains order m × (m < length clocked) × (numbered m ≡ q)
  number_of order q at =
      let found = from_filter_map (slice_get clocked) order q at in (
        found.0,
        found.1,
        slice_get_within clocked found.0 q found.2,
        get_or_from_slice_get clocked found.0 q idle found.2,
      )

  -- ---- orders

  module _ (order : List ℕ) (is : IsTrue (is_order design order)) where
    pub order_known : (i : ℕ) → i < length order → slice_index order i < length clocked
    order_known i inside =
        ltb-true (slice_index order i) (length clocked)
        (from_all (λ k. nat_lt k (clocked_count design)) order (slice_index order i)
        (first_of (list_all (λ k. nat_lt k (clocked_count design)) order)
        (list_all (λ k. count order k == 1) (range_with_len 0 (clocked_count design))) is)
        (Contains-get_or order i 0 inside))

    pub order_once : (k : ℕ) → k < length clocked → count order k ≡ 1
    order_once k below =
        eqb-true (count order k) 1
        (from_all (λ m. count order m == 1) (range_with_len 0 (clocked_count design)) k
        (second_of (list_all (λ m. nat_lt m (clocked_count design)) order)
        (list_all (λ m. count order m == 1) (range_with_len 0 (clocked_count design))) is)
        (range_has (clocked_count design) k below))

module _ (design : FlatDesign) (is_sound : IsTrue (sound design))
    (admitted : IsAdmitted design) where
  -- a signal has one clocked process
  one_clocked : (p : ProcessForm) (s : ℕ) → Contains (clocked design) p → IsTrue (assigns p.body s)
      → slice_get (filter (λ (q : ProcessForm). assigns q.body s) (clocked design)) 1 ≡ None
  one_clocked p s at assigned =
      let among = (among_processes design p at).0 in
      let test = λ (q : ProcessForm). assigns q.body s in
      let inside = assigned_is_signal design.signals p.body
      (body_is_sound design is_sound admitted p among) s assigned in
      let few : length (drivers (processes_of design) s) ≤ 1 = ⊎_elim
      (λ top. absurd (some_first (drivers (processes_of design) s) p
      (drives design is_sound admitted p s among assigned)
      (extra_at design is_sound admitted true s top inside)))
      (λ no_top. at_most_one (drivers (processes_of design) s)
      (extra_at design is_sound admitted false s no_top inside))
      (either_way (is_top_input design s)) in
      let fewer = twice_fewer test (λ (q : ProcessForm). is_clocked q.kind) (processes_of design) in
      no_second (filter test (clocked design)) (omega (arith, few, fewer))

  -- other numbers are those of processes that do not assign what one process does
  others_leave : (k : ℕ) → k < length (clocked design) → (s : ℕ)
      → IsTrue (assigns (numbered design k).body s)
      → (order : List ℕ) → (Contains order k → ⊥) → (q : ProcessForm)
      → Contains (in_order design order) q → IsFalse (assigns q.body s)
  others_leave k below s assigned order apart q at = none_found (assigns q.body s) (λ other.
      let found = number_of design order q at in
      let m = found.0 in
      let same = same_place (λ (p : ProcessForm). assigns p.body s) idle (clocked design) m k
      found.2 below
      (subst (λ (p : ProcessForm). IsTrue (assigns p.body s)) (sym found.3) other) assigned
      (one_clocked (numbered design k) s (numbered_in design k below) assigned) in
      apart (subst (Contains order) same found.1))

  -- so they update none of it
  untouched : (k : ℕ) → k < length (clocked design) → (s : ℕ)
      → IsTrue (assigns (numbered design k).body s)
      → (order : List ℕ) → (Contains order k → ⊥) → (e : Environment ℕ)
      → IsFalse (touches (all_updates design (in_order design order) e) s)
  untouched k below s assigned order apart e =
      all_touch (λ (q : ProcessForm). updates_of design.signals q.body e) (in_order design order) s
      (λ q at. run_touch design.signals q.body (e, []) s
      (others_leave k below s assigned order apart q at) refl)

  -- ---- one more process of an order

  pub tick_more : (order : List ℕ) → IsTrue (is_order design order) → (i : ℕ) → i < length order
      → (e : Environment ℕ)
      → (run design.signals (numbered design (slice_index order i)).body
      (e, all_updates design (in_order design (take i order)) e)).1
      ≡ all_updates design (in_order design (take (i + 1) order)) e
  tick_more order is i inside e =
      let k = slice_index order i in
      let p = numbered design k in
      let us = all_updates design (in_order design (take i order)) e in
      let known = order_known design order is i inside in
      let among = among_processes design p (numbered_in design k known) in
      ap (λ z. (run design.signals p.body (e, z)).1) (sym (append-nil us))
      ∙ ap (λ (now : Environment ℕ × Updates). now.1)
      (run_from design.signals p.body
      (clocked_is_nonblocking design is_sound admitted p among.0 among.1) e us [] (λ s assigned.
      untouched k known s assigned (take i order)
      (not_before order i inside (order_once design order is k known)) e))
      ∙ sym (updates_more design (in_order design (take i order)) p e)
      ∙ ap (λ qs. all_updates design qs e) (sym (in_order_more design order i inside known))

  -- ---- all orders tick alike

  -- of processes of which one alone assigns a signal, that one gives its update
  one_gives : (before later : List ProcessForm) (p : ProcessForm) (s : ℕ) (e : Environment ℕ)
      → IsFalse (touches (all_updates design before e) s)
      → IsFalse (touches (all_updates design later e) s)
      → after_edge design (before ++ p ∷ later) e s ≡
      last_update ◌==◌ s (e s) (updates_of design.signals p.body e)
  one_gives before later p s e first second =
      let us = all_updates design before e in
      let vs = updates_of design.signals p.body e in
      let ws = all_updates design later e in
      ap (last_update ◌==◌ s (e s))
      (flat_map-append (λ (q : ProcessForm). updates_of design.signals q.body e) before (p ∷ later))
      ∙ last_split s (e s) us (vs ++ ws)
      ∙ ap (λ old. last_update ◌==◌ s old (vs ++ ws)) (last_untouched s (e s) us first)
      ∙ last_split s (e s) vs ws
      ∙ last_untouched s (last_update ◌==◌ s (e s) vs) ws second

  -- of processes none of which assigns a signal, none does
  none_gives : (qs : List ProcessForm) (s : ℕ) (e : Environment ℕ)
      → ((q : ProcessForm) → Contains qs q → IsFalse (assigns q.body s))
      → after_edge design qs e s ≡ e s
  none_gives qs s e none =
      last_untouched s (e s) (all_updates design qs e)
      (all_touch (λ (q : ProcessForm). updates_of design.signals q.body e) qs s (λ q at.
      run_touch design.signals q.body (e, []) s (none q at) refl))

  -- an order that has a process once gives what that process does
  order_gives : (order : List ℕ) (k : ℕ) → k < length (clocked design) → count order k ≡ 1
      → (s : ℕ) → IsTrue (assigns (numbered design k).body s) → (e : Environment ℕ)
      → after_tick design order e s ≡
      last_update ◌==◌ s (e s) (updates_of design.signals (numbered design k).body e)
  order_gives order k below stands s assigned e =
      let cut = cut_at order k (from_count k order (omega (arith, stands))) in
      let apart = apart_from cut.before cut.after k (ap (λ ks. count ks k) (sym cut.is) ∙ stands) in
      let first = in_order design cut.before in
      let second = in_order design cut.after in
      ap (λ ks. after_tick design ks e s) cut.is
      ∙ ap (λ qs. after_edge design qs e s)
      (filter_map-append (slice_get (clocked design)) cut.before (k ∷ cut.after)
      ∙ ap (λ (o : Option ProcessForm). first ++ cons_option o second)
      (slice_get-get_or (clocked design) k idle below))
      ∙ one_gives first second (numbered design k) s e
      (untouched k below s assigned cut.before apart.0 e)
      (untouched k below s assigned cut.after apart.1 e)

  -- all clocked processes in their order give the same
  clocked_gives : (p : ProcessForm) (s : ℕ) → Contains (clocked design) p
      → IsTrue (assigns p.body s)
      → (e : Environment ℕ)
      → after_edge design (clocked design) e s ≡
      last_update ◌==◌ s (e s) (updates_of design.signals p.body e)
  clocked_gives p s at assigned e =
      let test = λ (q : ProcessForm). assigns q.body s in
      let each = λ (q : ProcessForm). updates_of design.signals q.body e in
      let cut = cut_at (clocked design) p at in
      let few = subst (λ qs. slice_get (filter test qs) 1 ≡ None) cut.is
      (one_clocked p s at assigned) in
      ap (λ qs. after_edge design qs e s) cut.is
      ∙ one_gives cut.before cut.after p s e
      (all_touch each cut.before s (λ q q_at. run_touch design.signals q.body (e, []) s
      (none_found (assigns q.body s) (λ other.
      two_pass test p assigned cut.after cut.before q q_at other few)) refl))
      (all_touch each cut.after s (λ q q_at. run_touch design.signals q.body (e, []) s
      (none_found (assigns q.body s) (λ other.
      let more = cut_at cut.after q q_at in
      two_pass test q other more.after (cut.before ++ p ∷ more.before) p
      (Contains-right cut.before (p ∷ more.before) p (Contains-head p more.before)) assigned
      (subst (λ qs. slice_get (filter test qs) 1 ≡ None)
      (ap (λ ls. cut.before ++ p ∷ ls) more.is
      ∙ sym (append_assoc cut.before (p ∷ more.before) (q ∷ more.after))) few))) refl))

  same_at : (order : List ℕ) → IsTrue (is_order design order) → (e : Environment ℕ) (s : ℕ)
      → after_tick design order e s ≡ (flat_system design).next e s
  same_at order is e s = ⊎_elim
      (λ some.
      let found = from_some (λ (q : ProcessForm). assigns q.body s) (clocked design) some in
      let p = found.0 in
      let at = found.1 in
      let k = at.0 in
      let same = get_or_default (clocked design) k idle p at.1 ∙ at.2 in
      order_gives order k at.1 (order_once design order is k at.1) s
      (subst (λ (q : ProcessForm). IsTrue (assigns q.body s)) (sym same) found.2) e
      ∙ ap (λ (q : ProcessForm). last_update ◌==◌ s (e s) (updates_of design.signals q.body e)) same
      ∙ sym (clocked_gives p s at found.2 e))
      (λ none.
      let leaves = λ (q : ProcessForm) (at : Contains (clocked design) q).
      none_found (assigns q.body s) (λ h.
      false≢true (sym none
      ∙ some_from (λ (z : ProcessForm). assigns z.body s) (clocked design) q at h)) in
      none_gives (in_order design order) s e (λ q at.
      let found = number_of design order q at in
      leaves q (subst (Contains (clocked design)) found.3 (numbered_in design found.0 found.2)))
      ∙ sym (none_gives (clocked design) s e leaves))
      (either_way (list_any (λ (q : ProcessForm). assigns q.body s) (clocked design)))

  -- an order gives each register its next value, whichever it is
  pub tick_is_next : (order : List ℕ) → IsTrue (is_order design order) → (e : Environment ℕ)
      → after_tick design order e ≡ (flat_system design).next e
  tick_is_next order is e = fun_ext (same_at order is e)

-- ---- places of clocked processes

module _ (design : FlatDesign) (places : List ℕ) (are : ArePlaces design true places) where
  pub clocked_size : length places ≡ length (clocked design)
  clocked_size = sym (length-map places (process_at design)) ∙ ap length are.are

  pub clocked_inside : (k : ℕ) → k < length (clocked design) →
      slice_index places k < length (processes_of design)
  clocked_inside k below =
      are.within (slice_index places k)
      (Contains-get_or places k 0 (subst (λ n. k < n) (sym clocked_size) below))

  -- the process with a number is the one at its place
  pub clocked_at : (k : ℕ) → k < length (clocked design) →
      numbered design k ≡ process_at design (slice_index places k)
  clocked_at k below =
      ap (λ qs. get_or qs k idle) (sym are.are)
      ∙ get_or-map (process_at design) places k 0 idle
      (subst (λ n. k < n) (sym clocked_size) below)
