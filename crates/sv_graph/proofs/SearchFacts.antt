-- A search finds the least set with its starts.
use Rattle.std.proofs.Common.{◌≡◌, ◌≢◌, ◌⊎◌, inl, inr, ⊎_elim, ℕ, ◌+◌, ◌<◌, ◌≤◌, Bool, true, false}
use Rattle.std.proofs.Common.{cond, ◌||◌, ◌==◌, nat_lt, nat_le, ltb-true, ltb-false, leb-true, drop}
use Rattle.std.proofs.Common.{take, List, [], ◌∷◌, ◌++◌, length, get_or, set, Option, Some, None}
use Rattle.std.proofs.Common.{refl, sym, ap, subst, ◌∙◌, arith, get_or-set_same, get_or-set_other}
use Rattle.std.specs.Prelude.{IsTrue, IsFalse, Contains, is_some, is_none, count_by}
use Rattle.std.proofs.lemmas.Bool.{false≢true, eqb-true, eq-eqb, le-leb}
use Rattle.std.proofs.lemmas.List.{get_or_append_left, get_or_push, length_push, length-set}
use Rattle.std.proofs.lemmas.List.{at_drop_more, map_more}
use Rattle.std.proofs.lemmas.List.Sums.{sum_by-set}
use Rattle.sv_flat.specs.Sets.{holds, least_set}
use Rattle.sv_graph.specs.declared.searches.Search.{Search}
use Rattle.sv_graph.specs.Searches.{Searches, IsSearch, SearchesBy, found_by, led_by, is_found}
use Rattle.sv_graph.specs.Searches.{is_passed, Visits, Brings}
use Rattle.sv_graph.specs.declared.graphs.Graph.{Graph}
use Rattle.sv_graph.specs.Graphs.{size, has_edge, IsWhole, row as row_of}
use Rattle.sv_graph.specs.Numbers.{numbers}
use Rattle.sv_flat.specs.declared.signals.SigId.{SigId}
use Rattle.sv_flat.proofs.AdmittedFacts.{and_true}
use Rattle.sv_flat.proofs.Depths.{first_of, second_of}
use Rattle.sv_graph.proofs.BitFacts.{same_answer}
use Rattle.sv_system.proofs.Lists.{Contains-map}
use Rattle.std.proofs.lemmas.List.Elements.{Contains-get_or, Contains-push_cases}
use Rattle.sv_flat.proofs.LeastSets.{either_way, holds-from_Contains, Contains-from_holds}
use Rattle.sv_flat.proofs.LeastSets.{least_set_has, least_set_closed, least_set_least, or_cases}

-- ---- lists

pub below_or_at : (i n : ℕ) → i < n + 1 → (i < n) ⊎ (n ≡ i)
below_or_at i n h =
    ⊎_elim (λ e. inr (sym (eqb-true i n e))) (λ f.
    inl (let ne : i ≢ n = λ e. false≢true (sym f ∙ eq-eqb i n e) in
    omega arith)) (either_way (i == n))

pub pushed : (P : ℕ → ℕ → Type 0) (xs : List ℕ) (y : ℕ)
    → ((i : ℕ) → i < length xs → P i (get_or xs i 0)) → P (length xs) y
    → (i : ℕ) → i < length (xs ++ y ∷ []) → P i (get_or (xs ++ y ∷ []) i 0)
pushed P xs y old new i lt =
    let size = length_push xs y in ⊎_elim
    (λ l. subst (P i) (sym (get_or_append_left xs (y ∷ []) 0 i l)) (old i l))
    (λ e. subst (λ k. P k (get_or (xs ++ y ∷ []) k 0)) e
    (subst (P (length xs)) (sym (get_or_push xs y 0 (length xs) refl)) new))
    (below_or_at i (length xs) (omega arith))

some_of : (o : Option ℕ) → IsTrue (is_some o) → (i : ℕ) × (o ≡ Some i)
some_of None h = absurd (false≢true h)
some_of (Some i) h = (i, refl)

is_some_of : (o : Option ℕ) (i : ℕ) → o ≡ Some i → IsTrue (is_some o)
is_some_of o i e = ap is_some e

same_some : (i k : ℕ) → Some i ≡ Some k → i ≡ k
same_some i k e = cc

none_of : (o : Option ℕ) → IsFalse (is_some o) → IsTrue (is_none o)
none_of None h = refl
none_of (Some i) h = absurd (false≢true (sym h))

differs : (s t : ℕ) → IsFalse (s == t) → t ≢ s
differs s t h e = false≢true (sym h ∙ eq-eqb s t (sym e))

one_less : (a b : ℕ) (c : Bool) → IsTrue c → a + cond c 1 0 ≡ b + 0 → a + 1 ≡ b
one_less a b true h e = omega (arith, e)
one_less a b false h e = absurd (false≢true h)

-- ---- the state of a search

module _ (n : ℕ) (brings : ℕ → ℕ → Bool) (starts : List ℕ) (place : ℕ) (found led : List ℕ)
    (places : List (Option ℕ))
    (so_far : Searches n brings starts place found led places) (s from : ℕ) (below : s < n)
    (before : place ≤ length found)
    (reached : Contains (least_set n brings starts) s)
    (leads : Contains starts s
    ⊎ ((from < length found) × IsTrue (brings (get_or found from 0) s))) where
  module _ (out : IsFalse (is_some (get_or places s None))) where
    abbrev more : List (Option ℕ)
    more = set places s (Some (length found))

    inside : s < length places
    inside = subst (λ m. s < m) (sym so_far.size) below

    at_own : get_or more s None ≡ Some (length found)
    at_own = get_or-set_same places s (Some (length found)) None inside

    at_other : (t : ℕ) → IsFalse (s == t) → get_or more t None ≡ get_or places t None
    at_other t h = get_or-set_other places s t (Some (length found)) None (differs s t h)

    still : (t : ℕ) → IsTrue (is_some (get_or places t None)) →
        IsTrue (is_some (get_or more t None))
    still t h = ⊎_elim
        (λ e. subst (λ z. IsTrue (is_some (get_or more z None))) (eqb-true s t e)
        (ap is_some at_own))
        (λ f. ap is_some (at_other t f) ∙ h)
        (either_way (s == t))

    known_more : (t i : ℕ) → get_or more t None ≡ Some i →
        (i < length (found ++ s ∷ [])) × (get_or (found ++ s ∷ []) i 0 ≡ t)
    known_more t i e =
        let size = length_push found s in ⊎_elim
        (λ own.
        let same : length found ≡ i =
        same_some (length found) i (sym at_own
        ∙ ap (λ z. get_or more z None) (eqb-true s t own) ∙ e) in (
          omega arith,
          subst (λ k.
              get_or (found ++ s ∷ []) k 0 ≡
              t) same (get_or_push found s 0 (length found) refl ∙ eqb-true s t own),
        ))
        (λ other.
        let old = so_far.known t i (sym (at_other t other) ∙ e) in
        let lt = old.0 in
        (omega arith, get_or_append_left found (s ∷ []) 0 i lt ∙ old.1))
        (either_way (s == t))

    own_place : (i : ℕ) → i < length found → IsFalse (s == get_or found i 0)
    own_place i lt = ⊎_elim
        (λ e.
        absurd (false≢true (sym out
        ∙ ap (λ z. is_some (get_or places z None)) (eqb-true s (get_or found i 0) e)
        ∙ is_some_of (get_or places (get_or found i 0) None) i (so_far.numbered i lt))))
        (λ f. f)
        (either_way (s == get_or found i 0))

    led_more : (i : ℕ) → i < length (found ++ s ∷ [])
        → Contains starts (get_or (found ++ s ∷ []) i 0) ⊎ ((get_or (led ++ from ∷ []) i 0 < i)
        × IsTrue (brings (get_or (found ++ s ∷ []) (get_or (led ++ from ∷ []) i 0) 0)
        (get_or (found ++ s ∷ []) i 0)))
    led_more i lt =
        let size = length_push found s in
        let led_size = so_far.led_size in ⊎_elim
        (λ l.
        let l_led : i < length led = omega arith in
        let here = get_or_append_left found (s ∷ []) 0 i l in
        let from_is = get_or_append_left led (from ∷ []) 0 i l_led in ⊎_elim
        (λ start. inl (subst (Contains starts) (sym here) start))
        (λ step.
        let lower = step.0 in
        let l_from : get_or led i 0 < length found = omega arith in
        inr (
          subst (λ k. k < i) (sym from_is) step.0,
          subst (λ k. IsTrue (brings (get_or (found ++ s ∷ []) k 0) (get_or (found ++ s ∷ []) i 0)))
              (sym from_is)
              (subst (λ z. IsTrue (brings z (get_or (found ++ s ∷ []) i 0)))
              (sym (get_or_append_left found (s ∷ []) 0 (get_or led i 0) l_from))
              (subst (λ z. IsTrue (brings (get_or found (get_or led i 0) 0) z)) (sym here) step.1)),
        ))
        (so_far.led_on i l))
        (λ e.
        let own : get_or (found ++ s ∷ []) i 0 ≡ s =
        subst (λ k. get_or (found ++ s ∷ []) k 0 ≡ s) e
        (get_or_push found s 0 (length found) refl) in
        let from_is : get_or (led ++ from ∷ []) i 0 ≡ from =
        get_or_push led from 0 i (led_size ∙ e) in ⊎_elim
        (λ start. inl (subst (Contains starts) (sym own) start))
        (λ step. inr (
          subst (λ k. k < i) (sym from_is) (subst (λ k. from < k) e step.0),
          subst (λ k. IsTrue (brings (get_or (found ++ s ∷ []) k 0) (get_or (found ++ s ∷ []) i 0)))
              (sym from_is)
              (subst (λ z. IsTrue (brings z (get_or (found ++ s ∷ []) i 0)))
              (sym (get_or_append_left found (s ∷ []) 0 from step.0))
              (subst (λ z. IsTrue (brings (get_or found from 0) z)) (sym own) step.1)),
        ))
        leads)
        (below_or_at i (length found) (omega arith))

    fewer : count_by is_none more + 1 ≡ count_by is_none places
    fewer =
        one_less (count_by is_none more) (count_by is_none places) (is_none (get_or places s None))
        (none_of (get_or places s None) out)
        (sum_by-set (λ (o : Option ℕ).
        cond (is_none o) 1 0) places s (Some (length found)) None inside)

    appended : Searches n brings starts place (found ++ s ∷ []) (led ++ from ∷ []) more
    appended = record {
      size = length-set places s (Some (length found)) ∙ so_far.size;
      led_size = length_push led from ∙ ap (λ k. k + 1) so_far.led_size ∙ sym (length_push found s);
      few =
          let size = length_push found s in let less = fewer in let few = so_far.few in omega arith;
      known = known_more;
      numbered =
          pushed (λ i z. get_or more z None ≡ Some i) found s (λ i lt.
          at_other (get_or found i 0) (own_place i lt) ∙ so_far.numbered i lt) at_own;
      within = pushed (λ i z. z < n) found s so_far.within below;
      reached =
          pushed (λ i z. Contains (least_set n brings starts) z) found s so_far.reached reached;
      closed = λ i b lt b_below h.
          let l : i < length found = omega arith in
          still b (so_far.closed i b lt b_below
          (subst (λ z. IsTrue (brings z b)) (get_or_append_left found (s ∷ []) 0 i l) h));
      led_on = led_more;
    }

  -- one signal more
  module _ (new_found new_led : List ℕ) (new_places : List (Option ℕ)) where
    abbrev Visited : Bool → Type 0
    Visited old =
        (new_found ≡ cond old found (found ++ s ∷ [])) × (new_led ≡ cond old led (led ++ from ∷ []))
        × (new_places ≡ cond old places (set places s (Some (length found))))

    -- what a visit keeps, and that it finds the signal
    abbrev Gains : Type 0
    Gains =
        Searches n brings starts place new_found new_led new_places
        × IsTrue (is_some (get_or new_places s None))
        × ((t : ℕ) → IsTrue (is_some (get_or places t None)) →
        IsTrue (is_some (get_or new_places t None)))
        × (length found ≤ length new_found)
        × ((i : ℕ) → i < length found → get_or new_found i 0 ≡ get_or found i 0)

    visited_by : (old : Bool) → is_some (get_or places s None) ≡ old → Visited old → Gains
    visited_by true is (a, b, c) = (
      subst (λ f. Searches n brings starts place f new_led new_places) (sym a)
          (subst (λ l. Searches n brings starts place found l new_places) (sym b)
          (subst (Searches n brings starts place found led) (sym c) so_far)),
      ap (λ ps. is_some (get_or ps s None)) c ∙ is,
      λ t h. ap (λ ps. is_some (get_or ps t None)) c ∙ h,
      (let same = ap length a in omega arith),
      λ i lt. ap (λ f. get_or f i 0) a,
    )
    visited_by false is (a, b, c) = (
      subst (λ f. Searches n brings starts place f new_led new_places) (sym a)
          (subst (λ l. Searches n brings starts place (found ++ s ∷ []) l new_places) (sym b)
          (subst (Searches n brings starts place (found ++ s ∷ []) (led ++ from ∷ [])) (sym c)
          (appended is))),
      ap (λ ps. is_some (get_or ps s None)) c ∙ ap is_some (at_own is),
      λ t h. ap (λ ps. is_some (get_or ps t None)) c ∙ still is t h,
      (let same = ap length a in let size = length_push found s in omega arith),
      λ i lt. ap (λ f. get_or f i 0) a ∙ get_or_append_left found (s ∷ []) 0 i lt,
    )

    pub visited : Visited (is_some (get_or places s None)) → Gains
    visited h = visited_by (is_some (get_or places s None)) refl h

-- ---- the end

module _ (n : ℕ) (brings : ℕ → ℕ → Bool) (starts : List ℕ) (place : ℕ) (found led : List ℕ)
    (places : List (Option ℕ))
    (within : (k : ℕ) → Contains starts k → k < n)
    (so_far : Searches n brings starts place found led places)
    (begun : (k : ℕ) → Contains starts k → IsTrue (is_some (get_or places k None))) where
  -- what was found is a member
  pub found_is_member : (s : ℕ) → IsTrue (is_some (get_or places s None)) →
      Contains (least_set n brings starts) s
  found_is_member s h =
      let some = some_of (get_or places s None) h in
      let at = so_far.known s some.0 some.1 in
      subst (Contains (least_set n brings starts)) at.1 (so_far.reached some.0 at.0)

  -- and each member was found, once all have led on
  pub member_is_found : length found ≤ place → (s : ℕ) → Contains (least_set n brings starts) s →
      IsTrue (is_some (get_or places s None))
  member_is_found all =
      least_set_least n brings starts within (λ z.
      IsTrue (is_some (get_or places z None))) begun (λ m k m_found h below.
      let some = some_of (get_or places m None) m_found in
      let at = so_far.known m some.0 some.1 in
      let lt = at.0 in
      so_far.closed some.0 k (omega arith) below (subst (λ z. IsTrue (brings z k)) (sym at.1) h))

-- ---- one visit

module _ (old : Search) (least s from : ℕ) where
  pub visit_passed : IsTrue (is_passed old least s) → Visits old old least s from
  visit_passed h = (
    sym (ap (λ b. cond b (found_by old) (found_by old ++ s ∷ [])) h),
    sym (ap (λ b. cond b (led_by old) (led_by old ++ from ∷ [])) h),
    sym (ap (λ b. cond b old.places.items (set old.places.items s (Some (length (found_by old)))))
        h),
  )

  pub visit_new : IsFalse (is_passed old least s) → (found led : List ℕ) (places : List (Option ℕ))
      → found ≡ found_by old ++ s ∷ [] → led ≡ led_by old ++ from ∷ []
      → places ≡ set old.places.items s (Some (length (found_by old)))
      → (found ≡ cond (is_passed old least s) (found_by old) (found_by old ++ s ∷ []))
      × (led ≡ cond (is_passed old least s) (led_by old) (led_by old ++ from ∷ []))
      × (places ≡ cond (is_passed old least s) old.places.items
      (set old.places.items s (Some (length (found_by old)))))
  visit_new h found led places a b c = (
    a ∙ sym (ap (λ t. cond t (found_by old) (found_by old ++ s ∷ [])) h),
    b ∙ sym (ap (λ t. cond t (led_by old) (led_by old ++ from ∷ [])) h),
    c
        ∙ sym (ap (λ t. cond t old.places.items
        (set old.places.items s (Some (length (found_by old))))) h),
  )

-- a visit leaves as many signals to find places for
pub visit_size : (old new : Search) (least s from : ℕ) → Visits old new least s from →
    length new.places.items ≡ length old.places.items
visit_size old new least s from visits =
    by (is_passed old least s) visits.2
  where
    by : (b : Bool) → new.places.items ≡
        cond b old.places.items (set old.places.items s (Some (length (found_by old)))) →
        length new.places.items ≡ length old.places.items
    by true e = ap length e
    by false e = ap length e ∙ length-set old.places.items s (Some (length (found_by old)))

module _ (n : ℕ) (brings : ℕ → ℕ → Bool) (starts : List ℕ) (place : ℕ) (old new : Search) where
  -- what a visit keeps, and that it finds the signal
  abbrev pub Keeps : (least s : ℕ) → Type 0
  Keeps least s = SearchesBy n brings starts place new × (least ≤ s → IsTrue (is_found new s))
      × ((t : ℕ) → IsTrue (is_found old t) → IsTrue (is_found new t))
      × (length (found_by old) ≤ length (found_by new))
      × ((i : ℕ) → i < length (found_by old) →
      get_or (found_by new) i 0 ≡ get_or (found_by old) i 0)

  pub kept_by : (least s from : ℕ) → SearchesBy n brings starts place old → s < n
      → place ≤ length (found_by old)
      → (least ≤ s → Contains (least_set n brings starts) s)
      → (least ≤ s → Contains starts s
      ⊎ ((from < length (found_by old)) × IsTrue (brings (get_or (found_by old) from 0) s)))
      → Visits old new least s from → Keeps least s
  kept_by least s from so_far below before reached leads visits =
      by_least (nat_lt s least) refl visits
    where
      by_least : (b : Bool) → nat_lt s least ≡ b
          → (found_by new ≡ cond (b || is_found old s) (found_by old) (found_by old ++ s ∷ []))
          × (led_by new ≡ cond (b || is_found old s) (led_by old) (led_by old ++ from ∷ []))
          × (new.places.items ≡
          cond (b || is_found old s) old.places.items
          (set old.places.items s (Some (length (found_by old)))))
          → Keeps least s
      by_least true is (x, y, z) = (
        subst (λ f. Searches n brings starts place f (led_by new) new.places.items) (sym x)
            (subst (λ l. Searches n brings starts place (found_by old) l new.places.items) (sym y)
            (subst (Searches n brings starts place (found_by old) (led_by old)) (sym z) so_far)),
        λ le. absurd (let lt = ltb-true s least is in omega arith),
        λ t h. ap (λ ps. is_some (get_or ps t None)) z ∙ h,
        (let same = ap length x in omega arith),
        λ i lt. ap (λ f. get_or f i 0) x,
      )
      by_least false is changes =
          let le : least ≤ s = ltb-false s least is in
          let all = visited n brings starts place (found_by old) (led_by old) old.places.items
          so_far s from below before (reached le) (leads le)
          (found_by new) (led_by new) new.places.items changes in
          (all.0, λ any. all.1, all.2, all.3, all.4)

-- ---- what one signal leads to

module _ (graph : Graph) (least place : ℕ) (row : List SigId) (sig : ℕ) (initial now new : Search)
    (i : ℕ) (d : SigId) where
  -- what the signal leads to is found, or is left
  abbrev pub Expands : Search → List SigId → (brings : ℕ → ℕ → Bool) → (starts : List ℕ) → Type 0
  Expands search left brings starts =
      SearchesBy (size graph) brings starts place search
      × (place < length (found_by search)) × (get_or (found_by search) place 0 ≡ sig)
      × ((s : ℕ) → IsTrue (is_found initial s) → IsTrue (is_found search s))
      × ((b : ℕ) → IsTrue (holds (numbers row) b) → least ≤ b →
      IsTrue (is_found search b) ⊎ IsTrue (holds (numbers left) b))

  pub expand_more : (brings : ℕ → ℕ → Bool) (starts : List ℕ) → Brings graph least brings
      → ((k : ℕ) → Contains starts k → k < size graph)
      → IsWhole graph → numbers row ≡ row_of graph sig → i < length row
      → Visits now new least (get_or row i d).0 place
      → Expands now (drop i row) brings starts → Expands new (drop (i + 1) row) brings starts
  expand_more brings starts bring within whole is inside visits (state, lt, at, more, left) =
      let x = get_or row i d in
      let member = Contains-map (λ (s : SigId). s.0) row x (Contains-get_or row i d inside) in
      let edge : IsTrue (has_edge graph sig x.0) =
      ap (λ r. holds r x.0) (sym is) ∙ holds-from_Contains (numbers row) x.0 member in
      let below = whole sig x.0 edge in
      let brought : least ≤ x.0 → IsTrue (brings sig x.0) =
      λ le. bring sig x.0 ∙ and_true (has_edge graph sig x.0) (nat_le least x.0) edge
      (le-leb least x.0 le) in
      let kept = kept_by (size graph) brings starts place now new least x.0 place state below
      (omega arith)
      (λ le. least_set_closed (size graph) brings starts within sig x.0
      (subst (Contains (least_set (size graph) brings starts)) at (state.reached place lt))
      (brought le) below)
      (λ le. inr (lt, subst (λ z. IsTrue (brings z x.0)) (sym at) (brought le))) visits in
      let longer = kept.3 in (
        kept.0,
        omega arith,
        kept.4 place lt ∙ at,
        λ s h. kept.2 s (more s h),
        λ b h le. ⊎_elim
            (λ found. inl (kept.2 b found))
            (λ later. ⊎_elim
            (λ same. inl (subst (λ z.
            IsTrue (is_found new z)) (eqb-true x.0 b same)
            (kept.1 (subst (λ z. least ≤ z) (sym (eqb-true x.0 b same)) le))))
            (λ rest. inr rest)
            (or_cases (x.0 == b) (holds (numbers (drop (i + 1) row)) b)
            (sym (at_drop_more (λ (r : List SigId). holds (numbers r) b) row i d inside) ∙ later)))
            (left b h le),
      )

pub expand_end : (graph : Graph) (least place : ℕ) (row : List SigId) (sig : ℕ)
    (initial now : Search) (brings : ℕ → ℕ → Bool) (starts : List ℕ) (left : List SigId)
    → Brings graph least brings → numbers row ≡ row_of graph sig → numbers left ≡ []
    → Expands graph least place row sig initial now now 0 (record { 0 = 0 }) now left brings starts
    → SearchesBy (size graph) brings starts (place + 1) now
    × ((s : ℕ) → IsTrue (is_found initial s) → IsTrue (is_found now s))
    × (place < length (found_by now))
expand_end graph least place row sig initial now brings starts left bring is none
    (state, lt, at, keeps, rest) = (
      record {
        size = state.size;
        led_size = state.led_size;
        few = state.few;
        known = state.known;
        numbered = state.numbered;
        within = state.within;
        reached = state.reached;
        led_on = state.led_on;
        closed = λ i b below b_below h. ⊎_elim
            (λ l. state.closed i b l b_below h)
            (λ e.
            let here : IsTrue (brings sig b) =
            subst (λ z. IsTrue (brings z b))
            (subst (λ k. get_or (found_by now) k 0 ≡ sig) e at) h in
            let both = sym (bring sig b) ∙ here in ⊎_elim
            (λ found. found)
            (λ later. absurd (false≢true (sym (ap (λ ks. holds ks b) none) ∙ later)))
            (rest b (ap (λ r. holds r b) is ∙ first_of (has_edge graph sig b) (nat_le least b) both)
            (leb-true least b (second_of (has_edge graph sig b) (nat_le least b) both))))
            (below_or_at i place below);
      },
      keeps,
      lt,
    )

-- ---- the whole search

-- all starts so far were found
abbrev pub Begins : Graph → (brings : ℕ → ℕ → Bool) → (starts done : List ℕ) → (place : ℕ) →
    Search → Type 0
Begins graph brings starts done place search = SearchesBy (size graph) brings starts place search
    × ((k : ℕ) → Contains done k → IsTrue (is_found search k))

pub begin_more : (graph : Graph) (brings : ℕ → ℕ
    → Bool) (starts : List SigId) (now new : Search) (i : ℕ) (d : SigId)
    → ((k : ℕ) → Contains (numbers starts) k → k < size graph) → i < length starts
    → Visits now new 0 (get_or starts i d).0 0
    → Begins graph brings (numbers starts) (numbers (take i starts)) 0 now
    → Begins graph brings (numbers starts) (numbers (take (i + 1) starts)) 0 new
begin_more graph brings starts now new i d within inside visits (state, begun) =
    let x = get_or starts i d in
    let member = Contains-map (λ (s : SigId). s.0) starts x (Contains-get_or starts i d inside) in
    let kept = kept_by (size graph) brings (numbers starts) 0 now new 0 x.0 0 state
    (within x.0 member) (omega arith)
    (λ le. least_set_has (size graph) brings (numbers starts) within x.0 member) (λ le.
    inl member) visits in (
      kept.0,
      λ k at. ⊎_elim
          (λ old. kept.2 k (begun k old))
          (λ same. subst (λ z. IsTrue (is_found new z)) same (kept.1 (omega arith)))
          (Contains-push_cases (numbers (take i starts)) x.0 k
          (subst (λ ks. Contains ks k) (map_more (λ (s : SigId). s.0) starts i d inside) at)),
    )

pub search_end : (graph : Graph) (brings : ℕ → ℕ
    → Bool) (starts done : List ℕ) (place : ℕ) (search : Search)
    → ((k : ℕ) → Contains starts k → k < size graph) → done ≡ starts
    → length (found_by search) ≤ place → place ≤ length (found_by search)
    → Begins graph brings starts done place search → IsSearch (size graph) brings starts search
search_end graph brings starts done place search within same ended not_past (state, begun) =
    let all : (k : ℕ) → Contains starts k → IsTrue (is_found search k) =
    λ k at. begun k (subst (λ ks. Contains ks k) (sym same) at) in
    let at_end : place ≡ length (found_by search) = omega arith in
    record {
      ended = subst (λ p. SearchesBy (size graph) brings starts p search) at_end state;
      has =
          λ s below. same_answer (is_found search s)
          (holds (least_set (size graph) brings starts) s)
          (λ h. holds-from_Contains (least_set (size graph) brings starts) s
          (found_is_member (size graph) brings starts place (found_by search) (led_by search)
          search.places.items within state all s h))
          (λ h. member_is_found (size graph) brings starts place (found_by search) (led_by search)
          search.places.items within state all ended s
          (Contains-from_holds (least_set (size graph) brings starts) s h));
    }

-- there is room for another step
pub not_full : (n : ℕ) (brings : ℕ → ℕ → Bool) (starts : List ℕ) (place : ℕ) (search : Search)
    → SearchesBy n brings starts place search
    → length (found_by search) ≤ n
not_full n brings starts place search state = let few = state.few in omega arith
