-- A search over readers finds a circle that begins at its start, where one does.
use Rattle.std.proofs.Common.{◌≡◌, ⊎_elim, ℕ, ◌+◌, ◌<◌, ◌≤◌, Bool, true, false, not, ◌&&◌, nat_lt}
use Rattle.std.proofs.Common.{nat_le, ltb-true, lt-ltb, leb-true, List, [], ◌∷◌, length, get_or}
use Rattle.std.proofs.Common.{Option, Some, None, refl, sym, ap, subst, ◌∙◌, arith, ltb-false}
use Rattle.std.proofs.Common.{zero-add, Vec, Global}
use Rattle.std.proofs.Math.ListN.{length-map}
use Rattle.std.proofs.lemmas.List.{get_or_past}
use Rattle.std.proofs.lemmas.List.FromFn.{length-map-range_with_len, get_or-map-range_with_len}
use Rattle.std.specs.Prelude.{IsTrue, IsFalse, Contains, is_some}
use Rattle.std.specs.List.{list_all}
use Rattle.std.proofs.lemmas.Bool.{false≢true, le-leb}
use Rattle.sv_system.proofs.Lists.{Contains-head, Contains-nil, Contains-cases}
use Rattle.sv_flat.specs.Design.{FlatDesign}
use Rattle.sv_flat.specs.Loops.{reads_along, all_differ, is_circle}
use Rattle.sv_flat.specs.Reads.{is_combinational, is_read_for, reads_for}
use Rattle.sv_flat.specs.Sets.{holds, least_set}
use Rattle.sv_flat.proofs.AdmittedFacts.{and_true}
use Rattle.sv_flat.proofs.Depths.{first_of, second_of, is_below}
use Rattle.sv_flat.proofs.LeastSets.{either_way, holds-from_Contains, Contains-from_holds, in_those}
use Rattle.sv_flat.proofs.LeastSets.{least_set_has, least_set_closed, least_set_below, those_below}
use Rattle.sv_flat.proofs.LeastSets.{those_pass}
use Rattle.sv_flat.specs.declared.signals.SigId.{SigId}
use Rattle.sv_graph.specs.Graphs.{size, row, has_edge, IsWhole}
use Rattle.sv_graph.specs.Marks.{is_marked}
use Rattle.sv_design.specs.Numbers.{numbers}
use Rattle.sv_design.specs.Orders.{AreReads}
use Rattle.sv_graph.specs.Searches.{IsSearch, IsWayBack, LeadsDown, found_by, led_by, is_found}
use Rattle.sv_graph.specs.Searches.{place_of}
use Rattle.sv_design.specs.declared.orders.SignalReads.{SignalReads}
use Rattle.sv_graph.specs.declared.searches.Search.{Search}

-- ---- small steps

at_some : (o : Option ℕ) → IsTrue (is_some o) → (i : ℕ) × (o ≡ Some i)
at_some None h = absurd (false≢true h)
at_some (Some i) h = (i, refl)

same_some : (i k : ℕ) → Some i ≡ Some k → i ≡ k
same_some i k e = cc

the_only : (first k : ℕ) → Contains (first ∷ []) k → first ≡ k
the_only first k at =
    ⊎_elim (λ e. e) (λ none. absurd (Contains-nil k none)) (Contains-cases first [] k at)

lacks : (set : List ℕ) (k : ℕ) → (Contains set k → ⊥) → IsTrue (not (holds set k))
lacks set k out = by (holds set k) refl
  where
    by : (b : Bool) → holds set k ≡ b → IsTrue (not b)
    by true is = absurd (out (Contains-from_holds set k is))
    by false is = refl

-- ---- circles from one signal on

-- the parts of a circle
pub circle_parts : (design : FlatDesign) (first : ℕ) (signals : List ℕ)
    → IsTrue (is_circle design (first ∷ signals))
    → IsTrue (reads_along design first signals first)
    × IsTrue (list_all (is_combinational design) (first ∷ signals))
    × IsTrue (list_all (nat_lt first) signals)
circle_parts design first signals circle =
    let along = reads_along design first signals first in
    let all = list_all (is_combinational design) (first ∷ signals) in
    let above = list_all (nat_lt first) signals in
    let three = first_of (along && all && above) (all_differ signals) circle in
    let two = first_of (along && all) above three in
    (first_of along all two, second_of along all two, second_of (along && all) above three)

pub circle_is_combinational : (design : FlatDesign) (first : ℕ) (signals : List ℕ)
    → IsTrue (is_circle design (first ∷ signals)) → IsTrue (is_combinational design first)
circle_is_combinational design first signals circle =
    first_of (is_combinational design first) (list_all (is_combinational design) signals)
    (circle_parts design first signals circle).1

-- from a signal a search over readers goes to greater ones
abbrev pub over : SignalReads → (first : ℕ) → ℕ → ℕ → Bool
over reads first a b = has_edge reads.readers a b && nat_le (first + 1) b

module _ (design : FlatDesign) (reads : SignalReads) (are : AreReads design reads) where
  abbrev n : ℕ
  n = size reads.readers

  inside : (s : ℕ) → IsTrue (is_combinational design s) → s < n
  inside s comb = subst (λ m. s < m) (sym are.readers_size) (is_below design s comb)

  edge_parts : (a b : ℕ) → IsTrue (has_edge reads.readers a b)
      → IsTrue (is_combinational design a) × IsTrue (is_combinational design b)
      × IsTrue (is_read_for design b a)
  edge_parts a b h =
      let all = sym (are.readers_are a b) ∙ h in
      let a_is = is_combinational design a in
      let b_is = is_combinational design b in
      let both = first_of (a_is && b_is) (is_read_for design b a) all in (
        first_of a_is b_is both,
        second_of a_is b_is both,
        second_of (a_is && b_is) (is_read_for design b a) all,
      )

  -- the tables at a signal
  pub is_candidate : (s : ℕ) → IsTrue (is_marked reads.combs.items s)
      → IsTrue (is_combinational design s)
  is_candidate s marked = ⊎_elim
      (λ below. sym (are.combs_are.1 s (subst (λ m. s < m) are.combs_are.0
      (ltb-true s (length reads.combs.items) below))) ∙ marked)
      (λ past. absurd (false≢true (sym (get_or_past reads.combs.items s false
      (ltb-false s (length reads.combs.items) past)) ∙ marked)))
      (either_way (nat_lt s (length reads.combs.items)))

  pub no_candidate : (s : ℕ) → s < length reads.combs.items
      → IsFalse (is_marked reads.combs.items s)
      → (signals : List ℕ) → IsTrue (is_circle design (s ∷ signals)) → ⊥
  no_candidate s below out signals circle =
      false≢true (sym out ∙ are.combs_are.1 s (subst (λ m. s < m) are.combs_are.0 below)
      ∙ circle_is_combinational design s signals circle)

  pub candidate_inside : (s : ℕ) → IsTrue (is_marked reads.combs.items s) → s < n
  candidate_inside s marked = inside s (is_candidate s marked)

  pub reads_size : size reads.reads ≡ n
  reads_size =
      sym (length-map reads.reads.rows.items (λ (r : Vec SigId Global). numbers r.items))
      ∙ ap length are.reads_are
      ∙ length-map-range_with_len (reads_for design) 0 (length design.signals)
      ∙ sym are.readers_size

  pub row_reads : (s : ℕ) → s < n → row reads.reads s ≡ reads_for design s
  row_reads s below =
      ap (λ (rs : List (List ℕ)). get_or rs s []) are.reads_are
      ∙ get_or-map-range_with_len (reads_for design) 0 (length design.signals) s s []
      (subst (λ m. s < m) are.readers_size below) (zero-add s)

  pub read_inside : (s t : ℕ) → Contains (reads_for design s) t → t < n
  read_inside s t at =
      subst (λ m. t < m) (sym are.readers_size)
      (those_below (length design.signals) (is_read_for design s) t at)

  pub is_read : (s t : ℕ) → Contains (reads_for design s) t → IsTrue (is_read_for design s t)
  is_read s t at = those_pass (length design.signals) (is_read_for design s) t at

  pub readers_whole : IsWhole reads.readers
  readers_whole a b h = inside b (edge_parts a b h).1

  module _ (first : ℕ) (comb : IsTrue (is_combinational design first)) where
    abbrev brings : ℕ → ℕ → Bool
    brings = over reads first

    brought_parts : (a b : ℕ) → IsTrue (brings a b)
        → IsTrue (is_combinational design b) × IsTrue (is_read_for design b a) × (first < b)
    brought_parts a b h =
        let edge = has_edge reads.readers a b in
        let parts = edge_parts a b (first_of edge (nat_le (first + 1) b) h) in
        let le = leb-true (first + 1) b (second_of edge (nat_le (first + 1) b) h) in
        (parts.1, parts.2, omega arith)

    brought_from : (a b : ℕ) → IsTrue (is_combinational design a)
        → IsTrue (is_combinational design b) → IsTrue (is_read_for design b a) → first < b
        → IsTrue (brings a b)
    brought_from a b a_is b_is reads_it above =
        and_true (has_edge reads.readers a b) (nat_le (first + 1) b)
        (are.readers_are a b
        ∙ and_true (is_combinational design a && is_combinational design b)
        (is_read_for design b a)
        (and_true (is_combinational design a) (is_combinational design b) a_is b_is) reads_it)
        (le-leb (first + 1) b (omega arith))

    pub start_within : (k : ℕ) → Contains (first ∷ []) k → k < n
    start_within k at = subst (λ z. z < n) (the_only first k at) (inside first comb)

    abbrev reached : List ℕ
    reached = least_set n brings (first ∷ [])

    start_reached : Contains reached first
    start_reached = least_set_has n brings (first ∷ []) start_within first (Contains-head first [])

    -- a circle's signals are reached, from the last one on
    chain_reached : (signals : List ℕ) (a : ℕ) → IsTrue (is_combinational design a) → first < a
        → IsTrue (list_all (is_combinational design) signals)
        → IsTrue (list_all (nat_lt first) signals)
        → IsTrue (reads_along design a signals first) → Contains reached a
    chain_reached [] a a_is above rest_are rest_above reads_it =
        least_set_closed n brings (first ∷ []) start_within first a start_reached
        (brought_from first a comb a_is reads_it above) (inside a a_is)
    chain_reached (b ∷ signals) a a_is above rest_are rest_above reads_it =
        let b_is = first_of (is_combinational design b)
        (list_all (is_combinational design) signals) rest_are in
        let b_above = ltb-true first b
        (first_of (nat_lt first b) (list_all (nat_lt first) signals) rest_above) in
        least_set_closed n brings (first ∷ []) start_within b a
        (chain_reached signals b b_is b_above
        (second_of (is_combinational design b) (list_all (is_combinational design) signals)
        rest_are)
        (second_of (nat_lt first b) (list_all (nat_lt first) signals) rest_above)
        (second_of (is_read_for design a b) (reads_along design b signals first) reads_it))
        (brought_from b a b_is a_is
        (first_of (is_read_for design a b) (reads_along design b signals first) reads_it) above)
        (inside a a_is)

    -- the first of a circle reads a signal that is reached
    circle_reached : (signals : List ℕ) → IsTrue (is_circle design (first ∷ signals))
        → (t : ℕ) × IsTrue (is_read_for design first t) × Contains reached t
    circle_reached signals circle =
        let parts = circle_parts design first signals circle in
        by signals parts.0 parts.1 parts.2
      where
        by : (signals : List ℕ) → IsTrue (reads_along design first signals first)
            → IsTrue (list_all (is_combinational design) (first ∷ signals))
            → IsTrue (list_all (nat_lt first) signals)
            → (t : ℕ) × IsTrue (is_read_for design first t) × Contains reached t
        by [] reads_it all_are all_above = (first, reads_it, start_reached)
        by (b ∷ signals) reads_it all_are all_above =
            let rest_are = second_of (is_combinational design first)
            (list_all (is_combinational design) (b ∷ signals)) all_are in (
              b,
              first_of (is_read_for design first b) (reads_along design b signals first) reads_it,
              chain_reached signals b
                  (first_of (is_combinational design b)
                  (list_all (is_combinational design) signals) rest_are)
                  (ltb-true first b
                  (first_of (nat_lt first b) (list_all (nat_lt first) signals) all_above))
                  (second_of (is_combinational design b)
                  (list_all (is_combinational design) signals) rest_are)
                  (second_of (nat_lt first b) (list_all (nat_lt first) signals) all_above)
                  (second_of (is_read_for design first b) (reads_along design b signals first)
                  reads_it),
            )

    module _ (search : Search) (searched : IsSearch n brings (first ∷ []) search) where
      abbrev found : List ℕ
      found = found_by search

      abbrev led : List ℕ
      led = led_by search

      start_found : IsTrue (is_found search first)
      start_found =
          searched.has first (inside first comb) ∙ holds-from_Contains reached first start_reached

      pub some_found : 0 < length found
      some_found =
          let some = at_some (place_of search first) start_found in
          let lt = (searched.ended.known first some.0 some.1).0 in
          omega arith

      found_first : get_or found 0 0 ≡ first
      found_first = ⊎_elim
          (λ start. sym (the_only first (get_or found 0 0) start))
          (λ step. absurd (let lt = step.0 in omega arith))
          (searched.ended.led_on 0 some_found)

      led_from : (i : ℕ) → 0 < i → i < length found
          → (get_or led i 0 < i)
          × IsTrue (brings (get_or found (get_or led i 0) 0) (get_or found i 0))
      led_from i later lt = ⊎_elim
          (λ start.
          let same : Some 0 ≡ Some i =
          sym (searched.ended.numbered 0 some_found)
          ∙ ap (place_of search) (found_first ∙ the_only first (get_or found i 0) start)
          ∙ searched.ended.numbered i lt in
          let is = same_some 0 i same in
          absurd (omega arith))
          (λ step. step)
          (searched.ended.led_on i lt)

      pub leads_down : LeadsDown search
      leads_down i later lt = (led_from i later lt).0

      -- the signals of a way back stand at places up to the first
      way_has : (way : List ℕ) (p : ℕ) → p < length found → IsWayBack search p way → (t : ℕ)
          → Contains way t → (i : ℕ) × (0 < i) × (i ≤ p) × (get_or found i 0 ≡ t)
      way_has [] p lt back t at = absurd (Contains-nil t at)
      way_has (s ∷ way) p lt back t at =
          let down = (led_from p back.0 lt).0 in ⊎_elim
          (λ e. (p, back.0, (omega arith), back.1 ∙ e))
          (λ later.
          let rest = way_has way (get_or led p 0) (omega arith) back.2 t later in
          let le = rest.2 in
          (rest.0, rest.1, (omega arith), rest.3))
          (Contains-cases s way t at)

      way_along : (way : List ℕ) (p a : ℕ) → p < length found → IsWayBack search p way
          → IsTrue (is_read_for design a (get_or found p 0))
          → IsTrue (reads_along design a way first)
      way_along [] p a lt back reads_it =
          subst (λ z. IsTrue (is_read_for design a z))
          (ap (λ i. get_or found i 0) back ∙ found_first) reads_it
      way_along (s ∷ way) p a lt back reads_it =
          let step = led_from p back.0 lt in
          let down = step.0 in
          let parts = brought_parts (get_or found (get_or led p 0) 0) (get_or found p 0) step.1 in
          and_true (is_read_for design a s) (reads_along design s way first)
          (subst (λ z. IsTrue (is_read_for design a z)) back.1 reads_it)
          (way_along way (get_or led p 0) s (omega arith) back.2
          (subst (λ z. IsTrue (is_read_for design z (get_or found (get_or led p 0) 0))) back.1
          parts.1))

      -- what holds of each signal that one brings holds of those of a way back
      way_all : (test : ℕ → Bool) → ((a b : ℕ) → IsTrue (brings a b) → IsTrue (test b))
          → (way : List ℕ) (p : ℕ) → p < length found → IsWayBack search p way
          → IsTrue (list_all test way)
      way_all test each [] p lt back = refl
      way_all test each (s ∷ way) p lt back =
          let step = led_from p back.0 lt in
          let down = step.0 in
          and_true (test s) (list_all test way)
          (subst (λ z. IsTrue (test z)) back.1
          (each (get_or found (get_or led p 0) 0) (get_or found p 0) step.1))
          (way_all test each way (get_or led p 0) (omega arith) back.2)

      way_differs : (way : List ℕ) (p : ℕ) → p < length found → IsWayBack search p way
          → IsTrue (all_differ way)
      way_differs [] p lt back = refl
      way_differs (s ∷ way) p lt back =
          let down = (led_from p back.0 lt).0 in
          and_true (not (holds way s)) (all_differ way)
          (lacks way s (λ at.
          let again = way_has way (get_or led p 0) (omega arith) back.2 s at in
          let le = again.2 in
          let same : Some again.0 ≡ Some p =
          sym (searched.ended.numbered again.0 (omega arith))
          ∙ ap (place_of search) (again.3 ∙ sym back.1)
          ∙ searched.ended.numbered p lt in
          let is = same_some again.0 p same in
          omega arith))
          (way_differs way (get_or led p 0) (omega arith) back.2)

      -- from a signal that the first reads, the way back closes a circle
      pub way_is_circle : (way : List ℕ) (p : ℕ) → p < length found → IsWayBack search p way
          → IsTrue (is_read_for design first (get_or found p 0))
          → IsTrue (is_circle design (first ∷ way))
      way_is_circle way p lt back reads_it =
          let along = reads_along design first way first in
          let all = list_all (is_combinational design) (first ∷ way) in
          let above = list_all (nat_lt first) way in
          and_true (along && all && above) (all_differ way)
          (and_true (along && all) above
          (and_true along all (way_along way p first lt back reads_it)
          (and_true (is_combinational design first) (list_all (is_combinational design) way) comb
          (way_all (is_combinational design) (λ a b h. (brought_parts a b h).0) way p lt back)))
          (way_all (nat_lt first) (λ a b h. lt-ltb first b (brought_parts a b h).2) way p lt back))
          (way_differs way p lt back)

      -- where none of its reads was found, no circle begins at the first
      pub no_circle_from :
          ((t : ℕ) → Contains (reads_for design first) t → IsFalse (is_found search t))
          → (signals : List ℕ) → IsTrue (is_circle design (first ∷ signals)) → ⊥
      no_circle_from none signals circle =
          let step = circle_reached signals circle in
          let t = step.0 in
          let below = least_set_below n brings (first ∷ []) start_within t step.2 in
          let found_it = searched.has t below ∙ holds-from_Contains reached t step.2 in
          false≢true (sym (none t (in_those (length design.signals) (is_read_for design first) t
          (subst (λ m. t < m) are.readers_size below) step.1)) ∙ found_it)
