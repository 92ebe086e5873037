-- Which signals lead up to which inputs of the top module.
use Rattle.std.proofs.Common.{◌≡◌, ℕ, ◌<◌, ◌≤◌, Bool, true, false, not, ◌&&◌, ◌||◌, ◌==◌, nat_lt}
use Rattle.std.proofs.Common.{List, [], ◌∷◌, length, ⊎_elim, refl, sym, ap, subst, ◌∙◌}
use Rattle.std.proofs.Common.{arith, ltb-true, ltb-false, lt-ltb, Option, Some, None}
use Rattle.std.specs.Prelude.{IsTrue, IsFalse, Contains, filter}
use Rattle.std.specs.List.{list_all, range_with_len}
use Rattle.std.proofs.lemmas.Bool.{false≢true, eqb-true, eq-eqb}
use Rattle.sv_system.proofs.Lists.{Contains-head, Contains-later, Contains-nil, Contains-cases}
use Rattle.sv_flat.specs.Clocks.{links_in, lists_pair, is_edge, makes_clock, clocks, is_clock}
use Rattle.sv_flat.specs.Clocks.{origins, tops_of, agrees_with_earlier}
use Rattle.sv_flat.specs.Design.{FlatDesign}
use Rattle.sv_flat.specs.Processes.{is_top_input, signals_that}
use Rattle.sv_flat.specs.Sets.{holds, those, least_set}
use Rattle.sv_flat.proofs.AdmittedFacts.{and_true, negated_true}
use Rattle.sv_flat.proofs.Depths.{first_of, second_of, from_all}
use Rattle.sv_flat.proofs.LeastSets.{either_way, or_cases, some_from, from_some, in_those}
use Rattle.sv_flat.proofs.LeastSets.{those_below, those_pass, Contains-from_filter}
use Rattle.sv_flat.proofs.LeastSets.{holds-from_Contains, Contains-from_holds, range_has}
use Rattle.sv_flat.proofs.LeastSets.{least_set_has, least_set_closed, least_set_below}
use Rattle.sv_flat.proofs.LeastSets.{least_set_least}
use Rattle.sv_system.proofs.Lists.{Contains-filter}
use Rattle.sv_rules.specs.Tops.{leads_to, is_led, is_other_top, IsFirstLed, IsLeadingTop}
use Rattle.sv_rules.specs.Tops.{some_before}
use Rattle.sv_graph.proofs.BitFacts.{same_answer}

-- ---- lists

-- a list whose members pass passes as a whole
pub all_from : {X : Type 0} (test : X → Bool) (xs : List X)
    → ((x : X) → Contains xs x → IsTrue (test x)) → IsTrue (list_all test xs)
all_from test [] each = refl
all_from test (x ∷ xs) each =
    and_true (test x) (list_all test xs) (each x (Contains-head x xs))
    (all_from test xs (λ y at. each y (Contains-later x xs y at)))

pub in_range : (n k : ℕ) → Contains (range_with_len 0 n) k → k < n
in_range n k at =
    those_below n (λ m. true) k (Contains-filter (λ m. true) (range_with_len 0 n) k at refl)

-- the one member
one_of : (P : ℕ → Type 0) (s k : ℕ) → P s → Contains (s ∷ []) k → P k
one_of P s k p at = ⊎_elim
    (λ e. subst P e p)
    (λ later. absurd (Contains-nil k later))
    (Contains-cases s [] k at)

-- ---- links

module _ (design : FlatDesign) where
  abbrev n : ℕ
  n = length design.signals

  abbrev up : ℕ → ℕ → Bool
  up = lists_pair (links_in design)

  alone_below : (s : ℕ) → s < n → (k : ℕ) → Contains (s ∷ []) k → k < n
  alone_below s below k at = one_of (λ z. z < n) s k below at

  pub origin_below : (s k : ℕ) → s < n → Contains (origins design s) k → k < n
  origin_below s k below at = least_set_below n up (s ∷ []) (alone_below s below) k at

  itself : (s : ℕ) → s < n → Contains (origins design s) s
  itself s below = least_set_has n up (s ∷ []) (alone_below s below) s (Contains-head s [])

  -- one link more
  linked_on : (s a b : ℕ) → s < n → Contains (origins design s) a → IsTrue (up a b) → b < n →
      Contains (origins design s) b
  linked_on s a b below at h b_below =
      least_set_closed n up (s ∷ []) (alone_below s below) a b at h b_below

  -- the origins of an origin
  further : (s m t : ℕ) → s < n → Contains (origins design s) m → Contains (origins design m) t →
      Contains (origins design s) t
  further s m t below at more =
      least_set_least n up (m ∷ []) (alone_below m (origin_below s m below at))
      (λ z. Contains (origins design s) z)
      (λ k one. one_of (λ z. Contains (origins design s) z) m k at one)
      (λ a b here h b_below. linked_on s a b below here h b_below) t more

  -- ---- links followed downwards

  module _ (down : ℕ → ℕ → Bool) (turned : (a b : ℕ) → b < n → down a b ≡ up b a) (tops : List ℕ)
      (within : (k : ℕ) → Contains tops k → k < n) where
    abbrev led : List ℕ
    led = least_set n down tops

    abbrev Leads : ℕ → Type 0
    Leads s = (s < n) × ((t : ℕ) × Contains tops t × Contains (origins design s) t)

    leads : (s : ℕ) → Contains led s → Leads s
    leads = least_set_least n down tops within Leads
        (λ k at. (within k at, (k, at, itself k (within k at))))
        (λ m k before h k_below.
        let t = before.1.0 in (
          k_below,
          (
            t,
            before.1.1,
            further k m t k_below
                (linked_on k k m k_below (itself k k_below) (sym (turned m k k_below) ∙ h)
                before.0)
                before.1.2,
          ),
        ))

    is_led_by : (s t : ℕ) → s < n → Contains tops t → Contains (origins design s) t →
        Contains led s
    is_led_by s t below top at =
        (least_set_least n up (s ∷ []) (alone_below s below)
        (λ z. (z < n) × (Contains led z → Contains led s))
        (λ k one. one_of (λ z. (z < n) × (Contains led z → Contains led s)) s k
        (below, λ found. found) one)
        (λ m k before h k_below. (
          k_below,
          λ found. before.1
              (least_set_closed n down tops within k m found (turned k m before.0 ∙ h) before.0),
        )) t at).1
        (least_set_has n down tops within t top)

  -- a signal is found from some tops downwards just where it leads up to one of them
  pub led_is : (down : ℕ → ℕ → Bool) (test : ℕ → Bool) (tops : List ℕ)
      → ((a b : ℕ) → b < n → down a b ≡ up b a) → tops ≡ those n test
      → (s : ℕ) → s < n → holds (least_set n down tops) s ≡ leads_to design test s
  led_is down test tops turned are s below =
      let within : (k : ℕ) → Contains tops k → k < n =
      λ k at. those_below n test k (subst (λ ks. Contains ks k) are at) in
      same_answer (holds (least_set n down tops) s) (leads_to design test s)
      (λ h.
      let found = leads down turned tops within s
      (Contains-from_holds (least_set n down tops) s h) in
      let t = found.1.0 in
      some_from test (origins design s) t found.1.2
      (those_pass n test t (subst (λ ks. Contains ks t) are found.1.1)))
      (λ h.
      let found = from_some test (origins design s) h in
      let t = found.0 in
      holds-from_Contains (least_set n down tops) s
      (is_led_by down turned tops within s t below
      (subst (λ ks. Contains ks t) (sym are)
      (in_those n test t (origin_below s t below found.1) found.2)) found.1))

  -- ---- clocks

  pub clock_below : (s : ℕ) → IsTrue (is_clock design s) → s < n
  clock_below s h =
      least_set_below n (makes_clock design) (signals_that design (is_edge design))
      (λ k at. those_below n (is_edge design) k at) s
      (Contains-from_holds (clocks design) s h)

  -- what agreeing says of each two inputs
  abbrev Agrees : ℕ → Type 0
  Agrees s = (top earlier other : ℕ) → Contains (tops_of design s) top
      → IsTrue (is_clock design earlier) → earlier < s → Contains (tops_of design earlier) other
      → IsTrue (other == top)

  to_agree : (s : ℕ) → IsTrue (agrees_with_earlier design s) → Agrees s
  to_agree s h top earlier other at clock before its =
      from_all (λ o. o == top) (tops_of design earlier) other
      (from_all (λ e. list_all (λ o. o == top) (tops_of design e))
      (filter (λ c. nat_lt c s) (clocks design)) earlier
      (from_all (λ t. list_all (λ e. list_all (λ o. o == t) (tops_of design e))
      (filter (λ c. nat_lt c s) (clocks design))) (tops_of design s) top h at)
      (Contains-filter (λ c. nat_lt c s) (clocks design) earlier
      (Contains-from_holds (clocks design) earlier clock) (lt-ltb earlier s before)))
      its

  from_agree : (s : ℕ) → Agrees s → IsTrue (agrees_with_earlier design s)
  from_agree s agree =
      all_from (λ t. list_all (λ e. list_all (λ o. o == t) (tops_of design e))
      (filter (λ c. nat_lt c s) (clocks design))) (tops_of design s)
      (λ top at. all_from (λ e. list_all (λ o. o == top) (tops_of design e))
      (filter (λ c. nat_lt c s) (clocks design))
      (λ earlier inside.
      let found = Contains-from_filter (λ c. nat_lt c s) (clocks design) earlier inside in
      all_from (λ o. o == top) (tops_of design earlier)
      (λ other its. agree top earlier other at
      (holds-from_Contains (clocks design) earlier found.1) (ltb-true earlier s found.0) its)))

  top_in : (s t : ℕ) → Contains (origins design s) t → IsTrue (is_top_input design t) →
      Contains (tops_of design s) t
  top_in s t at is = Contains-filter (is_top_input design) (origins design s) t at is

  -- a top that a signal leads up to, where it leads up to one that passes
  top_of : (test : ℕ → Bool) (s : ℕ) → ((t : ℕ) → IsTrue (test t) → IsTrue (is_top_input design t))
      → IsTrue (leads_to design test s) → (t : ℕ) × Contains (tops_of design s) t × IsTrue (test t)
  top_of test s tops h =
      let found = from_some test (origins design s) h in
      (found.0, top_in s found.0 found.1 (tops found.0 found.2), found.2)

  leads_of : (test : ℕ → Bool) (s t : ℕ) → Contains (tops_of design s) t → IsTrue (test t) →
      IsTrue (leads_to design test s)
  leads_of test s t at passes =
      some_from test (origins design s) t
      (Contains-from_filter (is_top_input design) (origins design s) t at).1 passes

  is_top : (s t : ℕ) → Contains (tops_of design s) t → IsTrue (is_top_input design t)
  is_top s t at = (Contains-from_filter (is_top_input design) (origins design s) t at).0

  -- an earlier clock with what it passes
  earlier_of : (test : ℕ → Bool) (s : ℕ)
      → IsTrue (some_before (λ c. is_clock design c && test c) s)
      → (e : ℕ) × (e < s) × IsTrue (is_clock design e) × IsTrue (test e)
  earlier_of test s h =
      let found = from_some (λ c. is_clock design c && test c) (range_with_len 0 s) h in
      let e = found.0 in (
        e,
        in_range s e found.1,
        first_of (is_clock design e) (test e) found.2,
        second_of (is_clock design e) (test e) found.2,
      )

  some_earlier : (test : ℕ → Bool) (s e : ℕ) → e < s → IsTrue (is_clock design e)
      → IsTrue (test e) → IsTrue (some_before (λ c. is_clock design c && test c) s)
  some_earlier test s e before clock passes =
      some_from (λ c. is_clock design c && test c) (range_with_len 0 s) e (range_has s e before)
      (and_true (is_clock design e) (test e) clock passes)

  module _ (left_out : Option ℕ) where
    abbrev astray : ℕ → Bool
    astray s = leads_to design (is_other_top design left_out) s

    -- a signal and a clock before it lead up to an input, and one of both leads astray
    abbrev parts : ℕ → Bool
    parts s = is_led design s && some_before (λ c. is_clock design c && is_led design c) s
        && (astray s || some_before (λ c. is_clock design c && astray c) s)

  one_apart : (x t : ℕ) → IsTrue (is_other_top design (Some x) t) → IsFalse (x == t)
  one_apart x t h = negated_true (x == t) (second_of (is_top_input design t) (not (x == t)) h)

  other_top : (x t : ℕ) → IsTrue (is_top_input design t) → IsFalse (x == t) →
      IsTrue (is_other_top design (Some x) t)
  other_top x t top apart =
      and_true (is_top_input design t) (not (x == t)) top (ap not apart)

  -- where no clock leads up to an input, none before a signal does
  no_earlier : (s : ℕ) → IsLeadingTop design None
      → IsTrue (some_before (λ c. is_clock design c && is_led design c) s) → ⊥
  no_earlier s none h =
      let e = earlier_of (is_led design) s h in
      false≢true (sym (none e.0 e.2) ∙ e.3)

  -- the first clock that leads up to an input is not after one that does
  not_after : (c e : ℕ) → IsFirstLed design c → IsTrue (is_clock design e)
      → IsTrue (is_led design e) → c ≤ e
  not_after c e first clock leads = ⊎_elim
      (λ l. absurd (false≢true (sym (first.before e (ltb-true e c l) clock) ∙ leads)))
      (λ m. ltb-false e c m)
      (either_way (nat_lt e c))

  module _ (x c : ℕ) (top : IsTrue (is_top_input design x)) (first : IsFirstLed design c)
      (at : Contains (origins design c) x) (s : ℕ) where
    abbrev Before : (ℕ → Bool) → Bool
    Before test = some_before (λ k. is_clock design k && test k) s

    -- a signal that leads up to no other input leads up to x alone
    alone : (z t : ℕ) → IsFalse (astray (Some x) z) → Contains (tops_of design z) t → t ≡ x
    alone z t straight its = ⊎_elim
        (λ e. sym (eqb-true x t e))
        (λ f. absurd (false≢true (sym straight
        ∙ leads_of (is_other_top design (Some x)) z t its (other_top x t (is_top z t its) f))))
        (either_way (x == t))

    both_straight : IsFalse (parts (Some x) s) → IsTrue (is_led design s)
        → IsTrue (Before (is_led design))
        → IsFalse (astray (Some x) s) × IsFalse (Before (astray (Some x)))
    both_straight h led earlier =
        split (astray (Some x) s) (Before (astray (Some x))) (is_led design s)
        (Before (is_led design)) h led earlier
      where
        split : (a b l e : Bool) → IsFalse (l && e && (a || b)) → IsTrue l → IsTrue e →
            IsFalse a × IsFalse b
        split false b true true h p q = (refl, h)
        split true b true true h p q = absurd (false≢true (sym h))
        split a b false e h p q = absurd (false≢true p)
        split a b true false h p q = absurd (false≢true q)

    straight_agrees : IsFalse (parts (Some x) s) → Agrees s
    straight_agrees h t e o its clock before others =
        let led = leads_of (is_top_input design) s t its (is_top s t its) in
        let e_led = leads_of (is_top_input design) e o others (is_top e o others) in
        let straight = both_straight h led (some_earlier (is_led design) s e before clock e_led) in
        let e_straight : IsFalse (astray (Some x) e) = ⊎_elim
        (λ a. absurd (false≢true (sym straight.1
        ∙ some_earlier (astray (Some x)) s e before clock a)))
        (λ f. f)
        (either_way (astray (Some x) e)) in
        eq-eqb o t (alone e o e_straight others ∙ sym (alone s t straight.0 its))

    -- two inputs of the top module
    abbrev is_other : ℕ → Bool
    is_other = is_other_top design (Some x)

    is_input_of : (t : ℕ) → IsTrue (is_other t) → IsTrue (is_top_input design t)
    is_input_of t h = first_of (is_top_input design t) (not (x == t)) h

    astray_breaks : Agrees s → IsTrue (is_led design s) → IsTrue (Before (is_led design))
        → IsTrue (astray (Some x) s || Before (astray (Some x))) → ⊥
    astray_breaks agree led earlier h =
        let e = earlier_of (is_led design) s earlier in
        let le = not_after c e.0 first e.2 e.3 in
        let e_before = e.1 in
        let c_before : c < s = omega arith in
        let c_top = top_in c x at top in
        ⊎_elim
        (λ own.
        let t = top_of is_other s is_input_of own in
        false≢true (sym (one_apart x t.0 t.2) ∙ agree t.0 c x t.1 first.among c_before c_top))
        (λ others.
        let o = earlier_of (astray (Some x)) s others in
        let u = top_of (is_top_input design) s (λ t is. is) led in
        let t = top_of is_other o.0 is_input_of o.3 in
        let x_is = eqb-true x u.0 (agree u.0 c x u.1 first.among c_before c_top) in
        let t_is = eqb-true t.0 u.0 (agree u.0 o.0 t.0 u.1 o.2 o.1 t.1) in
        false≢true (sym (one_apart x t.0 t.2) ∙ eq-eqb x t.0 (x_is ∙ sym t_is)))
        (or_cases (astray (Some x) s) (Before (astray (Some x))) h)

  some_top : (x s : ℕ) → IsLeadingTop design (Some x) →
      agrees_with_earlier design s ≡ not (parts (Some x) s)
  some_top x s (top, (c, first, at)) =
      same_answer (agrees_with_earlier design s) (not (parts (Some x) s))
      (λ h. ⊎_elim
      (λ bad.
      let led = is_led design s in
      let earlier = some_before (λ k. is_clock design k && is_led design k) s in
      let either = astray (Some x) s || some_before (λ k. is_clock design k && astray (Some x) k) s
      in
      absurd (astray_breaks x c top first at s (to_agree s h)
      (first_of led earlier (first_of (led && earlier) either bad))
      (second_of led earlier (first_of (led && earlier) either bad))
      (second_of (led && earlier) either bad)))
      (λ good. ap not good)
      (either_way (parts (Some x) s)))
      (λ h. from_agree s (straight_agrees x c top first at s (negated_true (parts (Some x) s) h)))

  no_top : (s : ℕ) → IsLeadingTop design None →
      agrees_with_earlier design s ≡ not (parts None s)
  no_top s none =
      same_answer (agrees_with_earlier design s) (not (parts None s))
      (λ h. ⊎_elim
      (λ bad.
      let led = is_led design s in
      let earlier = some_before (λ k. is_clock design k && is_led design k) s in
      let either = astray None s || some_before (λ k. is_clock design k && astray None k) s in
      absurd (no_earlier s none (second_of led earlier (first_of (led && earlier) either bad))))
      (λ good. ap not good)
      (either_way (parts None s)))
      (λ h. from_agree s (λ t e o its clock before others.
      absurd (no_earlier s none (some_earlier (is_led design) s e before clock
      (leads_of (is_top_input design) e o others (is_top e o others))))))

  -- which signals agree with the clocks before them
  pub agrees_is : (left_out : Option ℕ) (s : ℕ) → IsLeadingTop design left_out →
      agrees_with_earlier design s ≡ not (parts left_out s)
  agrees_is (Some x) s leading = some_top x s leading
  agrees_is None s leading = no_top s leading
