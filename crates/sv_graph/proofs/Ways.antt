-- Paths over edges, and an edge for each.
use Rattle.std.proofs.Common.{◌≡◌, ℕ, ◌+◌, ◌<◌, Bool, ◌&&◌, ◌||◌, [], ◌∷◌, ◌⊎◌, inl, inr, ⊎_elim}
use Rattle.std.proofs.Common.{sym, subst, ◌∙◌, arith}
use Rattle.std.proofs.Common.{◌==◌, nat_lt, lt-ltb}
use Rattle.std.specs.Prelude.{IsTrue, Contains}
use Rattle.std.specs.List.{list_any}
use Rattle.std.proofs.lemmas.Bool.{or_left, or_right, and_parts, and_from, eqb-true}
use Rattle.sv_system.proofs.Lists.{Contains-head}
use Rattle.sv_flat.specs.Sets.{those}
use Rattle.sv_flat.proofs.LeastSets.{or_cases, some_from, from_some, least_set_has}
use Rattle.sv_flat.proofs.LeastSets.{in_those, those_below, those_pass}
use Rattle.sv_flat.proofs.LeastSets.{least_set_closed, least_set_least}
use Rattle.sv_graph.specs.BitGraphs.{before, ClosesUpTo}
use Rattle.sv_graph.specs.BitGraphs.{leads_through}
use Rattle.sv_graph.proofs.BitFacts.{same_answer}
use Rattle.sv_graph.proofs.BitRows.{LedBySoFar}
use Rattle.sv_graph.proofs.FollowFacts.{only_one}
use Rattle.sv_graph.proofs.SearchFacts.{below_or_at}

-- ---- edges to `m` are led on

module _ (now ways next : ℕ → ℕ → Bool) (m : ℕ)
    (gains : (a b : ℕ) → next a b ≡ (now a b || (now a m && ways m b))) where
  abbrev Led : ℕ → ℕ → Type 0
  Led a b = IsTrue (now a b) ⊎ (IsTrue (now a m) × IsTrue (ways m b))

  led_from : (a b : ℕ) → IsTrue (next a b) → Led a b
  led_from a b h = ⊎_elim inl (λ g. inr (and_parts (now a m) (ways m b) g))
      (or_cases (now a b) (now a m && ways m b) (sym (gains a b) ∙ h))

  led_to : (a b : ℕ) → Led a b → IsTrue (next a b)
  led_to a b (inl h) = gains a b ∙ or_left (now a b) (now a m && ways m b) h
  led_to a b (inr (g, h)) =
      gains a b
      ∙ or_right (now a b) (now a m && ways m b) (and_from (now a m) (ways m b) g h)

  -- an edge to `m` stood already
  led_before : (a : ℕ) → IsTrue (next a m) → IsTrue (now a m)
  led_before a h = ⊎_elim (λ g. g) (λ g. g.0) (led_from a m h)

-- ---- ways over the edges of n signals

module _ (n : ℕ) (first : ℕ → ℕ → Bool) where
  abbrev back : ℕ → ℕ → Bool
  back m k = first k m

  begins : (b : ℕ) → b < n → (k : ℕ) → Contains (b ∷ []) k → k < n
  begins b below k at = subst (λ z. z < n) (only_one b k at) below

  itself : (b : ℕ) → b < n → Contains (before n first b) b
  itself b below = least_set_has n back (b ∷ []) (begins b below) b (Contains-head b [])

  -- what leads to what leads to a signal leads to it
  before_that : (m b : ℕ) → m < n → b < n → Contains (before n first b) m → (a : ℕ) →
      Contains (before n first m) a → Contains (before n first b) a
  before_that m b m_below below m_at a a_at =
      least_set_least n back (m ∷ []) (begins m m_below) (λ z. Contains (before n first b) z)
      (λ z one. subst (λ y. Contains (before n first b) y) (only_one m z one) m_at)
      (λ y z y_at leads z_below.
      least_set_closed n back (b ∷ []) (begins b below) y z y_at leads z_below)
      a a_at

  -- what leads through the edges to a signal leads to it
  led_through : (a b : ℕ) → a < n → b < n → IsTrue (leads_through n first first a b) →
      Contains (before n first b) a
  led_through a b a_below below h =
      let found = from_some (first a) (before n first b) h in
      least_set_closed n back (b ∷ []) (begins b below) found.0 a found.1 found.2 a_below

  pub ways_begin : ((a b : ℕ) → IsTrue (first a b) → a < n) → ClosesUpTo n first first 0
  ways_begin inside = record {
    keeps = λ a b h. h;
    leads = λ a b below h. some_from (first a) (before n first b) b (itself b below) h;
    joins = λ a m b none g h. absurd (omega arith);
  }

  module _ (now next : ℕ → ℕ → Bool) (m : ℕ) (m_below : m < n)
      (gains : (a b : ℕ) → next a b ≡ (now a b || (now a m && now m b)))
      (so_far : ClosesUpTo n first now m) where
    from_middle : (b : ℕ) → IsTrue (next m b) → IsTrue (now m b)
    from_middle b h = ⊎_elim (λ g. g) (λ g. g.1) (led_from now now next m gains m b h)

    joined : (a k b : ℕ) → k < m → Led now now next m gains a k → Led now now next m gains k b →
        Led now now next m gains a b
    joined a k b below (inl f) (inl g) = inl (so_far.joins a k b below f g)
    joined a k b below (inl f) (inr (g, h)) = inr (so_far.joins a k m below f g, h)
    joined a k b below (inr (f, g)) (inl h) = inr (f, so_far.joins m k b below g h)
    joined a k b below (inr (f, g)) (inr (h, i)) = inr (f, i)

    pub ways_more : ClosesUpTo n first next (m + 1)
    ways_more = record {
      keeps = λ a b h. led_to now now next m gains a b (inl (so_far.keeps a b h));
      leads = λ a b below h. ⊎_elim
          (λ g. so_far.leads a b below g)
          (λ g.
          let found = from_some (first a) (before n first m) (so_far.leads a m m_below g.0) in
          let leads = led_through m b m_below below (so_far.leads m b below g.1) in
          some_from (first a) (before n first b) found.0
          (before_that m b m_below below leads found.0 found.1) found.2)
          (led_from now now next m gains a b h);
      joins = λ a k b inside f g. ⊎_elim
          (λ below. led_to now now next m gains a b (joined a k b below
          (led_from now now next m gains a k f) (led_from now now next m gains k b g)))
          (λ same. led_to now now next m gains a b (inr (
            led_before now now next m gains a
                (subst (λ z. IsTrue (next a z)) (sym same) f),
            from_middle b (subst (λ z. IsTrue (next z b)) (sym same) g),
          )))
          (below_or_at k m inside);
    }

  -- a signal leads to what its first edges lead to
  pub ways_led : (now next : ℕ → ℕ → Bool) (m : ℕ) (led : ℕ → Bool)
      → ((a b : ℕ) → IsTrue (first a b) → a < n)
      → ((a b : ℕ) → next a b ≡ (now a b || ((m == a) && led b)))
      → ((b : ℕ) → IsTrue (led b) → (k : ℕ) × IsTrue (first m k) × IsTrue (now k b))
      → ClosesUpTo n first now 0 → ClosesUpTo n first next 0
  ways_led now next m led inside gains found so_far = record {
    keeps = λ a b h. gains a b ∙ or_left (now a b) ((m == a) && led b) (so_far.keeps a b h);
    leads = λ a b below h. ⊎_elim
        (λ g. so_far.leads a b below g)
        (λ g.
        let both = and_parts (m == a) (led b) g in
        let way = found b both.1 in
        let on = so_far.leads way.0 b below way.2 in
        let next_on = from_some (first way.0) (before n first b) on in
        subst (λ z. IsTrue (leads_through n first first z b)) (eqb-true m a both.0)
        (some_from (first m) (before n first b) way.0
        (led_through way.0 b (inside way.0 next_on.0 next_on.2) below on) way.1))
        (or_cases (now a b) ((m == a) && led b) (sym (gains a b) ∙ h));
    joins = λ a k b none g h. absurd (omega arith);
  }

  -- where each signal leads to all that its first edges lead to, all ways have edges
  pub ways_closed : (now : ℕ → ℕ → Bool) → ((a b : ℕ) → IsTrue (first a b) → a < n)
      → ((a m b : ℕ) → IsTrue (first a m) → IsTrue (now m b) → IsTrue (now a b))
      → ClosesUpTo n first now 0 → ClosesUpTo n first now n
  ways_closed now inside closed so_far = record {
    keeps = so_far.keeps;
    leads = so_far.leads;
    joins = λ a m b below g h.
        least_set_least n back (m ∷ []) (begins m below) (λ z. IsTrue (now z b))
        (λ z one. subst (λ y. IsTrue (now y b)) (only_one m z one) h)
        (λ y z goes leads z_below. closed z y b leads goes)
        a (let found = from_some (first a) (before n first m) (so_far.leads a m below g) in
        led_through a m (inside a found.0 found.2) below (so_far.leads a m below g));
  }

-- ---- what is led on by these ways

module _ (n : ℕ) (settled edges ways : ℕ → ℕ → Bool) (closed : ClosesUpTo n edges ways n) where
  -- what leads to a signal has a way to it, or is the signal
  way_to : (b : ℕ) → b < n → (w : ℕ) → Contains (before n edges b) w
      → (w < n) × ((b ≡ w) ⊎ IsTrue (ways w b))
  way_to b below w w_at =
      least_set_least n (back n edges) (b ∷ []) (begins n edges b below)
      (λ z. (z < n) × ((b ≡ z) ⊎ IsTrue (ways z b)))
      (λ z one. (begins n edges b below z one, inl (only_one b z one)))
      (λ y z found leads z_below. (
        z_below,
        inr (⊎_elim
            (λ same. subst (λ x. IsTrue (ways z x)) (sym same) (closed.keeps z y leads))
            (λ way. closed.joins z y b found.0 (closed.keeps z y leads) way)
            found.1),
      ))
      w w_at

  -- what is led on once by the ways is led on to the end
  pub follow_ends : (now : ℕ → ℕ → Bool) → ((a b : ℕ) → IsTrue (settled a b) → a < n)
      → LedBySoFar settled now (λ a b. list_any (λ m. ways m b) (those n (settled a))) n
      → (a b : ℕ) → b < n → now a b ≡ leads_through n settled edges a b
  follow_ends now inside led a b below =
      let leads_on = list_any (λ m. ways m b) (those n (settled a)) in
      same_answer (now a b) (leads_through n settled edges a b)
      (λ h. ⊎_elim
      (λ g. some_from (settled a) (before n edges b) b (itself n edges b below) g)
      (λ g.
      let found = from_some (λ m. ways m b) (those n (settled a))
      (and_parts (nat_lt a n) leads_on g).1 in
      some_from (settled a) (before n edges b) found.0
      (led_through n edges found.0 b (those_below n (settled a) found.0 found.1) below
      (closed.leads found.0 b below found.2)) (those_pass n (settled a) found.0 found.1))
      (or_cases (settled a b) (nat_lt a n && leads_on) (sym (led a b) ∙ h)))
      (λ h.
      let found = from_some (settled a) (before n edges b) h in
      let w = found.0 in
      let way = way_to b below w found.1 in
      led a b ∙ ⊎_elim
      (λ same. or_left (settled a b) (nat_lt a n && leads_on)
      (subst (λ z. IsTrue (settled a z)) (sym same) found.2))
      (λ goes. or_right (settled a b) (nat_lt a n && leads_on)
      (and_from (nat_lt a n) leads_on (lt-ltb a n (inside a w found.2))
      (some_from (λ m. ways m b) (those n (settled a)) w
      (in_those n (settled a) w way.0 found.2) goes)))
      way.1)
