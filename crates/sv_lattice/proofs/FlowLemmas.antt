-- How flows grow with the declared pairs.
use Rattle.std.proofs.Common.{◌≡◌, ℕ, ◌<◌, arith, ◌⊎◌, inl, inr, List, [], ◌∷◌, ◌++◌, refl, sym, ap}
use Rattle.std.proofs.Common.{subst}
use Rattle.std.specs.List.{Contains}
use Rattle.std.proofs.lemmas.List.Elements.{Contains-append_left, Contains-push}
use Rattle.std.proofs.lemmas.List.Elements.{Contains-push_cases}
use Rattle.sv_lattice.specs.Flows.{Leads, Flows}

-- one list of points after another
leads_on : (pairs : List (ℕ × ℕ)) (a b c : ℕ) (p q : List ℕ) → Leads pairs a p b →
    Leads pairs b q c → Leads pairs a (p ++ q) c
leads_on pairs a b c [] q e h = subst (λ x. Leads pairs x q c) (sym e) h
leads_on pairs a b c (d ∷ p) q s h = (s.0, leads_on pairs d b c p q s.1 h)

pub flows_self : (pairs : List (ℕ × ℕ)) (a : ℕ) → Flows pairs a a
flows_self pairs a = ([], refl)

pub flows_on : (pairs : List (ℕ × ℕ)) (a b c : ℕ) → Flows pairs a b → Flows pairs b c →
    Flows pairs a c
flows_on pairs a b c f g = (f.0 ++ g.0, leads_on pairs a b c f.0 g.0 f.1 g.1)

leads_alone : (a b : ℕ) (p : List ℕ) → Leads [] a p b → a ≡ b
leads_alone a b [] e = e
leads_alone a b (c ∷ p) s = let none : s.0.0 < 0 = s.0.1 in absurd (omega arith)

-- with no pair a point flows to itself alone
pub flows_alone : (a b : ℕ) → Flows [] a b → a ≡ b
flows_alone a b f = leads_alone a b f.0 f.1

leads_more : (pairs new : List (ℕ × ℕ)) (a b : ℕ) (p : List ℕ) → Leads pairs a p b →
    Leads (pairs ++ new) a p b
leads_more pairs new a b [] e = e
leads_more pairs new a b (c ∷ p) s =
    (Contains-append_left pairs new (a, c) s.0, leads_more pairs new c b p s.1)

pub flows_more : (pairs new : List (ℕ × ℕ)) (a b : ℕ) → Flows pairs a b → Flows (pairs ++ new) a b
flows_more pairs new a b f = (f.0, leads_more pairs new a b f.0 f.1)

-- a flow over one pair more is a flow as before, or leads to that pair's first point and on from
-- its second
abbrev pub FlowsOver : List (ℕ × ℕ) → ℕ → ℕ → ℕ → ℕ → Type 0
FlowsOver pairs x y a b = Flows pairs a b ⊎ (Flows pairs a x × Flows pairs y b)

over_step : (pairs : List (ℕ × ℕ)) (x y a c b : ℕ) →
    Contains pairs (a, c) ⊎ (◌≡◌ {A = ℕ × ℕ} (x, y) (a, c)) → FlowsOver pairs x y c b →
    FlowsOver pairs x y a b
over_step pairs x y a c b (inl s) (inl f) = inl (c ∷ f.0, (s, f.1))
over_step pairs x y a c b (inl s) (inr f) = inr ((c ∷ f.0.0, (s, f.0.1)), f.1)
over_step pairs x y a c b (inr e) (inl f) =
    inr (
      ([], sym (ap (λ (p : ℕ × ℕ). p.0) e)),
      subst (λ d.
          Flows pairs d b) (sym (ap (λ (p : ℕ × ℕ). p.1) e)) f,
    )
over_step pairs x y a c b (inr e) (inr f) = inr (([], sym (ap (λ (p : ℕ × ℕ). p.0) e)), f.1)

leads_over : (pairs : List (ℕ × ℕ)) (x y a b : ℕ) (p : List ℕ) →
    Leads (pairs ++ (x, y) ∷ []) a p b → FlowsOver pairs x y a b
leads_over pairs x y a b [] e = inl ([], e)
leads_over pairs x y a b (c ∷ p) s =
    over_step pairs x y a c b (Contains-push_cases pairs (x, y) (a, c) s.0)
    (leads_over pairs x y c b p s.1)

pub flows_over : (pairs : List (ℕ × ℕ)) (x y a b : ℕ) → Flows (pairs ++ (x, y) ∷ []) a b →
    FlowsOver pairs x y a b
flows_over pairs x y a b f = leads_over pairs x y a b f.0 f.1

pub flows_back : (pairs : List (ℕ × ℕ)) (x y a b : ℕ) → FlowsOver pairs x y a b →
    Flows (pairs ++ (x, y) ∷ []) a b
flows_back pairs x y a b (inl f) = flows_more pairs ((x, y) ∷ []) a b f
flows_back pairs x y a b (inr f) =
    let all : List (ℕ × ℕ) = pairs ++ (x, y) ∷ [] in
    let link : Flows all x y = (y ∷ [], (Contains-push pairs (x, y), refl)) in
    flows_on all a x b (flows_more pairs ((x, y) ∷ []) a x f.0)
    (flows_on all x y b link (flows_more pairs ((x, y) ∷ []) y b f.1))
