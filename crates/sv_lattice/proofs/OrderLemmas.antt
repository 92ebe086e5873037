-- From a table to the flows that the pairs declare, and the least point.
use Rattle.std.proofs.Common.{◌≡◌, ℕ, zero, suc, ◌+◌, ◌<◌, ◌≤◌, ◌⊎◌, inl, inr, true, false, List}
use Rattle.std.proofs.Common.{length, sym, ◌∙◌, subst, arith}
use Rattle.std.proofs.lemmas.Bool.{cases_eq}
use Rattle.sv_lattice.specs.declared.points.LatticeFault.{LatticeFault}
use Rattle.sv_lattice.specs.declared.points.LatticeFault.TheVariants.{Size, Unknown, Circle, NoJoin}
use Rattle.sv_lattice.specs.declared.points.LatticeFault.TheVariants.{NoMeet, OutOfMemory}
use Rattle.sv_lattice.specs.Flows.{Flows, IsApart, HasJoin, HasMeet, IsMeet, IsLattice, EachPair}
use Rattle.sv_lattice.specs.Flows.{IsDeclared, IsFaultOf}
use Rattle.sv_lattice.specs.Tables.{flow_test, FlowsTo, IsPreorder, IsTableOf, IsOrderFault}
use Rattle.sv_lattice.proofs.FlowLemmas.{flows_self, flows_on}
use Rattle.sv_lattice.proofs.BoundLemmas.{SameBelow, turned_round, apart_along, join_along}
use Rattle.sv_lattice.proofs.BoundLemmas.{meet_along, turned_join, turned_meet, first_along}
use Rattle.sv_lattice.proofs.BoundLemmas.{each_along}

-- ---- the table the other way round

abbrev pub IsTurned : ℕ → List ℕ → List ℕ → Type 0
IsTurned n table turned = EachPair n (λ a b. flow_test turned a b ≡ flow_test table b a)

module _ (n : ℕ) (table turned : List ℕ) (is_turned : IsTurned n table turned) where
  same_turned : SameBelow n (FlowsTo turned) (λ x y. FlowsTo table y x)
  same_turned a b p q = (λ h. sym (is_turned a b p q) ∙ h, λ h. is_turned a b p q ∙ h)

  pub turned_preorder : IsPreorder n (FlowsTo table) → IsPreorder n (FlowsTo turned)
  turned_preorder order = record {
    reflexive = λ a p. (same_turned a a p p).1 (order.reflexive a p);
    transitive = λ a b c p q r f g.
        (same_turned a c p r).1
        (order.transitive c b a r q p ((same_turned b c q r).0 g) ((same_turned a b p q).0 f));
  }

  -- least upper points of the turned table are greatest lower points
  pub same_meets : SameBelow n (HasJoin n (FlowsTo turned)) (HasMeet n (FlowsTo table))
  same_meets a b p q = (
    λ join. turned_join n (FlowsTo table) a b (join_along n (FlowsTo turned) (λ x y.
        FlowsTo table y x) same_turned a b p q join),
    λ meet.
        join_along n (λ x y. FlowsTo table y x) (FlowsTo turned) (turned_round same_turned) a b p q
        (turned_meet n (FlowsTo table) a b meet),
  )

-- ---- what the pairs declare

module _ (n : ℕ) (R S : ℕ → ℕ → Type 0) (same : SameBelow n R S) where
  same_apart : SameBelow n (IsApart R) (IsApart S)
  same_apart a b p q =
      (apart_along n R S same a b p q, apart_along n S R (turned_round same) a b p q)

  same_joins : SameBelow n (HasJoin n R) (HasJoin n S)
  same_joins a b p q = (join_along n R S same a b p q, join_along n S R (turned_round same) a b p q)

  same_met : SameBelow n (HasMeet n R) (HasMeet n S)
  same_met a b p q = (meet_along n R S same a b p q, meet_along n S R (turned_round same) a b p q)

  pub lattice_along : IsLattice n R → IsLattice n S
  lattice_along lattice = record {
    apart = each_along n (IsApart R) (IsApart S) same_apart lattice.apart;
    joins = each_along n (HasJoin n R) (HasJoin n S) same_joins lattice.joins;
    meets = each_along n (HasMeet n R) (HasMeet n S) same_met lattice.meets;
  }

module _ (n : ℕ) (pairs : List (ℕ × ℕ)) (table : List ℕ) (of_pairs : IsTableOf n pairs table) where
  pub table_preorder : IsPreorder n (FlowsTo table)
  table_preorder = record {
    reflexive = λ a p. (of_pairs.exact a a p p).1 (flows_self pairs a);
    transitive =
        λ a b c p q r f g. (of_pairs.exact a c p r).1
        (flows_on pairs a b c ((of_pairs.exact a b p q).0 f) ((of_pairs.exact b c q r).0 g));
  }

  pub declared_lattice : IsLattice n (FlowsTo table) → IsLattice n (Flows pairs)
  declared_lattice = lattice_along n (FlowsTo table) (Flows pairs) of_pairs.exact

  pub fault_declared : IsDeclared n pairs → (fault : LatticeFault) →
      IsOrderFault n (FlowsTo table) fault → IsFaultOf n pairs fault
  fault_declared declared (Circle a b) f = (
    declared,
    first_along n (IsApart (FlowsTo table)) (IsApart (Flows pairs)) a b
        (same_apart n (FlowsTo table) (Flows pairs) of_pairs.exact) f,
  )
  fault_declared declared (NoJoin a b) f = (
    declared,
    each_along n (IsApart (FlowsTo table)) (IsApart (Flows pairs))
        (same_apart n (FlowsTo table) (Flows pairs) of_pairs.exact) f.0,
    first_along n (HasJoin n (FlowsTo table)) (HasJoin n (Flows pairs)) a b
        (same_joins n (FlowsTo table) (Flows pairs) of_pairs.exact) f.1,
  )
  fault_declared declared (NoMeet a b) f = (
    declared,
    each_along n (IsApart (FlowsTo table)) (IsApart (Flows pairs))
        (same_apart n (FlowsTo table) (Flows pairs) of_pairs.exact) f.0,
    each_along n (HasJoin n (FlowsTo table)) (HasJoin n (Flows pairs))
        (same_joins n (FlowsTo table) (Flows pairs) of_pairs.exact) f.1,
    first_along n (HasMeet n (FlowsTo table)) (HasMeet n (Flows pairs)) a b
        (same_met n (FlowsTo table) (Flows pairs) of_pairs.exact) f.2,
  )
  fault_declared declared Size f = absurd f
  fault_declared declared (Unknown i) f = absurd f
  fault_declared declared OutOfMemory f = absurd f

-- ---- the least point

-- c flows to each point below k
abbrev pub IsBelow : (ℕ → ℕ → Type 0) → ℕ → ℕ → Type 0
IsBelow R k c = (d : ℕ) → d < k → R c d

module _ (n : ℕ) (R : ℕ → ℕ → Type 0) (order : IsPreorder n R) (lattice : IsLattice n R) where
  below_step : (k : ℕ) → k < n → (low : ℕ) × (low < n) × IsBelow R k low →
      (low : ℕ) × (low < n) × IsBelow R (suc k) low
  below_step k p (low, q, below) =
      let (m, meet) = lattice.meets low k q p in
      (m, meet.is_point, λ d r. step m meet d r (cases_eq d k))
    where
      step : (m : ℕ) → IsMeet n R low k m → (d : ℕ) → d < suc k → (d ≡ k) ⊎ (d ≡ k → ⊥) → R m d
      step m meet d r (inl e) = subst (R m) (sym e) meet.below_second
      step m meet d r (inr ne) =
          order.transitive m low d meet.is_point q (omega arith) meet.below_first
          (below d (omega arith))

  below_first : (k : ℕ) → 0 < n → k ≤ n → (low : ℕ) × (low < n) × IsBelow R k low
  below_first zero p q = (0, p, λ d r. absurd (omega arith))
  below_first (suc k) p q = below_step k (omega arith) (below_first k p (omega arith))

  pub has_least : 0 < n → (low : ℕ) × (low < n) × IsBelow R n low
  has_least p = below_first n p (omega arith)

-- the last point that flowed to the one kept is the least point, if that was passed
abbrev pub KeepsLeast : List ℕ → ℕ → ℕ → Type 0
KeepsLeast table point kept =
    (low : ℕ) → low < point → low < length table → IsBelow (FlowsTo table) (length table) low →
    kept ≡ low

module _ (table : List ℕ) (point kept : ℕ) (lattice : IsLattice (length table) (FlowsTo table))
    (point_in : point < length table) (kept_in : kept < length table)
    (so_far : KeepsLeast table point kept) where
  pub least_moves : FlowsTo table point kept → KeepsLeast table (point + 1) point
  least_moves f low p q below = moved (cases_eq low point)
    where
      moved : (low ≡ point) ⊎ (low ≡ point → ⊥) → point ≡ low
      moved (inl e) = sym e
      moved (inr ne) =
          let at_low : kept ≡ low = so_far low (omega arith) q below in
          lattice.apart point low point_in q (subst (FlowsTo table point) at_low f)
          (below point point_in)

  pub least_stays : flow_test table point kept ≡ false → KeepsLeast table (point + 1) kept
  least_stays f low p q below = stays (cases_eq low point)
    where
      stays : (low ≡ point) ⊎ (low ≡ point → ⊥) → kept ≡ low
      stays (inl e) =
          let f' : flow_test table point kept ≡ true = subst (λ k.
          FlowsTo table k kept) e (below kept kept_in) in cc
      stays (inr ne) = so_far low (omega arith) q below
