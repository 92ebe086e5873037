-- Which point flows to which, and what makes points a lattice. Labels as points of a lattice,
-- ordered by where information may flow, are those of SecVerilog (ASPLOS 2015).
use Rattle.std.specs.Prelude.{◌≡◌, ℕ, ◌<◌, ◌≤◌, ◌⊎◌, List, [], ◌∷◌, length, take}
use Rattle.std.specs.List.{All, Contains, HoldsAt}
use Rattle.sv_lattice.specs.declared.points.LatticeFault.{LatticeFault}
use Rattle.sv_lattice.specs.declared.points.LatticeFault.TheVariants.{Size, Unknown, Circle, NoJoin}
use Rattle.sv_lattice.specs.declared.points.LatticeFault.TheVariants.{NoMeet, OutOfMemory}

-- the points lead from a to b: each of a and the points has a declared pair with the next, and the
-- last is b
abbrev pub Leads : List (ℕ × ℕ) → ℕ → List ℕ → ℕ → Type 0
Leads pairs a [] b = a ≡ b
Leads pairs a (c ∷ points) b = Contains pairs (a, c) × Leads pairs c points b

-- a flows to b: some list of points leads from a to b by declared pairs
abbrev pub Flows : List (ℕ × ℕ) → ℕ → ℕ → Type 0
Flows pairs a b = (points : List ℕ) × Leads pairs a points b

-- c is the least upper point of a and b, of the points below n, where R says which point flows to
-- which
pub record IsJoin (n : ℕ) (R : ℕ → ℕ → Type 0) (a b c : ℕ) : Type 0 where
  pub is_point : c < n
  pub above_first : R a c
  pub above_second : R b c
  pub least : (d : ℕ) → d < n → R a d → R b d → R c d

-- c is the greatest lower point of a and b
pub record IsMeet (n : ℕ) (R : ℕ → ℕ → Type 0) (a b c : ℕ) : Type 0 where
  pub is_point : c < n
  pub below_first : R c a
  pub below_second : R c b
  pub greatest : (d : ℕ) → d < n → R d a → R d b → R d c

abbrev pub HasJoin : ℕ → (ℕ → ℕ → Type 0) → ℕ → ℕ → Type 0
HasJoin n R a b = (c : ℕ) × IsJoin n R a b c

abbrev pub HasMeet : ℕ → (ℕ → ℕ → Type 0) → ℕ → ℕ → Type 0
HasMeet n R a b = (c : ℕ) × IsMeet n R a b c

-- a and b are no two different points that flow to each other
abbrev pub IsApart : (ℕ → ℕ → Type 0) → ℕ → ℕ → Type 0
IsApart R a b = R a b → R b a → a ≡ b

-- Q holds of any two points below n
abbrev pub EachPair : ℕ → (ℕ → ℕ → Type 0) → Type 0
EachPair n Q = (a b : ℕ) → a < n → b < n → Q a b

-- (a, b) is the first pair of points below n, in order of both numbers, of which Q does not hold
pub record IsFirstWithout (n : ℕ) (Q : ℕ → ℕ → Type 0) (a b : ℕ) : Type 0 where
  pub first_is_point : a < n
  pub second_is_point : b < n
  pub fails : ¬ Q a b
  pub before : (c d : ℕ) → c < n → d < n → (c < a) ⊎ ((c ≡ a) × (d < b)) → Q c d

-- the points below n are a lattice where R says which point flows to which
pub record IsLattice (n : ℕ) (R : ℕ → ℕ → Type 0) : Type 0 where
  pub apart : EachPair n (IsApart R)
  pub joins : EachPair n (HasJoin n R)
  pub meets : EachPair n (HasMeet n R)

-- there are 1 to 32 points
abbrev pub IsPointCount : ℕ → Type 0
IsPointCount n = (1 ≤ n) × (n ≤ 32)

-- both numbers of a pair are points
abbrev pub IsKnown : ℕ → ℕ × ℕ → Type 0
IsKnown n pair = (pair.0 < n) × (pair.1 < n)

-- pair i is the first with a number that is no point
pub record IsFirstUnknown (n : ℕ) (pairs : List (ℕ × ℕ)) (i : ℕ) : Type 0 where
  pub is_pair : i < length pairs
  pub unknown : HoldsAt (λ pair. ¬ IsKnown n pair) pairs i
  pub before : All (IsKnown n) (take i pairs)

-- the number of points is in its range, and each pair is one of points
abbrev pub IsDeclared : ℕ → List (ℕ × ℕ) → Type 0
IsDeclared n pairs = IsPointCount n × All (IsKnown n) pairs

-- what a fault says of the points and pairs: each fault tells that what was asked before it holds
abbrev pub IsFaultOf : ℕ → List (ℕ × ℕ) → LatticeFault → Type 0
IsFaultOf n pairs Size = ¬ IsPointCount n
IsFaultOf n pairs (Unknown i) = IsPointCount n × IsFirstUnknown n pairs i
IsFaultOf n pairs (Circle a b) = IsDeclared n pairs × IsFirstWithout n (IsApart (Flows pairs)) a b
IsFaultOf n pairs (NoJoin a b) =
    IsDeclared n pairs × EachPair n (IsApart (Flows pairs))
    × IsFirstWithout n (HasJoin n (Flows pairs)) a b
IsFaultOf n pairs (NoMeet a b) =
    IsDeclared n pairs × EachPair n (IsApart (Flows pairs)) × EachPair n (HasJoin n (Flows pairs))
    × IsFirstWithout n (HasMeet n (Flows pairs)) a b
IsFaultOf n pairs OutOfMemory = Unit {0}
