-- The table of a lattice: one number for each point, whose bit b says whether the point flows to
-- point b.
use Rattle.std.specs.Prelude.{◌≡◌, ℕ, ◌<◌, ◌^◌, ◌↔◌, Bool, ◌==◌, ◌||◌, ◌&&◌, IsTrue, MatchOption}
use Rattle.std.specs.Prelude.{Option, List, length, slice_index}
use Rattle.std.specs.Int.{bit_at}
use Rattle.sv_lattice.specs.Flows.{Flows, EachPair, IsLattice, IsPointCount, IsApart, HasJoin}
use Rattle.sv_lattice.specs.Flows.{HasMeet, IsFirstWithout}
use Rattle.sv_lattice.specs.declared.points.LatticeFault.{LatticeFault}
use Rattle.sv_lattice.specs.declared.points.LatticeFault.TheVariants.{Size, Unknown, Circle, NoJoin}
use Rattle.sv_lattice.specs.declared.points.LatticeFault.TheVariants.{NoMeet, OutOfMemory}

-- whether point a flows to point b
abbrev pub flow_test : List ℕ → ℕ → ℕ → Bool
flow_test table a b = bit_at (slice_index table a) b == 1

-- point a flows to point b
abbrev pub FlowsTo : List ℕ → ℕ → ℕ → Type 0
FlowsTo table a b = IsTrue (flow_test table a b)

-- no row speaks of numbers that are no points
abbrev pub IsWithin : ℕ → List ℕ → Type 0
IsWithin n table = (k : ℕ) → k < n → slice_index table k < 2 ^ n

-- the table of n points that says what the pairs declare
pub record IsTableOf (n : ℕ) (pairs : List (ℕ × ℕ)) (table : List ℕ) : Type 0 where
  pub size : length table ≡ n
  pub within : IsWithin n table
  pub exact : EachPair n (λ a b. FlowsTo table a b ↔ Flows pairs a b)

-- each point flows to itself, and on from where it flows to
pub record IsPreorder (n : ℕ) (R : ℕ → ℕ → Type 0) : Type 0 where
  pub reflexive : (a : ℕ) → a < n → R a a
  pub transitive : (a b c : ℕ) → a < n → b < n → c < n → R a b → R b c → R a c

-- what holds of the table of every lattice that was built
pub record IsLatticeTable (table : List ℕ) : Type 0 where
  pub count : IsPointCount (length table)
  pub within : IsWithin (length table) table
  pub preorder : IsPreorder (length table) (FlowsTo table)
  pub lattice : IsLattice (length table) (FlowsTo table)

-- what the rows say of a and b after a flow from x to y was added: a flows to b as before, or by x
-- and y
abbrev pub GainsFlow : List ℕ → List ℕ → ℕ → ℕ → ℕ → ℕ → Type 0
GainsFlow old new x y a b =
    flow_test new a b ≡ (flow_test old a b || (flow_test old a x && flow_test old y b))

-- the second table has the flows of the first the other way round
abbrev pub IsTurned : List ℕ → List ℕ → Type 0
IsTurned table turned = EachPair (length table) (λ a b. flow_test turned a b ≡ flow_test table b a)

-- k is the first number below n of which P does not hold
pub record IsFirstNot (n : ℕ) (P : ℕ → Type 0) (k : ℕ) : Type 0 where
  pub is_point : k < n
  pub fails : ¬ P k
  pub before : (j : ℕ) → j < k → P j

-- a search for the first number below n of which P does not hold has this answer
abbrev pub FindsNumber : ℕ → (ℕ → Type 0) → Option ℕ → Type 0
FindsNumber n P answer = MatchOption answer ((k : ℕ) → k < n → P k) (IsFirstNot n P)

-- a search for the first two points below n of which Q does not hold has this answer
abbrev pub FindsPair : ℕ → (ℕ → ℕ → Type 0) → Option (ℕ × ℕ) → Type 0
FindsPair n Q answer = MatchOption answer (EachPair n Q) (λ pair. IsFirstWithout n Q pair.0 pair.1)

-- of the points of a table, these two are no two different ones that flow to each other
abbrev pub AreApart : List ℕ → ℕ → ℕ → Type 0
AreApart table = IsApart (FlowsTo table)

-- of the points of a table, these two have a least upper one
abbrev pub HaveJoin : List ℕ → ℕ → ℕ → Type 0
HaveJoin table = HasJoin (length table) (FlowsTo table)

-- the first fault of a table's points, where R says which point flows to which
abbrev pub IsOrderFault : ℕ → (ℕ → ℕ → Type 0) → LatticeFault → Type 0
IsOrderFault n R (Circle a b) = IsFirstWithout n (IsApart R) a b
IsOrderFault n R (NoJoin a b) = EachPair n (IsApart R) × IsFirstWithout n (HasJoin n R) a b
IsOrderFault n R (NoMeet a b) =
    EachPair n (IsApart R) × EachPair n (HasJoin n R) × IsFirstWithout n (HasMeet n R) a b
IsOrderFault n R Size = ⊥
IsOrderFault n R (Unknown i) = ⊥
IsOrderFault n R OutOfMemory = ⊥
