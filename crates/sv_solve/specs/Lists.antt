-- Private: how the code goes. Lists of literals that grow and shrink at their end, with tables
-- beside them.
use Rattle.std.specs.Prelude.{◌≡◌, ℕ, ◌+◌, ◌*◌, ◌<◌, ◌≤◌, Bool, false, not, IsTrue, ℤ, pos, neg_ℤ}
use Rattle.std.specs.Prelude.{List, length, take, count_by, slice_index_or, ◌⊎◌}
use Rattle.std.specs.Bool.{IsFalse}
use Rattle.sv_clause.specs.Literals.{stands}
use Rattle.sv_clause.specs.Units.{IsOpen}
use Rattle.sv_solve.specs.Codes.{code_of, IsOf}

-- literals one after another, of variables up to this one
pub record Listed : Type 0 where
  pub literals : List ℤ
  pub variables : ℕ

-- literals that were made true one after another, each with the number of the clause that makes it
-- true
pub record Assigned : Type 0 where
  pub literals : List ℤ
  pub reasons : List ℕ
  pub variables : ℕ

-- the marks tell by number which literals stand in the list, each once, and the places where they
-- stand
pub record IsMarked (literals : List ℤ) (marks : List Bool) (places : List ℕ) (variables : ℕ) :
    Type 0 where
  pub size : length marks ≡ 2 * variables + 2
  pub as_many : length places ≡ length marks
  pub marked : (literal : ℤ) → code_of literal < length marks →
      slice_index_or marks (code_of literal) false ≡ stands literal literals
  pub within : (literal : ℤ) → IsTrue (stands literal literals) → IsOf variables literal
  pub distinct : (i : ℕ) → i < length literals →
      IsFalse (stands (slice_index_or literals i (pos 0)) (take i literals))
  pub room : length literals + count_by not marks ≡ length marks
  pub placed : (i : ℕ) → i < length literals →
      slice_index_or places (code_of (slice_index_or literals i (pos 0))) 0 ≡ i

-- each literal was open in those before it
abbrev pub EachOpen : List ℤ → Type 0
EachOpen literals =
    (i : ℕ) → i < length literals → IsOpen (take i literals) (slice_index_or literals i (pos 0))

-- the literal or its negation stands in the list
abbrev pub IsAssigned : List ℤ → ℤ → Type 0
IsAssigned literals literal =
    IsTrue (stands literal literals) ⊎ IsTrue (stands (neg_ℤ literal) literals)

-- each variable is assigned
abbrev pub AllAssigned : ℕ → List ℤ → Type 0
AllAssigned variables literals =
    (variable : ℕ) → 0 < variable → variable ≤ variables → IsAssigned literals (pos variable)

-- what holds of literals that were made true one after another
pub record IsTrail (literals : List ℤ) (reasons : List ℕ) (variables : ℕ) : Type 0 where
  pub size : length reasons ≡ 2 * variables + 2
  pub each_open : EachOpen literals
