-- Resolution on plain lists.
use Rattle.std.specs.Prelude.{◌≡◌, ◌&&◌, ◌||◌, not, IsTrue, ℤ, pos, neg_ℤ, unsigned_abs, List}
use Rattle.std.specs.Ordering.{int_eq}
use Rattle.sv_clause.specs.Literals.{stands}

-- the two clauses clash on the variable of this literal and on no other: it stands in the first,
-- its negation in the second
pub record IsOnlyClash (first second : List ℤ) (literal : ℤ) : Type 0 where
  pub here : IsTrue (stands literal first)
  pub there : IsTrue (stands (neg_ℤ literal) second)
  pub only : (other : ℤ) → IsTrue (stands other first) → IsTrue (stands (neg_ℤ other) second) →
      other ≡ literal

-- the resolvent on the only clashing variable: all literals of the two clauses but that variable's
pub record IsResolvent (first second : List ℤ) (literal : ℤ) (resolvent : List ℤ) : Type 0 where
  pub clash : IsOnlyClash first second literal
  pub literals : (other : ℤ) →
      stands other resolvent ≡
      ((stands other first && not (int_eq other literal))
      || (stands other second && not (int_eq other (neg_ℤ literal))))

-- the variable is the only one on which the two clauses clash
abbrev pub ClashOnlyOn : List ℤ → List ℤ → ℤ → Type 0
ClashOnlyOn first second variable =
    (literal : ℤ) × (variable ≡ pos (unsigned_abs literal)) × IsOnlyClash first second literal

-- the clause is the resolvent of the two on this variable
abbrev pub IsResolventOn : List ℤ → List ℤ → ℤ → List ℤ → Type 0
IsResolventOn first second variable resolvent =
    (literal : ℤ) × (variable ≡ pos (unsigned_abs literal))
    × IsResolvent first second literal resolvent
