-- Formulas in conjunctive normal form on plain lists.
use Rattle.std.specs.Prelude.{ℕ, ◌-◌, ◌<◌, ◌≤◌, Bool, false, IsTrue, ℤ, unsigned_abs, List, All}
use Rattle.std.specs.Prelude.{slice_index_or}
use Rattle.std.specs.List.{list_all}
use Rattle.sv_clause.specs.Literals.{stands, clause_true}

-- a formula: its variables are 1 to this number, and its clauses stand in the order in which they
-- were added
pub record Formula : Type 0 where
  pub variables : ℕ
  pub clauses : List (List ℤ)

-- values of the variables meet clauses: they make each one true
abbrev pub meets : (ℕ → Bool) → List (List ℤ) → Bool
meets values clauses = list_all (clause_true values) clauses

-- the value of each variable, the first of the list for variable 1
abbrev pub value_of : List Bool → ℕ → Bool
value_of values variable = slice_index_or values (variable - 1) false

-- a literal of a variable from 1 to this one
abbrev pub IsLiteral : ℕ → ℤ → Type 0
IsLiteral variables literal = (0 < unsigned_abs literal) × (unsigned_abs literal ≤ variables)

-- every literal of the clause is of a variable up to this one
abbrev pub IsWithin : ℕ → List ℤ → Type 0
IsWithin variables clause =
    (literal : ℤ) → IsTrue (stands literal clause) → unsigned_abs literal ≤ variables

-- the clauses of a formula speak of its variables alone
abbrev pub IsClosed : Formula → Type 0
IsClosed formula = All (IsWithin formula.variables) formula.clauses

-- the most variables that a formula of gates may have
abbrev pub most_variables : ℕ
most_variables = 4194304

-- a formula of gates: 1 to the most variables, and clauses that speak of these alone
pub record IsProper (formula : Formula) : Type 0 where
  pub some : 0 < formula.variables
  pub few : formula.variables ≤ most_variables
  pub closed : IsClosed formula
