-- Literals and clauses on plain lists. A literal is a whole number other than 0: a variable, or a
-- variable negated.
use Rattle.std.specs.Prelude.{◌≡◌, ℕ, zero, suc, ◌<◌, ◌^◌, Bool, false, not, IsTrue, ℤ, pos, negsuc}
use Rattle.std.specs.Prelude.{neg_ℤ, unsigned_abs, List, [], ◌∷◌, All, ◌⊎◌}
use Rattle.std.specs.List.{list_any}
use Rattle.std.specs.Ordering.{int_eq}

-- whether a literal stands in a list of literals
abbrev pub stands : ℤ → List ℤ → Bool
stands literal literals = list_any (int_eq literal) literals

-- two lists have the same literals
abbrev pub SameLiterals : List ℤ → List ℤ → Type 0
SameLiterals first second = (literal : ℤ) → stands literal first ≡ stands literal second

-- the literals ascend by variable, no variable twice, from above this one on; each has a negation
-- in 32 bits
abbrev pub Ascend : ℕ → List ℤ → Type 0
Ascend above [] = Unit {0}
Ascend above (literal ∷ literals) =
    (above < unsigned_abs literal) × (unsigned_abs literal < 2 ^ 31)
    × Ascend (unsigned_abs literal) literals

-- a clause in normal form: its literals ascend by variable, no variable twice
abbrev pub IsClause : List ℤ → Type 0
IsClause literals = Ascend 0 literals

-- these literals make no clause: one is 0 or the least number of 32 bits, or a variable stands in
-- both polarities
abbrev pub MakeNoClause : List ℤ → Type 0
MakeNoClause literals = (literal : ℤ) × IsTrue (stands literal literals)
    × ((literal ≡ pos 0) ⊎ (unsigned_abs literal ≡ 2 ^ 31)
    ⊎ IsTrue (stands (neg_ℤ literal) literals))

-- whether values of the variables make a literal true; 0 is no literal, and none make it true
abbrev pub literal_true : (ℕ → Bool) → ℤ → Bool
literal_true values (pos zero) = false
literal_true values (pos (suc n)) = values (suc n)
literal_true values (negsuc n) = not (values (suc n))

-- whether values make a clause true: they make one of its literals true
abbrev pub clause_true : (ℕ → Bool) → List ℤ → Bool
clause_true values clause = list_any (literal_true values) clause

-- values make all clauses true
abbrev pub Satisfies : (ℕ → Bool) → List (List ℤ) → Type 0
Satisfies values clauses = All (λ clause. IsTrue (clause_true values clause)) clauses

-- no values make all clauses true
abbrev pub HaveNoSolution : List (List ℤ) → Type 0
HaveNoSolution clauses = (values : ℕ → Bool) → Satisfies values clauses → ⊥
