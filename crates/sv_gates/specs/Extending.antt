-- What formulas that grow keep, and what a piece of encoding makes.
use Rattle.std.specs.Prelude.{◌≡◌, ℕ, suc, ◌≤◌, Bool, true, length, take}
use Rattle.sv_gates.specs.Formulas.{Formula, meets, IsClosed}

-- values agree on the variables up to this one
abbrev pub AgreeUpTo : ℕ → (ℕ → Bool) → (ℕ → Bool) → Type 0
AgreeUpTo variables first second = (n : ℕ) → n ≤ variables → first n ≡ second n

-- the formula as it was when it had this many variables and clauses
abbrev pub cut_back : ℕ → ℕ → Formula → Formula
cut_back variables clauses formula =
    record { variables = variables; clauses = take clauses formula.clauses }

-- the new formula begins with the old one: it has its variables and clauses, and maybe more
pub record Begins (old new : Formula) : Type 0 where
  pub grows : old.variables ≤ new.variables
  pub front : take (length old.clauses) new.clauses ≡ old.clauses

-- the new formula fixes the variables that it adds: any values that meet the old one can be carried
-- on to the new variables so that they meet the new one, in exactly one way
pub record Extends (old new : Formula) : Type 0 where
  pub begins : Begins old new
  pub closed : IsClosed new
  pub onward : (values : ℕ → Bool) → meets values old.clauses ≡ true →
      (more : ℕ → Bool) × AgreeUpTo old.variables values more × (meets more new.clauses ≡ true)
  pub unique : (one other : ℕ → Bool) → meets one new.clauses ≡ true →
      meets other new.clauses ≡ true → AgreeUpTo old.variables one other →
      AgreeUpTo new.variables one other

-- from the old formula a piece of encoding makes a new one, and beside it something, as a literal
-- or a word: the new formula extends the old one, what is made lies inside its variables, and all
-- values that meet it give it its meaning
pub record Makes {A : Type 0} (old : Formula) (made : Formula × A) (Inside : ℕ → A → Type 0)
    (Means : (ℕ → Bool) → A → Type 0) : Type 0 where
  pub extends : Extends old made.0
  pub within : Inside (made.0).variables made.1
  pub says : (values : ℕ → Bool) → meets values (made.0).clauses ≡ true → Means values made.1

-- any value of one more variable can be chosen: values that meet the old formula can be carried on
-- so that they meet the new one, with either value of its last variable
pub record ExtendsFreely (old new : Formula) : Type 0 where
  pub begins : Begins old new
  pub one : new.variables ≡ suc old.variables
  pub closed : IsClosed new
  pub onward : (values : ℕ → Bool) (value : Bool) → meets values old.clauses ≡ true →
      (more : ℕ → Bool) × AgreeUpTo old.variables values more × (meets more new.clauses ≡ true)
      × (more new.variables ≡ value)
