-- Values of variables carried on to more variables, as clauses have them.
use Rattle.std.proofs.Common.{ℕ, zero, suc, Bool, true, List, [], ◌∷◌, ◌++◌}
use Rattle.std.specs.Prelude.{◌-◌, ◌==◌, ℤ, pos, unsigned_abs, length, drop, take_while}
use Rattle.std.specs.Prelude.{slice_index_or, unwrap_or, Option, find, option_map}
use Rattle.sv_gates.specs.Formulas.{meets, value_of}

-- this is the highest variable of the clause, which ascends by variable
abbrev is_of : (variable : ℕ) → List ℤ → Bool
is_of n clause = unsigned_abs (slice_index_or clause (length clause - 1) (pos 0)) == n

-- the values that are given for some variables
abbrev pub given_for : List (ℕ × Bool) → (variable : ℕ) → Option Bool
given_for given n = option_map (λ pair. pair.1) (find (λ pair. pair.0 == n) given)

-- Values with those of so many more variables, each as it is given, else as its clauses have it:
-- those of each gate stand together, in the order of the variables.
abbrev pub carried : List (List ℤ) → List (ℕ × Bool) → (values : List Bool) → (more : ℕ) → List Bool
carried clauses given values zero = values
carried clauses given values (suc more) =
    let raised = values ++ true ∷ [] in
    let own = take_while (is_of (length raised)) clauses in
    let value = unwrap_or (given_for given (length raised)) (meets (value_of raised) own) in
    carried (drop (length own) clauses) given (values ++ value ∷ []) more
