-- What `secv cnf` prints: clauses as DIMACS has them, which any solver can be given.
use Rattle.std.specs.Prelude.{ℕ, ℤ, List, ◌++◌, length, flat_map, codes, decimal}
use Rattle.std.specs.Fmt.{signed_decimal}
use Rattle.sv_encoding.specs.Encoding.{Encoding}

-- a clause's literals and 0, joined by blanks
abbrev pub clause_line : List ℤ → List ℕ
clause_line clause =
    flat_map (λ literal. signed_decimal literal ++ codes " ") clause ++ codes "0\n"

-- the number of variables and that of clauses
abbrev pub problem_line : Encoding → List ℕ
problem_line encoding =
    codes "p cnf " ++ decimal encoding.variables ++ codes " " ++ decimal (length encoding.clauses)
    ++ codes "\n"

abbrev pub cnf_text : Encoding → List ℕ
cnf_text encoding = problem_line encoding ++ flat_map clause_line encoding.clauses
