-- What is derived can be written: its chains are not empty, and their numbers are those of clauses.
use Rattle.std.proofs.Common.{◌≡◌, ℕ, zero, suc, ◌+◌, ◌<◌, ◌^◌, ℤ, List, [], ◌∷◌, ◌++◌, length}
use Rattle.std.proofs.Common.{All, Some, arith}
use Rattle.std.proofs.lemmas.List.{length_push}
use Rattle.std.proofs.lemmas.List.Elements.{All-nil, All-cons, All-head, All-tail}
use Rattle.std.proofs.lemmas.Option.{slice_get_within}
use Rattle.sv_clause.specs.Literals.{IsClause}
use Rattle.sv_clause.specs.Logs.{Step, numbered, ResolvesTo, ChainGives, AllDerived}
use Rattle.sv_proof.specs.Certificate.{IsChain, IsWritable, IsWritableLog}

abbrev IsNumber : ℕ → Type 0
IsNumber number = (0 < number) × (number < 2 ^ 64)

-- the number of a clause
is_number : (all : List (List ℤ)) (n : ℕ) (clause : List ℤ) → length all < 2 ^ 64 →
    numbered all n ≡ Some clause → IsNumber n
is_number all zero clause few e = absurd (cc)
is_number all (suc n) clause few e =
    let within : n < length all = slice_get_within all n clause e in (omega arith, omega arith)

are_numbers : (all : List (List ℤ)) (from : List ℤ) (chain : List ℕ) (clause : List ℤ) →
    length all < 2 ^ 64 → ResolvesTo all from chain clause → All IsNumber chain
are_numbers all from [] clause few r = All-nil IsNumber
are_numbers all from (n ∷ chain) clause few r =
    All-cons IsNumber n chain (is_number all n r.0 few r.3)
    (are_numbers all r.2 chain clause few r.5)

is_chain : (all : List (List ℤ)) (chain : List ℕ) (clause : List ℤ) → length all < 2 ^ 64 →
    ChainGives all chain clause → IsChain chain
is_chain all [] clause few d = absurd d
is_chain all (n ∷ chain) clause few d =
    record {
      some = λ none. (cc);
      numbers =
          All-cons IsNumber n chain (is_number all n d.0 few d.1)
          (are_numbers all d.0 chain clause few d.2);
    }

are_writable : (clauses : List (List ℤ)) (steps : List Step) →
    length clauses + length steps < 2 ^ 64 → All (λ step. IsClause step.clause) steps →
    AllDerived clauses steps → All IsWritable steps
are_writable clauses [] few normal derived = All-nil IsWritable
are_writable clauses (step ∷ steps) few normal derived =
    let Normal : Step → Type 0 = λ s. IsClause s.clause in
    let longer = length_push clauses step.clause in
    let fewer : length (clauses ++ step.clause ∷ []) + length steps < 2 ^ 64 = omega arith in
    All-cons IsWritable step steps
    (record {
      clause = All-head Normal step steps normal;
      chain = is_chain clauses step.chain step.clause (omega arith) derived.0;
    })
    (are_writable (clauses ++ step.clause ∷ []) steps fewer
    (All-tail Normal step steps normal) derived.1)

pub is_writable : (clauses : List (List ℤ)) (steps : List Step) → length steps < 2 ^ 32 →
    length clauses + length steps < 2 ^ 64 → All (λ step. IsClause step.clause) steps →
    AllDerived clauses steps → IsWritableLog steps
is_writable clauses steps count few normal derived =
    record { count = count; each = are_writable clauses steps few normal derived }
