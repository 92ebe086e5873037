-- Logs whose steps are derived can be written, since their types keep the numbers small.
use Rattle.std.proofs.Common.{◌≡◌, ℕ, ◌<◌, ◌^◌, zero, suc, ℤ, List, [], ◌∷◌, ◌++◌, Some, All, arith}
use Rattle.std.proofs.lemmas.List.Elements.{All-nil, All-cons, All-head, All-tail}
use Rattle.sv_clause.specs.Logs.{Step, numbered, ResolvesTo, ChainGives, IsDerived, AllDerived}
use Rattle.sv_proof.specs.Certificate.{IsChain, IsWritable}
use Rattle.sv_judge.specs.Writable.{IsTyped}

abbrev IsSmall : ℕ → Type 0
IsSmall number = number < 2 ^ 64

abbrev IsNumber : ℕ → Type 0
IsNumber number = (0 < number) × (number < 2 ^ 64)

-- clauses are numbered from 1
positive : (clauses : List (List ℤ)) (number : ℕ) (clause : List ℤ)
    → numbered clauses number ≡ Some clause → 0 < number
positive clauses zero clause is = absurd cc
positive clauses (suc number) clause is = omega arith

numbers : (clauses : List (List ℤ)) (from : List ℤ) (chain : List ℕ) (clause : List ℤ)
    → All IsSmall chain → ResolvesTo clauses from chain clause → All IsNumber chain
numbers clauses from [] clause small resolves = All-nil IsNumber
numbers clauses from (number ∷ chain) clause small (next, literal, resolvent, is, by, rest) =
    All-cons IsNumber number chain
    (positive clauses number next is, All-head IsSmall number chain small)
    (numbers clauses resolvent chain clause (All-tail IsSmall number chain small) rest)

chain_of : (clauses : List (List ℤ)) (chain : List ℕ) (clause : List ℤ) → All IsSmall chain
    → ChainGives clauses chain clause → IsChain chain
chain_of clauses [] clause small gives = absurd gives
chain_of clauses (number ∷ chain) clause small (from, is, resolves) = record {
  some = λ none. cc;
  numbers =
      All-cons IsNumber number chain
      (positive clauses number from is, All-head IsSmall number chain small)
      (numbers clauses from chain clause (All-tail IsSmall number chain small) resolves);
}

writable_step : (clauses : List (List ℤ)) (step : Step) → IsTyped step → IsDerived clauses step
    → IsWritable step
writable_step clauses step typed derived = record {
  clause = typed.clause;
  chain = chain_of clauses step.chain step.clause typed.numbers derived;
}

pub writable_steps : (clauses : List (List ℤ)) (steps : List Step) → All IsTyped steps
    → AllDerived clauses steps → All IsWritable steps
writable_steps clauses [] typed derived = All-nil IsWritable
writable_steps clauses (step ∷ steps) typed (here, rest) =
    All-cons IsWritable step steps
    (writable_step clauses step (All-head IsTyped step steps typed) here)
    (writable_steps (clauses ++ step.clause ∷ []) steps (All-tail IsTyped step steps typed) rest)
