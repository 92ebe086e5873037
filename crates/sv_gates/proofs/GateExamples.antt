-- Examples of gates, by computation.
use Rattle.std.proofs.Common.{◌≡◌, suc, nat_eq, true, false, pos, negsuc}
use Rattle.std.proofs.Common.{ℤ, List, [], ◌∷◌, refl}
use Rattle.sv_gates.specs.Extending.{cut_back}
use Rattle.sv_gates.specs.Formulas.{Formula, meets, value_of}
use Rattle.sv_gates.specs.NormalForms.{put, ascending, with_clause}
use Rattle.sv_gates.specs.Gates.{start, false_literal, fresh_variable, and_gate}
use Rattle.sv_gates.specs.Gates.{or_gate, xor_gate, mux_gate, with_unit}

-- literals stand by variable, each once
sorted : ascending (pos 7 ∷ negsuc 1 ∷ pos 7 ∷ pos 4 ∷ []) ≡ negsuc 1 ∷ pos 4 ∷ pos 7 ∷ []
unfolding put ascending
sorted = refl

-- 3 and -3 stand in one clause, which is left out; of the others -1 goes in front of 5
both_signs : with_clause (pos 3 ∷ pos 5 ∷ negsuc 2 ∷ []) ((pos 1 ∷ []) ∷ []) ≡ (pos 1 ∷ []) ∷ []
unfolding with_clause
both_signs = refl

one_sign : with_clause (pos 5 ∷ negsuc 0 ∷ []) ((pos 1 ∷ []) ∷ [])
    ≡ (pos 1 ∷ []) ∷ (negsuc 0 ∷ pos 5 ∷ []) ∷ []
unfolding put ascending with_clause
one_sign = refl

-- variables 1 to 3: the true one, and two that may have any value
abbrev two_inputs : Formula
two_inputs = (fresh_variable (fresh_variable start).0).0

-- those and a gate with these clauses, and the gate's literal
abbrev with_gate : List (List ℤ) → ℤ → Formula × ℤ
with_gate clauses literal =
    (record { variables = 4; clauses = (pos 1 ∷ []) ∷ clauses }, literal)

-- 4 is 2 and 3
and_of_two : and_gate (pos 2) (pos 3) two_inputs ≡ with_gate ((pos 2 ∷ negsuc 3 ∷ [])
    ∷ (pos 3 ∷ negsuc 3 ∷ []) ∷ (negsuc 1 ∷ negsuc 2 ∷ pos 4 ∷ []) ∷ []) (pos 4)
unfolding put ascending with_clause
and_of_two = refl

-- -4 is 2 or 3: 4 is the AND of -2 and -3
or_of_two : or_gate (pos 2) (pos 3) two_inputs ≡ with_gate ((negsuc 1 ∷ negsuc 3 ∷ [])
    ∷ (negsuc 2 ∷ negsuc 3 ∷ []) ∷ (pos 2 ∷ pos 3 ∷ pos 4 ∷ []) ∷ []) (negsuc 3)
unfolding put ascending with_clause
or_of_two = refl

-- 4 is whether 2 and 3 differ
xor_of_two : xor_gate (pos 2) (pos 3) two_inputs ≡ with_gate ((pos 2 ∷ pos 3 ∷ negsuc 3 ∷ [])
    ∷ (negsuc 1 ∷ negsuc 2 ∷ negsuc 3 ∷ []) ∷ (negsuc 1 ∷ pos 3 ∷ pos 4 ∷ [])
    ∷ (pos 2 ∷ negsuc 2 ∷ pos 4 ∷ []) ∷ []) (pos 4)
unfolding put ascending with_clause
xor_of_two = refl

-- 4 is 3 where 2 holds, and false elsewhere: the clauses with the literal that is always false, and
-- with that which is always true, are kept
mux_of_two : mux_gate (pos 2) (pos 3) false_literal two_inputs ≡ with_gate (
    (negsuc 1 ∷ pos 3 ∷ negsuc 3 ∷ []) ∷ (negsuc 0 ∷ pos 2 ∷ negsuc 3 ∷ [])
    ∷ (negsuc 1 ∷ negsuc 2 ∷ pos 4 ∷ []) ∷ (pos 1 ∷ pos 2 ∷ pos 4 ∷ []) ∷ []) (pos 4)
unfolding put ascending with_clause
mux_of_two = refl

-- a gate of one literal twice has shorter clauses, one of a literal and its negation fewer
and_of_same : (and_gate (pos 2) (pos 2) two_inputs).0 ≡ record {
  variables = 4;
  clauses = (pos 1 ∷ []) ∷ (pos 2 ∷ negsuc 3 ∷ []) ∷ (pos 2 ∷ negsuc 3 ∷ [])
      ∷ (negsuc 1 ∷ pos 4 ∷ []) ∷ [];
}
unfolding put ascending with_clause
and_of_same = refl

and_of_both_signs : (and_gate (pos 2) (negsuc 1) two_inputs).0 ≡ record {
  variables = 4;
  clauses = (pos 1 ∷ []) ∷ (pos 2 ∷ negsuc 3 ∷ []) ∷ (negsuc 1 ∷ negsuc 3 ∷ []) ∷ [];
}
unfolding put ascending with_clause
and_of_both_signs = refl

-- the number of variables needs no clause
counts : (formula : Formula) →
    (xor_gate (pos 2) (pos 3) (and_gate (pos 2) (pos 3) formula).0).0.variables
    ≡ suc (suc formula.variables)
counts formula = refl

-- values meet the clauses of a unit where they make it true
with_unit_false : meets (λ n. nat_eq n 1) (with_unit (negsuc 1) two_inputs).clauses ≡ true
unfolding put ascending with_clause
with_unit_false = refl

with_unit_true : meets (λ n. nat_eq n 1) (with_unit (pos 2) two_inputs).clauses ≡ false
unfolding put ascending with_clause
with_unit_true = refl

-- the formula with a gate, cut back to the mark before it
without_gate : cut_back 3 1 (and_gate (pos 2) (pos 3) two_inputs).0 ≡ two_inputs
unfolding put ascending with_clause
without_gate = refl

-- the second value of a list is that of variable 2; a value that is missing is false
second_value : value_of (false ∷ true ∷ []) 2 ≡ true
second_value = refl

missing_value : value_of (false ∷ true ∷ []) 3 ≡ false
missing_value = refl
