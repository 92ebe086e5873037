-- Gates: each takes the next variable, with clauses that hold exactly where the variable has the
-- gate's value. Every function gives the formula with the gate, and the gate's literal.
use Rattle.std.specs.Prelude.{◌≡◌, ◌↔◌, ℕ, suc, Bool, IsTrue, ℤ, pos, neg_ℤ, List, [], ◌∷◌}
use Rattle.sv_clause.specs.Literals.{literal_true}
use Rattle.sv_gates.specs.Formulas.{Formula, meets}
use Rattle.sv_gates.specs.NormalForms.{with_clause, with_clauses}

-- the start: variable 1, which is true
abbrev pub start : Formula
start = record { variables = 1; clauses = (pos 1 ∷ []) ∷ [] }

-- the literal that is always true, and the one that is always false
abbrev pub true_literal : ℤ
true_literal = pos 1

abbrev pub false_literal : ℤ
false_literal = neg_ℤ true_literal

-- one more variable, which may have any value
abbrev pub fresh_variable : Formula → Formula × ℤ
fresh_variable formula = (
  record { variables = suc formula.variables; clauses = formula.clauses },
  pos (suc formula.variables),
)

-- one more clause, as it is written down
abbrev pub with_raw : List ℤ → Formula → Formula
with_raw raw formula =
    record { variables = formula.variables; clauses = with_clause raw formula.clauses }

-- more clauses, one after another
abbrev pub with_raws : List (List ℤ) → Formula → Formula
with_raws raws formula =
    record { variables = formula.variables; clauses = with_clauses raws formula.clauses }

-- one more variable with its clauses, which name it
abbrev pub with_gate : (ℤ → List (List ℤ)) → Formula → Formula × ℤ
with_gate clauses_of formula =
    let fresh = fresh_variable formula in (with_raws (clauses_of fresh.1) fresh.0, fresh.1)

-- a and b
abbrev pub and_clauses : ℤ → ℤ → ℤ → List (List ℤ)
and_clauses a b g = (neg_ℤ g ∷ a ∷ []) ∷ (neg_ℤ g ∷ b ∷ []) ∷ (g ∷ neg_ℤ a ∷ neg_ℤ b ∷ []) ∷ []

abbrev pub and_gate : ℤ → ℤ → Formula → Formula × ℤ
and_gate a b formula = with_gate (and_clauses a b) formula

-- a or b: not both are false
abbrev pub or_gate : ℤ → ℤ → Formula → Formula × ℤ
or_gate a b formula =
    let both = and_gate (neg_ℤ a) (neg_ℤ b) formula in (both.0, neg_ℤ both.1)

-- a and b differ
abbrev pub xor_clauses : ℤ → ℤ → ℤ → List (List ℤ)
xor_clauses a b g =
    (neg_ℤ g ∷ a ∷ b ∷ []) ∷ (neg_ℤ g ∷ neg_ℤ a ∷ neg_ℤ b ∷ []) ∷ (g ∷ neg_ℤ a ∷ b ∷ [])
    ∷ (g ∷ a ∷ neg_ℤ b ∷ []) ∷ []

abbrev pub xor_gate : ℤ → ℤ → Formula → Formula × ℤ
xor_gate a b formula = with_gate (xor_clauses a b) formula

-- the multiplexer: a where c holds, b elsewhere
abbrev pub mux_clauses : ℤ → ℤ → ℤ → ℤ → List (List ℤ)
mux_clauses c a b g =
    (neg_ℤ g ∷ neg_ℤ c ∷ a ∷ []) ∷ (neg_ℤ g ∷ c ∷ b ∷ []) ∷ (g ∷ neg_ℤ c ∷ neg_ℤ a ∷ [])
    ∷ (g ∷ c ∷ neg_ℤ b ∷ []) ∷ []

abbrev pub mux_gate : ℤ → ℤ → ℤ → Formula → Formula × ℤ
mux_gate c a b formula = with_gate (mux_clauses c a b) formula

-- the clause that is one literal alone
abbrev pub with_unit : ℤ → Formula → Formula
with_unit literal formula = with_raw (literal ∷ []) formula

-- the gate has a value: values meet the formula with the gate exactly where they meet the one
-- before it and give the gate's literal this value
abbrev pub GateHas : Formula → Formula × ℤ → ((ℕ → Bool) → Bool) → Type 0
GateHas old made value = (values : ℕ → Bool) → IsTrue (meets values (made.0).clauses)
    ↔ (IsTrue (meets values old.clauses) × (literal_true values made.1 ≡ value values))
