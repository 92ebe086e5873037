-- What a formula of gates keeps as it grows.
use Rattle.std.proofs.Common.{◌≡◌, ℕ, ◌≤◌, true, false, ℤ, pos, List, [], ◌∷◌, All}
use Rattle.std.proofs.Common.{sym, subst, length, ◌++◌, refl, ap, arith}
use Rattle.std.proofs.lemmas.List.Elements.{recursion_from_All, All-weaker}
use Rattle.sv_gates.specs.Formulas.{Formula, IsLiteral, IsProper}
use Rattle.sv_gates.specs.NormalForms.{put, ascending, clashes}
use Rattle.sv_gates.specs.Gates.{start, with_raw}
use Rattle.sv_gates.proofs.NormalLaws.{with_clause_within, with_clause-clash, with_clause-apart}
use Rattle.sv_gates.specs.Extending.{Begins, cut_back}
use Rattle.sv_gates.proofs.Valuations.{with_clause_front}
use Rattle.sv_gates.proofs.ExtendingLaws.{start_closed, front_from, cut_back-begins}

-- the start, as it is made
pub first_clause : ascending (pos 1 ∷ []) ≡ pos 1 ∷ []
unfolding put ascending
first_clause = refl

pub start_proper : IsProper start
start_proper = record { some = omega arith; few = omega arith; closed = start_closed }

-- one more clause over the variables
pub raw_proper : (raw : List ℤ) (old : Formula) → All (IsLiteral old.variables) raw →
    IsProper old → IsProper (with_raw raw old)
raw_proper raw old all proper = record {
  some = proper.some;
  few = proper.few;
  closed = with_clause_within old.variables raw old.clauses
      (recursion_from_All (IsLiteral old.variables) raw all) proper.closed;
}

pub literals_few : (n : ℕ) (raw : List ℤ) → n ≤ 4194304 → All (IsLiteral n) raw →
    All (IsLiteral 2147483647) raw
literals_few n raw few all =
    All-weaker (IsLiteral n) (IsLiteral 2147483647) (λ l is. (is.0, omega (arith, few, is.1))) raw all

-- the formula with a clause more is the one with its normal form behind
pub with_raw-apart : (raw : List ℤ) (old : Formula) → clashes raw ≡ false → with_raw raw old
    ≡ record { variables = old.variables; clauses = old.clauses ++ ascending raw ∷ [] }
with_raw-apart raw old e =
    ap (λ (z : List (List ℤ)). record { variables = old.variables; clauses = z })
    (with_clause-apart raw old.clauses e)

pub with_raw-clash : (raw : List ℤ) (old : Formula) → clashes raw ≡ true → with_raw raw old ≡ old
with_raw-clash raw old e =
    ap (λ (z : List (List ℤ)). record { variables = old.variables; clauses = z })
    (with_clause-clash raw old.clauses e)

pub raw_begins : (raw : List ℤ) (old : Formula) → Begins old (with_raw raw old)
raw_begins raw old =
    let front = with_clause_front raw old.clauses in
    record {
      grows = omega arith;
      front = front_from old.clauses (with_raw raw old).clauses front.0 front.1;
    }

-- a formula that begins with a proper one, cut back to that one, is proper
pub cut_back_proper : (old new : Formula) → Begins old new → IsProper old →
    IsProper (cut_back old.variables (length old.clauses) new)
cut_back_proper old new begins proper =
    subst IsProper (sym (cut_back-begins old new begins)) proper
