-- Where labels alone show that an obligation is valid, one step refutes its clauses: the first
-- clause and the last one, resolved.
use Rattle.std.proofs.Common.{◌≡◌, Bool, true, false, not, ◌&&◌, ◌||◌, ◌≤◌, ℤ, List, [], ◌∷◌, length}
use Rattle.std.proofs.Common.{Some, None, refl, ap, ◌∙◌, ⊎_elim, arith}
use Rattle.std.specs.Prelude.{IsTrue, slice_get}
use Rattle.std.specs.Ordering.{int_eq}
use Rattle.std.proofs.lemmas.Bool.{false≢true, or_cases}
use Rattle.sv_clause.specs.Literals.{stands}
use Rattle.sv_clause.specs.Logs.{Step, Refutes}
use Rattle.sv_clause.specs.Resolution.{IsResolvent}
use Rattle.sv_clause.proofs.Standing.{same_from_int_eq}
use Rattle.sv_gates.specs.Gates.{true_literal, false_literal}
use Rattle.sv_flat.specs.Design.{FlatDesign}
use Rattle.sv_obl.specs.DesignQueries.{IsQueryOf}
use Rattle.sv_obl.specs.Noninterference.{IsChecked}
use Rattle.sv_obl.specs.Obligations.{Obligation}
use Rattle.sv_encoding.specs.BothWays.{BeginsAndEndsFalse, always_goes}
use Rattle.sv_encoding.specs.Deciding.{IsRefutedBy}
use Rattle.sv_encoding.specs.Encoding.{encoding}
use Rattle.sv_encoding_laws.proofs.Deciding.{labels_alone_decide}

-- a literal that stands in a clause of one literal is that literal
only_one : (literal one : ℤ) → IsTrue (stands literal (one ∷ [])) → literal ≡ one
only_one literal one stand =
    ⊎_elim (same_from_int_eq literal one) (λ none. absurd (false≢true none))
    (or_cases (int_eq literal one) false stand)

-- what stands in neither clause but for the literal that is resolved on
none_left : (first second : Bool) →
    false ≡ (((first || false) && not first) || ((second || false) && not second))
none_left true true = refl
none_left true false = refl
none_left false true = refl
none_left false false = refl

-- the two clauses clash on variable 1 alone, and nothing is left
empty_resolvent : IsResolvent (true_literal ∷ []) (false_literal ∷ []) true_literal []
empty_resolvent = record {
  clash = record {
    here = refl;
    there = refl;
    only = λ other here there. only_one other true_literal here;
  };
  literals = λ other. none_left (int_eq other true_literal) (int_eq other false_literal);
}

-- the step
abbrev one_step : (clauses : List (List ℤ)) → Step
one_step clauses = record { clause = []; chain = 1 ∷ length clauses ∷ [] }

ends_refute : (clauses : List (List ℤ)) → BeginsAndEndsFalse clauses →
    (steps : List Step) × Refutes clauses steps × (length steps ≤ 1)
ends_refute [] ends = absurd (none_is_some ends.begins)
  where
    none_is_some : {X : Type 0} {x : X} → None ≡ Some x → ⊥
    none_is_some e = cc
ends_refute (clause ∷ clauses) ends =
    let all = clause ∷ clauses in
    let last : slice_get all (length clauses) ≡ Some (false_literal ∷ []) =
    ap (slice_get all) (omega arith) ∙ ends.ends in (
      one_step all ∷ [],
      record {
        derived = (
          (
            true_literal ∷ [],
            ends.begins,
            (false_literal ∷ [], true_literal, [], last, empty_resolvent, λ literal. refl),
          ),
          tt,
        );
        ends_empty = refl;
      },
      omega arith,
    )

pub labels_refute : (design : FlatDesign) (o : Obligation) → IsChecked design → IsQueryOf design o
    → IsTrue (always_goes design o.reads o.goal)
    → (steps : List Step) × IsRefutedBy design o steps × (length steps ≤ 1)
labels_refute design o checked query goes =
    ends_refute (encoding design o).clauses (labels_alone_decide design o checked query goes)
