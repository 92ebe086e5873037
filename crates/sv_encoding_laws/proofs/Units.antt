-- Unit clauses, and the formula they start from.
use Rattle.std.proofs.Common.{◌≡◌, ℕ, ◌+◌, Bool, true, false, ◌&&◌, ◌||◌, ℤ, List, [], ◌∷◌}
use Rattle.std.proofs.Common.{◌++◌, fold, refl, sym, ◌∙◌}
use Rattle.std.specs.Prelude.{IsTrue, pos}
use Rattle.std.proofs.Common.{arith}
use Rattle.std.proofs.lemmas.List.Sums.{AllPass-from_list_all, list_all-from_AllPass}
use Rattle.sv_num.specs.Vectors.{truth}
use Rattle.sv_clause.specs.Literals.{literal_true, clause_true, Satisfies}
use Rattle.sv_gates.specs.Formulas.{Formula, meets, IsLiteral}
use Rattle.sv_gates.specs.Gates.{start, with_unit}
use Rattle.sv_gates.proofs.ExtendingLaws.{start_closed}
use Rattle.sv_gates.proofs.GateLaws.{unit_says}
use Rattle.sv_flat.proofs.Depths.{first_of, second_of}
use Rattle.sv_flat.proofs.AdmittedFacts.{and_true}
use Rattle.sv_circuits.specs.Circuits.{IsBase}

-- ---- the start

pub base_start : IsBase start
base_start = record {
  closed = start_closed;
  some = omega arith;
  truth = λ values e. alone (values 1) (first_of (clause_true values (pos 1 ∷ [])) true e);
}
  where
    alone : (b : Bool) → IsTrue (b || false) → b ≡ true
    alone true h = refl
    alone false h = h

pub start_met : meets (λ n. true) start.clauses ≡ true
start_met = refl

-- ---- unit clauses

abbrev pub add_units : List ℤ → Formula → Formula
add_units literals formula = fold (λ formula literal. with_unit literal formula) formula literals

abbrev pub AreInside : ℕ → List ℤ → Type 0
AreInside n [] = Unit {0}
AreInside n (literal ∷ literals) = IsLiteral n literal × AreInside n literals

abbrev pub AreTrue : (ℕ → Bool) → List ℤ → Type 0
AreTrue values [] = Unit {0}
AreTrue values (literal ∷ literals) =
    (literal_true values literal ≡ true) × AreTrue values literals

pub units_met : (literals : List ℤ) (old : Formula) (values : ℕ → Bool) →
    AreInside old.variables literals → meets values old.clauses ≡ true → AreTrue values literals →
    meets values (add_units literals old).clauses ≡ true
units_met [] old values inside met true_ones = met
units_met (literal ∷ literals) old values inside met true_ones =
    units_met literals (with_unit literal old) values inside.1
    (unit_says values literal old inside.0
    ∙ and_true (meets values old.clauses) (literal_true values literal) met true_ones.0)
    true_ones.1

pub units_say : (literals : List ℤ) (old : Formula) (values : ℕ → Bool) →
    AreInside old.variables literals → meets values (add_units literals old).clauses ≡ true →
    (meets values old.clauses ≡ true) × AreTrue values literals
units_say [] old values inside met = (met, tt)
units_say (literal ∷ literals) old values inside met =
    let rest = units_say literals (with_unit literal old) values inside.1 met in
    let both : IsTrue (meets values old.clauses && literal_true values literal) =
    sym (unit_says values literal old inside.0) ∙ rest.0 in (
      first_of (meets values old.clauses) (literal_true values literal) both,
      (second_of (meets values old.clauses) (literal_true values literal) both, rest.1),
    )

pub inside_join : (n : ℕ) (xs ys : List ℤ) → AreInside n xs → AreInside n ys →
    AreInside n (xs ++ ys)
inside_join n [] ys one two = two
inside_join n (x ∷ xs) ys one two = (one.0, inside_join n xs ys one.1 two)

pub true_join : (values : ℕ → Bool) (xs ys : List ℤ) → AreTrue values xs → AreTrue values ys →
    AreTrue values (xs ++ ys)
true_join values [] ys one two = two
true_join values (x ∷ xs) ys one two = (one.0, true_join values xs ys one.1 two)

pub true_parts : (values : ℕ → Bool) (xs ys : List ℤ) → AreTrue values (xs ++ ys) →
    AreTrue values xs × AreTrue values ys
true_parts values [] ys all = (tt, all)
true_parts values (x ∷ xs) ys all =
    let rest = true_parts values xs ys all.1 in ((all.0, rest.0), rest.1)

-- ---- all clauses true

pub meets_from : (values : ℕ → Bool) (clauses : List (List ℤ)) → Satisfies values clauses →
    meets values clauses ≡ true
meets_from values clauses all = list_all-from_AllPass (clause_true values) clauses all

pub satisfies_from : (values : ℕ → Bool) (clauses : List (List ℤ)) →
    meets values clauses ≡ true → Satisfies values clauses
satisfies_from values clauses met = AllPass-from_list_all (clause_true values) clauses met
