-- Unit clauses, as loops add them.
use Rattle.std.proofs.Common.{◌≡◌, ℕ, ◌≤◌, ℤ, List, [], ◌∷◌, ◌++◌, map, refl, ap, ◌∙◌, sym, subst}
use Rattle.std.proofs.Common.{◌⊎◌}
use Rattle.std.proofs.Common.{⊎_elim, inl, inr, Bool, true, false, cond, length}
use Rattle.sv_obl.specs.declared.queries.PathStep.{PathStep}
use Rattle.sv_obl.specs.Views.{step_form}
use Rattle.sv_circuits.proofs.WordKeeps.{none_left}
use Rattle.std.specs.Prelude.{if◌then◌else◌, neg_ℤ}
use Rattle.sv_gates.proofs.GateLaws.{literal_negated, unit_begins}
use Rattle.sv_obl.specs.Paths.{StepForm}
use Rattle.sv_gates.specs.Formulas.{Formula, IsLiteral}
use Rattle.sv_gates.specs.Gates.{with_unit}
use Rattle.sv_gates.specs.Extending.{Begins}
use Rattle.sv_gates.proofs.ExtendingLaws.{begins_none, begins_trans}
use Rattle.sv_circuits.proofs.WordKeeps.{literal_up}
use Rattle.sv_encoding.specs.Encoding.{path_units}
use Rattle.sv_blast.specs.Steps.{units_of}

-- the whole is what is left from the present formula on
pub record UnitsAt (whole : Formula) (rest : List ℤ) (old now : Formula) : Type 0 where
  pub made : whole ≡ units_of rest now
  pub begins : Begins old now

pub units_start : (literals : List ℤ) (old : Formula) →
    UnitsAt (units_of literals old) literals old old
units_start literals old = record { made = refl; begins = begins_none old }

pub units_more : (whole : Formula) (rest more : List ℤ) (old now later : Formula) (l : ℤ) →
    UnitsAt whole rest old now → rest ≡ l ∷ more → later ≡ with_unit l now → Begins now later →
    UnitsAt whole more old later
units_more whole rest more old now later l at e made up = record {
  made = at.made ∙ ap (λ z. units_of z now) e ∙ ap (units_of more) (sym made);
  begins = begins_trans old now later at.begins up;
}

pub units_end : (whole : Formula) (rest : List ℤ) (old now : Formula) → UnitsAt whole rest old now →
    rest ≡ [] → now ≡ whole
units_end whole rest old now at e = sym (at.made ∙ ap (λ z. units_of z now) e)

-- no condition is left where a path or its literals end
pub no_units : (path : List StepForm) (literals : List ℤ) → (path ≡ []) ⊎ (literals ≡ []) →
    path_units path literals ≡ []
no_units path literals ends = ⊎_elim
    (λ e. ap (λ z. path_units z literals) e)
    (λ e. ap (path_units path) e ∙ none path) ends
  where
    none : (path : List StepForm) → path_units path [] ≡ []
    none [] = refl
    none (step ∷ steps) = refl

-- the units of some literals and then of others
pub units_joined : (first second : List ℤ) (formula : Formula) →
    units_of (first ++ second) formula ≡ units_of second (units_of first formula)
units_joined [] second formula = refl
units_joined (l ∷ first) second formula = units_joined first second (with_unit l formula)

-- the unit of a condition, over more variables
pub unit_within : (m n : ℕ) (truth : Bool) (u l : ℤ) → m ≤ n → IsLiteral m l →
    u ≡ (if truth then l else neg_ℤ l) → IsLiteral n u
unit_within m n truth u l h is e = subst (IsLiteral n) (sym e) (by truth)
  where
    up : IsLiteral n l
    up = literal_up m n l h is

    by : (truth : Bool) → IsLiteral n (cond truth l (neg_ℤ l))
    by true = up
    by false = literal_negated n l up

-- a zip ends where the path or the literals have none left
pub steps_end : {S T : Type 0} {P : S → Type 0} {Q : T → Type 0} (path : List PathStep)
    (literals : List ℤ) →
    ((x : S) × ((length path ≡ 0) × P x)) ⊎ ((x : T) × ((length literals ≡ 0) × Q x)) →
    (map step_form path ≡ []) ⊎ (literals ≡ [])
steps_end path literals ends = ⊎_elim
    (λ p. inl (no_step path (p.1).0))
    (λ p. inr (none_left literals (p.1).0)) ends
  where
    no_step : (path : List PathStep) → length path ≡ 0 → map step_form path ≡ []
    no_step [] e = refl
    no_step (step ∷ steps) e = absurd (cc)

-- unit clauses take no variables
pub units_keep : (literals : List ℤ) (formula : Formula) →
    (units_of literals formula).variables ≡ formula.variables
units_keep [] formula = refl
units_keep (l ∷ literals) formula = units_keep literals (with_unit l formula)

-- they are added to what is there
pub units_begin : (literals : List ℤ) (old : Formula) → Begins old (units_of literals old)
units_begin [] old = begins_none old
units_begin (l ∷ literals) old =
    begins_trans old (with_unit l old) (units_of literals (with_unit l old)) (unit_begins l old)
    (units_begin literals (with_unit l old))
