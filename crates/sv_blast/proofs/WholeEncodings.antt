-- The whole encoding from what its steps made.
use Rattle.std.proofs.Common.{◌≡◌, ℕ, ℤ, ◌<◌, ◌≤◌, List, [], ◌∷◌, ◌++◌, true, false, ap, ◌∙◌}
use Rattle.std.proofs.Common.{arith, min}
use Rattle.sv_flat.specs.declared.designs.Flat.{Flat}
use Rattle.sv_flat.specs.Design.{FlatDesign}
use Rattle.sv_flat.specs.Views.{design_of}
use Rattle.sv_obl.specs.Obligations.{Obligation}
use Rattle.sv_obl.specs.Paths.{StepForm}
use Rattle.sv_obl.specs.DesignQueries.{IsQueryOf}
use Rattle.sv_obl.specs.Noninterference.{IsChecked}
use Rattle.sv_gates.specs.Extending.{Begins}
use Rattle.sv_gates.specs.Formulas.{Formula, most_variables}
use Rattle.sv_gates.proofs.ExtendingLaws.{begins_trans}
use Rattle.sv_encoding.specs.Cones.{now_cone, next_cone}
use Rattle.sv_encoding.specs.Encoding.{BitPlace, given_in, inputs_in, bit_places}
use Rattle.sv_encoding.specs.Encoding.{path_units, with_units, encoding}
use Rattle.sv_encoding_laws.proofs.Chain.{free3, p6, p7, p8, p9, p10}
use Rattle.sv_blast.specs.Steps.{after_given, after_settled, after_inputs, after_next, after_facts}
use Rattle.sv_blast.specs.Steps.{after_conditions, after_target, after_reads, after_violation}
use Rattle.sv_blast.proofs.StepFacts.{registers_more, next_more}
use Rattle.sv_blast.proofs.UnitClauses.{units_keep, units_begin}

-- the formula with all unit clauses
abbrev pub last_formula : FlatDesign → Obligation → Formula
last_formula design o =
    with_units (after_facts design o).1 o.path (after_conditions design o).1
    (after_violation design o).1 (after_violation design o).0

abbrev pub all_places : FlatDesign → Obligation → List BitPlace
all_places design o =
    bit_places false (after_given design o).1 (given_in design (now_cone design o))
    ++ bit_places true (after_inputs design o).1 (inputs_in design (next_cone design o))

pub encoding_path : (design : FlatDesign) (o : Obligation) (variables : ℕ) (bits : List BitPlace)
    (clauses : List (List ℤ)) → variables ≡ (last_formula design o).variables →
    bits ≡ all_places design o → clauses ≡ (last_formula design o).clauses →
    record { variables = variables; bits = bits; clauses = clauses } ≡ encoding design o
encoding_path design o variables bits clauses v b c = λ i. record {
  variables = v i;
  bits = b i;
  clauses = c i;
}

pub units_path : (design : FlatDesign) (o : Obligation) (facts conditions : List ℤ)
    (path : List StepForm) (z : Formula × ℤ) → facts ≡ (after_facts design o).1 → path ≡ o.path →
    conditions ≡ (after_conditions design o).1 → z ≡ after_violation design o →
    with_units facts path conditions z.1 z.0 ≡ last_formula design o
units_path design o facts conditions path z f p c v =
    ap (λ x. with_units x path conditions z.1 z.0) f
    ∙ ap (λ x. with_units (after_facts design o).1 x conditions z.1 z.0) p
    ∙ ap (λ x. with_units (after_facts design o).1 o.path x z.1 z.0) c
    ∙ ap (λ (z : Formula × ℤ). with_units (after_facts design o).1 o.path
    (after_conditions design o).1 z.1 z.0) v

module _ (flat : Flat) (checked : IsChecked (design_of flat)) (o : Obligation)
    (query : IsQueryOf (design_of flat) o) where
  abbrev design : FlatDesign
  design = design_of flat

  pub last_same : (encoding design o).variables ≡ (after_violation design o).0.variables
  last_same =
      units_keep ((after_facts design o).1
      ++ path_units o.path (after_conditions design o).1 ++ (after_violation design o).1 ∷ [])
      (after_violation design o).0

  pub next_within : (after_next design o).0.variables ≤ (encoding design o).variables
  next_within =
      let a = (p6 design checked o query).extends.begins.grows in
      let b = (p7 design checked o query).extends.begins.grows in
      let d = (p8 design checked o query).extends.begins.grows in
      let g = (p9 design checked o query).extends.begins.grows in
      let h = (p10 design checked o query).extends.begins.grows in
      omega (arith, last_same, a, b, d, g, h)

  pub settled_within : (after_settled design o).0.variables ≤ (encoding design o).variables
  settled_within =
      let a = (free3 design checked o query).begins.grows in
      let b = registers_more flat checked o query in
      let d = next_more flat checked o query in
      let g = next_within in
      omega (arith, a, b, d, g)

  -- what the conditions take is no more than what all takes
  pub conditions_within : (after_conditions design o).0.variables ≤ (after_violation design o).0.variables
  conditions_within =
      let d = (p8 design checked o query).extends.begins.grows in
      let g = (p9 design checked o query).extends.begins.grows in
      let h = (p10 design checked o query).extends.begins.grows in
      omega (arith, d, g, h)

  -- all that comes behind the conditions is added to their formula
  pub conditions_begin : Begins (after_conditions design o).0 (last_formula design o)
  conditions_begin =
      let target = (p8 design checked o query).extends.begins in
      let reads = (p9 design checked o query).extends.begins in
      let fails = (p10 design checked o query).extends.begins in
      let units = units_begin ((after_facts design o).1
      ++ path_units o.path (after_conditions design o).1 ++ (after_violation design o).1 ∷ [])
      (after_violation design o).0 in
      begins_trans (after_conditions design o).0 (after_violation design o).0 (last_formula design o)
      (begins_trans (after_conditions design o).0 (after_reads design o).0
      (after_violation design o).0
      (begins_trans (after_conditions design o).0 (after_target design o).0 (after_reads design o).0
      target reads)
      fails)
      units

-- a size that is told as more than the most is more
pub passes : (told size : ℕ) → told ≡ min size 4194305 → 4194304 < told → most_variables < size
passes told size e h = omega (arith, e, h)
