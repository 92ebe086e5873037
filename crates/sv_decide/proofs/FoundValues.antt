-- Values that meet the clauses of an encoding spell a valuation that falsifies the obligation, and
-- what is said of the clauses as they were made is said of the encoding.
use Rattle.std.proofs.Common.{◌≡◌, ℕ, ◌≤◌, Bool, ℤ, List, sym, ap, subst, ◌∙◌}
use Rattle.sv_clause.specs.Literals.{Satisfies}
use Rattle.sv_gates.specs.Formulas.{value_of, most_variables}
use Rattle.sv_flat.specs.Design.{FlatDesign}
use Rattle.sv_obl.specs.declared.valuations.Valuation.{Valuation as Listed}
use Rattle.sv_obl.specs.DesignQueries.{IsQueryOf}
use Rattle.sv_obl.specs.Noninterference.{IsChecked}
use Rattle.sv_obl.specs.Obligations.{Obligation}
use Rattle.sv_obl.specs.Validity.{Valuation, Falsifies}
use Rattle.sv_obl.specs.Valuations.{valuation_of}
use Rattle.sv_encoding.specs.BothWays.{IsWhole, IsZeroOutside}
use Rattle.sv_encoding.specs.Deciding.{Fits}
use Rattle.sv_encoding.specs.Encoding.{BitPlace, Encoding, encoding}
use Rattle.sv_encoding.specs.Valuations.{decoded}
use Rattle.sv_encoding_laws.proofs.Directions.{both_ways}
use Rattle.sv_blast.specs.Decoded.{ListsValues}
use Rattle.sv_decide.proofs.SpelledValuations.{spelled_is}

module _ (design : FlatDesign) (o : Obligation) (made : Encoding)
    (same : made ≡ encoding design o) where
  -- the clauses are those of the encoding
  pub clauses_same : (clauses : List (List ℤ)) → clauses ≡ made.clauses →
      clauses ≡ (encoding design o).clauses
  clauses_same clauses are = are ∙ ap (λ (e : Encoding). e.clauses) same

  pub variables_same : (variables : ℕ) → variables ≡ made.variables →
      variables ≡ (encoding design o).variables
  variables_same variables are = are ∙ ap (λ (e : Encoding). e.variables) same

  -- and few enough where these are
  pub made_fits : made.variables ≤ most_variables → Fits design o
  made_fits few = subst (λ (e : Encoding). e.variables ≤ most_variables) same few

  module _ (checked : IsChecked design) (query : IsQueryOf design o)
      (whole : IsWhole design o made) (clauses : List (List ℤ)) (clauses_are : clauses ≡ made.clauses)
      (bits : List BitPlace) (bits_are : bits ≡ made.bits) (values : List Bool)
      (met : Satisfies (value_of values) clauses) (listed : Listed)
      (lists : ListsValues design (decoded design bits (value_of values)) listed) where
    read_is : valuation_of design listed ≡ decoded design (encoding design o).bits (value_of values)
    read_is =
        spelled_is design checked o made whole (value_of values) listed
        (subst (λ (z : List BitPlace). ListsValues design (decoded design z (value_of values)) listed)
        bits_are lists)
        ∙ ap (λ (e : Encoding). decoded design e.bits (value_of values)) same

    met_there : Satisfies (value_of values) (encoding design o).clauses
    met_there = subst (Satisfies (value_of values)) (clauses_same clauses clauses_are) met

    -- the valuation falsifies the obligation, and is 0 where nothing that is asked hangs on it
    pub found : Falsifies design (valuation_of design listed) o
        × IsZeroOutside design o (valuation_of design listed)
    found =
        subst (λ (v : Valuation). Falsifies design v o × IsZeroOutside design o v) (sym read_is)
        (both_ways.0 design o checked query (value_of values) met_there)
