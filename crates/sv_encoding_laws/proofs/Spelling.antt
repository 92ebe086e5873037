-- Words spell values, as it is said of whole expressions.
use Rattle.std.proofs.Common.{ℕ, ◌==◌, refl, arith}
use Rattle.std.specs.Prelude.{Contains}
use Rattle.std.proofs.lemmas.Bool.{eq-eqb}
use Rattle.sv_flat.specs.Values.{signal_width}
use Rattle.sv_flat.specs.Readings.{ReadForm, reads}
use Rattle.sv_flat.proofs.LeastSets.{some_from}
use Rattle.sv_encoding.specs.BothWays.{WordsSpellValues}
use Rattle.sv_encoding_laws.proofs.ExpressionLaws.{expression_makes}
use Rattle.sv_encoding_laws.proofs.NamedValues.{named_from_reads}
use Rattle.sv_encoding_laws.proofs.Steps.{HasWidth}

pub words_spell_values : WordsSpellValues
words_spell_values signals words e formula bits formed stands =
    let named = named_from_reads signals (HasWidthOf) e (λ r at. of_read r at) in
    let p = expression_makes signals bits words formula.variables e formed named formula
    (omega arith) stands.base in
    record {
      extends = p.extends;
      within = (p.within.is, p.within.width);
      says = p.says;
    }
  where
    HasWidthOf : ℕ → Type 0
    HasWidthOf s = HasWidth (signal_width signals s) formula.variables (words s)

    of_read : (r : ReadForm) → Contains (reads signals e) r → HasWidthOf r.signal
    of_read r at =
        let named = some_from (λ (x : ReadForm). x.signal == r.signal) (reads signals e) r at
        (eq-eqb r.signal r.signal refl) in
        record {
          is = stands.inside r.signal named;
          width = stands.widths r.signal named;
        }
