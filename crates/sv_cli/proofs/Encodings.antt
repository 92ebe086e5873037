-- What is prepared of a design to print the clauses of an obligation.
use Rattle.std.proofs.Common.{◌≡◌, ℕ, ◌≤◌, [], ◌∷◌, Some, None, subst}
use Rattle.std.specs.Prelude.{Result, Err, decimal}
use Rattle.sv_flat.specs.Design.{FlatDesign}
use Rattle.sv_gates.specs.Formulas.{most_variables}
use Rattle.sv_paths.specs.Limits.{excess}
use Rattle.sv_obl.specs.Obligations.{Obligation}
use Rattle.sv_encoding.specs.Deciding.{IsTooLarge}
use Rattle.sv_encoding.specs.Encoding.{Encoding, encoding}
use Rattle.sv_blast.specs.Coded.{encoding_of}
use Rattle.sv_blast.specs.declared.coded.BlastFault.{BlastFault}
use Rattle.sv_blast.specs.declared.coded.Coded.{Coded}
use Rattle.sv_report.specs.declared.styles.Style.TheVariants.{Lines}
use Rattle.sv_cli.specs.declared.report.Report.{Report}
use Rattle.sv_cli.specs.Limits.{TellsLimit, ExceedsLimit}
use Rattle.sv_cli.specs.Lists.{obligation_at, Encodes, exceeds, lacks, too_large}
use Rattle.sv_cli.specs.Prepared.{Says, HoldsClauses}

pub large_is : (f g : BlastFault) → f ≡ g → ◌≡◌ {A = Result Coded BlastFault} (Err f) (Err g)
large_is f g same = cc

module _ (asked : ℕ) (design : FlatDesign) where
  -- a limit is exceeded
  pub excess_encoded : (report : Report) → Says (ExceedsLimit Lines design) report
      → Says (Encodes asked design) report
  excess_encoded report (answer, answered, told) = (answer, answered, exceeds told)

  module _ (few : excess design ≡ None) where
    -- no obligation has the number
    pub none_encoded : obligation_at design asked ≡ None → (report : Report)
        → Says (TellsLimit Lines 706 []) report → Says (Encodes asked design) report
    none_encoded none report (answer, answered, tells) =
        (answer, answered, lacks (record { few = few; none = none; tells = tells }))

    module _ (o : Obligation) (found : obligation_at design asked ≡ Some o) where
      -- its encoding is too large
      pub large_encoded : IsTooLarge design o → (report : Report)
          → Says (TellsLimit Lines 709 (decimal asked ∷ [])) report
          → Says (Encodes asked design) report
      large_encoded large report (answer, answered, tells) = (
        answer,
        answered,
        too_large (record {
          few = few;
          obligation = o;
          found = found;
          large = large;
          tells = tells;
        }),
      )

      -- or its clauses are made
      pub holds_clauses : (coded : Coded) → encoding_of coded ≡ encoding design o
          → coded.variables ≤ most_variables → HoldsClauses design asked coded
      holds_clauses coded is within = record {
        few = few;
        obligation = o;
        found = found;
        coded_is = is;
        fits = subst (λ (e : Encoding). e.variables ≤ most_variables) is within;
      }
