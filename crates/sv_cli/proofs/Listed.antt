-- What is told of a limit that a design exceeds.
use Rattle.std.proofs.Common.{◌≡◌, ℕ, List, length, Some, subst}
use Rattle.std.specs.Prelude.{Result, Ok, Err, IfOk}
use Rattle.std.specs.declared.alloc.AllocError.{AllocError}
use Rattle.sv_flat.specs.declared.designs.Flat.{Flat}
use Rattle.sv_flat.specs.Design.{FlatDesign}
use Rattle.sv_flat.specs.Views.{signal_form, design_of}
use Rattle.sv_paths.specs.Limits.{Excess, excess}
use Rattle.sv_obl.proofs.FormLists.{length_mapped}
use Rattle.sv_report.specs.declared.styles.Style.{Style}
use Rattle.sv_cli.specs.declared.report.Report.{Report}
use Rattle.sv_cli.specs.Limits.{TellsLimit, limit_number, limit_names, ExceedsLimit}
use Rattle.sv_cli.specs.Prepared.{Says}
use Rattle.sv_cli.proofs.Limits.{IsBelow, told_below}

-- a target that is told with a limit is a signal of the design
pub name_below : (flat : Flat) (exceeded : Excess) → excess (design_of flat) ≡ Some exceeded
    → IsBelow (length flat.signals.items) exceeded
name_below flat exceeded first =
    subst (λ n. IsBelow n exceeded) (length_mapped signal_form flat.signals.items)
    (told_below (design_of flat) exceeded first)

-- a report of the limit tells that it is exceeded
pub tells_excess : (style : Style) (design : FlatDesign) (exceeded : Excess)
    (names : List (List ℕ))
    → excess design ≡ Some exceeded → names ≡ limit_names design.signals exceeded
    → (r : Result Report AllocError)
    → IfOk r (Says (TellsLimit style (limit_number exceeded) names))
    → IfOk r (Says (ExceedsLimit style design))
tells_excess style design exceeded names first named (Ok report) (answer, answered, tells) = (
  answer,
  answered,
  record {
    exceeded = exceeded;
    first = first;
    tells =
        subst (λ (ns : List (List ℕ)).
        TellsLimit style (limit_number exceeded) ns answer report.text.items) named tells;
  },
)
tells_excess style design exceeded names first named (Err e) told = tt
