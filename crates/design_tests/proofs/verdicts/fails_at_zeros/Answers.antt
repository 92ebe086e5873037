use Rattle.std.proofs.Common.{sym, subst}
use Rattle.sv_flat.specs.declared.designs.Flat.{Flat}
use Rattle.sv_flat.specs.Views.{design_of}
use Rattle.sv_obl.specs.Valuations.{FitsDesign}
use Rattle.sv_decide.specs.Decisions.{WhereFails}
use Rattle.design_tests.proofs.verdicts.fails_at_zeros.Goals as goal

pub falsifies-requires-clause-fits : goal.falsifies-requires-clause-fits
falsifies-requires-clause-fits c =
    subst (λ (flat : Flat). FitsDesign (design_of flat) c.in-Fails.values)
    (sym c.in_ok-sim.ensures.design)
    (subst (WhereFails (FitsDesign (design_of c.args.design.now))) c.in-Fails.is
    c.in_ok-values.ensures.fails_fits)
