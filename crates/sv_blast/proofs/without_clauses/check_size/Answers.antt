use Rattle.std.proofs.Common.{◌<◌, ◌≤◌, sym, subst}
use Rattle.sv_flat.specs.Views.{design_of}
use Rattle.sv_gates.specs.Formulas.{most_variables}
use Rattle.sv_obl.specs.Views.{obligation_of}
use Rattle.sv_encoding_laws.proofs.SizeExact.{size_is_exact}
use Rattle.sv_blast.proofs.WholeEncodings.{passes}
use Rattle.sv_blast.proofs.SizeSums.{capped_few}
use Rattle.sv_blast.proofs.without_clauses.check_size.Goals as goal

pub returns-then-size-gt-MOST_VARIABLES-clause-large : goal.returns-then-size-gt-MOST_VARIABLES-clause-large
returns-then-size-gt-MOST_VARIABLES-clause-large c =
    let exact = size_is_exact (design_of c.args.design.now) (obligation_of c.args.query.now)
    c.know_design.ensures.checked c.requires.query in
    λ e. subst (λ z. most_variables < z) (sym exact)
    (passes c.encoding_size-size.result _ c.encoding_size-size.ensures c.if-size-gt-MOST_VARIABLES.true)

pub returns-clause-fits : goal.returns-clause-fits
returns-clause-fits c =
    let exact = size_is_exact (design_of c.args.design.now) (obligation_of c.args.query.now)
    c.know_design.ensures.checked c.requires.query in
    subst (λ z. z ≤ most_variables) (sym exact)
    (capped_few c.encoding_size-size.result _ c.encoding_size-size.ensures c.if-size-gt-MOST_VARIABLES.false)
