use Rattle.std.proofs.Common.{◌==◌, ap, ◌∙◌}
use Rattle.sv_design.specs.Numbers.{numbers}
use Rattle.sv_flat.specs.Views.{design_of}
use Rattle.sv_encoding.specs.Sizes.{stays_size}
use Rattle.sv_blast.proofs.SizeSums.{capped_none}
use Rattle.sv_blast.proofs.without_clauses.none_stays.Goals as goal

pub returns : goal.returns
returns c =
    ap (λ n. n == 0) c.stays_size.ensures
    ∙ capped_none (stays_size (design_of c.args.design.now) (numbers c.args.reads.now)
    c.args.target.0)
