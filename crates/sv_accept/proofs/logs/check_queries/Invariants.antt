use Rattle.sv_flat.specs.Views.{design_of}
use Rattle.sv_blast.specs.Coders.{IsCoder}
use Rattle.sv_accept.proofs.Accepted.{AcceptedBelow}
use Rattle.sv_accept.proofs.logs.check_queries.Given as goal

abbrev pub invariant-queries : goal.invariant-queries
invariant-queries l =
    AcceptedBelow (design_of l.design) l.queries l.logs l.i × IsCoder (design_of l.design) l.coder
