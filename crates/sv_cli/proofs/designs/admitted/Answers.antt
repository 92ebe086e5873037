use Rattle.sv_flat.specs.Views.{design_of}
use Rattle.sv_cli.proofs.TreeAnswers.{refused_by}
use Rattle.sv_cli.proofs.designs.admitted.Goals as goal

pub returns-clause-refused : goal.returns-clause-refused
returns-clause-refused c =
    refused_by (design_of c.args.flat) c.in-Err.fault c.in-Err.ensures.refused
