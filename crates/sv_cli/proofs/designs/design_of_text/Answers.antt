use Rattle.std.specs.Option.{option_copied}
use Rattle.sv_cli.proofs.TreeAnswers.{design_stands, design_admitted, design_refused}
use Rattle.sv_cli.proofs.designs.design_of_text.Goals as goal

pub returns-clause-stands : goal.returns-clause-stands
returns-clause-stands c =
    design_stands (option_copied c.args.top) c.args.bytes.now c.in_ok-flat.flat
    c.in_ok-flat.ensures.found c.admitted.result c.admitted.ensures.admitted

pub returns-clause-admitted : goal.returns-clause-admitted
returns-clause-admitted c =
    design_admitted (option_copied c.args.top) c.args.bytes.now c.in_ok-flat.flat
    c.in_ok-flat.ensures.found c.admitted.result c.admitted.ensures.admitted

pub returns-clause-broken : goal.returns-clause-broken
returns-clause-broken c =
    design_refused (option_copied c.args.top) c.args.bytes.now c.in_ok-flat.flat
    c.in_ok-flat.ensures.found c.admitted.result c.admitted.ensures.refused
