use Rattle.sv_flat.specs.Views.{design_of}
use Rattle.sv_cli.proofs.Encodings.{excess_encoded}
use Rattle.sv_cli.proofs.clauses.clauses_of_design.Goals as goal

pub returns-in_ok-report_of_fault-in-Err : goal.returns-in_ok-report_of_fault-in-Err
returns-in_ok-report_of_fault-in-Err c =
    excess_encoded c.args.number (design_of c.args.design.now)
    c.in_ok-report_of_fault-in-Err.field-0
    c.in_ok-report_of_fault-in-Err.ensures
