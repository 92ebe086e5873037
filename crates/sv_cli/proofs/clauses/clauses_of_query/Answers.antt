use Rattle.sv_blast.specs.declared.coded.BlastFault.TheVariants.{TooLarge}
use Rattle.sv_flat.specs.Views.{design_of}
use Rattle.sv_obl.specs.Views.{obligation_of}
use Rattle.sv_cli.proofs.Encodings.{holds_clauses, large_encoded, large_is}
use Rattle.sv_cli.proofs.clauses.clauses_of_query.Goals as goal

pub returns-in-Ok : goal.returns-in-Ok
returns-in-Ok c =
    holds_clauses c.args.number (design_of c.args.design.now) c.requires.few
    (obligation_of c.args.query.now) c.requires.found c.in-Ok.coded c.in-Ok.ensures.coded
    c.in-Ok.ensures.few

pub returns-in_ok-report_of_large-in-Err-TooLarge :
    goal.returns-in_ok-report_of_large-in-Err-TooLarge
returns-in_ok-report_of_large-in-Err-TooLarge c =
    large_encoded c.args.number (design_of c.args.design.now) c.requires.few
    (obligation_of c.args.query.now) c.requires.found
    (c.in-Err-TooLarge.ensures.large
    (large_is c.in-Err-TooLarge.field-0 TooLarge c.in-Err-TooLarge.field-0-is))
    c.in_ok-report_of_large-in-Err-TooLarge.field-0 c.in_ok-report_of_large-in-Err-TooLarge.ensures
