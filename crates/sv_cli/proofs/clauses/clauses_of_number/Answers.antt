use Rattle.std.proofs.Common.{sym, ap, ◌∙◌}
use Rattle.std.specs.Prelude.{option_map}
use Rattle.sv_flat.specs.Views.{design_of}
use Rattle.sv_obl.specs.Views.{obligation_of}
use Rattle.sv_cli.proofs.Encodings.{none_encoded}
use Rattle.sv_cli.proofs.clauses.clauses_of_number.Goals as goal

pub returns-in_ok-report_of_bare_limit-in-None : goal.returns-in_ok-report_of_bare_limit-in-None
returns-in_ok-report_of_bare_limit-in-None c =
    none_encoded c.args.number (design_of c.args.design.now) c.requires
    (sym c.in_ok-query.ensures.found ∙ ap (option_map obligation_of) c.in-None.is)
    c.in_ok-report_of_bare_limit-in-None.field-0 c.in_ok-report_of_bare_limit-in-None.ensures
