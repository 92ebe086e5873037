use Rattle.std.proofs.Common.{ℕ, List, subst}
use Rattle.std.specs.Prelude.{IfOk}
use Rattle.sv_num.specs.Rules.{rule_number}
use Rattle.sv_cli.specs.Limits.{TellsLimit}
use Rattle.sv_cli.specs.Prepared.{Says}
use Rattle.sv_cli.proofs.report.report_of_bare_limit.Goals as goal

pub returns : goal.returns
returns c =
    subst (λ (ns : List (List ℕ)).
    IfOk c.report_of_limit.result (Says (TellsLimit c.args.style (rule_number c.args.limit) ns)))
    c.new.ensures.items
    c.report_of_limit.ensures
