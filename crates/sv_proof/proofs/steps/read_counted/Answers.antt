use Rattle.std.proofs.Common.{decimal, sym, ◌∙◌}
use Rattle.std.proofs.lemmas.List.{append_cancel_left}
use Rattle.sv_proof.proofs.steps.read_counted.Goals as goal

pub returns-clause-none : goal.returns-clause-none
returns-clause-none c =
    λ none n small e. c.read_below.ensures.none none n small
    (append_cancel_left c.args.prefix.now c.in_ok-rest.rest.now (decimal n)
    (sym c.in_ok-rest.ensures.some ∙ e))
