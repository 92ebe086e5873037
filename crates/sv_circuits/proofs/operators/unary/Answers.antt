use Rattle.std.proofs.Common.{sym, subst}
use Rattle.sv_circuits.specs.Circuits.{IsWord}
use Rattle.sv_circuits.proofs.WordKeeps.{inverted_within}
use Rattle.sv_circuits.proofs.operators.unary.Goals as goal

pub returns-in_ok-inverted-in-Invert-clause-within :
    goal.returns-in_ok-inverted-in-Invert-clause-within
returns-in_ok-inverted-in-Invert-clause-within c =
    subst (IsWord c.args.gates.now.variables) (sym c.in_ok-inverted-in-Invert.ensures)
    (inverted_within _ c.args.a.now c.requires)
