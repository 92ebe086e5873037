use Rattle.std.proofs.Common.{sym, subst, ◌∙◌}
use Rattle.sv_circuits.specs.Circuits.{IsWord}
use Rattle.sv_circuits.proofs.WordKeeps.{inverted_within}
use Rattle.sv_circuits.proofs.adders.difference.Goals as goal

pub sum_with-requires-clause-b : goal.sum_with-requires-clause-b
sum_with-requires-clause-b c =
    subst (IsWord c.args.gates.now.variables)
    (sym (c.deref.ensures.value ∙ c.in_ok-turned.ensures))
    (inverted_within _ c.args.b.now c.requires.b)
