use Rattle.std.proofs.Common.{sym, subst, ◌∙◌}
use Rattle.sv_circuits.specs.Circuits.{IsWord}
use Rattle.sv_circuits.proofs.WordKeeps.{ordered_within}
use Rattle.sv_circuits.proofs.comparators.less.Goals as goal

pub less_after-requires-clause-a : goal.less_after-requires-clause-a
less_after-requires-clause-a c =
    subst (IsWord c.args.gates.now.variables) (sym (c.deref.ensures.value ∙ c.in_ok-a.ensures))
    (ordered_within _ c.args.signed c.args.a.now c.requires.a)

pub less_after-requires-clause-b : goal.less_after-requires-clause-b
less_after-requires-clause-b c =
    subst (IsWord c.args.gates.now.variables) (sym (c.deref-2.ensures.value ∙ c.in_ok-b.ensures))
    (ordered_within _ c.args.signed c.args.b.now c.requires.b)
