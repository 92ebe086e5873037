use Rattle.std.proofs.Common.{ap, ◌∙◌, ◌++◌, sym, subst}
use Rattle.std.specs.Prelude.{replicate}
use Rattle.sv_circuits.specs.Circuits.{IsWord}
use Rattle.sv_circuits.proofs.WordKeeps.{word_same}
use Rattle.sv_circuits.proofs.adders.zeros.Goals as goal

pub returns-clause-within : goal.returns-clause-within
returns-clause-within c =
    subst (IsWord c.args.gates.now.variables)
    (sym (c.in_ok-append_same.ensures ∙ ap (λ z. z ++ replicate c.args.width c.falsity-none.result)
    c.in_ok-word.ensures.items))
    (word_same _ c.args.width c.falsity-none.result c.falsity-none.ensures.within)
