use Rattle.std.proofs.Common.{◌++◌, codes, refl, sym, ◌∙◌}
use Rattle.sv_proof.specs.Certificate.{number_words}
use Rattle.sv_proof.proofs.Spelling.{same_literals}
use Rattle.sv_proof.proofs.steps.read_step.Goals as goal

pub returns-in_default-2-clause-none : goal.returns-in_default-2-clause-none
returns-in_default-2-clause-none c =
    λ none step writable e.
    let some = rw c.in-Some.is at c.in_ok-literals.ensures.some in
    let normal = rw c.in-Some.is at c.in_ok-literals.ensures.normal in
    let stuck = rw c.in_default-2.is at c.in_ok-chain.ensures.none in
    let parts = same_literals 0 c.in-Some.literals.items step.clause c.in-Some.rest.now
    (number_words step.chain ++ codes "0") normal writable.clause (sym some ∙ e) in
    stuck refl step.chain writable.chain parts.1
