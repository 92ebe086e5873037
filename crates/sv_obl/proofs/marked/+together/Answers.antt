use Rattle.sv_obl.specs.Marked.{IsChain, EndsIn}
use Rattle.sv_obl.proofs.MarkedFacts.{two_ends}
use Rattle.sv_obl.proofs.SliceChains.{on_ok}
use Rattle.sv_obl.proofs.marked.+together.Goals as goal

pub returns-clause-ends : goal.returns-clause-ends
returns-clause-ends t c =
    let old = c.args.parts.now.items in
    let middle = c.together.new.parts.items in
    let front = c.together-2.new.parts.items in
    on_ok c.chained.result (IsChain c.in_ok-first.first c.in_ok-second.second)
    (EndsIn old front)
    (λ whole chain. two_ends old middle front c.in_ok-first.first c.in_ok-second.second whole
    c.in_ok-first.ensures.ends c.in_ok-second.ensures.ends chain)
    c.chained.ensures
