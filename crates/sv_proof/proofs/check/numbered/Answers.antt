use Rattle.std.proofs.Common.{arith, ap, sym, ◌∙◌, Some}
use Rattle.sv_proof.proofs.Numbers.{numbered_step, numbered_past}
use Rattle.sv_proof.proofs.check.numbered.Goals as goal

pub returns-then-place-earlier : goal.returns-then-place-earlier
returns-then-place-earlier c =
    ap (λ z. Some z.clause) (sym c.index-earlier-place.is)
    ∙ numbered_step c.args.known.now.given.now c.args.known.now.earlier.now c.args.number
    c.index-earlier-place.result (omega arith) (omega arith) (omega arith)
    c.index-earlier-place.is

pub returns : goal.returns
returns c =
    numbered_past c.args.known.now.given.now c.args.known.now.earlier.now c.args.number
    (omega arith) (omega arith) (omega arith)
