use Rattle.std.proofs.Common.{◌≤◌, List, ℕ, length, subst, sym, arith}
use Rattle.sv_gen.proofs.SampleLength.{sample_short}
use Rattle.sv_gen.proofs.sample.generate.Goals as goal

pub returns-in-Ok-clause-small : goal.returns-in-Ok-clause-small
returns-in-Ok-clause-small c =
    subst (λ (t : List ℕ). length t ≤ 1048576) (sym c.in-Ok.ensures)
    (sample_short c.args.lanes (omega arith))
