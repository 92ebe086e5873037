use Rattle.std.proofs.Common.{ap, ◌∙◌, arith}
use Rattle.std.proofs.Math.Nat.{pow-le-pow_right}
use Rattle.std.proofs.lemmas.Nat.{one_shl}
use Rattle.sv_graph.specs.BitSets.{is_set}
use Rattle.sv_graph.proofs.BitFacts.{run_has, run_is}
use Rattle.sv_graph.proofs.bit_sets.mask.Goals as goal

pub overflow_sub-result : goal.overflow_sub-result
overflow_sub-result c =
    rw (one_shl c.args.low 64 (omega arith), one_shl c.args.high 64 (omega arith))
    (pow-le-pow_right {n = 2} (omega arith) c.requires.ordered)

pub returns : goal.returns
returns c = λ b.
    rw (one_shl c.args.low 64 (omega arith), one_shl c.args.high 64 (omega arith))
    (ap (λ n. is_set n b) (run_is c.args.low c.args.high c.requires.ordered)
    ∙ run_has c.args.low c.args.high b)
