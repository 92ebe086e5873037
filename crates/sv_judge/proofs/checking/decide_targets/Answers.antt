use Rattle.std.proofs.Common.{sym, subst}
use Rattle.sv_flat.specs.Views.{design_of}
use Rattle.sv_judge.specs.Walking.{ComeNext}
use Rattle.sv_judge.proofs.checking.decide_targets.Goals as goal

pub decide_paths-requires-clause-next : goal.decide_paths-requires-clause-next
decide_paths-requires-clause-next c =
    subst (λ n. ComeNext (design_of c.args.design.now) n c.in_ok-paths.paths)
    (sym c.loop-s.invariant.same) c.in_ok-paths.ensures.next
