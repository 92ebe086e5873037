use Rattle.std.proofs.Common.{arith}
use Rattle.std.proofs.lemmas.List.{at_drop_all}
use Rattle.sv_elab_stmt.specs.Targets.{parts_width}
use Rattle.sv_elab_stmt.proofs.targets.total_width.Goals as goal

pub returns : goal.returns
returns c =
    omega (
      arith,
      c.loop-part.invariant,
      at_drop_all parts_width c.args.parts.now
          c.loop-part.part-index c.loop-part-test.false,
    )
