use Rattle.std.proofs.Common.{sym, rules}
use Rattle.std.specs.Result.{IsErrOf}
use Rattle.sv_gates.specs.declared.gates.GateFault.TheVariants.{Full}
use Rattle.sv_circuits.proofs.WordKeeps.{word_up}
use Rattle.sv_blast.proofs.PointSteps.{those_take, those_skip, is_among}
use Rattle.sv_blast.proofs.PointSteps.{points_more, points_same, points_full}
use Rattle.sv_blast.proofs.labels.point_literals.Goals as goal

pub points-preserved-then-not-has_row : goal.points-preserved-then-not-has_row
points-preserved-then-not-has_row c =
    points_same _ _ _ _ _ _ _ _ _ c.points.invariant
    (those_skip c.points.number c.args.points (is_among c.args.table.now) c.points-test.true
    (sym c.if-not-has_row.ensures))

pub point_literal-requires : goal.point_literal-requires
point_literal-requires c =
    word_up _ _ c.args.selector.now c.points.invariant.begins.grows c.requires.word

pub returns-in_err-literal-clause-full : goal.returns-in_err-literal-clause-full
returns-in_err-literal-clause-full c =
    let same : IsErrOf c.from_residual.result Full → IsErrOf c.point_literal.result Full =
    search rules in
    λ e. points_full _ _ _ _ _ _ _ _ _ _ _ c.points.invariant
    (those_take c.points.number c.args.points (is_among c.args.table.now) c.points-test.true
    (sym c.if-not-has_row.ensures))
    (c.point_literal.ensures.full (same e))

pub points-preserved : goal.points-preserved
points-preserved c =
    rw c.in_ok-append_literal.ensures (points_more _ _ _ _ _ _ _ _ _ _ _ _ c.points.invariant
    (those_take c.points.number c.args.points (is_among c.args.table.now) c.points-test.true
    (sym c.if-not-has_row.ensures)) c.points-test.true c.in_ok-literal.ensures.made
    c.in_ok-literal.ensures.begins c.in_ok-literal.ensures.within)
