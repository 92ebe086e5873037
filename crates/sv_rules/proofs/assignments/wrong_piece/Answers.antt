use Rattle.sv_flat.specs.Views.{design_of, process_kind}
use Rattle.sv_rules.proofs.WrongPieces.{one_piece_more}
use Rattle.sv_rules.proofs.assignments.wrong_piece.Goals as goal

pub loop-piece-preserved : goal.loop-piece-preserved
loop-piece-preserved c =
    one_piece_more (design_of c.args.flat.now) (process_kind c.args.kind) c.args.blocking
    c.args.pieces.now c.loop-piece.piece-index _
    c.loop-piece-test.true c.loop-piece.found c.found_if.result c.first_of-found.result
    c.loop-piece.before c.add.new.self
    c.is_wrong-wrong.result c.mask.result c.loop-piece.invariant c.is_wrong-wrong.ensures
    (c.found_if.ensures 601) c.first_of-found.ensures
    c.mask.ensures c.in_ok-add.ensures
