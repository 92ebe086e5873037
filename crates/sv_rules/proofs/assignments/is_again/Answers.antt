use Rattle.std.proofs.Common.{subst}
use Rattle.std.specs.Prelude.{IsTrue, ◌↔◌}
use Rattle.sv_flat.specs.Views.{piece_form}
use Rattle.sv_graph.specs.BitSets.{SharesBit}
use Rattle.sv_rules.proofs.HeldPieces.{again_is}
use Rattle.sv_rules.proofs.assignments.is_again.Goals as goal

pub returns : goal.returns
returns c = λ passed holds.
    again_is c.args.before.now (piece_form c.args.piece.now) passed c.mask.result c.mask.ensures
    c.requires.ordered holds c.share.result
    (subst (λ m. IsTrue c.share.result ↔ SharesBit m c.mask.result) c.of.ensures c.share.ensures)
