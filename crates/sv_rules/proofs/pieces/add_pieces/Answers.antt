use Rattle.std.proofs.Common.{◌+◌, ◌||◌, drop, get_or, ap, sym, ◌∙◌}
use Rattle.std.specs.List.{list_any}
use Rattle.sv_flat.specs.Assigned.{has_bit}
use Rattle.sv_flat.specs.Views.{piece_form}
use Rattle.sv_graph.specs.BitSets.{in_bits}
use Rattle.sv_rules.specs.Pieces.{piece_forms}
use Rattle.sv_rules.proofs.PieceFacts.{ordered_first, ordered_rest, piece_added}
use Rattle.sv_flat.proofs.NumberedRuns.{no_piece}
use Rattle.sv_rules.proofs.Sound.{piece_at}
use Rattle.sv_rules.proofs.pieces.add_pieces.Goals as goal

pub mask-requires-clause-ordered : goal.mask-requires-clause-ordered
mask-requires-clause-ordered c =
    (ordered_first c.args.pieces.now c.loop-piece.piece-index no_piece c.loop-piece-test.true
    c.loop-piece.invariant.0).0

pub mask-requires-clause-few : goal.mask-requires-clause-few
mask-requires-clause-few c =
    (ordered_first c.args.pieces.now c.loop-piece.piece-index no_piece c.loop-piece-test.true
    c.loop-piece.invariant.0).1

pub loop-piece-preserved : goal.loop-piece-preserved
loop-piece-preserved c =
    let pieces = c.args.pieces.now in
    let i = c.loop-piece.piece-index in
    let here = piece_form (get_or pieces i no_piece) in (
      ordered_rest pieces i no_piece c.loop-piece-test.true c.loop-piece.invariant.0,
      λ s b. piece_added here (piece_forms (drop (i + 1) pieces)) s b _
          (in_bits c.loop-piece.set s b) (in_bits c.add.new.self s b)
          (in_bits c.args.set.now s b || list_any (has_bit s b) (piece_forms pieces))
          (c.in_ok-add.ensures s b) (c.mask.ensures b)
          (ap (λ ps. in_bits c.loop-piece.set s b || list_any (has_bit s b) ps)
          (sym (piece_at pieces i no_piece c.loop-piece-test.true))
          ∙ c.loop-piece.invariant.1 s b),
    )
