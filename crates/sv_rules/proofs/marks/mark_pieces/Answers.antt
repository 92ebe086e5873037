use Rattle.std.proofs.Common.{◌<◌, ◌+◌, ◌==◌, length, drop, get_or, refl, sym, ap, subst}
use Rattle.std.proofs.lemmas.List.{at_drop_all}
use Rattle.sv_rules.specs.Pieces.{piece_forms}
use Rattle.sv_rules.specs.DriverTables.{assigned_in}
use Rattle.sv_graph.proofs.MarkFacts.{marks_more, marks_end}
use Rattle.sv_flat.proofs.NumberedRuns.{no_piece}
use Rattle.sv_rules.proofs.Sound.{piece_at, targets_first, targets_rest}
use Rattle.sv_rules.proofs.marks.mark_pieces.Goals as goal

pub loop-piece-init : goal.loop-piece-init
loop-piece-init c = (c.requires, λ s below. refl)

pub mark-requires : goal.mark-requires
mark-requires c =
    let n = length c.args.table.now in
    subst (λ m. (get_or c.args.pieces.now c.loop-piece.piece-index no_piece).signal.0 < m)
    (sym c.loop-piece.auto.table)
    (targets_first n c.args.pieces.now c.loop-piece.piece-index no_piece c.loop-piece-test.true
    c.loop-piece.invariant.0)

pub loop-piece-preserved : goal.loop-piece-preserved
loop-piece-preserved c =
    let pieces = c.args.pieces.now in
    let i = c.loop-piece.piece-index in (
      targets_rest (length c.args.table.now) pieces i no_piece c.loop-piece-test.true
          c.loop-piece.invariant.0,
      marks_more c.args.table.now c.loop-piece.table c.mark.new.table
          (assigned_in (piece_forms pieces))
          (assigned_in (piece_forms (drop i pieces))) (λ s.
          (get_or pieces i no_piece).signal.0 == s)
          (assigned_in (piece_forms (drop (i + 1) pieces))) c.loop-piece.auto.table
          (λ s. ap (λ ps. assigned_in ps s) (piece_at pieces i no_piece c.loop-piece-test.true))
          c.mark.ensures c.loop-piece.invariant.1,
    )

pub returns : goal.returns
returns c =
    marks_end c.args.table.now c.loop-piece.table (assigned_in (piece_forms c.args.pieces.now))
    (assigned_in (piece_forms (drop c.loop-piece.piece-index c.args.pieces.now)))
    (λ s. at_drop_all (λ ps.
    assigned_in (piece_forms ps) s) c.args.pieces.now c.loop-piece.piece-index
    c.loop-piece-test.false)
    c.loop-piece.invariant.1
