use Rattle.std.proofs.Common.{◌+◌, ◌==◌, length, drop, get_or, refl, ap, subst, ◌∙◌}
use Rattle.std.proofs.lemmas.List.{at_drop_all}
use Rattle.sv_rules.specs.Pieces.{piece_forms}
use Rattle.sv_rules.specs.DriverTables.{assigned_in, Notes}
use Rattle.sv_rules.proofs.NoteFacts.{notes_begin, notes_more, notes_end}
use Rattle.sv_flat.proofs.NumberedRuns.{no_piece}
use Rattle.sv_rules.proofs.Sound.{piece_at, target_below, targets_rest}
use Rattle.sv_rules.proofs.drivers.note_pieces.Goals as goal

pub loop-piece-init : goal.loop-piece-init
loop-piece-init c = (
  refl,
  c.requires.second,
  c.requires.first,
  notes_begin (length c.args.drivers.now.first.items) c.args.driver c.args.drivers.now
      (assigned_in (piece_forms c.args.pieces.now)),
)

pub note-requires-clause-first : goal.note-requires-clause-first
note-requires-clause-first c =
    target_below c.args.pieces.now c.loop-piece.piece-index no_piece c.loop-piece.invariant.0
    c.loop-piece-test.true c.loop-piece.invariant.2

pub note-requires-clause-second : goal.note-requires-clause-second
note-requires-clause-second c =
    target_below c.args.pieces.now c.loop-piece.piece-index no_piece c.loop-piece.invariant.1
    c.loop-piece-test.true c.loop-piece.invariant.2

pub loop-piece-preserved : goal.loop-piece-preserved
loop-piece-preserved c =
    let n = length c.args.drivers.now.first.items in
    let pieces = c.args.pieces.now in
    let i = c.loop-piece.piece-index in (
      c.note.ensures.first ∙ c.loop-piece.invariant.0,
      c.note.ensures.second ∙ c.loop-piece.invariant.1,
      targets_rest n pieces i no_piece c.loop-piece-test.true c.loop-piece.invariant.2,
      notes_more n c.args.driver c.args.drivers.now c.loop-piece.drivers c.note.new.drivers
          (assigned_in (piece_forms pieces))
          (assigned_in (piece_forms (drop i pieces))) (λ s.
          (get_or pieces i no_piece).signal.0
          == s) (assigned_in (piece_forms (drop (i + 1) pieces))) c.loop-piece.invariant.3
          (λ s. ap (λ ps. assigned_in ps s) (piece_at pieces i no_piece c.loop-piece-test.true))
          (subst (λ m. Notes m c.args.driver c.loop-piece.drivers c.note.new.drivers (λ s.
          (get_or pieces i no_piece).signal.0
          == s)) c.loop-piece.invariant.0 c.note.ensures.notes),
    )

pub returns-clause-notes : goal.returns-clause-notes
returns-clause-notes c =
    notes_end (length c.args.drivers.now.first.items) c.args.driver c.args.drivers.now
    c.loop-piece.drivers
    (assigned_in (piece_forms c.args.pieces.now))
    (assigned_in (piece_forms (drop c.loop-piece.piece-index c.args.pieces.now)))
    c.loop-piece.invariant.3
    (λ s. at_drop_all (λ ps.
    assigned_in (piece_forms ps) s) c.args.pieces.now c.loop-piece.piece-index
    c.loop-piece-test.false)
