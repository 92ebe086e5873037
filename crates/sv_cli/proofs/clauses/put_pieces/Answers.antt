use Rattle.std.proofs.Common.{ap, ◌∙◌}
use Rattle.std.specs.List.{flat_map}
use Rattle.std.proofs.lemmas.Grind.{flat_map-append}
use Rattle.sv_encoding.specs.CnfText.{clause_line}
use Rattle.sv_cli.proofs.Lines.{on_error, front_after, front_of}
use Rattle.sv_cli.proofs.clauses.put_pieces.Goals as goal

pub returns-in_err-put_piece-clause-refused : goal.returns-in_err-put_piece-clause-refused
returns-in_err-put_piece-clause-refused g c =
    let text = flat_map clause_line c.pieces.left.now in
    let piece = c.split_at.result.0.now in
    let rest = c.split_at.result.1.now in
    let new = g.K.Sink.accepted c.put_piece.new.out in
    on_error c.from_residual.result
    (front_after (g.K.Sink.accepted c.args.out.now) (flat_map clause_line c.args.clauses.now) text
    (g.K.Sink.accepted c.pieces.out) new c.pieces.invariant.put
    (front_of (g.K.Sink.accepted c.pieces.out) text (flat_map clause_line piece)
    (flat_map clause_line rest) new
    (ap (flat_map clause_line) c.split_at.ensures.by_index.0
    ∙ flat_map-append clause_line piece rest) c.in_err-put_piece.ensures.refused))
