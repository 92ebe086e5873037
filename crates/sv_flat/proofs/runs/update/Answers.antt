use Rattle.std.proofs.Common.{true, false, [], map, fold, ap, ◌∙◌}
use Rattle.sv_flat.specs.ByNumber.{signal_forms, by_number, updated}
use Rattle.sv_flat.specs.Runs.{put_piece}
use Rattle.sv_flat.specs.Views.{piece_form, typed_tree}
use Rattle.sv_flat.proofs.NumberedRuns.{pieces_updated}
use Rattle.sv_flat.proofs.runs.update.Goals as goal

pub put_pieces-requires-clause-inside : goal.put_pieces-requires-clause-inside
put_pieces-requires-clause-inside c = (typed_tree c.args.expr.now, c.requires.inside)

pub returns-clause-run : goal.returns-clause-run
returns-clause-run c = λ updates before.
    let forms = signal_forms c.args.signals.now in
    let e = by_number c.args.values.now in
    let pieces = map piece_form c.args.pieces.now in
    let right = c.value_of-right.result in
    c.put_pieces.ensures.run
    ∙ ap (λ z. (fold (put_piece forms true right) (z, []) pieces).0) before
    ∙ pieces_updated forms right e updates pieces
    ∙ ap (λ v. updated e (fold (put_piece forms false v) (e, updates) pieces).1)
    c.value_of-right.ensures.value
