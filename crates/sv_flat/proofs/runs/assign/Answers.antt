use Rattle.std.proofs.Common.{true, [], map, fold, ap, ◌∙◌}
use Rattle.sv_flat.specs.ByNumber.{signal_forms, by_number}
use Rattle.sv_flat.specs.Runs.{put_piece}
use Rattle.sv_flat.specs.Views.{piece_form, typed_tree}
use Rattle.sv_flat.proofs.runs.assign.Goals as goal

pub put_pieces-requires-clause-inside : goal.put_pieces-requires-clause-inside
put_pieces-requires-clause-inside c = (typed_tree c.args.expr.now, c.requires.inside)

pub returns-clause-run : goal.returns-clause-run
returns-clause-run c =
    let forms = signal_forms c.args.signals.now in
    c.put_pieces.ensures.run
    ∙ ap (λ v. (fold (put_piece forms true v) (by_number c.args.values.now, [])
    (map piece_form c.args.pieces.now)).0) c.value_of-right.ensures.value
