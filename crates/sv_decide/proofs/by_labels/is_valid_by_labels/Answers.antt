use Rattle.std.proofs.Common.{◌∙◌, sym}
use Rattle.sv_flat.specs.Views.{design_of}
use Rattle.sv_obl.specs.Views.{obligation_of}
use Rattle.sv_decide.proofs.LabelRefutations.{labels_refute}
use Rattle.sv_decide.proofs.by_labels.is_valid_by_labels.Goals as goal

pub returns-clause-proved : goal.returns-clause-proved
returns-clause-proved c = λ valid.
    let refuted = labels_refute (design_of c.args.design.now) (obligation_of c.args.query.now)
    c.know_design.ensures.checked c.requires.query
    (sym c.labels_decide.ensures ∙ c.if-not-labels_decide.false) in
    (c.in_ok-check_size.ensures.fits, refuted.0, refuted.1, refuted.2)
