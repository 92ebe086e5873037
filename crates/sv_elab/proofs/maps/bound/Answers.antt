use Rattle.std.proofs.Common.{sym, ap, ◌∙◌}
use Rattle.sv_ast.specs.Values.{whole_number}
use Rattle.sv_ast.specs.Views.{expression_tree}
use Rattle.sv_elab_rules.specs.LabelMaps.{no_names}
use Rattle.sv_width.specs.Answers.{whole_part}
use Rattle.sv_elab.proofs.MapLemmas.{plain_number}
use Rattle.sv_elab.proofs.maps.bound.Goals as goal

pub returns : goal.returns
returns c =
    c.natural.ensures ∙ ap whole_part (sym (plain_number c.in-Number.number c.in-Number.field-1))
    ∙ ap (λ e. whole_part (whole_number no_names (expression_tree e))) (sym c.in-Number.is)
