use Rattle.std.proofs.Common.{sym, ap, ◌∙◌}
use Rattle.sv_flat.specs.Readings.{is_constant_node, are_constant}
use Rattle.sv_flat.specs.Views.{node_tree}
use Rattle.sv_flat.proofs.Parts.{trees}
use Rattle.sv_flat.proofs.Rows.{row_parts-hidden}
use Rattle.sv_flat.proofs.constants.+is_constant.Goals as goal

pub is_constant-returns-in-Join : goal.is_constant-returns-in-Join
is_constant-returns-in-Join t c =
    c.are_constant.ensures
    ∙ ap (λ es. are_constant (trees es)) c.deref-in-Join.ensures.value
    ∙ ap are_constant (sym (row_parts-hidden c.in-Join.parts))
    ∙ ap is_constant_node (sym (ap node_tree c.in-Join.is))

pub is_constant-returns-in-Repeat : goal.is_constant-returns-in-Repeat
is_constant-returns-in-Repeat t c =
    c.are_constant-in-Repeat.ensures
    ∙ ap (λ es. are_constant (trees es)) c.deref-in-Repeat.ensures.value
    ∙ ap are_constant (sym (row_parts-hidden c.in-Repeat.parts))
    ∙ ap is_constant_node (sym (ap node_tree c.in-Repeat.is))
