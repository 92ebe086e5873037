use Rattle.std.proofs.Common.{◌*◌, ◌&&◌, nat_le, sym, ap, ◌∙◌}
use Rattle.sv_flat.specs.ByNumber.{signal_forms}
use Rattle.sv_flat.specs.Design.{TypedTrees}
use Rattle.sv_flat.specs.Soundness.{is_one_to, node_well_formed, parts_well_formed}
use Rattle.sv_flat.specs.Values.{parts_width}
use Rattle.sv_flat.specs.Views.{node_tree}
use Rattle.sv_flat.proofs.Parts.{trees}
use Rattle.sv_flat.proofs.Rows.{row_parts-hidden}
use Rattle.sv_flat.proofs.typing.+expression_typing.Goals as goal

pub node_well_formed-returns-in-Join : goal.node_well_formed-returns-in-Join
node_well_formed-returns-in-Join t c =
    let signals = signal_forms c.args.signals.now in
    let test = λ (es : TypedTrees).
    nat_le (parts_width es) c.args.width && parts_well_formed signals es in
    c.join_well_formed.ensures
    ∙ ap (λ es. test (trees es)) c.deref-in-Join.ensures.value
    ∙ ap test (sym (row_parts-hidden c.in-Join.parts))
    ∙ ap (λ node. node_well_formed signals c.args.width c.args.signed (node_tree node))
    (sym c.in-Join.is)

pub node_well_formed-returns-in-Repeat : goal.node_well_formed-returns-in-Repeat
node_well_formed-returns-in-Repeat t c =
    let signals = signal_forms c.args.signals.now in
    let test = λ (es : TypedTrees).
    is_one_to 64 c.in-Repeat.count && nat_le (c.in-Repeat.count * parts_width es) c.args.width
    && parts_well_formed signals es in
    c.copies_well_formed.ensures
    ∙ ap (λ es. test (trees es)) c.deref-in-Repeat.ensures.value
    ∙ ap test (sym (row_parts-hidden c.in-Repeat.parts))
    ∙ ap (λ node. node_well_formed signals c.args.width c.args.signed (node_tree node))
    (sym c.in-Repeat.is)
