use Rattle.std.proofs.Common.{min, ap, ◌∙◌, refl}
use Rattle.sv_flat.specs.ByNumber.{signal_forms}
use Rattle.sv_rules.proofs.NameFacts.{row_of_parts}
use Rattle.sv_encoding.specs.Sizes.{node_size, parts_size}
use Rattle.sv_blast.proofs.sizes_of_expressions.+expression_sizes.Goals as goal

pub node_size-returns-in-Join : goal.node_size-returns-in-Join
node_size-returns-in-Join t c =
    let forms = signal_forms c.args.signals.now in
    c.parts_size.ensures
    ∙ ap (λ n. min n 4194305)
    (row_of_parts (parts_size forms) (node_size forms) c.in-Join.parts c.deref-in-Join.ensures.value
    c.in-Join.is refl)

pub node_size-returns-in-Repeat : goal.node_size-returns-in-Repeat
node_size-returns-in-Repeat t c =
    let forms = signal_forms c.args.signals.now in
    c.parts_size-in-Repeat.ensures
    ∙ ap (λ n. min n 4194305)
    (row_of_parts (parts_size forms) (node_size forms) c.in-Repeat.parts
    c.deref-in-Repeat.ensures.value c.in-Repeat.is refl)
