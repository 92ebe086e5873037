use Rattle.std.proofs.Common.{min, ap, ◌∙◌, refl}
use Rattle.sv_rules.proofs.NameFacts.{row_of_parts}
use Rattle.sv_obl.specs.Nodes.{nodes_under, nodes_in_parts}
use Rattle.sv_paths.proofs.nodes.+nodes_in.Goals as goal

pub nodes_under-returns-in-Join : goal.nodes_under-returns-in-Join
nodes_under-returns-in-Join t c =
    c.nodes_in_parts.ensures
    ∙ ap (λ n. min n 65537)
    (row_of_parts nodes_in_parts nodes_under c.in-Join.parts c.deref-in-Join.ensures.value
    c.in-Join.is refl)

pub nodes_under-returns-in-Repeat : goal.nodes_under-returns-in-Repeat
nodes_under-returns-in-Repeat t c =
    c.nodes_in_parts-in-Repeat.ensures
    ∙ ap (λ n. min n 65537)
    (row_of_parts nodes_in_parts nodes_under c.in-Repeat.parts c.deref-in-Repeat.ensures.value
    c.in-Repeat.is refl)
