use Rattle.std.proofs.Common.{nat_le, ap, ◌∙◌, refl}
use Rattle.sv_rules.proofs.NameFacts.{row_of_parts}
use Rattle.sv_paths.specs.Levels.{levels_under, levels_of_parts}
use Rattle.sv_paths.proofs.levels.+is_within.Goals as goal

pub is_node_within-returns-in-Join : goal.is_node_within-returns-in-Join
is_node_within-returns-in-Join t c =
    c.are_within.ensures
    ∙ ap (λ n. nat_le n c.args.most)
    (row_of_parts levels_of_parts levels_under c.in-Join.parts c.deref-in-Join.ensures.value
    c.in-Join.is refl)

pub is_node_within-returns-in-Repeat : goal.is_node_within-returns-in-Repeat
is_node_within-returns-in-Repeat t c =
    c.are_within-in-Repeat.ensures
    ∙ ap (λ n. nat_le n c.args.most)
    (row_of_parts levels_of_parts levels_under c.in-Repeat.parts c.deref-in-Repeat.ensures.value
    c.in-Repeat.is refl)
