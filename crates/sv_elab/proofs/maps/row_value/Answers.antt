use Rattle.std.proofs.Common.{ap}
use Rattle.std.specs.Prelude.{option_map}
use Rattle.sv_ast.specs.Views.{row_tree, key_tree}
use Rattle.sv_elab.proofs.MapLemmas.{pair_value}
use Rattle.sv_elab.proofs.maps.row_value.Goals as goal

pub returns-in_ok-second-in-Some-Some : goal.returns-in_ok-second-in-Some-Some
returns-in_ok-second-in-Some-Some c =
    pair_value c.args.ranges.first c.args.ranges.second (row_tree c.args.row.now)
    c.in-Some-Some.width
    (key_tree (c.in-Some-Some.second, c.in-Some-Some.field-0-1-1)) c.in_ok-first.first
    c.in_ok-second-in-Some-Some.second
    c.in-Some-Some.is-0 (ap (option_map key_tree) c.in-Some-Some.is-1) c.requires
    c.in_ok-first.ensures.0 c.in_ok-first.ensures.1 c.in_ok-second-in-Some-Some.ensures.0
    c.in_ok-second-in-Some-Some.ensures.1
