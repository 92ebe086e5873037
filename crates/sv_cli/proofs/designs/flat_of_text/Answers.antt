use Rattle.std.specs.Option.{option_copied}
use Rattle.sv_cli.proofs.TreeAnswers.{shaped_text, few_pairs_of, few_maps_of, found_tells}
use Rattle.sv_cli.proofs.TreeAnswers.{broken_tells}
use Rattle.sv_cli.proofs.designs.flat_of_text.Goals as goal

pub flat_of_tree-requires-clause-shaped : goal.flat_of_tree-requires-clause-shaped
flat_of_tree-requires-clause-shaped c =
    shaped_text c.args.bytes.now c.in-Ok.text c.in-Ok.ensures.text

pub flat_of_tree-requires-clause-pairs : goal.flat_of_tree-requires-clause-pairs
flat_of_tree-requires-clause-pairs c =
    few_pairs_of c.args.bytes.now c.in-Ok.text c.requires c.in-Ok.ensures.text

pub flat_of_tree-requires-clause-maps : goal.flat_of_tree-requires-clause-maps
flat_of_tree-requires-clause-maps c =
    few_maps_of c.args.bytes.now c.in-Ok.text c.requires c.in-Ok.ensures.text

pub returns-in-Ok-clause-found : goal.returns-in-Ok-clause-found
returns-in-Ok-clause-found c =
    found_tells (option_copied c.args.top) c.args.bytes.now c.in-Ok.text c.in-Ok.ensures.text
    c.flat_of_tree.result c.flat_of_tree.ensures.found

pub returns-in-Ok-clause-broken : goal.returns-in-Ok-clause-broken
returns-in-Ok-clause-broken c =
    broken_tells (option_copied c.args.top) c.args.bytes.now c.in-Ok.text c.in-Ok.ensures.text
    c.flat_of_tree.result c.flat_of_tree.ensures.broken
