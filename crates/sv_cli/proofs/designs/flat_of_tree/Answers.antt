use Rattle.std.proofs.Common.{sym, ◌∙◌}
use Rattle.sv_ast.specs.Views.{text_tree}
use Rattle.std.specs.Option.{option_copied}
use Rattle.sv_cli.proofs.TreeAnswers.{flat_found, flat_refused}
use Rattle.sv_cli.proofs.designs.flat_of_tree.Goals as goal

pub returns-clause-found : goal.returns-clause-found
returns-clause-found c =
    flat_found (option_copied c.args.top) (text_tree c.args.text.now) c.elaborate.result
    (sym c.has_unbuilt_item.ensures ∙ c.if-has_unbuilt_item.false) c.elaborate.ensures.found

pub returns-clause-broken : goal.returns-clause-broken
returns-clause-broken c =
    flat_refused (option_copied c.args.top) (text_tree c.args.text.now) c.elaborate.result
    (sym c.has_unbuilt_item.ensures ∙ c.if-has_unbuilt_item.false) c.elaborate.ensures.broken

pub returns-clause-sound : goal.returns-clause-sound
returns-clause-sound c = c.elaborate.ensures.sound
