use Rattle.std.proofs.Common.{[], ap, rules, tests, ◌∙◌}
use Rattle.std.specs.List.{list_any}
use Rattle.std.proofs.lemmas.Iterator.{YieldsList-from_slice}
use Rattle.std.proofs.lemmas.Iterator.Search.{any_from_yields_List}
use Rattle.sv_flat.specs.Views.{typed_tree}
use Rattle.sv_paths.specs.PutIn.{is_put_at}
use Rattle.sv_obl.specs.Routes.{names_in}
use Rattle.sv_paths.proofs.ConditionFacts.{wanted_tell}
use Rattle.sv_paths.proofs.conditions.Condition.names_put.Goals as goal

pub returns : goal.returns
returns c =
    let self = c.args.self.now in
    let test = is_put_at self.count c.args.put in
    any_from_yields_List test _ _ c.any.result c.any.ensures.ran
    (YieldsList-from_slice self.wanted.items cc) (λ x b q k. search (rules, tests))
    ∙ ap (list_any test) self.named
    ∙ wanted_tell self.count c.args.put (names_in [] (typed_tree self.step.cond))
