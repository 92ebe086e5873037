use Rattle.std.proofs.Common.{rules, tests}
use Rattle.std.specs.BTreeMap.{keys}
use Rattle.std.specs.BTreeSet.{contains}
use Rattle.std.specs.Ordering.{nat_cmp}
use Rattle.std.proofs.lemmas.Iterator.Consumers.{YieldsList-from_rest}
use Rattle.std.proofs.lemmas.Iterator.Search.{any_from_yields_List}
use Rattle.sv_paths.proofs.path_names.PathNames.has_wanted_in.Goals as goal

pub returns : goal.returns
returns c =
    any_from_yields_List (contains nat_cmp c.args.signals.now) _ _ c.any.result c.any.ensures.ran
    (YieldsList-from_rest (keys c.args.self.now.wanted) cc) (λ x b q k. search (rules, tests))
