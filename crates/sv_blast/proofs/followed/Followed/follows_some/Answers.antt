use Rattle.std.proofs.Common.{rules, tests}
use Rattle.std.proofs.lemmas.Iterator.Consumers.{YieldsList-from_rest}
use Rattle.std.proofs.lemmas.Iterator.Search.{any_from_yields_List}
use Rattle.sv_graph.specs.Marks.{is_marked}
use Rattle.sv_blast.proofs.followed.Followed.follows_some.Goals as goal

pub returns : goal.returns
returns c =
    any_from_yields_List (is_marked c.args.self.now.follows.now) _ _ c.any.result
    c.any.ensures.ran (YieldsList-from_rest c.args.targets.now.keys cc)
    (λ x b q k. search (rules, tests))
