use Rattle.std.proofs.Common.{Option, is_some, rules, tests}
use Rattle.std.proofs.lemmas.Iterator.{YieldsList-from_slice}
use Rattle.std.proofs.lemmas.Iterator.Search.{any_from_yields_List}
use Rattle.sv_obl.specs.declared.marked.Marked.{Marked}
use Rattle.sv_obl.proofs.body_slices.has_marked.Goals as goal

pub returns : goal.returns
returns c =
    any_from_yields_List (λ (x : Option Marked). is_some x) _ _ c.any.result c.any.ensures.ran
    (YieldsList-from_slice c.args.marked.now cc) (λ x b q k. search (rules, tests))
