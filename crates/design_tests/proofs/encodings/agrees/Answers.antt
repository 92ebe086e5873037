use Rattle.sv_flat.specs.Views.{design_of}
use Rattle.design_tests.proofs.QueryFacts.{asked_item}
use Rattle.design_tests.proofs.encodings.agrees.Goals as goal

pub holds-requires : goal.holds-requires
holds-requires c =
    asked_item (design_of c.args.design.now) c.as_slice.result.now _ 0 c.first-item.result
    c.as_slice.ensures.value c.in_ok-queries.ensures.queries c.first-item.is
    c.in-len1-up.len_at_least
