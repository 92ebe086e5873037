use Rattle.std.proofs.Common.{arith}
use Rattle.sv_flat.specs.Views.{design_of}
use Rattle.design_tests.proofs.QueryFacts.{asked_item}
use Rattle.design_tests.proofs.verdicts.second_fails.Goals as goal

pub fails_at_zeros-requires : goal.fails_at_zeros-requires
fails_at_zeros-requires c =
    asked_item (design_of c.args.design.now) c.as_slice.result.now _ 0 c.first-item.result
    c.as_slice.ensures.value c.in_ok-queries.ensures.queries c.first-item.is
    (omega (arith, c.in-len2.len_at_least))

pub fails_at_zeros-requires-then-not-branch : goal.fails_at_zeros-requires-then-not-branch
fails_at_zeros-requires-then-not-branch c =
    asked_item (design_of c.args.design.now) c.as_slice.result.now _ 1 c.second-item.result
    c.as_slice.ensures.value c.in_ok-queries.ensures.queries c.second-item.is
    (omega (arith, c.in-len2.len_at_least))
