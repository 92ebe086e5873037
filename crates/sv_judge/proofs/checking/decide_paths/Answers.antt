use Rattle.std.proofs.Common.{arith}
use Rattle.sv_flat.specs.Views.{design_of}
use Rattle.sv_judge.proofs.WalkFacts.{path_next}
use Rattle.sv_judge.proofs.checking.decide_paths.Goals as goal

pub query-requires-clause-paths : goal.query-requires-clause-paths
query-requires-clause-paths c = c.requires.next.paths

pub query-requires-clause-there : goal.query-requires-clause-there
query-requires-clause-there c =
    let counted = c.len-place-end.ensures (design_of c.args.design.now) c.requires.next.paths in
    omega (arith, c.loop-place-test.true)

pub decide_next-requires-clause-next : goal.decide_next-requires-clause-next
decide_next-requires-clause-next c =
    path_next (design_of c.args.design.now) c.args.progress.now.count c.loop-place.place
    c.loop-place.progress.count c.args.paths.now c.in_ok-query.query c.requires.next
    c.in_ok-query.ensures.listed c.in_ok-query.ensures.query c.in_ok-query.ensures.placed
    c.loop-place.invariant.counted

pub returns-clause-count : goal.returns-clause-count
returns-clause-count c =
    let counted = c.loop-place.invariant.counted in
    let many = c.len-place-end.ensures (design_of c.args.design.now) c.requires.next.paths in
    omega (arith, c.loop-place-test.false)
