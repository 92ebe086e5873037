use Rattle.sv_elab.proofs.LatticeEnds.{walked, found_end, circle_end, join_end, meet_end}
use Rattle.sv_elab.proofs.LatticeEnds.{never_unknown}
use Rattle.sv_elab.proofs.lattices.ordered.Goals as goal

pub returns-in-Ok-clause-found : goal.returns-in-Ok-clause-found
returns-in-Ok-clause-found c =
    found_end c.args.place c.args.names.keys c.args.pairs.now c.requires.known c.len.result
    c.in-Ok.lattice
    c.len.ensures.len c.in-Ok.ensures.lattice.1 c.in-Ok.ensures.flows

pub returns-in-Err-Circle-clause-broken : goal.returns-in-Err-Circle-clause-broken
returns-in-Err-Circle-clause-broken c =
    let w = walked c.args.place c.args.names.keys c.args.pairs.now c.requires.known in
    c.two_points.ensures w.end
    (circle_end c.args.place c.args.names.keys c.args.pairs.now c.requires.known c.len.result
    c.in-Err-Circle.a c.in-Err-Circle.b c.len.ensures.len
    (rw c.in-Err-Circle.field-0-is at c.in-Err-Circle.ensures.fault))

pub returns-in-Err-NoJoin-clause-broken : goal.returns-in-Err-NoJoin-clause-broken
returns-in-Err-NoJoin-clause-broken c =
    let w = walked c.args.place c.args.names.keys c.args.pairs.now c.requires.known in
    c.two_points-in-Err-NoJoin.ensures w.end
    (join_end c.args.place c.args.names.keys c.args.pairs.now c.requires.known c.len.result
    c.in-Err-NoJoin.a c.in-Err-NoJoin.b c.len.ensures.len
    (rw c.in-Err-NoJoin.field-0-is at c.in-Err-NoJoin.ensures.fault))

pub returns-in-Err-NoMeet-clause-broken : goal.returns-in-Err-NoMeet-clause-broken
returns-in-Err-NoMeet-clause-broken c =
    let w = walked c.args.place c.args.names.keys c.args.pairs.now c.requires.known in
    c.two_points-in-Err-NoMeet.ensures w.end
    (meet_end c.args.place c.args.names.keys c.args.pairs.now c.requires.known c.len.result
    c.in-Err-NoMeet.a c.in-Err-NoMeet.b c.len.ensures.len
    (rw c.in-Err-NoMeet.field-0-is at c.in-Err-NoMeet.ensures.fault))

pub unreachable-requires-in-Err-Unknown : goal.unreachable-requires-in-Err-Unknown
unreachable-requires-in-Err-Unknown c =
    never_unknown c.args.place c.args.names.keys c.args.pairs.now c.requires.known c.len.result
    c.in-Err-Unknown.field-0-0 c.len.ensures.len
    (rw c.in-Err-Unknown.field-0-is at c.in-Err-Unknown.ensures.fault)
